-- Readers of what orders rows.
use Rattle.std.proofs.Common.{◌≡◌, ℕ, Bool, true, false, List, [], ◌∷◌, Option, Result, Ok, Err, IsTrue, IsFalse, refl, sym, ap, ◌∙◌, inl, inr}
use Rattle.sr_ast.specs.declared.query.OrderBy.{OrderBy}
use Rattle.sr_ast.specs.declared.keyword.Keyword.TheVariants as key
use Rattle.sr_parse_reader.specs.declared.reader.Broken.{Broken}
use Rattle.sr_parse_grammar.specs.Symbols.{Symbols, first, word, IsWord}
use Rattle.sr_parse_grammar.specs.Listing.{Listed}
use Rattle.sr_parse_grammar.specs.Writing.{IsDirection, IsOrder, IsOrdering}
use Rattle.sr_parse_grammar.specs.Scripts.{IsBehind}
use Rattle.sr_parse_grammar.specs.Inner.Going.{Stop, is_direction, is_comma, is_order, Ends}
use Rattle.sr_parse_reader.specs.Inner.Reading.{Alike, Reading, mapped, Anywhere, Both}
use Rattle.sr_parse_reader.specs.Inner.Reading.Reading.{read}
use Rattle.sr_parse_reader.specs.Inner.Productions.{Word, Reference}
use Rattle.sr_parse_grammar.proofs.Steps.{Stop-begins}
use Rattle.sr_parse_grammar.proofs.Lists.{Ends-stop}
use Rattle.sr_parse_reader.proofs.Parts.{Seq, cast, recast, first_fails}
use Rattle.sr_parse_reader.proofs.Starts.{standing, lacks}
use Rattle.sr_parse_reader.proofs.Samples.{sample_listed, order_sample}
use Rattle.sr_parse_reader.proofs.Optionals.{Lacks, behind_word}

-- ---- [ASC | DESC]

asc_only : (there : Symbols) (y : Bool) (rest : Symbols) → IsDirection (word key.Asc ∷ there) y rest → Stop is_direction rest → (false ≡ y) × (there ≡ rest)
asc_only there true rest h p = absurd (cc)
asc_only there false rest (inl e) p = absurd (Stop-begins is_direction (sym e) refl p)
asc_only there false rest (inr e) p = (refl, cc)

pub asc_read : {before here : Symbols} → IsWord before key.Asc here → Reading IsDirection (Stop is_direction) before here (Ok false)
asc_read w = read (record { taken = word key.Asc ∷ []; parts = w; spells = λ after. inr refl; only = λ there alike y rest h p. asc_only there y rest h p })

desc_only : (there : Symbols) (y : Bool) (rest : Symbols) → IsDirection (word key.Desc ∷ there) y rest → Stop is_direction rest → (true ≡ y) × (there ≡ rest)
desc_only there true rest h p = (refl, cc)
desc_only there false rest (inl e) p = absurd (Stop-begins is_direction (sym e) refl p)
desc_only there false rest (inr e) p = absurd (cc)

no_direction : {before : Symbols} → Lacks key.Asc before → Lacks key.Desc before → (there : Symbols) → Alike before there → (y : Bool) (rest : Symbols) → IsDirection there y rest → (false ≡ y) × (there ≡ rest)
no_direction asc desc there alike true rest h = absurd (lacks alike desc h)
no_direction asc desc there alike false rest (inl e) = (refl, e)
no_direction asc desc there alike false rest (inr h) = absurd (lacks alike asc h)

-- where ASC is not next, DESC may be
pub desc_read : {before here : Symbols} (t : Bool) → Lacks key.Asc before → (IsTrue t → IsWord before key.Desc here) → (IsFalse t → Lacks key.Desc before) → (IsFalse t → here ≡ before) → Reading IsDirection (Stop is_direction) before here (Ok t)
desc_read true asc found absent kept = read (record { taken = word key.Desc ∷ []; parts = found refl; spells = λ after. refl; only = λ there alike y rest h p. desc_only there y rest h p })
desc_read false asc found absent kept = read (record {
  taken = [];
  parts = sym (kept refl);
  spells = λ after. inl refl;
  only = λ there alike y rest h p. no_direction asc (absent refl) there (ap first (sym (kept refl)) ∙ alike) y rest h;
})

-- ---- a column that orders

abbrev pub OrderParts : Symbols → (Option (List ℕ) × List ℕ) × Bool → Symbols → Type 0
OrderParts = Seq Reference IsDirection

abbrev pub order_of : (Option (List ℕ) × List ℕ) × Bool → OrderBy
order_of p = record { table = p.0.0; column = p.0.1; descending = p.1 }

pub order_to : (b : Symbols) (x : (Option (List ℕ) × List ℕ) × Bool) (a : Symbols) → OrderParts b x a → IsOrder b (order_of x) a
order_to b x a h = record { directed = h.0; column = h.1; direction = h.2 }

pub order_back : (b : Symbols) (y : OrderBy) (a : Symbols) → IsOrder b y a → (x : (Option (List ℕ) × List ℕ) × Bool) × OrderParts b x a × (order_of x ≡ y)
order_back b y a h = (((y.table, y.column), y.descending), (h.directed, h.column, h.direction), refl)

-- ---- [ORDER BY column {, column}]

-- BY column {, column}
abbrev pub OrderColumns : Symbols → List OrderBy → Symbols → Type 0
OrderColumns = IsBehind key.By (Listed IsOrder)

ordering_to : (b : Symbols) (x : List OrderBy) (a : Symbols) → IsBehind key.Order OrderColumns b x a → IsOrdering b x a
ordering_to b x a (m, o, (n, y, h)) = inr (record { next = n; order_by = cc; listed = h })

ordering_back : {before middle : Symbols} → IsWord before key.Order middle → (b : Symbols) (y : List OrderBy) (a : Symbols) → Alike before b → IsOrdering b y a → Ends a → (x : List OrderBy) × IsBehind key.Order OrderColumns b x a × Ends a × (x ≡ y)
ordering_back w b y a alike (inl h) q = absurd (Stop-begins is_order (sym h.1 ∙ standing b (sym alike ∙ ap first w)) refl (Ends-stop is_order a refl q))
ordering_back w b y a alike (inr h) q = (y, (word key.By ∷ h.next, h.order_by, (h.next, refl, h.listed)), q, refl)

-- ORDER was taken
pub ordering_read : {before middle here : Symbols} {r : Result (List OrderBy) Broken} → IsWord before key.Order middle → Reading OrderColumns Ends middle here r → Reading IsOrdering Ends before here (mapped (λ x. x) r)
ordering_read w h = cast (record { to = ordering_to; back = ordering_back w }) (behind_word w h)

-- BY is missing
pub by_missed : {before here : Symbols} {e : Broken} → Reading (Word key.By) Anywhere before here (Err e) → Reading OrderColumns Ends before here (Err e)
by_missed r = recast OrderColumns (λ (p : Unit {0} × List OrderBy). p.1) (λ b x a h. h) (λ b y a h. ((tt, y), h, refl)) (first_fails (Listed IsOrder) Ends (λ b y a h q. tt) (sample_listed IsOrder order_sample) r)

no_order : {before : Symbols} → Lacks key.Order before → (there : Symbols) → Alike before there → (y : List OrderBy) (rest : Symbols) → IsOrdering there y rest → ([] ≡ y) × (there ≡ rest)
no_order absent there alike y rest (inl h) = (sym h.0, h.1)
no_order absent there alike y rest (inr h) = absurd (lacks alike absent h.order_by)

-- ORDER is not next
pub ordering_absent : {before here : Symbols} {order : List OrderBy} → order ≡ [] → here ≡ before → Lacks key.Order before → Reading IsOrdering Ends before here (Ok order)
ordering_absent {order = order} n e absent = read (record {
  taken = [];
  parts = sym e;
  spells = λ after. inl (n, refl);
  only = λ there alike y rest h p. let k = no_order absent there (ap first (sym e) ∙ alike) y rest h in (n ∙ k.0, k.1);
})

-- the list of an ORDER BY ends with the statement
pub order_ends : (after : Symbols) → Ends after → Both (Stop is_direction) (Stop is_comma) after
order_ends after q = (Ends-stop is_direction after refl q, Ends-stop is_comma after refl q)
