-- Readers of names in parentheses, and of names with a dot between them.
use Rattle.std.proofs.Common.{◌≡◌, ℕ, List, [], ◌∷◌, Option, Some, None, Result, Ok, Err, refl, sym, subst, ap, ◌∙◌, inl, inr}
use Rattle.sr_parse_grammar.specs.declared.symbol.Sign.TheVariants as mark
use Rattle.sr_parse_reader.specs.declared.reader.Broken.{Broken}
use Rattle.sr_parse_grammar.specs.Symbols.{Symbols, first, IsName, IsSign}
use Rattle.sr_parse_grammar.specs.Listing.{Listed, IsNames}
use Rattle.sr_parse_grammar.specs.Listing.Listed.{one}
use Rattle.sr_parse_grammar.specs.Inner.Going.{Stop, is_comma, is_open, is_dot}
use Rattle.sr_parse_reader.specs.Inner.Productions.{Mark, Reference}
use Rattle.sr_parse_reader.specs.Inner.Reading.{Alike, Reading, Anywhere, mapped}
use Rattle.sr_parse_reader.specs.Inner.Reading.Reading.{read, refused, memory}
use Rattle.sr_parse_grammar.proofs.Steps.{Stop-at, Stop-begins}
use Rattle.sr_parse_reader.proofs.Parts.{Seq, Sample, Leads, then, first_fails, goes_first, recast, cast, paired, Perhaps, perhaps_sample, perhaps_none, perhaps_some}
use Rattle.sr_parse_reader.proofs.Starts.{name_sample, sign_sample, sign_read, standing, lacks}

-- ---- names with commas

pub names_sample : Sample (Listed IsName)
names_sample = record { more = name_sample.more; meant = name_sample.meant; value = name_sample.value ∷ []; spells = λ after. one (name_sample.spells after) }

-- before a `)` names may end
pub names_close : Leads (Stop is_comma) (Mark mark.Close) Anywhere
names_close b y a h q = Stop-at is_comma h refl

-- ---- in parentheses

abbrev pub NameParts : Symbols → Unit {0} × (List (List ℕ) × Unit {0}) → Symbols → Type 0
NameParts = Seq (Mark mark.Open) (Seq (Listed IsName) (Mark mark.Close))

-- names behind a `(`
pub names_closed_sample : Sample (Seq (Listed IsName) (Mark mark.Close))
names_closed_sample = goes_first (Listed IsName) (Mark mark.Close) [] names_sample (sign_sample mark.Close)

abbrev name_list_of : Unit {0} × (List (List ℕ) × Unit {0}) → List (List ℕ)
name_list_of p = p.1.0

name_parts_to : (b : Symbols) (x : Unit {0} × (List (List ℕ) × Unit {0})) (a : Symbols) → NameParts b x a → IsNames b (name_list_of x) a
name_parts_to b x a h = inr (record { inside = h.0; close = h.2.0; opened = h.1; listed = h.2.1; closed = h.2.2 })

name_parts_back : {before next : Symbols} → IsSign before mark.Open next → (b : Symbols) (y : List (List ℕ)) (a : Symbols) → Alike before b → IsNames b y a → Stop is_open a → (x : Unit {0} × (List (List ℕ) × Unit {0})) × NameParts b x a × Anywhere a × (name_list_of x ≡ y)
name_parts_back o b y a alike (inl (n, e)) s = absurd (Stop-begins is_open (standing a (sym (ap first e) ∙ (sym alike ∙ ap first o))) refl s)
name_parts_back o b y a alike (inr l) s = ((tt, (y, tt)), (l.inside, l.opened, (l.close, l.listed, l.closed)), tt, refl)

none_are : (there : Symbols) (x : List (List ℕ)) (rest : Symbols) → ((next : Symbols) → IsSign there mark.Open next → ⊥) → IsNames there x rest → ([] ≡ x) × (there ≡ rest)
none_are there x rest absent (inl (n, e)) = (sym n, e)
none_are there x rest absent (inr l) = absurd (absent l.inside l.opened)

-- behind the `(` they were read, or refused
pub names_opened : {before middle here : Symbols} {r : Result (List (List ℕ) × Unit {0}) Broken} → IsSign before mark.Open middle → Reading (Seq (Listed IsName) (Mark mark.Close)) Anywhere middle here r → Reading IsNames (Stop is_open) before here (mapped (λ p. p.0) r)
names_opened o (read r) = cast (record { to = name_parts_to; back = name_parts_back o }) (then (λ b y a h q. tt) (sign_read o) (read r))
names_opened o (refused r) = cast (record { to = name_parts_to; back = name_parts_back o }) (then (λ b y a h q. tt) (sign_read o) (refused r))
names_opened o memory = memory

-- no `(` is next: there are none
pub no_names : {before here : Symbols} → here ≡ before → ((next : Symbols) → IsSign before mark.Open next → ⊥) → Reading IsNames (Stop is_open) before here (Ok [])
no_names e absent = read (record {
  taken = [];
  parts = sym e;
  spells = λ after. inl (refl, refl);
  only = λ there alike x rest h q. none_are there x rest (λ next o. lacks (ap first (sym e) ∙ alike) absent o) h;
})

-- ---- with a dot between them

-- the name behind a dot
abbrev second : Unit {0} × List ℕ → List ℕ
second p = p.1

abbrev pub Dotted : Symbols → Option (List ℕ) → Symbols → Type 0
Dotted = Perhaps (λ b n a. Seq (Mark mark.Dot) IsName b (tt, n) a)

abbrev pub reference_of : List ℕ × Option (List ℕ) → Option (List ℕ) × List ℕ
reference_of (n, None) = (None, n)
reference_of (t, Some n) = (Some t, n)

reference_to : (b : Symbols) (x : List ℕ × Option (List ℕ)) (a : Symbols) → Seq IsName Dotted b x a → Reference b (reference_of x) a
reference_to b (n, None) a (m, h, e) = subst (λ (p : Symbols). IsName b n p) e h
reference_to b (t, Some n) a (m, h, (next, d, k)) = (m, next, h, d, k)

reference_back : (b : Symbols) (y : Option (List ℕ) × List ℕ) (a : Symbols) → Reference b y a → (x : List ℕ × Option (List ℕ)) × Seq IsName Dotted b x a × (reference_of x ≡ y)
reference_back b (None, n) a h = ((n, None), (a, h, refl), refl)
reference_back b (Some t, n) a (m, next, h, d, k) = ((t, Some n), (m, h, (next, d, k)), refl)

-- a name, and what may follow it
pub referred : {before middle here : Symbols} {n : List ℕ} {r : Result (Option (List ℕ)) Broken} → Reading IsName Anywhere before middle (Ok n) → Reading Dotted (Stop is_dot) middle here r → Reading Reference (Stop is_dot) before here (mapped reference_of (paired n r))
referred f g = recast Reference reference_of reference_to reference_back (then (λ b y a h q. tt) f g)

-- the first name is refused
pub unreferred : {before here : Symbols} {e : Broken} → Reading IsName Anywhere before here (Err e) → Reading Reference (Stop is_dot) before here (Err e)
unreferred r = recast Reference reference_of reference_to reference_back (first_fails Dotted (Stop is_dot) (λ b y a h q. tt) (perhaps_sample _) r)

dot_ends : {before next : Symbols} → IsSign before mark.Dot next → (a : Symbols) → Alike before a → Stop is_dot a → ⊥
dot_ends d a alike s = Stop-begins is_dot (standing a (sym alike ∙ ap first d)) refl s

dot_name : {before middle here : Symbols} {r : Result (List ℕ) Broken} → IsSign before mark.Dot middle → Reading IsName Anywhere middle here r → Reading (λ b n a. Seq (Mark mark.Dot) IsName b (tt, n) a) Anywhere before here (mapped second (paired tt r))
dot_name d r = recast _ second (λ b x a h. h) (λ b y a h. ((tt, y), h, refl)) (then (λ b y a h q. tt) (sign_read d) r)

-- a dot was taken, and a name behind it, or none
pub dotted : {before middle here : Symbols} {r : Result (List ℕ) Broken} → IsSign before mark.Dot middle → Reading IsName Anywhere middle here r → Reading Dotted (Stop is_dot) before here (mapped Some r)
dotted d memory = memory
dotted d (read r) = perhaps_some _ (Stop is_dot) (λ a s. tt) (dot_ends d) (dot_name d (read r))
dotted d (refused r) = perhaps_some _ (Stop is_dot) (λ a s. tt) (dot_ends d) (dot_name d (refused r))

pub undotted : {before here : Symbols} → here ≡ before → ((next : Symbols) → IsSign before mark.Dot next → ⊥) → Reading Dotted (Stop is_dot) before here (Ok None)
undotted e absent = perhaps_none _ (Stop is_dot) e (λ there alike x a h. lacks alike absent h.1)
