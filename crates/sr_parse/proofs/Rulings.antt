-- Readers of a column and its rules.
use Rattle.std.proofs.Common.{◌≡◌, ℕ, Bool, true, false, List, [], ◌∷◌, ◌++◌, if◌then◌else◌, Result, Ok, Err, refl, sym, subst, ap, ◌∙◌, append_assoc, inl, inr, ◌⊎◌}
use Rattle.sr_base.specs.declared.value.Kind.{Kind}
use Rattle.sr_base.specs.declared.value.Kind.TheVariants as kind
use Rattle.sr_ast.specs.declared.create.ColumnRule.{ColumnRule}
use Rattle.sr_ast.specs.declared.keyword.Keyword.{Keyword}
use Rattle.sr_ast.specs.declared.keyword.Keyword.TheVariants as key
use Rattle.sr_parse_grammar.specs.declared.symbol.Symbol.{Symbol}
use Rattle.sr_parse_reader.specs.declared.reader.Broken.{Broken}
use Rattle.sr_parse_reader.specs.declared.reader.Broken.TheVariants.{Memory, Refused}
use Rattle.sr_parse_grammar.specs.Symbols.{Symbols, first, word, IsName, IsWord}
use Rattle.sr_parse_grammar.specs.Catalog.{IsKind}
use Rattle.sr_parse_grammar.specs.Tables.{IsRules}
use Rattle.sr_parse_grammar.specs.Tables.IsRules.{none}
use Rattle.sr_parse_grammar.specs.Inner.Going.{Stop, rule_starts}
use Rattle.sr_parse_grammar.specs.Inner.Made.{column_of as column}
use Rattle.sr_parse_reader.specs.Inner.Reading.{Alike, Reading, Anywhere, mapped}
use Rattle.sr_parse_reader.specs.Inner.Reading.Reading.{read, refused, memory}
use Rattle.sr_parse_reader.specs.Inner.Productions.{Word, Ruled, Rules}
use Rattle.sr_parse_reader.proofs.Conditions.{Lacks}
use Rattle.sr_parse.proofs.Tabling.{IsRules-not_null, IsRules-null, IsRules-primary}
use Rattle.sr_parse.proofs.Ruling.{Ruling, Ruling-start, Ruling-bars, Ruling-lets, Ruling-keys, Ruling-bars-missed, Ruling-keys-missed, Ruling-done}
use Rattle.sr_parse_reader.proofs.Parts.{Seq, Sample, from, two_places, recast, goes_first}
use Rattle.sr_parse_reader.proofs.Starts.{meant_word, lacks}

-- the word that is next was not read: memory ended
pub ended : {A : Type 0} {X : Symbols → A → Symbols → Type 0} {P : Symbols → Type 0} {before here : Symbols} {e : Broken} → e ≡ Memory → Reading X P before here (Err e)
ended {X = X} {P = P} {before = before} {here = here} m = subst (λ b. Reading X P before here (Err b)) (sym m) memory

-- ---- the rules

-- what has been taken spells these rules, and all that go on from it go on from here
pub record Rules-on (start here : Symbols) (n u p : Bool) : Type 0 where
  pub taken : Symbols
  pub parts : start ≡ taken ++ here
  pub spells : (after : Symbols) → IsRules (taken ++ after) n u p after
  pub goes : (there : Symbols) → Alike here there → Ruling (taken ++ there) n u p there

pub rules_begun : {start : Symbols} → Rules-on start start false false false
rules_begun = record { taken = []; parts = refl; spells = λ after. none; goes = λ there alike. Ruling-start }

-- one rule more, where its words were taken
rule_on : {start here after : Symbols} {n u p m v q : Bool} (s : Symbol) (two : Symbols) → Rules-on start here n u p → here ≡ s ∷ (two ++ after) → ((b z : Symbols) → IsRules b n u p (s ∷ (two ++ z)) → IsRules b m v q z)
    → ((b z : Symbols) → Ruling b n u p (s ∷ (two ++ z)) → Ruling b m v q z) → Rules-on start after m v q
rule_on {after = after} {m = m} {v = v} {q = q} s two a e rule onward = record {
  taken = a.taken ++ (s ∷ two);
  parts = two_places a.taken (s ∷ two) after a.parts e;
  spells = λ z. subst (λ (b : Symbols). IsRules b m v q z) (sym (append_assoc a.taken (s ∷ two) z)) (rule (a.taken ++ (s ∷ (two ++ z))) z (a.spells (s ∷ (two ++ z))));
  goes = λ there alike. subst (λ (b : Symbols). Ruling b m v q there) (sym (append_assoc a.taken (s ∷ two) there)) (onward (a.taken ++ (s ∷ (two ++ there))) there (a.goes (s ∷ (two ++ there)) (ap first e)));
}

pub rules_bar : {start here next after : Symbols} {n u p : Bool} → n ≡ false → Rules-on start here n u p → IsWord here key.Not next → IsWord next key.Null after → Rules-on start after true u p
rules_bar e a w x = rule_on (word key.Not) (word key.Null ∷ []) a (w ∙ ap (λ (l : Symbols). word key.Not ∷ l) x) (λ b z h. IsRules-not_null e h refl) (λ b z g. Ruling-bars g refl refl)

pub rules_let : {start here after : Symbols} {n u p : Bool} → u ≡ false → Rules-on start here n u p → IsWord here key.Null after → Rules-on start after n true p
rules_let e a w = rule_on (word key.Null) [] a w (λ b z h. IsRules-null e h refl) (λ b z g. Ruling-lets g refl)

pub rules_key : {start here next after : Symbols} {n u p : Bool} → p ≡ false → Rules-on start here n u p → IsWord here key.Primary next → IsWord next key.Key after → Rules-on start after n u true
rules_key e a w x = rule_on (word key.Primary) (word key.Key ∷ []) a (w ∙ ap (λ (l : Symbols). word key.Primary ∷ l) x) (λ b z h. IsRules-primary e h refl) (λ b z g. Ruling-keys g refl refl)

-- behind the first word of a rule the second one was not read
rule_missed : (may : Bool) {start here next after : Symbols} {n u p m v q : Bool} {e : Broken} (s : Symbol) (k : Keyword) → Rules-on start here n u p → here ≡ s ∷ next → (q ≡ true → may ≡ true)
    → ((b y z : Symbols) → IsRules b n u p (s ∷ y) → IsWord y k z → IsRules b m v q z)
    → ((b y : Symbols) → Ruling b n u p (s ∷ y) → Lacks k y → (x : Bool × Bool × Bool) (rest : Symbols) → Rules may b x rest → Stop rule_starts rest → ⊥)
    → Reading (Word k) Anywhere next after (Err e) → Reading (Rules may) (Stop rule_starts) start after (Err e)
rule_missed may s k a w single rule never memory = memory
rule_missed may {after = after} {m = m} {v = v} {q = q} s k a w single rule never (refused r) = refused (record {
  taken = a.taken ++ (s ∷ r.taken);
  parts = two_places a.taken (s ∷ r.taken) after a.parts (w ∙ ap (λ (l : Symbols). s ∷ l) r.parts);
  goes = record {
    more = r.goes.more;
    meant = r.goes.meant;
    value = (m, v, q);
    spells = λ z.
        let y = (r.taken ++ r.goes.more) ++ z in (
          subst (λ (b : Symbols). IsRules b m v q z) (sym (append_assoc a.taken (s ∷ (r.taken ++ r.goes.more)) z) ∙ ap (λ (l : Symbols). l ++ z) (sym (append_assoc a.taken (s ∷ r.taken) r.goes.more)))
              (rule (a.taken ++ (s ∷ y)) y z (a.spells (s ∷ y)) (r.goes.spells z)),
          single,
        );
  };
  none = λ there alike x rest h q.
      let y = r.taken ++ there in
      never (a.taken ++ (s ∷ y)) y (a.goes (s ∷ y) (ap first w)) (λ z i. r.none there alike tt z i tt) x rest (from (Rules may) (append_assoc a.taken (s ∷ r.taken) there) h) q;
})

no_bar : (b y : Symbols) {n u p : Bool} → Ruling b n u p (word key.Not ∷ y) → Lacks key.Null y → (x : Bool × Bool × Bool) (rest : Symbols) (may : Bool) → Rules may b x rest → Stop rule_starts rest → ⊥
no_bar b y g absent x rest may h s = let never : Refused ≡ Memory = Ruling-bars-missed g refl (λ z i. absurd (absent z i)) x.0 x.1 x.2 rest h.0 s in absurd (cc)

no_key : (b y : Symbols) {n u p : Bool} → Ruling b n u p (word key.Primary ∷ y) → Lacks key.Key y → (x : Bool × Bool × Bool) (rest : Symbols) (may : Bool) → Rules may b x rest → Stop rule_starts rest → ⊥
no_key b y g absent x rest may h s = let never : Refused ≡ Memory = Ruling-keys-missed g refl (λ z i. absurd (absent z i)) x.0 x.1 x.2 rest h.0 s in absurd (cc)

pub bar_missed : {may : Bool} {start here next after : Symbols} {n u p : Bool} {e : Broken} → n ≡ false → (p ≡ true → may ≡ true) → Rules-on start here n u p → IsWord here key.Not next → Reading (Word key.Null) Anywhere next after (Err e)
    → Reading (Rules may) (Stop rule_starts) start after (Err e)
bar_missed {may = may} f single a w r = rule_missed may (word key.Not) key.Null a w single (λ b y z h i. IsRules-not_null f h (ap (λ (l : Symbols). word key.Not ∷ l) i)) (λ b y g absent x rest h s. no_bar b y g absent x rest may h s) r

pub key_missed : {may : Bool} {start here next after : Symbols} {n u p : Bool} {e : Broken} → p ≡ false → may ≡ true → Rules-on start here n u p → IsWord here key.Primary next → Reading (Word key.Key) Anywhere next after (Err e)
    → Reading (Rules may) (Stop rule_starts) start after (Err e)
key_missed {may = may} f m a w r = rule_missed may (word key.Primary) key.Key a w (λ e. m) (λ b y z h i. IsRules-primary f h (ap (λ (l : Symbols). word key.Primary ∷ l) i)) (λ b y g absent x rest h s. no_key b y g absent x rest may h s) r

-- a rule that is there already, or whose word is not next
still : {Q : Type 0} (k : Keyword) {here there : Symbols} → Alike here there → Q ⊎ Lacks k here → Q ⊎ Lacks k there
still k alike (inl q) = inl q
still k alike (inr absent) = inr (λ rest w. lacks alike absent w)

still_key : {Q R : Type 0} {here there : Symbols} → Alike here there → Q ⊎ (R ⊎ Lacks key.Primary here) → Q ⊎ (R ⊎ Lacks key.Primary there)
still_key alike (inl q) = inl q
still_key alike (inr f) = inr (still key.Primary alike f)

all_three : (n u p : Bool) (x : Bool × Bool × Bool) → n ≡ x.0 → u ≡ x.1 → p ≡ x.2 → (n, u, p) ≡ x
all_three n u p (m, v, q) e f g = cc

-- no rule is next: all were read
pub rules_done : {may : Bool} {start here : Symbols} {n u p : Bool} → Rules-on start here n u p → (p ≡ true → may ≡ true) → (n ≡ true) ⊎ Lacks key.Not here → (u ≡ true) ⊎ Lacks key.Null here → (may ≡ false) ⊎ ((p ≡ true) ⊎ Lacks key.Primary here)
    → Reading (Rules may) (Stop rule_starts) start here (Ok (n, u, p))
rules_done {n = n} {u = u} {p = p} a single bar let_ key_ = read (record {
  taken = a.taken;
  parts = a.parts;
  spells = λ after. (a.spells after, single);
  only = λ there alike x rest h q.
      let d = Ruling-done (a.goes there alike) (still key.Not alike bar) (still key.Null alike let_) (still_key alike key_) x.0 x.1 x.2 rest h.0 h.1 q in
      (all_three n u p x d.0 d.1 d.2, d.3);
})

-- ---- a column

pub rules_sample : (may : Bool) → Sample (Rules may)
rules_sample may = record { more = []; meant = tt; value = (false, false, false); spells = λ after. (none, λ e. absurd (cc)) }

pub kind_sample : Sample IsKind
kind_sample = record { more = word key.Int ∷ []; meant = (meant_word key.Int, tt); value = kind.Int; spells = λ after. inr refl }

abbrev pub ColumnParts : Bool → Symbols → List ℕ × (Kind × (Bool × Bool × Bool)) → Symbols → Type 0
ColumnParts may = Seq IsName (Seq IsKind (Rules may))

pub typed_sample : (may : Bool) → Sample (Seq IsKind (Rules may))
typed_sample may = goes_first IsKind (Rules may) [] kind_sample (rules_sample may)

-- the column, and the key with it
abbrev pub column_of : List (List ℕ) → List ℕ × (Kind × (Bool × Bool × Bool)) → ColumnRule × List (List ℕ)
column_of held p = (column p.0 p.1.0 p.1.1.0, if p.1.1.2 then p.0 ∷ [] else held)

pub column_to : (may : Bool) (held : List (List ℕ)) → (may ≡ true → held ≡ []) → (b : Symbols) (x : List ℕ × (Kind × (Bool × Bool × Bool))) (a : Symbols) → ColumnParts may b x a → Ruled held b (column_of held x) a
column_to may held free b x a h = record {
  typed = h.0;
  ruled = h.2.0;
  null = x.1.1.1;
  primary = x.1.1.2;
  name = h.1;
  kind = h.2.1;
  rules = h.2.2.0;
  is_key = refl;
  single = λ e. free (h.2.2.1 e);
}

column_back : (may : Bool) (held : List (List ℕ)) → (held ≡ [] → may ≡ true) → (b : Symbols) (y : ColumnRule × List (List ℕ)) (a : Symbols) → Ruled held b y a
    → (x : List ℕ × (Kind × (Bool × Bool × Bool))) × ColumnParts may b x a × (column_of held x ≡ y)
column_back may held free b (c, k) a h =
    ((c.name, (c.kind, (c.not_null, h.null, h.primary))), (h.typed, h.name, (h.ruled, h.kind, (h.rules, λ e. free (h.single e)))), ap (λ (l : List (List ℕ)). (c, l)) (sym h.is_key))

-- a column is read as its parts are
pub column_read : {may : Bool} {held : List (List ℕ)} {before here : Symbols} {r : Result (List ℕ × (Kind × (Bool × Bool × Bool))) Broken} → (may ≡ true → held ≡ []) → (held ≡ [] → may ≡ true)
    → Reading (ColumnParts may) (Stop rule_starts) before here r → Reading (Ruled held) (Stop rule_starts) before here (mapped (column_of held) r)
column_read {may = may} {held = held} free back h = recast (Ruled held) (column_of held) (column_to may held free) (column_back may held back) h

-- whether there is no key yet
abbrev pub free : List (List ℕ) → Bool
free [] = true
free (n ∷ held) = false

pub is_free : (held : List (List ℕ)) → free held ≡ true → held ≡ []
is_free [] e = refl
is_free (n ∷ held) e = absurd (cc)

free_is : (held : List (List ℕ)) → held ≡ [] → free held ≡ true
free_is held e = ap free e

-- a column of which the name or the kind is refused
pub column_missed : {held : List (List ℕ)} {before here : Symbols} {e : Broken} → Reading (ColumnParts (free held)) (Stop rule_starts) before here (Err e) → Reading (Ruled held) (Stop rule_starts) before here (Err e)
column_missed {held = held} h = column_read (is_free held) (free_is held) h

-- the key with a column that is the key, and with another one
pub key_named : {n : List ℕ} (held : List (List ℕ)) {key : List (List ℕ)} (p : Bool) → p ≡ true → key ≡ n ∷ [] → key ≡ if p then n ∷ [] else held
key_named held true e k = k
key_named held false e k = absurd (cc)

pub key_stays : (n : List ℕ) {held : List (List ℕ)} (p : Bool) → p ≡ false → held ≡ if p then n ∷ [] else held
key_stays n true e = absurd (cc)
key_stays n false e = refl

-- an answer with another key that is equal
pub with_key : {c : ColumnRule} {key other : List (List ℕ)} {held : List (List ℕ)} {before here : Symbols} → other ≡ key → Reading (Ruled held) (Stop rule_starts) before here (Ok (c, key)) → Reading (Ruled held) (Stop rule_starts) before here (Ok (c, other))
with_key {c = c} {held = held} {before = before} {here = here} e r = subst (λ (k : List (List ℕ)). Reading (Ruled held) (Stop rule_starts) before here (Ok (c, k))) (sym e) r
