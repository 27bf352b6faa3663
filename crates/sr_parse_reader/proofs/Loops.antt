-- Readers of lists: what has been taken spells the items read, and each list that goes on from it begins with them.
use Rattle.std.proofs.Common.{◌≡◌, List, [], ◌∷◌, ◌++◌, Ok, Err, refl, sym, subst, ap, ◌∙◌, append_assoc}
use Rattle.sr_parse_reader.specs.declared.reader.Broken.{Broken}
use Rattle.sr_parse_reader.specs.declared.reader.Broken.TheVariants.{Memory, Refused}
use Rattle.sr_parse_grammar.specs.declared.symbol.Sign.TheVariants as mark
use Rattle.sr_parse_grammar.specs.Symbols.{Symbols, first, sign, IsSign}
use Rattle.sr_parse_grammar.specs.Listing.{Listed, Row}
use Rattle.sr_parse_grammar.specs.Listing.Listed.{one}
use Rattle.sr_parse_grammar.specs.Inner.Going.{Stop, is_comma}
use Rattle.sr_parse_reader.specs.Inner.Reading.{Spells, Alike, Reading, Both}
use Rattle.sr_parse_reader.specs.Inner.Reading.Reading.{read, refused, memory}
use Rattle.sr_parse_reader.proofs.Listings.{Listed-one, Listed-more, Row-none, Row-then}
use Rattle.sr_parse_reader.proofs.Lines.{Commas, Goes, Listed-begun, Listed-on, Listed-done, Listed-missed, Listed-unread, Begun, Runs, Row-begun, Row-on, Row-done, Row-missed}
use Rattle.sr_parse_reader.proofs.Parts.{from, alike_from, two_places}
use Rattle.sr_parse_reader.proofs.Starts.{lacks}

-- ---- with commas

pub record Along {A : Type 0} (X : Symbols → A → Symbols → Type 0) (P : Symbols → Type 0) (start here : Symbols) (items : List A) : Type 0 where
  pub taken : Symbols
  pub parts : start ≡ taken ++ here
  pub spells : Spells (Listed X) taken items
  pub goes : (there : Symbols) → Alike here there → Goes X P (taken ++ there) items there

-- the first item was read
pub along_begun : {A : Type 0} {X : Symbols → A → Symbols → Type 0} {P : Symbols → Type 0} → Commas P → {start here : Symbols} {y : A} {items : List A} → Reading X P start here (Ok y) → items ≡ y ∷ [] → Along X P start here items
along_begun {X = X} {P = P} comma (read r) e = record {
  taken = r.taken;
  parts = r.parts;
  spells = λ after. Listed-one (r.spells after) e;
  goes = λ there alike. Listed-begun X P comma (r.only there alike) e;
}

-- one item more, behind a comma
listed_on : {A : Type 0} (X : Symbols → A → Symbols → Type 0) (begun item after : Symbols) {xs ys : List A} {y : A} → Spells (Listed X) begun xs → X (item ++ after) y after → ys ≡ xs ++ y ∷ [] → Listed X ((begun ++ (sign mark.Comma ∷ item)) ++ after) ys after
listed_on X begun item after spells h e = from (Listed X) (sym (append_assoc begun (sign mark.Comma ∷ item) after)) (Listed-more (spells (sign mark.Comma ∷ (item ++ after))) refl h e)

-- what goes on behind the comma
on_from : {A : Type 0} (X : Symbols → A → Symbols → Type 0) (P : Symbols → Type 0) {start here next : Symbols} (items : List A) (a : Along X P start here items) → IsSign here mark.Comma next → (there : Symbols) → Goes X P (a.taken ++ (sign mark.Comma ∷ there)) items (sign mark.Comma ∷ there)
on_from X P items a c there = a.goes (sign mark.Comma ∷ there) (ap first c)

-- a comma was taken, and one item more was read
pub along_on : {A : Type 0} {X : Symbols → A → Symbols → Type 0} {P : Symbols → Type 0} → Commas P → {start here next after : Symbols} {y : A} {items on : List A} → Along X P start here items → IsSign here mark.Comma next → Reading X P next after (Ok y)
    → on ≡ items ++ y ∷ [] → Along X P start after on
along_on {X = X} {P = P} comma {after = after} {items = items} {on = on} a c (read r) e = record {
  taken = a.taken ++ (sign mark.Comma ∷ r.taken);
  parts = two_places a.taken (sign mark.Comma ∷ r.taken) after a.parts (c ∙ ap (λ (l : Symbols). sign mark.Comma ∷ l) r.parts);
  spells = λ z. listed_on X a.taken r.taken z a.spells (r.spells z) e;
  goes = λ there alike. subst (λ (b : Symbols). Goes X P b on there) (sym (append_assoc a.taken (sign mark.Comma ∷ r.taken) there))
      (Listed-on X P comma items (on_from X P items a c (r.taken ++ there)) refl (r.only there alike) e);
}

-- a comma was taken, and no item was read behind it
pub along_missed : {A : Type 0} {X : Symbols → A → Symbols → Type 0} {P : Symbols → Type 0} → Commas P → {start here next after : Symbols} {items : List A} {e : Broken} → Along X P start here items → IsSign here mark.Comma next → Reading X P next after (Err e)
    → Reading (Listed X) (Both P (Stop is_comma)) start after (Err e)
along_missed comma a c memory = memory
along_missed {X = X} {P = P} comma {after = after} {items = items} a c (refused r) = refused (record {
  taken = a.taken ++ (sign mark.Comma ∷ r.taken);
  parts = two_places a.taken (sign mark.Comma ∷ r.taken) after a.parts (c ∙ ap (λ (l : Symbols). sign mark.Comma ∷ l) r.parts);
  goes = record {
    more = r.goes.more;
    meant = r.goes.meant;
    value = items ++ r.goes.value ∷ [];
    spells = λ z. from (Listed X) (ap (λ (l : Symbols). l ++ z) (sym (append_assoc a.taken (sign mark.Comma ∷ r.taken) r.goes.more)))
        (listed_on X a.taken (r.taken ++ r.goes.more) z a.spells (r.goes.spells z) refl);
  };
  none = λ there alike xs rest h q.
      let never : Refused ≡ Memory = Listed-missed X P comma items (on_from X P items a c (r.taken ++ there)) refl (λ x l k p. absurd (r.none there alike x l k p)) xs rest (from (Listed X) (append_assoc a.taken (sign mark.Comma ∷ r.taken) there) h) q.0 q.1 in
      absurd (cc);
})

-- the first item was not read
pub along_unread : {A : Type 0} {X : Symbols → A → Symbols → Type 0} {P : Symbols → Type 0} → Commas P → {start after : Symbols} {e : Broken} → Reading X P start after (Err e) → Reading (Listed X) (Both P (Stop is_comma)) start after (Err e)
along_unread comma memory = memory
along_unread {X = X} {P = P} comma (refused r) = refused (record {
  taken = r.taken;
  parts = r.parts;
  goes = record { more = r.goes.more; meant = r.goes.meant; value = r.goes.value ∷ []; spells = λ z. one (r.goes.spells z) };
  none = λ there alike xs rest h q.
      let never : Refused ≡ Memory = Listed-unread X P comma (λ x l k p. absurd (r.none there alike x l k p)) xs rest h q.0 q.1 in absurd (cc);
})

-- no comma is next: the list was read
pub along_done : {A : Type 0} {X : Symbols → A → Symbols → Type 0} {P : Symbols → Type 0} {start here there : Symbols} {items : List A} → Along X P start here items → ((next : Symbols) → IsSign here mark.Comma next → ⊥) → there ≡ here
    → Reading (Listed X) (Both P (Stop is_comma)) start there (Ok items)
along_done {X = X} {P = P} {start = start} {here = here} {there = there} a absent e = read (record {
  taken = a.taken;
  parts = a.parts ∙ ap (λ (l : Symbols). a.taken ++ l) (sym e);
  spells = a.spells;
  only = λ z alike xs rest h q.
      let same = ap first (sym e) ∙ alike in Listed-done X P (a.goes z same) (λ next c. lacks same absent c) refl xs rest h q.0 q.1;
})

-- ---- one behind the other

pub record Filed {A : Type 0} (X : Symbols → A → Symbols → Type 0) (Q : Symbols → Type 0) (start here : Symbols) (items : List A) : Type 0 where
  pub taken : Symbols
  pub parts : start ≡ taken ++ here
  pub spells : Spells (Row X) taken items
  pub runs : (there : Symbols) → Alike here there → Runs X Q (taken ++ there) items there

-- nothing was read
pub filed_begun : {A : Type 0} {X : Symbols → A → Symbols → Type 0} {Q : Symbols → Type 0} {start : Symbols} {items : List A} → items ≡ [] → Filed X Q start start items
filed_begun {X = X} {Q = Q} e = record {
  taken = [];
  parts = refl;
  spells = λ after. Row-none e;
  runs = λ there alike. Row-begun X Q e;
}

pub row_on : {A : Type 0} (X : Symbols → A → Symbols → Type 0) (begun item after : Symbols) {xs ys : List A} {y : A} → Spells (Row X) begun xs → X (item ++ after) y after → ys ≡ xs ++ y ∷ [] → Row X ((begun ++ item) ++ after) ys after
row_on X begun item after spells h e = from (Row X) (sym (append_assoc begun item after)) (Row-then (spells (item ++ after)) h e)

-- the list does not end here, nor where it looks alike
abbrev pub Goes-on : (Symbols → Type 0) → Symbols → Type 0
Goes-on Q here = (there : Symbols) → Alike here there → Q there → ⊥

-- one item more was read
pub filed_on : {A : Type 0} {X : Symbols → A → Symbols → Type 0} {P Q : Symbols → Type 0} → Begun X P → ((after : Symbols) → Q after → P after) → {start here after : Symbols} {y : A} {items on : List A} → Filed X Q start here items → Goes-on Q here
    → Reading X P here after (Ok y) → on ≡ items ++ y ∷ [] → Filed X Q start after on
filed_on {X = X} {P = P} {Q = Q} begun ends {here = here} {after = after} {items = items} {on = on} a goes (read r) e = record {
  taken = a.taken ++ r.taken;
  parts = two_places a.taken r.taken after a.parts r.parts;
  spells = λ z. row_on X a.taken r.taken z a.spells (r.spells z) e;
  runs = λ there alike.
      let same = alike_from here r.taken after there r.parts alike in
      subst (λ (b : Symbols). Runs X Q b on there) (sym (append_assoc a.taken r.taken there))
      (Row-on X P Q begun ends items (a.runs (r.taken ++ there) same) (goes (r.taken ++ there) same) (r.only there alike) e);
}

-- no item was read where the list does not end
pub filed_missed : {A : Type 0} {X : Symbols → A → Symbols → Type 0} {P Q : Symbols → Type 0} → Begun X P → ((after : Symbols) → Q after → P after) → {start here after : Symbols} {items : List A} {e : Broken} → Filed X Q start here items → Goes-on Q here
    → Reading X P here after (Err e) → Reading (Row X) Q start after (Err e)
filed_missed begun ends a goes memory = memory
filed_missed {X = X} {P = P} {Q = Q} begun ends {here = here} {after = after} {items = items} a goes (refused r) = refused (record {
  taken = a.taken ++ r.taken;
  parts = two_places a.taken r.taken after a.parts r.parts;
  goes = record {
    more = r.goes.more;
    meant = r.goes.meant;
    value = items ++ r.goes.value ∷ [];
    spells = λ z. from (Row X) (ap (λ (l : Symbols). l ++ z) (sym (append_assoc a.taken r.taken r.goes.more)))
        (row_on X a.taken (r.taken ++ r.goes.more) z a.spells (r.goes.spells z) refl);
  };
  none = λ there alike xs rest h q.
      let same = alike_from here r.taken after there r.parts alike in
      let never : Refused ≡ Memory = Row-missed X P Q begun ends items (a.runs (r.taken ++ there) same) (goes (r.taken ++ there) same) (λ x l k p. absurd (r.none there alike x l k p)) xs rest (from (Row X) (append_assoc a.taken r.taken there) h) q in
      absurd (cc);
})

-- no item begins here: the list was read
pub filed_done : {A : Type 0} {X : Symbols → A → Symbols → Type 0} {Q : Symbols → Type 0} {start here there : Symbols} {items : List A} → Filed X Q start here items → ((z : Symbols) → Alike here z → (x : A) (next : Symbols) → X z x next → ⊥) → there ≡ here
    → Reading (Row X) Q start there (Ok items)
filed_done {X = X} {Q = Q} {here = here} a absent e = read (record {
  taken = a.taken;
  parts = a.parts ∙ ap (λ (l : Symbols). a.taken ++ l) (sym e);
  spells = a.spells;
  only = λ z alike xs rest h q. let same = ap first (sym e) ∙ alike in Row-done X Q (a.runs z same) (absent z same) xs rest h q;
})
