-- Options, pairs and triples: what is read is spelled so, and what is spelled is read again, where both hold of the parts.
use Rattle.std.proofs.Common.{◌≡◌, ℕ, zero, suc, ◌≤◌, List, [], ◌∷◌, ◌++◌, length, Option, Some, None, Ok, refl, sym, ap, subst, Bool, true, false, cond, eqb, ◌⊎◌, inl, inr, ◌∙◌, append_assoc, arith}
use Rattle.std.specs.Prelude.{IfSome}
use Rattle.std.proofs.lemmas.Bool.{eqb-true}
use Rattle.sr_base.specs.Fields.{option_spelling, pair_spelling, triple_spelling}
use Rattle.sr_base.specs.Inner.Fields.{option_at, pair_at, triple_at}
use Rattle.sr_base.specs.Inner.NumberLaws.{within_ok, within_err, within_cond, within_then, IsBytes-rest, bind_ok, ok_is, Takes-then}
use Rattle.sr_base.specs.Reading.{Read, ◌>>=◌, mapped_at, tag_at, just_at, untagged_at}
use Rattle.sr_base.specs.Inner.Reading.{IsBytes, Takes, IsWithin, IsFormat}

module _ {A : Type 0} {item : List ℕ → Read A} {spelling : A → List ℕ} {fits : A → Type 0} (format : IsFormat item spelling fits) where
  option_takes : (bytes : List ℕ) (x : Option A) (rest : List ℕ) → IsBytes bytes → option_at item bytes ≡ Ok (x, rest) → Takes bytes (option_spelling spelling x) rest × IfSome x fits
  unfolding option_at
  option_takes [] x rest h e = absurd cc
  option_takes (zero ∷ bytes) x rest h e =
      subst (λ (r : Option A × List ℕ). Takes (0 ∷ bytes) (option_spelling spelling r.0) r.1 × IfSome r.0 fits) (ok_is (None, bytes) (x, rest) e) (record { parts = refl; rest_fits = IsBytes-rest 0 bytes h }, tt)
  option_takes (suc zero ∷ bytes) x rest h e =
      let b = bind_ok (item bytes) (λ value. Ok (Some value.0, value.1)) (x, rest) e in
      let t = format.takes bytes b.0.0 b.0.1 (IsBytes-rest 1 bytes h) b.1 in
      subst (λ (r : Option A × List ℕ). Takes (1 ∷ bytes) (option_spelling spelling r.0) r.1 × IfSome r.0 fits) (ok_is (Some b.0.0, b.0.1) (x, rest) b.2) (record { parts = ap (λ (w : List ℕ). 1 ∷ w) t.0.parts; rest_fits = t.0.rest_fits }, t.1)
  option_takes (suc (suc flag) ∷ bytes) x rest h e = absurd cc

  option_again : (x : Option A) (rest : List ℕ) → IfSome x fits → option_at item (option_spelling spelling x ++ rest) ≡ Ok (x, rest)
  unfolding option_at
  option_again None rest h = refl
  option_again (Some x) rest h = rw (format.again x rest h) refl

  option_within : (bytes : List ℕ) → IsBytes bytes → IsWithin (option_at item bytes) (length bytes)
  unfolding option_at
  option_within [] h = within_err 0 0 (omega arith)
  option_within (zero ∷ bytes) h = within_ok (None, bytes) (suc (length bytes))
  option_within (suc zero ∷ bytes) h =
      within_then format bytes (λ value. Ok (Some value.0, value.1)) (suc (length bytes)) (IsBytes-rest 1 bytes h) (omega arith) (λ value h1 le1. within_ok (Some value.0, value.1) (suc (length bytes)))
  option_within (suc (suc flag) ∷ bytes) h = within_err (suc (length bytes)) (suc (length bytes)) (omega arith)

  pub option_format : IsFormat (option_at item) (option_spelling spelling) (λ o. IfSome o fits)
  option_format = record { takes = option_takes; again = option_again; within = option_within }

module _ {A B : Type 0} {first : List ℕ → Read A} {spelling : A → List ℕ} {fits : A → Type 0} (format : IsFormat first spelling fits) {second : List ℕ → Read B} {spelling2 : B → List ℕ} {fits2 : B → Type 0} (format2 : IsFormat second spelling2 fits2) where
  pair_takes : (bytes : List ℕ) (x : A × B) (rest : List ℕ) → IsBytes bytes → pair_at first second bytes ≡ Ok (x, rest) → Takes bytes (pair_spelling spelling spelling2 x) rest × (fits x.0 × fits2 x.1)
  unfolding pair_at
  pair_takes bytes x rest h e =
      let a = bind_ok (first bytes) (λ one. second one.1 >>= λ two. Ok ((one.0, two.0), two.1)) (x, rest) e in
      let b = bind_ok (second a.0.1) (λ two. Ok ((a.0.0, two.0), two.1)) (x, rest) a.2 in
      let one = format.takes bytes a.0.0 a.0.1 h a.1 in
      let two = format2.takes a.0.1 b.0.0 b.0.1 one.0.rest_fits b.1 in
      subst (λ (r : (A × B) × List ℕ). Takes bytes (pair_spelling spelling spelling2 r.0) r.1 × (fits r.0.0 × fits2 r.0.1)) (ok_is ((a.0.0, b.0.0), b.0.1) (x, rest) b.2)
      (Takes-then bytes (spelling a.0.0) a.0.1 (spelling2 b.0.0) b.0.1 one.0 two.0, (one.1, two.1))

  pair_again : (x : A × B) (rest : List ℕ) → fits x.0 × fits2 x.1 → pair_at first second (pair_spelling spelling spelling2 x ++ rest) ≡ Ok (x, rest)
  unfolding pair_at
  pair_again x rest h =
      ap (pair_at first second) (append_assoc (spelling x.0) (spelling2 x.1) rest) ∙ rw (format.again x.0 (spelling2 x.1 ++ rest) h.0, format2.again x.1 rest h.1) refl

  pair_within : (bytes : List ℕ) → IsBytes bytes → IsWithin (pair_at first second bytes) (length bytes)
  unfolding pair_at
  pair_within bytes h =
      within_then format bytes (λ one. second one.1 >>= λ two. Ok ((one.0, two.0), two.1)) (length bytes) h (omega arith)
      (λ one h1 le1. within_then format2 one.1 (λ two. Ok ((one.0, two.0), two.1)) (length bytes) h1 le1 (λ two h2 le2. within_ok ((one.0, two.0), two.1) (length bytes)))

  pub pair_format : IsFormat (pair_at first second) (pair_spelling spelling spelling2) (λ p. fits p.0 × fits2 p.1)
  pair_format = record { takes = pair_takes; again = pair_again; within = pair_within }

  module _ {C : Type 0} {third : List ℕ → Read C} {spelling3 : C → List ℕ} {fits3 : C → Type 0} (format3 : IsFormat third spelling3 fits3) where
    triple_takes : (bytes : List ℕ) (x : A × B × C) (rest : List ℕ) → IsBytes bytes → triple_at first second third bytes ≡ Ok (x, rest) → Takes bytes (triple_spelling spelling spelling2 spelling3 x) rest × (fits x.0 × fits2 x.1 × fits3 x.2)
    unfolding triple_at
    triple_takes bytes x rest h e =
        let a = bind_ok (first bytes) (λ one. second one.1 >>= λ two. third two.1 >>= λ three. Ok ((one.0, two.0, three.0), three.1)) (x, rest) e in
        let b = bind_ok (second a.0.1) (λ two. third two.1 >>= λ three. Ok ((a.0.0, two.0, three.0), three.1)) (x, rest) a.2 in
        let c = bind_ok (third b.0.1) (λ three. Ok ((a.0.0, b.0.0, three.0), three.1)) (x, rest) b.2 in
        let one = format.takes bytes a.0.0 a.0.1 h a.1 in
        let two = format2.takes a.0.1 b.0.0 b.0.1 one.0.rest_fits b.1 in
        let three = format3.takes b.0.1 c.0.0 c.0.1 two.0.rest_fits c.1 in
        let prefix = Takes-then bytes (spelling a.0.0) a.0.1 (spelling2 b.0.0) b.0.1 one.0 two.0 in
        subst (λ (r : (A × B × C) × List ℕ). Takes bytes (triple_spelling spelling spelling2 spelling3 r.0) r.1 × (fits r.0.0 × fits2 r.0.1 × fits3 r.0.2)) (ok_is ((a.0.0, b.0.0, c.0.0), c.0.1) (x, rest) c.2)
        (Takes-then bytes (spelling a.0.0 ++ spelling2 b.0.0) b.0.1 (spelling3 c.0.0) c.0.1 prefix three.0, (one.1, two.1, three.1))

    triple_again : (x : A × B × C) (rest : List ℕ) → fits x.0 × fits2 x.1 × fits3 x.2 → triple_at first second third (triple_spelling spelling spelling2 spelling3 x ++ rest) ≡ Ok (x, rest)
    unfolding triple_at
    triple_again x rest h =
        let regrouped : triple_spelling spelling spelling2 spelling3 x ++ rest ≡ spelling x.0 ++ (spelling2 x.1 ++ (spelling3 x.2 ++ rest)) = append_assoc (spelling x.0 ++ spelling2 x.1) (spelling3 x.2) rest ∙ append_assoc (spelling x.0) (spelling2 x.1) (spelling3 x.2 ++ rest) in
        ap (triple_at first second third) regrouped ∙ rw (format.again x.0 (spelling2 x.1 ++ (spelling3 x.2 ++ rest)) h.0, format2.again x.1 (spelling3 x.2 ++ rest) h.1, format3.again x.2 rest h.2) refl

    triple_within : (bytes : List ℕ) → IsBytes bytes → IsWithin (triple_at first second third bytes) (length bytes)
    unfolding triple_at
    triple_within bytes h =
        within_then format bytes (λ one. second one.1 >>= λ two. third two.1 >>= λ three. Ok ((one.0, two.0, three.0), three.1)) (length bytes) h (omega arith)
        (λ one h1 le1. within_then format2 one.1 (λ two. third two.1 >>= λ three. Ok ((one.0, two.0, three.0), three.1)) (length bytes) h1 le1
        (λ two h2 le2. within_then format3 two.1 (λ three. Ok ((one.0, two.0, three.0), three.1)) (length bytes) h2 le2 (λ three h3 le3. within_ok ((one.0, two.0, three.0), three.1) (length bytes))))

    pub triple_format : IsFormat (triple_at first second third) (triple_spelling spelling spelling2 spelling3) (λ p. fits p.0 × fits2 p.1 × fits3 p.2)
    triple_format = record { takes = triple_takes; again = triple_again; within = triple_within }

mapped_within : {A B : Type 0} {reading : List ℕ → Read A} {spelling : A → List ℕ} {fits : A → Type 0} (to : A → B) → IsFormat reading spelling fits → (bytes : List ℕ) (bound : ℕ) → IsBytes bytes → length bytes ≤ bound → IsWithin (mapped_at to reading bytes) bound
mapped_within to format bytes bound h le = within_then format bytes (λ x. Ok (to x.0, x.1)) bound h le (λ x h1 le1. within_ok (to x.0, x.1) bound)

-- a value that is seen as another one: what is read is `to` of what is read, and its spelling is that of `from` of it
pub mapped_format : {A B : Type 0} {reading : List ℕ → Read A} {spelling : A → List ℕ} {fits : A → Type 0} (to : A → B) (from : B → A) → ((x : A) → from (to x) ≡ x) → ((y : B) → to (from y) ≡ y) → IsFormat reading spelling fits → IsFormat (mapped_at to reading) (λ y. spelling (from y)) (λ y. fits (from y))
mapped_format {A} {B} {reading} {spelling} {fits} to from back forth format = record {
  takes = λ bytes y rest h e.
      let b = bind_ok (reading bytes) (λ x. Ok (to x.0, x.1)) (y, rest) e in
      let t = format.takes bytes b.0.0 b.0.1 h b.1 in
      subst (λ (r : B × List ℕ). Takes bytes (spelling (from r.0)) r.1 × fits (from r.0)) (ok_is (to b.0.0, b.0.1) (y, rest) b.2)
      (subst (λ (x : A). Takes bytes (spelling x) b.0.1 × fits x) (sym (back b.0.0)) t);
  again = λ y rest h. rw (format.again (from y) rest h, forth y) refl;
  within = λ bytes h. mapped_within to format bytes (length bytes) h (omega arith);
}

-- what is read behind this tag is spelled so, the tag in front
pub record IsTagged {A : Type 0} (tag : ℕ) (item : List ℕ → Read A) (spelling : A → List ℕ) (fits : A → Type 0) : Type 0 where
  pub takes : (bytes : List ℕ) (value : A) (rest : List ℕ) → IsBytes bytes → item bytes ≡ Ok (value, rest) → Takes (tag ∷ bytes) (spelling value) rest × fits value
  pub within : (bytes : List ℕ) → IsBytes bytes → IsWithin (item bytes) (suc (length bytes))

-- what is read from a table of tags is spelled so
pub record IsTable {A : Type 0} (item : List ℕ → Read A) (spelling : A → List ℕ) (fits : A → Type 0) : Type 0 where
  pub takes : (bytes : List ℕ) (value : A) (rest : List ℕ) → IsBytes bytes → item bytes ≡ Ok (value, rest) → Takes bytes (spelling value) rest × fits value
  pub within : (bytes : List ℕ) → IsBytes bytes → IsWithin (item bytes) (length bytes)

chosen : {A : Type 0} (b : Bool) (x y z : A) → cond b x y ≡ z → ((b ≡ true) × (x ≡ z)) ⊎ ((b ≡ false) × (y ≡ z))
chosen true x y z e = inl (refl, e)
chosen false x y z e = inr (refl, e)

module _ {A : Type 0} {tag : ℕ} {item other : List ℕ → Read A} {spelling : A → List ℕ} {fits : A → Type 0} (first : IsTagged tag item spelling fits) (others : IsTable other spelling fits) where
  tag_takes : (bytes : List ℕ) (value : A) (rest : List ℕ) → IsBytes bytes → tag_at tag item other bytes ≡ Ok (value, rest) → Takes bytes (spelling value) rest × fits value
  tag_takes [] value rest h e = absurd cc
  tag_takes (byte ∷ bytes) value rest h e =
      elim (chosen (eqb byte tag) (item bytes) (other (byte ∷ bytes)) (Ok (value, rest)) e) [
        | inl here ↦ subst (λ (t : ℕ). Takes (t ∷ bytes) (spelling value) rest × fits value) (sym (eqb-true _ _ here.0)) (first.takes bytes value rest (IsBytes-rest byte bytes h) here.1)
        | inr there ↦ others.takes (byte ∷ bytes) value rest h there.1
      ]

  tag_within : (bytes : List ℕ) → IsBytes bytes → IsWithin (tag_at tag item other bytes) (length bytes)
  tag_within [] h = within_err 0 0 (omega arith)
  tag_within (byte ∷ bytes) h = within_cond (eqb byte tag) (item bytes) (other (byte ∷ bytes)) (suc (length bytes)) (first.within bytes (IsBytes-rest byte bytes h)) (others.within (byte ∷ bytes) h)

  -- one more tag in front of a table
  pub tag_table : IsTable (tag_at tag item other) spelling fits
  tag_table = record { takes = tag_takes; within = tag_within }

pub no_table : {A : Type 0} {spelling : A → List ℕ} {fits : A → Type 0} → IsTable untagged_at spelling fits
no_table = record { takes = λ bytes value rest h e. absurd cc; within = λ bytes h. within_err (length bytes) (length bytes) (omega arith) }

-- a variant that holds a value, behind its tag
pub variant : {A B : Type 0} {reading : List ℕ → Read A} {part : A → List ℕ} {holds : A → Type 0} {tag : ℕ} {spelling : B → List ℕ} {fits : B → Type 0} → IsFormat reading part holds → (to : A → B) → ((x : A) → spelling (to x) ≡ tag ∷ part x) → ((x : A) → holds x → fits (to x)) → IsTagged tag (mapped_at to reading) spelling fits
variant {A} {B} {reading} {part} {holds} {tag} {spelling} {fits} format to spelled kept = record {
  takes = λ bytes value rest h e.
      let b = bind_ok (reading bytes) (λ x. Ok (to x.0, x.1)) (value, rest) e in
      let t = format.takes bytes b.0.0 b.0.1 h b.1 in
      let parts : tag ∷ bytes ≡ spelling (to b.0.0) ++ b.0.1 = ap (λ (w : List ℕ). tag ∷ w) t.0.parts ∙ ap (λ (w : List ℕ). w ++ b.0.1) (sym (spelled b.0.0)) in
      subst (λ (r : B × List ℕ). Takes (tag ∷ bytes) (spelling r.0) r.1 × fits r.0) (ok_is (to b.0.0, b.0.1) (value, rest) b.2)
      (record { parts = parts; rest_fits = t.0.rest_fits }, kept b.0.0 t.1);
  within = λ bytes h. mapped_within to format bytes (suc (length bytes)) h (omega arith);
}

-- a variant that holds nothing
pub bare_variant : {B : Type 0} {tag : ℕ} {value : B} {spelling : B → List ℕ} {fits : B → Type 0} → spelling value ≡ tag ∷ [] → fits value → IsTagged tag (just_at value) spelling fits
bare_variant {B} {tag} {value} {spelling} {fits} spelled kept = record {
  takes = λ bytes found rest h e.
      subst (λ (r : B × List ℕ). Takes (tag ∷ bytes) (spelling r.0) r.1 × fits r.0) (ok_is (value, bytes) (found, rest) e)
      (record { parts = ap (λ (w : List ℕ). w ++ bytes) (sym spelled); rest_fits = h }, kept);
  within = λ bytes h. within_ok (value, bytes) (suc (length bytes));
}

-- the same bytes, said otherwise
pub respelled_format : {A : Type 0} {reading : List ℕ → Read A} {spelling spelling2 : A → List ℕ} {fits fits2 : A → Type 0} → ((x : A) → spelling x ≡ spelling2 x) → ((x : A) → fits x → fits2 x) → ((x : A) → fits2 x → fits x) → IsFormat reading spelling fits → IsFormat reading spelling2 fits2
respelled_format {A} {reading} {spelling} {spelling2} {fits} {fits2} same to from format = record {
  takes = λ bytes x rest h e. let t = format.takes bytes x rest h e in (subst (λ (text : List ℕ). Takes bytes text rest) (same x) t.0, to x t.1);
  again = λ x rest h. ap (λ (text : List ℕ). reading (text ++ rest)) (sym (same x)) ∙ format.again x rest (from x h);
  within = format.within;
}
