-- A field with a rule: what is read is spelled so and keeps the rule, and what is spelled so and keeps it is read again.
use Rattle.std.proofs.Common.{◌≡◌, ◌↔◌, ℕ, Bool, true, cond, not, List, [], ◌∷◌, ◌++◌, length, map, Option, Some, None, Ok, Err, refl, sym, ap, subst, inl, inr, arith}
use Rattle.std.specs.List.{AllByRecursion}
use Rattle.std.specs.Ordering.{is_eq}
use Rattle.std.specs.Str.{bytes_eq}
use Rattle.std.specs.declared.cmp.Ordering.{Ordering}
use Rattle.std.specs.declared.cmp.Ordering.TheVariants.{Less, Equal, Greater}
use Rattle.std.proofs.lemmas.Bool.{and_from}
use Rattle.sr_base.specs.declared.value.Value.{Value}
use Rattle.sr_base.specs.declared.value.Value.TheVariants.{Null, Int, Big, Str, Date}
use Rattle.sr_base.specs.Fields.{list_spelling}
use Rattle.sr_base.specs.Inner.ListLaws.{list_format}
use Rattle.sr_base.specs.Inner.NumberLaws.{within_ok, within_err, within_cond, within_then, bind_ok, passed_ok}
use Rattle.sr_base.specs.Order.{key_cmp}
use Rattle.sr_base.specs.Reading.{Read}
use Rattle.sr_base.specs.Inner.Reading.{IsBytes, Takes, IsWithin, IsFormat}
use Rattle.sr_base.proofs.Exact.{keys_tie}
use Rattle.sr_base.proofs.Truths.{both_true}
use Rattle.sr_book.proofs.Folds.{same_name, name_test}
use Rattle.sr_logform.specs.Rules.{is_present, IsFilledListOf, AreDistinct, AreColumns}
use Rattle.sr_logform.specs.Inner.Rules.{checked_at, is_filled, filled_at, is_absent, are_distinct, are_columns, columns_at}
use Rattle.sr_logform.specs.Outcomes.{is_same_row}

-- a test tells whether a rule is kept
abbrev pub Tells : {A : Type 0} → (A → Bool) → (A → Type 0) → Type 0
Tells {A} test rule = (x : A) → (test x ≡ true) ↔ rule x

module _ {A : Type 0} {item : List ℕ → Read A} {spelling : A → List ℕ} {fits : A → Type 0} (test : A → Bool)
    {rule : A → Type 0} (tells : Tells test rule) {all : A → Type 0}
    (kept : (x : A) → fits x → rule x → all x) (had : (x : A) → all x → fits x × rule x) (format : IsFormat item spelling fits) where
  checked_takes : (bytes : List ℕ) (x : A) (rest : List ℕ) → IsBytes bytes → checked_at test item bytes ≡ Ok (x, rest) → Takes bytes (spelling x) rest × all x
  unfolding checked_at
  checked_takes bytes x rest h e =
      let b = bind_ok (item bytes) (λ found. cond (test found.0) (Ok found) (Err (length bytes))) (x, rest) e in
      let t = format.takes bytes b.0.0 b.0.1 h b.1 in
      let g = passed_ok (test b.0.0) (length bytes) b.0 (x, rest) b.2 in
      subst (λ (r : A × List ℕ). Takes bytes (spelling r.0) r.1 × all r.0) g.1 (t.0, kept b.0.0 t.1 ((tells b.0.0).0 g.0))

  checked_again : (x : A) (rest : List ℕ) → all x → checked_at test item (spelling x ++ rest) ≡ Ok (x, rest)
  unfolding checked_at
  checked_again x rest h = rw (format.again x rest (had x h).0, (tells x).1 (had x h).1) refl

  checked_within : (bytes : List ℕ) → IsBytes bytes → IsWithin (checked_at test item bytes) (length bytes)
  unfolding checked_at
  checked_within bytes h =
      within_then format bytes (λ found. cond (test found.0) (Ok found) (Err (length bytes))) (length bytes) h (omega arith)
      (λ found h1 le1. within_cond (test found.0) (Ok found) (Err (length bytes)) (length bytes)
      (within_ok found (length bytes)) (within_err (length bytes) (length bytes) (omega arith)))

  pub checked_format : IsFormat (checked_at test item) spelling all
  checked_format = record { takes = checked_takes; again = checked_again; within = checked_within }

-- ---- what the tests tell

pub present_tells : Tells is_present (λ value. ¬ (value ≡ Null))
present_tells Null = (λ e. absurd cc, λ h. absurd (h refl))
present_tells (Int number) = (λ e f. absurd cc, λ h. refl)
present_tells (Big number) = (λ e f. absurd cc, λ h. refl)
present_tells (Str text) = (λ e f. absurd cc, λ h. refl)
present_tells (Date days) = (λ e f. absurd cc, λ h. refl)

pub filled_tells : {A : Type 0} → Tells (is_filled {A = A}) (λ xs. ¬ (xs ≡ []))
filled_tells [] = (λ e. absurd cc, λ h. absurd (h refl))
filled_tells (x ∷ xs) = (λ e f. absurd cc, λ h. refl)

differs : (name other : List ℕ) → not (bytes_eq name other) ≡ true → ¬ (name ≡ other)
differs name other e f =
    let g : not (bytes_eq name name) ≡ true = subst (λ (x : List ℕ). not (bytes_eq name x) ≡ true) (sym f) e in
    absurd (let s = same_name name in cc)

told_apart : (name other : List ℕ) → ¬ (name ≡ other) → not (bytes_eq name other) ≡ true
told_apart name other h = elim (name_test name other) [
  | inl same ↦ absurd (h same.1)
  | inr apart ↦ ap not apart
]

pub absent_tells : (name : List ℕ) → Tells (is_absent name) (AllByRecursion (λ other. ¬ (name ≡ other)))
absent_tells name [] = (λ e. tt, λ h. refl)
absent_tells name (other ∷ names) = (
  λ e. let p = both_true (not (bytes_eq name other)) (is_absent name names) e in (differs name other p.0, (absent_tells name names).0 p.1),
  λ h. and_from (not (bytes_eq name other)) (is_absent name names) (told_apart name other h.0) ((absent_tells name names).1 h.1),
)

pub distinct_tells : Tells are_distinct AreDistinct
distinct_tells [] = (λ e. tt, λ h. refl)
distinct_tells (name ∷ names) = (
  λ e. let p = both_true (is_absent name names) (are_distinct names) e in ((absent_tells name names).0 p.0, (distinct_tells names).0 p.1),
  λ h. and_from (is_absent name names) (are_distinct names) ((absent_tells name names).1 h.0) ((distinct_tells names).1 h.1),
)

pub columns_tell : {A : Type 0} (name : A → List ℕ) → Tells (are_columns name) (λ xs. ¬ (xs ≡ []) × AreDistinct (map name xs))
columns_tell name xs = (
  λ e. let p = both_true (is_filled xs) (are_distinct (map name xs)) e in ((filled_tells xs).0 p.0, (distinct_tells (map name xs)).0 p.1),
  λ h. and_from (is_filled xs) (are_distinct (map name xs)) ((filled_tells xs).1 h.0) ((distinct_tells (map name xs)).1 h.1),
)

is_equal : (o : Ordering) → is_eq o ≡ true → o ≡ Equal
is_equal Less e = absurd cc
is_equal Equal e = refl
is_equal Greater e = absurd cc

-- the test of rows tells whether they are one
pub same_row_tells : (before after : Option (List Value)) → (is_same_row before after ≡ true) ↔ (before ≡ after)
same_row_tells None None = (λ e. refl, λ e. refl)
same_row_tells None (Some after) = (λ e. absurd cc, λ e. absurd cc)
same_row_tells (Some before) None = (λ e. absurd cc, λ e. absurd cc)
same_row_tells (Some before) (Some after) = (
  λ e. ap (λ (row : List Value). Some row) ((keys_tie before after).0 (is_equal (key_cmp before after) e)),
  λ e. let f : before ≡ after = cc in ap is_eq ((keys_tie before after).1 f),
)

-- ---- the fields

module _ {A : Type 0} {item : List ℕ → Read A} {spelling : A → List ℕ} {fits : A → Type 0} (format : IsFormat item spelling fits) where
  pub filled_format : IsFormat (filled_at item) (list_spelling spelling) (IsFilledListOf fits)
  unfolding filled_at
  filled_format = checked_format is_filled filled_tells (λ xs h r. record { items = h; filled = r }) (λ xs h. (h.items, h.filled)) (list_format format)

  pub columns_format : (name : A → List ℕ) → IsFormat (columns_at name item) (list_spelling spelling) (AreColumns name fits)
  unfolding columns_at
  columns_format name =
      checked_format (are_columns name) (columns_tell name) (λ xs h r. record { items = h; filled = r.0; distinct = r.1 })
      (λ xs h. (h.items, (h.filled, h.distinct))) (list_format format)
