-- Whether names are distinct, as a walk over them tells it that keeps those it has passed.
use Rattle.std.proofs.Common.{◌≡◌, ℕ, Bool, true, false, cond, not, ◌&&◌, List, [], ◌∷◌, refl, sym, ap, ◌∙◌}
use Rattle.std.proofs.lemmas.Map.Text.{is_eq-slice_cmp}
use Rattle.std.specs.BTreeSet.{BTreeSet, contains, Updates}
use Rattle.std.specs.List.{list_all}
use Rattle.std.specs.Str.{bytes_eq}
use Rattle.sr_base.specs.Order.{name_cmp}
use Rattle.sr_logform.specs.Inner.Rules.{is_absent, are_distinct}

-- whether none of the names is in the set
abbrev pub are_new : BTreeSet (List ℕ) → List (List ℕ) → Bool
are_new set names = list_all (λ name. not (contains name_cmp set name)) names

-- whether the names that are left are distinct, and none of them was passed
abbrev pub are_left : BTreeSet (List ℕ) → List (List ℕ) → Bool
are_left set names = are_new set names && are_distinct names

all_new : (set : BTreeSet (List ℕ)) (names : List (List ℕ)) → set.keys ≡ [] → are_new set names ≡ true
all_new set [] none = refl
all_new set (name ∷ names) none = rw (none, all_new set names none) refl

pub starts : (set : BTreeSet (List ℕ)) (names : List (List ℕ)) → set.keys ≡ [] → are_distinct names ≡ are_left set names
starts set names none = rw (all_new set names none) refl

apart : (a b : Bool) → not (cond a true b) ≡ (not b && not a)
apart true true = refl
apart true false = refl
apart false true = refl
apart false false = refl

regroup : (b a c d : Bool) → ((b && a) && (c && d)) ≡ ((b && c) && (a && d))
regroup true true c d = refl
regroup true false true d = refl
regroup true false false d = refl
regroup false a c d = refl

new_after : (set new : BTreeSet (List ℕ)) (name : List ℕ) (names : List (List ℕ)) → Updates name_cmp set new name true
    → are_new new names ≡ (are_new set names && is_absent name names)
new_after set new name [] u = refl
new_after set new name (other ∷ names) u =
    let here : not (contains name_cmp new other) ≡ (not (contains name_cmp set other) && not (bytes_eq name other)) =
    ap not (u.0 other ∙ ap (λ (b : Bool). cond b true (contains name_cmp set other)) (is_eq-slice_cmp name other))
    ∙ apart (bytes_eq name other) (contains name_cmp set other) in
    rw (here, new_after set new name names u)
    (regroup (not (contains name_cmp set other)) (not (bytes_eq name other)) (are_new set names) (is_absent name names))

and_assoc : (a b c : Bool) → (a && (b && c)) ≡ ((a && b) && c)
and_assoc true b c = refl
and_assoc false b c = refl

pub goes_on : (all : Bool) (set new : BTreeSet (List ℕ)) (name : List ℕ) (names : List (List ℕ))
    → contains name_cmp set name ≡ false → Updates name_cmp set new name true → all ≡ are_left set (name ∷ names) → all ≡ are_left new names
goes_on all set new name names absent u so_far =
    so_far ∙ (rw absent (and_assoc (are_new set names) (is_absent name names) (are_distinct names))
    ∙ ap (λ (b : Bool). b && are_distinct names) (sym (new_after set new name names u)))

pub breaks : (all : Bool) (set : BTreeSet (List ℕ)) (name : List ℕ) (names : List (List ℕ)) → contains name_cmp set name ≡ true
    → all ≡ are_left set (name ∷ names) → all ≡ false
breaks all set name names present so_far = so_far ∙ rw present refl
