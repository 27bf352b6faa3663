-- The changes of a statement are where the rows before and after it differ.
use Rattle.std.proofs.Common.{◌≡◌, Bool, true, false, cond, ℕ, List, [], ◌∷◌, Option, Some, None, Ok, inl, inr, refl, ap, subst, ◌∙◌}
use Rattle.std.specs.List.{AllByRecursion, find}
use Rattle.std.specs.Ordering.{is_eq}
use Rattle.sr_base.specs.Order.{key_cmp}
use Rattle.sr_rows.specs.Walks.{Entry}
use Rattle.sr_logform.specs.declared.change.Change.{Change}
use Rattle.sr_exec_dml.specs.Holding.{under, are_two, one_of, keys_of, doubled, changes_at, changes_of, undoubled}
use Rattle.sr_logform.specs.Outcomes.{is_same_row}
use Rattle.sr_exec_dml.specs.Inner.Laws.{IsDifference, IsAmong, HoldsOneEach, ChangesDiffer, DifferencesChange}
use Rattle.sr_exec_dml.proofs.Folding.{Key, has, same_key}
use Rattle.sr_exec_dml.proofs.Outcomes.{not_there}

pub undoubled-Ok : (o : Option Key) (found changes : List Change) → undoubled o found ≡ Ok changes → (o ≡ None) × (found ≡ changes)
undoubled-Ok None found changes h = (refl, cc)
undoubled-Ok (Some k) found changes h = cc

find_none : (p : Key → Bool) (ks : List Key) (q : Key) → find p ks ≡ None → has q ks ≡ true → p q ≡ false
find_none p [] q h here = cc
find_none p (k ∷ ks) q h here = go (p k) refl h (is_eq (key_cmp q k)) refl here (find_none p ks q) where
  go : (b : Bool) → p k ≡ b → cond b (Some k) (find p ks) ≡ None → (t : Bool) → is_eq (key_cmp q k) ≡ t → cond t true (has q ks) ≡ true → (find p ks ≡ None → has q ks ≡ true → p q ≡ false) → p q ≡ false
  go true e f t g i rest = cc
  go false e f true g i rest = ap p (same_key q k g) ∙ e
  go false e f false g i rest = rest f i

pub holds_one_each : HoldsOneEach
holds_one_each table before after changes h key = go (has key (keys_of before after)) refl where
  go : (b : Bool) → has key (keys_of before after) ≡ b → are_two (under key after) ≡ false
  go true e = find_none (λ k. are_two (under k after)) (keys_of before after) key (undoubled-Ok (doubled before after) (changes_of table before after) changes h).0 e
  go false e = ap are_two (not_there key before after e).1

each_differs : (table : List ℕ) (before after : List Entry) (ks : List Key) → AllByRecursion (λ c. (key : Key) × IsDifference table before after key c) (changes_at table before after ks)
each_differs table before after [] = tt
each_differs table before after (k ∷ ks) = go (is_same_row (one_of (under k before)) (one_of (under k after))) refl (each_differs table before after ks) where
  go : (b : Bool) → is_same_row (one_of (under k before)) (one_of (under k after)) ≡ b → AllByRecursion (λ c. (key : Key) × IsDifference table before after key c) (changes_at table before after ks)
      → AllByRecursion (λ c. (key : Key) × IsDifference table before after key c) (cond b (changes_at table before after ks) (record { table = table; before = one_of (under k before); after = one_of (under k after) } ∷ changes_at table before after ks))
  go true e rest = rest
  go false e rest = ((k, record { table_is = refl; before_is = refl; after_is = refl; differ = e }), rest)

pub changes_differ : ChangesDiffer
changes_differ table before after changes h =
    subst (λ cs. AllByRecursion (λ c. (key : Key) × IsDifference table before after key c) cs) (undoubled-Ok (doubled before after) (changes_of table before after) changes h).1 (each_differs table before after (keys_of before after))

abbrev pub change_at : List ℕ → List Entry → List Entry → Key → Change
change_at table before after key = record { table = table; before = one_of (under key before); after = one_of (under key after) }

changed : (table : List ℕ) (before after : List Entry) (q : Key) (ks : List Key) → is_same_row (one_of (under q before)) (one_of (under q after)) ≡ false → has q ks ≡ true → IsAmong (change_at table before after q) (changes_at table before after ks)
changed table before after q [] d h = cc
changed table before after q (k ∷ ks) d h = go (is_eq (key_cmp q k)) refl h (is_same_row (one_of (under k before)) (one_of (under k after))) refl (changed table before after q ks d) where
  go : (t : Bool) → is_eq (key_cmp q k) ≡ t → cond t true (has q ks) ≡ true → (b : Bool) → is_same_row (one_of (under k before)) (one_of (under k after)) ≡ b → (has q ks ≡ true → IsAmong (change_at table before after q) (changes_at table before after ks))
      → IsAmong (change_at table before after q) (cond b (changes_at table before after ks) (change_at table before after k ∷ changes_at table before after ks))
  go true e f true g rest = let other = ap (λ j. is_same_row (one_of (under j before)) (one_of (under j after))) (same_key q k e) in cc
  go true e f false g rest = inl (ap (change_at table before after) (same_key q k e))
  go false e f true g rest = rest f
  go false e f false g rest = inr (rest f)

pub differences_change : DifferencesChange
differences_change table before after changes h key d = go (has key (keys_of before after)) refl where
  go : (b : Bool) → has key (keys_of before after) ≡ b → IsAmong (change_at table before after key) changes
  go true e = subst (IsAmong (change_at table before after key)) (undoubled-Ok (doubled before after) (changes_of table before after) changes h).1 (changed table before after key (keys_of before after) d e)
  go false e =
      let none = not_there key before after e in
      let same : is_same_row (one_of (under key before)) (one_of (under key after)) ≡ true = λ i. is_same_row (one_of (none.0 i)) (one_of (none.1 i)) in
      cc
