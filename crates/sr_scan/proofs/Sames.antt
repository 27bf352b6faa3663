-- Small facts on tests, options and lists.
use Rattle.std.proofs.Common.{◌≡◌, ℕ, Bool, true, false, cond, List, [], ◌∷◌, ◌++◌, nat_eq, refl, sym, ap, ◌∙◌, append_assoc, rules}
use Rattle.sr_logform.specs.declared.change.Change.{Change}
use Rattle.sr_scan.specs.Inner.Images.{SubscribedTables, change_told, changes_told}

pub cond_true : {A : Type 0} (b : Bool) (x y : A) → b ≡ true → cond b x y ≡ x
cond_true true x y e = refl
cond_true false x y e = cc

pub same_length : (n : ℕ) → nat_eq n n ≡ true
same_length n = search rules

-- what changes give that stand behind others
pub changes_told-append : (subscribed_tables : SubscribedTables) (xs ys : List Change) → changes_told subscribed_tables (xs ++ ys) ≡ changes_told subscribed_tables xs ++ changes_told subscribed_tables ys
changes_told-append subscribed_tables [] ys = refl
changes_told-append subscribed_tables (x ∷ xs) ys = ap (λ l. change_told (subscribed_tables x.table) x ++ l) (changes_told-append subscribed_tables xs ys)
    ∙ sym (append_assoc (change_told (subscribed_tables x.table) x) (changes_told subscribed_tables xs) (changes_told subscribed_tables ys))
