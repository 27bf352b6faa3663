-- What histories give that go on.
use Rattle.std.proofs.Common.{◌≡◌, ℕ, ◌+◌, List, [], ◌∷◌, ◌++◌, refl, ap, ◌∙◌}
use Rattle.sr_book.specs.Entries.{Name}
use Rattle.sr_database_history.specs.Folds.{State, fresh, next, size, state_from, state_of, end_from, end_of}
use Rattle.sr_database_history.specs.Recorded.{Recorded}
use Rattle.sr_logform.specs.declared.op.Op.{Op}
use Rattle.sr_scan.specs.Given.{gives, with_transaction, given_from, given_of}

before_more : (end : ℕ) (ops : List Op) (xs ys : List (ℕ × List Op)) → with_transaction end ops (xs ++ ys) ≡ with_transaction end ops xs ++ ys
before_more end [] xs ys = refl
before_more end (op ∷ ops) xs ys = refl

pub from_joined : (s : State) (place : ℕ) (rs qs : List Recorded) (user : Name)
    → given_from s place (rs ++ qs) user ≡ given_from s place rs user ++ given_from (state_from s rs) (end_from place rs) qs user
from_joined s place [] qs user = refl
from_joined s place (r ∷ rs) qs user =
    let end = place + (size r + 5) in
    ap (λ l. with_transaction end (gives s r user) l) (from_joined (next s r) end rs qs user)
    ∙ before_more end (gives s r user) (given_from (next s r) end rs user) (given_from (state_from (next s r) rs) (end_from end rs) qs user)

pub joined : (publisher user : Name) (rs qs : List Recorded) → given_of publisher (rs ++ qs) user
    ≡ given_of publisher rs user ++ given_from (state_of publisher rs) (end_of rs) qs user
joined publisher user rs qs = from_joined (fresh publisher) 0 rs qs user

pub one_more : (publisher user : Name) (rs : List Recorded) (r : Recorded) → given_of publisher (rs ++ r ∷ []) user
    ≡ given_of publisher rs user ++ with_transaction (end_of rs + (size r + 5)) (gives (state_of publisher rs) r user) []
one_more publisher user rs r = joined publisher user rs (r ∷ [])
