-- What is put is true of the history.
use Rattle.std.proofs.Common.{◌≡◌, ℕ, ◌+◌, ◌≤◌, ◌<◌, List, [], ◌∷◌, refl, sym, subst, arith, inl, inr, le_refl, ltb-true}
use Rattle.std.specs.Prelude.{Bool, true, false, cond, map, filter, nat_lt, ◌⊎◌}
use Rattle.sr_book.specs.Entries.{Name}
use Rattle.sr_mail_cut.specs.Bodies.{RisesPast}
use Rattle.sr_database_history.specs.Folds.{State, fresh, next, size}
use Rattle.sr_database_history.specs.Recorded.{Recorded}
use Rattle.sr_logform.specs.declared.op.Op.{Op}
use Rattle.sr_logform.specs.declared.op.Transaction.{Transaction}
use Rattle.sr_scan.specs.Given.{given_of, given_from, gives, with_transaction}
use Rattle.sr_send.specs.Unsent.{as_transaction, past, unsent}

-- offsets that rise past one rise past an earlier one
lower : (low n : ℕ) (ts : List Transaction) → n ≤ low → RisesPast low ts → RisesPast n ts
lower low n [] before rises = tt
lower low n (t ∷ ts) before rises = (omega (arith, before, rises.0), rises.1)

-- what entries give ends where they do
first_rises : (low end : ℕ) (ops : List Op) (rest : List (ℕ × List Op)) → low < end → RisesPast end (map as_transaction rest) → RisesPast low (map as_transaction (with_transaction end ops rest))
first_rises low end [] rest later rises = lower end low (map as_transaction rest) (omega (arith, later)) rises
first_rises low end (op ∷ ops) rest later rises = (later, rises)

given_rises : (s : State) (place : ℕ) (rs : List Recorded) (user : Name) → RisesPast place (map as_transaction (given_from s place rs user))
given_rises s place [] user = tt
given_rises s place (r ∷ rs) user =
    first_rises place (place + (size r + 5)) (gives s r user) (given_from (next s r) (place + (size r + 5)) rs user) (omega arith) (given_rises (next s r) (place + (size r + 5)) rs user)

-- so does what lies past an offset
past_case : (b : Bool) (sent n : ℕ) (tx : ℕ × List Op) (rest : List (ℕ × List Op)) → nat_lt sent tx.0 ≡ b → (n < tx.0) ⊎ (n ≡ sent) → RisesPast tx.0 (past sent rest) → RisesPast sent (past sent rest)
    → RisesPast n (map as_transaction (cond b (tx ∷ filter (λ x. nat_lt sent x.0) rest) (filter (λ x. nat_lt sent x.0) rest)))
past_case true sent n tx rest is (inl before) above from = (before, above)
past_case true sent n tx rest is (inr same) above from = (subst (λ (k : ℕ). k < tx.0) (sym same) (ltb-true sent tx.0 is), above)
past_case false sent n tx rest is (inl before) above from = lower tx.0 n (past sent rest) (omega (arith, before)) above
past_case false sent n tx rest is (inr same) above from = subst (λ (k : ℕ). RisesPast k (past sent rest)) (sym same) from

past_rises : (sent low n : ℕ) (txs : List (ℕ × List Op)) → RisesPast low (map as_transaction txs) → (n ≤ low) ⊎ (n ≡ sent) → RisesPast n (past sent txs)
past_rises sent low n [] rises at = tt
past_rises sent low n (tx ∷ txs) rises at =
    past_case (nat_lt sent tx.0) sent n tx txs refl (cases at) (past_rises sent tx.0 tx.0 txs rises.1 (inl (le_refl tx.0))) (past_rises sent tx.0 sent txs rises.1 (inr refl))
  where
    cases : (n ≤ low) ⊎ (n ≡ sent) → (n < tx.0) ⊎ (n ≡ sent)
    cases (inl before) = inl (omega (arith, before, rises.0))
    cases (inr same) = inr same

pub unsent_rises : (publisher user : Name) (es : List Recorded) (sent : ℕ) → RisesPast sent (unsent publisher es user sent)
unsent_rises publisher user es sent = past_rises sent 0 sent (given_of publisher es user) (given_rises (fresh publisher) 0 es user) (inr refl)
