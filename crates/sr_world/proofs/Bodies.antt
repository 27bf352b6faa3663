-- What is given has a spelling, and no body is that of two lists of transactions.
use Rattle.std.proofs.Common.{◌≡◌, ◌≤◌, ◌^◌, ℕ, List, [], ◌∷◌, map, All, refl, arith}
use Rattle.std.specs.List.{AllByRecursion}
use Rattle.std.proofs.lemmas.List.Elements.{All-nil, All-cons, All-head, All-tail}
use Rattle.sr_logform.specs.declared.op.Op.{Op}
use Rattle.sr_logform.specs.Ops.{IsTransaction}
use Rattle.sr_mail_cut.proofs.Parting.{body_once}
use Rattle.sr_mail_cut.specs.Bodies.{body_spelling}
use Rattle.sr_world_model.specs.Layers.{transaction}
use Rattle.sr_scan.specs.Inner.Laws.{HaveSpellings}
use Rattle.sr_world.specs.Real.{some_ops, transaction_at, HasSpelling}

-- the transaction of an entry has a spelling, if there is one
pub one_fits : (end : ℕ) (ops : List Op) → end ≤ 2 ^ 62 → HaveSpellings ops → All HasSpelling (transaction end (some_ops ops))
one_fits end [] small h = All-nil HasSpelling
one_fits end (op ∷ ops) small h = All-cons HasSpelling (end, op ∷ ops) []
    (record { at = omega arith; ops = record { items = (h.few, h.each); filled = λ (e : op ∷ ops ≡ []). cc } })
    (All-nil HasSpelling)

each_transaction : (txs : List (ℕ × List Op)) → All HasSpelling txs → AllByRecursion IsTransaction (map transaction_at txs)
each_transaction [] h = tt
each_transaction (tx ∷ txs) h = (All-head HasSpelling tx txs h, each_transaction txs (All-tail HasSpelling tx txs h))

same_transactions : (a b : List (ℕ × List Op)) → map transaction_at a ≡ map transaction_at b → a ≡ b
same_transactions [] [] e = refl
same_transactions [] (y ∷ b) e = let no : [] ≡ transaction_at y ∷ map transaction_at b = e in cc
same_transactions (x ∷ a) [] e = let no : transaction_at x ∷ map transaction_at a ≡ [] = e in cc
same_transactions (x ∷ a) (y ∷ b) e =
    let cons : transaction_at x ∷ map transaction_at a ≡ transaction_at y ∷ map transaction_at b = e in
    let first : transaction_at x ≡ transaction_at y = cc in
    let rest : map transaction_at a ≡ map transaction_at b = cc in
    let others : a ≡ b = same_transactions a b rest in
    λ i. ((first i).at.0, (first i).ops) ∷ others i

pub encoded_once : (a b : List (ℕ × List Op)) → All HasSpelling a → All HasSpelling b
    → body_spelling (map transaction_at a) ≡ body_spelling (map transaction_at b) → a ≡ b
encoded_once a b h k e = same_transactions a b
    (body_once (map transaction_at a) (map transaction_at b) (each_transaction a h) (each_transaction b k) e)
