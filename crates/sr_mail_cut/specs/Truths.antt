-- Fragments that are true of a body.
use Rattle.std.specs.Prelude.{◌≡◌, ℕ, ◌≤◌, ◌&&◌, nat_lt, nat_le, List, length, take, drop, filter}
use Rattle.sr_logform.specs.declared.op.Transaction.{Transaction}
use Rattle.sr_mail_cut.specs.Bodies.{body_spelling, last_at}
use Rattle.sr_msgform.specs.declared.message.Message.{Message}

-- the message's fragment is what stands at its place in this body
pub record IsFragmentOf (body : List ℕ) (m : Message) : Type 0 where
  pub total : m.total ≡ length body
  pub fragment : m.fragment ≡ take (length m.fragment) (drop m.start body)

-- the transactions past one offset and up to another
abbrev pub between : ℕ → ℕ → List Transaction → List Transaction
between prev upto transactions = filter (λ t. nat_lt prev t.at.0 && nat_le t.at.0 upto) transactions

-- the message carries a part of what lies in its window, of these transactions: all of it where that are two or more
pub record IsTrueOf (transactions : List Transaction) (m : Message) : Type 0 where
  pub part : IsFragmentOf (body_spelling (between m.prev.0 m.upto.0 transactions)) m
  pub ends : last_at m.prev (between m.prev.0 m.upto.0 transactions) ≡ m.upto
  pub whole : 2 ≤ length (between m.prev.0 m.upto.0 transactions) → m.fragment ≡ body_spelling (between m.prev.0 m.upto.0 transactions)
