-- What a message carries of the body of its window.
use Rattle.std.specs.Prelude.{◌≡◌, ℕ, ◌≤◌, List, length, take, drop}
use Rattle.sr_logform.specs.declared.op.Transaction.{Transaction}
use Rattle.sr_mail_cut.specs.Bodies.{body_spelling, last_at}
use Rattle.sr_msgform.specs.declared.message.Message.{Message}

-- the fragment is what stands at its place in this body
abbrev pub StandsIn : List ℕ → ℕ → List ℕ → Type 0
StandsIn body start fragment = fragment ≡ take (length fragment) (drop start body)

-- the message carries a part of the body of these transactions, all of it where they are two or more, and ends where the last of them does
pub record Carries (members : List Transaction) (m : Message) : Type 0 where
  pub ends : (last_at m.prev members).0 ≡ m.upto.0
  pub total : m.total ≡ length (body_spelling members)
  pub fragment : StandsIn (body_spelling members) m.start m.fragment
  pub whole : 2 ≤ length members → m.fragment ≡ body_spelling members
