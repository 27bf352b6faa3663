-- How transactions are cut into messages.
-- Here is what no contract of the program says by itself.
use Rattle.std.specs.Prelude.{◌≡◌, ℕ, ◌≤◌, Some, List, [], ◌∷◌, ◌++◌, length}
use Rattle.std.specs.List.{AllByRecursion, concat}
use Rattle.sr_base.specs.declared.offset.Offset.{Offset}
use Rattle.sr_logform.specs.declared.op.Transaction.{Transaction}
use Rattle.sr_mail_cut.specs.declared.head.Head.{Head}
use Rattle.sr_mail_cut.specs.declared.too_long.TooLong.{TooLong}
use Rattle.sr_mail_cut.specs.declared.too_long.TooLong.TheVariants as long
use Rattle.sr_mail_cut.specs.Bodies.{first_long}
use Rattle.sr_msgform.specs.declared.message.Message.{Message}
use Rattle.sr_msgform.specs.Messages.{KeepsRules, message_length}
use Rattle.sr_mail_cut.specs.Cuts.{AreFragments, Cutting, carrying, least_message, messages_from, most_message}

-- a length that messages may be limited to, in bytes
pub record IsMessageLimit (limit : ℕ) : Type 0 where
  pub least : least_message ≤ limit
  pub most : limit ≤ most_message

-- why nothing is made of them: the first encoding that is longer than 64 MiB
abbrev pub CutCause : List Transaction → TooLong → Type 0
CutCause transactions long.Memory = Unit {0}
CutCause transactions (long.Transaction need) = first_long transactions ≡ Some need

-- the message of what is held, where there is some
abbrev pub messages_held : Head → Offset → Offset → List ℕ → List Message
messages_held head prev upto [] = []
messages_held head prev upto (byte ∷ body) = carrying head prev upto (length (byte ∷ body)) 0 (byte ∷ body) ∷ []

-- what a cutter gives for a transaction that fits no message by itself, which ends at an offset and has these bytes, so many: the message of what is
-- held, and behind it one for each of the fragments that the bytes are parted into
abbrev pub AreOfHeldAndParted : Cutting → Offset → ℕ → List ℕ → List Message → Type 0
AreOfHeldAndParted cutter at total bytes messages = (fragments : List (List ℕ)) × AreFragments cutter.head cutter.limit fragments × (concat fragments ≡ bytes)
    × (messages ≡ messages_held cutter.head cutter.prev cutter.upto cutter.body ++ messages_from cutter.head cutter.upto at total 0 fragments)

-- where a head counts no ask, it names no place to send from again
abbrev pub CountsItsAsk : Head → Type 0
CountsItsAsk head = head.ask_count ≡ 0 → head.ask_offset.0 ≡ 0

-- each message keeps the rules of messages, and its file has at most so many bytes
abbrev pub KeepRulesWithin : ℕ → List Message → Type 0
KeepRulesWithin limit messages = AllByRecursion (λ m. KeepsRules m × (message_length m ≤ limit)) messages
