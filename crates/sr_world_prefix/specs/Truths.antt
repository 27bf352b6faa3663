-- What is asked of a message that comes from a partner.
use Rattle.std.specs.Prelude.{◌≡◌, ◌≤◌, List}
use Rattle.sr_book.specs.Entries.{Name}
use Rattle.sr_book.specs.Histories.{taken_end}
use Rattle.sr_mail_cut.specs.Truths.{IsTrueOf}
use Rattle.sr_database_history.specs.Folds.{sees}
use Rattle.sr_database_history.specs.Recorded.{Recorded}
use Rattle.sr_msgform.specs.declared.message.Message.{Message}
use Rattle.sr_send.specs.TrueSentMessages.{all_given}

-- a message is true in part of the history of the database that sent it: it carries a part of what the history gives the receiver in its window, which ends
-- with the last of that; and it confirms no more than the history took from the receiver. No more is asked of what comes; what a run puts is true whole
-- (`IsTrueOf` of sr_world_model)
pub record IsTrueInPart (sender : Name) (es : List Recorded) (m : Message) : Type 0 where
  pub sent_by : m.from ≡ sender
  pub carries : IsTrueOf (all_given sender es m.to) m
  pub confirms : m.confirm.0 ≤ taken_end sees m.to es
