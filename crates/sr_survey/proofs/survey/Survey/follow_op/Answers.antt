use Rattle.std.proofs.Common.{sym}
use Rattle.sr_scan.specs.Inner.Meanings.{text_done}
use Rattle.sr_survey.proofs.Followed.{follows_none, follows_some}
use Rattle.sr_survey.proofs.survey.Survey.follow_op.Goals as goal

pub returns-in-None : goal.returns-in-None
returns-in-None c = record { followed = follows_none c.args.self.now (text_done c.args.op.now c.args.outcome.now) c.args.at (sym c.in-None.ensures.text) }

pub returns-in-Some : goal.returns-in-Some
returns-in-Some c = record {
  followed = follows_some c.args.self.now c.follow_text.new.self (text_done c.args.op.now c.args.outcome.now) c.in-Some.text.now c.args.at c.follow_text.result (sym c.in-Some.ensures.text) c.follow_text.ensures.followed;
}
