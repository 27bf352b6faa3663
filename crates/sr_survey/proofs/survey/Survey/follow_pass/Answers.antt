use Rattle.sr_survey.proofs.Followed.{follows_only, follows_here}
use Rattle.sr_survey.proofs.survey.Survey.follow_pass.Goals as goal

pub returns-then-only : goal.returns-then-only
returns-then-only c = record { followed = follows_only c.args.self.now c.args._users.now c.args.only c.args.text.now c.args._changes.now c.args.at c.if-only.true }

pub returns : goal.returns
returns c = record {
  followed = follows_here c.args.self.now c.follow_text.new.self c.args._users.now c.args.only c.args.text.now c.args._changes.now c.args.at c.follow_text.result c.if-only.false c.follow_text.ensures.followed;
}
