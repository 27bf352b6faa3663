use Rattle.sr_survey.proofs.Followed.{follows_so}
use Rattle.sr_survey.proofs.survey.Survey.follow_text.Goals as goal

pub returns : goal.returns
returns c = record {
  followed = follows_so c.args.self.now c.follow_statement-followed.new.self c.args.text.now c.in_ok-statement.field-0 c.in-Some.statement c.args.at c.follow_statement-followed.result
      c.in_ok-statement.ensures.meant c.in-Some.is c.follow_statement-followed.ensures.followed;
}
