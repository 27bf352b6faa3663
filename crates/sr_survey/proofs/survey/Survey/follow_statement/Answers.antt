use Rattle.std.proofs.Common.{sym, ◌∙◌}
use Rattle.sr_survey.proofs.Followed.{accepted_followed}
use Rattle.sr_survey.proofs.survey.Survey.follow_statement.Goals as goal

pub returns : goal.returns
returns c = record {
  followed = accepted_followed c.args.self.now c.note.new.self c.args.statement.now c.args.at c.apply.new.self c.in_ok-note.ensures.noted
      (sym c.in_ok-is_refused.ensures.refused ∙ c.if-branch.false) c.in_ok-apply.ensures.ok;
}
