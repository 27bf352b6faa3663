use Rattle.sr_survey.proofs.Noting.{stopped_so, dropped_so, granted_so}
use Rattle.sr_survey.proofs.survey.Survey.note.Goals as goal

pub returns-in-StopSubscription : goal.returns-in-StopSubscription
returns-in-StopSubscription c = record { noted = stopped_so c.args.self.now c.touch.new.self c.args.statement.now c.in-StopSubscription.rule c.args.at c.touch.result c.in-StopSubscription.is c.touch.ensures.touched }

pub returns-in-DropSubscription : goal.returns-in-DropSubscription
returns-in-DropSubscription c = record {
  noted = dropped_so c.args.self.now c.touch-in-DropSubscription.new.self c.args.statement.now c.in-DropSubscription.rule c.args.at c.touch-in-DropSubscription.result c.in-DropSubscription.is
      c.touch-in-DropSubscription.ensures.touched;
}

pub returns-in-GrantConsolidate : goal.returns-in-GrantConsolidate
returns-in-GrantConsolidate c = record {
  noted = granted_so c.args.self.now c.touch-in-GrantConsolidate.new.self c.args.statement.now c.in-GrantConsolidate.grant c.args.at c.touch-in-GrantConsolidate.result c.in-GrantConsolidate.is
      c.touch-in-GrantConsolidate.ensures.touched;
}
