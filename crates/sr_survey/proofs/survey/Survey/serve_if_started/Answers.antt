use Rattle.sr_survey.proofs.Taken.{serves_started}
use Rattle.sr_survey.proofs.survey.Survey.serve_if_started.Goals as goal

pub returns : goal.returns
returns c = record { served = serves_started c.args.self.now c.serve.new.self c.args.subscription.now c.if-not-subscription.false c.in_ok-serve.ensures.served }
