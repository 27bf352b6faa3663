use Rattle.std.proofs.Common.{subst}
use Rattle.sr_survey.proofs.Charted.{held_there}
use Rattle.sr_survey.specs.Inner.Charts.{IsRoute}
use Rattle.sr_survey.proofs.chart.Chart.routes.Goals as goal

pub returns-in-Some : goal.returns-in-Some
returns-in-Some c = record {
  route = subst (λ l. IsRoute l c.args.name.now c.in-Some.routes.now) c.self.view_is (held_there c.self.inside.catalog c.self.inside.routes c.args.name.now c.in-Some.routes.now c.self.invariant c.in-Some.ensures.value);
}
