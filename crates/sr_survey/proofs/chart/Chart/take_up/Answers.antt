use Rattle.std.proofs.Common.{sym}
use Rattle.sr_survey.proofs.Charted.{held_put, route_made}
use Rattle.sr_survey.proofs.chart.Chart.take_up.Goals as goal

pub invariant_of-self : goal.invariant_of-self
invariant_of-self c =
    held_put c.put.result _ _ c.put.new.held c.args.name.now c.in_ok-routes.routes
    (route_made _ c.args.name.now c.in-Some.table.now c.in_ok-routes.routes (sym c.in-Some.ensures.table) c.in_ok-routes.ensures.table c.in_ok-routes.ensures.scope c.in_ok-routes.ensures.articles) c.put.ensures.put
    c.put.ensures.left c.self.invariant
