use Rattle.std.proofs.Common.{sym, subst}
use Rattle.dbremote_demo.proofs.Alone.{came_so}
use Rattle.dbremote_demo.specs.Courses.{Course}
use Rattle.dbremote_demo_draws.specs.declared.demo_sites.DemoSites.{DemoSites}
use Rattle.dbremote_demo.proofs.whole.lines.Goals as goal

pub returns-in_ok-lines_of-in-Ok-clause-came : goal.returns-in_ok-lines_of-in-Ok-clause-came
returns-in_ok-lines_of-in-Ok-clause-came c = came_so c.args.seed c.args.count c.in-Ok.lost c.closed-demo_sites.result c.in_ok-summary-in-Ok.summary c.in_ok-lines_of-in-Ok.field-0.items
    (subst (λ (s : DemoSites). Course c.args.seed c.args.count s c.in-Ok.lost) (sym c.closed-demo_sites.ensures.demo_sites) (c.in-Ok.ensures.course c.new-branches.ensures.nothing))
    c.in_ok-summary-in-Ok.ensures.summary c.in_ok-lines_of-in-Ok.ensures.lines
