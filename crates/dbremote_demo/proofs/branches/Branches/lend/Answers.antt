use Rattle.dbremote_demo.proofs.Keeping.{kept_here}
use Rattle.dbremote_demo.proofs.branches.Branches.lend.Goals as goal

pub returns-clause-kept : goal.returns-clause-kept
returns-clause-kept c =
    kept_here c.args.demo_site c.args.self.now c.self.inside.demo_sites c.self.inside.kept c.swap-kept.result c.self.view_is c.swap-kept.ensures.before c.self.invariant
