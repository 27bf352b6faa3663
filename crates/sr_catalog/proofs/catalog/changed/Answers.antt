use Rattle.sr_catalog.proofs.Spelling.{spelled_copy}
use Rattle.sr_catalog.proofs.catalog.changed.Goals as goal

pub invariant_of-result : goal.invariant_of-result
invariant_of-result c =
    spelled_copy c.args.schema.now c.in_ok-after.after c.apply.new.schema c.args.stmt.now c.requires.spelled c.requires.normal c.requires.accepted
    c.in_ok-after.ensures.equal c.in-Ok.ensures.ok
