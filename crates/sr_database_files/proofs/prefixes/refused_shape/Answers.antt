use Rattle.sr_database_files.proofs.Shapes.{shape_damaged}
use Rattle.sr_database_files.proofs.prefixes.refused_shape.Goals as goal

pub returns-in-Ok-clause-cause : goal.returns-in-Ok-clause-cause
returns-in-Ok-clause-cause g c = shape_damaged c.args.base c.args.log c.args.fault (g.S.Held.seen c.args.site.now) (g.S.Held.seen c.check_base.new.site) c.in-Damaged.at c.in-Damaged.is c.requires.damaged c.in-Ok.ensures.header c.in-Ok.ensures.steady
