use Rattle.std.proofs.Common.{inr, refl}
use Rattle.sr_database_files.proofs.Shapes.{other_base, its_base, header_cause}
use Rattle.sr_database_files.proofs.prefixes.check_base.Goals as goal

pub returns-then-found-base-clause-cause : goal.returns-then-found-base-clause-cause
returns-then-found-base-clause-cause g c = (refl, λ told. inr (other_base c.args.base c.in-Ok.found _ (c.in-Ok.ensures.header told) c.if-found-base.true, refl), c.in-Ok.ensures.steady)

pub returns-else-found-base-clause-header : goal.returns-else-found-base-clause-header
returns-else-found-base-clause-header g c told = its_base c.args.base c.in-Ok.found _ (c.in-Ok.ensures.header told) c.if-found-base.false

pub returns-in-Err-clause-cause : goal.returns-in-Err-clause-cause
returns-in-Err-clause-cause g c = header_cause c.args.base c.args.log (g.S.Held.seen c.args.site.now) (g.S.Held.seen c.base_of.new.site) c.in-Err.fault c.log_fault.result c.log_fault.ensures c.in-Err.ensures.cause
