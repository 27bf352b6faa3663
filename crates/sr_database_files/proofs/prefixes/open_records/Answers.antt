use Rattle.std.proofs.Common.{sym, ◌∙◌}
use Rattle.sr_database_files.proofs.Quiet.{open_alone, synced_then, read_synced}
use Rattle.sr_database_files.proofs.Shapes.{whole_found, based_elsewhere, has_refused, shape_refused}
use Rattle.sr_database_files.proofs.prefixes.open_records.Goals as goal

pub returns-then-base-clause-synced : goal.returns-then-base-clause-synced
returns-then-base-clause-synced g c = open_alone c.args.log _ _ _ c.open.ensures.stays c.open.ensures.files c.open.ensures.happened

pub returns-then-base-clause-cause : goal.returns-then-base-clause-cause
returns-then-base-clause-cause g c =
    based_elsewhere c.args.base c.args.log (g.S.Held.seen c.args.site.now) (g.S.Held.seen c.open.new.site) c.open.ensures.files c.in-Ok.found c.in-Ok.ensures.usable.0
    (λ same. c.if-base.true (c.base.ensures.base ∙ same)) c.in-Ok.ensures.log c.in-Ok.ensures.steady

pub refused_shape-requires : goal.refused_shape-requires
refused_shape-requires g c = record { damaged = has_refused c.args.log (g.S.Held.seen c.args.site.now) (g.S.Held.seen c.open.new.site) c.open.ensures.stays.observable c.open.ensures.files c.in-Err.fault c.in-Err.ensures.cause }

pub returns-else-base-clause-whole : goal.returns-else-base-clause-whole
returns-else-base-clause-whole g c =
    whole_found c.args.base c.args.log (g.S.Held.seen c.args.site.now) (g.S.Held.seen c.open.new.site) c.open.ensures.files c.in-Ok.found c.in-Ok.ensures.usable.0 (sym c.base.ensures.base ∙ c.if-base.false) c.in-Ok.ensures.log

pub returns-else-base-clause-synced : goal.returns-else-base-clause-synced
returns-else-base-clause-synced g c = open_alone c.args.log _ _ _ c.open.ensures.stays c.open.ensures.files c.open.ensures.happened

pub returns-in-Err-clause-synced : goal.returns-in-Err-clause-synced
returns-in-Err-clause-synced g c = synced_then _ _ _ (open_alone c.args.log _ _ _ c.open.ensures.stays c.open.ensures.files c.open.ensures.happened) (read_synced _ _ c.refused_shape.ensures.read)

pub returns-in-Err-clause-cause : goal.returns-in-Err-clause-cause
returns-in-Err-clause-cause g c =
    shape_refused c.args.base c.args.log (g.S.Held.seen c.args.site.now) (g.S.Held.seen c.open.new.site) (g.S.Held.seen c.refused_shape.new.site) c.open.ensures.stays.observable c.open.ensures.files c.open.ensures.stays.later c.refused_shape.ensures.read.stays.later
    c.in-Err.fault c.in-Err.ensures.cause c.refused_shape.result c.refused_shape.ensures.cause
