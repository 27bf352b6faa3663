use Rattle.std.proofs.Common.{◌≡◌, length, ◌∙◌, ap, subst, arith}
use Rattle.std.specs.Prelude.{IsTrue}
use Rattle.sr_site.specs.Files.{Files}
use Rattle.sr_site.specs.Reads.{HasRead}
use Rattle.sr_site.specs.declared.file.File.TheVariants.{Root}
use Rattle.sr_database_files.proofs.Quiet.{told_then, sync_alone, sync_read, read_alone, read_then, read_synced, settled_sync, settled_then}
use Rattle.sr_database_files.proofs.Shapes.{no_byte, begins_with}
use Rattle.sr_database_files.proofs.prefixes.first_byte.Goals as goal

pub returns-in_err-sync-clause-synced : goal.returns-in_err-sync-clause-synced
returns-in_err-sync-clause-synced g c = sync_alone Root _ _ _ c.sync.ensures.stays c.sync.ensures.files c.sync.ensures.happened

pub returns-in_err-length-clause-synced : goal.returns-in_err-length-clause-synced
returns-in_err-length-clause-synced g c = sync_read _ _ _ (sync_alone Root _ _ _ c.sync.ensures.stays c.sync.ensures.files c.sync.ensures.happened) c.length.ensures.stays c.length.ensures.files c.length.ensures.happened

pub returns-then-length-eq0-clause-synced : goal.returns-then-length-eq0-clause-synced
returns-then-length-eq0-clause-synced g c = sync_read _ _ _ (sync_alone Root _ _ _ c.sync.ensures.stays c.sync.ensures.files c.sync.ensures.happened) c.length.ensures.stays c.length.ensures.files c.length.ensures.happened

pub returns-then-length-eq0-clause-cause : goal.returns-then-length-eq0-clause-cause
returns-then-length-eq0-clause-cause g c = (
  no_byte (g.S.Held.seen c.args.site.now) (g.S.Held.seen c.sync.new.self) _ c.sync.ensures.files (told_then (g.S.Held.seen c.args.site.now) (g.S.Held.seen c.sync.new.self) c.sync.ensures.stays) c.in_ok-length.ensures.length c.if-length-eq0.true,
  c.in_ok-length.ensures.steady ∙ c.in_ok-sync.ensures.steady,
)

pub returns-in_err-_count-clause-synced : goal.returns-in_err-_count-clause-synced
returns-in_err-_count-clause-synced g c =
    sync_read _ _ _ (sync_read _ _ _ (sync_alone Root _ _ _ c.sync.ensures.stays c.sync.ensures.files c.sync.ensures.happened) c.length.ensures.stays c.length.ensures.files c.length.ensures.happened) c.read_at.ensures.stays c.read_at.ensures.files c.read_at.ensures.happened

pub returns-clause-synced : goal.returns-clause-synced
returns-clause-synced g c =
    sync_read _ _ _ (sync_read _ _ _ (sync_alone Root _ _ _ c.sync.ensures.stays c.sync.ensures.files c.sync.ensures.happened) c.length.ensures.stays c.length.ensures.files c.length.ensures.happened) c.read_at.ensures.stays c.read_at.ensures.files c.read_at.ensures.happened

pub returns-clause-settled : goal.returns-clause-settled
returns-clause-settled g c told =
    let seen = g.S.Held.seen in
    let before = seen c.args.site.now in
    let middle = seen c.sync.new.self in
    let measured = seen c.length.new.self in
    let now = seen c.read_at.new.self in
    settled_then Root middle now (read_synced middle now (read_then middle measured now (read_alone middle measured c.length.ensures.stays c.length.ensures.files c.length.ensures.happened) (read_alone measured now c.read_at.ensures.stays c.read_at.ensures.files c.read_at.ensures.happened)))
    (told_then before middle c.sync.ensures.stays told) (settled_sync Root before middle (c.sync.ensures.files told) (c.in_ok-sync.ensures.happened told))

pub returns-clause-first : goal.returns-clause-first
returns-clause-first g c told =
    let seen = g.S.Held.seen in
    let at : IsTrue (seen c.sync.new.self).observable = told_then (seen c.args.site.now) (seen c.sync.new.self) c.sync.ensures.stays told in
    let then : IsTrue (seen c.length.new.self).observable = told_then (seen c.sync.new.self) (seen c.length.new.self) c.length.ensures.stays at in
    let one : length c.read_at.new.buffer ≡ 1 = omega arith in
    begins_with (seen c.args.site.now).files.root c.read_at.new.buffer c.in_ok-_count._count c.in_ok-length.length
    (c.in_ok-length.ensures.length at ∙ ap (λ (f : Files). length f.root) (c.sync.ensures.files told)) c.if-length-eq0.false one
    (subst (λ (f : Files). HasRead f.root 0 1 c.in_ok-_count._count c.read_at.new.buffer) (c.length.ensures.files at ∙ c.sync.ensures.files told) (c.in_ok-_count.ensures.read then))
