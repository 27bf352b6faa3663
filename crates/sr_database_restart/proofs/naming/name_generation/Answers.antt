use Rattle.std.proofs.Common.{true, false, ◌∙◌}
use Rattle.sr_database_restart.proofs.Named.{moments_wrote, moments_synced, root_read}
use Rattle.sr_database_restart.proofs.Steps.{touch_on, touch_synced, touch_wrote}
use Rattle.sr_site.specs.declared.file.File.TheVariants.{Root}
use Rattle.sr_database_restart.proofs.naming.name_generation.Goals as goal

pub returns-in_err-write_at-clause-moments : goal.returns-in_err-write_at-clause-moments
returns-in_err-write_at-clause-moments g c told = moments_wrote c.args.byte (g.S.Held.seen c.args.site.now) _ _ (g.S.Held.seen c.write_at.new.self) (c.write_at.ensures.happened told)

pub returns-in_err-write_at-clause-touches : goal.returns-in_err-write_at-clause-touches
returns-in_err-write_at-clause-touches g c = touch_wrote Root _ _ _ _ (g.S.Held.seen c.args.site.now) (g.S.Held.seen c.write_at.new.self) c.write_at.ensures.stays c.write_at.ensures.happened

pub returns-in_err-sync-clause-touches : goal.returns-in_err-sync-clause-touches
returns-in_err-sync-clause-touches g c =
    let before = g.S.Held.seen c.args.site.now in
    let middle = g.S.Held.seen c.write_at.new.self in
    let now = g.S.Held.seen c.sync.new.self in
    touch_on Root before middle now (touch_wrote Root _ _ _ _ before middle c.write_at.ensures.stays c.write_at.ensures.happened) (touch_synced Root _ _ middle now c.sync.ensures.stays c.sync.ensures.happened)

pub returns-clause-touches : goal.returns-clause-touches
returns-clause-touches g c =
    let before = g.S.Held.seen c.args.site.now in
    let middle = g.S.Held.seen c.write_at.new.self in
    let now = g.S.Held.seen c.sync.new.self in
    touch_on Root before middle now (touch_wrote Root _ _ _ _ before middle c.write_at.ensures.stays c.write_at.ensures.happened) (touch_synced Root _ _ middle now c.sync.ensures.stays c.sync.ensures.happened)

pub returns-in_err-sync-clause-moments : goal.returns-in_err-sync-clause-moments
returns-in_err-sync-clause-moments g c told =
    let before = g.S.Held.seen c.args.site.now in
    let middle = g.S.Held.seen c.write_at.new.self in
    let now = g.S.Held.seen c.sync.new.self in
    let told_then = c.in_ok-write_at.ensures.stays.observable ∙ told in
    moments_synced c.args.byte before false middle.files.root middle.files.root middle now (root_read c.args.byte before middle (c.in_ok-write_at.ensures.written told)) (c.in_ok-write_at.ensures.happened told) (c.in_err-sync.ensures.happened told_then)

pub returns-clause-moments : goal.returns-clause-moments
returns-clause-moments g c told =
    let before = g.S.Held.seen c.args.site.now in
    let middle = g.S.Held.seen c.write_at.new.self in
    let now = g.S.Held.seen c.sync.new.self in
    let told_then = c.in_ok-write_at.ensures.stays.observable ∙ told in
    moments_synced c.args.byte before true middle.files.root middle.files.root middle now (root_read c.args.byte before middle (c.in_ok-write_at.ensures.written told)) (c.in_ok-write_at.ensures.happened told) (c.in_ok-sync.ensures.happened told_then)
