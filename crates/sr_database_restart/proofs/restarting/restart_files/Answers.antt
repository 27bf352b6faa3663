use Rattle.std.proofs.Common.{◌≡◌, inr, ◌∙◌, ap, subst, sym}
use Rattle.sr_database_meaning.specs.Generations.{log_of, byte_of, generation_of, other_of}
use Rattle.sr_database_restart.proofs.Named.{new_log, restarted, went_over}
use Rattle.sr_database_restart.proofs.Quiet.{quiet, quiet_on}
use Rattle.sr_database_restart.specs.Inner.Restarting.{IsRestarted}
use Rattle.sr_database_restart.specs.declared.generations.Other.{Other}
use Rattle.sr_logfile.specs.Inner.Logs.{IsLog}
use Rattle.sr_logfile.specs.Log.{Log}
use Rattle.sr_logfile_carry.proofs.Carried.{is_carried}
use Rattle.sr_logfile_carry.specs.Inner.Carrying.{log_of_records}
use Rattle.sr_site.specs.Inner.Growing.{disk_stays_on}
use Rattle.sr_site.specs.declared.file.File.{File}
use Rattle.sr_site.specs.declared.file.File.TheVariants.{Root}
use Rattle.sr_snapshot.specs.Inner.Beginnings.{beginning_in}
use Rattle.sr_snapshot.specs.Snapshots.{snapshot_spelling}
use Rattle.sr_database_restart.proofs.restarting.restart_files.Goals as goal

pub returns-in_err-name_generation-clause-stays : goal.returns-in_err-name_generation-clause-stays
returns-in_err-name_generation-clause-stays g c = disk_stays_on _ (g.S.Held.seen c.write_generation.new.site) _ c.in_ok-new.ensures.touches.stays c.in_err-name_generation.ensures.touches.stays

pub returns-clause-stays : goal.returns-clause-stays
returns-clause-stays g c = disk_stays_on _ (g.S.Held.seen c.write_generation.new.site) _ c.in_ok-new.ensures.touches.stays c.in_ok-name_generation.ensures.touches.stays

pub returns-in_err-name_generation-clause-quiet : goal.returns-in_err-name_generation-clause-quiet
returns-in_err-name_generation-clause-quiet g c told =
    let middle = g.S.Held.seen c.write_generation.new.site in
    let touches = c.in_ok-new.ensures.touches in
    quiet_on _ middle.happened _ (touches.quiet told) (quiet Root middle.happened _ (c.in_err-name_generation.ensures.touches.on (touches.stays.observable ∙ told)))

pub returns-clause-quiet : goal.returns-clause-quiet
returns-clause-quiet g c told =
    let middle = g.S.Held.seen c.write_generation.new.site in
    let touches = c.in_ok-new.ensures.touches in
    quiet_on _ middle.happened _ (touches.quiet told) (quiet Root middle.happened _ (c.in_ok-name_generation.ensures.touches.on (touches.stays.observable ∙ told)))

pub returns-in_err-name_generation-clause-moments : goal.returns-in_err-name_generation-clause-moments
returns-in_err-name_generation-clause-moments g c told done left at =
    let before = g.S.Held.seen c.args.site.now in
    let middle = g.S.Held.seen c.write_generation.new.site in
    let now = g.S.Held.seen c.name_generation.new.site in
    let touches = c.in_ok-new.ensures.touches in
    inr (went_over (generation_of c.args.log.now.file) (snapshot_spelling (beginning_in c.args.state.now)) (log_of_records c.args.state.now.offset.0 left) before middle now touches.stays.first (touches.keeps told) (c.in_ok-new.ensures.written told done left at)
    (g.S.Held.read_is_image c.args.site.now told) c.other_than-other.result.byte now (c.in_err-name_generation.ensures.moments (touches.stays.observable ∙ told)))

pub returns-clause-moments : goal.returns-clause-moments
returns-clause-moments g c told done left at =
    let before = g.S.Held.seen c.args.site.now in
    let middle = g.S.Held.seen c.write_generation.new.site in
    let now = g.S.Held.seen c.name_generation.new.site in
    let touches = c.in_ok-new.ensures.touches in
    inr (went_over (generation_of c.args.log.now.file) (snapshot_spelling (beginning_in c.args.state.now)) (log_of_records c.args.state.now.offset.0 left) before middle now touches.stays.first (touches.keeps told) (c.in_ok-new.ensures.written told done left at)
    (g.S.Held.read_is_image c.args.site.now told) c.other_than-other.result.byte now (c.in_ok-name_generation.ensures.moments (touches.stays.observable ∙ told)))

pub returns-clause-restarted : goal.returns-clause-restarted
returns-clause-restarted g c told done left at =
    let before = g.S.Held.seen c.args.site.now in
    let middle = g.S.Held.seen c.write_generation.new.site in
    let now = g.S.Held.seen c.name_generation.new.site in
    let touches = c.in_ok-new.ensures.touches in
    let told_middle = touches.stays.observable ∙ told in
    let byte : c.other_than-other.result.byte ≡ byte_of (other_of (generation_of c.args.log.now.file)) =
    ap (λ (o : Other). o.byte) c.other_than-other.ensures.other ∙ ap (λ (f : File). byte_of (other_of (generation_of f))) c.file.ensures.file in
    restarted (generation_of c.args.log.now.file) (snapshot_spelling (beginning_in c.args.state.now)) (log_of_records c.args.state.now.offset.0 left) before middle now touches.stays.first (touches.keeps told) (c.in_ok-new.ensures.written told done left at)
    (g.S.Held.read_is_image c.args.site.now told) c.other_than-other.result.byte now byte c.in_ok-name_generation.ensures.touches.stays.first (c.in_ok-name_generation.ensures.moments told_middle) (c.in_ok-name_generation.ensures.files told_middle)
    (c.in_ok-name_generation.ensures.settled told_middle)

pub returns-clause-kept : goal.returns-clause-kept
returns-clause-kept g c told done left at =
    let before = g.S.Held.seen c.args.site.now in
    let now = g.S.Held.seen c.name_generation.new.site in
    let log : Log = c.args.log.now in
    let generation = generation_of log.file in
    let is : IsRestarted generation (snapshot_spelling (beginning_in c.args.state.now)) (log_of_records c.args.state.now.offset.0 left) before now = returns-clause-restarted g c told done left at in
    subst (λ (l : Log). IsLog l left now.files) (sym c.in_ok-new.ensures.log)
    (is_carried log c.args.state.now.offset.0 done left before.files at (log_of (other_of generation)) now.files (new_log generation (snapshot_spelling (beginning_in c.args.state.now)) (log_of_records c.args.state.now.offset.0 left) before now is))
