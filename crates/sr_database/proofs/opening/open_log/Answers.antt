use Rattle.std.proofs.Common.{sym, subst}
use Rattle.std.specs.Prelude.{IsTrue}
use Rattle.std.proofs.lemmas.Result.{err_from_is_err_and}
use Rattle.sr_site.specs.Files.{Files, bytes_of}
use Rattle.sr_snapshot.specs.Inner.Beginnings.{beginning_in}
use Rattle.sr_database_files.specs.Inner.Openings.{IsWholeLog}
use Rattle.sr_database_files.proofs.Quiet.{OnOk-always, told_then, synced_then, read_synced, settled_then}
use Rattle.sr_database.proofs.Refused.{shape_cause, entries_refused}
use Rattle.sr_database.proofs.Reopened.{opened_before}
use Rattle.sr_database.proofs.opening.open_log.Goals as goal

pub returns-in_err-open_records-clause-cause : goal.returns-in_err-open_records-clause-cause
returns-in_err-open_records-clause-cause g c =
    let p = err_from_is_err_and c.from_residual.result c.from_residual.ensures.1 in
    rw (p.1, p.2) (shape_cause c.args.log (beginning_in c.args.state) (g.S.Held.seen c.args.site.now) (g.S.Held.seen c.open_records.new.site) c.in_err-open_records.field-0.0 c.in_err-open_records.ensures.cause)

pub read_entries-requires-clause-whole : goal.read_entries-requires-clause-whole
read_entries-requires-clause-whole g c told =
    let before = subst IsTrue c.open_records.ensures.synced.stays.observable told in
    subst (λ (f : Files). IsWholeLog c.args.state.offset.0 (bytes_of f c.args.log)) (sym (c.open_records.ensures.synced.only before).files) (c.in_ok-open_records.ensures.whole before)

pub returns-clause-opened : goal.returns-clause-opened
returns-clause-opened g c = opened_before c.args.log (beginning_in c.args.state) _ _ c.open_records.ensures.synced _ c.read_entries.ensures.opened

pub returns-clause-settled : goal.returns-clause-settled
returns-clause-settled g c told =
    OnOk-always _ (settled_then c.args.log _ _ (read_synced _ _ c.read_entries.ensures.read) (told_then _ _ c.open_records.ensures.synced.stays told) (c.in_ok-open_records.ensures.settled told))

pub returns-clause-synced : goal.returns-clause-synced
returns-clause-synced g c = synced_then _ _ _ c.open_records.ensures.synced (read_synced _ _ c.read_entries.ensures.read)

pub returns-clause-cause : goal.returns-clause-cause
returns-clause-cause g c =
    entries_refused c.args.log (beginning_in c.args.state) (g.S.Held.seen c.args.site.now) (g.S.Held.seen c.open_records.new.site) (g.S.Held.seen c.read_entries.new.site) c.open_records.ensures.synced c.in_ok-open_records.ensures.whole c.in_ok-open_records.ensures.steady _ c.read_entries.ensures.cause
