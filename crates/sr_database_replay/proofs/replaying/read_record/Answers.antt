use Rattle.std.proofs.Common.{◌≡◌, ◌+◌, ℕ, sym, subst}
use Rattle.std.specs.Prelude.{IsTrue}
use Rattle.std.proofs.lemmas.Result.{err_from_is_err_and}
use Rattle.sr_logform.specs.Entries.{entry_spelling}
use Rattle.sr_site.specs.Files.{bytes_of}
use Rattle.sr_database_replay.specs.Inner.Replays.{BodyCause, RecordCause, piece}
use Rattle.sr_database_files.specs.declared.fault.DatabaseFault.TheVariants.{Damaged}
use Rattle.sr_database_replay.proofs.ReadRecords.{body_cause, unfit_cause, record_on}
use Rattle.sr_database_replay.proofs.replaying.read_record.Goals as goal

pub returns-in_err-entry-clause-cause : goal.returns-in_err-entry-clause-cause
returns-in_err-entry-clause-cause g c =
    let before = g.S.Held.seen c.args.site.now in
    let now = g.S.Held.seen c.read_body.new.site in
    let p = err_from_is_err_and c.from_residual.result c.from_residual.ensures.1 in
    let cause = subst (λ (n : ℕ). BodyCause c.args.log n c.in-Some.count before now c.in_err-entry.field-0.0) c.place_in-place.ensures.place c.in_err-entry.ensures.cause in
    rw (p.1, p.2) (body_cause c.args.log c.args.replay.now.catalog c.args.replay.now.rows c.args.replay.now.books c.args.base c.args.position c.args.end before now
    c.requires.whole c.in-Some.count c.in-Some.ensures.some c.in_err-entry.field-0.0 cause)

pub returns-then-may-clause-on : goal.returns-then-may-clause-on
returns-then-may-clause-on g c =
    let before = g.S.Held.seen c.args.site.now in
    let body = subst (λ (n : ℕ). IsTrue before.observable → piece (n + 5) c.in-Some.count (bytes_of before.files c.args.log) ≡ entry_spelling c.in_ok-entry.entry) c.place_in-place.ensures.place c.in_ok-entry.ensures.body in
    record_on c.args.log c.args.replay.now.catalog c.args.replay.now.rows c.args.replay.now.books c.args.base c.args.position c.args.end before (g.S.Held.seen c.read_body.new.site)
    c.requires.whole c.in-Some.count c.in-Some.ensures.some c.follow-followed.new.catalog c.follow-followed.new.rows c.follow-followed.new.books c.in_ok-entry.entry body c.requires.order.1 c.in_ok-may.may c.if-may.true c.in_ok-may.ensures.told

pub returns-else-may-clause-cause : goal.returns-else-may-clause-cause
returns-else-may-clause-cause g c =
    let before = g.S.Held.seen c.args.site.now in
    let now = g.S.Held.seen c.read_body.new.site in
    let body = subst (λ (n : ℕ). IsTrue before.observable → piece (n + 5) c.in-Some.count (bytes_of before.files c.args.log) ≡ entry_spelling c.in_ok-entry.entry) c.place_in-place.ensures.place c.in_ok-entry.ensures.body in
    subst (λ (n : ℕ). RecordCause c.args.log c.args.replay.now.catalog c.args.replay.now.rows c.args.replay.now.books c.args.base c.args.position before now (Damaged c.args.log n)) (sym c.place_in-place.ensures.place)
    (unfit_cause c.args.log c.args.replay.now.catalog c.args.replay.now.rows c.args.replay.now.books c.args.base c.args.position c.args.end before now
    c.requires.whole c.in-Some.count c.in-Some.ensures.some c.follow-followed.new.catalog c.follow-followed.new.rows c.follow-followed.new.books c.in_ok-entry.entry body c.requires.order.1 c.in_ok-entry.ensures.steady c.in_ok-entry.ensures.entry c.in_ok-may.may c.if-may.false c.in_ok-may.ensures.told)
