use Rattle.std.proofs.Common.{ℕ, List, length, true, [], ◌∙◌, ap, sym, subst, rules, arith}
use Rattle.std.specs.Prelude.{IsTrue}
use Rattle.sr_site.specs.Inner.Growing.{disk_stays_on}
use Rattle.sr_logfile.proofs.Makings.{fresh_stops_1, fresh_stops_2, fresh_made}
use Rattle.sr_site.specs.Files.{Files, bytes_of, overwritten}
use Rattle.sr_site.proofs.Images.{bytes_of-with_bytes}
use Rattle.sr_logfile.proofs.Records.{spells_fresh}
use Rattle.sr_logfile.proofs.Starts.{fresh_1, fresh_2, fresh_3, length_filled}
use Rattle.sr_logfile.proofs.starting.fresh.Goals as goal

pub returns-clause-bytes : goal.returns-clause-bytes
returns-clause-bytes g c = search rules

pub returns-clause-empty : goal.returns-clause-empty
returns-clause-empty g c told =
    spells_fresh c.args.base.0 _ c.requires.base (ap (λ (files : Files). bytes_of files c.args.file) (returns-clause-bytes g c told) ∙ bytes_of-with_bytes _ c.args.file _)

pub returns-in_err-cut-clause-happened : goal.returns-in_err-cut-clause-happened
returns-in_err-cut-clause-happened g c told = fresh_stops_1 c.args.file c.args.base.0 _ c.fresh_log-bytes.ensures _ _ [] [] _ [] [] _ true true _ (c.cut.ensures.happened told) (search rules) (search rules)

pub returns-in_err-write_at-clause-happened : goal.returns-in_err-write_at-clause-happened
returns-in_err-write_at-clause-happened g c told =
    let at = subst IsTrue (sym c.cut.ensures.stays.observable) told in
    fresh_stops_2 c.args.file c.args.base.0 _ c.fresh_log-bytes.ensures _ _ _ [] _ _ [] _ _ true _ (c.cut.ensures.happened told) (search rules) (c.write_at.ensures.happened at) (search rules) (search rules)

pub returns-in_err-sync-clause-happened : goal.returns-in_err-sync-clause-happened
returns-in_err-sync-clause-happened g c told =
    let at = subst IsTrue (sym c.cut.ensures.stays.observable) told in
    let then = subst IsTrue (sym c.write_at.ensures.stays.observable) at in
    fresh_made c.args.file c.args.base.0 _ c.fresh_log-bytes.ensures _ _ _ _ _ _ _ _ _ _ _ (c.cut.ensures.happened told) (search rules) (c.write_at.ensures.happened at) (search rules) (c.sync.ensures.happened then) (search rules)

pub returns-clause-happened : goal.returns-clause-happened
returns-clause-happened g c told =
    let at = subst IsTrue (sym c.cut.ensures.stays.observable) told in
    let then = subst IsTrue (sym c.write_at.ensures.stays.observable) at in
    fresh_made c.args.file c.args.base.0 _ c.fresh_log-bytes.ensures _ _ _ _ _ _ _ _ _ _ _ (c.cut.ensures.happened told) (search rules) (c.write_at.ensures.happened at) (search rules) (c.sync.ensures.happened then) (search rules)

pub returns-in_err-write_at-clause-stays : goal.returns-in_err-write_at-clause-stays
returns-in_err-write_at-clause-stays g c = disk_stays_on _ _ _ c.cut.ensures.stays c.write_at.ensures.stays

pub returns-in_err-sync-clause-stays : goal.returns-in_err-sync-clause-stays
returns-in_err-sync-clause-stays g c = disk_stays_on _ _ _ (disk_stays_on _ _ _ c.cut.ensures.stays c.write_at.ensures.stays) c.sync.ensures.stays

pub returns-clause-stays : goal.returns-clause-stays
returns-clause-stays g c = disk_stays_on _ _ _ (disk_stays_on _ _ _ c.cut.ensures.stays c.write_at.ensures.stays) c.sync.ensures.stays

pub returns-in_err-cut-clause-moments : goal.returns-in_err-cut-clause-moments
returns-in_err-cut-clause-moments g c told = fresh_1 c.args.file (g.S.Held.seen c.args.site.now) (g.S.Held.seen c.cut.new.self) _ _ (c.cut.ensures.happened told)

pub returns-in_err-write_at-clause-moments : goal.returns-in_err-write_at-clause-moments
returns-in_err-write_at-clause-moments g c told =
    let at = subst IsTrue (sym c.cut.ensures.stays.observable) told in
    let long = ap (λ (l : List ℕ). length l) c.fresh_log-bytes.ensures in
    fresh_2 c.args.file (g.S.Held.seen c.args.site.now) (g.S.Held.seen c.write_at.new.self) _ _ _ _ _ _ long (c.cut.ensures.happened told) (c.write_at.ensures.happened at)

pub returns-in_err-sync-clause-moments : goal.returns-in_err-sync-clause-moments
returns-in_err-sync-clause-moments g c told =
    let at = subst IsTrue (sym c.cut.ensures.stays.observable) told in
    let then = subst IsTrue (sym c.write_at.ensures.stays.observable) at in
    let long = ap (λ (l : List ℕ). length l) c.fresh_log-bytes.ensures in
    let empty = ap (λ (files : Files). bytes_of files c.args.file) (c.in_ok-cut.ensures.cut told) ∙ bytes_of-with_bytes _ c.args.file _ in
    let wrote = ap (λ (files : Files). bytes_of files c.args.file) (c.in_ok-write_at.ensures.written at) ∙ bytes_of-with_bytes _ c.args.file _ in
    let read = wrote ∙ ap (λ (bytes : List ℕ). overwritten bytes 0 c.fresh_log-bytes.result) empty in
    let count = ap (λ (l : List ℕ). length l) read ∙ length_filled c.fresh_log-bytes.result (bytes_of (g.S.Held.seen c.args.site.now).files c.args.file) long in
    fresh_3 c.args.file (g.S.Held.seen c.args.site.now) (g.S.Held.seen c.sync.new.self) _ _ _ _ _ _ _ _ _ long (c.cut.ensures.happened told) (c.write_at.ensures.happened at) (c.sync.ensures.happened then) (omega (arith, count))

pub returns-clause-moments : goal.returns-clause-moments
returns-clause-moments g c told =
    let at = subst IsTrue (sym c.cut.ensures.stays.observable) told in
    let then = subst IsTrue (sym c.write_at.ensures.stays.observable) at in
    let long = ap (λ (l : List ℕ). length l) c.fresh_log-bytes.ensures in
    let empty = ap (λ (files : Files). bytes_of files c.args.file) (c.in_ok-cut.ensures.cut told) ∙ bytes_of-with_bytes _ c.args.file _ in
    let wrote = ap (λ (files : Files). bytes_of files c.args.file) (c.in_ok-write_at.ensures.written at) ∙ bytes_of-with_bytes _ c.args.file _ in
    let read = wrote ∙ ap (λ (bytes : List ℕ). overwritten bytes 0 c.fresh_log-bytes.result) empty in
    let count = ap (λ (l : List ℕ). length l) read ∙ length_filled c.fresh_log-bytes.result (bytes_of (g.S.Held.seen c.args.site.now).files c.args.file) long in
    fresh_3 c.args.file (g.S.Held.seen c.args.site.now) (g.S.Held.seen c.sync.new.self) _ _ _ _ _ _ _ _ _ long (c.cut.ensures.happened told) (c.write_at.ensures.happened at) (c.sync.ensures.happened then) (omega (arith, count))
