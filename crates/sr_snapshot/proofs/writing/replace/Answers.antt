use Rattle.std.proofs.Common.{ℕ, take, ap, ◌∙◌, subst}
use Rattle.std.proofs.lemmas.Result.{err_from_is_err_and}
use Rattle.sr_site.specs.Causes.{Rose}
use Rattle.sr_site.specs.Files.{Files, bytes_of}
use Rattle.sr_snapshot.proofs.Puts.{if_fault, its_bytes, only_cut, only_on, only_synced, told_before}
use Rattle.sr_snapshot.proofs.Written.{cause_then, written}
use Rattle.sr_snapshot.specs.Inner.Beginnings.{beginning_in}
use Rattle.sr_snapshot.specs.Snapshots.{snapshot_spelling}
use Rattle.sr_snapshot.specs.Inner.Writing.{PutCause}
use Rattle.sr_snapshot.proofs.writing.replace.Goals as goal

pub returns-in_err-cut-clause-cause : goal.returns-in_err-cut-clause-cause
returns-in_err-cut-clause-cause g c =
    let p = err_from_is_err_and c.from_residual.result c.from_residual.ensures.1 in
    rw (p.1, p.2) (only_cut c.args.file _ _ _ (g.S.Held.seen c.args.site.now) (g.S.Held.seen c.cut.new.self) c.cut.ensures.stays c.cut.ensures.happened, c.in_err-cut.ensures.cause)

pub fill-requires : goal.fill-requires
fill-requires g c =
    let first = g.S.Held.seen c.args.site.now in
    let only = only_cut c.args.file _ _ _ first (g.S.Held.seen c.cut.new.self) c.cut.ensures.stays c.cut.ensures.happened in
    record {
      texts = c.requires.texts;
      short = c.requires.short;
      empty = λ told. ap (λ (f : Files). bytes_of f c.args.file) (c.in_ok-cut.ensures.cut (told_before c.args.file first (g.S.Held.seen c.cut.new.self) only told)) ∙ its_bytes first.files c.args.file (take 0 (bytes_of first.files c.args.file));
    }

pub returns-in_err-fill-clause-cause : goal.returns-in_err-fill-clause-cause
returns-in_err-fill-clause-cause g c =
    let first = g.S.Held.seen c.args.site.now in
    let middle = g.S.Held.seen c.cut.new.self in
    let now = g.S.Held.seen c.fill.new.site in
    if_fault (PutCause c.args.file first now) c.in_err-fill.field-0.0 c.from_residual-in_err-fill.result c.from_residual-in_err-fill.ensures.1
    (cause_then c.args.file first middle now c.in_err-fill.field-0.0 (only_cut c.args.file _ _ _ first middle c.cut.ensures.stays c.cut.ensures.happened) c.in_ok-cut.ensures.steady c.in_err-fill.ensures.cause)

pub returns-in_err-sync-clause-cause : goal.returns-in_err-sync-clause-cause
returns-in_err-sync-clause-cause g c =
    let first = g.S.Held.seen c.args.site.now in
    let cut = g.S.Held.seen c.cut.new.self in
    let full = g.S.Held.seen c.fill.new.site in
    let now = g.S.Held.seen c.sync.new.self in
    let up = only_on c.args.file first cut full (only_cut c.args.file _ _ _ first cut c.cut.ensures.stays c.cut.ensures.happened) c.in_ok-fill.ensures.filled.only in
    let p = err_from_is_err_and c.from_residual-in_err-sync.result c.from_residual-in_err-sync.ensures.1 in
    rw (p.1, p.2) (
      only_on c.args.file first full now up (only_synced c.args.file _ _ full now c.sync.ensures.stays c.sync.ensures.happened),
      subst (λ (n : ℕ). Rose n now.disk_faults) (c.in_ok-fill.ensures.filled.steady ∙ c.in_ok-cut.ensures.steady) c.in_err-sync.ensures.cause,
    )

pub returns-clause-written : goal.returns-clause-written
returns-clause-written g c =
    let first = g.S.Held.seen c.args.site.now in
    let cut = g.S.Held.seen c.cut.new.self in
    let full = g.S.Held.seen c.fill.new.site in
    let now = g.S.Held.seen c.sync.new.self in
    written c.args.file (snapshot_spelling (beginning_in c.args.state.now)) first cut full now (only_cut c.args.file _ _ _ first cut c.cut.ensures.stays c.cut.ensures.happened) c.in_ok-cut.ensures.steady c.in_ok-cut.ensures.cut c.in_ok-fill.ensures.filled
    (only_synced c.args.file _ _ full now c.sync.ensures.stays c.sync.ensures.happened) c.in_ok-sync.ensures.steady c.in_ok-sync.ensures.files c.in_ok-sync.ensures.happened
