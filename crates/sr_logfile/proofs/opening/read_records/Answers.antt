use Rattle.std.proofs.Common.{sym, ◌∙◌, subst}
use Rattle.std.specs.Prelude.{IsTrue}
use Rattle.std.proofs.lemmas.Result.{err_from_is_err_and}
use Rattle.sr_site.specs.Seen.{Seen}
use Rattle.sr_logfile.specs.Inner.Faults.{OpenCause}
use Rattle.sr_logfile.proofs.Openings.{cause_before, of_header, IfErr-from}
use Rattle.sr_logfile.proofs.opening.read_records.Goals as goal

pub returns-in_err-base-clause-cause : goal.returns-in_err-base-clause-cause
returns-in_err-base-clause-cause g c =
    let p = err_from_is_err_and c.from_residual-in_err-base.result c.from_residual-in_err-base.ensures.1 in
    let before : Seen = g.S.Held.seen c.args.site.now in
    let middle : Seen = g.S.Held.seen c.length.new.self in
    let now : Seen = g.S.Held.seen c.base_of.new.site in
    let steady = c.in_ok-size.ensures.steady ∙ c.in_ok-sync.ensures.steady in
    IfErr-from c.from_residual-in_err-base.result (OpenCause c.args.file before now) p.0 c.in_err-base.field-0.0 p.1 p.2
    (cause_before c.args.file before middle now c.in_err-base.field-0.0 (c.length.ensures.stays.observable ∙ c.sync.ensures.stays.observable)
    (λ told. c.length.ensures.files (subst IsTrue (sym c.sync.ensures.stays.observable) told) ∙ c.sync.ensures.files told) steady (of_header c.args.file middle now c.in_err-base.field-0.0 c.in_err-base.ensures.cause))
