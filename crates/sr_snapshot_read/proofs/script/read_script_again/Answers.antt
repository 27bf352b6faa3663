use Rattle.std.proofs.Common.{◌≡◌, ℕ, List, map, refl, subst, ◌∙◌}
use Rattle.std.proofs.lemmas.Result.{err_from_is_err_and}
use Rattle.sr_ast.specs.Layout.{printed}
use Rattle.sr_catalog_script_laws.specs.Scripts.{statements}
use Rattle.sr_snapshot.proofs.Puts.{if_fault}
use Rattle.sr_snapshot_read.proofs.RowsRead.{read_nothing}
use Rattle.sr_snapshot_read.specs.Inner.Reading.{TakeCause}
use Rattle.sr_snapshot_read.specs.Inner.ScriptRead.{HasRepeated, RepeatBreaks}
use Rattle.sr_snapshot_read.proofs.script.read_script_again.Goals as goal

pub returns-in_err-script-clause-cause : goal.returns-in_err-script-clause-cause
returns-in_err-script-clause-cause g c =
    let p = err_from_is_err_and c.from_residual.result c.from_residual.ensures.1 in
    rw (p.1, p.2) (read_nothing c.args.file (g.S.Held.seen c.args.site.now), refl)

pub returns-in_err-whole-clause-cause : goal.returns-in_err-whole-clause-cause
returns-in_err-whole-clause-cause g c =
    let before = g.S.Held.seen c.args.site.now in
    let now = g.S.Held.seen c.read_again.new.site in
    let fault = c.in_err-whole.field-0.0 in
    let texts : c.as_slice.result.now ≡ map printed (statements c.args.catalog.now) = c.as_slice.ensures.value ∙ c.in_ok-script.ensures.texts in
    if_fault (TakeCause c.args.file (RepeatBreaks (map printed (statements c.args.catalog.now)) c.args.count) before now c.args.window) fault c.from_residual-in_err-whole.result c.from_residual-in_err-whole.ensures.1
    (subst (λ (l : List (List ℕ)). TakeCause c.args.file (RepeatBreaks l c.args.count) before now c.args.window fault) texts c.in_err-whole.ensures.cause)

pub returns-clause-taken : goal.returns-clause-taken
returns-clause-taken g c =
    let before = g.S.Held.seen c.args.site.now in
    let now = g.S.Held.seen c.read_again.new.site in
    let texts : c.as_slice.result.now ≡ map printed (statements c.args.catalog.now) = c.as_slice.ensures.value ∙ c.in_ok-script.ensures.texts in
    record {
      then = c.read_again.new.window;
      repeated = subst (λ (l : List (List ℕ)). HasRepeated c.args.file l c.args.count before now c.args.window c.read_again.new.window c.in_ok-whole.whole) texts c.in_ok-whole.ensures.taken;
    }
