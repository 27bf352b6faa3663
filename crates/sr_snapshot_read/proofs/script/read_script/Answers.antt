use Rattle.std.proofs.Common.{ℕ, Bool, true, false, sym, subst}
use Rattle.sr_ast.specs.Layout.{printed}
use Rattle.sr_catalog_script_laws.specs.Scripts.{statements}
use Rattle.std.specs.Prelude.{map}
use Rattle.sr_snapshot.proofs.Puts.{if_fault}
use Rattle.sr_snapshot.specs.declared.fault.SnapFault.TheVariants.{Damaged}
use Rattle.sr_snapshot_read.proofs.ScriptRead.{again_cause, again_over, count_cause, made_cause, script_short, script_taken}
use Rattle.sr_snapshot_read.proofs.Windows.{over_then, taken_over}
use Rattle.sr_snapshot_read.specs.Damages.{ScriptBreaks}
use Rattle.sr_snapshot_read.specs.Inner.Reading.{TakeCause}
use Rattle.sr_snapshot_read.specs.Inner.ScriptRead.{HasRepeated}
use Rattle.sr_snapshot_read.proofs.script.read_script.Goals as goal

pub returns-in_err-count-clause-cause : goal.returns-in_err-count-clause-cause
returns-in_err-count-clause-cause g c =
    let before = g.S.Held.seen c.args.site.now in
    let now = g.S.Held.seen c.read_count.new.site in
    let fault = c.in_err-count.field-0.0 in
    if_fault (TakeCause c.args.file (ScriptBreaks c.args.publisher) before now c.args.window.now) fault c.from_residual.result c.from_residual.ensures.1
    (count_cause c.args.file c.args.publisher before now c.args.window.now fault c.in_err-count.ensures.cause)

pub read_texts-requires : goal.read_texts-requires
read_texts-requires g c = record { over = taken_over c.args.file _ (g.S.Held.seen c.args.site.now) (g.S.Held.seen c.read_count.new.site) c.args.window.now c.read_count.new.window c.in_ok-count.ensures.taken }

pub returns-in_err-catalog-clause-cause : goal.returns-in_err-catalog-clause-cause
returns-in_err-catalog-clause-cause g c =
    let before = g.S.Held.seen c.args.site.now in
    let middle = g.S.Held.seen c.read_count.new.site in
    let now = g.S.Held.seen c.read_texts.new.site in
    let fault = c.in_err-catalog.field-0.0 in
    if_fault (TakeCause c.args.file (ScriptBreaks c.args.publisher) before now c.args.window.now) fault c.from_residual-in_err-catalog.result c.from_residual-in_err-catalog.ensures.1
    (made_cause c.args.file c.args.publisher c.in_ok-count.count before middle now c.args.window.now c.read_count.new.window fault c.in_ok-count.ensures.short c.in_ok-count.ensures.taken c.in_err-catalog.ensures.cause)

pub read_script_again-requires : goal.read_script_again-requires
read_script_again-requires g c =
    let s1 = g.S.Held.seen c.read_count.new.site in
    let s2 = g.S.Held.seen c.read_texts.new.site in
    record {
      over = over_then c.args.file s1 s2 c.again-again.result c.in_ok-catalog.ensures.taken.taken.read
          (λ told. again_over c.read_count.new.window c.again-again.result _ (taken_over c.args.file _ (g.S.Held.seen c.args.site.now) s1 c.args.window.now c.read_count.new.window c.in_ok-count.ensures.taken told) c.again-again.ensures.held
          c.again-again.ensures.place c.again-again.ensures.size);
    }

pub returns-in_err-whole-clause-cause : goal.returns-in_err-whole-clause-cause
returns-in_err-whole-clause-cause g c =
    let s0 = g.S.Held.seen c.args.site.now in
    let s1 = g.S.Held.seen c.read_count.new.site in
    let s2 = g.S.Held.seen c.read_texts.new.site in
    let s3 = g.S.Held.seen c.read_script_again.new.site in
    let fault = c.in_err-whole.field-0.0 in
    if_fault (TakeCause c.args.file (ScriptBreaks c.args.publisher) s0 s3 c.args.window.now) fault c.from_residual-in_err-whole.result c.from_residual-in_err-whole.ensures.1
    (again_cause c.args.file c.args.publisher c.in_ok-count.count s0 s1 s2 s3 c.args.window.now c.read_count.new.window c.read_texts.new.window c.again-again.result c.again-again.result c.in_ok-catalog.catalog c.in_ok-count.ensures.short
    c.in_ok-count.ensures.taken c.in_ok-catalog.ensures.taken c.again-again.ensures.place fault c.in_err-whole.ensures.cause)

pub returns-then-not-whole-clause-cause : goal.returns-then-not-whole-clause-cause
returns-then-not-whole-clause-cause g c =
    let s0 = g.S.Held.seen c.args.site.now in
    let s1 = g.S.Held.seen c.read_count.new.site in
    let s2 = g.S.Held.seen c.read_texts.new.site in
    let s3 = g.S.Held.seen c.read_script_again.new.site in
    let again : HasRepeated c.args.file (map printed (statements c.in_ok-catalog.catalog)) c.in_ok-count.count s2 s3 c.again-again.result c.in_ok-whole.ensures.taken.then false =
    subst (λ (b : Bool). HasRepeated c.args.file (map printed (statements c.in_ok-catalog.catalog)) c.in_ok-count.count s2 s3 c.again-again.result c.in_ok-whole.ensures.taken.then b) c.if-not-whole.true
    c.in_ok-whole.ensures.taken.repeated in
    subst (λ (n : ℕ). TakeCause c.args.file (ScriptBreaks c.args.publisher) s0 s3 c.args.window.now (Damaged n)) (sym c.place-place.ensures.place)
    (script_short c.args.file c.args.publisher c.in_ok-count.count s0 s1 s2 s3 c.args.window.now c.read_count.new.window c.read_texts.new.window c.again-again.result c.in_ok-whole.ensures.taken.then c.in_ok-catalog.catalog c.in_ok-count.ensures.short
    c.in_ok-count.ensures.taken c.in_ok-catalog.ensures.taken c.again-again.ensures.place again c.requires.over c.place-place.ensures.within)

pub returns-clause-taken : goal.returns-clause-taken
returns-clause-taken g c =
    let s0 = g.S.Held.seen c.args.site.now in
    let s1 = g.S.Held.seen c.read_count.new.site in
    let s2 = g.S.Held.seen c.read_texts.new.site in
    let s3 = g.S.Held.seen c.read_script_again.new.site in
    let again : HasRepeated c.args.file (map printed (statements c.in_ok-catalog.catalog)) c.in_ok-count.count s2 s3 c.again-again.result c.in_ok-whole.ensures.taken.then true =
    subst (λ (b : Bool). HasRepeated c.args.file (map printed (statements c.in_ok-catalog.catalog)) c.in_ok-count.count s2 s3 c.again-again.result c.in_ok-whole.ensures.taken.then b) c.if-not-whole.false
    c.in_ok-whole.ensures.taken.repeated in
    script_taken c.args.file c.args.publisher c.in_ok-count.count s0 s1 s2 s3 c.args.window.now c.read_count.new.window c.read_texts.new.window c.again-again.result c.in_ok-whole.ensures.taken.then c.in_ok-catalog.catalog c.in_ok-count.ensures.short
    c.in_ok-count.ensures.taken c.in_ok-catalog.ensures.taken c.again-again.ensures.place again
