use Rattle.std.proofs.Common.{rules, ◌≡◌, IsTrue, Ok, sym, ap, subst, ◌∙◌}
use Rattle.std.proofs.lemmas.Result.{err_from_is_err_and}
use Rattle.std.specs.Option.{option_copied}
use Rattle.sr_rows.proofs.Cursors.{AreHeld, table_held}
use Rattle.sr_exec_dml.specs.Statements.{effect_of, counted}
use Rattle.sr_exec_dml.specs.Inner.Unmoving.{unmoved, behind, with_effect, Keeps, KeepKeys}
use Rattle.sr_exec_dml.proofs.Placed.{unmoved_are, unmoved_fault, keeps_one, behind-none, behind-end}
use Rattle.sr_exec_dml.proofs.placing.unmoved_alone.Goals as goal

pub rows-init : goal.rows-init
rows-init c =
    let table = c.args.table.now in
    let rows = c.args.rows.now.rows in
    record {
      found = ap (λ xs. behind xs 0 (unmoved table (option_copied c.args.prepared.now.sets) c.args.prepared.now.condition.now c.walk-walk.result)) c.emptied.ensures.empty
          ∙ behind-none (unmoved table (option_copied c.args.prepared.now.sets) c.args.prepared.now.condition.now c.walk-walk.result)
          ∙ ap (unmoved table (option_copied c.args.prepared.now.sets) c.args.prepared.now.condition.now) c.walk-walk.ensures.rows;
      keep = subst (KeepKeys table (option_copied c.args.prepared.now.sets) c.args.prepared.now.condition.now) c.walk-walk.ensures.rows;
      held = subst (AreHeld rows table.name) (sym c.walk-walk.ensures.rows) (table_held rows table.name);
    }

pub returns-in_err-effect : goal.returns-in_err-effect
returns-in_err-effect c =
    let t = c.args.table.now in
    let s = option_copied c.args.prepared.now.sets in
    let d = c.args.prepared.now.condition.now in
    let row = c.in-Some.row.now in
    let done = c.rows.found.list.items in
    let p = err_from_is_err_and c.from_residual.result c.from_residual.ensures.1 in
    rw (p.1, p.2) (record {
      answer = λ ne. unmoved_fault t c.args.rows.now.rows s d _
          (sym c.rows.invariant.found
          ∙ ap (λ w. behind done c.rows.found.count (unmoved t s d w)) c.in-Some.ensures.next
          ∙ ap (λ r. behind done c.rows.found.count (with_effect t.name row r (unmoved t s d c.next.new.self))) (ap (effect_of t s d) (sym c.values.ensures.values) ∙ c.in_err-effect.ensures.answer ne));
    })

pub rows-preserved : goal.rows-preserved
rows-preserved c =
    let t = c.args.table.now in
    let s = option_copied c.args.prepared.now.sets in
    let d = c.args.prepared.now.condition.now in
    let key = c.in-Some._key.now in
    let row = c.in-Some.row.now in
    let effect = c.in_ok-effect.effect in
    let done = c.rows.found.list.items in
    let rest = unmoved t s d c.next.new.self in
    let next = c.in-Some.ensures.next in
    let held = subst (AreHeld c.args.rows.now.rows t.name) next c.rows.invariant.held in
    let is : effect_of t s d row ≡ Ok effect = ap (effect_of t s d) (sym c.values.ensures.values) ∙ c.in_ok-effect.ensures.answer in
    let kept : IsTrue c.in_ok-note_effect.field-0 = search rules in
    record {
      found =
          sym (c.in_ok-note_effect.ensures.noted kept rest)
          ∙ ap (λ r. behind done c.rows.found.count (with_effect t.name row r rest)) (sym is)
          ∙ ap (λ w. behind done c.rows.found.count (unmoved t s d w)) (sym next)
          ∙ c.rows.invariant.found;
      keep = λ more. c.rows.invariant.keep (subst (KeepKeys t s d) (sym next)
          (subst (λ r. Keeps t key r (KeepKeys t s d c.next.new.self)) (sym is)
          (keeps_one t key row effect (KeepKeys t s d c.next.new.self) (c.requires.rows key row held.0).1 (c.in_ok-note_effect.ensures.keeps kept) more)));
      held = held.1;
    }

pub returns : goal.returns
returns c =
    let t = c.args.table.now in
    let s = option_copied c.args.prepared.now.sets in
    let d = c.args.prepared.now.condition.now in
    let list = c.rows.found.list.items in
    let count = c.rows.found.count in
    let none = c.in_default.ensures.next.0 in
    let whole = unmoved_are t c.args.rows.now.rows s d list count (c.rows.invariant.keep (subst (KeepKeys t s d) (sym none) tt))
    (sym c.rows.invariant.found ∙ ap (λ w. behind list count (unmoved t s d w)) none ∙ behind-end list count) in
    record { answer = whole ∙ ap (counted count) (sym c.from_vec.ensures.items) }
