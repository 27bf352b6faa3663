use Rattle.std.proofs.Common.{rules, [], IsTrue, Ok, length, sym, ap, subst, ◌∙◌}
use Rattle.std.proofs.lemmas.Result.{err_from_is_err_and}
use Rattle.std.specs.Option.{option_copied}
use Rattle.sr_rows.proofs.Cursors.{AreHeld, table_held}
use Rattle.sr_exec_dml.specs.Inner.Pending.{and_pending, AreWhole}
use Rattle.sr_exec_dml.specs.Statements.{counted}
use Rattle.sr_exec_dml.specs.Inner.Unmoving.{unmoved, behind, with_effect, Keeps, KeepKeys}
use Rattle.sr_exec_dml.proofs.Pended.{pending_fault}
use Rattle.sr_exec_dml.proofs.Placed.{unmoved_are, unmoved_fault, keeps_one, behind-none, behind-end}
use Rattle.sr_exec_dml.proofs.together.unmoved_together.Goals as goal

pub rows-init : goal.rows-init
rows-init c =
    let t = c.args.table.now in
    let rows = c.args.rows.now.rows in
    let s = option_copied c.args.prepared.now.sets in
    let d = c.args.prepared.now.condition.now in
    let width = length t.columns in
    let es = c.walk-walk.result in
    record {
      found = (λ i. behind (c.emptied.ensures.empty i) 0 (and_pending t.name width (c.new.ensures.items i) (c.new-2.ensures.items i) (unmoved t s d es)))
          ∙ behind-none (unmoved t s d es)
          ∙ ap (unmoved t s d) c.walk-walk.ensures.rows;
      keep = subst (KeepKeys t s d) c.walk-walk.ensures.rows;
      held = subst (AreHeld rows t.name) (sym c.walk-walk.ensures.rows) (table_held rows t.name);
      whole = subst (λ olds. AreWhole width olds c.new-2.result.items) (sym c.new.ensures.items) c.new-2.ensures.items;
    }

pub returns-in_err-await_row : goal.returns-in_err-await_row
returns-in_err-await_row c =
    let t = c.args.table.now in
    let s = option_copied c.args.prepared.now.sets in
    let d = c.args.prepared.now.condition.now in
    let row = c.in-Some.row.now in
    let width = length t.columns in
    let olds = c.rows.pending.olds.items in
    let values = c.rows.pending.values.items in
    let done = c.rows.found.list.items in
    let count = c.rows.found.count in
    let p = err_from_is_err_and c.from_residual.result c.from_residual.ensures.1 in
    rw (p.1, p.2) (record {
      answer = λ ne. unmoved_fault t c.args.rows.now.rows s d _
          (sym c.rows.invariant.found
          ∙ ap (λ w. behind done count (and_pending t.name width olds values (unmoved t s d w))) c.in-Some.ensures.next
          ∙ ap (λ r. behind done count (and_pending t.name width olds values (with_effect t.name row r (unmoved t s d c.next.new.self)))) (c.in_err-await_row.ensures.answer ne)
          ∙ ap (behind done count) (pending_fault t.name width olds values _));
    })

pub rows-preserved : goal.rows-preserved
rows-preserved c =
    let t = c.args.table.now in
    let s = option_copied c.args.prepared.now.sets in
    let d = c.args.prepared.now.condition.now in
    let key = c.in-Some._key.now in
    let row = c.in-Some.row.now in
    let width = length t.columns in
    let olds = c.rows.pending.olds.items in
    let values = c.rows.pending.values.items in
    let done = c.rows.found.list.items in
    let count = c.rows.found.count in
    let rest = unmoved t s d c.next.new.self in
    let next = c.in-Some.ensures.next in
    let held = subst (AreHeld c.args.rows.now.rows t.name) next c.rows.invariant.held in
    let kept : IsTrue c.in_ok-await_row.field-0 = search rules in
    let a = c.in_ok-await_row.ensures.answer kept in
    record {
      found =
          sym (c.in_ok-note_full.ensures.noted rest)
          ∙ ap (behind done count) (sym (a.behind rest))
          ∙ ap (λ r. behind done count (and_pending t.name width olds values (with_effect t.name row r rest))) (sym a.is)
          ∙ ap (λ w. behind done count (and_pending t.name width olds values (unmoved t s d w))) (sym next)
          ∙ c.rows.invariant.found;
      keep = λ more. c.rows.invariant.keep (subst (KeepKeys t s d) (sym next)
          (subst (λ r. Keeps t key r (KeepKeys t s d c.next.new.self)) (sym a.is)
          (keeps_one t key row a.effect (KeepKeys t s d c.next.new.self) (c.requires.rows key row held.0).1 a.keeps more)));
      held = held.1;
      whole = c.in_ok-note_full.ensures.whole;
    }

pub returns : goal.returns
returns c =
    let t = c.args.table.now in
    let s = option_copied c.args.prepared.now.sets in
    let d = c.args.prepared.now.condition.now in
    let width = length t.columns in
    let olds = c.rows.pending.olds.items in
    let values = c.rows.pending.values.items in
    let none = c.in_default.ensures.next.0 in
    let list = c.note_all.new.found.list.items in
    let count = c.note_all.new.found.count in
    let whole = unmoved_are t c.args.rows.now.rows s d list count (c.rows.invariant.keep (subst (KeepKeys t s d) (sym none) tt))
    (sym c.rows.invariant.found
    ∙ ap (λ w. behind c.rows.found.list.items c.rows.found.count (and_pending t.name width olds values (unmoved t s d w))) none
    ∙ c.in_ok-note_all.ensures.noted (Ok ([], 0))
    ∙ behind-end list count) in
    record { answer = whole ∙ ap (counted count) (sym c.from_vec.ensures.items) }
