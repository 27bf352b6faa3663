use Rattle.std.proofs.Common.{◌≡◌, Some, length, take, drop, sym, ap, subst, ◌∙◌}
use Rattle.std.specs.Vec.Iter.{into_iter_items}
use Rattle.sr_exec_dml.specs.Inner.Pending.{and_pending, AreWhole}
use Rattle.sr_exec_dml.specs.Inner.Unmoving.{and_change, behind}
use Rattle.sr_exec_dml.proofs.together.note_all.Goals as goal

pub olds-preserved : goal.olds-preserved
olds-preserved c =
    let name = c.args.table.now.name in
    let width = length c.args.table.now.columns in
    let left = into_iter_items c.next.new.self in
    let block = c.olds.block in
    let list = c.olds.found.list.items in
    let count = c.olds.found.count in
    let items = c.in-Some.ensures.items in
    let wide : length c.as_slice-width.result.now ≡ width = ap length c.as_slice-width.ensures.items in
    let row : c.in_ok-new.new ≡ take width block = c.in_ok-new.ensures.row ∙ ap (λ n. take n block) wide in
    let behind_row : c.row.new.self ≡ drop width block = c.in_ok-new.ensures.left ∙ ap (λ n. drop n block) wide in
    record {
      noted = λ rest.
          c.olds.invariant.noted rest
          ∙ ap (λ olds. behind list count (and_pending name width olds block rest)) items
          ∙ (λ i. behind list count (and_change name c.in-Some.old (Some (sym row i)) (and_pending name width left (sym behind_row i) rest)))
          ∙ c.in_ok-note_one.ensures.noted (and_pending name width left c.row.new.self rest);
      whole = subst (AreWhole width left) (sym behind_row) (subst (λ olds. AreWhole width olds block) items c.olds.invariant.whole).1;
    }
