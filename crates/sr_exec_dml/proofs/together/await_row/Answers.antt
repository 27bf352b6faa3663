use Rattle.std.proofs.Common.{rules, ◌≡◌, ◌++◌, ◌∷◌, [], true, length, drop, refl, sym, ap, subst, ◌∙◌}
use Rattle.std.specs.Option.{option_copied}
use Rattle.sr_exec_dml.specs.Inner.Pending.{Adds}
use Rattle.sr_exec_dml.specs.Statements.{effect_of}
use Rattle.sr_exec_where.specs.Keys.{key_of}
use Rattle.sr_exec_dml.proofs.Pended.{added_behind, awaits_one}
use Rattle.sr_exec_dml.proofs.together.await_row.Goals as goal

pub returns : goal.returns
returns c =
    let table = c.args.table.now in
    let p = c.args.prepared.now in
    let row = c.args.row.now in
    let before = c.args.pending.now in
    let after = c.add_effect.new.values.items in
    let new = c.split_at.result.1.now in
    let effect = effect_of table (option_copied p.sets) p.condition.now in
    let kept = c.if-not-is_kept.ensures.kept refl in
    let a : Adds (effect row) before.values.items after true =
    subst (λ r. Adds (effect r) before.values.items after true) c.values.ensures.values (subst (Adds (effect c.values.result.now) before.values.items after) c.if-not-branch.false c.in_ok-add_effect.ensures.answer) in
    let is_new : new ≡ drop (length before.values.items) after = search rules in
    let b = added_behind (effect row) before.values.items after new a is_new in
    record {
      answer = λ _. awaits_one table row new (effect row) before _ b.0 c.requires.whole
          (c.in_ok-push.ensures.ok ∙ ap (λ r. before.olds.items ++ r ∷ []) c.in_ok-copy.ensures.equal) b.1
          (ap (key_of table.key) (sym c.values-2.ensures.values) ∙ kept.0) kept.1;
    }
