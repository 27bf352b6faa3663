use Rattle.std.proofs.Common.{◌≡◌, ◌++◌, [], ◌∷◌, Some, Ok, sym, ap, ◌∙◌}
use Rattle.std.proofs.lemmas.Result.{err_from_is_err_and}
use Rattle.std.specs.Option.{option_copied}
use Rattle.sr_exec_dml.specs.declared.effect.RowEffect.TheVariants.{Becomes}
use Rattle.sr_exec_where.specs.Keys.{key_of}
use Rattle.sr_exec_dml.specs.Statements.{effect_of}
use Rattle.sr_exec_dml.proofs.Alone.{not_there, picked_by, it_faults, it_stays, it_goes, it_becomes}
use Rattle.sr_exec_dml.proofs.single.moved_at.Goals as goal

pub returns-in_default : goal.returns-in_default
returns-in_default c = record {
  answer = not_there c.args.table.now c.args.rows.now.rows (option_copied c.args.prepared.now.sets) c.args.prepared.now.condition.now c.args.key.now c.and_holds_where_both_hold.ensures.held c.requires.rows c.requires.key
      (sym c.in_default.ensures.row)
      ∙ ap (λ x. Ok x) (sym c.no_changes.ensures.none);
}

pub returns-in_err-effect_of : goal.returns-in_err-effect_of
returns-in_err-effect_of c =
    let t = c.args.table.now in
    let s = option_copied c.args.prepared.now.sets in
    let d = c.args.prepared.now.condition.now in
    let p = err_from_is_err_and c.from_residual.result c.from_residual.ensures.1 in
    rw (p.1, p.2) (record {
      answer = λ ne. it_faults t c.args.rows.now.rows s d c.args.key.now c.and_holds_where_both_hold.ensures.held c.requires.rows c.requires.key c.in-Some.row.now (sym c.in-Some.ensures.row) _
          (ap (effect_of t s d) (sym c.values.ensures.values) ∙ c.in_err-effect_of.ensures.answer ne);
    })

pub returns-then-is_same_key : goal.returns-then-is_same_key
returns-then-is_same_key c =
    let t = c.args.table.now in
    let s = option_copied c.args.prepared.now.sets in
    let d = c.args.prepared.now.condition.now in
    let row = c.in-Some.row.now in
    let new = c.in-Becomes.new in
    let is : effect_of t s d row ≡ Ok (Becomes new) = ap (effect_of t s d) (sym c.values.ensures.values) ∙ c.in_ok-effect_of.ensures.answer ∙ ap (λ x. Ok x) c.in-Becomes.is in
    let same : key_of t.key row ≡ key_of t.key new =
    sym (λ i. key_of (c.as_slice.ensures.items i) (c.values-in-Becomes.ensures.values i)) ∙ c.is_same_key.ensures.same c.if-is_same_key.true
    ∙ (λ i. key_of (c.as_slice.ensures.items i) (c.values-in-Becomes-2.ensures.values i)) in
    record {
      answer = it_becomes t c.args.rows.now.rows s d c.args.key.now c.and_holds_where_both_hold.ensures.held c.requires.rows c.requires.key row (sym c.in-Some.ensures.row) new is same
          ∙ ap (λ x. Ok x) (sym c.in_ok-one_change-in-Becomes.ensures.one);
    }

pub returns-in-Stays : goal.returns-in-Stays
returns-in-Stays c =
    let t = c.args.table.now in
    let s = option_copied c.args.prepared.now.sets in
    let d = c.args.prepared.now.condition.now in
    record {
      answer = it_stays t c.args.rows.now.rows s d c.args.key.now c.and_holds_where_both_hold.ensures.held c.requires.rows c.requires.key c.in-Some.row.now (sym c.in-Some.ensures.row)
          (ap (effect_of t s d) (sym c.values.ensures.values) ∙ c.in_ok-effect_of.ensures.answer ∙ ap (λ x. Ok x) c.in-Stays.is)
          ∙ ap (λ x. Ok x) (sym c.no_changes-in-Stays.ensures.none);
    }

pub returns-in_ok-one_change-in-Goes : goal.returns-in_ok-one_change-in-Goes
returns-in_ok-one_change-in-Goes c =
    let t = c.args.table.now in
    let s = option_copied c.args.prepared.now.sets in
    let d = c.args.prepared.now.condition.now in
    record {
      answer = it_goes t c.args.rows.now.rows s d c.args.key.now c.and_holds_where_both_hold.ensures.held c.requires.rows c.requires.key c.in-Some.row.now (sym c.in-Some.ensures.row)
          (ap (effect_of t s d) (sym c.values.ensures.values) ∙ c.in_ok-effect_of.ensures.answer ∙ ap (λ x. Ok x) c.in-Goes.is)
          ∙ ap (λ x. Ok x) (sym c.in_ok-one_change-in-Goes.ensures.one);
    }

pub returns-in_ok-push-in-Becomes : goal.returns-in_ok-push-in-Becomes
returns-in_ok-push-in-Becomes c =
    let t = c.args.table.now in
    let s = option_copied c.args.prepared.now.sets in
    let d = c.args.prepared.now.condition.now in
    let new = c.in-Becomes.new in
    let is : effect_of t s d c.in-Some.row.now ≡ Ok (Becomes new) = ap (effect_of t s d) (sym c.values.ensures.values) ∙ c.in_ok-effect_of.ensures.answer ∙ ap (λ x. Ok x) c.in-Becomes.is in
    let picked = picked_by t c.args.rows.now.rows s d c.args.key.now c.and_holds_where_both_hold.ensures.held c.requires.rows c.requires.key c.in-Some.row.now (sym c.in-Some.ensures.row) (Ok (Becomes new)) is in
    let items : c.push.new.list.items ≡ (c.args.key.now, Some new) ∷ [] =
    c.in_ok-push-in-Becomes.ensures.ok ∙ (λ i. c.in_ok-picks-in-Becomes.ensures.items i ++ (c.in_ok-copy-in-Becomes.ensures.equal i, Some new) ∷ []) in
    record { answer = c.settle_picks.ensures.answer s d (picked ∙ ap (λ x. Ok x) (sym items)) }
