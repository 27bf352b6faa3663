use Rattle.std.proofs.Common.{◌≡◌, rules, Some, is_some, sym, ap, subst, ◌∙◌}
use Rattle.std.specs.BTreeMap as tree
use Rattle.sr_base.specs.Order.{name_cmp}
use Rattle.sr_rows.specs.Inner.Gathered.{gathered}
use Rattle.sr_rows.specs.Inner.Hands.{with_hand}
use Rattle.sr_rows.specs.Inner.Undoing.{seen, Undoable}
use Rattle.sr_rows.proofs.Hands.{hand_taken}
use Rattle.sr_rows.proofs.at_hand.AtHand.take.Goals as goal
use Rattle.sr_rows.proofs.at_hand.AtHand.take.Goals.{After-replace-table}

-- the places are the ones before
same_places : (c : After-replace-table) → with_hand c.in-Ok.name.value c.replace-table.result (c.get_mut.follows.lender c.replace-table.new.dest).entries ≡ gathered c.rows.inside.tables.entries
same_places c =
    let es = c.rows.inside.tables.entries in
    let left = c.replace-table.new.dest in
    let fs = (c.get_mut.follows.lender left).entries in
    ap (λ t. with_hand t c.replace-table.result fs) c.in-Ok.ensures.equal
    ∙ hand_taken es fs c.args.table.now c.replace-table.result left (ap Some c.replace-table.ensures.value ∙ c.in-Some.ensures.value) ((c.get_mut.follows.holds left).3 (search rules)).0

pub invariant_of-result-2 : goal.invariant_of-result-2
invariant_of-result-2 c =
    let left = c.replace-table.new.dest in
    record {
      undoable = subst (Undoable c.rows.inside.changes.items) (sym (same_places (goal.at.invariant_of-result-2 c).After-replace-table)) c.rows.invariant;
      held = ap (λ t. is_some (tree.get_by (name_cmp t) (c.get_mut.follows.lender left))) c.in-Ok.ensures.equal ∙ ap is_some ((c.get_mut.follows.holds left).3 (search rules)).1;
    }

pub returns-clause-rows : goal.returns-clause-rows
returns-clause-rows c = ap (seen c.rows.inside.changes.items) (same_places (goal.at.returns-clause-rows c).After-replace-table) ∙ c.rows.view_is
