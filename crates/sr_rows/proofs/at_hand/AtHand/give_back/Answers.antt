use Rattle.std.proofs.Common.{◌≡◌, rules, sym, ap, subst, ◌∙◌}
use Rattle.std.specs.BTreeMap as tree
use Rattle.sr_base.specs.Order.{name_cmp}
use Rattle.sr_rows.specs.Inner.Gathered.{gathered}
use Rattle.sr_rows.specs.Inner.Hands.{with_hand}
use Rattle.sr_rows.specs.Marks.{OneAtHand}
use Rattle.sr_rows.specs.Inner.Undoing.{seen, Undoable}
use Rattle.sr_rows.proofs.Entries.{there_not_none}
use Rattle.sr_rows.proofs.Hands.{hand_given}
use Rattle.sr_rows.proofs.at_hand.AtHand.give_back.Goals as goal
use Rattle.sr_rows.proofs.at_hand.AtHand.give_back.Goals.{Joined-get_mut, in-Some, in-None}

-- the places are the ones before
same_places : (c : Joined-get_mut) → gathered c.match-get_mut.tables.entries ≡ with_hand c.self.inside.name.value c.self.inside.table c.self.inside.tables.entries
same_places c =
    let fs = c.self.inside.tables.entries in
    let name = c.self.inside.name.value in
    elim c.match-get_mut.branch [
      | in-Some w ↦
          let table = w.replace.new.dest in
          let es = (c.get_mut.follows.lender table).entries in
          ap (λ (m : tree.BTreeMap _ _). gathered m.entries) w.tables-is
          ∙ hand_given es fs c.as_ref.result.now table ((c.get_mut.follows.holds table).3 (search rules)).0
          ∙ (λ i. with_hand (c.as_ref.ensures i) (w.replace.ensures.after i) fs)
      | in-None w ↦ there_not_none (tree.get_by (name_cmp name) c.self.inside.tables) (ap (λ t. tree.get_by (name_cmp t) c.self.inside.tables) (sym c.as_ref.ensures) ∙ sym w.in-None.ensures.value) c.self.invariant.held
    ]

pub invariant_of-result : goal.invariant_of-result
invariant_of-result c = subst (Undoable c.self.inside.changes.items) (sym (same_places (goal.at.invariant_of-result c).Joined-get_mut)) c.self.invariant.undoable

pub returns : goal.returns
returns c = record { rows = ap (seen c.self.inside.changes.items) (same_places (goal.at.returns c).Joined-get_mut) ∙ ap (λ (h : OneAtHand). h.rows) c.self.view_is }
