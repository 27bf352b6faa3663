use Rattle.std.proofs.Common.{◌≡◌, Some, is_some, true, false, cond, refl, ap, ◌∙◌}
use Rattle.std.specs.Cmp.{tied_itself}
use Rattle.std.specs.FinMap as map
use Rattle.std.specs.Ordering.{is_eq}
use Rattle.sr_base.specs.Inner.Order.{key_cmp_total}
use Rattle.sr_rows.specs.declared.undo.Undo.{Undo}
use Rattle.sr_rows.specs.Inner.Hands.{seen_at_hand, Replaces}
use Rattle.sr_rows.specs.Marks.{OneAtHand}
use Rattle.sr_rows.specs.Inner.Steps.{GoesOn}
use Rattle.sr_rows.proofs.Going.{GoesOn-same}
use Rattle.sr_rows.proofs.Hands.{hand_missing, hand_undoable, hand_replaced, hand_undoable_again, hand_again}
use Rattle.sr_rows.proofs.at_hand.AtHand.replace.Goals as goal
use Rattle.sr_rows.proofs.at_hand.AtHand.replace.Goals.{In-Ok-push, After-put_back}

-- what the rows are then
abbrev Put : In-Ok-push → Type 0
Put c =
    let after = seen_at_hand c.push.new.self.items c.self.inside.name.value c.replace.new.self c.self.inside.tables.entries in
    Replaces c.args.self.now c.args.key c.args.row after true × GoesOn c.args.self.now.rows after.rows

put : (c : In-Ok-push) → Put c
put c =
    let inside = c.self.inside in
    let u : Undo = record { table = c.in_ok-name.name; key = c.args.key; place = Some c.in-Ok.place; emptied = false } in
    hand_replaced inside.changes.items u inside.tables.entries inside.name.value inside.table c.replace.new.self c.args.key c.args.row c.in-Ok.place
    c.in_ok-name.ensures.cases refl refl c.in-Ok.ensures.before c.in-Ok.ensures.set c.push.new.self.items c.args.self.now c.self.view_is c.in-Ok-push.ensures.items

-- the table with what stood there again
again : (c : After-put_back) → c.put_back.new.table ≡ map.insert c.replace.new.self c.args.key c.in-Ok.place
again c =
    let same = c.in-Err.ensures.value_returned in
    c.put_back.ensures.back c.in-Ok.place (ap (λ (u : Undo). u.place) same) ∙ ap (λ (u : Undo). map.insert c.replace.new.self u.key c.in-Ok.place) same

-- the rows are the ones before
same : (c : After-put_back) → seen_at_hand c.push.new.self.items c.self.inside.name.value c.put_back.new.table c.self.inside.tables.entries ≡ c.args.self.now
same c =
    let inside = c.self.inside in
    let u : Undo = record { table = c.in_ok-name.name; key = c.args.key; place = Some c.in-Ok.place; emptied = false } in
    hand_again inside.changes.items u inside.tables.entries inside.name.value inside.table c.replace.new.self c.args.key c.args.row c.in-Ok.place
    c.in_ok-name.ensures.cases refl refl c.in-Ok.ensures.before c.in-Ok.ensures.set c.push.new.self.items c.put_back.new.table (again c) c.in-Err.ensures.items c.args.self.now c.self.view_is

pub put_back-requires : goal.put_back-requires
put_back-requires c =
    let k = c.args.key in
    let row = Some c.args.row in
    record {
      there =
          ap (λ (u : Undo). is_some (map.get c.replace.new.self u.key)) c.in-Err.ensures.value_returned
          ∙ ap (λ m. is_some (map.get m k)) c.in-Ok.ensures.set
          ∙ ap is_some (map.get-insert key_cmp_total c.self.inside.table k row k)
          ∙ ap (λ r. is_some (cond (is_eq r) (Some row) (map.get c.self.inside.table k))) (tied_itself key_cmp_total k);
    }

pub invariant_of-self-in-Ok-push : goal.invariant_of-self-in-Ok-push
invariant_of-self-in-Ok-push c =
    let inside = c.self.inside in
    let u : Undo = record { table = c.in_ok-name.name; key = c.args.key; place = Some c.in-Ok.place; emptied = false } in
    record {
      undoable =
          hand_undoable inside.changes.items u inside.tables.entries inside.name.value inside.table c.replace.new.self c.args.key c.args.row c.in-Ok.place
          c.in_ok-name.ensures.cases refl refl c.in-Ok.ensures.before c.in-Ok.ensures.set c.push.new.self.items c.self.invariant.undoable c.in-Ok-push.ensures.items;
      held = c.self.invariant.held;
    }

pub invariant_of-self-in-Err : goal.invariant_of-self-in-Err
invariant_of-self-in-Err c =
    let inside = c.self.inside in
    let u : Undo = record { table = c.in_ok-name.name; key = c.args.key; place = Some c.in-Ok.place; emptied = false } in
    let d = (goal.at.invariant_of-self-in-Err c).After-put_back in
    record {
      undoable =
          hand_undoable_again inside.changes.items u inside.tables.entries inside.name.value inside.table c.replace.new.self c.args.key c.args.row c.in-Ok.place
          c.in_ok-name.ensures.cases refl refl c.in-Ok.ensures.before c.in-Ok.ensures.set c.push.new.self.items c.put_back.new.table (again d) c.in-Err.ensures.items c.self.invariant.undoable;
      held = c.self.invariant.held;
    }

pub returns-in-Ok-push-clause-replaced : goal.returns-in-Ok-push-clause-replaced
returns-in-Ok-push-clause-replaced c = (put (goal.at.returns-in-Ok-push-clause-replaced c).In-Ok-push).0

pub returns-in-Ok-push-clause-on : goal.returns-in-Ok-push-clause-on
returns-in-Ok-push-clause-on c = (put (goal.at.returns-in-Ok-push-clause-on c).In-Ok-push).1

pub returns-in-Err-clause-on : goal.returns-in-Err-clause-on
returns-in-Err-clause-on c = GoesOn-same c.args.self.now.rows _ (ap (λ (h : OneAtHand). h.rows) (same (goal.at.returns-in-Err-clause-on c).After-put_back))

pub returns-in-Err-clause-err : goal.returns-in-Err-clause-err
returns-in-Err-clause-err c = same (goal.at.returns-in-Err-clause-err c).After-put_back

pub returns-in_default-clause-replaced : goal.returns-in_default-clause-replaced
returns-in_default-clause-replaced c =
    let inside = c.self.inside in
    let missing = c.in_default.ensures in (
      hand_missing inside.changes.items inside.tables.entries inside.name.value inside.table c.args.key c.args.self.now c.self.view_is missing.before,
      (λ i. seen_at_hand inside.changes.items inside.name.value (missing.err i) inside.tables.entries) ∙ c.self.view_is,
    )
