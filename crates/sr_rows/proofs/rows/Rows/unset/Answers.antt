use Rattle.std.proofs.Common.{Some, None, true, sym, ap, ◌∙◌}
use Rattle.std.specs.FinMap as map
use Rattle.sr_rows.specs.Marks.{Place, Marked}
use Rattle.sr_rows.specs.Inner.Gathered.{gathered, row_of}
use Rattle.sr_rows.specs.declared.undo.Undo.{Undo}
use Rattle.sr_rows.proofs.Entries.{on_err-intro, none_of_test}
use Rattle.sr_rows.proofs.Going.{GoesOn-step, GoesOn-same}
use Rattle.sr_rows.proofs.Keeping.{noted-there, undoable-ok, undoable-err, step-ok, step-err, get-filled, remove-none}
use Rattle.sr_rows.proofs.rows.Rows.unset.Goals as goal

pub note_change-requires : goal.note_change-requires
note_change-requires c =
    let us = c.self.inside.changes.items in
    let u : Undo = record { table = c.in_ok-name.name; key = c.args.key; place = Some c.empty_at-place.result; emptied = true } in
    let m = gathered c.self.inside.tables.entries in
    let n = gathered c.empty_at-place.new.tables.entries in
    record { there = noted-there us u m n (c.args.table.now, c.args.key) None (c.in_ok-name.ensures.equal) (λ i. c.args.key) (sym c.empty_at-place.ensures.before) c.empty_at-place.ensures.set }

pub invariant_of-self : goal.invariant_of-self
invariant_of-self c =
    let us = c.self.inside.changes.items in
    let u : Undo = record { table = c.in_ok-name.name; key = c.args.key; place = Some c.empty_at-place.result; emptied = true } in
    let m = gathered c.self.inside.tables.entries in
    let n = gathered c.empty_at-place.new.tables.entries in
    undoable-err us u m n (c.args.table.now, c.args.key) None (c.in_ok-name.ensures.equal) (λ i. c.args.key) (sym c.empty_at-place.ensures.before) c.empty_at-place.ensures.set c.note_change.new.changes.items (gathered c.note_change.new.tables.entries) c.self.invariant c.in_err-note_change.ensures.err c.in_err-note_change.ensures.back

pub returns-in_err-note_change-clause-on : goal.returns-in_err-note_change-clause-on
returns-in_err-note_change-clause-on c =
    let us = c.self.inside.changes.items in
    let u : Undo = record { table = c.in_ok-name.name; key = c.args.key; place = Some c.empty_at-place.result; emptied = true } in
    let m = gathered c.self.inside.tables.entries in
    let n = gathered c.empty_at-place.new.tables.entries in
    GoesOn-same c.args.self.now _ (step-err us u m n (c.args.table.now, c.args.key) None (c.in_ok-name.ensures.equal) (λ i. c.args.key) (sym c.empty_at-place.ensures.before) c.empty_at-place.ensures.set c.note_change.new.changes.items (gathered c.note_change.new.tables.entries) c.args.self.now c.self.view_is c.in_err-note_change.ensures.err c.in_err-note_change.ensures.back)

pub returns-in_err-note_change-clause-err : goal.returns-in_err-note_change-clause-err
returns-in_err-note_change-clause-err c =
    let us = c.self.inside.changes.items in
    let u : Undo = record { table = c.in_ok-name.name; key = c.args.key; place = Some c.empty_at-place.result; emptied = true } in
    let m = gathered c.self.inside.tables.entries in
    let n = gathered c.empty_at-place.new.tables.entries in
    on_err-intro _ (step-err us u m n (c.args.table.now, c.args.key) None (c.in_ok-name.ensures.equal) (λ i. c.args.key) (sym c.empty_at-place.ensures.before) c.empty_at-place.ensures.set c.note_change.new.changes.items (gathered c.note_change.new.tables.entries) c.args.self.now c.self.view_is c.in_err-note_change.ensures.err c.in_err-note_change.ensures.back)

pub invariant_of-self-2 : goal.invariant_of-self-2
invariant_of-self-2 c =
    let us = c.self.inside.changes.items in
    let u : Undo = record { table = c.in_ok-name.name; key = c.args.key; place = Some c.empty_at-place.result; emptied = true } in
    let m = gathered c.self.inside.tables.entries in
    let n = gathered c.empty_at-place.new.tables.entries in
    undoable-ok us u m n (c.args.table.now, c.args.key) None (c.in_ok-name.ensures.equal) (λ i. c.args.key) (sym c.empty_at-place.ensures.before) c.empty_at-place.ensures.set c.note_change.new.changes.items (gathered c.note_change.new.tables.entries) c.self.invariant c.in_ok-note_change.ensures.ok c.in_ok-note_change.ensures.same

pub returns-clause-rows : goal.returns-clause-rows
returns-clause-rows c =
    let us = c.self.inside.changes.items in
    let u : Undo = record { table = c.in_ok-name.name; key = c.args.key; place = Some c.empty_at-place.result; emptied = true } in
    let m = gathered c.self.inside.tables.entries in
    let n = gathered c.empty_at-place.new.tables.entries in
    ap (λ (v : Marked). v.rows) (step-ok us u m n (c.args.table.now, c.args.key) None (c.in_ok-name.ensures.equal) (λ i. c.args.key) (sym c.empty_at-place.ensures.before) c.empty_at-place.ensures.set c.note_change.new.changes.items (gathered c.note_change.new.tables.entries) c.args.self.now c.self.view_is c.in_ok-note_change.ensures.ok c.in_ok-note_change.ensures.same)

pub returns-clause-on : goal.returns-clause-on
returns-clause-on c =
    let us = c.self.inside.changes.items in
    let u : Undo = record { table = c.in_ok-name.name; key = c.args.key; place = Some c.empty_at-place.result; emptied = true } in
    let m = gathered c.self.inside.tables.entries in
    let n = gathered c.empty_at-place.new.tables.entries in
    GoesOn-step c.args.self.now _ _ (step-ok us u m n (c.args.table.now, c.args.key) None (c.in_ok-name.ensures.equal) (λ i. c.args.key) (sym c.empty_at-place.ensures.before) c.empty_at-place.ensures.set c.note_change.new.changes.items (gathered c.note_change.new.tables.entries) c.args.self.now c.self.view_is c.in_ok-note_change.ensures.ok c.in_ok-note_change.ensures.same)

pub returns-then-not-is_place-clause-rows : goal.returns-then-not-is_place-clause-rows
returns-then-not-is_place-clause-rows c =
    let m = gathered c.self.inside.tables.entries in
    let p : Place = (c.args.table.now, c.args.key) in
    let none = ap row_of (none_of_test (map.get m p) c.if-not-is_place.ensures.there) ∙ sym (get-filled m p) ∙ ap (λ (v : Marked). map.get v.rows p) c.self.view_is in
    sym (remove-none c.args.self.now.rows p (sym none))
