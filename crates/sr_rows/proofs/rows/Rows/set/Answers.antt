use Rattle.std.proofs.Common.{Some, ap, false}
use Rattle.sr_rows.specs.Marks.{Marked}
use Rattle.sr_rows.specs.Inner.Gathered.{gathered}
use Rattle.sr_rows.specs.declared.undo.Undo.{Undo}
use Rattle.sr_rows.proofs.Entries.{on_err-intro}
use Rattle.sr_rows.proofs.Going.{GoesOn-step, GoesOn-same}
use Rattle.sr_rows.proofs.Keeping.{noted-there, undoable-ok, undoable-err, step-ok, step-err}
use Rattle.sr_rows.proofs.rows.Rows.set.Goals as goal

pub note_change-requires : goal.note_change-requires
note_change-requires c =
    let us = c.self.inside.changes.items in
    let u : Undo = record { table = c.in_ok-name.name; key = c.in_ok-at.at; place = c.in_ok-place.place; emptied = false } in
    let m = gathered c.self.inside.tables.entries in
    let n = gathered c.insert_at.new.tables.entries in
    record { there = noted-there us u m n (c.args.table.now, c.args.key) (Some c.args.row) (c.in_ok-name.ensures.equal) (c.in_ok-at.ensures.equal) (c.in_ok-place.ensures.before) c.in_ok-place.ensures.ok }

pub invariant_of-self-in_err-note_change : goal.invariant_of-self-in_err-note_change
invariant_of-self-in_err-note_change c =
    let us = c.self.inside.changes.items in
    let u : Undo = record { table = c.in_ok-name.name; key = c.in_ok-at.at; place = c.in_ok-place.place; emptied = false } in
    let m = gathered c.self.inside.tables.entries in
    let n = gathered c.insert_at.new.tables.entries in
    undoable-err us u m n (c.args.table.now, c.args.key) (Some c.args.row) (c.in_ok-name.ensures.equal) (c.in_ok-at.ensures.equal) (c.in_ok-place.ensures.before) c.in_ok-place.ensures.ok c.note_change.new.changes.items (gathered c.note_change.new.tables.entries) c.self.invariant c.in_err-note_change.ensures.err c.in_err-note_change.ensures.back

pub returns-in_err-note_change-clause-on : goal.returns-in_err-note_change-clause-on
returns-in_err-note_change-clause-on c =
    let us = c.self.inside.changes.items in
    let u : Undo = record { table = c.in_ok-name.name; key = c.in_ok-at.at; place = c.in_ok-place.place; emptied = false } in
    let m = gathered c.self.inside.tables.entries in
    let n = gathered c.insert_at.new.tables.entries in
    GoesOn-same c.args.self.now _ (step-err us u m n (c.args.table.now, c.args.key) (Some c.args.row) (c.in_ok-name.ensures.equal) (c.in_ok-at.ensures.equal) (c.in_ok-place.ensures.before) c.in_ok-place.ensures.ok c.note_change.new.changes.items (gathered c.note_change.new.tables.entries) c.args.self.now c.self.view_is c.in_err-note_change.ensures.err c.in_err-note_change.ensures.back)

pub returns-in_err-note_change-clause-err : goal.returns-in_err-note_change-clause-err
returns-in_err-note_change-clause-err c =
    let us = c.self.inside.changes.items in
    let u : Undo = record { table = c.in_ok-name.name; key = c.in_ok-at.at; place = c.in_ok-place.place; emptied = false } in
    let m = gathered c.self.inside.tables.entries in
    let n = gathered c.insert_at.new.tables.entries in
    on_err-intro _ (step-err us u m n (c.args.table.now, c.args.key) (Some c.args.row) (c.in_ok-name.ensures.equal) (c.in_ok-at.ensures.equal) (c.in_ok-place.ensures.before) c.in_ok-place.ensures.ok c.note_change.new.changes.items (gathered c.note_change.new.tables.entries) c.args.self.now c.self.view_is c.in_err-note_change.ensures.err c.in_err-note_change.ensures.back)

pub invariant_of-self-2 : goal.invariant_of-self-2
invariant_of-self-2 c =
    let us = c.self.inside.changes.items in
    let u : Undo = record { table = c.in_ok-name.name; key = c.in_ok-at.at; place = c.in_ok-place.place; emptied = false } in
    let m = gathered c.self.inside.tables.entries in
    let n = gathered c.insert_at.new.tables.entries in
    undoable-ok us u m n (c.args.table.now, c.args.key) (Some c.args.row) (c.in_ok-name.ensures.equal) (c.in_ok-at.ensures.equal) (c.in_ok-place.ensures.before) c.in_ok-place.ensures.ok c.note_change.new.changes.items (gathered c.note_change.new.tables.entries) c.self.invariant c.in_ok-note_change.ensures.ok c.in_ok-note_change.ensures.same

pub returns-clause-rows : goal.returns-clause-rows
returns-clause-rows c =
    let us = c.self.inside.changes.items in
    let u : Undo = record { table = c.in_ok-name.name; key = c.in_ok-at.at; place = c.in_ok-place.place; emptied = false } in
    let m = gathered c.self.inside.tables.entries in
    let n = gathered c.insert_at.new.tables.entries in
    ap (λ (v : Marked). v.rows) (step-ok us u m n (c.args.table.now, c.args.key) (Some c.args.row) (c.in_ok-name.ensures.equal) (c.in_ok-at.ensures.equal) (c.in_ok-place.ensures.before) c.in_ok-place.ensures.ok c.note_change.new.changes.items (gathered c.note_change.new.tables.entries) c.args.self.now c.self.view_is c.in_ok-note_change.ensures.ok c.in_ok-note_change.ensures.same)

pub returns-clause-on : goal.returns-clause-on
returns-clause-on c =
    let us = c.self.inside.changes.items in
    let u : Undo = record { table = c.in_ok-name.name; key = c.in_ok-at.at; place = c.in_ok-place.place; emptied = false } in
    let m = gathered c.self.inside.tables.entries in
    let n = gathered c.insert_at.new.tables.entries in
    GoesOn-step c.args.self.now _ _ (step-ok us u m n (c.args.table.now, c.args.key) (Some c.args.row) (c.in_ok-name.ensures.equal) (c.in_ok-at.ensures.equal) (c.in_ok-place.ensures.before) c.in_ok-place.ensures.ok c.note_change.new.changes.items (gathered c.note_change.new.tables.entries) c.args.self.now c.self.view_is c.in_ok-note_change.ensures.ok c.in_ok-note_change.ensures.same)
