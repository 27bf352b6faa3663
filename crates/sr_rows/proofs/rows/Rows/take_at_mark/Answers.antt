use Rattle.std.proofs.Common.{sym, ap, ◌∙◌}
use Rattle.std.specs.FinMap as map
use Rattle.sr_rows.specs.Inner.Gathered.{gathered, filled, row_of}
use Rattle.sr_rows.specs.Marks.{Place, Marked}
use Rattle.sr_rows.proofs.Entries.{none_of_test}
use Rattle.sr_rows.proofs.Keeping.{undoable-fresh, seen-fresh, filled-removed, get-filled, remove-none}
use Rattle.sr_rows.proofs.rows.Rows.take_at_mark.Goals as goal

pub invariant_of-self : goal.invariant_of-self
invariant_of-self c = undoable-fresh c.self.inside.changes.items (gathered c.self.inside.tables.entries) c.args.self.now c.self.view_is c.requires.fresh (gathered c.take_at.new.tables.entries)

pub returns-then-is_place : goal.returns-then-is_place
returns-then-is_place c =
    let m = gathered c.self.inside.tables.entries in
    let p : Place = (c.args.table.now, c.args.key.now) in
    let taken = ap filled c.take_at.ensures.removed ∙ filled-removed m p ∙ ap (λ (v : Marked). map.remove v.rows p) c.self.view_is in
    record { taken = seen-fresh c.self.inside.changes.items (gathered c.self.inside.tables.entries) c.args.self.now c.self.view_is c.requires.fresh (gathered c.take_at.new.tables.entries) _ taken }

pub returns-else-is_place : goal.returns-else-is_place
returns-else-is_place c =
    let m = gathered c.self.inside.tables.entries in
    let p : Place = (c.args.table.now, c.args.key.now) in
    let none = ap row_of (none_of_test (map.get m p) c.if-is_place.ensures.there) ∙ sym (get-filled m p) ∙ ap (λ (v : Marked). map.get v.rows p) c.self.view_is in
    let same = ap (λ (v : Marked). v.rows) c.self.view_is ∙ sym (remove-none c.args.self.now.rows p (sym none)) in
    record { taken = sym c.self.view_is ∙ seen-fresh c.self.inside.changes.items (gathered c.self.inside.tables.entries) c.args.self.now c.self.view_is c.requires.fresh m _ same }
