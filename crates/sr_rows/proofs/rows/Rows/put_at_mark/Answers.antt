use Rattle.std.proofs.Common.{Some, ap, ◌∙◌}
use Rattle.std.specs.FinMap as map
use Rattle.sr_rows.specs.Inner.Gathered.{gathered, filled}
use Rattle.sr_rows.specs.Marks.{Place, Marked}
use Rattle.sr_rows.proofs.Keeping.{undoable-fresh, seen-fresh, filled-insert}
use Rattle.sr_rows.proofs.rows.Rows.put_at_mark.Goals as goal

pub invariant_of-self-2 : goal.invariant_of-self-2
invariant_of-self-2 c = undoable-fresh c.self.inside.changes.items (gathered c.self.inside.tables.entries) c.args.self.now c.self.view_is c.requires.fresh (gathered c.insert_at.new.tables.entries)

pub returns-clause-ok : goal.returns-clause-ok
returns-clause-ok c =
    let m = gathered c.self.inside.tables.entries in
    let p : Place = (c.args.table.now, c.args.key) in
    let put = ap filled c.in_ok-insert_at.ensures.ok ∙ filled-insert m p (Some c.args.row) ∙ ap (λ (v : Marked). map.insert v.rows p c.args.row) c.self.view_is in
    seen-fresh c.self.inside.changes.items (gathered c.self.inside.tables.entries) c.args.self.now c.self.view_is c.requires.fresh (gathered c.insert_at.new.tables.entries) _ put
