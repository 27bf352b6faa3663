use Rattle.std.proofs.Common.{ap, ◌∙◌}
use Rattle.sr_rows.specs.Inner.Gathered.{gathered}
use Rattle.sr_rows.specs.Marks.{Marked}
use Rattle.sr_rows.specs.Steps.{without_table}
use Rattle.sr_rows.proofs.Keeping.{undoable-fresh, seen-fresh, filled-without}
use Rattle.sr_rows.proofs.rows.Rows.clear.Goals as goal

pub invariant_of-self : goal.invariant_of-self
invariant_of-self c = undoable-fresh c.self.inside.changes.items (gathered c.self.inside.tables.entries) c.args.self.now c.self.view_is c.requires.fresh (gathered c.remove.new.self.entries)

pub returns : goal.returns
returns c =
    let es = c.self.inside.tables.entries in
    let fs = c.remove.new.self.entries in
    let gone = filled-without es fs c.args.table.now c.remove.ensures.updates.0 in
    record { cleared = seen-fresh c.self.inside.changes.items (gathered c.self.inside.tables.entries) c.args.self.now c.self.view_is c.requires.fresh (gathered fs) _ (gone ∙ ap (λ (v : Marked). without_table v.rows c.args.table.now) c.self.view_is) }
