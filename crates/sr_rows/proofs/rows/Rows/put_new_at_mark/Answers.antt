use Rattle.std.proofs.Common.{[]}
use Rattle.std.proofs.lemmas.Result.{IfOk-weaker}
use Rattle.sr_rows.specs.Inner.Gathered.{gathered}
use Rattle.sr_rows.proofs.Filling.{fills_rows}
use Rattle.sr_rows.proofs.Keeping.{undoable-fresh}
use Rattle.sr_rows.proofs.rows.Rows.put_new_at_mark.Goals as goal

pub invariant_of-self : goal.invariant_of-self
invariant_of-self c = undoable-fresh c.self.inside.changes.items (gathered c.self.inside.tables.entries) c.args.self.now c.self.view_is c.requires.fresh (gathered c.fill_at.new.tables.entries)

pub returns-clause-told : goal.returns-clause-told
returns-clause-told c =
    IfOk-weaker c.fill_at.result _ _
    (λ free. fills_rows c.self.inside.changes.items (gathered c.self.inside.tables.entries) (gathered c.fill_at.new.tables.entries) c.args.self.now c.self.view_is c.requires.fresh (c.args.table.now, c.args.key) c.args.row free)
    c.fill_at.ensures.told
