use Rattle.std.proofs.Common.{Some, sym, ap, ◌∙◌}
use Rattle.sr_rows.specs.Inner.Gathered.{gathered, filled}
use Rattle.sr_rows.proofs.Keeping.{filled-swept}
use Rattle.sr_rows.proofs.rows.sweep.Goals as goal

pub returns-in-Some-None : goal.returns-in-Some-None
returns-in-Some-None c = record {
  same = ap filled c.remove_at.ensures.removed ∙ filled-swept (gathered c.args.tables.now.entries) (c.as_ref-table.result.now, c.args.change.key) (sym c.in-Some-None.ensures.place ∙ ap Some c.in-Some-None.field-0-is);
}
