use Rattle.std.proofs.Common.{length, sym, ap, ◌∙◌}
use Rattle.sr_rows.specs.Inner.Gathered.{gathered}
use Rattle.sr_rows.specs.Marks.{Marked}
use Rattle.sr_rows.proofs.Keeping.{length-trail}
use Rattle.sr_rows.proofs.rows.Rows.steps.Goals as goal

pub returns : goal.returns
returns c = record {
  steps = ap length c.as_slice.ensures.value ∙ sym (length-trail c.self.inside.changes.items (gathered c.self.inside.tables.entries)) ∙ ap (λ (v : Marked). length v.trail) c.self.view_is;
}
