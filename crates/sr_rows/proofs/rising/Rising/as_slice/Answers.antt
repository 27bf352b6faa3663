use Rattle.std.proofs.Common.{sym, ap, ◌∙◌}
use Rattle.std.specs.FinMap as map
use Rattle.sr_rows.proofs.Cursors.{entries_again}
use Rattle.sr_rows.proofs.rising.Rising.as_slice.Goals as goal

pub returns : goal.returns
returns c = record { all = c.as_slice.ensures.value ∙ sym (entries_again c.self.inside.places.items c.self.invariant) ∙ ap map.entries c.self.view_is }
