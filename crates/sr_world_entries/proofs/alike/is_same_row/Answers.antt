use Rattle.std.proofs.Common.{ap, ◌∙◌}
use Rattle.std.specs.Ordering.{is_eq}
use Rattle.sr_world_entries.proofs.Ties.{same_where}
use Rattle.sr_world_entries.proofs.alike.is_same_row.Goals as goal

pub returns : goal.returns
returns c = record {
  same = same_where c.is_eq.result c.args.row.now c.args.other.now (c.is_eq.ensures ∙ ap is_eq c.cmp.ensures);
}
