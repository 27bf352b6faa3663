use Rattle.std.proofs.Common.{◌∙◌, arith}
use Rattle.sr_resolve_triggers.proofs.Fires.{any_fires}
use Rattle.sr_resolve_triggers.proofs.firing.is_fired.Goals as goal

pub returns-in-len1-up : goal.returns-in-len1-up
returns-in-len1-up c = c.is_any_among.ensures ∙ any_fires c.args.differing.now c.args.columns.now (omega arith)
