use Rattle.sr_resolve_triggers.proofs.Leaving.{leaves}
use Rattle.sr_resolve_triggers.proofs.laws.what_triggers_leave_fits.Goals as goal

pub returns : goal.returns
returns c = record { left = leaves }
