use Rattle.sr_world_prefix.proofs.Lasting.{not_forged, whole_unforged}
use Rattle.sr_world_prefix.proofs.letters.what_is_true_is_not_forged.Goals as goal

pub returns : goal.returns
returns c = record { whole = whole_unforged; in_part = not_forged }
