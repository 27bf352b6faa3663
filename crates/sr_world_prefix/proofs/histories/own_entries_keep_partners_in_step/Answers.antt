use Rattle.sr_world_prefix.proofs.Lasting.{own_partners}
use Rattle.sr_world_prefix.proofs.histories.own_entries_keep_partners_in_step.Goals as goal

pub returns : goal.returns
returns c = record { own = own_partners }
