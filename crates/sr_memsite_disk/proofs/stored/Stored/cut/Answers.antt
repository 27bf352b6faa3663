use Rattle.sr_memsite_disk.proofs.Undone.{cut_seen}
use Rattle.sr_memsite_disk.proofs.stored.Stored.cut.Goals as goal

pub returns : goal.returns
returns c = record { cut = cut_seen _ _ c.args.to _ _ c.self.view_is c.requires }
