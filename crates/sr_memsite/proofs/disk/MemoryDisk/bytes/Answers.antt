use Rattle.std.proofs.Common.{◌∙◌, ap}
use Rattle.sr_memsite_disk.specs.Store.{Store}
use Rattle.sr_memsite.proofs.Crashes.{bytes_seen}
use Rattle.sr_memsite.proofs.disk.MemoryDisk.bytes.Goals as goal

pub returns : goal.returns
returns c = record { bytes = c.bytes.ensures.bytes ∙ ap (λ (s : Store). s.bytes) c.file.ensures.store ∙ bytes_seen c.self.inside.files c.self.inside.calls.steps c.args.self.now c.args.file c.self.invariant c.self.view_is }
