use Rattle.std.proofs.Common.{◌≡◌, take}
use Rattle.sr_base.specs.Names.{lowered}
use Rattle.sr_base.proofs.name_bytes.lowered.Given as goal

abbrev pub invariant-loop-byte : goal.invariant-loop-byte
invariant-loop-byte l = l.lower.items ≡ lowered (take l.byte-index l.bytes)
