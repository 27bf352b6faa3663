-- So far the copies are the items that were passed.
use Rattle.std.proofs.Common.{◌≡◌, take}
use Rattle.sr_base.proofs.seq.SeqCopied.copy.Given as goal

abbrev pub invariant-loop-item : goal.invariant-loop-item
invariant-loop-item g l = l.items.items ≡ take l.item-index l.item-items
