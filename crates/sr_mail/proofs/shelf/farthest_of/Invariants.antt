use Rattle.std.proofs.Common.{take}
use Rattle.sr_mail.specs.Inner.Shelves.{EndBy}
use Rattle.sr_mail.proofs.shelf.farthest_of.Given as goal

abbrev pub invariant-loop-held : goal.invariant-loop-held
invariant-loop-held l = EndBy l.farthest (take l.held-index l.windows)
