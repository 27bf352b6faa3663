use Rattle.std.proofs.Common.{take}
use Rattle.world_lives_kept.specs.Inner.Kept.{AreOf}
use Rattle.world_lives_kept.proofs.kept.are_of.Given as goal

-- those so far are
abbrev pub invariant-files : goal.invariant-files
invariant-files l = AreOf l.fn.others (take l.file-index l.files)
