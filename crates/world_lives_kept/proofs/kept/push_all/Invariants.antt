use Rattle.std.proofs.Common.{◌≡◌, ◌++◌, take}
use Rattle.world_lives_kept.proofs.kept.push_all.Given as goal

-- those so far were added
abbrev pub invariant-files : goal.invariant-files
invariant-files l = l.list ≡ l.fn.list ++ take l.file-index l.files
