use Rattle.std.proofs.Common.{◌≡◌, ◌++◌, List, length}
use Rattle.sr_receive_gather.specs.Greatest.{confirm_in}
use Rattle.sr_receive_gather.specs.declared.bag.Filed.{Filed}
use Rattle.sr_receive_gather.proofs.asking.greatest_confirm.Given as goal

-- that of the files after those that are left
abbrev pub invariant-files : goal.invariant-files
invariant-files l = (behind : List Filed) × (l.files ≡ l.left ++ behind) × (l.greatest ≡ confirm_in behind)

abbrev pub decreases-files : goal.decreases-files
decreases-files l = length l.left
