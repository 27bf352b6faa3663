use Rattle.std.proofs.Common.{◌≡◌, ◌++◌, List, length}
use Rattle.sr_receive_gather.specs.Greatest.{count_in}
use Rattle.sr_receive_gather.specs.declared.bag.Filed.{Filed}
use Rattle.sr_receive_gather.proofs.asking.greatest_count.Given as goal

-- that of the files after those that are left
abbrev pub invariant-files : goal.invariant-files
invariant-files l = (behind : List Filed) × (l.files ≡ l.left ++ behind) × (l.greatest ≡ count_in behind)

abbrev pub decreases-files : goal.decreases-files
decreases-files l = length l.left
