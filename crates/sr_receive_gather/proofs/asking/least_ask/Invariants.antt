use Rattle.std.proofs.Common.{◌≡◌, ◌++◌, List, length}
use Rattle.sr_receive_gather.specs.Greatest.{least_ask}
use Rattle.sr_receive_gather.specs.declared.bag.Filed.{Filed}
use Rattle.sr_receive_gather.proofs.asking.least_ask.Given as goal

-- that of the files after those that are left
abbrev pub invariant-files : goal.invariant-files
invariant-files l = (behind : List Filed) × (l.files ≡ l.left ++ behind) × (l.least ≡ least_ask l.count behind)

abbrev pub decreases-files : goal.decreases-files
decreases-files l = length l.left
