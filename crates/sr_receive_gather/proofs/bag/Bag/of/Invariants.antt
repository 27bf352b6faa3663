use Rattle.std.proofs.Common.{ℕ, List, [], length}
use Rattle.sr_receive_gather.specs.Bags.{Has}
use Rattle.sr_receive_gather.proofs.bag.Bag.of.Given as goal

-- nothing came into the partner mails so far
abbrev pub invariant-users : goal.invariant-users
invariant-users l = (user : List ℕ) → Has l.partner_mails.items user [] []

abbrev pub decreases-users : goal.decreases-users
decreases-users l = length l.left
