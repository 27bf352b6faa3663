use Rattle.std.proofs.Common.{length}
use Rattle.sr_scan.proofs.Covering.{Covers}
use Rattle.sr_scan.proofs.views.views_of.Given as goal

abbrev pub invariant-tables : goal.invariant-tables
invariant-tables l = Covers l.catalog l.user l.views l.left

abbrev pub decreases-tables : goal.decreases-tables
decreases-tables l = length l.left
