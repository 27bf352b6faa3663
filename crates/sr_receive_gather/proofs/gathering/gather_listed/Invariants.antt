use Rattle.std.proofs.Common.{length}
use Rattle.sr_receive_gather.proofs.Gatherings.{IsGathering}
use Rattle.sr_receive_gather.proofs.gathering.gather_listed.Given as goal

-- the files before those that are left are gathered
abbrev pub invariant-names : goal.invariant-names
invariant-names g l = IsGathering l.catalog l.end (g.S.Held.seen l.fn.site) (g.S.Held.seen l.site) l.listing l.left l.fn.bag l.bag l.fn.reports.items l.reports.items

abbrev pub decreases-names : goal.decreases-names
decreases-names g l = length l.left
