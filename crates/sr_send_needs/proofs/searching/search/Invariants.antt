use Rattle.std.proofs.Common.{◌-◌}
use Rattle.sr_send_needs.specs.Inner.Searching.{SearchedTo}
use Rattle.sr_send_needs.proofs.searching.search.Given as goal

-- nothing that the user needs was found up to here
abbrev pub invariant-entries : goal.invariant-entries
invariant-entries g l = SearchedTo l.db l.sent.0 l.fn.scanner.user l.scanner l.at (g.S.Held.seen l.fn.site) (g.S.Held.seen l.site)

abbrev pub decreases-entries : goal.decreases-entries
decreases-entries g l = l.db.log.end - l.at.0
