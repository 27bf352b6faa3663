use Rattle.std.proofs.Common.{◌-◌}
use Rattle.sr_memsite.specs.Inner.Meaning.{seen_of}
use Rattle.dbremote_demo_draws.proofs.EntriesRead.{AreRead}
use Rattle.dbremote_demo_draws.proofs.reading.entries_of.Given as goal

-- the entries read so far are those before the offset
abbrev pub invariant-entries : goal.invariant-entries
invariant-entries l = AreRead l.database l.entries.items l.after (seen_of l.fn.site) (seen_of l.site)

abbrev pub decreases-entries : goal.decreases-entries
decreases-entries l = l.database.log.end - l.after.0
