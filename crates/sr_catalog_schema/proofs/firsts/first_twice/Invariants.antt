use Rattle.std.proofs.Common.{◌≡◌, length}
use Rattle.sr_catalog_schema.specs.Firsts.{first_again, first_twice}
use Rattle.sr_catalog_schema.proofs.firsts.first_twice.Given as goal

abbrev pub invariant-names : goal.invariant-names
invariant-names l = first_again l.seen l.rest ≡ first_twice l.names

abbrev pub decreases-names : goal.decreases-names
decreases-names l = length l.rest
