use Rattle.std.proofs.Common.{◌≡◌, length, map}
use Rattle.sr_catalog_schema.specs.Firsts.{first_again, first_twice}
use Rattle.sr_catalog_schema.proofs.firsts.first_twice_of.Given as goal

abbrev pub invariant-items : goal.invariant-items
invariant-items g l = first_again l.seen (map g.T.HasName.name_of l.rest) ≡ first_twice (map g.T.HasName.name_of l.items)

abbrev pub decreases-items : goal.decreases-items
decreases-items g l = length l.rest
