use Rattle.std.proofs.Common.{◌++◌, length}
use Rattle.sr_catalog_schema.specs.Names.{HasFirsts}
use Rattle.sr_catalog_schema.proofs.named.Named.firsts_of.Given as goal

abbrev pub invariant-items : goal.invariant-items
invariant-items g l = HasFirsts g.T.HasName.name_of (l.found ++ l.rest) l.items

abbrev pub decreases-items : goal.decreases-items
decreases-items g l = length l.rest
