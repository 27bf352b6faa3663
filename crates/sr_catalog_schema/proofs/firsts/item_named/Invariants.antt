use Rattle.std.proofs.Common.{◌≡◌, length}
use Rattle.sr_catalog_schema.specs.Names.{named}
use Rattle.sr_catalog_schema.proofs.firsts.item_named.Given as goal

abbrev pub invariant-items : goal.invariant-items
invariant-items g l = named g.T.HasName.name_of l.name l.rest ≡ named g.T.HasName.name_of l.name l.items

abbrev pub decreases-items : goal.decreases-items
decreases-items g l = length l.rest
