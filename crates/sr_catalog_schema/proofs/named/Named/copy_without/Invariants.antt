use Rattle.std.proofs.Common.{◌≡◌, ◌++◌, length}
use Rattle.sr_catalog_schema.specs.Names.{without}
use Rattle.sr_catalog_schema.proofs.named.Named.copy_without.Given as goal

abbrev pub invariant-items : goal.invariant-items
invariant-items g l = l.copies ++ without g.T.HasName.name_of l.name l.rest ≡ without g.T.HasName.name_of l.name l.self

abbrev pub decreases-items : goal.decreases-items
decreases-items g l = length l.rest
