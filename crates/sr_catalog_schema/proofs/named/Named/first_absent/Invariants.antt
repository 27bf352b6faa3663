use Rattle.std.proofs.Common.{◌≡◌, length}
use Rattle.sr_catalog_schema.specs.Firsts.{first_absent}
use Rattle.sr_catalog_schema.specs.Names.{taken}
use Rattle.sr_catalog_schema.proofs.named.Named.first_absent.Given as goal

abbrev pub invariant-names : goal.invariant-names
invariant-names g l = first_absent (λ n. taken g.T.HasName.name_of n l.self) l.rest ≡ first_absent (λ n. taken g.T.HasName.name_of n l.self) l.names

abbrev pub decreases-names : goal.decreases-names
decreases-names g l = length l.rest
