use Rattle.std.proofs.Common.{◌≡◌, length}
use Rattle.sr_catalog_schema.specs.Names.{named}
use Rattle.sr_resolve.proofs.named.value_named.Given as goal

abbrev pub invariant-values : goal.invariant-values
invariant-values l = named (λ v. v.0) l.name l.left ≡ named (λ v. v.0) l.name l.values

abbrev pub decreases-values : goal.decreases-values
decreases-values l = length l.left
