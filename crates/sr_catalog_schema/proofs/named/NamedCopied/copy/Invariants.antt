use Rattle.std.proofs.Common.{◌≡◌, ◌++◌, length}
use Rattle.sr_catalog_schema.proofs.named.NamedCopied.copy.Given as goal

abbrev pub invariant-items : goal.invariant-items
invariant-items g l = l.copies ++ l.rest ≡ l.self

abbrev pub decreases-items : goal.decreases-items
decreases-items g l = length l.rest
