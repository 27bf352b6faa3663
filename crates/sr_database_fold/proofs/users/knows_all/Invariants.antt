use Rattle.std.proofs.Common.{◌↔◌, IsSome, length}
use Rattle.std.specs.List.{AllByRecursion}
use Rattle.sr_catalog_schema.specs.Members.{user_name}
use Rattle.sr_catalog_schema.specs.Names.{named}
use Rattle.sr_database_fold.proofs.users.knows_all.Given as goal

abbrev pub invariant-users : goal.invariant-users
invariant-users l = AllByRecursion (λ user. IsSome (named user_name user l.catalog.users)) l.users
    ↔ AllByRecursion (λ user. IsSome (named user_name user l.catalog.users)) l.left

abbrev pub decreases-users : goal.decreases-users
decreases-users l = length l.left
