use Rattle.std.proofs.Common.{◌≡◌, length}
use Rattle.std.specs.Prelude.{not}
use Rattle.sr_catalog_schema.specs.Firsts.{first_among, where_true}
use Rattle.sr_catalog_schema.specs.Names.{named}
use Rattle.sr_catalog_schema.specs.Members.{user_name}
use Rattle.sr_catalog_ddl.specs.Users.{is_remote}
use Rattle.sr_catalog_ddl.proofs.grants.first_not_remote.Given as goal

abbrev pub invariant-users : goal.invariant-users
invariant-users l =
    first_among (λ n. where_true (not (is_remote (named user_name n l.schema.users))) n) l.rest
    ≡ first_among (λ n. where_true (not (is_remote (named user_name n l.schema.users))) n) l.users

abbrev pub decreases-users : goal.decreases-users
decreases-users l = length l.rest
