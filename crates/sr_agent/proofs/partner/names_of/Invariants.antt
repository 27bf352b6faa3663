use Rattle.std.proofs.Common.{◌≡◌, ◌++◌, length}
use Rattle.std.specs.Prelude.{map}
use Rattle.sr_catalog_schema.specs.Members.{user_name}
use Rattle.sr_agent.proofs.partner.names_of.Given as goal

-- the names that were copied, and those of the users that are left
abbrev pub invariant-users : goal.invariant-users
invariant-users l = l.names.items ++ map user_name l.left ≡ map user_name l.users

abbrev pub decreases-users : goal.decreases-users
decreases-users l = length l.left
