-- GRANT REMOTE and GRANT CONSOLIDATE, where a user stands, and the users of PASSTHROUGH.
use Rattle.std.specs.Prelude.{ℕ, Bool, false, not, ◌&&◌, ◌||◌, nat_le, List, length, Option, Some, None, bytes_eq}
use Rattle.std.specs.List.{list_any}
use Rattle.sr_catalog_schema.specs.Members.{user_name}
use Rattle.sr_base.specs.Names.{is_name, lowered}
use Rattle.sr_ast.specs.declared.create.Grant.{Grant}
use Rattle.sr_catalog_schema.specs.Catalogs.{Lists}
use Rattle.sr_catalog_schema.specs.Causes.{Causes, no_cause}
use Rattle.sr_catalog_schema.specs.Firsts.{first_among, where_true}
use Rattle.sr_catalog_schema.specs.Names.{named, taken}
use Rattle.sr_catalog_schema.specs.declared.user.User.{User}

-- an address that is no name
abbrev pub is_bad_address : Option (List ℕ) → Bool
is_bad_address None = false
is_bad_address (Some text) = not (is_name text)

-- a user that is there, is the publisher, or would be the second above
abbrev pub is_taken : Lists → Bool → List ℕ → Bool
is_taken c above n = taken user_name n c.users || (bytes_eq n c.publisher || (above && list_any (λ u. u.above) c.users))

-- what speaks against a GRANT: the user is there, is the publisher, or would be the second above; an address that is no name; there
-- are 1,024 users already
unfoldable pub grant_causes : Lists → Bool → Grant → Causes
grant_causes c above g = record no_cause {
  exists = where_true (is_taken c above g.user) g.user;
  bad_type = where_true (is_bad_address g.address) g.user;
  too_many = where_true (nat_le 1024 (length c.users)) 1024;
}

-- the address, in lower case; the user's name where none is given
abbrev pub address_of : List ℕ → Option (List ℕ) → List ℕ
address_of user None = user
address_of user (Some text) = lowered text

-- the user that a GRANT makes
unfoldable pub user_of : Bool → Grant → User
user_of above g = record { name = g.user; above = above; address = address_of g.user g.address }

-- whether a user is there, and below
abbrev pub is_remote : Option User → Bool
is_remote None = false
is_remote (Some u) = not u.above

-- whether a user is there, and above
abbrev pub stands_above : Option User → Bool
stands_above None = false
stands_above (Some u) = u.above

-- what speaks against PASSTHROUGH FOR: a user that is not REMOTE
unfoldable pub passthrough_causes : Lists → List (List ℕ) → Causes
passthrough_causes c users = record no_cause {
  missing = first_among (λ n. where_true (not (is_remote (named user_name n c.users))) n) users;
}
