-- The statements that make a catalog from a new one.
use Rattle.std.specs.Prelude.{ℕ, Bool, List}
use Rattle.sr_catalog_schema.specs.declared.user.User.{User}

-- the user of a name, above or below, with an address
abbrev pub user_at : List ℕ → Bool → List ℕ → User
user_at name above address = record { name = name; above = above; address = address }
