-- What a statement does to a survey besides its catalog.
use Rattle.std.specs.Prelude.{◌≡◌, ◌⊎◌, ℕ, ◌≤◌, max, Bool, true, false, List, Some, bytes_eq}
use Rattle.std.specs.List.{All, Contains}
use Rattle.sr_ast.specs.declared.stmt.Stmt.{Stmt}
use Rattle.sr_ast.specs.declared.stmt.Stmt.TheVariants as stmt
use Rattle.sr_book.specs.Entries.{Name}
use Rattle.sr_survey.specs.Inner.Alike.{touches}
use Rattle.sr_survey.specs.Inner.Following.{keys_at, since_of, started_by, IsKeyOf, IsOfRule, IsNoted, StillKnows}
use Rattle.sr_survey.specs.declared.survey.Survey.{Survey}
use Rattle.sr_survey_places.specs.declared.key.Key.{Key}

-- keys are a user's, no others are anybody's that were not, and the catalog is as it was
pub record Serves (old : Survey) (user : Name) (keys : List Key) (new : Survey) : Type 0 where
  pub has : All (IsKeyOf new user) keys
  pub since : (u : Name) → since_of new u ≡ since_of old u
  pub only : (u : Name) (k : Key) → Contains (keys_at new.offices u) k → Contains (keys_at old.offices u) k ⊎ ((u ≡ user) × Contains keys k)
  pub knows : StillKnows old new
  pub catalog : new.catalog ≡ old.catalog

-- a user is shown another catalog since an offset, if not since a later one, and no other user is
pub record Touches (old : Survey) (user : Name) (at : ℕ) (new : Survey) : Type 0 where
  pub since : at ≤ since_of new user
  pub bound : (u : Name) → since_of new u ≤ max (since_of old u) at
  pub others : (u : Name) → bytes_eq u user ≡ false → since_of new u ≡ since_of old u
  pub only : (u : Name) (k : Key) → Contains (keys_at new.offices u) k → Contains (keys_at old.offices u) k
  pub knows : StillKnows old new
  pub catalog : new.catalog ≡ old.catalog

-- everybody is
pub record TouchesAll (old : Survey) (at : ℕ) (new : Survey) : Type 0 where
  pub since : (user : Name) → at ≤ since_of new user
  pub bound : (user : Name) → since_of new user ≤ max (since_of old user) at
  pub only : (u : Name) (k : Key) → Contains (keys_at new.offices u) k → Contains (keys_at old.offices u) k
  pub knows : StillKnows old new
  pub catalog : new.catalog ≡ old.catalog

-- a statement that ends at an offset is noted, and the catalog is as it was
pub record Notes (old : Survey) (statement : Stmt) (at : ℕ) (new : Survey) : Type 0 where
  pub touched : (user : Name) → touches user statement ≡ true → at ≤ since_of new user
  pub bound : (user : Name) → since_of new user ≤ max (since_of old user) at
  pub others : (user : Name) → touches user statement ≡ false → since_of new user ≡ since_of old user
  pub noted : IsNoted new (Some statement)
  pub only : (u : Name) (k : Key) → Contains (keys_at new.offices u) k → Contains (keys_at old.offices u) k ⊎ IsOfRule (started_by statement) u k
  pub knows : StillKnows old new
  pub catalog : new.catalog ≡ old.catalog

-- ---- kinds of statements

-- a statement that touches nobody
abbrev pub is_quiet : Stmt → Bool
is_quiet (stmt.CreateTable t) = false
is_quiet (stmt.DropTable name) = false
is_quiet (stmt.CreatePublication p) = false
is_quiet (stmt.DropPublication name) = false
is_quiet (stmt.GrantRemote g) = true
is_quiet (stmt.GrantConsolidate g) = false
is_quiet (stmt.CreateSubscription r) = true
is_quiet (stmt.StartSubscription r) = false
is_quiet (stmt.StopSubscription r) = false
is_quiet (stmt.Synchronize r) = true
is_quiet (stmt.DropSubscription r) = false
is_quiet (stmt.CreateTrigger t) = true
is_quiet (stmt.DropTrigger name) = true
is_quiet (stmt.SetOption o) = false
is_quiet (stmt.Dml d) = true
is_quiet (stmt.Select q) = true
is_quiet stmt.Commit = true
is_quiet stmt.Rollback = true
is_quiet (stmt.Passthrough p) = true
is_quiet stmt.PassthroughStop = true

-- a statement that touches everybody
abbrev pub is_for_all : Stmt → Bool
is_for_all (stmt.CreateTable t) = true
is_for_all (stmt.DropTable name) = true
is_for_all (stmt.CreatePublication p) = true
is_for_all (stmt.DropPublication name) = true
is_for_all (stmt.GrantRemote g) = false
is_for_all (stmt.GrantConsolidate g) = false
is_for_all (stmt.CreateSubscription r) = false
is_for_all (stmt.StartSubscription r) = false
is_for_all (stmt.StopSubscription r) = false
is_for_all (stmt.Synchronize r) = false
is_for_all (stmt.DropSubscription r) = false
is_for_all (stmt.CreateTrigger t) = false
is_for_all (stmt.DropTrigger name) = false
is_for_all (stmt.SetOption o) = true
is_for_all (stmt.Dml d) = false
is_for_all (stmt.Select q) = false
is_for_all stmt.Commit = false
is_for_all stmt.Rollback = false
is_for_all (stmt.Passthrough p) = false
is_for_all stmt.PassthroughStop = false
