-- Catalogs that show a user the same, and the statements that may change what they show.
use Rattle.std.specs.Prelude.{◌≡◌, Bool, true, false, ◌||◌, List, [], ◌∷◌, Option, Some, None, bytes_eq}
use Rattle.sr_ast.specs.declared.stmt.Stmt.{Stmt}
use Rattle.sr_ast.specs.declared.stmt.Stmt.TheVariants as stmt
use Rattle.sr_book.specs.Entries.{Name}
use Rattle.sr_catalog_schema.specs.Catalogs.{Lists}
use Rattle.sr_exec_dml.specs.Statements.{table_named}
use Rattle.sr_publish.specs.SubscribedTables.{subscribed_table_of}

-- two catalogs show a user the same
pub record ShowsAlike (c d : Lists) (user : Name) : Type 0 where
  pub shares : (table : Name) → subscribed_table_of d user table ≡ subscribed_table_of c user table
  pub tables : (table : Name) → table_named d table ≡ table_named c table

-- whether a statement may change what a user is shown: one on a subscription of his, one that sets him above, or one on tables, publications
-- or options
abbrev pub touches : Name → Stmt → Bool
touches user (stmt.CreateTable t) = true
touches user (stmt.DropTable name) = true
touches user (stmt.CreatePublication p) = true
touches user (stmt.DropPublication name) = true
touches user (stmt.GrantRemote g) = false
touches user (stmt.GrantConsolidate g) = bytes_eq user g.user
touches user (stmt.CreateSubscription r) = false
touches user (stmt.StartSubscription r) = bytes_eq user r.user
touches user (stmt.StopSubscription r) = bytes_eq user r.user
touches user (stmt.Synchronize r) = false
touches user (stmt.DropSubscription r) = bytes_eq user r.user
touches user (stmt.CreateTrigger t) = false
touches user (stmt.DropTrigger name) = false
touches user (stmt.SetOption o) = true
touches user (stmt.Dml d) = false
touches user (stmt.Select q) = false
touches user stmt.Commit = false
touches user stmt.Rollback = false
touches user (stmt.Passthrough p) = false
touches user stmt.PassthroughStop = false

-- whether one of several statements may
abbrev pub touched : Name → List (Option Stmt) → Bool
touched user [] = false
touched user (None ∷ meant) = touched user meant
touched user (Some s ∷ meant) = touches user s || touched user meant
