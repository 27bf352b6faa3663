-- What each statement does to a catalog, and which statements are refused.
use Rattle.std.specs.Prelude.{ℕ, Bool, true, false, not, ◌||◌, List, [], ◌∷◌, ◌++◌, map, filter, Option}
use Rattle.std.specs.List.{list_any}
use Rattle.std.specs.Prelude.{bytes_eq}
use Rattle.sr_ast.specs.declared.stmt.Stmt.{Stmt}
use Rattle.sr_ast.specs.declared.stmt.Stmt.TheVariants as stmt
use Rattle.sr_catalog_schema.specs.Catalogs.{Lists}
use Rattle.sr_catalog_schema.specs.Causes.{Causes, no_cause, first_fault}
use Rattle.sr_catalog_schema.specs.Firsts.{where_true}
use Rattle.sr_catalog_schema.specs.Names.{taken, without}
use Rattle.sr_catalog_schema.specs.Members.{publication_name, table_name, trigger_name}
use Rattle.sr_catalog_ddl.specs.Options.{set_option_causes, options_set}
use Rattle.sr_catalog_ddl.specs.Publications.{create_publication_causes, drop_publication_causes, publication_of}
use Rattle.sr_catalog_ddl.specs.Subscriptions.{is_of, marked, create_subscription_causes, start_causes}
use Rattle.sr_catalog_ddl.specs.Subscriptions.{stop_causes, synchronize_causes, drop_subscription_causes, subscription_of}
use Rattle.sr_catalog_ddl.specs.Tables.{create_table_causes, table_of}
use Rattle.sr_catalog_triggers.specs.Triggers.{trigger_names, create_trigger_causes, drop_trigger_causes, trigger_of}
use Rattle.sr_catalog_ddl.specs.Users.{grant_causes, passthrough_causes, user_of}
use Rattle.sr_catalog_schema.specs.declared.fault.DdlFault.{DdlFault}
use Rattle.sr_catalog_schema.specs.declared.publication.Publication.{Publication}

-- whether an article of a publication is of a table
abbrev pub publication_names : List ℕ → Publication → Bool
publication_names table p = list_any (λ a. bytes_eq table a.table) p.articles

-- whether a publication or a trigger names a table
abbrev pub is_used : Lists → List ℕ → Bool
is_used c n = list_any (publication_names n) c.publications || list_any (trigger_names n) c.triggers

-- what speaks against DROP TABLE: it is not there; a publication or a trigger names it
unfoldable pub drop_table_causes : Lists → List ℕ → Causes
drop_table_causes c n = record no_cause {
  missing = where_true (not (taken table_name n c.tables)) n;
  in_use = where_true (is_used c n) n;
}

-- what speaks against a statement
abbrev pub causes : Lists → Stmt → Causes
causes c (stmt.CreateTable t) = create_table_causes c t
causes c (stmt.DropTable n) = drop_table_causes c n
causes c (stmt.CreatePublication p) = create_publication_causes c p
causes c (stmt.DropPublication n) = drop_publication_causes c n
causes c (stmt.GrantRemote g) = grant_causes c false g
causes c (stmt.GrantConsolidate g) = grant_causes c true g
causes c (stmt.CreateSubscription r) = create_subscription_causes c r
causes c (stmt.StartSubscription r) = start_causes c r
causes c (stmt.StopSubscription r) = stop_causes c r
causes c (stmt.Synchronize r) = synchronize_causes c r
causes c (stmt.DropSubscription r) = drop_subscription_causes c r
causes c (stmt.CreateTrigger g) = create_trigger_causes c g
causes c (stmt.DropTrigger n) = drop_trigger_causes c n
causes c (stmt.SetOption o) = set_option_causes o
causes c (stmt.Passthrough p) = passthrough_causes c p.users
causes c _ = no_cause

-- the fault that refuses a statement, where one does
unfoldable pub refusal : Lists → Stmt → Option DdlFault
refusal c s = first_fault (causes c s)

-- the catalog after a statement that is not refused
unfoldable pub next : Lists → Stmt → Lists
next c (stmt.CreateTable t) = record c { tables = c.tables ++ table_of t ∷ [] }
next c (stmt.DropTable n) = record c { tables = without table_name n c.tables }
next c (stmt.CreatePublication p) = record c { publications = c.publications ++ publication_of c p ∷ [] }
next c (stmt.DropPublication n) = record c { publications = without publication_name n c.publications }
next c (stmt.GrantRemote g) = record c { users = c.users ++ user_of false g ∷ [] }
next c (stmt.GrantConsolidate g) = record c { users = c.users ++ user_of true g ∷ [] }
next c (stmt.CreateSubscription r) = record c { subscriptions = c.subscriptions ++ subscription_of r ∷ [] }
next c (stmt.StartSubscription r) = record c { subscriptions = map (marked true r) c.subscriptions }
next c (stmt.StopSubscription r) = record c { subscriptions = map (marked false r) c.subscriptions }
next c (stmt.DropSubscription r) = record c { subscriptions = filter (λ s. not (is_of r s)) c.subscriptions }
next c (stmt.CreateTrigger g) = record c { triggers = c.triggers ++ trigger_of g ∷ [] }
next c (stmt.DropTrigger n) = record c { triggers = without trigger_name n c.triggers }
next c (stmt.SetOption o) = record c { options = options_set o c.options }
next c _ = c
