-- Kinds of statements.
use Rattle.std.specs.Prelude.{Bool, true, false}
use Rattle.sr_ast.specs.declared.stmt.Stmt.{Stmt}
use Rattle.sr_ast.specs.declared.stmt.Stmt.TheVariants as stmt

-- what changes the catalog: the statements that begin with CREATE, DROP, GRANT, SET, START or STOP
abbrev pub is_ddl : Stmt → Bool
is_ddl (stmt.CreateTable c) = true
is_ddl (stmt.DropTable n) = true
is_ddl (stmt.CreatePublication c) = true
is_ddl (stmt.DropPublication n) = true
is_ddl (stmt.GrantRemote g) = true
is_ddl (stmt.GrantConsolidate g) = true
is_ddl (stmt.CreateSubscription r) = true
is_ddl (stmt.StartSubscription r) = true
is_ddl (stmt.StopSubscription r) = true
is_ddl (stmt.DropSubscription r) = true
is_ddl (stmt.CreateTrigger c) = true
is_ddl (stmt.DropTrigger n) = true
is_ddl (stmt.SetOption o) = true
is_ddl _ = false

-- what passthrough carries: CREATE and DROP of tables, publications, triggers and subscriptions, START and STOP, INSERT, UPDATE and DELETE
abbrev pub is_carried : Stmt → Bool
is_carried (stmt.CreateTable c) = true
is_carried (stmt.DropTable n) = true
is_carried (stmt.CreatePublication c) = true
is_carried (stmt.DropPublication n) = true
is_carried (stmt.CreateSubscription r) = true
is_carried (stmt.StartSubscription r) = true
is_carried (stmt.StopSubscription r) = true
is_carried (stmt.DropSubscription r) = true
is_carried (stmt.CreateTrigger c) = true
is_carried (stmt.DropTrigger n) = true
is_carried (stmt.Dml d) = true
is_carried _ = false
