-- What each statement of a script does.
use Rattle.std.specs.Prelude.{Bool, true, false, List, [], ◌∷◌, ◌++◌, length, map, Option, Some, None, Result, Ok, Err}
use Rattle.std.specs.Ordering.{is_lt}
use Rattle.std.specs.declared.cmp.Ordering.{Ordering}
use Rattle.sr_base.specs.declared.value.Value.{Value as Cell}
use Rattle.sr_ast.specs.declared.create.SubscriptionRule.{SubscriptionRule}
use Rattle.sr_ast.specs.declared.query.Dml.{Dml as DmlStatement}
use Rattle.sr_ast.specs.declared.query.Select.{Select}
use Rattle.sr_ast.specs.declared.stmt.Passthrough.{Passthrough}
use Rattle.sr_ast.specs.declared.stmt.Stmt.{Stmt}
use Rattle.sr_ast.specs.declared.stmt.Stmt.TheVariants as stmt
use Rattle.sr_book.specs.Entries.{Name}
use Rattle.sr_catalog_change.specs.Changes.{refusal}
use Rattle.sr_catalog_ddl.specs.Subscriptions.{is_started}
use Rattle.sr_exec_dml.specs.Statements.{done}
use Rattle.sr_exec_dml.specs.declared.changes.Changes.{Changes}
use Rattle.sr_database_history.specs.Folds.{State}
use Rattle.sr_database_history.specs.Recorded.{Recorded, own, ddl, sync, pass}
use Rattle.sr_logform.specs.declared.change.Change.{Change}
use Rattle.sr_query.specs.Orders.{listed_cmp}
use Rattle.sr_query.specs.Selecting.{selected}
use Rattle.sr_catalog_schema.specs.Catalogs.{Lists}
use Rattle.sr_catalog_schema.specs.declared.fault.DdlFault.{DdlFault}
use Rattle.sr_catalog_schema.specs.declared.fault.DdlFault.TheVariants.{Exists, Missing, BadType, NoKey, KeyNotInArticle, TwiceSubscribed, InUse, TooMany, Memory}
use Rattle.sr_catalog_schema.specs.declared.fault.DmlFault.{DmlFault}
use Rattle.sr_session_script.specs.Acts.{ScriptAct, commits, nothing, rolled_back, row, rows, region_begins, region_ends}
use Rattle.sr_session_script.specs.Orders.{sorted_by}
use Rattle.sr_session_script.specs.Synced.{views_of}
use Rattle.sr_session_script.specs.Works.{Work, visible, closed, undone, behind, region_of}
use Rattle.sr_session_script.specs.declared.refusal.Refusal.{Refusal}
use Rattle.sr_session_script.specs.declared.refusal.Refusal.TheVariants.{Ddl, Dml}

-- ---- what statements come to, or what refuses them

abbrev pub unless_ddl : Option DdlFault → Result (Unit {0}) Refusal
unless_ddl None = Ok tt
unless_ddl (Some fault) = Err (Ddl fault)

abbrev pub unless_dml : {A : Type 0} → Result A DmlFault → Result A Refusal
unless_dml (Err fault) = Err (Dml fault)
unless_dml (Ok x) = Ok x

-- the catalog accepts a statement
abbrev pub accepted : Lists → Stmt → Result (Unit {0}) Refusal
accepted c s = unless_ddl (refusal c s)

-- what an INSERT, UPDATE or DELETE changes
abbrev pub changes_by : State → DmlStatement → Result Changes Refusal
changes_by s d = unless_dml (done s.catalog s.rows d)

-- the rows of a SELECT by their ranks, of equal ranks those of the earlier combinations first
abbrev pub in_order : {A : Type 0} → (A → A → Ordering) → (A → List Cell) → Result (List A) DmlFault → Result (List (List Cell)) Refusal
in_order order row_in (Err fault) = Err (Dml fault)
in_order order row_in (Ok listed) = Ok (map row_in (sorted_by (λ x y. is_lt (order x y)) listed))

abbrev pub rows_by : State → Select → Result (List (List Cell)) Refusal
rows_by s q = in_order listed_cmp (λ l. l.row) (selected s.catalog s.rows q)

-- ---- a step of a script: a statement is done and the script goes on, or it is refused behind some acts

pub data Stepped : Type 0 where
  goes : List ScriptAct → Work → Stepped
  stops : List ScriptAct → Refusal → Stepped

-- with acts that come first
abbrev pub after : List ScriptAct → Stepped → Stepped
after acts (goes more w) = goes (acts ++ more) w
after acts (stops more f) = stops (acts ++ more) f

-- a refusal, or else the step that is made of what the statement comes to
abbrev pub then_step : {A : Type 0} → Result A Refusal → (A → Stepped) → Stepped
then_step (Err fault) step = stops [] fault
then_step (Ok x) step = step x

-- one entry is committed
abbrev pub enters : Recorded → Work → Stepped
enters r w = goes (commits r ∷ []) (behind r w)

-- ---- COMMIT and ROLLBACK

-- one entry for the open transaction, where it has changes
abbrev pub closing : List Change → List ScriptAct
closing [] = []
closing (c ∷ changes) = commits (own (c ∷ changes)) ∷ []

-- COMMIT says so where it has none
abbrev pub committing : List Change → List ScriptAct
committing [] = nothing ∷ []
committing (c ∷ changes) = commits (own (c ∷ changes)) ∷ []

abbrev pub committed : Work → Stepped
committed w = goes (committing w.pending) (closed w)

-- ROLLBACK says so in any case
abbrev pub rolled : Work → Stepped
rolled w = goes (rolled_back ∷ []) (undone w)

-- ---- INSERT, UPDATE and DELETE, and SELECT

-- the changes of a statement join the open transaction
abbrev pub with_pending : List Change → Work → Work
with_pending changes w = record w { pending = w.pending ++ changes }

abbrev pub executed : Work → DmlStatement → Stepped
executed w d = then_step (changes_by (visible w) d) (λ changes. goes (rows changes.count ∷ []) (with_pending changes.list w))

-- rows, and their number
abbrev pub listing : List (List Cell) → List ScriptAct
listing found = map row found ++ rows (length found) ∷ []

abbrev pub answered : Work → Select → Stepped
answered w q = then_step (rows_by (visible w) q) (λ found. goes (listing found) w)

-- ---- statements on the catalog

-- START of a subscription that is started changes nothing
abbrev pub is_done_already : Lists → Stmt → Bool
is_done_already c (stmt.StartSubscription r) = is_started c r
is_done_already c _ = false

-- a statement that changes the catalog is an entry of its own
abbrev pub recorded : Bool → Stmt → Work → Stepped
recorded true s w = goes (nothing ∷ []) w
recorded false s w = enters (ddl s) w

abbrev pub changed : Stmt → Work → Stepped
changed s w = then_step (accepted w.state.catalog s) (λ _. recorded (is_done_already w.state.catalog s) s w)

-- ---- passthrough

-- PASSTHROUGH FOR begins a region, also inside another one
abbrev pub began : Passthrough → Work → Stepped
began p w = then_step (accepted w.state.catalog (stmt.Passthrough p)) (λ _. goes (region_begins ∷ []) (record w { region = Some (region_of p) }))

-- PASSTHROUGH STOP ends it
abbrev pub ended : Work → Stepped
ended w = goes (region_ends ∷ []) (record w { region = None })

-- what refuses a statement that is not carried: what is there already or is missing, else BadType with its first name
abbrev pub not_carried : Name → Option DdlFault → DdlFault
not_carried name None = BadType name
not_carried name (Some (Exists n)) = Exists n
not_carried name (Some (Missing n)) = Missing n
not_carried name (Some (BadType n)) = BadType name
not_carried name (Some (NoKey t)) = BadType name
not_carried name (Some (KeyNotInArticle t c)) = BadType name
not_carried name (Some (TwiceSubscribed u t)) = BadType name
not_carried name (Some (InUse n)) = BadType name
not_carried name (Some (TooMany limit)) = BadType name
not_carried name (Some Memory) = BadType name

-- with ONLY nothing is checked but that it is carried
abbrev pub uncarried : Bool → Name → Lists → Stmt → DdlFault
uncarried true name c s = BadType name
uncarried false name c s = not_carried name (refusal c s)

-- the changes of a statement that is passed on: none of one on the catalog
abbrev pub without_changes : Result (Unit {0}) Refusal → Result (List Change) Refusal
without_changes (Err fault) = Err fault
without_changes (Ok _) = Ok []

abbrev pub list_of : Result Changes Refusal → Result (List Change) Refusal
list_of (Err fault) = Err fault
list_of (Ok changes) = Ok changes.list

-- with ONLY it neither runs nor is checked here
abbrev pub catalog_changes : Bool → State → Stmt → Result (List Change) Refusal
catalog_changes true s statement = Ok []
catalog_changes false s statement = without_changes (accepted s.catalog statement)

abbrev pub row_changes : Bool → State → DmlStatement → Result (List Change) Refusal
row_changes true s d = Ok []
row_changes false s d = list_of (changes_by s d)

-- it is an entry of its own, also where it changes nothing
abbrev pub passed : Passthrough → Stmt → Result (List Change) Refusal → Work → Stepped
passed p s found w = then_step found (λ changes. enters (pass p.users p.only s changes) w)

-- ---- by the kind of the statement

-- a step behind the commit of the open transaction
abbrev pub once_closed : Work → (Work → Stepped) → Stepped
once_closed w step = after (closing w.pending) (step (closed w))

-- a statement on the catalog that passthrough carries, outside and inside a region
abbrev pub on_catalog : Option Passthrough → Stmt → Work → Stepped
on_catalog None s w = changed s w
on_catalog (Some p) s w = passed p s (catalog_changes p.only w.state s) w

-- one that it does not carry, with its first name
abbrev pub refused_in : Passthrough → Name → Stmt → Work → Stepped
refused_in p name s w = stops [] (Ddl (uncarried p.only name w.state.catalog s))

abbrev pub on_uncarried : Option Passthrough → Name → Stmt → Work → Stepped
on_uncarried None name s w = changed s w
on_uncarried (Some p) name s w = refused_in p name s w

-- SYNCHRONIZE is one entry: what the subscription's user sees of the tables of its publication
abbrev pub synchronized : SubscriptionRule → Work → Stepped
synchronized r w = then_step (accepted w.state.catalog (stmt.Synchronize r)) (λ _. enters (sync r.user (views_of w.state r)) w)

-- passthrough does not carry it
abbrev pub on_views : Option Passthrough → SubscriptionRule → Work → Stepped
on_views None r w = synchronized r w
on_views (Some p) r w = refused_in p r.publication (stmt.Synchronize r) w

-- a statement on rows
abbrev pub on_rows : Option Passthrough → DmlStatement → Work → Stepped
on_rows None d w = executed w d
on_rows (Some p) d w = once_closed w (λ v. passed p (stmt.Dml d) (row_changes p.only v.state d) v)

unfoldable pub done_by : Work → Stmt → Stepped
done_by w (stmt.GrantRemote g) = once_closed w (on_uncarried w.region g.user (stmt.GrantRemote g))
done_by w (stmt.GrantConsolidate g) = once_closed w (on_uncarried w.region g.user (stmt.GrantConsolidate g))
done_by w (stmt.SetOption o) = once_closed w (on_uncarried w.region o.name (stmt.SetOption o))
done_by w (stmt.Synchronize r) = once_closed w (on_views w.region r)
done_by w (stmt.Dml d) = on_rows w.region d w
done_by w (stmt.Select q) = answered w q
done_by w stmt.Commit = committed w
done_by w stmt.Rollback = rolled w
done_by w (stmt.Passthrough p) = once_closed w (began p)
done_by w stmt.PassthroughStop = once_closed w ended
done_by w s = once_closed w (on_catalog w.region s)
