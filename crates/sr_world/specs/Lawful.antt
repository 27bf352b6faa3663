-- The rules that the history of a database keeps: those of what may stand in a log, and those on what its entries say.
use Rattle.std.specs.Prelude.{◌≡◌, ⊤, ℕ, Bool, true, false, List, [], filter_map, Ok}
use Rattle.std.specs.List.{AllByRecursion}
use Rattle.sr_base.specs.declared.value.Value.{Value as Cell}
use Rattle.sr_ast.specs.declared.stmt.Stmt.{Stmt}
use Rattle.sr_ast.specs.declared.stmt.Stmt.TheVariants as stmt
use Rattle.sr_book.specs.Entries.{Name}
use Rattle.sr_exec_dml.specs.Statements.{done}
use Rattle.sr_database_history.specs.Fitting.{Fits}
use Rattle.sr_database_history.specs.Folds.{State}
use Rattle.sr_database_history.specs.Recorded.{Recorded, own, taken, ddl, sync, pass, note}
use Rattle.sr_logform.specs.declared.change.Change.{Change}
use Rattle.sr_publish.specs.Views.{seen}
use Rattle.sr_resolve.specs.Taking.{AreJudged, is_above}
use Rattle.sr_rows.specs.Walks.{Entry, table_rows}

-- what a user sees of a table's rows, by ascending key
abbrev pub view_rows : State → Name → Name → List (List Cell)
view_rows s user table = filter_map (λ (e : Entry). seen s.catalog user table e.1) (table_rows s.rows table)

-- a table of a Sync has the rows of the view
abbrev pub IsViewed : State → Name → Name × List (List Cell) → Type 0
IsViewed s user p = p.1 ≡ view_rows s user p.0

-- the changes are those that a statement makes: none of a statement on the catalog
abbrev pub AreChangesOf : State → Stmt → List Change → Type 0
AreChangesOf s (stmt.Dml d) changes = (count : ℕ) × (done s.catalog s.rows d ≡ Ok (record { list = changes; count = count }))
AreChangesOf s statement changes = changes ≡ []

-- the changes of a passed statement: none where it is for others only
abbrev pub ArePassedChanges : Bool → State → Stmt → List Change → Type 0
ArePassedChanges true s statement changes = changes ≡ []
ArePassedChanges false s statement changes = AreChangesOf s statement changes

-- what an entry says is so: outcomes are the judged ones, a Sync has the rows of the view, a Pass the changes of its statement
abbrev pub SaysSo : State → Recorded → Type 0
SaysSo s (own changes) = ⊤
SaysSo s (taken user at dones) = AreJudged s (is_above s user) dones
SaysSo s (ddl statement) = ⊤
SaysSo s (sync user tables) = AllByRecursion (IsViewed s user) tables
SaysSo s (pass users only statement changes) = ArePassedChanges only s statement changes
SaysSo s (note user what) = ⊤

-- an entry keeps every rule, in the state and behind the offset that those before it leave
pub record IsLawful (s : State) (place : ℕ) (r : Recorded) : Type 0 where
  pub stored : Fits s place r
  pub says_so : SaysSo s r
