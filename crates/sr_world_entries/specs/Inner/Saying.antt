-- Whether what an entry of a database's own says is so.
use Rattle.std.specs.Prelude.{◌≡◌, ◌↔◌, ℕ, Bool, List, IsTrue, Result, Ok}
use Rattle.sr_ast.specs.declared.stmt.Stmt.{Stmt}
use Rattle.sr_catalog_schema.specs.declared.fault.DmlFault.{DmlFault}
use Rattle.sr_database_history.specs.Folds.{State}
use Rattle.sr_database_history.specs.Recorded.{Recorded, entry_of, IsRecorded}
use Rattle.sr_exec_dml.specs.declared.changes.Changes.{Changes}
use Rattle.sr_logform.specs.declared.change.Change.{Change}
use Rattle.sr_logform.specs.declared.entry.Entry.{Entry}
use Rattle.sr_parse.specs.Prints.{Prints}
use Rattle.sr_world.specs.Lawful.{ArePassedChanges, SaysSo}

-- it was found out whether what it says is so, whichever recorded one it is of
unfoldable pub TellsSo : State → Entry → Bool → Type 0
TellsSo s entry so = (r : Recorded) → IsRecorded r → entry_of r ≡ entry → (IsTrue so ↔ SaysSo s r)

-- the same of a passed statement, whichever prints so
unfoldable pub PassSaysSo : State → Bool → List ℕ → List Change → Bool → Type 0
PassSaysSo s only text changes so = (statement : Stmt) → Prints statement text → (IsTrue so ↔ ArePassedChanges only s statement changes)

-- what a statement comes to has these changes
abbrev pub AreMade : Result Changes DmlFault → List Change → Type 0
AreMade done changes = (count : ℕ) × (done ≡ Ok (record { list = changes; count = count }))
