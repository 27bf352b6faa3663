-- Entries that give a user nothing.
use Rattle.std.specs.Prelude.{◌≡◌, ⊤, false, List, [], ◌∷◌, Option, Some, None}
use Rattle.std.specs.List.{list_any}
use Rattle.sr_base.specs.declared.value.Value.{Value as Cell}
use Rattle.sr_book.specs.Entries.{Name}
use Rattle.sr_catalog_schema.specs.Catalogs.{Lists}
use Rattle.sr_catalog_schema.specs.declared.table.Table.{Table}
use Rattle.sr_database_history.specs.Folds.{State, next}
use Rattle.sr_database_history.specs.Recorded.{Recorded}
use Rattle.sr_publish.specs.Inner.Laws.{holds}
use Rattle.sr_scan.specs.Given.{gives}

-- entries that go on from a state give a user nothing
abbrev pub GiveNothing : State → List Recorded → Name → Type 0
GiveNothing s [] user = ⊤
GiveNothing s (r ∷ rs) user = (gives s r user ≡ []) × GiveNothing (next s r) rs user

-- no started subscription of the user holds the row, if there is one
abbrev pub IsUnheld : Lists → Name → Name → Table → Option (List Cell) → Type 0
IsUnheld c user table t None = ⊤
IsUnheld c user table t (Some row) = list_any (holds c user table t row) c.subscriptions ≡ false
