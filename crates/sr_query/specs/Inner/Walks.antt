-- The sources as the program goes over them.
use Rattle.std.specs.Prelude.{◌≡◌, ℕ, true, List, [], ◌∷◌, ◌++◌, length, map}
use Rattle.std.specs.List.{list_any}
use Rattle.sr_base.specs.declared.value.Value.{Value as Cell}
use Rattle.sr_ast.specs.declared.query.Items.{Items}
use Rattle.sr_ast.specs.declared.query.Items.TheVariants as items
use Rattle.sr_eval.specs.Inner.Bounds.{values_of}
use Rattle.sr_eval.specs.declared.bound.Bound.{Bound}
use Rattle.sr_rows.specs.Marks.{RowMap}
use Rattle.sr_exec_where.specs.Checks.{Scope}
use Rattle.sr_exec_dml.specs.Fitting.{TableFits}
use Rattle.sr_query.specs.Checks.{is_aggregate}
use Rattle.sr_query.specs.Sources.{Origin, scope_under, rows_by_key}
use Rattle.sr_query.specs.declared.joined.Joined.{Joined}
use Rattle.sr_query.specs.declared.joined.Combination.{Combination}
use Rattle.sr_query.specs.declared.joined.Combination.TheVariants.{One, Many}

-- a source with the rows of its table
abbrev pub seen : RowMap → Joined → Origin
seen rows joined = record { scope = joined.scope; rows = rows_by_key rows joined.table.now }

-- a source has the columns of its table under an alias, and the rows of its table fit it
pub record IsJoined (rows : RowMap) (joined : Joined) : Type 0 where
  pub alias : List ℕ
  pub scope : joined.scope ≡ scope_under alias joined.table.now
  pub fits : TableFits joined.table.now rows

abbrev pub AreJoined : RowMap → List Joined → Type 0
AreJoined rows [] = Unit {0}
AreJoined rows (joined ∷ left) = IsJoined rows joined × AreJoined rows left

-- there is one source where the items are aggregates
abbrev pub IsAlone : Items → List Joined → Type 0
IsAlone items.All joined = Unit {0}
IsAlone (items.Each list) joined = list_any is_aggregate list ≡ true → length joined ≡ 1

-- the columns of sources
abbrev pub columns_left : List Joined → Scope
columns_left [] = []
columns_left (joined ∷ left) = joined.scope ++ columns_left left

-- the rows of a combination, in the order of their sources
abbrev pub bounds_of : Combination → List Bound
bounds_of (One bound) = bound ∷ []
bounds_of (Many bounds) = bounds.items

-- the values of combinations
abbrev pub found : List Combination → List (List Cell)
found combinations = map (λ (c : Combination). values_of (bounds_of c)) combinations
