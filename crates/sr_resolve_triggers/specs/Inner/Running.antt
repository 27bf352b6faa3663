-- A trigger that runs: what its expressions may name, as the program keeps it.
use Rattle.std.specs.Prelude.{◌≡◌, ⊤, ℕ, Bool, true, false, List, [], ◌∷◌, ◌++◌, map, Option, Some, None}
use Rattle.sr_base.specs.declared.value.Kind.{Kind}
use Rattle.sr_base.specs.declared.value.Value.{Value as Cell}
use Rattle.sr_eval.specs.Bounds.{IsRowOf}
use Rattle.sr_ast.specs.declared.create.Image.{Image}
use Rattle.sr_catalog_schema.specs.declared.table.Table.{Table}
use Rattle.sr_catalog_triggers.specs.Triggers.{variables_scope}
use Rattle.sr_resolve_triggers.specs.declared.conflict.Conflict.{Conflict}
use Rattle.sr_resolve_triggers.specs.declared.running.Running.{Running}
use Rattle.sr_resolve_triggers.specs.Bindings.{UpdateConflict, Bindings, row_of}

abbrev pub Columns : Type 0
Columns = List (Option (List ℕ) × List ℕ × Kind)

-- the conflict of the program, as what is there before the update
abbrev pub update_conflict_of : Conflict → UpdateConflict
update_conflict_of c = record { catalog = c.catalog.now; rows = c.rows.now.rows; table = c.table.now; stored = c.stored.now; remote = c.remote.now }

-- the columns of a table behind a name
abbrev pub columns_behind : Table → List ℕ → Columns
columns_behind t alias = map (λ c. (Some alias, c.name, c.kind)) t.columns

-- an alias, with the columns behind it
abbrev pub behind_alias : Table → Image × List ℕ → Image × Columns
behind_alias t a = (a.0, columns_behind t a.1)

-- what is kept of the names are those of the trigger
pub record IsReady (r : Running) : Type 0 where
  pub variables : r.variables ≡ variables_scope r.trigger.now.variables
  pub aliases : r.aliases.items ≡ map (behind_alias r.conflict.table.now) r.trigger.now.aliases

-- what is told of actions: whether they went well, with the bindings that they leave
abbrev pub Went : Bool → Bindings → Option Bindings → Type 0
Went true bindings acted = acted ≡ Some bindings
Went false bindings acted = acted ≡ None

-- the columns behind aliases, one alias after the other
abbrev pub columns_left : List (Image × Columns) → Columns
columns_left [] = []
columns_left (a ∷ aliases) = a.1 ++ columns_left aliases

-- and the values of the rows that they stand for
abbrev pub values_left : UpdateConflict → Bindings → List (Image × Columns) → List Cell
values_left base bindings [] = []
values_left base bindings (a ∷ aliases) = row_of base bindings a.0 ++ values_left base bindings aliases

-- each alias has a row of its columns
abbrev pub AliasesFit : UpdateConflict → Bindings → List (Image × Columns) → Type 0
AliasesFit base bindings [] = ⊤
AliasesFit base bindings (a ∷ aliases) = IsRowOf a.1 (row_of base bindings a.0) × AliasesFit base bindings aliases
