-- Rows that are updated where they stand, and that are not noted yet.
use Rattle.std.specs.Prelude.{◌≡◌, ◌≤◌, ℕ, Bool, true, false, List, [], ◌∷◌, ◌++◌, take, drop, length, Some, Result, Ok}
use Rattle.sr_base.specs.declared.value.Value.{Value as Cell}
use Rattle.sr_catalog_schema.specs.declared.fault.DmlFault.{DmlFault}
use Rattle.sr_catalog_schema.specs.declared.table.Table.{Table}
use Rattle.sr_exec_dml.specs.declared.effect.RowEffect.{RowEffect}
use Rattle.sr_exec_dml.specs.declared.effect.RowEffect.TheVariants.{Stays, Becomes}
use Rattle.sr_exec_dml.specs.declared.pending.Pending.{Pending}
use Rattle.sr_exec_dml.specs.Inner.Unmoving.{Counted, and_change, with_effect, KeepsKey}

-- rows that others come in the place of, so many values each, before what becomes of the rows behind them
abbrev pub and_pending : List ℕ → ℕ → List (List Cell) → List Cell → Counted → Counted
and_pending table width [] values rest = rest
and_pending table width (old ∷ olds) values rest = and_change table old (Some (take width values)) (and_pending table width olds (drop width values) rest)

-- what is pending of a table, before what becomes of the rows behind it
abbrev pub pended : Table → Pending → Counted → Counted
pended table p rest = and_pending table.name (length table.columns) p.olds.items p.values.items rest

-- there are so many values for each
abbrev pub AreWhole : ℕ → List (List Cell) → List Cell → Type 0
AreWhole width [] values = values ≡ []
AreWhole width (old ∷ olds) values = (width ≤ length values) × AreWhole width olds (drop width values)

-- the values of a row that is updated are added; those of one that stays are none
abbrev pub Adds : Result RowEffect DmlFault → List Cell → List Cell → Bool → Type 0
Adds effect before after true = (new : List Cell) × (effect ≡ Ok (Becomes new)) × (after ≡ before ++ new)
Adds effect before after false = (effect ≡ Ok Stays) × (after ≡ before)

-- a row has its effect, by which it keeps its key, and it stands behind those that were there
pub record Awaits (table : Table) (row : List Cell) (effect_is : Result RowEffect DmlFault) (before after : Pending) : Type 0 where
  pub effect : RowEffect
  pub is : effect_is ≡ Ok effect
  pub keeps : KeepsKey table row effect
  pub whole : AreWhole (length table.columns) after.olds.items after.values.items
  pub behind : (rest : Counted) → pended table before (with_effect table.name row (Ok effect) rest) ≡ pended table after rest
