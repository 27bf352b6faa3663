-- Rows that keep their keys: what a statement makes of them where they stand.
use Rattle.std.specs.Prelude.{◌≡◌, ⊤, ◌+◌, ℕ, List, [], ◌∷◌, ◌++◌, Option, Some, None, Result, Ok, Err}
use Rattle.sr_base.specs.declared.value.Value.{Value as Cell}
use Rattle.sr_ast.specs.declared.expr.Expr.{Expr}
use Rattle.sr_rows.specs.Walks.{Entry}
use Rattle.sr_logform.specs.declared.change.Change.{Change}
use Rattle.sr_catalog_schema.specs.declared.fault.DmlFault.{DmlFault}
use Rattle.sr_catalog_schema.specs.declared.table.Table.{Table}
use Rattle.sr_exec_dml.specs.declared.effect.RowEffect.{RowEffect}
use Rattle.sr_exec_dml.specs.declared.effect.RowEffect.TheVariants.{Stays, Goes, Becomes}
use Rattle.sr_exec_dml.specs.Holding.{with_change}
use Rattle.sr_exec_where.specs.Keys.{key_of}
use Rattle.sr_exec_dml.specs.Statements.{effect_of}

-- changes and the number of rows that are selected, or a fault
abbrev pub Counted : Type 0
Counted = Result (List Change × ℕ) DmlFault

-- the change of a row that is selected, before those of the rows behind it
abbrev pub and_change : List ℕ → List Cell → Option (List Cell) → Counted → Counted
and_change table row after (Err f) = Err f
and_change table row after (Ok found) = Ok (with_change table (Some row) after found.0, found.1 + 1)

-- what becomes of a row, before what becomes of those behind it
abbrev pub with_effect : List ℕ → List Cell → Result RowEffect DmlFault → Counted → Counted
with_effect table row (Err f) rest = Err f
with_effect table row (Ok Stays) rest = rest
with_effect table row (Ok Goes) rest = and_change table row None rest
with_effect table row (Ok (Becomes new)) rest = and_change table row (Some new) rest

-- what becomes of rows where they stand
abbrev pub unmoved : Table → Option (List (List ℕ × Expr)) → Option Expr → List Entry → Counted
unmoved table sets condition [] = Ok ([], 0)
unmoved table sets condition (e ∷ es) = with_effect table.name e.1 (effect_of table sets condition e.1) (unmoved table sets condition es)

-- changes that are there before the rest
abbrev pub behind : List Change → ℕ → Counted → Counted
behind changes count (Err f) = Err f
behind changes count (Ok found) = Ok (changes ++ found.0, count + found.1)

-- a row that is updated keeps its key
abbrev pub KeepsKey : Table → List Cell → RowEffect → Type 0
KeepsKey table row Stays = ⊤
KeepsKey table row Goes = ⊤
KeepsKey table row (Becomes new) = key_of table.key row ≡ key_of table.key new

-- the row that is put stands under the key, and so on behind it, up to a fault
abbrev pub Keeps : Table → List Cell → Result RowEffect DmlFault → Type 0 → Type 0
Keeps table key (Err f) rest = ⊤
Keeps table key (Ok Stays) rest = rest
Keeps table key (Ok Goes) rest = rest
Keeps table key (Ok (Becomes new)) rest = (key_of table.key new ≡ key) × rest

abbrev pub KeepKeys : Table → Option (List (List ℕ × Expr)) → Option Expr → List Entry → Type 0
KeepKeys table sets condition [] = ⊤
KeepKeys table sets condition (e ∷ es) = Keeps table e.0 (effect_of table sets condition e.1) (KeepKeys table sets condition es)
