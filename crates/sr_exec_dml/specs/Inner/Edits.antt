-- What comes to stand at a key, as a statement's rows are taken and put one after the other.
use Rattle.std.specs.Prelude.{◌≡◌, ◌≢◌, ℕ, Bool, true, false, cond, List, [], ◌∷◌, ◌++◌, map, Option, Some, None, Result, Ok, Err, MatchResult}
use Rattle.std.specs.Ordering.{is_eq}
use Rattle.sr_base.specs.declared.value.Value.{Value as Cell}
use Rattle.sr_base.specs.Order.{key_cmp}
use Rattle.sr_rows.specs.Walks.{Entry}
use Rattle.sr_logform.specs.declared.change.Change.{Change}
use Rattle.sr_catalog_schema.specs.declared.fault.DmlFault.{DmlFault}
use Rattle.sr_catalog_schema.specs.declared.fault.DmlFault.TheVariants.{Duplicate, Memory}
use Rattle.sr_exec_dml.specs.declared.edit.Edit.{Edit}
use Rattle.sr_exec_dml.specs.declared.edit.Edit.TheVariants.{Gone, New, Moved, Twice}
use Rattle.sr_exec_dml.specs.declared.effect.RowEffect.{RowEffect}
use Rattle.sr_exec_dml.specs.declared.effect.RowEffect.TheVariants.{Stays, Goes, Becomes}
use Rattle.sr_catalog_schema.specs.declared.table.Table.{Table}
use Rattle.sr_exec_dml.specs.Holding.{under, with_change}
use Rattle.sr_ast.specs.declared.expr.Expr.{Expr}
use Rattle.sr_exec_dml.specs.Sequences.{front}
use Rattle.sr_exec_dml.specs.Statements.{entry_of, effect_of}

-- a key and what comes to stand at it
abbrev pub Edited : Type 0
Edited = List Cell × Edit

-- a row is put
abbrev pub with_put : Option Edit → List Cell → Edit
with_put None row = New row
with_put (Some Gone) row = Moved row
with_put (Some (New other)) row = Twice
with_put (Some (Moved other)) row = Twice
with_put (Some Twice) row = Twice

-- the row that stood there is taken
abbrev pub with_taken : Option Edit → Edit
with_taken None = Gone
with_taken (Some Gone) = Gone
with_taken (Some (New row)) = Moved row
with_taken (Some (Moved row)) = Moved row
with_taken (Some Twice) = Twice

-- what comes to stand at a key, whose row is taken or not, and under which some rows are put
abbrev pub edit_at : Bool → List (List Cell) → Option Edit
edit_at false [] = None
edit_at true [] = Some Gone
edit_at false (row ∷ []) = Some (New row)
edit_at true (row ∷ []) = Some (Moved row)
edit_at taken (row ∷ other ∷ rows) = Some Twice

-- whether a key is among keys
abbrev pub is_taken : List Cell → List (List Cell) → Bool
is_taken key [] = false
is_taken key (k ∷ keys) = cond (is_eq (key_cmp key k)) true (is_taken key keys)

-- the edits are those of these keys, which are taken, and these entries, which are put
abbrev pub AreEdits : (List Cell → Option Edit) → List (List Cell) → List Entry → Type 0
AreEdits at taken put = (key : List Cell) → at key ≡ edit_at (is_taken key taken) (under key put)

-- a change where the rows before and after differ, before other changes
abbrev pub before_changes : List ℕ → Option (List Cell) → Option (List Cell) → Result (List Change) DmlFault → Result (List Change) DmlFault
before_changes table before after (Err e) = Err e
before_changes table before after (Ok changes) = Ok (with_change table before after changes)

-- what an edit comes to, by the row that stands at its key
abbrev pub with_edit : List ℕ → List Cell → Option (List Cell) → Edit → Result (List Change) DmlFault → Result (List Change) DmlFault
with_edit table key before Gone rest = before_changes table before None rest
with_edit table key None (New row) rest = before_changes table None (Some row) rest
with_edit table key (Some held) (New row) rest = Err (Duplicate key)
with_edit table key before (Moved row) rest = before_changes table before (Some row) rest
with_edit table key before Twice rest = Err (Duplicate key)

-- what the edits come to, one after the other
abbrev pub settled : List ℕ → (List Cell → Option (List Cell)) → List Edited → Result (List Change) DmlFault
settled table row_at [] = Ok []
settled table row_at (e ∷ edits) = with_edit table e.0 (row_at e.0) e.1 (settled table row_at edits)

-- a list that is there before the rest of an answer
abbrev pub prefixed : {A E : Type 0} → List A → Result (List A) E → Result (List A) E
prefixed done (Err e) = Err e
prefixed done (Ok rest) = Ok (done ++ rest)

-- an edit is noted: changes are there before the rest, whatever comes behind it, or the fault is that of the edit
abbrev pub Notes : Result (Unit {0}) DmlFault → List Change → (Result (List Change) DmlFault → Result (List Change) DmlFault) → List Change → Type 0
Notes result before edit after =
    MatchResult result (λ _. (rest : Result (List Change) DmlFault) → prefixed before (edit rest) ≡ prefixed after rest)
    (λ fault. fault ≢ Memory → (rest : Result (List Change) DmlFault) → edit rest ≡ Err fault)

-- the selected rows of some, with what they become: a key that is taken, and the row that is put, if one is
abbrev pub picked : List Entry → List RowEffect → List (List Cell × Option (List Cell))
picked [] effects = []
picked (e ∷ entries) [] = []
picked (e ∷ entries) (Stays ∷ effects) = picked entries effects
picked (e ∷ entries) (Goes ∷ effects) = (e.0, None) ∷ picked entries effects
picked (e ∷ entries) (Becomes row ∷ effects) = (e.0, Some row) ∷ picked entries effects

-- the keys that are taken
abbrev pub taken_of : List (List Cell × Option (List Cell)) → List (List Cell)
taken_of picks = map (λ p. p.0) picks

-- the entries that are put
abbrev pub with_entry : Table → Option (List Cell) → List Entry → List Entry
with_entry table None entries = entries
with_entry table (Some row) entries = entry_of table row ∷ entries

abbrev pub put_of : Table → List (List Cell × Option (List Cell)) → List Entry
put_of table [] = []
put_of table (p ∷ picks) = with_entry table p.1 (put_of table picks)

-- the selected rows, or a fault
abbrev pub Picks : Type 0
Picks = Result (List (List Cell × Option (List Cell))) DmlFault

-- a selected row is picked
abbrev pub with_pick : List Cell → Result RowEffect DmlFault → Picks → Picks
with_pick key (Err e) rest = Err e
with_pick key (Ok Stays) rest = rest
with_pick key (Ok Goes) rest = front (Ok (key, None)) rest
with_pick key (Ok (Becomes row)) rest = front (Ok (key, Some row)) rest

-- the selected rows with what they become, or the first fault
abbrev pub picks_of : Table → Option (List (List ℕ × Expr)) → Option Expr → List Entry → Picks
picks_of table sets condition [] = Ok []
picks_of table sets condition (e ∷ entries) = with_pick e.0 (effect_of table sets condition e.1) (picks_of table sets condition entries)

-- what is picked of one row, if it is there
abbrev pub one_pick : Table → Option (List (List ℕ × Expr)) → Option Expr → List Cell → Option (List Cell) → Picks
one_pick table sets condition key None = Ok []
one_pick table sets condition key (Some row) = with_pick key (effect_of table sets condition row) (Ok [])
