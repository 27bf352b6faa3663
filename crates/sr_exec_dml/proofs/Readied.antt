-- A statement that is made ready does what it does by its names.
use Rattle.std.proofs.Common.{◌≡◌, ℕ, suc, Bool, true, false, cond, bytes_eq, slice_get, map, List, [], ◌∷◌, Option, Some, None, IfSome, IsSome, Result, Ok, Err, refl, sym, ap, subst, ◌∙◌}
use Rattle.std.specs.Option.{option_copied, option_map, option_and_then}
use Rattle.sr_base.specs.declared.value.Value.{Value}
use Rattle.sr_ast.specs.Exprs.{term_of}
use Rattle.sr_ast.specs.declared.expr.Expr.{Expr}
use Rattle.sr_base_dates.specs.Fitting.{fitted}
use Rattle.sr_eval.specs.Meanings.{Meaning, cell_of}
use Rattle.sr_eval.proofs.Places.{position_next, resolved_meaning}
use Rattle.sr_catalog_schema.specs.declared.table.Column.{Column}
use Rattle.sr_catalog_schema.specs.declared.table.Table.{Table}
use Rattle.sr_catalog_schema.specs.declared.fault.DmlFault.{DmlFault}
use Rattle.sr_exec_where.specs.Checks.{Scope}
use Rattle.sr_catalog_schema.specs.Members.{scope_of}
use Rattle.sr_exec_where.specs.Inner.Preparing.{resolved_in, sets_in, resolution_in, IsPrepared, place_among, places_in}
use Rattle.sr_exec_dml.specs.Inner.Making.{selected_at, new_value, new_row, given_value, given_row}
use Rattle.sr_exec_dml.specs.Sequences.{each, followed, front}
use Rattle.sr_exec_dml.specs.Statements.{tested, selected, effect_if, effect_of, effect_selected}
use Rattle.sr_exec_dml.specs.Storing.{constant, fitting, inserted_row, stored, updated_value, updated_row, value_for}
use Rattle.sr_exec_where.specs.Naming.{set_for}
use Rattle.sr_exec_dml.specs.declared.effect.RowEffect.TheVariants.{Becomes}
use Rattle.sr_exec_where.specs.declared.prepared.Prepared.{Prepared}

-- a column takes the value that there is
pub stored_value : (column : Column) (m : Option Meaning) (v : Value) → option_map cell_of m ≡ Some v → stored column m ≡ fitting column (fitted v column.kind)
stored_value column None v h = cc
stored_value column (Some m) v h = let same : cell_of m ≡ v = cc in ap (λ w. fitting column (fitted w column.kind)) same

selection : (scope : Scope) (condition : Option Expr) (row : List Value) → selected_at row (resolved_in scope condition) ≡ selected scope condition row
selection scope None row = refl
selection scope (Some e) row = ap tested (resolved_meaning scope row (term_of e))

value_same : (scope : Scope) (row : List Value) (column : Column) (old : Value) (e : Option Expr) → new_value row column old (resolved_in scope e) ≡ updated_value scope row column old e
value_same scope row column old None = refl
value_same scope row column old (Some e) = ap (stored column) (resolved_meaning scope row (term_of e))

row_same : (scope : Scope) (row : List Value) (sets : List (List ℕ × Expr)) (columns : List Column) (olds : List Value)
    → new_row row columns olds (sets_in scope sets columns) ≡ updated_row scope row sets columns olds
row_same scope row sets [] olds = refl
row_same scope row sets (c ∷ columns) [] = refl
row_same scope row sets (c ∷ columns) (old ∷ olds) =
    ap (λ v. front v (new_row row columns olds (sets_in scope sets columns))) (value_same scope row c old (set_for sets c.name))
    ∙ ap (front (updated_value scope row c old (set_for sets c.name))) (row_same scope row sets columns olds)

-- a row is selected
pub selected_by : (table : Table) (p : Prepared) (row : List Value) → IsPrepared table p → selected_at row (resolution_in p.resolved_condition) ≡ selected (scope_of table) p.condition.now row
selected_by table p row h = ap (selected_at row) h.condition ∙ selection (scope_of table) p.condition.now row

-- and updated
pub updated_by : (table : Table) (p : Prepared) (row : List Value) (s : List (List ℕ × Expr)) → IsPrepared table p → option_copied p.sets ≡ Some s
    → new_row row table.columns row (map resolution_in p.resolved_sets) ≡ updated_row (scope_of table) row s table.columns row
updated_by table p row s h is =
    let given : IfSome (Some s) (λ s. map resolution_in p.resolved_sets ≡ sets_in (scope_of table) s table.columns) = subst (λ o. IfSome o (λ s. map resolution_in p.resolved_sets ≡ sets_in (scope_of table) s table.columns)) is h.sets in
    ap (new_row row table.columns row) given ∙ row_same (scope_of table) row s table.columns row

pub ruleset by_names = (selected_by, updated_by)

-- a row over which the condition has no value has no effect
pub effect_unselected : (table : Table) (p : Prepared) (row : List Value) (f : DmlFault) → IsPrepared table p
    → selected_at row (resolution_in p.resolved_condition) ≡ Err f → effect_of table (option_copied p.sets) p.condition.now row ≡ Err f
effect_unselected table p row f h e =
    ap (λ (r : Result Bool DmlFault). followed r (λ is_selected. effect_if is_selected (effect_selected table (option_copied p.sets) row)))
    (sym (selected_by table p row h) ∙ e)

-- and neither has one that can not be updated
pub effect_unmade : (table : Table) (p : Prepared) (row : List Value) (f : DmlFault) → IsPrepared table p → IsSome (option_copied p.sets)
    → selected_at row (resolution_in p.resolved_condition) ≡ Ok true → new_row row table.columns row (map resolution_in p.resolved_sets) ≡ Err f
    → effect_of table (option_copied p.sets) p.condition.now row ≡ Err f
effect_unmade table p row f h there is made = go (option_copied p.sets) refl there where
  go : (o : Option (List (List ℕ × Expr))) → option_copied p.sets ≡ o → IsSome o → effect_of table (option_copied p.sets) p.condition.now row ≡ Err f
  go None e t = cc
  go (Some s) e t =
      ap (λ (o : Option (List (List ℕ × Expr))). effect_of table o p.condition.now row) e
      ∙ (ap (λ (r : Result Bool DmlFault). followed r (λ is_selected. effect_if is_selected (effect_selected table (Some s) row))) (sym (selected_by table p row h) ∙ is)
      ∙ ap (λ (r : Result (List Value) DmlFault). followed r (λ new. Ok (Becomes new))) (sym (updated_by table p row s h e) ∙ made))

-- the value that is given for a column stands at its place
here_or_behind : (b : Bool) (e : Expr) (es : List Expr) (found : Option Expr) (place : Option ℕ) → found ≡ option_and_then (slice_get es) place
    → cond b (Some e) found ≡ option_and_then (slice_get (e ∷ es)) (cond b (Some 0) (option_map suc place))
here_or_behind true e es found place h = refl
here_or_behind false e es found None h = h
here_or_behind false e es found (Some n) h = h

none_there : (place : Option ℕ) → ◌≡◌ {A = Option Expr} None (option_and_then (slice_get []) place)
none_there None = refl
none_there (Some n) = refl

given_at : (names : List (List ℕ)) (es : List Expr) (column : List ℕ) → value_for names es column ≡ option_and_then (slice_get es) (place_among names column)
given_at [] es column = refl
given_at (name ∷ names) [] column = none_there (place_among (name ∷ names) column)
given_at (name ∷ names) (e ∷ es) column =
    here_or_behind (bytes_eq name column) e es (value_for names es column) (place_among names column) (given_at names es column)
    ∙ ap (option_and_then (slice_get (e ∷ es))) (sym (position_next (λ n. bytes_eq n column) name names))

-- the row of an INSERT is the one by the places of its values
row_given : (names : List (List ℕ)) (es : List Expr) (columns : List Column) → inserted_row names es columns ≡ given_row es columns (places_in names columns)
row_given names es [] = refl
row_given names es (c ∷ columns) =
    ap (λ e. front (stored c (constant e)) (inserted_row names es columns)) (given_at names es c.name)
    ∙ ap (front (given_value es c (place_among names c.name))) (row_given names es columns)

pub rows_given : (names : List (List ℕ)) (columns : List Column) (rows : List (List Expr)) → each (λ es. inserted_row names es columns) rows ≡ each (λ es. given_row es columns (places_in names columns)) rows
rows_given names columns rows = λ i. each (λ es. row_given names es columns i) rows
