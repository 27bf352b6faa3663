-- A statement that is made ready does what it does by its names.
use Rattle.std.proofs.Common.{◌≡◌, ℕ, map, List, [], ◌∷◌, Option, refl, sym, ap, ◌∙◌}
use Rattle.std.proofs.lemmas.List.{append-nil, append_assoc, map-append}
use Rattle.sr_base.specs.declared.value.Value.{Value}
use Rattle.sr_ast.specs.Exprs.{term_of}
use Rattle.sr_ast.specs.declared.expr.Expr.{Expr}
use Rattle.sr_ast.specs.declared.query.Item.{Item}
use Rattle.sr_ast.specs.declared.query.Item.TheVariants as item
use Rattle.sr_ast.specs.declared.query.Items.{Items}
use Rattle.sr_ast.specs.declared.query.Items.TheVariants as items
use Rattle.sr_ast.specs.declared.query.OrderBy.{OrderBy}
use Rattle.sr_eval.proofs.Places.{resolved_meaning}
use Rattle.sr_eval.specs.Meanings.{meaning}
use Rattle.sr_eval.specs.Inner.Resolutions.{Resolution}
use Rattle.sr_eval.specs.Inner.Resolving.{resolution_of}
use Rattle.sr_exec_where.specs.Checks.{Scope}
use Rattle.sr_exec_dml.specs.Sequences.{front, each}
use Rattle.sr_exec_dml.specs.Statements.{tested}
use Rattle.sr_query.specs.Combinations.{meets, and_then}
use Rattle.sr_query.specs.Inner.Equations.{equation_of, equations}
use Rattle.sr_query.specs.Inner.Lookups.{equated_key}
use Rattle.sr_query.specs.Orders.{ranks_of}
use Rattle.sr_query.specs.Inner.Orders.{placed_in}
use Rattle.sr_query.specs.Inner.Preparing.{resolved_in, IsPrepared, meets_at, value_by, resolved_item, resolved_items, row_by, placed_row}
use Rattle.sr_query.specs.Rows.{valued, value_in, item_value, row_of, with_ranks, listed_row}
use Rattle.sr_query.specs.Sources.{conditions_of}
use Rattle.sr_query.specs.declared.placing.Placed.{Placed}
use Rattle.sr_query.specs.declared.prepared.Prepared.{Prepared}
use Rattle.sr_query.proofs.Places.{ranks_placed}

-- one more condition, or item
pub ruleset one_more = (map-append, append_assoc, append-nil)

-- a combination meets the conditions
meets_same : (scope : Scope) (values : List Value) (es : List Expr) → meets_at values (map (resolved_in scope) es) ≡ meets scope es values
meets_same scope values [] = refl
meets_same scope values (e ∷ es) =
    ap (λ m. and_then (tested m) (meets_at values (map (resolved_in scope) es))) (resolved_meaning scope values (term_of e))
    ∙ ap (and_then (tested (meaning scope values (term_of e)))) (meets_same scope values es)

pub met_by : (p : Prepared) (values : List Value) → IsPrepared p
    → meets_at values (map resolution_of p.conditions) ≡ meets p.scope.now (conditions_of p.select.now) values
met_by p values h = ap (meets_at values) h.conditions ∙ meets_same p.scope.now values (conditions_of p.select.now)

-- the key that they fix for a source
pub fixed_by : (p : Prepared) (values : List Value) (columns : Scope) (places : List ℕ) → IsPrepared p
    → equated_key values columns (map equation_of p.equations) places ≡ equated_key values columns (equations p.scope.now (conditions_of p.select.now)) places
fixed_by p values columns places h = ap (λ es. equated_key values columns es places) h.equations

-- the value of an expression
value_same : (scope : Scope) (e : Expr) (values : List Value) → value_by (resolved_in scope e) values ≡ value_in scope e values
value_same scope e values = ap valued (resolved_meaning scope values (term_of e))

pub values_same : (scope : Scope) (e : Expr) (kept : List (List Value)) → each (value_by (resolved_in scope e)) kept ≡ each (value_in scope e) kept
values_same scope e [] = refl
values_same scope e (values ∷ kept) =
    ap (λ v. front v (each (value_by (resolved_in scope e)) kept)) (value_same scope e values)
    ∙ ap (front (value_in scope e values)) (values_same scope e kept)

-- the row of a combination
item_same : (scope : Scope) (values : List Value) (i : Item) → value_by (resolved_item scope i) values ≡ item_value scope values i
item_same scope values (item.Value e) = value_same scope e values
item_same scope values item.Count = refl
item_same scope values (item.Sum e) = refl
item_same scope values (item.Min e) = refl
item_same scope values (item.Max e) = refl

list_same : (scope : Scope) (values : List Value) (list : List Item)
    → each (λ r. value_by r values) (map (resolved_item scope) list) ≡ each (item_value scope values) list
list_same scope values [] = refl
list_same scope values (i ∷ list) =
    ap (λ v. front v (each (λ r. value_by r values) (map (resolved_item scope) list))) (item_same scope values i)
    ∙ ap (front (item_value scope values i)) (list_same scope values list)

row_same : (scope : Scope) (items : Items) (values : List Value) → row_by (resolved_items scope items) values ≡ row_of scope items values
row_same scope items.All values = refl
row_same scope (items.Each list) values = list_same scope values list

-- and its rank
listed_same : (scope : Scope) (items : Items) (order : List OrderBy) (values : List Value)
    → placed_row (resolved_items scope items) (map (placed_in scope) order) values ≡ listed_row scope items order values
listed_same scope items order values =
    ap (λ ranks. with_ranks ranks (row_by (resolved_items scope items) values)) (sym (ranks_placed scope order values))
    ∙ ap (with_ranks (ranks_of scope order values)) (row_same scope items values)

rows_same : (scope : Scope) (items : Items) (order : List OrderBy) (kept : List (List Value))
    → each (placed_row (resolved_items scope items) (map (placed_in scope) order)) kept ≡ each (listed_row scope items order) kept
rows_same scope items order [] = refl
rows_same scope items order (values ∷ kept) =
    ap (λ r. front r (each (placed_row (resolved_items scope items) (map (placed_in scope) order)) kept)) (listed_same scope items order values)
    ∙ ap (front (listed_row scope items order values)) (rows_same scope items order kept)

pub listed_by : (scope : Scope) (items : Items) (order : List OrderBy) (parts : Option (List Resolution)) (places : List Placed) (kept : List (List Value))
    → parts ≡ resolved_items scope items → places ≡ map (placed_in scope) order
    → each (placed_row parts places) kept ≡ each (listed_row scope items order) kept
listed_by scope items order parts places kept e f =
    ap (λ ps. each (placed_row ps places) kept) e ∙ ap (λ ps. each (placed_row (resolved_items scope items) ps) kept) f
    ∙ rows_same scope items order kept
