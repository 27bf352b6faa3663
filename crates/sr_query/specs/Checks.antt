-- What is wrong with a SELECT before a row is looked at: columns that are not there, names that two columns have, wrong classes, two
-- sources under one alias, and aggregates where none may stand.
use Rattle.std.specs.Prelude.{ℕ, Bool, true, false, not, ◌&&◌, ◌||◌, cond, List, [], ◌∷◌, map, Option, Some, None}
use Rattle.std.specs.List.{list_any}
use Rattle.sr_base.specs.declared.value.Kind.{Kind}
use Rattle.sr_ast.specs.Exprs.{term_of}
use Rattle.sr_ast.specs.Terms.{Term}
use Rattle.sr_ast.specs.Terms.Term.{literal, column, unary, binary}
use Rattle.sr_ast.specs.Classes.{class_in, kind_of, is_meant, is_number}
use Rattle.sr_ast.specs.declared.classes.Class.{Class}
use Rattle.sr_ast.specs.declared.expr.Expr.{Expr}
use Rattle.sr_ast.specs.declared.query.Item.{Item}
use Rattle.sr_ast.specs.declared.query.Item.TheVariants as item
use Rattle.sr_ast.specs.declared.query.Items.{Items}
use Rattle.sr_ast.specs.declared.query.Items.TheVariants as items
use Rattle.sr_ast.specs.declared.query.Join.{Join}
use Rattle.sr_ast.specs.declared.query.OrderBy.{OrderBy}
use Rattle.sr_ast.specs.declared.query.Select.{Select}
use Rattle.sr_ast.specs.Uses.{gives_value, gives_truth}
use Rattle.sr_exec_where.specs.Checks.{Scope, unknown_in, is_among}
use Rattle.sr_catalog_schema.specs.Firsts.{first_of, first_among}
use Rattle.sr_query.specs.Sources.{sources_of, conditions_of, alias_of}

-- the leftmost unknown column of an item
abbrev pub unknown_in_item : Scope → Item → Option (List ℕ)
unknown_in_item scope (item.Value e) = unknown_in scope e
unknown_in_item scope item.Count = None
unknown_in_item scope (item.Sum e) = unknown_in scope e
unknown_in_item scope (item.Min e) = unknown_in scope e
unknown_in_item scope (item.Max e) = unknown_in scope e

-- of the items
abbrev pub unknown_in_items : Scope → Items → Option (List ℕ)
unknown_in_items scope items.All = None
unknown_in_items scope (items.Each list) = first_among (unknown_in_item scope) list

-- a column of ORDER BY that is not there
abbrev pub no_kind : List ℕ → Option Kind → Option (List ℕ)
no_kind name None = Some name
no_kind name (Some kind) = None

abbrev pub unknown_in_order : Scope → OrderBy → Option (List ℕ)
unknown_in_order scope o = no_kind o.column (kind_of scope o.table o.column)

-- the leftmost unknown column: of the items, the conditions, ORDER BY
abbrev pub unknown_in_select : Scope → Select → Option (List ℕ)
unknown_in_select scope s =
    first_of (unknown_in_items scope s.items) (first_of (first_among (unknown_in scope) (conditions_of s)) (first_among (unknown_in_order scope) s.order))

-- whether a reference means two of these columns. No table has a column twice, so they are of two sources
abbrev pub means_two : Scope → Option (List ℕ) → List ℕ → Bool
means_two [] table name = false
means_two (c ∷ columns) table name =
    cond (is_meant c.0 c.1 table name) (list_any (λ (d : Option (List ℕ) × List ℕ × Kind). is_meant d.0 d.1 table name) columns) (means_two columns table name)

-- whether a reference of an expression does
abbrev pub is_ambiguous : Scope → Term → Bool
is_ambiguous scope (literal v) = false
is_ambiguous scope (column table name) = means_two scope table name
is_ambiguous scope (unary op a) = is_ambiguous scope a
is_ambiguous scope (binary op a b) = is_ambiguous scope a || is_ambiguous scope b

-- a class that SUM takes: a number's, or NULL's
abbrev pub gives_number : Option Class → Bool
gives_number None = false
gives_number (Some c) = is_number c

-- whether an item is right: each reference means one column, and the class is a value's, for SUM a number's
abbrev pub is_good_item : Scope → Item → Bool
is_good_item scope (item.Value e) = not (is_ambiguous scope (term_of e)) && gives_value (class_in scope (term_of e))
is_good_item scope item.Count = true
is_good_item scope (item.Sum e) = not (is_ambiguous scope (term_of e)) && gives_number (class_in scope (term_of e))
is_good_item scope (item.Min e) = not (is_ambiguous scope (term_of e)) && gives_value (class_in scope (term_of e))
is_good_item scope (item.Max e) = not (is_ambiguous scope (term_of e)) && gives_value (class_in scope (term_of e))

-- whether a condition is right: each reference means one column, and the class is a truth's
abbrev pub is_good_condition : Scope → Expr → Bool
is_good_condition scope e = not (is_ambiguous scope (term_of e)) && gives_truth (class_in scope (term_of e))

-- whether a column of ORDER BY means one column
abbrev pub is_good_order : Scope → OrderBy → Bool
is_good_order scope o = not (means_two scope o.table o.column)

-- whether each item of a list passes a test
abbrev pub all_pass : {A : Type 0} → (A → Bool) → List A → Bool
all_pass p [] = true
all_pass p (x ∷ xs) = p x && all_pass p xs

-- whether an item is an aggregate
abbrev pub is_aggregate : Item → Bool
is_aggregate (item.Value e) = false
is_aggregate item.Count = true
is_aggregate (item.Sum e) = true
is_aggregate (item.Min e) = true
is_aggregate (item.Max e) = true

-- whether there is no JOIN
abbrev pub is_single : List Join → Bool
is_single [] = true
is_single (j ∷ joins) = false

-- either no item is an aggregate, or all are and there is one source
abbrev pub are_together : List Item → List Join → Bool
are_together list joins = not (list_any is_aggregate list) || (all_pass is_aggregate list && is_single joins)

-- whether the items are right
abbrev pub are_good_items : Scope → Items → List Join → Bool
are_good_items scope items.All joins = true
are_good_items scope (items.Each list) joins = are_together list joins && all_pass (is_good_item scope) list

-- whether the names are of sources with different aliases
abbrev pub are_distinct : List (List ℕ) → Bool
are_distinct [] = true
are_distinct (name ∷ names) = not (is_among name names) && are_distinct names

-- whether nothing of this is wrong
abbrev pub is_good : Scope → Select → Bool
is_good scope s =
    are_distinct (map alias_of (sources_of s))
    && (are_good_items scope s.items s.joins && (all_pass (is_good_condition scope) (conditions_of s) && all_pass (is_good_order scope) s.order))
