-- The only source of a statement: its rows, and that there is no other.
use Rattle.std.proofs.Common.{◌≡◌, Bool, true, false, ◌&&◌, ◌||◌, List, [], ◌∷◌, ◌++◌, length, map, Option, Some, None, Result, Ok, Err, refl, sym, ap, ◌∙◌}
use Rattle.std.specs.Prelude.{not}
use Rattle.std.proofs.lemmas.List.{append-nil}
use Rattle.std.specs.List.{list_any}
use Rattle.sr_base.specs.declared.value.Value.{Value as Cell}
use Rattle.sr_ast.specs.declared.expr.Expr.{Expr}
use Rattle.sr_ast.specs.declared.query.Items.{Items}
use Rattle.sr_ast.specs.declared.query.Items.TheVariants as items
use Rattle.sr_ast.specs.declared.query.Join.{Join}
use Rattle.sr_ast.specs.declared.query.Select.{Select}
use Rattle.sr_ast.specs.declared.query.Source.{Source}
use Rattle.sr_eval.specs.Inner.Bounds.{values_of}
use Rattle.sr_eval.specs.Inner.Laws.{AndIsBoth}
use Rattle.sr_eval.specs.declared.bound.Bound.{Bound}
use Rattle.sr_rows.specs.Marks.{RowMap, rows_of_table}
use Rattle.sr_catalog_schema.specs.Catalogs.{Lists}
use Rattle.sr_catalog_schema.specs.declared.fault.DmlFault.{DmlFault}
use Rattle.sr_exec_where.specs.Checks.{Scope}
use Rattle.sr_exec_dml.specs.Inner.Edits.{prefixed}
use Rattle.sr_exec_dml.specs.Sequences.{front, each}
use Rattle.sr_exec_dml.proofs.Fitted.{prefixed-none}
use Rattle.sr_query.specs.Checks.{all_pass, are_distinct, are_good_items, is_aggregate, is_good, is_good_condition, is_good_item, is_good_order, is_single}
use Rattle.sr_query.specs.Combinations.{combinations, kept, meets, over_each, with_kept}
use Rattle.sr_query.specs.Inner.Candidates.{as_rows}
use Rattle.sr_query.specs.Inner.Equations.{equations}
use Rattle.sr_query.specs.Inner.Lookups.{equated_key, over_one}
use Rattle.sr_query.specs.Inner.Walks.{IsAlone, IsJoined, bounds_of, found, seen}
use Rattle.sr_query.specs.Sources.{Origin, alias_of, as_origin, conditions_of, origins_of, rows_by_key, sources_of, table_of}
use Rattle.sr_query.specs.declared.joined.Combination.{Combination}
use Rattle.sr_query.specs.declared.joined.Combination.TheVariants.{One}
use Rattle.sr_query.specs.declared.joined.Joined.{Joined}
use Rattle.sr_query.proofs.Combined.{prefixed_front}
use Rattle.sr_query.proofs.OtherRows.{only_row}

abbrev Rows : Type 0
Rows = List (List Cell)

-- each combination is a row
each_alone : (rows : Rows) → over_each (λ row. combinations row []) rows ≡ rows
each_alone [] = refl
each_alone (row ∷ rows) = ap (λ (rs : Rows). row ∷ rs) (each_alone rows)

one_alone : (o : Option (List Cell)) → over_one (λ row. combinations row []) o ≡ as_rows o
one_alone None = refl
one_alone (Some row) = refl

pub all_left : (rows : RowMap) (scope : Scope) (conditions : List Expr) (joined : Joined)
    → kept scope conditions (combinations [] (seen rows joined ∷ [])) ≡ kept scope conditions (rows_by_key rows joined.table.now)
all_left rows scope conditions joined = ap (kept scope conditions) (each_alone (rows_by_key rows joined.table.now))

-- under a key that is fixed
pub one_left : (rows : RowMap) (scope : Scope) (conditions : List Expr) (joined : Joined) (key : List Cell) → IsJoined rows joined → AndIsBoth
    → equated_key [] joined.scope (equations scope conditions) joined.table.now.key ≡ Some key
    → kept scope conditions (combinations [] (seen rows joined ∷ [])) ≡ kept scope conditions (as_rows (rows_of_table rows joined.table.now.name key))
one_left rows scope conditions joined key source both fixed =
    let found = rows_of_table rows joined.table.now.name key in
    ap (kept scope conditions) (sym (append-nil (combinations [] (seen rows joined ∷ []))))
    ∙ only_row rows scope conditions [] joined [] key source both fixed []
    ∙ ap (kept scope conditions) (append-nil (over_one (λ row. combinations row []) found) ∙ one_alone found)

-- a statement with aggregates has one source, or it is refused
picked : (b a p q x y : Bool) → a ≡ true → (b && (((not a || (p && q)) && x) && y)) ≡ true → q ≡ true
picked b a p true x y i h = refl
picked false a p false x y i h = cc
picked true false p false x y i h = cc
picked true true false false x y i h = cc
picked true true true false x y i h = cc

one_origin : (rows : RowMap) (o : Result Origin DmlFault) (js : List Joined) → front o (Ok []) ≡ Ok (map (seen rows) js) → length js ≡ 1
one_origin rows (Err e) js h = cc
one_origin rows (Ok origin) [] h = cc
one_origin rows (Ok origin) (j ∷ []) h = refl
one_origin rows (Ok origin) (j ∷ k ∷ js) h = cc

one_source : (rows : RowMap) (f : Source → Result Origin DmlFault) (source : Source) (joins : List Join) (js : List Joined)
    → each f (source ∷ map (λ (j : Join). j.source) joins) ≡ Ok (map (seen rows) js) → is_single joins ≡ true → length js ≡ 1
one_source rows f source [] js h single = one_origin rows (f source) js h
one_source rows f source (j ∷ joins) js h single = cc

by_items : (scope : Scope) (list : Items) (joins : List Join) (js : List Joined) (b y : Bool) → (is_single joins ≡ true → length js ≡ 1)
    → (b && (are_good_items scope list joins && y)) ≡ true → IsAlone list js
by_items scope items.All joins js b y count h = tt
by_items scope (items.Each list) joins js b y count h =
    λ any. count (picked b (list_any is_aggregate list) (all_pass is_aggregate list) (is_single joins) (all_pass (is_good_item scope) list) y any h)

pub is_alone : (catalog : Lists) (rows : RowMap) (s : Select) (js : List Joined) (scope : Scope)
    → origins_of catalog rows (sources_of s) ≡ Ok (map (seen rows) js) → is_good scope s ≡ true → IsAlone s.items js
is_alone catalog rows s js scope there good =
    by_items scope s.items s.joins js (are_distinct (map alias_of (sources_of s)))
    (all_pass (is_good_condition scope) (conditions_of s) && all_pass (is_good_order scope) s.order)
    (one_source rows (λ (source : Source). as_origin rows source (table_of catalog source)) s.source s.joins js there) good

-- a row that is kept stands behind those that are
found_more : (xs : List Combination) (b : Bound) → found (xs ++ One b ∷ []) ≡ found xs ++ b.values.now ∷ []
found_more [] b = ap (λ (row : List Cell). row ∷ []) (append-nil b.values.now)
found_more (x ∷ xs) b = ap (λ (rows : Rows). values_of (bounds_of x) ∷ rows) (found_more xs b)

pub row_kept : (scope : Scope) (conditions : List Expr) (xs ys : List Combination) (b : Bound) (row : List Cell) (rest : Rows)
    → ys ≡ xs ++ One b ∷ [] → b.values.now ≡ row → meets scope conditions row ≡ Ok true
    → prefixed (found xs) (kept scope conditions (row ∷ rest)) ≡ prefixed (found ys) (kept scope conditions rest)
row_kept scope conditions xs ys b row rest pushed is met =
    ap (λ (m : Result Bool DmlFault). prefixed (found xs) (with_kept row m (kept scope conditions rest))) met
    ∙ prefixed_front (found xs) row (kept scope conditions rest)
    ∙ ap (λ (rows : Rows). prefixed rows (kept scope conditions rest))
    (sym (ap found pushed ∙ found_more xs b ∙ ap (λ (r : List Cell). found xs ++ r ∷ []) is))

pub ruleset none_before = (prefixed-none, append-nil)
