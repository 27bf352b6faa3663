-- The whole of a SELECT, from its parts.
use Rattle.std.proofs.Common.{◌≡◌, true, false, List, [], ◌∷◌, ◌++◌, map, Result, Ok, Err, refl, sym, ap, ◌∙◌}
use Rattle.std.proofs.lemmas.List.{append-nil}
use Rattle.std.specs.List.{list_any}
use Rattle.sr_base.specs.declared.value.Value.{Value as Cell}
use Rattle.sr_ast.specs.declared.expr.Expr.{Expr}
use Rattle.sr_ast.specs.declared.query.Item.{Item}
use Rattle.sr_ast.specs.declared.query.Items.{Items}
use Rattle.sr_ast.specs.declared.query.Items.TheVariants as items
use Rattle.sr_ast.specs.declared.query.OrderBy.{OrderBy}
use Rattle.sr_ast.specs.declared.query.Select.{Select}
use Rattle.sr_eval.specs.Inner.Bounds.{values_of}
use Rattle.sr_eval.specs.declared.bound.Bound.{Bound}
use Rattle.sr_rows.specs.Marks.{RowMap}
use Rattle.sr_catalog_schema.specs.Catalogs.{Lists}
use Rattle.sr_catalog_schema.specs.declared.fault.DmlFault.{DmlFault}
use Rattle.sr_exec_where.specs.Checks.{Scope}
use Rattle.sr_exec_dml.specs.Inner.Edits.{prefixed}
use Rattle.sr_exec_dml.specs.Sequences.{each, followed}
use Rattle.sr_exec_dml.specs.Statements.{in_order}
use Rattle.sr_exec_dml.proofs.Fitted.{prefixed-none}
use Rattle.sr_query.specs.Checks.{is_aggregate, unknown_in_select}
use Rattle.sr_query.specs.Combinations.{combinations, kept}
use Rattle.sr_query.specs.Rows.{aggregate, alone, listed, listed_items, listed_row}
use Rattle.sr_query.specs.Selecting.{selected, selected_from, bad_in_select}
use Rattle.sr_query.specs.Sources.{Origin, sources_of, conditions_of, origins_of, scope_of}
use Rattle.sr_query.specs.Inner.Walks.{columns_left, found, seen}
use Rattle.sr_query.specs.declared.joined.Joined.{Joined}
use Rattle.sr_query.specs.declared.joined.Combination.{Combination}

-- all combinations, from none that is kept and no row that is chosen
pub from_nothing : (scope : Scope) (conditions : List Expr) (before : List Combination) (bounds : List Bound) (origins : List Origin)
    (answer : Result (List (List Cell)) DmlFault) → before ≡ [] → bounds ≡ []
    → prefixed (found before) (kept scope conditions (combinations (values_of bounds) origins ++ [])) ≡ answer
    → kept scope conditions (combinations [] origins) ≡ answer
from_nothing scope conditions before bounds origins answer e f h =
    ap (kept scope conditions) (sym (append-nil (combinations [] origins))) ∙ sym (prefixed-none (kept scope conditions (combinations [] origins ++ [])))
    ∙ sym (ap (λ bs. prefixed (found bs) (kept scope conditions (combinations [] origins ++ []))) e)
    ∙ sym (ap (λ bs. prefixed (found before) (kept scope conditions (combinations (values_of bs) origins ++ []))) f) ∙ h

scope_seen : (rows : RowMap) (js : List Joined) → scope_of (map (seen rows) js) ≡ columns_left js
scope_seen rows [] = refl
scope_seen rows (j ∷ js) = ap (λ columns. j.scope ++ columns) (scope_seen rows js)

-- a SELECT whose sources are there
pub by_sources : (catalog : Lists) (rows : RowMap) (s : Select) (js found_js : List Joined) (scope : Scope) → found_js ≡ js
    → origins_of catalog rows (sources_of s) ≡ Ok (map (seen rows) js) → scope ≡ columns_left js
    → selected catalog rows s ≡ in_order (unknown_in_select scope s) (bad_in_select scope s)
    (followed (kept scope (conditions_of s) (combinations [] (map (seen rows) found_js))) (listed scope s.items s.order))
by_sources catalog rows s js found_js scope same origins e =
    ap (λ o. followed o (λ os. selected_from os s)) origins
    ∙ ap (λ sc. in_order (unknown_in_select sc s) (bad_in_select sc s) (followed (kept sc (conditions_of s) (combinations [] (map (seen rows) js)))
    (listed sc s.items s.order))) (scope_seen rows js ∙ sym e)
    ∙ ap (λ ls. in_order (unknown_in_select scope s) (bad_in_select scope s)
    (followed (kept scope (conditions_of s) (combinations [] (map (seen rows) ls))) (listed scope s.items s.order))) (sym same)

-- what is listed of the combinations that are kept, by the items: rows of each, or the aggregates
followed_same : {A B E : Type 0} (o : Result A E) (f g : A → Result B E) → ((x : A) → f x ≡ g x) → followed o f ≡ followed o g
followed_same (Err e) f g same = refl
followed_same (Ok x) f g same = same x

pub of_all : (scope : Scope) (items_now : Items) (order : List OrderBy) (k : Result (List (List Cell)) DmlFault) → items_now ≡ items.All
    → followed k (listed scope items_now order) ≡ followed k (each (listed_row scope items_now order))
of_all scope items_now order k is = rw is (followed_same k (listed scope items.All order) (each (listed_row scope items.All order)) (λ rows. refl))

pub of_values : (scope : Scope) (items_now : Items) (list : List Item) (order : List OrderBy) (k : Result (List (List Cell)) DmlFault)
    → items_now ≡ items.Each list → list_any is_aggregate list ≡ false
    → followed k (listed scope items_now order) ≡ followed k (each (listed_row scope items_now order))
of_values scope items_now list order k is none =
    rw is (followed_same k (listed scope (items.Each list) order) (each (listed_row scope (items.Each list) order))
    (λ rows. ap (λ b. listed_items b scope list order rows) none))

pub of_aggregates : (scope : Scope) (items_now : Items) (list : List Item) (order : List OrderBy) (k : Result (List (List Cell)) DmlFault)
    → items_now ≡ items.Each list → list_any is_aggregate list ≡ true
    → followed k (listed scope items_now order) ≡ followed k (λ rows_kept. alone (each (aggregate scope rows_kept) list))
of_aggregates scope items_now list order k is any =
    rw is (followed_same k (listed scope (items.Each list) order) (λ rows_kept. alone (each (aggregate scope rows_kept) list))
    (λ rows. ap (λ b. listed_items b scope list order rows) any))

pub ruleset by_items = (of_all, of_values, of_aggregates)
