-- Combinations and sources, one more.
use Rattle.std.proofs.Common.{◌≡◌, ℕ, reverse, List, [], ◌∷◌, ◌++◌, map, length, take, Option, None, Some, Result, Ok, Err, refl, sym, ap, subst, ◌∙◌}
use Rattle.std.proofs.lemmas.List.{append-nil, append_assoc, reverse-append}
use Rattle.sr_base.specs.declared.value.Value.{Value as Cell}
use Rattle.sr_eval.specs.Bounds.{IsRowOf}
use Rattle.sr_eval.specs.Inner.Bounds.{AreRows, columns_of, values_of}
use Rattle.sr_eval.specs.declared.bound.Bound.{Bound}
use Rattle.sr_rows.specs.Marks.{RowMap, rows_of_table}
use Rattle.sr_rows.specs.Walks.{Entry, table_rows}
use Rattle.sr_ast.specs.declared.expr.Expr.{Expr}
use Rattle.sr_catalog_schema.specs.declared.fault.DmlFault.{DmlFault}
use Rattle.sr_exec_dml.specs.Inner.Edits.{prefixed}
use Rattle.sr_exec_dml.specs.Sequences.{front}
use Rattle.sr_exec_fits.proofs.Rows.{row_of}
use Rattle.sr_query.specs.Combinations.{combinations, kept, over_each}
use Rattle.sr_query.specs.Sources.{Origin, rows_by_key}
use Rattle.sr_exec_where.specs.Checks.{Scope}
use Rattle.sr_query.specs.Inner.Walks.{IsJoined, AreJoined, seen}
use Rattle.sr_query.specs.declared.joined.Joined.{Joined}

-- one more source
pub joined_one : (rows : RowMap) (js : List Joined) (j : Joined) → AreJoined rows js → IsJoined rows j → AreJoined rows (js ++ j ∷ [])
joined_one rows [] j whole one = (one, tt)
joined_one rows (k ∷ js) j whole one = (whole.0, joined_one rows js j whole.1 one)

columns_of_one : (xs : List Bound) (b : Bound) → columns_of (xs ++ b ∷ []) ≡ columns_of xs ++ b.scope.now
columns_of_one [] b = append-nil b.scope.now
columns_of_one (x ∷ xs) b = ap (λ ys. x.scope.now ++ ys) (columns_of_one xs b) ∙ sym (append_assoc x.scope.now (columns_of xs) b.scope.now)

values_of_one : (xs : List Bound) (b : Bound) → values_of (xs ++ b ∷ []) ≡ values_of xs ++ b.values.now
values_of_one [] b = append-nil b.values.now
values_of_one (x ∷ xs) b = ap (λ ys. x.values.now ++ ys) (values_of_one xs b) ∙ sym (append_assoc x.values.now (values_of xs) b.values.now)

rows_of_one : (xs : List Bound) (b : Bound) → AreRows xs → IsRowOf b.scope.now b.values.now → AreRows (xs ++ b ∷ [])
rows_of_one [] b fit row = (row, tt)
rows_of_one (x ∷ xs) b fit row = (fit.0, rows_of_one xs b fit.1 row)

-- a combination with a row more: its columns, its values, and that they fit
pub columns_on : (xs ys : List Bound) (b : Bound) (rest scope : Scope) → ys ≡ xs ++ b ∷ [] → columns_of xs ++ (b.scope.now ++ rest) ≡ scope
    → columns_of ys ++ rest ≡ scope
columns_on xs ys b rest scope e h = ap (λ zs. columns_of zs ++ rest) e ∙ ap (λ zs. zs ++ rest) (columns_of_one xs b)
    ∙ append_assoc (columns_of xs) b.scope.now rest ∙ h

pub values_on : (xs ys : List Bound) (b : Bound) → ys ≡ xs ++ b ∷ [] → values_of ys ≡ values_of xs ++ b.values.now
values_on xs ys b e = ap values_of e ∙ values_of_one xs b

pub fit_on : (xs ys : List Bound) (b : Bound) → ys ≡ xs ++ b ∷ [] → AreRows xs → IsRowOf b.scope.now b.values.now → AreRows ys
fit_on xs ys b e fit row = subst AreRows (sym e) (rows_of_one xs b fit row)

-- without what was put behind it, a list is as it was
pub taken_back : {A : Type 0} (xs ys : List A) → take (length xs) (xs ++ ys) ≡ xs
taken_back [] ys = search
taken_back (x ∷ xs) ys = ap (λ zs. x ∷ zs) (taken_back xs ys)

pub ruleset on_rules = (columns_on, values_on, fit_on, taken_back)

pub ruleset joined_lists = (append_assoc, append-nil)

-- the rows of a source are all still to come
pub begins_walk : (rows : RowMap) (scope : Scope) (conditions : List Expr) (before : List (List Cell)) (values : List Cell) (joined : Joined)
    (after : List Joined) (left : List Entry) → left ≡ table_rows rows joined.table.now.name → (rest : List (List Cell))
    → prefixed before (kept scope conditions (over_each (λ row. combinations (values ++ row) (map (seen rows) after)) (rows_by_key rows joined.table.now)
    ++ rest))
    ≡ prefixed before (kept scope conditions (over_each (λ row. combinations (values ++ row) (map (seen rows) after))
    (map (λ (e : Entry). e.1) left) ++ rest))
begins_walk rows scope conditions before values joined after left all rest =
    sym (ap (λ es. prefixed before
    (kept scope conditions (over_each (λ row. combinations (values ++ row) (map (seen rows) after)) (map (λ (e : Entry). e.1) es) ++ rest)))
    all)

-- the next one is gone over before those behind it
pub goes_on : (rows : RowMap) (scope : Scope) (conditions : List Expr) (before : List (List Cell)) (bounds held : List Bound) (joined : Joined)
    (after : List Joined) (left later : List Entry) (key row : List Cell) (rest : List (List Cell)) → held ≡ bounds → left ≡ (key, row) ∷ later
    → prefixed before (kept scope conditions (over_each (λ r. combinations (values_of bounds ++ r) (map (seen rows) after))
    (map (λ (e : Entry). e.1) left) ++ rest))
    ≡ prefixed before (kept scope conditions (combinations (values_of held ++ row) (map (seen rows) after)
    ++ (over_each (λ r. combinations (values_of bounds ++ r) (map (seen rows) after)) (map (λ (e : Entry). e.1) later) ++ rest)))
goes_on rows scope conditions before bounds held joined after left later key row rest same begins =
    let behind = over_each (λ r. combinations (values_of bounds ++ r) (map (seen rows) after)) in
    let entries = map (λ (e : Entry). e.1) later in
    ap (λ es. prefixed before (kept scope conditions (behind (map (λ (e : Entry). e.1) es) ++ rest))) begins
    ∙ ap (λ cs. prefixed before (kept scope conditions cs)) (append_assoc (combinations (values_of bounds ++ row) (map (seen rows) after)) (behind entries) rest)
    ∙ ap (λ bs. prefixed before (kept scope conditions (combinations (values_of bs ++ row) (map (seen rows) after) ++ (behind entries ++ rest)))) (sym same)

-- an answer more behind those that are there
pub prefixed_front : {A E : Type 0} (xs : List A) (x : A) (rest : Result (List A) E) → prefixed xs (front (Ok x) rest) ≡ prefixed (xs ++ x ∷ []) rest
prefixed_front xs x (Ok ys) = ap Ok (sym (append_assoc xs (x ∷ []) ys))
prefixed_front xs x (Err e) = refl

seen_one : (rows : RowMap) (xs : List Joined) (j : Joined) → map (seen rows) (xs ++ j ∷ []) ≡ map (seen rows) xs ++ seen rows j ∷ []
seen_one rows [] j = refl
seen_one rows (x ∷ xs) j = ap (λ ys. seen rows x ∷ ys) (seen_one rows xs j)

pub one_more : (rows : RowMap) (xs js : List Joined) (j : Joined) (o : Result Origin DmlFault) (rest : Result (List Origin) DmlFault) → js ≡ xs ++ j ∷ []
    → o ≡ Ok (seen rows j) → prefixed (map (seen rows) xs) (front o rest) ≡ prefixed (map (seen rows) js) rest
one_more rows xs js j o rest pushed is =
    ap (λ p. prefixed (map (seen rows) xs) (front p rest)) is ∙ prefixed_front (map (seen rows) xs) (seen rows j) rest
    ∙ ap (λ ys. prefixed ys rest) (sym (ap (map (seen rows)) pushed ∙ seen_one rows xs j))

-- a row of a source fits its columns
pub row_of_source : (rows : RowMap) (joined : Joined) (key row : List Cell) → IsJoined rows joined
    → rows_of_table rows joined.table.now.name key ≡ Some row → IsRowOf joined.scope row
row_of_source rows joined key row is held =
    subst (λ s. IsRowOf s row) (sym is.scope) (row_of is.alias joined.table.now.columns row (is.fits key row held).0)

-- a list whose last one is taken, the other way round
pub turned : {A : Type 0} (xs ys : List A) (x : A) → ys ≡ xs ++ x ∷ [] → reverse ys ≡ x ∷ reverse xs
turned xs ys x e = ap reverse e ∙ reverse-append xs (x ∷ [])
