-- The rows of a source under another key than the one that the conditions fix stand in no combination that is kept.
use Rattle.std.specs.FinMap.{find}
use Rattle.std.proofs.Common.{◌≡◌, ◌≢◌, Bool, true, false, cond, map, List, [], ◌∷◌, ◌++◌, Some, inl, inr, Result, Ok, Err, MatchResult, refl, sym, ap, subst, ◌∙◌}
use Rattle.std.proofs.lemmas.List.{append-nil, append_assoc}
use Rattle.std.specs.List.{AllByRecursion}
use Rattle.std.specs.Ordering.{is_eq}
use Rattle.sr_base.specs.Order.{key_cmp}
use Rattle.sr_base.specs.declared.value.Value.{Value as Cell}
use Rattle.sr_ast.specs.declared.expr.Expr.{Expr}
use Rattle.sr_eval.specs.Inner.Bounds.{values_of}
use Rattle.sr_eval.specs.declared.bound.Bound.{Bound}
use Rattle.sr_eval.specs.Inner.Laws.{AndIsBoth}
use Rattle.sr_rows.specs.Marks.{RowMap, rows_of_table}
use Rattle.sr_rows.specs.Walks.{Entry, table_rows}
use Rattle.sr_rows.specs.Inner.Walks.{Rises}
use Rattle.sr_rows.proofs.Listing.{each_found, get-table_rows, table_rows-rise}
use Rattle.sr_catalog_schema.specs.declared.fault.DmlFault.{DmlFault}
use Rattle.sr_catalog_schema.specs.declared.fault.DmlFault.TheVariants.{Memory}
use Rattle.sr_exec_where.specs.Checks.{Scope}
use Rattle.sr_exec_dml.specs.Inner.Edits.{prefixed}
use Rattle.sr_exec_dml.specs.Holding.{under, one_of}
use Rattle.sr_exec_dml.proofs.Folding.{itself}
use Rattle.sr_exec_dml.proofs.Outcomes.{above_same, row_under}
use Rattle.sr_query.specs.Combinations.{combinations, kept, meets, over_each, with_kept}
use Rattle.sr_query.specs.Inner.Combinations.{Keeps}
use Rattle.sr_query.specs.Inner.Equations.{equations}
use Rattle.sr_query.specs.Inner.Lookups.{equated_key, over_one}
use Rattle.sr_query.specs.Sources.{Origin}
use Rattle.sr_query.specs.Inner.Walks.{IsJoined, seen}
use Rattle.sr_query.specs.declared.joined.Joined.{Joined}
use Rattle.sr_query.proofs.Combined.{row_of_source}
use Rattle.sr_query.proofs.Equated.{key_is}

abbrev Key : Type 0
Key = List Cell

abbrev Rows : Type 0
Rows = List Key

module _ (scope : Scope) (conditions : List Expr) where
  -- combinations that begin with some values are left out where the conditions are not met whatever comes behind them
  abbrev IsOut : Key → Type 0
  IsOut values = (others : Key) → meets scope conditions (values ++ others) ≡ Ok false

  out_with : (values row : Key) → IsOut values → IsOut (values ++ row)
  out_with values row out others = ap (meets scope conditions) (append_assoc values row others) ∙ out (row ++ others)

  left_out : (origins : List Origin) (values : Key) (rest : Rows) → IsOut values
      → kept scope conditions (combinations values origins ++ rest) ≡ kept scope conditions rest
  left_out [] values rest out = ap (λ m. with_kept values m (kept scope conditions rest)) (ap (meets scope conditions) (sym (append-nil values)) ∙ out [])
  left_out (origin ∷ origins) values rest out = go (λ row more. left_out origins (values ++ row) more (out_with values row out)) origin.rows where
    go : ((row : Key) (more : Rows) → kept scope conditions (combinations (values ++ row) origins ++ more) ≡ kept scope conditions more) → (rows : Rows)
        → kept scope conditions (over_each (λ row. combinations (values ++ row) origins) rows ++ rest) ≡ kept scope conditions rest
    go f [] = refl
    go f (row ∷ rows) =
        ap (kept scope conditions) (append_assoc (combinations (values ++ row) origins) (over_each (λ r. combinations (values ++ r) origins) rows) rest)
        ∙ f row (over_each (λ r. combinations (values ++ r) origins) rows ++ rest)
        ∙ go f rows

  -- so of rows whose keys rise, the one under the key is all that counts
  module _ (values : Key) (origins : List Origin) (key : Key) where
    abbrev behind : Key → Rows
    behind row = combinations (values ++ row) origins

    abbrev OthersAreOut : List Entry → Type 0
    OthersAreOut es = AllByRecursion (λ (e : Entry). is_eq (key_cmp key e.0) ≡ false → IsOut (values ++ e.1)) es

    alike : (cs ds : Rows) (rest : Rows) → kept scope conditions (ds ++ rest) ≡ kept scope conditions rest
        → kept scope conditions (cs ++ (ds ++ rest)) ≡ kept scope conditions (cs ++ rest)
    alike [] ds rest h = h
    alike (c ∷ cs) ds rest h = ap (with_kept c (meets scope conditions c)) (alike cs ds rest h)

    only_one : (es : List Entry) (rest : Rows) → Rises key_cmp es → OthersAreOut es
        → kept scope conditions (over_each behind (map (λ (e : Entry). e.1) es) ++ rest)
        ≡ kept scope conditions (over_one behind (one_of (under key es)) ++ rest)
    only_one [] rest rises out = refl
    only_one (e ∷ es) rest rises out = go (is_eq (key_cmp key e.0)) refl (only_one es rest rises.1 out.1) where
      go : (b : Bool) → is_eq (key_cmp key e.0) ≡ b
          → kept scope conditions (over_each behind (map (λ (x : Entry). x.1) es) ++ rest)
          ≡ kept scope conditions (over_one behind (one_of (under key es)) ++ rest)
          → kept scope conditions ((behind e.1 ++ over_each behind (map (λ (x : Entry). x.1) es)) ++ rest)
          ≡ kept scope conditions (over_one behind (one_of (cond b (e.1 ∷ under key es) (under key es))) ++ rest)
      go true here later =
          let none : kept scope conditions (over_each behind (map (λ (x : Entry). x.1) es) ++ rest) ≡ kept scope conditions rest =
          later ∙ ap (λ rows. kept scope conditions (over_one behind (one_of rows) ++ rest)) (above_same key e.0 es here rises.0) in
          ap (kept scope conditions) (append_assoc (behind e.1) (over_each behind (map (λ (x : Entry). x.1) es)) rest)
          ∙ alike (behind e.1) (over_each behind (map (λ (x : Entry). x.1) es)) rest none
      go false apart later =
          ap (kept scope conditions) (append_assoc (behind e.1) (over_each behind (map (λ (x : Entry). x.1) es)) rest)
          ∙ left_out origins (values ++ e.1) (over_each behind (map (λ (x : Entry). x.1) es) ++ rest) (out.0 apart)
          ∙ later

-- the same of a source whose key is fixed
module _ (rows : RowMap) (scope : Scope) (conditions : List Expr) (bounds : List Bound) (joined : Joined) (after : List Joined) (key : Key)
    (source : IsJoined rows joined) (and_is_both : AndIsBoth)
    (fixed : equated_key (values_of bounds) joined.scope (equations scope conditions) joined.table.now.key ≡ Some key) where
  abbrev entries : List Entry
  entries = table_rows rows joined.table.now.name

  other_is_out : (k row : Key) → rows_of_table rows joined.table.now.name k ≡ Some row → is_eq (key_cmp key k) ≡ false
      → IsOut scope conditions (values_of bounds ++ row)
  other_is_out k row held apart others =
      ap (meets scope conditions) (append_assoc (values_of bounds) row others)
      ∙ elim (key_is scope joined.scope (values_of bounds) row others (row_of_source rows joined k row source held) and_is_both conditions
      joined.table.now.key key fixed) [
        | inl n ↦ n
        | inr h ↦
            let is : key ≡ k = sym h ∙ (source.fits k row held).1 in
            let here : is_eq (key_cmp key k) ≡ true = ap (λ j. is_eq (key_cmp key j)) (sym is) ∙ itself key in cc
      ]

  each_is_out : (es : List Entry) → AllByRecursion (λ (e : Entry). rows_of_table rows joined.table.now.name e.0 ≡ Some e.1) es
      → OthersAreOut scope conditions (values_of bounds) (map (seen rows) after) key es
  each_is_out [] h = tt
  each_is_out (e ∷ es) h = (λ apart. other_is_out e.0 e.1 h.0 apart, each_is_out es h.1)

  held_each : (es : List Entry) → AllByRecursion (λ (e : Entry). find key_cmp e.0 entries ≡ Some e.1) es
      → AllByRecursion (λ (e : Entry). rows_of_table rows joined.table.now.name e.0 ≡ Some e.1) es
  held_each [] h = tt
  held_each (e ∷ es) h = (get-table_rows rows joined.table.now.name e.0 ∙ h.0, held_each es h.1)

  pub only_row : (rest : Rows) → kept scope conditions (combinations (values_of bounds) (map (seen rows) (joined ∷ after)) ++ rest)
      ≡ kept scope conditions (over_one (λ row. combinations (values_of bounds ++ row) (map (seen rows) after))
      (rows_of_table rows joined.table.now.name key) ++ rest)
  only_row rest =
      let rises = table_rows-rise rows joined.table.now.name in
      only_one scope conditions (values_of bounds) (map (seen rows) after) key entries rest rises
      (each_is_out entries (held_each entries (each_found entries rises)))
      ∙ ap (λ o. kept scope conditions (over_one (λ row. combinations (values_of bounds ++ row) (map (seen rows) after)) o ++ rest))
      (sym (row_under rows joined.table.now.name key))

  -- what is kept of the combinations with that row is kept of all
  pub keeps_all : (result : Result (Unit {0}) DmlFault) (before found_now : Rows) (left : List Joined) → left ≡ joined ∷ after
      → Keeps result scope conditions before (over_one (λ row. combinations (values_of bounds ++ row) (map (seen rows) after))
      (rows_of_table rows joined.table.now.name key)) found_now
      → Keeps result scope conditions before (combinations (values_of bounds) (map (seen rows) left)) found_now
  keeps_all result before found_now left begins keeps rest =
      subst (λ (k : Result Rows DmlFault). MatchResult result (λ _. prefixed before k ≡ prefixed found_now (kept scope conditions rest))
      (λ fault. fault ≢ Memory → prefixed before k ≡ Err fault))
      (sym (ap (λ ls. kept scope conditions (combinations (values_of bounds) (map (seen rows) ls) ++ rest)) begins ∙ only_row rest))
      (keeps rest)
