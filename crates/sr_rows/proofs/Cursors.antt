-- A walk along the places of a table's tree goes along the rows of the table.
use Rattle.std.proofs.Common.{◌≡◌, ◌&&◌, Bool, true, false, cond, T, ℕ, List, [], ◌∷◌, Option, Some, None, refl, sym, ap, subst, ◌∙◌}
use Rattle.std.specs.declared.cmp.Ordering.{Ordering}
use Rattle.std.specs.declared.cmp.Ordering.TheVariants.{Less, Equal, Greater}
use Rattle.std.specs.Ordering.{is_eq, is_lt}
use Rattle.std.specs.List.{AllByRecursion}
use Rattle.std.specs.List.Sorted.{IsStrictlySortedBy}
use Rattle.std.specs.Map.{keys_of}
use Rattle.std.proofs.lemmas.Map.Keys.{sorted_head, sorted_tail}
use Rattle.std.specs.FinMap.{FinMap, entries, find, get, from_entries, is_sorted, get-entries, entries_sorted, get-from_entries}
use Rattle.std.specs.FinMap.Entries.{same_entries}
use Rattle.sr_base.specs.declared.value.Value.{Value}
use Rattle.sr_base.specs.Order.{key_cmp}
use Rattle.sr_base.specs.Inner.Order.{key_cmp_total}
use Rattle.sr_base.proofs.Exact.{exact_keys}
use Rattle.sr_rows.specs.Inner.Gathered.{row_of, and_filled, filled_rows}
use Rattle.sr_rows.specs.Marks.{RowMap, rows_of_table}
use Rattle.sr_rows.specs.Walks.{Entry, table_rows}
use Rattle.sr_rows.specs.Inner.Walks.{Rises}
use Rattle.sr_rows.proofs.Listing.{is_below, rises, get-table_rows, table_rows-rise, none_below, each_found, all_by}

abbrev Key : Type 0
Key = List Value

abbrev Place : Type 0
Place = Key × Option (List Value)

both : (a b : Bool) → T a → T b → T (a && b)
both true b g h = h
both false b g h = absurd g

-- entries that rise are in order, in the words of finite maps
module _ {X : Type 0} where
  below : (k : Key) (es : List (Key × X)) → AllByRecursion (λ x. key_cmp k x.0 ≡ Less) es → T (is_below key_cmp k es)
  below k [] h = tt
  below k (e ∷ es) h = both (is_lt (key_cmp k e.0)) (is_below key_cmp k es) (subst (λ o. T (is_lt o)) (sym h.0) tt) (below k es h.1)

  in_order : (es : List (Key × X)) → Rises key_cmp es → T (is_sorted key_cmp es)
  in_order [] h = tt
  in_order (e ∷ es) h = both (is_below key_cmp e.0 es) (is_sorted key_cmp es) (below e.0 es h.0) (in_order es h.1)

  keys_below : (k : Key) (es : List (Key × X)) → AllByRecursion (λ y. key_cmp k y ≡ Less) (keys_of es) → AllByRecursion (λ x. key_cmp k x.0 ≡ Less) es
  keys_below k [] h = tt
  keys_below k (e ∷ es) h = (h.0, keys_below k es h.1)

  keys_rise : (es : List (Key × X)) → IsStrictlySortedBy key_cmp (keys_of es) → Rises key_cmp es
  keys_rise [] h = tt
  keys_rise (e ∷ es) h = (keys_below e.0 es (sorted_head key_cmp e.0 (keys_of es) h), keys_rise es (sorted_tail key_cmp e.0 (keys_of es) h))

  -- a map that is made of entries in order has just these
  pub entries_again : (es : List (Key × X)) → IsStrictlySortedBy key_cmp (keys_of es) → entries (from_entries {R = key_cmp} es) ≡ es
  entries_again es h =
      let m : FinMap key_cmp X = from_entries es in
      same_entries key_cmp key_cmp_total exact_keys (entries m) es (entries_sorted m) (in_order es (keys_rise es h)) (λ q. sym (get-entries m q) ∙ get-from_entries key_cmp_total es q)

-- those that hold rows rise as well, and are found as before
filled_above : (k : Key) (es : List Place) → AllByRecursion (λ x. key_cmp k x.0 ≡ Less) es → AllByRecursion (λ x. key_cmp k x.0 ≡ Less) (filled_rows es)
filled_above k [] h = tt
filled_above k (e ∷ es) h = go e.1 (filled_above k es h.1) where
  go : (o : Option (List Value)) → AllByRecursion (λ x. key_cmp k x.0 ≡ Less) (filled_rows es) → AllByRecursion (λ x. key_cmp k x.0 ≡ Less) (and_filled e.0 o (filled_rows es))
  go None rest = rest
  go (Some row) rest = (h.0, rest)

filled_rises : (es : List Place) → Rises key_cmp es → Rises key_cmp (filled_rows es)
filled_rises [] h = tt
filled_rises (e ∷ es) h = go e.1 (filled_rises es h.1) where
  go : (o : Option (List Value)) → Rises key_cmp (filled_rows es) → Rises key_cmp (and_filled e.0 o (filled_rows es))
  go None rest = rest
  go (Some row) rest = (filled_above e.0 es h.0, rest)

find-filled : (es : List Place) → Rises key_cmp es → (q : Key) → find key_cmp q (filled_rows es) ≡ row_of (find key_cmp q es)
find-filled [] h q = refl
find-filled (e ∷ es) h q = go e.1 (key_cmp q e.0) refl (find-filled es h.1 q) where
  empty : key_cmp q e.0 ≡ Equal → find key_cmp q (filled_rows es) ≡ None
  empty g = none_below q (filled_rows es) (subst (λ k. AllByRecursion (λ x. key_cmp k x.0 ≡ Less) (filled_rows es)) (sym (exact_keys q e.0 g)) (filled_above e.0 es h.0))

  go : (o : Option (List Value)) (c : Ordering) → key_cmp q e.0 ≡ c → find key_cmp q (filled_rows es) ≡ row_of (find key_cmp q es)
      → find key_cmp q (and_filled e.0 o (filled_rows es)) ≡ row_of (cond (is_eq c) (Some o) (find key_cmp q es))
  go None Less g rest = rest
  go None Equal g rest = empty g
  go None Greater g rest = rest
  go (Some row) Less g rest = ap (λ c. cond (is_eq c) (Some row) (find key_cmp q (filled_rows es))) g ∙ rest
  go (Some row) Equal g rest = ap (λ c. cond (is_eq c) (Some row) (find key_cmp q (filled_rows es))) g
  go (Some row) Greater g rest = ap (λ c. cond (is_eq c) (Some row) (find key_cmp q (filled_rows es))) g ∙ rest

-- places under which the rows of a table stand: those that hold rows are the table's rows
pub filled_all : (rows : RowMap) (t : List ℕ) (es : List Place) → Rises key_cmp es → ((q : Key) → row_of (find key_cmp q es) ≡ rows_of_table rows t q) → filled_rows es ≡ table_rows rows t
filled_all rows t es h same =
    same_entries key_cmp key_cmp_total exact_keys (filled_rows es) (table_rows rows t) (in_order (filled_rows es) (filled_rises es h)) (in_order (table_rows rows t) (table_rows-rise rows t))
    (λ q. find-filled es h q ∙ same q ∙ get-table_rows rows t q)

pub filled_none : (rows : RowMap) (t : List ℕ) → ((q : Key) → None ≡ rows_of_table rows t q) → [] ≡ table_rows rows t
filled_none rows t same = filled_all rows t [] tt same

pub filled_table : (rows : RowMap) (t : List ℕ) (m : FinMap key_cmp (Option (List Value))) → ((q : Key) → row_of (get m q) ≡ rows_of_table rows t q) → filled_rows (entries m) ≡ table_rows rows t
filled_table rows t m same = filled_all rows t (entries m) (rises key_cmp (entries m) (entries_sorted m)) (λ q. ap row_of (sym (get-entries m q)) ∙ same q)

-- each row of a table is held under its key
abbrev pub AreHeld : RowMap → List ℕ → List Entry → Type 0
AreHeld rows t es = AllByRecursion (λ e. rows_of_table rows t e.0 ≡ Some e.1) es

pub table_held : (rows : RowMap) (t : List ℕ) → AreHeld rows t (table_rows rows t)
table_held rows t = all_by (table_rows rows t) (λ x f. get-table_rows rows t x.0 ∙ f) (each_found (table_rows rows t) (table_rows-rise rows t))
