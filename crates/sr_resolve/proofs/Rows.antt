-- The rows that ops make fit, and keep their keys.
use Rattle.std.proofs.Common.{◌≡◌, ◌||◌, ◌&&◌, ℕ, zero, suc, Bool, true, false, cond, not, map, List, [], ◌∷◌, Option, Some, None, IsTrue, refl, sym, ap, subst, ◌∙◌}
use Rattle.std.specs.List.{AllByRecursion, list_any, cons_option}
use Rattle.std.specs.Option.{option_map}
use Rattle.std.specs.Prelude.{bytes_eq, filter_map, slice_get, unwrap_or}
use Rattle.sr_base.specs.declared.value.Value.{Value as Cell}
use Rattle.sr_base.specs.declared.value.Value.TheVariants.{Null}
use Rattle.sr_book.specs.Entries.{Name}
use Rattle.sr_base_dates.specs.Fitting.{fitted}
use Rattle.sr_eval.specs.Bounds.{IsRowOf}
use Rattle.sr_eval.specs.Comparisons.{is_null}
use Rattle.sr_exec_fits.specs.Rows.{IsRow}
use Rattle.sr_exec_fits.proofs.Rows.{row_parts, row_made}
use Rattle.sr_exec_where.specs.Keys.{key_of}
use Rattle.sr_exec_where.proofs.Fixed.{same_name, bytes_itself}
use Rattle.sr_exec_dml.proofs.Keeping.{fitted_again}
use Rattle.sr_resolve_triggers.proofs.Leaving.{in_front_some, map_some, or_fails}
use Rattle.sr_database_history.specs.Fitting.{fitted_in, all_there}
use Rattle.sr_catalog_schema.specs.Firsts.{has}
use Rattle.sr_catalog_schema.specs.Members.{column_name, key_names, has_column, scope_of}
use Rattle.sr_catalog_schema.specs.Names.{named}
use Rattle.sr_catalog_schema.specs.declared.table.Column.{Column}
use Rattle.sr_catalog_schema.specs.declared.table.Table.{Table}
use Rattle.sr_resolve.specs.Named.{Values, Updates, fitted_at, filled, filled_row, has_null, is_no_target, update_of, is_column_set, new_value, new_values, is_new_null, sets_null, with_news, old_value, old_row}
use Rattle.sr_resolve.specs.Inner.Named.{CanTake}

-- ---- new values

-- a new value that is there fits its column
new_fits : (above : Bool) (c : Column) (o : Option (Name × Cell × Cell)) (w : Cell) → new_value above c o ≡ Some (Some w) → fitted w c.kind ≡ Some w
new_fits above c None w h = cc
new_fits above c (Some u) w h = go (is_column_set above u) h where
  go : (b : Bool) → cond b (option_map (λ v. Some v) (fitted u.2 c.kind)) (Some None) ≡ Some (Some w) → fitted w c.kind ≡ Some w
  go true h =
      let found = map_some (λ v. Some v) (fitted u.2 c.kind) (Some w) h in
      let is : found.0 ≡ w = cc in
      fitted_again u.2 c.kind w (found.1 ∙ ap (λ v. Some v) is)
  go false h = cc

-- one column
one_new : (above : Bool) (c : Column) (o : Option (Name × Cell × Cell)) (v : Cell) (new : Option Cell)
    → (fitted v c.kind ≡ Some v) × IsTrue (not (c.not_null && is_null v)) → new_value above c o ≡ Some new
    → (c.not_null && is_new_null new) ≡ false
    → (fitted (unwrap_or new v) c.kind ≡ Some (unwrap_or new v)) × IsTrue (not (c.not_null && is_null (unwrap_or new v)))
one_new above c o v None fits h n = fits
one_new above c o v (Some w) fits h n = (new_fits above c o w h, ap not n)

pub news_fit : (above : Bool) (updates : Updates) (columns : List Column) (row : List Cell) (news : List (Option Cell)) → IsRow columns row
    → new_values above updates columns ≡ Some news
    → sets_null columns news ≡ false → IsRow columns (with_news news row)
news_fit above updates [] [] news fits h n = refl
news_fit above updates [] (v ∷ row) news fits h n = cc
news_fit above updates (c ∷ columns) [] news fits h n = cc
news_fit above updates (c ∷ columns) (v ∷ row) [] fits h n =
    let found = in_front_some (new_value above c (update_of updates c)) (new_values above updates columns) [] h in
    let gone = found.4 in
    cc
news_fit above updates (c ∷ columns) (v ∷ row) (new ∷ news) fits h n =
    let found = in_front_some (new_value above c (update_of updates c)) (new_values above updates columns) (new ∷ news) h in
    let same = found.4 in
    let head : found.0 ≡ new = cc in
    let tail : found.1 ≡ news = cc in
    let split = or_fails (c.not_null && is_new_null new) (sets_null columns news) n in
    let parts = row_parts c columns v row fits in
    let one = one_new above c (update_of updates c) v new (parts.0, parts.1) (found.2 ∙ ap (λ x. Some x) head) split.0 in
    row_made c columns (unwrap_or new v) (with_news news row) one.0 one.1 (news_fit above updates columns row news parts.2 (found.3 ∙ ap (λ xs. Some xs) tail) split.1)

pub taken_fit : (columns : List Column) (updates : Updates) (stored : List Cell) (news : List (Option Cell)) → CanTake columns updates stored news
    → IsRow columns (with_news news stored)
taken_fit columns updates stored news t = news_fit t.above updates columns stored news t.stored_fits t.fit t.nulls

-- ---- old values

old_fits : (c : Column) (o : Option (Name × Cell × Cell)) → fitted (old_value c o) c.kind ≡ Some (old_value c o)
old_fits c None = refl
old_fits c (Some u) = go (fitted u.1 c.kind) refl where
  go : (o : Option Cell) → fitted u.1 c.kind ≡ o → fitted (unwrap_or o Null) c.kind ≡ Some (unwrap_or o Null)
  go None e = refl
  go (Some w) e = fitted_again u.1 c.kind w e

olds_fit : (name : List ℕ) (updates : Updates) (columns : List Column) → IsRowOf (map (λ c. (Some name, c.name, c.kind)) columns) (old_row updates columns)
olds_fit name updates [] = tt
olds_fit name updates (c ∷ columns) = (old_fits c (update_of updates c), olds_fit name updates columns)

pub old_row_fits : (table : Table) (updates : Updates) → IsRowOf (scope_of table) (old_row updates table.columns)
old_row_fits table updates = olds_fit table.name updates table.columns

-- ---- a row that is inserted

one_filled : (c : Column) (o : Option (Name × Cell)) (w : Cell) → filled c o ≡ Some w → fitted w c.kind ≡ Some w
one_filled c None w h = let is : Null ≡ w = cc in subst (λ v. fitted v c.kind ≡ Some v) is refl
one_filled c (Some v) w h = fitted_again v.1 c.kind w h

pub filled_fits : (values : Values) (columns : List Column) (row : List Cell) → filled_row values columns ≡ Some row → has_null columns row ≡ false
    → IsRow columns row
filled_fits values [] [] h n = refl
filled_fits values [] (v ∷ row) h n = cc
filled_fits values (c ∷ columns) [] h n =
    let found = in_front_some (filled c (named (λ v. v.0) c.name values)) (filled_row values columns) [] h in
    let gone = found.4 in
    cc
filled_fits values (c ∷ columns) (v ∷ row) h n =
    let found = in_front_some (filled c (named (λ v. v.0) c.name values)) (filled_row values columns) (v ∷ row) h in
    let same = found.4 in
    let head : found.0 ≡ v = cc in
    let tail : found.1 ≡ row = cc in
    let split = or_fails (c.not_null && is_null v) (has_null columns row) n in
    row_made c columns v row (one_filled c (named (λ v. v.0) c.name values) v (found.2 ∙ ap (λ x. Some x) head)) (ap not split.0)
    (filled_fits values columns row (found.3 ∙ ap (λ xs. Some xs) tail) split.1)

-- ---- the named key

pub key_there : (table : Table) (values : Values) (places : List ℕ) (key : List Cell) → fitted_at table values places ≡ Some key
    → all_there (map (λ place. fitted_in values (slice_get table.columns place)) places) key
key_there table values [] [] h = tt
key_there table values [] (v ∷ key) h = cc
key_there table values (p ∷ places) [] h =
    let found = in_front_some (fitted_in values (slice_get table.columns p)) (fitted_at table values places) [] h in
    let gone = found.4 in
    cc
key_there table values (p ∷ places) (v ∷ key) h =
    let found = in_front_some (fitted_in values (slice_get table.columns p)) (fitted_at table values places) (v ∷ key) h in
    let same = found.4 in
    let head : found.0 ≡ v = cc in
    let tail : found.1 ≡ key = cc in
    (found.2 ∙ ap (λ x. Some x) head, key_there table values places key (found.3 ∙ ap (λ xs. Some xs) tail))

-- ---- an update keeps the key

-- an update that may be made is of no column of the key
not_named : (table : Table) (updates : Updates) (name : List ℕ) → list_any (is_no_target table) updates ≡ false → has (key_names table) name ≡ true
    → named (λ (u : Name × Cell × Cell). u.0) name updates ≡ None
not_named table [] name h k = refl
not_named table (u ∷ updates) name h k =
    let split = or_fails (is_no_target table u) (list_any (is_no_target table) updates) h in
    go (bytes_eq name u.0) refl split.0 (not_named table updates name split.1 k) where
      go : (b : Bool) → bytes_eq name u.0 ≡ b → is_no_target table u ≡ false → named (λ (x : Name × Cell × Cell). x.0) name updates ≡ None
          → cond b (Some u) (named (λ (x : Name × Cell × Cell). x.0) name updates) ≡ None
      go false e target rest = rest
      go true e target rest =
          let none = or_fails (not (has_column table u.0)) (has (key_names table) u.0) target in
          let gone : true ≡ false = sym k ∙ ap (has (key_names table)) (same_name name u.0 e) ∙ none.1 in
          cc

-- without new values a row stays
pub no_news : (row : List Cell) → with_news [] row ≡ row
no_news [] = refl
no_news (v ∷ row) = ap (λ xs. v ∷ xs) (no_news row)

-- at the place of a column that is not updated the value stays
value_stays : (above : Bool) (updates : Updates) (columns : List Column) (news : List (Option Cell)) (row : List Cell) (p : ℕ) → new_values above updates columns ≡ Some news
    → ((c : Column) → slice_get columns p ≡ Some c → update_of updates c ≡ None) → slice_get (with_news news row) p ≡ slice_get row p
value_stays above updates [] news row p h none =
    let is : [] ≡ news = cc in
    ap (λ xs. slice_get xs p) (ap (λ ns. with_news ns row) (sym is) ∙ no_news row)
value_stays above updates (c ∷ columns) news [] p h none = refl
value_stays above updates (c ∷ columns) [] (v ∷ row) p h none =
    let found = in_front_some (new_value above c (update_of updates c)) (new_values above updates columns) [] h in
    let gone = found.4 in
    cc
value_stays above updates (c ∷ columns) (new ∷ news) (v ∷ row) zero h none =
    let found = in_front_some (new_value above c (update_of updates c)) (new_values above updates columns) (new ∷ news) h in
    let same = found.4 in
    let head : found.0 ≡ new = cc in
    let is : Some None ≡ Some new = ap (new_value above c) (sym (none c refl)) ∙ found.2 ∙ ap (λ x. Some x) head in
    let no_new : None ≡ new = cc in
    ap (λ (o : Option Cell). Some (unwrap_or o v)) (sym no_new)
value_stays above updates (c ∷ columns) (new ∷ news) (v ∷ row) (suc p) h none =
    let found = in_front_some (new_value above c (update_of updates c)) (new_values above updates columns) (new ∷ news) h in
    let same = found.4 in
    let tail : found.1 ≡ news = cc in
    value_stays above updates columns news row p (found.3 ∙ ap (λ xs. Some xs) tail) none

-- the columns at some places are named
abbrev NamesAll : Table → List ℕ → List (List ℕ) → Type 0
NamesAll table places names = AllByRecursion (λ p. (c : Column) → slice_get table.columns p ≡ Some c → has names c.name ≡ true) places

or_true : (a : Bool) → (a || true) ≡ true
or_true true = refl
or_true false = refl

one_more_name : (table : Table) (places : List ℕ) (name : List ℕ) (names : List (List ℕ)) → NamesAll table places names → NamesAll table places (name ∷ names)
one_more_name table [] name names h = tt
one_more_name table (p ∷ places) name names h =
    ((λ c is. ap (λ b. bytes_eq c.name name || b) (h.0 c is) ∙ or_true (bytes_eq c.name name)), one_more_name table places name names h.1)

names_there : (table : Table) (places : List ℕ) → NamesAll table places (filter_map (λ i. option_map column_name (slice_get table.columns i)) places)
names_there table [] = tt
names_there table (p ∷ places) = go (slice_get table.columns p) refl (names_there table places) where
  go : (o : Option Column) → slice_get table.columns p ≡ o → NamesAll table places (filter_map (λ i. option_map column_name (slice_get table.columns i)) places)
      → NamesAll table (p ∷ places) (cons_option (option_map column_name o) (filter_map (λ i. option_map column_name (slice_get table.columns i)) places))
  go None e rest = ((λ c is. let gone : None ≡ Some c = sym e ∙ is in cc), rest)
  go (Some d) e rest = (
    (λ c is.
        let one : Some d ≡ Some c = sym e ∙ is in
        let same : d ≡ c = cc in
        ap (λ b. b || has (filter_map (λ i. option_map column_name (slice_get table.columns i)) places) c.name)
        (ap (λ (x : Column). bytes_eq c.name x.name) same ∙ bytes_itself c.name)),
    one_more_name table places d.name (filter_map (λ i. option_map column_name (slice_get table.columns i)) places) rest,
  )

key_stays_at : (above : Bool) (table : Table) (updates : Updates) (news : List (Option Cell)) (row : List Cell) (places : List ℕ)
    → list_any (is_no_target table) updates ≡ false
    → new_values above updates table.columns ≡ Some news → NamesAll table places (key_names table) → key_of places (with_news news row) ≡ key_of places row
key_stays_at above table updates news row [] targets h names = refl
key_stays_at above table updates news row (p ∷ places) targets h names =
    let head = value_stays above updates table.columns news row p h (λ c is. not_named table updates c.name targets (names.0 c is)) in
    let rest = key_stays_at above table updates news row places targets h names.1 in
    λ i. unwrap_or (head i) Null ∷ rest i

pub key_stays : (above : Bool) (table : Table) (updates : Updates) (news : List (Option Cell)) (row : List Cell) → list_any (is_no_target table) updates ≡ false
    → new_values above updates table.columns ≡ Some news → key_of table.key (with_news news row) ≡ key_of table.key row
key_stays above table updates news row targets h = key_stays_at above table updates news row table.key targets h (names_there table table.key)
