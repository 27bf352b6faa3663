-- The ops that tell of a row have a spelling.
use Rattle.std.proofs.Common.{◌≡◌, ◌≤◌, ◌<◌, ◌^◌, ◌⊎◌, inl, inr, ℕ, zero, suc, Bool, true, false, not, ◌&&◌, ◌||◌, cond, List, [], ◌∷◌, length, map, zip, Option, Some, None, IfSome, slice_get, unwrap_or, bytes_eq, refl, sym, ap, subst, ◌∙◌, arith}
use Rattle.std.specs.List.{list_any, AllByRecursion}
use Rattle.std.specs.Ordering.{eq_by_cmp}
use Rattle.std.proofs.lemmas.Bool.{and_parts, or_cases, and_from}
use Rattle.std.proofs.lemmas.List.{length-map}
use Rattle.std.proofs.lemmas.Slice.Eq.{bytes_eq-Decides}
use Rattle.sr_base.specs.Fields.{IsName}
use Rattle.sr_base.specs.Order.{value_cmp}
use Rattle.sr_base.specs.Values.{IsValue}
use Rattle.sr_base.specs.declared.value.Value.{Value as Cell}
use Rattle.sr_base.specs.declared.value.Value.TheVariants.{Null, Int, Big, Str, Date}
use Rattle.sr_base_dates.specs.Fitting.{fitted}
use Rattle.sr_eval.specs.Comparisons.{is_null}
use Rattle.sr_exec_where.specs.Keys.{key_of}
use Rattle.sr_logform.specs.Ops.{OpHas, IsOp}
use Rattle.sr_logform.specs.Rules.{is_present, AreDistinct, AreColumns}
use Rattle.sr_logform.specs.declared.op.Op.TheVariants.{Insert, Remove}
use Rattle.sr_exec_fits.specs.Rows.{is_kept, may_hold, is_row}
use Rattle.sr_publish.specs.Inner.Laws.{AreAt, HasKey, IsInOrder}
use Rattle.sr_publish.specs.SubscribedTables.{SubscribedTable}
use Rattle.sr_publish.specs.Views.{is_in, shown, shown_row}
use Rattle.sr_publish.proofs.Orderly.{no_more}
use Rattle.sr_catalog_schema.specs.Firsts.{has}
use Rattle.sr_catalog_schema.specs.Members.{column_name, column_names, has_column, key_names}
use Rattle.sr_catalog_schema.specs.declared.table.Column.{Column}
use Rattle.sr_catalog_schema.specs.declared.table.Table.{Table}
use Rattle.sr_scan.specs.Inner.Images.{images_told}
use Rattle.sr_scan.specs.Ops.{key_columns, present_columns, differing, outside_key, listed_in, columns_told, update_of, told_of, told_back}
use Rattle.sr_scan.proofs.Parts.{Part, part_distinct, part_length, present_part, outside_part, told_part, zip_part}

-- ---- values

abbrev pub Values : List Cell → Type 0
Values row = AllByRecursion IsValue row

null_fits : IsValue Null
unfolding IsValue
null_fits = tt

value_fits : (row : List Cell) (i : ℕ) → Values row → IsValue (unwrap_or (slice_get row i) Null)
value_fits [] i all = null_fits
value_fits (v ∷ row) zero all = all.0
value_fits (v ∷ row) (suc i) all = value_fits row i all.1

pub values_fit : (places : List ℕ) (row : List Cell) → Values row → Values (key_of places row)
values_fit [] row all = tt
values_fit (i ∷ places) row all = (value_fits row i all, values_fit places row all)

not_null : (v : Cell) → is_present v ≡ true → ¬ (v ≡ Null)
not_null Null e = cc
not_null (Int n) e = λ h. cc
not_null (Big n) e = λ h. cc
not_null (Str text) e = λ h. cc
not_null (Date day) e = λ h. cc

present_not_null : (v : Cell) → is_present v ≡ not (is_null v)
present_not_null Null = refl
present_not_null (Int n) = refl
present_not_null (Big n) = refl
present_not_null (Str text) = refl
present_not_null (Date day) = refl

-- ---- tables

-- names of columns are names, and a column of the key is NOT NULL
pub record IsStrict (t : Table) : Type 0 where
  pub names : AllByRecursion (λ c. IsName c.name) t.columns
  pub key : AllByRecursion (λ c. has (key_names t) c.name ≡ true → c.not_null ≡ true) t.columns

-- a subscribed table of such a table
pub record IsProper (s : SubscribedTable) : Type 0 where
  pub strict : IsStrict s.table
  pub key : HasKey s.table
  pub order : IsInOrder s

all_at : {A : Type 0} (P : A → Type 0) (xs : List A) (i : ℕ) (x : A) → AllByRecursion P xs → slice_get xs i ≡ Some x → P x
all_at P [] i x all e = cc
all_at P (y ∷ xs) zero x all e = let same : y ≡ x = cc in subst P same all.0
all_at P (y ∷ xs) (suc i) x all e = all_at P xs i x all.1 e

each_at : (P : Column → Type 0) (t : Table) (columns : List Column) (places : List ℕ) → AllByRecursion P t.columns → AreAt t columns places → AllByRecursion P columns
each_at P t [] places all a = tt
each_at P t (c ∷ columns) [] all a = absurd a
each_at P t (c ∷ columns) (i ∷ places) all a = (all_at P t.columns i c all a.0, each_at P t columns places all a.1)

of_names : (columns : List Column) → AllByRecursion (λ c. IsName c.name) columns → AllByRecursion IsName (map column_name columns)
of_names [] all = tt
of_names (c ∷ columns) all = (all.0, of_names columns all.1)

-- a column may hold the value at its place of a row that fits
holds_at : (columns : List Column) (row : List Cell) (i : ℕ) (c : Column) → is_row columns row ≡ true → slice_get columns i ≡ Some c → may_hold c (unwrap_or (slice_get row i) Null) ≡ true
holds_at [] row i c f e = cc
holds_at (d ∷ columns) [] i c f e = cc
holds_at (d ∷ columns) (v ∷ row) zero c f e =
    let same : d ≡ c = cc in
    subst (λ (x : Column). may_hold x v ≡ true) same (and_parts (may_hold d v) (is_row columns row) f).0
holds_at (d ∷ columns) (v ∷ row) (suc i) c f e = holds_at columns row i c (and_parts (may_hold d v) (is_row columns row) f).1 e

-- what a subscribed table shows of a row that fits the table fits its columns
pub shown_fits : (t : Table) (columns : List Column) (places : List ℕ) (row : List Cell) → is_row t.columns row ≡ true → AreAt t columns places
    → is_row columns (key_of places row) ≡ true
shown_fits t [] [] row f a = refl
shown_fits t [] (i ∷ places) row f a = absurd a
shown_fits t (c ∷ columns) [] row f a = absurd a
shown_fits t (c ∷ columns) (i ∷ places) row f a =
    and_from (may_hold c (unwrap_or (slice_get row i) Null)) (is_row columns (key_of places row)) (holds_at t.columns row i c f a.0) (shown_fits t columns places row f a.1)

-- ---- lists of columns

present_fit : (columns : List Column) (row : List Cell) → AllByRecursion (λ c. IsName c.name) columns → Values row
    → AllByRecursion (λ p. IsName p.0 × (IsValue p.1 × ¬ (p.1 ≡ Null))) (present_columns columns row)
present_fit [] row ns vs = tt
present_fit (c ∷ columns) [] ns vs = tt
present_fit (c ∷ columns) (v ∷ row) ns vs = go (is_present v) refl (present_fit columns row ns.1 vs.1) where
  go : (b : Bool) → is_present v ≡ b → AllByRecursion (λ p. IsName p.0 × (IsValue p.1 × ¬ (p.1 ≡ Null))) (present_columns columns row)
      → AllByRecursion (λ p. IsName p.0 × (IsValue p.1 × ¬ (p.1 ≡ Null))) (cond b ((c.name, v) ∷ present_columns columns row) (present_columns columns row))
  go true e rest = ((ns.0, (vs.0, not_null v e)), rest)
  go false e rest = rest

is_null_from : (v : Cell) → is_present v ≡ false → is_null v ≡ true
is_null_from Null e = refl
is_null_from (Int n) e = cc
is_null_from (Big n) e = cc
is_null_from (Str text) e = cc
is_null_from (Date day) e = cc

-- what a NOT NULL column holds is there
null_refused : (c : Column) (v : Cell) → may_hold c v ≡ true → c.not_null ≡ true → is_present v ≡ false → ⊥
null_refused c v f strict e =
    let no : not (c.not_null && is_null v) ≡ true = (and_parts (is_kept (fitted v c.kind) v) (not (c.not_null && is_null v)) f).1 in
    let yes : not (c.not_null && is_null v) ≡ false = ap (λ b. not (b && is_null v)) strict ∙ ap not (is_null_from v e) in
    cc

-- a column that is NOT NULL is there
present_filled : (n : List ℕ) (columns : List Column) (row : List Cell) → is_row columns row ≡ true → has (map column_name columns) n ≡ true
    → AllByRecursion (λ c. bytes_eq n c.name ≡ true → c.not_null ≡ true) columns → ¬ (present_columns columns row ≡ [])
present_filled n [] row f h strict = cc
present_filled n (c ∷ columns) [] f h strict = cc
present_filled n (c ∷ columns) (v ∷ row) f h strict =
    let parts = and_parts (may_hold c v) (is_row columns row) f in
    go (is_present v) refl (or_cases (bytes_eq n c.name) (has (map column_name columns) n) h) parts.0 (λ there. present_filled n columns row parts.1 there strict.1) where
      go : (b : Bool) → is_present v ≡ b → (bytes_eq n c.name ≡ true) ⊎ (has (map column_name columns) n ≡ true) → may_hold c v ≡ true
          → (has (map column_name columns) n ≡ true → ¬ (present_columns columns row ≡ []))
          → ¬ (cond b ((c.name, v) ∷ present_columns columns row) (present_columns columns row) ≡ [])
      go true e o m rest = λ k. cc
      go false e (inl here) m rest = absurd (null_refused c v m (strict.0 here) e)
      go false e (inr there) m rest = rest there

-- ---- an Insert

module _ (s : SubscribedTable) (proper : IsProper s) where
  names : AllByRecursion (λ c. IsName c.name) s.columns
  names = each_at (λ c. IsName c.name) s.table s.columns s.places proper.strict.names proper.order.places

  few_columns : length (map column_name s.columns) ≤ 256
  few_columns =
      let one : length (map column_name s.columns) ≡ length s.columns = length-map s.columns column_name in
      let two = proper.order.few in
      let three = proper.key.few in
      omega arith

  -- a key column of the subscribed table is NOT NULL
  strict_key : (n : List ℕ) → has (key_names s.table) n ≡ true → AllByRecursion (λ c. bytes_eq n c.name ≡ true → c.not_null ≡ true) s.columns
  strict_key n h = each_at (λ c. bytes_eq n c.name ≡ true → c.not_null ≡ true) s.table s.columns s.places (all s.table.columns proper.strict.key) proper.order.places where
    all : (cs : List Column) → AllByRecursion (λ c. has (key_names s.table) c.name ≡ true → c.not_null ≡ true) cs → AllByRecursion (λ c. bytes_eq n c.name ≡ true → c.not_null ≡ true) cs
    all [] k = tt
    all (c ∷ cs) k = ((λ e. k.0 (ap (has (key_names s.table)) (sym ((bytes_eq-Decides n c.name).0 e)) ∙ h)), all cs k.1)

  -- some column of the subscribed table is of the key
  filled : (row : List Cell) → is_row s.columns row ≡ true → ¬ (present_columns s.columns row ≡ [])
  filled row f = go (key_names s.table) refl proper.key.some proper.order.key where
    go : (ns : List (List ℕ)) → key_names s.table ≡ ns → ¬ (ns ≡ []) → AllByRecursion (λ n. has (map column_name s.columns) n ≡ true) ns → ¬ (present_columns s.columns row ≡ [])
    go [] e some all = absurd (some refl)
    go (n ∷ ns) e some all = present_filled n s.columns row f all.0
        (strict_key n (ap (λ (xs : List (List ℕ)). has xs n) e ∙ ap (λ b. b || has ns n) ((bytes_eq-Decides n n).1 refl)))

  pub insert_fits : (table : List ℕ) (row : List Cell) → IsName table → Values row → is_row s.columns row ≡ true → IsOp (Insert table (present_columns s.columns row))
  unfolding OpHas
  insert_fits table row n vs f = (
    n,
    record {
      items = (short, present_fit s.columns row names vs);
      filled = filled row f;
      distinct = part_distinct (map (λ p. p.0) (present_columns s.columns row)) (map column_name s.columns) (present_part s.columns row) proper.order.distinct;
    },
  ) where
    short : length (present_columns s.columns row) < 2 ^ 32
    short =
        let one = part_length (map (λ p. p.0) (present_columns s.columns row)) (map column_name s.columns) (present_part s.columns row) in
        let two : length (map (λ p. p.0) (present_columns s.columns row)) ≡ length (present_columns s.columns row) = length-map (present_columns s.columns row) (λ p. p.0) in
        let three = few_columns in
        omega arith

-- ---- keys

zip_fit : (ns : List (List ℕ)) (row : List Cell) → AllByRecursion IsName ns → Values row → AllByRecursion (λ p. IsName p.0 × IsValue p.1) (zip ns row)
zip_fit [] row all vs = tt
zip_fit (n ∷ ns) [] all vs = tt
zip_fit (n ∷ ns) (v ∷ row) all vs = ((all.0, vs.0), zip_fit ns row all.1 vs.1)

zip_filled : (ns : List (List ℕ)) (row : List Cell) → ¬ (ns ≡ []) → ¬ (row ≡ []) → ¬ (zip ns row ≡ [])
zip_filled [] row a b = absurd (a refl)
zip_filled (n ∷ ns) [] a b = absurd (b refl)
zip_filled (n ∷ ns) (v ∷ row) a b = λ h. cc

no_names : (ns : List (List ℕ)) → length ns ≡ 0 → ns ≡ []
no_names [] e = refl
no_names (n ∷ ns) e = absurd (omega (arith, e))

found_name : (n : List ℕ) (columns : List Column) → AllByRecursion (λ c. IsName c.name) columns → list_any (λ c. bytes_eq n (column_name c)) columns ≡ true → IsName n
found_name n [] all h = cc
found_name n (c ∷ columns) all h = elim (or_cases (bytes_eq n c.name) (list_any (λ x. bytes_eq n (column_name x)) columns) h) as (λ _. IsName n) [
  | inl e ↦ subst IsName (sym ((bytes_eq-Decides n c.name).0 e)) all.0
  | inr e ↦ found_name n columns all.1 e
]

module _ (t : Table) (strict : IsStrict t) (has_key : HasKey t) where
  key_are_names : AllByRecursion IsName (key_names t)
  key_are_names = all (key_names t) has_key.key where
    all : (ns : List (List ℕ)) → AllByRecursion (λ n. has_column t n ≡ true) ns → AllByRecursion IsName ns
    all [] h = tt
    all (n ∷ ns) h = (found_name n t.columns strict.names h.0, all ns h.1)

  few_keys : length (key_names t) ≤ 256
  few_keys =
      let most = no_more (key_names t) (column_names t) has_key.distinct (all (key_names t) has_key.key) in
      let same : length (column_names t) ≡ length t.columns = length-map t.columns column_name in
      let bound = has_key.few in
      omega arith where
        as_columns : (n : List ℕ) (cs : List Column) → list_any (λ (c : Column). bytes_eq n (column_name c)) cs ≡ has (map column_name cs) n
        as_columns n [] = refl
        as_columns n (c ∷ cs) = ap (λ b. bytes_eq n c.name || b) (as_columns n cs)

        all : (ns : List (List ℕ)) → AllByRecursion (λ n. has_column t n ≡ true) ns → AllByRecursion (λ n. has (column_names t) n ≡ true) ns
        all [] h = tt
        all (n ∷ ns) h = (sym (as_columns n t.columns) ∙ h.0, all ns h.1)

  pub key_fits : (key : List Cell) → Values key → length key ≡ length t.key → AreColumns (λ c. c.0) (λ c. IsName c.0 × IsValue c.1) (key_columns t key)
  key_fits key vs l = record {
    items = (short, zip_fit (key_names t) key key_are_names vs);
    filled = zip_filled (key_names t) key has_key.some (λ h. has_key.some (no_names (key_names t) (has_key.same ∙ (sym l ∙ ap length h))));
    distinct = part_distinct (map (λ p. p.0) (zip (key_names t) key)) (key_names t) (zip_part (key_names t) key) has_key.distinct;
  } where
    short : length (key_columns t key) < 2 ^ 32
    short =
        let one = part_length (map (λ p. p.0) (zip (key_names t) key)) (key_names t) (zip_part (key_names t) key) in
        let two : length (map (λ p. p.0) (zip (key_names t) key)) ≡ length (zip (key_names t) key) = length-map (zip (key_names t) key) (λ p. p.0) in
        let three = few_keys in
        omega arith

  pub remove_fits : (key : List Cell) → IsName t.name → Values key → length key ≡ length t.key → IsOp (Remove t.name (key_columns t key))
  unfolding OpHas
  remove_fits key n vs l = (n, key_fits key vs l)

  pub update_fits : (key : List Cell) (updates : List (List ℕ × Cell × Cell)) (names : List (List ℕ)) → IsName t.name → Values key → length key ≡ length t.key
      → Part (map (λ u. u.0) updates) names → AreDistinct names → length names ≤ 256 → AllByRecursion (λ u. IsName u.0 × IsValue u.1 × IsValue u.2) updates
      → AllByRecursion IsOp (update_of t key updates)
  unfolding OpHas
  update_fits key [] names n vs l p d f all = tt
  update_fits key (u ∷ updates) names n vs l p d f all = (
    (
      n,
      key_fits key vs l,
      record {
        items = (short, all);
        filled = λ h. cc;
        distinct = part_distinct (map (λ x. x.0) (u ∷ updates)) names p d;
      },
    ),
    tt,
  ) where
    short : length (u ∷ updates) < 2 ^ 32
    short =
        let one = part_length (map (λ x. x.0) (u ∷ updates)) names p in
        let two : length (map (λ x. x.0) (u ∷ updates)) ≡ length (u ∷ updates) = length-map (u ∷ updates) (λ x. x.0) in
        omega arith

-- ---- updates

differing_fit : (columns : List Column) (before after : List Cell) → AllByRecursion (λ c. IsName c.name) columns → Values before → Values after
    → AllByRecursion (λ u. IsName u.0 × IsValue u.1 × IsValue u.2) (differing columns before after)
differing_fit [] before after ns bs vs = tt
differing_fit (c ∷ columns) [] after ns bs vs = tt
differing_fit (c ∷ columns) (v ∷ before) [] ns bs vs = tt
differing_fit (c ∷ columns) (v ∷ before) (w ∷ after) ns bs vs = go (eq_by_cmp value_cmp v w) (differing_fit columns before after ns.1 bs.1 vs.1) where
  go : (b : Bool) → AllByRecursion (λ u. IsName u.0 × IsValue u.1 × IsValue u.2) (differing columns before after)
      → AllByRecursion (λ u. IsName u.0 × IsValue u.1 × IsValue u.2) (cond b (differing columns before after) ((c.name, v, w) ∷ differing columns before after))
  go true rest = rest
  go false rest = ((ns.0, bs.0, vs.0), rest)

outside_fit : (key : List (List ℕ)) (columns : List Column) (before after : List Cell) → AllByRecursion (λ c. IsName c.name) columns → Values before → Values after
    → AllByRecursion (λ u. IsName u.0 × IsValue u.1 × IsValue u.2) (outside_key key columns before after)
outside_fit key [] before after ns bs vs = tt
outside_fit key (c ∷ columns) [] after ns bs vs = tt
outside_fit key (c ∷ columns) (v ∷ before) [] ns bs vs = tt
outside_fit key (c ∷ columns) (v ∷ before) (w ∷ after) ns bs vs = go (has key c.name) (outside_fit key columns before after ns.1 bs.1 vs.1) where
  go : (b : Bool) → AllByRecursion (λ u. IsName u.0 × IsValue u.1 × IsValue u.2) (outside_key key columns before after)
      → AllByRecursion (λ u. IsName u.0 × IsValue u.1 × IsValue u.2) (cond b (outside_key key columns before after) ((c.name, v, w) ∷ outside_key key columns before after))
  go true rest = rest
  go false rest = ((ns.0, bs.0, vs.0), rest)

told_fit : (s : SubscribedTable) (before after : List Cell) → AllByRecursion (λ c. IsName c.name) s.columns → Values before → Values after
    → AllByRecursion (λ u. IsName u.0 × IsValue u.1 × IsValue u.2) (columns_told s before after)
told_fit s before after ns bs vs = of (differing s.columns before after) (differing_fit s.columns before after ns bs vs) where
  of : (updates : List (List ℕ × Cell × Cell)) → AllByRecursion (λ u. IsName u.0 × IsValue u.1 × IsValue u.2) updates
      → AllByRecursion (λ u. IsName u.0 × IsValue u.1 × IsValue u.2) (listed_in s before after updates)
  of [] rest = tt
  of (u ∷ updates) rest = elim s.verifies as (λ (b : Bool). AllByRecursion (λ x. IsName x.0 × IsValue x.1 × IsValue x.2) (cond b (outside_key (key_names s.table) s.columns before after) (u ∷ updates))) [
    | true ↦ outside_fit (key_names s.table) s.columns before after ns bs vs
    | false ↦ rest
  ]

key_length : (places : List ℕ) (row : List Cell) → length (key_of places row) ≡ length places
key_length [] row = refl
key_length (i ∷ places) row = ap suc (key_length places row)

-- ---- two rows of a table

module _ (s : SubscribedTable) (proper : IsProper s) (named : IsName s.table.name) where
  removes : (row : List Cell) → Values row → AllByRecursion IsOp (Remove s.table.name (key_columns s.table (key_of s.table.key row)) ∷ [])
  removes row vs = (remove_fits s.table proper.strict proper.key (key_of s.table.key row) named (values_fit s.table.key row vs) (key_length s.table.key row), tt)

  inserts : (row : List Cell) → Values row → is_row s.table.columns row ≡ true → AllByRecursion IsOp (Insert s.table.name (present_columns s.columns (shown s row)) ∷ [])
  inserts row vs f = (
    insert_fits s proper s.table.name (shown s row) named (values_fit s.places row vs)
        (shown_fits s.table s.columns s.places row f proper.order.places),
    tt,
  )

  updates : (key before after : List Cell) → Values key → length key ≡ length s.table.key → Values before → Values after
      → AllByRecursion IsOp (update_of s.table key (columns_told s (shown s before) (shown s after)))
  updates key before after ks l bs vs = update_fits s.table proper.strict proper.key key (columns_told s (shown s before) (shown s after)) (map column_name s.columns)
      named ks l (told_part s (shown s before) (shown s after)) proper.order.distinct (few_columns s proper)
      (told_fit s (shown s before) (shown s after) (names s proper) (values_fit s.places before bs) (values_fit s.places after vs))

  pub images_fit : (before after : Option (List Cell)) → IfSome before Values → IfSome after Values → AllByRecursion IsOp (images_told s before after)
  images_fit None None b a = tt
  images_fit None (Some row) b a = go (is_row s.table.columns row) refl (is_in s row) where
    go : (f : Bool) → is_row s.table.columns row ≡ f → (i : Bool)
        → AllByRecursion IsOp (cond f (told_of s (key_of s.table.key row) None (cond i (Some (shown s row)) None)) [])
    go true f true = inserts row a f
    go true f false = tt
    go false f i = tt
  images_fit (Some row) None b a = go (is_row s.table.columns row) (is_in s row) where
    go : (f : Bool) (i : Bool) → AllByRecursion IsOp (cond (f && true) (told_of s (key_of s.table.key row) (cond i (Some (shown s row)) None) None) [])
    go true true = removes row b
    go true false = tt
    go false i = tt
  images_fit (Some old) (Some new) b a = go (is_row s.table.columns old) (is_row s.table.columns new) refl (is_in s old) (is_in s new) where
    go : (f g : Bool) → is_row s.table.columns new ≡ g → (i j : Bool)
        → AllByRecursion IsOp (cond (f && g) (told_of s (key_of s.table.key old) (cond i (Some (shown s old)) None) (cond j (Some (shown s new)) None)) [])
    go true true e true true = updates (key_of s.table.key old) old new (values_fit s.table.key old b) (key_length s.table.key old) b a
    go true true e true false = removes old b
    go true true e false true = inserts new a e
    go true true e false false = tt
    go true false e i j = tt
    go false g e i j = tt

-- what goes back to the origin of an op
module _ (t : Table) (strict : IsStrict t) (has_key : HasKey t) (named : IsName t.name) (before : List Cell) (bs : Values before) where
  abbrev key : List Cell
  key = key_of t.key before

  pub back_fits : (subscribed_table : Option SubscribedTable) → ((s : SubscribedTable) → subscribed_table ≡ Some s → IsProper s) → (after : List Cell) → Values after
      → AllByRecursion IsOp (told_back t subscribed_table key before (shown_row subscribed_table (Some after)))
  back_fits None proper after vs = (remove_fits t strict has_key key named (values_fit t.key before bs) (key_length t.key before), tt)
  back_fits (Some s) proper after vs = go (is_in s after) where
    p : IsProper s
    p = proper s refl

    go : (i : Bool) → AllByRecursion IsOp (told_back t (Some s) key before (cond i (Some (shown s after)) None))
    go false = (remove_fits t strict has_key key named (values_fit t.key before bs) (key_length t.key before), tt)
    go true = update_fits t strict has_key key (outside_key (key_names t) s.columns (shown s before) (shown s after)) (map column_name s.columns) named
        (values_fit t.key before bs) (key_length t.key before) (outside_part (key_names t) s.columns (shown s before) (shown s after)) p.order.distinct (few_columns s p)
        (outside_fit (key_names t) s.columns (shown s before) (shown s after) (names s p) (values_fit s.places before bs) (values_fit s.places after vs))
