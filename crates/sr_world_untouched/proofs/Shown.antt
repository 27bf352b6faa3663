-- What a subscribed table shows of a row: values by name, the key among them.
use Rattle.std.proofs.Common.{◌≡◌, ℕ, Bool, true, false, cond, not, ◌&&◌, ◌||◌, map, length, List, [], ◌∷◌, Option, Some, None, bytes_eq, nat_eq, slice_get, refl, sym, ap, ap₂, subst, ◌∙◌, arith}
use Rattle.std.specs.Prelude.{unwrap_or, zip, filter_map}
use Rattle.std.specs.List.{AllByRecursion, cons_option, list_all, list_any}
use Rattle.std.specs.Option.{option_map, is_some}
use Rattle.std.specs.Ordering.{eq_by_cmp}
use Rattle.std.proofs.lemmas.Option.{slice_get-map}
use Rattle.sr_base.specs.Order.{value_cmp}
use Rattle.sr_base.specs.declared.value.Value.{Value as Cell}
use Rattle.sr_base.specs.declared.value.Value.TheVariants.{Null}
use Rattle.sr_exec_where.proofs.Fixed.{same_name, bytes_itself}
use Rattle.sr_exec_where.specs.Keys.{key_of}
use Rattle.sr_eval.specs.Comparisons.{is_null}
use Rattle.sr_exec_fits.proofs.Rows.{row_parts, value_itself}
use Rattle.sr_exec_fits.specs.Rows.{IsRow}
use Rattle.sr_logform.specs.Rules.{AreDistinct, is_present}
use Rattle.sr_publish.specs.Inner.Laws.{AreAt, HasKey}
use Rattle.sr_publish.specs.SubscribedTables.{SubscribedTable}
use Rattle.sr_publish.specs.Views.{shown}
use Rattle.sr_resolve.specs.Named.{Values, is_named, is_no_target, names_key, names_other}
use Rattle.sr_scan.proofs.Spelled.{IsProper, IsStrict}
use Rattle.sr_scan.specs.Ops.{present_columns}
use Rattle.sr_catalog_schema.specs.Firsts.{has}
use Rattle.sr_catalog_schema.specs.Members.{column_name, has_column, key_names}
use Rattle.sr_catalog_schema.specs.Names.{taken}
use Rattle.sr_catalog_schema.specs.declared.table.Column.{Column}
use Rattle.sr_catalog_schema.specs.declared.table.Table.{Table}
use Rattle.sr_world_untouched.specs.Agreeing.{cell_in}
use Rattle.sr_world_untouched.specs.Inner.Agreeing.{held_in}
use Rattle.sr_world_untouched.proofs.Inserted.{IsPart, own_part, has_itself, stands_so}
use Rattle.sr_world_untouched.proofs.Keyed.{key_is, places_there}
use Rattle.sr_world_untouched.proofs.Updated.{SkipsSame, equal_ones, key_ones, listed_by}

-- ---- a row is its values by name

part_row : (columns : List Column) (shown : List Cell) (cs : List Column) (vs : List Cell) → IsRow cs vs → IsPart columns shown [] cs vs
    → vs ≡ map (λ (c : Column). held_in columns shown c.name) cs
part_row columns shown [] [] fits part = refl
part_row columns shown [] (v ∷ vs) fits part = cc
part_row columns shown (c ∷ cs) [] fits part = cc
part_row columns shown (c ∷ cs) (v ∷ vs) fits part =
    ap₂ (λ (x : Cell) (xs : List Cell). x ∷ xs) (sym (ap (λ (o : Option Cell). unwrap_or o Null) part.0))
    (part_row columns shown cs vs (row_parts c cs v vs fits).2 part.1)

pub row_is : (columns : List Column) (row : List Cell) → AreDistinct (map column_name columns) → IsRow columns row
    → row ≡ map (λ (c : Column). held_in columns row c.name) columns
row_is columns row distinct fits = part_row columns row columns row fits (own_part columns row distinct)

by_place : (columns : List Column) (row : List Cell) (i : ℕ) (c : Column) → AreDistinct (map column_name columns) → IsRow columns row → slice_get columns i ≡ Some c
    → unwrap_or (slice_get row i) Null ≡ held_in columns row c.name
by_place columns row i c distinct fits e =
    ap (λ (r : List Cell). unwrap_or (slice_get r i) Null) (row_is columns row distinct fits)
    ∙ ap (λ (o : Option Cell). unwrap_or o Null) (slice_get-map (λ (x : Column). held_in columns row x.name) columns i ∙ ap (option_map (λ (x : Column). held_in columns row x.name)) e)

-- the key of a row is its values by the names of the key
pub key_by_name : (t : Table) (row : List Cell) → HasKey t → IsRow t.columns row → key_of t.key row ≡ map (held_in t.columns row) (key_names t)
key_by_name t row has_key fits =
    ap (key_of t.key) (row_is t.columns row has_key.columns fits) ∙ key_is t.columns (held_in t.columns row) t.key (places_there t has_key.same)

-- ---- what a subscribed table shows

shown_by_name : (t : Table) (row : List Cell) (n : List ℕ) → AreDistinct (map column_name t.columns) → IsRow t.columns row → (columns : List Column) (places : List ℕ)
    → AreAt t columns places → has (map column_name columns) n ≡ true → held_in columns (key_of places row) n ≡ held_in t.columns row n
shown_by_name t row n distinct fits [] places at h = cc
shown_by_name t row n distinct fits (c ∷ columns) [] at h = absurd at
shown_by_name t row n distinct fits (c ∷ columns) (i ∷ places) at h = go (bytes_eq n c.name) refl h (λ k. shown_by_name t row n distinct fits columns places at.1 k)
  where
    go : (b : Bool) → bytes_eq n c.name ≡ b → (b || has (map column_name columns) n) ≡ true
        → (has (map column_name columns) n ≡ true → held_in columns (key_of places row) n ≡ held_in t.columns row n)
        → unwrap_or (cond b (Some (unwrap_or (slice_get row i) Null)) (cell_in columns (key_of places row) n)) Null ≡ held_in t.columns row n
    go true e k rest = by_place t.columns row i c distinct fits at.0 ∙ ap (held_in t.columns row) (sym (same_name n c.name e))
    go false e k rest = rest k

same_by_name : (f g : List ℕ → Cell) (among names : List (List ℕ)) → ((n : List ℕ) → has among n ≡ true → f n ≡ g n) → AllByRecursion (λ n. has among n ≡ true) names → map f names ≡ map g names
same_by_name f g among [] same all = refl
same_by_name f g among (n ∷ names) same all = ap₂ (λ (x : Cell) (xs : List Cell). x ∷ xs) (same n all.0) (same_by_name f g among names same all.1)

-- the key of a row by what is shown of it
pub key_shown : (s : SubscribedTable) (row : List Cell) → IsProper s → IsRow s.table.columns row
    → map (held_in s.columns (shown s row)) (key_names s.table) ≡ key_of s.table.key row
key_shown s row proper fits =
    same_by_name (held_in s.columns (shown s row)) (held_in s.table.columns row) (map column_name s.columns) (key_names s.table)
    (λ n there. shown_by_name s.table row n proper.key.columns fits s.columns s.places proper.order.places there) proper.order.key
    ∙ sym (key_by_name s.table row proper.key fits)

-- ---- no value of a key is NULL

not_null_at : (names : List (List ℕ)) (n : List ℕ) (columns : List Column) (row : List Cell) → IsRow columns row → AllByRecursion (λ c. has names c.name ≡ true → c.not_null ≡ true) columns
    → has names n ≡ true → taken column_name n columns ≡ true → is_null (held_in columns row n) ≡ false
not_null_at names n [] row fits strict among there = cc
not_null_at names n (c ∷ columns) [] fits strict among there = cc
not_null_at names n (c ∷ columns) (v ∷ row) fits strict among there =
    go (bytes_eq n c.name) refl there (λ k. not_null_at names n columns row (row_parts c columns v row fits).2 strict.1 among k)
  where
    go : (b : Bool) → bytes_eq n c.name ≡ b → (b || taken column_name n columns) ≡ true → (taken column_name n columns ≡ true → is_null (held_in columns row n) ≡ false)
        → is_null (unwrap_or (cond b (Some v) (cell_in columns row n)) Null) ≡ false
    go true e k rest =
        let not_null : c.not_null ≡ true = strict.0 (subst (λ (m : List ℕ). has names m ≡ true) (same_name n c.name e) among) in
        stands_so c true c v not_null (λ h. h) (row_parts c columns v row fits).1
    go false e k rest = rest k

none_null : (g : List ℕ → Cell) (names : List (List ℕ)) → AllByRecursion (λ n. is_null (g n) ≡ false) names → list_any is_null (map g names) ≡ false
none_null g [] all = refl
none_null g (n ∷ names) all = ap₂ (λ (x y : Bool). x || y) all.0 (none_null g names all.1)

pub key_not_null : (t : Table) (row : List Cell) → IsStrict t → HasKey t → IsRow t.columns row → list_any is_null (key_of t.key row) ≡ false
key_not_null t row strict has_key fits =
    ap (list_any is_null) (key_by_name t row has_key fits)
    ∙ none_null (held_in t.columns row) (key_names t) (each (key_names t) (has_itself (key_names t) (key_names t) (λ n h. h)) has_key.key)
  where
    each : (names : List (List ℕ)) → AllByRecursion (λ n. has (key_names t) n ≡ true) names → AllByRecursion (λ n. has_column t n ≡ true) names
        → AllByRecursion (λ n. is_null (held_in t.columns row n) ≡ false) names
    each [] among there = tt
    each (n ∷ names) among there = (not_null_at (key_names t) n t.columns row fits strict.key among.0 there.0, each names among.1 there.1)

-- ---- names that an op has

-- each present column is one of the table's
pub none_other : (t : Table) (columns : List Column) (row : List Cell) → AllByRecursion (λ a. taken column_name a.name t.columns ≡ true) columns
    → names_other t (present_columns columns row) ≡ false
none_other t [] row there = refl
none_other t (c ∷ columns) [] there = refl
none_other t (c ∷ columns) (v ∷ row) there = go (is_present v) (none_other t columns row there.1)
  where
    go : (b : Bool) → names_other t (present_columns columns row) ≡ false → names_other t (cond b ((c.name, v) ∷ present_columns columns row) (present_columns columns row)) ≡ false
    go true rest = ap₂ (λ (x y : Bool). x || y) (ap not there.0) rest
    go false rest = rest

-- a key's names with values are the table's key
named_here : (names : List (List ℕ)) (values : List Cell) (n : List ℕ) → length names ≡ length values → has names n ≡ true → list_any (λ (v : List ℕ × Cell). bytes_eq v.0 n) (zip names values) ≡ true
named_here [] values n same h = cc
named_here (m ∷ names) [] n same h = absurd (omega (arith, same))
named_here (m ∷ names) (v ∷ values) n same h = go (bytes_eq n m) refl h (λ k. named_here names values n (omega (arith, same)) k)
  where
    later : (a b : Bool) → b ≡ true → (a || b) ≡ true
    later true b e = refl
    later false b e = e

    go : (b : Bool) → bytes_eq n m ≡ b → (b || has names n) ≡ true → (has names n ≡ true → list_any (λ (v : List ℕ × Cell). bytes_eq v.0 n) (zip names values) ≡ true)
        → (bytes_eq m n || list_any (λ (v : List ℕ × Cell). bytes_eq v.0 n) (zip names values)) ≡ true
    go true e k rest =
        let there : bytes_eq m n ≡ true = subst (λ (x : List ℕ). bytes_eq x n ≡ true) (same_name n m e) (bytes_itself n) in
        ap (λ (b : Bool). b || list_any (λ (v : List ℕ × Cell). bytes_eq v.0 n) (zip names values)) there
    go false e k rest = later (bytes_eq m n) (list_any (λ (v : List ℕ × Cell). bytes_eq v.0 n) (zip names values)) (rest k)

zip_length : (names : List (List ℕ)) (values : List Cell) → length names ≡ length values → length (zip names values) ≡ length names
zip_length [] values same = refl
zip_length (n ∷ names) [] same = absurd (omega (arith, same))
zip_length (n ∷ names) (v ∷ values) same = let rest : length (zip names values) ≡ length names = zip_length names values (omega (arith, same)) in omega (arith, rest)

equal_numbers : (m n : ℕ) → m ≡ n → nat_eq m n ≡ true
equal_numbers m n e = grind (arith, e)

abbrev keys_at : List Column → List ℕ → List (List ℕ)
keys_at columns places = filter_map (λ i. option_map column_name (slice_get columns i)) places

pub names_its_key : (t : Table) (values : List Cell) → HasKey t → length (key_names t) ≡ length values → names_key t (zip (key_names t) values) ≡ true
unfolding names_key
names_its_key t values has_key same =
    ap₂ (λ (x y : Bool). x && y)
    (equal_numbers (length (zip (key_names t) values)) (length t.key) (zip_length (key_names t) values same ∙ has_key.same))
    (each t.key (places_there t has_key.same) (has_itself (key_names t) (key_names t) (λ n h. h)))
  where
    values_named : Values
    values_named = zip (key_names t) values

    each : (places : List ℕ) → AllByRecursion (λ p. is_some (slice_get t.columns p) ≡ true) places → AllByRecursion (λ n. has (key_names t) n ≡ true) (keys_at t.columns places)
        → list_all (λ (place : ℕ). is_named values_named (slice_get t.columns place)) places ≡ true
    each [] there among = refl
    each (p ∷ places) there among = go (slice_get t.columns p) refl there.0 among (λ k. each places there.1 k)
      where
        go : (o : Option Column) → slice_get t.columns p ≡ o → is_some (slice_get t.columns p) ≡ true
            → AllByRecursion (λ n. has (key_names t) n ≡ true) (cons_option (option_map column_name o) (keys_at t.columns places))
            → (AllByRecursion (λ n. has (key_names t) n ≡ true) (keys_at t.columns places) → list_all (λ (place : ℕ). is_named values_named (slice_get t.columns place)) places ≡ true)
            → (is_named values_named (slice_get t.columns p) && list_all (λ (place : ℕ). is_named values_named (slice_get t.columns place)) places) ≡ true
        go None e h k rest = let none : is_some (slice_get t.columns p) ≡ false = ap is_some e in cc
        go (Some c) e h k rest = ap₂ (λ (x y : Bool). x && y) (ap (is_named values_named) e ∙ named_here (key_names t) values c.name same k.0) (rest k.1)

-- ---- two rows that are shown under one key

module _ (t : Table) (columns : List Column) (before after : List Cell) (distinct : AreDistinct (map column_name columns)) (keys : map (held_in columns before) (key_names t) ≡ map (held_in columns after) (key_names t)) where
  same_at : (n : List ℕ) (names : List (List ℕ)) → has names n ≡ true → map (held_in columns before) names ≡ map (held_in columns after) names → held_in columns before n ≡ held_in columns after n
  same_at n [] h e = cc
  same_at n (m ∷ names) h e = go (bytes_eq n m) refl h (let rest : map (held_in columns before) names ≡ map (held_in columns after) names = cc in λ k. same_at n names k rest)
    where
      go : (b : Bool) → bytes_eq n m ≡ b → (b || has names n) ≡ true → (has names n ≡ true → held_in columns before n ≡ held_in columns after n) → held_in columns before n ≡ held_in columns after n
      go true is k rest =
          let here : held_in columns before m ≡ held_in columns after m = cc in
          subst (λ (x : List ℕ). held_in columns before x ≡ held_in columns after x) (sym (same_name n m is)) here
      go false is k rest = rest k

  -- in a column of the key they have one value
  in_key : (c : Column) (v w : Cell) → cell_in columns before c.name ≡ Some v → cell_in columns after c.name ≡ Some w → has (key_names t) c.name ≡ true → v ≡ w
  in_key c v w p q e =
      let held : held_in columns before c.name ≡ held_in columns after c.name = same_at c.name (key_names t) e keys in
      sym (ap (λ (o : Option Cell). unwrap_or o Null) p) ∙ held ∙ ap (λ (o : Option Cell). unwrap_or o Null) q

  key_same : (cs : List Column) (vs ws : List Cell) → IsPart columns before [] cs vs → IsPart columns after [] cs ws → SkipsSame (key_ones (key_names t)) cs vs ws
  key_same [] vs ws p q = tt
  key_same (c ∷ cs) [] ws p q = tt
  key_same (c ∷ cs) (v ∷ vs) [] p q = tt
  key_same (c ∷ cs) (v ∷ vs) (w ∷ ws) p q = (in_key c v w p.0 q.0, key_same cs vs ws p.1 q.1)

  -- what an update of all columns leaves out is the same in both
  pub key_is_same : SkipsSame (key_ones (key_names t)) columns before after
  key_is_same = key_same columns before after (own_part columns before distinct) (own_part columns after distinct)

  outside : (c : Column) (v w : Cell) → cell_in columns before c.name ≡ Some v → cell_in columns after c.name ≡ Some w → eq_by_cmp value_cmp v w ≡ false
      → (b : Bool) → has (key_names t) c.name ≡ b → b ≡ false
  outside c v w p q differ false e = refl
  outside c v w p q differ true e =
      let yes : eq_by_cmp value_cmp v w ≡ true = ap (λ (x : Cell). eq_by_cmp value_cmp x w) (in_key c v w p q e) ∙ value_itself w in
      cc

  each : (cs : List Column) (vs ws : List Cell) → AllByRecursion (λ a. taken column_name a.name t.columns ≡ true) cs → IsPart columns before [] cs vs → IsPart columns after [] cs ws
      → list_any (is_no_target t) (listed_by equal_ones cs vs ws) ≡ false
  each [] vs ws h p q = refl
  each (c ∷ cs) [] ws h p q = refl
  each (c ∷ cs) (v ∷ vs) [] h p q = refl
  each (c ∷ cs) (v ∷ vs) (w ∷ ws) h p q = go (eq_by_cmp value_cmp v w) refl (each cs vs ws h.1 p.1 q.1)
    where
      go : (b : Bool) → eq_by_cmp value_cmp v w ≡ b → list_any (is_no_target t) (listed_by equal_ones cs vs ws) ≡ false
          → list_any (is_no_target t) (cond b (listed_by equal_ones cs vs ws) ((c.name, v, w) ∷ listed_by equal_ones cs vs ws)) ≡ false
      go true e rest = rest
      go false e rest =
          ap₂ (λ (x y : Bool). x || y) (ap₂ (λ (x y : Bool). x || y) (ap not h.0) (outside c v w p.0 q.0 e (has (key_names t) c.name) refl)) rest

  -- they differ in no column of the key
  pub differs_outside : AllByRecursion (λ a. taken column_name a.name t.columns ≡ true) columns → list_any (is_no_target t) (listed_by equal_ones columns before after) ≡ false
  differs_outside there = each columns before after there (own_part columns before distinct) (own_part columns after distinct)

-- an update of all columns has none of the key
pub lists_outside : (t : Table) (columns : List Column) (before after : List Cell) → AllByRecursion (λ a. taken column_name a.name t.columns ≡ true) columns
    → list_any (is_no_target t) (listed_by (key_ones (key_names t)) columns before after) ≡ false
lists_outside t [] before after there = refl
lists_outside t (c ∷ columns) [] after there = refl
lists_outside t (c ∷ columns) (v ∷ before) [] there = refl
lists_outside t (c ∷ columns) (v ∷ before) (w ∷ after) there = go (has (key_names t) c.name) refl (lists_outside t columns before after there.1)
  where
    go : (b : Bool) → has (key_names t) c.name ≡ b → list_any (is_no_target t) (listed_by (key_ones (key_names t)) columns before after) ≡ false
        → list_any (is_no_target t) (cond b (listed_by (key_ones (key_names t)) columns before after) ((c.name, v, w) ∷ listed_by (key_ones (key_names t)) columns before after)) ≡ false
    go true e rest = rest
    go false e rest = ap₂ (λ (x y : Bool). x || y) (ap₂ (λ (x y : Bool). x || y) (ap not there.0) e) rest
