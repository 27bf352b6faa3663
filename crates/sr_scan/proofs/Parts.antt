-- Parts of lists of names, in their order.
use Rattle.std.proofs.Common.{◌≡◌, ◌≤◌, ◌⊎◌, inl, inr, ℕ, Bool, true, false, cond, List, [], ◌∷◌, length, map, zip, refl, sym, subst, arith}
use Rattle.std.specs.Prelude.{⊤}
use Rattle.std.specs.List.{AllByRecursion}
use Rattle.std.specs.Ordering.{eq_by_cmp}
use Rattle.sr_base.specs.Order.{value_cmp}
use Rattle.sr_base.specs.declared.value.Value.{Value as Cell}
use Rattle.sr_logform.specs.Rules.{is_present, AreDistinct}
use Rattle.sr_catalog_schema.specs.Firsts.{has}
use Rattle.sr_catalog_schema.specs.Members.{column_name, key_names}
use Rattle.sr_catalog_schema.specs.declared.table.Column.{Column}
use Rattle.sr_publish.specs.SubscribedTables.{SubscribedTable}
use Rattle.sr_scan.specs.Ops.{present_columns, differing, outside_key, listed_in, columns_told}

-- some of the names, in their order
abbrev pub Part : List (List ℕ) → List (List ℕ) → Type 0
Part [] ys = ⊤
Part (x ∷ xs) [] = ⊥
Part (x ∷ xs) (y ∷ ys) = ((x ≡ y) × Part xs ys) ⊎ Part (x ∷ xs) ys

skip : (xs ys : List (List ℕ)) (y : List ℕ) → Part xs ys → Part xs (y ∷ ys)
skip [] ys y p = tt
skip (x ∷ xs) ys y p = inr p

keep : (xs ys : List (List ℕ)) (x : List ℕ) → Part xs ys → Part (x ∷ xs) (x ∷ ys)
keep xs ys x p = inl (refl, p)

pub part_all : (P : List ℕ → Type 0) (xs ys : List (List ℕ)) → Part xs ys → AllByRecursion P ys → AllByRecursion P xs
part_all P [] ys p all = tt
part_all P (x ∷ xs) [] p all = absurd p
part_all P (x ∷ xs) (y ∷ ys) (inl q) all = (subst P (sym q.0) all.0, part_all P xs ys q.1 all.1)
part_all P (x ∷ xs) (y ∷ ys) (inr q) all = part_all P (x ∷ xs) ys q all.1

pub part_distinct : (xs ys : List (List ℕ)) → Part xs ys → AreDistinct ys → AreDistinct xs
part_distinct [] ys p d = tt
part_distinct (x ∷ xs) [] p d = absurd p
part_distinct (x ∷ xs) (y ∷ ys) (inl q) d =
    (part_all (λ other. ¬ (x ≡ other)) xs ys q.1 (subst (λ (n : List ℕ). AllByRecursion (λ other. ¬ (n ≡ other)) ys) (sym q.0) d.0), part_distinct xs ys q.1 d.1)
part_distinct (x ∷ xs) (y ∷ ys) (inr q) d = part_distinct (x ∷ xs) ys q d.1

pub part_length : (xs ys : List (List ℕ)) → Part xs ys → length xs ≤ length ys
part_length [] ys p = omega arith
part_length (x ∷ xs) [] p = absurd p
part_length (x ∷ xs) (y ∷ ys) (inl q) = let h = part_length xs ys q.1 in omega arith
part_length (x ∷ xs) (y ∷ ys) (inr q) = let h = part_length (x ∷ xs) ys q in omega arith

pub present_part : (columns : List Column) (row : List Cell) → Part (map (λ p. p.0) (present_columns columns row)) (map column_name columns)
present_part [] row = tt
present_part (c ∷ columns) [] = tt
present_part (c ∷ columns) (v ∷ row) = go (is_present v) (present_part columns row) where
  go : (b : Bool) → Part (map (λ p. p.0) (present_columns columns row)) (map column_name columns)
      → Part (map (λ p. p.0) (cond b ((c.name, v) ∷ present_columns columns row) (present_columns columns row))) (map column_name (c ∷ columns))
  go true rest = keep (map (λ p. p.0) (present_columns columns row)) (map column_name columns) c.name rest
  go false rest = skip (map (λ p. p.0) (present_columns columns row)) (map column_name columns) c.name rest

pub differing_part : (columns : List Column) (before after : List Cell) → Part (map (λ u. u.0) (differing columns before after)) (map column_name columns)
differing_part [] before after = tt
differing_part (c ∷ columns) [] after = tt
differing_part (c ∷ columns) (v ∷ before) [] = tt
differing_part (c ∷ columns) (v ∷ before) (w ∷ after) = go (eq_by_cmp value_cmp v w) (differing_part columns before after) where
  go : (b : Bool) → Part (map (λ u. u.0) (differing columns before after)) (map column_name columns)
      → Part (map (λ u. u.0) (cond b (differing columns before after) ((c.name, v, w) ∷ differing columns before after))) (map column_name (c ∷ columns))
  go true rest = skip (map (λ u. u.0) (differing columns before after)) (map column_name columns) c.name rest
  go false rest = keep (map (λ u. u.0) (differing columns before after)) (map column_name columns) c.name rest

pub outside_part : (key : List (List ℕ)) (columns : List Column) (before after : List Cell) → Part (map (λ u. u.0) (outside_key key columns before after)) (map column_name columns)
outside_part key [] before after = tt
outside_part key (c ∷ columns) [] after = tt
outside_part key (c ∷ columns) (v ∷ before) [] = tt
outside_part key (c ∷ columns) (v ∷ before) (w ∷ after) = go (has key c.name) (outside_part key columns before after) where
  go : (b : Bool) → Part (map (λ u. u.0) (outside_key key columns before after)) (map column_name columns)
      → Part (map (λ u. u.0) (cond b (outside_key key columns before after) ((c.name, v, w) ∷ outside_key key columns before after))) (map column_name (c ∷ columns))
  go true rest = skip (map (λ u. u.0) (outside_key key columns before after)) (map column_name columns) c.name rest
  go false rest = keep (map (λ u. u.0) (outside_key key columns before after)) (map column_name columns) c.name rest

pub told_part : (s : SubscribedTable) (before after : List Cell) → Part (map (λ u. u.0) (columns_told s before after)) (map column_name s.columns)
told_part s before after = of (differing s.columns before after) (differing_part s.columns before after) where
  of : (updates : List (List ℕ × Cell × Cell)) → Part (map (λ u. u.0) updates) (map column_name s.columns) → Part (map (λ u. u.0) (listed_in s before after updates)) (map column_name s.columns)
  of [] rest = tt
  of (u ∷ updates) rest = elim s.verifies as (λ (b : Bool). Part (map (λ x. x.0) (cond b (outside_key (key_names s.table) s.columns before after) (u ∷ updates))) (map column_name s.columns)) [
    | true ↦ outside_part (key_names s.table) s.columns before after
    | false ↦ rest
  ]

pub zip_part : (names : List (List ℕ)) (row : List Cell) → Part (map (λ p. p.0) (zip names row)) names
zip_part [] row = tt
zip_part (n ∷ names) [] = tt
zip_part (n ∷ names) (v ∷ row) = keep (map (λ p. p.0) (zip names row)) names n (zip_part names row)
