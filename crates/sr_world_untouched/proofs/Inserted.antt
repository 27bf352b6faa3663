-- What a view shows is inserted below as it stands.
use Rattle.std.proofs.Common.{◌≡◌, ℕ, zero, suc, Bool, true, false, cond, not, ◌&&◌, ◌||◌, map, List, [], ◌∷◌, Option, Some, None, IsTrue, bytes_eq, refl, sym, ap, ap₂, subst, ◌∙◌}
use Rattle.std.specs.Prelude.{unwrap_or, slice_get, zip}
use Rattle.std.specs.List.{AllByRecursion}
use Rattle.sr_base.specs.declared.value.Value.{Value as Cell}
use Rattle.sr_base.specs.declared.value.Value.TheVariants.{Null, Int, Big, Str, Date}
use Rattle.sr_base_dates.specs.Fitting.{fitted}
use Rattle.sr_exec_where.proofs.Fixed.{same_name, bytes_itself}
use Rattle.sr_eval.specs.Comparisons.{is_null}
use Rattle.sr_resolve_triggers.specs.Actions.{in_front}
use Rattle.sr_exec_fits.specs.Rows.{IsRow}
use Rattle.sr_exec_fits.proofs.Rows.{row_parts}
use Rattle.sr_logform.specs.Rules.{AreDistinct, is_present}
use Rattle.sr_exec_where.specs.Keys.{key_of}
use Rattle.sr_publish.specs.Inner.Laws.{HasKey}
use Rattle.sr_resolve.specs.Named.{filled, filled_row, fitted_key, has_null}
use Rattle.sr_catalog_schema.specs.Firsts.{has}
use Rattle.sr_scan.specs.Ops.{present_columns}
use Rattle.sr_catalog_schema.specs.Members.{column_name, key_names}
use Rattle.sr_catalog_schema.specs.Names.{named, taken}
use Rattle.sr_catalog_schema.specs.declared.table.Column.{Column}
use Rattle.sr_catalog_schema.specs.declared.table.Table.{Table}
use Rattle.sr_world_untouched.specs.Agreeing.{cell_in, HasShown, Suits, HasColumns}
use Rattle.sr_world_untouched.specs.Inner.Agreeing.{held_in}
use Rattle.sr_world_untouched.proofs.Keyed.{key_fitted, key_is, places_there}

-- ---- names

abbrev Pair : Type 0
Pair = List ℕ × Cell

pub names_apart : (m n : List ℕ) (b : Bool) → bytes_eq m n ≡ b → ¬ (m ≡ n) → b ≡ false
names_apart m n true e apart = absurd (apart (same_name m n e))
names_apart m n false e apart = refl

-- ---- the value of a column among those that are present

abbrev pub held : List Column → List Cell → List ℕ → Cell
held columns shown n = held_in columns shown n

module _ (n : List ℕ) where
  abbrev found : List Pair → Option Pair
  found pairs = named (λ (p : Pair). p.0) n pairs

  none_named : (columns : List Column) (shown : List Cell) → AllByRecursion (λ other. ¬ (n ≡ other)) (map column_name columns) → found (present_columns columns shown) ≡ None
  none_named [] shown apart = refl
  none_named (a ∷ columns) [] apart = refl
  none_named (a ∷ columns) (v ∷ shown) apart = go (none_named columns shown apart.1) (is_present v)
    where
      go : found (present_columns columns shown) ≡ None → (p : Bool) → found (cond p ((a.name, v) ∷ present_columns columns shown) (present_columns columns shown)) ≡ None
      go rest true = ap (λ (b : Bool). cond b (Some (a.name, v)) (found (present_columns columns shown))) (names_apart n a.name (bytes_eq n a.name) refl apart.0) ∙ rest
      go rest false = rest

absent_is : (v : Cell) → is_present v ≡ false → v ≡ Null
absent_is Null e = refl
absent_is (Int x) e = cc
absent_is (Big x) e = cc
absent_is (Str x) e = cc
absent_is (Date x) e = cc

-- what is filled into a column that suits
module _ (c : Column) where
  abbrev Fills : List Column → List Cell → Type 0
  Fills columns shown = filled c (found c.name (present_columns columns shown)) ≡ Some (held columns shown c.name)

  fills : (columns : List Column) (shown : List Cell) → AreDistinct (map column_name columns) → IsRow columns shown → Suits c (named column_name c.name columns) → Fills columns shown
  fills [] shown distinct fits suits = refl
  fills (a ∷ columns) [] distinct fits suits = cc
  fills (a ∷ columns) (v ∷ shown) distinct fits suits =
      go (λ s. fills columns shown distinct.1 (row_parts a columns v shown fits).2 s) (bytes_eq c.name a.name) refl suits (is_present v) refl
    where
      parts : (fitted v a.kind ≡ Some v) × IsTrue (not (a.not_null && is_null v)) × IsRow columns shown
      parts = row_parts a columns v shown fits

      later : AllByRecursion (λ other. ¬ (a.name ≡ other)) (map column_name columns)
      later = distinct.0

      go : (Suits c (named column_name c.name columns) → Fills columns shown) → (b : Bool) → bytes_eq c.name a.name ≡ b → Suits c (cond b (Some a) (named column_name c.name columns)) → (p : Bool) → is_present v ≡ p
          → filled c (found c.name (cond p ((a.name, v) ∷ present_columns columns shown) (present_columns columns shown)))
          ≡ Some (unwrap_or (cond b (Some v) (cell_in columns shown c.name)) Null)
      go rest true e s true there =
          ap (λ (b : Bool). filled c (cond b (Some (a.name, v)) (found c.name (present_columns columns shown)))) e
          ∙ ap (fitted v) s.0 ∙ parts.0
      go rest true e s false gone =
          let same : a.name ≡ c.name = sym (same_name c.name a.name e) in
          let none : found c.name (present_columns columns shown) ≡ None
          = none_named c.name columns shown (subst (λ (m : List ℕ). AllByRecursion (λ other. ¬ (m ≡ other)) (map column_name columns)) same later) in
          ap (filled c) none ∙ ap (λ (x : Cell). Some x) (sym (absent_is v gone))
      go rest false e s true there =
          ap (λ (b : Bool). filled c (cond b (Some (a.name, v)) (found c.name (present_columns columns shown)))) e ∙ rest s
      go rest false e s false gone = rest s

-- it is no NULL where none may be
module _ (c : Column) where
  not_and : (a b : Bool) → IsTrue (not (a && b)) → a ≡ true → b ≡ false
  not_and true true h e = absurd (cc h)
  not_and true false h e = refl
  not_and false b h e = cc

  pub stands_so : (n : Bool) (a : Column) (v : Cell) → c.not_null ≡ n → (c.not_null ≡ true → a.not_null ≡ true) → IsTrue (not (a.not_null && is_null v)) → (n && is_null v) ≡ false
  stands_so false a v e s h = refl
  stands_so true a v e s h = not_and a.not_null (is_null v) h (s e)

  pub allowed : (columns : List Column) (shown : List Cell) → IsRow columns shown → Suits c (named column_name c.name columns) → (c.not_null && is_null (held columns shown c.name)) ≡ false
  allowed [] shown fits suits = ap (λ (b : Bool). b && true) suits
  allowed (a ∷ columns) [] fits suits = cc
  allowed (a ∷ columns) (v ∷ shown) fits suits =
      go (λ s. allowed columns shown (row_parts a columns v shown fits).2 s) (bytes_eq c.name a.name) suits
    where
      go : (Suits c (named column_name c.name columns) → (c.not_null && is_null (held columns shown c.name)) ≡ false) → (b : Bool)
          → Suits c (cond b (Some a) (named column_name c.name columns)) → (c.not_null && is_null (unwrap_or (cond b (Some v) (cell_in columns shown c.name)) Null)) ≡ false
      go rest true s = stands_so c.not_null a v refl s.1 (row_parts a columns v shown fits).1
      go rest false s = rest s

  -- and it fits
  pub kept : (columns : List Column) (shown : List Cell) → IsRow columns shown → Suits c (named column_name c.name columns) → fitted (held columns shown c.name) c.kind ≡ Some (held columns shown c.name)
  kept [] shown fits suits = refl
  kept (a ∷ columns) [] fits suits = cc
  kept (a ∷ columns) (v ∷ shown) fits suits =
      go (λ s. kept columns shown (row_parts a columns v shown fits).2 s) (bytes_eq c.name a.name) suits
    where
      go : (Suits c (named column_name c.name columns) → fitted (held columns shown c.name) c.kind ≡ Some (held columns shown c.name)) → (b : Bool)
          → Suits c (cond b (Some a) (named column_name c.name columns))
          → fitted (unwrap_or (cond b (Some v) (cell_in columns shown c.name)) Null) c.kind ≡ Some (unwrap_or (cond b (Some v) (cell_in columns shown c.name)) Null)
      go rest true s = ap (fitted v) s.0 ∙ (row_parts a columns v shown fits).0
      go rest false s = rest s

-- ---- the row

abbrev pub row_of : List Column → List Cell → List Column → List Cell
row_of columns shown below = map (λ (c : Column). held columns shown c.name) below

pub filled_is : (columns : List Column) (shown : List Cell) (below : List Column) → AreDistinct (map column_name columns) → IsRow columns shown
    → AllByRecursion (λ c. Suits c (named column_name c.name columns)) below → filled_row (present_columns columns shown) below ≡ Some (row_of columns shown below)
filled_is columns shown [] distinct fits suits = refl
filled_is columns shown (c ∷ below) distinct fits suits =
    ap₂ (λ (x : Option Cell) (y : Option (List Cell)). in_front x y) (fills c columns shown distinct fits suits.0) (filled_is columns shown below distinct fits suits.1)

-- it has no NULL where none may be
pub none_null : (columns : List Column) (shown : List Cell) (below : List Column) → IsRow columns shown → AllByRecursion (λ c. Suits c (named column_name c.name columns)) below
    → has_null below (row_of columns shown below) ≡ false
none_null columns shown [] fits suits = refl
none_null columns shown (c ∷ below) fits suits =
    ap₂ (λ (x y : Bool). x || y) (allowed c columns shown fits suits.0) (none_null columns shown below fits suits.1)

-- its value at a column that it has
pub at_column : (columns : List Column) (shown : List Cell) (below : List Column) (n : List ℕ) → taken column_name n below ≡ true
    → cell_in below (row_of columns shown below) n ≡ Some (held columns shown n)
at_column columns shown [] n has = cc
at_column columns shown (c ∷ below) n has = go (λ h. at_column columns shown below n h) (bytes_eq n c.name) refl has
  where
    go : (taken column_name n below ≡ true → cell_in below (row_of columns shown below) n ≡ Some (held columns shown n)) → (b : Bool) → bytes_eq n c.name ≡ b → (b || taken column_name n below) ≡ true
        → cond b (Some (held columns shown c.name)) (cell_in below (row_of columns shown below) n) ≡ Some (held columns shown n)
    go rest true e h = ap (λ (m : List ℕ). Some (held columns shown m)) (sym (same_name n c.name e))
    go rest false e h = rest h

-- what is shown under a name is what stands beside it, as no name stands twice
module _ (columns : List Column) (shown : List Cell) (below : List Column) where
  abbrev row : List Cell
  row = row_of columns shown below

  -- these columns are a part of all, with their values
  abbrev pub IsPart : List Column → List Cell → Type 0
  IsPart [] vs = Unit {0}
  IsPart (c ∷ cs) [] = Unit {0}
  IsPart (c ∷ cs) (v ∷ vs) = (cell_in columns shown c.name ≡ Some v) × IsPart cs vs

  shows : (cs : List Column) (vs : List Cell) → IsRow cs vs → IsPart cs vs → AllByRecursion (λ a. taken column_name a.name below ≡ true) cs → HasShown below cs vs row
  shows [] [] fits part has = tt
  shows [] (v ∷ vs) fits part has = cc
  shows (c ∷ cs) [] fits part has = cc
  shows (c ∷ cs) (v ∷ vs) fits part has =
      (at_column columns shown below c.name has.0 ∙ ap (λ (o : Option Cell). Some (unwrap_or o Null)) part.0, shows cs vs (row_parts c cs v vs fits).2 part.1 has.1)

-- each column's value is found under its name
later_part : (a : Column) (v : Cell) (columns : List Column) (shown : List Cell) (cs : List Column) (vs : List Cell) → AllByRecursion (λ other. ¬ (a.name ≡ other)) (map column_name cs)
    → IsPart columns shown [] cs vs → IsPart (a ∷ columns) (v ∷ shown) [] cs vs
later_part a v columns shown [] vs apart part = tt
later_part a v columns shown (c ∷ cs) [] apart part = tt
later_part a v columns shown (c ∷ cs) (w ∷ vs) apart part = (
  ap (λ (b : Bool). cond b (Some v) (cell_in columns shown c.name)) (names_apart c.name a.name (bytes_eq c.name a.name) refl (λ e. apart.0 (sym e))) ∙ part.0,
  later_part a v columns shown cs vs apart.1 part.1,
)

pub own_part : (columns : List Column) (shown : List Cell) → AreDistinct (map column_name columns) → IsPart columns shown [] columns shown
own_part [] shown distinct = tt
own_part (a ∷ columns) [] distinct = tt
own_part (a ∷ columns) (v ∷ shown) distinct =
    (ap (λ (b : Bool). cond b (Some v) (cell_in columns shown a.name)) (bytes_itself a.name), later_part a v columns shown columns shown distinct.0 (own_part columns shown distinct.1))

pub inserted : (columns : List Column) (t : Table) (shown : List Cell) → AreDistinct (map column_name columns) → HasColumns columns t → IsRow columns shown
    → (row : List Cell) × (filled_row (present_columns columns shown) t.columns ≡ Some row) × HasShown t.columns columns shown row
    × (has_null t.columns row ≡ false) × (HasKey t → key_of t.key row ≡ map (held_in columns shown) (key_names t))
inserted columns t shown distinct h fits = (
  row_of columns shown t.columns,
  filled_is columns shown t.columns distinct fits h.suits,
  shows columns shown t.columns columns shown fits (own_part columns shown distinct) h.has,
  none_null columns shown t.columns fits h.suits,
  λ key. key_is t.columns (held_in columns shown) t.key (places_there t key.same),
)

pub has_itself : (names all : List (List ℕ)) → ((n : List ℕ) → has names n ≡ true → has all n ≡ true) → AllByRecursion (λ n. has all n ≡ true) names
has_itself [] all f = tt
has_itself (n ∷ names) all f =
    (f n (ap (λ (b : Bool). b || has names n) (bytes_itself n)), has_itself names all (λ m h. f m (or_later (bytes_eq m n) (has names m) h)))
  where
    or_later : (a b : Bool) → b ≡ true → (a || b) ≡ true
    or_later true b h = refl
    or_later false b h = h

fits_at : (columns : List Column) (shown : List Cell) (below : List Column) → IsRow columns shown → AllByRecursion (λ c. Suits c (named column_name c.name columns)) below → (c : Column) (p : ℕ)
    → slice_get below p ≡ Some c → fitted (held_in columns shown c.name) c.kind ≡ Some (held_in columns shown c.name)
fits_at columns shown [] fits suits c p e = cc
fits_at columns shown (b ∷ below) fits suits c zero e =
    let same : b ≡ c = cc in subst (λ (x : Column). fitted (held_in columns shown x.name) x.kind ≡ Some (held_in columns shown x.name)) same (kept b columns shown fits suits.0)
fits_at columns shown (b ∷ below) fits suits c (suc p) e = fits_at columns shown below fits suits.1 c p e

pub key_goes : (columns : List Column) (t : Table) (shown : List Cell) → HasColumns columns t → IsRow columns shown → HasKey t
    → fitted_key t (zip (key_names t) (map (held_in columns shown) (key_names t))) ≡ Some (map (held_in columns shown) (key_names t))
key_goes columns t shown h fits key =
    key_fitted t.columns (held_in columns shown) t (key_names t) (fits_at columns shown t.columns fits h.suits) refl t.key (places_there t key.same)
    (has_itself (key_names t) (key_names t) (λ n there. there))
