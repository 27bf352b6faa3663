-- The key that an op names, in a table below.
use Rattle.std.proofs.Common.{◌≡◌, ℕ, suc, Bool, true, false, cond, ◌||◌, map, length, List, [], ◌∷◌, Option, Some, None, bytes_eq, slice_get, refl, sym, ap, ap₂, subst, ◌∙◌, arith, ◌≤◌}
use Rattle.std.specs.Prelude.{unwrap_or, zip, filter_map}
use Rattle.std.specs.List.{AllByRecursion, cons_option}
use Rattle.std.specs.Option.{option_map, is_some}
use Rattle.std.proofs.lemmas.Option.{slice_get-map}
use Rattle.sr_base.specs.declared.value.Value.{Value as Cell}
use Rattle.sr_base.specs.declared.value.Value.TheVariants.{Null}
use Rattle.sr_base_dates.specs.Fitting.{fitted}
use Rattle.sr_exec_where.proofs.Fixed.{same_name, bytes_itself}
use Rattle.sr_exec_where.specs.Keys.{key_of}
use Rattle.sr_resolve_triggers.specs.Actions.{in_front}
use Rattle.sr_database_history.specs.Fitting.{fitted_in}
use Rattle.sr_resolve.specs.Named.{fitted_at}
use Rattle.sr_catalog_schema.specs.Firsts.{has}
use Rattle.sr_catalog_schema.specs.Members.{column_name, key_names}
use Rattle.sr_catalog_schema.specs.declared.table.Column.{Column}
use Rattle.sr_catalog_schema.specs.declared.table.Table.{Table}

-- ---- places that are there

abbrev IsThere : List Column → ℕ → Type 0
IsThere columns place = is_some (slice_get columns place) ≡ true

few_kept : {A B : Type 0} (f : A → Option B) (xs : List A) → length (filter_map f xs) ≤ length xs
few_kept f [] = omega arith
few_kept {A} {B} f (x ∷ xs) = go (f x) (few_kept f xs)
  where
    go : (o : Option B) → length (filter_map f xs) ≤ length xs → length (cons_option o (filter_map f xs)) ≤ suc (length xs)
    go None rest = omega (arith, rest)
    go (Some y) rest = omega (arith, rest)

-- where a list is as long as what something gives of it, it gives something of each
all_kept : {A B : Type 0} (f : A → Option B) (xs : List A) → length (filter_map f xs) ≡ length xs → AllByRecursion (λ x. is_some (f x) ≡ true) xs
all_kept f [] e = tt
all_kept {A} {B} f (x ∷ xs) e = go (f x) refl e (λ h. all_kept f xs h)
  where
    go : (o : Option B) → f x ≡ o → length (cons_option o (filter_map f xs)) ≡ suc (length xs)
        → (length (filter_map f xs) ≡ length xs → AllByRecursion (λ x. is_some (f x) ≡ true) xs) → (is_some (f x) ≡ true) × AllByRecursion (λ x. is_some (f x) ≡ true) xs
    go None is h rest = absurd (omega (arith, h, few_kept f xs))
    go (Some y) is h rest = (ap is_some is, rest (omega (arith, h)))

named_there : (o : Option Column) → is_some (option_map column_name o) ≡ true → is_some o ≡ true
named_there None e = e
named_there (Some c) e = refl

pub places_there : (t : Table) → length (key_names t) ≡ length t.key → AllByRecursion (IsThere t.columns) t.key
places_there t same = each t.key (all_kept (λ i. option_map column_name (slice_get t.columns i)) t.key same)
  where
    each : (places : List ℕ) → AllByRecursion (λ i. is_some (option_map column_name (slice_get t.columns i)) ≡ true) places → AllByRecursion (IsThere t.columns) places
    each [] all = tt
    each (p ∷ places) all = (named_there (slice_get t.columns p) all.0, each places all.1)

-- ---- values by name

module _ (columns : List Column) (g : List ℕ → Cell) where
  abbrev names_at : List ℕ → List (List ℕ)
  names_at places = filter_map (λ i. option_map column_name (slice_get columns i)) places

  -- the key of a row that has the value of each name
  pub key_is : (places : List ℕ) → AllByRecursion (IsThere columns) places → key_of places (map (λ (c : Column). g c.name) columns) ≡ map g (names_at places)
  key_is [] there = refl
  key_is (p ∷ places) there = go (slice_get columns p) refl there.0 (key_is places there.1)
    where
      go : (o : Option Column) → slice_get columns p ≡ o → is_some (slice_get columns p) ≡ true → key_of places (map (λ (c : Column). g c.name) columns) ≡ map g (names_at places)
          → key_of (p ∷ places) (map (λ (c : Column). g c.name) columns) ≡ map g (cons_option (option_map column_name o) (names_at places))
      go None e h rest = let none : is_some (slice_get columns p) ≡ false = ap is_some e in cc
      go (Some c) e h rest =
          ap₂ (λ (v : Cell) (vs : List Cell). v ∷ vs)
          (ap (λ (o : Option Cell). unwrap_or o Null) (slice_get-map (λ (c : Column). g c.name) columns p ∙ ap (option_map (λ (c : Column). g c.name)) e)) rest

  -- the value that is named for a column, where its name is among these
  one_named : (names : List (List ℕ)) (c : Column) → has names c.name ≡ true → fitted_in (zip names (map g names)) (Some c) ≡ fitted (g c.name) c.kind
  one_named [] c h = cc
  one_named (n ∷ names) c h = go (λ h. one_named names c h) (bytes_eq c.name n) refl h
    where
      go : (has names c.name ≡ true → fitted_in (zip names (map g names)) (Some c) ≡ fitted (g c.name) c.kind) → (b : Bool) → bytes_eq c.name n ≡ b → (b || has names c.name) ≡ true
          → fitted_in ((n, g n) ∷ zip names (map g names)) (Some c) ≡ fitted (g c.name) c.kind
      go rest true e h =
          let same : c.name ≡ n = same_name c.name n e in
          let there : bytes_eq n c.name ≡ true = subst (λ (m : List ℕ). bytes_eq m c.name ≡ true) same (bytes_itself c.name) in
          ap (λ (b : Bool). cond b (fitted (g n) c.kind) (fitted_in (zip names (map g names)) (Some c))) there ∙ ap (λ (m : List ℕ). fitted (g m) c.kind) (sym same)
      go rest false e h = behind (bytes_eq n c.name) refl
        where
          behind : (b : Bool) → bytes_eq n c.name ≡ b → cond b (fitted (g n) c.kind) (fitted_in (zip names (map g names)) (Some c)) ≡ fitted (g c.name) c.kind
          behind true k = ap (λ (m : List ℕ). fitted (g m) c.kind) (same_name n c.name k)
          behind false k = rest h

  -- the fitted key
  module _ (t : Table) (all : List (List ℕ)) (fits : (c : Column) → (p : ℕ) → slice_get columns p ≡ Some c → fitted (g c.name) c.kind ≡ Some (g c.name)) (is : t.columns ≡ columns) where
    pub key_fitted : (places : List ℕ) → AllByRecursion (IsThere columns) places → AllByRecursion (λ n. has all n ≡ true) (names_at places)
        → fitted_at t (zip all (map g all)) places ≡ Some (map g (names_at places))
    key_fitted [] there among = refl
    key_fitted (p ∷ places) there among = go (slice_get columns p) refl there.0 among (λ h. key_fitted places there.1 h)
      where
        go : (o : Option Column) → slice_get columns p ≡ o → is_some (slice_get columns p) ≡ true → AllByRecursion (λ n. has all n ≡ true) (cons_option (option_map column_name o) (names_at places))
            → (AllByRecursion (λ n. has all n ≡ true) (names_at places) → fitted_at t (zip all (map g all)) places ≡ Some (map g (names_at places)))
            → fitted_at t (zip all (map g all)) (p ∷ places) ≡ Some (map g (cons_option (option_map column_name o) (names_at places)))
        go None e h among rest = let none : is_some (slice_get columns p) ≡ false = ap is_some e in cc
        go (Some c) e h among rest =
            ap₂ (λ (x : Option Cell) (y : Option (List Cell)). in_front x y)
            (ap (fitted_in (zip all (map g all))) (ap (λ (cs : List Column). slice_get cs p) is ∙ e) ∙ one_named all c among.0 ∙ fits c p e) (rest among.1)
