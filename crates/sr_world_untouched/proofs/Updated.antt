-- What a view shows of a row that was updated is put in its place below.
use Rattle.std.proofs.Common.{◌≡◌, ℕ, Bool, true, false, cond, ◌&&◌, ◌||◌, map, List, [], ◌∷◌, Option, Some, None, bytes_eq, refl, sym, ap, ap₂, subst, ◌∙◌}
use Rattle.std.specs.Prelude.{unwrap_or}
use Rattle.std.specs.List.{AllByRecursion}
use Rattle.std.specs.Option.{option_map}
use Rattle.std.specs.Ordering.{eq_by_cmp}
use Rattle.sr_base.specs.Order.{value_cmp}
use Rattle.sr_base.specs.declared.value.Value.{Value as Cell}
use Rattle.sr_base_dates.specs.Fitting.{fitted}
use Rattle.sr_exec_where.proofs.Fixed.{same_name, bytes_itself}
use Rattle.sr_resolve_triggers.specs.Actions.{in_front}
use Rattle.sr_exec_fits.specs.Rows.{IsRow}
use Rattle.sr_exec_fits.proofs.Rows.{row_parts, same_value}
use Rattle.sr_logform.specs.Rules.{AreDistinct}
use Rattle.sr_resolve.specs.Named.{Updates, is_new_null, new_value, new_values, sets_null, with_news}
use Rattle.sr_scan.specs.Ops.{differing, outside_key}
use Rattle.sr_catalog_schema.specs.Firsts.{has}
use Rattle.sr_catalog_schema.specs.Members.{column_name}
use Rattle.sr_catalog_schema.specs.Names.{named}
use Rattle.sr_catalog_schema.specs.declared.table.Column.{Column}
use Rattle.sr_catalog_schema.specs.declared.table.Table.{Table}
use Rattle.sr_world_untouched.specs.Agreeing.{cell_in, HasColumns, HasShown, Suits}
use Rattle.sr_world_untouched.specs.Inner.Agreeing.{UpdatesToShown}
use Rattle.sr_world_untouched.proofs.Inserted.{names_apart, stands_so}

-- which columns of two rows an update leaves out
abbrev pub Skips : Type 0
Skips = Column → Cell → Cell → Bool

-- the others, each with its value before and after
abbrev pub listed_by : Skips → List Column → List Cell → List Cell → Updates
listed_by skips [] before after = []
listed_by skips (c ∷ columns) [] after = []
listed_by skips (c ∷ columns) (v ∷ before) [] = []
listed_by skips (c ∷ columns) (v ∷ before) (w ∷ after) = cond (skips c v w) (listed_by skips columns before after) ((c.name, v, w) ∷ listed_by skips columns before after)

-- what is left out is the same in both
abbrev pub SkipsSame : Skips → List Column → List Cell → List Cell → Type 0
SkipsSame skips [] before after = Unit {0}
SkipsSame skips (c ∷ columns) [] after = Unit {0}
SkipsSame skips (c ∷ columns) (v ∷ before) [] = Unit {0}
SkipsSame skips (c ∷ columns) (v ∷ before) (w ∷ after) = (skips c v w ≡ true → v ≡ w) × SkipsSame skips columns before after

-- an update of what differs leaves out what is equal
abbrev pub equal_ones : Skips
equal_ones c v w = eq_by_cmp value_cmp v w

pub differing_listed : (columns : List Column) (before after : List Cell) → differing columns before after ≡ listed_by equal_ones columns before after
differing_listed [] before after = refl
differing_listed (c ∷ columns) [] after = refl
differing_listed (c ∷ columns) (v ∷ before) [] = refl
differing_listed (c ∷ columns) (v ∷ before) (w ∷ after) = ap (λ (us : Updates). cond (eq_by_cmp value_cmp v w) us ((c.name, v, w) ∷ us)) (differing_listed columns before after)

pub equal_same : (columns : List Column) (before after : List Cell) → SkipsSame equal_ones columns before after
equal_same [] before after = tt
equal_same (c ∷ columns) [] after = tt
equal_same (c ∷ columns) (v ∷ before) [] = tt
equal_same (c ∷ columns) (v ∷ before) (w ∷ after) = ((λ e. same_value v w e), equal_same columns before after)

-- an update of all columns leaves out those of the key
abbrev pub key_ones : List (List ℕ) → Skips
key_ones key c v w = has key c.name

pub outside_listed : (key : List (List ℕ)) (columns : List Column) (before after : List Cell) → outside_key key columns before after ≡ listed_by (key_ones key) columns before after
outside_listed key [] before after = refl
outside_listed key (c ∷ columns) [] after = refl
outside_listed key (c ∷ columns) (v ∷ before) [] = refl
outside_listed key (c ∷ columns) (v ∷ before) (w ∷ after) = ap (λ (us : Updates). cond (has key c.name) us ((c.name, v, w) ∷ us)) (outside_listed key columns before after)

-- where nothing is listed they are one
pub same_listed : (skips : Skips) (columns : List Column) (before after : List Cell) → IsRow columns before → IsRow columns after → SkipsSame skips columns before after → listed_by skips columns before after ≡ [] → before ≡ after
same_listed skips [] [] [] f g same e = refl
same_listed skips [] [] (w ∷ after) f g same e = cc
same_listed skips [] (v ∷ before) after f g same e = cc
same_listed skips (c ∷ columns) [] after f g same e = cc
same_listed skips (c ∷ columns) (v ∷ before) [] f g same e = cc
same_listed skips (c ∷ columns) (v ∷ before) (w ∷ after) f g same e =
    go (skips c v w) same.0 e (λ k. same_listed skips columns before after (row_parts c columns v before f).2 (row_parts c columns w after g).2 same.1 k)
  where
    go : (b : Bool) → (b ≡ true → v ≡ w) → cond b (listed_by skips columns before after) ((c.name, v, w) ∷ listed_by skips columns before after) ≡ [] → (listed_by skips columns before after ≡ [] → before ≡ after)
        → v ∷ before ≡ w ∷ after
    go true is k rest = ap₂ (λ (x : Cell) (xs : List Cell). x ∷ xs) (is refl) (rest k)
    go false is k rest = cc

-- the new value of a column, where it is listed
abbrev pub change_at : Skips → List Column → List Cell → List Cell → List ℕ → Option Cell
change_at skips [] before after n = None
change_at skips (a ∷ columns) [] after n = None
change_at skips (a ∷ columns) (v ∷ before) [] n = None
change_at skips (a ∷ columns) (v ∷ before) (w ∷ after) n = cond (bytes_eq n a.name) (cond (skips a v w) None (Some w)) (change_at skips columns before after n)

-- ---- the values that an update names

abbrev Update : Type 0
Update = List ℕ × Cell × Cell

abbrev named_in : List ℕ → Updates → Option Update
named_in n updates = named (λ (u : Update). u.0) n updates

put_at : (ch : List ℕ → Option Cell) (below : List Column) (row : List Cell) (n : List ℕ) (old : Cell) → cell_in below row n ≡ Some old
    → cell_in below (with_news (map (λ (c : Column). ch c.name) below) row) n ≡ Some (unwrap_or (ch n) old)
put_at ch [] row n old e = cc
put_at ch (c ∷ below) [] n old e = cc
put_at ch (c ∷ below) (v ∷ row) n old e = go (λ h. put_at ch below row n old h) (bytes_eq n c.name) refl e
  where
    go : (cell_in below row n ≡ Some old → cell_in below (with_news (map (λ (c : Column). ch c.name) below) row) n ≡ Some (unwrap_or (ch n) old)) → (b : Bool) → bytes_eq n c.name ≡ b
        → cond b (Some v) (cell_in below row n) ≡ Some old
        → cond b (Some (unwrap_or (ch c.name) v)) (cell_in below (with_news (map (λ (c : Column). ch c.name) below) row) n) ≡ Some (unwrap_or (ch n) old)
    go rest true is h =
        let same : v ≡ old = cc in
        ap₂ (λ (m : List ℕ) (x : Cell). Some (unwrap_or (ch m) x)) (sym (same_name n c.name is)) same
    go rest false is h = rest h

module _ (skips : Skips) where
  module _ (n : List ℕ) where
    none_named : (columns : List Column) (before after : List Cell) → AllByRecursion (λ other. ¬ (n ≡ other)) (map column_name columns) → named_in n (listed_by skips columns before after) ≡ None
    none_named [] before after apart = refl
    none_named (a ∷ columns) [] after apart = refl
    none_named (a ∷ columns) (v ∷ before) [] apart = refl
    none_named (a ∷ columns) (v ∷ before) (w ∷ after) apart = go (none_named columns before after apart.1) (skips a v w)
      where
        go : named_in n (listed_by skips columns before after) ≡ None → (b : Bool) → named_in n (cond b (listed_by skips columns before after) ((a.name, v, w) ∷ listed_by skips columns before after)) ≡ None
        go rest true = rest
        go rest false = ap (λ (b : Bool). cond b (Some (a.name, v, w)) (named_in n (listed_by skips columns before after))) (names_apart n a.name (bytes_eq n a.name) refl apart.0) ∙ rest

  module _ (c : Column) where
    abbrev News : List Column → List Cell → List Cell → Type 0
    News columns before after = new_value true c (named_in c.name (listed_by skips columns before after)) ≡ Some (change_at skips columns before after c.name)

    news : (columns : List Column) (before after : List Cell) → AreDistinct (map column_name columns) → IsRow columns after → Suits c (named column_name c.name columns) → News columns before after
    news [] before after distinct fits suits = refl
    news (a ∷ columns) [] after distinct fits suits = refl
    news (a ∷ columns) (v ∷ before) [] distinct fits suits = refl
    news (a ∷ columns) (v ∷ before) (w ∷ after) distinct fits suits =
        go (λ s. news columns before after distinct.1 (row_parts a columns w after fits).2 s) (bytes_eq c.name a.name) refl suits (skips a v w)
      where
        rest_of : List Update
        rest_of = listed_by skips columns before after

        go : (Suits c (named column_name c.name columns) → News columns before after) → (b : Bool) → bytes_eq c.name a.name ≡ b → Suits c (cond b (Some a) (named column_name c.name columns)) → (e : Bool)
            → new_value true c (named_in c.name (cond e (listed_by skips columns before after) ((a.name, v, w) ∷ listed_by skips columns before after)))
            ≡ Some (cond b (cond e None (Some w)) (change_at skips columns before after c.name))
        go rest true is s true =
            let same : a.name ≡ c.name = sym (same_name c.name a.name is) in
            ap (new_value true c) (none_named c.name columns before after (subst (λ (m : List ℕ). AllByRecursion (λ other. ¬ (m ≡ other)) (map column_name columns)) same distinct.0))
        go rest true is s false =
            ap (λ (b : Bool). new_value true c (cond b (Some (a.name, v, w)) (named_in c.name (listed_by skips columns before after)))) is
            ∙ ap (option_map (λ (x : Cell). Some x)) (ap (fitted w) s.0 ∙ (row_parts a columns w after fits).0)
        go rest false is s true = rest s
        go rest false is s false =
            ap (λ (b : Bool). new_value true c (cond b (Some (a.name, v, w)) (named_in c.name (listed_by skips columns before after)))) is ∙ rest s

    -- none of them is NULL where none may be
    new_allowed : (columns : List Column) (before after : List Cell) → IsRow columns after → Suits c (named column_name c.name columns)
        → (c.not_null && is_new_null (change_at skips columns before after c.name)) ≡ false
    new_allowed [] before after fits suits = ap (λ (b : Bool). b && false) suits
    new_allowed (a ∷ columns) [] after fits suits = nothing c.not_null
      where
        nothing : (b : Bool) → (b && false) ≡ false
        nothing true = refl
        nothing false = refl
    new_allowed (a ∷ columns) (v ∷ before) [] fits suits = cc
    new_allowed (a ∷ columns) (v ∷ before) (w ∷ after) fits suits =
        go (λ s. new_allowed columns before after (row_parts a columns w after fits).2 s) (bytes_eq c.name a.name) suits (skips a v w)
      where
        nothing : (b : Bool) → (b && false) ≡ false
        nothing true = refl
        nothing false = refl

        go : (Suits c (named column_name c.name columns) → (c.not_null && is_new_null (change_at skips columns before after c.name)) ≡ false) → (b : Bool)
            → Suits c (cond b (Some a) (named column_name c.name columns)) → (e : Bool) → (c.not_null && is_new_null (cond b (cond e None (Some w)) (change_at skips columns before after c.name))) ≡ false
        go rest true s true = nothing c.not_null
        go rest true s false = stands_so c c.not_null a w refl s.1 (row_parts a columns w after fits).1
        go rest false s e = rest s

  -- ---- all columns below

  module _ (columns : List Column) (before after : List Cell) (distinct : AreDistinct (map column_name columns)) (fits : IsRow columns after) where
    abbrev pub all_news : List Column → List (Option Cell)
    all_news below = map (λ (c : Column). change_at skips columns before after c.name) below

    pub news_are : (below : List Column) → AllByRecursion (λ c. Suits c (named column_name c.name columns)) below → new_values true (listed_by skips columns before after) below ≡ Some (all_news below)
    news_are [] suits = refl
    news_are (c ∷ below) suits =
        ap₂ (λ (x : Option (Option Cell)) (y : Option (List (Option Cell))). in_front x y) (news c columns before after distinct fits suits.0) (news_are below suits.1)

    pub none_null : (below : List Column) → AllByRecursion (λ c. Suits c (named column_name c.name columns)) below → sets_null below (all_news below) ≡ false
    none_null [] suits = refl
    none_null (c ∷ below) suits = ap₂ (λ (x y : Bool). x || y) (new_allowed c columns before after fits suits.0) (none_null below suits.1)

  -- ---- the row with the new values

  module _ (ch : List ℕ → Option Cell) (below : List Column) (row : List Cell) where
    -- these columns are a part of all, with what changes of each
    abbrev IsPart : List Column → List Cell → List Cell → Type 0
    IsPart [] vs ws = Unit {0}
    IsPart (c ∷ cs) [] ws = Unit {0}
    IsPart (c ∷ cs) (v ∷ vs) [] = Unit {0}
    IsPart (c ∷ cs) (v ∷ vs) (w ∷ ws) = (ch c.name ≡ cond (skips c v w) None (Some w)) × IsPart cs vs ws

    value_is : (v w : Cell) (e : Bool) → (e ≡ true → v ≡ w) → unwrap_or (cond e None (Some w)) v ≡ w
    value_is v w true same = same refl
    value_is v w false same = refl

    shows : (cs : List Column) (vs ws : List Cell) → IsPart cs vs ws → SkipsSame skips cs vs ws → HasShown below cs vs row → IsRow cs ws → HasShown below cs ws (with_news (map (λ (c : Column). ch c.name) below) row)
    shows [] [] [] part same has fits = tt
    shows [] [] (w ∷ ws) part same has fits = cc
    shows [] (v ∷ vs) ws part same has fits = absurd has
    shows (c ∷ cs) [] ws part same has fits = absurd has
    shows (c ∷ cs) (v ∷ vs) [] part same has fits = cc
    shows (c ∷ cs) (v ∷ vs) (w ∷ ws) part same has fits = (
      put_at ch below row c.name v has.0 ∙ ap (λ (x : Cell). Some x) (ap (λ (o : Option Cell). unwrap_or o v) part.0 ∙ value_is v w (skips c v w) same.0),
      shows cs vs ws part.1 same.1 has.1 (row_parts c cs w ws fits).2,
    )

  later_part : (a : Column) (v w : Cell) (columns : List Column) (before after : List Cell) (cs : List Column) (vs ws : List Cell) → AllByRecursion (λ other. ¬ (a.name ≡ other)) (map column_name cs)
      → IsPart (change_at skips columns before after) [] [] cs vs ws → IsPart (change_at skips (a ∷ columns) (v ∷ before) (w ∷ after)) [] [] cs vs ws
  later_part a v w columns before after [] vs ws apart part = tt
  later_part a v w columns before after (c ∷ cs) [] ws apart part = tt
  later_part a v w columns before after (c ∷ cs) (x ∷ vs) [] apart part = tt
  later_part a v w columns before after (c ∷ cs) (x ∷ vs) (y ∷ ws) apart part = (
    ap (λ (b : Bool). cond b (cond (skips a v w) None (Some w)) (change_at skips columns before after c.name))
        (names_apart c.name a.name (bytes_eq c.name a.name) refl (λ e. apart.0 (sym e))) ∙ part.0,
    later_part a v w columns before after cs vs ws apart.1 part.1,
  )

  own_part : (columns : List Column) (before after : List Cell) → AreDistinct (map column_name columns) → IsPart (change_at skips columns before after) [] [] columns before after
  own_part [] before after distinct = tt
  own_part (a ∷ columns) [] after distinct = tt
  own_part (a ∷ columns) (v ∷ before) [] distinct = tt
  own_part (a ∷ columns) (v ∷ before) (w ∷ after) distinct = (
    ap (λ (b : Bool). cond b (cond (skips a v w) None (Some w)) (change_at skips columns before after a.name)) (bytes_itself a.name),
    later_part a v w columns before after columns before after distinct.0 (own_part columns before after distinct.1),
  )

  pub updated_agrees : (columns : List Column) (before after : List Cell) (below : List Column) (row : List Cell) → AreDistinct (map column_name columns) → IsRow columns after → SkipsSame skips columns before after
      → HasShown below columns before row → HasShown below columns after (with_news (map (λ (c : Column). change_at skips columns before after c.name) below) row)
  updated_agrees columns before after below row distinct fits same has =
      shows (change_at skips columns before after) below row columns before after (own_part columns before after distinct) same has fits

  pub updated : (columns : List Column) (t : Table) (before after row : List Cell) → AreDistinct (map column_name columns) → HasColumns columns t → IsRow columns after → SkipsSame skips columns before after → HasShown t.columns columns before row
      → (news : List (Option Cell)) × (new_values true (listed_by skips columns before after) t.columns ≡ Some news) × (sets_null t.columns news ≡ false) × HasShown t.columns columns after (with_news news row)
  updated columns t before after row distinct h fits same has = (
    all_news columns before after distinct fits t.columns,
    news_are columns before after distinct fits t.columns h.suits,
    none_null columns before after distinct fits t.columns h.suits,
    updated_agrees columns before after t.columns row distinct fits same has,
  )

-- an update of what differs
pub differing_updated : (columns : List Column) (t : Table) (before after row : List Cell) → AreDistinct (map column_name columns) → HasColumns columns t → IsRow columns after → HasShown t.columns columns before row
    → UpdatesToShown columns t before after row
differing_updated columns t before after row distinct h fits has =
    subst (λ (us : Updates). (news : List (Option Cell)) × (new_values true us t.columns ≡ Some news) × (sets_null t.columns news ≡ false) × HasShown t.columns columns after (with_news news row))
    (sym (differing_listed columns before after)) (updated equal_ones columns t before after row distinct h fits (equal_same columns before after) has)
