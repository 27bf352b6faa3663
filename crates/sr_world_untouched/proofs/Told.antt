-- What tells of one row above does to a row below: under its own key it agrees, and under any other nothing changes.
use Rattle.std.proofs.Common.{◌≡◌, ℕ, Bool, true, false, cond, not, map, List, [], ◌∷◌, Option, Some, None, bytes_eq, refl, sym, ap, ap₂, subst, ◌∙◌}
use Rattle.std.specs.Prelude.{zip}
use Rattle.std.specs.List.{AllByRecursion, list_any}
use Rattle.std.specs.Option.{option_map}
use Rattle.std.specs.Ordering.{is_eq}
use Rattle.std.proofs.lemmas.List.{length-map}
use Rattle.sr_base.specs.Order.{key_cmp}
use Rattle.sr_base.specs.declared.value.Value.{Value as Cell}
use Rattle.sr_base.proofs.Truths.{some_is}
use Rattle.sr_exec_where.proofs.Fixed.{bytes_itself}
use Rattle.sr_exec_dml.proofs.Folding.{itself}
use Rattle.sr_catalog_schema.specs.Firsts.{first_of}
use Rattle.sr_exec_where.specs.Keys.{key_of}
use Rattle.sr_eval.specs.Comparisons.{is_null}
use Rattle.sr_exec_fits.specs.Rows.{IsRow}
use Rattle.sr_database_history.specs.Recorded.{IsNoExec}
use Rattle.sr_logform.specs.declared.op.Op.TheVariants.{Insert, Remove, Set}
use Rattle.sr_publish.specs.Inner.Laws.{HasKey}
use Rattle.sr_publish.specs.SubscribedTables.{SubscribedTable}
use Rattle.sr_publish.specs.Views.{shown}
use Rattle.sr_resolve.specs.Inner.Leaving.{or_here, put_left, insert_left, remove_left, set_left}
use Rattle.sr_resolve.specs.Named.{Values, Updates, filled_row, fitted_key, has_null, is_no_target, names_key, names_other, new_values, sets_null, with_news}
use Rattle.sr_scan.proofs.Spelled.{IsProper, shown_fits}
use Rattle.sr_scan.specs.Ops.{columns_told, differing, key_columns, listed_in, outside_key, present_columns, told_of, update_of}
use Rattle.sr_catalog_schema.specs.Members.{key_names}
use Rattle.sr_catalog_schema.specs.declared.table.Table.{Table}
use Rattle.sr_world_untouched.specs.Agreeing.{HasColumns, HasShown}
use Rattle.sr_world_untouched.specs.Inner.Agreeing.{held_in}
use Rattle.sr_world_untouched.specs.Untouched.{Agrees}
use Rattle.sr_world_untouched.proofs.Inserted.{inserted, key_goes}
use Rattle.sr_world_untouched.proofs.Left.{left_by, left_all}
use Rattle.sr_world_untouched.proofs.Shown.{differs_outside, key_is_same, key_not_null, key_shown, lists_outside, names_its_key, none_other}
use Rattle.sr_world_untouched.proofs.Updated.{Skips, SkipsSame, differing_listed, equal_ones, equal_same, key_ones, listed_by, outside_listed, same_listed, updated}

abbrev pub Row : Type 0
Row = Option (List Cell)

-- ---- cases

stay_if : (here next : Row) (b : Bool) → (b ≡ false → next ≡ here) → cond b here next ≡ here
stay_if here next true h = refl
stay_if here next false h = h refl

stay_or : {A : Type 0} (here : Row) (o : Option A) (f : A → Row) → ((x : A) → o ≡ Some x → f x ≡ here) → or_here o here f ≡ here
stay_or here None f h = refl
stay_or here (Some x) f h = h x refl

not_if : (here next : Row) (b : Bool) → b ≡ false → cond b here next ≡ next
not_if here next b e = ap (λ (x : Bool). cond x here next) e

found_or : {A : Type 0} (here : Row) (o : Option A) (f : A → Row) (x : A) → o ≡ Some x → or_here o here f ≡ f x
found_or {A} here o f x e = ap (λ (y : Option A). or_here y here f) e

-- ---- under another key nothing changes

abbrev pub IsOther : List Cell → List Cell → Type 0
IsOther key k = is_eq (key_cmp key k) ≡ false

pub insert_other : (t : Table) (values : Values) (key : List Cell) (here : Row) → ((row : List Cell) → filled_row values t.columns ≡ Some row → IsOther key (key_of t.key row))
    → insert_left t values key here ≡ here
unfolding insert_left
insert_other t values key here other =
    stay_if here _ (names_other t values) (λ a.
    stay_or here (filled_row values t.columns) _ (λ row filled.
    stay_if here _ (has_null t.columns row) (λ b. ap (λ (x : Bool). cond x (first_of here (Some row)) here) (other row filled))))

pub remove_other : (t : Table) (named : Values) (key : List Cell) (here : Row) → ((k : List Cell) → fitted_key t named ≡ Some k → IsOther key k)
    → remove_left t named key here ≡ here
unfolding remove_left
remove_other t named key here other =
    stay_if here _ (not (names_key t named)) (λ a.
    stay_or here (fitted_key t named) _ (λ place fitted.
    stay_if here _ (list_any is_null place) (λ b. ap (λ (x : Bool). cond x None here) (other place fitted))))

pub set_other : (t : Table) (named : Values) (updates : Updates) (key : List Cell) (here : Row) → ((k : List Cell) → fitted_key t named ≡ Some k → IsOther key k)
    → set_left t named updates key here ≡ here
unfolding set_left
set_other t named updates key here other =
    stay_if here _ (not (names_key t named)) (λ a.
    stay_if here _ (list_any (is_no_target t) updates) (λ b.
    stay_or here (fitted_key t named) _ (λ place fitted.
    stay_or here (new_values true updates t.columns) _ (λ news are.
    stay_if here _ (list_any is_null place) (λ c.
    stay_if here _ (sets_null t.columns news) (λ d. ap (λ (x : Bool). cond x (option_map (with_news news) here) here) (other place fitted)))))))

pub at_table : (b : Bool) (here next : Row) → next ≡ here → cond b next here ≡ here
at_table true here next e = e
at_table false here next e = refl

pub away : (b : Bool) (here next : Row) → b ≡ false → cond b next here ≡ here
away b here next e = ap (λ (x : Bool). cond x next here) e

pub at_own : (b : Bool) (here next : Row) → b ≡ true → cond b next here ≡ next
at_own b here next e = ap (λ (x : Bool). cond x next here) e

-- ---- nothing that tells of a row is an Exec

pub update_plain : (t : Table) (k : List Cell) (updates : Updates) → AllByRecursion IsNoExec (update_of t k updates)
update_plain t k [] = tt
update_plain t k (u ∷ updates) = (tt, tt)

pub told_plain : (s : SubscribedTable) (k : List Cell) (v w : Row) → AllByRecursion IsNoExec (told_of s k v w)
told_plain s k None None = tt
told_plain s k None (Some w) = (tt, tt)
told_plain s k (Some v) None = (tt, tt)
told_plain s k (Some v) (Some w) = update_plain s.table k (columns_told s v w)

-- ---- a subscribed table above, and its table below

pub record Mirrors (s : SubscribedTable) (t : Table) : Type 0 where
  pub proper : IsProper s
  pub holds : HasColumns s.columns t
  pub has_key : HasKey t
  pub name : t.name ≡ s.table.name
  pub keys : key_names t ≡ key_names s.table

-- a view of the row under a key: nothing, or what is shown of a row that fits
abbrev pub IsViewAt : SubscribedTable → List Cell → Row → Type 0
IsViewAt s k None = Unit {0}
IsViewAt s k (Some v) = (row : List Cell) × (IsRow s.table.columns row) × (key_of s.table.key row ≡ k) × (v ≡ shown s row)

module _ (s : SubscribedTable) (t : Table) (m : Mirrors s t) where
  -- of a row that fits: what is shown fits the subscribed table's columns, and the names of the key have its key
  module _ (row : List Cell) (fits : IsRow s.table.columns row) where
    shows : IsRow s.columns (shown s row)
    shows = shown_fits s.table s.columns s.places row fits m.proper.order.places

    pub key_below : map (held_in s.columns (shown s row)) (key_names t) ≡ key_of s.table.key row
    key_below = ap (map (held_in s.columns (shown s row))) m.keys ∙ key_shown s row m.proper fits

    same_names : key_columns s.table (key_of s.table.key row) ≡ zip (key_names t) (map (held_in s.columns (shown s row)) (key_names t))
    same_names = ap₂ (λ (ns : List (List ℕ)) (vs : List Cell). zip ns vs) (sym m.keys) (sym key_below)

    pub named_below : fitted_key t (key_columns s.table (key_of s.table.key row)) ≡ Some (key_of s.table.key row)
    named_below = ap (fitted_key t) same_names ∙ key_goes s.columns t (shown s row) m.holds shows m.has_key ∙ ap (λ (k : List Cell). Some k) key_below

    pub its_key : not (names_key t (key_columns s.table (key_of s.table.key row))) ≡ false
    its_key = ap not (ap (names_key t) same_names
        ∙ names_its_key t (map (held_in s.columns (shown s row)) (key_names t)) m.has_key (sym (length-map (key_names t) (held_in s.columns (shown s row)))))

    none_null : list_any is_null (key_of s.table.key row) ≡ false
    none_null = key_not_null s.table row m.proper.strict m.proper.key fits

    own_key : is_eq (key_cmp (key_of s.table.key row) (key_of s.table.key row)) ≡ true
    own_key = itself (key_of s.table.key row)

    none_else : names_other t (present_columns s.columns (shown s row)) ≡ false
    none_else = none_other t s.columns (shown s row) m.holds.has

    pub inserts : (new : List Cell) × (insert_left t (present_columns s.columns (shown s row)) (key_of s.table.key row) None ≡ Some new) × HasShown t.columns s.columns (shown s row) new
    unfolding insert_left
    inserts =
        let made = inserted s.columns t (shown s row) m.proper.order.distinct m.holds shows in
        let key_is : key_of t.key made.0 ≡ key_of s.table.key row = made.4 m.has_key ∙ key_below in (
          made.0,
          not_if None _ (names_other t (present_columns s.columns (shown s row))) none_else
              ∙ found_or None (filled_row (present_columns s.columns (shown s row)) t.columns) _ made.0 made.1
              ∙ not_if None _ (has_null t.columns made.0) made.3
              ∙ ap (λ (k : List Cell). put_left (key_of s.table.key row) k made.0 None) key_is
              ∙ ap (λ (b : Bool). cond b (first_of None (Some made.0)) None) own_key,
          made.2,
        )

    pub inserts_elsewhere : (key : List Cell) (here : Row) → IsOther key (key_of s.table.key row) → insert_left t (present_columns s.columns (shown s row)) key here ≡ here
    inserts_elsewhere key here other =
        let made = inserted s.columns t (shown s row) m.proper.order.distinct m.holds shows in
        let key_is : key_of t.key made.0 ≡ key_of s.table.key row = made.4 m.has_key ∙ key_below in
        insert_other t (present_columns s.columns (shown s row)) key here (λ new filled.
        let same : made.0 ≡ new = some_is (sym made.1 ∙ filled) in
        subst (λ (k : List Cell). IsOther key k) (sym (ap (key_of t.key) (sym same) ∙ key_is)) other)

    pub removes : (here : Row) → remove_left t (key_columns s.table (key_of s.table.key row)) (key_of s.table.key row) here ≡ None
    unfolding remove_left
    removes here =
        not_if here _ (not (names_key t (key_columns s.table (key_of s.table.key row)))) its_key
        ∙ found_or here (fitted_key t (key_columns s.table (key_of s.table.key row))) _ (key_of s.table.key row) named_below
        ∙ not_if here _ (list_any is_null (key_of s.table.key row)) none_null
        ∙ ap (λ (b : Bool). cond b None here) own_key

    fitted_elsewhere : (key k : List Cell) → IsOther key (key_of s.table.key row) → fitted_key t (key_columns s.table (key_of s.table.key row)) ≡ Some k → IsOther key k
    fitted_elsewhere key k other e = let same : key_of s.table.key row ≡ k = some_is (sym named_below ∙ e) in subst (λ (x : List Cell). IsOther key x) same other

    pub removes_elsewhere : (key : List Cell) (here : Row) → IsOther key (key_of s.table.key row) → remove_left t (key_columns s.table (key_of s.table.key row)) key here ≡ here
    removes_elsewhere key here other = remove_other t (key_columns s.table (key_of s.table.key row)) key here (λ k e. fitted_elsewhere key k other e)

    pub sets_elsewhere : (updates : Updates) (key : List Cell) (here : Row) → IsOther key (key_of s.table.key row)
        → set_left t (key_columns s.table (key_of s.table.key row)) updates key here ≡ here
    sets_elsewhere updates key here other = set_other t (key_columns s.table (key_of s.table.key row)) updates key here (λ k e. fitted_elsewhere key k other e)

  -- two rows of one key
  module _ (row after : List Cell) (fits : IsRow s.table.columns row) (fits_after : IsRow s.table.columns after) (one_key : key_of s.table.key after ≡ key_of s.table.key row) where
    one_shown_key : map (held_in s.columns (shown s row)) (key_names t) ≡ map (held_in s.columns (shown s after)) (key_names t)
    one_shown_key = key_below row fits ∙ sym one_key ∙ sym (key_below after fits_after)

    pub equal_targets : list_any (is_no_target t) (listed_by equal_ones s.columns (shown s row) (shown s after)) ≡ false
    equal_targets = differs_outside t s.columns (shown s row) (shown s after) m.proper.order.distinct one_shown_key m.holds.has

    pub key_targets : list_any (is_no_target t) (listed_by (key_ones (key_names t)) s.columns (shown s row) (shown s after)) ≡ false
    key_targets = lists_outside t s.columns (shown s row) (shown s after) m.holds.has

    pub key_stays_same : SkipsSame (key_ones (key_names t)) s.columns (shown s row) (shown s after)
    key_stays_same = key_is_same t s.columns (shown s row) (shown s after) m.proper.order.distinct one_shown_key

  -- a Set of columns of two rows of one key, where those that it leaves out are the same
  module _ (row after : List Cell) (fits : IsRow s.table.columns row) (fits_after : IsRow s.table.columns after)
      (skips : Skips) (same : SkipsSame skips s.columns (shown s row) (shown s after)) (no_key : list_any (is_no_target t) (listed_by skips s.columns (shown s row) (shown s after)) ≡ false) where
    abbrev change : Updates
    change = listed_by skips s.columns (shown s row) (shown s after)

    pub sets : (here : List Cell) → HasShown t.columns s.columns (shown s row) here
        → (new : List Cell) × (set_left t (key_columns s.table (key_of s.table.key row)) change (key_of s.table.key row) (Some here) ≡ Some new) × HasShown t.columns s.columns (shown s after) new
    unfolding set_left
    sets here has =
        let made = updated skips s.columns t (shown s row) (shown s after) here m.proper.order.distinct m.holds (shows after fits_after) same has in (
          with_news made.0 here,
          not_if (Some here) _ (not (names_key t (key_columns s.table (key_of s.table.key row)))) (its_key row fits)
              ∙ not_if (Some here) _ (list_any (is_no_target t) change) no_key
              ∙ found_or (Some here) (fitted_key t (key_columns s.table (key_of s.table.key row))) _ (key_of s.table.key row) (named_below row fits)
              ∙ found_or (Some here) (new_values true change t.columns) _ made.0 made.1
              ∙ not_if (Some here) _ (list_any is_null (key_of s.table.key row)) (none_null row fits)
              ∙ not_if (Some here) _ (sets_null t.columns made.0) made.2
              ∙ ap (λ (b : Bool). cond b (Some (with_news made.0 here)) (Some here)) (own_key row fits),
          made.3,
        )

  pub own_table : bytes_eq t.name s.table.name ≡ true
  own_table = ap (λ (n : List ℕ). bytes_eq n s.table.name) m.name ∙ bytes_itself s.table.name

  -- ---- what tells of a row

  -- where both rows have no value below
  agrees_none : (x : Row) → Agrees t s None x → x ≡ None
  agrees_none None a = refl
  agrees_none (Some x) a = absurd a

  agrees_insert : (v row : List Cell) → IsRow s.table.columns row → v ≡ shown s row → (x : Row) → x ≡ None
      → Agrees t s (Some v) (left_all t (Insert s.table.name (present_columns s.columns v) ∷ []) (key_of s.table.key row) x)
  agrees_insert v row fits is x none =
      let made = inserts row fits in
      let leaves : left_all t (Insert s.table.name (present_columns s.columns v) ∷ []) (key_of s.table.key row) x ≡ Some made.0
      = ap₂ (λ (u : List Cell) (y : Row). left_by t (Insert s.table.name (present_columns s.columns u)) (key_of s.table.key row) y) is none
      ∙ at_own (bytes_eq t.name s.table.name) None (insert_left t (present_columns s.columns (shown s row)) (key_of s.table.key row) None) own_table ∙ made.1 in
      subst (λ (y : Row). Agrees t s (Some v) y) (sym leaves) (subst (λ (u : List Cell). HasShown t.columns s.columns u made.0) (sym is) made.2)

  agrees_listed : (v w row after : List Cell) (fits : IsRow s.table.columns row) (fits_after : IsRow s.table.columns after) (skips : Skips) → SkipsSame skips s.columns (shown s row) (shown s after)
      → list_any (is_no_target t) (listed_by skips s.columns (shown s row) (shown s after)) ≡ false
      → v ≡ shown s row → w ≡ shown s after → (here : List Cell) → HasShown t.columns s.columns v here → (updates : Updates) → listed_by skips s.columns (shown s row) (shown s after) ≡ updates
      → Agrees t s (Some w) (left_all t (update_of s.table (key_of s.table.key row) updates) (key_of s.table.key row) (Some here))
  agrees_listed v w row after fits fits_after skips same no_key is is_after here a [] e =
      let one : shown s row ≡ shown s after = same_listed skips s.columns (shown s row) (shown s after) (shows row fits) (shows after fits_after) same e in
      subst (λ (u : List Cell). HasShown t.columns s.columns u here) (is ∙ one ∙ sym is_after) a
  agrees_listed v w row after fits fits_after skips same no_key is is_after here a (u ∷ updates) e =
      let made = sets row after fits fits_after skips same no_key here (subst (λ (x : List Cell). HasShown t.columns s.columns x here) is a) in
      let leaves : left_by t (Set s.table.name (key_columns s.table (key_of s.table.key row)) (u ∷ updates)) (key_of s.table.key row) (Some here) ≡ Some made.0
      = at_own (bytes_eq t.name s.table.name) (Some here) (set_left t (key_columns s.table (key_of s.table.key row)) (u ∷ updates) (key_of s.table.key row) (Some here)) own_table
      ∙ ap (λ (us : Updates). set_left t (key_columns s.table (key_of s.table.key row)) us (key_of s.table.key row) (Some here)) (sym e) ∙ made.1 in
      subst (λ (y : Row). Agrees t s (Some w) y) (sym leaves) (subst (λ (x : List Cell). HasShown t.columns s.columns x made.0) (sym is_after) made.2)

  -- what differs, or all columns outside the key
  agrees_set : (v w row after : List Cell) (fits : IsRow s.table.columns row) (fits_after : IsRow s.table.columns after) → key_of s.table.key after ≡ key_of s.table.key row
      → v ≡ shown s row → w ≡ shown s after → (x : Row) → Agrees t s (Some v) x → (updates : Updates) → differing s.columns (shown s row) (shown s after) ≡ updates
      → Agrees t s (Some w) (left_all t (update_of s.table (key_of s.table.key row) (listed_in s (shown s row) (shown s after) updates)) (key_of s.table.key row) x)
  agrees_set v w row after fits fits_after one_key is is_after None a updates e = absurd a
  agrees_set v w row after fits fits_after one_key is is_after (Some here) a [] e =
      agrees_listed v w row after fits fits_after equal_ones (equal_same s.columns (shown s row) (shown s after)) (equal_targets row after fits fits_after one_key) is is_after here a []
      (sym (differing_listed s.columns (shown s row) (shown s after)) ∙ e)
  agrees_set v w row after fits fits_after one_key is is_after (Some here) a (u ∷ updates) e =
      elim s.verifies as (λ (b : Bool). Agrees t s (Some w) (left_all t (update_of s.table (key_of s.table.key row) (cond b (outside_key (key_names s.table) s.columns (shown s row) (shown s after)) (u ∷ updates))) (key_of s.table.key row) (Some here))) [
        | true ↦ agrees_listed v w row after fits fits_after (key_ones (key_names t)) (key_stays_same row after fits fits_after one_key) (key_targets row after fits fits_after one_key) is is_after here a
            (outside_key (key_names s.table) s.columns (shown s row) (shown s after))
            (sym (outside_listed (key_names t) s.columns (shown s row) (shown s after)) ∙ ap (λ (names : List (List ℕ)). outside_key names s.columns (shown s row) (shown s after)) m.keys)
        | false ↦ agrees_listed v w row after fits fits_after equal_ones (equal_same s.columns (shown s row) (shown s after)) (equal_targets row after fits fits_after one_key) is is_after here a (u ∷ updates)
            (sym (differing_listed s.columns (shown s row) (shown s after)) ∙ e)
      ]

  -- under its own key the row below agrees
  pub told_here : (k : List Cell) (v w : Row) → IsViewAt s k v → IsViewAt s k w → (x : Row) → Agrees t s v x → Agrees t s w (left_all t (told_of s k v w) k x)
  told_here k None None p q x a = a
  told_here k None (Some w) p q x a =
      subst (λ (j : List Cell). Agrees t s (Some w) (left_all t (Insert s.table.name (present_columns s.columns w) ∷ []) j x)) q.2
      (agrees_insert w q.0 q.1 q.3 x (agrees_none x a))
  told_here k (Some v) None p q x a =
      let leaves : left_by t (Remove s.table.name (key_columns s.table k)) k x ≡ None
      = at_own (bytes_eq t.name s.table.name) x (remove_left t (key_columns s.table k) k x) own_table
      ∙ subst (λ (j : List Cell). remove_left t (key_columns s.table j) j x ≡ None) p.2 (removes p.0 p.1 x) in
      subst (λ (y : Row). Agrees t s None y) (sym leaves) tt
  told_here k (Some v) (Some w) p q x a =
      subst (λ (j : List Cell). Agrees t s (Some w) (left_all t (update_of s.table j (columns_told s v w)) j x)) p.2
      (subst (λ (told : Updates). Agrees t s (Some w) (left_all t (update_of s.table (key_of s.table.key p.0) told) (key_of s.table.key p.0) x))
      (ap₂ (λ (y z : List Cell). columns_told s y z) (sym p.3) (sym q.3))
      (agrees_set v w p.0 q.0 p.1 q.1 (q.2 ∙ sym p.2) p.3 q.3 x a (differing s.columns (shown s p.0) (shown s q.0)) refl))

  -- under another one nothing changes
  update_elsewhere : (row key : List Cell) (here : Row) → IsRow s.table.columns row → IsOther key (key_of s.table.key row) → (updates : Updates)
      → left_all t (update_of s.table (key_of s.table.key row) updates) key here ≡ here
  update_elsewhere row key here fits other [] = refl
  update_elsewhere row key here fits other (u ∷ updates) = at_table (bytes_eq t.name s.table.name) here _ (sets_elsewhere row fits (u ∷ updates) key here other)

  pub told_elsewhere : (k : List Cell) (v w : Row) → IsViewAt s k v → IsViewAt s k w → (key : List Cell) → IsOther key k → (x : Row) → left_all t (told_of s k v w) key x ≡ x
  told_elsewhere k None None p q key other x = refl
  told_elsewhere k None (Some w) p q key other x =
      at_table (bytes_eq t.name s.table.name) x _
      (ap (λ (u : List Cell). insert_left t (present_columns s.columns u) key x) q.3
      ∙ inserts_elsewhere q.0 q.1 key x (subst (λ (j : List Cell). IsOther key j) (sym q.2) other))
  told_elsewhere k (Some v) None p q key other x =
      at_table (bytes_eq t.name s.table.name) x _
      (subst (λ (j : List Cell). IsOther key j → remove_left t (key_columns s.table j) key x ≡ x) p.2 (λ o. removes_elsewhere p.0 p.1 key x o) other)
  told_elsewhere k (Some v) (Some w) p q key other x =
      subst (λ (j : List Cell). IsOther key j → left_all t (update_of s.table j (columns_told s v w)) key x ≡ x) p.2
      (λ o. update_elsewhere p.0 key x p.1 o (columns_told s v w)) other

-- ---- another table

pub told_away : (s : SubscribedTable) (t : Table) (k : List Cell) (v w : Row) (key : List Cell) (x : Row) → bytes_eq t.name s.table.name ≡ false → left_all t (told_of s k v w) key x ≡ x
told_away s t k None None key x other = refl
told_away s t k None (Some w) key x other = away (bytes_eq t.name s.table.name) x _ other
told_away s t k (Some v) None key x other = away (bytes_eq t.name s.table.name) x _ other
told_away s t k (Some v) (Some w) key x other = go (columns_told s v w)
  where
    go : (updates : Updates) → left_all t (update_of s.table k updates) key x ≡ x
    go [] = refl
    go (u ∷ updates) = away (bytes_eq t.name s.table.name) x _ other
