-- A Sync that has a table leaves below what the view has, whatever was there.
use Rattle.std.proofs.Common.{◌≡◌, ℕ, Bool, true, false, cond, ◌||◌, map, filter_map, List, [], ◌∷◌, ◌++◌, Option, Some, None, bytes_eq, refl, sym, ap, ap₂, subst, ◌∙◌}
use Rattle.std.specs.Prelude.{flat_map}
use Rattle.std.specs.FinMap.{find}
use Rattle.std.specs.List.{AllByRecursion, cons_option}
use Rattle.std.specs.Ordering.{is_eq}
use Rattle.std.specs.declared.cmp.Ordering.TheVariants.{Less}
use Rattle.sr_base.specs.Order.{key_cmp}
use Rattle.sr_base.specs.declared.value.Value.{Value as Cell}
use Rattle.sr_book.specs.Entries.{Name}
use Rattle.sr_exec_where.proofs.Fixed.{same_name}
use Rattle.sr_exec_dml.proofs.Folding.{same_key}
use Rattle.sr_exec_dml.specs.Fitting.{RowsFit, TableFits}
use Rattle.sr_exec_where.specs.Keys.{key_of}
use Rattle.sr_exec_fits.specs.Rows.{IsRow, is_row}
use Rattle.sr_database_history.specs.Folds.{State}
use Rattle.sr_database_history.specs.Recorded.{IsNoExec}
use Rattle.sr_logform.specs.declared.op.Op.{Op}
use Rattle.sr_logform.specs.declared.op.Op.TheVariants.{Insert}
use Rattle.sr_publish.specs.SubscribedTables.{SubscribedTable, subscribed_table_of}
use Rattle.sr_publish.specs.Views.{is_in, shown, shown_in, shown_row}
use Rattle.sr_rows.proofs.Listing.{get-table_rows, table_rows-rise, each_found}
use Rattle.sr_rows.specs.Marks.{RowMap}
use Rattle.sr_rows.specs.Walks.{Entry, table_rows}
use Rattle.sr_rows.specs.Inner.Walks.{Rises}
use Rattle.sr_scan.proofs.Moves.{subscribed_table_table}
use Rattle.sr_scan.proofs.Spelled.{shown_fits}
use Rattle.sr_scan.specs.Given.{row_synced, table_synced}
use Rattle.sr_scan.specs.Ops.{present_columns, told_of}
use Rattle.sr_catalog_schema.specs.Catalogs.{Lists}
use Rattle.sr_catalog_schema.specs.Firsts.{has}
use Rattle.sr_catalog_schema.specs.declared.table.Table.{Table}
use Rattle.sr_world_untouched.specs.Untouched.{Agrees, HasSubscribedTable}
use Rattle.sr_world_untouched.proofs.Above.{view, Goes, rests, stays, followed_by}
use Rattle.sr_world_untouched.proofs.Left.{left_all, left_all-append}
use Rattle.sr_world_untouched.proofs.Told.{Row, IsOther, Mirrors, at_own, away, own_table, told_elsewhere, told_here}
use Rattle.sr_world.specs.Lawful.{IsViewed, view_rows}

-- each entry is a row that fits, under its key
abbrev AllFit : Table → List Entry → Type 0
AllFit t es = AllByRecursion (λ e. IsRow t.columns e.1 × (key_of t.key e.1 ≡ e.0)) es

all_fit : (t : Table) (rows : RowMap) → TableFits t rows → AllFit t (table_rows rows t.name)
all_fit t rows fits = all (table_rows rows t.name) (each_found (table_rows rows t.name) (table_rows-rise rows t.name))
  where
    all : (es : List Entry) → AllByRecursion (λ x. find key_cmp x.0 (table_rows rows t.name) ≡ Some x.1) es → AllFit t es
    all [] h = tt
    all (e ∷ es) h = (fits e.0 e.1 (get-table_rows rows t.name e.0 ∙ h.0), all es h.1)

-- the rows of a table that a user has not
module _ (t : Table) (key : List Cell) (name : Name) (other : bytes_eq t.name name ≡ false) where
  row_away : (o : Option SubscribedTable) (row : List Cell) (x : Row) → left_all t (row_synced o name row) key x ≡ x
  row_away None row x = refl
  row_away (Some s) row x = go (is_row s.columns row)
    where
      go : (b : Bool) → left_all t (cond b (Insert name (present_columns s.columns row) ∷ []) []) key x ≡ x
      go true = away (bytes_eq t.name name) x _ other
      go false = refl

  rows_away : (o : Option SubscribedTable) (rows : List (List Cell)) (x : Row) → left_all t (flat_map (row_synced o name) rows) key x ≡ x
  rows_away o [] x = refl
  rows_away o (row ∷ rows) x =
      left_all-append t (row_synced o name row) (flat_map (row_synced o name) rows) key x
      ∙ ap (left_all t (flat_map (row_synced o name) rows) key) (row_away o row x) ∙ rows_away o rows x

row_plain : (o : Option SubscribedTable) (name : Name) (row : List Cell) → AllByRecursion IsNoExec (row_synced o name row)
row_plain None name row = tt
row_plain (Some s) name row = go (is_row s.columns row)
  where
    go : (b : Bool) → AllByRecursion IsNoExec (cond b (Insert name (present_columns s.columns row) ∷ []) [])
    go true = (tt, tt)
    go false = tt

all_joined : {A : Type 0} (P : A → Type 0) (xs ys : List A) → AllByRecursion P xs → AllByRecursion P ys → AllByRecursion P (xs ++ ys)
all_joined P [] ys all more = more
all_joined P (x ∷ xs) ys all more = (all.0, all_joined P xs ys all.1 more)

rows_plain : (o : Option SubscribedTable) (name : Name) (rows : List (List Cell)) → AllByRecursion IsNoExec (flat_map (row_synced o name) rows)
rows_plain o name [] = tt
rows_plain o name (row ∷ rows) = all_joined IsNoExec (row_synced o name row) (flat_map (row_synced o name) rows) (row_plain o name row) (rows_plain o name rows)

table_plain : (c : Lists) (user : Name) (p : Name × List (List Cell)) → AllByRecursion IsNoExec (table_synced c user p)
table_plain c user p = (tt, rows_plain (subscribed_table_of c user p.0) p.0 p.1)

module _ (user : Name) (sh : SubscribedTable) (t : Table) (key : List Cell) (m : Mirrors sh t) where
  -- the Inserts of some entries' rows that a subscribed table shows
  abbrev block : Option SubscribedTable → List Entry → List Op
  block o es = flat_map (row_synced o sh.table.name) (filter_map (λ (e : Entry). shown_in o e.1) es)

  abbrev own : Option SubscribedTable
  own = Some sh

  -- the Insert of a row that is shown tells that it came
  one_told : (e : Entry) → IsRow sh.table.columns e.1 → row_synced own sh.table.name (shown sh e.1) ≡ told_of sh e.0 None (Some (shown sh e.1))
  one_told e fits = ap (λ (b : Bool). cond b (Insert sh.table.name (present_columns sh.columns (shown sh e.1)) ∷ []) []) (shown_fits sh.table sh.columns sh.places e.1 fits m.proper.order.places)

  -- rows under other keys
  rest_stays : (es : List Entry) → AllFit sh.table es → AllByRecursion (λ e. IsOther key e.0) es → (x : Row) → left_all t (block own es) key x ≡ x
  rest_stays [] fits other x = refl
  rest_stays (e ∷ es) fits other x = go (is_in sh e.1) (rest_stays es fits.1 other.1 x)
    where
      go : (b : Bool) → left_all t (block own es) key x ≡ x → left_all t (flat_map (row_synced own sh.table.name) (cons_option (cond b (Some (shown sh e.1)) None) (filter_map (λ (y : Entry). shown_in own y.1) es))) key x ≡ x
      go false rest = rest
      go true rest =
          left_all-append t (row_synced own sh.table.name (shown sh e.1)) (block own es) key x
          ∙ ap (λ (ops : List Op). left_all t (block own es) key (left_all t ops key x)) (one_told e fits.0.0)
          ∙ ap (left_all t (block own es) key) (told_elsewhere sh t m e.0 None (Some (shown sh e.1)) tt (e.1, fits.0.0, fits.0.1, refl) key other.0 x)
          ∙ rest

  others : (k : List Cell) (es : List Entry) → key ≡ k → AllByRecursion (λ (later : Entry). key_cmp k later.0 ≡ Less) es → AllByRecursion (λ e. IsOther key e.0) es
  others k [] same h = tt
  others k (e ∷ es) same h = (ap is_eq (ap (λ (j : List Cell). key_cmp j e.0) same ∙ h.0), others k es same h.1)

  -- where there was no row, the one that is shown comes
  filled : (es : List Entry) → AllFit sh.table es → Rises key_cmp es → Agrees t sh (shown_row own (find key_cmp key es)) (left_all t (block own es) key None)
  filled [] fits rise = tt
  filled (e ∷ es) fits rise = go (is_eq (key_cmp key e.0)) refl (is_in sh e.1) refl (filled es fits.1 rise.1)
    where
      after : Bool → Row
      after b = left_all t (flat_map (row_synced own sh.table.name) (cons_option (cond b (Some (shown sh e.1)) None) (filter_map (λ (y : Entry). shown_in own y.1) es))) key None

      told : Row
      told = left_all t (told_of sh e.0 None (Some (shown sh e.1))) key None

      put : after true ≡ left_all t (block own es) key told
      put = left_all-append t (row_synced own sh.table.name (shown sh e.1)) (block own es) key None
          ∙ ap (λ (ops : List Op). left_all t (block own es) key (left_all t ops key None)) (one_told e fits.0.0)

      go : (q : Bool) → is_eq (key_cmp key e.0) ≡ q → (b : Bool) → is_in sh e.1 ≡ b → Agrees t sh (shown_row own (find key_cmp key es)) (left_all t (block own es) key None)
          → Agrees t sh (shown_row own (cond q (Some e.1) (find key_cmp key es))) (after b)
      go true same false shows rest =
          let none : after false ≡ None = rest_stays es fits.1 (others e.0 es (same_key key e.0 same) rise.0) None in
          let unseen : None ≡ shown_in own e.1 = sym (ap (λ (b : Bool). cond b (Some (shown sh e.1)) None) shows) in
          subst (λ (y : Row). Agrees t sh (shown_in own e.1) y) (sym none) (subst (λ (v : Row). Agrees t sh v None) unseen tt)
      go true same true shows rest =
          let here : key ≡ e.0 = same_key key e.0 same in
          let leaves : after true ≡ told = put ∙ rest_stays es fits.1 (others e.0 es here rise.0) told in
          let agrees : Agrees t sh (Some (shown sh e.1)) told
          = subst (λ (k : List Cell). Agrees t sh (Some (shown sh e.1)) (left_all t (told_of sh e.0 None (Some (shown sh e.1))) k None)) (sym here)
          (told_here sh t m e.0 None (Some (shown sh e.1)) tt (e.1, fits.0.0, fits.0.1, refl) None tt) in
          let seen : Some (shown sh e.1) ≡ shown_in own e.1 = sym (ap (λ (b : Bool). cond b (Some (shown sh e.1)) None) shows) in
          subst (λ (y : Row). Agrees t sh (shown_in own e.1) y) (sym leaves) (subst (λ (v : Row). Agrees t sh v told) seen agrees)
      go false other false shows rest = rest
      go false other true shows rest =
          let leaves : after true ≡ left_all t (block own es) key None
          = put ∙ ap (left_all t (block own es) key) (told_elsewhere sh t m e.0 None (Some (shown sh e.1)) tt (e.1, fits.0.0, fits.0.1, refl) key other None) in
          subst (λ (y : Row). Agrees t sh (shown_row own (find key_cmp key es)) y) (sym leaves) rest

  module _ (s : State) (has_subscribed_table : HasSubscribedTable user sh s) (fit : RowsFit s.catalog s.rows) where
    -- the subscribed table's own table
    own_agrees : (x : Row) → Agrees t sh (view user sh t key m s) (left_all t (table_synced s.catalog user (sh.table.name, view_rows s user sh.table.name)) key x)
    own_agrees x =
        let fits : AllFit sh.table (table_rows s.rows sh.table.name) = all_fit sh.table s.rows (fit.each sh.table.name sh.table (subscribed_table_table s.catalog user sh.table.name sh has_subscribed_table)) in
        let found = filled (table_rows s.rows sh.table.name) fits (table_rows-rise s.rows sh.table.name) in
        let seen : view user sh t key m s ≡ shown_row own (find key_cmp key (table_rows s.rows sh.table.name))
        = ap₂ (λ (o : Option SubscribedTable) (r : Row). shown_row o r) has_subscribed_table (get-table_rows s.rows sh.table.name key) in
        let leaves : left_all t (table_synced s.catalog user (sh.table.name, view_rows s user sh.table.name)) key x
        ≡ left_all t (block own (table_rows s.rows sh.table.name)) key None
        = ap (left_all t (block (subscribed_table_of s.catalog user sh.table.name) (table_rows s.rows sh.table.name)) key) (at_own (bytes_eq t.name sh.table.name) x None (own_table sh t m))
        ∙ ap (λ (o : Option SubscribedTable). left_all t (block o (table_rows s.rows sh.table.name)) key None) has_subscribed_table in
        subst (λ (y : Row). Agrees t sh (view user sh t key m s) y) (sym leaves)
        (subst (λ (v : Row). Agrees t sh v (left_all t (block own (table_rows s.rows sh.table.name)) key None)) (sym seen) found)

    same_block : (p : Name × List (List Cell)) → IsViewed s user p → sh.table.name ≡ p.0 → (sh.table.name, view_rows s user sh.table.name) ≡ p
    same_block p viewed same = ap₂ (λ (n : Name) (rows : List (List Cell)). (n, rows)) same (ap (view_rows s user) same ∙ sym viewed)

    block_agrees : (p : Name × List (List Cell)) → IsViewed s user p → sh.table.name ≡ p.0 → (x : Row) → Agrees t sh (view user sh t key m s) (left_all t (table_synced s.catalog user p) key x)
    block_agrees p viewed same x =
        subst (λ (q : Name × List (List Cell)). Agrees t sh (view user sh t key m s) (left_all t (table_synced s.catalog user q) key x)) (same_block p viewed same) (own_agrees x)

    block_away : (p : Name × List (List Cell)) → bytes_eq sh.table.name p.0 ≡ false → (x : Row) → left_all t (table_synced s.catalog user p) key x ≡ x
    block_away p apart x =
        let other : bytes_eq t.name p.0 ≡ false = ap (λ (n : List ℕ). bytes_eq n p.0) m.name ∙ apart in
        ap (left_all t (flat_map (row_synced (subscribed_table_of s.catalog user p.0) p.0) p.1) key) (away (bytes_eq t.name p.0) x None other)
        ∙ rows_away t key p.0 other (subscribed_table_of s.catalog user p.0) p.1 x

    block_goes : (p : Name × List (List Cell)) → IsViewed s user p → Goes user sh t key m (table_synced s.catalog user p) (view user sh t key m s) (view user sh t key m s)
    block_goes p viewed = go (bytes_eq sh.table.name p.0) refl
      where
        go : (b : Bool) → bytes_eq sh.table.name p.0 ≡ b → Goes user sh t key m (table_synced s.catalog user p) (view user sh t key m s) (view user sh t key m s)
        go true e = record { plain = table_plain s.catalog user p; agrees = λ x a. block_agrees p viewed (same_name sh.table.name p.0 e) x }
        go false e = stays user sh t key m (table_synced s.catalog user p) _ _ (table_plain s.catalog user p) (λ x. block_away p e x) refl

    pub tables_go : (tables : List (Name × List (List Cell))) → AllByRecursion (IsViewed s user) tables
        → Goes user sh t key m (flat_map (table_synced s.catalog user) tables) (view user sh t key m s) (view user sh t key m s)
    tables_go [] viewed = rests user sh t key m (view user sh t key m s) (view user sh t key m s) refl
    tables_go (p ∷ tables) viewed =
        followed_by user sh t key m (table_synced s.catalog user p) (flat_map (table_synced s.catalog user) tables) _ _ _ (block_goes p viewed.0) (tables_go tables viewed.1)

    -- a Sync with the table
    pub tables_begin : (tables : List (Name × List (List Cell))) → AllByRecursion (IsViewed s user) tables → has (map (λ (p : Name × List (List Cell)). p.0) tables) sh.table.name ≡ true
        → (x : Row) → Agrees t sh (view user sh t key m s) (left_all t (flat_map (table_synced s.catalog user) tables) key x)
    tables_begin [] viewed among x = absurd (cc)
    tables_begin (p ∷ tables) viewed among x = go (bytes_eq sh.table.name p.0) refl among (λ h. tables_begin tables viewed.1 h)
      where
        joined : left_all t (table_synced s.catalog user p ++ flat_map (table_synced s.catalog user) tables) key x
            ≡ left_all t (flat_map (table_synced s.catalog user) tables) key (left_all t (table_synced s.catalog user p) key x)
        joined = left_all-append t (table_synced s.catalog user p) (flat_map (table_synced s.catalog user) tables) key x

        go : (b : Bool) → bytes_eq sh.table.name p.0 ≡ b → (b || has (map (λ (q : Name × List (List Cell)). q.0) tables) sh.table.name) ≡ true
            → (has (map (λ (q : Name × List (List Cell)). q.0) tables) sh.table.name ≡ true → (y : Row) → Agrees t sh (view user sh t key m s) (left_all t (flat_map (table_synced s.catalog user) tables) key y))
            → Agrees t sh (view user sh t key m s) (left_all t (table_synced s.catalog user p ++ flat_map (table_synced s.catalog user) tables) key x)
        go true e h rest =
            subst (λ (y : Row). Agrees t sh (view user sh t key m s) y) (sym joined)
            ((tables_go tables viewed.1).agrees (left_all t (table_synced s.catalog user p) key x) (block_agrees p viewed.0 (same_name sh.table.name p.0 e) x))
        go false e h rest =
            subst (λ (y : Row). Agrees t sh (view user sh t key m s) y) (sym joined) (rest h (left_all t (table_synced s.catalog user p) key x))
