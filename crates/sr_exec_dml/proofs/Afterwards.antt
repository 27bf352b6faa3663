-- The rows with a statement's changes applied are the rows after it.
use Rattle.std.proofs.Common.{◌≡◌, Bool, true, false, cond, ℕ, List, [], ◌∷◌, Option, Some, None, bytes_eq, refl, sym, ap, ◌∙◌}
use Rattle.std.specs.List.{AllByRecursion}
use Rattle.std.specs.Cmp.{Equal-is, eq_by_cmp_equiv}
use Rattle.std.specs.Ordering.{is_eq, eq_by_cmp}
use Rattle.std.specs.FinMap.{get, get-insert, get-remove, find}
use Rattle.std.proofs.lemmas.Map.Text.{is_eq-slice_cmp}
use Rattle.sr_base.specs.Order.{key_cmp}
use Rattle.sr_base.specs.Inner.Order.{name_cmp_total}
use Rattle.sr_rows.specs.Marks.{Place, RowMap, place_cmp, rows_of_table}
use Rattle.sr_rows.specs.Inner.Marks.{place_cmp_total}
use Rattle.sr_rows.specs.Walks.{Entry, table_rows}
use Rattle.sr_rows.proofs.Gathering.{exact_places}
use Rattle.sr_rows.proofs.Listing.{get-table_rows, table_rows-rise, each_found}
use Rattle.sr_logform.specs.declared.change.Change.{Change}
use Rattle.sr_catalog_schema.specs.Catalogs.{Lists}
use Rattle.sr_catalog_schema.specs.declared.table.Table.{Table}
use Rattle.sr_exec_dml.specs.Applying.{place_of, without_row, with_row, applied_in, applied}
use Rattle.sr_exec_dml.specs.Fitting.{TableFits}
use Rattle.sr_exec_dml.specs.Holding.{under, one_of, keys_of, doubled, changes_at, changes_of}
use Rattle.sr_logform.specs.Outcomes.{is_same_row}
use Rattle.sr_exec_dml.specs.Inner.Laws.{StandUnderKeys, RowsBecome, OthersStay}
use Rattle.sr_exec_where.specs.Keys.{key_of}
use Rattle.sr_exec_dml.specs.Statements.{table_named}
use Rattle.sr_exec_dml.proofs.Differing.{undoubled-Ok}
use Rattle.sr_exec_dml.proofs.Folding.{Key, has, same_key, itself}
use Rattle.sr_exec_dml.proofs.Outcomes.{not_there, row_under}

-- a row that is found under a key stands under it
pub stands : (table : Table) (key : Key) (es : List Entry) → StandUnderKeys table es → (row : Key) → one_of (under key es) ≡ Some row → key_of table.key row ≡ key
stands table key [] f row h = cc
stands table key (e ∷ es) f row h = go (is_eq (key_cmp key e.0)) refl h (stands table key es f.1 row) where
  go : (b : Bool) → is_eq (key_cmp key e.0) ≡ b → one_of (cond b (e.1 ∷ under key es) (under key es)) ≡ Some row → (one_of (under key es) ≡ Some row → key_of table.key row ≡ key) → key_of table.key row ≡ key
  go true t k rest = let is : e.1 ≡ row = cc in ap (key_of table.key) (sym is) ∙ f.0 ∙ sym (same_key key e.0 t)
  go false t k rest = rest k

pub all_stand : (table : Table) (rows : RowMap) → TableFits table rows → StandUnderKeys table (table_rows rows table.name)
all_stand table rows fits = all (table_rows rows table.name) (each_found (table_rows rows table.name) (table_rows-rise rows table.name)) where
  all : (es : List Entry) → AllByRecursion (λ x. find key_cmp x.0 (table_rows rows table.name) ≡ Some x.1) es → StandUnderKeys table es
  all [] h = tt
  all (e ∷ es) h = ((fits e.0 e.1 (get-table_rows rows table.name e.0 ∙ h.0)).1, all es h.1)

-- places of one table are equal where the keys are
pub same_place : (name : List ℕ) (q k : Key) → eq_by_cmp place_cmp (name, q) (name, k) ≡ is_eq (key_cmp q k)
same_place name q k = go (is_eq (key_cmp q k)) refl (eq_by_cmp place_cmp (name, q) (name, k)) refl where
  go : (b : Bool) → is_eq (key_cmp q k) ≡ b → (t : Bool) → eq_by_cmp place_cmp (name, q) (name, k) ≡ t → t ≡ b
  go true e true f = refl
  go false e false f = refl
  go true e false f =
      let here : eq_by_cmp place_cmp (name, k) (name, k) ≡ true = (eq_by_cmp_equiv place_cmp_total).refl (name, k) in
      let is : eq_by_cmp place_cmp (name, q) (name, k) ≡ true = ap (λ (j : Key). eq_by_cmp place_cmp (name, j) (name, k)) (same_key q k e) ∙ here in
      sym f ∙ is
  go false e true f =
      let same : (name, q) ≡ (name, k) = exact_places (name, q) (name, k) ((Equal-is (place_cmp (name, q) (name, k))).0 f) in
      let is : is_eq (key_cmp q k) ≡ true = ap (λ (p : Place). is_eq (key_cmp p.1 k)) same ∙ itself k in
      sym is ∙ e

-- what one change leaves under a key
taken_at : (table : Table) (k : Key) (before : Option Key) (rows : RowMap) (q : Key) → ((row : Key) → before ≡ Some row → key_of table.key row ≡ k) → is_eq (key_cmp q k) ≡ false
    → get (without_row table before rows) (table.name, q) ≡ get rows (table.name, q)
taken_at table k None rows q f e = refl
taken_at table k (Some row) rows q f e =
    get-remove place_cmp_total rows (place_of table row) (table.name, q)
    ∙ ap (λ b. cond b None (get rows (table.name, q))) (same_place table.name q (key_of table.key row) ∙ ap (λ j. is_eq (key_cmp q j)) (f row refl) ∙ e)

pub changed_at : (table : Table) (k : Key) (before after : Option Key) (rows : RowMap) (q : Key) → is_same_row before after ≡ false
    → ((row : Key) → before ≡ Some row → key_of table.key row ≡ k) → ((row : Key) → after ≡ Some row → key_of table.key row ≡ k)
    → get (with_row table after (without_row table before rows)) (table.name, q) ≡ cond (is_eq (key_cmp q k)) after (get rows (table.name, q))
changed_at table k None None rows q d f g = cc
changed_at table k (Some row) None rows q d f g =
    get-remove place_cmp_total rows (place_of table row) (table.name, q)
    ∙ ap (λ b. cond b None (get rows (table.name, q))) (same_place table.name q (key_of table.key row) ∙ ap (λ j. is_eq (key_cmp q j)) (f row refl))
changed_at table k before (Some row) rows q d f g =
    get-insert place_cmp_total (without_row table before rows) (place_of table row) row (table.name, q)
    ∙ ap (λ b. cond b (Some row) (get (without_row table before rows) (table.name, q))) (same_place table.name q (key_of table.key row) ∙ ap (λ j. is_eq (key_cmp q j)) (g row refl))
    ∙ go (is_eq (key_cmp q k)) refl where
      go : (b : Bool) → is_eq (key_cmp q k) ≡ b → cond b (Some row) (get (without_row table before rows) (table.name, q)) ≡ cond b (Some row) (get rows (table.name, q))
      go true e = refl
      go false e = taken_at table k before rows q f e

module _ (catalog : Lists) (table : Table) (named : table_named catalog table.name ≡ Some table) (before after : List Entry) (first : StandUnderKeys table before) (last : StandUnderKeys table after) where
  -- the changes at some keys leave at each of them the row after
  applied_at : (ks : List Key) (rows : RowMap) (q : Key) → is_same_row (one_of (under q before)) (one_of (under q after)) ≡ false
      → get (applied catalog (changes_at table.name before after ks) rows) (table.name, q) ≡ cond (has q ks) (one_of (under q after)) (get rows (table.name, q))
  applied_at [] rows q d = refl
  applied_at (k ∷ ks) rows q d = go (is_same_row (one_of (under k before)) (one_of (under k after))) refl (λ rs. applied_at ks rs q d) where
    change : Change
    change = record { table = table.name; before = one_of (under k before); after = one_of (under k after) }

    go : (b : Bool) → is_same_row (one_of (under k before)) (one_of (under k after)) ≡ b
        → ((rs : RowMap) → get (applied catalog (changes_at table.name before after ks) rs) (table.name, q) ≡ cond (has q ks) (one_of (under q after)) (get rs (table.name, q)))
        → get (applied catalog (cond b (changes_at table.name before after ks) (change ∷ changes_at table.name before after ks)) rows) (table.name, q) ≡ cond (cond (is_eq (key_cmp q k)) true (has q ks)) (one_of (under q after)) (get rows (table.name, q))
    go true e more = more rows ∙ other (is_eq (key_cmp q k)) refl where
      other : (t : Bool) → is_eq (key_cmp q k) ≡ t → cond (has q ks) (one_of (under q after)) (get rows (table.name, q)) ≡ cond (cond t true (has q ks)) (one_of (under q after)) (get rows (table.name, q))
      other false f = refl
      other true f = let is : is_same_row (one_of (under q before)) (one_of (under q after)) ≡ true = ap (λ j. is_same_row (one_of (under j before)) (one_of (under j after))) (same_key q k f) ∙ e in cc
    go false e more =
        let done = applied_in (table_named catalog table.name) change rows in
        let at : get done (table.name, q) ≡ cond (is_eq (key_cmp q k)) (one_of (under k after)) (get rows (table.name, q)) =
        ap (λ o. get (applied_in o change rows) (table.name, q)) named
        ∙ changed_at table k (one_of (under k before)) (one_of (under k after)) rows q e (stands table k before first) (stands table k after last) in
        more done ∙ ap (cond (has q ks) (one_of (under q after))) at ∙ both (is_eq (key_cmp q k)) refl (has q ks) where
          both : (t : Bool) → is_eq (key_cmp q k) ≡ t → (u : Bool) → cond u (one_of (under q after)) (cond t (one_of (under k after)) (get rows (table.name, q))) ≡ cond (cond t true u) (one_of (under q after)) (get rows (table.name, q))
          both false f u = refl
          both true f true = refl
          both true f false = ap (λ j. one_of (under j after)) (sym (same_key q k f))

  -- and leave the row where none differs
  unchanged_at : (ks : List Key) (rows : RowMap) (q : Key) → is_same_row (one_of (under q before)) (one_of (under q after)) ≡ true
      → get (applied catalog (changes_at table.name before after ks) rows) (table.name, q) ≡ get rows (table.name, q)
  unchanged_at [] rows q d = refl
  unchanged_at (k ∷ ks) rows q d = go (is_same_row (one_of (under k before)) (one_of (under k after))) refl (λ rs. unchanged_at ks rs q d) where
    change : Change
    change = record { table = table.name; before = one_of (under k before); after = one_of (under k after) }

    go : (b : Bool) → is_same_row (one_of (under k before)) (one_of (under k after)) ≡ b
        → ((rs : RowMap) → get (applied catalog (changes_at table.name before after ks) rs) (table.name, q) ≡ get rs (table.name, q))
        → get (applied catalog (cond b (changes_at table.name before after ks) (change ∷ changes_at table.name before after ks)) rows) (table.name, q) ≡ get rows (table.name, q)
    go true e more = more rows
    go false e more =
        let done = applied_in (table_named catalog table.name) change rows in
        more done
        ∙ ap (λ o. get (applied_in o change rows) (table.name, q)) named
        ∙ changed_at table k (one_of (under k before)) (one_of (under k after)) rows q e (stands table k before first) (stands table k after last)
        ∙ other (is_eq (key_cmp q k)) refl where
          other : (t : Bool) → is_eq (key_cmp q k) ≡ t → cond t (one_of (under k after)) (get rows (table.name, q)) ≡ get rows (table.name, q)
          other false f = refl
          other true f = let is : is_same_row (one_of (under k before)) (one_of (under k after)) ≡ true = ap (λ j. is_same_row (one_of (under j before)) (one_of (under j after))) (sym (same_key q k f)) ∙ d in cc

  -- rows of other tables
  pub apart : (name : List ℕ) (q : Key) (k : Key) → bytes_eq name table.name ≡ false → eq_by_cmp place_cmp (name, q) (table.name, k) ≡ false
  apart name q k d = go (eq_by_cmp place_cmp (name, q) (table.name, k)) refl where
    go : (t : Bool) → eq_by_cmp place_cmp (name, q) (table.name, k) ≡ t → t ≡ false
    go false e = refl
    go true e =
        let same : (name, q) ≡ (table.name, k) = exact_places (name, q) (table.name, k) ((Equal-is (place_cmp (name, q) (table.name, k))).0 e) in
        let itself_is : bytes_eq table.name table.name ≡ true = sym (is_eq-slice_cmp table.name table.name) ∙ (eq_by_cmp_equiv name_cmp_total).refl table.name in
        let is : bytes_eq name table.name ≡ true = ap (λ (p : Place). bytes_eq p.0 table.name) same ∙ itself_is in
        sym is ∙ d

  apart_without : (o : Option Key) (rows : RowMap) (name : List ℕ) (q : Key) → bytes_eq name table.name ≡ false → get (without_row table o rows) (name, q) ≡ get rows (name, q)
  apart_without None rows name q d = refl
  apart_without (Some row) rows name q d = get-remove place_cmp_total rows (place_of table row) (name, q) ∙ ap (λ b. cond b None (get rows (name, q))) (apart name q (key_of table.key row) d)

  apart_in : (o p : Option Key) (rows : RowMap) (name : List ℕ) (q : Key) → bytes_eq name table.name ≡ false → get (with_row table o (without_row table p rows)) (name, q) ≡ get rows (name, q)
  apart_in None p rows name q d = apart_without p rows name q d
  apart_in (Some row) p rows name q d =
      get-insert place_cmp_total (without_row table p rows) (place_of table row) row (name, q)
      ∙ ap (λ b. cond b (Some row) (get (without_row table p rows) (name, q))) (apart name q (key_of table.key row) d)
      ∙ apart_without p rows name q d

  others_at : (ks : List Key) (rows : RowMap) (name : List ℕ) (q : Key) → bytes_eq name table.name ≡ false → get (applied catalog (changes_at table.name before after ks) rows) (name, q) ≡ get rows (name, q)
  others_at [] rows name q d = refl
  others_at (k ∷ ks) rows name q d = go (is_same_row (one_of (under k before)) (one_of (under k after))) (λ rs. others_at ks rs name q d) where
    change : Change
    change = record { table = table.name; before = one_of (under k before); after = one_of (under k after) }

    go : (b : Bool) → ((rs : RowMap) → get (applied catalog (changes_at table.name before after ks) rs) (name, q) ≡ get rs (name, q))
        → get (applied catalog (cond b (changes_at table.name before after ks) (change ∷ changes_at table.name before after ks)) rows) (name, q) ≡ get rows (name, q)
    go true more = more rows
    go false more =
        more (applied_in (table_named catalog table.name) change rows)
        ∙ ap (λ o. get (applied_in o change rows) (name, q)) named
        ∙ apart_in (one_of (under k after)) (one_of (under k before)) rows name q d

same_rows : (a b : Option Key) → is_same_row a b ≡ true → a ≡ b
same_rows None None h = refl
same_rows None (Some y) h = cc
same_rows (Some x) None h = cc
same_rows (Some x) (Some y) h = ap (λ z. Some z) (same_key x y h)

pub rows_become : RowsBecome
rows_become catalog rows table after changes named fits last h q =
    let are : changes_of table.name (table_rows rows table.name) after ≡ changes = (undoubled-Ok (doubled (table_rows rows table.name) after) (changes_of table.name (table_rows rows table.name) after) changes h).1 in
    ap (λ cs. rows_of_table (applied catalog cs rows) table.name q) (sym are)
    ∙ go (table_rows rows table.name) refl (all_stand table rows fits) (is_same_row (one_of (under q (table_rows rows table.name))) (one_of (under q after))) refl (has q (keys_of (table_rows rows table.name) after)) refl where
      go : (before : List Entry) → table_rows rows table.name ≡ before → StandUnderKeys table before → (b : Bool) → is_same_row (one_of (under q before)) (one_of (under q after)) ≡ b → (t : Bool) → has q (keys_of before after) ≡ t
          → rows_of_table (applied catalog (changes_of table.name before after) rows) table.name q ≡ one_of (under q after)
      go before is first true e t f = unchanged_at catalog table named before after first last (keys_of before after) rows q e ∙ row_under rows table.name q ∙ ap (λ es. one_of (under q es)) is ∙ same_rows (one_of (under q before)) (one_of (under q after)) e
      go before is first false e true f = applied_at catalog table named before after first last (keys_of before after) rows q e ∙ ap (λ b. cond b (one_of (under q after)) (get rows (table.name, q))) f
      go before is first false e false f =
          let none = not_there q before after f in
          let same : is_same_row (one_of (under q before)) (one_of (under q after)) ≡ true = λ i. is_same_row (one_of (none.0 i)) (one_of (none.1 i)) in
          cc

pub others_stay : OthersStay
others_stay catalog rows table after changes named fits last h name q d =
    let before = table_rows rows table.name in
    let are : changes_of table.name before after ≡ changes = (undoubled-Ok (doubled before after) (changes_of table.name before after) changes h).1 in
    ap (λ cs. rows_of_table (applied catalog cs rows) name q) (sym are) ∙ others_at catalog table named before after (all_stand table rows fits) last (keys_of before after) rows name q d
