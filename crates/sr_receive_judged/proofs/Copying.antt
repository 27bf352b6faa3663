-- Rows that are copied, one after the other, and table by table.
use Rattle.std.proofs.Common.{◌≡◌, ◌||◌, Bool, true, false, cond, map, List, [], ◌∷◌, ◌++◌, Option, Some, None, IsSome, bytes_eq, refl, sym, ap, subst, ◌∙◌, append_assoc}
use Rattle.std.proofs.lemmas.List.{append-nil, map-append}
use Rattle.std.specs.Cmp.{Equal-is}
use Rattle.std.specs.List.{find as find_in}
use Rattle.std.specs.Ordering.{eq_by_cmp, is_eq}
use Rattle.std.specs.FinMap.{get, insert, empty, find, same_map, get-empty, get-insert}
use Rattle.sr_base.specs.Order.{key_cmp}
use Rattle.sr_base.specs.declared.value.Value.{Value as Cell}
use Rattle.sr_book.specs.Entries.{Name}
use Rattle.sr_exec_dml.specs.Fitting.{RowsFit}
use Rattle.sr_exec_dml.specs.Statements.{table_named}
use Rattle.sr_exec_dml.proofs.Afterwards.{same_place}
use Rattle.sr_exec_where.proofs.Fixed.{same_name, bytes_itself}
use Rattle.sr_exec_dml.proofs.Folding.{same_key}
use Rattle.sr_rows.specs.Marks.{Place, RowMap, Marked, place_cmp, rows_of_table}
use Rattle.sr_rows.specs.Inner.Marks.{place_cmp_total}
use Rattle.sr_rows.specs.Inner.Steps.{at_mark}
use Rattle.sr_rows.specs.Walks.{Entry, table_rows}
use Rattle.sr_rows.specs.Inner.Walks.{Rises}
use Rattle.sr_rows.proofs.Gathering.{exact_places}
use Rattle.sr_rows.proofs.Listing.{get-table_rows, none_below, table_rows-rise}
use Rattle.sr_catalog_schema.specs.Catalogs.{Lists}
use Rattle.sr_catalog_schema.specs.Members.{table_name}
use Rattle.sr_catalog_schema.specs.declared.table.Table.{Table}
use Rattle.sr_receive_judged.specs.Inner.Copies.{HasCopied, IsCopyOf}
use Rattle.sr_receive_judged.specs.Inner.Judged.{is_among, or_there}

-- ---- one row

pub marked_here : (m : Marked) (rows : RowMap) → m ≡ at_mark rows → m ≡ at_mark m.rows
marked_here m rows is = is ∙ ap at_mark (sym (ap (λ (x : Marked). x.rows) is))

pub marked_by : (m : Marked) → m.rows ≡ empty → m.marked ≡ empty → m.trail ≡ [] → m ≡ at_mark empty
marked_by m rows marked trail = λ i. record { rows = rows i; marked = marked i; trail = trail i }

-- ---- the rows of a table

-- rows come under the name of a table, one after the other
abbrev pub put_all : Name → List Entry → RowMap → RowMap
put_all table [] rows = rows
put_all table (e ∷ es) rows = put_all table es (insert rows (table, e.0) e.1)

put_more : (table : Name) (es : List Entry) (e : Entry) (rows : RowMap) → put_all table (es ++ e ∷ []) rows ≡ insert (put_all table es rows) (table, e.0) e.1
put_more table [] e rows = refl
put_more table (x ∷ es) e rows = put_more table es e (insert rows (table, x.0) x.1)

other_place : (name table : Name) (key place : List Cell) → ¬ (name ≡ table) → eq_by_cmp place_cmp (name, key) (table, place) ≡ false
other_place name table key place other = go (eq_by_cmp place_cmp (name, key) (table, place)) refl where
  go : (b : Bool) → eq_by_cmp place_cmp (name, key) (table, place) ≡ b → b ≡ false
  go true e = absurd (other (ap (λ (p : Place). p.0) (exact_places (name, key) (table, place) ((Equal-is (place_cmp (name, key) (table, place))).0 e))))
  go false e = refl

put_others : (table : Name) (es : List Entry) (rows : RowMap) (name : Name) (key : List Cell) → ¬ (name ≡ table) → rows_of_table (put_all table es rows) name key ≡ rows_of_table rows name key
put_others table [] rows name key other = refl
put_others table (e ∷ es) rows name key other =
    put_others table es (insert rows (table, e.0) e.1) name key other
    ∙ get-insert place_cmp_total rows (table, e.0) e.1 (name, key)
    ∙ ap (λ (b : Bool). cond b (Some e.1) (get rows (name, key))) (other_place name table key e.0 other)

put_there : (table : Name) (es : List Entry) (rows : RowMap) (key : List Cell) → Rises key_cmp es
    → rows_of_table (put_all table es rows) table key ≡ or_there (find key_cmp key es) (rows_of_table rows table key)
put_there table [] rows key rise = refl
put_there table (e ∷ es) rows key rise =
    put_there table es (insert rows (table, e.0) e.1) key rise.1
    ∙ ap (or_there (find key_cmp key es)) (get-insert place_cmp_total rows (table, e.0) e.1 (table, key) ∙ ap (λ (b : Bool). cond b (Some e.1) (get rows (table, key))) (same_place table key e.0))
    ∙ go (is_eq (key_cmp key e.0)) refl where
      go : (b : Bool) → is_eq (key_cmp key e.0) ≡ b
          → or_there (find key_cmp key es) (cond b (Some e.1) (get rows (table, key))) ≡ or_there (cond b (Some e.1) (find key_cmp key es)) (get rows (table, key))
      go true same =
          let here : key ≡ e.0 = same_key key e.0 same in
          let none : find key_cmp key es ≡ None = subst (λ (k : List Cell). find key_cmp k es ≡ None) (sym here) (none_below e.0 es rise.0) in
          ap (λ (o : Option (List Cell)). or_there o (Some e.1)) none
      go false same = refl

-- the rows before those that are left came
pub record CopyingRows (rows : RowMap) (table : Name) (old now : Marked) (left : List Entry) : Type 0 where
  pub passed : List Entry
  pub parts : table_rows rows table ≡ passed ++ left
  pub now_is : now ≡ at_mark (put_all table passed old.rows)

pub rows_start : (rows : RowMap) (table : Name) (old : Marked) (left : List Entry) → old ≡ at_mark old.rows → left ≡ table_rows rows table → CopyingRows rows table old old left
rows_start rows table old left fresh all = record { passed = []; parts = sym all; now_is = fresh }

pub rows_fresh : (rows : RowMap) (table : Name) (old now : Marked) (left : List Entry) → CopyingRows rows table old now left → now ≡ at_mark now.rows
rows_fresh rows table old now left so = marked_here now (put_all table so.passed old.rows) so.now_is

pub rows_on : (rows : RowMap) (table : Name) (old now new : Marked) (left rest : List Entry) (key row : List Cell) → CopyingRows rows table old now left → left ≡ (key, row) ∷ rest
    → new ≡ at_mark (insert now.rows (table, key) row) → CopyingRows rows table old new rest
rows_on rows table old now new left rest key row so split put = record {
  passed = so.passed ++ (key, row) ∷ [];
  parts = so.parts ∙ ap (λ (l : List Entry). so.passed ++ l) split ∙ sym (append_assoc so.passed ((key, row) ∷ []) rest);
  now_is = put ∙ ap (λ (m : Marked). at_mark (insert m.rows (table, key) row)) so.now_is ∙ ap at_mark (sym (put_more table so.passed (key, row) old.rows));
}

pub rows_end : (rows : RowMap) (table : Name) (old now : Marked) (left : List Entry) → CopyingRows rows table old now left → left ≡ [] → HasCopied rows table old.rows now.rows
rows_end rows table old now left so none =
    let all : so.passed ≡ table_rows rows table = sym (append-nil so.passed) ∙ ap (λ (l : List Entry). so.passed ++ l) (sym none) ∙ sym so.parts in
    let is : now.rows ≡ put_all table (table_rows rows table) old.rows = ap (λ (m : Marked). m.rows) so.now_is ∙ ap (λ (l : List Entry). put_all table l old.rows) all in
    record {
      table_is = λ key. ap (λ (m : RowMap). rows_of_table m table key) is ∙ put_there table (table_rows rows table) old.rows key (table_rows-rise rows table)
          ∙ ap (λ (o : Option (List Cell)). or_there o (rows_of_table old.rows table key)) (sym (get-table_rows rows table key));
      others = λ name key other. ap (λ (m : RowMap). rows_of_table m name key) is ∙ put_others table (table_rows rows table) old.rows name key other;
    }

-- ---- the tables

pub none_copied : (rows : RowMap) → IsCopyOf rows [] empty
none_copied rows = λ name key. get-empty place_cmp (name, key)

among_more : (name : Name) (names : List Name) (other : Name) → is_among name (names ++ other ∷ []) ≡ (is_among name names || bytes_eq name other)
among_more name [] other = go (bytes_eq name other) where
  go : (b : Bool) → (b || false) ≡ (false || b)
  go true = refl
  go false = refl
among_more name (n ∷ names) other = go (bytes_eq name n) (among_more name names other) where
  go : (b : Bool) → is_among name (names ++ other ∷ []) ≡ (is_among name names || bytes_eq name other)
      → (b || is_among name (names ++ other ∷ [])) ≡ ((b || is_among name names) || bytes_eq name other)
  go true h = refl
  go false h = h

-- two names are not the same where they differ
apart : (a b : Name) → a ≡ b → bytes_eq a b ≡ false → ⊥
apart a b same differ =
    let itself : bytes_eq a b ≡ true = subst (λ (x : Name). bytes_eq a x ≡ true) same (bytes_itself a) in
    let both : true ≡ false = sym itself ∙ differ in
    cc

twice : (o : Option (List Cell)) → or_there o o ≡ o
twice None = refl
twice (Some r) = refl

or_none : (o : Option (List Cell)) → or_there o None ≡ o
or_none None = refl
or_none (Some r) = refl

-- with one table more
with_one_more : (name table : Name) (among same : Bool) (row mid new : Option (List Cell)) → bytes_eq name table ≡ same → mid ≡ cond among row None
    → ((name ≡ table) → new ≡ or_there row mid) → (¬ (name ≡ table) → new ≡ mid) → new ≡ cond (among || same) row None
with_one_more name table true true row mid new e is here other = here (same_name name table e) ∙ ap (or_there row) is ∙ twice row
with_one_more name table false true row mid new e is here other = here (same_name name table e) ∙ ap (or_there row) is ∙ or_none row
with_one_more name table true false row mid new e is here other = other (λ same. apart name table same e) ∙ is
with_one_more name table false false row mid new e is here other = other (λ same. apart name table same e) ∙ is

one_more_copied : (rows : RowMap) (names : List Name) (table : Name) (mid new : RowMap) → IsCopyOf rows names mid → HasCopied rows table mid new → IsCopyOf rows (names ++ table ∷ []) new
one_more_copied rows names table mid new copy copied = λ name key.
    with_one_more name table (is_among name names) (bytes_eq name table) (rows_of_table rows name key) (rows_of_table mid name key) (rows_of_table new name key) refl (copy name key)
    (λ same. subst (λ (n : Name). rows_of_table new n key ≡ or_there (rows_of_table rows n key) (rows_of_table mid n key)) (sym same) (copied.table_is key))
    (λ other. copied.others name key other)
    ∙ ap (λ (b : Bool). cond b (rows_of_table rows name key) None) (sym (among_more name names table))

-- the rows of the tables before those that are left are there
pub record CopyingTables (rows : RowMap) (tables left : List Table) (copy : Marked) : Type 0 where
  pub passed : List Table
  pub parts : tables ≡ passed ++ left
  pub fresh : copy ≡ at_mark copy.rows
  pub copied : IsCopyOf rows (map table_name passed) copy.rows

pub tables_start : (rows : RowMap) (tables : List Table) (copy : Marked) → copy.rows ≡ empty → copy.marked ≡ empty → copy.trail ≡ [] → CopyingTables rows tables tables copy
tables_start rows tables copy none marked trail = record {
  passed = [];
  parts = refl;
  fresh = marked_here copy empty (marked_by copy none marked trail);
  copied = subst (λ (m : RowMap). IsCopyOf rows [] m) (sym none) (none_copied rows);
}

pub tables_on : (rows : RowMap) (tables left rest : List Table) (table : Table) (copy new : Marked) → CopyingTables rows tables left copy → left ≡ table ∷ rest → new ≡ at_mark new.rows
    → HasCopied rows table.name copy.rows new.rows → CopyingTables rows tables rest new
tables_on rows tables left rest table copy new so split fresh copied = record {
  passed = so.passed ++ table ∷ [];
  parts = so.parts ∙ ap (λ (l : List Table). so.passed ++ l) split ∙ sym (append_assoc so.passed (table ∷ []) rest);
  fresh = fresh;
  copied = subst (λ (l : List Name). IsCopyOf rows l new.rows) (sym (map-append table_name so.passed (table ∷ [])))
      (one_more_copied rows (map table_name so.passed) table.name copy.rows new.rows so.copied copied);
}

pub tables_end : (rows : RowMap) (tables left : List Table) (copy : Marked) → CopyingTables rows tables left copy → left ≡ [] → IsCopyOf rows (map table_name tables) copy.rows
tables_end rows tables left copy so none =
    let all : so.passed ≡ tables = sym (append-nil so.passed) ∙ ap (λ (l : List Table). so.passed ++ l) (sym none) ∙ sym so.parts in
    subst (λ (l : List Table). IsCopyOf rows (map table_name l) copy.rows) all so.copied

-- ---- all tables of a catalog

none_named : (name : Name) (tables : List Table) → is_among name (map table_name tables) ≡ false → find_in (λ t. bytes_eq name t.name) tables ≡ None
none_named name [] e = refl
none_named name (t ∷ tables) e = go (bytes_eq name t.name) refl e (none_named name tables) where
  go : (b : Bool) → bytes_eq name t.name ≡ b → (b || is_among name (map table_name tables)) ≡ false
      → (is_among name (map table_name tables) ≡ false → find_in (λ x. bytes_eq name x.name) tables ≡ None)
      → cond b (Some t) (find_in (λ x. bytes_eq name x.name) tables) ≡ None
  go true is none rest = cc
  go false is none rest = rest none

no_row : (o : Option (List Cell)) → ((row : List Cell) → o ≡ Some row → ⊥) → o ≡ None
no_row None never = refl
no_row (Some row) never = absurd (never row refl)

pub whole_copy : (catalog : Lists) (rows copy : RowMap) → RowsFit catalog rows → IsCopyOf rows (map table_name catalog.tables) copy → copy ≡ rows
whole_copy catalog rows copy fit is = same_map place_cmp_total exact_places copy rows (λ p. is p.0 p.1 ∙ go p (is_among p.0 (map table_name catalog.tables)) refl) where
  gone : (name : Name) → is_among name (map table_name catalog.tables) ≡ false → IsSome (table_named catalog name) → ⊥
  gone name e some = let none : IsSome {T = Table} None = subst (λ (o : Option Table). IsSome o) (none_named name catalog.tables e) some in cc

  go : (p : Place) (b : Bool) → is_among p.0 (map table_name catalog.tables) ≡ b → cond b (rows_of_table rows p.0 p.1) None ≡ get rows p
  go p true e = refl
  go p false e = sym (no_row (get rows p) (λ row there. gone p.0 e (fit.there p.0 p.1 row there)))

-- a copy of all rows is the rows, at the mark
pub copied_whole : (catalog : Lists) (rows : RowMap) (copy : Marked) → RowsFit catalog rows → copy ≡ at_mark copy.rows → IsCopyOf rows (map table_name catalog.tables) copy.rows
    → copy ≡ at_mark rows
copied_whole catalog rows copy fit fresh is = fresh ∙ ap at_mark (whole_copy catalog rows copy.rows fit is)
