-- The rows of tables, read row by row.
use Rattle.std.proofs.Common.{◌≡◌, ◌≢◌, ◌≤◌, ◌<◌, ◌^◌, ◌+◌, ◌&&◌, ℕ, zero, suc, Bool, true, false, cond, T, List, [], ◌∷◌, ◌++◌, length, map, Option, Some, None, IsSome, refl, sym, ap, subst, ◌∙◌, append_assoc, length-append, arith, inl, inr, ◌⊎◌}
use Rattle.std.proofs.lemmas.List.{append-nil, map-append}
use Rattle.std.proofs.lemmas.Slice.Eq.{bytes_eq-Decides}
use Rattle.std.specs.Cmp.{Equal-is}
use Rattle.std.specs.declared.cmp.Ordering.{Ordering}
use Rattle.std.specs.declared.cmp.Ordering.TheVariants.{Less, Equal, Greater}
use Rattle.std.specs.FinMap.{empty, find, get, insert, is_sorted, get-empty, get-insert}
use Rattle.std.specs.FinMap.Entries.{same_entries}
use Rattle.std.specs.Int.{w32, to_be_bytes}
use Rattle.std.specs.List.{flat_map, AllByRecursion}
use Rattle.std.specs.Ordering.{eq_by_cmp, is_eq, is_lt}
use Rattle.std.specs.Prelude.{◌↔◌, IsTrue, MatchOption, bytes_eq}
use Rattle.sr_base.proofs.Exact.{exact_keys}
use Rattle.sr_base.specs.Fields.{name_spelling, IsListOf}
use Rattle.sr_base.specs.Reading.{list_at, number_at}
use Rattle.sr_base.specs.Inner.Order.{key_cmp_total}
use Rattle.sr_base.specs.Order.{key_cmp}
use Rattle.sr_base.specs.Values.{IsValue, row_spelling}
use Rattle.sr_base.specs.declared.value.Value.{Value as Cell}
use Rattle.sr_catalog_schema.specs.Catalogs.{Lists}
use Rattle.sr_catalog_schema.specs.Members.{table_name}
use Rattle.sr_catalog_schema.specs.Names.{named}
use Rattle.sr_catalog_schema.specs.declared.table.Column.{Column}
use Rattle.sr_catalog_schema.specs.declared.table.Table.{Table}
use Rattle.sr_exec_dml.proofs.Afterwards.{same_place}
use Rattle.sr_exec_dml.proofs.Applied.{found_named}
use Rattle.sr_exec_dml.proofs.Folding.{same_key}
use Rattle.sr_exec_dml.specs.Fitting.{RowsFit}
use Rattle.sr_exec_dml.specs.Statements.{entry_of}
use Rattle.sr_exec_where.specs.Keys.{key_of}
use Rattle.sr_exec_fits.specs.Rows.{IsRow, is_row, may_hold}
use Rattle.sr_logform.specs.Entries.{table_spelling}
use Rattle.sr_logform.specs.Rules.{AreDistinct}
use Rattle.sr_rows.proofs.Gathering.{exact_places}
use Rattle.sr_rows.proofs.Listing.{get-table_rows, is_below, none_below, table_rows-rise}
use Rattle.sr_rows.specs.Inner.Marks.{place_cmp_total}
use Rattle.sr_rows.specs.Inner.Steps.{at_mark}
use Rattle.sr_rows.specs.Inner.Walks.{Rises}
use Rattle.sr_rows.specs.Marks.{place_cmp, rows_of_table, Marked, Place, RowMap}
use Rattle.sr_rows.specs.Walks.{table_rows, Entry, IsPast}
use Rattle.sr_site.specs.Files.{bytes_of}
use Rattle.sr_site.specs.Seen.{Seen}
use Rattle.sr_site.specs.declared.file.File.{File}
use Rattle.sr_snapshot.specs.Parts.{rows_of}
use Rattle.sr_snapshot.specs.Snapshots.{rows_in}
use Rattle.sr_snapshot.specs.declared.fault.SnapFault.{SnapFault}
use Rattle.sr_snapshot.specs.declared.fault.SnapFault.TheVariants.{Disk, Long, Damaged, Memory}
use Rattle.sr_snapshot_read.proofs.Heres.{here_cause}
use Rattle.sr_snapshot_read.proofs.RowsRead.{taken_nothing}
use Rattle.sr_snapshot_read.proofs.Windows.{cause_as, cause_behind, taken_on}
use Rattle.sr_snapshot_read.specs.Inner.Damages.{NeverBreaks}
use Rattle.sr_snapshot_read.specs.Damages.{ArePlaced, AreRead, IsPlaced, NameBreaks, RowsBreak, TablesBreak, BehindPart, FieldBreaks}
use Rattle.sr_snapshot_read.specs.Places.{value_in}
use Rattle.sr_snapshot_read.specs.Inner.Reading.{HasTaken, IsOver, TakeCause}
use Rattle.sr_snapshot_read.specs.Inner.RowsRead.{HasTakenRow}
use Rattle.sr_snapshot_read.specs.Inner.TablesRead.{AreHeldIn, HasTakenPlaced, HasTakenRows, HasTakenTable, IsHeldBy, IsHeldIn, IsReadTable, RefusesRow, RowBreaks, its_rows, with_row, with_rows}
use Rattle.sr_snapshot_read.specs.Inner.Views.{View}

abbrev Row : Type 0
Row = List Cell

-- ---- one row

and_later : (a b : Bool) → (a && b) ≡ true → b ≡ true
and_later true b is = is
and_later false b is = cc

-- a row that fits has a value for each column
same_length : (columns : List Column) (row : Row) → IsRow columns row → length row ≡ length columns
same_length [] [] is = refl
same_length [] (v ∷ row) is = cc
same_length (c ∷ columns) [] is = cc
same_length (c ∷ columns) (v ∷ row) is = let rest = same_length columns row (and_later (may_hold c v) (is_row columns row) is) in omega (arith, rest)

row_misfits : (t : Table) (after : Option Row) (row : Row) → IsListOf IsValue row → ¬ (IsPlaced t after row) → (bytes rest : List ℕ) → bytes ≡ row_spelling row ++ rest → RowBreaks t after bytes (length bytes)
row_misfits t after row is misfit bytes rest parts = inr (record { row = row; is = is; misfit = misfit; there = record { rest = rest; parts = parts; then = tt }; here = refl })

no_place : (t : Table) (after : Option Row) (width : ℕ) (row : Row) (found : Option Row) → width ≡ length t.columns → MatchOption found (length row ≢ width) (λ r. r ≡ row) → ((r : Row) → found ≡ Some r → ¬ (IsPlaced t after r)) → ¬ (IsPlaced t after row)
no_place t after width row None wide differs none placed = differs (same_length t.columns row placed.0 ∙ sym wide)
no_place t after width row (Some r) wide same none placed = none r refl (subst (λ (x : Row). IsPlaced t after x) (sym same) placed)

pub field_cause : (file : File) (t : Table) (after : Option Row) (before now : Seen) (view : View) (fault : SnapFault) → TakeCause file (FieldBreaks (list_at value_in)) before now view fault → TakeCause file (RowBreaks t after) before now view fault
field_cause file t after before now view fault cause = cause_as file (FieldBreaks (list_at value_in)) (RowBreaks t after) before now view fault (λ bytes left broken. inl broken) cause

pub placed_cause : (file : File) (t : Table) (after : Option Row) (width : ℕ) (before now : Seen) (v0 v1 : View) (place : ℕ) (found : Option Row) (fault : SnapFault) → width ≡ length t.columns → place ≡ v0.place → v0.place + length v0.held ≤ v0.size
    → (IsTrue before.observable → IsOver v0 (bytes_of before.files file)) → HasTakenRow file width before now v0 v1 found → RefusesRow t after found place fault → TakeCause file (RowBreaks t after) before now v0 fault
placed_cause file t after width before now v0 v1 place found Disk wide here within over row cause = absurd cause
placed_cause file t after width before now v0 v1 place found (Long size limit) wide here within over row cause = absurd cause
placed_cause file t after width before now v0 v1 place found (Damaged at) wide here within over row cause =
    here_cause file (RowBreaks t after) (row_spelling row.row) before now v0 v1 place (Damaged at) (ap (λ (n : ℕ). Damaged n) cause.0) here within over row.taken
    (row_misfits t after row.row row.is (no_place t after width row.row found wide row.found_is cause.1))
placed_cause file t after width before now v0 v1 place found Memory wide here within over row cause = (row.taken.read, row.taken.steady)

pub placed_taken : (file : File) (t : Table) (width : ℕ) (before now : Seen) (v0 v1 : View) (after then found : Option Row) (key row : Row) (rows more : Marked) → HasTakenRow file width before now v0 v1 found → found ≡ Some row → IsPlaced t after row
    → key ≡ key_of t.key row → then ≡ Some key → more ≡ at_mark (insert rows.rows (t.name, key) row) → HasTakenPlaced file t before now v0 v1 after then rows more
placed_taken file t width before now v0 v1 after then found key row rows more taken is placed key_is then_is put =
    let same : row ≡ taken.row = subst (λ (o : Option Row). MatchOption o (length taken.row ≢ width) (λ r. r ≡ taken.row)) is taken.found_is in
    record {
      row = row;
      taken = subst (λ (r : Row). HasTaken file (row_spelling r) before now v0 v1) (sym same) taken.taken;
      is = subst (λ (r : Row). IsListOf IsValue r) (sym same) taken.is;
      placed = placed;
      then_is = then_is ∙ ap (λ (k : Row). Some k) key_is;
      put = put ∙ ap (λ (k : Row). at_mark (insert rows.rows (t.name, k) row)) key_is;
    }

-- a row that was found, where it has no place, and where it has one
found_row : (found : Option Row) (row r : Row) → found ≡ Some row → found ≡ Some r → r ≡ row
found_row found row r one other = let same : Some r ≡ Some row = sym other ∙ one in cc

not_both : (b : Bool) → b ≡ true → b ≡ false → ⊥
not_both b one other = cc

pub none_found : (t : Table) (after found : Option Row) (place : ℕ) → ((row : Row) → found ≡ Some row → ⊥) → RefusesRow t after found place (Damaged place)
none_found t after found place none = (refl, λ row is placed. none row is)

pub misfit_found : (t : Table) (after found : Option Row) (row values : Row) (columns : List Column) (place : ℕ) (b : Bool) → found ≡ Some row → columns ≡ t.columns → values ≡ row → IsTrue b ↔ IsRow columns values → b ≡ false
    → RefusesRow t after found place (Damaged place)
misfit_found t after found row values columns place b is same_columns same_values test off = (
  refl,
  λ r is_r placed.
      let fits : IsRow columns values = subst (λ (l : List Column). IsRow l values) (sym same_columns) (subst (λ (v : Row). IsRow t.columns v) (found_row found row r is is_r ∙ sym same_values) placed.0) in
      not_both b (test.1 fits) off,
)

pub early_found : (t : Table) (after found : Option Row) (row values key : Row) (places : List ℕ) (place : ℕ) (b : Bool) → found ≡ Some row → places ≡ t.key → values ≡ row → key ≡ key_of places values → IsTrue b ↔ IsPast after key → b ≡ false
    → RefusesRow t after found place (Damaged place)
early_found t after found row values key places place b is same_places same_values key_is test off = (
  refl,
  λ r is_r placed.
      let own : key_of t.key r ≡ key = ap (λ (v : Row). key_of t.key v) (found_row found row r is is_r ∙ sym same_values) ∙ ap (λ (l : List ℕ). key_of l values) (sym same_places) ∙ sym key_is in
      not_both b (test.1 (subst (λ (k : Row). IsPast after k) own placed.1)) off,
)

pub has_place : (t : Table) (after : Option Row) (row values others key : Row) (columns : List Column) (places : List ℕ) (b d : Bool) → columns ≡ t.columns → values ≡ row → places ≡ t.key → others ≡ row → key ≡ key_of places others
    → IsTrue b ↔ IsRow columns values → b ≡ true → IsTrue d ↔ IsPast after key → d ≡ true → IsPlaced t after row
has_place t after row values others key columns places b d same_columns same_values same_places same_others key_is fits kept past late =
    let own : key ≡ key_of t.key row = key_is ∙ ap (λ (l : List ℕ). key_of l others) same_places ∙ ap (λ (v : Row). key_of t.key v) same_others in
    (subst (λ (l : List Column). IsRow l row) same_columns (subst (λ (v : Row). IsRow columns v) same_values (fits.0 kept)), subst (λ (k : Row). IsPast after k) own (past.0 late))

pub own_key : (t : Table) (row others key : Row) (places : List ℕ) → places ≡ t.key → others ≡ row → key ≡ key_of places others → key ≡ key_of t.key row
own_key t row others key places same_places same_others key_is = key_is ∙ ap (λ (l : List ℕ). key_of l others) same_places ∙ ap (λ (v : Row). key_of t.key v) same_others

pub is_less : (o : Ordering) → IsTrue (is_lt o) ↔ (o ≡ Less)
is_less Less = (λ t. refl, λ is. refl)
is_less Equal = (λ t. absurd (cc), λ is. absurd (cc))
is_less Greater = (λ t. absurd (cc), λ is. absurd (cc))

-- ---- rows, one after the other

all_more : {A : Type 0} (P : A → Type 0) (xs : List A) (x : A) → AllByRecursion P xs → P x → AllByRecursion P (xs ++ x ∷ [])
all_more P [] x all is = (is, tt)
all_more P (y ∷ xs) x all is = (all.0, all_more P xs x all.1 is)

flat_more : {A : Type 0} (f : A → List ℕ) (xs : List A) (x : A) → flat_map f xs ++ f x ≡ flat_map f (xs ++ x ∷ [])
flat_more f [] x = sym (append-nil (f x))
flat_more f (y ∷ xs) x = append_assoc (f y) (flat_map f xs) (f x) ∙ ap (λ (l : List ℕ). f y ++ l) (flat_more f xs x)

with_more : (rows : RowMap) (t : Table) (found : List Row) (row : Row) → with_rows rows t (found ++ row ∷ []) ≡ with_row (with_rows rows t found) t row
with_more rows t [] row = refl
with_more rows t (x ∷ found) row = with_more (with_row rows t x) t found row

-- the key of the last row, or the one before all of them
abbrev last_after : Table → Option Row → List Row → Option Row
last_after t after [] = after
last_after t after (row ∷ found) = last_after t (Some (key_of t.key row)) found

last_more : (t : Table) (after : Option Row) (found : List Row) (row : Row) → last_after t after (found ++ row ∷ []) ≡ Some (key_of t.key row)
last_more t after [] row = refl
last_more t after (x ∷ found) row = last_more t (Some (key_of t.key x)) found row

placed_more : (t : Table) (after : Option Row) (found : List Row) (row : Row) → ArePlaced t after found → IsPlaced t (last_after t after found) row → ArePlaced t after (found ++ row ∷ [])
placed_more t after [] row all placed = (placed, tt)
placed_more t after (x ∷ found) row all placed = (all.0, placed_more t (Some (key_of t.key x)) found row all.1 placed)

pub record ReadingRows (file : File) (t : Table) (count left : ℕ) (before now : Seen) (v0 v1 : View) (after : Option Row) (rows more : Marked) : Type 0 where
  pub found : List Row
  pub taken : HasTaken file (flat_map row_spelling found) before now v0 v1
  pub are : AllByRecursion (IsListOf IsValue) found
  pub placed : ArePlaced t None found
  pub after_is : after ≡ last_after t None found
  pub counted : length found + left ≡ count
  pub put : more ≡ at_mark (with_rows rows.rows t found)

pub rows_begin : (file : File) (t : Table) (count : ℕ) (seen : Seen) (view : View) (after : Option Row) (rows : Marked) → (IsTrue seen.observable → IsOver view (bytes_of seen.files file)) → after ≡ None → rows ≡ at_mark rows.rows
    → ReadingRows file t count count seen seen view view after rows rows
rows_begin file t count seen view after rows over none marked = record {
  found = [];
  taken = taken_nothing file seen view over;
  are = tt;
  placed = tt;
  after_is = none;
  counted = omega arith;
  put = marked;
}

marked_here : (m : Marked) (rows : RowMap) → m ≡ at_mark rows → m ≡ at_mark m.rows
marked_here m rows is = is ∙ ap (λ (r : RowMap). at_mark r) (sym (ap (λ (x : Marked). x.rows) is))

pub rows_marked : (file : File) (t : Table) (count left : ℕ) (before now : Seen) (v0 v1 : View) (after : Option Row) (rows more : Marked) → ReadingRows file t count left before now v0 v1 after rows more → more ≡ at_mark more.rows
rows_marked file t count left before now v0 v1 after rows more reading = marked_here more (with_rows rows.rows t reading.found) reading.put

pub rows_more : (file : File) (t : Table) (count left rest : ℕ) (before middle now : Seen) (v0 v1 v2 : View) (after then : Option Row) (rows more new : Marked) → left ≡ rest + 1 → ReadingRows file t count left before middle v0 v1 after rows more
    → HasTakenPlaced file t middle now v1 v2 after then more new → ReadingRows file t count rest before now v0 v2 then rows new
rows_more file t count left rest before middle now v0 v1 v2 after then rows more new one reading next = record {
  found = reading.found ++ next.row ∷ [];
  taken = subst (λ (l : List ℕ). HasTaken file l before now v0 v2) (flat_more row_spelling reading.found next.row) (taken_on file (flat_map row_spelling reading.found) (row_spelling next.row) before middle now v0 v1 v2 reading.taken next.taken);
  are = all_more (IsListOf IsValue) reading.found next.row reading.are next.is;
  placed = placed_more t None reading.found next.row reading.placed (subst (λ (o : Option Row). IsPlaced t o next.row) reading.after_is next.placed);
  after_is = next.then_is ∙ sym (last_more t None reading.found next.row);
  counted = omega (arith, reading.counted, one, length-append reading.found (next.row ∷ []));
  put = next.put ∙ ap (λ (m : Marked). at_mark (with_row m.rows t next.row)) reading.put ∙ ap (λ (r : RowMap). at_mark r) (sym (with_more rows.rows t reading.found next.row));
}

pub rows_end : (file : File) (t : Table) (count left : ℕ) (before now : Seen) (v0 v1 : View) (after : Option Row) (rows more : Marked) → left ≡ 0 → ReadingRows file t count left before now v0 v1 after rows more
    → HasTakenRows file t count before now v0 v1 rows more
rows_end file t count left before now v0 v1 after rows more none reading = record {
  found = reading.found;
  taken = reading.taken;
  are = record { count_is = omega (arith, reading.counted, none); are = reading.are; placed = reading.placed };
  put = reading.put;
}

rows_break : (t : Table) (after : Option Row) (found : List Row) (bytes rest : List ℕ) (left count : ℕ) → AllByRecursion (IsListOf IsValue) found → ArePlaced t after found → bytes ≡ flat_map row_spelling found ++ rest
    → RowBreaks t (last_after t after found) rest left → length found < count → RowsBreak t after count bytes left
rows_break t after found bytes rest left zero are placed is broken lt = absurd (omega (arith, lt))
rows_break t after [] bytes rest left (suc count) are placed is broken lt =
    let here : RowBreaks t after bytes left = subst (λ (l : List ℕ). RowBreaks t after l left) (sym is) broken in
    elim here [
      | inl field ↦ inl field
      | inr misfits ↦ inr (inl misfits)
    ]
rows_break t after (row ∷ found) bytes rest left (suc count) are placed is broken lt =
    inr (inr (
      row,
      are.0,
      placed.0,
      record {
        rest = flat_map row_spelling found ++ rest;
        parts = is ∙ append_assoc (row_spelling row) (flat_map row_spelling found) rest;
        then = rows_break t (Some (key_of t.key row)) found (flat_map row_spelling found ++ rest) rest left count are.1 placed.1 refl broken (omega (arith, lt));
      },
    ))

pub rows_cause : (file : File) (t : Table) (count left : ℕ) (before middle now : Seen) (v0 v1 : View) (after : Option Row) (rows more : Marked) (fault : SnapFault) → 0 < left → ReadingRows file t count left before middle v0 v1 after rows more
    → TakeCause file (RowBreaks t after) middle now v1 fault → TakeCause file (RowsBreak t None count) before now v0 fault
rows_cause file t count left before middle now v0 v1 after rows more fault some reading cause =
    cause_behind file (RowBreaks t after) (RowsBreak t None count) (flat_map row_spelling reading.found) before middle now v0 v1 fault reading.taken
    (λ bytes rest place is broken.
    rows_break t None reading.found bytes rest place count reading.are reading.placed is (subst (λ (o : Option Row). RowBreaks t o rest place) reading.after_is broken) (omega (arith, some, reading.counted))) cause

-- ---- one table

abbrev TableBreaks : Table → List ℕ → ℕ → Type 0
TableBreaks t = TablesBreak (t ∷ []) NeverBreaks

pub name_cause : (file : File) (t : Table) (before now : Seen) (view : View) (fault : SnapFault) → TakeCause file (NameBreaks t.name) before now view fault → TakeCause file (TablesBreak (t ∷ []) NeverBreaks) before now view fault
name_cause file t before now view fault cause = cause_as file (NameBreaks t.name) (TableBreaks t) before now view fault (λ bytes left broken. inl broken) cause

pub count_cause : (file : File) (t : Table) (before middle now : Seen) (v0 v1 : View) (fault : SnapFault) → HasTaken file (name_spelling t.name) before middle v0 v1 → TakeCause file (FieldBreaks (number_at w32)) middle now v1 fault
    → TakeCause file (TablesBreak (t ∷ []) NeverBreaks) before now v0 fault
count_cause file t before middle now v0 v1 fault taken cause =
    cause_behind file (FieldBreaks (number_at w32)) (TableBreaks t) (name_spelling t.name) before middle now v0 v1 fault taken (λ bytes rest left is broken. inr (record { rest = rest; parts = is; then = inl broken })) cause

pub its_cause : (file : File) (t : Table) (count : ℕ) (before middle later now : Seen) (v0 v1 v2 : View) (fault : SnapFault) → count < 2 ^ 32 → HasTaken file (name_spelling t.name) before middle v0 v1 → HasTaken file (to_be_bytes w32 count) middle later v1 v2
    → TakeCause file (RowsBreak t None count) later now v2 fault → TakeCause file (TablesBreak (t ∷ []) NeverBreaks) before now v0 fault
its_cause file t count before middle later now v0 v1 v2 fault few name counted cause =
    cause_behind file (RowsBreak t None count) (TableBreaks t) (name_spelling t.name ++ to_be_bytes w32 count) before later now v0 v2 fault (taken_on file (name_spelling t.name) (to_be_bytes w32 count) before middle later v0 v1 v2 name counted)
    (λ bytes rest left is broken.
    inr (record {
      rest = to_be_bytes w32 count ++ rest;
      parts = is ∙ append_assoc (name_spelling t.name) (to_be_bytes w32 count) rest;
      then = inr (count, few, record { rest = rest; parts = refl; then = inl broken });
    })) cause

pub table_taken : (file : File) (t : Table) (count : ℕ) (before middle later now : Seen) (v0 v1 v2 v3 : View) (rows more : Marked) → count < 2 ^ 32 → HasTaken file (name_spelling t.name) before middle v0 v1
    → HasTaken file (to_be_bytes w32 count) middle later v1 v2 → HasTakenRows file t count later now v2 v3 rows more → HasTakenTable file t before now v0 v3 rows more
table_taken file t count before middle later now v0 v1 v2 v3 rows more few name counted its =
    let same : count ≡ length its.found = sym its.are.count_is in
    let behind = taken_on file (to_be_bytes w32 count) (flat_map row_spelling its.found) middle later now v1 v2 v3 counted its.taken in
    let whole = taken_on file (name_spelling t.name) (to_be_bytes w32 count ++ flat_map row_spelling its.found) before middle now v0 v1 v3 name behind in
    record {
      found = its.found;
      taken = subst (λ (n : ℕ). HasTaken file (name_spelling t.name ++ (to_be_bytes w32 n ++ flat_map row_spelling its.found)) before now v0 v3) same whole;
      few = subst (λ (n : ℕ). n < 2 ^ 32) same few;
      are = subst (λ (n : ℕ). AreRead t n its.found) same its.are;
      put = its.put;
    }

-- ---- the rows of a table among those of all

-- entries that rise are those with the same rows
both : (a b : Bool) → T a → T b → T (a && b)
both true b one other = other
both false b one other = absurd one

below : (k : Row) (es : List Entry) → AllByRecursion (λ (e : Entry). key_cmp k e.0 ≡ Less) es → T (is_below key_cmp k es)
below k [] all = tt
below k (e ∷ es) all = both (is_lt (key_cmp k e.0)) (is_below key_cmp k es) (subst (λ o. T (is_lt o)) (sym all.0) tt) (below k es all.1)

in_order : (es : List Entry) → Rises key_cmp es → T (is_sorted key_cmp es)
in_order [] rise = tt
in_order (e ∷ es) rise = both (is_below key_cmp e.0 es) (is_sorted key_cmp es) (below e.0 es rise.0) (in_order es rise.1)

same_rising : (es fs : List Entry) → Rises key_cmp es → Rises key_cmp fs → ((q : Row) → find key_cmp q es ≡ find key_cmp q fs) → es ≡ fs
same_rising es fs one other same = same_entries key_cmp key_cmp_total exact_keys es fs (in_order es one) (in_order fs other) same

same_table : (rows other : RowMap) (name : List ℕ) → ((key : Row) → rows_of_table rows name key ≡ rows_of_table other name key) → table_rows rows name ≡ table_rows other name
same_table rows other name same =
    same_rising (table_rows rows name) (table_rows other name) (table_rows-rise rows name) (table_rows-rise other name) (λ q. sym (get-table_rows rows name q) ∙ same q ∙ get-table_rows other name q)

other_place : (name table : List ℕ) (key place : Row) → ¬ (name ≡ table) → eq_by_cmp place_cmp (name, key) (table, place) ≡ false
other_place name table key place other = go (eq_by_cmp place_cmp (name, key) (table, place)) refl
  where
    go : (b : Bool) → eq_by_cmp place_cmp (name, key) (table, place) ≡ b → b ≡ false
    go true is = absurd (other (ap (λ (p : Place). p.0) (exact_places (name, key) (table, place) ((Equal-is (place_cmp (name, key) (table, place))).0 is))))
    go false is = refl

-- the rows of another table stay
with_other : (rows : RowMap) (t : Table) (found : List Row) (name : List ℕ) (key : Row) → ¬ (name ≡ t.name) → rows_of_table (with_rows rows t found) name key ≡ rows_of_table rows name key
with_other rows t [] name key other = refl
with_other rows t (row ∷ found) name key other =
    with_other (with_row rows t row) t found name key other ∙ get-insert place_cmp_total rows (t.name, key_of t.key row) row (name, key)
    ∙ ap (λ (b : Bool). cond b (Some row) (get rows (name, key))) (other_place name t.name key (key_of t.key row) other)

-- rows under their keys
abbrev keyed : Table → List Row → List Entry
keyed t found = map (entry_of t) found

abbrev or_there : Option Row → Option Row → Option Row
or_there None there = there
or_there (Some row) there = Some row

with_own : (rows : RowMap) (t : Table) (found : List Row) (key : Row) → Rises key_cmp (keyed t found) → rows_of_table (with_rows rows t found) t.name key ≡ or_there (find key_cmp key (keyed t found)) (rows_of_table rows t.name key)
with_own rows t [] key rise = refl
with_own rows t (row ∷ found) key rise =
    with_own (with_row rows t row) t found key rise.1
    ∙ ap (or_there (find key_cmp key (keyed t found))) (get-insert place_cmp_total rows (t.name, key_of t.key row) row (t.name, key) ∙ ap (λ (b : Bool). cond b (Some row) (get rows (t.name, key))) (same_place t.name key (key_of t.key row)))
    ∙ go (is_eq (key_cmp key (key_of t.key row))) refl
  where
    go : (b : Bool) → is_eq (key_cmp key (key_of t.key row)) ≡ b
        → or_there (find key_cmp key (keyed t found)) (cond b (Some row) (get rows (t.name, key))) ≡ or_there (cond b (Some row) (find key_cmp key (keyed t found))) (get rows (t.name, key))
    go true same =
        let here : key ≡ key_of t.key row = same_key key (key_of t.key row) same in
        let none : find key_cmp key (keyed t found) ≡ None = subst (λ (k : Row). find key_cmp k (keyed t found) ≡ None) (sym here) (none_below (key_of t.key row) (keyed t found) rise.0) in
        ap (λ (o : Option Row). or_there o (Some row)) none
    go false same = refl

past_on : (after : Option Row) (k q : Row) → IsPast after k → key_cmp k q ≡ Less → IsPast after q
past_on None k q past less = tt
past_on (Some a) k q past less = key_cmp_total.trans a k q past less

all_past : (after : Option Row) (k : Row) (es : List Entry) → IsPast after k → AllByRecursion (λ (e : Entry). key_cmp k e.0 ≡ Less) es → AllByRecursion (λ (e : Entry). IsPast after e.0) es
all_past after k [] past all = tt
all_past after k (e ∷ es) past all = (past_on after k e.0 past all.0, all_past after k es past all.1)

-- the keys of rows that were read rise
placed_rise : (t : Table) (after : Option Row) (found : List Row) → ArePlaced t after found → Rises key_cmp (keyed t found) × AllByRecursion (λ (e : Entry). IsPast after e.0) (keyed t found)
placed_rise t after [] placed = (tt, tt)
placed_rise t after (row ∷ found) placed =
    let rest = placed_rise t (Some (key_of t.key row)) found placed.1 in
    ((rest.1, rest.0), (placed.0.1, all_past after (key_of t.key row) (keyed t found) placed.0.1 rest.1))

or_none : (o p : Option Row) → p ≡ None → or_there o p ≡ o
or_none None p none = none
or_none (Some row) p none = refl

rows_keyed : (t : Table) (found : List Row) → rows_of (keyed t found) ≡ found
rows_keyed t [] = refl
rows_keyed t (row ∷ found) = ap (λ (l : List Row). row ∷ l) (rows_keyed t found)

-- the row that is found under a key
its_row : (name : List ℕ) (key row : Row) (t : Table) (after : Option Row) (found : List Row) → t.name ≡ name → AllByRecursion (IsListOf IsValue) found → ArePlaced t after found → find key_cmp key (keyed t found) ≡ Some row → IsHeldBy name key row t
its_row name key row t after [] same_name are placed is = cc
its_row name key row t after (x ∷ found) same_name are placed is =
    go (is_eq (key_cmp key (key_of t.key x))) refl is (λ later. its_row name key row t (Some (key_of t.key x)) found same_name are.1 placed.1 later)
  where
    go : (b : Bool) → is_eq (key_cmp key (key_of t.key x)) ≡ b → cond b (Some x) (find key_cmp key (keyed t found)) ≡ Some row → (find key_cmp key (keyed t found) ≡ Some row → IsHeldBy name key row t) → IsHeldBy name key row t
    go true same here on =
        let one : x ≡ row = cc in
        record {
          named = same_name;
          fits = subst (λ (r : Row). IsRow t.columns r) one placed.0.0;
          key_is = ap (λ (r : Row). key_of t.key r) (sym one) ∙ sym (same_key key (key_of t.key x) same);
          values = subst (λ (r : Row). IsListOf IsValue r) one are.0;
        }
    go false same later on = on later

-- ---- tables, one after the other

pub record ReadingTables (file : File) (all left : List Table) (before now : Seen) (v0 v1 : View) (rows : Marked) : Type 0 where
  pub done : List Table
  pub parts : done ++ left ≡ all
  pub taken : HasTaken file (flat_map table_spelling (map (rows_in rows.rows) done)) before now v0 v1
  pub each : AllByRecursion (IsReadTable rows.rows) done
  pub held : AreHeldIn done rows.rows
  pub marked : rows ≡ at_mark rows.rows

not_there : (o : Option Row) (row : Row) → o ≡ None → o ≡ Some row → ⊥
not_there o row none some = cc

pub tables_begin : (file : File) (all : List Table) (seen : Seen) (view : View) (rows : Marked) → (IsTrue seen.observable → IsOver view (bytes_of seen.files file)) → rows.rows ≡ empty → rows.marked ≡ empty → rows.trail ≡ []
    → ReadingTables file all all seen seen view view rows
tables_begin file all seen view rows over none marked trail = record {
  done = [];
  parts = refl;
  taken = taken_nothing file seen view over;
  each = tt;
  held = λ name key row there. not_there (rows_of_table rows.rows name key) row (ap (λ (r : RowMap). rows_of_table r name key) none ∙ get-empty place_cmp (name, key)) there;
  marked = marked_here rows empty (λ i. record { rows = none i; marked = marked i; trail = trail i });
}

abbrev IsOther : Table → Table → Type 0
IsOther t u = ¬ (u.name ≡ t.name)

at_last : (P : List ℕ → Type 0) (done : List Table) (t : Table) (rest : List Table) → AllByRecursion P (map table_name (done ++ t ∷ rest)) → P t.name
at_last P [] t rest all = all.0
at_last P (u ∷ done) t rest all = at_last P done t rest all.1

others_named : (done : List Table) (t : Table) (rest : List Table) → AreDistinct (map table_name (done ++ t ∷ rest)) → AllByRecursion (IsOther t) done
others_named [] t rest distinct = tt
others_named (u ∷ done) t rest distinct = (at_last (λ (n : List ℕ). ¬ (u.name ≡ n)) done t rest distinct.0, others_named done t rest distinct.1)

none_held : (done : List Table) (t : Table) (key row : Row) → AllByRecursion (IsOther t) done → IsHeldIn done t.name key row → ⊥
none_held [] t key row others held = held
none_held (u ∷ done) t key row others (inl one) = others.0 one.named
none_held (u ∷ done) t key row others (inr held) = none_held done t key row others.1 held

held_more : (done : List Table) (t : Table) (name : List ℕ) (key row : Row) → IsHeldIn done name key row → IsHeldIn (done ++ t ∷ []) name key row
held_more [] t name key row held = absurd held
held_more (u ∷ done) t name key row (inl one) = inl one
held_more (u ∷ done) t name key row (inr held) = inr (held_more done t name key row held)

held_last : (done : List Table) (t : Table) (name : List ℕ) (key row : Row) → IsHeldBy name key row t → IsHeldIn (done ++ t ∷ []) name key row
held_last [] t name key row held = inl held
held_last (u ∷ done) t name key row held = inr (held_last done t name key row held)

-- a table more
module _ (rows : RowMap) (t : Table) (found : List Row) (done : List Table) (others : AllByRecursion (IsOther t) done) (held : AreHeldIn done rows) (are : AreRead t (length found) found) where
  fresh : (key : Row) → rows_of_table rows t.name key ≡ None
  fresh key = by (rows_of_table rows t.name key) refl
    where
      by : (o : Option Row) → rows_of_table rows t.name key ≡ o → o ≡ None
      by None is = refl
      by (Some row) is = absurd (none_held done t key row others (held t.name key row is))

  rise : Rises key_cmp (keyed t found)
  rise = (placed_rise t None found are.placed).0

  own : (key : Row) → rows_of_table (with_rows rows t found) t.name key ≡ find key_cmp key (keyed t found)
  own key = with_own rows t found key rise ∙ or_none (find key_cmp key (keyed t found)) (rows_of_table rows t.name key) (fresh key)

  pub own_rows : its_rows (with_rows rows t found) t ≡ found
  own_rows =
      ap (λ (es : List Entry). rows_of es)
      (same_rising (table_rows (with_rows rows t found) t.name) (keyed t found) (table_rows-rise (with_rows rows t found) t.name) rise (λ q. sym (get-table_rows (with_rows rows t found) t.name q) ∙ own q))
      ∙ rows_keyed t found

  other_rows : (u : Table) → IsOther t u → its_rows (with_rows rows t found) u ≡ its_rows rows u
  other_rows u other = ap (λ (es : List Entry). rows_of es) (same_table (with_rows rows t found) rows u.name (λ key. with_other rows t found u.name key other))

  same_all : (us : List Table) → AllByRecursion (IsOther t) us → map (rows_in (with_rows rows t found)) us ≡ map (rows_in rows) us
  same_all [] all = refl
  same_all (u ∷ us) all = λ i. (u.name, other_rows u all.0 i) ∷ same_all us all.1 i

  pub tables_are : map (rows_in (with_rows rows t found)) (done ++ t ∷ []) ≡ map (rows_in rows) done ++ (t.name, found) ∷ []
  tables_are = map-append (rows_in (with_rows rows t found)) done (t ∷ []) ∙ (λ i. same_all done others i ++ (t.name, own_rows i) ∷ [])

  each_stays : (us : List Table) → AllByRecursion (IsOther t) us → AllByRecursion (IsReadTable rows) us → AllByRecursion (IsReadTable (with_rows rows t found)) us
  each_stays [] all each = tt
  each_stays (u ∷ us) all each = (
    record {
      few = subst (λ (l : List Row). length l < 2 ^ 32) (sym (other_rows u all.0)) each.0.few;
      are = subst (λ (l : List Row). AreRead u (length l) l) (sym (other_rows u all.0)) each.0.are;
    },
    each_stays us all.1 each.1,
  )

  pub each_more : length found < 2 ^ 32 → AllByRecursion (IsReadTable rows) done → AllByRecursion (IsReadTable (with_rows rows t found)) (done ++ t ∷ [])
  each_more few each =
      all_more (IsReadTable (with_rows rows t found)) done t (each_stays done others each)
      (record { few = subst (λ (l : List Row). length l < 2 ^ 32) (sym own_rows) few; are = subst (λ (l : List Row). AreRead t (length l) l) (sym own_rows) are })

  pub all_held : AreHeldIn (done ++ t ∷ []) (with_rows rows t found)
  all_held name key row there = by (bytes_eq name t.name) refl
    where
      by : (b : Bool) → bytes_eq name t.name ≡ b → IsHeldIn (done ++ t ∷ []) name key row
      by true is =
          let same : name ≡ t.name = (bytes_eq-Decides name t.name).0 is in
          let there_too : rows_of_table (with_rows rows t found) t.name key ≡ Some row = subst (λ (n : List ℕ). rows_of_table (with_rows rows t found) n key ≡ Some row) same there in
          held_last done t name key row (its_row name key row t None found (sym same) are.are are.placed (sym (own key) ∙ there_too))
      by false is =
          let other : ¬ (name ≡ t.name) = λ same. not_both (bytes_eq name t.name) ((bytes_eq-Decides name t.name).1 same) is in
          held_more done t name key row (held name key row (sym (with_other rows t found name key other) ∙ there))

pub tables_more : (file : File) (all left rest : List Table) (t : Table) (before middle now : Seen) (v0 v1 v2 : View) (rows more : Marked) → AreDistinct (map table_name all) → left ≡ t ∷ rest → ReadingTables file all left before middle v0 v1 rows
    → HasTakenTable file t middle now v1 v2 rows more → ReadingTables file all rest before now v0 v2 more
tables_more file all left rest t before middle now v0 v1 v2 rows more distinct first reading one =
    let whole : reading.done ++ t ∷ rest ≡ all = ap (λ (l : List Table). reading.done ++ l) (sym first) ∙ reading.parts in
    let others = others_named reading.done t rest (subst (λ (l : List Table). AreDistinct (map table_name l)) (sym whole) distinct) in
    let now_is : with_rows rows.rows t one.found ≡ more.rows = sym (ap (λ (m : Marked). m.rows) one.put) in
    let spelled : flat_map table_spelling (map (rows_in rows.rows) reading.done) ++ table_spelling (t.name, one.found) ≡ flat_map table_spelling (map (rows_in (with_rows rows.rows t one.found)) (reading.done ++ t ∷ [])) =
    flat_more table_spelling (map (rows_in rows.rows) reading.done) (t.name, one.found) ∙ ap (λ (l : List (List ℕ × List Row)). flat_map table_spelling l) (sym (tables_are rows.rows t one.found reading.done others reading.held one.are)) in
    let both = taken_on file (flat_map table_spelling (map (rows_in rows.rows) reading.done)) (table_spelling (t.name, one.found)) before middle now v0 v1 v2 reading.taken one.taken in
    record {
      done = reading.done ++ t ∷ [];
      parts = append_assoc reading.done (t ∷ []) rest ∙ whole;
      taken = subst (λ (r : RowMap). HasTaken file (flat_map table_spelling (map (rows_in r) (reading.done ++ t ∷ []))) before now v0 v2) now_is (subst (λ (l : List ℕ). HasTaken file l before now v0 v2) spelled both);
      each = subst (λ (r : RowMap). AllByRecursion (IsReadTable r) (reading.done ++ t ∷ [])) now_is (each_more rows.rows t one.found reading.done others reading.held one.are one.few reading.each);
      held = subst (λ (r : RowMap). AreHeldIn (reading.done ++ t ∷ []) r) now_is (all_held rows.rows t one.found reading.done others reading.held one.are);
      marked = marked_here more (with_rows rows.rows t one.found) one.put;
    }

all_done : (done left all : List Table) → left ≡ [] → done ++ left ≡ all → done ≡ all
all_done done left all none parts = sym (append-nil done) ∙ ap (λ (l : List Table). done ++ l) (sym none) ∙ parts

pub tables_taken : (file : File) (all left : List Table) (before now : Seen) (v0 v1 : View) (rows : Marked) → left ≡ [] → ReadingTables file all left before now v0 v1 rows → HasTaken file (flat_map table_spelling (map (rows_in rows.rows) all)) before now v0 v1
tables_taken file all left before now v0 v1 rows none reading =
    subst (λ (l : List Table). HasTaken file (flat_map table_spelling (map (rows_in rows.rows) l)) before now v0 v1) (all_done reading.done left all none reading.parts) reading.taken

pub tables_each : (file : File) (all left : List Table) (before now : Seen) (v0 v1 : View) (rows : Marked) → left ≡ [] → ReadingTables file all left before now v0 v1 rows → AllByRecursion (IsReadTable rows.rows) all
tables_each file all left before now v0 v1 rows none reading = subst (λ (l : List Table). AllByRecursion (IsReadTable rows.rows) l) (all_done reading.done left all none reading.parts) reading.each

pub tables_held : (file : File) (all left : List Table) (before now : Seen) (v0 v1 : View) (rows : Marked) → left ≡ [] → ReadingTables file all left before now v0 v1 rows → AreHeldIn all rows.rows
tables_held file all left before now v0 v1 rows none reading = subst (λ (l : List Table). AreHeldIn l rows.rows) (all_done reading.done left all none reading.parts) reading.held

-- ---- where tables break

-- where nothing breaks behind a table, something may
abbrev ItsBreak : Table → List Table → (List ℕ → ℕ → Type 0) → ℕ → ℕ → List ℕ → Type 0
ItsBreak t ts later left count first =
    RowsBreak t None count first left ⊎ ((rows : List Row) × AreRead t count rows × BehindPart (flat_map row_spelling rows) (λ rest. TablesBreak ts later rest left) first)

abbrev CountedBreak : Table → List Table → (List ℕ → ℕ → Type 0) → ℕ → List ℕ → Type 0
CountedBreak t ts later left counted =
    FieldBreaks (number_at w32) counted left ⊎ ((count : ℕ) × (count < 2 ^ 32) × BehindPart (to_be_bytes w32 count) (λ first. ItsBreak t ts later left count first) counted)

its_map : (t : Table) (ts us : List Table) (later : List ℕ → ℕ → Type 0) (left count : ℕ) (first : List ℕ) → ((rest : List ℕ) → TablesBreak ts NeverBreaks rest left → TablesBreak us later rest left) → ItsBreak t ts NeverBreaks left count first
    → ItsBreak t us later left count first
its_map t ts us later left count first step (inl rows) = inl rows
its_map t ts us later left count first step (inr (rows, are, more)) = inr (rows, are, record { rest = more.rest; parts = more.parts; then = step more.rest more.then })

counted_map : (t : Table) (ts us : List Table) (later : List ℕ → ℕ → Type 0) (left : ℕ) (counted : List ℕ) → ((rest : List ℕ) → TablesBreak ts NeverBreaks rest left → TablesBreak us later rest left) → CountedBreak t ts NeverBreaks left counted
    → CountedBreak t us later left counted
counted_map t ts us later left counted step (inl field) = inl field
counted_map t ts us later left counted step (inr (count, few, first)) = inr (count, few, record { rest = first.rest; parts = first.parts; then = its_map t ts us later left count first.rest step first.then })

table_map : (t : Table) (ts us : List Table) (later : List ℕ → ℕ → Type 0) (bytes : List ℕ) (left : ℕ) → ((rest : List ℕ) → TablesBreak ts NeverBreaks rest left → TablesBreak us later rest left) → TablesBreak (t ∷ ts) NeverBreaks bytes left
    → TablesBreak (t ∷ us) later bytes left
table_map t ts us later bytes left step (inl name) = inl name
table_map t ts us later bytes left step (inr there) = inr (record { rest = there.rest; parts = there.parts; then = counted_map t ts us later left there.rest step there.then })

pub tables_map : (ts : List Table) (later : List ℕ → ℕ → Type 0) (bytes : List ℕ) (left : ℕ) → TablesBreak ts NeverBreaks bytes left → TablesBreak ts later bytes left
tables_map [] later bytes left broken = absurd broken
tables_map (t ∷ ts) later bytes left broken = table_map t ts ts later bytes left (λ rest more. tables_map ts later rest left more) broken

-- behind tables that were read
table_then : (rows : RowMap) (t : Table) (ts : List Table) (later : List ℕ → ℕ → Type 0) (bytes others : List ℕ) (left : ℕ) → IsReadTable rows t → bytes ≡ table_spelling (rows_in rows t) ++ others → TablesBreak ts later others left
    → TablesBreak (t ∷ ts) later bytes left
table_then rows t ts later bytes others left is parts more =
    inr (record {
      rest = to_be_bytes w32 (length (its_rows rows t)) ++ (flat_map row_spelling (its_rows rows t) ++ others);
      parts = parts ∙ append_assoc (name_spelling t.name) (to_be_bytes w32 (length (its_rows rows t)) ++ flat_map row_spelling (its_rows rows t)) others
          ∙ ap (λ (l : List ℕ). name_spelling t.name ++ l) (append_assoc (to_be_bytes w32 (length (its_rows rows t))) (flat_map row_spelling (its_rows rows t)) others);
      then =
          inr (
            length (its_rows rows t),
            is.few,
            record {
              rest = flat_map row_spelling (its_rows rows t) ++ others;
              parts = refl;
              then = inr (its_rows rows t, is.are, record { rest = others; parts = refl; then = more });
            },
          );
    })

tables_behind : (rows : RowMap) (done left : List Table) (later : List ℕ → ℕ → Type 0) (bytes rest : List ℕ) (place : ℕ) → AllByRecursion (IsReadTable rows) done → bytes ≡ flat_map table_spelling (map (rows_in rows) done) ++ rest
    → TablesBreak left later rest place → TablesBreak (done ++ left) later bytes place
tables_behind rows [] left later bytes rest place each is broken = subst (λ (l : List ℕ). TablesBreak left later l place) (sym is) broken
tables_behind rows (t ∷ done) left later bytes rest place each is broken =
    table_then rows t (done ++ left) later bytes (flat_map table_spelling (map (rows_in rows) done) ++ rest) place each.0
    (is ∙ append_assoc (table_spelling (rows_in rows t)) (flat_map table_spelling (map (rows_in rows) done)) rest)
    (tables_behind rows done left later (flat_map table_spelling (map (rows_in rows) done) ++ rest) rest place each.1 refl broken)

pub tables_then : (rows : RowMap) (ts : List Table) (later : List ℕ → ℕ → Type 0) (bytes rest : List ℕ) (place : ℕ) → AllByRecursion (IsReadTable rows) ts → bytes ≡ flat_map table_spelling (map (rows_in rows) ts) ++ rest → later rest place
    → TablesBreak ts later bytes place
tables_then rows ts later bytes rest place each is broken = subst (λ (l : List Table). TablesBreak l later bytes place) (append-nil ts) (tables_behind rows ts [] later bytes rest place each is broken)

pub tables_cause : (file : File) (all left rest : List Table) (t : Table) (before middle now : Seen) (v0 v1 : View) (rows : Marked) (fault : SnapFault) → left ≡ t ∷ rest → ReadingTables file all left before middle v0 v1 rows
    → TakeCause file (TablesBreak (t ∷ []) NeverBreaks) middle now v1 fault → TakeCause file (TablesBreak all NeverBreaks) before now v0 fault
tables_cause file all left rest t before middle now v0 v1 rows fault first reading cause =
    let whole : reading.done ++ t ∷ rest ≡ all = ap (λ (l : List Table). reading.done ++ l) (sym first) ∙ reading.parts in
    cause_behind file (TableBreaks t) (TablesBreak all NeverBreaks) (flat_map table_spelling (map (rows_in rows.rows) reading.done)) before middle now v0 v1 fault reading.taken
    (λ bytes behind place is broken.
    subst (λ (l : List Table). TablesBreak l NeverBreaks bytes place) whole
    (tables_behind rows.rows reading.done (t ∷ rest) NeverBreaks bytes behind place reading.each is (table_map t [] rest NeverBreaks behind place (λ more never. absurd never) broken))) cause

-- each table is the one of its name
named_first : (t : Table) (ts : List Table) → named table_name t.name (t ∷ ts) ≡ Some t
named_first t ts = ap (λ (b : Bool). cond b (Some t) (named table_name t.name ts)) ((bytes_eq-Decides t.name t.name).1 refl)

named_later : (name : List ℕ) (x : Table) (ts : List Table) (t : Table) → ¬ (x.name ≡ name) → named table_name name ts ≡ Some t → named table_name name (x ∷ ts) ≡ Some t
named_later name x ts t other found = by (bytes_eq name x.name) refl
  where
    by : (b : Bool) → bytes_eq name x.name ≡ b → named table_name name (x ∷ ts) ≡ Some t
    by true is = absurd (other (sym ((bytes_eq-Decides name x.name).0 is)))
    by false is = ap (λ (b : Bool). cond b (Some x) (named table_name name ts)) is ∙ found

other_names : (x : Table) (ts : List Table) → AllByRecursion (λ (n : List ℕ). ¬ (x.name ≡ n)) (map table_name ts) → AllByRecursion (λ (t : Table). ¬ (x.name ≡ t.name)) ts
other_names x [] all = tt
other_names x (t ∷ ts) all = (all.0, other_names x ts all.1)

pub each_named : (ts : List Table) → AreDistinct (map table_name ts) → AllByRecursion (λ (t : Table). named table_name t.name ts ≡ Some t) ts
each_named [] distinct = tt
each_named (x ∷ ts) distinct = (named_first x ts, later ts (other_names x ts distinct.0) (each_named ts distinct.1))
  where
    later : (us : List Table) → AllByRecursion (λ (t : Table). ¬ (x.name ≡ t.name)) us → AllByRecursion (λ (t : Table). named table_name t.name ts ≡ Some t) us → AllByRecursion (λ (t : Table). named table_name t.name (x ∷ ts) ≡ Some t) us
    later [] others found = tt
    later (t ∷ us) others found = (named_later t.name x ts t others.0 found.0, later us others.1 found.1)

-- ---- the rows of a catalog's tables

held_by : (all ts : List Table) (name : List ℕ) (key row : Row) → AllByRecursion (λ (t : Table). named table_name t.name all ≡ Some t) ts → IsHeldIn ts name key row → (t : Table) × (named table_name name all ≡ Some t) × IsHeldBy name key row t
held_by all [] name key row found held = absurd held
held_by all (t ∷ ts) name key row found (inl one) = (t, subst (λ (n : List ℕ). named table_name n all ≡ Some t) one.named found.0, one)
held_by all (t ∷ ts) name key row found (inr later) = held_by all ts name key row found.1 later

some_there : (o : Option Table) (t : Table) → o ≡ Some t → IsSome o
some_there o t is = subst (λ (x : Option Table). IsSome x) (sym is) refl

one_table : (o : Option Table) (t u : Table) → o ≡ Some t → o ≡ Some u → t ≡ u
one_table o t u one other = cc

pub rows_fit : (c : Lists) (rows : RowMap) → AreDistinct (map table_name c.tables) → AreHeldIn c.tables rows → RowsFit c rows
rows_fit c rows distinct held = record {
  each = λ name table is key row there.
      let by = held_by c.tables c.tables table.name key row (each_named c.tables distinct) (held table.name key row there) in
      let same : name ≡ table.name = (bytes_eq-Decides name table.name).0 (found_named name c.tables table is) in
      let one : by.0 ≡ table = one_table (named table_name table.name c.tables) by.0 table by.1 (subst (λ (n : List ℕ). named table_name n c.tables ≡ Some table) same is) in
      (subst (λ (t : Table). IsRow t.columns row) one by.2.fits, subst (λ (t : Table). key_of t.key row ≡ key) one by.2.key_is);
  there = λ name key row there.
      let by = held_by c.tables c.tables name key row (each_named c.tables distinct) (held name key row there) in
      some_there (named table_name name c.tables) by.0 by.1;
}

pub rows_values : (c : Lists) (rows : RowMap) → AreDistinct (map table_name c.tables) → AreHeldIn c.tables rows → (name : List ℕ) (key row : Row) → rows_of_table rows name key ≡ Some row → AllByRecursion IsValue row
rows_values c rows distinct held name key row there = (held_by c.tables c.tables name key row (each_named c.tables distinct) (held name key row there)).2.values.1
