-- Bytes that break are no snapshot.
use Rattle.std.proofs.Common.{◌≡◌, ◌≤◌, ◌<◌, ◌^◌, ◌⊎◌, inl, inr, ℕ, suc, Bool, true, false, cond, List, [], ◌∷◌, ◌++◌, length, map, Option, Some, None, filter, refl, sym, ap, subst, ◌∙◌, append_assoc, arith}
use Rattle.std.proofs.lemmas.List.{append-nil, length-map}
use Rattle.std.specs.Int.{w32, w64, to_be_bytes}
use Rattle.std.specs.List.{flat_map, AllByRecursion}
use Rattle.std.specs.Prelude.{⊤, IsTrue}
use Rattle.sr_ast.specs.Layout.{printed}
use Rattle.sr_ast.specs.NormalForms.{IsNormal}
use Rattle.sr_ast.specs.Statements.{is_ddl}
use Rattle.sr_ast.specs.declared.stmt.Stmt.{Stmt}
use Rattle.sr_ast.specs.declared.stmt.Stmt.TheVariants as stmt
use Rattle.sr_base.proofs.Formats.{begins_no_other}
use Rattle.sr_base.specs.Fields.{bytes_spelling, list_spelling, name_spelling, IsListOf, IsName, IsText}
use Rattle.sr_base.specs.Reading.{number_at}
use Rattle.sr_base.specs.Inner.ListLaws.{list_format}
use Rattle.sr_base.specs.Inner.NumberLaws.{format32, format64}
use Rattle.sr_base.specs.Inner.TextLaws.{name_format, text_format}
use Rattle.sr_base.specs.Order.{key_cmp}
use Rattle.sr_base.specs.Values.{IsValue, row_spelling}
use Rattle.sr_base.specs.declared.value.Value.{Value}
use Rattle.sr_book.specs.declared.book.Book.{Book}
use Rattle.sr_catalog_change.specs.Changes.{next, refusal}
use Rattle.sr_catalog_schema.specs.Catalogs.{Lists, nothing_but}
use Rattle.sr_catalog_script_laws.proofs.Standing.{TriggerStands}
use Rattle.sr_catalog_schema.specs.Members.{table_name, user_name}
use Rattle.sr_catalog_schema.specs.Names.{named}
use Rattle.sr_catalog_schema.specs.declared.fault.DdlFault.{DdlFault}
use Rattle.sr_catalog_schema.specs.declared.publication.Publication.{Publication}
use Rattle.sr_catalog_schema.specs.declared.options.Options.{Options}
use Rattle.sr_catalog_schema.specs.declared.subscription.Subscription.{Subscription}
use Rattle.sr_catalog_schema.specs.declared.table.Table.{Table}
use Rattle.sr_catalog_schema.specs.declared.trigger.Trigger.{Trigger}
use Rattle.sr_catalog_schema.specs.declared.user.User.{User}
use Rattle.sr_catalog_script_laws.proofs.Spelled.{script_again, script_normal}
use Rattle.sr_catalog_script_laws.specs.Scripts.{IsMadeByStatements, create_publication_of, create_subscription_of, create_table_of, grant_of, grant_rule, replayed, set_options_of, start_of, statements, trigger_stmt, unless_refused, verifies_rule}
use Rattle.sr_exec_dml.specs.Fitting.{TableFits}
use Rattle.sr_exec_where.specs.Keys.{key_of}
use Rattle.sr_logform.specs.Entries.{table_spelling}
use Rattle.sr_parse.proofs.Prints.{prints_once}
use Rattle.sr_parse.specs.Prints.{Prints}
use Rattle.sr_rows.proofs.Cursors.{AreHeld, table_held}
use Rattle.sr_rows.proofs.Listing.{table_rows-rise}
use Rattle.sr_rows.specs.Inner.Walks.{Rises}
use Rattle.sr_rows.specs.Marks.{RowMap}
use Rattle.sr_rows.specs.Walks.{Entry, table_rows, IsPast}
use Rattle.sr_snapshot.proofs.Formats.{IsBody, IsLine, IsTableOf}
use Rattle.sr_snapshot.proofs.Uniqueness.{behind_magic, body_fits, body_of}
use Rattle.sr_snapshot.specs.Beginnings.{Beginning, IsBook}
use Rattle.sr_snapshot.specs.Parts.{book_line, book_spelling, rows_of}
use Rattle.sr_snapshot.specs.Snapshots.{rows_in, IsSnapshot}
use Rattle.sr_snapshot_read.proofs.Standing.{distinct_tables, triggers_stand}
use Rattle.sr_snapshot_read.proofs.Fronts.{behind_same, never}
use Rattle.sr_snapshot_read.proofs.Places.{name_in_format, row_in_format, text_in_format}
use Rattle.sr_snapshot_read.proofs.TablesRead.{each_named}
use Rattle.sr_snapshot_read.specs.Damages.{ArePlaced, AreRead, BehindPart, BooksBreak, CountBreaks, GoesOn, IsDamagedSnapshot, IsNextStatement, IsPlaced, LastBreaks, ListsBreak, Make, NameBreaks, NumbersBreak, OffsetBreaks, RowsBreak, ScriptBreaks, ScriptDiffers, StateBreaks, TablesBreak, TextsBreak, FieldBreaks}
use Rattle.sr_snapshot_read.specs.Places.{name_in}

-- ---- names and counts

pub name_never : (name bytes rest : List ℕ) (left : ℕ) → IsName name → bytes ≡ name_spelling name ++ rest → NameBreaks name bytes left → ⊥
name_never name bytes rest left is parts (inl field) = never name_in_format name bytes rest left is parts field
name_never name bytes rest left is parts (inr other) = other.differs (sym (behind_same name_format name other.other bytes rest (λ rest. ⊤) is other.is parts other.there).0)

pub count_never : (count : ℕ) (bytes rest : List ℕ) (left : ℕ) → count < 2 ^ 32 → bytes ≡ to_be_bytes w32 count ++ rest → CountBreaks count bytes left → ⊥
count_never count bytes rest left is parts (inl field) = never format32 count bytes rest left is parts field
count_never count bytes rest left is parts (inr other) = other.differs (sym (behind_same format32 count other.other bytes rest (λ rest. ⊤) is other.is parts other.there).0)

-- ---- rows

abbrev rows_left : List (List Value) → List ℕ → List ℕ
rows_left rows behind = flat_map row_spelling rows ++ behind

-- the first row does not break, where those behind it do not
row_never : (t : Table) (after : Option (List Value)) (row : List Value) (count : ℕ) (rest bytes : List ℕ) (left : ℕ) → IsListOf IsValue row → IsPlaced t after row → bytes ≡ row_spelling row ++ rest
    → (RowsBreak t (Some (key_of t.key row)) count rest left → ⊥) → RowsBreak t after (suc count) bytes left → ⊥
row_never t after row count rest bytes left is placed parts later (inl field) = never row_in_format row bytes rest left is parts field
row_never t after row count rest bytes left is placed parts later (inr (inl misfits)) =
    let same = (behind_same row_in_format row misfits.row bytes rest (λ rest. ⊤) is misfits.is parts misfits.there).0 in
    misfits.misfit (subst (λ (r : List Value). IsPlaced t after r) same placed)
row_never t after row count rest bytes left is placed parts later (inr (inr (other, is_row, is_placed, there))) =
    let both = behind_same row_in_format row other bytes rest (λ rest. RowsBreak t (Some (key_of t.key other)) count rest left) is is_row parts there in
    later (subst (λ (r : List Value). RowsBreak t (Some (key_of t.key r)) count rest left) (sym both.0) both.1)

pub rows_never : (t : Table) (after : Option (List Value)) (rows : List (List Value)) (behind bytes : List ℕ) (left : ℕ) → AllByRecursion (IsListOf IsValue) rows → ArePlaced t after rows → bytes ≡ rows_left rows behind
    → RowsBreak t after (length rows) bytes left → ⊥
rows_never t after [] behind bytes left are placed is breaks = breaks
rows_never t after (row ∷ rows) behind bytes left are placed is breaks =
    row_never t after row (length rows) (rows_left rows behind) bytes left are.0 placed.0 (is ∙ append_assoc (row_spelling row) (flat_map row_spelling rows) behind)
    (λ later. rows_never t (Some (key_of t.key row)) rows behind (rows_left rows behind) left are.1 placed.1 refl later) breaks

-- ---- tables

-- a table's rows stand in a snapshot as they have to
pub record IsSoundTable (rows : RowMap) (t : Table) : Type 0 where
  pub name : IsName t.name
  pub are : IsListOf (IsListOf IsValue) (rows_of (table_rows rows t.name))
  pub placed : ArePlaced t None (rows_of (table_rows rows t.name))

abbrev its_rows : RowMap → Table → List (List Value)
its_rows rows t = rows_of (table_rows rows t.name)

abbrev tables_spelled : RowMap → List Table → List ℕ
tables_spelled rows ts = flat_map table_spelling (map (rows_in rows) ts)

-- behind the count of a table's rows, and before it
abbrev pub FirstBreaks : Table → List Table → (List ℕ → ℕ → Type 0) → ℕ → ℕ → List ℕ → Type 0
FirstBreaks t ts later left count first =
    RowsBreak t None count first left ⊎ ((found : List (List Value)) × AreRead t count found × BehindPart (flat_map row_spelling found) (λ rest. TablesBreak ts later rest left) first)

abbrev pub CountedBreaks : Table → List Table → (List ℕ → ℕ → Type 0) → ℕ → List ℕ → Type 0
CountedBreaks t ts later left counted =
    FieldBreaks (number_at w32) counted left ⊎ ((count : ℕ) × (count < 2 ^ 32) × BehindPart (to_be_bytes w32 count) (λ first. FirstBreaks t ts later left count first) counted)

abbrev tables_left : RowMap → List Table → List ℕ → List ℕ
tables_left rows ts behind = tables_spelled rows ts ++ behind

first_never : (rows : RowMap) (t : Table) (ts : List Table) (later : List ℕ → ℕ → Type 0) (others : List ℕ) (left count : ℕ) → IsSoundTable rows t → length (its_rows rows t) ≡ count → (TablesBreak ts later others left → ⊥)
    → FirstBreaks t ts later left count (rows_left (its_rows rows t) others) → ⊥
first_never rows t ts later others left count sound same ends (inl rows_break) =
    rows_never t None (its_rows rows t) others (rows_left (its_rows rows t) others) left sound.are.1 sound.placed refl (subst (λ (n : ℕ). RowsBreak t None n (rows_left (its_rows rows t) others) left) (sym same) rows_break)
first_never rows t ts later others left count sound same ends (inr (found, read, there)) =
    let few : length found < 2 ^ 32 = subst (λ (n : ℕ). n < 2 ^ 32) (same ∙ sym read.count_is) sound.are.0 in
    let counts : length (its_rows rows t) ≡ length found = same ∙ sym read.count_is in
    let spelled : rows_left (its_rows rows t) others ≡ flat_map row_spelling found ++ there.rest = there.parts in
    let listed : list_spelling row_spelling (its_rows rows t) ++ others ≡ list_spelling row_spelling found ++ there.rest =
    append_assoc (to_be_bytes w32 (length (its_rows rows t))) (flat_map row_spelling (its_rows rows t)) others
    ∙ (λ i. to_be_bytes w32 (counts i) ++ spelled i)
    ∙ sym (append_assoc (to_be_bytes w32 (length found)) (flat_map row_spelling found) there.rest) in
    let both = begins_no_other (list_format row_in_format) (its_rows rows t) found others there.rest sound.are (few, read.are) listed in
    ends (subst (λ (l : List ℕ). TablesBreak ts later l left) (sym both.1) there.then)

counted_never : (rows : RowMap) (t : Table) (ts : List Table) (later : List ℕ → ℕ → Type 0) (others : List ℕ) (left : ℕ) → IsSoundTable rows t → (TablesBreak ts later others left → ⊥)
    → CountedBreaks t ts later left (to_be_bytes w32 (length (its_rows rows t)) ++ rows_left (its_rows rows t) others) → ⊥
counted_never rows t ts later others left sound ends (inl field) = never format32 (length (its_rows rows t)) _ (rows_left (its_rows rows t) others) left sound.are.0 refl field
counted_never rows t ts later others left sound ends (inr (count, short, there)) =
    let both = behind_same format32 (length (its_rows rows t)) count _ (rows_left (its_rows rows t) others) (λ first. FirstBreaks t ts later left count first) sound.are.0 short refl there in
    first_never rows t ts later others left count sound both.0 ends both.1

table_never : (rows : RowMap) (t : Table) (ts : List Table) (later : List ℕ → ℕ → Type 0) (others bytes : List ℕ) (left : ℕ) → IsSoundTable rows t → bytes ≡ table_spelling (rows_in rows t) ++ others → (TablesBreak ts later others left → ⊥)
    → TablesBreak (t ∷ ts) later bytes left → ⊥
table_never rows t ts later others bytes left sound is ends breaks = by breaks
  where
    parts : bytes ≡ name_spelling t.name ++ (to_be_bytes w32 (length (its_rows rows t)) ++ rows_left (its_rows rows t) others)
    parts =
        is ∙ append_assoc (name_spelling t.name) (to_be_bytes w32 (length (its_rows rows t)) ++ flat_map row_spelling (its_rows rows t)) others
        ∙ ap (λ (l : List ℕ). name_spelling t.name ++ l) (append_assoc (to_be_bytes w32 (length (its_rows rows t))) (flat_map row_spelling (its_rows rows t)) others)

    by : NameBreaks t.name bytes left ⊎ BehindPart (name_spelling t.name) (λ counted. CountedBreaks t ts later left counted) bytes → ⊥
    by (inl name) = name_never t.name bytes _ left sound.name parts name
    by (inr there) = counted_never rows t ts later others left sound ends (behind_same name_format t.name t.name bytes _ (λ counted. CountedBreaks t ts later left counted) sound.name sound.name parts there).1

tables_never : (rows : RowMap) (ts : List Table) (later : List ℕ → ℕ → Type 0) (behind bytes : List ℕ) (left : ℕ) → AllByRecursion (IsSoundTable rows) ts → bytes ≡ tables_left rows ts behind → (later behind left → ⊥)
    → TablesBreak ts later bytes left → ⊥
tables_never rows [] later behind bytes left sound is ends breaks = ends (subst (λ (l : List ℕ). later l left) is breaks)
tables_never rows (t ∷ ts) later behind bytes left sound is ends breaks =
    table_never rows t ts later (tables_left rows ts behind) bytes left sound.0 (is ∙ append_assoc (table_spelling (rows_in rows t)) (tables_spelled rows ts) behind)
    (λ more. tables_never rows ts later behind (tables_left rows ts behind) left sound.1 refl ends more) breaks

-- ---- books

number_never : (number count : ℕ) (later : List ℕ → ℕ → Type 0) (bytes rest : List ℕ) (left : ℕ) → number < 2 ^ 64 → bytes ≡ to_be_bytes w64 number ++ rest → (NumbersBreak count later rest left → ⊥) → NumbersBreak (suc count) later bytes left → ⊥
number_never number count later bytes rest left short is ends (inl field) = never format64 number bytes rest left short is field
number_never number count later bytes rest left short is ends (inr (other, is_number, there)) = ends (behind_same format64 number other bytes rest (λ rest. NumbersBreak count later rest left) short is_number is there).1

book_parts : (b : Book) (rest : List ℕ)
    → book_spelling b ++ rest ≡ to_be_bytes w64 b.log_sent ++ (to_be_bytes w64 b.confirm_sent ++ (to_be_bytes w64 b.send_count ++ (to_be_bytes w64 b.resend_count
    ++ (to_be_bytes w64 b.log_received ++ (to_be_bytes w64 b.confirm_received ++ (to_be_bytes w64 b.receive_count ++ (to_be_bytes w64 b.rereceive_count ++ rest)))))))
book_parts b rest = refl

book_never : (b : Book) (later : List ℕ → ℕ → Type 0) (bytes rest : List ℕ) (left : ℕ) → IsBook b → bytes ≡ book_spelling b ++ rest → (later rest left → ⊥) → NumbersBreak 8 later bytes left → ⊥
book_never b later bytes rest left is parts ends breaks =
    number_never b.log_sent 7 later bytes _ left is.log_sent (parts ∙ book_parts b rest)
    (number_never b.confirm_sent 6 later _ _ left is.confirm_sent refl
    (number_never b.send_count 5 later _ _ left is.send_count refl
    (number_never b.resend_count 4 later _ _ left is.resend_count refl
    (number_never b.log_received 3 later _ _ left is.log_received refl
    (number_never b.confirm_received 2 later _ _ left is.confirm_received refl
    (number_never b.receive_count 1 later _ _ left is.receive_count refl
    (number_never b.rereceive_count 0 later _ rest left is.rereceive_count refl ends))))))) breaks

abbrev books_left : List (List ℕ × Book) → List ℕ → List ℕ
books_left lines behind = flat_map book_line lines ++ behind

line_never : (u : User) (us : List User) (p : List ℕ × Book) (later : List ℕ → ℕ → Type 0) (others bytes : List ℕ) (left : ℕ) → p.0 ≡ u.name → IsName p.0 → IsBook p.1 → bytes ≡ book_line p ++ others → (BooksBreak us later others left → ⊥)
    → BooksBreak (u ∷ us) later bytes left → ⊥
line_never u us p later others bytes left name is_name number is ends breaks = by breaks
  where
    parts : bytes ≡ name_spelling u.name ++ (book_spelling p.1 ++ others)
    parts = is ∙ append_assoc (name_spelling p.0) (book_spelling p.1) others ∙ ap (λ (n : List ℕ). name_spelling n ++ (book_spelling p.1 ++ others)) name

    named_so : IsName u.name
    named_so = subst (λ (n : List ℕ). IsName n) name is_name

    by : NameBreaks u.name bytes left ⊎ BehindPart (name_spelling u.name) (λ rest. NumbersBreak 8 (BooksBreak us later) rest left) bytes → ⊥
    by (inl broken) = name_never u.name bytes _ left named_so parts broken
    by (inr there) =
        book_never p.1 (BooksBreak us later) (book_spelling p.1 ++ others) others left number refl ends
        (behind_same name_format u.name u.name bytes (book_spelling p.1 ++ others) (λ rest. NumbersBreak 8 (BooksBreak us later) rest left) named_so named_so parts there).1

books_never : (us : List User) (lines : List (List ℕ × Book)) (later : List ℕ → ℕ → Type 0) (behind bytes : List ℕ) (left : ℕ) → map (λ p. p.0) lines ≡ map user_name us → AllByRecursion (λ (p : List ℕ × Book). IsName p.0) lines
    → AllByRecursion (λ (p : List ℕ × Book). IsBook p.1) lines → bytes ≡ books_left lines behind → (later behind left → ⊥) → BooksBreak us later bytes left → ⊥
books_never [] [] later behind bytes left same names numbers is ends breaks = ends (subst (λ (l : List ℕ). later l left) is breaks)
books_never [] (p ∷ lines) later behind bytes left same names numbers is ends breaks = cc
books_never (u ∷ us) [] later behind bytes left same names numbers is ends breaks = cc
books_never (u ∷ us) (p ∷ lines) later behind bytes left same names numbers is ends breaks =
    let name : p.0 ≡ u.name = cc in
    let rest : map (λ (p : List ℕ × Book). p.0) lines ≡ map user_name us = cc in
    line_never u us p later (books_left lines behind) bytes left name names.0 numbers.0 (is ∙ append_assoc (book_line p) (flat_map book_line lines) behind)
    (λ more. books_never us lines later behind (books_left lines behind) left rest names.1 numbers.1 refl ends more) breaks

-- ---- the script

-- statements that a catalog accepts one after the other, each in normal form and on the catalog
record Script (c : Lists) (ss : List Stmt) (d : Lists) : Type 0 where
  normal : AllByRecursion IsNormal ss
  changes : AllByRecursion (λ s. IsTrue (is_ddl s)) ss
  makes : replayed c ss ≡ Some d

accepted_first : (o : Option DdlFault) (made : Option Lists) (d : Lists) → unless_refused o made ≡ Some d → (o ≡ None) × (made ≡ Some d)
accepted_first None made d is = (refl, is)
accepted_first (Some fault) made d is = absurd (cc)

first_next : (c d : Lists) (s : Stmt) (ss : List Stmt) → Script c (s ∷ ss) d → IsNextStatement c (printed s) s
first_next c d s ss script = record {
  prints = record { normal = script.normal.0; prints = refl };
  changes = script.changes.0;
  accepted = (accepted_first (refusal c s) (replayed (next c s) ss) d script.makes).0;
}

script_rest : (c d : Lists) (s : Stmt) (ss : List Stmt) → Script c (s ∷ ss) d → Script (next c s) ss d
script_rest c d s ss script = record { normal = script.normal.1; changes = script.changes.1; makes = (accepted_first (refusal c s) (replayed (next c s) ss) d script.makes).1 }

abbrev texts_left : List Stmt → List ℕ → List ℕ
texts_left ss behind = flat_map bytes_spelling (map printed ss) ++ behind

text_never : (c d : Lists) (s : Stmt) (ss : List Stmt) (rest bytes : List ℕ) (left : ℕ) → Script c (s ∷ ss) d → IsText (printed s) → bytes ≡ bytes_spelling (printed s) ++ rest → (TextsBreak (next c s) (length (map printed ss)) rest left → ⊥)
    → TextsBreak c (suc (length (map printed ss))) bytes left → ⊥
text_never c d s ss rest bytes left script is parts later (inl field) = never text_in_format (printed s) bytes rest left is parts field
text_never c d s ss rest bytes left script is parts later (inr (inl misfits)) =
    let same = (behind_same text_format (printed s) misfits.text bytes rest (λ rest. ⊤) is misfits.is parts misfits.there).0 in
    misfits.misfit s (subst (λ (t : List ℕ). IsNextStatement c t s) same (first_next c d s ss script))
text_never c d s ss rest bytes left script is parts later (inr (inr (text, found, is_text, is_next, there))) =
    let both = behind_same text_format (printed s) text bytes rest (λ rest. TextsBreak (next c found) (length (map printed ss)) rest left) is is_text parts there in
    let prints = subst (λ (t : List ℕ). Prints found t) (sym both.0) is_next.prints in
    let one : s ≡ found = prints_once (printed s) s found (first_next c d s ss script).prints prints in
    later (subst (λ (x : Stmt). TextsBreak (next c x) (length (map printed ss)) rest left) (sym one) both.1)

texts_never : (c d : Lists) (ss : List Stmt) (behind bytes : List ℕ) (left : ℕ) → Script c ss d → AllByRecursion IsText (map printed ss) → bytes ≡ texts_left ss behind → TextsBreak c (length (map printed ss)) bytes left → ⊥
texts_never c d [] behind bytes left script are is breaks = breaks
texts_never c d (s ∷ ss) behind bytes left script are is breaks =
    text_never c d s ss (texts_left ss behind) bytes left script are.0 (is ∙ append_assoc (bytes_spelling (printed s)) (flat_map bytes_spelling (map printed ss)) behind)
    (λ later. texts_never (next c s) d ss behind (texts_left ss behind) left (script_rest c d s ss script) are.1 refl later) breaks

make_same : (c d e : Lists) (ss : List Stmt) → Script c ss d → Make c (map printed ss) e → d ≡ e
make_same c d e [] script make = let is : c ≡ d = cc in sym is ∙ make
make_same c d e (s ∷ ss) script (found, is_next, rest) =
    let one : s ≡ found = prints_once (printed s) s found (first_next c d s ss script).prints is_next.prints in
    make_same (next c s) d e ss (script_rest c d s ss script) (subst (λ (x : Stmt). Make (next c x) (map printed ss) e) (sym one) rest)

pub differs_never : (whole : ℕ) (texts : List (List ℕ)) (behind : List ℕ) (left : ℕ) → ScriptDiffers whole texts texts behind left → ⊥
differs_never whole [] behind left differs = differs
differs_never whole (text ∷ texts) behind left (inl other) = other.0 refl
differs_never whole (text ∷ texts) behind left (inr same) = differs_never whole texts behind left same.1

abbrev lists_spelled : RowMap → Lists → List (List ℕ × Book) → List ℕ
lists_spelled rows c lines = list_spelling table_spelling (map (rows_in rows) c.tables) ++ list_spelling book_line lines

lists_never : (rows : RowMap) (c : Lists) (lines : List (List ℕ × Book)) (bytes : List ℕ) (left : ℕ) → AllByRecursion (IsSoundTable rows) c.tables → length c.tables < 2 ^ 32 → length lines < 2 ^ 32 → map (λ p. p.0) lines ≡ map user_name c.users
    → AllByRecursion (λ (p : List ℕ × Book). IsName p.0) lines → AllByRecursion (λ (p : List ℕ × Book). IsBook p.1) lines → bytes ≡ lists_spelled rows c lines → ListsBreak c.tables c.users bytes left → ⊥
lists_never rows c lines bytes left sound few_tables few_lines same names numbers is breaks = by breaks
  where
    users : length lines ≡ length c.users
    users = sym (length-map lines (λ (p : List ℕ × Book). p.0)) ∙ ap (λ (l : List (List ℕ)). length l) same ∙ length-map c.users user_name

    few_users : length c.users < 2 ^ 32
    few_users = subst (λ (n : ℕ). n < 2 ^ 32) users few_lines

    parts : bytes ≡ to_be_bytes w32 (length c.tables) ++ (tables_spelled rows c.tables ++ list_spelling book_line lines)
    parts =
        is ∙ append_assoc (to_be_bytes w32 (length (map (rows_in rows) c.tables))) (tables_spelled rows c.tables) (list_spelling book_line lines)
        ∙ ap (λ (n : ℕ). to_be_bytes w32 n ++ (tables_spelled rows c.tables ++ list_spelling book_line lines)) (length-map c.tables (rows_in rows))

    last_parts : list_spelling book_line lines ≡ to_be_bytes w32 (length c.users) ++ flat_map book_line lines
    last_parts = ap (λ (n : ℕ). to_be_bytes w32 n ++ flat_map book_line lines) users

    none : GoesOn [] left → ⊥
    none goes = goes.0 refl

    books_no : LastBreaks c.users (list_spelling book_line lines) left → ⊥
    books_no (inl count) = count_never (length c.users) (list_spelling book_line lines) (flat_map book_line lines) left few_users last_parts count
    books_no (inr there) =
        books_never c.users lines GoesOn [] (flat_map book_line lines) left same names numbers (sym (append-nil (flat_map book_line lines))) none
        (behind_same format32 (length c.users) (length c.users) (list_spelling book_line lines) (flat_map book_line lines) (λ books. BooksBreak c.users GoesOn books left) few_users few_users last_parts there).1

    by : CountBreaks (length c.tables) bytes left ⊎ BehindPart (to_be_bytes w32 (length c.tables)) (λ tables. TablesBreak c.tables (LastBreaks c.users) tables left) bytes → ⊥
    by (inl count) = count_never (length c.tables) bytes (tables_spelled rows c.tables ++ list_spelling book_line lines) left few_tables parts count
    by (inr there) =
        tables_never rows c.tables (LastBreaks c.users) (list_spelling book_line lines) (tables_spelled rows c.tables ++ list_spelling book_line lines) left sound refl books_no
        (behind_same format32 (length c.tables) (length c.tables) bytes (tables_spelled rows c.tables ++ list_spelling book_line lines) (λ tables. TablesBreak c.tables (LastBreaks c.users) tables left) few_tables few_tables parts there).1

abbrev pub texts_of : Lists → List (List ℕ)
texts_of c = map printed (statements c)

-- behind the texts
abbrev pub ReadBreaks : Lists → List (List ℕ) → ℕ → ℕ → List ℕ → Type 0
ReadBreaks d found whole left behind = ScriptDiffers whole (texts_of d) found behind left ⊎ ((found ≡ texts_of d) × ListsBreak d.tables d.users behind left)

-- behind the count of the texts
abbrev pub CountedTexts : Lists → ℕ → ℕ → ℕ → List ℕ → Type 0
CountedTexts new whole left count first =
    TextsBreak new count first left
    ⊎ ((found : List (List ℕ)) × (d : Lists) × (length found ≡ count) × AllByRecursion IsText found × Make new found d × BehindPart (flat_map bytes_spelling found) (λ behind. ReadBreaks d found whole left behind) first)

script_never : (rows : RowMap) (c : Lists) (lines : List (List ℕ × Book)) (bytes : List ℕ) (left : ℕ) → Script (nothing_but c.publisher) (statements c) c → IsListOf IsText (texts_of c) → AllByRecursion (IsSoundTable rows) c.tables
    → length c.tables < 2 ^ 32 → length lines < 2 ^ 32 → map (λ p. p.0) lines ≡ map user_name c.users → AllByRecursion (λ (p : List ℕ × Book). IsName p.0) lines → AllByRecursion (λ (p : List ℕ × Book). IsBook p.1) lines
    → bytes ≡ list_spelling bytes_spelling (texts_of c) ++ lists_spelled rows c lines → ScriptBreaks c.publisher bytes left → ⊥
script_never rows c lines bytes left script texts_are sound few_tables few_lines same names numbers is breaks = by breaks
  where
    parts : bytes ≡ to_be_bytes w32 (length (texts_of c)) ++ (flat_map bytes_spelling (texts_of c) ++ lists_spelled rows c lines)
    parts = is ∙ append_assoc (to_be_bytes w32 (length (texts_of c))) (flat_map bytes_spelling (texts_of c)) (lists_spelled rows c lines)

    last : (d : Lists) → c ≡ d → ReadBreaks d (texts_of c) (length bytes) left (lists_spelled rows c lines) → ⊥
    last d one (inl differs) = differs_never (length bytes) (texts_of c) (lists_spelled rows c lines) left (subst (λ (x : Lists). ScriptDiffers (length bytes) (texts_of x) (texts_of c) (lists_spelled rows c lines) left) (sym one) differs)
    last d one (inr (whole, broken)) =
        lists_never rows c lines (lists_spelled rows c lines) left sound few_tables few_lines same names numbers refl (subst (λ (x : Lists). ListsBreak x.tables x.users (lists_spelled rows c lines) left) (sym one) broken)

    by_texts : CountedTexts (nothing_but c.publisher) (length bytes) left (length (texts_of c)) (flat_map bytes_spelling (texts_of c) ++ lists_spelled rows c lines) → ⊥
    by_texts (inl broken) = texts_never (nothing_but c.publisher) c (statements c) (lists_spelled rows c lines) (flat_map bytes_spelling (texts_of c) ++ lists_spelled rows c lines) left script texts_are.1 refl broken
    by_texts (inr (found, d, count, are, make, there)) =
        let few : length found < 2 ^ 32 = subst (λ (n : ℕ). n < 2 ^ 32) (sym count) texts_are.0 in
        let listed : list_spelling bytes_spelling (texts_of c) ++ lists_spelled rows c lines ≡ list_spelling bytes_spelling found ++ there.rest =
        append_assoc (to_be_bytes w32 (length (texts_of c))) (flat_map bytes_spelling (texts_of c)) (lists_spelled rows c lines) ∙ (λ i. to_be_bytes w32 (sym count i) ++ there.parts i)
        ∙ sym (append_assoc (to_be_bytes w32 (length found)) (flat_map bytes_spelling found) there.rest) in
        let both = begins_no_other (list_format text_format) (texts_of c) found (lists_spelled rows c lines) there.rest texts_are (few, are) listed in
        let made : Make (nothing_but c.publisher) (texts_of c) d = subst (λ (ts : List (List ℕ)). Make (nothing_but c.publisher) ts d) (sym both.0) make in
        let then : ReadBreaks d found (length bytes) left (lists_spelled rows c lines) = subst (λ (l : List ℕ). ReadBreaks d found (length bytes) left l) (sym both.1) there.then in
        last d (make_same (nothing_but c.publisher) c d (statements c) script made) (subst (λ (ts : List (List ℕ)). ReadBreaks d ts (length bytes) left (lists_spelled rows c lines)) (sym both.0) then)

    by : ScriptBreaks c.publisher bytes left → ⊥
    by (inl field) = never format32 (length (texts_of c)) bytes (flat_map bytes_spelling (texts_of c) ++ lists_spelled rows c lines) left texts_are.0 parts field
    by (inr (count, short, there)) =
        let both = behind_same format32 (length (texts_of c)) count bytes (flat_map bytes_spelling (texts_of c) ++ lists_spelled rows c lines) (λ first. CountedTexts (nothing_but c.publisher) (length bytes) left count first) texts_are.0 short parts there in
        by_texts (subst (λ (n : ℕ). CountedTexts (nothing_but c.publisher) (length bytes) left n (flat_map bytes_spelling (texts_of c) ++ lists_spelled rows c lines)) (sym both.0) both.1)

-- ---- what a beginning has

ddl_joined : (ss ts : List Stmt) → AllByRecursion (λ s. IsTrue (is_ddl s)) ss → AllByRecursion (λ s. IsTrue (is_ddl s)) ts → AllByRecursion (λ s. IsTrue (is_ddl s)) (ss ++ ts)
ddl_joined [] ts one other = other
ddl_joined (s ∷ ss) ts one other = (one.0, ddl_joined ss ts one.1 other)

ddl_map : {A : Type 0} (f : A → Stmt) → ((x : A) → IsTrue (is_ddl (f x))) → (xs : List A) → AllByRecursion (λ s. IsTrue (is_ddl s)) (map f xs)
ddl_map f each [] = tt
ddl_map f each (x ∷ xs) = (each x, ddl_map f each xs)

grant_ddl : (u : User) → IsTrue (is_ddl (grant_of u))
unfolding grant_of
grant_ddl u = elim u.above as (λ b. IsTrue (is_ddl (cond b (stmt.GrantConsolidate (grant_rule u)) (stmt.GrantRemote (grant_rule u))))) [
  | true ↦ refl
  | false ↦ refl
]

table_ddl : (t : Table) → IsTrue (is_ddl (create_table_of t))
unfolding create_table_of
table_ddl t = refl

publication_ddl : (p : Publication) → IsTrue (is_ddl (create_publication_of p))
unfolding create_publication_of
publication_ddl p = refl

subscription_ddl : (s : Subscription) → IsTrue (is_ddl (create_subscription_of s))
unfolding create_subscription_of
subscription_ddl s = refl

start_ddl : (s : Subscription) → IsTrue (is_ddl (start_of s))
unfolding start_of
start_ddl s = refl

options_ddl : (o : Options) → AllByRecursion (λ s. IsTrue (is_ddl s)) (set_options_of o)
options_ddl o = elim o.verifies as (λ (b : Bool). AllByRecursion (λ s. IsTrue (is_ddl s)) (cond b (stmt.SetOption verifies_rule ∷ []) [])) [
  | true ↦ (refl, tt)
  | false ↦ tt
]

triggers_ddl : (tables : List Table) (ts : List Trigger) → AllByRecursion (TriggerStands tables) ts → AllByRecursion (λ s. IsTrue (is_ddl s)) (map trigger_stmt ts)
triggers_ddl tables [] all = tt
triggers_ddl tables (t ∷ ts) all = (subst (λ (x : Trigger). IsTrue (is_ddl (trigger_stmt x))) (sym all.0.is) refl, triggers_ddl tables ts all.1)

statements_ddl : (c : Lists) → IsMadeByStatements c → AllByRecursion (λ s. IsTrue (is_ddl s)) (statements c)
statements_ddl c made =
    ddl_joined (map grant_of c.users) _ (ddl_map grant_of grant_ddl c.users)
    (ddl_joined (map create_table_of c.tables) _ (ddl_map create_table_of table_ddl c.tables)
    (ddl_joined (map create_publication_of c.publications) _ (ddl_map create_publication_of publication_ddl c.publications)
    (ddl_joined (map trigger_stmt c.triggers) _ (triggers_ddl c.tables c.triggers (triggers_stand c made))
    (ddl_joined (map create_subscription_of c.subscriptions) _ (ddl_map create_subscription_of subscription_ddl c.subscriptions)
    (ddl_joined (map start_of (filter (λ s. s.started) c.subscriptions)) _ (ddl_map start_of start_ddl (filter (λ s. s.started) c.subscriptions))
    (options_ddl c.options))))))

rows_placed : (rows : RowMap) (t : Table) → TableFits t rows → (after : Option (List Value)) (es : List Entry) → AreHeld rows t.name es → Rises key_cmp es → AllByRecursion (λ (e : Entry). IsPast after e.0) es → ArePlaced t after (rows_of es)
rows_placed rows t fit after [] held rise past = tt
rows_placed rows t fit after (e ∷ es) held rise past =
    let row = fit e.0 e.1 held.0 in
    let key = sym row.1 in (
      (row.0, subst (λ (k : List Value). IsPast after k) key past.0),
      subst (λ (k : List Value). ArePlaced t (Some k) (rows_of es)) key (rows_placed rows t fit (Some e.0) es held.1 rise.1 rise.0),
    )

all_past : (es : List Entry) → AllByRecursion (λ (e : Entry). IsPast None e.0) es
all_past [] = tt
all_past (e ∷ es) = (tt, all_past es)

sound_tables : (b : Beginning) (bytes : List ℕ) → IsSnapshot b bytes → (ts : List Table) → AllByRecursion (λ (t : Table). named table_name t.name b.state.catalog.tables ≡ Some t) ts
    → AllByRecursion IsTableOf (map (rows_in b.state.rows) ts) → AllByRecursion (IsSoundTable b.state.rows) ts
sound_tables b bytes is [] found are = tt
sound_tables b bytes is (t ∷ ts) found are = (
  record {
    name = are.0.0;
    are = are.0.1;
    placed = rows_placed b.state.rows t (is.is.rows.each t.name t found.0) None (table_rows b.state.rows t.name) (table_held b.state.rows t.name) (table_rows-rise b.state.rows t.name) (all_past (table_rows b.state.rows t.name));
  },
  sound_tables b bytes is ts found.1 are.1,
)

lines_named : (lines : List (List ℕ × Book)) → AllByRecursion IsLine lines → AllByRecursion (λ (p : List ℕ × Book). IsName p.0) lines
lines_named [] all = tt
lines_named (p ∷ lines) all = (all.0.0, lines_named lines all.1)

abbrev later_of : Beginning → List ℕ
later_of b = list_spelling bytes_spelling (texts_of b.state.catalog) ++ lists_spelled b.state.rows b.state.catalog b.books

abbrev named_of : Beginning → List ℕ
named_of b = name_spelling b.state.catalog.publisher ++ later_of b

abbrev placed_of : Beginning → List ℕ
placed_of b = to_be_bytes w64 b.place ++ named_of b

abbrev pub NamedBreaks : ℕ → List ℕ → Type 0
NamedBreaks left named = FieldBreaks name_in named left ⊎ ((publisher : List ℕ) × IsName publisher × BehindPart (name_spelling publisher) (λ script. ScriptBreaks publisher script left) named)

abbrev pub PlacedBreaks : ℕ → List ℕ → Type 0
PlacedBreaks left placed = OffsetBreaks placed left ⊎ ((place : ℕ) × (place ≤ 2 ^ 62) × BehindPart (to_be_bytes w64 place) (λ named. NamedBreaks left named) placed)

pub state_never : (b : Beginning) (bytes : List ℕ) (left : ℕ) → IsSnapshot b bytes → StateBreaks bytes left → ⊥
state_never b bytes left is breaks = by breaks
  where
    fits : IsBody (body_of b)
    fits = body_fits b bytes is

    script : Script (nothing_but b.state.catalog.publisher) (statements b.state.catalog) b.state.catalog
    script = record { normal = script_normal b.state.catalog is.is.catalog; changes = statements_ddl b.state.catalog is.is.catalog.made; makes = script_again b.state.catalog is.is.catalog }

    tables : AllByRecursion (IsSoundTable b.state.rows) b.state.catalog.tables
    tables = sound_tables b bytes is b.state.catalog.tables (each_named b.state.catalog.tables (distinct_tables b.state.catalog is.is.catalog.made)) fits.1.1.1.0.1

    few_tables : length b.state.catalog.tables < 2 ^ 32
    few_tables = subst (λ (n : ℕ). n < 2 ^ 32) (length-map b.state.catalog.tables (rows_in b.state.rows)) fits.1.1.1.0.0

    by_name : NamedBreaks left (named_of b) → ⊥
    by_name (inl field) = never name_in_format b.state.catalog.publisher (named_of b) (later_of b) left is.is.publisher refl field
    by_name (inr (publisher, is_name, there)) =
        let both = behind_same name_format b.state.catalog.publisher publisher (named_of b) (later_of b) (λ script. ScriptBreaks publisher script left) is.is.publisher is_name refl there in
        script_never b.state.rows b.state.catalog b.books (later_of b) left script fits.1.1.0 tables few_tables fits.1.1.1.1.0 is.is.users (lines_named b.books fits.1.1.1.1.1) is.is.numbers refl
        (subst (λ (n : List ℕ). ScriptBreaks n (later_of b) left) (sym both.0) both.1)

    by_placed : PlacedBreaks left (placed_of b) → ⊥
    by_placed (inl (inl field)) = never format64 b.place (placed_of b) (named_of b) left fits.0 refl field
    by_placed (inl (inr far)) =
        let same = (behind_same format64 b.place far.place (placed_of b) (named_of b) (λ rest. ⊤) fits.0 far.short refl far.there).0 in
        absurd (omega (arith, same, far.far, is.is.place))
    by_placed (inr (place, near, there)) =
        by_name (behind_same format64 b.place place (placed_of b) (named_of b) (λ named. NamedBreaks left named) fits.0 (omega (arith, near)) refl there).1

    by : StateBreaks bytes left → ⊥
    by (inl other) = other.other (placed_of b) is.bytes_are
    by (inr there) =
        let rest : placed_of b ≡ there.rest = behind_magic (placed_of b) there.rest (sym is.bytes_are ∙ there.parts) in
        by_placed (subst (λ (l : List ℕ). PlacedBreaks left l) (sym rest) there.then)

pub damage_excludes : (b : Beginning) (bytes : List ℕ) (at : ℕ) → IsDamagedSnapshot bytes at → IsSnapshot b bytes → ⊥
damage_excludes b bytes at (inl long) is = absurd (omega (arith, long.0, is.short))
damage_excludes b bytes at (inr (short, (left, breaks, here))) is = state_never b bytes left is breaks
