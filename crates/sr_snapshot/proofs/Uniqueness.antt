-- A snapshot is of one beginning: the parts of a snapshot have their formats, and from its parts follows the beginning.
use Rattle.std.proofs.Common.{◌≡◌, ◌≤◌, ℕ, Bool, true, false, cond, List, [], ◌∷◌, ◌++◌, length, map, Some, refl, sym, ap, subst, ◌∙◌, length-append, arith}
use Rattle.std.specs.Int.{w32, w64, to_be_bytes}
use Rattle.std.specs.List.{flat_map, AllByRecursion}
use Rattle.std.specs.Str.{IsUtf8}
use Rattle.sr_ast.specs.Layout.{printed}
use Rattle.sr_ast.specs.NormalForms.{IsNormal}
use Rattle.sr_ast.specs.declared.stmt.Stmt.{Stmt}
use Rattle.sr_ast.specs.declared.stmt.Stmt.TheVariants as stmt
use Rattle.sr_base.proofs.Formats.{begins_no_other}
use Rattle.sr_base.specs.Fields.{bytes_spelling, list_spelling, name_spelling, IsListOf, IsName, IsText}
use Rattle.sr_base.specs.Values.{IsValue, row_spelling, value_spelling}
use Rattle.sr_base.specs.declared.value.Value.{Value}
use Rattle.sr_book.specs.declared.book.Book.{Book}
use Rattle.sr_catalog_schema.specs.Catalogs.{Lists, nothing_but}
use Rattle.sr_catalog_schema.specs.Members.{user_name}
use Rattle.sr_catalog_schema.specs.declared.table.Table.{Table}
use Rattle.sr_catalog_schema.specs.declared.user.User.{User}
use Rattle.sr_catalog_script_laws.proofs.Spelled.{script_again, script_normal}
use Rattle.sr_catalog_script_laws.specs.Scripts.{create_table_of, grant_of, grant_rule, replayed, statements, IsSpellable}
use Rattle.sr_exec_dml.specs.Fitting.{RowsFit}
use Rattle.sr_logform.specs.Entries.{table_spelling}
use Rattle.sr_parse.proofs.Prints.{prints_once}
use Rattle.sr_rows.proofs.Cursors.{AreHeld, table_held}
use Rattle.sr_rows.specs.Marks.{RowMap, rows_of_table}
use Rattle.sr_rows.specs.Walks.{Entry, table_rows}
use Rattle.sr_snapshot.proofs.Formats.{body_format, body_spelling, Body, IsBody, IsLine, IsTableOf}
use Rattle.sr_snapshot.proofs.SameRows.{same_rows}
use Rattle.sr_snapshot.proofs.Shorts.{value_some}
use Rattle.sr_snapshot.specs.Beginnings.{Beginning, IsBook}
use Rattle.sr_snapshot.specs.Parts.{book_line, longest, magic, rows_of}
use Rattle.sr_snapshot.specs.Snapshots.{rows_in, snapshot_spelling, IsSnapshot}

-- ---- lists of parts

all_joined : {A : Type 0} (P : A → Type 0) (xs ys : List A) → AllByRecursion P (xs ++ ys) → AllByRecursion P xs × AllByRecursion P ys
all_joined P [] ys all = (tt, all)
all_joined P (x ∷ xs) ys all = let rest = all_joined P xs ys all.1 in ((all.0, rest.0), rest.1)

pub all_of_map : {A B : Type 0} (P : B → Type 0) (f : A → B) (xs : List A) → AllByRecursion P (map f xs) → AllByRecursion (λ x. P (f x)) xs
all_of_map P f [] all = tt
all_of_map P f (x ∷ xs) all = (all.0, all_of_map P f xs all.1)

all_map : {A B : Type 0} (P : B → Type 0) (f : A → B) (xs : List A) → AllByRecursion (λ x. P (f x)) xs → AllByRecursion P (map f xs)
all_map P f [] all = tt
all_map P f (x ∷ xs) all = (all.0, all_map P f xs all.1)

all_step : {A : Type 0} (P Q : A → Type 0) → ((x : A) → P x → Q x) → (xs : List A) → AllByRecursion P xs → AllByRecursion Q xs
all_step P Q step [] all = tt
all_step P Q step (x ∷ xs) all = (step x all.0, all_step P Q step xs all.1)

all_two : {A : Type 0} (P Q : A → Type 0) (xs : List A) → AllByRecursion P xs → AllByRecursion Q xs → AllByRecursion (λ x. P x × Q x) xs
all_two P Q [] one other = tt
all_two P Q (x ∷ xs) one other = ((one.0, other.0), all_two P Q xs one.1 other.1)

-- items whose spellings have a byte at least are not more than the bytes, and each spelling is a part of them
few : {A : Type 0} (f : A → List ℕ) → ((x : A) → 1 ≤ length (f x)) → (xs : List A) → length xs ≤ length (flat_map f xs)
few f some [] = omega arith
few f some (x ∷ xs) = omega (arith, some x, few f some xs, length-append (f x) (flat_map f xs))

each_short : {A : Type 0} (f : A → List ℕ) (xs : List A) → length (flat_map f xs) ≤ longest → AllByRecursion (λ x. length (f x) ≤ longest) xs
each_short f [] le = tt
each_short f (x ∷ xs) le = let parts = length-append (f x) (flat_map f xs) in (omega (arith, le, parts), each_short f xs (omega (arith, le, parts)))

behind_count : (n : ℕ) (bytes : List ℕ) → length (to_be_bytes w32 n ++ bytes) ≤ longest → length bytes ≤ longest
behind_count n bytes le = omega (arith, le, length-append (to_be_bytes w32 n) bytes)

-- ---- what a catalog's script says of names

users_named : (us : List User) → AllByRecursion IsNormal (map grant_of us) → AllByRecursion (λ (u : User). IsName u.name) us
unfolding grant_of
users_named [] all = tt
users_named (u ∷ us) all = (by u.above all.0, users_named us all.1)
  where
    by : (b : Bool) → IsNormal (cond b (stmt.GrantConsolidate (grant_rule u)) (stmt.GrantRemote (grant_rule u))) → IsName u.name
    by true normal = normal.0.written
    by false normal = normal.0.written

tables_named : (ts : List Table) → AllByRecursion IsNormal (map create_table_of ts) → AllByRecursion (λ (t : Table). IsName t.name) ts
unfolding create_table_of
tables_named [] all = tt
tables_named (t ∷ ts) all = (all.0.name.written, tables_named ts all.1)

-- ---- the parts of a beginning

abbrev pub body_of : Beginning → Body
body_of b = (b.place, (b.state.catalog.publisher, (map printed (statements b.state.catalog), (map (rows_in b.state.rows) b.state.catalog.tables, b.books))))

pub body_is : (b : Beginning) → snapshot_spelling b ≡ magic ++ body_spelling (body_of b)
body_is b = refl

text_some : (text : List ℕ) → 1 ≤ length (bytes_spelling text)
text_some text = omega arith

texts_fit : (texts : List (List ℕ)) → AllByRecursion IsUtf8 texts → length (flat_map bytes_spelling texts) ≤ longest → IsListOf IsText texts
texts_fit texts all le = (omega (arith, le, few bytes_spelling text_some texts), by texts all le)
  where
    by : (texts : List (List ℕ)) → AllByRecursion IsUtf8 texts → length (flat_map bytes_spelling texts) ≤ longest → AllByRecursion IsText texts
    by [] all le = tt
    by (t ∷ texts) all le =
        let parts = length-append (bytes_spelling t) (flat_map bytes_spelling texts) in
        let own = length-append (to_be_bytes w32 (length t)) t in
        (record { short = omega (arith, le, parts, own); utf8 = all.0 }, by texts all.1 (omega (arith, le, parts)))

row_fits : (row : List Value) → AllByRecursion IsValue row → length (row_spelling row) ≤ longest → IsListOf IsValue row
row_fits row all le = (omega (arith, le, few value_spelling value_some row, length-append (to_be_bytes w32 (length row)) (flat_map value_spelling row)), all)

row_some : (row : List Value) → 1 ≤ length (row_spelling row)
row_some row = omega arith

rows_fit : (rows : List (List Value)) → AllByRecursion (AllByRecursion IsValue) rows → length (flat_map row_spelling rows) ≤ longest → IsListOf (IsListOf IsValue) rows
rows_fit rows all le = (omega (arith, le, few row_spelling row_some rows), by rows all le)
  where
    by : (rows : List (List Value)) → AllByRecursion (AllByRecursion IsValue) rows → length (flat_map row_spelling rows) ≤ longest → AllByRecursion (IsListOf IsValue) rows
    by [] all le = tt
    by (r ∷ rows) all le =
        let parts = length-append (row_spelling r) (flat_map row_spelling rows) in
        (row_fits r all.0 (omega (arith, le, parts)), by rows all.1 (omega (arith, le, parts)))

held_values : (rows : RowMap) (name : List ℕ) → ((name : List ℕ) (key row : List Value) → rows_of_table rows name key ≡ Some row → AllByRecursion IsValue row) → (es : List Entry) → AreHeld rows name es
    → AllByRecursion (AllByRecursion IsValue) (rows_of es)
held_values rows name values [] held = tt
held_values rows name values (e ∷ es) held = (values name e.0 e.1 held.0, held_values rows name values es held.1)

tables_fit : (rows : RowMap) → ((name : List ℕ) (key row : List Value) → rows_of_table rows name key ≡ Some row → AllByRecursion IsValue row) → (ts : List Table) → AllByRecursion (λ (t : Table). IsName t.name) ts
    → length (flat_map table_spelling (map (rows_in rows) ts)) ≤ longest → IsListOf IsTableOf (map (rows_in rows) ts)
tables_fit rows values ts names le = (omega (arith, le, few table_spelling (λ p. omega arith) (map (rows_in rows) ts)), by ts names le)
  where
    by : (ts : List Table) → AllByRecursion (λ (t : Table). IsName t.name) ts → length (flat_map table_spelling (map (rows_in rows) ts)) ≤ longest → AllByRecursion IsTableOf (map (rows_in rows) ts)
    by [] names le = tt
    by (t ∷ ts) names le =
        let its = rows_of (table_rows rows t.name) in
        let parts = length-append (table_spelling (rows_in rows t)) (flat_map table_spelling (map (rows_in rows) ts)) in
        let own = length-append (name_spelling t.name) (list_spelling row_spelling its) in
        let counted = length-append (to_be_bytes w32 (length its)) (flat_map row_spelling its) in
        ((names.0, rows_fit its (held_values rows t.name values (table_rows rows t.name) (table_held rows t.name)) (omega (arith, le, parts, own, counted))), by ts names.1 (omega (arith, le, parts)))

lines_fit : (lines : List (List ℕ × Book)) → AllByRecursion (λ (p : List ℕ × Book). IsName p.0) lines → AllByRecursion (λ (p : List ℕ × Book). IsBook p.1) lines → length (flat_map book_line lines) ≤ longest → IsListOf IsLine lines
lines_fit lines names numbers le = (omega (arith, le, few book_line (λ p. omega arith) lines), by lines names numbers)
  where
    by : (lines : List (List ℕ × Book)) → AllByRecursion (λ (p : List ℕ × Book). IsName p.0) lines → AllByRecursion (λ (p : List ℕ × Book). IsBook p.1) lines → AllByRecursion IsLine lines
    by [] names numbers = tt
    by (p ∷ lines) names numbers =
        let b = numbers.0 in
        ((names.0, ((b.log_sent, (b.confirm_sent, (b.send_count, b.resend_count))), (b.log_received, (b.confirm_received, (b.receive_count, b.rereceive_count))))), by lines names.1 numbers.1)

names_of_users : (us : List User) (lines : List (List ℕ × Book)) → AllByRecursion (λ (u : User). IsName u.name) us → map (λ p. p.0) lines ≡ map user_name us → AllByRecursion (λ (p : List ℕ × Book). IsName p.0) lines
names_of_users us lines named same =
    all_of_map IsName (λ p. p.0) lines (subst (λ (ns : List (List ℕ)). AllByRecursion IsName ns) (sym same) (all_map IsName user_name us named))

pub body_fits : (b : Beginning) (bytes : List ℕ) → IsSnapshot b bytes → IsBody (body_of b)
body_fits b bytes is =
    let c = b.state.catalog in
    let normal = script_normal c is.is.catalog in
    let grants = all_joined IsNormal (map grant_of c.users) _ normal in
    let creates = all_joined IsNormal (map create_table_of c.tables) _ grants.1 in
    let texts = map printed (statements c) in
    let tables = map (rows_in b.state.rows) c.tables in
    let le : length (snapshot_spelling b) ≤ longest = subst (λ (l : List ℕ). length l ≤ longest) is.bytes_are is.short in
    let p0 = length-append (to_be_bytes w64 b.place) (name_spelling c.publisher ++ (list_spelling bytes_spelling texts ++ (list_spelling table_spelling tables ++ list_spelling book_line b.books))) in
    let p1 = length-append (name_spelling c.publisher) (list_spelling bytes_spelling texts ++ (list_spelling table_spelling tables ++ list_spelling book_line b.books)) in
    let p2 = length-append (list_spelling bytes_spelling texts) (list_spelling table_spelling tables ++ list_spelling book_line b.books) in
    let p3 = length-append (list_spelling table_spelling tables) (list_spelling book_line b.books) in
    let own_texts = texts_fit texts is.is.texts (behind_count (length texts) (flat_map bytes_spelling texts) (omega (arith, le, p0, p1, p2))) in
    let own_tables = tables_fit b.state.rows is.is.values c.tables (tables_named c.tables creates.0) (behind_count (length tables) (flat_map table_spelling tables) (omega (arith, le, p0, p1, p2, p3))) in
    let own_lines = lines_fit b.books (names_of_users c.users b.books (users_named c.users grants.0) is.is.users) is.is.numbers (behind_count (length b.books) (flat_map book_line b.books) (omega (arith, le, p0, p1, p2, p3))) in
    (omega (arith, is.is.place), (is.is.publisher, (own_texts, (own_tables, own_lines))))

-- ---- what the parts say

pub behind_magic : (xs ys : List ℕ) → magic ++ xs ≡ magic ++ ys → xs ≡ ys
behind_magic xs ys same = cc

stmts_same : (ss ts : List Stmt) → AllByRecursion IsNormal ss → AllByRecursion IsNormal ts → map printed ss ≡ map printed ts → ss ≡ ts
stmts_same [] [] one other same = refl
stmts_same [] (t ∷ ts) one other same = cc
stmts_same (s ∷ ss) [] one other same = cc
stmts_same (s ∷ ss) (t ∷ ts) one other same =
    let heads : printed s ≡ printed t = cc in
    let tails : map printed ss ≡ map printed ts = cc in
    let head : s ≡ t = prints_once (printed s) s t (record { normal = one.0; prints = refl }) (record { normal = other.0; prints = sym heads }) in
    let tail = stmts_same ss ts one.1 other.1 tails in
    λ i. head i ∷ tail i

some_is : (c d : Lists) → Some c ≡ Some d → c ≡ d
some_is c d same = cc

pub catalogs_same : (c d : Lists) → IsSpellable c → IsSpellable d → c.publisher ≡ d.publisher → map printed (statements c) ≡ map printed (statements d) → c ≡ d
catalogs_same c d one other publishers texts =
    let ss : statements c ≡ statements d = stmts_same (statements c) (statements d) (script_normal c one) (script_normal d other) texts in
    some_is c d (sym (script_again c one) ∙ (λ i. replayed (nothing_but (publishers i)) (ss i)) ∙ script_again d other)

bodies_same : (b d : Beginning) (bytes : List ℕ) → IsSnapshot b bytes → IsSnapshot d bytes → body_of b ≡ body_of d
bodies_same b d bytes one other =
    let spelled : body_spelling (body_of b) ≡ body_spelling (body_of d) = behind_magic _ _ (sym one.bytes_are ∙ other.bytes_are) in
    (begins_no_other body_format (body_of b) (body_of d) [] [] (body_fits b bytes one) (body_fits d bytes other) (ap (λ (l : List ℕ). l ++ []) spelled)).0

same_state : (b d : Beginning) (bytes : List ℕ) → IsSnapshot b bytes → IsSnapshot d bytes → body_of b ≡ body_of d → b.state.catalog ≡ d.state.catalog → b ≡ d
same_state b d bytes one other parts catalog =
    let fit : RowsFit b.state.catalog d.state.rows = subst (λ (c : Lists). RowsFit c d.state.rows) (sym catalog) other.is.rows in
    let tables : map (rows_in b.state.rows) b.state.catalog.tables ≡ map (rows_in d.state.rows) b.state.catalog.tables =
    ap (λ (p : Body). p.1.1.1.0) parts ∙ ap (λ (c : Lists). map (rows_in d.state.rows) c.tables) (sym catalog) in
    let rows : b.state.rows ≡ d.state.rows = same_rows b.state.catalog b.state.rows d.state.rows one.is.rows fit tables in
    λ i. record { place = (parts i).0; state = record { catalog = catalog i; rows = rows i }; books = (parts i).1.1.1.1 }

pub one_beginning : (b d : Beginning) (bytes : List ℕ) → IsSnapshot b bytes → IsSnapshot d bytes → b ≡ d
one_beginning b d bytes one other =
    let parts = bodies_same b d bytes one other in
    same_state b d bytes one other parts (catalogs_same b.state.catalog d.state.catalog one.is.catalog other.is.catalog (ap (λ (p : Body). p.1.0) parts) (ap (λ (p : Body). p.1.1.0) parts))
