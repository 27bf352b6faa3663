-- A state, read part by part.
use Rattle.std.proofs.Common.{◌≡◌, ◌≤◌, ◌<◌, ◌^◌, ◌+◌, ℕ, List, [], ◌∷◌, ◌++◌, length, map, drop, refl, sym, ap, subst, ◌∙◌, append_assoc, length-drop, arith, inl, inr}
use Rattle.std.proofs.lemmas.List.{drop_all, length-map}
use Rattle.std.specs.Int.{w32, w64, to_be_bytes}
use Rattle.std.specs.List.{flat_map, AllByRecursion}
use Rattle.std.specs.Prelude.{IsTrue}
use Rattle.std.specs.Str.{IsUtf8}
use Rattle.sr_ast.specs.Layout.{printed}
use Rattle.sr_base.specs.Fields.{bytes_spelling, list_spelling, name_spelling, IsName, IsText}
use Rattle.sr_book.specs.Entries.{Name}
use Rattle.sr_book.specs.declared.book.Book.{Book}
use Rattle.sr_catalog_schema.specs.Catalogs.{Lists, nothing_but}
use Rattle.sr_catalog_schema.specs.Members.{user_name}
use Rattle.sr_catalog_schema.specs.declared.table.Table.{Table}
use Rattle.sr_catalog_schema.specs.declared.user.User.{User}
use Rattle.sr_catalog_script_laws.specs.Scripts.{statements, IsSpellable}
use Rattle.sr_logform.specs.Entries.{table_spelling}
use Rattle.sr_rows.specs.Marks.{RowMap}
use Rattle.sr_site.specs.Causes.{Rose}
use Rattle.sr_site.specs.Files.{bytes_of}
use Rattle.sr_site.specs.Seen.{Seen}
use Rattle.sr_site.specs.declared.file.File.{File}
use Rattle.sr_snapshot.specs.Beginnings.{IsBeginning, IsBook}
use Rattle.sr_snapshot.specs.Parts.{book_line, magic}
use Rattle.sr_snapshot.specs.Snapshots.{rows_in, snapshot_spelling}
use Rattle.sr_snapshot.specs.declared.fault.SnapFault.{SnapFault}
use Rattle.sr_snapshot.specs.declared.fault.SnapFault.TheVariants.{Disk, Long, Damaged, Memory}
use Rattle.sr_snapshot_read.proofs.BooksRead.{books_map, books_then}
use Rattle.sr_snapshot_read.proofs.ScriptRead.{script_broken}
use Rattle.sr_snapshot_read.proofs.Standing.{distinct_tables}
use Rattle.sr_snapshot_read.proofs.TablesRead.{rows_fit, rows_values, tables_map, tables_then}
use Rattle.sr_snapshot_read.proofs.Windows.{cause_as, cause_behind, read_on, same_bytes, taken_on, then_told}
use Rattle.sr_snapshot_read.specs.Inner.Damages.{NeverBreaks}
use Rattle.sr_snapshot_read.specs.Damages.{BooksBreak, CountBreaks, GoesOn, LacksMagic, LastBreaks, ListsBreak, Make, OffsetBreaks, ScriptBreaks, StateBreaks, TablesBreak, FieldBreaks}
use Rattle.sr_snapshot_read.specs.Places.{name_in}
use Rattle.sr_snapshot_read.specs.Inner.Reading.{BreaksAt, HasTaken, TakeCause}
use Rattle.sr_snapshot_read.specs.Inner.ScriptRead.{HasTakenScript}
use Rattle.sr_snapshot_read.specs.Inner.TablesRead.{AreHeldIn, IsReadTable}
use Rattle.sr_snapshot_read.specs.Inner.Views.{View}

-- ---- books, and the end

abbrev Line : Type 0
Line = List ℕ × Book

same_count : (us : List User) (lines : List Line) → map (λ p. p.0) lines ≡ map user_name us → length us ≡ length lines
same_count us lines same = sym (length-map us user_name) ∙ ap (λ (l : List (List ℕ)). length l) (sym same) ∙ length-map lines (λ (p : Line). p.0)

pub last_count : (file : File) (us : List User) (before now : Seen) (view : View) (fault : SnapFault) → TakeCause file (CountBreaks (length us)) before now view fault → TakeCause file (LastBreaks us) before now view fault
last_count file us before now view fault cause = cause_as file (CountBreaks (length us)) (LastBreaks us) before now view fault (λ bytes left broken. inl broken) cause

pub last_books : (file : File) (us : List User) (before middle now : Seen) (v0 v1 : View) (fault : SnapFault) → HasTaken file (to_be_bytes w32 (length us)) before middle v0 v1 → TakeCause file (BooksBreak us NeverBreaks) middle now v1 fault
    → TakeCause file (LastBreaks us) before now v0 fault
last_books file us before middle now v0 v1 fault taken cause =
    cause_behind file (BooksBreak us NeverBreaks) (LastBreaks us) (to_be_bytes w32 (length us)) before middle now v0 v1 fault taken
    (λ bytes rest left is broken. inr (record { rest = rest; parts = is; then = books_map us GoesOn rest left broken })) cause

pub books_taken : (file : File) (us : List User) (lines : List Line) (before middle now : Seen) (v0 v1 v2 : View) → map (λ p. p.0) lines ≡ map user_name us → HasTaken file (to_be_bytes w32 (length us)) before middle v0 v1
    → HasTaken file (flat_map book_line lines) middle now v1 v2 → HasTaken file (list_spelling book_line lines) before now v0 v2
books_taken file us lines before middle now v0 v1 v2 same one other =
    subst (λ (n : ℕ). HasTaken file (to_be_bytes w32 n ++ flat_map book_line lines) before now v0 v2) (same_count us lines same)
    (taken_on file (to_be_bytes w32 (length us)) (flat_map book_line lines) before middle now v0 v1 v2 one other)

-- no byte is left
pub at_its_end : (file : File) (a : List ℕ) (before now : Seen) (v0 v1 : View) → HasTaken file a before now v0 v1 → v1.place ≡ v1.size → IsTrue before.observable → drop v1.place (bytes_of before.files file) ≡ []
at_its_end file a before now v0 v1 taken end told =
    let bytes = bytes_of before.files file in
    ap (λ (n : ℕ). drop n bytes) (end ∙ (taken.over told).size_is) ∙ drop_all (length bytes) bytes (omega arith)

not_nil : (bytes : List ℕ) → 0 < length bytes → ¬ (bytes ≡ [])
not_nil bytes some none = absurd (omega (arith, some, ap (λ (l : List ℕ). length l) none))

-- a byte more
pub last_more : (file : File) (us : List User) (lines : List Line) (before middle now : Seen) (v0 v1 v2 : View) (fault : SnapFault) → map (λ p. p.0) lines ≡ map user_name us → AllByRecursion (λ (p : Line). IsBook p.1) lines
    → HasTaken file (to_be_bytes w32 (length us)) before middle v0 v1 → HasTaken file (flat_map book_line lines) middle now v1 v2 → fault ≡ Damaged v2.place → v2.place < v2.size → TakeCause file (LastBreaks us) before now v0 fault
last_more file us lines before middle now v0 v1 v2 fault same numbers one other is some =
    let all = taken_on file (to_be_bytes w32 (length us)) (flat_map book_line lines) before middle now v0 v1 v2 one other in
    let cause : TakeCause file (LastBreaks us) before now v0 (Damaged v2.place) = (
      all.read,
      all.steady,
      λ told.
          let bytes = bytes_of before.files file in
          let behind : drop v0.place bytes ≡ to_be_bytes w32 (length us) ++ (flat_map book_line lines ++ drop v2.place bytes) =
          all.parts told ∙ append_assoc (to_be_bytes w32 (length us)) (flat_map book_line lines) (drop v2.place bytes) in
          let left : length (drop v2.place bytes) + v2.place ≡ v2.size = omega (arith, some, (all.over told).size_is, length-drop v2.place bytes) in
          let goes : GoesOn (drop v2.place bytes) (length (drop v2.place bytes)) = (not_nil (drop v2.place bytes) (omega (arith, left, some)), refl) in
          record {
            left = length (drop v2.place bytes);
            broken = inr (record { rest = flat_map book_line lines ++ drop v2.place bytes; parts = behind; then = books_then us lines GoesOn (flat_map book_line lines ++ drop v2.place bytes) (drop v2.place bytes) _ same numbers refl goes });
            at_is = omega (arith, left, (all.over told).size_is);
          },
    ) in
    subst (λ (e : SnapFault). TakeCause file (LastBreaks us) before now v0 e) (sym is) cause

-- ---- tables, and what is behind them

pub lists_count : (file : File) (ts : List Table) (us : List User) (before now : Seen) (view : View) (fault : SnapFault) → TakeCause file (CountBreaks (length ts)) before now view fault → TakeCause file (ListsBreak ts us) before now view fault
lists_count file ts us before now view fault cause = cause_as file (CountBreaks (length ts)) (ListsBreak ts us) before now view fault (λ bytes left broken. inl broken) cause

pub lists_tables : (file : File) (ts : List Table) (us : List User) (before middle now : Seen) (v0 v1 : View) (fault : SnapFault) → HasTaken file (to_be_bytes w32 (length ts)) before middle v0 v1 → TakeCause file (TablesBreak ts NeverBreaks) middle now v1 fault
    → TakeCause file (ListsBreak ts us) before now v0 fault
lists_tables file ts us before middle now v0 v1 fault taken cause =
    cause_behind file (TablesBreak ts NeverBreaks) (ListsBreak ts us) (to_be_bytes w32 (length ts)) before middle now v0 v1 fault taken
    (λ bytes rest left is broken. inr (record { rest = rest; parts = is; then = tables_map ts (LastBreaks us) rest left broken })) cause

pub lists_last : (file : File) (ts : List Table) (us : List User) (rows : RowMap) (before middle later now : Seen) (v0 v1 v2 : View) (fault : SnapFault) → AllByRecursion (IsReadTable rows) ts → HasTaken file (to_be_bytes w32 (length ts)) before middle v0 v1
    → HasTaken file (flat_map table_spelling (map (rows_in rows) ts)) middle later v1 v2 → TakeCause file (LastBreaks us) later now v2 fault → TakeCause file (ListsBreak ts us) before now v0 fault
lists_last file ts us rows before middle later now v0 v1 v2 fault each one other cause =
    let tables : List ℕ = flat_map table_spelling (map (rows_in rows) ts) in
    cause_behind file (LastBreaks us) (ListsBreak ts us) (to_be_bytes w32 (length ts) ++ tables) before later now v0 v2 fault (taken_on file (to_be_bytes w32 (length ts)) tables before middle later v0 v1 v2 one other)
    (λ bytes rest left is broken.
    inr (record {
      rest = tables ++ rest;
      parts = is ∙ append_assoc (to_be_bytes w32 (length ts)) tables rest;
      then = tables_then rows ts (LastBreaks us) (tables ++ rest) rest left each refl broken;
    })) cause

pub lists_taken : (file : File) (ts : List Table) (rows : RowMap) (lines : List Line) (before middle later now : Seen) (v0 v1 v2 v3 : View) → HasTaken file (to_be_bytes w32 (length ts)) before middle v0 v1
    → HasTaken file (flat_map table_spelling (map (rows_in rows) ts)) middle later v1 v2 → HasTaken file (list_spelling book_line lines) later now v2 v3
    → HasTaken file (list_spelling table_spelling (map (rows_in rows) ts) ++ list_spelling book_line lines) before now v0 v3
lists_taken file ts rows lines before middle later now v0 v1 v2 v3 one other last =
    let tables : List ℕ = flat_map table_spelling (map (rows_in rows) ts) in
    let front = taken_on file (to_be_bytes w32 (length ts)) tables before middle later v0 v1 v2 one other in
    let counted : HasTaken file (list_spelling table_spelling (map (rows_in rows) ts)) before later v0 v2 =
    subst (λ (n : ℕ). HasTaken file (to_be_bytes w32 n ++ tables) before later v0 v2) (sym (length-map ts (rows_in rows))) front in
    taken_on file (list_spelling table_spelling (map (rows_in rows) ts)) (list_spelling book_line lines) before later now v0 v2 v3 counted last

-- what holds of the bytes still holds of them
pub ends_then : (file : File) (a : List ℕ) (before middle : Seen) (v0 v1 : View) (place : ℕ) → HasTaken file a before middle v0 v1 → (IsTrue middle.observable → drop place (bytes_of middle.files file) ≡ []) → IsTrue before.observable
    → drop place (bytes_of before.files file) ≡ []
ends_then file a before middle v0 v1 place taken ends told = subst (λ (l : List ℕ). drop place l ≡ []) (same_bytes file before middle taken.read told) (ends (then_told before middle taken.read told))

-- ---- the head

pub head_magic : (file : File) (before now : Seen) (view : View) (fault : SnapFault) → TakeCause file LacksMagic before now view fault → TakeCause file StateBreaks before now view fault
head_magic file before now view fault cause = cause_as file LacksMagic StateBreaks before now view fault (λ bytes left broken. inl broken) cause

pub head_offset : (file : File) (before middle now : Seen) (v0 v1 : View) (fault : SnapFault) → HasTaken file magic before middle v0 v1 → TakeCause file OffsetBreaks middle now v1 fault → TakeCause file StateBreaks before now v0 fault
head_offset file before middle now v0 v1 fault taken cause =
    cause_behind file OffsetBreaks StateBreaks magic before middle now v0 v1 fault taken (λ bytes rest left is broken. inr (record { rest = rest; parts = is; then = inl broken })) cause

pub head_name : (file : File) (place : ℕ) (before middle later now : Seen) (v0 v1 v2 : View) (fault : SnapFault) → place ≤ 2 ^ 62 → HasTaken file magic before middle v0 v1 → HasTaken file (to_be_bytes w64 place) middle later v1 v2
    → TakeCause file (FieldBreaks name_in) later now v2 fault → TakeCause file StateBreaks before now v0 fault
head_name file place before middle later now v0 v1 v2 fault near one other cause =
    cause_behind file (FieldBreaks name_in) StateBreaks (magic ++ to_be_bytes w64 place) before later now v0 v2 fault (taken_on file magic (to_be_bytes w64 place) before middle later v0 v1 v2 one other)
    (λ bytes rest left is broken.
    inr (record {
      rest = to_be_bytes w64 place ++ rest;
      parts = is ∙ append_assoc magic (to_be_bytes w64 place) rest;
      then = inr (place, near, record { rest = rest; parts = refl; then = inl broken });
    })) cause

pub head_taken : (file : File) (place : ℕ) (name : Name) (before middle later now : Seen) (v0 v1 v2 v3 : View) → HasTaken file magic before middle v0 v1 → HasTaken file (to_be_bytes w64 place) middle later v1 v2
    → HasTaken file (name_spelling name) later now v2 v3 → HasTaken file (magic ++ (to_be_bytes w64 place ++ name_spelling name)) before now v0 v3
head_taken file place name before middle later now v0 v1 v2 v3 one other last =
    taken_on file magic (to_be_bytes w64 place ++ name_spelling name) before middle now v0 v1 v3 one (taken_on file (to_be_bytes w64 place) (name_spelling name) middle later now v1 v2 v3 other last)

-- ---- all of it

abbrev head_spelled : ℕ → Name → List ℕ
head_spelled place name = magic ++ (to_be_bytes w64 place ++ name_spelling name)

script_in : (place : ℕ) (publisher : Name) (bytes rest : List ℕ) (left : ℕ) → place ≤ 2 ^ 62 → IsName publisher → bytes ≡ head_spelled place publisher ++ rest → ScriptBreaks publisher rest left → StateBreaks bytes left
script_in place publisher bytes rest left near is_name is broken =
    inr (record {
      rest = to_be_bytes w64 place ++ (name_spelling publisher ++ rest);
      parts = is ∙ append_assoc magic (to_be_bytes w64 place ++ name_spelling publisher) rest ∙ ap (λ (l : List ℕ). magic ++ l) (append_assoc (to_be_bytes w64 place) (name_spelling publisher) rest);
      then =
          inr (
            place,
            near,
            record {
              rest = name_spelling publisher ++ rest;
              parts = refl;
              then = inr (publisher, is_name, record { rest = rest; parts = refl; then = broken });
            },
          );
    })

pub script_cause : (file : File) (place : ℕ) (publisher : Name) (before middle now : Seen) (v0 v1 : View) (fault : SnapFault) → place ≤ 2 ^ 62 → IsName publisher → HasTaken file (magic ++ (to_be_bytes w64 place ++ name_spelling publisher)) before middle v0 v1
    → TakeCause file (ScriptBreaks publisher) middle now v1 fault → TakeCause file StateBreaks before now v0 fault
script_cause file place publisher before middle now v0 v1 fault near is_name head cause =
    cause_behind file (ScriptBreaks publisher) StateBreaks (head_spelled place publisher) before middle now v0 v1 fault head (λ bytes rest left is broken. script_in place publisher bytes rest left near is_name is broken) cause

-- what breaks behind what was taken, where the site tells
cause_told : (file : File) (breaks broken : List ℕ → ℕ → Type 0) (a : List ℕ) (before middle now : Seen) (v0 v1 : View) (fault : SnapFault) → HasTaken file a before middle v0 v1
    → (IsTrue before.observable → (bytes rest : List ℕ) (left : ℕ) → bytes ≡ a ++ rest → breaks rest left → broken bytes left) → TakeCause file breaks middle now v1 fault → TakeCause file broken before now v0 fault
cause_told file breaks broken a before middle now v0 v1 Disk one step cause = (read_on before middle now one.read cause.0, subst (λ (n : ℕ). Rose n now.disk_faults) one.steady cause.1)
cause_told file breaks broken a before middle now v0 v1 (Long size limit) one step cause = cause
cause_told file breaks broken a before middle now v0 v1 (Damaged at) one step cause = (
  read_on before middle now one.read cause.0,
  cause.1 ∙ one.steady,
  λ told.
      let same = same_bytes file before middle one.read told in
      let found = subst (λ (l : List ℕ). BreaksAt breaks l v1.place at) same (cause.2 (then_told before middle one.read told)) in
      record { left = found.left; broken = step told (drop v0.place (bytes_of before.files file)) (drop v1.place (bytes_of before.files file)) found.left (one.parts told) found.broken; at_is = found.at_is },
)
cause_told file breaks broken a before middle now v0 v1 Memory one step cause = (read_on before middle now one.read cause.0, cause.1 ∙ one.steady)

abbrev texts_of : Lists → List (List ℕ)
texts_of c = map printed (statements c)

lists_in : (publisher : Name) (c : Lists) (bytes rest : List ℕ) (left : ℕ) → length (texts_of c) < 2 ^ 32 → AllByRecursion IsText (texts_of c) → Make (nothing_but publisher) (texts_of c) c → bytes ≡ list_spelling bytes_spelling (texts_of c) ++ rest
    → ListsBreak c.tables c.users rest left → ScriptBreaks publisher bytes left
lists_in publisher c bytes rest left few are make is broken =
    script_broken publisher bytes (flat_map bytes_spelling (texts_of c) ++ rest) rest (length (texts_of c)) left (texts_of c) c few (is ∙ append_assoc (to_be_bytes w32 (length (texts_of c))) (flat_map bytes_spelling (texts_of c)) rest) refl are make refl
    (inr (refl, broken))

pub lists_cause : (file : File) (place : ℕ) (publisher : Name) (c : Lists) (ts : List Table) (us : List User) (before middle later now : Seen) (v0 v1 v2 : View) (fault : SnapFault) → place ≤ 2 ^ 62 → IsName publisher → ts ≡ c.tables → us ≡ c.users
    → HasTaken file (magic ++ (to_be_bytes w64 place ++ name_spelling publisher)) before middle v0 v1 → HasTakenScript file publisher middle later v1 v2 c → TakeCause file (ListsBreak ts us) later now v2 fault → TakeCause file StateBreaks before now v0 fault
lists_cause file place publisher c ts us before middle later now v0 v1 v2 fault near is_name tables users head script cause =
    script_cause file place publisher before middle now v0 v1 fault near is_name head
    (cause_told file (ListsBreak ts us) (ScriptBreaks publisher) (list_spelling bytes_spelling (texts_of c)) middle later now v1 v2 fault script.taken
    (λ told bytes rest left is broken.
    lists_in publisher c bytes rest left script.few script.are (script.make told) is
    (subst (λ (l : List Table). ListsBreak l c.users rest left) tables (subst (λ (l : List User). ListsBreak ts l rest left) users broken))) cause)

their_utf8 : (texts : List (List ℕ)) → AllByRecursion IsText texts → AllByRecursion IsUtf8 texts
their_utf8 [] all = tt
their_utf8 (t ∷ texts) all = (all.0.utf8, their_utf8 texts all.1)

pub is_beginning : (file : File) (place : ℕ) (publisher : Name) (c : Lists) (ts : List Table) (us : List User) (rows : RowMap) (lines : List Line) (middle later : Seen) (v1 v2 : View) → place ≤ 2 ^ 62 → IsName publisher → HasTakenScript file publisher middle later v1 v2 c → IsSpellable c → ts ≡ c.tables → us ≡ c.users
    → AreHeldIn ts rows → map (λ p. p.0) lines ≡ map user_name us → AllByRecursion (λ (p : Line). IsBook p.1) lines → IsBeginning (record { place = place; state = record { catalog = c; rows = rows }; books = lines })
is_beginning file place publisher c ts us rows lines middle later v1 v2 near is_name script spelled tables same held users numbers = record {
  place = near;
  publisher = subst (λ (n : Name). IsName n) (sym script.publisher_is) is_name;
  catalog = spelled;
  texts = their_utf8 (texts_of c) script.are;
  rows = rows_fit c rows (distinct_tables c spelled.made) (subst (λ (l : List Table). AreHeldIn l rows) tables held);
  values = rows_values c rows (distinct_tables c spelled.made) (subst (λ (l : List Table). AreHeldIn l rows) tables held);
  users = users ∙ ap (λ (l : List User). map user_name l) same;
  numbers = numbers;
}

regroup : (m a b c d : List ℕ) → (m ++ (a ++ b)) ++ (c ++ d) ≡ m ++ (a ++ (b ++ (c ++ d)))
regroup m a b c d = append_assoc m (a ++ b) (c ++ d) ∙ ap (λ (l : List ℕ). m ++ l) (append_assoc a b (c ++ d))

pub all_taken : (file : File) (place : ℕ) (publisher : Name) (c : Lists) (ts : List Table) (rows : RowMap) (lines : List Line) (before middle later now : Seen) (v0 v1 v2 v3 : View) → ts ≡ c.tables → HasTaken file (magic ++ (to_be_bytes w64 place ++ name_spelling publisher)) before middle v0 v1
    → HasTakenScript file publisher middle later v1 v2 c → HasTaken file (list_spelling table_spelling (map (rows_in rows) ts) ++ list_spelling book_line lines) later now v2 v3
    → HasTaken file (snapshot_spelling (record { place = place; state = record { catalog = c; rows = rows }; books = lines })) before now v0 v3
all_taken file place publisher c ts rows lines before middle later now v0 v1 v2 v3 tables head script lists =
    let texts : List ℕ = list_spelling bytes_spelling (texts_of c) in
    let last : List ℕ = list_spelling table_spelling (map (rows_in rows) c.tables) ++ list_spelling book_line lines in
    let same : HasTaken file last later now v2 v3 = subst (λ (l : List Table). HasTaken file (list_spelling table_spelling (map (rows_in rows) l) ++ list_spelling book_line lines) later now v2 v3) tables lists in
    let behind = taken_on file texts last middle later now v1 v2 v3 script.taken same in
    let whole = taken_on file (head_spelled place publisher) (texts ++ last) before middle now v0 v1 v3 head behind in
    subst (λ (n : Name). HasTaken file (magic ++ (to_be_bytes w64 place ++ (name_spelling n ++ (texts ++ last)))) before now v0 v3) (sym script.publisher_is)
    (subst (λ (l : List ℕ). HasTaken file l before now v0 v3) (regroup magic (to_be_bytes w64 place) (name_spelling publisher) texts last) whole)

pub lists_end : (file : File) (publisher : Name) (c : Lists) (a : List ℕ) (before middle later : Seen) (v0 v1 v2 : View) (place : ℕ) → HasTaken file a before middle v0 v1 → HasTakenScript file publisher middle later v1 v2 c
    → (IsTrue later.observable → drop place (bytes_of later.files file) ≡ []) → IsTrue before.observable → drop place (bytes_of before.files file) ≡ []
lists_end file publisher c a before middle later v0 v1 v2 place head script ends =
    let front = taken_on file a (list_spelling bytes_spelling (texts_of c)) before middle later v0 v1 v2 head script.taken in
    ends_then file (a ++ list_spelling bytes_spelling (texts_of c)) before later v0 v2 place front ends
