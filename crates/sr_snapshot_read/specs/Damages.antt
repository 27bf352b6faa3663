-- Where the bytes of a snapshot break: at the first field that is not as written, in the order of the bytes; but that the texts are the catalog's own
-- script is looked at behind the last of them. Each relation is of the bytes from a place on, and of how many bytes are left from the break on.
use Rattle.std.specs.Prelude.{◌≡◌, ◌≢◌, ◌≤◌, ◌<◌, ◌^◌, ◌⊎◌, ⊤, ℕ, zero, suc, ◌+◌, List, [], ◌∷◌, ◌++◌, length, map, Option, Some, None, IsTrue, Err}
use Rattle.std.specs.Int.{w32, w64, to_be_bytes}
use Rattle.std.specs.List.{flat_map, AllByRecursion}
use Rattle.sr_ast.specs.Layout.{printed}
use Rattle.sr_ast.specs.Statements.{is_ddl}
use Rattle.sr_ast.specs.declared.stmt.Stmt.{Stmt}
use Rattle.sr_base.specs.Fields.{bytes_spelling, name_spelling, IsListOf, IsName, IsText}
use Rattle.sr_base.specs.Reading.{list_at, number_at, Read}
use Rattle.sr_base.specs.Values.{IsValue, row_spelling}
use Rattle.sr_base.specs.declared.value.Value.{Value as Cell}
use Rattle.sr_book.specs.Entries.{Name}
use Rattle.sr_catalog_change.specs.Changes.{next, refusal}
use Rattle.sr_catalog_schema.specs.Catalogs.{Lists, nothing_but}
use Rattle.sr_catalog_schema.specs.declared.table.Table.{Table}
use Rattle.sr_catalog_schema.specs.declared.user.User.{User}
use Rattle.sr_catalog_script_laws.specs.Scripts.{statements}
use Rattle.sr_exec_where.specs.Keys.{key_of}
use Rattle.sr_exec_fits.specs.Rows.{IsRow}
use Rattle.sr_parse.specs.Prints.{Prints}
use Rattle.sr_rows.specs.Walks.{IsPast}
use Rattle.sr_snapshot.specs.Parts.{longest, magic}
use Rattle.sr_snapshot_read.specs.Places.{name_in, text_in, value_in}

-- a field breaks
abbrev pub FieldBreaks : {A : Type 0} → (List ℕ → Read A) → List ℕ → ℕ → Type 0
FieldBreaks reading bytes left = reading bytes ≡ Err left

-- behind a part that is spelled so, this holds of what follows
pub record BehindPart (spelling : List ℕ) (holds : List ℕ → Type 0) (bytes : List ℕ) : Type 0 where
  pub rest : List ℕ
  pub parts : bytes ≡ spelling ++ rest
  pub then : holds rest

-- the break is at the first of the bytes
abbrev pub BreaksHere : List ℕ → ℕ → Type 0
BreaksHere bytes left = left ≡ length bytes

-- ---- a name that has to be this one, and the count of a list that has to have so many items

pub record OtherName (name bytes : List ℕ) (left : ℕ) : Type 0 where
  pub other : List ℕ
  pub is : IsName other
  pub differs : other ≢ name
  pub there : BehindPart (name_spelling other) (λ rest. ⊤) bytes
  pub here : BreaksHere bytes left

abbrev pub NameBreaks : List ℕ → List ℕ → ℕ → Type 0
NameBreaks name bytes left = FieldBreaks name_in bytes left ⊎ OtherName name bytes left

pub record OtherCount (count : ℕ) (bytes : List ℕ) (left : ℕ) : Type 0 where
  pub other : ℕ
  pub is : other < 2 ^ 32
  pub differs : other ≢ count
  pub there : BehindPart (to_be_bytes w32 other) (λ rest. ⊤) bytes
  pub here : BreaksHere bytes left

abbrev pub CountBreaks : ℕ → List ℕ → ℕ → Type 0
CountBreaks count bytes left = FieldBreaks (number_at w32) bytes left ⊎ OtherCount count bytes left

-- an offset past 2^62
pub record FarOffset (bytes : List ℕ) (left : ℕ) : Type 0 where
  pub place : ℕ
  pub short : place < 2 ^ 64
  pub far : 2 ^ 62 < place
  pub there : BehindPart (to_be_bytes w64 place) (λ rest. ⊤) bytes
  pub here : BreaksHere bytes left

abbrev pub OffsetBreaks : List ℕ → ℕ → Type 0
OffsetBreaks bytes left = FieldBreaks (number_at w64) bytes left ⊎ FarOffset bytes left

-- ---- rows, so many of them, behind a key

-- a row fits the table, and its key comes after the one before
abbrev pub IsPlaced : Table → Option (List Cell) → List Cell → Type 0
IsPlaced t after row = IsRow t.columns row × IsPast after (key_of t.key row)

abbrev pub ArePlaced : Table → Option (List Cell) → List (List Cell) → Type 0
ArePlaced t after [] = ⊤
ArePlaced t after (row ∷ rows) = IsPlaced t after row × ArePlaced t (Some (key_of t.key row)) rows

-- the fields of a row are whole, and it has no place there
pub record RowMisfits (t : Table) (after : Option (List Cell)) (bytes : List ℕ) (left : ℕ) : Type 0 where
  pub row : List Cell
  pub is : IsListOf IsValue row
  pub misfit : ¬ (IsPlaced t after row)
  pub there : BehindPart (row_spelling row) (λ rest. ⊤) bytes
  pub here : BreaksHere bytes left

abbrev pub RowsBreak : Table → Option (List Cell) → ℕ → List ℕ → ℕ → Type 0
RowsBreak t after zero bytes left = ⊥
RowsBreak t after (suc count) bytes left =
    FieldBreaks (list_at value_in) bytes left
    ⊎ (RowMisfits t after bytes left
    ⊎ ((row : List Cell) × IsListOf IsValue row × IsPlaced t after row × BehindPart (row_spelling row) (λ rest. RowsBreak t (Some (key_of t.key row)) count rest left) bytes))

-- rows that were read
pub record AreRead (t : Table) (count : ℕ) (rows : List (List Cell)) : Type 0 where
  pub count_is : length rows ≡ count
  pub are : AllByRecursion (IsListOf IsValue) rows
  pub placed : ArePlaced t None rows

-- ---- tables: each one's name, the count of its rows, and the rows

abbrev pub TablesBreak : List Table → (List ℕ → ℕ → Type 0) → List ℕ → ℕ → Type 0
TablesBreak [] later bytes left = later bytes left
TablesBreak (t ∷ ts) later bytes left =
    NameBreaks t.name bytes left
    ⊎ BehindPart (name_spelling t.name) (λ counted.
    FieldBreaks (number_at w32) counted left
    ⊎ ((count : ℕ) × (count < 2 ^ 32) × BehindPart (to_be_bytes w32 count) (λ first.
    RowsBreak t None count first left
    ⊎ ((rows : List (List Cell)) × AreRead t count rows × BehindPart (flat_map row_spelling rows) (λ rest. TablesBreak ts later rest left) first)) counted)) bytes

-- ---- books: each user's name and eight numbers

abbrev pub NumbersBreak : ℕ → (List ℕ → ℕ → Type 0) → List ℕ → ℕ → Type 0
NumbersBreak zero later bytes left = later bytes left
NumbersBreak (suc count) later bytes left =
    FieldBreaks (number_at w64) bytes left ⊎ ((number : ℕ) × (number < 2 ^ 64) × BehindPart (to_be_bytes w64 number) (λ rest. NumbersBreak count later rest left) bytes)

abbrev pub BooksBreak : List User → (List ℕ → ℕ → Type 0) → List ℕ → ℕ → Type 0
BooksBreak [] later bytes left = later bytes left
BooksBreak (u ∷ us) later bytes left = NameBreaks u.name bytes left ⊎ BehindPart (name_spelling u.name) (λ rest. NumbersBreak 8 (BooksBreak us later) rest left) bytes

-- a byte more
abbrev pub GoesOn : List ℕ → ℕ → Type 0
GoesOn bytes left = (bytes ≢ []) × BreaksHere bytes left

-- ---- the script

-- the text is the printed form of one statement on the catalog, which the catalog accepts
pub record IsNextStatement (c : Lists) (text : List ℕ) (s : Stmt) : Type 0 where
  pub prints : Prints s text
  pub changes : IsTrue (is_ddl s)
  pub accepted : refusal c s ≡ None

pub record TextMisfits (c : Lists) (bytes : List ℕ) (left : ℕ) : Type 0 where
  pub text : List ℕ
  pub is : IsText text
  pub misfit : (s : Stmt) → ¬ (IsNextStatement c text s)
  pub there : BehindPart (bytes_spelling text) (λ rest. ⊤) bytes
  pub here : BreaksHere bytes left

-- so many texts, on this catalog
abbrev pub TextsBreak : Lists → ℕ → List ℕ → ℕ → Type 0
TextsBreak c zero bytes left = ⊥
TextsBreak c (suc count) bytes left =
    FieldBreaks text_in bytes left
    ⊎ (TextMisfits c bytes left
    ⊎ ((text : List ℕ) × (s : Stmt) × IsText text × IsNextStatement c text s × BehindPart (bytes_spelling text) (λ rest. TextsBreak (next c s) count rest left) bytes))

-- the texts make one catalog of another
abbrev pub Make : Lists → List (List ℕ) → Lists → Type 0
Make c [] d = c ≡ d
Make c (text ∷ texts) d = (s : Stmt) × IsNextStatement c text s × Make (next c s) texts d

-- the first text that differs from the script; where the texts end first, their count, from which so many bytes are left
abbrev pub ScriptDiffers : ℕ → List (List ℕ) → List (List ℕ) → List ℕ → ℕ → Type 0
ScriptDiffers whole [] [] behind left = ⊥
ScriptDiffers whole (line ∷ script) [] behind left = left ≡ whole
ScriptDiffers whole [] (text ∷ texts) behind left = left ≡ length (flat_map bytes_spelling (text ∷ texts) ++ behind)
ScriptDiffers whole (line ∷ script) (text ∷ texts) behind left =
    ((line ≢ text) × (left ≡ length (flat_map bytes_spelling (text ∷ texts) ++ behind))) ⊎ ((line ≡ text) × ScriptDiffers whole script texts behind left)

-- behind the tables: the books, and no byte more
abbrev pub LastBreaks : List User → List ℕ → ℕ → Type 0
LastBreaks users bytes left = CountBreaks (length users) bytes left ⊎ BehindPart (to_be_bytes w32 (length users)) (λ books. BooksBreak users GoesOn books left) bytes

-- the tables, the books, and no byte more
abbrev pub ListsBreak : List Table → List User → List ℕ → ℕ → Type 0
ListsBreak tables users bytes left =
    CountBreaks (length tables) bytes left ⊎ BehindPart (to_be_bytes w32 (length tables)) (λ rows. TablesBreak tables (LastBreaks users) rows left) bytes

abbrev pub ScriptBreaks : Name → List ℕ → ℕ → Type 0
ScriptBreaks publisher bytes left =
    FieldBreaks (number_at w32) bytes left
    ⊎ ((count : ℕ) × (count < 2 ^ 32) × BehindPart (to_be_bytes w32 count) (λ first.
    TextsBreak (nothing_but publisher) count first left
    ⊎ ((texts : List (List ℕ)) × (c : Lists) × (length texts ≡ count) × AllByRecursion IsText texts × Make (nothing_but publisher) texts c
    × BehindPart (flat_map bytes_spelling texts) (λ behind. ScriptDiffers (length bytes) (map printed (statements c)) texts behind left ⊎ ((texts ≡ map printed (statements c)) × ListsBreak c.tables c.users behind left)) first)) bytes)

-- ---- all of it

pub record LacksMagic (bytes : List ℕ) (left : ℕ) : Type 0 where
  pub other : (rest : List ℕ) → ¬ (bytes ≡ magic ++ rest)
  pub here : BreaksHere bytes left

abbrev pub StateBreaks : List ℕ → ℕ → Type 0
StateBreaks bytes left =
    LacksMagic bytes left
    ⊎ BehindPart magic (λ placed.
    OffsetBreaks placed left
    ⊎ ((place : ℕ) × (place ≤ 2 ^ 62) × BehindPart (to_be_bytes w64 place) (λ named.
    FieldBreaks name_in named left ⊎ ((publisher : List ℕ) × IsName publisher × BehindPart (name_spelling publisher) (λ script. ScriptBreaks publisher script left) named)) placed)) bytes

-- the bytes are no snapshot: they are too many, or they break at this place
abbrev pub IsDamagedSnapshot : List ℕ → ℕ → Type 0
IsDamagedSnapshot bytes at = ((longest < length bytes) × (at ≡ longest)) ⊎ ((length bytes ≤ longest) × ((left : ℕ) × StateBreaks bytes left × (at + left ≡ length bytes)))
