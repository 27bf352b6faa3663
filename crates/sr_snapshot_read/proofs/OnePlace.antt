-- Bytes that break do so at one place.
use Rattle.std.proofs.Common.{◌≡◌, ◌≤◌, ◌<◌, ◌^◌, ◌+◌, ◌⊎◌, inl, inr, ℕ, zero, suc, true, false, List, [], ◌∷◌, ◌++◌, length, map, Option, Some, None, filter, cond, Result, Ok, Err, refl, sym, ap, subst, ◌∙◌, append_assoc, length-append, arith}
use Rattle.std.proofs.lemmas.List.{length-map}
use Rattle.std.specs.Int.{w32, w64, to_be_bytes}
use Rattle.std.specs.List.{flat_map, AllByRecursion}
use Rattle.std.specs.Prelude.{⊤, IsTrue}
use Rattle.sr_ast.specs.Layout.{printed}
use Rattle.sr_ast.specs.NormalForms.{IsNormal}
use Rattle.sr_ast.specs.declared.stmt.Stmt.{Stmt}
use Rattle.sr_ast.specs.declared.stmt.Stmt.TheVariants as stmt
use Rattle.sr_base.proofs.Formats.{begins_no_other}
use Rattle.sr_base.specs.Fields.{bytes_spelling, list_spelling, name_spelling, IsListOf, IsName, IsText}
use Rattle.sr_base.specs.Inner.ListLaws.{list_format}
use Rattle.sr_base.specs.Inner.NumberLaws.{format32, format64}
use Rattle.sr_base.specs.Inner.TextLaws.{name_format, text_format}
use Rattle.sr_base.specs.Reading.{Read, list_at, number_at}
use Rattle.sr_base.specs.Values.{IsValue, row_spelling}
use Rattle.sr_base.specs.declared.value.Value.{Value}
use Rattle.sr_book.specs.Entries.{Name}
use Rattle.sr_catalog_change.specs.Changes.{next}
use Rattle.sr_catalog_schema.specs.Catalogs.{Lists, nothing_but}
use Rattle.sr_catalog_schema.specs.declared.table.Table.{Table}
use Rattle.sr_catalog_schema.specs.declared.user.User.{User}
use Rattle.sr_catalog_script_laws.proofs.Spelled.{new_spelled, script_normal, still_spelled}
use Rattle.sr_catalog_script_laws.specs.Scripts.{IsSpellable, create_publication_of, create_subscription_of, create_table_of, grant_of, grant_rule, set_options_of, start_of, statements, trigger_stmt}
use Rattle.sr_exec_where.specs.Keys.{key_of}
use Rattle.sr_parse.proofs.Prints.{prints_once}
use Rattle.sr_parse.specs.Prints.{Prints}
use Rattle.sr_snapshot.proofs.Uniqueness.{behind_magic}
use Rattle.sr_snapshot.specs.Parts.{longest, magic}
use Rattle.sr_snapshot_read.proofs.Exclusion.{CountedBreaks, CountedTexts, FirstBreaks, NamedBreaks, PlacedBreaks, ReadBreaks, count_never, differs_never, name_never, rows_never, texts_of}
use Rattle.sr_snapshot_read.proofs.Fronts.{behind_same, never}
use Rattle.sr_snapshot_read.proofs.Places.{name_in_format, row_in_format, text_in_format}
use Rattle.sr_snapshot_read.specs.Damages.{AreRead, BehindPart, BooksBreak, CountBreaks, FarOffset, GoesOn, IsDamagedSnapshot, IsNextStatement, IsPlaced, LacksMagic, LastBreaks, ListsBreak, Make, NameBreaks, NumbersBreak, OffsetBreaks, OtherCount, OtherName, RowMisfits, RowsBreak, ScriptBreaks, ScriptDiffers, StateBreaks, TablesBreak, TextMisfits, TextsBreak, FieldBreaks}
use Rattle.sr_snapshot_read.specs.Places.{name_in, text_in, value_in}

-- ---- what may hold of one number alone

abbrev IsOne : (ℕ → Type 0) → Type 0
IsOne P = (a b : ℕ) → P a → P b → a ≡ b

abbrev Exclude : (ℕ → Type 0) → (ℕ → Type 0) → Type 0
Exclude P Q = (a b : ℕ) → P a → Q b → ⊥

either_one : (P Q : ℕ → Type 0) → IsOne P → IsOne Q → Exclude P Q → IsOne (λ a. P a ⊎ Q a)
either_one P Q one two apart a b (inl p) (inl q) = one a b p q
either_one P Q one two apart a b (inl p) (inr q) = absurd (apart a b p q)
either_one P Q one two apart a b (inr p) (inl q) = absurd (apart b a q p)
either_one P Q one two apart a b (inr p) (inr q) = two a b p q

-- one excludes two others
both_apart : (P Q R : ℕ → Type 0) → Exclude P Q → Exclude P R → Exclude P (λ a. Q a ⊎ R a)
both_apart P Q R one two a b p (inl q) = one a b p q
both_apart P Q R one two a b p (inr r) = two a b p r

same_left : {A : Type 0} (read : Result (A × List ℕ) ℕ) (a b : ℕ) → read ≡ Err a → read ≡ Err b → a ≡ b
same_left read a b one other = cc

field_one : {A : Type 0} (reading : List ℕ → Read A) (bytes : List ℕ) → IsOne (FieldBreaks reading bytes)
field_one reading bytes a b one other = same_left (reading bytes) a b one other

here_one : (whole a b : ℕ) → a ≡ whole → b ≡ whole → a ≡ b
here_one whole a b one other = one ∙ sym other

-- ---- names and counts

name_one : (name bytes : List ℕ) → IsOne (NameBreaks name bytes)
name_one name bytes =
    either_one (FieldBreaks name_in bytes) (OtherName name bytes) (field_one name_in bytes) (λ a b one other. here_one (length bytes) a b one.here other.here)
    (λ a b field other. never name_in_format other.other bytes other.there.rest a other.is other.there.parts field)

count_one : (count : ℕ) (bytes : List ℕ) → IsOne (CountBreaks count bytes)
count_one count bytes =
    either_one (FieldBreaks (number_at w32) bytes) (OtherCount count bytes) (field_one (number_at w32) bytes) (λ a b one other. here_one (length bytes) a b one.here other.here)
    (λ a b field other. never format32 other.other bytes other.there.rest a other.is other.there.parts field)

offset_one : (bytes : List ℕ) → IsOne (OffsetBreaks bytes)
offset_one bytes =
    either_one (FieldBreaks (number_at w64) bytes) (FarOffset bytes) (field_one (number_at w64) bytes) (λ a b one other. here_one (length bytes) a b one.here other.here)
    (λ a b field other. never format64 other.place bytes other.there.rest a other.short other.there.parts field)

-- ---- rows

module _ (t : Table) where
  abbrev NextRow : Option (List Value) → ℕ → List ℕ → ℕ → Type 0
  NextRow after count bytes left = (row : List Value) × IsListOf IsValue row × IsPlaced t after row × BehindPart (row_spelling row) (λ rest. RowsBreak t (Some (key_of t.key row)) count rest left) bytes

  next_row : (after : Option (List Value)) (count : ℕ) (bytes : List ℕ) → ((key : List Value) (rest : List ℕ) → IsOne (RowsBreak t (Some key) count rest)) → IsOne (NextRow after count bytes)
  next_row after count bytes later a b one other =
      let both = behind_same row_in_format one.0 other.0 bytes one.3.rest (λ rest. RowsBreak t (Some (key_of t.key other.0)) count rest b) one.1 other.1 one.3.parts other.3 in
      later (key_of t.key one.0) one.3.rest a b one.3.then (subst (λ (r : List Value). RowsBreak t (Some (key_of t.key r)) count one.3.rest b) (sym both.0) both.1)

  misfit_next : (after : Option (List Value)) (count : ℕ) (bytes : List ℕ) → Exclude (RowMisfits t after bytes) (NextRow after count bytes)
  misfit_next after count bytes a b one other =
      let same = (behind_same row_in_format one.row other.0 bytes one.there.rest (λ rest. RowsBreak t (Some (key_of t.key other.0)) count rest b) one.is other.1 one.there.parts other.3).0 in
      one.misfit (subst (λ (r : List Value). IsPlaced t after r) (sym same) other.2)

  rows_one : (after : Option (List Value)) (count : ℕ) (bytes : List ℕ) → IsOne (RowsBreak t after count bytes)
  rows_one after zero bytes a b one other = absurd one
  rows_one after (suc count) bytes a b one other =
      either_one (FieldBreaks (list_at value_in) bytes) (λ left. RowMisfits t after bytes left ⊎ NextRow after count bytes left) (field_one (list_at value_in) bytes)
      (either_one (RowMisfits t after bytes) (NextRow after count bytes) (λ c d m n. here_one (length bytes) c d m.here n.here) (next_row after count bytes (λ key rest. rows_one (Some key) count rest)) (misfit_next after count bytes))
      (both_apart (FieldBreaks (list_at value_in) bytes) (RowMisfits t after bytes) (NextRow after count bytes) (λ c d field m. never row_in_format m.row bytes m.there.rest c m.is m.there.parts field)
      (λ c d field n. never row_in_format n.0 bytes n.3.rest c n.1 n.3.parts field)) a b one other

-- ---- tables

module _ (later : List ℕ → ℕ → Type 0) (later_one : (rest : List ℕ) → IsOne (later rest)) where
  module _ (t : Table) (ts : List Table) (is_name : IsName t.name) (tables : (rest : List ℕ) → IsOne (TablesBreak ts later rest)) where
    abbrev RowsThere : ℕ → List ℕ → ℕ → Type 0
    RowsThere count first left = (found : List (List Value)) × AreRead t count found × BehindPart (flat_map row_spelling found) (λ rest. TablesBreak ts later rest left) first

    rows_there : (count : ℕ) (first : List ℕ) → count < 2 ^ 32 → IsOne (RowsThere count first)
    rows_there count first few a b one other =
        let counts : length one.0 ≡ length other.0 = one.1.count_is ∙ sym other.1.count_is in
        let spelled : flat_map row_spelling one.0 ++ one.2.rest ≡ flat_map row_spelling other.0 ++ other.2.rest = sym one.2.parts ∙ other.2.parts in
        let listed : list_spelling row_spelling one.0 ++ one.2.rest ≡ list_spelling row_spelling other.0 ++ other.2.rest =
        append_assoc (to_be_bytes w32 (length one.0)) (flat_map row_spelling one.0) one.2.rest ∙ (λ i. to_be_bytes w32 (counts i) ++ spelled i)
        ∙ sym (append_assoc (to_be_bytes w32 (length other.0)) (flat_map row_spelling other.0) other.2.rest) in
        let both = begins_no_other (list_format row_in_format) one.0 other.0 one.2.rest other.2.rest (subst (λ (n : ℕ). n < 2 ^ 32) (sym one.1.count_is) few, one.1.are) (subst (λ (n : ℕ). n < 2 ^ 32) (sym other.1.count_is) few, other.1.are) listed in
        tables one.2.rest a b one.2.then (subst (λ (l : List ℕ). TablesBreak ts later l b) (sym both.1) other.2.then)

    first_one : (count : ℕ) (first : List ℕ) → count < 2 ^ 32 → IsOne (λ left. FirstBreaks t ts later left count first)
    first_one count first few =
        either_one (RowsBreak t None count first) (RowsThere count first) (rows_one t None count first) (rows_there count first few)
        (λ a b rows there. rows_never t None there.0 there.2.rest first a there.1.are there.1.placed there.2.parts (subst (λ (n : ℕ). RowsBreak t None n first a) (sym there.1.count_is) rows))

    abbrev CountThere : List ℕ → ℕ → Type 0
    CountThere counted left = (count : ℕ) × (count < 2 ^ 32) × BehindPart (to_be_bytes w32 count) (λ first. FirstBreaks t ts later left count first) counted

    count_there : (counted : List ℕ) → IsOne (CountThere counted)
    count_there counted a b one other =
        let both = behind_same format32 one.0 other.0 counted one.2.rest (λ first. FirstBreaks t ts later b other.0 first) one.1 other.1 one.2.parts other.2 in
        first_one one.0 one.2.rest one.1 a b one.2.then (subst (λ (n : ℕ). FirstBreaks t ts later b n one.2.rest) (sym both.0) both.1)

    counted_one : (counted : List ℕ) → IsOne (λ left. CountedBreaks t ts later left counted)
    counted_one counted =
        either_one (FieldBreaks (number_at w32) counted) (CountThere counted) (field_one (number_at w32) counted) (count_there counted)
        (λ a b field there. never format32 there.0 counted there.2.rest a there.1 there.2.parts field)

    abbrev NameThere : List ℕ → ℕ → Type 0
    NameThere bytes left = BehindPart (name_spelling t.name) (λ counted. CountedBreaks t ts later left counted) bytes

    table_one : (bytes : List ℕ) → IsOne (TablesBreak (t ∷ ts) later bytes)
    table_one bytes =
        either_one (NameBreaks t.name bytes) (NameThere bytes) (name_one t.name bytes)
        (λ a b one other. counted_one one.rest a b one.then (behind_same name_format t.name t.name bytes one.rest (λ counted. CountedBreaks t ts later b counted) is_name is_name one.parts other).1)
        (λ a b name there. name_never t.name bytes there.rest a is_name there.parts name)

  tables_one : (ts : List Table) → AllByRecursion (λ (t : Table). IsName t.name) ts → (bytes : List ℕ) → IsOne (TablesBreak ts later bytes)
  tables_one [] names bytes = later_one bytes
  tables_one (t ∷ ts) names bytes = table_one t ts names.0 (tables_one ts names.1) bytes

  -- ---- books

  abbrev NumberThere : ℕ → List ℕ → ℕ → Type 0
  NumberThere count bytes left = (number : ℕ) × (number < 2 ^ 64) × BehindPart (to_be_bytes w64 number) (λ rest. NumbersBreak count later rest left) bytes

  numbers_one : (count : ℕ) (bytes : List ℕ) → IsOne (NumbersBreak count later bytes)
  numbers_one zero bytes = later_one bytes
  numbers_one (suc count) bytes =
      either_one (FieldBreaks (number_at w64) bytes) (NumberThere count bytes) (field_one (number_at w64) bytes)
      (λ a b one other. numbers_one count one.2.rest a b one.2.then (behind_same format64 one.0 other.0 bytes one.2.rest (λ rest. NumbersBreak count later rest b) one.1 other.1 one.2.parts other.2).1)
      (λ a b field there. never format64 there.0 bytes there.2.rest a there.1 there.2.parts field)

goes_one : (bytes : List ℕ) → IsOne (GoesOn bytes)
goes_one bytes a b one other = here_one (length bytes) a b one.1 other.1

books_one : (us : List User) → AllByRecursion (λ (u : User). IsName u.name) us → (bytes : List ℕ) → IsOne (BooksBreak us GoesOn bytes)
books_one [] names bytes = goes_one bytes
books_one (u ∷ us) names bytes =
    either_one (NameBreaks u.name bytes) (λ left. BehindPart (name_spelling u.name) (λ rest. NumbersBreak 8 (BooksBreak us GoesOn) rest left) bytes) (name_one u.name bytes)
    (λ a b one other.
    numbers_one (BooksBreak us GoesOn) (books_one us names.1) 8 one.rest a b one.then
    (behind_same name_format u.name u.name bytes one.rest (λ rest. NumbersBreak 8 (BooksBreak us GoesOn) rest b) names.0 names.0 one.parts other).1)
    (λ a b name there. name_never u.name bytes there.rest a names.0 there.parts name)

-- ---- behind the script

-- the names of the tables and the users are names, and there are not too many
record AreListed (c : Lists) : Type 0 where
  tables : AllByRecursion (λ (t : Table). IsName t.name) c.tables
  users : AllByRecursion (λ (u : User). IsName u.name) c.users
  few_tables : length c.tables < 2 ^ 32
  few_users : length c.users < 2 ^ 32

last_one : (c : Lists) → AreListed c → (bytes : List ℕ) → IsOne (LastBreaks c.users bytes)
last_one c listed bytes =
    either_one (CountBreaks (length c.users) bytes) (λ left. BehindPart (to_be_bytes w32 (length c.users)) (λ books. BooksBreak c.users GoesOn books left) bytes) (count_one (length c.users) bytes)
    (λ a b one other.
    books_one c.users listed.users one.rest a b one.then
    (behind_same format32 (length c.users) (length c.users) bytes one.rest (λ books. BooksBreak c.users GoesOn books b) listed.few_users listed.few_users one.parts other).1)
    (λ a b count there. count_never (length c.users) bytes there.rest a listed.few_users there.parts count)

lists_one : (c : Lists) → AreListed c → (bytes : List ℕ) → IsOne (ListsBreak c.tables c.users bytes)
lists_one c listed bytes =
    either_one (CountBreaks (length c.tables) bytes) (λ left. BehindPart (to_be_bytes w32 (length c.tables)) (λ rows. TablesBreak c.tables (LastBreaks c.users) rows left) bytes) (count_one (length c.tables) bytes)
    (λ a b one other.
    tables_one (LastBreaks c.users) (last_one c listed) c.tables listed.tables one.rest a b one.then
    (behind_same format32 (length c.tables) (length c.tables) bytes one.rest (λ rows. TablesBreak c.tables (LastBreaks c.users) rows b) listed.few_tables listed.few_tables one.parts other).1)
    (λ a b count there. count_never (length c.tables) bytes there.rest a listed.few_tables there.parts count)

-- ---- texts

abbrev NextText : Lists → ℕ → List ℕ → ℕ → Type 0
NextText c count bytes left = (text : List ℕ) × (s : Stmt) × IsText text × IsNextStatement c text s × BehindPart (bytes_spelling text) (λ rest. TextsBreak (next c s) count rest left) bytes

next_text : (c : Lists) (count : ℕ) (bytes : List ℕ) → ((s : Stmt) (rest : List ℕ) → IsOne (TextsBreak (next c s) count rest)) → IsOne (NextText c count bytes)
next_text c count bytes later a b one other =
    let both = behind_same text_format one.0 other.0 bytes one.4.rest (λ rest. TextsBreak (next c other.1) count rest b) one.2 other.2 one.4.parts other.4 in
    let same : one.1 ≡ other.1 = prints_once one.0 one.1 other.1 one.3.prints (subst (λ (t : List ℕ). Prints other.1 t) (sym both.0) other.3.prints) in
    later one.1 one.4.rest a b one.4.then (subst (λ (s : Stmt). TextsBreak (next c s) count one.4.rest b) (sym same) both.1)

misfit_text : (c : Lists) (count : ℕ) (bytes : List ℕ) → Exclude (TextMisfits c bytes) (NextText c count bytes)
misfit_text c count bytes a b one other =
    let same = (behind_same text_format one.text other.0 bytes one.there.rest (λ rest. TextsBreak (next c other.1) count rest b) one.is other.2 one.there.parts other.4).0 in
    one.misfit other.1 (subst (λ (t : List ℕ). IsNextStatement c t other.1) (sym same) other.3)

texts_one : (c : Lists) (count : ℕ) (bytes : List ℕ) → IsOne (TextsBreak c count bytes)
texts_one c zero bytes a b one other = absurd one
texts_one c (suc count) bytes a b one other =
    either_one (FieldBreaks text_in bytes) (λ left. TextMisfits c bytes left ⊎ NextText c count bytes left) (field_one text_in bytes)
    (either_one (TextMisfits c bytes) (NextText c count bytes) (λ x y m n. here_one (length bytes) x y m.here n.here) (next_text c count bytes (λ s rest. texts_one (next c s) count rest)) (misfit_text c count bytes))
    (both_apart (FieldBreaks text_in bytes) (TextMisfits c bytes) (NextText c count bytes) (λ x y field m. never text_in_format m.text bytes m.there.rest x m.is m.there.parts field)
    (λ x y field n. never text_in_format n.0 bytes n.4.rest x n.2 n.4.parts field)) a b one other

-- the first text does not break, where those behind it do not
text_made : (c : Lists) (text : List ℕ) (s : Stmt) (count : ℕ) (bytes rest : List ℕ) (left : ℕ) → IsText text → IsNextStatement c text s → bytes ≡ bytes_spelling text ++ rest → (TextsBreak (next c s) count rest left → ⊥) → TextsBreak c (suc count) bytes left → ⊥
text_made c text s count bytes rest left is is_next parts later (inl field) = never text_in_format text bytes rest left is parts field
text_made c text s count bytes rest left is is_next parts later (inr (inl misfits)) =
    let same = (behind_same text_format text misfits.text bytes rest (λ l. ⊤) is misfits.is parts misfits.there).0 in
    misfits.misfit s (subst (λ (x : List ℕ). IsNextStatement c x s) same is_next)
text_made c text s count bytes rest left is is_next parts later (inr (inr (other, found, is_other, found_next, there))) =
    let both = behind_same text_format text other bytes rest (λ l. TextsBreak (next c found) count l left) is is_other parts there in
    let one : s ≡ found = prints_once text s found is_next.prints (subst (λ (x : List ℕ). Prints found x) (sym both.0) found_next.prints) in
    later (subst (λ (x : Stmt). TextsBreak (next c x) count rest left) (sym one) both.1)

-- texts that make a catalog do not break
made_never : (c d : Lists) (texts : List (List ℕ)) (bytes rest : List ℕ) (left : ℕ) → AllByRecursion IsText texts → Make c texts d → bytes ≡ flat_map bytes_spelling texts ++ rest → TextsBreak c (length texts) bytes left → ⊥
made_never c d [] bytes rest left are make is breaks = breaks
made_never c d (t ∷ texts) bytes rest left are (s, is_next, make) is breaks =
    text_made c t s (length texts) bytes (flat_map bytes_spelling texts ++ rest) left are.0 is_next (is ∙ append_assoc (bytes_spelling t) (flat_map bytes_spelling texts) rest)
    (λ later. made_never (next c s) d texts (flat_map bytes_spelling texts ++ rest) rest left are.1 make refl later) breaks

-- texts make one catalog
make_one : (c d e : Lists) (texts : List (List ℕ)) → Make c texts d → Make c texts e → d ≡ e
make_one c d e [] one other = sym one ∙ other
make_one c d e (t ∷ texts) (s, s_next, one) (r, r_next, other) =
    let same : s ≡ r = prints_once t s r s_next.prints r_next.prints in
    make_one (next c s) d e texts one (subst (λ (x : Stmt). Make (next c x) texts e) (sym same) other)

made_spelled : (c d : Lists) (texts : List (List ℕ)) → IsSpellable c → Make c texts d → IsSpellable d
made_spelled c d [] spelled same = subst (λ (x : Lists). IsSpellable x) same spelled
made_spelled c d (t ∷ texts) spelled (s, is_next, make) = made_spelled (next c s) d texts (still_spelled c s spelled is_next.prints.normal is_next.accepted) make

-- ---- the names of a catalog

parted : (ss ts : List Stmt) → AllByRecursion IsNormal (ss ++ ts) → AllByRecursion IsNormal ss × AllByRecursion IsNormal ts
parted [] ts all = (tt, all)
parted (s ∷ ss) ts all = let rest = parted ss ts all.1 in ((all.0, rest.0), rest.1)

granted : (u : User) → IsNormal (grant_of u) → IsName u.name
unfolding grant_of
granted u = elim u.above as (λ b. IsNormal (cond b (stmt.GrantConsolidate (grant_rule u)) (stmt.GrantRemote (grant_rule u))) → IsName u.name) [
  | true ↦ λ normal. normal.0.written
  | false ↦ λ normal. normal.0.written
]

created : (t : Table) → IsNormal (create_table_of t) → IsName t.name
unfolding create_table_of
created t normal = normal.name.written

all_granted : (us : List User) → AllByRecursion IsNormal (map grant_of us) → AllByRecursion (λ (u : User). IsName u.name) us
all_granted [] all = tt
all_granted (u ∷ us) all = (granted u all.0, all_granted us all.1)

all_created : (ts : List Table) → AllByRecursion IsNormal (map create_table_of ts) → AllByRecursion (λ (t : Table). IsName t.name) ts
all_created [] all = tt
all_created (t ∷ ts) all = (created t all.0, all_created ts all.1)

abbrev others_of : Lists → List Stmt
others_of c =
    map create_publication_of c.publications ++ (map trigger_stmt c.triggers ++ (map create_subscription_of c.subscriptions
    ++ (map start_of (filter (λ s. s.started) c.subscriptions) ++ set_options_of c.options)))

are_listed : (c : Lists) → IsSpellable c → length (statements c) < 2 ^ 32 → AreListed c
are_listed c spelled few =
    let users = parted (map grant_of c.users) (map create_table_of c.tables ++ others_of c) (script_normal c spelled) in
    let tables = parted (map create_table_of c.tables) (others_of c) users.1 in
    let all = length-append (map grant_of c.users) (map create_table_of c.tables ++ others_of c) in
    let rest = length-append (map create_table_of c.tables) (others_of c) in
    record {
      tables = all_created c.tables tables.0;
      users = all_granted c.users users.0;
      few_tables = omega (arith, few, all, rest, length-map c.tables create_table_of);
      few_users = omega (arith, few, all, length-map c.users grant_of);
    }

-- ---- the script

differs_one : (whole : ℕ) (script texts : List (List ℕ)) (behind : List ℕ) → IsOne (ScriptDiffers whole script texts behind)
differs_one whole [] [] behind a b one other = absurd one
differs_one whole (line ∷ script) [] behind a b one other = here_one whole a b one other
differs_one whole [] (text ∷ texts) behind a b one other = here_one (length (flat_map bytes_spelling (text ∷ texts) ++ behind)) a b one other
differs_one whole (line ∷ script) (text ∷ texts) behind a b (inl one) (inl other) = here_one (length (flat_map bytes_spelling (text ∷ texts) ++ behind)) a b one.1 other.1
differs_one whole (line ∷ script) (text ∷ texts) behind a b (inl one) (inr other) = absurd (one.0 other.0)
differs_one whole (line ∷ script) (text ∷ texts) behind a b (inr one) (inl other) = absurd (other.0 one.0)
differs_one whole (line ∷ script) (text ∷ texts) behind a b (inr one) (inr other) = differs_one whole script texts behind a b one.1 other.1

read_one : (d : Lists) (found : List (List ℕ)) (whole : ℕ) (behind : List ℕ) → IsSpellable d → length found < 2 ^ 32 → IsOne (λ left. ReadBreaks d found whole left behind)
read_one d found whole behind spelled few =
    either_one (ScriptDiffers whole (texts_of d) found behind) (λ left. (found ≡ texts_of d) × ListsBreak d.tables d.users behind left) (differs_one whole (texts_of d) found behind)
    (λ a b one other.
    lists_one d
    (are_listed d spelled (subst (λ (n : ℕ). n < 2 ^ 32) (ap (λ (l : List (List ℕ)). length l) one.0 ∙ length-map (statements d) printed) few)) behind a b one.1 other.1)
    (λ a b differs same. differs_never whole found behind a (subst (λ (l : List (List ℕ)). ScriptDiffers whole l found behind a) (sym same.0) differs))

module _ (publisher : Name) (whole : ℕ) where
  abbrev TextsThere : ℕ → List ℕ → ℕ → Type 0
  TextsThere count first left =
      (found : List (List ℕ)) × (d : Lists) × (length found ≡ count) × AllByRecursion IsText found × Make (nothing_but publisher) found d × BehindPart (flat_map bytes_spelling found) (λ behind. ReadBreaks d found whole left behind) first

  texts_there : (count : ℕ) (first : List ℕ) → count < 2 ^ 32 → IsOne (TextsThere count first)
  texts_there count first few a b one other =
      let counts : length one.0 ≡ length other.0 = one.2 ∙ sym other.2 in
      let spelled : flat_map bytes_spelling one.0 ++ one.5.rest ≡ flat_map bytes_spelling other.0 ++ other.5.rest = sym one.5.parts ∙ other.5.parts in
      let listed : list_spelling bytes_spelling one.0 ++ one.5.rest ≡ list_spelling bytes_spelling other.0 ++ other.5.rest =
      append_assoc (to_be_bytes w32 (length one.0)) (flat_map bytes_spelling one.0) one.5.rest ∙ (λ i. to_be_bytes w32 (counts i) ++ spelled i)
      ∙ sym (append_assoc (to_be_bytes w32 (length other.0)) (flat_map bytes_spelling other.0) other.5.rest) in
      let short : length one.0 < 2 ^ 32 = subst (λ (n : ℕ). n < 2 ^ 32) (sym one.2) few in
      let both = begins_no_other (list_format text_format) one.0 other.0 one.5.rest other.5.rest (short, one.3) (subst (λ (n : ℕ). n < 2 ^ 32) counts short, other.3) listed in
      let made : one.1 ≡ other.1 = make_one (nothing_but publisher) one.1 other.1 one.0 one.4 (subst (λ (l : List (List ℕ)). Make (nothing_but publisher) l other.1) (sym both.0) other.4) in
      let then : ReadBreaks one.1 one.0 whole b one.5.rest =
      subst (λ (d : Lists). ReadBreaks d one.0 whole b one.5.rest) (sym made)
      (subst (λ (l : List (List ℕ)). ReadBreaks other.1 l whole b one.5.rest) (sym both.0) (subst (λ (l : List ℕ). ReadBreaks other.1 other.0 whole b l) (sym both.1) other.5.then)) in
      read_one one.1 one.0 whole one.5.rest (made_spelled (nothing_but publisher) one.1 one.0 (new_spelled publisher) one.4) short a b one.5.then then

  counted_texts : (count : ℕ) (first : List ℕ) → count < 2 ^ 32 → IsOne (λ left. CountedTexts (nothing_but publisher) whole left count first)
  counted_texts count first few =
      either_one (TextsBreak (nothing_but publisher) count first) (TextsThere count first) (texts_one (nothing_but publisher) count first) (texts_there count first few)
      (λ a b texts there. made_never (nothing_but publisher) there.1 there.0 first there.5.rest a there.3 there.4 there.5.parts (subst (λ (n : ℕ). TextsBreak (nothing_but publisher) n first a) (sym there.2) texts))

script_one : (publisher : Name) (bytes : List ℕ) → IsOne (ScriptBreaks publisher bytes)
script_one publisher bytes =
    either_one (FieldBreaks (number_at w32) bytes) (λ left. (count : ℕ) × (count < 2 ^ 32) × BehindPart (to_be_bytes w32 count) (λ first. CountedTexts (nothing_but publisher) (length bytes) left count first) bytes)
    (field_one (number_at w32) bytes)
    (λ a b one other.
    let both = behind_same format32 one.0 other.0 bytes one.2.rest (λ first. CountedTexts (nothing_but publisher) (length bytes) b other.0 first) one.1 other.1 one.2.parts other.2 in
    counted_texts publisher (length bytes) one.0 one.2.rest one.1 a b one.2.then (subst (λ (n : ℕ). CountedTexts (nothing_but publisher) (length bytes) b n one.2.rest) (sym both.0) both.1))
    (λ a b field there. never format32 there.0 bytes there.2.rest a there.1 there.2.parts field)

-- ---- all of it

named_one : (named : List ℕ) → IsOne (λ left. NamedBreaks left named)
named_one named =
    either_one (FieldBreaks name_in named) (λ left. (publisher : List ℕ) × IsName publisher × BehindPart (name_spelling publisher) (λ script. ScriptBreaks publisher script left) named) (field_one name_in named)
    (λ a b one other.
    let both = behind_same name_format one.0 other.0 named one.2.rest (λ script. ScriptBreaks other.0 script b) one.1 other.1 one.2.parts other.2 in
    script_one one.0 one.2.rest a b one.2.then (subst (λ (n : List ℕ). ScriptBreaks n one.2.rest b) (sym both.0) both.1))
    (λ a b field there. never name_in_format there.0 named there.2.rest a there.1 there.2.parts field)

abbrev PlaceThere : List ℕ → ℕ → Type 0
PlaceThere placed left = (place : ℕ) × (place ≤ 2 ^ 62) × BehindPart (to_be_bytes w64 place) (λ named. NamedBreaks left named) placed

far_apart : (placed : List ℕ) → Exclude (OffsetBreaks placed) (PlaceThere placed)
far_apart placed a b (inl field) there = never format64 there.0 placed there.2.rest a (omega (arith, there.1)) there.2.parts field
far_apart placed a b (inr far) there =
    let same = (behind_same format64 far.place there.0 placed far.there.rest (λ named. NamedBreaks b named) far.short (omega (arith, there.1)) far.there.parts there.2).0 in
    absurd (omega (arith, same, far.far, there.1))

placed_one : (placed : List ℕ) → IsOne (λ left. PlacedBreaks left placed)
placed_one placed =
    either_one (OffsetBreaks placed) (PlaceThere placed) (offset_one placed)
    (λ a b one other. named_one one.2.rest a b one.2.then (behind_same format64 one.0 other.0 placed one.2.rest (λ named. NamedBreaks b named) (omega (arith, one.1)) (omega (arith, other.1)) one.2.parts other.2).1) (far_apart placed)

state_one : (bytes : List ℕ) → IsOne (StateBreaks bytes)
state_one bytes =
    either_one (LacksMagic bytes) (λ left. BehindPart magic (λ placed. PlacedBreaks left placed) bytes) (λ a b one other. here_one (length bytes) a b one.here other.here)
    (λ a b one other.
    let same : one.rest ≡ other.rest = behind_magic one.rest other.rest (sym one.parts ∙ other.parts) in
    placed_one one.rest a b one.then (subst (λ (l : List ℕ). PlacedBreaks b l) (sym same) other.then))
    (λ a b lacks there. lacks.other there.rest there.parts)

pub one_place : (bytes : List ℕ) (a b : ℕ) → IsDamagedSnapshot bytes a → IsDamagedSnapshot bytes b → a ≡ b
one_place bytes a b (inl one) (inl other) = here_one longest a b one.1 other.1
one_place bytes a b (inl one) (inr other) = absurd (omega (arith, one.0, other.0))
one_place bytes a b (inr one) (inl other) = absurd (omega (arith, one.0, other.0))
one_place bytes a b (inr (short, (left, breaks, here))) (inr (other_short, (other, other_breaks, there))) =
    let same : left ≡ other = state_one bytes left other breaks other_breaks in
    omega (arith, same, here, there)
