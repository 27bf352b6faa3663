-- The sample may stand in a log.
use Rattle.std.proofs.Common.{◌≡◌, ◌+◌, ◌≤◌, ◌<◌, ◌^◌, ℕ, zero, suc, Bool, true, false, List, [], ◌∷◌, map, Some, None}
use Rattle.std.proofs.Common.{refl, sym, ap, subst, ◌∙◌, arith, bytes_eq, nat_lt, IsUtf8}
use Rattle.std.specs.Prelude.{pos, slice_index_or}
use Rattle.std.specs.FinMap as map_of
use Rattle.std.specs.FinMap.{get, get-empty, get-insert, get-remove}
use Rattle.sr_base.specs.declared.value.Value.{Value as Cell}
use Rattle.sr_base.specs.declared.value.Value.TheVariants.{Null, Int}
use Rattle.sr_base.specs.Fields.{IsName, IsText, IsListOf}
use Rattle.sr_base.specs.Values.{value_spelling, IsValue, offset_from}
use Rattle.std.specs.Int.{w32}
use Rattle.std.proofs.lemmas.Int.{fits_signed_from_abs}
use Rattle.std.specs.List.{list_all}
use Rattle.std.specs.Str.{IsAscii}
use Rattle.std.proofs.lemmas.Bool.{and_parts}
use Rattle.std.proofs.lemmas.Bool.Decides.{nat_tests}
use Rattle.std.proofs.lemmas.Str.{IsUtf8-from_ascii}
use Rattle.std.proofs.lemmas.Str.Ascii.{IsAscii-nil, IsAscii-cons}
use Rattle.sr_ast.specs.declared.stmt.Stmt.{Stmt}
use Rattle.sr_ast.specs.declared.stmt.Stmt.TheVariants.{CreateTable as Create, DropTable, GrantRemote}
use Rattle.sr_ast.specs.Layout.{printed, column_rule_pieces, create_table_pieces, grant_pieces, stmt_pieces}
use Rattle.sr_catalog_change.specs.Changes.{next as catalog_after, refusal, drop_table_causes}
use Rattle.sr_catalog_ddl.specs.Tables.{table_of, create_table_causes, column_of}
use Rattle.sr_catalog_ddl.specs.Users.{user_of, grant_causes}
use Rattle.sr_catalog_script_laws.specs.Inner.Scripts.{user_at}
use Rattle.sr_catalog_schema.specs.Causes.{first_fault}
use Rattle.sr_catalog_schema.specs.Catalogs.{Lists, unset}
use Rattle.sr_catalog_schema.specs.Members.{table_name}
use Rattle.sr_catalog_schema.specs.declared.table.Table.{Table}
use Rattle.sr_catalog_schema.specs.declared.user.User.{User}
use Rattle.sr_rows.specs.Marks.{Place, RowMap, place_cmp, rows_of_table}
use Rattle.sr_rows.specs.Inner.Marks.{place_cmp_total}
use Rattle.sr_rows.specs.Steps.{without_table}
use Rattle.sr_logform.specs.Entries.{entry_spelling, flag_spelling, IsEntry}
use Rattle.sr_logform.specs.Ops.{op_spelling, OpHas, IsOp, AreKeyColumns}
use Rattle.sr_logform.specs.declared.op.Op.TheVariants.{Insert, Remove, Set, Exec}
use Rattle.sr_logform.specs.declared.outcome.Clash.TheVariants.{NoRow}
use Rattle.sr_logform.specs.declared.outcome.Outcome.TheVariants.{Plain, Conflict, Clash}
use Rattle.sr_book.specs.declared.note.Note.TheVariants.{Raised}
use Rattle.sr_logform.specs.Outcomes.{outcome_spelling, clash_spelling, note_spelling, OutcomeHas, IsOutcome, IsChange, IsNote}
use Rattle.sr_ast.specs.declared.keyword.Keyword.{Keyword}
use Rattle.sr_ast.specs.declared.keyword.Keyword.TheVariants as key
use Rattle.sr_ast.specs.Normal.{IsPlain}
use Rattle.sr_ast.specs.NormalForms.{IsNormal}
use Rattle.sr_ast.specs.Keywords.{IsKeyword, named}
use Rattle.sr_database_history.specs.Recorded.{Recorded, entry_of, ddl, own, taken, sync, pass, note, IsRecorded}
use Rattle.sr_database_history.specs.Fitting.{AreNamedRows, FitsState, stored_from, Stored}
use Rattle.sr_exec_dml.specs.FittingChanges.{IsFitChange}
use Rattle.sr_logform.specs.Limits.{longest_body}
use Rattle.sr_database_history.specs.Folds.{State, fresh, with_statement, next, state_of, size, end_of}
use Rattle.sr_database_history.proofs.Tables.{left_at}
use Rattle.sr_database_history.specs.Inner.Sample.{cons, r1, table_t, table_u, column_id, column_n, create_t, create_u, row, inserted, from_r1, sample, integer, grant}

-- ---- names that are no key words

apart : {A : Type 0} → true ≡ false → A
apart h = cc

free_t : (k : Keyword) → IsKeyword table_t k → named k ≡ Some table_t
free_t key.Old h = apart (ap (bytes_eq table_t) h)
free_t k h = apart (ap (bytes_eq table_t) h)

free_u : (k : Keyword) → IsKeyword table_u k → named k ≡ Some table_u
free_u key.Old h = apart (ap (bytes_eq table_u) h)
free_u k h = apart (ap (bytes_eq table_u) h)

free_id : (k : Keyword) → IsKeyword column_id k → named k ≡ Some column_id
free_id key.Old h = apart (ap (bytes_eq column_id) h)
free_id k h = apart (ap (bytes_eq column_id) h)

free_n : (k : Keyword) → IsKeyword column_n k → named k ≡ Some column_n
free_n key.Old h = apart (ap (bytes_eq column_n) h)
free_n k h = apart (ap (bytes_eq column_n) h)

free_r1 : (k : Keyword) → IsKeyword r1 k → named k ≡ Some r1
free_r1 key.Old h = apart (ap (bytes_eq r1) h)
free_r1 k h = apart (ap (bytes_eq r1) h)

pub plain_t : IsPlain table_t
plain_t = record { written = refl; free = free_t }

plain_u : IsPlain table_u
plain_u = record { written = refl; free = free_u }

pub plain_id : IsPlain column_id
plain_id = record { written = refl; free = free_id }

plain_n : IsPlain column_n
plain_n = record { written = refl; free = free_n }

pub plain_r1 : IsPlain r1
plain_r1 = record { written = refl; free = free_r1 }

-- ---- statements

-- the column n is not in the key
not_in_key : (k : ℕ) → k < 1 → slice_index_or (column_id ∷ []) k column_n ≡ column_n → ⊥
not_in_key zero le is = cc
not_in_key (suc k) le is = omega (arith, le)

pub normal_t : IsNormal (Create create_t)
normal_t = record {
  name = plain_t;
  columns = (
    record { name = plain_id; kind = tt; not_null = λ h. refl },
    (
      record {
        name = plain_n;
        kind = tt;
        not_null = λ h. absurd
            (not_in_key h.0 h.1 h.2);
      },
      tt,
    ),
  );
  key = (plain_id, tt);
}

pub normal_u : IsNormal (Create create_u)
normal_u = record { name = plain_u; columns = (record { name = plain_id; kind = tt; not_null = λ h. refl }, tt); key = (plain_id, tt) }

normal_grant : IsNormal (GrantRemote (grant r1))
normal_grant = (plain_r1, tt)

-- ---- texts and values

-- bytes below 128 are UTF-8
below : (byte : ℕ) → nat_lt byte 128 ≡ true → byte < 128
below byte h = grind (arith, nat_tests)

pub all_ascii : (bytes : List ℕ) → list_all (λ byte. nat_lt byte 128) bytes ≡ true → IsAscii bytes
all_ascii [] h = IsAscii-nil
all_ascii (byte ∷ bytes) h =
    let both = and_parts (nat_lt byte 128) (list_all (λ b. nat_lt b 128) bytes) h in
    IsAscii-cons byte bytes (below byte both.0) (all_ascii bytes both.1)

ascii_utf8 : (bytes : List ℕ) → list_all (λ byte. nat_lt byte 128) bytes ≡ true → IsUtf8 bytes
ascii_utf8 bytes h = IsUtf8-from_ascii bytes (all_ascii bytes h)

text_t : IsText (printed (Create create_t))
unfolding column_rule_pieces create_table_pieces stmt_pieces
text_t = record { short = omega arith; utf8 = ascii_utf8 _ refl }

text_u : IsText (printed (Create create_u))
unfolding column_rule_pieces create_table_pieces stmt_pieces
text_u = record { short = omega arith; utf8 = ascii_utf8 _ refl }

text_grant : IsText (printed (GrantRemote (grant r1)))
unfolding grant_pieces stmt_pieces
text_grant = record { short = omega arith; utf8 = ascii_utf8 _ refl }

text_drop_u : IsText (printed (DropTable table_u))
unfolding stmt_pieces
text_drop_u = record { short = omega arith; utf8 = ascii_utf8 _ refl }

text_drop_t : IsText (printed (DropTable table_t))
unfolding stmt_pieces
text_drop_t = record { short = omega arith; utf8 = ascii_utf8 _ refl }

int_ok : (k : ℕ) → k < 2147483648 → IsValue (Int (pos k))
unfolding IsValue
int_ok k small = fits_signed_from_abs w32 (pos k) small

null_ok : IsValue Null
unfolding IsValue
null_ok = tt

row_ok : (k : ℕ) (v : Cell) → k < 2147483648 → IsValue v → IsListOf IsValue (row k v)
row_ok k v small ok = (omega arith, (int_ok k small, (ok, tt)))

-- ---- entries

key_ok : (k : ℕ) → k < 2147483648 → AreKeyColumns IsName IsValue ((column_id, Int (pos k)) ∷ [])
key_ok k small = record { items = (omega arith, ((refl, int_ok k small), tt)); filled = λ h. cc; distinct = (tt, tt) }

change_ok : (k : ℕ) (v : Cell) → k < 2147483648 → IsValue v → IsChange (inserted (row k v))
change_ok k v small ok = record { table = refl; before = tt; after = row_ok k v small ok; differ = λ h. cc }

op_set : IsOp (Set table_t ((column_id, Int (pos 1)) ∷ []) ((column_n, Int (pos 5), Int (pos 7)) ∷ []))
unfolding OpHas
op_set = (
  refl,
  key_ok 1 (omega arith),
  record {
    items = (omega arith, ((refl, int_ok 5 (omega arith), int_ok 7 (omega arith)), tt));
    filled = λ h. cc;
    distinct = (tt, tt);
  },
)

op_insert : IsOp (Insert table_t ((column_id, Int (pos 2)) ∷ []))
unfolding OpHas
op_insert = (refl, record { items = (omega arith, ((refl, (int_ok 2 (omega arith), λ h. cc)), tt)); filled = λ h. cc; distinct = (tt, tt) })

op_exec : IsOp (Exec (printed (Create create_u)))
unfolding OpHas
op_exec = text_u

op_remove : IsOp (Remove table_t ((column_id, Int (pos 9)) ∷ []))
unfolding OpHas
op_remove = (refl, key_ok 9 (omega arith))

outcome_conflict : IsOutcome (Conflict [] (row 1 (Int (pos 2147483647))) (row 1 (Int (pos 7))))
unfolding OutcomeHas
outcome_conflict = ((omega arith, tt), row_ok 1 _ (omega arith) (int_ok 2147483647 (omega arith)), row_ok 1 _ (omega arith) (int_ok 7 (omega arith)))

outcome_insert : IsOutcome (Plain (inserted (row 2 Null) ∷ []))
unfolding OutcomeHas
outcome_insert = (omega arith, (change_ok 2 Null (omega arith) null_ok, tt))

outcome_ran : IsOutcome (Plain [])
unfolding OutcomeHas
outcome_ran = (omega arith, tt)

outcome_clash : IsOutcome (Clash NoRow)
unfolding OutcomeHas
outcome_clash = tt

spelled_own : IsEntry (entry_of (own (inserted (row 1 (Int (pos 2147483647))) ∷ [])))
unfolding IsEntry
spelled_own = record { items = (omega arith, (change_ok 1 _ (omega arith) (int_ok 2147483647 (omega arith)), tt)); filled = λ h. cc }

spelled_t : IsEntry (entry_of (ddl (Create create_t)))
unfolding IsEntry
spelled_t = text_t

spelled_grant : IsEntry (entry_of (ddl (GrantRemote (grant r1))))
unfolding IsEntry
spelled_grant = text_grant

spelled_sync : IsEntry (entry_of (sync r1 ((table_t, row 1 (Int (pos 2147483647)) ∷ []) ∷ [])))
unfolding IsEntry
spelled_sync = (refl, (omega arith, ((refl, (omega arith, (row_ok 1 _ (omega arith) (int_ok 2147483647 (omega arith)), tt))), tt)))

spelled_taken : IsEntry (entry_of (taken r1 (offset_from 15) from_r1))
unfolding IsEntry
spelled_taken = (
  refl,
  omega arith,
  record {
    items = (omega arith, ((op_set, outcome_conflict), ((op_insert, outcome_insert), ((op_exec, outcome_ran), ((op_remove, outcome_clash), tt)))));
    filled = λ h. cc;
  },
)

spelled_pass : (only : Bool) (statement : Stmt) → IsText (printed statement) → IsEntry (entry_of (pass (r1 ∷ []) only statement []))
unfolding IsEntry
spelled_pass only statement text = ((record { items = (omega arith, (refl, tt)); distinct = (tt, tt) }, tt, text), (omega arith, tt))

spelled_note : IsEntry (entry_of (note r1 Raised))
unfolding IsEntry IsNote
spelled_note = (refl, tt)

-- ---- the states on the way

abbrev the_t : Table
the_t = record {
  name = table_t;
  columns = column_of (integer column_id true) ∷ column_of (integer column_n false) ∷ [];
  key = 0 ∷ [];
}

abbrev the_u : Table
the_u = record { name = table_u; columns = column_of (integer column_id true) ∷ []; key = 0 ∷ [] }

abbrev the_user : User
the_user = user_at r1 false r1

abbrev catalog_with : List User → List Table → Lists
catalog_with users tables = record { publisher = cons; users = users; tables = tables; publications = []; triggers = []; subscriptions = []; options = unset }

abbrev place : ℕ → Place
place k = (table_t, Int (pos k) ∷ [])

abbrev first_rows : RowMap
first_rows = map_of.insert map_of.empty (place 1) (row 1 (Int (pos 2147483647)))

abbrev later_rows : RowMap
later_rows = map_of.insert (map_of.remove first_rows (place 1)) (place 1) (row 1 (Int (pos 7)))

abbrev last_rows : RowMap
last_rows = map_of.insert later_rows (place 2) (row 2 Null)

abbrev state : List User → List Table → RowMap → State
state users tables rows = record { catalog = catalog_with users tables; rows = rows }

-- ---- the entries one after the other

abbrev s0 : State
s0 = fresh cons

abbrev s1 : State
s1 = state [] (the_t ∷ []) map_of.empty

abbrev s2 : State
s2 = state [] (the_t ∷ []) first_rows

abbrev s3 : State
s3 = state (the_user ∷ []) (the_t ∷ []) first_rows

abbrev s5 : State
s5 = state (the_user ∷ []) (the_t ∷ the_u ∷ []) last_rows

abbrev s6 : State
s6 = state (the_user ∷ []) (the_t ∷ []) (without_table last_rows table_u)

abbrev e1 : Recorded
e1 = ddl (Create create_t)

abbrev e2 : Recorded
e2 = own (inserted (row 1 (Int (pos 2147483647))) ∷ [])

abbrev e3 : Recorded
e3 = ddl (GrantRemote (grant r1))

abbrev e4 : Recorded
e4 = sync r1 ((table_t, row 1 (Int (pos 2147483647)) ∷ []) ∷ [])

abbrev e5 : Recorded
e5 = taken r1 (offset_from 15) from_r1

abbrev e6 : Recorded
e6 = pass (r1 ∷ []) false (DropTable table_u) []

abbrev e7 : Recorded
e7 = pass (r1 ∷ []) true (DropTable table_t) []

abbrev e8 : Recorded
e8 = note r1 Raised

-- what each leaves
next1 : next s0 e1 ≡ s1
unfolding next with_statement catalog_after table_of
next1 = refl

next2 : next s1 e2 ≡ s2
unfolding next
next2 = refl

next3 : next s2 e3 ≡ s3
unfolding next with_statement catalog_after user_of
next3 = refl

next4 : next s3 e4 ≡ s3
unfolding next
next4 = refl

next5 : next s3 e5 ≡ s5
unfolding next with_statement catalog_after table_of
next5 = refl

next6 : next s5 e6 ≡ s6
unfolding next with_statement catalog_after
next6 = refl

next7 : next s6 e7 ≡ s6
unfolding next
next7 = refl

next8 : next s6 e8 ≡ s6
unfolding next
next8 = refl

-- what each asks
fits1 : FitsState s0 e1
unfolding FitsState refusal first_fault create_table_causes
fits1 = record { catalog = refl; rows = tt }

fits2 : FitsState s1 e2
unfolding FitsState
fits2 = (
  record {
    table = the_t;
    named = refl;
    key = Int (pos 1) ∷ [];
    held = get-empty place_cmp (place 1);
    fits = (refl, refl);
  },
  tt,
)

fits3 : FitsState s2 e3
unfolding FitsState refusal first_fault grant_causes
fits3 = record { catalog = refl; rows = tt }

fits4 : FitsState s3 e4
unfolding FitsState
fits4 = refl

conflict_changes : IsFitChange s3.catalog s3.rows (record { table = table_t; before = Some (row 1 (Int (pos 2147483647))); after = Some (row 1 (Int (pos 7))) })
conflict_changes = record {
  table = the_t;
  named = refl;
  key = Int (pos 1) ∷ [];
  held = get-insert place_cmp_total map_of.empty (place 1) (row 1 (Int (pos 2147483647))) (place 1);
  fits = (refl, refl);
}

conflict_rows : AreNamedRows s3.catalog table_t ((column_id, Int (pos 1)) ∷ []) (row 1 (Int (pos 2147483647))) (row 1 (Int (pos 7)))
conflict_rows = record {
  table = the_t;
  named = refl;
  fits_before = refl;
  fits_after = refl;
  key = Int (pos 1) ∷ [];
  meant = record { count = refl; values = (refl, tt) };
  key_before = refl;
  key_after = refl;
}

-- no row is held under 2 before that one comes
held2 : get later_rows (place 2) ≡ None
held2 =
    get-insert place_cmp_total (map_of.remove first_rows (place 1)) (place 1) (row 1 (Int (pos 7))) (place 2)
    ∙ get-remove place_cmp_total first_rows (place 1) (place 2)
    ∙ get-insert place_cmp_total map_of.empty (place 1) (row 1 (Int (pos 2147483647))) (place 2)
    ∙ get-empty place_cmp (place 2)

insert_changes : IsFitChange s3.catalog later_rows (inserted (row 2 Null))
insert_changes = record { table = the_t; named = refl; key = Int (pos 2) ∷ []; held = held2; fits = (refl, refl) }

accepted_u : refusal s3.catalog (Create create_u) ≡ None
unfolding refusal first_fault create_table_causes
accepted_u = refl

fits5 : FitsState s3 e5
unfolding FitsState
fits5 = (
  refl,
  (
    record { changes = (conflict_changes, tt); outcome = (tt, conflict_rows) },
    (
      record { changes = (insert_changes, tt); outcome = tt },
      (
        record { changes = tt; outcome = record { catalog = accepted_u; rows = tt } },
        (record { changes = tt; outcome = tt }, tt),
      ),
    ),
  ),
)

fits6 : FitsState s5 e6
unfolding FitsState refusal first_fault drop_table_causes
fits6 = ((refl, tt), tt, record { catalog = refl; rows = tt }, λ ddl. refl)

fits7 : FitsState s6 e7
unfolding FitsState
fits7 = ((refl, tt), tt, tt, refl)

fits8 : FitsState s6 e8
unfolding FitsState
fits8 = refl

-- how long each is
size1 : size e1 ≡ 70
unfolding size entry_spelling column_rule_pieces create_table_pieces stmt_pieces
size1 = refl

size2 : size e2 ≡ 23
unfolding size entry_spelling value_spelling
size2 = refl

size3 : size e3 ≡ 23
unfolding size entry_spelling grant_pieces stmt_pieces
size3 = refl

size4 : size e4 ≡ 28
unfolding size entry_spelling value_spelling
size4 = refl

size5 : size e5 ≡ 195
unfolding size entry_spelling op_spelling outcome_spelling clash_spelling value_spelling column_rule_pieces create_table_pieces stmt_pieces
size5 = refl

size6 : size e6 ≡ 29
unfolding size entry_spelling flag_spelling stmt_pieces
size6 = refl

size7 : size e7 ≡ 29
unfolding size entry_spelling flag_spelling stmt_pieces
size7 = refl

size8 : size e8 ≡ 5
unfolding size entry_spelling note_spelling
size8 = refl

-- an entry with the length of its body, before others
on : (s s' : State) (at k : ℕ) (r : Recorded) (rs : List Recorded) → size r ≡ k → next s r ≡ s' → k ≤ longest_body (entry_of r) → at + (k + 5) ≤ 2 ^ 62
    → IsRecorded r → IsEntry (entry_of r) → FitsState s r → stored_from s' (at + (k + 5)) rs → stored_from s at (r ∷ rs)
on s s' at k r rs long left short ends meant spelled state rest = (
  record {
    meant = meant;
    spelled = spelled;
    short = subst (λ (m : ℕ). m ≤ longest_body (entry_of r)) (sym long) short;
    ends = subst (λ (m : ℕ). at + (m + 5) ≤ 2 ^ 62) (sym long) ends;
    state = state;
  },
  subst (λ (m : ℕ). stored_from (next s r) (at + (m + 5)) rs) (sym long) (subst (λ (x : State). stored_from x (at + (k + 5)) rs) (sym left) rest),
)

stored : stored_from s0 0 sample
stored =
    on s0 s1 0 70 e1 (e2 ∷ e3 ∷ e4 ∷ e5 ∷ e6 ∷ e7 ∷ e8 ∷ []) size1 next1 (omega arith) (omega arith) (normal_t, refl) spelled_t fits1
    (on s1 s2 75 23 e2 (e3 ∷ e4 ∷ e5 ∷ e6 ∷ e7 ∷ e8 ∷ []) size2 next2 (omega arith) (omega arith) tt spelled_own fits2
    (on s2 s3 103 23 e3 (e4 ∷ e5 ∷ e6 ∷ e7 ∷ e8 ∷ []) size3 next3 (omega arith) (omega arith) (normal_grant, refl) spelled_grant fits3
    (on s3 s3 131 28 e4 (e5 ∷ e6 ∷ e7 ∷ e8 ∷ []) size4 next4 (omega arith) (omega arith) tt spelled_sync fits4
    (on s3 s5 164 195 e5 (e6 ∷ e7 ∷ e8 ∷ []) size5 next5 (omega arith) (omega arith) (tt, (tt, ((normal_u, refl), (tt, tt)))) spelled_taken fits5
    (on s5 s6 364 29 e6 (e7 ∷ e8 ∷ []) size6 next6 (omega arith) (omega arith) (plain_u, refl) (spelled_pass false (DropTable table_u) text_drop_u) fits6
    (on s6 s6 398 29 e7 (e8 ∷ []) size7 next7 (omega arith) (omega arith) (plain_t, refl) (spelled_pass true (DropTable table_t) text_drop_t) fits7
    (on s6 s6 432 5 e8 [] size8 next8 (omega arith) (omega arith) tt spelled_note fits8 tt)))))))

pub sample_stored : Stored cons sample
sample_stored = stored

-- the state that it comes to
state_is : state_of cons sample ≡ s6
unfolding next with_statement catalog_after table_of user_of
state_is = refl

-- the row that met another value, and the new one
pub updated : rows_of_table (state_of cons sample).rows table_t (Int (pos 1) ∷ []) ≡ Some (row 1 (Int (pos 7)))
updated =
    ap (λ (s : State). get s.rows (place 1)) state_is
    ∙ left_at last_rows table_u (place 1)
    ∙ get-insert place_cmp_total later_rows (place 2) (row 2 Null) (place 1)
    ∙ get-insert place_cmp_total (map_of.remove first_rows (place 1)) (place 1) (row 1 (Int (pos 7))) (place 1)

pub came : rows_of_table (state_of cons sample).rows table_t (Int (pos 2) ∷ []) ≡ Some (row 2 Null)
came =
    ap (λ (s : State). get s.rows (place 2)) state_is
    ∙ left_at last_rows table_u (place 2)
    ∙ get-insert place_cmp_total later_rows (place 2) (row 2 Null) (place 2)

pub tables_are : map table_name (state_of cons sample).catalog.tables ≡ table_t ∷ []
tables_are = ap (λ (s : State). map table_name s.catalog.tables) state_is

-- the length of the history
pub sample_ends : end_of sample ≡ 442
sample_ends =
    let a = size1 in
    let b = size2 in
    let c = size3 in
    let d = size4 in
    let e = size5 in
    let f = size6 in
    let g = size7 in
    let h = size8 in
    omega (arith, a, b, c, d, e, f, g, h)
