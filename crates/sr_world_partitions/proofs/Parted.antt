-- The names, texts, ops and rows of the world with partitions, and what becomes of ops in them.
use Rattle.std.proofs.Common.{◌≡◌, ◌<◌, ◌≤◌, ◌^◌, ℕ, Bool, true, false, List, [], ◌∷◌, length, Option, Some, None, refl, ap, arith, bytes_eq, nat_lt, IsTrue}
use Rattle.std.specs.Prelude.{pos}
use Rattle.std.specs.Fmt.{digits}
use Rattle.std.specs.FinMap as map_of
use Rattle.std.specs.FinMap.{get, get-insert, get-remove}
use Rattle.std.specs.List.{list_all}
use Rattle.std.proofs.lemmas.Str.{IsUtf8-from_ascii}
use Rattle.sr_ast.specs.Keywords.{IsKeyword, named}
use Rattle.sr_ast.specs.Layout.{printed, article_pieces, create_publication_pieces, subscription_pieces, stmt_pieces}
use Rattle.sr_ast.specs.Normal.{IsPlain}
use Rattle.sr_ast.specs.NormalForms.{IsNormal}
use Rattle.sr_ast.specs.Statements.{is_ddl}
use Rattle.sr_ast.specs.declared.keyword.Keyword.{Keyword}
use Rattle.sr_ast.specs.declared.keyword.Keyword.TheVariants as key
use Rattle.sr_ast.specs.declared.stmt.Stmt.{Stmt}
use Rattle.sr_ast.specs.declared.stmt.Stmt.TheVariants as stmt
use Rattle.sr_base.specs.Fields.{IsText}
use Rattle.sr_base.specs.declared.value.Value.{Value as Cell}
use Rattle.sr_base.specs.declared.value.Value.TheVariants.{Int}
use Rattle.sr_book.specs.Entries.{Name}
use Rattle.sr_database_history.proofs.Sampled.{all_ascii, plain_t, plain_r1}
use Rattle.sr_database_history.specs.Fitting.{FitsState}
use Rattle.sr_database_history.specs.Folds.{State, next, size}
use Rattle.sr_database_history.specs.Recorded.{Done, ddl, own}
use Rattle.sr_database_history.specs.Inner.Sample.{r1, table_t, column_id, column_n, inserted}
use Rattle.sr_exec_dml.specs.FittingChanges.{FitsAt, IsFitChange}
use Rattle.sr_exec_dml.specs.Statements.{table_named}
use Rattle.sr_logform.specs.Entries.{entry_spelling, IsEntry}
use Rattle.sr_logform.specs.Ops.{OpHas, IsOp}
use Rattle.sr_logform.specs.Outcomes.{OutcomeHas, IsOutcome, IsChange}
use Rattle.sr_logform.specs.declared.change.Change.{Change}
use Rattle.sr_logform.specs.declared.op.Op.{Op}
use Rattle.sr_logform.specs.declared.outcome.Clash.TheVariants.{NoRow}
use Rattle.sr_logform.specs.declared.outcome.Outcome.TheVariants.{Plain}
use Rattle.sr_catalog_schema.specs.Catalogs.{Lists}
use Rattle.sr_catalog_schema.specs.declared.publication.Publication.{Publication}
use Rattle.sr_catalog_schema.specs.declared.subscription.Subscription.{Subscription}
use Rattle.sr_resolve.specs.Judging.{clash_unless, removal}
use Rattle.sr_resolve.specs.Taking.{done_by}
use Rattle.sr_rows.specs.Marks.{RowMap}
use Rattle.sr_rows.specs.Inner.Marks.{place_cmp_total}
use Rattle.sr_world_partitions.specs.Inner.Moves.{by_n, create_parted, insert_with, part_for, remove_row, removed}
use Rattle.sr_world.proofs.Grounds.{here, the_t}
use Rattle.sr_world.proofs.Lines.{IsLine, IsWritten}
use Rattle.sr_world.proofs.Named.{int_ok, new_ok, row_ok}
use Rattle.sr_world.specs.Inner.Sample.{r2, name_p, first_row}

-- ---- names that are no key words

apart : {A : Type 0} → true ≡ false → A
apart h = cc

free_p : (k : Keyword) → IsKeyword name_p k → named k ≡ Some name_p
free_p key.Old h = apart (ap (bytes_eq name_p) h)
free_p k h = apart (ap (bytes_eq name_p) h)

free_n : (k : Keyword) → IsKeyword column_n k → named k ≡ Some column_n
free_n key.Old h = apart (ap (bytes_eq column_n) h)
free_n k h = apart (ap (bytes_eq column_n) h)

free_r2 : (k : Keyword) → IsKeyword r2 k → named k ≡ Some r2
free_r2 key.Old h = apart (ap (bytes_eq r2) h)
free_r2 k h = apart (ap (bytes_eq r2) h)

plain_p : IsPlain name_p
plain_p = record { written = refl; free = free_p }

plain_n : IsPlain column_n
plain_n = record { written = refl; free = free_n }

plain_r2 : IsPlain r2
plain_r2 = record { written = refl; free = free_r2 }

-- ---- statements as they are written

text_ok : (bytes : List ℕ) → length bytes < 2 ^ 32 → list_all (λ byte. nat_lt byte 128) bytes ≡ true → IsText bytes
text_ok bytes short h = record { short = short; utf8 = IsUtf8-from_ascii bytes (all_ascii bytes h) }

written : (statement : Stmt) (k : ℕ) → size (ddl statement) ≡ k → k ≤ 4194304 → IsNormal statement → IsTrue (is_ddl statement)
    → length (printed statement) < 2 ^ 32 → list_all (λ byte. nat_lt byte 128) (printed statement) ≡ true → IsWritten statement k
written statement k long short normal changes few ascii =
    record { long = long; short = short; normal = normal; changes = changes; text = text_ok (printed statement) few ascii }

normal_parted : IsNormal (stmt.CreatePublication create_parted)
normal_parted = (plain_p, (record { table = plain_t; columns = tt; condition = tt; by = ((tt, plain_n), omega arith) }, tt))

normal_r1 : IsNormal (stmt.CreateSubscription (part_for 5 r1))
normal_r1 = record { publication = plain_p; value = refl; user = plain_r1 }

normal_r2 : IsNormal (stmt.CreateSubscription (part_for 7 r2))
normal_r2 = record { publication = plain_p; value = refl; user = plain_r2 }

pub written_parted : IsWritten (stmt.CreatePublication create_parted) 50
unfolding size entry_spelling article_pieces create_publication_pieces stmt_pieces
written_parted = written (stmt.CreatePublication create_parted) 50 refl (omega arith) normal_parted refl (omega arith) refl

pub written_r1 : IsWritten (stmt.CreateSubscription (part_for 5 r1)) 40
unfolding size entry_spelling subscription_pieces stmt_pieces digits
written_r1 = written (stmt.CreateSubscription (part_for 5 r1)) 40 refl (omega arith) normal_r1 refl (omega arith) refl

pub written_r2 : IsWritten (stmt.CreateSubscription (part_for 7 r2)) 40
unfolding size entry_spelling subscription_pieces stmt_pieces digits
written_r2 = written (stmt.CreateSubscription (part_for 7 r2)) 40 refl (omega arith) normal_r2 refl (omega arith) refl

pub started_r1 : IsWritten (stmt.StartSubscription (part_for 5 r1)) 39
unfolding size entry_spelling subscription_pieces stmt_pieces digits
started_r1 = written (stmt.StartSubscription (part_for 5 r1)) 39 refl (omega arith) normal_r1 refl (omega arith) refl

pub started_r2 : IsWritten (stmt.StartSubscription (part_for 7 r2)) 39
unfolding size entry_spelling subscription_pieces stmt_pieces digits
started_r2 = written (stmt.StartSubscription (part_for 7 r2)) 39 refl (omega arith) normal_r2 refl (omega arith) refl

-- ---- catalogs

abbrev pub the_parted : Publication
the_parted = record { name = name_p; articles = record { table = table_t; columns = column_id ∷ column_n ∷ []; condition = None; by = Some by_n } ∷ [] }

abbrev pub to_part : ℕ → Name → Bool → Subscription
to_part n user started = record { publication = name_p; value = Some (Int (pos n)); user = user; started = started }

-- ---- ops and outcomes

pub insert_with_ok : (n : ℕ) → n < 2147483648 → IsOp (insert_with n)
unfolding OpHas
insert_with_ok n small = (
  refl,
  record {
    items = (omega arith, ((refl, (int_ok 1 (omega arith), λ h. cc)), ((refl, (int_ok n small, λ h. cc)), tt)));
    filled = λ h. cc;
    distinct = ((λ h. cc, tt), (tt, tt));
  },
)

pub remove_ok : IsOp remove_row
unfolding OpHas
remove_ok = (refl, record { items = (omega arith, ((refl, int_ok 1 (omega arith)), tt)); filled = λ h. cc; distinct = (tt, tt) })

pub came_outcome : (n : ℕ) → n < 2147483648 → IsOutcome (Plain (inserted (first_row n) ∷ []))
unfolding OutcomeHas
came_outcome n small = (omega arith, (new_ok (first_row n) (row_ok n small), tt))

gone_ok : (n : ℕ) → n < 2147483648 → IsChange (removed n)
gone_ok n small = record { table = refl; before = row_ok n small; after = tt; differ = λ h. cc }

pub went_outcome : (n : ℕ) → n < 2147483648 → IsOutcome (Plain (removed n ∷ []))
unfolding OutcomeHas
went_outcome n small = (omega arith, (gone_ok n small, tt))

-- ---- the row is held, and is not

abbrev pub rows_with : ℕ → RowMap
rows_with n = map_of.insert map_of.empty here (first_row n)

abbrev pub rows_without : ℕ → RowMap
rows_without n = map_of.remove (rows_with n) here

pub held_with : (n : ℕ) → get (rows_with n) here ≡ Some (first_row n)
held_with n = get-insert place_cmp_total map_of.empty here (first_row n) here

pub held_without : (n : ℕ) → get (rows_without n) here ≡ None
held_without n = get-remove place_cmp_total (rows_with n) here here

-- changes of the row that fit: it comes where none is held, and goes where it is held
pub comes_fits : (catalog : Lists) (rows : RowMap) (n : ℕ) → table_named catalog table_t ≡ Some the_t → get rows here ≡ None
    → FitsAt the_t (Int (pos 1) ∷ []) (Some (first_row n)) → IsFitChange catalog rows (inserted (first_row n))
comes_fits catalog rows n there held fits = record { table = the_t; named = there; key = Int (pos 1) ∷ []; held = held; fits = fits }

pub goes_fits : (catalog : Lists) (rows : RowMap) (n : ℕ) → table_named catalog table_t ≡ Some the_t → get rows here ≡ Some (first_row n)
    → IsFitChange catalog rows (removed n)
goes_fits catalog rows n there held = record { table = the_t; named = there; key = Int (pos 1) ∷ []; held = held; fits = tt }

-- ---- what becomes of ops

-- the row goes that is held
abbrev pub where_removed : Option (List Cell) → Done
where_removed held = done_by remove_row None (clash_unless held NoRow (λ row. Plain (removal table_t row ∷ [])))

-- ---- lines

-- an own transaction of one change, and what it gives
pub moved_line : (s after : State) (c : Change) (k : ℕ) (to_one to_other : List Op) → size (own (c ∷ [])) ≡ k → next s (own (c ∷ [])) ≡ after → k ≤ 4194304
    → IsChange c → IsFitChange s.catalog s.rows c
    → IsLine s (record { entry = own (c ∷ []); long = k; after = after; to_one = to_one; to_other = to_other })
unfolding IsEntry FitsState
moved_line s after c k to_one to_other long left short is fits = record {
  size_is = long;
  leaves = left;
  short = short;
  meant = tt;
  spelled = record { items = (omega arith, (is, tt)); filled = λ h. cc };
  fits = (fits, tt);
  says_so = tt;
}
