-- The names, texts and values of the sample.
use Rattle.std.proofs.Common.{◌≡◌, ◌≢◌, ◌<◌, ◌≤◌, ◌^◌, ℕ, true, false, List, length, Some, refl, ap, arith, bytes_eq, nat_lt, IsTrue}
use Rattle.std.specs.Prelude.{pos}
use Rattle.std.specs.Int.{w32}
use Rattle.std.specs.List.{list_all}
use Rattle.std.proofs.lemmas.Int.{fits_signed_from_abs}
use Rattle.std.proofs.lemmas.Str.{IsUtf8-from_ascii}
use Rattle.sr_ast.specs.Layout.{printed, column_rule_pieces, create_table_pieces, article_pieces, create_publication_pieces}
use Rattle.sr_ast.specs.Layout.{grant_pieces, subscription_pieces, stmt_pieces}
use Rattle.sr_ast.specs.Statements.{is_ddl}
use Rattle.sr_ast.specs.declared.stmt.Stmt.{Stmt}
use Rattle.sr_ast.specs.declared.stmt.Stmt.TheVariants as stmt
use Rattle.sr_base.specs.Fields.{IsText, IsListOf}
use Rattle.sr_base.specs.Values.{IsValue}
use Rattle.sr_base.specs.declared.value.Value.{Value as Cell}
use Rattle.sr_base.specs.declared.value.Value.TheVariants.{Int}
use Rattle.sr_ast.specs.declared.keyword.Keyword.{Keyword}
use Rattle.sr_ast.specs.declared.keyword.Keyword.TheVariants as key
use Rattle.sr_ast.specs.Normal.{IsPlain}
use Rattle.sr_ast.specs.NormalForms.{IsNormal}
use Rattle.sr_ast.specs.Keywords.{IsKeyword, named}
use Rattle.sr_book.specs.Entries.{Name}
use Rattle.sr_database_history.specs.Folds.{size}
use Rattle.sr_database_history.specs.Recorded.{ddl}
use Rattle.sr_database_history.specs.Inner.Sample.{cons, r1, create_t, create_u, inserted, grant}
use Rattle.sr_database_history.proofs.Sampled.{all_ascii, plain_t, plain_id, plain_r1, normal_t}
use Rattle.sr_logform.specs.Entries.{entry_spelling}
use Rattle.sr_logform.specs.Outcomes.{IsChange}
use Rattle.sr_world.specs.Inner.Sample.{r2, name_p, name_q, create_slim, create_p, create_q, subscription, first_row, slim_row, updated}
use Rattle.sr_world.proofs.Lines.{IsWritten}

-- ---- names that are no key words

apart : {A : Type 0} → true ≡ false → A
apart h = cc

free_p : (k : Keyword) → IsKeyword name_p k → named k ≡ Some name_p
free_p key.Old h = apart (ap (bytes_eq name_p) h)
free_p k h = apart (ap (bytes_eq name_p) h)

free_q : (k : Keyword) → IsKeyword name_q k → named k ≡ Some name_q
free_q key.Old h = apart (ap (bytes_eq name_q) h)
free_q k h = apart (ap (bytes_eq name_q) h)

free_cons : (k : Keyword) → IsKeyword cons k → named k ≡ Some cons
free_cons key.Old h = apart (ap (bytes_eq cons) h)
free_cons k h = apart (ap (bytes_eq cons) h)

free_r2 : (k : Keyword) → IsKeyword r2 k → named k ≡ Some r2
free_r2 key.Old h = apart (ap (bytes_eq r2) h)
free_r2 k h = apart (ap (bytes_eq r2) h)

plain_p : IsPlain name_p
plain_p = record { written = refl; free = free_p }

plain_q : IsPlain name_q
plain_q = record { written = refl; free = free_q }

plain_cons : IsPlain cons
plain_cons = record { written = refl; free = free_cons }

plain_r2 : IsPlain r2
plain_r2 = record { written = refl; free = free_r2 }

-- ---- statements in normal form

normal_slim : IsNormal (stmt.CreateTable create_slim)
normal_slim = record { name = plain_t; columns = (record { name = plain_id; kind = tt; not_null = λ h. refl }, tt); key = (plain_id, tt) }

normal_p : IsNormal (stmt.CreatePublication create_p)
normal_p = (plain_p, (record { table = plain_t; columns = tt; condition = tt; by = tt }, tt))

normal_q : IsNormal (stmt.CreatePublication create_q)
normal_q = (plain_q, (record { table = plain_t; columns = (plain_id, tt); condition = tt; by = tt }, tt))

-- ---- texts

text_ok : (bytes : List ℕ) → length bytes < 2 ^ 32 → list_all (λ byte. nat_lt byte 128) bytes ≡ true → IsText bytes
text_ok bytes short h = record { short = short; utf8 = IsUtf8-from_ascii bytes (all_ascii bytes h) }

-- ---- statements as they are written

written : (statement : Stmt) (k : ℕ) → size (ddl statement) ≡ k → k ≤ 4194304 → IsNormal statement → IsTrue (is_ddl statement)
    → length (printed statement) < 2 ^ 32 → list_all (λ byte. nat_lt byte 128) (printed statement) ≡ true → IsWritten statement k
written statement k long short normal changes few ascii =
    record { long = long; short = short; normal = normal; changes = changes; text = text_ok (printed statement) few ascii }

pub written_t : IsWritten (stmt.CreateTable create_t) 70
unfolding size entry_spelling column_rule_pieces create_table_pieces stmt_pieces
written_t = written (stmt.CreateTable create_t) 70 refl (omega arith) normal_t refl (omega arith) refl

pub written_slim : IsWritten (stmt.CreateTable create_slim) 59
unfolding size entry_spelling column_rule_pieces create_table_pieces stmt_pieces
written_slim = written (stmt.CreateTable create_slim) 59 refl (omega arith) normal_slim refl (omega arith) refl

pub text_u : IsText (printed (stmt.CreateTable create_u))
unfolding column_rule_pieces create_table_pieces stmt_pieces
text_u = text_ok (printed (stmt.CreateTable create_u)) (omega arith) refl

pub written_p : IsWritten (stmt.CreatePublication create_p) 35
unfolding size entry_spelling article_pieces create_publication_pieces stmt_pieces
written_p = written (stmt.CreatePublication create_p) 35 refl (omega arith) normal_p refl (omega arith) refl

pub written_q : IsWritten (stmt.CreatePublication create_q) 40
unfolding size entry_spelling article_pieces create_publication_pieces stmt_pieces
written_q = written (stmt.CreatePublication create_q) 40 refl (omega arith) normal_q refl (omega arith) refl

pub written_r1 : IsWritten (stmt.GrantRemote (grant r1)) 23
unfolding size entry_spelling grant_pieces stmt_pieces
written_r1 = written (stmt.GrantRemote (grant r1)) 23 refl (omega arith) (plain_r1, tt) refl (omega arith) refl

pub written_r2 : IsWritten (stmt.GrantRemote (grant r2)) 23
unfolding size entry_spelling grant_pieces stmt_pieces
written_r2 = written (stmt.GrantRemote (grant r2)) 23 refl (omega arith) (plain_r2, tt) refl (omega arith) refl

pub written_above : IsWritten (stmt.GrantConsolidate (grant cons)) 30
unfolding size entry_spelling grant_pieces stmt_pieces
written_above = written (stmt.GrantConsolidate (grant cons)) 30 refl (omega arith) (plain_cons, tt) refl (omega arith) refl

to_p : (user : Name) → IsPlain user → IsNormal (stmt.CreateSubscription (subscription name_p user))
to_p user plain = record { publication = plain_p; value = tt; user = plain }

to_q : (user : Name) → IsPlain user → IsNormal (stmt.CreateSubscription (subscription name_q user))
to_q user plain = record { publication = plain_q; value = tt; user = plain }

pub written_for_r1 : IsWritten (stmt.CreateSubscription (subscription name_p r1)) 36
unfolding size entry_spelling subscription_pieces stmt_pieces
written_for_r1 = written (stmt.CreateSubscription (subscription name_p r1)) 36 refl (omega arith) (to_p r1 plain_r1) refl (omega arith) refl

pub written_for_r2 : IsWritten (stmt.CreateSubscription (subscription name_q r2)) 36
unfolding size entry_spelling subscription_pieces stmt_pieces
written_for_r2 = written (stmt.CreateSubscription (subscription name_q r2)) 36 refl (omega arith) (to_q r2 plain_r2) refl (omega arith) refl

pub written_for_cons : IsWritten (stmt.CreateSubscription (subscription name_p cons)) 38
unfolding size entry_spelling subscription_pieces stmt_pieces
written_for_cons = written (stmt.CreateSubscription (subscription name_p cons)) 38 refl (omega arith) (to_p cons plain_cons) refl (omega arith) refl

pub started_for_r1 : IsWritten (stmt.StartSubscription (subscription name_p r1)) 35
unfolding size entry_spelling subscription_pieces stmt_pieces
started_for_r1 = written (stmt.StartSubscription (subscription name_p r1)) 35 refl (omega arith) (to_p r1 plain_r1) refl (omega arith) refl

pub started_for_r2 : IsWritten (stmt.StartSubscription (subscription name_q r2)) 35
unfolding size entry_spelling subscription_pieces stmt_pieces
started_for_r2 = written (stmt.StartSubscription (subscription name_q r2)) 35 refl (omega arith) (to_q r2 plain_r2) refl (omega arith) refl

pub started_for_cons : IsWritten (stmt.StartSubscription (subscription name_p cons)) 37
unfolding size entry_spelling subscription_pieces stmt_pieces
started_for_cons = written (stmt.StartSubscription (subscription name_p cons)) 37 refl (omega arith) (to_p cons plain_cons) refl (omega arith) refl

-- ---- values, rows and changes

pub int_ok : (k : ℕ) → k < 2147483648 → IsValue (Int (pos k))
unfolding IsValue
int_ok k small = fits_signed_from_abs w32 (pos k) small

pub row_ok : (k : ℕ) → k < 2147483648 → IsListOf IsValue (first_row k)
row_ok k small = (omega arith, (int_ok 1 (omega arith), (int_ok k small, tt)))

pub slim_ok : IsListOf IsValue slim_row
slim_ok = (omega arith, (int_ok 1 (omega arith), tt))

pub new_ok : (after : List Cell) → IsListOf IsValue after → IsChange (inserted after)
new_ok after ok = record { table = refl; before = tt; after = ok; differ = λ h. cc }

two_rows : (a b : ℕ) → a ≢ b → Some (first_row a) ≡ Some (first_row b) → ⊥
two_rows a b unlike h = let same : a ≡ b = cc in unlike same

pub update_ok : (a b : ℕ) → a < 2147483648 → b < 2147483648 → a ≢ b → IsChange (updated a b)
update_ok a b small less unlike = record { table = refl; before = row_ok a small; after = row_ok b less; differ = two_rows a b unlike }
