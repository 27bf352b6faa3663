-- Where the entries of a log begin: an offset, and the state and the books there.
use Rattle.std.specs.Prelude.{◌≡◌, ◌≤◌, ◌<◌, ◌^◌, ℕ, List, map, Some}
use Rattle.std.specs.List.{AllByRecursion}
use Rattle.std.specs.Str.{IsUtf8}
use Rattle.sr_ast.specs.Layout.{printed}
use Rattle.sr_base.specs.Fields.{IsName}
use Rattle.sr_base.specs.Values.{IsValue, farthest_offset}
use Rattle.sr_base.specs.declared.value.Value.{Value as Cell}
use Rattle.sr_book.specs.Entries.{Name}
use Rattle.sr_book.specs.declared.book.Book.{Book}
use Rattle.sr_catalog_schema.specs.Members.{user_name}
use Rattle.sr_catalog_script_laws.specs.Scripts.{statements, IsSpellable}
use Rattle.sr_catalog_schema.specs.declared.user.User.{User}
use Rattle.sr_database_history.specs.Folds.{State, books_of, end_of, state_of}
use Rattle.sr_database_history.specs.Recorded.{Recorded}
use Rattle.sr_exec_dml.specs.Fitting.{RowsFit}
use Rattle.sr_rows.specs.Marks.{rows_of_table}

-- an offset, the catalog and the rows there, and the books of the users of that catalog, in order of grant
pub record Beginning : Type 0 where
  pub place : ℕ
  pub state : State
  pub books : List (Name × Book)

-- eight numbers of 64 bits
pub record IsBook (b : Book) : Type 0 where
  pub log_sent : b.log_sent < 2 ^ 64
  pub confirm_sent : b.confirm_sent < 2 ^ 64
  pub send_count : b.send_count < 2 ^ 64
  pub resend_count : b.resend_count < 2 ^ 64
  pub log_received : b.log_received < 2 ^ 64
  pub confirm_received : b.confirm_received < 2 ^ 64
  pub receive_count : b.receive_count < 2 ^ 64
  pub rereceive_count : b.rereceive_count < 2 ^ 64

-- a text in UTF-8 spells the catalog, statement by statement; each row fits its table, stands under its key and has values; there is one book for
-- each user, in order of grant
pub record IsBeginning (b : Beginning) : Type 0 where
  pub place : b.place ≤ farthest_offset
  pub publisher : IsName b.state.catalog.publisher
  pub catalog : IsSpellable b.state.catalog
  pub texts : AllByRecursion IsUtf8 (map printed (statements b.state.catalog))
  pub rows : RowsFit b.state.catalog b.state.rows
  pub values : (name : List ℕ) (key row : List Cell) → rows_of_table b.state.rows name key ≡ Some row → AllByRecursion IsValue row
  pub users : map (λ p. p.0) b.books ≡ map user_name b.state.catalog.users
  pub numbers : AllByRecursion (λ p. IsBook p.1) b.books

-- what a history comes to: its end, the state there, and a book for each user
abbrev pub beginning_behind : Name → List Recorded → Beginning
beginning_behind publisher es = record {
  place = end_of es;
  state = state_of publisher es;
  books = map (λ (u : User). (u.name, books_of u.name es)) (state_of publisher es).catalog.users;
}
