-- What `show` prints of a database.
use Rattle.std.specs.Prelude.{ℕ, Bool, true, false, ◌+◌, List, [], ◌∷◌, ◌++◌, length, codes}
use Rattle.std.specs.Fmt.{decimal}
use Rattle.sr_book.specs.declared.book.Book.{Book}
use Rattle.sr_database.specs.Views.{View}
use Rattle.sr_database_files.specs.Books.{BookMap, book_in}
use Rattle.sr_rows.specs.Marks.{RowMap}
use Rattle.sr_rows.specs.Walks.{table_rows}
use Rattle.sr_catalog_schema.specs.declared.table.Table.{Table}
use Rattle.sr_catalog_schema.specs.declared.user.User.{User}
use Rattle.sr_session_script.specs.Acts.{line}

-- how many rows the tables have together
abbrev pub count_of : RowMap → List Table → ℕ
count_of rows [] = 0
count_of rows (t ∷ ts) = length (table_rows rows t.name) + count_of rows ts

-- whether a user is above or below
abbrev pub kind_text : Bool → List ℕ
kind_text true = codes "consolidated"
kind_text false = codes "remote"

-- a number in its column
abbrev pub column : ℕ → List ℕ
column n = 32 ∷ decimal n

-- what was sent to a user, and what was received from him
unfoldable pub sent_columns : Book → List ℕ
sent_columns b = column b.log_sent ++ column b.confirm_sent ++ column b.send_count ++ column b.resend_count

unfoldable pub received_columns : Book → List ℕ
received_columns b = column b.log_received ++ column b.confirm_received ++ column b.receive_count ++ column b.rereceive_count

-- a user: his kind and his address
unfoldable pub user_text : User → List ℕ
user_text u = codes "user " ++ u.name ++ 32 ∷ kind_text u.above ++ codes " address " ++ u.address

-- and his book
unfoldable pub user_line : User → Book → List ℕ
user_line u b = line (user_text u ++ sent_columns b ++ received_columns b)

abbrev pub user_lines : BookMap → List User → List ℕ
user_lines books [] = []
user_lines books (u ∷ us) = user_line u (book_in books u.name) ++ user_lines books us

-- the publisher, the base and the end of the log as offsets in bytes, the rows of all tables together, and the users in order of grant
abbrev pub shown : View → List ℕ
shown v =
    line (codes "publisher " ++ v.catalog.publisher)
    ++ line (codes "base " ++ decimal v.log.base)
    ++ line (codes "end " ++ decimal v.log.end)
    ++ line (codes "rows " ++ decimal (count_of v.rows.rows v.catalog.tables))
    ++ user_lines v.books v.catalog.users
