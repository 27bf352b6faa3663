-- The parts of a snapshot.
use Rattle.std.specs.Prelude.{ℕ, List, [], ◌∷◌, ◌++◌, map}
use Rattle.std.specs.Int.{w64, to_be_bytes}
use Rattle.sr_base.specs.Fields.{name_spelling}
use Rattle.sr_base.specs.declared.value.Value.{Value as Cell}
use Rattle.sr_book.specs.Entries.{Name}
use Rattle.sr_book.specs.declared.book.Book.{Book}
use Rattle.sr_rows.specs.Walks.{Entry}

-- SRSNP001
abbrev pub magic : List ℕ
magic = 83 ∷ 82 ∷ 83 ∷ 78 ∷ 80 ∷ 48 ∷ 48 ∷ 49 ∷ []

-- the longest snapshot: 1 GiB
abbrev pub longest : ℕ
longest = 1073741824

-- four numbers, a u64 each
abbrev pub four_spelling : ℕ → ℕ → ℕ → ℕ → List ℕ
four_spelling one two three four = to_be_bytes w64 one ++ (to_be_bytes w64 two ++ (to_be_bytes w64 three ++ to_be_bytes w64 four))

-- the eight numbers of a book
abbrev pub book_spelling : Book → List ℕ
book_spelling b = four_spelling b.log_sent b.confirm_sent b.send_count b.resend_count ++ four_spelling b.log_received b.confirm_received b.receive_count b.rereceive_count

-- a user, and the book of it
abbrev pub book_line : Name × Book → List ℕ
book_line p = name_spelling p.0 ++ book_spelling p.1

-- rows without their keys
abbrev pub rows_of : List Entry → List (List Cell)
rows_of entries = map (λ (e : Entry). e.1) entries
