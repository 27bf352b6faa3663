-- The books of a database: those that an entry has changed, under their users' names.
-- Here is what no contract of the program says by itself.
use Rattle.std.specs.Prelude.{◌≡◌, ℕ, Option, Some, None, refl}
use Rattle.std.specs.Coded.{Coded, code_by, coded×, coded_ℕ, coded_list}
use Rattle.std.specs.FinMap as map
use Rattle.sr_book.specs.Entries.{Name, booked}
use Rattle.sr_book.specs.declared.book.Book.{Book}
use Rattle.sr_database_files.specs.Books.{BookMap, book_in}
use Rattle.sr_database_history.specs.Folds.{sees}
use Rattle.sr_database_history.specs.Recorded.{Recorded}

abbrev pub coded_book : Coded Book
coded_book = code_by (ℕ × (ℕ × (ℕ × (ℕ × (ℕ × (ℕ × (ℕ × ℕ))))))) (coded× coded_ℕ (coded× coded_ℕ (coded× coded_ℕ (coded× coded_ℕ (coded× coded_ℕ (coded× coded_ℕ (coded× coded_ℕ coded_ℕ)))))))
    (λ b. (b.log_sent, (b.confirm_sent, (b.send_count, (b.resend_count, (b.log_received, (b.confirm_received, (b.receive_count, b.rereceive_count))))))))
    (λ p. record { log_sent = p.0; confirm_sent = p.1.0; send_count = p.1.1.0; resend_count = p.1.1.1.0; log_received = p.1.1.1.1.0; confirm_received = p.1.1.1.1.1.0; receive_count = p.1.1.1.1.1.1.0; rereceive_count = p.1.1.1.1.1.1.1 }) (λ _. refl)

abbrev pub coded_books : Coded BookMap
coded_books = map.code (coded_list coded_ℕ) coded_book

-- the books with this one kept of a user, or none
abbrev pub with_held : BookMap → Name → Option Book → BookMap
with_held books user None = map.remove books user
with_held books user (Some book) = map.insert books user book

-- each book is the one behind the entry
abbrev pub BooksFollow : BookMap → BookMap → Recorded → Type 0
BooksFollow old new r = (user : Name) → book_in new user ≡ booked user (book_in old user) (sees r)
