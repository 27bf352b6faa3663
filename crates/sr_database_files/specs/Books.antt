-- The books of a database: those that an entry has changed, under their users' names.
use Rattle.std.specs.Prelude.{List, [], ◌∷◌, Option, Some, None}
use Rattle.std.specs.FinMap as map
use Rattle.sr_base.specs.Order.{name_cmp}
use Rattle.sr_book.specs.Books.{new_book}
use Rattle.sr_book.specs.Entries.{Name}
use Rattle.sr_book.specs.declared.book.Book.{Book}

abbrev pub BookMap : Type 0
BookMap = map.FinMap name_cmp Book

-- a book, eight zeros where none is kept
abbrev pub or_new : Option Book → Book
or_new None = new_book
or_new (Some book) = book

-- the book of a user
abbrev pub book_in : BookMap → Name → Book
book_in books user = or_new (map.get books user)

-- books with those of a list kept, of two for one user the last
abbrev pub kept_books : BookMap → List (Name × Book) → BookMap
kept_books books [] = books
kept_books books (line ∷ lines) = kept_books (map.insert books line.0 line.1) lines

-- the book of a user in a list
abbrev pub listed : List (Name × Book) → Name → Book
listed lines user = book_in (kept_books map.empty lines) user
