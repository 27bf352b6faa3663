-- The book that a history's entries come to.
use Rattle.std.specs.Prelude.{ℕ, List, [], ◌∷◌, ◌++◌}
use Rattle.sr_book.specs.Books.{new_book}
use Rattle.sr_book.specs.declared.book.Book.{Book}
use Rattle.sr_book.specs.Entries.{Name, Sight, takes, asks, booked}
use Rattle.sr_book.specs.Rising.{top, offsets}

module _ {Entry Ops : Type 0} (sees : Entry → Sight Ops) where
  -- the transactions that a history took from a user, each with its offset in that user's log
  abbrev pub taken : Name → List Entry → List (ℕ × Ops)
  taken user [] = []
  taken user (e ∷ es) = takes user (sees e) ++ taken user es

  -- the last of their offsets, 0 where there is none
  abbrev pub taken_end : Name → List Entry → ℕ
  taken_end user es = top 0 (offsets (taken user es))

  -- the counts of a user's asks that a history noted
  abbrev pub asked : Name → List Entry → List ℕ
  asked user [] = []
  asked user (e ∷ es) = asks user (sees e) ++ asked user es

  -- the book of a user after a history that goes on from a book
  abbrev pub book_from : Name → Book → List Entry → Book
  book_from user book [] = book
  book_from user book (e ∷ es) = book_from user (booked user book (sees e)) es

  -- the book of a user after a history: eight zeros, changed by each entry taken from it or noted of it
  abbrev pub book_of : Name → List Entry → Book
  book_of user es = book_from user new_book es
