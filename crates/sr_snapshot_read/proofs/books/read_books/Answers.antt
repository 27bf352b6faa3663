use Rattle.std.proofs.Common.{◌≡◌, ℕ, List, [], sym, ap, subst, ◌∙◌}
use Rattle.std.proofs.lemmas.Result.{err_from_is_err_and}
use Rattle.std.specs.List.{flat_map, AllByRecursion}
use Rattle.std.specs.Prelude.{map}
use Rattle.sr_book.specs.declared.book.Book.{Book}
use Rattle.sr_snapshot.proofs.Puts.{if_fault, no_length, none_there}
use Rattle.sr_snapshot.specs.Beginnings.{IsBook}
use Rattle.sr_snapshot.specs.Parts.{book_line}
use Rattle.sr_snapshot_read.proofs.BooksRead.{book_cause, books_begin, books_more, books_names, name_cause}
use Rattle.sr_snapshot_read.proofs.RowsRead.{memory_behind}
use Rattle.sr_snapshot_read.proofs.Windows.{taken_on, taken_over}
use Rattle.sr_snapshot_read.specs.Inner.Damages.{NeverBreaks}
use Rattle.sr_snapshot_read.specs.Damages.{BooksBreak}
use Rattle.sr_snapshot_read.specs.Inner.Reading.{HasTaken, TakeCause}
use Rattle.sr_snapshot_read.proofs.books.read_books.Goals as goal

pub users-init : goal.users-init
users-init g c = books_begin c.args.file c.args.users.now (g.S.Held.seen c.args.site.now) c.args.window.now _ c.requires.over c.new-books.ensures.items

pub read_this_name-requires : goal.read_this_name-requires
read_this_name-requires g c = record { over = taken_over c.args.file _ (g.S.Held.seen c.args.site.now) (g.S.Held.seen c.users.site) c.args.window.now c.users.window c.users.invariant.taken }

pub read_book-requires : goal.read_book-requires
read_book-requires g c = record { over = taken_over c.args.file _ (g.S.Held.seen c.users.site) (g.S.Held.seen c.read_this_name.new.site) c.users.window c.read_this_name.new.window c.in_ok-name.ensures.taken }

pub users-preserved : goal.users-preserved
users-preserved g c =
    books_more c.args.file c.args.users.now c.users.left.now c.in-Some.rest.now c.in-Some.user.now (g.S.Held.seen c.args.site.now) (g.S.Held.seen c.users.site) (g.S.Held.seen c.read_this_name.new.site) (g.S.Held.seen c.read_book.new.site)
    c.args.window.now c.users.window c.read_this_name.new.window c.read_book.new.window c.users.books.items c.push.new.self.items c.in_ok-name.name c.in_ok-book.book c.in-Some.ensures.cases.0 c.users.invariant c.in_ok-name.ensures.taken
    c.in_ok-book.ensures.taken c.in_ok-name.ensures.name c.in_ok-book.ensures.numbers c.in_ok-push.ensures.items

pub returns-in_err-name-clause-cause : goal.returns-in_err-name-clause-cause
returns-in_err-name-clause-cause g c =
    let first = g.S.Held.seen c.args.site.now in
    let now = g.S.Held.seen c.read_this_name.new.site in
    let fault = c.in_err-name.field-0.0 in
    if_fault (TakeCause c.args.file (BooksBreak c.args.users.now NeverBreaks) first now c.args.window.now) fault c.from_residual.result c.from_residual.ensures.1
    (name_cause c.args.file c.args.users.now c.users.left.now c.in-Some.rest.now c.in-Some.user.now first (g.S.Held.seen c.users.site) now c.args.window.now c.users.window c.users.books.items fault c.in-Some.ensures.cases.0 c.users.invariant
    c.in_err-name.ensures.cause)

pub returns-in_err-book-clause-cause : goal.returns-in_err-book-clause-cause
returns-in_err-book-clause-cause g c =
    let first = g.S.Held.seen c.args.site.now in
    let now = g.S.Held.seen c.read_book.new.site in
    let fault = c.in_err-book.field-0.0 in
    if_fault (TakeCause c.args.file (BooksBreak c.args.users.now NeverBreaks) first now c.args.window.now) fault c.from_residual-in_err-book.result c.from_residual-in_err-book.ensures.1
    (book_cause c.args.file c.args.users.now c.users.left.now c.in-Some.rest.now c.in-Some.user.now first (g.S.Held.seen c.users.site) (g.S.Held.seen c.read_this_name.new.site) now c.args.window.now c.users.window
    c.read_this_name.new.window c.users.books.items fault c.in-Some.ensures.cases.0 c.users.invariant c.in_ok-name.ensures.taken c.in_err-book.ensures.cause)

pub returns-in_err-push-clause-cause : goal.returns-in_err-push-clause-cause
returns-in_err-push-clause-cause g c =
    let p = err_from_is_err_and c.from_residual-in_err-push.result c.from_residual-in_err-push.ensures.1 in
    let up = taken_on c.args.file _ _ (g.S.Held.seen c.args.site.now) (g.S.Held.seen c.users.site) (g.S.Held.seen c.read_this_name.new.site) c.args.window.now c.users.window c.read_this_name.new.window c.users.invariant.taken c.in_ok-name.ensures.taken in
    rw (p.1, p.2) (memory_behind c.args.file (BooksBreak c.args.users.now NeverBreaks) (g.S.Held.seen c.args.site.now) (g.S.Held.seen c.read_this_name.new.site) (g.S.Held.seen c.read_book.new.site) _ _ _ up c.in_ok-book.ensures.taken)

pub returns-clause-taken : goal.returns-clause-taken
returns-clause-taken g c =
    subst (λ (bs : List (List ℕ × Book)). HasTaken c.args.file (flat_map book_line bs) (g.S.Held.seen c.args.site.now) (g.S.Held.seen c.users.site) c.args.window.now c.users.window) (sym c.from_vec.ensures.items) c.users.invariant.taken

pub returns-clause-users : goal.returns-clause-users
returns-clause-users g c =
    let none : c.users.left.now ≡ [] = no_length _ (none_there c.split_first.result _ _ c.in_default.not-Some c.split_first.ensures.cases) in
    ap (λ (bs : List (List ℕ × Book)). map (λ p. p.0) bs) c.from_vec.ensures.items
    ∙ books_names c.args.file c.args.users.now c.users.left.now (g.S.Held.seen c.args.site.now) (g.S.Held.seen c.users.site) c.args.window.now c.users.window c.users.books.items none c.users.invariant

pub returns-clause-numbers : goal.returns-clause-numbers
returns-clause-numbers g c = subst (λ (bs : List (List ℕ × Book)). AllByRecursion (λ p. IsBook p.1) bs) (sym c.from_vec.ensures.items) c.users.invariant.numbers
