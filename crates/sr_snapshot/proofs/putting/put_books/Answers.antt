use Rattle.std.proofs.Common.{◌≡◌, [], ◌++◌, refl, ap}
use Rattle.std.proofs.lemmas.Result.{err_from_is_err_and}
use Rattle.std.specs.List.{flat_map}
use Rattle.sr_snapshot.proofs.Puts.{cause_memory, if_fault, no_length, none_there, putting_at, putting_behind, putting_cause, putting_end, putting_more}
use Rattle.sr_snapshot.specs.Parts.{book_line}
use Rattle.sr_snapshot.specs.Inner.Writing.{PutCause}
use Rattle.sr_snapshot.proofs.putting.put_books.Goals as goal

pub returns-in_err-write_count-clause-cause : goal.returns-in_err-write_count-clause-cause
returns-in_err-write_count-clause-cause g c =
    let p = err_from_is_err_and c.from_residual.result c.from_residual.ensures.1 in
    rw (p.1, p.2) (cause_memory c.args.file (g.S.Held.seen c.args.site.now))

pub books-init : goal.books-init
books-init g c = putting_behind c.args.file _ _ _ (g.S.Held.seen c.args.site.now) _ _ _ c.in_ok-write_count.ensures.added c.requires.at refl

pub put_book-requires : goal.put_book-requires
put_book-requires g c = record { at = putting_at c.args.file _ _ (g.S.Held.seen c.args.site.now) (g.S.Held.seen c.books.site) _ _ _ c.books.invariant }

pub books-preserved : goal.books-preserved
books-preserved g c =
    let parts : flat_map book_line c.books.left.now ≡ book_line (c.in-Some.line.now.0, c.in-Some.line.now.1) ++ flat_map book_line c.in-Some.rest.now = ap (flat_map book_line) c.in-Some.ensures.cases.0 in
    putting_more c.args.file _ _ _ _ (g.S.Held.seen c.args.site.now) (g.S.Held.seen c.books.site) (g.S.Held.seen c.put_book.new.site) _ _ _ _ _ parts c.books.invariant c.in_ok-put_book.ensures.put

pub returns-in_err-put_book-clause-cause : goal.returns-in_err-put_book-clause-cause
returns-in_err-put_book-clause-cause g c =
    let first = g.S.Held.seen c.args.site.now in
    let now = g.S.Held.seen c.put_book.new.site in
    if_fault (PutCause c.args.file first now) c.in_err-put_book.field-0.0 c.from_residual-in_err-put_book.result c.from_residual-in_err-put_book.ensures.1
    (putting_cause c.args.file _ _ first (g.S.Held.seen c.books.site) now _ _ _ c.in_err-put_book.field-0.0 c.books.invariant c.in_err-put_book.ensures.cause)

pub returns-clause-put : goal.returns-clause-put
returns-clause-put g c =
    let none : c.books.left.now ≡ [] = no_length _ (none_there c.split_first.result _ _ c.in_default.not-Some c.split_first.ensures.cases) in
    putting_end c.args.file _ _ (g.S.Held.seen c.args.site.now) (g.S.Held.seen c.books.site) _ _ _ (ap (flat_map book_line) none) c.books.invariant
