use Rattle.std.proofs.Common.{List, ℕ, ◌++◌, ◌∙◌, ap, append_assoc}
use Rattle.std.proofs.lemmas.Result.{err_from_is_err_and}
use Rattle.sr_base.specs.Fields.{name_spelling}
use Rattle.sr_snapshot.proofs.Puts.{cause_memory, put_field}
use Rattle.sr_snapshot.specs.Parts.{book_spelling}
use Rattle.sr_snapshot.proofs.putting.put_book.Goals as goal

pub returns-in_err-write_name-clause-cause : goal.returns-in_err-write_name-clause-cause
returns-in_err-write_name-clause-cause g c =
    let p = err_from_is_err_and c.from_residual.result c.from_residual.ensures.1 in
    rw (p.1, p.2) (cause_memory c.args.file (g.S.Held.seen c.args.site.now))

pub returns-in_err-write_book-clause-cause : goal.returns-in_err-write_book-clause-cause
returns-in_err-write_book-clause-cause g c =
    let p = err_from_is_err_and c.from_residual-in_err-write_book.result c.from_residual-in_err-write_book.ensures.1 in
    rw (p.1, p.2) (cause_memory c.args.file (g.S.Held.seen c.args.site.now))

pub returns-clause-put : goal.returns-clause-put
returns-clause-put g c =
    put_field c.args.file (name_spelling c.args.user.now ++ book_spelling c.args.book.now) (g.S.Held.seen c.args.site.now) (g.S.Held.seen c.flush_full.new.site) c.args.out.now.buffer.items _ _ c.args.out.now.place _ c.requires.at
    (c.in_ok-write_book.ensures.added ∙ ap (λ (l : List ℕ). l ++ book_spelling c.args.book.now) c.in_ok-write_name.ensures.ok ∙ append_assoc c.args.out.now.buffer.items (name_spelling c.args.user.now) (book_spelling c.args.book.now)) c.in_ok-flush_full.ensures.put
