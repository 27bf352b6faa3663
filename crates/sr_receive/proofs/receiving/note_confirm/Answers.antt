use Rattle.std.proofs.Common.{List, subst}
use Rattle.sr_book.specs.declared.note.Note.{Note}
use Rattle.sr_database_did.specs.Inner.Places.{at}
use Rattle.sr_receive.specs.Inner.Noting.{EntersAll}
use Rattle.sr_receive.specs.Passes.{note_entries}
use Rattle.sr_receive.proofs.receiving.note_confirm.Goals as goal

pub returns-clause-noted : goal.returns-clause-noted
returns-clause-noted g c =
    subst (λ (l : List Note). EntersAll (at g.S.Held.seen c.args.place.now) (at g.S.Held.seen c.note_where.new.place) (note_entries c.args.user.now l) c.note_where.result) c.due_confirm-note.ensures c.note_where.ensures.noted
