use Rattle.std.proofs.Common.{ℕ, ◌≤◌, List, length, sym, subst}
use Rattle.sr_base.specs.Values.{offset_from}
use Rattle.sr_database.specs.Commits.{IsLong}
use Rattle.sr_logform.specs.declared.entry.Entry.{Entry}
use Rattle.sr_send.proofs.NoteEnds.{note_short}
use Rattle.sr_send.proofs.noting.note_entry.Goals as goal

pub returns-clause-short : goal.returns-clause-short
returns-clause-short c =
    subst (λ (e : Entry). ¬ (IsLong e)) (sym c.in_ok-entry.ensures.entry)
    (note_short c.args.user.now c.args.sent.end (offset_from c.args.confirm) c.args.sent.put
    (subst (λ (name : List ℕ). length name ≤ 64) c.bytes-user.ensures.bytes c.bytes-user.ensures.short))
