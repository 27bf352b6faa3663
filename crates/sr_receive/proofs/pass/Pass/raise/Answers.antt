use Rattle.std.proofs.Common.{ℕ, List, ap, subst, ◌∙◌}
use Rattle.std.specs.Prelude.{map, nat_lt}
use Rattle.sr_book.specs.declared.note.Note.{Note}
use Rattle.sr_database_did.specs.Inner.Did.{Did}
use Rattle.sr_database_did.specs.Inner.Effects.{entered, whole}
use Rattle.sr_database_did.specs.Inner.Places.{at}
use Rattle.sr_receive_gather.specs.Greatest.{raises}
use Rattle.sr_receive_gather.specs.Inner.OneNote.{raised_where}
use Rattle.sr_receive.specs.Passes.{note_entries}
use Rattle.sr_receive.proofs.Noted.{all_then}
use Rattle.sr_receive.proofs.pass.Pass.raise.Goals as goal

pub returns-in-Ok-clause-noted : goal.returns-in-Ok-clause-noted
returns-in-Ok-clause-noted g c =
    let a = at g.S.Held.seen c.args.self.now.place in
    let b = at g.S.Held.seen c.note_where.new.place in
    let user = c.args.self.now.user.now in
    all_then a b (note_entries user (raises c.args.received.0 c.args.files.now)) c.report_gap.result
    (subst (λ (l : List Note). Did a b (map entered (note_entries user l)) whole) (c.due_raise-note.ensures ∙ ap (λ (n : ℕ). raised_where (nat_lt c.args.received.0 n)) c.greatest_upto-upto.ensures) c.in-Ok.ensures.noted)
    c.report_gap.ensures.memory
