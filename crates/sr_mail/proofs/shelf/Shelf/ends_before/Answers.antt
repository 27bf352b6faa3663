use Rattle.std.proofs.Common.{◌≡◌, ◌-◌, true, Some, length, sym, ap, ◌∙◌, arith}
use Rattle.std.specs.Prelude.{slice_get}
use Rattle.sr_mail.specs.Inner.Shelves.{is_before}
use Rattle.sr_mail.proofs.Shelved.{last_before, some_get}
use Rattle.sr_mail.proofs.shelf.Shelf.ends_before.Goals as goal

pub returns-in-Some-clause-all : goal.returns-in-Some-clause-all
returns-in-Some-clause-all c = λ e.
    let gs = c.self.inside.windows.items in
    let at : Some c.in-Some.held.now ≡ slice_get gs (length gs - 1) = rw c.as_slice.ensures.value at c.in-Some.ensures.value in
    let size = some_get gs (length gs - 1) c.in-Some.held.now at in
    let before : is_before c.in-Some.held.now.window c.args.window ≡ true = ap (λ w. is_before w c.args.window) (sym c.window.ensures) ∙ sym c.is_before.ensures ∙ e in
    rw (← c.self.view_is) (last_before gs (length gs - 1) c.in-Some.held.now c.args.window c.self.invariant.0 (omega (arith, size)) at before)
