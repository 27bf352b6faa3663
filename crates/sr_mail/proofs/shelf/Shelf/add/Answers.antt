use Rattle.std.proofs.Common.{take, ◌∙◌}
use Rattle.std.proofs.lemmas.Result.{on_ok_weaker}
use Rattle.sr_mail.specs.Seen.{window_of}
use Rattle.sr_mail.specs.Inner.Shelves.{AllBefore}
use Rattle.sr_mail.proofs.Shelved.{adds_at}
use Rattle.sr_mail.proofs.shelf.Shelf.add.Goals as goal

pub returns-then-has_at-clause-ok : goal.returns-then-has_at-clause-ok
returns-then-has_at-clause-ok c =
    let before : AllBefore (take c.place_of-place.result c.args.self.now) (window_of c.args.piece) = rw (c.as_slice.ensures.value, c.self.view_is, c.window-window.ensures) at c.place_of-place.ensures.before in
    on_ok_weaker c.add_at.result (λ e. e ∙ adds_at c.args.self.now c.place_of-place.result c.args.piece before) c.add_at.ensures.ok

pub returns-else-has_at-clause-ok : goal.returns-else-has_at-clause-ok
returns-else-has_at-clause-ok c =
    let before : AllBefore (take c.place_of-place.result c.args.self.now) (window_of c.args.piece) = rw (c.as_slice.ensures.value, c.self.view_is, c.window-window.ensures) at c.place_of-place.ensures.before in
    on_ok_weaker c.insert_at.result (λ e. e ∙ adds_at c.args.self.now c.place_of-place.result c.args.piece before) c.insert_at.ensures.ok
