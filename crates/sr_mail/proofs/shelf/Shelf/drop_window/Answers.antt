use Rattle.std.proofs.Common.{take, drop, ◌∙◌, subst}
use Rattle.std.proofs.lemmas.Bool.{iff_false}
use Rattle.sr_mail.specs.Inner.Shelves.{AllBefore, BeginsBehind, AreInOrder}
use Rattle.sr_mail.proofs.Shelved.{drops_at, drops_none}
use Rattle.sr_mail.proofs.shelf.Shelf.drop_window.Goals as goal

pub returns-then-has_at : goal.returns-then-has_at
returns-then-has_at c =
    let before : AllBefore (take c.place_of-place.result c.args.self.now) c.args.window = rw (c.as_slice.ensures.value, c.self.view_is) at c.place_of-place.ensures.before in
    c.drop_at.ensures ∙ drops_at c.args.self.now c.place_of-place.result c.args.window before (c.has_at.ensures.0 c.if-has_at.true)

pub returns-else-has_at : goal.returns-else-has_at
returns-else-has_at c =
    let before : AllBefore (take c.place_of-place.result c.args.self.now) c.args.window = rw (c.as_slice.ensures.value, c.self.view_is) at c.place_of-place.ensures.before in
    let behind : BeginsBehind (drop c.place_of-place.result c.args.self.now) c.args.window = rw (c.as_slice.ensures.value, c.self.view_is) at c.place_of-place.ensures.behind in
    drops_none c.args.self.now c.place_of-place.result c.args.window (subst AreInOrder c.self.view_is c.self.invariant.0) before behind (λ first. iff_false c.has_at.ensures c.if-has_at.false first)
