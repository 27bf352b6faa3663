use Rattle.std.proofs.Common.{◌≡◌, ◌<◌, ◌≤◌, ◌++◌, length, take, drop, set, sym, ap, ◌∙◌, subst}
use Rattle.std.proofs.lemmas.List.{get_or-set_same}
use Rattle.sr_mail.specs.Inboxes.{Gathered}
use Rattle.sr_mail.specs.Seen.{window_of}
use Rattle.sr_mail.specs.Inner.Shelves.{AreInOrder, EndBy, IsReady, StandsFirst, added}
use Rattle.sr_mail.proofs.Shelved.{unchanged_set, stands_within, order-set, ends-set, grows}
use Rattle.sr_mail.proofs.shelf.Shelf.add_at.Goals as goal

pub invariant_of-self : goal.invariant_of-self
invariant_of-self c =
    let gs = c.self.inside.windows.items in
    subst (λ l. AreInOrder l × EndBy c.self.inside.farthest l) (sym (unchanged_set gs c.args.place c.index_mut.result.now c.add.new.self c.index_mut.ensures.value c.in_err-add.ensures.err)) c.self.invariant

pub invariant_of-self-2 : goal.invariant_of-self-2
invariant_of-self-2 c =
    let gs = c.self.inside.windows.items in
    let y = c.index_mut.result.now in
    let x = c.add.new.self in
    let there : StandsFirst (drop c.args.place gs) (window_of c.args.piece) = subst (λ l. StandsFirst (drop c.args.place l) (window_of c.args.piece)) (sym c.self.view_is) c.requires.there in
    let lt : c.args.place < length gs = stands_within gs c.args.place (window_of c.args.piece) there in
    let same : x.window ≡ y.window = ap (λ (g : Gathered). g.window) c.in_ok-add.ensures.ok in
    let now : c.index.result.now ≡ x = c.index.ensures ∙ get_or-set_same gs c.args.place x c.index.result.now lt in
    let ready : IsReady x → x.window.upto ≤ c.farther-self-inside.result = subst (λ (g : Gathered). IsReady g → g.window.upto ≤ c.farther-self-inside.result) now c.farther-self-inside.ensures.ready in (
      order-set gs c.args.place y x lt c.index_mut.ensures.value same c.self.invariant.0,
      ends-set c.self.inside.farthest c.farther-self-inside.result gs c.args.place y x lt c.index_mut.ensures.value c.farther-self-inside.ensures.before ready c.self.invariant.1,
    )

pub returns-clause-ok : goal.returns-clause-ok
returns-clause-ok c =
    let gs = c.self.inside.windows.items in
    let there : StandsFirst (drop c.args.place gs) (window_of c.args.piece) = subst (λ l. StandsFirst (drop c.args.place l) (window_of c.args.piece)) (sym c.self.view_is) c.requires.there in
    subst (λ l. set gs c.args.place c.add.new.self ≡ take c.args.place l ++ added c.args.piece (drop c.args.place l)) c.self.view_is
    (grows gs c.args.place c.args.piece c.index_mut.result.now c.add.new.self (stands_within gs c.args.place (window_of c.args.piece) there) c.index_mut.ensures.value there c.in_ok-add.ensures.ok)
