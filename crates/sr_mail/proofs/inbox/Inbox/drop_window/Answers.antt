use Rattle.std.proofs.Common.{◌≡◌, ◌<◌, ◌+◌, length, take, drop, set, sym, subst}
use Rattle.sr_mail.specs.declared.window.Window.{Window}
use Rattle.sr_mail.specs.Inner.Shelves.{AllBefore, AllBehind, all_of, without, IsInbox}
use Rattle.sr_mail.proofs.Shelved.{dropped_on, inbox-without, drops_shown}
use Rattle.sr_mail.proofs.inbox.Inbox.drop_window.Goals as goal

pub invariant_of-self : goal.invariant_of-self
invariant_of-self c =
    let v : Window = record { prev = c.args.prev.0; upto = c.args.upto.0; total = c.args.total } in
    let shelves = c.self.inside.shelves.items in
    let at = c.shelf_of-at.result in
    let within : at < length shelves = rw c.as_slice.ensures.value at c.shelf_of-at.ensures.within in
    let before : AllBefore (all_of (take at shelves)) v = rw c.as_slice.ensures.value at c.shelf_of-at.ensures.before in
    let behind : AllBehind (all_of (drop (at + 1) shelves)) v = (rw c.as_slice.ensures.value at c.shelf_of-at.ensures.behind) c.self.invariant.order in
    let made : all_of (set shelves at c.drop_window.new.self) ≡ without v (all_of shelves) = dropped_on shelves at c.index_mut.result.now c.drop_window.new.self v within c.index_mut.ensures.value before behind c.drop_window.ensures in
    subst (λ l. IsInbox l c.self.inside.farthest) (sym made) (inbox-without c.self.inside.farthest v (all_of shelves) c.self.invariant)

pub returns-clause-pieces : goal.returns-clause-pieces
returns-clause-pieces c =
    let v : Window = record { prev = c.args.prev.0; upto = c.args.upto.0; total = c.args.total } in
    let shelves = c.self.inside.shelves.items in
    let at = c.shelf_of-at.result in
    let within : at < length shelves = rw c.as_slice.ensures.value at c.shelf_of-at.ensures.within in
    let before : AllBefore (all_of (take at shelves)) v = rw c.as_slice.ensures.value at c.shelf_of-at.ensures.before in
    let behind : AllBehind (all_of (drop (at + 1) shelves)) v = (rw c.as_slice.ensures.value at c.shelf_of-at.ensures.behind) c.self.invariant.order in
    let made : all_of (set shelves at c.drop_window.new.self) ≡ without v (all_of shelves) = dropped_on shelves at c.index_mut.result.now c.drop_window.new.self v within c.index_mut.ensures.value before behind c.drop_window.ensures in
    λ w. (drops_shown c.args.self.now (all_of shelves) (all_of (set shelves at c.drop_window.new.self)) v c.self.view_is c.self.invariant.filled made w).0

pub returns-clause-dropped : goal.returns-clause-dropped
returns-clause-dropped c =
    let v : Window = record { prev = c.args.prev.0; upto = c.args.upto.0; total = c.args.total } in
    let shelves = c.self.inside.shelves.items in
    let at = c.shelf_of-at.result in
    let within : at < length shelves = rw c.as_slice.ensures.value at c.shelf_of-at.ensures.within in
    let before : AllBefore (all_of (take at shelves)) v = rw c.as_slice.ensures.value at c.shelf_of-at.ensures.before in
    let behind : AllBehind (all_of (drop (at + 1) shelves)) v = (rw c.as_slice.ensures.value at c.shelf_of-at.ensures.behind) c.self.invariant.order in
    let made : all_of (set shelves at c.drop_window.new.self) ≡ without v (all_of shelves) = dropped_on shelves at c.index_mut.result.now c.drop_window.new.self v within c.index_mut.ensures.value before behind c.drop_window.ensures in
    λ w. (drops_shown c.args.self.now (all_of shelves) (all_of (set shelves at c.drop_window.new.self)) v c.self.view_is c.self.invariant.filled made w).1
