use Rattle.std.proofs.Common.{◌≤◌, ◌<◌}
use Rattle.sr_mail.specs.Inner.Shelves.{all_of, IsFirstPast}
use Rattle.sr_mail.proofs.Shelved.{leading, none_leading, later_leading}
use Rattle.sr_mail.proofs.inbox.Inbox.leading_from.Goals as goal

pub returns-then-window-received-clause-found : goal.returns-then-window-received-clause-found
returns-then-window-received-clause-found c =
    let first : IsFirstPast c.args.received (all_of c.self.inside.shelves.items) c.in-Some.held.now = rw c.as_slice.ensures.value at c.in-Some.ensures.first in
    let begins : c.in-Some.held.now.window.prev ≤ c.args.received = rw c.window.ensures at c.if-window-received.true in
    rw (← c.self.view_is) (leading (all_of c.self.inside.shelves.items) c.self.inside.farthest c.args.received c.in-Some.held.now c.self.invariant first begins)

pub returns-else-window-received-clause-none : goal.returns-else-window-received-clause-none
returns-else-window-received-clause-none c =
    let first : IsFirstPast c.args.received (all_of c.self.inside.shelves.items) c.in-Some.held.now = rw c.as_slice.ensures.value at c.in-Some.ensures.first in
    let later : c.args.received < c.in-Some.held.now.window.prev = rw c.window.ensures at c.if-window-received.false in
    rw (← c.self.view_is) (later_leading (all_of c.self.inside.shelves.items) c.self.inside.farthest c.args.received c.in-Some.held.now c.self.invariant first later)

pub returns-in-None-clause-none : goal.returns-in-None-clause-none
returns-in-None-clause-none c =
    rw (← c.self.view_is) (none_leading (all_of c.self.inside.shelves.items) c.self.inside.farthest c.args.received c.self.invariant (rw c.as_slice.ensures.value at c.in-None.ensures.none))
