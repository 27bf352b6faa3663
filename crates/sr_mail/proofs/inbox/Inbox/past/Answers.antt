use Rattle.std.proofs.Common.{arith}
use Rattle.sr_mail.specs.Inner.Shelves.{all_of}
use Rattle.sr_mail.proofs.Shelved.{seen_first, seen_ends}
use Rattle.sr_mail.proofs.inbox.Inbox.past.Goals as goal

pub returns-then-taken-self-clause-found : goal.returns-then-taken-self-clause-found
returns-then-taken-self-clause-found c =
    rw (← c.self.view_is) (c.if-taken-self.true, seen_first (all_of c.self.inside.shelves.items) c.self.inside.farthest c.self.invariant (omega (arith, c.if-taken-self.true)))

pub returns-clause-none : goal.returns-clause-none
returns-clause-none c = rw (← c.self.view_is) (λ w seen. omega (arith, c.if-taken-self.false, seen_ends (all_of c.self.inside.shelves.items) c.self.inside.farthest w c.self.invariant seen))
