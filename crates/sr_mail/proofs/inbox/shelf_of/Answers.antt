use Rattle.sr_mail.proofs.Shelved.{behind_shelf}
use Rattle.sr_mail.proofs.inbox.shelf_of.Goals as goal

pub returns-then-not-ends_before-clause-behind : goal.returns-then-not-ends_before-clause-behind
returns-then-not-ends_before-clause-behind c = λ order.
    behind_shelf c.args.shelves.now c.shelves.at c.index-shelves-at.result c.args.window c.shelves.invariant.within c.index-shelves-at.is order (c.ends_before.ensures.not_all c.if-not-ends_before.true)
