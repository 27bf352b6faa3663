use Rattle.sr_mail_cut.proofs.Filling.{concat-more}
use Rattle.sr_mail_cut.proofs.Pouring.{parts_are_fragments}
use Rattle.sr_mail_cut.proofs.encoded.Encoded.into_fragments.Goals as goal

pub returns-clause-parts : goal.returns-clause-parts
returns-clause-parts c = λ head.
    let e = c.self.inside in
    rw (c.in_ok-push.ensures.items, c.from_vec.ensures.items, ← c.self.view_is)
    (parts_are_fragments head e.room e.full.items e.left.items c.self.invariant (rw (← c.self.view_is) at c.requires))

pub returns-clause-whole : goal.returns-clause-whole
returns-clause-whole c =
    let e = c.self.inside in
    rw (c.in_ok-push.ensures.items, c.from_vec.ensures.items, ← c.self.view_is) (concat-more e.full.items e.left.items)
