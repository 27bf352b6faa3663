use Rattle.std.proofs.Common.{ℕ, refl, subst}
use Rattle.sr_mail_cut.specs.Cuts.{AreFragments}
use Rattle.sr_mail_cut.proofs.cutter.Cutter.send.Goals as goal

pub returns-clause-messages : goal.returns-clause-messages
returns-clause-messages c =
    let s = c.args.self.now in
    let fragments = c.in_ok-fragments.fragments.items in
    let parts : AreFragments s.head s.limit fragments = subst (λ (n : ℕ). AreFragments s.head n fragments) c.requires.room (c.in_ok-fragments.ensures.parts s.head) in
    (fragments, parts, c.in_ok-fragments.ensures.whole, rw (c.in_ok-add_messages.ensures, c.in_ok-add_held.ensures, c.new-messages.ensures.items, ← c.self.view_is) refl)
