use Rattle.std.proofs.Common.{rules, ℕ, sym, subst}
use Rattle.sr_mail.specs.declared.window.Window.{Window}
use Rattle.sr_mail.specs.Inner.Inboxes.{IsWholeWindow}
use Rattle.sr_mail.specs.Reaching.{Leads, IsFar}
use Rattle.sr_mail.proofs.Far.{far_here, far_on}
use Rattle.sr_mail.proofs.inbox.Inbox.far.Goals as goal

pub windows-init : goal.windows-init
windows-init c = λ end h. h

pub windows-preserved : goal.windows-preserved
windows-preserved c = λ end h.
    let found = c.in-Some.ensures.found in
    c.windows.invariant end (far_on (IsWholeWindow c.args.self.now) c.windows.far end found.0 found.1 found.2 (subst (λ (n : ℕ). IsFar (IsWholeWindow c.args.self.now) n end) (sym found.3) h))

pub returns : goal.returns
returns c =
    let none : (w : Window) → IsWholeWindow c.args.self.now w → Leads w c.windows.far → ⊥ = search rules in
    record { far = c.windows.invariant c.windows.far (far_here (IsWholeWindow c.args.self.now) c.windows.far none) }
