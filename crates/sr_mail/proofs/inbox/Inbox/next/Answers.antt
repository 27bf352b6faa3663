use Rattle.std.proofs.Common.{◌≡◌, sym, subst}
use Rattle.std.specs.List.{AllByRecursion, Contains}
use Rattle.sr_mail.specs.Seen.{window_of}
use Rattle.sr_mail.proofs.inbox.Inbox.next.Goals as goal

pub returns-in_ok-cover-in-Some-clause-found : goal.returns-in_ok-cover-in-Some-clause-found
returns-in_ok-cover-in-Some-clause-found c =
    let g = c.in-Some.held.now in
    let lead = c.in-Some.ensures.found in
    let chosen = c.in_ok-cover-in-Some.field-0.items in
    record {
      window = g.window;
      whole = lead.whole;
      leads = lead.leads;
      least = lead.least;
      own = subst (λ ps. AllByRecursion (λ p. (window_of p ≡ g.window) × Contains ps p) chosen) (sym lead.pieces) c.in_ok-cover-in-Some.ensures.own;
      filled = c.in_ok-cover-in-Some.ensures.some;
      covered = c.in_ok-cover-in-Some.ensures.covered;
    }
