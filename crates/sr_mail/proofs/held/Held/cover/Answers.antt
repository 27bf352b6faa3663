use Rattle.std.proofs.Common.{◌≡◌}
use Rattle.std.specs.List.{Contains}
use Rattle.sr_mail.specs.Seen.{window_of}
use Rattle.sr_mail_cut.proofs.Lists.{if_ok_map, AllByRecursion-map}
use Rattle.sr_mail.proofs.Spanning.{All-at}
use Rattle.sr_mail.proofs.held.Held.cover.Goals as goal

pub returns-clause-own : goal.returns-clause-own
returns-clause-own c =
    let ps = c.self.inside.pieces.items in
    rw (← c.self.view_is) (if_ok_map c.choose.result (λ chosen h.
    AllByRecursion-map (Contains ps) (λ p. (window_of p ≡ c.self.inside.window) × Contains ps p) chosen.items (λ p k. (All-at (λ q. window_of q ≡ c.self.inside.window) ps p c.self.invariant.own k, k)) h)
    (rw c.as_slice.ensures.value at c.choose.ensures.own))
