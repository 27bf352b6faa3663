use Rattle.std.proofs.Common.{◌++◌, List, ℕ, length, sym, ap, ◌∙◌}
use Rattle.sr_mail_cut.specs.Inner.Encodings.{parted}
use Rattle.sr_mail_cut.proofs.Pouring.{poured_on}
use Rattle.sr_mail_cut.proofs.encoded.pour.Goals as goal

pub fragments-preserved : goal.fragments-preserved
fragments-preserved c =
    let full = c.fragments.full.items in
    let left = c.fragments.left.items in
    let prefix = c.prefix_of-in-fragments.result.0.now in
    let behind = c.prefix_of-in-fragments.result.1.now in
    record {
      parts = c.begin.ensures.parted;
      bytes =
          rw (c.in_ok-begin.ensures.full, c.in_ok-begin.ensures.left)
          (poured_on full left prefix behind ∙ ap (λ (x : List ℕ). parted full left ++ x) (sym c.prefix_of-in-fragments.ensures.whole) ∙ c.fragments.invariant.bytes);
      filled = λ more. ap length c.in_ok-begin.ensures.left ∙ c.prefix_of-in-fragments.ensures.full more;
    }
