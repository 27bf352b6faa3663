use Rattle.std.proofs.Common.{ap, ◌∙◌}
use Rattle.sr_mail_cut.proofs.Pouring.{all_left}
use Rattle.sr_mail_cut.proofs.encoded.Encoded.into_bytes.Goals as goal

pub returns : goal.returns
returns c =
    let e = c.self.inside in
    all_left e.room e.full.items e.left.items c.self.invariant (rw (← c.self.view_is) at c.requires) ∙ ap (λ x. x.bytes) c.self.view_is
