use Rattle.std.proofs.Common.{◌≡◌, ◌+◌, ◌*◌, length, sym, ap, ap₂, ◌∙◌}
use Rattle.sr_mail_cut.proofs.Pouring.{parted_size}
use Rattle.sr_mail_cut.proofs.encoded.Encoded.size.Goals as goal

pub returns-in-Some-checked_add : goal.returns-in-Some-checked_add
returns-in-Some-checked_add c =
    let e = c.self.inside in
    let fragments : c.len.result ≡ length e.full.items = c.len.ensures ∙ e.full.ok.0 in
    let left : c.len-2.result ≡ length e.left.items = c.len-2.ensures ∙ e.left.ok.0 in
    c.in-Some-checked_add.ensures.1 ∙ ap (λ n. n + c.len-2.result) c.in-Some.ensures.1 ∙ ap₂ (λ m n. m * e.room + n) fragments left
    ∙ sym (parted_size e.room e.full.items e.left.items c.self.invariant) ∙ ap (λ x. length x.bytes) c.self.view_is
