use Rattle.std.proofs.Common.{◌<◌, ◌==◌, length, ap, ◌∙◌}
use Rattle.sr_mail_cut.proofs.Pouring.{several_parts, some_there}
use Rattle.sr_mail_cut.proofs.encoded.Encoded.is_one.Goals as goal

pub returns-clause-several : goal.returns-clause-several
returns-clause-several c = λ no.
    let full = c.self.inside.full in
    let some : 0 < length full.items = some_there full.items c.is_empty.result (c.is_empty.ensures ∙ ap (λ n. n == 0) full.ok.0) no in
    rw (← c.self.view_is) (several_parts c.self.inside.room full.items c.self.inside.left.items c.self.invariant some)
