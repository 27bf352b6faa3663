use Rattle.std.proofs.Common.{sym, ap, ◌∙◌}
use Rattle.std.specs.Option.{option_copied}
use Rattle.sr_send.specs.PutFiles.{address_of}
use Rattle.sr_send.proofs.heading.address_of.Goals as goal

pub returns : goal.returns
returns c = record { address = c.in_ok-copy.ensures.equal ∙ ap (λ o. address_of (option_copied o)) (sym c.in-Some.is) ∙ ap address_of c.user.ensures.user }
