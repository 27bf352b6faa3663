use Rattle.std.proofs.Common.{◌+◌, ap, ◌∙◌}
use Rattle.sr_mail.specs.Inner.Shelves.{all_of}
use Rattle.sr_mail.proofs.Shelved.{all_of-insert}
use Rattle.sr_mail.proofs.inbox.part.Goals as goal

pub returns : goal.returns
returns c = c.move_half.ensures ∙ ap all_of c.in-Ok.ensures.items ∙ (rw c.new.ensures (all_of-insert c.args.shelves.now.items (c.args.at + 1)))
