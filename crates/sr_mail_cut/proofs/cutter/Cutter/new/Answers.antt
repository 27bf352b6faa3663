use Rattle.sr_mail_cut.proofs.Giving.{begins}
use Rattle.sr_mail_cut.proofs.cutter.Cutter.new.Goals as goal

pub returns-clause-begins : goal.returns-clause-begins
returns-clause-begins c = rw c.new.ensures.items (begins c.in_ok-copy.field-0 c.args.length c.args.prev)
