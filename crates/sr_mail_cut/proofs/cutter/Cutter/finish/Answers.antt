use Rattle.sr_mail_cut.proofs.Giving.{begins, finishes}
use Rattle.sr_mail_cut.proofs.cutter.Cutter.finish.Goals as goal

pub returns-clause-cut : goal.returns-clause-cut
returns-clause-cut c = λ first pushed before h. rw (c.in_ok-add_held.ensures, c.new-messages.ensures.items) (finishes c.args.self.now first pushed before h)

pub returns-clause-begins : goal.returns-clause-begins
returns-clause-begins c = rw (c.clear.ensures.items, ← c.self.view_is) (begins c.self.inside.head c.self.inside.limit c.self.inside.upto)
