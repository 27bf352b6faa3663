use Rattle.std.proofs.lemmas.Bool.{leb-true}
use Rattle.sr_mail.proofs.Looping.{begins}
use Rattle.sr_mail.proofs.reach.Reach.begins_within.Goals as goal

pub returns-in-Some-clause-within : goal.returns-in-Some-clause-within
returns-in-Some-clause-within c = λ e. begins c.args.self.now c.in-Some.start.now c.in-Some.field-0-1.now c.in-Some.ensures.first (leb-true _ _ e)
