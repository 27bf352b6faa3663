use Rattle.std.proofs.Common.{rules}
use Rattle.sr_parse.proofs.creating.is_taken.Goals as goal

pub returns-in-None-clause-absent : goal.returns-in-None-clause-absent
returns-in-None-clause-absent c = λ is name rest h. absurd (c.next_name.ensures.absent (search rules) name rest h)
