use Rattle.sr_send_needs.proofs.Keeping.{first_keeps, first_unsent, needs_more, unsent_more}
use Rattle.sr_send_needs.proofs.laws.needs_go_on.Goals as goal

pub returns-clause-first : goal.returns-clause-first
returns-clause-first c = first_keeps

pub returns-clause-one_more : goal.returns-clause-one_more
returns-clause-one_more c = needs_more

pub returns-clause-first_unsent : goal.returns-clause-first_unsent
returns-clause-first_unsent c = first_unsent

pub returns-clause-one_more_unsent : goal.returns-clause-one_more_unsent
returns-clause-one_more_unsent c = unsent_more
