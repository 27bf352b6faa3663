use Rattle.sr_send_needs.proofs.Keeping.{least_keeps, least_kept, sent_all, unsent_all}
use Rattle.sr_send_needs.proofs.laws.what_is_needed_is_kept.Goals as goal

pub returns-clause-least : goal.returns-clause-least
returns-clause-least c = least_keeps

pub returns-clause-up_to : goal.returns-clause-up_to
returns-clause-up_to c = least_kept

pub returns-clause-sent : goal.returns-clause-sent
returns-clause-sent c = sent_all

pub returns-clause-unsent : goal.returns-clause-unsent
returns-clause-unsent c = unsent_all
