use Rattle.sr_send_needs.proofs.Places.{least_is_end, least_from_base, least_to_end}
use Rattle.sr_send_needs.proofs.laws.a_need_is_an_end.Goals as goal

pub returns-clause-end : goal.returns-clause-end
returns-clause-end c = least_is_end

pub returns-clause-from_base : goal.returns-clause-from_base
returns-clause-from_base c = least_from_base

pub returns-clause-within : goal.returns-clause-within
returns-clause-within c = least_to_end
