use Rattle.sr_resolve.proofs.Fold.{all_judged, only_judged, same_state, same_next, one_more}
use Rattle.sr_resolve.proofs.laws.stored_outcomes_agree.Goals as goal

pub returns : goal.returns
returns c = record {
  judged = all_judged;
  only = only_judged;
  state = same_state;
  next = same_next;
  one_more = one_more;
}
