use Rattle.sr_resolve.proofs.Sound.{judged_fits, judged_done, judged_meant, judged_stands, judged_differ}
use Rattle.sr_resolve.proofs.laws.judged_outcomes_fit.Goals as goal

pub returns : goal.returns
returns c = record {
  fit = judged_fits;
  done = judged_done;
  meant = judged_meant;
  stands = judged_stands;
  differ = judged_differ;
}
