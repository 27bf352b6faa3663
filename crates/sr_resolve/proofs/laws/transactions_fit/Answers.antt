use Rattle.sr_resolve.proofs.Fold.{ops_asked, all_fit, entry_fits, entry_meant}
use Rattle.sr_resolve.proofs.laws.transactions_fit.Goals as goal

pub returns : goal.returns
returns c = record {
  ops = ops_asked;
  fit = all_fit;
  entry = entry_fits;
  meant = entry_meant;
}
