use Rattle.sr_resolve.proofs.Local.{alike}
use Rattle.sr_resolve.proofs.laws.judging_from_above_is_local.Goals as goal

pub returns : goal.returns
returns c = record {
  alike = alike;
}
