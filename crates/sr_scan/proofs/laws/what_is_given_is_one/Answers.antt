use Rattle.sr_scan.proofs.Meant.{meant_is, given_once}
use Rattle.sr_scan.proofs.laws.what_is_given_is_one.Goals as goal

pub returns : goal.returns
returns c = record { meant = meant_is; once = given_once }
