use Rattle.std.proofs.Common.{sym}
use Rattle.sr_exec_fits.proofs.Kinded.{int_kept}
use Rattle.sr_exec_fits.proofs.fitting.is_int_kept.Goals as goal

pub returns-in-Int : goal.returns-in-Int
returns-in-Int c = let e = int_kept c.args.number c.ranges.number in cc
