use Rattle.std.proofs.Common.{sym}
use Rattle.sr_exec_fits.proofs.Kinded.{text_in_text}
use Rattle.sr_exec_fits.proofs.fitting.is_text_kept.Goals as goal

pub returns : goal.returns
returns c = let e = text_in_text c.args.text.now c.args.limit in cc
