use Rattle.std.proofs.Common.{refl}
use Rattle.sr_send.proofs.Heads.{made_none}
use Rattle.sr_send.proofs.heading.begin.Goals as goal

pub returns-clause-made : goal.returns-clause-made
returns-clause-made c = made_none c.args.aim.now _ c.in_ok-cutter.ensures.made c.in_ok-cutter.ensures.begins refl refl
