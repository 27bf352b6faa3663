use Rattle.sr_world_prefix.proofs.OwnActs.{script_kept}
use Rattle.sr_world_prefix.proofs.scripts.a_script_keeps_partners_in_step.Goals as goal

pub returns : goal.returns
returns c = record {
  ran = λ user us publisher es old new before now written written' statements result told database ran partners.
      script_kept publisher user es us old new before now written written' statements result told database partners ran;
}
