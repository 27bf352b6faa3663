use Rattle.sr_world_prefix.proofs.Opened.{run_kept}
use Rattle.sr_world_prefix.proofs.beginnings.a_run_keeps_partners_in_step.Goals as goal

pub returns : goal.returns
returns c = record {
  did = λ user us old stored publisher es options base new before now written written' lines result did told database none partners.
      run_kept publisher user es us options base old new before now written written' lines result told database stored partners none did;
}
