use Rattle.sr_world_prefix.proofs.Silent.{any_run_backs, good_run_backs}
use Rattle.sr_world_prefix.proofs.letters.what_a_run_puts_is_true.Goals as goal

pub returns : goal.returns
returns c = record {
  whole = λ publisher es options base new before now written written' lines result did within unsent good.
      good_run_backs publisher es options base new before now written written' lines result (record { within = within; keeps = unsent }) good did;
  in_part = λ publisher es options base new before now written written' lines result did within unsent.
      any_run_backs publisher es options base new before now written written' lines result (record { within = within; keeps = unsent }) did;
}
