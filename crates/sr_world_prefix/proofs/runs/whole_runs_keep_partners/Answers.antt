use Rattle.sr_world_prefix.proofs.Opened.{agent_kept, script_run_kept, untouched_kept}
use Rattle.sr_world_prefix.proofs.runs.whole_runs_keep_partners.Goals as goal

pub returns : goal.returns
returns c = record {
  untouched = untouched_kept;
  agent = λ user us stored publisher owner es options view new before opened now written written' result told on still database ran.
      agent_kept publisher user owner es us options view new before opened now written written' result told on still database stored ran;
  script = λ user us publisher owner es view new before opened now written written' statements result told on still database ran.
      script_run_kept publisher user owner es us view new before opened now written written' statements result told on still database ran;
}
