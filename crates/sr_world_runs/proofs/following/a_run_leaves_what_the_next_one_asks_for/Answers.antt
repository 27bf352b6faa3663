use Rattle.sr_world_runs.proofs.NextRuns.{files_known, good_there, messages_there, named_there, new_rests, others_step, put_known, rests_last, rests_on, spelled_known}
use Rattle.sr_site.specs.Images.{IsImage}
use Rattle.sr_world_runs.proofs.following.a_run_leaves_what_the_next_one_asks_for.Goals as goal

pub returns : goal.returns
returns c = record {
  new = new_rests;
  good = λ run. good_there run.world run.owner run.put_files run.first run.moment run.rest;
  named = λ run. named_there run.world run.owner run.put_files run.first run.moment run.rest;
  messages = λ run. messages_there run.world run.owner run.put_files run.first run.moment run.rest;
  rests = λ run. rests_on run.world run.owner run.put_files run.first run.moment run.rest;
  last = rests_last;
  others = λ w owner act seen apart rests. others_step w owner act (IsImage seen) apart rests;
  known = spelled_known;
  put = λ run. put_known run.world run.owner run.put_files run.first run.moment run.rest;
  files = λ run. files_known run.world run.owner run.put_files run.first run.moment run.rest;
}
