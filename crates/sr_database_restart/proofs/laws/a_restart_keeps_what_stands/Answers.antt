use Rattle.sr_database_restart.proofs.Standing.{both, keeps_standing, new, stands}
use Rattle.sr_database_restart.proofs.laws.a_restart_keeps_what_stands.Goals as goal

pub returns : goal.returns
returns c = record {
  keeps = keeps_standing;
  stands = λ generation publisher es base keep snapshot log before now history settled names went. stands generation publisher es base keep snapshot log before history settled names now went;
  both = λ generation publisher es base keep snapshot log before middle now history settled names rests. both generation publisher es base keep snapshot log before history settled names middle now rests;
  new = new;
}
