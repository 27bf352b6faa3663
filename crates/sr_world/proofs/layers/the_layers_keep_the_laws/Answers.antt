use Rattle.sr_world.proofs.Keeping.{real_laws, real_grants, stored_of, given_same, end_same, state_same}
use Rattle.sr_world.proofs.layers.the_layers_keep_the_laws.Goals as goal

pub returns : goal.returns
returns c = record {
  laws = real_laws;
  grants = real_grants;
  stored = stored_of;
  given = given_same;
  end = end_same;
  state = state_same;
}
