use Rattle.std.proofs.Common.{ap, ◌∙◌}
use Rattle.sr_database_replay.proofs.Onward.{found_is}
use Rattle.sr_database_replay.specs.Inner.Stops.{lines_of}
use Rattle.sr_database_replay.proofs.stopping.replay_state.Goals as goal

pub returns-clause-state : goal.returns-clause-state
returns-clause-state c = found_is c.args.replay.catalog c.args.replay.rows c.args.replay.books c.args.keep.0 _ (c.from_vec.ensures.items ∙ c.in_ok-lines.ensures.lines ∙ ap (lines_of c.args.replay.books) c.users.ensures.users)
