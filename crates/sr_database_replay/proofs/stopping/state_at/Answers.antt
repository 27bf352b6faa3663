use Rattle.sr_database_files.proofs.Quiet.{OnOk-always, read_same}
use Rattle.sr_database_replay.proofs.Onward.{state_there}
use Rattle.sr_database_replay.proofs.Stopped.{memory_stop}
use Rattle.sr_snapshot.specs.Inner.Beginnings.{beginning_in}
use Rattle.sr_database_replay.proofs.stopping.state_at.Goals as goal

pub returns-in_err-replay-clause-read : goal.returns-in_err-replay-clause-read
returns-in_err-replay-clause-read g c = read_same _

pub returns-in-Ok-clause-state : goal.returns-in-Ok-clause-state
returns-in-Ok-clause-state g c =
    state_there c.replay_up_to.new.replay.catalog c.replay_up_to.new.replay.rows c.replay_up_to.new.replay.books c.args.keep.0 (beginning_in c.args.state) c.args.log (g.S.Held.seen c.args.site.now) _
    (c.in-Ok.ensures.stopped (beginning_in c.args.state) c.in_ok-replay.ensures.new) c.replay_state.ensures.state

pub returns-in-Ok-clause-steady : goal.returns-in-Ok-clause-steady
returns-in-Ok-clause-steady g c = OnOk-always _ c.in-Ok.ensures.steady

pub returns-in-Ok-clause-cause : goal.returns-in-Ok-clause-cause
returns-in-Ok-clause-cause g c =
    memory_stop c.args.log (beginning_in c.args.state) c.args.keep.0 (g.S.Held.seen c.args.site.now) (g.S.Held.seen c.replay_up_to.new.site) c.in-Ok.ensures.steady _ c.replay_state.ensures.cause

pub returns-in-Err-clause-cause : goal.returns-in-Err-clause-cause
returns-in-Err-clause-cause g c = c.in-Err.ensures.cause (beginning_in c.args.state) c.in_ok-replay.ensures.new
