use Rattle.std.proofs.Common.{◌-◌}
use Rattle.sr_database_replay.proofs.Stopped.{IsStopping}
use Rattle.sr_database_replay.proofs.stopping.replay_up_to.Given as goal

abbrev pub invariant-entries : goal.invariant-entries
invariant-entries g l = IsStopping l.log l.fn.replay.catalog l.replay.catalog l.fn.replay.rows l.replay.rows l.fn.replay.books l.replay.books l.base l.position l.keep l.size (g.S.Held.seen l.fn.site) (g.S.Held.seen l.site)

abbrev pub decreases-entries : goal.decreases-entries
decreases-entries g l = l.keep - l.position
