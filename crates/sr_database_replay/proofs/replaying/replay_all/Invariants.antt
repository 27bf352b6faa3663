use Rattle.std.proofs.Common.{◌-◌, ◌^◌}
use Rattle.sr_database_replay.proofs.Looped.{IsReading}
use Rattle.sr_database_replay.proofs.replaying.replay_all.Given as goal

abbrev pub invariant-entries : goal.invariant-entries
invariant-entries g l = IsReading l.log l.fn.replay.catalog l.replay.catalog l.fn.replay.rows l.replay.rows l.fn.replay.books l.replay.books l.base l.position l.size (g.S.Held.seen l.fn.site) (g.S.Held.seen l.site)

abbrev pub decreases-entries : goal.decreases-entries
decreases-entries g l = 2 ^ 62 - l.position
