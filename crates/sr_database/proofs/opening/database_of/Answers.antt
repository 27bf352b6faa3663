use Rattle.std.proofs.Common.{ap}
use Rattle.sr_logfile.specs.Log.{Log}
use Rattle.sr_database.proofs.Reopened.{replayed_sound}
use Rattle.sr_database.proofs.opening.database_of.Goals as goal

pub invariant_of-result : goal.invariant_of-result
invariant_of-result c usable =
    replayed_sound c.args.replay.catalog c.args.base_catalog c.args.replay.rows c.new.result.items c.args.replay.books c.at.result c.args.base c.args.end c.new.ensures.items
    (ap (λ (l : Log). l.base) c.at.ensures) (ap (λ (l : Log). l.end) c.at.ensures) c.requires.replayed
