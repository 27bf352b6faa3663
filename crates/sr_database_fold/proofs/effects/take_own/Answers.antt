use Rattle.sr_database_fold.proofs.Behind.{own_reached}
use Rattle.sr_database_fold.proofs.effects.take_own.Goals as goal

pub returns-clause-effect : goal.returns-clause-effect
returns-clause-effect c =
    own_reached c.args.catalog.now c.args.rows.now c.apply.new.rows c.mark.new.self c.args.changes.now c.in_ok-apply.ensures.rows c.mark.ensures.rows
