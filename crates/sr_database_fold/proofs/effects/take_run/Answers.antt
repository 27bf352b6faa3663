use Rattle.sr_database_fold.proofs.Behind.{run_behind}
use Rattle.sr_database_fold.proofs.effects.take_run.Goals as goal

pub returns-in-Ok-clause-ok : goal.returns-in-Ok-clause-ok
returns-in-Ok-clause-ok c =
    run_behind c.args.catalog.now c.args.rows.now c.apply-2.new.self c.apply.new.rows c.mark.new.self c.drop_rows.new.rows c.args.changes.now c.args.stmt.now
    c.in_ok-apply.ensures.rows c.mark.ensures.rows c.drop_rows.ensures.rows c.in-Ok.ensures.ok
