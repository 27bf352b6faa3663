use Rattle.sr_database_fold.proofs.Behind.{both_behind}
use Rattle.sr_database_fold.proofs.steps.do_both.Goals as goal

pub returns-clause-effect : goal.returns-clause-effect
returns-clause-effect c =
    both_behind c.args.catalog.now c.args.rows.now _ c.apply.new.rows c.empty_dropped.new.rows c.args.changes.now c.args.stmt.now
    c.in_ok-apply.ensures.rows c.in_ok-empty_dropped.ensures.ok c.in_ok-apply-2.ensures.ok
