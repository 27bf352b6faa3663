use Rattle.sr_database_fold.proofs.Told.{statement_unfit}
use Rattle.sr_database_fold.proofs.going.go_on_statement.Goals as goal

pub do_statement-requires-clause-accepted : goal.do_statement-requires-clause-accepted
do_statement-requires-clause-accepted c = (c.in_ok-accepts.ensures.accepted.0 c.if-not-branch.false).catalog

pub returns-then-not-branch-clause-told : goal.returns-then-not-branch-clause-told
returns-then-not-branch-clause-told c =
    statement_unfit c.args.catalog.now c.args.rows.now c.args.catalog.now c.args.rows.now c.args.stmt.now
    (λ is. let accepted = c.in_ok-accepts.ensures.accepted.1 is in cc)
