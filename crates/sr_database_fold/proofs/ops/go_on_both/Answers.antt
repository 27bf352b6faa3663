use Rattle.std.proofs.Common.{sym, ◌∙◌}
use Rattle.std.proofs.lemmas.Bool.{false≢true}
use Rattle.sr_database_fold.proofs.Told.{statement_refused, changes_unfit, ran_here}
use Rattle.sr_database_fold.proofs.ops.go_on_both.Goals as goal

pub returns-then-not-branch-clause-told : goal.returns-then-not-branch-clause-told
returns-then-not-branch-clause-told c = λ text is.
    statement_refused c.args.catalog.now c.args.rows.now c.args.catalog.now c.args.rows.now text c.args.changes.now c.args.stmt.now is
    (λ a. false≢true (sym c.if-not-branch.true ∙ c.in_ok-accepts.ensures.accepted.1 a))

pub returns-then-not-branch-2-clause-told : goal.returns-then-not-branch-2-clause-told
returns-then-not-branch-2-clause-told c = λ text is.
    changes_unfit c.args.catalog.now c.args.rows.now _ c.go_on_changes.new.rows c.go_on_changes.new.rows.rows text c.args.changes.now _ c.if-not-branch-2.true
    c.in_ok-go_on_changes.ensures.told

pub returns-clause-told : goal.returns-clause-told
returns-clause-told c = λ text is.
    ran_here c.args.catalog.now c.args.rows.now _ c.do_statement.new.rows c.go_on_changes.new.rows text c.args.changes.now c.args.stmt.now _ is
    (c.in_ok-accepts.ensures.accepted.0 c.if-not-branch.false) c.if-not-branch-2.false c.in_ok-go_on_changes.ensures.told c.in_ok-do_statement.ensures.ok

pub do_statement-requires-clause-accepted : goal.do_statement-requires-clause-accepted
do_statement-requires-clause-accepted c = (c.in_ok-accepts.ensures.accepted.0 c.if-not-branch.false).catalog
