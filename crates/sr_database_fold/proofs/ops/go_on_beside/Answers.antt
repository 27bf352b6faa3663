use Rattle.std.proofs.Common.{sym, ◌∙◌}
use Rattle.std.proofs.lemmas.Bool.{false≢true}
use Rattle.sr_database_fold.proofs.Told.{beside_not, beside_ok}
use Rattle.sr_database_fold.proofs.ops.go_on_beside.Goals as goal

pub returns-then-not-may_have_changes-clause-told : goal.returns-then-not-may_have_changes-clause-told
returns-then-not-may_have_changes-clause-told c = λ text is.
    beside_not _ _ text c.args.changes.now c.args.stmt.now is (λ m. false≢true (sym c.if-not-may_have_changes.true ∙ c.may_have_changes.ensures.may.1 m))

pub returns-clause-told : goal.returns-clause-told
returns-clause-told c = λ text is.
    beside_ok _ _ text c.args.changes.now c.args.stmt.now c.go_on_both.result is (c.may_have_changes.ensures.may.0 c.if-not-may_have_changes.false) (c.go_on_both.ensures.told text is)
