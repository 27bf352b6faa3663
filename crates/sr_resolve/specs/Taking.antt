-- The ops of a transaction, judged one after the other, each on the state that the one before has left.
use Rattle.std.specs.Prelude.{◌≡◌, ⊤, Bool, List, [], ◌∷◌, Option, Some, None}
use Rattle.sr_ast.specs.declared.stmt.Stmt.{Stmt}
use Rattle.sr_book.specs.Entries.{Name}
use Rattle.sr_database_history.specs.Folds.{State, after_done}
use Rattle.sr_database_history.specs.Recorded.{Done, plain, ran, conflict, clash, done_of}
use Rattle.sr_logform.specs.declared.change.Change.{Change}
use Rattle.sr_logform.specs.declared.op.Op.{Op}
use Rattle.sr_logform.specs.declared.outcome.Outcome.{Outcome}
use Rattle.sr_logform.specs.declared.outcome.Outcome.TheVariants.{Plain, Conflict, Clash}
use Rattle.sr_catalog_schema.specs.Members.{user_name}
use Rattle.sr_catalog_schema.specs.Names.{named}
use Rattle.sr_catalog_ddl.specs.Users.{stands_above}
use Rattle.sr_resolve.specs.Judging.{judged, IsStatementOf}

-- ---- one op

-- what was done with an op whose outcome is plain
abbrev pub plainly : Op → Option Stmt → List Change → Done
plainly o None changes = plain o changes
plainly o (Some s) changes = ran s changes

-- what was done with an op, by its outcome
abbrev pub done_by : Op → Option Stmt → Outcome → Done
done_by o statement (Plain changes) = plainly o statement changes
done_by o statement (Conflict inserts before after) = conflict o inserts before after
done_by o statement (Clash why) = clash o why

-- what is done with an op in a state, by who sent it
unfoldable pub done_judged : State → Bool → Op → Option Stmt → Done
done_judged s above o statement = done_by o statement (judged s.catalog s.rows above o statement)

-- ---- stored outcomes

-- the op of what was done
abbrev pub op_of : Done → Op
op_of d = (done_of d).0

-- what was done is what judging does in the state
pub record IsDoneJudged (s : State) (above : Bool) (d : Done) : Type 0 where
  pub statement : Option Stmt
  pub carried : IsStatementOf statement (op_of d)
  pub done_is : d ≡ done_judged s above (op_of d) statement

-- the outcomes of a transaction are the judged ones, each in the state that those before it have left
abbrev pub AreJudged : State → Bool → List Done → Type 0
AreJudged s above [] = ⊤
AreJudged s above (d ∷ dones) = IsDoneJudged s above d × AreJudged (after_done d s) above dones

-- ---- who sent it

-- whether what a user sends came from above
abbrev pub is_above : State → Name → Bool
is_above s user = stands_above (named user_name user s.catalog.users)
