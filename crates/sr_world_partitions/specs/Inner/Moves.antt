-- A world of three databases: one that publishes a table by a column, and two below it that each have the rows with one number there.
use Rattle.std.specs.Prelude.{◌≡◌, ℕ, false, List, [], ◌∷◌, take, Option, Some, None, pos}
use Rattle.sr_base.specs.Values.{offset_from}
use Rattle.sr_base.specs.declared.value.Value.{Value as Cell}
use Rattle.sr_base.specs.declared.value.Value.TheVariants.{Int}
use Rattle.sr_ast.specs.declared.create.CreatePublication.{CreatePublication}
use Rattle.sr_ast.specs.declared.create.SubscriptionRule.{SubscriptionRule}
use Rattle.sr_ast.specs.declared.expr.Expr.{Expr}
use Rattle.sr_ast.specs.declared.expr.Expr.TheVariants as expr
use Rattle.sr_ast.specs.declared.stmt.Stmt.TheVariants as stmt
use Rattle.sr_book.specs.Entries.{Name}
use Rattle.sr_database_history.specs.Folds.{state_of}
use Rattle.sr_database_history.specs.Recorded.{Done, plain, Recorded, own, taken, ddl}
use Rattle.sr_database_history.specs.Inner.Sample.{cons, r1, table_t, column_id, column_n, create_t, inserted, grant}
use Rattle.sr_logform.specs.declared.change.Change.{Change}
use Rattle.sr_logform.specs.declared.op.Op.{Op}
use Rattle.sr_logform.specs.declared.op.Op.TheVariants.{Insert, Remove}
use Rattle.sr_world_model.specs.Runs.{WorldRun}
use Rattle.sr_world_model.specs.Inner.Runs.{acts_of_runs}
use Rattle.sr_world_model.specs.Steps.{append, put}
use Rattle.sr_world_model.specs.Worlds.{World, WorldStep, after_all, fresh_world, history}
use Rattle.sr_msgform.specs.declared.message.Message.{Message}
use Rattle.sr_publish.specs.SubscribedTables.{SubscribedTable}
use Rattle.sr_rows.specs.Marks.{rows_of_table}
use Rattle.sr_world_untouched.specs.Inner.Sample.{first_key, whole_table}
use Rattle.sr_world_untouched.specs.Untouched.{IsUntouched}
use Rattle.sr_world.specs.Inner.Sample.{r2, name_p, first_row, updated, windowed}

-- ---- statements

-- the column by which rows are parted
abbrev pub by_n : Expr
by_n = expr.Column None column_n

-- CREATE PUBLICATION p (TABLE t SUBSCRIBE BY n)
abbrev pub create_parted : CreatePublication
create_parted = record { name = name_p; articles = record { table = table_t; columns = []; condition = None; by = Some by_n } ∷ [] }

-- TO p (value) FOR user, behind CREATE SUBSCRIPTION and START SUBSCRIPTION
abbrev pub part_for : ℕ → Name → SubscriptionRule
part_for n user = record { publication = name_p; value = Some (Int (pos n)); user = user }

-- ---- ops, changes and entries

-- the row comes with a number
abbrev pub insert_with : ℕ → Op
insert_with n = Insert table_t ((column_id, Int (pos 1)) ∷ (column_n, Int (pos n)) ∷ [])

-- the row goes
abbrev pub remove_row : Op
remove_row = Remove table_t ((column_id, Int (pos 1)) ∷ [])

abbrev pub removed : ℕ → Change
removed n = record { table = table_t; before = Some (first_row n); after = None }

-- what is done with these ops, where they are taken
abbrev pub came : ℕ → Done
came n = plain (insert_with n) (inserted (first_row n) ∷ [])

abbrev pub went : ℕ → Done
went n = plain remove_row (removed n ∷ [])

-- cons commits the row with 5, moves it to 7, and back to 5: what this gives r1 and r2, with the offsets at which the entries end
abbrev pub given_to_r1 : List (ℕ × List Op)
given_to_r1 = (392, insert_with 5 ∷ []) ∷ (434, remove_row ∷ []) ∷ (476, insert_with 5 ∷ []) ∷ []

abbrev pub given_to_r2 : List (ℕ × List Op)
given_to_r2 = (434, insert_with 7 ∷ []) ∷ (476, remove_row ∷ []) ∷ []

-- each as one message
abbrev pub message_to_r1 : Message
message_to_r1 = windowed cons r1 0 476 given_to_r1

abbrev pub message_to_r2 : Message
message_to_r2 = windowed cons r2 0 476 given_to_r2

-- ---- runs

-- cons makes the table and its publication, grants r1 and r2, and makes and starts a subscription for each; then come the three transactions, and both messages
abbrev pub run_of_cons : WorldRun Recorded
run_of_cons = record {
  owner = cons;
  known = [];
  database_steps = append (ddl (stmt.CreateTable create_t))
      ∷ append (ddl (stmt.CreatePublication create_parted))
      ∷ append (ddl (stmt.GrantRemote (grant r1)))
      ∷ append (ddl (stmt.GrantRemote (grant r2)))
      ∷ append (ddl (stmt.CreateSubscription (part_for 5 r1)))
      ∷ append (ddl (stmt.CreateSubscription (part_for 7 r2)))
      ∷ append (ddl (stmt.StartSubscription (part_for 5 r1)))
      ∷ append (ddl (stmt.StartSubscription (part_for 7 r2)))
      ∷ append (own (inserted (first_row 5) ∷ []))
      ∷ append (own (updated 5 7 ∷ []))
      ∷ append (own (updated 7 5 ∷ []))
      ∷ put message_to_r1
      ∷ put message_to_r2
      ∷ [];
}

-- r1 makes the table, grants cons, and takes what is for it
abbrev pub run_of_r1 : WorldRun Recorded
run_of_r1 = record {
  owner = r1;
  known = message_to_r1 ∷ [];
  database_steps = append (ddl (stmt.CreateTable create_t))
      ∷ append (ddl (stmt.GrantConsolidate (grant cons)))
      ∷ append (taken cons (offset_from 392) (came 5 ∷ []))
      ∷ append (taken cons (offset_from 434) (went 5 ∷ []))
      ∷ append (taken cons (offset_from 476) (came 5 ∷ []))
      ∷ [];
}

-- and so does r2
abbrev pub run_of_r2 : WorldRun Recorded
run_of_r2 = record {
  owner = r2;
  known = message_to_r2 ∷ [];
  database_steps = append (ddl (stmt.CreateTable create_t))
      ∷ append (ddl (stmt.GrantConsolidate (grant cons)))
      ∷ append (taken cons (offset_from 434) (came 7 ∷ []))
      ∷ append (taken cons (offset_from 476) (went 7 ∷ []))
      ∷ [];
}

abbrev pub moving_runs : List (WorldRun Recorded)
moving_runs = run_of_cons ∷ run_of_r1 ∷ run_of_r2 ∷ []

abbrev pub moving_steps : List (WorldStep Recorded)
moving_steps = acts_of_runs moving_runs

-- three databases, and nothing else
abbrev pub moving_names : List Name
moving_names = cons ∷ r1 ∷ r2 ∷ []

abbrev pub moving_world : World Recorded
moving_world = fresh_world moving_names

-- the world behind so many of the steps
abbrev pub world_at : ℕ → World Recorded
world_at n = after_all moving_world (take n moving_steps)

-- ---- what is so then

-- what a user has of the table, who is given the rows with a number
abbrev pub part_of_table : ℕ → SubscribedTable
part_of_table n = record { table = whole_table; columns = whole_table.columns; places = 0 ∷ 1 ∷ []; condition = None; by = Some by_n; values = Int (pos n) ∷ []; verifies = false }

-- the key of the row is untouched at a user who is given the rows with this number, and this is held there under it
pub record HoldsUntouched (w : World Recorded) (user : Name) (n : ℕ) (row : Option (List Cell)) : Type 0 where
  pub untouched : IsUntouched w user cons first_key (part_of_table n) whole_table
  pub held : rows_of_table (state_of user (history w user)).rows table_t first_key ≡ row
