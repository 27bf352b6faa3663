-- A world of three databases with tables, publications and rows: one consolidated, and two below it that have one table each.
use Rattle.std.specs.Prelude.{ℕ, true, false, List, [], ◌∷◌, length, Some, None, codes, pos}
use Rattle.sr_base.specs.Values.{offset_from}
use Rattle.sr_base.specs.declared.value.Value.{Value as Cell}
use Rattle.sr_base.specs.declared.value.Value.TheVariants.{Int}
use Rattle.sr_ast.specs.Layout.{printed}
use Rattle.sr_ast.specs.declared.create.CreatePublication.{CreatePublication}
use Rattle.sr_ast.specs.declared.create.CreateTable.{CreateTable}
use Rattle.sr_ast.specs.declared.create.SubscriptionRule.{SubscriptionRule}
use Rattle.sr_ast.specs.declared.stmt.Stmt.TheVariants as stmt
use Rattle.sr_book.specs.Entries.{Name}
use Rattle.sr_book.specs.declared.note.Note.TheVariants.{Confirmed, Asked, Raised, Sent}
use Rattle.sr_database_history.specs.Recorded.{plain, ran, conflict}
use Rattle.sr_database_history.specs.Recorded.{Recorded, own, taken, ddl, sync, pass, note}
use Rattle.sr_database_history.specs.Inner.Sample.{cons, r1, table_t, column_id, column_n, create_t, create_u, row, inserted, integer, grant}
use Rattle.sr_logform.specs.declared.change.Change.{Change}
use Rattle.sr_logform.specs.declared.op.Op.{Op}
use Rattle.sr_logform.specs.declared.op.Op.TheVariants.{Insert, Set, Clear, Exec}
use Rattle.sr_world_model.specs.Runs.{WorldRun}
use Rattle.sr_world_model.specs.Inner.Runs.{acts_of_runs}
use Rattle.sr_world_model.specs.Inner.Small.{piece}
use Rattle.sr_world_model.specs.Steps.{append, put}
use Rattle.sr_world_model.specs.Worlds.{World, WorldStep, after_all}
use Rattle.sr_world_model.specs.Worlds.{fresh_world}
use Rattle.sr_msgform.specs.declared.message.Message.{Message}
use Rattle.sr_world.specs.Real.{layers}

-- ---- statements

abbrev pub r2 : Name
r2 = codes "r2"

abbrev pub name_p : Name
name_p = codes "p"

abbrev pub name_q : Name
name_q = codes "q"

-- CREATE TABLE t (id INTEGER NOT NULL, PRIMARY KEY (id)), which r2 has: of the table t of the others the key alone
abbrev pub create_slim : CreateTable
create_slim = record { name = table_t; columns = integer column_id true ∷ []; key = column_id ∷ [] }

-- CREATE PUBLICATION p (TABLE t)
abbrev pub create_p : CreatePublication
create_p = record { name = name_p; articles = record { table = table_t; columns = []; condition = None; by = None } ∷ [] }

-- CREATE PUBLICATION q (TABLE t (id))
abbrev pub create_q : CreatePublication
create_q = record { name = name_q; articles = record { table = table_t; columns = column_id ∷ []; condition = None; by = None } ∷ [] }

-- TO publication FOR user, behind CREATE SUBSCRIPTION and START SUBSCRIPTION
abbrev pub subscription : Name → Name → SubscriptionRule
subscription publication user = record { publication = publication; value = None; user = user }

-- ---- ops, changes and entries

-- the row of the table t under 1
abbrev pub first_row : ℕ → List Cell
first_row n = row 1 (Int (pos n))

-- its row before and after
abbrev pub updated : ℕ → ℕ → Change
updated before after = record { table = table_t; before = Some (first_row before); after = Some (first_row after) }

-- that row is new, with 5
abbrev pub insert : Op
insert = Insert table_t ((column_id, Int (pos 1)) ∷ (column_n, Int (pos 5)) ∷ [])

-- the same of the key alone, and the row that it makes
abbrev pub insert_slim : Op
insert_slim = Insert table_t ((column_id, Int (pos 1)) ∷ [])

abbrev pub slim_row : List Cell
slim_row = Int (pos 1) ∷ []

-- CREATE TABLE u (id INTEGER NOT NULL, PRIMARY KEY (id)) runs
abbrev pub run_u : Op
run_u = Exec (printed (stmt.CreateTable create_u))

-- its number from an old one to a new one
abbrev pub set : ℕ → ℕ → Op
set before after = Set table_t ((column_id, Int (pos 1)) ∷ []) ((column_n, Int (pos before), Int (pos after)) ∷ [])

-- a note of messages sent to a user
abbrev pub sent_to : Name → ℕ → ℕ → Recorded
sent_to user end confirm = note user (Sent (offset_from end) 1 (offset_from confirm))

-- ---- what each gives another, with the offset at which the entry ends

-- cons gives r1 its new row
abbrev pub gave_insert : ℕ × List Op
gave_insert = (366, insert ∷ [])

-- cons gives r2 what it sees of the table, by the synchronization
abbrev pub gave_slim : ℕ × List Op
gave_slim = (434, Clear table_t ∷ insert_slim ∷ [])

-- cons gives r2 the statement that it passes on
abbrev pub gave_statement : ℕ × List Op
gave_statement = (510, run_u ∷ [])

-- cons gives r1 its update
abbrev pub gave_update : ℕ × List Op
gave_update = (612, set 5 7 ∷ [])

-- r1 gives cons its own update
abbrev pub gave_other : ℕ × List Op
gave_other = (389, set 5 6 ∷ [])

-- cons gives r1 what the conflict gives back
abbrev pub gave_back : ℕ × List Op
gave_back = (801, set 7 6 ∷ [])

-- ---- messages

-- a window as one message, which has the body of these transactions
abbrev pub windowed : Name → Name → ℕ → ℕ → List (ℕ × List Op) → Message
windowed sender receiver prev upto txs = piece sender receiver prev upto (length (layers.encode txs)) 0 (layers.encode txs)

-- to r1 the new row; it is lost
abbrev pub lost : Message
lost = windowed cons r1 0 366 (gave_insert ∷ [])

-- to r2 what the synchronization gives, and the statement that is passed on
abbrev pub for_r2 : Message
for_r2 = windowed cons r2 0 510 (gave_slim ∷ gave_statement ∷ [])

-- to r1 the update that follows
abbrev pub second : Message
second = windowed cons r1 366 612 (gave_update ∷ [])

-- r1 asks for what lies past 0
abbrev pub ask : Message
ask = record (windowed r1 cons 0 0 []) { ask_count = 1 }

-- both again, as one window
abbrev pub resent : Message
resent = record (windowed cons r1 0 612 (gave_insert ∷ gave_update ∷ [])) { resend_count = 1 }

-- what r1 committed, which confirms what r1 took
abbrev pub answer : Message
answer = record (windowed r1 cons 0 389 (gave_other ∷ [])) { confirm = record { 0 = 612 } }

-- what the conflict gives back
abbrev pub returned : Message
returned = record (windowed cons r1 612 801 (gave_back ∷ [])) { resend_count = 1; confirm = record { 0 = 389 } }

-- ---- runs

-- cons makes a table and two publications of it, grants r1 and r2, starts the subscription of r1, commits a row, and then starts that of r2
-- and synchronizes it, and passes a statement on to r2 that it runs too; it sends to r1 the row, and to r2 what it sees of the table and
-- the statement
abbrev pub first_run : WorldRun Recorded
first_run = record {
  owner = cons;
  known = [];
  database_steps = append (ddl (stmt.CreateTable create_t))
      ∷ append (ddl (stmt.CreatePublication create_p))
      ∷ append (ddl (stmt.CreatePublication create_q))
      ∷ append (ddl (stmt.GrantRemote (grant r1)))
      ∷ append (ddl (stmt.GrantRemote (grant r2)))
      ∷ append (ddl (stmt.CreateSubscription (subscription name_p r1)))
      ∷ append (ddl (stmt.CreateSubscription (subscription name_q r2)))
      ∷ append (ddl (stmt.StartSubscription (subscription name_p r1)))
      ∷ append (own (inserted (first_row 5) ∷ []))
      ∷ append (ddl (stmt.StartSubscription (subscription name_q r2)))
      ∷ append (sync r2 ((table_t, slim_row ∷ []) ∷ []))
      ∷ append (pass (r2 ∷ []) false (stmt.CreateTable create_u) [])
      ∷ put lost
      ∷ append (sent_to r1 366 0)
      ∷ put for_r2
      ∷ append (sent_to r2 510 0)
      ∷ [];
}

-- r2 makes its table, grants cons, and takes what it was sent
abbrev pub run_of_r2 : WorldRun Recorded
run_of_r2 = record {
  owner = r2;
  known = for_r2 ∷ [];
  database_steps = append (ddl (stmt.CreateTable create_slim))
      ∷ append (ddl (stmt.GrantConsolidate (grant cons)))
      ∷ append (taken cons (offset_from 434) (plain (Clear table_t) [] ∷ plain insert_slim (inserted slim_row ∷ []) ∷ []))
      ∷ append (taken cons (offset_from 510) (ran (stmt.CreateTable create_u) [] ∷ []))
      ∷ [];
}

-- cons updates the row, which r2 does not see, and sends that to r1
abbrev pub second_run : WorldRun Recorded
second_run = record {
  owner = cons;
  known = [];
  database_steps = append (own (updated 5 7 ∷ [])) ∷ put second ∷ append (sent_to r1 612 0) ∷ [];
}

-- r1 makes the same table and publication, grants and subscribes cons; it finds the second window alone, raises an ask and sends it
abbrev pub asking_run : WorldRun Recorded
asking_run = record {
  owner = r1;
  known = second ∷ [];
  database_steps = append (ddl (stmt.CreateTable create_t))
      ∷ append (ddl (stmt.GrantConsolidate (grant cons)))
      ∷ append (ddl (stmt.CreatePublication create_p))
      ∷ append (ddl (stmt.CreateSubscription (subscription name_p cons)))
      ∷ append (ddl (stmt.StartSubscription (subscription name_p cons)))
      ∷ append (note cons Raised)
      ∷ put ask
      ∷ append (sent_to cons 0 0)
      ∷ [];
}

-- cons notes the ask, and sends both windows again as one
abbrev pub resending_run : WorldRun Recorded
resending_run = record {
  owner = cons;
  known = ask ∷ [];
  database_steps = append (note r1 (Asked 1 (offset_from 0))) ∷ put resent ∷ append (sent_to r1 612 0) ∷ [];
}

-- r1 takes the row, updates it, takes the update of cons, and answers
abbrev pub taking_run : WorldRun Recorded
taking_run = record {
  owner = r1;
  known = resent ∷ [];
  database_steps = append (taken cons (offset_from 366) (plain insert (inserted (first_row 5) ∷ []) ∷ []))
      ∷ append (own (updated 5 6 ∷ []))
      ∷ append (taken cons (offset_from 612) (plain (set 5 7) (updated 6 7 ∷ []) ∷ []))
      ∷ put answer
      ∷ append (sent_to cons 389 612)
      ∷ [];
}

-- cons notes what r1 confirmed, takes what r1 committed, which meets another value, and sends what that gives back
abbrev pub returning_run : WorldRun Recorded
returning_run = record {
  owner = cons;
  known = answer ∷ [];
  database_steps = append (note r1 (Confirmed (offset_from 612)))
      ∷ append (taken r1 (offset_from 389) (conflict (set 5 6) [] (first_row 7) (first_row 6) ∷ []))
      ∷ put returned
      ∷ append (sent_to r1 801 389)
      ∷ [];
}

-- r1 takes that
abbrev pub last_run : WorldRun Recorded
last_run = record {
  owner = r1;
  known = returned ∷ [];
  database_steps = append (taken cons (offset_from 801) (plain (set 7 6) (updated 7 6 ∷ []) ∷ [])) ∷ [];
}

-- the runs, and their steps
abbrev pub real_runs : List (WorldRun Recorded)
real_runs = first_run ∷ run_of_r2 ∷ second_run ∷ asking_run ∷ resending_run ∷ taking_run ∷ returning_run ∷ last_run ∷ []

abbrev pub real_acts : List (WorldStep Recorded)
real_acts = acts_of_runs real_runs

-- three databases, and nothing else
abbrev pub real_world : World Recorded
real_world = fresh_world (cons ∷ r1 ∷ r2 ∷ [])

-- the world that they reach
abbrev pub reached : World Recorded
reached = after_all real_world real_acts
