-- The layers as they are: what the world is made of.
use Rattle.std.specs.Prelude.{ℕ, List, [], ◌∷◌, map, Option, Some, None}
use Rattle.sr_book.specs.Entries.{Name}
use Rattle.sr_mail_cut.specs.Bodies.{body_spelling}
use Rattle.sr_database_history.specs.Folds.{State, fresh as new_state, next as next_state, size as size_of, sees as sight_of}
use Rattle.sr_database_history.specs.Recorded.{Recorded}
use Rattle.sr_logform.specs.declared.op.Op.{Op}
use Rattle.sr_logform.specs.declared.op.Transaction.{Transaction}
use Rattle.sr_logform.specs.Ops.{IsTransaction}
use Rattle.sr_msgform.specs.declared.message.Message.{Message}
use Rattle.sr_world_model.specs.Layers.{Layers}
use Rattle.sr_world_model.specs.Machines.{Machine, layers_of, lawful_by}
use Rattle.sr_world_model.specs.Steps.{DatabaseStep, CanDoAll}
use Rattle.sr_world_model.specs.Worlds.{World, IsGood}
use Rattle.sr_world_model.specs.Runs.{WorldRun, AreWorldRuns}
use Rattle.sr_scan.specs.Given.{gives as ops_given}
use Rattle.sr_world.specs.Lawful.{IsLawful}

-- ops, where there are some
abbrev pub some_ops : List Op → Option (List Op)
some_ops [] = None
some_ops (op ∷ ops) = Some (op ∷ ops)

-- a transaction that ends at an offset
abbrev pub transaction_at : (ℕ × List Op) → Transaction
transaction_at tx = record { at = record { 0 = tx.0 }; ops = tx.1 }

-- a history is read entry by entry, by the catalog and the rows that those before it leave; a body has the bytes of its transactions
abbrev pub machine : Machine State Recorded (List Op)
machine = record {
  fresh = new_state;
  next = next_state;
  sees = sight_of;
  size = size_of;
  gives = λ s r user. some_ops (ops_given s r user);
  encode = λ txs. body_spelling (map transaction_at txs);
}

-- each field of a transaction fits its place in a message's body
abbrev pub HasSpelling : (ℕ × List Op) → Type 0
HasSpelling tx = IsTransaction (transaction_at tx)

-- ---- the world of real databases

abbrev pub layers : Layers Recorded (List Op)
layers = layers_of machine

-- the history of a database of this name keeps every rule
abbrev pub LawfulHistory : Name → List Recorded → Type 0
LawfulHistory d rs = lawful_by machine IsLawful d rs

abbrev pub IsGoodWorld : World Recorded → Type 0
IsGoodWorld w = IsGood layers LawfulHistory w

-- steps that a history and some messages allow a database
abbrev pub MayDo : List Message → Name → List Recorded → List (DatabaseStep Recorded) → Type 0
MayDo messages d rs database_steps = CanDoAll layers HasSpelling LawfulHistory messages d rs database_steps

-- runs, each where its last fetch was
abbrev pub AreRunsIn : World Recorded → List (WorldRun Recorded) → Type 0
AreRunsIn w runs = AreWorldRuns layers HasSpelling LawfulHistory w runs
