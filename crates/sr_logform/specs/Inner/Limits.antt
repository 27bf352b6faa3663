-- How long an entry may be, how far the log may reach that holds it, and how many ops it may give.
-- Here is what no contract of the program says by itself.
use Rattle.std.specs.Prelude.{ℕ, ◌+◌, List, [], ◌∷◌, length}
use Rattle.sr_base.specs.declared.value.Value.{Value}
use Rattle.sr_logform.specs.declared.entry.Entry.{Entry}
use Rattle.sr_logform.specs.declared.entry.Entry.TheVariants.{Own, From, Ddl, Sync, Pass, Note}
use Rattle.sr_logform.specs.declared.op.Op.{Op}
use Rattle.sr_logform.specs.declared.outcome.Outcome.{Outcome}
use Rattle.sr_logform.specs.declared.outcome.Outcome.TheVariants as outcomes

-- ---- how many ops

-- a number of each item, all together
abbrev pub total : {A : Type 0} → (A → ℕ) → List A → ℕ
total f [] = 0
total f (x ∷ xs) = f x + total f xs

-- as many as an outcome can give: one for each change, one for each insert of a trigger, and one for the op's key
abbrev pub outcome_ops : Outcome → ℕ
outcome_ops (outcomes.Plain changes) = length changes
outcome_ops (outcomes.Conflict inserts before after) = 1 + length inserts
outcome_ops (outcomes.Clash clash) = 0

-- the op that was taken, and as many as what became of it can give
abbrev pub judged_ops : Op × Outcome → ℕ
judged_ops p = 1 + outcome_ops p.1

-- a Clear, and an Insert for each row
abbrev pub table_ops : List ℕ × List (List Value) → ℕ
table_ops p = 1 + length p.1

-- as many ops as an entry holds, and as it can give a partner: at most one for each change; of a Sync a Clear for each table and
-- an Insert for each row; of a Pass the statement
abbrev pub op_count : Entry → ℕ
op_count (Own changes) = length changes
op_count (From user at ops) = total judged_ops ops
op_count (Ddl text) = 0
op_count (Sync user tables) = total table_ops tables
op_count (Pass users only text changes) = 1 + length changes
op_count (Note user note) = 0
