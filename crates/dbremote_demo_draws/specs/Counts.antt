-- What is counted of a log's entries.
use Rattle.std.specs.Prelude.{ℕ, ◌+◌, List, [], ◌∷◌, ◌++◌, bytes_eq, cond, Option, Some, None}
use Rattle.sr_base.specs.declared.value.Value.{Value as Cell}
use Rattle.sr_exec_where.specs.Keys.{key_of}
use Rattle.sr_logform.specs.declared.change.Change.{Change}
use Rattle.sr_logform.specs.declared.entry.Entry.{Entry}
use Rattle.sr_logform.specs.declared.entry.Entry.TheVariants.{Own, From, Ddl, Sync, Pass, Note}
use Rattle.sr_logform.specs.declared.op.Op.{Op}
use Rattle.sr_logform.specs.declared.outcome.Outcome.{Outcome}
use Rattle.sr_logform.specs.declared.outcome.Outcome.TheVariants.{Plain, Conflict, Clash}
use Rattle.sr_catalog_schema.specs.declared.table.Table.{Table}
use Rattle.dbremote_demo_draws.specs.declared.counting.Outcomes.{Outcomes}

-- ---- outcomes

abbrev pub no_outcomes : Outcomes
no_outcomes = record { conflicts = 0; clashes = 0 }

abbrev pub with_outcome : Outcome → Outcomes → Outcomes
with_outcome (Plain changes) n = n
with_outcome (Conflict inserts before after) n = record n { conflicts = n.conflicts + 1 }
with_outcome (Clash why) n = record n { clashes = n.clashes + 1 }

abbrev pub with_ops : List (Op × Outcome) → Outcomes → Outcomes
with_ops [] n = n
with_ops (op ∷ ops) n = with_ops ops (with_outcome op.1 n)

abbrev pub with_entry : Entry → Outcomes → Outcomes
with_entry (Own changes) n = n
with_entry (From user at ops) n = with_ops ops n
with_entry (Ddl text) n = n
with_entry (Sync user tables) n = n
with_entry (Pass users only text changes) n = n
with_entry (Note user note) n = n

-- those of all that was taken
abbrev pub outcomes_of : List Entry → Outcomes → Outcomes
outcomes_of [] n = n
outcomes_of (entry ∷ entries) n = outcomes_of entries (with_entry entry n)

-- ---- keys that own transactions name

-- the row of a change: that before, or that after
abbrev pub either_row : Option (List Cell) → Option (List Cell) → List (List Cell)
either_row None None = []
either_row None (Some after) = after ∷ []
either_row (Some before) after = before ∷ []

abbrev pub keys_in : List ℕ → List (List Cell) → List (List Cell)
keys_in places [] = []
keys_in places (row ∷ rows) = key_of places row ∷ keys_in places rows

-- the key of a change, where it is one of the table
abbrev pub key_in : Table → Change → List (List Cell)
key_in table c = cond (bytes_eq table.name c.table) (keys_in table.key (either_row c.before c.after)) []

abbrev pub change_keys : Table → List Change → List (List Cell)
change_keys table [] = []
change_keys table (c ∷ changes) = key_in table c ++ change_keys table changes

abbrev pub entry_keys : Table → Entry → List (List Cell)
entry_keys table (Own changes) = change_keys table changes
entry_keys table (From user at ops) = []
entry_keys table (Ddl text) = []
entry_keys table (Sync user tables) = []
entry_keys table (Pass users only text changes) = []
entry_keys table (Note user note) = []

abbrev pub own_keys : Table → List Entry → List (List Cell)
own_keys table [] = []
own_keys table (entry ∷ entries) = entry_keys table entry ++ own_keys table entries
