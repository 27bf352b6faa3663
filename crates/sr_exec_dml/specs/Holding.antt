-- The rows of a table before and after a statement: keys that two rows would hold, and changes.
use Rattle.std.specs.Prelude.{ℕ, Bool, true, false, cond, List, [], ◌∷◌, ◌++◌, find, Option, Some, None, Result, Ok, Err}
use Rattle.std.specs.Ordering.{is_eq}
use Rattle.std.specs.FinMap as map_of
use Rattle.sr_base.specs.declared.value.Value.{Value as Cell}
use Rattle.sr_base.specs.Order.{key_cmp}
use Rattle.sr_rows.specs.Walks.{Entry}
use Rattle.sr_logform.specs.declared.change.Change.{Change}
use Rattle.sr_logform.specs.Outcomes.{is_same_row}
use Rattle.sr_catalog_schema.specs.declared.fault.DmlFault.{DmlFault}
use Rattle.sr_catalog_schema.specs.declared.fault.DmlFault.TheVariants.{Duplicate}

-- the rows under a key
abbrev pub under : List Cell → List Entry → List (List Cell)
under key [] = []
under key (e ∷ entries) = cond (is_eq (key_cmp key e.0)) (e.1 ∷ under key entries) (under key entries)

-- whether there are two
abbrev pub are_two : List (List Cell) → Bool
are_two [] = false
are_two (row ∷ []) = false
are_two (row ∷ other ∷ rows) = true

-- the first, if there is one
abbrev pub one_of : List (List Cell) → Option (List Cell)
one_of [] = None
one_of (row ∷ rows) = Some row

-- the keys of the rows before and after, each once, ascending
abbrev pub keys_of : List Entry → List Entry → List (List Cell)
keys_of before after = map_of.keys {R = key_cmp} (map_of.from_entries (before ++ after))

-- the least key that two rows would hold
abbrev pub doubled : List Entry → List Entry → Option (List Cell)
doubled before after = find (λ key. are_two (under key after)) (keys_of before after)

-- a change at a key, where the rows before and after differ, and then other changes
abbrev pub with_change : List ℕ → Option (List Cell) → Option (List Cell) → List Change → List Change
with_change table before after changes = cond (is_same_row before after) changes (record { table = table; before = before; after = after } ∷ changes)

-- the changes at some keys, in their order
abbrev pub changes_at : List ℕ → List Entry → List Entry → List (List Cell) → List Change
changes_at table before after [] = []
changes_at table before after (key ∷ keys) = with_change table (one_of (under key before)) (one_of (under key after)) (changes_at table before after keys)

-- the keys at which the rows before and after differ, ascending, each with its rows
abbrev pub changes_of : List ℕ → List Entry → List Entry → List Change
changes_of table before after = changes_at table before after (keys_of before after)

-- two rows under one key, or what changes
abbrev pub undoubled : Option (List Cell) → List Change → Result (List Change) DmlFault
undoubled (Some key) changes = Err (Duplicate key)
undoubled None changes = Ok changes

-- what comes of the rows that a table would hold
abbrev pub held : List ℕ → List Entry → List Entry → Result (List Change) DmlFault
held table before after = undoubled (doubled before after) (changes_of table before after)
