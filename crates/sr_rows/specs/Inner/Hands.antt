-- Rows of which one table is at hand, and what a replaced row makes of them.
use Rattle.std.specs.Prelude.{◌≡◌, Bool, true, false, List, ◌∷◌, Option, None, IsSome, ℕ}
use Rattle.std.specs.BTreeMap as tree
use Rattle.std.specs.FinMap as map
use Rattle.sr_base.specs.declared.value.Value.{Value}
use Rattle.sr_base.specs.Order.{name_cmp, key_cmp}
use Rattle.sr_rows.specs.declared.undo.Undo.{Undo}
use Rattle.sr_rows.specs.Inner.Gathered.{gathered}
use Rattle.sr_rows.specs.Marks.{OneAtHand}
use Rattle.sr_rows.specs.Inner.Undoing.{PlaceMap, seen, Undoable}

-- the places of one table
abbrev pub TableMap : Type 0
TableMap = map.FinMap key_cmp (Option (List Value))

-- the places of all tables: those of the table at hand, and those of the others
abbrev pub with_hand : List ℕ → TableMap → List (List ℕ × TableMap) → PlaceMap
with_hand name table tables = gathered ((name, table) ∷ tables)

-- what contracts see: the name of the table at hand, and the rows of all tables
abbrev pub seen_at_hand : List Undo → List ℕ → TableMap → List (List ℕ × TableMap) → OneAtHand
seen_at_hand changes name table tables = record { table = name; rows = seen changes (with_hand name table tables) }

-- the changes can be taken back, and the table at hand has its place among the others
pub record IsAtHand (changes : List Undo) (name : List ℕ) (table : TableMap) (tables : tree.BTreeMap (List ℕ) TableMap) : Type 0 where
  pub undoable : Undoable changes (with_hand name table tables.entries)
  pub held : IsSome (tree.get_by (name_cmp name) tables)

-- a row that is put under a key of the table at hand: where its place is there; else no row stands there, and nothing changes
abbrev pub Replaces : OneAtHand → List Value → List Value → OneAtHand → Bool → Type 0
Replaces before key row after true = after.rows.rows ≡ map.insert before.rows.rows (before.table, key) row
Replaces before key row after false = (map.get before.rows.rows (before.table, key) ≡ None) × (after ≡ before)
