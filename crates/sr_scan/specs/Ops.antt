-- The ops that tell a partner of one row.
use Rattle.std.specs.Prelude.{ℕ, cond, List, [], ◌∷◌, map, filter, zip, Option, Some, None}
use Rattle.std.specs.Ordering.{eq_by_cmp}
use Rattle.sr_base.specs.Order.{value_cmp}
use Rattle.sr_base.specs.declared.value.Value.{Value as Cell}
use Rattle.sr_exec_where.specs.Keys.{key_of}
use Rattle.sr_logform.specs.Rules.{is_present}
use Rattle.sr_logform.specs.declared.change.Change.{Change}
use Rattle.sr_logform.specs.declared.op.Op.{Op}
use Rattle.sr_logform.specs.declared.op.Op.TheVariants.{Insert, Remove, Set}
use Rattle.sr_publish.specs.SubscribedTables.{SubscribedTable}
use Rattle.sr_publish.specs.Views.{shown}
use Rattle.sr_catalog_schema.specs.Firsts.{has}
use Rattle.sr_catalog_schema.specs.Members.{column_name, key_names}
use Rattle.sr_catalog_schema.specs.declared.table.Column.{Column}
use Rattle.sr_catalog_schema.specs.declared.table.Table.{Table}

-- the key of a table by its columns, in key order
abbrev pub key_columns : Table → List Cell → List (List ℕ × Cell)
key_columns t key = zip (key_names t) key

-- the columns of a row that are not NULL, in their order
abbrev pub present_columns : List Column → List Cell → List (List ℕ × Cell)
present_columns columns row = filter (λ p. is_present p.1) (zip (map column_name columns) row)

-- the columns in which two rows differ, each with its value before and after
abbrev pub differing : List Column → List Cell → List Cell → List (List ℕ × Cell × Cell)
differing [] before after = []
differing (c ∷ columns) [] after = []
differing (c ∷ columns) (v ∷ before) [] = []
differing (c ∷ columns) (v ∷ before) (w ∷ after) = cond (eq_by_cmp value_cmp v w) (differing columns before after) ((c.name, v, w) ∷ differing columns before after)

-- the columns outside a key, each with its value before and after, also where they are equal
abbrev pub outside_key : List (List ℕ) → List Column → List Cell → List Cell → List (List ℕ × Cell × Cell)
outside_key key [] before after = []
outside_key key (c ∷ columns) [] after = []
outside_key key (c ∷ columns) (v ∷ before) [] = []
outside_key key (c ∷ columns) (v ∷ before) (w ∷ after) =
    cond (has key c.name) (outside_key key columns before after) ((c.name, v, w) ∷ outside_key key columns before after)

-- an update of a row, where there is something to update
abbrev pub update_of : Table → List Cell → List (List ℕ × Cell × Cell) → List Op
update_of t key [] = []
update_of t key (u ∷ updates) = Set t.name (key_columns t key) (u ∷ updates) ∷ []

-- the columns that an update lists, which there is where columns differ: those alone, or all outside the key for one who verifies
abbrev pub listed_in : SubscribedTable → List Cell → List Cell → List (List ℕ × Cell × Cell) → List (List ℕ × Cell × Cell)
listed_in s before after [] = []
listed_in s before after (u ∷ updates) = cond s.verifies (outside_key (key_names s.table) s.columns before after) (u ∷ updates)

abbrev pub columns_told : SubscribedTable → List Cell → List Cell → List (List ℕ × Cell × Cell)
columns_told s before after = listed_in s before after (differing s.columns before after)

-- what tells a partner how his view of the row under a key went on: a row that came into it is an insert, one that left it a delete, also
-- where the row itself was updated; of a row that stays in it, where columns changed, the columns that are listed
abbrev pub told_of : SubscribedTable → List Cell → Option (List Cell) → Option (List Cell) → List Op
told_of s key None None = []
told_of s key None (Some row) = Insert s.table.name (present_columns s.columns row) ∷ []
told_of s key (Some row) None = Remove s.table.name (key_columns s.table key) ∷ []
told_of s key (Some before) (Some after) = update_of s.table key (columns_told s before after)

-- what tells the origin of an op that met another value how his view of the row under its key is now: that it has none, or all its columns
-- outside the key, with their values before. `before` is the whole row
abbrev pub told_back : Table → Option SubscribedTable → List Cell → List Cell → Option (List Cell) → List Op
told_back t subscribed_table key before None = Remove t.name (key_columns t key) ∷ []
told_back t None key before (Some row) = []
told_back t (Some s) key before (Some row) = update_of t key (outside_key (key_names t) s.columns (shown s before) row)

-- the key of a change: that of the row before, or else of the row after
abbrev pub key_of_rows : Table → Option (List Cell) → Option (List Cell) → List Cell
key_of_rows t (Some before) after = key_of t.key before
key_of_rows t None (Some after) = key_of t.key after
key_of_rows t None None = []

abbrev pub key_changed : Table → Change → List Cell
key_changed t c = key_of_rows t c.before c.after
