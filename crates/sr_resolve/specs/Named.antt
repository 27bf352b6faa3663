-- The columns and values that an op names, in the columns of its table. No op names a column twice.
use Rattle.std.specs.Prelude.{ℕ, Bool, false, not, ◌&&◌, ◌||◌, cond, nat_eq, List}
use Rattle.std.specs.Prelude.{[], ◌∷◌, map, length, Option, Some, None, slice_get, unwrap_or, bytes_eq}
use Rattle.std.specs.List.{list_any, list_all}
use Rattle.std.specs.Option.{option_map}
use Rattle.std.specs.Ordering.{is_eq}
use Rattle.sr_base.specs.declared.value.Value.{Value as Cell}
use Rattle.sr_base.specs.declared.value.Value.TheVariants.{Null}
use Rattle.sr_base.specs.Order.{value_cmp}
use Rattle.sr_book.specs.Entries.{Name}
use Rattle.sr_base_dates.specs.Fitting.{fitted}
use Rattle.sr_eval.specs.Comparisons.{is_null}
use Rattle.sr_resolve_triggers.specs.Actions.{in_front}
use Rattle.sr_database_history.specs.Fitting.{fitted_in}
use Rattle.sr_catalog_schema.specs.Firsts.{has}
use Rattle.sr_catalog_schema.specs.Members.{has_column, key_names}
use Rattle.sr_catalog_schema.specs.Names.{named}
use Rattle.sr_catalog_schema.specs.declared.table.Column.{Column}
use Rattle.sr_catalog_schema.specs.declared.table.Table.{Table}

-- columns with values, and columns with old values and new ones
abbrev pub Values : Type 0
Values = List (Name × Cell)

abbrev pub Updates : Type 0
Updates = List (Name × Cell × Cell)

-- ---- a key

-- whether a column is named
abbrev pub is_named : Values → Option Column → Bool
is_named values None = false
is_named values (Some c) = list_any (λ v. bytes_eq v.0 c.name) values

-- whether the named columns are, as a set, the table's key: there are as many, and each column of the key is named
unfoldable pub names_key : Table → Values → Bool
names_key table values = nat_eq (length values) (length table.key) && list_all (λ place. is_named values (slice_get table.columns place)) table.key

-- the named values of these columns, fitted, in their order: nothing where one does not fit
abbrev pub fitted_at : Table → Values → List ℕ → Option (List Cell)
fitted_at table values [] = Some []
fitted_at table values (place ∷ places) = in_front (fitted_in values (slice_get table.columns place)) (fitted_at table values places)

-- the key that is named
abbrev pub fitted_key : Table → Values → Option (List Cell)
fitted_key table values = fitted_at table values table.key

-- ---- a row that is inserted

-- whether a column is named that is not in the table
abbrev pub names_other : Table → Values → Bool
names_other table values = list_any (λ v. not (has_column table v.0)) values

-- what a column holds for the value that is named for it: NULL where none is, nothing where it does not fit
abbrev pub filled : Column → Option (Name × Cell) → Option Cell
filled c None = Some Null
filled c (Some v) = fitted v.1 c.kind

-- the row: nothing where a value does not fit
abbrev pub filled_row : Values → List Column → Option (List Cell)
filled_row values [] = Some []
filled_row values (c ∷ columns) = in_front (filled c (named (λ v. v.0) c.name values)) (filled_row values columns)

-- whether a row has NULL where it may not stand. No op inserts a NULL, so such a column is one that is not named
abbrev pub has_null : List Column → List Cell → Bool
has_null [] row = false
has_null (c ∷ columns) [] = false
has_null (c ∷ columns) (v ∷ row) = (c.not_null && is_null v) || has_null columns row

-- ---- a row that is updated

-- whether an update may not be made: the column is not in the table, or is one of its key
abbrev pub is_no_target : Table → Name × Cell × Cell → Bool
is_no_target table u = not (has_column table u.0) || has (key_names table) u.0

-- the update of a column, if it is named
abbrev pub update_of : Updates → Column → Option (Name × Cell × Cell)
update_of updates c = named (λ u. u.0) c.name updates

-- whether the update of a column sets it: it came from above, or its old value and its new one differ. One that does not is there to be verified
abbrev pub is_column_set : Bool → Name × Cell × Cell → Bool
is_column_set above u = above || not (is_eq (value_cmp u.1 u.2))

-- the new value of a column, fitted: none where the column is not named or not set, nothing where the value does not fit
abbrev pub new_value : Bool → Column → Option (Name × Cell × Cell) → Option (Option Cell)
new_value above c None = Some None
new_value above c (Some u) = cond (is_column_set above u) (option_map (λ v. Some v) (fitted u.2 c.kind)) (Some None)

-- the new values of the columns: nothing where one does not fit
abbrev pub new_values : Bool → Updates → List Column → Option (List (Option Cell))
new_values above updates [] = Some []
new_values above updates (c ∷ columns) = in_front (new_value above c (update_of updates c)) (new_values above updates columns)

-- whether a new value is NULL
abbrev pub is_new_null : Option Cell → Bool
is_new_null None = false
is_new_null (Some v) = is_null v

-- whether a NOT NULL column gets NULL
abbrev pub sets_null : List Column → List (Option Cell) → Bool
sets_null [] news = false
sets_null (c ∷ columns) [] = false
sets_null (c ∷ columns) (new ∷ news) = (c.not_null && is_new_null new) || sets_null columns news

-- a row with new values
abbrev pub with_news : List (Option Cell) → List Cell → List Cell
with_news news [] = []
with_news [] (v ∷ row) = v ∷ with_news [] row
with_news (new ∷ news) (v ∷ row) = unwrap_or new v ∷ with_news news row

-- ---- the other side's old values

-- whether a value is the one that is held for an old one
abbrev pub is_value : Cell → Option Cell → Bool
is_value v None = false
is_value v (Some old) = is_eq (value_cmp v old)

-- whether a stored value differs from the old value of an update, fitted. NULL is equal to NULL; an old value that does not fit differs
abbrev pub differs : Column → Option (Name × Cell × Cell) → Cell → Bool
differs c None v = false
differs c (Some u) v = not (is_value v (fitted u.1 c.kind))

-- the columns of the update whose stored values differ from the old ones
abbrev pub differing : Updates → List Column → List Cell → List Name
differing updates [] row = []
differing updates (c ∷ columns) [] = []
differing updates (c ∷ columns) (v ∷ row) =
    cond (differs c (update_of updates c) v) (c.name ∷ differing updates columns row) (differing updates columns row)

-- the old value of a column, fitted: NULL where there is none, and where it does not fit
abbrev pub old_value : Column → Option (Name × Cell × Cell) → Cell
old_value c None = Null
old_value c (Some u) = unwrap_or (fitted u.1 c.kind) Null

-- the row of the old values
abbrev pub old_row : Updates → List Column → List Cell
old_row updates columns = map (λ c. old_value c (update_of updates c)) columns
