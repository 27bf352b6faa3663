-- Two moments of the sample's world at which a key is untouched below: since a synchronization at r2, since a START at r1.
use Rattle.std.specs.Prelude.{true, false, List, [], ◌∷◌, None, pos, take}
use Rattle.sr_base.specs.declared.value.Value.{Value as Cell}
use Rattle.sr_base.specs.declared.value.Value.TheVariants.{Int}
use Rattle.sr_database_history.specs.Recorded.{Recorded}
use Rattle.sr_database_history.specs.Inner.Sample.{table_t, column_id, column_n, integer}
use Rattle.sr_world_model.specs.Worlds.{World, after_all}
use Rattle.sr_publish.specs.SubscribedTables.{SubscribedTable}
use Rattle.sr_catalog_schema.specs.declared.table.Column.{Column}
use Rattle.sr_catalog_schema.specs.declared.table.Table.{Table}
use Rattle.sr_world.specs.Inner.Sample.{real_acts, real_world}
use Rattle.sr_catalog_ddl.specs.Tables.{column_of}

-- the key of the sample's row
abbrev pub first_key : List Cell
first_key = Int (pos 1) ∷ []

-- r2 has taken what cons synchronized for it, and not yet the statement that follows
abbrev pub when_synced : World Recorded
when_synced = after_all real_world (take 19 real_acts)

-- r1 has taken the row that cons committed behind the START for it, and has not yet updated it
abbrev pub when_inserted : World Recorded
when_inserted = after_all real_world (take 35 real_acts)

-- ---- the table t of cons and of r1, that of r2, and what each user has of it

abbrev pub key_column : Column
key_column = column_of (integer column_id true)

abbrev pub whole_table : Table
whole_table = record { name = table_t; columns = key_column ∷ column_of (integer column_n false) ∷ []; key = 0 ∷ [] }

abbrev pub slim_table : Table
slim_table = record { name = table_t; columns = key_column ∷ []; key = 0 ∷ [] }

abbrev pub whole_subscribed_table : SubscribedTable
whole_subscribed_table = record { table = whole_table; columns = whole_table.columns; places = 0 ∷ 1 ∷ []; condition = None; by = None; values = []; verifies = false }

abbrev pub slim_subscribed_table : SubscribedTable
slim_subscribed_table = record { table = whole_table; columns = key_column ∷ []; places = 0 ∷ []; condition = None; by = None; values = []; verifies = false }
