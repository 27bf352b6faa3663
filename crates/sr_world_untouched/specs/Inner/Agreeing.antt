-- What a row below has of what a view shows above.
-- Here is what no contract of the program says by itself.
use Rattle.std.specs.Prelude.{◌≡◌, unwrap_or, ℕ, true, false, List, Option, Some, map}
use Rattle.sr_base.specs.declared.value.Value.{Value as Cell}
use Rattle.sr_base.specs.declared.value.Value.TheVariants.{Null}
use Rattle.sr_exec_where.specs.Keys.{key_of}
use Rattle.sr_publish.specs.Inner.Laws.{HasKey}
use Rattle.sr_resolve.specs.Named.{filled_row, has_null, new_values, sets_null, with_news}
use Rattle.sr_scan.specs.Ops.{differing, present_columns}
use Rattle.sr_catalog_schema.specs.Members.{key_names}
use Rattle.sr_catalog_schema.specs.declared.table.Column.{Column}
use Rattle.sr_catalog_schema.specs.declared.table.Table.{Table}
use Rattle.sr_world_untouched.specs.Agreeing.{HasShown, cell_in}

-- the value under a name, NULL where there is none
abbrev pub held_in : List Column → List Cell → List ℕ → Cell
held_in columns row n = unwrap_or (cell_in columns row n) Null

-- an insert of what these columns show fills a row of the table: it has what is shown, NULL in no column where none may be, and the key of the values
-- that are shown
abbrev pub InsertsShown : List Column → Table → List Cell → Type 0
InsertsShown columns t shown = (row : List Cell) × (filled_row (present_columns columns shown) t.columns ≡ Some row) × HasShown t.columns columns shown row
    × (has_null t.columns row ≡ false) × (HasKey t → key_of t.key row ≡ map (held_in columns shown) (key_names t))

-- an update of the columns that differ, from what these columns showed before to what they show after, leaves of a row one that has what they show after,
-- with NULL in no column where none may be
abbrev pub UpdatesToShown : List Column → Table → List Cell → List Cell → List Cell → Type 0
UpdatesToShown columns t before after row = (news : List (Option Cell)) × (new_values true (differing columns before after) t.columns ≡ Some news)
    × (sets_null t.columns news ≡ false) × HasShown t.columns columns after (with_news news row)
