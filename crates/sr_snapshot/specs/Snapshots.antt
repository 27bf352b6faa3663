-- The bytes of a snapshot.
use Rattle.std.specs.Prelude.{◌≡◌, ◌≤◌, ℕ, List, ◌++◌, length, map}
use Rattle.std.specs.Int.{w64, to_be_bytes}
use Rattle.sr_ast.specs.Layout.{printed}
use Rattle.sr_base.specs.Fields.{name_spelling, bytes_spelling, list_spelling}
use Rattle.sr_base.specs.declared.value.Value.{Value as Cell}
use Rattle.sr_book.specs.Entries.{Name}
use Rattle.sr_catalog_schema.specs.declared.table.Table.{Table}
use Rattle.sr_catalog_script_laws.specs.Scripts.{statements}
use Rattle.sr_logform.specs.Entries.{table_spelling}
use Rattle.sr_rows.specs.Marks.{RowMap}
use Rattle.sr_rows.specs.Walks.{table_rows}
use Rattle.sr_snapshot.specs.Beginnings.{Beginning, IsBeginning}
use Rattle.sr_snapshot.specs.Parts.{book_line, longest, magic, rows_of}

-- a table, and its rows by ascending key
abbrev pub rows_in : RowMap → Table → Name × List (List Cell)
rows_in rows t = (t.name, rows_of (table_rows rows t.name))

-- the magic, the offset, the publisher, the catalog's statements as they print, the tables with their rows, the books; and nothing behind them
abbrev pub snapshot_spelling : Beginning → List ℕ
snapshot_spelling b = magic ++ (to_be_bytes w64 b.place ++ (name_spelling b.state.catalog.publisher
    ++ (list_spelling bytes_spelling (map printed (statements b.state.catalog))
    ++ (list_spelling table_spelling (map (rows_in b.state.rows) b.state.catalog.tables) ++ list_spelling book_line b.books))))

-- the bytes are a snapshot of this beginning
pub record IsSnapshot (b : Beginning) (bytes : List ℕ) : Type 0 where
  pub is : IsBeginning b
  pub bytes_are : bytes ≡ snapshot_spelling b
  pub short : length bytes ≤ longest
