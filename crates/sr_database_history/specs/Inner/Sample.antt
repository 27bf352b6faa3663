-- A small history that has an entry of every kind.
use Rattle.std.specs.Prelude.{ℕ, Bool, true, false, List, [], ◌∷◌, Some, None, codes, pos}
use Rattle.sr_base.specs.Values.{offset_from}
use Rattle.sr_base.specs.declared.value.Kind.TheVariants as kind
use Rattle.sr_base.specs.declared.value.Value.{Value as Cell}
use Rattle.sr_base.specs.declared.value.Value.TheVariants.{Null, Int}
use Rattle.sr_ast.specs.declared.create.ColumnRule.{ColumnRule}
use Rattle.sr_ast.specs.declared.create.CreateTable.{CreateTable}
use Rattle.sr_ast.specs.declared.create.Grant.{Grant}
use Rattle.sr_ast.specs.declared.stmt.Stmt.TheVariants.{CreateTable as Create, DropTable, GrantRemote}
use Rattle.sr_book.specs.Entries.{Name}
use Rattle.sr_book.specs.declared.note.Note.TheVariants.{Raised}
use Rattle.sr_logform.specs.declared.change.Change.{Change}
use Rattle.sr_logform.specs.declared.op.Op.TheVariants.{Insert, Remove, Set}
use Rattle.sr_logform.specs.declared.outcome.Clash.TheVariants.{NoRow}
use Rattle.sr_parse_grammar.specs.Inner.Made.{column_of, grant_of}
use Rattle.sr_database_history.specs.Recorded.{Done, plain, ran, conflict, clash}
use Rattle.sr_database_history.specs.Recorded.{Recorded, own, taken, ddl, sync, pass, note}

abbrev pub cons : Name
cons = codes "cons"

abbrev pub r1 : Name
r1 = codes "r1"

abbrev pub table_t : Name
table_t = codes "t"

abbrev pub table_u : Name
table_u = codes "u"

abbrev pub column_id : Name
column_id = codes "id"

abbrev pub column_n : Name
column_n = codes "n"

-- a column of integers, behind CREATE TABLE
abbrev pub integer : Name → Bool → ColumnRule
integer name not_null = column_of name kind.Int not_null

-- TO user, behind GRANT REMOTE and GRANT CONSOLIDATE
abbrev pub grant : Name → Grant
grant user = grant_of user None

-- CREATE TABLE t (id INTEGER NOT NULL, n INTEGER, PRIMARY KEY (id))
abbrev pub create_t : CreateTable
create_t = record {
  name = table_t;
  columns = integer column_id true ∷ integer column_n false ∷ [];
  key = column_id ∷ [];
}

-- CREATE TABLE u (id INTEGER NOT NULL, PRIMARY KEY (id))
abbrev pub create_u : CreateTable
create_u = record { name = table_u; columns = integer column_id true ∷ []; key = column_id ∷ [] }

-- the row of a key in t
abbrev pub row : ℕ → Cell → List Cell
row key value = Int (pos key) ∷ value ∷ []

-- a row that is inserted into t
abbrev pub inserted : List Cell → Change
inserted after = record { table = table_t; before = None; after = Some after }

-- what r1 sent: an update that met another value, a new row, a table, and the removal of a row that is not held
abbrev pub from_r1 : List Done
from_r1 = conflict (Set table_t ((column_id, Int (pos 1)) ∷ []) ((column_n, Int (pos 5), Int (pos 7)) ∷ [])) [] (row 1 (Int (pos 2147483647)))
    (row 1 (Int (pos 7)))
    ∷ plain (Insert table_t ((column_id, Int (pos 2)) ∷ [])) (inserted (row 2 Null) ∷ [])
    ∷ ran (Create create_u) []
    ∷ clash (Remove table_t ((column_id, Int (pos 9)) ∷ [])) NoRow
    ∷ []

-- a table and a row; a partner, its view, and what it sent; the table u dropped here and there, t only there; and a note
abbrev pub sample : List Recorded
sample = ddl (Create create_t)
    ∷ own (inserted (row 1 (Int (pos 2147483647))) ∷ [])
    ∷ ddl (GrantRemote (grant r1))
    ∷ sync r1 ((table_t, row 1 (Int (pos 2147483647)) ∷ []) ∷ [])
    ∷ taken r1 (offset_from 15) from_r1
    ∷ pass (r1 ∷ []) false (DropTable table_u) []
    ∷ pass (r1 ∷ []) true (DropTable table_t) []
    ∷ note r1 Raised
    ∷ []
