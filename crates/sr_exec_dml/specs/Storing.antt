-- The values that the columns of a row take.
use Rattle.std.specs.Prelude.{ℕ, cond, List, [], ◌∷◌, Option, Some, None, Result, Ok, Err, bytes_eq}
use Rattle.sr_base.specs.declared.value.Value.{Value as Cell}
use Rattle.sr_base.specs.declared.value.Value.TheVariants.{Null, Int, Big, Str, Date}
use Rattle.sr_base_dates.specs.Fitting.{fitted}
use Rattle.sr_ast.specs.Exprs.{term_of}
use Rattle.sr_ast.specs.declared.expr.Expr.{Expr}
use Rattle.sr_eval.specs.Meanings.{Meaning, meaning, cell_of}
use Rattle.sr_eval.specs.Meanings.Meaning.{value}
use Rattle.sr_catalog_schema.specs.declared.table.Column.{Column}
use Rattle.sr_catalog_schema.specs.declared.fault.DmlFault.{DmlFault}
use Rattle.sr_catalog_schema.specs.declared.fault.DmlFault.TheVariants as fault
use Rattle.sr_exec_where.specs.Checks.{Scope}
use Rattle.sr_exec_where.specs.Naming.{set_for}
use Rattle.sr_exec_dml.specs.Sequences.{front}

-- a value that fits, where NULL may be forbidden
abbrev pub allowed : Column → Cell → Result Cell DmlFault
allowed column Null = cond column.not_null (Err (fault.Null column.name)) (Ok Null)
allowed column (Int n) = Ok (Int n)
allowed column (Big n) = Ok (Big n)
allowed column (Str text) = Ok (Str text)
allowed column (Date day) = Ok (Date day)

-- what fits the column
abbrev pub fitting : Column → Option Cell → Result Cell DmlFault
fitting column None = Err (fault.BadValue column.name)
fitting column (Some v) = allowed column v

-- what the column takes of an expression's value: Overflow, then BadValue, then Null
abbrev pub stored : Column → Option Meaning → Result Cell DmlFault
stored column None = Err fault.Overflow
stored column (Some m) = fitting column (fitted (cell_of m) column.kind)

-- the expression of an INSERT's row that stands for a column
abbrev pub value_for : List (List ℕ) → List Expr → List ℕ → Option Expr
value_for [] es column = None
value_for (name ∷ names) [] column = None
value_for (name ∷ names) (e ∷ es) column = cond (bytes_eq name column) (Some e) (value_for names es column)

-- a constant's value; NULL where no value is given
abbrev pub constant : Option Expr → Option Meaning
constant None = Some (value Null)
constant (Some e) = meaning [] [] (term_of e)

-- the row of an INSERT
abbrev pub inserted_row : List (List ℕ) → List Expr → List Column → Result (List Cell) DmlFault
inserted_row names es [] = Ok []
inserted_row names es (c ∷ columns) = front (stored c (constant (value_for names es c.name))) (inserted_row names es columns)

-- what a column takes in an UPDATE: its value on the old row, or the value that it has
abbrev pub updated_value : Scope → List Cell → Column → Cell → Option Expr → Result Cell DmlFault
updated_value scope row column old None = Ok old
updated_value scope row column old (Some e) = stored column (meaning scope row (term_of e))

-- the row of an UPDATE, by columns and their old values
abbrev pub updated_row : Scope → List Cell → List (List ℕ × Expr) → List Column → List Cell → Result (List Cell) DmlFault
updated_row scope row sets [] olds = Ok []
updated_row scope row sets (c ∷ columns) [] = Ok []
updated_row scope row sets (c ∷ columns) (old ∷ olds) = front (updated_value scope row c old (set_for sets c.name)) (updated_row scope row sets columns olds)
