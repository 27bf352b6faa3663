-- What a column and a variable hold for a value.
use Rattle.std.specs.Prelude.{ℕ, ◌&&◌, cond, List, Option, Some, None}
use Rattle.std.specs.Option.{option_and_then}
use Rattle.sr_base.specs.declared.value.Kind.{Kind}
use Rattle.sr_base.specs.declared.value.Value.{Value as Cell}
use Rattle.sr_base_dates.specs.Fitting.{fitted}
use Rattle.sr_eval.specs.Comparisons.{is_null}
use Rattle.sr_catalog_schema.specs.declared.table.Column.{Column}

-- a value that fits a column stands there, but NULL where the column is NOT NULL
abbrev pub standing : Column → Cell → Option Cell
standing c v = cond (c.not_null && is_null v) None (Some v)

-- what a column holds for a value: nothing where there is no value, where it does not fit, or where it is NULL and may not stand
abbrev pub held_by : Column → Option Cell → Option Cell
held_by c v = option_and_then (standing c) (option_and_then (λ v. fitted v c.kind) v)

-- what a variable holds for a value: nothing where there is no value, or where it does not fit
abbrev pub held_in : List ℕ × Kind → Option Cell → Option Cell
held_in variable v = option_and_then (λ v. fitted v variable.1) v
