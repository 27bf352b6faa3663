-- What a column of a kind holds for a value.
use Rattle.std.specs.Prelude.{ℕ, nat_le, if◌then◌else◌, ℤ, List, length, Option, Some, None}
use Rattle.std.specs.Option.{option_map}
use Rattle.sr_base.specs.declared.value.Kind.{Kind}
use Rattle.sr_base.specs.declared.value.Kind.TheVariants as kind
use Rattle.sr_base.specs.declared.value.Value.{Value}
use Rattle.sr_base.specs.declared.value.Value.TheVariants.{Null, Int, Big, Str, Date}
use Rattle.sr_base.specs.Fitting.{is_int}
use Rattle.sr_base_dates.specs.Calendar.{day_named}

-- a number in a column of a type
abbrev pub fitted_number : ℤ → Kind → Option Value
fitted_number n kind.Int = if is_int n then Some (Int n) else None
fitted_number n kind.Big = Some (Big n)
fitted_number n (kind.Varchar limit) = None
fitted_number n kind.Date = None

-- a text in a column of a type
abbrev pub fitted_text : List ℕ → Kind → Option Value
fitted_text text kind.Int = None
fitted_text text kind.Big = None
fitted_text text (kind.Varchar limit) = if nat_le (length text) limit then Some (Str text) else None
fitted_text text kind.Date = option_map Date (day_named text)

-- a date in a column of a type
abbrev pub fitted_date : ℤ → Kind → Option Value
fitted_date day kind.Int = None
fitted_date day kind.Big = None
fitted_date day (kind.Varchar limit) = None
fitted_date day kind.Date = Some (Date day)

-- what a column of a type holds for a value: nothing where the value does not fit it
abbrev pub fitted : Value → Kind → Option Value
fitted Null kind = Some Null
fitted (Int n) kind = fitted_number n kind
fitted (Big n) kind = fitted_number n kind
fitted (Str text) kind = fitted_text text kind
fitted (Date day) kind = fitted_date day kind
