-- Comparisons of values.
use Rattle.std.specs.Prelude.{Bool, true, false, Option, Some, None}
use Rattle.std.specs.declared.cmp.Ordering.{Ordering}
use Rattle.sr_base.specs.Order.{compared}
use Rattle.sr_base.specs.declared.value.Value.{Value}
use Rattle.sr_base.specs.declared.value.Value.TheVariants.{Null, Int, Big, Str, Date}
use Rattle.sr_eval.specs.declared.truth.Truth.{Truth}
use Rattle.sr_eval.specs.declared.truth.Truth.TheVariants.{Unknown}
use Rattle.sr_eval.specs.Truths.{known}

-- whether a value is NULL
abbrev pub is_null : Value → Bool
is_null Null = true
is_null (Int n) = false
is_null (Big n) = false
is_null (Str text) = false
is_null (Date day) = false

-- the truth of a test of how two values compare; unknown where they do not, as NULL with anything
abbrev pub tested : (Ordering → Bool) → Option Ordering → Truth
tested test (Some order) = known (test order)
tested test None = Unknown

abbrev pub comparison : (Ordering → Bool) → Value → Value → Truth
comparison test a b = tested test (compared a b)
