-- Arithmetic on values. Past its type's end a number has no value.
-- Here is what no contract of the program says by itself.
use Rattle.std.specs.Prelude.{◌-◌, ℤ, ◌+ℤ◌, ◌-ℤ◌, ◌*ℤ◌}
use Rattle.sr_eval.specs.declared.number.Arithmetic.{Arithmetic}
use Rattle.sr_eval.specs.declared.number.Arithmetic.TheVariants.{Add, Subtract, Multiply}

-- the function that an operator is
abbrev pub function_of : Arithmetic → ℤ → ℤ → ℤ
function_of Add = ◌+ℤ◌
function_of Subtract = ◌-ℤ◌
function_of Multiply = ◌*ℤ◌
