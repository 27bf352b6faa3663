-- Comparisons of values.
-- Here is what no contract of the program says by itself.
use Rattle.std.specs.Prelude.{Bool}
use Rattle.std.specs.Ordering.{is_eq, is_ne, is_lt, is_le, is_gt, is_ge}
use Rattle.std.specs.declared.cmp.Ordering.{Ordering}
use Rattle.sr_eval.specs.declared.comparison.Sign.{Sign}
use Rattle.sr_eval.specs.declared.comparison.Sign.TheVariants.{Equal, Unequal, Less, AtMost, Greater, AtLeast}

-- the test that a sign is
abbrev pub test_of : Sign → Ordering → Bool
test_of Equal = is_eq
test_of Unequal = is_ne
test_of Less = is_lt
test_of AtMost = is_le
test_of Greater = is_gt
test_of AtLeast = is_ge
