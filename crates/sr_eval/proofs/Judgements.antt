-- The truth of what an operator gives, by the truths of its operands.
use Rattle.std.proofs.Common.{◌≡◌, Option, Some, None, refl}
use Rattle.std.specs.Option.{option_map}
use Rattle.sr_ast.specs.declared.operator.Unary.TheVariants.{Not}
use Rattle.sr_ast.specs.declared.operator.Binary.TheVariants.{Or, And}
use Rattle.sr_eval.specs.declared.truth.Truth.{Truth}
use Rattle.sr_eval.specs.Truths.{not_of, and_of, or_of}
use Rattle.sr_eval.specs.Meanings.{Meaning, unary_meaning, binary_meaning, of_one, of_both, truth_of}

abbrev pub of_truths : (Truth → Truth → Truth) → Option Truth → Option Truth → Option Truth
of_truths f None b = None
of_truths f (Some a) None = None
of_truths f (Some a) (Some b) = Some (f a b)

pub not_judged : (m : Option Meaning) → option_map truth_of (of_one (unary_meaning Not) m) ≡ option_map not_of (option_map truth_of m)
not_judged None = refl
not_judged (Some a) = refl

pub and_judged : (m n : Option Meaning) → option_map truth_of (of_both (binary_meaning And) m n) ≡ of_truths and_of (option_map truth_of m) (option_map truth_of n)
and_judged None n = refl
and_judged (Some a) None = refl
and_judged (Some a) (Some b) = refl

pub or_judged : (m n : Option Meaning) → option_map truth_of (of_both (binary_meaning Or) m n) ≡ of_truths or_of (option_map truth_of m) (option_map truth_of n)
or_judged None n = refl
or_judged (Some a) None = refl
or_judged (Some a) (Some b) = refl
