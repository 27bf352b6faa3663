-- What an expression means over a row.
-- Here is what no contract of the program says by itself.
use Rattle.std.specs.Prelude.{◌≡◌, Bool, true, false, Option, Some, None, IsSome, IsTrue, Result, Ok, Err}
use Rattle.std.specs.Option.{option_map}
use Rattle.sr_base.specs.declared.value.Value.{Value as Cell}
use Rattle.sr_base.specs.declared.value.Value.TheVariants.{Null, Int, Big, Str, Date}
use Rattle.sr_eval.specs.declared.fault.EvalFault.{EvalFault}
use Rattle.sr_eval.specs.declared.fault.EvalFault.TheVariants.{Overflow, Memory}
use Rattle.sr_eval.specs.Meanings.{Meaning, cell_of, is_true}
use Rattle.sr_eval.specs.Meanings.Meaning.{value, truth}

-- whether there is a value, and it is a text
abbrev pub is_text : Option Meaning → Bool
is_text None = false
is_text (Some (value Null)) = false
is_text (Some (value (Int n))) = false
is_text (Some (value (Big n))) = false
is_text (Some (value (Str text))) = true
is_text (Some (value (Date day))) = false
is_text (Some (truth t)) = false

-- what `eval` answers: the value, or Overflow where there is none; a text may want memory
abbrev pub IsEvaluated : Result Cell EvalFault → Option Meaning → Type 0
IsEvaluated (Ok v) found = found ≡ Some (value v)
IsEvaluated (Err Overflow) found = found ≡ None
IsEvaluated (Err Memory) found = IsTrue (is_text found)

-- what `value_over` answers: the value, NULL in the place of a truth, or Overflow where there is none; a text may want memory
abbrev pub IsValued : Result Cell EvalFault → Option Meaning → Type 0
IsValued (Ok v) found = option_map cell_of found ≡ Some v
IsValued (Err Overflow) found = found ≡ None
IsValued (Err Memory) found = IsTrue (is_text found)

-- what `holds` answers: whether there is a value that is true, or Overflow where there is no value; it takes no memory
abbrev pub IsHeld : Result Bool EvalFault → Option Meaning → Type 0
IsHeld (Ok held) found = (held ≡ is_true found) × IsSome found
IsHeld (Err Overflow) found = found ≡ None
IsHeld (Err Memory) found = ⊥
