-- Where the fields of a snapshot break: a name and a text at their length, a value at its tag or at the field behind it.
use Rattle.std.specs.Prelude.{ℕ, ◌-◌, List, length, max, Result, Ok, Err}
use Rattle.sr_base.specs.Fields.{name_at}
use Rattle.sr_base.specs.Reading.{Read, text_at, value_at}
use Rattle.sr_base.specs.declared.value.Value.{Value}

-- what was read; where it broke, so many bytes are left at least
abbrev pub with_left : {A : Type 0} → ℕ → Result (A × List ℕ) ℕ → Result (A × List ℕ) ℕ
with_left least (Ok found) = Ok found
with_left least (Err left) = Err (max least left)

-- a reading that breaks so many bytes behind its first one at most
abbrev pub breaking_by : {A : Type 0} → ℕ → (List ℕ → Read A) → List ℕ → Read A
breaking_by skip reading bytes = with_left (length bytes - skip) (reading bytes)

-- a name and a text are one field each, with their length
abbrev pub name_in : List ℕ → Read (List ℕ)
name_in = breaking_by 0 name_at

abbrev pub text_in : List ℕ → Read (List ℕ)
text_in = breaking_by 0 text_at

-- a value is a tag and one field
abbrev pub value_in : List ℕ → Read Value
value_in = breaking_by 1 value_at
