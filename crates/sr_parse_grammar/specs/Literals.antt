-- Literals: a number, a text, NULL, or DATE and the text of a date.
use Rattle.std.specs.Prelude.{◌≡◌, ℕ, ◌-◌, ℤ, neg_ℤ, pos, int_le, ◌^◌, List, ◌∷◌, Option, Some, None, if◌then◌else◌, ◌⊎◌}
use Rattle.std.specs.Option.{option_map, option_and_then}
use Rattle.sr_base.specs.declared.value.Value.{Value}
use Rattle.sr_base.specs.declared.value.Value.TheVariants as value
use Rattle.sr_base.specs.Fitting.{is_int}
use Rattle.sr_base_dates.specs.Calendar.{day_named}
use Rattle.sr_ast.specs.declared.keyword.Keyword.TheVariants.{Null, Date}
use Rattle.sr_parse_grammar.specs.declared.symbol.Symbol.{Symbol}
use Rattle.sr_parse_grammar.specs.declared.symbol.Symbol.TheVariants as symbol
use Rattle.sr_parse_grammar.specs.Symbols.{Symbols, first, IsWord}

-- a number within 32 bits is an INTEGER, another one a BIGINT
abbrev pub number_value : ℤ → Value
number_value n = if is_int n then value.Int n else value.Big n

-- the literal that one symbol is
abbrev pub literal_meant : Symbol → Option Value
literal_meant (symbol.Number n) = Some (number_value n)
literal_meant (symbol.Text t) = Some (value.Str t)
literal_meant (symbol.Keyword Null) = Some value.Null
literal_meant s = None

-- the number with a `-`, where 64 bits hold it: always, since no number of a script is below 0
abbrev pub negated : ℤ → Option ℤ
negated n = if int_le (neg_ℤ (pos (2 ^ 63 - 1))) n then Some (neg_ℤ n) else None

-- the negative literal that a number makes behind a `-`: 2^63 makes one too
abbrev pub negative_meant : Symbol → Option Value
negative_meant (symbol.Number n) = option_map number_value (negated n)
negative_meant symbol.TopNumber = Some (value.Big (neg_ℤ (pos (2 ^ 63))))
negative_meant s = None

-- a literal of one symbol
pub record IsSingle (before : Symbols) (v : Value) (after : Symbols) : Type 0 where
  pub written : Symbol
  pub stands : before ≡ written ∷ after
  pub means : literal_meant written ≡ Some v

-- behind DATE: the text of a date
pub record IsDateText (before : Symbols) (v : Value) (after : Symbols) : Type 0 where
  pub text : List ℕ
  pub day : ℤ
  pub stands : before ≡ symbol.Text text ∷ after
  pub named : day_named text ≡ Some day
  pub means : v ≡ value.Date day

-- DATE and the text of a date
pub record IsDate (before : Symbols) (v : Value) (after : Symbols) : Type 0 where
  pub next : Symbols
  pub date : IsWord before Date next
  pub text : IsDateText next v after

abbrev pub IsLiteral : Symbols → Value → Symbols → Type 0
IsLiteral before v after = IsSingle before v after ⊎ IsDate before v after

-- a number behind a `-`
pub record IsNegative (before : Symbols) (v : Value) (after : Symbols) : Type 0 where
  pub number : Symbol
  pub stands : before ≡ number ∷ after
  pub means : negative_meant number ≡ Some v

-- whether a number is next, so that a `-` before it makes a literal
abbrev pub begins_number : Symbols → Option Value
begins_number symbols = option_and_then negative_meant (first symbols)
