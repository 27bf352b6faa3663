-- How a value stands in SQL.
use Rattle.std.specs.Prelude.{ℕ, nat_eq, if◌then◌else◌, List, [], ◌∷◌, ◌++◌, codes}
use Rattle.std.specs.Fmt.{signed_decimal}
use Rattle.sr_base.specs.declared.value.Value.{Value}
use Rattle.sr_base.specs.declared.value.Value.TheVariants.{Null, Int, Big, Str, Date}
use Rattle.sr_base_dates.specs.Calendar.{date_text}

-- the bytes with each quote twice
abbrev pub quotes_doubled : List ℕ → List ℕ
quotes_doubled [] = []
quotes_doubled (byte ∷ bytes) = (if nat_eq byte 39 then 39 ∷ 39 ∷ [] else byte ∷ []) ++ quotes_doubled bytes

-- a value as SQL writes it: NULL, a decimal number, a text in quotes, a date as YYYY-MM-DD
abbrev pub literal : Value → List ℕ
literal Null = codes "NULL"
literal (Int n) = signed_decimal n
literal (Big n) = signed_decimal n
literal (Str text) = 39 ∷ quotes_doubled text ++ 39 ∷ []
literal (Date day) = date_text day
