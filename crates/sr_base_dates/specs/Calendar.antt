-- Dates by year, month and day, and their texts.
use Rattle.std.specs.Prelude.{ℕ, zero, suc, ◌+◌, ◌-◌, ◌*◌, ◌/◌, ◌%◌, nat_lt, nat_le, nat_eq, Bool, ◌&&◌, if◌then◌else◌, ℤ, pos, ◌+ℤ◌, unsigned_abs, List, [], ◌∷◌, ◌++◌, Option, Some, None}
use Rattle.std.specs.List.{list_all}
use Rattle.jiff_core.specs.Calendar.{days_in_month, days_from_civil}
use Rattle.sr_base.specs.Names.{is_digit}

-- a date of the proleptic Gregorian calendar
pub record Civil : Type 0 where
  pub year : ℕ
  pub month : ℕ
  pub day : ℕ

abbrev pub civil : ℕ → ℕ → ℕ → Civil
civil year month day = record { year = year; month = month; day = day }

-- the date after a date
abbrev pub date_after : Civil → Civil
date_after date =
    if nat_lt date.day (days_in_month (pos date.year) date.month) then civil date.year date.month (date.day + 1)
    else (if nat_lt date.month 12 then civil date.year (date.month + 1) 1 else civil (date.year + 1) 1 1)

-- the date so many days after 0001-01-01
unfoldable pub date_at : ℕ → Civil
date_at zero = civil 1 1 1
date_at (suc days) = date_after (date_at days)

-- the last digits of a number: two, and four
abbrev pub two_digits : ℕ → List ℕ
two_digits n = (48 + n / 10 % 10) ∷ (48 + n % 10) ∷ []

abbrev pub four_digits : ℕ → List ℕ
four_digits n = two_digits (n / 100) ++ two_digits n

-- a date as YYYY-MM-DD
abbrev pub civil_text : Civil → List ℕ
civil_text date = four_digits date.year ++ 45 ∷ two_digits date.month ++ 45 ∷ two_digits date.day

-- a day since 1970-01-01 as YYYY-MM-DD: 0001-01-01 is day -719162
abbrev pub date_text : ℤ → List ℕ
date_text day = civil_text (date_at (unsigned_abs (day +ℤ pos 719162)))

-- the calendar has this date, and it is not before the year 1
abbrev pub is_date : Civil → Bool
is_date date =
    nat_le 1 date.year && nat_le 1 date.month && nat_le date.month 12 && nat_le 1 date.day
    && nat_le date.day (days_in_month (pos date.year) date.month)

-- the number that two digits write
abbrev pub number_of_two : ℕ → ℕ → ℕ
number_of_two tens ones = 10 * (tens - 48) + (ones - 48)

-- the day since 1970-01-01 that a text YYYY-MM-DD names
abbrev pub day_named : List ℕ → Option ℤ
day_named (a ∷ b ∷ c ∷ d ∷ dash ∷ e ∷ f ∷ dash₂ ∷ g ∷ h ∷ []) =
    let date = civil (100 * number_of_two a b + number_of_two c d) (number_of_two e f) (number_of_two g h) in
    if list_all is_digit (a ∷ b ∷ c ∷ d ∷ e ∷ f ∷ g ∷ h ∷ []) && nat_eq dash 45 && nat_eq dash₂ 45 && is_date date
    then Some (days_from_civil (pos date.year) date.month date.day) else None
day_named _ = None
