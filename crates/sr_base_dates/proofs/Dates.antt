-- The calendar's days one after another, and the text of each.
use Rattle.std.proofs.Common.{◌≡◌, ℕ, zero, suc, ◌+◌, ◌<◌, ◌≤◌, inl, inr, nat_lt, if◌then◌else◌, Bool, true, false, refl, sym, ap, subst, arith, rules, ℤ, pos, negsuc, ◌+ℤ◌, ◌-ℤ◌, ◌≤ℤ◌}
use Rattle.std.proofs.lemmas.Bool.{cases_order, ltb-true, ltb-false}
use Rattle.jiff_core.specs.declared.civil.date.Date.{Date}
use Rattle.jiff_core.specs.Calendar.{day_count, days_from_civil, days_in_month}
use Rattle.jiff_core.proofs.SignedLemmas.{signed_arith}
use Rattle.jiff_core.proofs.MarchLemmas.{day_count-early}
use Rattle.jiff_core.proofs.CalendarLemmas.{days_from_civil-day_count, day_count-lt_year, day_count-day_of_year, days_in_month_bounds}
use Rattle.jiff_core.proofs.DateLemmas.{epoch_day_injective, epoch_day_range, days_from_civil-day, days_from_civil-next_month, days_from_civil-next_year, days_from_civil-max}
use Rattle.sr_base_dates.specs.Calendar.{Civil, civil, date_after, date_at}

-- the calendar has the date
abbrev pub HasDate : Civil → Type 0
HasDate date = (1 ≤ date.year) × (1 ≤ date.month) × (date.month ≤ 12) × (1 ≤ date.day) × (date.day ≤ days_in_month (pos date.year) date.month)

abbrev pub day_number : Civil → ℤ
day_number date = days_from_civil (pos date.year) date.month date.day

day_count-first : day_count (pos 1) 1 1 ≡ 3_652_791
day_count-first = day_count-early (pos 1) 10000 1 1 refl (omega arith) (omega arith) (omega arith)

-- 0001-01-01
pub day_number-first : day_number (civil 1 1 1) ≡ negsuc 719_161
day_number-first = omega (arith, signed_arith, days_from_civil-day_count, day_count-first)

-- the second date is the day after the first
abbrev Follows : Civil → Civil → Type 0
Follows before date = HasDate date × (day_number date ≡ day_number before +ℤ pos 1)

in_month : (y m d : ℕ) → HasDate (civil y m d) → d < days_in_month (pos y) m → Follows (civil y m d) (civil y m (d + 1))
in_month y m d h lt =
    ((h.0, h.1, h.2, omega arith, omega arith), omega (arith, signed_arith, days_from_civil-day (pos y) m d (d + 1) h.3 (omega arith)))

in_year : (y m d : ℕ) → HasDate (civil y m d) → days_in_month (pos y) m ≤ d → m < 12 → Follows (civil y m d) (civil y (m + 1) 1)
in_year y m d h last lt =
    let long = days_in_month_bounds (pos y) (m + 1) in
    ((h.0, omega arith, omega arith, omega arith, omega arith), days_from_civil-next_month (pos y) m d h.1 (omega arith))

at_new_year : (y m d : ℕ) → HasDate (civil y m d) → days_in_month (pos y) m ≤ d → 12 ≤ m → Follows (civil y m d) (civil (y + 1) 1 1)
at_new_year y m d h last le =
    let december : m ≡ 12 = omega arith in
    let long = days_in_month_bounds (pos (y + 1)) 1 in
    let day : d ≡ 31 = subst (λ n. days_in_month (pos y) n ≤ d → d ≤ days_in_month (pos y) n → d ≡ 31) (sym december) (λ low high. omega arith) last h.4 in (
      (omega arith, omega arith, omega arith, omega arith, omega arith),
      subst (λ n. days_from_civil (pos (y + 1)) 1 1 ≡ days_from_civil (pos y) n d +ℤ pos 1) (sym december)
          (subst (λ n. days_from_civil (pos (y + 1)) 1 1 ≡ days_from_civil (pos y) 12 n +ℤ pos 1) (sym day)
          (days_from_civil-next_year (pos y) (pos (y + 1)) (omega (arith, signed_arith)) (omega (arith, signed_arith)))),
    )

past_month : (y m d : ℕ) (early : Bool) → nat_lt m 12 ≡ early → HasDate (civil y m d) → days_in_month (pos y) m ≤ d → Follows (civil y m d) (if early then civil y (m + 1) 1 else civil (y + 1) 1 1)
past_month y m d true e h last = in_year y m d h last (ltb-true m 12 e)
past_month y m d false e h last = at_new_year y m d h last (ltb-false m 12 e)

past_day : (y m d : ℕ) (early : Bool) → nat_lt d (days_in_month (pos y) m) ≡ early → HasDate (civil y m d) → Follows (civil y m d) (if early then civil y m (d + 1) else (if nat_lt m 12 then civil y (m + 1) 1 else civil (y + 1) 1 1))
past_day y m d true e h = in_month y m d h (ltb-true d _ e)
past_day y m d false e h = past_month y m d (nat_lt m 12) refl h (ltb-false d _ e)

follows : (date : Civil) → HasDate date → Follows date (date_after date)
follows date h = past_day date.year date.month date.day _ refl h

-- the date so many days after 0001-01-01 is of the calendar, and has that day number
pub date_at-number : (n : ℕ) → HasDate (date_at n) × (day_number (date_at n) ≡ pos n -ℤ pos 719_162)
unfolding date_at
date_at-number zero = ((omega arith, omega arith, omega arith, omega arith, omega arith), day_number-first)
date_at-number (suc n) =
    let before = date_at-number n in
    let next = follows (date_at n) before.0 in
    (next.0, omega (arith, signed_arith, before.1, next.1))

-- a date of the calendar is not before 0001-01-01
pub number_low : (date : Civil) → HasDate date → negsuc 719_161 ≤ℤ day_number date
number_low date h = elim (cases_order date.year 1) [
  | inl one ↦ omega (arith, signed_arith, days_from_civil-day_count (pos date.year) date.month date.day, day_count-day_of_year (pos date.year) date.month date.day h.3, day_count-day_of_year (pos 1) 1 1 (omega arith), day_count-first, ap (λ y. day_count (pos y) 1 1) one)
  | inr (inl before) ↦ absurd (omega arith)
  | inr (inr later) ↦ omega (arith, signed_arith, days_from_civil-day_count (pos date.year) date.month date.day, days_from_civil-day_count (pos 1) 1 1, day_count-first, day_count-lt_year (pos 1) 1 1 (pos date.year) date.month date.day (search rules) h.3 (omega (arith, signed_arith)))
]

-- a date whose day is not after 9999-12-31 has a year of four digits
pub year_high : (date : Civil) → HasDate date → day_number date ≤ℤ pos 2_932_896 → date.year ≤ 9999
year_high date h low = elim (cases_order date.year 9999) [
  | inl same ↦ omega arith
  | inr (inl before) ↦ omega arith
  | inr (inr later) ↦ absurd (omega (arith, signed_arith, days_from_civil-day_count (pos date.year) date.month date.day, days_from_civil-day_count (pos 9999) 12 31, days_from_civil-max, day_count-lt_year (pos 9999) 12 31 (pos date.year) date.month date.day (search rules) h.3 (omega (arith, signed_arith))))
]

jiff_date : (date : Civil) → HasDate date → date.year ≤ 9999 → Date
jiff_date date h year = record { year = pos date.year; month = date.month; day = date.day; year_in = omega (arith, signed_arith); month_in = (h.1, h.2); day_in = (h.3, h.4) }

-- and where its year has four digits, not after 9999-12-31
pub number_high : (date : Civil) → HasDate date → date.year ≤ 9999 → day_number date ≤ℤ pos 2_932_896
unfolding jiff_date
number_high date h year = (epoch_day_range (jiff_date date h year)).1

-- dates of one day number are one
pub same_date : (a b : Civil) → HasDate a → HasDate b → a.year ≤ 9999 → b.year ≤ 9999 → day_number a ≡ day_number b → a ≡ b
unfolding jiff_date
same_date a b ha hb ya yb e =
    let parts = epoch_day_injective (jiff_date a ha ya) (jiff_date b hb yb) e in
    let year : a.year ≡ b.year = cc parts.0 in
    λ i. record { year = year i; month = parts.1 i; day = parts.2 i }
