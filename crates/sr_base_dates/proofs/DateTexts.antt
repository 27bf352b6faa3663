-- A text names a day exactly where it is the day's text.
use Rattle.std.proofs.Common.{◌≡◌, ℕ, ◌+◌, ◌*◌, ◌/◌, ◌%◌, ◌<◌, ◌≤◌, nat_eq, if◌then◌else◌, ◌&&◌, Bool, true, false, List, [], ◌∷◌, ◌++◌, Option, Some, None, refl, sym, ap, subst, ◌∙◌, arith, IsTrue, get_or, length, to_z, of_z, w8, w16, w32, ◌^◌, ℤ, pos, negsuc, ◌+ℤ◌, ◌≤ℤ◌, unsigned_abs}
use Rattle.std.proofs.lemmas.Bool.{eqb-true, eq-eqb}
use Rattle.std.proofs.lemmas.Bool.Decides.{nat_tests}
use Rattle.std.proofs.lemmas.Int.{to_z_pos, to_z-of_z, by_lt_z}
use Rattle.std.specs.Option.{SomeIff}
use Rattle.jiff_core.specs.declared.civil.date.Date.{Date}
use Rattle.jiff_core.specs.Date.{epoch_day}
use Rattle.jiff_core.specs.Calendar.{days_from_civil, days_in_month, IsDate}
use Rattle.jiff_core.proofs.CalendarLemmas.{days_in_month_bounds, days_from_civil-day_count, day_count-lt_year}
use Rattle.jiff_core.proofs.DateLemmas.{civil as civil_parts}
use Rattle.jiff_core.proofs.SignedLemmas.{signed_arith}
use Rattle.sr_base.specs.Names.{is_digit}
use Rattle.sr_base.specs.Days.{IsDay}
use Rattle.sr_base.proofs.Truths.{both_true}
use Rattle.sr_base_dates.specs.Calendar.{Civil, civil, date_at, two_digits, four_digits, civil_text, date_text, is_date, number_of_two, day_named}
use Rattle.sr_base_dates.proofs.Dates.{HasDate, day_number, date_at-number, day_number-first, number_low, number_high, year_high, same_date}

digit_range : (n : ℕ) → is_digit n ≡ true → (48 ≤ n) × (n ≤ 57)
digit_range n e = grind (arith, nat_tests)

has_date : (date : Civil) → is_date date ≡ true → HasDate date
has_date date e = grind (arith, nat_tests)

is_date-has_date : (date : Civil) → HasDate date → is_date date ≡ true
is_date-has_date date h = grind (arith, nat_tests)

-- the digits of the number that two digits write are these two
digits_of_two : (a b : ℕ) → is_digit a ≡ true → is_digit b ≡ true → two_digits (number_of_two a b) ≡ a ∷ b ∷ []
digits_of_two a b ha hb =
    let ra = digit_range a ha in
    let rb = digit_range b hb in
    let first : 48 + number_of_two a b / 10 % 10 ≡ a = omega arith in
    let second : 48 + number_of_two a b % 10 ≡ b = omega arith in
    λ i. first i ∷ second i ∷ []

digits_of_four : (a b c d : ℕ) → is_digit a ≡ true → is_digit b ≡ true → is_digit c ≡ true → is_digit d ≡ true → four_digits (100 * number_of_two a b + number_of_two c d) ≡ a ∷ b ∷ c ∷ d ∷ []
digits_of_four a b c d ha hb hc hd =
    let ra = digit_range a ha in
    let rb = digit_range b hb in
    let rc = digit_range c hc in
    let rd = digit_range d hd in
    let n = 100 * number_of_two a b + number_of_two c d in
    let prefix : n / 100 ≡ number_of_two a b = omega arith in
    let third : 48 + n / 10 % 10 ≡ c = omega arith in
    let fourth : 48 + n % 10 ≡ d = omega arith in
    rw prefix (λ i. digits_of_two a b ha hb i ++ third i ∷ fourth i ∷ [])

-- two digits write a number below 100, and are digits
two_digits-number : (n : ℕ) → n < 100 → number_of_two (48 + n / 10 % 10) (48 + n % 10) ≡ n
two_digits-number n h = omega arith

is_digit-glyph : (n : ℕ) → is_digit (48 + n % 10) ≡ true
is_digit-glyph n = grind (arith, nat_tests)

pos-unsigned_abs : (z : ℤ) → pos 0 ≤ℤ z → pos (unsigned_abs z) ≡ z
pos-unsigned_abs (pos n) h = refl
pos-unsigned_abs (negsuc n) h = absurd (omega (arith, signed_arith, h))

-- the day of a date, and the date of a day
pub date_at-day_number : (date : Civil) → HasDate date → date.year ≤ 9999 → date_at (unsigned_abs (day_number date +ℤ pos 719_162)) ≡ date
date_at-day_number date h year =
    let n = unsigned_abs (day_number date +ℤ pos 719_162) in
    let low = number_low date h in
    let high = number_high date h year in
    let whole = pos-unsigned_abs (day_number date +ℤ pos 719_162) (omega (arith, signed_arith)) in
    let at = date_at-number n in
    let same : day_number (date_at n) ≡ day_number date = omega (arith, signed_arith) in
    same_date (date_at n) date at.0 h (year_high (date_at n) at.0 (omega (arith, signed_arith))) year same

pub is_day-number : (date : Civil) → HasDate date → date.year ≤ 9999 → IsDay (day_number date)
is_day-number date h year = record { first = number_low date h; last = number_high date h year }

-- the tests of a text
abbrev all_digits : ℕ → ℕ → ℕ → ℕ → ℕ → ℕ → ℕ → ℕ → Bool
all_digits a b c d e f g h = is_digit a && (is_digit b && (is_digit c && (is_digit d && (is_digit e && (is_digit f && (is_digit g && (is_digit h && true)))))))

some_if : (b : Bool) (n day : ℤ) → (if b then Some n else None) ≡ Some day → (b ≡ true) × (n ≡ day)
some_if true n day e = (refl, cc)
some_if false n day e = cc

all_eight : (p q r s t u v w : Bool) → (p && (q && (r && (s && (t && (u && (v && (w && true)))))))) ≡ true → (p ≡ true) × (q ≡ true) × (r ≡ true) × (s ≡ true) × (t ≡ true) × (u ≡ true) × (v ≡ true) × (w ≡ true)
all_eight p q r s t u v w e =
    let at_p = both_true p _ e in
    let at_q = both_true q _ at_p.1 in
    let at_r = both_true r _ at_q.1 in
    let at_s = both_true s _ at_r.1 in
    let at_t = both_true t _ at_s.1 in
    let at_u = both_true u _ at_t.1 in
    let at_v = both_true v _ at_u.1 in
    let at_w = both_true w _ at_v.1 in
    (at_p.0, at_q.0, at_r.0, at_s.0, at_t.0, at_u.0, at_v.0, at_w.0)

-- the text of the date that such bytes write is these bytes
spelled : (a b c d x e f y g h : ℕ) → (is_digit a ≡ true) × (is_digit b ≡ true) × (is_digit c ≡ true) × (is_digit d ≡ true) × (is_digit e ≡ true) × (is_digit f ≡ true) × (is_digit g ≡ true) × (is_digit h ≡ true) → x ≡ 45 → y ≡ 45
    → civil_text (civil (100 * number_of_two a b + number_of_two c d) (number_of_two e f) (number_of_two g h)) ≡ a ∷ b ∷ c ∷ d ∷ x ∷ e ∷ f ∷ y ∷ g ∷ h ∷ []
spelled a b c d x e f y g h digits x_is y_is =
    let year = digits_of_four a b c d digits.0 digits.1 digits.2 digits.3 in
    let month = digits_of_two e f digits.4 digits.5 in
    let day = digits_of_two g h digits.6 digits.7 in
    λ i. year i ++ sym x_is i ∷ month i ++ sym y_is i ∷ day i

-- what a text names is a day of the calendar, and the text is that day's
pub day_named-text : (text : List ℕ) (day : ℤ) → day_named text ≡ Some day → IsDay day × (date_text day ≡ text)
day_named-text (a ∷ b ∷ c ∷ d ∷ x ∷ e ∷ f ∷ y ∷ g ∷ h ∷ []) day is =
    let date = civil (100 * number_of_two a b + number_of_two c d) (number_of_two e f) (number_of_two g h) in
    let all = all_digits a b c d e f g h in
    let found = some_if (all && nat_eq x 45 && nat_eq y 45 && is_date date) (day_number date) day is in
    let passed = both_true (all && nat_eq x 45 && nat_eq y 45) (is_date date) found.0 in
    let before = both_true (all && nat_eq x 45) (nat_eq y 45) passed.0 in
    let dash = both_true all (nat_eq x 45) before.0 in
    let digits = all_eight (is_digit a) (is_digit b) (is_digit c) (is_digit d) (is_digit e) (is_digit f) (is_digit g) (is_digit h) dash.0 in
    let at_a = digit_range a digits.0 in
    let at_b = digit_range b digits.1 in
    let at_c = digit_range c digits.2 in
    let at_d = digit_range d digits.3 in
    let year : date.year ≤ 9999 = omega arith in
    let has = has_date date passed.1 in
    let x_is : x ≡ 45 = eqb-true x 45 dash.1 in
    let y_is : y ≡ 45 = eqb-true y 45 before.1 in
    let same = date_at-day_number date has year in
    subst (λ n. IsDay n × (date_text n ≡ a ∷ b ∷ c ∷ d ∷ x ∷ e ∷ f ∷ y ∷ g ∷ h ∷ [])) found.1
    (is_day-number date has year, ap civil_text same ∙ spelled a b c d x e f y g h digits x_is y_is)
day_named-text _ day is = cc

-- the text of a date names its day
day_named-civil_text : (date : Civil) → HasDate date → date.year ≤ 9999 → day_named (civil_text date) ≡ Some (day_number date)
day_named-civil_text date h high =
    let month_days = days_in_month_bounds (pos date.year) date.month in
    let prefix = two_digits-number (date.year / 100) (omega arith) in
    let year : 100 * number_of_two (48 + date.year / 100 / 10 % 10) (48 + date.year / 100 % 10) + number_of_two (48 + date.year / 10 % 10) (48 + date.year % 10) ≡ date.year = omega arith in
    let month = two_digits-number date.month (omega arith) in
    let day = two_digits-number date.day (omega arith) in
    let good = ap is_date (λ i. civil (year i) (month i) (day i)) ∙ is_date-has_date date h in
    let a = is_digit-glyph (date.year / 100 / 10) in
    let b = is_digit-glyph (date.year / 100) in
    let c = is_digit-glyph (date.year / 10) in
    let d = is_digit-glyph date.year in
    let e = is_digit-glyph (date.month / 10) in
    let f = is_digit-glyph date.month in
    let g = is_digit-glyph (date.day / 10) in
    let k = is_digit-glyph date.day in
    λ i. if (a i && (b i && (c i && (d i && (e i && (f i && (g i && (k i && true)))))))) && true && true && good i
    then Some (days_from_civil (pos (year i)) (month i) (day i)) else None

-- the text of a day names it
pub day_named-date_text : (day : ℤ) → IsDay day → day_named (date_text day) ≡ Some day
day_named-date_text day h =
    let n = unsigned_abs (day +ℤ pos 719_162) in
    let whole = pos-unsigned_abs (day +ℤ pos 719_162) (omega (arith, signed_arith, h.first)) in
    let at = date_at-number n in
    let is : day_number (date_at n) ≡ day = omega (arith, signed_arith, at.1) in
    let year = year_high (date_at n) at.0 (omega (arith, signed_arith, h.last)) in
    day_named-civil_text (date_at n) at.0 year ∙ ap Some is

-- a day is named by its text
pub only_day : (text : List ℕ) (day : ℤ) → IsDay day → date_text day ≡ text → day_named text ≡ Some day
only_day text day h is = ap day_named (sym is) ∙ day_named-date_text day h

some_found : (r : Option ℤ) (n : ℤ) → IsDay n → SomeIff r (IsDay n) n → r ≡ Some n
some_found None n is found = absurd (found is)
some_found (Some x) n is found = ap Some found.1

none_if : (b : Bool) (n : ℤ) → ¬ (b ≡ true) → None ≡ (if b then Some n else None)
none_if true n h = absurd (h refl)
none_if false n h = refl

-- the day of a date that the calendar has
pub day_of_date : (y m d : ℕ) (date : Date) (n : ℤ) (r : Option ℤ) → 1 ≤ y → y ≤ 9999 → m ≤ 99 → d ≤ 99 → (date.year ≡ to_z w16 y) × (pos date.month ≡ to_z w8 m) × (pos date.day ≡ to_z w8 d) → n ≡ epoch_day date → SomeIff r (IsDay n) n
    → r ≡ (if is_date (civil y m d) then Some (days_from_civil (pos y) m d) else None)
day_of_date y m d date n r low high m_small d_small parts is_number found =
    let year : date.year ≡ pos y = parts.0 ∙ to_z_pos w16 y (omega arith) in
    let month : date.month ≡ m = cc (parts.1 ∙ to_z_pos w8 m (omega arith)) in
    let day : date.day ≡ d = cc (parts.2 ∙ to_z_pos w8 d (omega arith)) in
    let last : d ≤ days_in_month (pos y) m = subst (λ n. d ≤ days_in_month n m) year (subst (λ n. d ≤ days_in_month date.year n) month (omega (arith, date.day_in))) in
    let has : HasDate (civil y m d) = (low, omega (arith, date.month_in), omega (arith, date.month_in), omega (arith, date.day_in), last) in
    let number : n ≡ days_from_civil (pos y) m d = is_number ∙ (λ i. days_from_civil (year i) (month i) (day i)) in
    let is : IsDay n = subst IsDay (sym number) (is_day-number (civil y m d) has high) in
    some_found r n is found ∙ ap Some number ∙ sym (ap (λ b. if b then Some (days_from_civil (pos y) m d) else None) (is_date-has_date (civil y m d) has))

-- and none for a date that it does not have
pub no_day_of_date : (y m d : ℕ) → ¬ (IsDate (pos y) (pos m) (pos d)) → y ≤ 9999 → None ≡ (if is_date (civil y m d) then Some (days_from_civil (pos y) m d) else None)
no_day_of_date y m d none high = none_if (is_date (civil y m d)) _ (λ e.
    let has = has_date (civil y m d) e in
    none (omega (arith, signed_arith), (omega (arith, signed_arith), omega (arith, signed_arith)), (omega (arith, signed_arith), omega (arith, signed_arith))))

both_digits : (a b : ℕ) → IsTrue (is_digit a && is_digit b) → (is_digit a ≡ true) × (is_digit b ≡ true)
both_digits a b h = both_true (is_digit a) (is_digit b) (grind arith)

-- what ten bytes of this form name
pub named_parts : (text : List ℕ) (century year month day : ℕ) → 10 ≤ length text → length text < 11
    → IsTrue (is_digit (get_or text 0 0) && is_digit (get_or text 1 0)) × (century ≡ number_of_two (get_or text 0 0) (get_or text 1 0))
    → IsTrue (is_digit (get_or text 2 0) && is_digit (get_or text 3 0)) × (year ≡ number_of_two (get_or text 2 0) (get_or text 3 0))
    → IsTrue (is_digit (get_or text 5 0) && is_digit (get_or text 6 0)) × (month ≡ number_of_two (get_or text 5 0) (get_or text 6 0))
    → IsTrue (is_digit (get_or text 8 0) && is_digit (get_or text 9 0)) × (day ≡ number_of_two (get_or text 8 0) (get_or text 9 0))
    → get_or text 4 0 ≡ 45 → get_or text 7 0 ≡ 45
    → day_named text ≡ (if is_date (civil (100 * century + year) month day) then Some (days_from_civil (pos (100 * century + year)) month day) else None)
named_parts (a ∷ b ∷ c ∷ d ∷ x ∷ e ∷ f ∷ y ∷ g ∷ h ∷ []) century year month day low high first second third fourth x_is y_is =
    let ab = both_digits a b first.0 in
    let cd = both_digits c d second.0 in
    let ef = both_digits e f third.0 in
    let gh = both_digits g h fourth.0 in
    let x_dash = eq-eqb x 45 x_is in
    let y_dash = eq-eqb y 45 y_is in
    let y_of : 100 * number_of_two a b + number_of_two c d ≡ 100 * century + year = omega arith in
    λ i. if (ab.0 i && (ab.1 i && (cd.0 i && (cd.1 i && (ef.0 i && (ef.1 i && (gh.0 i && (gh.1 i && true)))))))) && x_dash i && y_dash i && is_date (civil (y_of i) (sym third.1 i) (sym fourth.1 i))
    then Some (days_from_civil (pos (y_of i)) (sym third.1 i) (sym fourth.1 i)) else None
named_parts _ century year month day low high first second third fourth x_is y_is = absurd (omega arith)

-- a date not before 0001-01-01 has a year from 1 on
pub year_low : (date : Date) → negsuc 719_161 ≤ℤ epoch_day date → pos 1 ≤ℤ date.year
year_low date h = by_lt_z date.year (pos 1)
    (λ lt. absurd (omega (arith, signed_arith, days_from_civil-day_count date.year date.month date.day, days_from_civil-day_count (pos 1) 1 1, day_number-first, day_count-lt_year date.year date.month date.day (pos 1) 1 1 (civil_parts date) (omega arith) lt)))
    (λ le. le)

-- the date of a day, by the calendar's own count
pub parts_of_day : (date : Date) (day : ℤ) (year : ℕ) → IsDay day → epoch_day date ≡ day → date.year ≡ pos year → civil year date.month date.day ≡ date_at (unsigned_abs (day +ℤ pos 719_162))
parts_of_day date day year h number is =
    let low = year_low date (omega (arith, signed_arith, h.first)) in
    let small : year ≤ 9999 = omega (arith, signed_arith, date.year_in) in
    let last : date.day ≤ days_in_month (pos year) date.month = subst (λ n. date.day ≤ days_in_month n date.month) is (omega (arith, date.day_in)) in
    let has : HasDate (civil year date.month date.day) = (omega (arith, signed_arith), omega (arith, date.month_in), omega (arith, date.month_in), omega (arith, date.day_in), last) in
    let same : day_number (civil year date.month date.day) ≡ day = (λ i. days_from_civil (sym is i) date.month date.day) ∙ number in
    sym (ap (λ n. date_at (unsigned_abs (n +ℤ pos 719_162))) (sym same) ∙ date_at-day_number (civil year date.month date.day) has small)

-- the day of a count from -9999-01-01, as the code adds it
counted : (e n : ℤ) → IsDay n → e +ℤ pos 4_371_587 ≡ pos (unsigned_abs (to_z w32 (of_z w32 (to_z w32 (of_z w32 n) +ℤ pos 4_371_587)))) → e ≡ n
counted e n h is =
    let back = to_z-of_z w32 n (omega (arith, signed_arith, h.first, h.last)) in
    let sum = ap (λ z. z +ℤ pos 4_371_587) back in
    let whole = ap (λ z. to_z w32 (of_z w32 z)) sum ∙ to_z-of_z w32 (n +ℤ pos 4_371_587) (omega (arith, signed_arith, h.first, h.last)) in
    let plain = pos-unsigned_abs (n +ℤ pos 4_371_587) (omega (arith, signed_arith, h.first)) in
    let total : e +ℤ pos 4_371_587 ≡ n +ℤ pos 4_371_587 = is ∙ ap (λ z. pos (unsigned_abs z)) whole ∙ plain in
    omega (arith, signed_arith, total)

-- the year comes through its cast
year_back : (date : Date) → to_z w16 (of_z w16 date.year) ≡ date.year
year_back date = to_z-of_z w16 date.year (omega (arith, signed_arith, date.year_in))

pub year_of_count : (date : Date) (day : ℤ) → IsDay day → epoch_day date +ℤ pos 4_371_587 ≡ pos (unsigned_abs (to_z w32 (of_z w32 (to_z w32 (of_z w32 day) +ℤ pos 4_371_587))))
    → (pos 0 ≤ℤ to_z w16 (of_z w16 date.year)) × (unsigned_abs (to_z w16 (of_z w16 date.year)) < 2 ^ 16)
year_of_count date day h is =
    let number = counted (epoch_day date) day h is in
    let low = year_low date (omega (arith, signed_arith, h.first)) in
    let plain = pos-unsigned_abs date.year (omega (arith, signed_arith)) in
    let back = year_back date in
    (omega (arith, signed_arith), subst (λ z. unsigned_abs z < 2 ^ 16) (sym back) (omega (arith, signed_arith, date.year_in)))

pub parts_of_count : (date : Date) (day : ℤ) → IsDay day → epoch_day date +ℤ pos 4_371_587 ≡ pos (unsigned_abs (to_z w32 (of_z w32 (to_z w32 (of_z w32 day) +ℤ pos 4_371_587))))
    → civil (unsigned_abs (to_z w16 (of_z w16 date.year))) date.month date.day ≡ date_at (unsigned_abs (day +ℤ pos 719_162))
parts_of_count date day h is =
    let number = counted (epoch_day date) day h is in
    let low = year_low date (omega (arith, signed_arith, h.first)) in
    let plain = pos-unsigned_abs date.year (omega (arith, signed_arith)) in
    ap (λ z. civil (unsigned_abs z) date.month date.day) (year_back date) ∙ parts_of_day date day (unsigned_abs date.year) h number (sym plain)

pub ruleset reading = (day_named-text, only_day)
