-- What is printed is UTF-8: names, texts in quotes, dates.
use Rattle.std.proofs.Common.{◌≡◌, ◌≢◌, ℕ, suc, ◌+◌, ◌<◌, ◌/◌, ◌%◌, true, false, ◌&&◌, List, [], ◌∷◌, ◌++◌, length, get_or, IsTrue, IsUtf8, nat_eq, refl, ap, sym, ◌∙◌, subst, ne_eqb, lit<, append-nil, ◌⊎◌, inl, inr, ℤ, pos, ◌+ℤ◌, unsigned_abs, arith}
use Rattle.std.specs.Str.{IsAscii}
use Rattle.std.specs.List.{list_all}
use lib.Utf8.{scalar, scalars, encodes, encode}
use Rattle.std.proofs.lemmas.Bool.{and_parts, cases_eq}
use Rattle.std.proofs.lemmas.Bool.Decides.{nat_tests}
use Rattle.std.proofs.lemmas.Str.{IsUtf8-from_ascii, IsUtf8-append, IsUtf8-nil, inside_one}
use Rattle.std.proofs.lemmas.Str.Ascii.{IsAscii-nil, IsAscii-cons}
use Rattle.sr_base.specs.Names.{is_lower_name, is_first, is_later}
use Rattle.sr_base_dates.specs.Literals.{quotes_doubled}
use Rattle.sr_base_dates.specs.Calendar.{date_text, date_at, two_digits, four_digits}
use Rattle.sr_ast.specs.Printing.{quoted}

later_ascii : (b : ℕ) → is_later b ≡ true → b < 128
later_ascii b h = grind (arith, nat_tests)

first_ascii : (b : ℕ) → is_first b ≡ true → b < 128
first_ascii b h = grind (arith, nat_tests)

all_ascii : (bytes : List ℕ) → list_all is_later bytes ≡ true → IsAscii bytes
all_ascii [] h = IsAscii-nil
all_ascii (b ∷ bytes) h =
    let both = and_parts (is_later b) (list_all is_later bytes) h in
    IsAscii-cons b bytes (later_ascii b both.0) (all_ascii bytes both.1)

-- a name is UTF-8
pub name_utf8 : (name : List ℕ) → IsTrue (is_lower_name name) → IsUtf8 name
name_utf8 [] h = IsUtf8-nil
name_utf8 (b ∷ bytes) h =
    let all = and_parts (is_first b && list_all is_later bytes) _ h in
    let both = and_parts (is_first b) (list_all is_later bytes) all.0 in
    IsUtf8-from_ascii (b ∷ bytes) (IsAscii-cons b bytes (first_ascii b both.0) (all_ascii bytes both.1))

pub quote_utf8 : IsUtf8 (39 ∷ [])
quote_utf8 = IsUtf8-from_ascii (39 ∷ []) (IsAscii-cons 39 [] (lit< tt) IsAscii-nil)

two_quotes : IsUtf8 (39 ∷ 39 ∷ [])
two_quotes = IsUtf8-append (39 ∷ []) (39 ∷ []) quote_utf8 quote_utf8

-- where no byte is a quote, nothing is doubled
doubled_plain : (bytes rest : List ℕ) → ((k : ℕ) → k < length bytes → get_or bytes k 0 ≢ 39) → quotes_doubled (bytes ++ rest) ≡ bytes ++ quotes_doubled rest
doubled_plain [] rest plain = refl
doubled_plain (b ∷ bytes) rest plain =
    let e : nat_eq b 39 ≡ false = ne_eqb b 39 (plain 0 (omega arith)) in
    rw e (ap (λ t. b ∷ t) (doubled_plain bytes rest (λ k h. plain (suc k) (omega arith))))

-- a character that is no quote has no byte that is one
no_quote : (c k : ℕ) → (c ≡ 39 → ⊥) → k < length (encode c) → get_or (encode c) k 0 ≢ 39
no_quote c k other h e = other (inside_one c [] (encode c) k (sym (append-nil (encode c))) h (omega (arith, e)) ∙ e)

doubled_char : (c : ℕ) (chars : List ℕ) → scalar c ≡ true → (c ≡ 39) ⊎ (c ≡ 39 → ⊥) → IsUtf8 (quotes_doubled (encodes chars)) → IsUtf8 (quotes_doubled (encode c ++ encodes chars))
unfolding encode
doubled_char c chars h (inl e) rest =
    subst (λ (x : ℕ). IsUtf8 (quotes_doubled (encode x ++ encodes chars))) (sym e) (IsUtf8-append (39 ∷ 39 ∷ []) _ two_quotes rest)
doubled_char c chars h (inr other) rest =
    subst (λ (t : List ℕ). IsUtf8 t) (sym (doubled_plain (encode c) (encodes chars) (λ k l. no_quote c k other l)))
    (IsUtf8-append (encode c) (quotes_doubled (encodes chars)) (c ∷ [], (rw h refl, append-nil (encode c))) rest)

-- the characters of a text, each quote twice
doubled_chars : (chars : List ℕ) → scalars chars ≡ true → IsUtf8 (quotes_doubled (encodes chars))
doubled_chars [] h = IsUtf8-nil
doubled_chars (c ∷ chars) h =
    let both = and_parts (scalar c) (scalars chars) h in
    doubled_char c chars both.0 (cases_eq c 39) (doubled_chars chars both.1)

pub quoted_utf8 : (text : List ℕ) → IsUtf8 text → IsUtf8 (quoted text)
quoted_utf8 text (chars, (ok, is)) =
    IsUtf8-append (39 ∷ []) (quotes_doubled text ++ 39 ∷ []) quote_utf8
    (IsUtf8-append (quotes_doubled text) (39 ∷ []) (subst (λ (t : List ℕ). IsUtf8 (quotes_doubled t)) is (doubled_chars chars ok)) quote_utf8)

digit_ascii : (n : ℕ) → 48 + n % 10 < 128
digit_ascii n = omega arith

two_ascii : (n : ℕ) (rest : List ℕ) → IsAscii rest → IsAscii (two_digits n ++ rest)
two_ascii n rest h = IsAscii-cons (48 + n / 10 % 10) ((48 + n % 10) ∷ rest) (digit_ascii (n / 10)) (IsAscii-cons (48 + n % 10) rest (digit_ascii n) h)

-- a date in quotes is UTF-8
pub date_utf8 : (year month day : ℕ) → IsUtf8 (39 ∷ ((four_digits year ++ 45 ∷ two_digits month ++ 45 ∷ two_digits day) ++ 39 ∷ []))
date_utf8 year month day =
    let end : List ℕ = 39 ∷ [] in
    let d : List ℕ = two_digits day ++ end in
    let m : List ℕ = two_digits month ++ (45 ∷ d) in
    let y : List ℕ = two_digits year ++ (45 ∷ m) in
    let c : List ℕ = two_digits (year / 100) ++ y in
    let dd : IsAscii d = two_ascii day end (IsAscii-cons 39 [] (lit< tt) IsAscii-nil) in
    let mm : IsAscii m = two_ascii month (45 ∷ d) (IsAscii-cons 45 d (lit< tt) dd) in
    let yy : IsAscii y = two_ascii year (45 ∷ m) (IsAscii-cons 45 m (lit< tt) mm) in
    IsUtf8-from_ascii (39 ∷ c) (IsAscii-cons 39 c (lit< tt) (two_ascii (year / 100) y yy))

pub date_quoted_utf8 : (day : ℤ) → IsUtf8 (39 ∷ (date_text day ++ 39 ∷ []))
date_quoted_utf8 day =
    let date = date_at (unsigned_abs (day +ℤ pos 719162)) in
    date_utf8 date.year date.month date.day
