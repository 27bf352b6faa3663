-- Literals in print spell literals of the grammar, negative ones too.
use Rattle.std.proofs.Common.{◌≡◌, ℕ, suc, ◌+◌, ◌/◌, ◌%◌, ◌^◌, ◌<◌, ◌≤◌, not, Bool, true, false, cond, if◌then◌else◌, List, [], ◌∷◌, ◌++◌, Some, refl, sym, ap, ◌∙◌, inl, inr, ◌⊎◌, ℤ, pos, negsuc, neg_ℤ, ◌+ℤ◌, unsigned_abs, decimal, IsUtf8, nat_eq, arith, codes, lit<}
use Rattle.std.specs.List.{list_all}
use Rattle.std.specs.Str.{IsAscii}
use Rattle.std.proofs.lemmas.Bool.{and_parts, and_from, cases_eq}
use Rattle.std.proofs.lemmas.Bool.Decides.{nat_tests}
use Rattle.std.proofs.lemmas.Str.{IsUtf8-from_ascii}
use Rattle.std.proofs.lemmas.Str.Ascii.{IsAscii-nil, IsAscii-cons}
use Rattle.sr_base.specs.declared.value.Value.{Value}
use Rattle.sr_base.specs.declared.value.Value.TheVariants as value
use Rattle.sr_base.specs.Fitting.{is_int}
use Rattle.sr_base_dates.specs.Literals.{quotes_doubled}
use Rattle.sr_base_dates.specs.Calendar.{date_text, date_at, two_digits}
use Rattle.sr_base_dates.proofs.DateTexts.{day_named-date_text}
use Rattle.sr_ast.specs.Terms.Term.{literal}
use Rattle.sr_ast.specs.Pages.{word}
use Rattle.sr_ast.specs.Printing.{value_pieces, quoted}
use Rattle.sr_lex.specs.declared.token.TokenKind.TheVariants as kind
use Rattle.sr_lex.specs.Tokens.{is_quote, doubled}
use Rattle.sr_ast.specs.declared.keyword.Keyword.TheVariants as key
use Rattle.sr_parse_grammar.specs.declared.symbol.Sign.TheVariants as mark
use Rattle.sr_parse_grammar.specs.declared.symbol.Symbol.{Symbol}
use Rattle.sr_parse_grammar.specs.declared.symbol.Symbol.TheVariants as symbol
use Rattle.sr_parse_grammar.specs.Symbols.{Symbols, word as key_symbol, sign}
use Rattle.sr_parse_grammar.specs.Literals.{number_value}
use Rattle.sr_parse_grammar.specs.Catalog.{IsSigned}
use Rattle.sr_parse_grammar.specs.Expressions.{Reads}
use Rattle.sr_parse_grammar.specs.Expressions.Tightness.{signed}
use Rattle.sr_parse_grammar.specs.Expressions.Reads.{loose, single, negative}
use Rattle.sr_ast.specs.Normal.{IsNormalValue}
use Rattle.sr_parse_grammar.proofs.Saying.{Spelt, IsLexeme, word_says, phrase_says, no_quote}
use Rattle.sr_parse_grammar.proofs.Valued.{number_lexeme, top_lexeme, minus_says, int_bound, int_low, big_bound, big_low}

-- ---- texts in quotes

quote_case : (c : Bool) (b : ℕ) (xs ys : List ℕ) → xs ≡ ys → (if c then 39 ∷ 39 ∷ [] else b ∷ []) ++ xs ≡ cond c (39 ∷ 39 ∷ ys) (b ∷ ys)
quote_case true b xs ys e = ap (λ t. 39 ∷ 39 ∷ t) e
quote_case false b xs ys e = ap (λ t. b ∷ t) e

same_doubled : (text : List ℕ) → quotes_doubled text ≡ doubled text
same_doubled [] = refl
same_doubled (b ∷ text) = quote_case (nat_eq b 39) b (quotes_doubled text) (doubled text) (same_doubled text)

pub text_lexeme : (text : List ℕ) → IsUtf8 text → IsLexeme (quoted text) (symbol.Text text)
text_lexeme text u = record {
  kind = kind.Str text;
  stands = λ rest apart. (ap (λ t. 39 ∷ (t ++ 39 ∷ [])) (same_doubled text), u, no_quote rest apart);
  means = refl;
}

-- ---- dates

is_plain : ℕ → Bool
is_plain b = not (is_quote b)

doubled_plain : (text : List ℕ) → list_all is_plain text ≡ true → doubled text ≡ text
unfolding is_plain
doubled_plain [] h = refl
doubled_plain (b ∷ text) h =
    let both = and_parts (is_plain b) (list_all is_plain text) h in
    let no : is_quote b ≡ false = no_from (is_quote b) both.0 in
    ap (λ c. cond c (39 ∷ 39 ∷ doubled text) (b ∷ doubled text)) no ∙ ap (λ t. b ∷ t) (doubled_plain text both.1)
  where
    no_from : (c : Bool) → not c ≡ true → c ≡ false
    no_from false e = refl
    no_from true e = absurd cc

glyph_plain : (n : ℕ) → is_plain (48 + n % 10) ≡ true
unfolding is_plain
glyph_plain n = grind (arith, nat_tests)

two_plain : (n : ℕ) (rest : List ℕ) → list_all is_plain rest ≡ true → list_all is_plain (two_digits n ++ rest) ≡ true
two_plain n rest h =
    and_from (is_plain (48 + n / 10 % 10)) (list_all is_plain ((48 + n % 10) ∷ rest)) (glyph_plain (n / 10)) (and_from (is_plain (48 + n % 10)) (list_all is_plain rest) (glyph_plain n) h)

dash_plain : (rest : List ℕ) → list_all is_plain rest ≡ true → list_all is_plain (45 ∷ rest) ≡ true
unfolding is_plain
dash_plain rest h = h

two_ascii : (n : ℕ) (rest : List ℕ) → IsAscii rest → IsAscii (two_digits n ++ rest)
two_ascii n rest h = IsAscii-cons (48 + n / 10 % 10) ((48 + n % 10) ∷ rest) (omega arith) (IsAscii-cons (48 + n % 10) rest (omega arith) h)

date_lexeme : (day : ℤ) → IsLexeme (39 ∷ (date_text day ++ 39 ∷ [])) (symbol.Text (date_text day))
date_lexeme day =
    let date = date_at (unsigned_abs (day +ℤ pos 719162)) in
    let d : List ℕ = two_digits date.day ++ [] in
    let m : List ℕ = two_digits date.month ++ (45 ∷ d) in
    let y : List ℕ = two_digits date.year ++ (45 ∷ m) in
    let c : List ℕ = two_digits (date.year / 100) ++ y in
    let dp : list_all is_plain d ≡ true = two_plain date.day [] refl in
    let mp : list_all is_plain m ≡ true = two_plain date.month (45 ∷ d) (dash_plain d dp) in
    let yp : list_all is_plain y ≡ true = two_plain date.year (45 ∷ m) (dash_plain m mp) in
    let cp : list_all is_plain c ≡ true = two_plain (date.year / 100) y yp in
    let da : IsAscii d = two_ascii date.day [] IsAscii-nil in
    let ma : IsAscii m = two_ascii date.month (45 ∷ d) (IsAscii-cons 45 d (lit< tt) da) in
    let ya : IsAscii y = two_ascii date.year (45 ∷ m) (IsAscii-cons 45 m (lit< tt) ma) in
    let ca : IsAscii c = two_ascii (date.year / 100) y ya in
    record {
      kind = kind.Str (date_text day);
      stands = λ rest apart. (ap (λ t. 39 ∷ (t ++ 39 ∷ [])) (sym (doubled_plain c cp)), IsUtf8-from_ascii c ca, no_quote rest apart);
      means = refl;
    }

-- ---- numbers

chosen : (b : Bool) (n : ℤ) → b ≡ true → (if b then value.Int n else value.Big n) ≡ value.Int n
chosen true n e = refl
chosen false n e = absurd cc

other : (b : Bool) (n : ℤ) → b ≡ false → (if b then value.Int n else value.Big n) ≡ value.Big n
other false n e = refl
other true n e = absurd cc

-- a number from 0 on
plain_number : (n : ℕ) (v : Value) → n < 2 ^ 63 → number_value (pos n) ≡ v → Spelt IsSigned v (word (decimal n) ∷ [])
plain_number n v small e ps after h = (
  symbol.Number (pos n) ∷ after,
  word_says (decimal n) (symbol.Number (pos n)) (number_lexeme n small) h,
  inl (inl (record { written = symbol.Number (pos n); stands = refl; means = ap (λ x. Some x) e })),
)

-- a number below 0
negative_number : (n : ℕ) (v : Value) → suc n < 2 ^ 63 → number_value (negsuc n) ≡ v → Spelt IsSigned v (word (45 ∷ decimal (suc n)) ∷ [])
negative_number n v small e ps after h =
    let s : Symbol = symbol.Number (pos (suc n)) in (
      sign mark.Minus ∷ s ∷ after,
      minus_says (suc n) s (omega arith) (number_lexeme (suc n) small) h,
      inr (s ∷ after, refl, record { number = s; stands = refl; means = ap (λ x. Some x) e }),
    )

-- -2 ^ 63
least_number : (n : ℕ) → suc n ≡ 2 ^ 63 → Spelt IsSigned (value.Big (negsuc n)) (word (45 ∷ decimal (suc n)) ∷ [])
least_number n e ps after h =
    let same : value.Big (neg_ℤ (pos (2 ^ 63))) ≡ value.Big (negsuc n) = ap (λ m. value.Big (neg_ℤ (pos m))) (sym e) in (
      sign mark.Minus ∷ symbol.TopNumber ∷ after,
      minus_says (suc n) symbol.TopNumber (omega (arith, e)) (top_lexeme (suc n) e) h,
      inr (symbol.TopNumber ∷ after, refl, record { number = symbol.TopNumber; stands = refl; means = ap (λ x. Some x) same }),
    )

low_number : (n : ℕ) → is_int (negsuc n) ≡ false → suc n ≤ 2 ^ 63 → (suc n ≡ 2 ^ 63) ⊎ (suc n ≡ 2 ^ 63 → ⊥) → Spelt IsSigned (value.Big (negsuc n)) (word (45 ∷ decimal (suc n)) ∷ [])
low_number n i low (inl e) = least_number n e
low_number n i low (inr e) = negative_number n (value.Big (negsuc n)) (below (suc n) low e) (other (is_int (negsuc n)) (negsuc n) i)
  where
    below : (m : ℕ) → m ≤ 2 ^ 63 → (m ≡ 2 ^ 63 → ⊥) → m < 2 ^ 63
    below m l f = omega (arith, l, f)

-- a literal, or a negative number
pub signed_spelt : (v : Value) → IsNormalValue v → Spelt IsSigned v (value_pieces v)
signed_spelt value.Null p ps after h =
    (key_symbol key.Null ∷ after, phrase_says (codes "NULL") key.Null [] refl h, inl (inl (record { written = key_symbol key.Null; stands = refl; means = refl })))
signed_spelt (value.Int (pos n)) p ps after h = plain_number n (value.Int (pos n)) (int_bound n p) (chosen (is_int (pos n)) (pos n) p) ps after h
signed_spelt (value.Int (negsuc n)) p ps after h = negative_number n (value.Int (negsuc n)) (int_low n p) (chosen (is_int (negsuc n)) (negsuc n) p) ps after h
signed_spelt (value.Big (pos n)) p ps after h = plain_number n (value.Big (pos n)) (big_bound n p.1) (other (is_int (pos n)) (pos n) p.0) ps after h
signed_spelt (value.Big (negsuc n)) p ps after h = low_number n p.0 (big_low n p.1) (cases_eq (suc n) (2 ^ 63)) ps after h
signed_spelt (value.Str text) p ps after h =
    (symbol.Text text ∷ after, word_says (quoted text) (symbol.Text text) (text_lexeme text p) h, inl (inl (record { written = symbol.Text text; stands = refl; means = refl })))
signed_spelt (value.Date day) p ps after h =
    let text = date_text day in (
      key_symbol key.Date ∷ symbol.Text text ∷ after,
      phrase_says (codes "DATE") key.Date [] refl (word_says (39 ∷ (text ++ 39 ∷ [])) (symbol.Text text) (date_lexeme day) h),
      inl (inr (record {
        next = symbol.Text text ∷ after;
        date = refl;
        text = record { text = text; day = day; stands = refl; named = day_named-date_text day p; means = refl };
      })),
    )

read_signed : {room : ℕ} {before after : Symbols} (v : Value) → IsSigned before v after → Reads signed room before (literal v) after
read_signed v (inl l) = loose (single l)
read_signed v (inr (next, s, n)) = negative s n

pub value_spelt : (room : ℕ) (v : Value) → IsNormalValue v → Spelt (Reads signed room) (literal v) (value_pieces v)
value_spelt room v p ps after h = let s = signed_spelt v p ps after h in (s.0, s.1, read_signed v s.2)
