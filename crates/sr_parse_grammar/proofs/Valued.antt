-- Literals in print spell literals of the grammar.
use Rattle.std.proofs.Common.{◌≡◌, ℕ, suc, ◌+◌, ◌-◌, ◌*◌, ◌^◌, ◌<◌, ◌≤◌, true, false, List, [], ◌∷◌, ◌++◌, length, fold, refl, sym, ap, ◌∙◌, subst, pos, negsuc, decimal, FitsSigned, arith}
use Rattle.std.specs.Int.{w64}
use Rattle.std.specs.List.{list_all}
use Rattle.std.proofs.lemmas.Bool.{and_parts, and_from}
use Rattle.std.proofs.lemmas.Bool.Decides.{nat_tests}
use Rattle.std.proofs.lemmas.Str.Parse.{IsDigitsTest, FoldsDigits, IsNumeralModel, numerals_by_fold}
use Rattle.std.proofs.lemmas.Fmt.{digits_decimal, digits_value-decimal, decimal_is_IsNumeral}
use Rattle.sr_base.specs.Fitting.{is_int}
use Rattle.sr_ast.specs.Pages.{Piece, word}
use Rattle.sr_lex.specs.declared.token.TokenKind.TheVariants as kind
use Rattle.sr_lex.specs.Tokens.{begins, is_digit, is_digits, is_dash, is_sign, number}
use Rattle.sr_lex.specs.Tokens.Skips.{none}
use Rattle.sr_parse_grammar.specs.declared.symbol.Sign.TheVariants as mark
use Rattle.sr_parse_grammar.specs.declared.symbol.Symbol.{Symbol}
use Rattle.sr_parse_grammar.specs.declared.symbol.Symbol.TheVariants as symbol
use Rattle.sr_parse_grammar.specs.Symbols.{Symbols, sign}
use Rattle.sr_parse_grammar.proofs.Lexemes.Lexes.{token}
use Rattle.sr_parse_grammar.proofs.Saying.{Says, Says-behind, IsLexeme, rendered, no_digit}

abbrev folding : ℕ → List ℕ → ℕ
folding so_far digits = fold (λ n digit. 10 * n + (digit - 48)) so_far digits

digits_test : IsDigitsTest (λ ds. list_all is_digit ds ≡ true)
digits_test = record {
  empty = refl;
  parts = λ c cs e. let both = and_parts (is_digit c) (list_all is_digit cs) e in (digit_range c both.0, both.1);
  more = λ c cs k e. and_from (is_digit c) (list_all is_digit cs) (range_digit c k.0 k.1) e;
}
  where
    digit_range : (c : ℕ) → is_digit c ≡ true → (48 ≤ c) × (c ≤ 57)
    digit_range c e = (grind (arith, nat_tests), grind (arith, nat_tests))

    range_digit : (c : ℕ) → 48 ≤ c → c ≤ 57 → is_digit c ≡ true
    range_digit c a b = grind (arith, nat_tests)

digits_fold : FoldsDigits folding
digits_fold = record { empty = λ n. refl; more = λ n c cs k. ap (λ m. folding m cs) (omega arith) }

numerals : IsNumeralModel (λ ds. list_all is_digit ds ≡ true) (folding 0)
numerals = numerals_by_fold (λ ds. list_all is_digit ds ≡ true) digits_test folding digits_fold

all_digits : (n : ℕ) → n < 2 ^ 64 → list_all is_digit (decimal n) ≡ true
all_digits n h = digits_decimal numerals n h

number-decimal : (n : ℕ) → n < 2 ^ 64 → number (decimal n) ≡ n
number-decimal n h = digits_value-decimal numerals n h

digits_begin : (ds : List ℕ) → 0 < length ds → list_all is_digit ds ≡ true → is_digits ds ≡ true
digits_begin [] some e = absurd (omega arith)
digits_begin (d ∷ ds) some e = and_from (is_digit d) (list_all is_digit (d ∷ ds)) (and_parts (is_digit d) (list_all is_digit ds) e).0 e

is_digits-decimal : (n : ℕ) → n < 2 ^ 64 → is_digits (decimal n) ≡ true
is_digits-decimal n h = digits_begin (decimal n) (decimal_is_IsNumeral n h).0.0 (all_digits n h)

no_dash_first : (ds rest : List ℕ) → is_digits ds ≡ true → begins is_dash (ds ++ rest) ≡ false
no_dash_first [] rest e = absurd cc
no_dash_first (d ∷ ds) rest e = dash_no (and_parts (is_digit d) (list_all is_digit (d ∷ ds)) e).0
  where
    dash_no : is_digit d ≡ true → is_dash d ≡ false
    dash_no h = grind (arith, nat_tests)

-- a number below 2 ^ 63, and 2 ^ 63
pub number_lexeme : (n : ℕ) → n < 2 ^ 63 → IsLexeme (decimal n) (symbol.Number (pos n))
number_lexeme n h =
    let wide : n < 2 ^ 64 = omega arith in
    record {
      kind = kind.Number (pos n);
      stands = λ rest apart. (is_digits-decimal n wide, ap pos (sym (number-decimal n wide)), subst (λ (m : ℕ). m < 2 ^ 63) (sym (number-decimal n wide)) h, no_digit rest apart);
      means = refl;
    }

pub top_lexeme : (n : ℕ) → n ≡ 2 ^ 63 → IsLexeme (decimal n) symbol.TopNumber
top_lexeme n h =
    let wide : n < 2 ^ 64 = omega (arith, h) in
    record { kind = kind.TopNumber; stands = λ rest apart. (is_digits-decimal n wide, number-decimal n wide ∙ h, no_digit rest apart); means = refl }

dash_sign : (rest : List ℕ) → begins is_dash rest ≡ false → is_sign (45 ∷ []) rest ≡ true
dash_sign rest e = rw e refl

-- a number behind a -
pub minus_says : {ps : List Piece} {after : Symbols} (n : ℕ) (s : Symbol) → n < 2 ^ 64 → IsLexeme (decimal n) s → Says ps after → Says (word (45 ∷ decimal n) ∷ ps) (sign mark.Minus ∷ s ∷ after)
minus_says {ps = ps} n s wide l h = record {
  lexes = token (45 ∷ []) (decimal n ++ rendered false ps) kind.Sign (sign mark.Minus) none (dash_sign (decimal n ++ rendered false ps) (no_dash_first (decimal n) (rendered false ps) (is_digits-decimal n wide))) refl
      (token (decimal n) (rendered false ps) l.kind s none (l.stands (rendered false ps) h.apart) l.means (Says-behind ps h));
  apart = refl;
}

pub int_bound : (n : ℕ) → is_int (pos n) ≡ true → n < 2 ^ 63
int_bound n h = grind (arith, nat_tests, h)

pub int_low : (n : ℕ) → is_int (negsuc n) ≡ true → suc n < 2 ^ 63
int_low n h = grind (arith, nat_tests, h)

pub big_bound : (n : ℕ) → FitsSigned w64 (pos n) → n < 2 ^ 63
big_bound n h = h.sfits

pub big_low : (n : ℕ) → FitsSigned w64 (negsuc n) → suc n ≤ 2 ^ 63
big_low n h = h.sfits
