-- Names in print spell names of the grammar.
use Rattle.std.proofs.Common.{suc, ◌≡◌, ℕ, true, List, [], ◌∷◌, Option, Some, None, refl, sym, ap, ◌∙◌, inl, inr, ◌&&◌, length, nat_le, arith}
use Rattle.std.specs.Char.{to_ascii_lowercase}
use Rattle.std.proofs.lemmas.Bool.{and_parts, and_from, or_left}
use Rattle.std.proofs.lemmas.Bool.Decides.{nat_tests}
use Rattle.sr_base.specs.Names.{is_first, is_later, is_lower_name, is_name}
use Rattle.sr_base.proofs.NameCase.{is_lower_name-lowered}
use Rattle.sr_lex.specs.Tokens.{is_start, is_part, is_digit, is_word}
use Rattle.std.specs.List.{AllByRecursion, list_all}
use Rattle.sr_ast.specs.Pages.{word, dot, listed}
use Rattle.sr_ast.specs.Printing.{name_pieces, column_pieces, names_pieces}
use Rattle.sr_lex.specs.declared.token.TokenKind.TheVariants as kind
use Rattle.sr_ast.specs.declared.keyword.Keyword.{Keyword}
use Rattle.sr_parse_grammar.specs.declared.symbol.Sign.TheVariants as mark
use Rattle.sr_parse_grammar.specs.declared.symbol.Symbol.{Symbol}
use Rattle.sr_parse_grammar.specs.declared.symbol.Symbol.TheVariants as symbol
use Rattle.sr_parse_grammar.specs.Symbols.{IsName, name_meant, sign}
use Rattle.sr_parse_grammar.specs.Listing.{Listed, IsNames}
use Rattle.sr_parse_grammar.specs.Expressions.{IsColumn}
use Rattle.sr_ast.specs.Normal.{IsPlain, IsPlainColumn}
use Rattle.sr_ast.specs.Keywords.{IsKeyword, IsNoKeyword, lower}
use Rattle.sr_parse_grammar.proofs.Words.{keywords}
use Rattle.sr_parse_grammar.proofs.Spellings.{found, lowered, found_is, never_found}
use Rattle.sr_parse_grammar.proofs.Saying.{Spelt, IsLexeme, word_says, no_part, dot_says}
use Rattle.sr_parse_grammar.proofs.Listed.{listed_spelt, enclosed}

-- ---- the bytes of a name

first_start : (b : ℕ) → is_first b ≡ true → is_start b ≡ true
first_start b h = grind (arith, nat_tests)

later_part : (b : ℕ) → is_later b ≡ true → is_part b ≡ true
later_part b h = grind (arith, nat_tests)

first_same : (b : ℕ) → is_first b ≡ true → to_ascii_lowercase b ≡ b
first_same b h = grind (arith, nat_tests)

later_same : (b : ℕ) → is_later b ≡ true → to_ascii_lowercase b ≡ b
later_same b h = grind (arith, nat_tests)

parts : (bytes : List ℕ) → list_all is_later bytes ≡ true → list_all is_part bytes ≡ true
parts [] h = refl
parts (b ∷ bytes) h = let both = and_parts (is_later b) (list_all is_later bytes) h in and_from (is_part b) (list_all is_part bytes) (later_part b both.0) (parts bytes both.1)

same : (bytes : List ℕ) → list_all is_later bytes ≡ true → lower bytes ≡ bytes
same [] h = refl
same (b ∷ bytes) h =
    let both = and_parts (is_later b) (list_all is_later bytes) h in
    ap (λ c. c ∷ lower bytes) (later_same b both.0) ∙ ap (λ t. b ∷ t) (same bytes both.1)

short : (n : ℕ) → nat_le n 63 ≡ true → nat_le (suc n) 64 ≡ true
short n h = grind (arith, nat_tests)

pub name-is_word : (name : List ℕ) → is_lower_name name ≡ true → is_word name ≡ true
name-is_word [] h = absurd cc
name-is_word (b ∷ bytes) h =
    let all = and_parts (is_first b && list_all is_later bytes) (nat_le (length bytes) 63) h in
    let both = and_parts (is_first b) (list_all is_later bytes) all.0 in
    let start = first_start b both.0 in
    let part : is_part b ≡ true = or_left (is_start b) (is_digit b) start in
    and_from (is_start b && list_all is_part (b ∷ bytes)) (nat_le (length (b ∷ bytes)) 64)
    (and_from (is_start b) (list_all is_part (b ∷ bytes)) start (and_from (is_part b) (list_all is_part bytes) part (parts bytes both.1)))
    (short (length bytes) all.1)

pub name-lower : (name : List ℕ) → is_lower_name name ≡ true → lower name ≡ name
name-lower [] h = refl
name-lower (b ∷ bytes) h =
    let all = and_parts (is_first b && list_all is_later bytes) (nat_le (length bytes) 63) h in
    let both = and_parts (is_first b) (list_all is_later bytes) all.0 in
    ap (λ c. c ∷ lower bytes) (first_same b both.0) ∙ ap (λ t. b ∷ t) (same bytes both.1)

pub name-is_name : (name : List ℕ) → is_lower_name name ≡ true → is_name name ≡ true
name-is_name name h = sym (is_lower_name-lowered name) ∙ (ap is_lower_name (name-lower name h) ∙ h)

-- ---- the symbol of a name

-- the symbol that a name is
record HasSymbol (name : List ℕ) : Type 0 where
  written : Symbol
  lexeme : IsLexeme name written
  means : name_meant written ≡ Some name

-- a name that a key word is
keyword_symbol : (name : List ℕ) (k : Keyword) → IsPlain name → lowered k ≡ name → HasSymbol name
keyword_symbol name k p is =
    let same : IsKeyword name k = name-lower name p.written ∙ sym is in
    record {
      written = symbol.Keyword k;
      lexeme = record { kind = kind.Word; stands = λ rest apart. (name-is_word name p.written, no_part rest apart); means = same };
      means = p.free k same;
    }

-- a name that is no key word
other_symbol : (name : List ℕ) → IsPlain name → IsNoKeyword name → HasSymbol name
other_symbol name p free = record {
  written = symbol.Name name;
  lexeme = record { kind = kind.Word; stands = λ rest apart. (name-is_word name p.written, no_part rest apart); means = (free, name-is_name name p.written, sym (name-lower name p.written)) };
  means = refl;
}

found_symbol : (name : List ℕ) → IsPlain name → (o : Option Keyword) → found lowered name keywords ≡ o → HasSymbol name
found_symbol name p (Some k) e = keyword_symbol name k p (found_is lowered name keywords k e)
found_symbol name p None e = other_symbol name p (λ k is. never_found k (ap (λ (w : List ℕ). found lowered w keywords) (sym is ∙ name-lower name p.written) ∙ e))

name_symbol : (name : List ℕ) → IsPlain name → HasSymbol name
name_symbol name p = found_symbol name p (found lowered name keywords) refl

pub name_spelt : (name : List ℕ) → IsPlain name → Spelt IsName name (name_pieces name)
name_spelt name p ps after h =
    let s = name_symbol name p in
    (s.written ∷ after, word_says name s.written s.lexeme h, record { word = s.written; stands = refl; means = s.means })

-- a column: name, or table.name
pub column_spelt : (table : Option (List ℕ)) (name : List ℕ) → IsPlainColumn table name → Spelt (λ before n after. IsColumn before table n after) name (column_pieces table name)
column_spelt None name p ps after h = name_spelt name p.1 ps after h
column_spelt (Some table) name p ps after h =
    let n = name_spelt name p.1 ps after h in
    let t = name_spelt table p.0 (dot ∷ word name ∷ ps) (sign mark.Dot ∷ n.0) (dot_says n.1) in
    (t.0, t.1, (sign mark.Dot ∷ n.0, n.0, t.2, refl, n.2))

-- names in parentheses, or nothing
pub names_spelt : (names : List (List ℕ)) → AllByRecursion IsPlain names → Spelt IsNames names (names_pieces names)
names_spelt [] p ps after h = (after, h, inl (refl, refl))
names_spelt (n ∷ ns) p ps after h =
    let all = enclosed (Listed IsName) (n ∷ ns) (listed name_pieces (n ∷ ns)) (listed_spelt IsName IsPlain name_pieces name_spelt (n ∷ ns) p) ps after h in
    (sign mark.Open ∷ all.inside, all.says, inr (record { inside = all.inside; close = all.close; opened = refl; listed = all.is; closed = all.closed }))
