-- Pieces in print, and the symbols that they are.
use Rattle.std.proofs.Common.{◌≡◌, ℕ, Bool, true, false, ◌||◌, List, [], ◌∷◌, ◌++◌, nat_eq, nat_le, ◌&&◌, refl, sym, ap, ◌∙◌, subst, arith, append_assoc}
use Rattle.std.proofs.lemmas.List.{append-nil}
use Rattle.std.proofs.lemmas.Bool.Decides.{nat_tests}
use Rattle.sr_ast.specs.Pages.{Piece, Print, put, put_all, space, word, open_parenthesis, call_parenthesis, close_parenthesis, comma, semicolon, dot, dash}
use Rattle.sr_lex.specs.declared.token.TokenKind.{TokenKind}
use Rattle.sr_lex.specs.declared.token.TokenKind.TheVariants as kind
use Rattle.sr_lex.specs.Tokens.{IsToken, begins, is_part, is_digit, is_quote, is_dash, is_behind_less, is_word}
use Rattle.sr_lex.specs.Tokens.Skips.{none}
use Rattle.sr_ast.specs.declared.keyword.Keyword.{Keyword}
use Rattle.sr_ast.specs.declared.keyword.Keyword.TheVariants as key
use Rattle.sr_ast.specs.Keywords.{spelling}
use Rattle.sr_parse_grammar.specs.declared.symbol.Sign.TheVariants as mark
use Rattle.sr_parse_grammar.specs.declared.symbol.Symbol.{Symbol}
use Rattle.sr_parse_grammar.specs.Symbols.{Symbols, word as key_symbol, sign as sign_symbol}
use Rattle.sr_parse_grammar.specs.Meanings.{IsSymbolOf}
use Rattle.sr_parse_grammar.proofs.Lexemes.{Lexes, Lexes-space}
use Rattle.sr_parse_grammar.proofs.Lexemes.Lexes.{done, token}

-- pieces as they print, behind what is tight or not
abbrev pub rendered : Bool → List Piece → List ℕ
rendered tight [] = []
rendered tight (p ∷ ps) = space (tight || p.joins) ++ (p.text ++ rendered p.opens ps)

pub put_all-text : (print : Print) (ps : List Piece) → (put_all print ps).text ≡ print.text ++ rendered print.tight ps
put_all-text print [] = sym (append-nil print.text)
put_all-text print (p ∷ ps) =
    put_all-text (put print p) ps
    ∙ (append_assoc print.text (space (print.tight || p.joins) ++ p.text) (rendered p.opens ps)
    ∙ ap (λ t. print.text ++ t) (append_assoc (space (print.tight || p.joins)) p.text (rendered p.opens ps)))

-- what may run together with a token before it
abbrev pub is_sticky : ℕ → Bool
is_sticky byte = is_part byte || (is_quote byte || (is_dash byte || (nat_le 60 byte && nat_le byte 62)))

pub no_part : (rest : List ℕ) → begins is_sticky rest ≡ false → begins is_part rest ≡ false
no_part [] h = refl
no_part (b ∷ rest) h = grind (arith, nat_tests)

pub no_digit : (rest : List ℕ) → begins is_sticky rest ≡ false → begins is_digit rest ≡ false
no_digit [] h = refl
no_digit (b ∷ rest) h = grind (arith, nat_tests)

pub no_quote : (rest : List ℕ) → begins is_sticky rest ≡ false → begins is_quote rest ≡ false
no_quote [] h = refl
no_quote (b ∷ rest) h = grind (arith, nat_tests)

pub no_dash : (rest : List ℕ) → begins is_sticky rest ≡ false → begins is_dash rest ≡ false
no_dash [] h = refl
no_dash (b ∷ rest) h = grind (arith, nat_tests)

pub no_longer : (rest : List ℕ) → begins is_sticky rest ≡ false → begins is_behind_less rest ≡ false
no_longer [] h = refl
no_longer (b ∷ rest) h = grind (arith, nat_tests)

pub no_equal : (rest : List ℕ) → begins is_sticky rest ≡ false → begins (λ b. nat_eq b 61) rest ≡ false
no_equal [] h = refl
no_equal (b ∷ rest) h = grind (arith, nat_tests)

-- The symbols that pieces are, and that a token may stand before them.
pub record Says (pieces : List Piece) (symbols : Symbols) : Type 0 where
  pub lexes : Lexes (rendered true pieces) symbols
  pub apart : begins is_sticky (rendered false pieces) ≡ false

pub Says-end : Says [] []
Says-end = record { lexes = done none; apart = refl }

space_lexes : (b : Bool) {text : List ℕ} {symbols : Symbols} → Lexes text symbols → Lexes (space b ++ text) symbols
space_lexes true h = h
space_lexes false h = Lexes-space h

pub Says-behind : (pieces : List Piece) {symbols : Symbols} → Says pieces symbols → Lexes (rendered false pieces) symbols
Says-behind [] h = h.lexes
Says-behind (p ∷ ps) h = space_lexes p.joins h.lexes

-- a text that is a symbol, before what does not run together with it
pub record IsLexeme (text : List ℕ) (s : Symbol) : Type 0 where
  pub kind : TokenKind
  pub stands : (rest : List ℕ) → begins is_sticky rest ≡ false → IsToken kind text rest
  pub means : IsSymbolOf text kind s

pub word_says : {ps : List Piece} {after : Symbols} (text : List ℕ) (s : Symbol) → IsLexeme text s → Says ps after → Says (word text ∷ ps) (s ∷ after)
word_says {ps = ps} text s l h = record { lexes = token text (rendered false ps) l.kind s none (l.stands (rendered false ps) h.apart) l.means (Says-behind ps h); apart = refl }

pub open_parenthesis_says : {ps : List Piece} {after : Symbols} → Says ps after → Says (open_parenthesis ∷ ps) (sign_symbol mark.Open ∷ after)
open_parenthesis_says {ps = ps} h = record { lexes = token (40 ∷ []) (rendered true ps) kind.Sign (sign_symbol mark.Open) none refl refl h.lexes; apart = refl }

pub call_parenthesis_says : {ps : List Piece} {after : Symbols} → Says ps after → Says (call_parenthesis ∷ ps) (sign_symbol mark.Open ∷ after)
call_parenthesis_says {ps = ps} h = record { lexes = token (40 ∷ []) (rendered true ps) kind.Sign (sign_symbol mark.Open) none refl refl h.lexes; apart = refl }

pub close_parenthesis_says : {ps : List Piece} {after : Symbols} → Says ps after → Says (close_parenthesis ∷ ps) (sign_symbol mark.Close ∷ after)
close_parenthesis_says {ps = ps} h = record { lexes = token (41 ∷ []) (rendered false ps) kind.Sign (sign_symbol mark.Close) none refl refl (Says-behind ps h); apart = refl }

pub comma_says : {ps : List Piece} {after : Symbols} → Says ps after → Says (comma ∷ ps) (sign_symbol mark.Comma ∷ after)
comma_says {ps = ps} h = record { lexes = token (44 ∷ []) (rendered false ps) kind.Sign (sign_symbol mark.Comma) none refl refl (Says-behind ps h); apart = refl }

pub semicolon_says : {ps : List Piece} {after : Symbols} → Says ps after → Says (semicolon ∷ ps) (sign_symbol mark.Semicolon ∷ after)
semicolon_says {ps = ps} h = record { lexes = token (59 ∷ []) (rendered false ps) kind.Sign (sign_symbol mark.Semicolon) none refl refl (Says-behind ps h); apart = refl }

pub dot_says : {ps : List Piece} {after : Symbols} → Says ps after → Says (dot ∷ ps) (sign_symbol mark.Dot ∷ after)
dot_says {ps = ps} h = record { lexes = token (46 ∷ []) (rendered true ps) kind.Sign (sign_symbol mark.Dot) none refl refl h.lexes; apart = refl }

-- the - of one operand stands before a parenthesis
pub dash_says : {ps : List Piece} {after : Symbols} → Says (open_parenthesis ∷ ps) after → Says (dash ∷ open_parenthesis ∷ ps) (sign_symbol mark.Minus ∷ after)
dash_says {ps = ps} h = record { lexes = token (45 ∷ []) (40 ∷ rendered true ps) kind.Sign (sign_symbol mark.Minus) none refl refl h.lexes; apart = refl }

-- key words with a space between them
abbrev pub phrase : Keyword → List Keyword → List ℕ
phrase k [] = spelling k
phrase k (l ∷ ls) = spelling k ++ 32 ∷ phrase l ls

abbrev pub phrase_symbols : Keyword → List Keyword → Symbols → Symbols
phrase_symbols k [] after = key_symbol k ∷ after
phrase_symbols k (l ∷ ls) after = key_symbol k ∷ phrase_symbols l ls after

pub spelling-is_word : (k : Keyword) → is_word (spelling k) ≡ true
spelling-is_word key.Create = refl
spelling-is_word _ = refl

phrase_lexes : (k : Keyword) (ls : List Keyword) (rest : List ℕ) {after : Symbols} → begins is_sticky rest ≡ false → Lexes rest after → Lexes (phrase k ls ++ rest) (phrase_symbols k ls after)
phrase_lexes k [] rest apart h = token (spelling k) rest kind.Word (key_symbol k) none (spelling-is_word k, no_part rest apart) refl h
phrase_lexes k (l ∷ ls) rest {after = after} apart h =
    let more = Lexes-space (phrase_lexes l ls rest apart h) in
    subst (λ (t : List ℕ). Lexes t (phrase_symbols k (l ∷ ls) after)) (sym (append_assoc (spelling k) (32 ∷ phrase l ls) rest))
    (token (spelling k) (32 ∷ (phrase l ls ++ rest)) kind.Word (key_symbol k) none (spelling-is_word k, refl) refl more)

pub phrase_says : {ps : List Piece} {after : Symbols} (text : List ℕ) (k : Keyword) (ls : List Keyword) → text ≡ phrase k ls → Says ps after → Says (word text ∷ ps) (phrase_symbols k ls after)
phrase_says {ps = ps} {after = after} text k ls e h = record {
  lexes = subst (λ (t : List ℕ). Lexes (t ++ rendered false ps) (phrase_symbols k ls after)) (sym e) (phrase_lexes k ls (rendered false ps) h.apart (Says-behind ps h));
  apart = refl;
}

-- two words are read as they are where one piece has both
pub joined_says : {ps : List Piece} {after : Symbols} (a b : List ℕ) → Says (word a ∷ word b ∷ ps) after → Says (word (a ++ 32 ∷ b) ∷ ps) after
joined_says {ps = ps} {after = after} a b h = record { lexes = subst (λ (t : List ℕ). Lexes t after) (sym (append_assoc a (32 ∷ b) (rendered false ps))) h.lexes; apart = refl }

-- one behind the other
pub regrouped : (xs ys ps : List Piece) {symbols : Symbols} → Says (xs ++ (ys ++ ps)) symbols → Says ((xs ++ ys) ++ ps) symbols
regrouped xs ys ps {symbols = symbols} h = subst (λ (p : List Piece). Says p symbols) (sym (append_assoc xs ys ps)) h

-- pieces that spell a value, whatever stands behind them
abbrev pub Spelt : {A : Type 0} → (Symbols → A → Symbols → Type 0) → A → List Piece → Type 0
Spelt X x pieces = (ps : List Piece) (after : Symbols) → Says ps after → (before : Symbols) × Says (pieces ++ ps) before × X before x after
