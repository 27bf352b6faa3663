-- The tokens of a script, as they are written.
use Rattle.std.specs.Prelude.{◌≡◌, ◌≢◌, ℕ, ◌+◌, ◌-◌, ◌*◌, ◌^◌, ◌<◌, Bool, true, false, not, ◌&&◌, ◌||◌, cond, List, [], ◌∷◌, ◌++◌, length, fold, nat_eq, nat_le, pos, ◌⊎◌, IsTrue, IsUtf8}
use Rattle.std.specs.List.{list_all}
use Rattle.sr_lex.specs.declared.token.Token.{Token}
use Rattle.sr_lex.specs.declared.token.TokenKind.{TokenKind}
use Rattle.sr_lex.specs.declared.token.TokenKind.TheVariants.{Word, Number, TopNumber, Str, Sign}

-- white space: space, tab, carriage return or line feed
abbrev pub is_blank : ℕ → Bool
is_blank byte = nat_eq byte 32 || nat_eq byte 9 || nat_eq byte 13 || nat_eq byte 10

-- a line feed
abbrev pub is_feed : ℕ → Bool
is_feed byte = nat_eq byte 10

-- a `-`
abbrev pub is_dash : ℕ → Bool
is_dash byte = nat_eq byte 45

-- a quote
abbrev pub is_quote : ℕ → Bool
is_quote byte = nat_eq byte 39

-- what a word begins with: a letter or `_`
abbrev pub is_start : ℕ → Bool
is_start byte = (nat_le 97 byte && nat_le byte 122) || (nat_le 65 byte && nat_le byte 90) || nat_eq byte 95

-- a digit
abbrev pub is_digit : ℕ → Bool
is_digit byte = nat_le 48 byte && nat_le byte 57

-- what goes on a word: a letter, `_` or a digit
abbrev pub is_part : ℕ → Bool
is_part byte = is_start byte || is_digit byte

-- whether a byte comes first that passes the test
abbrev pub begins : (ℕ → Bool) → List ℕ → Bool
begins test [] = false
begins test (byte ∷ bytes) = test byte

-- a word: a letter or `_`, then letters, `_` and digits; at most 64 bytes
abbrev pub is_word : List ℕ → Bool
is_word word = begins is_start word && list_all is_part word && nat_le (length word) 64

-- one digit or more
abbrev pub is_digits : List ℕ → Bool
is_digits word = begins is_digit word && list_all is_digit word

-- the number that digits spell
abbrev pub number : List ℕ → ℕ
number digits = fold (λ so_far digit. 10 * so_far + (digit - 48)) 0 digits

-- a text with each of its quotes twice
abbrev pub doubled : List ℕ → List ℕ
doubled [] = []
doubled (byte ∷ bytes) = cond (is_quote byte) (39 ∷ 39 ∷ doubled bytes) (byte ∷ doubled bytes)

-- a text in quotes
abbrev pub quoted : List ℕ → List ℕ
quoted text = 39 ∷ (doubled text ++ 39 ∷ [])

-- a sign of one byte that begins no longer one: ( ) , ; . + * =
abbrev pub is_lone : ℕ → Bool
is_lone byte = nat_eq byte 40 || nat_eq byte 41 || nat_eq byte 44 || nat_eq byte 59 || nat_eq byte 46 || nat_eq byte 43 || nat_eq byte 42 || nat_eq byte 61

-- what makes a sign of two bytes behind `<`: = >
abbrev pub is_behind_less : ℕ → Bool
is_behind_less byte = nat_eq byte 61 || nat_eq byte 62

-- a sign, and what follows it: - stands before no other -, < before no = or >, and > before no =
abbrev pub is_sign : List ℕ → List ℕ → Bool
is_sign [] rest = false
is_sign (a ∷ []) rest =
    is_lone a || (is_dash a && not (begins is_dash rest)) || (nat_eq a 60 && not (begins is_behind_less rest)) || (nat_eq a 62 && not (begins (λ b. nat_eq b 61) rest))
is_sign (a ∷ b ∷ []) rest = (nat_eq a 60 && is_behind_less b) || (nat_eq a 62 && nat_eq b 61)
is_sign (a ∷ b ∷ c ∷ more) rest = false

-- The bytes of a token, and what follows them: a token is the longest at its place.
abbrev pub IsToken : TokenKind → List ℕ → List ℕ → Type 0
IsToken Word word rest = IsTrue (is_word word) × (begins is_part rest ≡ false)
IsToken (Number n) word rest = IsTrue (is_digits word) × (n ≡ pos (number word)) × (number word < 2 ^ 63) × (begins is_digit rest ≡ false)
IsToken TopNumber word rest = IsTrue (is_digits word) × (number word ≡ 2 ^ 63) × (begins is_digit rest ≡ false)
IsToken (Str text) word rest = (word ≡ quoted text) × IsUtf8 text × (begins is_quote rest ≡ false)
IsToken Sign word rest = IsTrue (is_sign word rest)

-- what a comment goes on with: no line feed
abbrev pub is_line : List ℕ → Bool
is_line line = list_all (λ byte. not (is_feed byte)) line

-- `rest` is what is left of the bytes behind white space and comments. A comment is `--` and the rest of its line.
pub data Skips : List ℕ → List ℕ → Type 0 where
  none : {bytes : List ℕ} → Skips bytes bytes
  blank : {byte : ℕ} {bytes rest : List ℕ} → is_blank byte ≡ true → Skips bytes rest → Skips (byte ∷ bytes) rest
  comment : {bytes rest : List ℕ} (line after : List ℕ) → bytes ≡ 45 ∷ 45 ∷ (line ++ after) → is_line line ≡ true → (begins is_feed after ≡ true) ⊎ (after ≡ []) → Skips after rest → Skips bytes rest

-- A token of the text `bytes`, which begins at `at`: white space and comments, the token, and what is left.
pub record TakesToken (at : ℕ) (bytes : List ℕ) (token : Token) (rest : List ℕ) : Type 0 where
  pub word : List ℕ
  pub skips : Skips bytes (word ++ rest)
  pub is : IsToken token.kind word rest
  pub start : token.start + length (word ++ rest) ≡ at + length bytes
  pub end : token.end ≡ token.start + length word

-- The tokens at the front of `bytes`, in order, with only white space and comments before each; behind them `rest` is left.
abbrev pub Takes : ℕ → List ℕ → List Token → List ℕ → Type 0
Takes at bytes [] rest = Skips bytes rest
Takes at bytes (token ∷ tokens) rest = (after : List ℕ) × TakesToken at bytes token after × Takes token.end after tokens rest

-- the tokens of a text: all of it
abbrev pub IsTokens : List ℕ → List Token → Type 0
IsTokens text tokens = Takes 0 text tokens []

-- no white space, no comment and no token is at the front of these bytes, and they are not at their end
pub record BeginsNothing (bytes : List ℕ) : Type 0 where
  pub more : bytes ≢ []
  pub no_gap : (rest : List ℕ) → Skips bytes rest → rest ≡ bytes
  pub no_token : (kind : TokenKind) (word rest : List ℕ) → bytes ≡ word ++ rest → IsToken kind word rest → ⊥

-- behind tokens of the text, white space and comments, no token begins at the byte `at`
pub record NoTokenAt (text : List ℕ) (at : ℕ) : Type 0 where
  pub tokens : List Token
  pub rest : List ℕ
  pub takes : Takes 0 text tokens rest
  pub place : at + length rest ≡ length text
  pub nothing : BeginsNothing rest
