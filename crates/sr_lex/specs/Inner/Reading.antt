-- How a text is read from its front: functions that the private contracts cite.
use Rattle.std.specs.Prelude.{ℕ, ◌+◌, ◌-◌, ◌^◌, ◌&&◌, ◌||◌, cond, List, [], ◌∷◌, length, take, nat_eq, nat_le, nat_lt, pos, Option, Some, None, option_map, option_and_then}
use Rattle.std.specs.List.{prefix_len}
use Rattle.std.specs.Str.{is_utf8}
use Rattle.sr_lex.specs.declared.token.TokenKind.{TokenKind}
use Rattle.sr_lex.specs.declared.token.TokenKind.TheVariants.{Word, Number, TopNumber, Str, Sign}
use Rattle.sr_lex.specs.Tokens.{is_blank, is_feed, is_dash, is_quote, is_start, is_digit, is_part, begins, number, is_lone, is_behind_less}

abbrev mutual
  -- what follows the white space and comments at the front
  pub after_gap : List ℕ → List ℕ
  after_gap [] = []
  after_gap (byte ∷ bytes) = cond (is_blank byte) (after_gap bytes) (cond (is_dash byte && begins is_dash bytes) (after_line bytes) (byte ∷ bytes))

  -- the same from inside a comment
  pub after_line : List ℕ → List ℕ
  after_line [] = []
  after_line (byte ∷ bytes) = cond (is_feed byte) (after_gap bytes) (after_line bytes)

-- the text meant by the bytes behind an opening quote, and how many bytes are left behind the closing one
abbrev pub with_byte : ℕ → Option (List ℕ × ℕ) → Option (List ℕ × ℕ)
with_byte byte found = option_map (λ x. (byte ∷ x.0, x.1)) found

abbrev pub text_rest : List ℕ → Option (List ℕ × ℕ)
text_rest [] = None
text_rest (a ∷ []) = cond (is_quote a) (Some ([], 0)) None
text_rest (a ∷ b ∷ bytes) = cond (is_quote a) (cond (is_quote b) (with_byte 39 (text_rest bytes)) (Some ([], length (b ∷ bytes)))) (with_byte a (text_rest (b ∷ bytes)))

-- the word at the front, and how many bytes it takes
abbrev pub word_at : List ℕ → Option (TokenKind × ℕ)
word_at bytes = cond (nat_le (prefix_len is_part bytes) 64) (Some (Word, prefix_len is_part bytes)) None

abbrev pub number_of : ℕ → ℕ → Option (TokenKind × ℕ)
number_of n len = cond (nat_lt n (2 ^ 63)) (Some (Number (pos n), len)) (cond (nat_eq n (2 ^ 63)) (Some (TopNumber, len)) None)

-- the number at the front, and how many bytes it takes
abbrev pub number_at : List ℕ → Option (TokenKind × ℕ)
number_at bytes = number_of (number (take (prefix_len is_digit bytes) bytes)) (prefix_len is_digit bytes)

-- bytes as a text
abbrev pub utf8_text : List ℕ → Option (List ℕ)
utf8_text bytes = cond (is_utf8 bytes) (Some bytes) None

abbrev pub text_of : List ℕ → ℕ → Option (TokenKind × ℕ)
text_of text len = option_map (λ t. (Str t, len)) (utf8_text text)

-- the text behind an opening quote, and how many bytes it takes with both quotes
abbrev pub text_at : List ℕ → Option (TokenKind × ℕ)
text_at after = option_and_then (λ x. text_of x.0 (1 + (length after - x.1))) (text_rest after)

-- the first byte, or 0 where there is none
abbrev pub first_of : List ℕ → ℕ
first_of [] = 0
first_of (byte ∷ bytes) = byte

-- how many of two bytes are a sign, 0 where they begin none
abbrev pub sign_length : ℕ → ℕ → ℕ
sign_length a b = cond (nat_eq a 60) (cond (is_behind_less b) 2 1) (cond (nat_eq a 62) (cond (nat_eq b 61) 2 1) (cond (is_lone a || is_dash a) 1 0))

-- the sign that begins with a byte, and how many bytes it takes
abbrev pub sign_of : ℕ → Option (TokenKind × ℕ)
sign_of len = cond (nat_eq len 0) None (Some (Sign, len))

abbrev pub sign_at : ℕ → List ℕ → Option (TokenKind × ℕ)
sign_at first after = sign_of (sign_length first (first_of after))

-- the token at the front of bytes that begin with no white space and no comment, and how many bytes it takes
abbrev pub token_at : List ℕ → Option (TokenKind × ℕ)
token_at [] = None
token_at (byte ∷ bytes) = cond (is_start byte) (word_at (byte ∷ bytes)) (cond (is_digit byte) (number_at (byte ∷ bytes)) (cond (is_quote byte) (text_at bytes) (sign_at byte bytes)))
