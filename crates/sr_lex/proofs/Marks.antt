-- The token at the front, read and written.
use Rattle.std.proofs.Common.{◌≡◌, ℕ, suc, ◌+◌, ◌-◌, ◌^◌, ◌<◌, ◌≤◌, Bool, true, false, ◌&&◌, cond, List, [], ◌∷◌, ◌++◌, length, take, drop, Option, Some, None, pos, refl, ap, sym, ◌∙◌, subst, length-append, nat_eq, nat_lt, nat_le, IsUtf8, append_assoc, take-append-drop, length-take-le, option_map, option_and_then, zero, arith}
use Rattle.std.specs.List.{list_all, prefix_len}
use Rattle.std.specs.Str.{is_utf8}
use Rattle.std.proofs.lemmas.Bool.{eqb-true, and_parts, cond-true, cond-false, lt-ltb, and_left, and_from, or_left, ltb-true}
use Rattle.std.proofs.lemmas.List.Sums.{prefix_len-le-length}
use Rattle.std.proofs.lemmas.Bool.Decides.{nat_tests}
use Rattle.sr_lex.specs.declared.token.TokenKind.{TokenKind}
use Rattle.sr_lex.specs.declared.token.TokenKind.TheVariants.{Word, Number, TopNumber, Str, Sign}
use Rattle.sr_lex.specs.Tokens.{is_blank, is_dash, is_quote, is_start, is_digit, is_part, is_word, is_digits, is_sign, begins, number, quoted, doubled, IsToken}
use Rattle.sr_lex.specs.Inner.Reading.{token_at, word_at, number_at, text_at, text_rest, number_of, sign_at, sign_length, first_of, utf8_text, sign_of, after_gap, after_line, text_of}
use Rattle.sr_lex.proofs.Gaps.{after_gap-le, after_line-le}
use Rattle.sr_lex.proofs.Runs.{prefix_len-run, run_passes, run_stops, run_first}
use Rattle.sr_lex.proofs.Texts.{text_rest-again, text_rest-closes, Closes, utf8_text-yes, utf8_text-Some}

start_is : (byte : ℕ) → is_start byte ≡ true → (is_blank byte ≡ false) × (is_dash byte ≡ false)
start_is byte h = (grind (arith, nat_tests), grind (arith, nat_tests))

digit_is : (byte : ℕ) → is_digit byte ≡ true → (is_blank byte ≡ false) × (is_dash byte ≡ false) × (is_start byte ≡ false)
digit_is byte h = (grind (arith, nat_tests), grind (arith, nat_tests), grind (arith, nat_tests))

begins-append : (p : ℕ → Bool) (word rest : List ℕ) → begins p word ≡ true → begins p (word ++ rest) ≡ true
begins-append p [] rest h = absurd (cc)
begins-append p (byte ∷ word) rest h = h

-- which kind of token begins with a byte
token_at-word : (bytes : List ℕ) → begins is_start bytes ≡ true → token_at bytes ≡ word_at bytes
token_at-word [] h = absurd (cc)
token_at-word (byte ∷ bytes) h = cond-true (is_start byte) (word_at (byte ∷ bytes)) _ h

token_at-number : (bytes : List ℕ) → begins is_digit bytes ≡ true → token_at bytes ≡ number_at bytes
token_at-number [] h = absurd (cc)
token_at-number (byte ∷ bytes) h =
    cond-false (is_start byte) (word_at (byte ∷ bytes)) _ (digit_is byte h).2 ∙ cond-true (is_digit byte) (number_at (byte ∷ bytes)) _ h

token_at-sign : (byte : ℕ) (bytes : List ℕ) → is_start byte ≡ false → is_digit byte ≡ false → is_quote byte ≡ false → token_at (byte ∷ bytes) ≡ sign_at byte bytes
token_at-sign byte bytes s d q =
    cond-false (is_start byte) (word_at (byte ∷ bytes)) _ s ∙ (cond-false (is_digit byte) (number_at (byte ∷ bytes)) _ d ∙ cond-false (is_quote byte) (text_at bytes) _ q)

take_prefix : (xs ys : List ℕ) → take (length xs) (xs ++ ys) ≡ xs
take_prefix [] ys = refl
take_prefix (x ∷ xs) ys = ap (λ t. x ∷ t) (take_prefix xs ys)

word_again : (word rest : List ℕ) → is_word word ≡ true → begins is_part rest ≡ false → token_at (word ++ rest) ≡ Some (Word, length word)
word_again word rest h stop =
    let all = and_parts (begins is_start word && list_all is_part word) (nat_le (length word) 64) h in
    let parts = and_parts (begins is_start word) (list_all is_part word) all.0 in
    let run : prefix_len is_part (word ++ rest) ≡ length word = prefix_len-run is_part word rest parts.1 stop in
    token_at-word (word ++ rest) (begins-append is_start word rest parts.0) ∙ rw (run, all.1) refl

number_again : (word rest : List ℕ) → is_digits word ≡ true → begins is_digit rest ≡ false → token_at (word ++ rest) ≡ number_of (number word) (length word)
number_again word rest h stop =
    let parts = and_parts (begins is_digit word) (list_all is_digit word) h in
    let run : prefix_len is_digit (word ++ rest) ≡ length word = prefix_len-run is_digit word rest parts.1 stop in
    token_at-number (word ++ rest) (begins-append is_digit word rest parts.0) ∙ rw (run, take_prefix word rest) refl

text_again : (text rest : List ℕ) → IsUtf8 text → begins is_quote rest ≡ false → token_at (quoted text ++ rest) ≡ Some (Str text, length (quoted text))
text_again text rest u stop =
    let same : (doubled text ++ 39 ∷ []) ++ rest ≡ doubled text ++ 39 ∷ rest = append_assoc (doubled text) (39 ∷ []) rest in
    let found = text_rest-again text rest stop in
    let n : length (doubled text ++ 39 ∷ rest) ≡ length (doubled text) + suc (length rest) = length-append (doubled text) (39 ∷ rest) in
    let m : length (doubled text ++ 39 ∷ []) ≡ length (doubled text) + 1 = length-append (doubled text) (39 ∷ []) in
    let count : 1 + (length (doubled text ++ 39 ∷ rest) - length rest) ≡ length (quoted text) = omega arith in
    rw (same, found, sym (utf8_text-yes text u), count) refl

second_of : (a : ℕ) (rest : List ℕ) → is_sign (a ∷ []) rest ≡ true → sign_length a (first_of rest) ≡ 1
second_of a [] h = grind (arith, nat_tests)
second_of a (b ∷ rest) h = grind (arith, nat_tests)

sign_is : (a : ℕ) (rest : List ℕ) → is_sign (a ∷ []) rest ≡ true → (is_start a ≡ false) × (is_digit a ≡ false) × (is_quote a ≡ false) × (is_blank a ≡ false)
sign_is a [] h = (grind (arith, nat_tests), grind (arith, nat_tests), grind (arith, nat_tests), grind (arith, nat_tests))
sign_is a (b ∷ rest) h = (grind (arith, nat_tests), grind (arith, nat_tests), grind (arith, nat_tests), grind (arith, nat_tests))

two_is : (a b : ℕ) (rest : List ℕ) → is_sign (a ∷ b ∷ []) rest ≡ true → (is_start a ≡ false) × (is_digit a ≡ false) × (is_quote a ≡ false) × (is_blank a ≡ false) × (is_dash a ≡ false) × (sign_length a b ≡ 2)
two_is a b rest h = (grind (arith, nat_tests), grind (arith, nat_tests), grind (arith, nat_tests), grind (arith, nat_tests), grind (arith, nat_tests), grind (arith, nat_tests))

sign_again : (word rest : List ℕ) → is_sign word rest ≡ true → token_at (word ++ rest) ≡ Some (Sign, length word)
sign_again [] rest h = absurd (cc)
sign_again (a ∷ []) rest h =
    let is = sign_is a rest h in
    token_at-sign a rest is.0 is.1 is.2 ∙ ap sign_of (second_of a rest h)
sign_again (a ∷ b ∷ []) rest h =
    let is = two_is a b rest h in
    token_at-sign a (b ∷ rest) is.0 is.1 is.2 ∙ ap sign_of is.5
sign_again (a ∷ b ∷ c ∷ more) rest h = absurd (cc)

-- what stands as a token is read as that token
pub token_at-again : (kind : TokenKind) (word rest : List ℕ) → IsToken kind word rest → token_at (word ++ rest) ≡ Some (kind, length word)
token_at-again Word word rest h = word_again word rest h.0 h.1
token_at-again (Number n) word rest h =
    let small : nat_lt (number word) (2 ^ 63) ≡ true = lt-ltb (number word) (2 ^ 63) h.2 in
    number_again word rest h.0 h.3 ∙ rw (small, h.1) refl
token_at-again TopNumber word rest h =
    let e = h.1 in
    number_again word rest h.0 h.2 ∙ rw e refl
token_at-again (Str text) word rest h = subst (λ (w : List ℕ). token_at (w ++ rest) ≡ Some (Str text, length w)) (sym h.0) (text_again text rest h.1 h.2)
token_at-again Sign word rest h = sign_again word rest h

-- no white space and no comment begins with a byte
bare_first : (byte : ℕ) (bytes : List ℕ) → is_blank byte ≡ false → (is_dash byte && begins is_dash bytes) ≡ false → after_gap (byte ∷ bytes) ≡ byte ∷ bytes
bare_first byte bytes b d = cond-false (is_blank byte) (after_gap bytes) _ b ∙ cond-false (is_dash byte && begins is_dash bytes) (after_line bytes) _ d

bare_by : (p : ℕ → Bool) (word rest : List ℕ) → ((b : ℕ) → p b ≡ true → (is_blank b ≡ false) × (is_dash b ≡ false)) → begins p word ≡ true → after_gap (word ++ rest) ≡ word ++ rest
bare_by p [] rest f h = absurd (cc)
bare_by p (byte ∷ word) rest f h = let e = f byte h in bare_first byte (word ++ rest) e.0 (and_left (is_dash byte) (begins is_dash (word ++ rest)) e.1)

lone_dash : (a : ℕ) (rest : List ℕ) → is_sign (a ∷ []) rest ≡ true → (is_dash a && begins is_dash rest) ≡ false
lone_dash a [] h = grind (arith, nat_tests)
lone_dash a (b ∷ rest) h = grind (arith, nat_tests)

bare_sign : (word rest : List ℕ) → is_sign word rest ≡ true → after_gap (word ++ rest) ≡ word ++ rest
bare_sign [] rest h = absurd (cc)
bare_sign (a ∷ []) rest h = bare_first a rest (sign_is a rest h).3 (lone_dash a rest h)
bare_sign (a ∷ b ∷ []) rest h =
    let is = two_is a b rest h in
    bare_first a (b ∷ rest) is.3 (and_left (is_dash a) (begins is_dash (b ∷ rest)) is.4)
bare_sign (a ∷ b ∷ c ∷ more) rest h = absurd (cc)

digits_begin : (word : List ℕ) → is_digits word ≡ true → begins is_digit word ≡ true
digits_begin word h = (and_parts (begins is_digit word) (list_all is_digit word) h).0

word_begins : (word : List ℕ) → is_word word ≡ true → begins is_start word ≡ true
word_begins word h =
    let all = and_parts (begins is_start word && list_all is_part word) (nat_le (length word) 64) h in
    (and_parts (begins is_start word) (list_all is_part word) all.0).0

digit_bare : (b : ℕ) → is_digit b ≡ true → (is_blank b ≡ false) × (is_dash b ≡ false)
digit_bare b h = ((digit_is b h).0, (digit_is b h).1)

-- a token begins with no white space and with no comment
pub token_bare : (kind : TokenKind) (word rest : List ℕ) → IsToken kind word rest → after_gap (word ++ rest) ≡ word ++ rest
token_bare Word word rest h = bare_by is_start word rest start_is (word_begins word h.0)
token_bare (Number n) word rest h = bare_by is_digit word rest digit_bare (digits_begin word h.0)
token_bare TopNumber word rest h = bare_by is_digit word rest digit_bare (digits_begin word h.0)
token_bare (Str text) word rest h = subst (λ (w : List ℕ). after_gap (w ++ rest) ≡ w ++ rest) (sym h.0) refl
token_bare Sign word rest h = bare_sign word rest h

-- a token of so many bytes at the front
pub record Stands (bytes : List ℕ) (kind : TokenKind) (n : ℕ) : Type 0 where
  pub word : List ℕ
  pub rest : List ℕ
  pub is : bytes ≡ word ++ rest
  pub count : length word ≡ n
  pub some : 0 < n
  pub token : IsToken kind word rest

pub mark_same : (p q : TokenKind × ℕ) → Some p ≡ Some q → p ≡ q
mark_same p q e = cc

-- what stands there, under another name
stands_as : (bytes : List ℕ) (k j : TokenKind) (n m : ℕ) → Stands bytes k n → ◌≡◌ {A = Option (TokenKind × ℕ)} (Some (k, n)) (Some (j, m)) → Stands bytes j m
stands_as bytes k j n m s e =
    let p : TokenKind × ℕ = (k, n) in
    let q : TokenKind × ℕ = (j, m) in
    let same : p ≡ q = mark_same p q e in
    subst (λ (z : TokenKind × ℕ). Stands bytes z.0 z.1) same s

-- a run that is not empty
run_some : (p q : ℕ → Bool) (bytes : List ℕ) → begins q bytes ≡ true → ((b : ℕ) → q b ≡ true → p b ≡ true) → (begins q (take (prefix_len p bytes) bytes) ≡ true) × (0 < prefix_len p bytes)
run_some p q [] h f = absurd (cc)
run_some p q (byte ∷ bytes) h f =
    let e = f byte h in
    let n : prefix_len p (byte ∷ bytes) ≡ 1 + prefix_len p bytes = cond-true (p byte) (1 + prefix_len p bytes) 0 e in
    (run_first p q byte bytes e h, omega (arith, n))

word_length : (p : ℕ → Bool) (bytes : List ℕ) → length (take (prefix_len p bytes) bytes) ≡ prefix_len p bytes
word_length p bytes = length-take-le (prefix_len p bytes) bytes (prefix_len-le-length p bytes)

start_part : (b : ℕ) → is_start b ≡ true → is_part b ≡ true
start_part b h = or_left (is_start b) (is_digit b) h

word_stands : (bytes : List ℕ) (kind : TokenKind) (n : ℕ) (x : Bool) → begins is_start bytes ≡ true → nat_le (prefix_len is_part bytes) 64 ≡ x →
    ◌≡◌ {A = Option (TokenKind × ℕ)} (cond x (Some (Word, prefix_len is_part bytes)) None) (Some (kind, n)) → Stands bytes kind n
word_stands bytes kind n false h e s = absurd (cc)
word_stands bytes kind n true h e s =
    let some = run_some is_part is_start bytes h start_part in
    let len = word_length is_part bytes in
    let prefix : (begins is_start (take (prefix_len is_part bytes) bytes) && list_all is_part (take (prefix_len is_part bytes) bytes)) ≡ true = and_from _ _ some.0 (run_passes is_part bytes) in
    let small : nat_le (length (take (prefix_len is_part bytes) bytes)) 64 ≡ true = rw len e in
    stands_as bytes Word kind (prefix_len is_part bytes) n
    (record {
      word = take (prefix_len is_part bytes) bytes;
      rest = drop (prefix_len is_part bytes) bytes;
      is = sym (take-append-drop (prefix_len is_part bytes) bytes);
      count = len;
      some = some.1;
      token = (and_from _ _ prefix small, run_stops is_part bytes);
    })
    s

number_stands : (bytes : List ℕ) (kind : TokenKind) (n v : ℕ) (x y : Bool) → begins is_digit bytes ≡ true → number (take (prefix_len is_digit bytes) bytes) ≡ v → nat_lt v (2 ^ 63) ≡ x → nat_eq v (2 ^ 63) ≡ y →
    ◌≡◌ {A = Option (TokenKind × ℕ)} (cond x (Some (Number (pos v), prefix_len is_digit bytes)) (cond y (Some (TopNumber, prefix_len is_digit bytes)) None)) (Some (kind, n)) → Stands bytes kind n
number_stands bytes kind n v true y h is e f s =
    let some = run_some is_digit is_digit bytes h (λ b d. d) in
    let len = word_length is_digit bytes in
    let small : number (take (prefix_len is_digit bytes) bytes) < 2 ^ 63 = rw is (ltb-true v (2 ^ 63) e) in
    stands_as bytes (Number (pos v)) kind (prefix_len is_digit bytes) n
    (record {
      word = take (prefix_len is_digit bytes) bytes;
      rest = drop (prefix_len is_digit bytes) bytes;
      is = sym (take-append-drop (prefix_len is_digit bytes) bytes);
      count = len;
      some = some.1;
      token = (and_from _ _ some.0 (run_passes is_digit bytes), sym (ap pos is), small, run_stops is_digit bytes);
    })
    s
number_stands bytes kind n v false true h is e f s =
    let some = run_some is_digit is_digit bytes h (λ b d. d) in
    let len = word_length is_digit bytes in
    stands_as bytes TopNumber kind (prefix_len is_digit bytes) n
    (record {
      word = take (prefix_len is_digit bytes) bytes;
      rest = drop (prefix_len is_digit bytes) bytes;
      is = sym (take-append-drop (prefix_len is_digit bytes) bytes);
      count = len;
      some = some.1;
      token = (and_from _ _ some.0 (run_passes is_digit bytes), is ∙ eqb-true v (2 ^ 63) f, run_stops is_digit bytes);
    })
    s
number_stands bytes kind n v false false h is e f s = absurd (cc)

-- behind an opening quote
text_found : (byte : ℕ) (after : List ℕ) (kind : TokenKind) (n : ℕ) (text : List ℕ) (left : ℕ) (found : Option (List ℕ)) → is_quote byte ≡ true → Closes after text left →
    ((t : List ℕ) → found ≡ Some t → (text ≡ t) × IsUtf8 text) →
    ◌≡◌ {A = Option (TokenKind × ℕ)} (option_map (λ t. (Str t, 1 + (length after - left))) found) (Some (kind, n)) → Stands (byte ∷ after) kind n
text_found byte after kind n text left None q c f s = absurd (cc)
text_found byte after kind n text left (Some t) q c f s =
    let u = f t refl in
    let is : byte ∷ after ≡ quoted t ++ c.rest =
    rw (eqb-true byte 39 q) (ap (λ w. 39 ∷ w) (c.is ∙ (sym (append_assoc (doubled text) (39 ∷ []) c.rest) ∙ ap (λ w. (doubled w ++ 39 ∷ []) ++ c.rest) u.0))) in
    let whole : length (byte ∷ after) ≡ length (quoted t) + length c.rest = ap length is ∙ length-append (quoted t) c.rest in
    let utf8 : IsUtf8 t = subst (λ (w : List ℕ). IsUtf8 w) u.0 u.1 in
    let left_is = c.count in
    let less : 1 ≤ length (quoted t) = omega arith in
    stands_as (byte ∷ after) (Str t) kind (1 + (length after - left)) n
    (record { word = quoted t; rest = c.rest; is = is; count = omega arith; some = omega arith; token = (refl, utf8, c.stop) })
    s

text_stands : (byte : ℕ) (after : List ℕ) (kind : TokenKind) (n : ℕ) (found : Option (List ℕ × ℕ)) → is_quote byte ≡ true →
    ((t : List ℕ) (left : ℕ) → found ≡ Some (t, left) → Closes after t left) →
    ◌≡◌ {A = Option (TokenKind × ℕ)} (option_and_then (λ x. text_of x.0 (1 + (length after - x.1))) found) (Some (kind, n)) → Stands (byte ∷ after) kind n
text_stands byte after kind n None q c s = absurd (cc)
text_stands byte after kind n (Some x) q c s =
    text_found byte after kind n x.0 x.1 (utf8_text x.0) q (c x.0 x.1 refl) (λ t e. utf8_text-Some x.0 t (is_utf8 x.0) refl e) s

-- a sign of one byte or of two
one_sign : (a : ℕ) (rest : List ℕ) → sign_length a (first_of rest) ≡ 1 → (is_dash a && begins is_dash rest) ≡ false → is_sign (a ∷ []) rest ≡ true
one_sign a [] h d = grind (arith, nat_tests)
one_sign a (b ∷ rest) h d = grind (arith, nat_tests)

two_sign : (a b : ℕ) (rest : List ℕ) → sign_length a b ≡ 2 → is_sign (a ∷ b ∷ []) rest ≡ true
two_sign a b rest h = grind (arith, nat_tests)

no_two : (a : ℕ) → sign_length a 0 ≡ 2 → ⊥
no_two a h = grind (arith, nat_tests)

at_most_two : (a b : ℕ) → sign_length a b ≤ 2
at_most_two a b = grind (arith, nat_tests)

sign_stands : (a : ℕ) (after : List ℕ) (kind : TokenKind) (n len : ℕ) → (is_dash a && begins is_dash after) ≡ false → sign_length a (first_of after) ≡ len → sign_of len ≡ Some (kind, n) → Stands (a ∷ after) kind n
sign_stands a after kind n zero d is s = absurd (cc)
sign_stands a after kind n (suc zero) d is s =
    stands_as (a ∷ after) Sign kind 1 n (record { word = a ∷ []; rest = after; is = refl; count = refl; some = omega arith; token = one_sign a after is d }) s
sign_stands a [] kind n (suc (suc zero)) d is s = absurd (no_two a is)
sign_stands a (b ∷ after) kind n (suc (suc zero)) d is s =
    stands_as (a ∷ b ∷ after) Sign kind 2 n (record { word = a ∷ b ∷ []; rest = after; is = refl; count = refl; some = omega arith; token = two_sign a b after is }) s
sign_stands a after kind n (suc (suc (suc more))) d is s = absurd (omega (arith, at_most_two a (first_of after)))

stands_by : (byte : ℕ) (bytes : List ℕ) (kind : TokenKind) (n : ℕ) (x y z : Bool) → (is_dash byte && begins is_dash bytes) ≡ false → is_start byte ≡ x → is_digit byte ≡ y → is_quote byte ≡ z →
    cond x (word_at (byte ∷ bytes)) (cond y (number_at (byte ∷ bytes)) (cond z (text_at bytes) (sign_at byte bytes))) ≡ Some (kind, n) → Stands (byte ∷ bytes) kind n
stands_by byte bytes kind n true y z d e f g s = word_stands (byte ∷ bytes) kind n (nat_le (prefix_len is_part (byte ∷ bytes)) 64) e refl s
stands_by byte bytes kind n false true z d e f g s =
    let v = number (take (prefix_len is_digit (byte ∷ bytes)) (byte ∷ bytes)) in
    number_stands (byte ∷ bytes) kind n v (nat_lt v (2 ^ 63)) (nat_eq v (2 ^ 63)) f refl refl refl s
stands_by byte bytes kind n false false true d e f g s = text_stands byte bytes kind n (text_rest bytes) g (text_rest-closes bytes) s
stands_by byte bytes kind n false false false d e f g s = sign_stands byte bytes kind n (sign_length byte (first_of bytes)) d refl s

-- bytes that begin with no comment
bare_dash : (byte : ℕ) (bytes : List ℕ) (x y : Bool) → is_blank byte ≡ x → (is_dash byte && begins is_dash bytes) ≡ y → cond x (after_gap bytes) (cond y (after_line bytes) (byte ∷ bytes)) ≡ byte ∷ bytes → y ≡ false
bare_dash byte bytes x false e f h = refl
bare_dash byte bytes true true e f h = let n : length (after_gap bytes) ≡ suc (length bytes) = ap length h in absurd (omega (arith, after_gap-le bytes))
bare_dash byte bytes false true e f h = let n : length (after_line bytes) ≡ suc (length bytes) = ap length h in absurd (omega (arith, after_line-le bytes))

-- what is read as a token stands there
pub token_at-stands : (bytes : List ℕ) (kind : TokenKind) (n : ℕ) → after_gap bytes ≡ bytes → token_at bytes ≡ Some (kind, n) → Stands bytes kind n
token_at-stands [] kind n bare s = absurd (cc)
token_at-stands (byte ∷ bytes) kind n bare s =
    stands_by byte bytes kind n (is_start byte) (is_digit byte) (is_quote byte) (bare_dash byte bytes (is_blank byte) (is_dash byte && begins is_dash bytes) refl refl bare) refl refl refl s
