-- Texts in quotes, read from their front.
use Rattle.std.proofs.Common.{◌≡◌, ℕ, Bool, true, false, cond, List, [], ◌∷◌, ◌++◌, length, Option, Some, None, option_map, refl, ap, sym, ◌∙◌, append_assoc, subst, IsUtf8}
use Rattle.std.proofs.lemmas.Bool.{eqb-true}
use Rattle.sr_lex.specs.Tokens.{is_quote, begins, doubled}
use Rattle.std.specs.Str.{is_utf8}
use Rattle.std.proofs.lemmas.Str.{is_utf8-from_IsUtf8, IsUtf8-from_is_utf8}
use Rattle.sr_lex.specs.Inner.Reading.{text_rest, with_byte, utf8_text}

-- what was found, behind bytes that were read before
abbrev pub in_front : List ℕ → Option (List ℕ × ℕ) → Option (List ℕ × ℕ)
in_front prefix found = option_map (λ x. (prefix ++ x.0, x.1)) found

pub in_front-with_byte : (prefix : List ℕ) (byte : ℕ) (found : Option (List ℕ × ℕ)) → in_front (prefix ++ byte ∷ []) found ≡ in_front prefix (with_byte byte found)
in_front-with_byte prefix byte None = refl
in_front-with_byte prefix byte (Some x) = rw append_assoc refl

pub in_front-nil : (found : Option (List ℕ × ℕ)) → in_front [] found ≡ found
in_front-nil None = refl
in_front-nil (Some x) = refl

-- a byte that is no quote is one of the text
pub text_rest-plain : (byte : ℕ) (bytes : List ℕ) → is_quote byte ≡ false → text_rest (byte ∷ bytes) ≡ with_byte byte (text_rest bytes)
text_rest-plain byte [] plain = rw plain refl
text_rest-plain byte (b ∷ bytes) plain = rw plain refl

-- a quote that is not twice ends it
pub text_rest-ends : (byte : ℕ) (rest : List ℕ) → is_quote byte ≡ true → begins is_quote rest ≡ false → text_rest (byte ∷ rest) ≡ Some ([], length rest)
text_rest-ends byte [] quote stop = rw quote refl
text_rest-ends byte (b ∷ rest) quote stop = rw (quote, stop) refl

-- and one that is twice is one quote of the text
pub text_rest-twice : (a b : ℕ) (bytes : List ℕ) → is_quote a ≡ true → is_quote b ≡ true → text_rest (a ∷ b ∷ bytes) ≡ with_byte 39 (text_rest bytes)
text_rest-twice a b bytes e f = rw (e, f) refl

again_more : (byte : ℕ) (text rest : List ℕ) (b : Bool) → is_quote byte ≡ b → text_rest (doubled text ++ 39 ∷ rest) ≡ Some (text, length rest) →
    text_rest (cond b (39 ∷ 39 ∷ doubled text) (byte ∷ doubled text) ++ 39 ∷ rest) ≡ Some (byte ∷ text, length rest)
again_more byte text rest true e rec = rw rec (ap (λ x. Some (x ∷ text, length rest)) (sym (eqb-true byte 39 e)))
again_more byte text rest false e rec = text_rest-plain byte _ e ∙ rw rec refl

-- what is in quotes is read again
pub text_rest-again : (text rest : List ℕ) → begins is_quote rest ≡ false → text_rest (doubled text ++ 39 ∷ rest) ≡ Some (text, length rest)
text_rest-again [] rest stop = text_rest-ends 39 rest refl stop
text_rest-again (byte ∷ text) rest stop = again_more byte text rest (is_quote byte) refl (text_rest-again text rest stop)

-- bytes behind an opening quote: a text, its closing quote, and so many bytes
pub record Closes (bytes text : List ℕ) (left : ℕ) : Type 0 where
  pub rest : List ℕ
  pub is : bytes ≡ doubled text ++ 39 ∷ rest
  pub count : length rest ≡ left
  pub stop : begins is_quote rest ≡ false

some_same : (p q : List ℕ × ℕ) → Some p ≡ Some q → p ≡ q
some_same p q e = cc

-- what was found is one text and one count
found_same : (t u : List ℕ) (m n : ℕ) → ◌≡◌ {A = Option (List ℕ × ℕ)} (Some (t, m)) (Some (u, n)) → (t ≡ u) × (m ≡ n)
found_same t u m n e =
    let p : List ℕ × ℕ = (t, m) in
    let q : List ℕ × ℕ = (u, n) in
    let s : p ≡ q = some_same p q e in
    (ap (λ (z : List ℕ × ℕ). z.0) s, ap (λ (z : List ℕ × ℕ). z.1) s)

closes_more : (byte : ℕ) (bytes : List ℕ) (found : Option (List ℕ × ℕ)) (text : List ℕ) (left : ℕ) → is_quote byte ≡ false →
    ((t : List ℕ) (n : ℕ) → found ≡ Some (t, n) → Closes bytes t n) → with_byte byte found ≡ Some (text, left) → Closes (byte ∷ bytes) text left
closes_more byte bytes None text left plain rec e = absurd (cc)
closes_more byte bytes (Some x) text left plain rec e =
    let r = rec x.0 x.1 refl in
    let s = found_same (byte ∷ x.0) text x.1 left e in
    let is : byte ∷ bytes ≡ doubled (byte ∷ x.0) ++ 39 ∷ r.rest = rw plain (ap (λ ys. byte ∷ ys) r.is) in
    let is' = subst (λ (t : List ℕ). byte ∷ bytes ≡ doubled t ++ 39 ∷ r.rest) s.0 is in
    record { rest = r.rest; is = is'; count = r.count ∙ s.1; stop = r.stop }

-- the three ways on behind a first byte
closes_twice : (a b : ℕ) (bytes : List ℕ) (found : Option (List ℕ × ℕ)) (text : List ℕ) (left : ℕ) → is_quote a ≡ true → is_quote b ≡ true →
    ((t : List ℕ) (n : ℕ) → found ≡ Some (t, n) → Closes bytes t n) → with_byte 39 found ≡ Some (text, left) → Closes (a ∷ b ∷ bytes) text left
closes_twice a b bytes None text left e f rec h = absurd (cc)
closes_twice a b bytes (Some x) text left e f rec h =
    let r = rec x.0 x.1 refl in
    let s = found_same (39 ∷ x.0) text x.1 left h in
    let ea : a ≡ 39 = eqb-true a 39 e in
    let eb : b ≡ 39 = eqb-true b 39 f in
    let is : a ∷ b ∷ bytes ≡ doubled (39 ∷ x.0) ++ 39 ∷ r.rest = rw (ea, eb) (ap (λ ys. 39 ∷ 39 ∷ ys) r.is) in
    let is' = subst (λ (t : List ℕ). a ∷ b ∷ bytes ≡ doubled t ++ 39 ∷ r.rest) s.0 is in
    record { rest = r.rest; is = is'; count = r.count ∙ s.1; stop = r.stop }

closes_here : (a b : ℕ) (bytes text : List ℕ) (left : ℕ) → is_quote a ≡ true → is_quote b ≡ false → ◌≡◌ {A = Option (List ℕ × ℕ)} (Some ([], length (b ∷ bytes))) (Some (text, left)) → Closes (a ∷ b ∷ bytes) text left
closes_here a b bytes text left e f h =
    let ea : a ≡ 39 = eqb-true a 39 e in
    let s = found_same [] text (length (b ∷ bytes)) left h in
    let is : a ∷ b ∷ bytes ≡ doubled [] ++ 39 ∷ (b ∷ bytes) = rw ea refl in
    let is' = subst (λ (t : List ℕ). a ∷ b ∷ bytes ≡ doubled t ++ 39 ∷ (b ∷ bytes)) s.0 is in
    record { rest = b ∷ bytes; is = is'; count = s.1; stop = f }

closes_by : (a b : ℕ) (bytes text : List ℕ) (left : ℕ) (x y : Bool) → is_quote a ≡ x → is_quote b ≡ y →
    ((t : List ℕ) (n : ℕ) → text_rest bytes ≡ Some (t, n) → Closes bytes t n) →
    ((t : List ℕ) (n : ℕ) → text_rest (b ∷ bytes) ≡ Some (t, n) → Closes (b ∷ bytes) t n) →
    ◌≡◌ {A = Option (List ℕ × ℕ)} (cond x (cond y (with_byte 39 (text_rest bytes)) (Some ([], length (b ∷ bytes)))) (with_byte a (text_rest (b ∷ bytes)))) (Some (text, left)) → Closes (a ∷ b ∷ bytes) text left
closes_by a b bytes text left true true e f rec more h = closes_twice a b bytes (text_rest bytes) text left e f rec h
closes_by a b bytes text left true false e f rec more h = closes_here a b bytes text left e f h
closes_by a b bytes text left false y e f rec more h = closes_more a (b ∷ bytes) (text_rest (b ∷ bytes)) text left e more h

closes_last : (a : ℕ) (text : List ℕ) (left : ℕ) (x : Bool) → is_quote a ≡ x → ◌≡◌ {A = Option (List ℕ × ℕ)} (cond x (Some ([], 0)) None) (Some (text, left)) → Closes (a ∷ []) text left
closes_last a text left true e h =
    let ea : a ≡ 39 = eqb-true a 39 e in
    let s = found_same [] text 0 left h in
    let is : a ∷ [] ≡ doubled [] ++ 39 ∷ [] = rw ea refl in
    let is' = subst (λ (t : List ℕ). a ∷ [] ≡ doubled t ++ 39 ∷ []) s.0 is in
    record { rest = []; is = is'; count = s.1; stop = refl }
closes_last a text left false e h = absurd (cc)

-- what is read stands there in quotes
pub text_rest-closes : (bytes text : List ℕ) (left : ℕ) → text_rest bytes ≡ Some (text, left) → Closes bytes text left
text_rest-closes [] text left h = absurd (cc)
text_rest-closes (a ∷ []) text left h = closes_last a text left (is_quote a) refl h
text_rest-closes (a ∷ b ∷ bytes) text left h = closes_by a b bytes text left (is_quote a) (is_quote b) refl refl (text_rest-closes bytes) (text_rest-closes (b ∷ bytes)) h

-- bytes that are UTF-8 are a text, and others are none
pub utf8_text-yes : (bytes : List ℕ) → IsUtf8 bytes → Some bytes ≡ utf8_text bytes
utf8_text-yes bytes h = rw (is_utf8-from_IsUtf8 bytes h) refl

utf8_no : (bytes : List ℕ) (b : Bool) → is_utf8 bytes ≡ b → (IsUtf8 bytes → ⊥) → ◌≡◌ {A = Option (List ℕ)} None (cond b (Some bytes) None)
utf8_no bytes true e h = absurd (h (IsUtf8-from_is_utf8 bytes e))
utf8_no bytes false e h = refl

pub utf8_text-no : (bytes : List ℕ) → (IsUtf8 bytes → ⊥) → None ≡ utf8_text bytes
utf8_text-no bytes h = utf8_no bytes (is_utf8 bytes) refl h

pub utf8_text-Some : (bytes text : List ℕ) (b : Bool) → is_utf8 bytes ≡ b → ◌≡◌ {A = Option (List ℕ)} (cond b (Some bytes) None) (Some text) → (bytes ≡ text) × IsUtf8 bytes
utf8_text-Some bytes text true e h = (cc, IsUtf8-from_is_utf8 bytes e)
utf8_text-Some bytes text false e h = absurd (cc)
