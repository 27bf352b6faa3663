-- A number that is read is the one that was written, and what was written is read again.
use Rattle.std.proofs.Common.{◌≡◌, ℕ, suc, ◌+◌, ◌^◌, ◌<◌, ◌≤◌, Bool, true, false, cond, ltb, List, [], ◌∷◌, ◌++◌, length, take, drop, Result, Ok, Err, refl, sym, ap, subst, ◌∙◌, append_assoc, arith, inl, inr}
use Rattle.std.specs.Prelude.{ℤ, FitsSigned}
use Rattle.std.specs.Int.{Width, w32, w64, byte_len, from_be_bytes, to_be_bytes, cast_signed, cast_unsigned}
use Rattle.std.proofs.lemmas.Bool.{cases_lt, ltb-false, le-ltb}
use Rattle.std.proofs.lemmas.Int.{ints, to_z-of_z, of_z-to_z}
use Rattle.std.proofs.lemmas.List.{take_at, drop_at, take-append-drop, length-append, length-take, get_or-drop, get_or-take, get_or_past}
use Rattle.std.proofs.lemmas.Nat.{be_bytes_4, be_bytes_8, from_be_bytes-to_be_bytes_4, from_be_bytes-to_be_bytes_8}
use Rattle.sr_base.specs.Fields.{byte_at, signed_spelling}
use Rattle.sr_base.specs.Reading.{Read, ◌>>=◌, number_at, signed_at}
use Rattle.sr_base.specs.Inner.Reading.{IsBytes, Takes, IsWithin, IsFormat}

pub IsBytes-drop : (n : ℕ) (bytes : List ℕ) → IsBytes bytes → IsBytes (drop n bytes)
IsBytes-drop n bytes h i = rw get_or-drop (h (n + i))

IsBytes-take : (n : ℕ) (bytes : List ℕ) → IsBytes bytes → IsBytes (take n bytes)
IsBytes-take n bytes h i =
    elim (cases_lt i n) [
      | inl lt ↦ rw (get_or-take n bytes i 0 lt) (h i)
      | inr le ↦ rw (get_or_past (take n bytes) i 0 (omega (arith, length-take n bytes))) (omega arith)
    ]

pub IsBytes-rest : (byte : ℕ) (bytes : List ℕ) → IsBytes (byte ∷ bytes) → IsBytes bytes
IsBytes-rest byte bytes h i = h (suc i)

-- the value of a step that did not break
pub bind_ok : {A B : Type 0} (r : Result A ℕ) (f : A → Result B ℕ) (y : B) → (r >>= f) ≡ Ok y → (x : A) × (r ≡ Ok x) × (f x ≡ Ok y)
bind_ok (Ok x) f y e = (x, refl, e)
bind_ok (Err left) f y e = absurd cc

-- a test that did not refuse, and one that let pass
pub guard_ok : {A : Type 0} (b : Bool) (left : ℕ) (x y : A) → cond b (Err left) (Ok x) ≡ Ok y → (b ≡ false) × (x ≡ y)
guard_ok true left x y e = absurd cc
guard_ok false left x y e = (refl, cc)

pub passed_ok : {A : Type 0} (b : Bool) (left : ℕ) (x y : A) → cond b (Ok x) (Err left) ≡ Ok y → (b ≡ true) × (x ≡ y)
passed_ok true left x y e = (refl, cc)
passed_ok false left x y e = absurd cc

abbrev done : {A : Type 0} → A → Result A ℕ
done x = Ok x

pub ok_is : {A : Type 0} (x y : A) → done x ≡ done y → x ≡ y
ok_is x y e = cc

pub Takes-then : (a x b y c : List ℕ) → Takes a x b → Takes b y c → Takes a (x ++ y) c
Takes-then a x b y c p q = record { parts = p.parts ∙ ap (λ (t : List ℕ). x ++ t) q.parts ∙ sym (append_assoc x y c); rest_fits = q.rest_fits }

-- what the laws need of a width
pub record IsWide (w : Width) (limit : ℕ) : Type 0 where
  pub len : (n : ℕ) → length (to_be_bytes w n) ≡ byte_len w
  pub back : (bytes : List ℕ) → length bytes ≡ byte_len w → IsBytes bytes → to_be_bytes w (from_be_bytes w bytes) ≡ bytes
  pub again : (n : ℕ) → n < limit → from_be_bytes w (to_be_bytes w n) ≡ n
  pub below : (bytes : List ℕ) → IsBytes bytes → from_be_bytes w bytes < limit

pub wide32 : IsWide w32 (2 ^ 32)
wide32 = record {
  len = λ n. refl;
  back = λ bytes len fits. be_bytes_4 bytes _ len fits refl;
  again = λ n lt. from_be_bytes-to_be_bytes_4 n lt;
  below = λ bytes fits. omega (arith, fits 0, fits 1, fits 2, fits 3);
}

pub wide64 : IsWide w64 (2 ^ 64)
wide64 = record {
  len = λ n. refl;
  back = λ bytes len fits. be_bytes_8 bytes _ len fits refl;
  again = λ n lt. from_be_bytes-to_be_bytes_8 n lt;
  below = λ bytes fits. omega (arith, fits 0, fits 1, fits 2, fits 3, fits 4, fits 5, fits 6, fits 7);
}

pub number_takes : (w : Width) (limit : ℕ) (wide : IsWide w limit) (bytes : List ℕ) (n : ℕ) (rest : List ℕ) → IsBytes bytes → number_at w bytes ≡ Ok (n, rest) → Takes bytes (to_be_bytes w n) rest × (n < limit)
number_takes w limit wide bytes n rest fits e =
    let g = guard_ok (ltb (length bytes) (byte_len w)) (length bytes) (from_be_bytes w (take (byte_len w) bytes), drop (byte_len w) bytes) (n, rest) e in
    let long : byte_len w ≤ length bytes = ltb-false _ _ g.0 in
    let n-is : from_be_bytes w (take (byte_len w) bytes) ≡ n = ap (λ (p : ℕ × List ℕ). p.0) g.1 in
    let rest-is : drop (byte_len w) bytes ≡ rest = ap (λ (p : ℕ × List ℕ). p.1) g.1 in
    let prefix : to_be_bytes w n ≡ take (byte_len w) bytes = rw (← n-is) (wide.back (take (byte_len w) bytes) (omega (arith, length-take (byte_len w) bytes)) (IsBytes-take (byte_len w) bytes fits)) in
    (record { parts = rw (prefix, ← rest-is) (sym (take-append-drop (byte_len w) bytes)); rest_fits = rw (← rest-is) (IsBytes-drop (byte_len w) bytes fits) }, rw (← n-is) (wide.below (take (byte_len w) bytes) (IsBytes-take (byte_len w) bytes fits)))

pub number_again : (w : Width) (limit : ℕ) (wide : IsWide w limit) (n : ℕ) (rest : List ℕ) → n < limit → number_at w (to_be_bytes w n ++ rest) ≡ Ok (n, rest)
number_again w limit wide n rest lt =
    let len = wide.len n in
    let long : ltb (length (to_be_bytes w n ++ rest)) (byte_len w) ≡ false = le-ltb _ _ (omega (arith, length-append (to_be_bytes w n) rest)) in
    rw (long, take_at (to_be_bytes w n) rest (byte_len w) len, drop_at (to_be_bytes w n) rest (byte_len w) len, wide.again n lt) refl

pub byte_takes : (bytes : List ℕ) (n : ℕ) (rest : List ℕ) → IsBytes bytes → byte_at bytes ≡ Ok (n, rest) → Takes bytes (n ∷ []) rest × (n < 2 ^ 8)
byte_takes [] n rest fits e = absurd cc
byte_takes (byte ∷ bytes) n rest fits e =
    subst (λ (x : ℕ × List ℕ). Takes (byte ∷ bytes) (x.0 ∷ []) x.1 × (x.0 < 2 ^ 8)) (ok_is (byte, bytes) (n, rest) e) (record { parts = refl; rest_fits = IsBytes-rest byte bytes fits }, omega (arith, fits 0))

pub byte_again : (n : ℕ) (rest : List ℕ) → n < 2 ^ 8 → byte_at (n ∷ [] ++ rest) ≡ Ok (n, rest)
byte_again n rest lt = refl

-- what the laws of signed numbers need of a width beside
pub record IsSigned (w : Width) (limit : ℕ) : Type 0 where
  pub back : (n : ℕ) → n < limit → cast_unsigned w (cast_signed w n) ≡ n
  pub fits : (n : ℕ) → n < limit → FitsSigned w (cast_signed w n)
  pub below : (z : ℤ) → FitsSigned w z → cast_unsigned w z < limit

pub signed32 : IsSigned w32 (2 ^ 32)
signed32 = record {
  back = λ n lt. of_z-to_z w32 n lt;
  fits = λ n lt. search (ints, arith);
  below = λ z fits. omega (arith, ints);
}

pub signed64 : IsSigned w64 (2 ^ 64)
signed64 = record {
  back = λ n lt. of_z-to_z w64 n lt;
  fits = λ n lt. search (ints, arith);
  below = λ z fits. omega (arith, ints);
}

pub signed_takes : (w : Width) (limit : ℕ) (wide : IsWide w limit) (signed : IsSigned w limit) (bytes : List ℕ) (n : ℤ) (rest : List ℕ) → IsBytes bytes → signed_at w bytes ≡ Ok (n, rest) → Takes bytes (signed_spelling w n) rest × FitsSigned w n
unfolding signed_at
signed_takes w limit wide signed bytes n rest fits e =
    let b = bind_ok (number_at w bytes) (λ bits. Ok (cast_signed w bits.0, bits.1)) (n, rest) e in
    let t = number_takes w limit wide bytes b.0.0 b.0.1 fits b.1 in
    subst (λ (x : ℤ × List ℕ). Takes bytes (signed_spelling w x.0) x.1 × FitsSigned w x.0) (ok_is (cast_signed w b.0.0, b.0.1) (n, rest) b.2)
    (subst (λ (k : ℕ). Takes bytes (to_be_bytes w k) b.0.1) (sym (signed.back b.0.0 t.1)) t.0, signed.fits b.0.0 t.1)

pub signed_again : (w : Width) (limit : ℕ) (wide : IsWide w limit) (signed : IsSigned w limit) (n : ℤ) (rest : List ℕ) → FitsSigned w n → signed_at w (signed_spelling w n ++ rest) ≡ Ok (n, rest)
unfolding signed_at
signed_again w limit wide signed n rest fits =
    rw (number_again w limit wide (cast_unsigned w n) rest (signed.below n fits), to_z-of_z w n fits) refl

-- ---- where reading breaks

pub within_ok : {A : Type 0} (x : A) (bound : ℕ) → IsWithin (Ok x) bound
within_ok x bound = record { breaks = λ left e. absurd cc }

pub within_err : {A : Type 0} (place bound : ℕ) → place ≤ bound → IsWithin {A = A} (Err place) bound
within_err {A} place bound le = record { breaks = λ left e. let same : place ≡ left = cc in omega arith }

pub within_cond : {A : Type 0} (b : Bool) (r s : Result A ℕ) (bound : ℕ) → IsWithin r bound → IsWithin s bound → IsWithin (cond b r s) bound
within_cond true r s bound p q = p
within_cond false r s bound p q = q

pub within_bind : {A B : Type 0} (r : Result A ℕ) (f : A → Result B ℕ) (bound : ℕ) → IsWithin r bound → ((x : A) → r ≡ Ok x → IsWithin (f x) bound) → IsWithin (r >>= f) bound
within_bind (Ok x) f bound p q = q x refl
within_bind {A} {B} (Err place) f bound p q = within_err place bound (p.breaks place refl)

-- what a format leaves is not longer
pub rest_le : {A : Type 0} {reading : List ℕ → Read A} {spelling : A → List ℕ} {fits : A → Type 0} (format : IsFormat reading spelling fits) (bytes : List ℕ) (x : A × List ℕ) → IsBytes bytes → reading bytes ≡ Ok x → IsBytes x.1 × (length x.1 ≤ length bytes)
rest_le {A} {reading} {spelling} {fits} format bytes x h e =
    let t = format.takes bytes x.0 x.1 h e in
    (t.0.rest_fits, omega (arith, ap length t.0.parts, length-append (spelling x.0) x.1))

-- a format, and then something that breaks in what it left
pub within_then : {A B : Type 0} {reading : List ℕ → Read A} {spelling : A → List ℕ} {fits : A → Type 0} (format : IsFormat reading spelling fits) (bytes : List ℕ) (f : A × List ℕ → Result B ℕ) (bound : ℕ) → IsBytes bytes → length bytes ≤ bound → ((x : A × List ℕ) → IsBytes x.1 → length x.1 ≤ bound → IsWithin (f x) bound) → IsWithin (reading bytes >>= f) bound
within_then {A} {B} {reading} {spelling} {fits} format bytes f bound h le q =
    within_bind (reading bytes) f bound (record { breaks = λ left e. let near = (format.within bytes h).breaks left e in omega arith })
    (λ x e. let rest = rest_le format bytes x h e in q x rest.0 (omega (arith, rest.1)))

number_within : (w : Width) (bytes : List ℕ) → IsBytes bytes → IsWithin (number_at w bytes) (length bytes)
number_within w bytes h = within_cond (ltb (length bytes) (byte_len w)) (Err (length bytes)) (Ok (from_be_bytes w (take (byte_len w) bytes), drop (byte_len w) bytes)) (length bytes) (within_err (length bytes) (length bytes) (omega arith)) (within_ok _ (length bytes))

byte_within : (bytes : List ℕ) → IsBytes bytes → IsWithin (byte_at bytes) (length bytes)
byte_within [] h = within_err 0 0 (omega arith)
byte_within (byte ∷ bytes) h = within_ok (byte, bytes) (suc (length bytes))

signed_within : (w : Width) (bytes : List ℕ) → IsBytes bytes → IsWithin (signed_at w bytes) (length bytes)
unfolding signed_at
signed_within w bytes h = within_bind (number_at w bytes) (λ bits. Ok (cast_signed w bits.0, bits.1)) (length bytes) (number_within w bytes h) (λ bits e. within_ok (cast_signed w bits.0, bits.1) (length bytes))

pub byte_format : IsFormat byte_at (λ n. n ∷ []) (λ n. n < 2 ^ 8)
byte_format = record { takes = byte_takes; again = byte_again; within = byte_within }

pub format32 : IsFormat (number_at w32) (to_be_bytes w32) (λ n. n < 2 ^ 32)
format32 = record { takes = number_takes w32 (2 ^ 32) wide32; again = number_again w32 (2 ^ 32) wide32; within = number_within w32 }

pub format64 : IsFormat (number_at w64) (to_be_bytes w64) (λ n. n < 2 ^ 64)
format64 = record { takes = number_takes w64 (2 ^ 64) wide64; again = number_again w64 (2 ^ 64) wide64; within = number_within w64 }

pub signed_format32 : IsFormat (signed_at w32) (signed_spelling w32) (FitsSigned w32)
signed_format32 = record { takes = signed_takes w32 (2 ^ 32) wide32 signed32; again = signed_again w32 (2 ^ 32) wide32 signed32; within = signed_within w32 }

pub signed_format64 : IsFormat (signed_at w64) (signed_spelling w64) (FitsSigned w64)
signed_format64 = record { takes = signed_takes w64 (2 ^ 64) wide64 signed64; again = signed_again w64 (2 ^ 64) wide64 signed64; within = signed_within w64 }
