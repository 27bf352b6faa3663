-- Bytes, texts and names: what is read is spelled so, and what is spelled is read again.
use Rattle.std.proofs.Common.{◌≡◌, ℕ, ◌^◌, ◌<◌, ◌≤◌, Bool, true, false, cond, ltb, leb, ◌&&◌, rules, List, [], ◌∷◌, ◌++◌, length, take, drop, Result, Ok, Err, refl, sym, subst, arith}
use Rattle.std.specs.Int.{w32, to_be_bytes}
use Rattle.std.specs.Str.{is_utf8}
use Rattle.std.proofs.lemmas.Bool.{ltb-false, le-ltb, leb-true, le-leb, and_parts, and_from}
use Rattle.std.proofs.lemmas.List.{take_at, drop_at, take-append-drop, length-append, length-take}
use Rattle.std.proofs.lemmas.Str.{IsUtf8-from_is_utf8, is_utf8-from_IsUtf8}
use Rattle.sr_base.specs.Fields.{byte_at, bytes_spelling, IsText, name_at, name_spelling, is_name_size, IsName}
use Rattle.sr_base.specs.Inner.Fields.{bytes_at}
use Rattle.sr_base.specs.Reading.{number_at, text_at}
use Rattle.sr_base.specs.Names.{is_lower_name}
use Rattle.sr_base.specs.Inner.NumberLaws.{format32, byte_format, within_ok, within_err, within_cond, within_then, IsBytes-drop, byte_takes, bind_ok, guard_ok, passed_ok, Takes-then, wide32, number_takes, number_again}
use Rattle.sr_base.specs.Inner.Reading.{IsBytes, Takes, IsWithin, IsFormat}

-- a test that did not refuse, before another step
pub unless_ok : {A : Type 0} (b : Bool) (left : ℕ) (read : Result A ℕ) (y : A) → cond b (Err left) read ≡ Ok y → (b ≡ false) × (read ≡ Ok y)
unless_ok true left read y e = absurd cc
unless_ok false left read y e = (refl, e)

-- behind its length, the part of the bytes that it counts
sized_takes : (bytes : List ℕ) (size : ℕ) (behind : List ℕ) → Takes bytes (to_be_bytes w32 size) behind × (size < 2 ^ 32) → ltb (length behind) size ≡ false → Takes bytes (bytes_spelling (take size behind)) (drop size behind) × (length (take size behind) < 2 ^ 32)
sized_takes bytes size behind t enough =
    let long : size ≤ length behind = ltb-false _ _ enough in
    let len : length (take size behind) ≡ size = omega (arith, length-take size behind) in
    let second : Takes behind (take size behind) (drop size behind) = record { parts = sym (take-append-drop size behind); rest_fits = IsBytes-drop size behind t.0.rest_fits } in
    let both = Takes-then bytes (to_be_bytes w32 size) behind (take size behind) (drop size behind) t.0 second in
    (subst (λ (k : ℕ). Takes bytes (to_be_bytes w32 k ++ take size behind) (drop size behind)) (sym len) both, omega (arith, t.1))

pub bytes_takes : (bytes part rest : List ℕ) → IsBytes bytes → bytes_at bytes ≡ Ok (part, rest) → Takes bytes (bytes_spelling part) rest × (length part < 2 ^ 32)
unfolding bytes_at
bytes_takes bytes part rest fits e =
    let b = bind_ok (number_at w32 bytes) (λ size. cond (ltb (length size.1) size.0) (Err (length bytes)) (Ok (take size.0 size.1, drop size.0 size.1))) (part, rest) e in
    let t = number_takes w32 (2 ^ 32) wide32 bytes b.0.0 b.0.1 fits b.1 in
    let g = guard_ok (ltb (length b.0.1) b.0.0) (length bytes) (take b.0.0 b.0.1, drop b.0.0 b.0.1) (part, rest) b.2 in
    subst (λ (p : List ℕ × List ℕ). Takes bytes (bytes_spelling p.0) p.1 × (length p.0 < 2 ^ 32)) g.1 (sized_takes bytes b.0.0 b.0.1 t g.0)

pub bytes_again : (part rest : List ℕ) → length part < 2 ^ 32 → bytes_at (bytes_spelling part ++ rest) ≡ Ok (part, rest)
unfolding bytes_at
bytes_again part rest lt =
    let long : ltb (length (part ++ rest)) (length part) ≡ false = le-ltb _ _ (omega (arith, length-append part rest)) in
    rw (number_again w32 (2 ^ 32) wide32 (length part) (part ++ rest) lt, long, take_at part rest (length part) refl, drop_at part rest (length part) refl) refl

pub text_takes : (bytes text rest : List ℕ) → IsBytes bytes → text_at bytes ≡ Ok (text, rest) → Takes bytes (bytes_spelling text) rest × IsText text
unfolding text_at
text_takes bytes text rest fits e =
    let b = bind_ok (number_at w32 bytes) (λ size. cond (ltb (length size.1) size.0) (Err (length bytes)) (cond (is_utf8 (take size.0 size.1)) (Ok (take size.0 size.1, drop size.0 size.1)) (Err (length size.1)))) (text, rest) e in
    let t = number_takes w32 (2 ^ 32) wide32 bytes b.0.0 b.0.1 fits b.1 in
    let u = unless_ok (ltb (length b.0.1) b.0.0) (length bytes) (cond (is_utf8 (take b.0.0 b.0.1)) (Ok (take b.0.0 b.0.1, drop b.0.0 b.0.1)) (Err (length b.0.1))) (text, rest) b.2 in
    let g = passed_ok (is_utf8 (take b.0.0 b.0.1)) (length b.0.1) (take b.0.0 b.0.1, drop b.0.0 b.0.1) (text, rest) u.1 in
    let s = sized_takes bytes b.0.0 b.0.1 t u.0 in
    subst (λ (p : List ℕ × List ℕ). Takes bytes (bytes_spelling p.0) p.1 × IsText p.0) g.1 (s.0, record { short = s.1; utf8 = IsUtf8-from_is_utf8 _ g.0 })

pub text_again : (text rest : List ℕ) → IsText text → text_at (bytes_spelling text ++ rest) ≡ Ok (text, rest)
unfolding text_at
text_again text rest fits =
    let long : ltb (length (text ++ rest)) (length text) ≡ false = le-ltb _ _ (omega (arith, length-append text rest)) in
    let utf8 : is_utf8 text ≡ true = is_utf8-from_IsUtf8 text fits.utf8 in
    rw (number_again w32 (2 ^ 32) wide32 (length text) (text ++ rest) fits.short, long, take_at text rest (length text) refl, drop_at text rest (length text) refl, utf8) refl

-- a length of a name, taken apart
is_name_size-true : (size behind : ℕ) → is_name_size size behind ≡ true → (1 ≤ size) × (size ≤ 64) × (size ≤ behind)
is_name_size-true size behind e =
    let both = and_parts (leb 1 size && leb size 64) (leb size behind) e in
    let low = and_parts (leb 1 size) (leb size 64) both.0 in
    (leb-true _ _ low.0, leb-true _ _ low.1, leb-true _ _ both.1)

is_name_size-from : (size behind : ℕ) → 1 ≤ size → size ≤ 64 → size ≤ behind → is_name_size size behind ≡ true
is_name_size-from size behind one most long = and_from _ _ (and_from _ _ (le-leb _ _ one) (le-leb _ _ most)) (le-leb _ _ long)

-- a name has 1 to 64 bytes
is_lower_name-length : (name : List ℕ) → is_lower_name name ≡ true → (1 ≤ length name) × (length name ≤ 64)
is_lower_name-length [] e = absurd cc
is_lower_name-length (byte ∷ bytes) e =
    let short : length bytes ≤ 63 = leb-true _ _ (and_parts _ (leb (length bytes) 63) e).1 in
    (omega arith, omega arith)

-- the test passed, before another step
passes_ok : {A : Type 0} (b : Bool) (left : ℕ) (read : Result A ℕ) (y : A) → cond b read (Err left) ≡ Ok y → (b ≡ true) × (read ≡ Ok y)
passes_ok true left read y e = (refl, e)
passes_ok false left read y e = absurd cc

pub name_takes : (bytes name rest : List ℕ) → IsBytes bytes → name_at bytes ≡ Ok (name, rest) → Takes bytes (name_spelling name) rest × IsName name
unfolding name_at
name_takes bytes name rest fits e =
    let b = bind_ok (byte_at bytes) (λ size. cond (is_name_size size.0 (length size.1)) (cond (is_lower_name (take size.0 size.1)) (Ok (take size.0 size.1, drop size.0 size.1)) (Err (length size.1))) (Err (length bytes))) (name, rest) e in
    let size = b.0.0 in
    let behind = b.0.1 in
    let t = byte_takes bytes size behind fits b.1 in
    let s = passes_ok (is_name_size size (length behind)) (length bytes) (cond (is_lower_name (take size behind)) (Ok (take size behind, drop size behind)) (Err (length behind))) (name, rest) b.2 in
    let g = passed_ok (is_lower_name (take size behind)) (length behind) (take size behind, drop size behind) (name, rest) s.1 in
    let sized = is_name_size-true size (length behind) s.0 in
    let len : length (take size behind) ≡ size = omega (arith, length-take size behind, sized.2) in
    let second : Takes behind (take size behind) (drop size behind) = record { parts = sym (take-append-drop size behind); rest_fits = IsBytes-drop size behind t.0.rest_fits } in
    let both = Takes-then bytes (size ∷ []) behind (take size behind) (drop size behind) t.0 second in
    let whole = subst (λ (k : ℕ). Takes bytes ((k ∷ []) ++ take size behind) (drop size behind)) (sym len) both in
    let named : IsName (take size behind) = search (rules, g.0) in
    subst (λ (p : List ℕ × List ℕ). Takes bytes (name_spelling p.0) p.1 × IsName p.0) g.1 (whole, named)

pub name_again : (name rest : List ℕ) → IsName name → name_at (name_spelling name ++ rest) ≡ Ok (name, rest)
unfolding name_at
name_again name rest fits =
    let named : is_lower_name name ≡ true = search rules in
    let size = is_lower_name-length name named in
    let sized : is_name_size (length name) (length (name ++ rest)) ≡ true = is_name_size-from (length name) (length (name ++ rest)) size.0 size.1 (omega (arith, length-append name rest)) in
    rw (sized, take_at name rest (length name) refl, drop_at name rest (length name) refl, named) refl

bytes_within : (bytes : List ℕ) → IsBytes bytes → IsWithin (bytes_at bytes) (length bytes)
unfolding bytes_at
bytes_within bytes h =
    within_then format32 bytes (λ size. cond (ltb (length size.1) size.0) (Err (length bytes)) (Ok (take size.0 size.1, drop size.0 size.1))) (length bytes) h (omega arith)
    (λ size h1 le1. within_cond (ltb (length size.1) size.0) (Err (length bytes)) (Ok (take size.0 size.1, drop size.0 size.1)) (length bytes) (within_err (length bytes) (length bytes) (omega arith)) (within_ok _ (length bytes)))

text_within : (bytes : List ℕ) → IsBytes bytes → IsWithin (text_at bytes) (length bytes)
unfolding text_at
text_within bytes h =
    within_then format32 bytes (λ size. cond (ltb (length size.1) size.0) (Err (length bytes)) (cond (is_utf8 (take size.0 size.1)) (Ok (take size.0 size.1, drop size.0 size.1)) (Err (length size.1)))) (length bytes) h (omega arith)
    (λ size h1 le1. within_cond (ltb (length size.1) size.0) (Err (length bytes)) (cond (is_utf8 (take size.0 size.1)) (Ok (take size.0 size.1, drop size.0 size.1)) (Err (length size.1))) (length bytes) (within_err (length bytes) (length bytes) (omega arith))
    (within_cond (is_utf8 (take size.0 size.1)) (Ok (take size.0 size.1, drop size.0 size.1)) (Err (length size.1)) (length bytes) (within_ok _ (length bytes)) (within_err (length size.1) (length bytes) le1)))

name_within : (bytes : List ℕ) → IsBytes bytes → IsWithin (name_at bytes) (length bytes)
unfolding name_at
name_within bytes h =
    within_then byte_format bytes (λ size. cond (is_name_size size.0 (length size.1)) (cond (is_lower_name (take size.0 size.1)) (Ok (take size.0 size.1, drop size.0 size.1)) (Err (length size.1))) (Err (length bytes))) (length bytes) h (omega arith)
    (λ size h1 le1. within_cond (is_name_size size.0 (length size.1)) (cond (is_lower_name (take size.0 size.1)) (Ok (take size.0 size.1, drop size.0 size.1)) (Err (length size.1))) (Err (length bytes)) (length bytes)
    (within_cond (is_lower_name (take size.0 size.1)) (Ok (take size.0 size.1, drop size.0 size.1)) (Err (length size.1)) (length bytes) (within_ok _ (length bytes)) (within_err (length size.1) (length bytes) le1)) (within_err (length bytes) (length bytes) (omega arith)))

pub bytes_format : IsFormat bytes_at bytes_spelling (λ part. length part < 2 ^ 32)
bytes_format = record { takes = bytes_takes; again = bytes_again; within = bytes_within }

pub text_format : IsFormat text_at bytes_spelling IsText
text_format = record { takes = text_takes; again = text_again; within = text_within }

pub name_format : IsFormat name_at name_spelling IsName
name_format = record { takes = name_takes; again = name_again; within = name_within }
