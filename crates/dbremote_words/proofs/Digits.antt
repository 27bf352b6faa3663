-- Numbers read digit by digit, given up where they are past the most.
use Rattle.std.proofs.Common.{◌≡◌, ◌≤◌, ◌<◌, ◌+◌, ◌-◌, ◌*◌, ◌&&◌, ℕ, Bool, true, false, List, [], ◌∷◌, Some, None, nat_le, refl, sym, arith}
use Rattle.std.specs.Prelude.{if◌then◌else◌}
use Rattle.std.specs.Option.{option_and_then}
use Rattle.std.proofs.lemmas.Bool.{leb-false, leb-true}
use Rattle.dbremote_words.specs.Numbers.{digits_behind, is_digit, within}
use Rattle.dbremote_words.specs.Inner.Numbers.{with_digit}

-- a number past the most, and digits behind it
past : (least most number : ℕ) (bytes : List ℕ) → most < number → option_and_then (within least most) (digits_behind number bytes) ≡ None
past least most number [] beyond = go (nat_le least number) (nat_le number most) (leb-true number most)
  where
    go : (low high : Bool) → (high ≡ true → number ≤ most) → (if low && high then Some number else None) ≡ None
    go true true at = absurd (omega (arith, at refl))
    go true false at = refl
    go false high at = refl
past least most number (byte ∷ bytes) beyond = go (is_digit byte) (past least most (number * 10 + (byte - 48)) bytes (omega arith))
  where
    go : (digit : Bool) → option_and_then (within least most) (digits_behind (number * 10 + (byte - 48)) bytes) ≡ None
        → option_and_then (within least most) (if digit then digits_behind (number * 10 + (byte - 48)) bytes else None) ≡ None
    go true beyond = beyond
    go false beyond = refl

-- one more digit
pub goes : (most number byte next : ℕ) (bytes : List ℕ) → Some next ≡ with_digit most number byte → digits_behind next bytes ≡ digits_behind number (byte ∷ bytes)
goes most number byte next bytes = go (is_digit byte) (nat_le (number * 10 + (byte - 48)) most)
  where
    go : (digit small : Bool) → Some next ≡ (if digit && small then Some (number * 10 + (byte - 48)) else None)
        → digits_behind next bytes ≡ (if digit then digits_behind (number * 10 + (byte - 48)) bytes else None)
    go true true is = cc
    go true false is = cc
    go false small is = cc

pub stays : (most number byte next : ℕ) → Some next ≡ with_digit most number byte → next ≤ most
stays most number byte next = go (is_digit byte) (nat_le (number * 10 + (byte - 48)) most) (leb-true (number * 10 + (byte - 48)) most)
  where
    go : (digit small : Bool) → (small ≡ true → number * 10 + (byte - 48) ≤ most) → Some next ≡ (if digit && small then Some (number * 10 + (byte - 48)) else None) → next ≤ most
    go true true at is = let same : next ≡ number * 10 + (byte - 48) = cc in omega (arith, at refl)
    go true false at is = cc
    go false small at is = cc

-- no digit, or too much
pub stops : (least most number byte : ℕ) (bytes : List ℕ) → None ≡ with_digit most number byte → None ≡ option_and_then (within least most) (digits_behind number (byte ∷ bytes))
stops least most number byte bytes = go (is_digit byte) (nat_le (number * 10 + (byte - 48)) most) (leb-false (number * 10 + (byte - 48)) most)
  where
    go : (digit small : Bool) → (small ≡ false → most < number * 10 + (byte - 48)) → None ≡ (if digit && small then Some (number * 10 + (byte - 48)) else None)
        → None ≡ option_and_then (within least most) (if digit then digits_behind (number * 10 + (byte - 48)) bytes else None)
    go true true at is = cc
    go true false at is = sym (past least most (number * 10 + (byte - 48)) bytes (at refl))
    go false small at is = refl

pub ruleset of_digits = (goes, stays, stops)
