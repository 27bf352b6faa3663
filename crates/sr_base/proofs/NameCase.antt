-- A name in any case, and the same in lower case.
use Rattle.std.proofs.Common.{◌≡◌, ℕ, List, [], ◌∷◌, refl, arith}
use Rattle.std.specs.Char.{to_ascii_lowercase}
use Rattle.std.specs.List.{list_all}
use Rattle.std.proofs.lemmas.Bool.Decides.{nat_tests}
use Rattle.std.proofs.lemmas.List.{length-map}
use Rattle.sr_base.specs.Names.{is_first, is_later, is_lower_name, is_any_first, is_any_later, is_name, lowered}

is_first-lowered : (byte : ℕ) → is_first (to_ascii_lowercase byte) ≡ is_any_first byte
is_first-lowered byte = grind (arith, nat_tests)

is_later-lowered : (byte : ℕ) → is_later (to_ascii_lowercase byte) ≡ is_any_later byte
is_later-lowered byte = grind (arith, nat_tests)

all_later-lowered : (bytes : List ℕ) → list_all is_later (lowered bytes) ≡ list_all is_any_later bytes
all_later-lowered [] = refl
all_later-lowered (byte ∷ bytes) = rw (is_later-lowered byte, all_later-lowered bytes) refl

pub is_lower_name-lowered : (bytes : List ℕ) → is_lower_name (lowered bytes) ≡ is_name bytes
is_lower_name-lowered [] = refl
is_lower_name-lowered (byte ∷ bytes) = rw (is_first-lowered byte, all_later-lowered bytes, length-map bytes to_ascii_lowercase) refl

pub ruleset lower_names = (is_lower_name-lowered)
