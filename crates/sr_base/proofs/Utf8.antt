-- The test of UTF-8 and the fact.
use Rattle.std.proofs.Common.{◌≡◌, ℕ, false, List}
use Rattle.std.proofs.lemmas.Bool.{false_from_ne_true}
use Rattle.std.proofs.lemmas.Str.{IsUtf8-from_is_utf8, is_utf8-from_IsUtf8}
use Rattle.std.specs.Str.{IsUtf8, is_utf8}

pub is_utf8-not : (bytes : List ℕ) → ¬ (IsUtf8 bytes) → is_utf8 bytes ≡ false
is_utf8-not bytes refused = false_from_ne_true (is_utf8 bytes) (λ e. refused (IsUtf8-from_is_utf8 bytes e))

pub ruleset utf8_tests = (is_utf8-from_IsUtf8, is_utf8-not)
