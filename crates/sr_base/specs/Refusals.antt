-- Which bytes are no text, and which are no name.
use Rattle.std.specs.Prelude.{◌≡◌, ℕ, List}
use Rattle.std.specs.Str.{IsUtf8}
use Rattle.std.specs.Str.Lossy.{utf8_valid_len}
use Rattle.sr_base.specs.declared.refusals.NotUtf8.{NotUtf8}
use Rattle.sr_base.specs.declared.refusals.NotUtf8.TheVariants as not_utf8

-- the bytes are no UTF-8, and this is the place of the first byte that is none
abbrev pub IsNotUtf8 : List ℕ → NotUtf8 → Type 0
IsNotUtf8 bytes (not_utf8.Byte at) = ¬ (IsUtf8 bytes) × (at ≡ utf8_valid_len bytes)
IsNotUtf8 bytes not_utf8.Memory = Unit {0}
