-- Messages and their bytes.
use Rattle.std.specs.Prelude.{◌≡◌, ℕ, ◌+◌, ◌<◌, ◌≤◌, ◌^◌, ◌↔◌, List, [], ◌∷◌, ◌++◌, length}
use Rattle.std.specs.Int.{w32, w64, to_be_bytes}
use Rattle.sha2.specs.Sha256.{sha256}
use Rattle.sr_base.specs.Fields.{bytes_spelling, name_spelling, IsName}
use Rattle.sr_base.specs.Values.{offset_spelling, IsOffset}
use Rattle.sr_msgform.specs.declared.message.Message.{Message}

-- the magic `SRMF`, and version 1
abbrev pub heading : List ℕ
heading = 83 ∷ 82 ∷ 77 ∷ 70 ∷ 1 ∷ []

-- the fields before the fragment, and after it
abbrev pub head_fields : Message → List ℕ
head_fields m =
    (name_spelling m.from ++ name_spelling m.to ++ to_be_bytes w64 m.resend_count)
    ++ (offset_spelling m.prev ++ offset_spelling m.upto ++ to_be_bytes w32 m.total)
    ++ to_be_bytes w32 m.start

abbrev pub tail_fields : Message → List ℕ
tail_fields m = offset_spelling m.confirm ++ to_be_bytes w64 m.ask_count ++ offset_spelling m.ask_offset

-- all of them, in their order
unfoldable pub fields : Message → List ℕ
fields m = head_fields m ++ bytes_spelling m.fragment ++ tail_fields m

-- bytes, and the digest of all of them
unfoldable pub sealed : List ℕ → List ℕ
sealed bytes = bytes ++ sha256 bytes

-- the bytes of a message file
abbrev pub message_spelling : Message → List ℕ
message_spelling m = sealed (heading ++ fields m)

-- their number: without its fragment and its names a message has 99
abbrev pub message_length : Message → ℕ
message_length m = 99 + length m.from + length m.to + length m.fragment

-- the window goes on from `prev` to `upto`; its body has at most 64 MiB, and is empty exactly where the window is
pub record KeepsWindow (prev upto total : ℕ) : Type 0 where
  pub goes_on : prev ≤ upto
  pub short : total ≤ 67108864
  pub empty : (total ≡ 0) ↔ (prev ≡ upto)

-- the fragment lies in the body, and is empty exactly where the body is
pub record KeepsFragment (total start size : ℕ) : Type 0 where
  pub within : start + size ≤ total
  pub empty : (size ≡ 0) ↔ (total ≡ 0)

-- the rules that tie the fields of a message; where nothing is asked, no offset is
pub record KeepsRules (m : Message) : Type 0 where
  pub window : KeepsWindow m.prev.0 m.upto.0 m.total
  pub part : KeepsFragment m.total m.start (length m.fragment)
  pub ask : m.ask_count ≡ 0 → m.ask_offset.0 ≡ 0

-- names are names, and numbers are in their ranges
abbrev pub HeadInRange : Message → Type 0
HeadInRange m =
    (IsName m.from × IsName m.to × (m.resend_count < 2 ^ 64))
    × (IsOffset m.prev × IsOffset m.upto × (m.total < 2 ^ 32))
    × (m.start < 2 ^ 32)

abbrev pub TailInRange : Message → Type 0
TailInRange m = IsOffset m.confirm × (m.ask_count < 2 ^ 64) × IsOffset m.ask_offset

abbrev pub IsInRange : Message → Type 0
IsInRange m = HeadInRange m × (length m.fragment < 2 ^ 32) × TailInRange m

-- what has a spelling: a file has at most 2 MiB
pub record IsMessage (m : Message) : Type 0 where
  pub ranges : IsInRange m
  pub rules : KeepsRules m
  pub file : message_length m ≤ 2097152
