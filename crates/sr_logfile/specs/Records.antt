-- How a log's records stand in its file.
use Rattle.std.specs.Prelude.{◌≡◌, ◌≢◌, ℕ, ◌+◌, ◌-◌, ◌^◌, ◌≤◌, List, [], ◌∷◌, ◌++◌, length, take, drop}
use Rattle.std.specs.Int.{w32, w64, to_be_bytes}
use Rattle.std.specs.List.{AllByRecursion}
use Rattle.sr_base.specs.Values.{farthest_offset}

-- how many bytes stand before the first gate
abbrev pub header_size : ℕ
header_size = 16

-- the place in the file of the gate at a stream position, in a log that begins at a base
abbrev pub place_in : ℕ → ℕ → ℕ
place_in base position = header_size + (position - base)

-- the bytes before the first gate: SRLOG001 and the base
abbrev pub header : ℕ → List ℕ
header base = (83 ∷ 82 ∷ 76 ∷ 79 ∷ 71 ∷ 48 ∷ 48 ∷ 49 ∷ []) ++ to_be_bytes w64 base

-- a record without a gate: the body's length and the body
abbrev pub record_of : List ℕ → List ℕ
record_of body = to_be_bytes w32 (length body) ++ body

-- a record with the closed gate behind it
abbrev pub framed_of : List ℕ → List ℕ
framed_of body = record_of body ++ 0 ∷ []

-- records, each behind its open gate
abbrev pub open_records : List (List ℕ) → List ℕ
open_records [] = []
open_records (body ∷ bodies) = (1 ∷ record_of body) ++ open_records bodies

-- a body has 1 byte to 64 MiB
abbrev pub IsBody : List ℕ → Type 0
IsBody body = (1 ≤ length body) × (length body ≤ 2 ^ 26)

-- the body within a framed record: all but the four bytes of its length and the gate behind it
abbrev pub body_of : List ℕ → List ℕ
body_of framed = take (length framed - 5) (drop 4 framed)

-- bytes that frame a body
pub record IsFramed (framed : List ℕ) : Type 0 where
  pub body : IsBody (body_of framed)
  pub bytes : framed ≡ framed_of (body_of framed)

-- bytes that begin with the header of that base
pub record HasHeader (base : ℕ) (bytes : List ℕ) : Type 0 where
  pub gate : ℕ
  pub rest : List ℕ
  pub bytes_are : bytes ≡ header base ++ gate ∷ rest
  pub limit : base ≤ farthest_offset

-- the bytes of a log file stand for a base and the records' bodies: the header, each record behind an open gate, a closed gate, and bytes
-- without a meaning
pub record Spells (base : ℕ) (bodies : List (List ℕ)) (bytes : List ℕ) : Type 0 where
  pub gate : ℕ
  pub rest : List ℕ
  pub bytes_are : bytes ≡ (header base ++ open_records bodies) ++ gate ∷ rest
  pub closed : gate ≢ 1
  pub all_bodies : AllByRecursion IsBody bodies
  pub limit : base + length (open_records bodies) ≤ farthest_offset
