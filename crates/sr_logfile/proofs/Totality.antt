-- Each file is spelled or damaged.
use Rattle.std.proofs.Common.{◌≡◌, ◌⊎◌, inl, inr, ℕ, zero, suc, ◌+◌, ◌^◌, ◌<◌, ◌≤◌, List, [], ◌∷◌, ◌++◌, length, get_or, take, drop, refl, sym, ◌∙◌, ap, subst, arith, length-append, take-append-drop}
use Rattle.std.specs.Int.{w32, w64, to_be_bytes, from_be_bytes}
use Rattle.std.proofs.lemmas.Bool.{cases_eq, cases_lt}
use Rattle.std.proofs.lemmas.List.{length-drop, length-take, get_or-drop, get_or-take, get_or_past, take_at, drop_more}
use Rattle.std.proofs.lemmas.Nat.{be_bytes_4, from_be_bytes-to_be_bytes_8}
use Rattle.sr_logfile.specs.Damage.{LacksHeader, IsSpelled, IsDamagedSomewhere}
use Rattle.sr_logfile.specs.Inner.Damage.{AreBytes}
use Rattle.sr_logfile.specs.Inner.Heads.{IsClosed, HasLength, FitsBody, HasWhole, IsBroken, Reaches}
use Rattle.sr_logfile.specs.Records.{header, HasHeader, place_in}
use Rattle.sr_logfile.proofs.Ends.{has_whole, broken_length, broken_cut}
use Rattle.sr_logfile.proofs.Scans.{starts, goes_on, ends, breaks}

AreBytes-drop : (n : ℕ) (bytes : List ℕ) → AreBytes bytes → AreBytes (drop n bytes)
AreBytes-drop n bytes are i = rw get_or-drop (are (n + i))

AreBytes-take : (n : ℕ) (bytes : List ℕ) → AreBytes bytes → AreBytes (take n bytes)
AreBytes-take n bytes are i =
    elim (cases_lt i n) [
      | inl lt ↦ rw (get_or-take n bytes i 0 lt) (are i)
      | inr le ↦ rw (get_or_past (take n bytes) i 0 (omega (arith, length-take n bytes))) (omega arith)
    ]

-- a body of a length fits or it does not
fits_or_not : (place position count size : ℕ) → FitsBody place position count size ⊎ (FitsBody place position count size → ⊥)
fits_or_not place position count size =
    elim (cases_lt count 1) [
      | inl none ↦ inr (λ fits. omega (arith, fits.some))
      | inr some ↦ elim (cases_lt (2 ^ 26) count) [
        | inl over ↦ inr (λ fits. omega (arith, fits.most))
        | inr most ↦ elim (cases_lt (place + 5 + count) size) [
          | inr past ↦ inr (λ fits. omega (arith, fits.inside))
          | inl inside ↦ elim (cases_lt (2 ^ 62) (position + 5 + count)) [
            | inl late ↦ inr (λ fits. omega (arith, fits.limit))
            | inr limit ↦ inl (record { some = some; most = most; inside = inside; limit = limit })
          ]
        ]
      ]
    ]

-- an end that a whole record has
record Whole (position : ℕ) (bytes : List ℕ) : Type 0 where
  end : ℕ
  whole : HasWhole position bytes end

-- behind an open gate a whole record stands or none
open_or_broken : (position : ℕ) (bytes : List ℕ) → AreBytes bytes → Whole position (1 ∷ bytes) ⊎ IsBroken position (1 ∷ bytes)
open_or_broken position bytes are =
    elim (cases_lt (length bytes) 4) [
      | inl short ↦ inr (broken_cut (1 ∷ bytes) position (record { some = λ _. refl; short = omega arith }))
      | inr long ↦ known (from_be_bytes w32 (take 4 bytes)) (has long)
    ]
  where
    has : 4 ≤ length bytes → HasLength (1 ∷ bytes) (from_be_bytes w32 (take 4 bytes))
    has long =
        let four = AreBytes-take 4 bytes are in
        let number = be_bytes_4 (take 4 bytes) (from_be_bytes w32 (take 4 bytes)) (omega (arith, length-take 4 bytes)) four refl in
        record {
          rest = drop 4 bytes;
          bytes_are = ap (λ (l : List ℕ). 1 ∷ l) (sym (take-append-drop 4 bytes) ∙ ap (λ (l : List ℕ). l ++ drop 4 bytes) (sym number));
          fits = omega (arith, four 0, four 1, four 2, four 3);
        }

    known : (count : ℕ) → HasLength (1 ∷ bytes) count → Whole position (1 ∷ bytes) ⊎ IsBroken position (1 ∷ bytes)
    known count is =
        elim (fits_or_not 0 position count (length (1 ∷ bytes))) [
          | inl fits ↦ inl (record { end = position + 5 + count; whole = has_whole (1 ∷ bytes) count 0 position (length (1 ∷ bytes)) is (omega arith) fits })
          | inr misfits ↦ inr (broken_length (1 ∷ bytes) count 0 position (length (1 ∷ bytes)) is (omega arith) misfits)
        ]

-- at a gate the records end, go on or break
at_gate : (position : ℕ) (bytes : List ℕ) → AreBytes bytes → 0 < length bytes → IsClosed bytes ⊎ (Whole position bytes ⊎ IsBroken position bytes)
at_gate position [] are some = absurd (omega arith)
at_gate position (gate ∷ rest) are some =
    elim (cases_eq gate 1) [
      | inr shut ↦ inl (record { gate = gate; rest = rest; bytes_are = refl; closed = shut })
      | inl is_open ↦ inr (subst (λ (g : ℕ). Whole position (g ∷ rest) ⊎ IsBroken position (g ∷ rest)) (sym is_open) (open_or_broken position rest (λ i. are (suc i))))
    ]

-- from gate to gate, with so many bytes left at most
from_gate : (fuel base position : ℕ) (bytes : List ℕ) → AreBytes bytes → Reaches base position bytes → base ≤ position → position ≤ 2 ^ 62 → length bytes ≤ place_in base position + fuel → IsSpelled bytes ⊎ IsDamagedSomewhere bytes
from_gate zero base position bytes are reaches order limit enough = absurd (omega (arith, reaches.some, length-drop (place_in base position) bytes))
from_gate (suc fuel) base position bytes are reaches order limit enough =
    elim (at_gate position (drop (place_in base position) bytes) (AreBytes-drop (place_in base position) bytes are) reaches.some) [
      | inl closed ↦ let to = ends base position bytes reaches closed limit in inl (record { base = base; bodies = to.bodies; spells = to.spells })
      | inr (inl whole) ↦
          let past : position < whole.end = omega (arith, whole.whole.end_is) in
          from_gate fuel base whole.end bytes are (goes_on base position bytes whole.end reaches whole.whole) (omega arith) (omega (arith, whole.whole.end_is, whole.whole.begins.limit)) (omega arith)
      | inr (inr broken) ↦ inr (record { place = place_in base position; damage = inr (breaks base position bytes reaches broken limit) })
    ]

-- a base that a header has
record Headed (bytes : List ℕ) : Type 0 where
  base : ℕ
  has : HasHeader base bytes

same_or_not : (xs ys : List ℕ) → (xs ≡ ys) ⊎ (xs ≡ ys → ⊥)
same_or_not [] [] = inl refl
same_or_not [] (y ∷ ys) = inr (λ e. cc)
same_or_not (x ∷ xs) [] = inr (λ e. cc)
same_or_not (x ∷ xs) (y ∷ ys) =
    elim (cases_eq x y) [
      | inl head ↦ elim (same_or_not xs ys) [
        | inl tail ↦ inl (λ i. head i ∷ tail i)
        | inr differ ↦ inr (λ e. differ (ap (drop 1) e))
      ]
      | inr differ ↦ inr (λ e. differ cc)
    ]

-- the base that a header's last eight bytes spell
base_at : List ℕ → ℕ
base_at bytes = from_be_bytes w64 (take 8 (drop 8 bytes))

base_at-header : (base : ℕ) (bytes : List ℕ) → HasHeader base bytes → (take 16 bytes ≡ header base) × (base_at bytes ≡ base)
unfolding base_at
base_at-header base bytes has =
    let tail = drop 16 bytes in
    let first : take 16 bytes ≡ header base = ap (take 16) has.bytes_are ∙ take_at (header base) (has.gate ∷ has.rest) 16 refl in
    let eight : take 8 (drop 8 bytes) ≡ to_be_bytes w64 base = ap (λ (l : List ℕ). take 8 (drop 8 l)) has.bytes_are in
    (first, ap (from_be_bytes w64) eight ∙ from_be_bytes-to_be_bytes_8 base (omega (arith, has.limit)))

headed_or_not : (bytes : List ℕ) → Headed bytes ⊎ LacksHeader bytes
headed_or_not bytes =
    elim (same_or_not (take 16 bytes) (header (base_at bytes))) [
      | inr differ ↦ inr (λ base has. let both = base_at-header base bytes has in differ (both.0 ∙ ap header (sym both.1)))
      | inl same ↦ elim (cases_lt (2 ^ 62) (base_at bytes)) [
        | inl late ↦ inr (λ base has. omega (arith, late, has.limit, (base_at-header base bytes has).1))
        | inr limit ↦ elim (cases_lt (length bytes) 17) [
          | inl short ↦ inr (λ base has. omega (arith, short, ap length has.bytes_are, length-append (header base) (has.gate ∷ has.rest)))
          | inr long ↦ inl (record {
            base = base_at bytes;
            has = record {
              gate = get_or bytes 16 0;
              rest = drop 17 bytes;
              bytes_are = sym (take-append-drop 16 bytes) ∙ ap (λ (l : List ℕ). l ++ drop 16 bytes) same ∙ ap (λ (l : List ℕ). header (base_at bytes) ++ l) (drop_more bytes 16 0 (omega arith));
              limit = limit;
            };
          })
        ]
      ]
    ]

pub spelled_or_damaged : (bytes : List ℕ) → AreBytes bytes → IsSpelled bytes ⊎ IsDamagedSomewhere bytes
spelled_or_damaged bytes are =
    elim (headed_or_not bytes) [
      | inr lacks ↦ inr (record { place = 0; damage = inl (lacks, refl) })
      | inl headed ↦ from_gate (length bytes) headed.base headed.base bytes are (starts headed.base bytes headed.has) (omega arith) headed.has.limit (omega arith)
    ]
