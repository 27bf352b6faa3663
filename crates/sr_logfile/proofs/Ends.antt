-- Whether a whole record follows an open gate.
use Rattle.std.proofs.Common.{◌≡◌, ℕ, ◌+◌, ◌-◌, ◌^◌, ◌<◌, List, ◌∷◌, ◌++◌, length, get_or, take, drop, refl, sym, ◌∙◌, ap, arith, append_assoc, length-append, take-append-drop}
use Rattle.std.specs.Int.{w32, to_be_bytes, from_be_bytes}
use Rattle.std.proofs.lemmas.List.{take_at, drop_more, length-take, length-drop}
use Rattle.std.proofs.lemmas.Nat.{from_be_bytes-to_be_bytes_4}
use Rattle.sr_logfile.specs.Damage.{BeginsRecord}
use Rattle.sr_logfile.specs.Inner.Heads.{HasLength, IsCut, FitsBody, HasWhole, IsBroken}
use Rattle.sr_logfile.specs.Records.{record_of}
use Rattle.sr_logfile.proofs.Records.{length-record}

-- the length that a record's front spells
pub length_is : (n m : ℕ) (prefix other : List ℕ) → n < 2 ^ 32 → m < 2 ^ 32 → to_be_bytes w32 n ++ prefix ≡ to_be_bytes w32 m ++ other → n ≡ m
length_is n m prefix other n_fits m_fits same =
    let four : to_be_bytes w32 n ≡ to_be_bytes w32 m = sym (take_at (to_be_bytes w32 n) prefix 4 refl) ∙ ap (take 4) same ∙ take_at (to_be_bytes w32 m) other 4 refl in
    sym (from_be_bytes-to_be_bytes_4 n n_fits) ∙ ap (from_be_bytes w32) four ∙ from_be_bytes-to_be_bytes_4 m m_fits

-- the body is the bytes behind the length
pub has_whole : (l : List ℕ) (n place position size : ℕ) → HasLength l n → length l ≡ size - place → FitsBody place position n size → HasWhole position l (position + 5 + n)
has_whole l n place position size has long fits =
    let size_is : length l ≡ 5 + length has.rest = omega (arith, ap length has.bytes_are, length-append (1 ∷ to_be_bytes w32 n) has.rest) in
    let inside = fits.inside in
    let room : n < length has.rest = omega arith in
    let body = take n has.rest in
    let count : length body ≡ n = omega (arith, length-take n has.rest) in
    let gate = get_or has.rest n 0 in
    let more = drop (n + 1) has.rest in
    let parts : has.rest ≡ body ++ gate ∷ more = sym (take-append-drop n has.rest) ∙ ap (λ (r : List ℕ). body ++ r) (drop_more has.rest n 0 room) in
    record {
      body = body;
      rest = to_be_bytes w32 n ++ has.rest;
      bytes_are = has.bytes_are;
      begins = record {
        gate = gate;
        more = more;
        rest_is = ap (λ (r : List ℕ). to_be_bytes w32 n ++ r) parts ∙ ap (λ (k : ℕ). to_be_bytes w32 k ++ (body ++ gate ∷ more)) (sym count) ∙ sym (append_assoc (to_be_bytes w32 (length body)) body (gate ∷ more));
        is_body = (omega (arith, fits.some), omega (arith, fits.most));
        limit = omega (arith, fits.limit);
      };
      end_is = omega arith;
    }

length-begins : (body : List ℕ) (position : ℕ) (rest : List ℕ) (b : BeginsRecord body position rest) → length rest ≡ 5 + length body + length b.more
length-begins body position rest b = omega (arith, ap length b.rest_is, length-append (record_of body) (b.gate ∷ b.more), length-record body)

-- no whole record where its length does not fit
pub broken_length : (l : List ℕ) (n place position size : ℕ) → HasLength l n → length l ≡ size - place → (FitsBody place position n size → ⊥) → IsBroken position l
broken_length l n place position size has long misfits =
    let tail : drop 1 l ≡ to_be_bytes w32 n ++ has.rest = ap (drop 1) has.bytes_are in
    record {
      some = λ _. has.bytes_are ∙ ap (λ (r : List ℕ). 1 ∷ r) (sym tail);
      broken = λ body b. misfits (fits body b tail);
    }
  where
    fits : (body : List ℕ) → BeginsRecord body position (drop 1 l) → drop 1 l ≡ to_be_bytes w32 n ++ has.rest → FitsBody place position n size
    fits body b tail =
        let is_body = b.is_body in
        let n_is : n ≡ length body = length_is n (length body) has.rest (body ++ b.gate ∷ b.more) has.fits (omega arith) (sym tail ∙ b.rest_is ∙ append_assoc (to_be_bytes w32 (length body)) body (b.gate ∷ b.more)) in
        let all = length-begins body position (drop 1 l) b in
        let one = length-drop 1 l in
        record {
          some = omega arith;
          most = omega arith;
          inside = omega arith;
          limit = omega (arith, b.limit);
        }

-- no whole record where the file ends first
pub broken_cut : (l : List ℕ) (position : ℕ) → IsCut l → IsBroken position l
broken_cut l position cut = record { some = cut.some; broken = λ body b. omega (arith, cut.short, length-begins body position (drop 1 l) b, length-drop 1 l) }
