-- What the first bytes of a log file, and of a record, say.
use Rattle.std.proofs.Common.{◌≡◌, ℕ, zero, suc, ◌+◌, ◌^◌, ◌<◌, ◌≤◌, List, [], ◌∷◌, ◌++◌, length, get_or, take, drop, refl, sym, ◌∙◌, ap, subst, arith, length-append, take-append-drop}
use Rattle.std.specs.Int.{w32, w64, to_be_bytes, from_be_bytes}
use Rattle.std.proofs.lemmas.List.{take_at, drop_more, take-take}
use Rattle.std.proofs.lemmas.Nat.{be_bytes_4, be_bytes_8}
use Rattle.sr_site.specs.Reads.{HasRead}
use Rattle.sr_logfile.specs.Inner.Heads.{HasLength}
use Rattle.sr_logfile.specs.Records.{header, HasHeader}

-- the first sixteen elements, each by its place
pub sixteen : (l : List ℕ) → 16 ≤ length l → take 16 l ≡ get_or l 0 0 ∷ get_or l 1 0 ∷ get_or l 2 0 ∷ get_or l 3 0 ∷ get_or l 4 0 ∷ get_or l 5 0 ∷ get_or l 6 0 ∷ get_or l 7 0 ∷ get_or l 8 0 ∷ get_or l 9 0 ∷ get_or l 10 0 ∷ get_or l 11 0 ∷ get_or l 12 0 ∷ get_or l 13 0 ∷ get_or l 14 0 ∷ get_or l 15 0 ∷ []
sixteen [] long = absurd (omega arith)
sixteen (a ∷ []) long = absurd (omega arith)
sixteen (a ∷ b ∷ []) long = absurd (omega arith)
sixteen (a ∷ b ∷ c ∷ []) long = absurd (omega arith)
sixteen (a ∷ b ∷ c ∷ d ∷ []) long = absurd (omega arith)
sixteen (a ∷ b ∷ c ∷ d ∷ e ∷ []) long = absurd (omega arith)
sixteen (a ∷ b ∷ c ∷ d ∷ e ∷ f ∷ []) long = absurd (omega arith)
sixteen (a ∷ b ∷ c ∷ d ∷ e ∷ f ∷ g ∷ []) long = absurd (omega arith)
sixteen (a ∷ b ∷ c ∷ d ∷ e ∷ f ∷ g ∷ h ∷ []) long = absurd (omega arith)
sixteen (a ∷ b ∷ c ∷ d ∷ e ∷ f ∷ g ∷ h ∷ i ∷ []) long = absurd (omega arith)
sixteen (a ∷ b ∷ c ∷ d ∷ e ∷ f ∷ g ∷ h ∷ i ∷ j ∷ []) long = absurd (omega arith)
sixteen (a ∷ b ∷ c ∷ d ∷ e ∷ f ∷ g ∷ h ∷ i ∷ j ∷ k ∷ []) long = absurd (omega arith)
sixteen (a ∷ b ∷ c ∷ d ∷ e ∷ f ∷ g ∷ h ∷ i ∷ j ∷ k ∷ l ∷ []) long = absurd (omega arith)
sixteen (a ∷ b ∷ c ∷ d ∷ e ∷ f ∷ g ∷ h ∷ i ∷ j ∷ k ∷ l ∷ m ∷ []) long = absurd (omega arith)
sixteen (a ∷ b ∷ c ∷ d ∷ e ∷ f ∷ g ∷ h ∷ i ∷ j ∷ k ∷ l ∷ m ∷ n ∷ []) long = absurd (omega arith)
sixteen (a ∷ b ∷ c ∷ d ∷ e ∷ f ∷ g ∷ h ∷ i ∷ j ∷ k ∷ l ∷ m ∷ n ∷ o ∷ []) long = absurd (omega arith)
sixteen (a ∷ b ∷ c ∷ d ∷ e ∷ f ∷ g ∷ h ∷ i ∷ j ∷ k ∷ l ∷ m ∷ n ∷ o ∷ p ∷ rest) long = refl

-- a header by its bytes
pub header_is : (prefix : List ℕ) (base : ℕ) → 16 ≤ length prefix
    → get_or prefix 8 0 < 256 → get_or prefix 9 0 < 256 → get_or prefix 10 0 < 256 → get_or prefix 11 0 < 256 → get_or prefix 12 0 < 256 → get_or prefix 13 0 < 256 → get_or prefix 14 0 < 256 → get_or prefix 15 0 < 256
    → get_or prefix 0 0 ≡ 83 → get_or prefix 1 0 ≡ 82 → get_or prefix 2 0 ≡ 76 → get_or prefix 3 0 ≡ 79 → get_or prefix 4 0 ≡ 71 → get_or prefix 5 0 ≡ 48 → get_or prefix 6 0 ≡ 48 → get_or prefix 7 0 ≡ 49
    → base ≡ from_be_bytes w64 (get_or prefix 8 0 ∷ get_or prefix 9 0 ∷ get_or prefix 10 0 ∷ get_or prefix 11 0 ∷ get_or prefix 12 0 ∷ get_or prefix 13 0 ∷ get_or prefix 14 0 ∷ get_or prefix 15 0 ∷ []) → take 16 prefix ≡ header base
header_is prefix base long a b c d e f h i s r l o g z y w is =
    let number = be_bytes_8 (get_or prefix 8 0 ∷ get_or prefix 9 0 ∷ get_or prefix 10 0 ∷ get_or prefix 11 0 ∷ get_or prefix 12 0 ∷ get_or prefix 13 0 ∷ get_or prefix 14 0 ∷ get_or prefix 15 0 ∷ []) base refl (eight (get_or prefix 8 0) (get_or prefix 9 0) (get_or prefix 10 0) (get_or prefix 11 0) (get_or prefix 12 0) (get_or prefix 13 0) (get_or prefix 14 0) (get_or prefix 15 0) a b c d e f h i) is in
    sixteen prefix long ∙ (λ k. s k ∷ r k ∷ l k ∷ o k ∷ g k ∷ z k ∷ y k ∷ w k ∷ sym number k)
  where
    eight : (a b c d e f g h : ℕ) → a < 256 → b < 256 → c < 256 → d < 256 → e < 256 → f < 256 → g < 256 → h < 256 → (i : ℕ) → get_or (a ∷ b ∷ c ∷ d ∷ e ∷ f ∷ g ∷ h ∷ []) i 0 < 256
    eight a b c d e f g h p q r s t u v w zero = p
    eight a b c d e f g h p q r s t u v w (suc zero) = q
    eight a b c d e f g h p q r s t u v w (suc (suc zero)) = r
    eight a b c d e f g h p q r s t u v w (suc (suc (suc zero))) = s
    eight a b c d e f g h p q r s t u v w (suc (suc (suc (suc zero)))) = t
    eight a b c d e f g h p q r s t u v w (suc (suc (suc (suc (suc zero))))) = u
    eight a b c d e f g h p q r s t u v w (suc (suc (suc (suc (suc (suc zero)))))) = v
    eight a b c d e f g h p q r s t u v w (suc (suc (suc (suc (suc (suc (suc zero))))))) = w
    eight a b c d e f g h p q r s t u v w (suc (suc (suc (suc (suc (suc (suc (suc n)))))))) = omega arith

-- a read of the file's first 17 bytes that begin with the header's
pub has_header : (base : ℕ) (bytes prefix : List ℕ) → HasRead bytes 0 17 17 prefix → length prefix ≡ 17 → take 16 prefix ≡ header base → base ≤ 2 ^ 62 → HasHeader base bytes
has_header base bytes prefix read long is limit =
    let enough : 17 ≤ length bytes = omega (arith, read.count_is) in
    let first : take 16 bytes ≡ header base = sym (take-take 16 17 bytes (omega arith)) ∙ ap (take 16) (sym read.prefix) ∙ take-take 16 17 prefix (omega arith) ∙ is in
    record {
      gate = get_or bytes 16 0;
      rest = drop 17 bytes;
      bytes_are = sym (take-append-drop 16 bytes) ∙ ap (λ (l : List ℕ). l ++ drop 16 bytes) first ∙ ap (λ (l : List ℕ). header base ++ l) (drop_more bytes 16 0 (omega arith));
      limit = limit;
    }

-- bytes with a header give it to a read
pub read_header : (base : ℕ) (bytes prefix : List ℕ) (count : ℕ) → HasRead bytes 0 17 count prefix → length prefix ≡ 17 → HasHeader base bytes → (count ≡ 17) × (take 16 prefix ≡ header base)
read_header base bytes prefix count read long has =
    let size : length bytes ≡ 17 + length has.rest = omega (arith, ap length has.bytes_are, length-append (header base) (has.gate ∷ has.rest)) in
    let all : count ≡ 17 = omega (arith, read.count_is) in
    let same : take 17 prefix ≡ take 17 bytes = subst (λ (n : ℕ). take n prefix ≡ take 17 bytes) all read.prefix in
    (all, sym (take-take 16 17 prefix (omega arith)) ∙ ap (take 16) same ∙ take-take 16 17 bytes (omega arith) ∙ ap (take 16) has.bytes_are ∙ take_at (header base) (has.gate ∷ has.rest) 16 refl)

-- the first five elements, each by its place
five : (l : List ℕ) → 5 ≤ length l → take 5 l ≡ get_or l 0 0 ∷ get_or l 1 0 ∷ get_or l 2 0 ∷ get_or l 3 0 ∷ get_or l 4 0 ∷ []
five [] long = absurd (omega arith)
five (a ∷ []) long = absurd (omega arith)
five (a ∷ b ∷ []) long = absurd (omega arith)
five (a ∷ b ∷ c ∷ []) long = absurd (omega arith)
five (a ∷ b ∷ c ∷ d ∷ []) long = absurd (omega arith)
five (a ∷ b ∷ c ∷ d ∷ e ∷ rest) long = refl

-- four bytes are the spelling of the number that they are read as
four : (a b c d n : ℕ) → a < 256 → b < 256 → c < 256 → d < 256 → n ≡ from_be_bytes w32 (a ∷ b ∷ c ∷ d ∷ []) → to_be_bytes w32 n ≡ a ∷ b ∷ c ∷ d ∷ []
four a b c d n p q r s is = be_bytes_4 (a ∷ b ∷ c ∷ d ∷ []) n refl small is
  where
    small : (i : ℕ) → get_or (a ∷ b ∷ c ∷ d ∷ []) i 0 < 256
    small zero = p
    small (suc zero) = q
    small (suc (suc zero)) = r
    small (suc (suc (suc zero))) = s
    small (suc (suc (suc (suc i)))) = omega arith

-- a read of five bytes that begin with an open gate
pub has_length : (bytes : List ℕ) (place count : ℕ) (head : List ℕ) (n : ℕ) → HasRead bytes place 5 count head → 5 ≤ count → length head ≡ 5 → ((i : ℕ) → get_or head i 0 < 256)
    → get_or head 0 0 ≡ 1 → n ≡ from_be_bytes w32 (get_or head 1 0 ∷ get_or head 2 0 ∷ get_or head 3 0 ∷ get_or head 4 0 ∷ []) → n < 2 ^ 32 → HasLength (drop place bytes) n
has_length bytes place count head n read all long fits gate is small =
    let count_is : count ≡ 5 = omega (arith, read.count_is) in
    let same : take 5 head ≡ take 5 (drop place bytes) = subst (λ (k : ℕ). take k head ≡ take 5 (drop place bytes)) count_is read.prefix in
    let number = four (get_or head 1 0) (get_or head 2 0) (get_or head 3 0) (get_or head 4 0) n (fits 1) (fits 2) (fits 3) (fits 4) is in
    let first : take 5 (drop place bytes) ≡ 1 ∷ to_be_bytes w32 n = sym same ∙ five head (omega arith) ∙ (λ k. gate k ∷ sym number k) in
    record {
      rest = drop 5 (drop place bytes);
      bytes_are = sym (take-append-drop 5 (drop place bytes)) ∙ ap (λ (l : List ℕ). l ++ drop 5 (drop place bytes)) first;
      fits = small;
    }
