-- Runs of bytes that pass a test.
use Rattle.std.proofs.Common.{◌≡◌, ℕ, ◌+◌, Bool, true, false, cond, one-add, List, [], ◌∷◌, ◌++◌, length, take, drop, refl, ap, ◌∙◌, arith}
use Rattle.std.specs.List.{list_all, prefix_len}
use Rattle.std.proofs.lemmas.Bool.{and_parts}
use Rattle.std.proofs.lemmas.List.Sums.{prefix_len-drop_yes, prefix_len-drop_no, prefix_len-drop_all}
use Rattle.sr_lex.specs.Tokens.{begins}

pub ruleset steps = (prefix_len-drop_yes, prefix_len-drop_no, prefix_len-drop_all)

-- a run is as long as it goes
pub prefix_len-run : (p : ℕ → Bool) (word rest : List ℕ) → list_all p word ≡ true → begins p rest ≡ false → prefix_len p (word ++ rest) ≡ length word
prefix_len-run p [] [] all stop = refl
prefix_len-run p [] (byte ∷ rest) all stop = ap (λ b. cond b (1 + prefix_len p rest) 0) stop
prefix_len-run p (byte ∷ word) rest all stop =
    let both = and_parts (p byte) (list_all p word) all in
    let rec = prefix_len-run p word rest both.1 stop in
    ap (λ b. cond b (1 + prefix_len p (word ++ rest)) 0) both.0 ∙ omega (arith, rec)

take_more : (n byte : ℕ) (bytes : List ℕ) → take (1 + n) (byte ∷ bytes) ≡ byte ∷ take n bytes
take_more n byte bytes = rw one-add refl

drop_more : (n byte : ℕ) (bytes : List ℕ) → drop (1 + n) (byte ∷ bytes) ≡ drop n bytes
drop_more n byte bytes = rw one-add refl

-- each byte of the run passes
passes_more : (p : ℕ → Bool) (byte : ℕ) (bytes : List ℕ) (b : Bool) → p byte ≡ b → list_all p (take (prefix_len p bytes) bytes) ≡ true → list_all p (take (cond b (1 + prefix_len p bytes) 0) (byte ∷ bytes)) ≡ true
passes_more p byte bytes true e rec = rw take_more (rw (e, rec) refl)
passes_more p byte bytes false e rec = refl

pub run_passes : (p : ℕ → Bool) (bytes : List ℕ) → list_all p (take (prefix_len p bytes) bytes) ≡ true
run_passes p [] = refl
run_passes p (byte ∷ bytes) = passes_more p byte bytes (p byte) refl (run_passes p bytes)

-- and the byte behind it does not
stops_more : (p : ℕ → Bool) (byte : ℕ) (bytes : List ℕ) (b : Bool) → p byte ≡ b → begins p (drop (prefix_len p bytes) bytes) ≡ false → begins p (drop (cond b (1 + prefix_len p bytes) 0) (byte ∷ bytes)) ≡ false
stops_more p byte bytes true e rec = rw drop_more rec
stops_more p byte bytes false e rec = e

pub run_stops : (p : ℕ → Bool) (bytes : List ℕ) → begins p (drop (prefix_len p bytes) bytes) ≡ false
run_stops p [] = refl
run_stops p (byte ∷ bytes) = stops_more p byte bytes (p byte) refl (run_stops p bytes)

-- a run is not empty where its first byte passes
pub run_first : (p q : ℕ → Bool) (byte : ℕ) (bytes : List ℕ) → p byte ≡ true → q byte ≡ true → begins q (take (prefix_len p (byte ∷ bytes)) (byte ∷ bytes)) ≡ true
run_first p q byte bytes e f = rw (e, take_more) f
