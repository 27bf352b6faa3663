-- What a write and a cut leave is one of the things that they may leave in part.
use Rattle.std.proofs.Common.{◌≡◌, ℕ, ◌+◌, ◌≤◌, List, [], ◌∷◌, ◌++◌, length, take, drop, refl, sym, ◌∙◌, ap, arith, append_assoc, length-append}
use Rattle.std.proofs.lemmas.List.{take_at, drop_at, length-take, length-drop}
use Rattle.sr_site.specs.declared.file.File.{File}
use Rattle.sr_site.specs.declared.file.File.TheVariants.{Root, Log0, Log1, Snap0, Snap1}
use Rattle.sr_site.specs.Files.{Files, bytes_of, with_bytes, overwritten, IsTorn, IsCutInPart}

pub written : (place : ℕ) (old bytes : List ℕ) → place ≤ length old → IsTorn place (length bytes) old (overwritten old place bytes)
written place old bytes within =
    let prefix : length (take place old) ≡ place = omega (arith, length-take place old) in
    let tail = drop (place + length bytes) old in
    let long : length (take place old ++ bytes) ≡ place + length bytes = length-append (take place old) bytes ∙ ap (λ (n : ℕ). n + length bytes) prefix in
    record {
      before = ap (take place) (append_assoc (take place old) bytes tail) ∙ take_at (take place old) (bytes ++ tail) place prefix;
      behind = drop_at (take place old ++ bytes) tail (place + length bytes) long;
      longer = omega (arith, long, length-append (take place old ++ bytes) tail, length-drop (place + length bytes) old);
    }

pub cut : (to : ℕ) (old : List ℕ) → to ≤ length old → IsCutInPart to old (take to old)
cut to old within =
    let prefix : length (take to old) ≡ to = omega (arith, length-take to old) in
    record { before = take_all (take to old) to prefix; least = omega arith; most = omega arith }
  where
    take_all : (l : List ℕ) (n : ℕ) → length l ≡ n → take n l ≡ l
    take_all l n is = ap (λ (k : ℕ). take k l) (sym is) ∙ whole l
      where
        whole : (l : List ℕ) → take (length l) l ≡ l
        whole [] = refl
        whole (x ∷ l) = ap (λ (m : List ℕ). x ∷ m) (whole l)

pub bytes_of-with_bytes : (files : Files) (file : File) (bytes : List ℕ) → bytes_of (with_bytes files file bytes) file ≡ bytes
bytes_of-with_bytes files Root bytes = refl
bytes_of-with_bytes files Log0 bytes = refl
bytes_of-with_bytes files Log1 bytes = refl
bytes_of-with_bytes files Snap0 bytes = refl
bytes_of-with_bytes files Snap1 bytes = refl

pub with_same : (files : Files) (file : File) → files ≡ with_bytes files file (bytes_of files file)
with_same files Root = refl
with_same files Log0 = refl
with_same files Log1 = refl
with_same files Snap0 = refl
with_same files Snap1 = refl
