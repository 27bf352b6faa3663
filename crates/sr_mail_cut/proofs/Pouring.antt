-- Bytes in parts: full fragments, and what is left behind them.
use Rattle.std.proofs.Common.{◌≡◌, ℕ, ◌+◌, ◌*◌, ◌<◌, ◌≤◌, ◌==◌, Bool, true, false, List, [], ◌∷◌, ◌++◌, length, refl, sym, ap, ◌∙◌, arith, append_assoc}
use Rattle.std.specs.List.{concat, AllByRecursion}
use Rattle.std.proofs.lemmas.List.{length-append}
use Rattle.std.proofs.Math.Nat.{zero-mul, suc-mul}
use Rattle.sr_mail_cut.specs.declared.head.Head.{Head}
use Rattle.sr_mail_cut.specs.Cuts.{file_length, AreFragments}
use Rattle.sr_mail_cut.specs.Inner.Encodings.{parted, IsParted}
use Rattle.sr_mail_cut.proofs.Filling.{concat-more, last_fragment}

-- what is left becomes a fragment, and others are left
pub poured_on : (full : List (List ℕ)) (left prefix behind : List ℕ) → parted (full ++ left ∷ []) prefix ++ behind ≡ parted full left ++ (prefix ++ behind)
poured_on full left prefix behind =
    ap (λ (x : List ℕ). (x ++ prefix) ++ behind) (concat-more full left) ∙ append_assoc (concat full ++ left) prefix behind

full_size : (room : ℕ) (full : List (List ℕ)) → AllByRecursion (λ f. length f ≡ room) full → length (concat full) ≡ length full * room
full_size room [] h = sym (zero-mul room)
full_size room (f ∷ full) h = omega (arith, length-append f (concat full), full_size room full h.1, h.0, suc-mul (length full) room)

pub parted_size : (room : ℕ) (full : List (List ℕ)) (left : List ℕ) → IsParted room full left → length (parted full left) ≡ length full * room + length left
parted_size room full left h = length-append (concat full) left ∙ ap (λ (n : ℕ). n + length left) (full_size room full h.each)

pub several_parts : (room : ℕ) (full : List (List ℕ)) (left : List ℕ) → IsParted room full left → 0 < length full → room < length (parted full left)
several_parts room [] left h more = absurd (omega (arith, more))
several_parts room (f ∷ full) left h more =
    omega (arith, h.each.0, h.some more, length-append (f ++ concat full) left, length-append f (concat full))

-- all is left where one fragment takes it
pub all_left : (room : ℕ) (full : List (List ℕ)) (left : List ℕ) → IsParted room full left → length (parted full left) ≤ room → left ≡ parted full left
all_left room [] left h one = refl
all_left room (f ∷ full) left h one = absurd (omega (arith, one, several_parts room (f ∷ full) left h (omega arith)))

left_some : (room : ℕ) (full : List (List ℕ)) (left : List ℕ) → IsParted room full left → 0 < length (parted full left) → 0 < length left
left_some room [] left h some = some
left_some room (f ∷ full) left h some = h.some (omega arith)

-- what is left is the last fragment
pub parts_are_fragments : (head : Head) (room : ℕ) (full : List (List ℕ)) (left : List ℕ) → IsParted room full left → 0 < length (parted full left) → AreFragments head (file_length head room) (full ++ left ∷ [])
parts_are_fragments head room full left h some = last_fragment head room full left h.each (left_some room full left h some) h.fits

-- what a test says of a list
pub some_there : {A : Type 0} (xs : List A) (b : Bool) → b ≡ (length xs == 0) → b ≡ false → 0 < length xs
some_there [] b e f = absurd (let g : true ≡ false = sym e ∙ f in cc)
some_there (x ∷ xs) b e f = omega arith
