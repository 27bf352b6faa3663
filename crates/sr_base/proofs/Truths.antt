-- What two tests that hold together say, and what is there of two things that are there alike.
use Rattle.std.proofs.Common.{◌≡◌, ◌&&◌, Bool, true, false, Some, refl}

pub both_true : (a b : Bool) → (a && b) ≡ true → (a ≡ true) × (b ≡ true)
both_true true b h = (refl, h)
both_true false b h = absurd cc

pub some_is : {A : Type 0} {x y : A} → Some x ≡ Some y → x ≡ y
some_is h = cc
