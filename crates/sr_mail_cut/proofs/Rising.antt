-- Offsets that rise, and the last of them.
use Rattle.std.proofs.Common.{◌≡◌, ℕ, ◌<◌, ◌≤◌, List, [], ◌∷◌, ◌++◌, refl, arith}
use Rattle.sr_base.specs.declared.offset.Offset.{Offset}
use Rattle.sr_logform.specs.declared.op.Transaction.{Transaction}
use Rattle.sr_mail_cut.specs.Bodies.{RisesPast, last_at}

pub last_at-append : (offset : Offset) (xs ys : List Transaction) → last_at offset (xs ++ ys) ≡ last_at (last_at offset xs) ys
last_at-append offset [] ys = refl
last_at-append offset (x ∷ xs) ys = last_at-append x.at xs ys

pub last-is : (one other : Offset) (x : Transaction) (xs : List Transaction) → last_at one (xs ++ x ∷ []) ≡ x.at
last-is one other x xs = last_at-append one xs (x ∷ [])

pub RisesPast-more : (low : Offset) (xs : List Transaction) (t : Transaction) → RisesPast low.0 xs → (last_at low xs).0 < t.at.0 → RisesPast low.0 (xs ++ t ∷ [])
RisesPast-more low [] t rises past = (past, tt)
RisesPast-more low (x ∷ xs) t rises past = (rises.0, RisesPast-more x.at xs t rises.1 past)

pub RisesPast-last : (low : Offset) (xs more : List Transaction) (t : Transaction) → RisesPast low.0 (xs ++ t ∷ more) → (last_at low xs).0 < t.at.0
RisesPast-last low [] more t rises = rises.0
RisesPast-last low (x ∷ xs) more t rises = RisesPast-last x.at xs more t rises.1

pub RisesPast-prefix : (low : ℕ) (xs ys : List Transaction) → RisesPast low (xs ++ ys) → RisesPast low xs
RisesPast-prefix low [] ys rises = tt
RisesPast-prefix low (x ∷ xs) ys rises = (rises.0, RisesPast-prefix x.at.0 xs ys rises.1)

pub RisesPast-back : (low : Offset) (xs ys : List Transaction) → RisesPast low.0 (xs ++ ys) → RisesPast (last_at low xs).0 ys
RisesPast-back low [] ys rises = rises
RisesPast-back low (x ∷ xs) ys rises = RisesPast-back x.at xs ys rises.1

-- offsets that rise do not end before they begin
pub le-last : (low : Offset) (xs : List Transaction) → RisesPast low.0 xs → low.0 ≤ (last_at low xs).0
le-last low [] rises = omega arith
le-last low (x ∷ xs) rises = omega (arith, rises.0, le-last x.at xs rises.1)

pub lt-last : (low : Offset) (x : Transaction) (xs : List Transaction) → RisesPast low.0 (x ∷ xs) → low.0 < (last_at low (x ∷ xs)).0
lt-last low x xs rises = omega (arith, rises.0, le-last x.at xs rises.1)
