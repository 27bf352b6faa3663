use Rattle.std.proofs.Common.{◌≡◌, ℕ, ◌≤◌, List, [], ◌∷◌, ◌++◌, refl, arith, le_refl}
use Rattle.std.proofs.lemmas.List.{map-append}
use Rattle.sr_book.specs.Rising.{Rises, top, offsets}

pub top-append : (low : ℕ) (xs ys : List ℕ) → top low (xs ++ ys) ≡ top (top low xs) ys
top-append low [] ys = refl
top-append low (x ∷ xs) ys = top-append x xs ys

pub Rises-append : (low : ℕ) (xs ys : List ℕ) → Rises low xs → Rises (top low xs) ys → Rises low (xs ++ ys)
Rises-append low [] ys prefix back = back
Rises-append low (x ∷ xs) ys prefix back = (prefix.0, Rises-append x xs ys prefix.1 back)

pub Rises-prefix : (low : ℕ) (xs ys : List ℕ) → Rises low (xs ++ ys) → Rises low xs
Rises-prefix low [] ys rises = tt
Rises-prefix low (x ∷ xs) ys rises = (rises.0, Rises-prefix x xs ys rises.1)

pub Rises-back : (low : ℕ) (xs ys : List ℕ) → Rises low (xs ++ ys) → Rises (top low xs) ys
Rises-back low [] ys rises = rises
Rises-back low (x ∷ xs) ys rises = Rises-back x xs ys rises.1

pub Rises-from_lower : (low high : ℕ) (xs : List ℕ) → low ≤ high → Rises high xs → Rises low xs
Rises-from_lower low high [] le rises = tt
Rises-from_lower low high (x ∷ xs) le rises = (omega (arith, rises.0), rises.1)

pub le-top : (low : ℕ) (xs : List ℕ) → Rises low xs → low ≤ top low xs
le-top low [] rises = le_refl low
le-top low (x ∷ xs) rises = let above : x ≤ top x xs = le-top x xs rises.1 in omega (arith, rises.0)

pub offsets-append : {Ops : Type 0} (xs ys : List (ℕ × Ops)) → offsets (xs ++ ys) ≡ offsets xs ++ offsets ys
offsets-append xs ys = map-append (λ tx. tx.0) xs ys
