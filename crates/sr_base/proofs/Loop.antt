-- Reading items one after the other, as a loop does.
use Rattle.std.proofs.Common.{◌≡◌, ℕ, suc, ◌-◌, ◌+◌, ◌≤◌, ◌<◌, List, [], ◌∷◌, ◌++◌, Ok, Err, refl, sym, ap, ◌∙◌, append_assoc, arith}
use Rattle.std.proofs.lemmas.List.{append-nil}
use Rattle.sr_base.specs.declared.broken.Broken.{Broken}
use Rattle.sr_base.specs.declared.broken.Broken.TheVariants as broken
use Rattle.sr_base.specs.Reading.{Read, ◌>>=◌, items_at}
use Rattle.sr_base.specs.Inner.Reading.{Fails}

-- what was read before, and what is still read
abbrev pub with_front : {A : Type 0} → List A → Read (List A) → Read (List A)
with_front prefix read = read >>= λ x. Ok (prefix ++ x.0, x.1)

regroup : {A : Type 0} (prefix : List A) (x : A) (read : Read (List A)) → with_front prefix (read >>= λ others. Ok (x ∷ others.0, others.1)) ≡ with_front (prefix ++ x ∷ []) read
regroup prefix x (Ok others) = ap (λ (xs : List _). Ok (xs, others.1)) (simp append_assoc)
regroup prefix x (Err left) = refl

pub goes_on : {A : Type 0} (item : List ℕ → Read A) (prefix : List A) (count i : ℕ) (bytes : List ℕ) (x : A) (after : List ℕ) (total : Read (List A)) → i < count → item bytes ≡ Ok (x, after)
    → with_front prefix (items_at item (count - i) bytes) ≡ total → with_front (prefix ++ x ∷ []) (items_at item (count - (i + 1)) after) ≡ total
unfolding items_at
goes_on item prefix count i bytes x after total lt h so_far =
    let k : count - i ≡ suc (count - (i + 1)) = omega arith in
    let one : with_front prefix (items_at item (count - i) bytes) ≡ with_front (prefix ++ x ∷ []) (items_at item (count - (i + 1)) after) = rw (k, h) (regroup prefix x (items_at item (count - (i + 1)) after)) in
    sym one ∙ so_far

pub ends : {A : Type 0} (item : List ℕ → Read A) (fault : Broken) (prefix : List A) (count i : ℕ) (bytes : List ℕ) (total : Read (List A)) → i < count → Fails fault (item bytes)
    → with_front prefix (items_at item (count - i) bytes) ≡ total → Fails fault total
unfolding items_at
ends item broken.Memory prefix count i bytes total lt h so_far = tt
ends item (broken.Left left) prefix count i bytes total lt h so_far =
    let k : count - i ≡ suc (count - (i + 1)) = omega arith in
    let one : with_front prefix (items_at item (count - i) bytes) ≡ Err left = rw (k, h) refl in
    sym so_far ∙ one

pub is_done : {A : Type 0} (item : List ℕ → Read A) (prefix : List A) (count i : ℕ) (bytes : List ℕ) (total : Read (List A)) → count ≤ i → with_front prefix (items_at item (count - i) bytes) ≡ total → total ≡ Ok (prefix, bytes)
unfolding items_at
is_done item prefix count i bytes total le so_far =
    let k : count - i ≡ 0 = omega arith in
    let one : with_front prefix (items_at item (count - i) bytes) ≡ Ok (prefix, bytes) = rw k (ap (λ (xs : List _). Ok (xs, bytes)) (append-nil prefix)) in
    sym so_far ∙ one
