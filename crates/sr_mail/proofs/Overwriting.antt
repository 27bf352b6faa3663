-- Bytes of which some are written over.
use Rattle.std.proofs.Common.{◌≡◌, ℕ, ◌+◌, ◌-◌, ◌<◌, ◌≤◌, List, ◌++◌, length, take, drop, get_or, ap, ◌∙◌, arith}
use Rattle.std.proofs.lemmas.List.{length-take, get_or-take, get_or-drop, get_or_append_left, get_or-append_right}

-- a fragment's first bytes, so many, over bytes from a place on
abbrev pub written_over : List ℕ → ℕ → ℕ → List ℕ → List ℕ
written_over bytes place size fragment = take place bytes ++ (take size fragment ++ drop size (drop place bytes))

pub over_before : (bytes : List ℕ) (place size : ℕ) (fragment : List ℕ) (i : ℕ) → place ≤ length bytes → i < place → get_or (written_over bytes place size fragment) i 0 ≡ get_or bytes i 0
over_before bytes place size fragment i within lt =
    get_or_append_left (take place bytes) (take size fragment ++ drop size (drop place bytes)) 0 i (omega (arith, length-take place bytes, within, lt)) ∙ get_or-take place bytes i 0 lt

pub over_inside : (bytes : List ℕ) (place size : ℕ) (fragment : List ℕ) (i : ℕ) → place ≤ length bytes → size ≤ length fragment → place ≤ i → i < place + size → get_or (written_over bytes place size fragment) i 0 ≡ get_or fragment (i - place) 0
over_inside bytes place size fragment i within short le lt =
    let prefix : length (take place bytes) ≡ place = omega (arith, length-take place bytes, within) in
    let own : i - place < length (take size fragment) = omega (arith, length-take size fragment, short, le, lt) in
    let inner : i - place < size = omega (arith, le, lt) in
    get_or-append_right (take place bytes) (take size fragment ++ drop size (drop place bytes)) place i 0 prefix le
    ∙ get_or_append_left (take size fragment) (drop size (drop place bytes)) 0 (i - place) own ∙ get_or-take size fragment (i - place) 0 inner

pub over_behind : (bytes : List ℕ) (place size : ℕ) (fragment : List ℕ) (i : ℕ) → place ≤ length bytes → size ≤ length fragment → place + size ≤ i → get_or (written_over bytes place size fragment) i 0 ≡ get_or bytes i 0
over_behind bytes place size fragment i within short le =
    let prefix : length (take place bytes) ≡ place = omega (arith, length-take place bytes, within) in
    let own : length (take size fragment) ≡ size = omega (arith, length-take size fragment, short) in
    let at : place + (size + (i - place - size)) ≡ i = omega (arith, le) in
    get_or-append_right (take place bytes) (take size fragment ++ drop size (drop place bytes)) place i 0 prefix (omega (arith, le))
    ∙ get_or-append_right (take size fragment) (drop size (drop place bytes)) size (i - place) 0 own (omega (arith, le))
    ∙ get_or-drop size (drop place bytes) (i - place - size) 0 ∙ get_or-drop place bytes (size + (i - place - size)) 0 ∙ ap (λ (k : ℕ). get_or bytes k 0) at
