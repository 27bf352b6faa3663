-- Lists of answers.
use Rattle.std.specs.Prelude.{List, [], ◌∷◌, Result, Ok, Err}

-- an answer before those of the rest: the first fault is the answer
abbrev pub front : {A E : Type 0} → Result A E → Result (List A) E → Result (List A) E
front (Err e) rest = Err e
front (Ok x) (Err e) = Err e
front (Ok x) (Ok xs) = Ok (x ∷ xs)

-- the answers for the items of a list, or the first fault
abbrev pub each : {A B E : Type 0} → (A → Result B E) → List A → Result (List B) E
each f [] = Ok []
each f (x ∷ xs) = front (f x) (each f xs)

-- an answer, and what follows from it
abbrev pub followed : {A B E : Type 0} → Result A E → (A → Result B E) → Result B E
followed (Err e) next = Err e
followed (Ok x) next = next x
