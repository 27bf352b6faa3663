-- The steps of a world, and what each makes of histories and messages.
-- Here is what no contract of the program says by itself.
use Rattle.std.specs.Prelude.{◌≡◌, ℕ, ◌+◌, List, [], ◌∷◌, ◌++◌, map}
use Rattle.sr_book.specs.Entries.{Name, from_user}
use Rattle.sr_world_model.specs.Layers.{Layers}

-- entries that take these transactions of a user, in order
abbrev pub Take : {Entry Ops : Type 0} → Layers Entry Ops → Name → List (ℕ × Ops) → List Entry → Type 0
Take p user txs new = map p.sees new ≡ map (λ tx. from_user user tx.0 tx.1) txs

-- each of these entries keeps the history of a database lawful, one after the other
abbrev pub AreLawfulAfter : {Entry : Type 0} → (Name → List Entry → Type 0) → Name → List Entry → List Entry → Type 0
AreLawfulAfter lawful d es [] = Unit {0}
AreLawfulAfter lawful d es (e ∷ new) = lawful d (es ++ e ∷ []) × AreLawfulAfter lawful d (es ++ e ∷ []) new
