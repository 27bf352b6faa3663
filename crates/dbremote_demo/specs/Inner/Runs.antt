-- The runs inside the demonstration.
-- Here is what no contract of the program says by itself.
use Rattle.std.specs.Prelude.{◌≡◌, ⊤, ℕ, List}
use Rattle.dbremote_demo.specs.declared.stop.Stop.{Stop}
use Rattle.dbremote_demo.specs.declared.stop.Stop.TheVariants.{Memory, Run}
use Rattle.dbremote_demo.specs.Runs.{EndsAll, IsLast}

-- a status ends the demonstration, with the last of these lines
pub record EndedAs (status : ℕ) (lines : List ℕ) (told : ℕ) (line : List ℕ) : Type 0 where
  pub is : told ≡ status
  pub ends : EndsAll status
  pub last : IsLast lines line

abbrev pub EndsWith : ℕ → List ℕ → Stop → Type 0
EndsWith status lines Memory = ⊤
EndsWith status lines (Run told line) = EndedAs status lines told line.items

-- why the demonstration ends before its end: a run inside ended so. That there is no memory needs no cause
abbrev pub StopCause : (ℕ → List ℕ → Type 0) → Stop → Type 0
StopCause stops Memory = ⊤
StopCause stops (Run status line) = stops status line.items
