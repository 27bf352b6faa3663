-- Entries read in brief.
-- Here is what no contract of the program says by itself.
use Rattle.std.specs.Prelude.{◌≡◌, ◌⊎◌, ℕ, Bool, true, false, ⊤, List, [], ◌∷◌, ◌++◌, Result, Ok, Err}
use Rattle.sr_base.specs.declared.broken.Bad.{Bad}
use Rattle.sr_base.specs.declared.broken.Bad.TheVariants as bad
use Rattle.sr_base.specs.declared.offset.Offset.{Offset}
use Rattle.sr_base.specs.Fields.{list_spelling}
use Rattle.sr_logform.specs.declared.entry.Entry.{Entry}
use Rattle.sr_logform.specs.declared.entry.Entry.TheVariants.{From}
use Rattle.sr_logform.specs.declared.op.Op.{Op}
use Rattle.sr_logform.specs.declared.op.Op.TheVariants.{Insert, Remove, Set, Clear, Exec}
use Rattle.sr_logform.specs.declared.outcome.Outcome.{Outcome}
use Rattle.sr_logform.specs.Entries.{judged_spelling}
use Rattle.sr_logform.specs.Ops.{IsOp}
use Rattle.sr_logform.specs.Outcomes.{IsOutcome}
use Rattle.sr_logform.specs.Rules.{IsFilledListOf}

-- an op of which the outcome alone tells what came of it here: it runs no statement, and no row of its own met another value
abbrev pub is_passed : Op → Bool
is_passed (Insert table values) = true
is_passed (Remove table key) = true
is_passed (Set table key columns) = false
is_passed (Clear table) = true
is_passed (Exec text) = false

-- an op in brief: itself, or any such op in the place of one
abbrev pub IsBriefOp : Op → Op → Type 0
IsBriefOp op brief = (brief ≡ op) ⊎ ((is_passed op ≡ true) × (is_passed brief ≡ true))

-- with its outcome
abbrev pub IsBriefOf : Op × Outcome → Op × Outcome → Type 0
IsBriefOf judged brief = IsBriefOp judged.0 brief.0 × (brief.1 ≡ judged.1)

abbrev pub AreBrief : List (Op × Outcome) → List (Op × Outcome) → Type 0
AreBrief [] [] = ⊤
AreBrief [] (brief ∷ briefs) = ⊥
AreBrief (judged ∷ ops) [] = ⊥
AreBrief (judged ∷ ops) (brief ∷ briefs) = IsBriefOf judged brief × AreBrief ops briefs

-- an op with its outcome that has a spelling
abbrev pub IsJudged : Op × Outcome → Type 0
IsJudged judged = IsOp judged.0 × IsOutcome judged.1

-- ops at the front of bytes, in brief
abbrev pub AreTakenBrief : List ℕ → List (Op × Outcome) → Type 0
AreTakenBrief bytes briefs = (ops : List (Op × Outcome)) (rest : List ℕ) → IsFilledListOf IsJudged ops → bytes ≡ list_spelling judged_spelling ops ++ rest → AreBrief ops briefs

-- a transaction that was taken, its ops in brief
pub record IsTaken (entry brief : Entry) : Type 0 where
  pub user : List ℕ
  pub at : Offset
  pub ops : List (Op × Outcome)
  pub briefs : List (Op × Outcome)
  pub entry_is : entry ≡ From user at ops
  pub brief_is : brief ≡ From user at briefs
  pub are : AreBrief ops briefs

-- an entry in brief: itself, or a transaction whose ops are in brief
abbrev pub IsBrief : Entry → Entry → Type 0
IsBrief entry brief = (brief ≡ entry) ⊎ IsTaken entry brief

-- the entry was read in brief, unless there was no memory
abbrev pub IsReadBrief : Result Entry Bad → Entry → Type 0
IsReadBrief (Ok brief) entry = IsBrief entry brief
IsReadBrief (Err bad.Memory) entry = ⊤
IsReadBrief (Err (bad.Field at)) entry = ⊥
