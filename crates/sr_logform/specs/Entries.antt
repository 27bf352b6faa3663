-- Entries of a log, their bytes, and how they are read.
use Rattle.std.specs.Prelude.{ℕ, Bool, true, false, ⊤, List, [], ◌∷◌, ◌++◌}
use Rattle.sr_base.specs.declared.value.Value.{Value}
use Rattle.sr_base.specs.Fields.{name_spelling, IsName, bytes_spelling, IsText, list_spelling, IsListOf, pair_spelling}
use Rattle.sr_base.specs.Values.{row_spelling, IsValue, offset_spelling, IsOffset}
use Rattle.sr_logform.specs.declared.entry.Entry.{Entry}
use Rattle.sr_logform.specs.declared.entry.Entry.TheVariants.{Own, From, Ddl, Sync, Pass, Note}
use Rattle.sr_logform.specs.declared.op.Op.{Op}
use Rattle.sr_logform.specs.declared.outcome.Outcome.{Outcome}
use Rattle.sr_logform.specs.Ops.{op_spelling, IsOp}
use Rattle.sr_logform.specs.Outcomes.{change_spelling, IsChange, outcome_spelling, IsOutcome, note_spelling, IsNote}
use Rattle.sr_logform.specs.Rules.{AreDistinct, IsFilledListOf}

-- ---- flags: a byte 0 or 1

unfoldable pub flag_spelling : Bool → List ℕ
flag_spelling false = 0 ∷ []
flag_spelling true = 1 ∷ []

-- ---- users: names of which none stands twice; the list breaks at its count where one does

pub record AreUsers (names : List ℕ → Type 0) (users : List (List ℕ)) : Type 0 where
  pub items : IsListOf names users
  pub distinct : AreDistinct users

-- ---- taken ops and synchronized tables

-- an op that was taken, and what became of it
abbrev pub judged_spelling : Op × Outcome → List ℕ
judged_spelling = pair_spelling op_spelling outcome_spelling

-- a table, and the rows of it that a partner has
abbrev pub table_spelling : List ℕ × List (List Value) → List ℕ
table_spelling = pair_spelling name_spelling (list_spelling row_spelling)

-- ---- entries: a tag byte, and what stands behind it

unfoldable pub entry_spelling : Entry → List ℕ
entry_spelling (Own changes) = 1 ∷ list_spelling change_spelling changes
entry_spelling (From user at ops) = 2 ∷ (name_spelling user ++ offset_spelling at ++ list_spelling judged_spelling ops)
entry_spelling (Ddl text) = 3 ∷ bytes_spelling text
entry_spelling (Sync user tables) = 4 ∷ (name_spelling user ++ list_spelling table_spelling tables)
entry_spelling (Pass users only text changes) =
    5 ∷ (list_spelling name_spelling users ++ flag_spelling only ++ bytes_spelling text ++ list_spelling change_spelling changes)
entry_spelling (Note user note) = 6 ∷ (name_spelling user ++ note_spelling note)

-- what has a spelling: an Own has changes and a From has ops, a Pass names no user twice, each part keeps its rules
unfoldable pub IsEntry : Entry → Type 0
IsEntry (Own changes) = IsFilledListOf IsChange changes
IsEntry (From user at ops) = IsName user × IsOffset at × IsFilledListOf (λ p. IsOp p.0 × IsOutcome p.1) ops
IsEntry (Ddl text) = IsText text
IsEntry (Sync user tables) = IsName user × IsListOf (λ p. IsName p.0 × IsListOf (IsListOf IsValue) p.1) tables
IsEntry (Pass users only text changes) = (AreUsers IsName users × ⊤ × IsText text) × IsListOf IsChange changes
IsEntry (Note user note) = IsName user × IsNote note
