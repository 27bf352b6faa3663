-- Changes, outcomes and notes of a book: their bytes, and how they are read.
use Rattle.std.specs.Prelude.{◌≡◌, ℕ, ◌<◌, ◌^◌, ⊤, Bool, true, false, List, [], ◌∷◌, ◌++◌, Option, Some, None, IfSome}
use Rattle.std.specs.Int.{w32, w64, to_be_bytes}
use Rattle.std.specs.Ordering.{is_eq}
use Rattle.sr_base.specs.declared.value.Value.{Value}
use Rattle.sr_base.specs.Fields.{name_spelling, IsName, list_spelling, IsListOf, option_spelling}
use Rattle.sr_base.specs.Order.{key_cmp}
use Rattle.sr_base.specs.Values.{row_spelling, IsValue, IsShort, offset_spelling, IsOffset}
use Rattle.sr_book.specs.declared.note.Note.{Note}
use Rattle.sr_book.specs.declared.note.Note.TheVariants as notes
use Rattle.sr_logform.specs.declared.change.Change.{Change}
use Rattle.sr_logform.specs.declared.outcome.Clash.{Clash}
use Rattle.sr_logform.specs.declared.outcome.Clash.TheVariants as clashes
use Rattle.sr_logform.specs.declared.outcome.Outcome.{Outcome}
use Rattle.sr_logform.specs.declared.outcome.Outcome.TheVariants as outcomes

-- ---- changes: a name, the row before if there is one, and the row after if there is one

-- whether both rows are none, or equal
abbrev pub is_same_row : Option (List Value) → Option (List Value) → Bool
is_same_row None None = true
is_same_row None (Some after) = false
is_same_row (Some before) None = false
is_same_row (Some before) (Some after) = is_eq (key_cmp before after)

abbrev pub change_spelling : Change → List ℕ
change_spelling c = name_spelling c.table ++ option_spelling row_spelling c.before ++ option_spelling row_spelling c.after

-- the rules of a change whose names and values are such: the row before differs from the row after, so that not both are none
pub record ChangeHas (names : List ℕ → Type 0) (values : Value → Type 0) (c : Change) : Type 0 where
  pub table : names c.table
  pub before : IfSome c.before (IsListOf values)
  pub after : IfSome c.after (IsListOf values)
  pub differ : ¬ (c.before ≡ c.after)

-- what has a spelling
abbrev pub IsChange : Change → Type 0
IsChange = ChangeHas IsName IsValue

-- what has to be known of a change to write it
abbrev pub IsShortChange : Change → Type 0
IsShortChange = ChangeHas (λ name. ⊤) IsShort

-- the two rows, which break at the first one's byte where they are one
abbrev pub Images : Type 0
Images = Option (List Value) × Option (List Value)

-- they differ, and their values are such
pub record ImagesHave (values : Value → Type 0) (p : Images) : Type 0 where
  pub before : IfSome p.0 (IsListOf values)
  pub after : IfSome p.1 (IsListOf values)
  pub differ : ¬ (p.0 ≡ p.1)

-- ---- clashes: a byte from 1 to 8

unfoldable pub clash_spelling : Clash → List ℕ
clash_spelling clashes.Duplicate = 1 ∷ []
clash_spelling clashes.NoRow = 2 ∷ []
clash_spelling clashes.NoTable = 3 ∷ []
clash_spelling clashes.NoColumn = 4 ∷ []
clash_spelling clashes.BadValue = 5 ∷ []
clash_spelling clashes.Null = 6 ∷ []
clash_spelling clashes.Trigger = 7 ∷ []
clash_spelling clashes.Statement = 8 ∷ []

-- ---- outcomes: a tag byte, and what stands behind it

unfoldable pub outcome_spelling : Outcome → List ℕ
outcome_spelling (outcomes.Plain changes) = 0 ∷ list_spelling change_spelling changes
outcome_spelling (outcomes.Conflict inserts before after) = 1 ∷ (list_spelling change_spelling inserts ++ row_spelling before ++ row_spelling after)
outcome_spelling (outcomes.Clash clash) = 2 ∷ clash_spelling clash

-- the rules of an outcome whose changes and values are such
unfoldable pub OutcomeHas : (Change → Type 0) → (Value → Type 0) → Outcome → Type 0
OutcomeHas each values (outcomes.Plain changes) = IsListOf each changes
OutcomeHas each values (outcomes.Conflict inserts before after) = IsListOf each inserts × IsListOf values before × IsListOf values after
OutcomeHas each values (outcomes.Clash clash) = ⊤

-- what has a spelling
abbrev pub IsOutcome : Outcome → Type 0
IsOutcome = OutcomeHas IsChange IsValue

-- what has to be known of an outcome to write it
abbrev pub IsShortOutcome : Outcome → Type 0
IsShortOutcome = OutcomeHas IsShortChange IsShort

-- ---- notes: a tag byte, and what stands behind it

unfoldable pub note_spelling : Note → List ℕ
note_spelling (notes.Confirmed place) = 1 ∷ offset_spelling place
note_spelling (notes.Asked count place) = 2 ∷ (to_be_bytes w64 count ++ offset_spelling place)
note_spelling notes.Raised = 3 ∷ []
note_spelling (notes.Sent end messages confirm) = 4 ∷ (offset_spelling end ++ to_be_bytes w32 messages ++ offset_spelling confirm)

-- what has a spelling: each number is in its range
unfoldable pub IsNote : Note → Type 0
IsNote (notes.Confirmed place) = IsOffset place
IsNote (notes.Asked count place) = (count < 2 ^ 64) × IsOffset place
IsNote notes.Raised = ⊤
IsNote (notes.Sent end messages confirm) = IsOffset end × (messages < 2 ^ 32) × IsOffset confirm
