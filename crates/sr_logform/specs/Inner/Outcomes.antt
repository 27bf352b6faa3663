-- Changes, outcomes and notes of a book: their bytes, and how they are read.
-- Here is what no contract of the program says by itself.
use Rattle.std.specs.Prelude.{ℕ, Bool, not, List}
use Rattle.std.specs.Int.{w32, w64}
use Rattle.sr_base.specs.Fields.{name_at, option_spelling, pair_spelling}
use Rattle.sr_base.specs.Inner.Fields.{option_at, pair_at, triple_at}
use Rattle.sr_base.specs.Reading.{Read, number_at, list_at, mapped_at, tag_at, just_at, untagged_at}
use Rattle.sr_base.specs.Values.{row_spelling}
use Rattle.sr_base.specs.Inner.Values.{row_at, offset_at}
use Rattle.sr_book.specs.declared.note.Note.{Note}
use Rattle.sr_book.specs.declared.note.Note.TheVariants as notes
use Rattle.sr_logform.specs.declared.change.Change.{Change}
use Rattle.sr_logform.specs.declared.outcome.Clash.{Clash}
use Rattle.sr_logform.specs.declared.outcome.Clash.TheVariants as clashes
use Rattle.sr_logform.specs.declared.outcome.Outcome.{Outcome}
use Rattle.sr_logform.specs.declared.outcome.Outcome.TheVariants as outcomes
use Rattle.sr_logform.specs.Inner.Rules.{checked_at}
use Rattle.sr_logform.specs.Outcomes.{Images, is_same_row}

-- whether they differ
abbrev pub are_two : Images → Bool
are_two p = not (is_same_row p.0 p.1)

unfoldable pub images_at : List ℕ → Read Images
images_at = checked_at are_two (pair_at (option_at row_at) (option_at row_at))

-- one behind the other
abbrev pub images_spelling : Images → List ℕ
images_spelling = pair_spelling (option_spelling row_spelling) (option_spelling row_spelling)

-- the change of a table with these rows
abbrev pub change_of : List ℕ × Images → Change
change_of p = record { table = p.0; before = p.1.0; after = p.1.1 }

unfoldable pub change_at : List ℕ → Read Change
change_at = mapped_at change_of (pair_at name_at images_at)

unfoldable pub clash_at : List ℕ → Read Clash
clash_at =
    tag_at 1 (just_at clashes.Duplicate)
    (tag_at 2 (just_at clashes.NoRow)
    (tag_at 3 (just_at clashes.NoTable)
    (tag_at 4 (just_at clashes.NoColumn)
    (tag_at 5 (just_at clashes.BadValue)
    (tag_at 6 (just_at clashes.Null)
    (tag_at 7 (just_at clashes.Trigger)
    (tag_at 8 (just_at clashes.Statement) untagged_at)))))))

unfoldable pub outcome_at : List ℕ → Read Outcome
outcome_at =
    tag_at 0 (mapped_at (λ changes. outcomes.Plain changes) (list_at change_at))
    (tag_at 1 (mapped_at (λ p. outcomes.Conflict p.0 p.1 p.2) (triple_at (list_at change_at) row_at row_at))
    (tag_at 2 (mapped_at (λ clash. outcomes.Clash clash) clash_at) untagged_at))

unfoldable pub note_at : List ℕ → Read Note
note_at =
    tag_at 1 (mapped_at (λ place. notes.Confirmed place) offset_at)
    (tag_at 2 (mapped_at (λ p. notes.Asked p.0 p.1) (pair_at (number_at w64) offset_at))
    (tag_at 3 (just_at notes.Raised)
    (tag_at 4 (mapped_at (λ p. notes.Sent p.0 p.1 p.2) (triple_at offset_at (number_at w32) offset_at)) untagged_at)))
