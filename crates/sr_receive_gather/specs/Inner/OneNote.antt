-- A note that is due, one at most, and what is reported beside it.
use Rattle.std.specs.Prelude.{Bool, List, [], ◌∷◌, Option, Some, None, if◌then◌else◌}
use Rattle.sr_base.specs.declared.offset.Offset.{Offset}
use Rattle.sr_book.specs.Entries.{Name}
use Rattle.sr_book.specs.declared.note.Note.{Note}
use Rattle.sr_book.specs.declared.note.Note.TheVariants.{Raised}
use Rattle.sr_receive_gather.specs.declared.report.Report.{Report}
use Rattle.sr_receive_gather.specs.declared.report.Report.TheVariants.{Gap}

-- a note, if there is one
abbrev pub at_most_one : Option Note → List Note
at_most_one None = []
at_most_one (Some note) = note ∷ []

-- the note that something is raised, where it is
abbrev pub raised_where : Bool → List Note
raised_where it_is = if it_is then Raised ∷ [] else []

-- and its report
abbrev pub gap_where : Bool → Name → Offset → Offset → List Report
gap_where it_is user received upto = if it_is then Gap user received upto ∷ [] else []
