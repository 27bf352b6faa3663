-- What is reported of a transaction that was taken.
use Rattle.std.specs.Prelude.{ℕ, ◌+◌, List, [], ◌∷◌, ◌++◌}
use Rattle.sr_base.specs.declared.offset.Offset.{Offset}
use Rattle.sr_book.specs.Entries.{Name}
use Rattle.sr_logform.specs.declared.op.Op.{Op}
use Rattle.sr_logform.specs.declared.outcome.Outcome.{Outcome}
use Rattle.sr_logform.specs.declared.outcome.Outcome.TheVariants as outcomes
use Rattle.sr_receive_gather.specs.declared.report.Report.{Report}
use Rattle.sr_receive_gather.specs.declared.report.Report.TheVariants.{Conflict, Clash}

-- what is reported of an op, by its outcome
abbrev pub outcome_report : Name → Offset → ℕ → Outcome → List Report
outcome_report user at number (outcomes.Plain changes) = []
outcome_report user at number (outcomes.Conflict inserts before after) = Conflict user at number ∷ []
outcome_report user at number (outcomes.Clash why) = Clash user at number why ∷ []

-- of ops, of which the first has this number
abbrev pub outcome_reports : Name → Offset → ℕ → List (Op × Outcome) → List Report
outcome_reports user at number [] = []
outcome_reports user at number (p ∷ ops) = outcome_report user at number p.1 ++ outcome_reports user at (number + 1) ops
