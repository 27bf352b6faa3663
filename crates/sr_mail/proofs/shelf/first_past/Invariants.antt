use Rattle.std.proofs.Common.{◌≡◌, ◌++◌, List, length}
use Rattle.std.specs.List.{AllByRecursion}
use Rattle.sr_mail.specs.Inboxes.{Gathered}
use Rattle.sr_mail.specs.Inner.Shelves.{EndsPast}
use Rattle.sr_mail.proofs.shelf.first_past.Given as goal

abbrev pub invariant-windows : goal.invariant-windows
invariant-windows l = (prefix : List Gathered) × (l.windows ≡ prefix ++ l.left) × AllByRecursion (λ g. ¬ (EndsPast l.offset g)) prefix

abbrev pub decreases-windows : goal.decreases-windows
decreases-windows l = length l.left
