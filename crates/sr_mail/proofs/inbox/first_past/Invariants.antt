use Rattle.std.proofs.Common.{◌≡◌, ◌++◌, List, length}
use Rattle.std.specs.List.{AllByRecursion}
use Rattle.sr_mail.specs.Inboxes.{Gathered}
use Rattle.sr_mail.specs.Inner.Shelves.{EndsPast, all_of}
use Rattle.sr_mail.proofs.inbox.first_past.Given as goal

abbrev pub invariant-shelves : goal.invariant-shelves
invariant-shelves l = (prefix : List (List Gathered)) × (l.shelves ≡ prefix ++ l.left) × AllByRecursion (λ g. ¬ (EndsPast l.offset g)) (all_of prefix)

abbrev pub decreases-shelves : goal.decreases-shelves
decreases-shelves l = length l.left
