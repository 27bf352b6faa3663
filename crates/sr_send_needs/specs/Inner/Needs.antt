-- What of a log partners still need: up to where it may be begun anew.
-- Here is what no contract of the program says by itself.
use Rattle.std.specs.List.{AllByRecursion}
use Rattle.std.specs.Prelude.{List, ◌≤◌, ⊤, ℕ, min}
use Rattle.sr_book.specs.Entries.{Name}
use Rattle.sr_database_history.specs.Folds.{books_of}
use Rattle.sr_database_history.specs.Recorded.{Recorded, own, taken, ddl, sync, pass, note}
use Rattle.sr_book.specs.declared.note.Note.TheVariants.{Confirmed, Asked, Raised, Sent}
use Rattle.sr_scan.specs.Given.{given_of, gives}
use Rattle.sr_send_needs.specs.Needs.{IsKept}

-- where an entry notes what was sent to a user, no less was sent than before it
abbrev pub SendsOn : List Recorded → Recorded → Type 0
SendsOn es (own changes) = ⊤
SendsOn es (taken user at dones) = ⊤
SendsOn es (ddl statement) = ⊤
SendsOn es (sync user tables) = ⊤
SendsOn es (pass users only statement changes) = ⊤
SendsOn es (note user (Confirmed place)) = ⊤
SendsOn es (note user (Asked count place)) = ⊤
SendsOn es (note user Raised) = ⊤
SendsOn es (note user (Sent end messages confirm)) = (books_of user es).log_sent ≤ end.0

-- of what a history gives each user all that lies past what was confirmed or was sent to him, whichever is less, lies past a base
abbrev pub KeepsUnsent : Name → List Recorded → ℕ → Type 0
KeepsUnsent publisher es base = (user : Name) → AllByRecursion (IsKept base (min (books_of user es).confirm_sent (books_of user es).log_sent)) (given_of publisher es user)
