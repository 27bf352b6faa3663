use Rattle.std.proofs.Common.{◌≡◌, ◌++◌, length}
use Rattle.sr_session_script.proofs.Listings.{rows_text}
use Rattle.sr_session_script.proofs.lines.listing_text.Given as goal

-- the lines of all rows are those that were written, and those of the rows that are left
abbrev pub invariant-rows : goal.invariant-rows
invariant-rows l = l.text.items ++ rows_text l.left ≡ rows_text l.rows

abbrev pub decreases-rows : goal.decreases-rows
decreases-rows l = length l.left
