-- What the histories of two databases that are partners have of each other.
use Rattle.std.specs.Prelude.{◌≡◌, ◌≤◌, ℕ, List, ◌++◌}
use Rattle.sr_book.specs.Entries.{Name}
use Rattle.sr_book.specs.Histories.{taken as taken_from, taken_end}
use Rattle.sr_database_history.specs.Folds.{books_of, sees}
use Rattle.sr_database_history.specs.Recorded.{Recorded}
use Rattle.sr_logform.specs.declared.op.Op.{Op}
use Rattle.sr_scan.specs.Given.{given_of}
use Rattle.sr_site.specs.Files.{Files}
use Rattle.sr_database_meaning.specs.Standing.{StandsAs}

-- what a database took from a user is a beginning of what the user's log gives it: in commit order, and each once. And what it has as confirmed by
-- the user, the user took
pub record IsInStep (publisher user : Name) (es us : List Recorded) : Type 0 where
  pub rest : List (ℕ × List Op)
  pub beginning : given_of user us publisher ≡ taken_from sees user es ++ rest
  pub confirmed : (books_of user es).confirm_sent ≤ taken_end sees publisher us

-- so it is on both sides
pub record ArePartners (publisher user : Name) (es us : List Recorded) : Type 0 where
  pub took : IsInStep publisher user es us
  pub gave : IsInStep user publisher us es

-- files stand for a history of this database that goes so with its partner's
pub record StandInStep (publisher user : Name) (us : List Recorded) (files : Files) : Type 0 where
  pub es : List Recorded
  pub stands : StandsAs publisher es files
  pub partners : ArePartners publisher user es us
