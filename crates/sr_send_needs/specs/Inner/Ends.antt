-- Where a log may be begun anew.
use Rattle.std.specs.Prelude.{◌≡◌, ℕ, List, ◌++◌}
use Rattle.sr_database_history.specs.Folds.{end_of}
use Rattle.sr_database_history.specs.Recorded.{Recorded}

-- a place is the beginning of a history, or the end of one of its entries
pub record IsEndOf (es : List Recorded) (place : ℕ) : Type 0 where
  pub done : List Recorded
  pub left : List Recorded
  pub parts : es ≡ done ++ left
  pub place_is : place ≡ end_of done
