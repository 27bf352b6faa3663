-- A database that stays open from one command to the next.
use Rattle.std.specs.Prelude.{◌≡◌, true, []}
use Rattle.sr_database.specs.InForce.{HasLogInForce}
use Rattle.sr_database.specs.Views.{View}
use Rattle.sr_site.specs.Seen.{Seen}

-- a database that is open: it can be used, nothing is pending, and it is what the site's files hold: its log is in force, and it is the database of each
-- history for which they stand
pub record IsKept (view : View) (seen : Seen) : Type 0 where
  pub usable : view.log.usable ≡ true
  pub pending : view.pending ≡ []
  pub has : HasLogInForce view seen
