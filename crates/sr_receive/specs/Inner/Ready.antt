-- What a pass asks of the database and its site.
-- Here is what no contract of the program says by itself.
use Rattle.std.specs.Prelude.{◌≡◌, true, [], IsTrue}
use Rattle.sr_database.specs.InForce.{HasLogInForce}
use Rattle.sr_database.specs.Inner.Sound.{IsSound}
use Rattle.sr_database.specs.Views.{View}
use Rattle.sr_site.specs.Seen.{Seen}

-- the database can be used and has no pending change, it is sound, and its log is the one in force
pub record IsReady (view : View) (seen : Seen) : Type 0 where
  pub usable : view.log.usable ≡ true
  pub idle : view.pending ≡ []
  pub sound : IsSound view
  pub stands : IsTrue seen.observable → HasLogInForce view seen
