-- Entries that a pass commits, one after the other.
use Rattle.std.specs.Prelude.{◌≡◌, true, List, [], ◌++◌, map, IsTrue}
use Rattle.sr_book.specs.Entries.{Name}
use Rattle.sr_database_history.specs.Recorded.{Recorded}
use Rattle.sr_site.specs.Causes.{Stays}
use Rattle.sr_site.specs.Seen.{Seen}
use Rattle.sr_database_meaning.specs.Events.{commit}
use Rattle.sr_database_meaning.specs.Traces.{Went}
use Rattle.sr_database.specs.Broken.{IsBroken}
use Rattle.sr_database.specs.Advances.{Advances}
use Rattle.sr_database.specs.Databases.{IsDatabase}
use Rattle.sr_database.specs.InForce.{HasLogInForce}
use Rattle.sr_database.specs.Rooms.{HaveRoom}
use Rattle.sr_database.specs.Views.{View}

-- these entries were committed, and then the commit of one was begun that the disk refused, if there is one: the value advanced by the entries, each
-- of which has room, and its log is still in force; the database of a history is that of the history with the entries, and its site went through
-- their commits
pub record Reached (old new : View) (before now : Seen) (entries broken : List Recorded) : Type 0 where
  pub state : IsBroken broken new before now
  pub idle : new.pending ≡ []
  pub room : HaveRoom old.log.base old.log.end entries
  pub value : new.log.usable ≡ true → Advances old new entries
  pub in_force : IsTrue before.observable → new.log.usable ≡ true → HasLogInForce old before → HasLogInForce new now
  pub database : IsTrue before.observable → new.log.usable ≡ true → (publisher : Name) (es : List Recorded) → IsDatabase old publisher es before
      → IsDatabase new publisher (es ++ entries) now
  pub went : IsTrue before.observable → (publisher : Name) (es : List Recorded) → IsDatabase old publisher es before
      → Went before now publisher es (map commit (entries ++ broken))
  pub stays : Stays before now
