-- How far a script came on its database.
use Rattle.std.specs.Prelude.{◌≡◌, true, List, ◌++◌, map, IsTrue}
use Rattle.sr_book.specs.Entries.{Name}
use Rattle.sr_database_history.specs.Recorded.{Recorded}
use Rattle.sr_site.specs.Causes.{DiskStays}
use Rattle.sr_site.specs.Seen.{Seen}
use Rattle.sr_database_meaning.specs.Events.{attaches_in, commit}
use Rattle.sr_database_meaning.specs.Traces.{Went}
use Rattle.sr_database.specs.Advances.{Advances}
use Rattle.sr_database.specs.Broken.{IsBroken}
use Rattle.sr_database.specs.Databases.{IsDatabase}
use Rattle.sr_database.specs.InForce.{HasLogInForce}
use Rattle.sr_database.specs.Rooms.{HaveRoom}
use Rattle.sr_database.specs.Views.{View}
use Rattle.sr_session_script.specs.Acts.{ScriptAct, entries_of, end_behind}

-- these acts were done, and then the commit of an entry was begun that the disk refused, if there is one: the value advanced by the acts' entries,
-- each of which has room, and its log is still in force; the database of a history is that of the history with these entries, and its site went
-- through their commits. Nothing was attached
pub record Reached (old new : View) (before now : Seen) (acts : List ScriptAct) (broken : List Recorded) : Type 0 where
  pub state : IsBroken broken new before now
  pub room : HaveRoom old.log.base old.log.end (entries_of acts)
  pub value : new.log.usable ≡ true → Advances old new (entries_of acts)
  pub end : new.log.usable ≡ true → new.log.end ≡ end_behind old.log.end acts
  pub in_force : IsTrue before.observable → new.log.usable ≡ true → HasLogInForce old before → HasLogInForce new now
  pub database : IsTrue before.observable → new.log.usable ≡ true → (publisher : Name) (es : List Recorded) → IsDatabase old publisher es before
      → IsDatabase new publisher (es ++ entries_of acts) now
  pub went : IsTrue before.observable → (publisher : Name) (es : List Recorded) → IsDatabase old publisher es before
      → Went before now publisher es (map commit (entries_of acts ++ broken))
  pub attached : IsTrue before.observable → attaches_in now.happened ≡ attaches_in before.happened
  pub stays : DiskStays before now
