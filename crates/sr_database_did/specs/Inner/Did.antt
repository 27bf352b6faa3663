-- What was done to a database on its site: one relation for all that does something to it.
-- Here is what no contract of the program says by itself.
use Rattle.std.specs.Prelude.{◌≡◌, true, List, [], ◌∷◌, ◌++◌, Result, Ok, Err, IsTrue}
use Rattle.sr_base.specs.declared.offset.Offset.{Offset}
use Rattle.sr_book.specs.Entries.{Name}
use Rattle.sr_database.specs.Broken.{IsBroken}
use Rattle.sr_database.specs.Causes.{IsTooFar, IsTooLong}
use Rattle.sr_database.specs.Advances.{Advances}
use Rattle.sr_database.specs.Databases.{IsDatabase}
use Rattle.sr_database.specs.InForce.{HasLogInForce}
use Rattle.sr_database.specs.Rooms.{HaveRoom}
use Rattle.sr_database.specs.Views.{View}
use Rattle.sr_database_files.specs.declared.fault.DatabaseFault.{DatabaseFault}
use Rattle.sr_database_files.specs.declared.fault.DatabaseFault.TheVariants.{Missing, Exists, Damaged, Disk, Full, Long, Memory}
use Rattle.sr_database_history.specs.Recorded.{Recorded, entry_of}
use Rattle.sr_database_meaning.specs.Traces.{Went}
use Rattle.sr_site.specs.Causes.{Rose, Stays}
use Rattle.sr_site.specs.Happenings.{mail_in}
use Rattle.sr_site.specs.Seen.{Seen}
use Rattle.sr_database_did.specs.Inner.Effects.{Effect, entered, End, whole, refused, failed, full, long, short, entries, mail_behind, trace, under_way, broken, begun}

-- a database on its site, as contracts see them
pub record PlaceView : Type 0 where
  pub db : View
  pub seen : Seen

-- whether the mail's count of faults rose; and an entry that has no room, or is too long, is as its limits say
abbrev pub HasCause : End → View → Seen → Seen → Type 0
HasCause whole db before now = now.mail_faults ≡ before.mail_faults
HasCause (refused r) db before now = now.mail_faults ≡ before.mail_faults
HasCause (failed hs) db before now = Rose before.mail_faults now.mail_faults
HasCause (full r end need) db before now = IsTooFar db.log (entry_of r) end need × (now.mail_faults ≡ before.mail_faults)
HasCause (long r size limit) db before now = IsTooLong (entry_of r) size limit × (now.mail_faults ≡ before.mail_faults)
HasCause (short hs) db before now = now.mail_faults ≡ before.mail_faults

-- where the site tells: the database is that of the history with the entries, and its files went through the events
pub record DidTold (a b : PlaceView) (publisher : Name) (es : List Recorded) (effects : List Effect) (end : End) : Type 0 where
  pub database : b.db.log.usable ≡ true → IsDatabase b.db publisher (es ++ entries effects) b.seen
  pub went : Went a.seen b.seen publisher es (trace effects ++ begun end)

-- between two places these effects were done, one behind the other, and then it ended so; just these calls of the mail were made
pub record Did (a b : PlaceView) (effects : List Effect) (end : End) : Type 0 where
  pub stays : Stays a.seen b.seen
  pub state : IsBroken (broken end) b.db a.seen b.seen
  pub cause : HasCause end b.db a.seen b.seen
  pub pending : a.db.pending ≡ [] → b.db.pending ≡ []
  pub room : HaveRoom a.db.log.base a.db.log.end (entries effects)
  pub value : b.db.log.usable ≡ true → Advances a.db b.db (entries effects)
  pub in_force : IsTrue a.seen.observable → b.db.log.usable ≡ true → HasLogInForce a.db a.seen → HasLogInForce b.db b.seen
  pub mail : IsTrue a.seen.observable → mail_in b.seen.happened ≡ under_way end ++ mail_behind effects (mail_in a.seen.happened)
  pub told : IsTrue a.seen.observable → (publisher : Name) (es : List Recorded) → IsDatabase a.db publisher es a.seen → DidTold a b publisher es effects end

-- the commit of an entry was asked for
abbrev pub Commits : PlaceView → PlaceView → Recorded → Result Offset DatabaseFault → Type 0
Commits a b r (Ok offset) = Did a b (entered r ∷ []) whole
Commits a b r (Err Missing) = ⊥
Commits a b r (Err Exists) = ⊥
Commits a b r (Err (Damaged file at)) = ⊥
Commits a b r (Err Disk) = Did a b [] (refused r)
Commits a b r (Err (Full end need)) = Did a b [] (full r end need)
Commits a b r (Err (Long size limit)) = Did a b [] (long r size limit)
Commits a b r (Err Memory) = Did a b [] (short [])
