-- A log of which the entries are read that a survey lists for a user, and what they give is put as messages.
use Rattle.std.specs.Prelude.{◌≡◌, ◌⊎◌, ◌≤◌, ℕ, List, [], ◌++◌, Option, Some, None, IsTrue}
use Rattle.std.specs.List.{AllByRecursion}
use Rattle.sr_ast.specs.declared.stmt.Stmt.{Stmt}
use Rattle.sr_base.specs.Values.{offset_from}
use Rattle.sr_base.specs.declared.offset.Offset.{Offset}
use Rattle.sr_book.specs.Entries.{Name}
use Rattle.sr_catalog_schema.specs.Catalogs.{Lists}
use Rattle.sr_database.specs.Databases.{IsDatabase}
use Rattle.sr_database.specs.Views.{View}
use Rattle.sr_database_history.specs.Folds.{end_of}
use Rattle.sr_database_history.specs.Recorded.{Recorded, entry_of}
use Rattle.sr_logform.specs.declared.entry.Entry.{Entry}
use Rattle.sr_logform.specs.declared.op.Transaction.{Transaction}
use Rattle.sr_msgform.specs.Messages.{IsMessage}
use Rattle.sr_msgform.specs.declared.message.Message.{Message}
use Rattle.sr_scan.specs.Inner.Images.{told}
use Rattle.sr_scan.specs.Inner.Meanings.{texts_of, AreMeant}
use Rattle.sr_scan.specs.Inner.Scanners.{transaction_of}
use Rattle.sr_site.specs.Seen.{Seen}
use Rattle.sr_survey.specs.Inner.Surveyed.{IsNext, IsPlace}
use Rattle.sr_survey.specs.declared.survey.Survey.{Survey}
use Rattle.sr_survey_places.specs.declared.place.Place.{Place}
use Rattle.sr_send.specs.Inner.Aims.{HasMade}
use Rattle.sr_send.specs.PutFiles.{put_files}
use Rattle.sr_send.specs.Posting.{IsSteady}
use Rattle.sr_send.specs.Inner.Posting.{Posted}
use Rattle.sr_send.specs.Inner.Steps.{newer, IsBehind, Pushed}
use Rattle.sr_send.specs.Inner.Stops.{PushStop}
use Rattle.sr_send.specs.Unsent.{unsent}
use Rattle.sr_send.specs.declared.aim.Aim.{Aim}
use Rattle.sr_send.specs.declared.fault.SendFault.{SendFault}
use Rattle.sr_send.specs.declared.post.Post.{Post}

-- what an entry gives a user by a catalog, as a transaction that ends at an offset
pub record IsToldBy (c : Lists) (e : Entry) (user : Name) (end : Offset) (found : Option Transaction) : Type 0 where
  pub meant : List (Option Stmt)
  pub are : AreMeant (texts_of e) meant
  pub gives : found ≡ transaction_of end (told c e meant user)

-- what the entry at a place of a history gives a user by the catalog of a survey
pub record IsToldAt (es : List Recorded) (s : Survey) (user : Name) (place : Place) (found : Option Transaction) : Type 0 where
  pub there : IsPlace es place
  pub by : IsToldBy s.catalog (entry_of there.entry) user (offset_from place.end) found

-- what was found at a place is what the entry there gives
abbrev pub FoundAt : View → Survey → Name → Place → Seen → Option Transaction → Type 0
FoundAt db s user place before found = IsTrue before.observable → (publisher : Name) (es : List Recorded) → IsDatabase db publisher es before → IsToldAt es s user place found

-- a place is one of the database's history, and does not begin before its log
abbrev pub IsPlaceOf : View → Place → Seen → Type 0
IsPlaceOf db place seen = IsTrue seen.observable → (publisher : Name) (es : List Recorded) → IsDatabase db publisher es seen → IsPlace es place × (db.log.base ≤ place.start)

-- a user was told what the history gives him up to an offset: what is unsent of its first entries, and none that is lies between these and the offset
pub record HasReached (publisher : Name) (es : List Recorded) (user : Name) (begin sent at : ℕ) (pushed : List Transaction) : Type 0 where
  pub done : List Recorded
  pub left : List Recorded
  pub parts : es ≡ done ++ left
  pub begun : begin ≤ end_of done
  pub before : end_of done ≤ at
  pub behind : IsBehind sent (end_of done) at
  pub pushed_are : pushed ≡ unsent publisher done user sent

-- the places of a survey are being told, up to an offset
pub record Telling (db : View) (aim : Aim) (s : Survey) (user : Name) (post : Post) (at : Offset) (before now : Seen) : Type 0 where
  pub pushed : List Transaction
  pub messages : List Message
  pub made : HasMade aim post pushed messages
  pub posted : Posted before now (put_files aim.address aim.count messages)
  pub spelled : AllByRecursion IsMessage messages
  pub steady : IsSteady before now
  pub past : aim.prev.0 ≤ at.0
  pub ends : post.end.0 ≤ at.0
  pub reached : IsTrue before.observable → (publisher : Name) (es : List Recorded) → IsDatabase db publisher es before → HasReached publisher es user s.begin aim.prev.0 at.0 pushed

-- a place was told, and what its entry gives was pushed
pub record PutPlace (db : View) (aim : Aim) (s : Survey) (user : Name) (old new : Post) (place : Place) (before now : Seen) : Type 0 where
  pub found : Option Transaction
  pub told : FoundAt db s user place before found
  pub pushed : Pushed aim old new before now (newer aim.prev.0 found)
  pub ends : new.end.0 ≤ place.end

-- what is added is what the entry at a place gives
pub record AddedAt (db : View) (s : Survey) (user : Name) (place : Place) (sent : ℕ) (before : Seen) (added : List Transaction) : Type 0 where
  pub found : Option Transaction
  pub told : FoundAt db s user place before found
  pub added_is : added ≡ newer sent found

-- it ended at a place: before its entry gave anything, or after
pub record PlaceStop (db : View) (aim : Aim) (s : Survey) (user : Name) (old : Post) (place : Place) (before now : Seen) (fault : SendFault) : Type 0 where
  pub added : List Transaction
  pub found : (added ≡ []) ⊎ AddedAt db s user place aim.prev.0 before added
  pub stop : PushStop aim old before now added fault

-- the next place was told
pub record ToldNext (db : View) (aim : Aim) (s : Survey) (user : Name) (old new : Post) (at end : Offset) (before now : Seen) : Type 0 where
  pub place : Place
  pub next : IsNext s user at.0 (Some place)
  pub end_is : end.0 ≡ place.end
  pub put : PutPlace db aim s user old new place before now

-- there is none
pub record NoneNext (s : Survey) (user : Name) (old new : Post) (at : Offset) (before now : Seen) : Type 0 where
  pub same : new ≡ old
  pub next : IsNext s user at.0 None
  pub posted : Posted before now []
  pub steady : IsSteady before now

-- a step: to the end of the next place, or there is none
abbrev pub WentOn : View → Aim → Survey → Name → Post → Post → Offset → Seen → Seen → Option Offset → Type 0
WentOn db aim s user old new at before now None = NoneNext s user old new at before now
WentOn db aim s user old new at before now (Some end) = ToldNext db aim s user old new at end before now

-- what is added is what the entry at the next place gives
pub record AddedNext (db : View) (s : Survey) (user : Name) (at sent : ℕ) (before : Seen) (added : List Transaction) : Type 0 where
  pub place : Place
  pub next : IsNext s user at (Some place)
  pub what : AddedAt db s user place sent before added

-- it ended at the next place, or before it was known
pub record NextStop (db : View) (aim : Aim) (s : Survey) (user : Name) (old : Post) (at : Offset) (before now : Seen) (fault : SendFault) : Type 0 where
  pub added : List Transaction
  pub found : (added ≡ []) ⊎ AddedNext db s user at.0 aim.prev.0 before added
  pub stop : PushStop aim old before now added fault
