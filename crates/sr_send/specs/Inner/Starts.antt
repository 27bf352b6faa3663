-- Where a log is read on from: at the catalog that it comes to, after what need not be read, if no statement ran from there on.
use Rattle.std.specs.Prelude.{◌≡◌, ◌⊎◌, ◌≤◌, ℕ, max, List, [], ◌∷◌, ◌++◌, IsTrue}
use Rattle.sr_base.specs.declared.offset.Offset.{Offset}
use Rattle.sr_book.specs.Entries.{Name}
use Rattle.sr_database.specs.Databases.{IsDatabase}
use Rattle.sr_database.specs.Views.{View}
use Rattle.sr_database_history.specs.Folds.{state_of, end_of}
use Rattle.sr_database_history.specs.Recorded.{Recorded, entry_of}
use Rattle.sr_scan.specs.Inner.Scanners.{Scan}
use Rattle.sr_site.specs.Seen.{Seen}
use Rattle.sr_send.specs.Inner.Passing.{RunsNothing}
use Rattle.sr_send.specs.Posting.{IsSteady}
use Rattle.sr_send.specs.Inner.Posting.{Posted, EndsAtPut}
use Rattle.sr_send.specs.Inner.Steps.{HasRead}
use Rattle.sr_send.specs.Inner.Stops.{StopFault}
use Rattle.sr_send.specs.declared.aim.Aim.{Aim}
use Rattle.sr_send.specs.declared.fault.SendFault.{SendFault}

-- entries of a history end at an offset, which does not lie past another
pub record IsPartAt (es : List Recorded) (sent : ℕ) (at : Offset) : Type 0 where
  pub done : List Recorded
  pub left : List Recorded
  pub parts : es ≡ done ++ left
  pub at_is : at.0 ≡ end_of done
  pub before : at.0 ≤ sent

-- the ends of a log's entries were read up to an offset, which does not lie past another, but where that lies before the base
pub record Walked (db : View) (sent : ℕ) (at : Offset) (before now : Seen) : Type 0 where
  pub posted : Posted before now []
  pub steady : IsSteady before now
  pub from_base : db.log.base ≤ at.0
  pub within : at.0 ≤ db.log.end
  pub part : IsTrue before.observable → (publisher : Name) (es : List Recorded) → IsDatabase db publisher es before → IsPartAt es (max db.log.base sent) at

-- the first of the entries that are left ends here, and no statement of it ran
pub record IsStillEnd (done left : List Recorded) (end : Offset) : Type 0 where
  pub r : Recorded
  pub rest : List Recorded
  pub left_is : left ≡ r ∷ rest
  pub end_is : end.0 ≡ end_of (done ++ r ∷ [])
  pub nothing : RunsNothing (entry_of r)

-- no statement of an entry of this kind runs: an Own, a Sync or a Note
abbrev pub IsStillKind : ℕ → Type 0
IsStillKind kind = (kind ≡ 1) ⊎ (kind ≡ 4) ⊎ (kind ≡ 6)

-- of the entries that are left those up to an offset leave the catalog as it is
pub record IsStillTo (publisher : Name) (done left : List Recorded) (at : Offset) : Type 0 where
  pub more : List Recorded
  pub rest : List Recorded
  pub parts : left ≡ more ++ rest
  pub at_is : at.0 ≡ end_of (done ++ more)
  pub catalog : (state_of publisher (done ++ more)).catalog ≡ (state_of publisher done).catalog

-- the entries from one offset to another were read
pub record Looked (db : View) (from at : Offset) (before now : Seen) : Type 0 where
  pub posted : Posted before now []
  pub steady : IsSteady before now
  pub from_base : db.log.base ≤ at.0
  pub within : at.0 ≤ db.log.end
  pub still : IsTrue before.observable → (publisher : Name) (done left : List Recorded) → IsDatabase db publisher (done ++ left) before → from.0 ≡ end_of done → IsStillTo publisher done left at

-- the catalog that the log comes to is the one at the offset
abbrev pub IsStill : View → Offset → Seen → Type 0
IsStill db from seen = IsTrue seen.observable → (publisher : Name) (done left : List Recorded) → IsDatabase db publisher (done ++ left) seen → from.0 ≡ end_of done → db.catalog ≡ (state_of publisher done).catalog

-- a scanner may read a log on from an offset: what lies before that was sent
pub record Begun (db : View) (aim : Aim) (scan : Scan) (after : Offset) (before now : Seen) : Type 0 where
  pub posted : Posted before now []
  pub steady : IsSteady before now
  pub from_base : db.log.base ≤ after.0
  pub within : after.0 ≤ db.log.end
  pub read : IsTrue before.observable → (publisher : Name) (es : List Recorded) → IsDatabase db publisher es before → HasRead db.log.base publisher es scan.user aim.prev.0 after scan []

-- it ended before anything was put
pub record BeginStop (before now : Seen) (fault : SendFault) : Type 0 where
  pub posted : Posted before now []
  pub cause : StopFault before now [] fault
  pub ends : EndsAtPut before now
