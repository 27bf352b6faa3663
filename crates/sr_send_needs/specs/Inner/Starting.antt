-- Where the log is read on from: at the catalog that it comes to, after what need not be read, if no statement ran from there on.
use Rattle.std.specs.Prelude.{◌≡◌, ◌≤◌, ℕ, Bool, true, false, List, ◌++◌, IsTrue}
use Rattle.sr_base.specs.declared.offset.Offset.{Offset}
use Rattle.sr_book.specs.Entries.{Name}
use Rattle.sr_catalog_schema.specs.Catalogs.{Lists}
use Rattle.sr_database.specs.Databases.{IsDatabase}
use Rattle.sr_database.specs.Views.{View}
use Rattle.sr_database_files.specs.Inner.Openings.{ReadAlone}
use Rattle.sr_database_history.specs.Folds.{state_of, end_of}
use Rattle.sr_database_history.specs.Recorded.{Recorded}
use Rattle.sr_send.specs.Inner.Starts.{IsPartAt, IsStillTo}
use Rattle.sr_send_needs.specs.declared.start.Start.{Start}
use Rattle.sr_site.specs.Seen.{Seen}

-- the ends of a log's entries were read up to an offset, which does not lie past another
pub record WalkedTo (db : View) (sent : ℕ) (at : Offset) (before now : Seen) : Type 0 where
  pub read : ReadAlone before now
  pub steady : now.disk_faults ≡ before.disk_faults
  pub from_base : db.log.base ≤ at.0
  pub within : at.0 ≤ db.log.end
  pub before_sent : at.0 ≤ sent
  pub part : IsTrue before.observable → (publisher : Name) (es : List Recorded) → IsDatabase db publisher es before → IsPartAt es sent at

-- the entries from one offset to another were read, and leave the catalog as it is
pub record LookedTo (db : View) (from at : Offset) (before now : Seen) : Type 0 where
  pub read : ReadAlone before now
  pub steady : now.disk_faults ≡ before.disk_faults
  pub from_base : db.log.base ≤ at.0
  pub within : at.0 ≤ db.log.end
  pub still : IsTrue before.observable → (publisher : Name) (done left : List Recorded) → IsDatabase db publisher (done ++ left) before → from.0 ≡ end_of done → IsStillTo publisher done left at

-- the catalog at the base of the log, or the one that it comes to
abbrev pub catalog_in : View → Bool → Lists
catalog_in db true = db.catalog
catalog_in db false = db.base_catalog

-- entries of a history end at an offset, and this catalog is what they come to
pub record ComesTo (publisher : Name) (es : List Recorded) (at : Offset) (catalog : Lists) : Type 0 where
  pub done : List Recorded
  pub left : List Recorded
  pub parts : es ≡ done ++ left
  pub at_is : at.0 ≡ end_of done
  pub catalog_is : catalog ≡ (state_of publisher done).catalog

-- the log may be read on from here
pub record IsStart (db : View) (start : Start) (seen : Seen) : Type 0 where
  pub from_base : db.log.base ≤ start.at.0
  pub within : start.at.0 ≤ db.log.end
  pub there : IsTrue seen.observable → (publisher : Name) (es : List Recorded) → IsDatabase db publisher es seen → ComesTo publisher es start.at (catalog_in db start.is_now)
