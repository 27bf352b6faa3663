-- The need of a user sought among the places that a survey lists for him.
use Rattle.std.specs.Prelude.{◌≡◌, ◌≤◌, ⊤, ℕ, Bool, cond, nat_lt, min, List, [], Option, Some, None, IsTrue}
use Rattle.sr_ast.specs.declared.stmt.Stmt.{Stmt}
use Rattle.sr_base.specs.declared.offset.Offset.{Offset}
use Rattle.sr_book.specs.Entries.{Name}
use Rattle.sr_catalog_schema.specs.Catalogs.{Lists}
use Rattle.sr_database.specs.Databases.{IsDatabase}
use Rattle.sr_database.specs.Views.{View}
use Rattle.sr_database_files.specs.Inner.Openings.{ReadAlone}
use Rattle.sr_database_history.specs.Folds.{fresh}
use Rattle.sr_database_history.specs.Recorded.{Recorded, entry_of}
use Rattle.sr_logform.specs.declared.entry.Entry.{Entry}
use Rattle.sr_scan.specs.Inner.Images.{told}
use Rattle.sr_scan.specs.Inner.Meanings.{texts_of, AreMeant}
use Rattle.sr_send.specs.Inner.Places.{HasReached}
use Rattle.sr_send.specs.Inner.Surveys.{CanTell}
use Rattle.sr_send_needs.specs.Needs.{any_ops, end_before}
use Rattle.sr_send_needs.specs.declared.way.Way.{Way}
use Rattle.sr_send_needs.specs.declared.way.Way.TheVariants.{Nothing, Places, Log}
use Rattle.sr_site.specs.Seen.{Seen}
use Rattle.sr_survey.specs.Inner.Surveyed.{IsNext, IsPlace}
use Rattle.sr_survey.specs.declared.survey.Survey.{Survey}
use Rattle.sr_survey_places.specs.declared.place.Place.{Place}

-- the lesser of a limit and the place before the first entry that gives a user something past an offset
abbrev pub IsLesser : View → Name → ℕ → ℕ → Seen → Offset → Type 0
IsLesser db user sent limit seen least = IsTrue seen.observable → (publisher : Name) (es : List Recorded) → IsDatabase db publisher es seen → least.0 ≡ min limit (end_before sent (fresh publisher) 0 es user)

-- a place, if there is one and it begins before a limit
abbrev pub place_within : ℕ → Option Place → Option Place
place_within limit None = None
place_within limit (Some place) = cond (nat_lt place.start limit) (Some place) None

-- the first place that is listed for a user and ends past an offset, if it begins before a limit
pub record IsNextWithin (s : Survey) (user : Name) (at limit : ℕ) (found : Option Place) : Type 0 where
  pub first : Option Place
  pub next : IsNext s user at first
  pub found_is : found ≡ place_within limit first

-- a survey that begins no later than an offset lists nothing for a user past it that begins before a limit
pub record ListsNoneWithin (s : Survey) (user : Name) (sent limit : ℕ) : Type 0 where
  pub kept : s.given_up ≡ None
  pub begun : s.begin ≤ sent
  pub next : IsNextWithin s user sent limit None

-- why his need is sought so up to the limit: nothing is listed for him before that, or the survey tells what is given him. The log tells it whatever the survey is
abbrev pub IsWay : Survey → Name → ℕ → ℕ → Way → Type 0
IsWay s user sent limit Nothing = ListsNoneWithin s user sent limit
IsWay s user sent limit Places = CanTell s user sent
IsWay s user sent limit Log = ⊤

-- whether an entry gives a user something by a catalog
pub record IsAnyBy (c : Lists) (e : Entry) (user : Name) (any : Bool) : Type 0 where
  pub meant : List (Option Stmt)
  pub are : AreMeant (texts_of e) meant
  pub any_is : any ≡ any_ops (told c e meant user)

-- whether the entry at a place of a history does by the catalog of a survey
pub record IsAnyAt (es : List Recorded) (s : Survey) (user : Name) (place : Place) (any : Bool) : Type 0 where
  pub there : IsPlace es place
  pub by : IsAnyBy s.catalog (entry_of there.entry) user any

-- of the history that the database is of
abbrev pub FindsAt : View → Survey → Name → Place → Seen → Bool → Type 0
FindsAt db s user place seen any = IsTrue seen.observable → (publisher : Name) (es : List Recorded) → IsDatabase db publisher es seen → IsAnyAt es s user place any

-- the places of a survey up to an offset were looked at, and none gives the user something past another
pub record LookedAmong (db : View) (s : Survey) (user : Name) (sent at : ℕ) (before now : Seen) : Type 0 where
  pub read : ReadAlone before now
  pub steady : now.disk_faults ≡ before.disk_faults
  pub past : sent ≤ at
  pub reached : IsTrue before.observable → (publisher : Name) (es : List Recorded) → IsDatabase db publisher es before → HasReached publisher es user s.begin sent at []
