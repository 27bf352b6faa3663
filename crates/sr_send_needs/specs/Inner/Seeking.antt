-- The least need sought, one user after the other.
use Rattle.std.specs.Prelude.{◌≡◌, ◌≤◌, ℕ, max, min, map, List, IsTrue, IsSome}
use Rattle.std.specs.List.{AllByRecursion}
use Rattle.sr_base.specs.declared.offset.Offset.{Offset}
use Rattle.sr_book.specs.Entries.{Name}
use Rattle.sr_catalog_schema.specs.Members.{user_name}
use Rattle.sr_catalog_schema.specs.Names.{named}
use Rattle.sr_catalog_schema.specs.declared.user.User.{User}
use Rattle.sr_database.specs.Databases.{IsDatabase}
use Rattle.sr_database.specs.Views.{View}
use Rattle.sr_database_files.specs.Books.{book_in}
use Rattle.sr_database_files.specs.Inner.Openings.{ReadAlone}
use Rattle.sr_database_history.specs.Recorded.{Recorded}
use Rattle.sr_site.specs.Seen.{Seen}
use Rattle.sr_send_needs.specs.Needs.{least_from}

-- what a user has confirmed, or the base of the log where that lies past it
abbrev pub confirmed_by : View → Name → ℕ
confirmed_by db user = max db.log.base (book_in db.books user).confirm_sent

-- a user is granted, and what he has confirmed does not lie before an offset
pub record HasConfirmed (db : View) (at : ℕ) (u : User) : Type 0 where
  pub granted : IsSome (named user_name u.name db.catalog.users)
  pub confirmed : at ≤ confirmed_by db u.name

-- to those of all who are not left
abbrev pub ConfirmedButBy : View → ℕ → List User → List User → Type 0
ConfirmedButBy db at left all = (least : ℕ) → least ≤ at → AllByRecursion (HasConfirmed db least) left → AllByRecursion (HasConfirmed db least) all

-- of some users each is granted
abbrev pub AreGranted : View → List User → Type 0
AreGranted db users = AllByRecursion (λ u. IsSome (named user_name u.name db.catalog.users)) users

-- the least need of all users is that of an offset and of those who are left
pub record SoughtTo (db : View) (least : Offset) (left all : List User) (before now : Seen) : Type 0 where
  pub read : ReadAlone before now
  pub steady : now.disk_faults ≡ before.disk_faults
  pub from_base : db.log.base ≤ least.0
  pub within : least.0 ≤ db.log.end
  pub least_is : IsTrue before.observable → (publisher : Name) (es : List Recorded) → IsDatabase db publisher es before
      → min least.0 (least_from publisher es db.log.base (map user_name left)) ≡ least_from publisher es db.log.base (map user_name all)
