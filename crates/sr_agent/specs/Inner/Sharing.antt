-- Up to where a log was sent to partners.
use Rattle.std.specs.Prelude.{ℕ, ◌≤◌, List, IsSome}
use Rattle.std.specs.List.{AllByRecursion}
use Rattle.sr_catalog_schema.specs.Members.{user_name}
use Rattle.sr_catalog_schema.specs.Names.{named}
use Rattle.sr_database.specs.Views.{View}
use Rattle.sr_database_files.specs.Books.{book_in}
use Rattle.sr_agent.specs.declared.partner.Partner.{Partner}

-- to a partner it was sent up to an offset at least
abbrev pub IsSentUpTo : View → ℕ → Partner → Type 0
IsSentUpTo db at p = IsSome (named user_name p.user db.catalog.users) → at ≤ (book_in db.books p.user).log_sent

-- to those of all who are not left
abbrev pub SentUpToBut : View → ℕ → List Partner → List Partner → Type 0
SentUpToBut db at left all = (least : ℕ) → least ≤ at → AllByRecursion (IsSentUpTo db least) left → AllByRecursion (IsSentUpTo db least) all
