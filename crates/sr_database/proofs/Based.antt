-- Where the log of a database begins.
use Rattle.std.proofs.Common.{ℕ, ◌≤◌, List, ap, arith}
use Rattle.sr_book.specs.Entries.{Name}
use Rattle.sr_database_history.specs.Folds.{end_of}
use Rattle.sr_database_history.specs.Recorded.{Recorded}
use Rattle.sr_database_history.proofs.Joined.{end_from-append, le-end_from}
use Rattle.sr_catalog_schema.specs.Catalogs.{Lists}
use Rattle.sr_database.specs.Databases.{IsBased}

-- it is in front of the end
pub base_within : (base : ℕ) (catalog : Lists) (publisher : Name) (es : List Recorded) → IsBased base catalog publisher es → base ≤ end_of es
base_within base catalog publisher es is = omega (arith, is.base_is, ap end_of is.parts, end_from-append 0 is.done is.left, le-end_from (end_of is.done) is.left)
