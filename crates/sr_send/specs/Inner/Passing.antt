-- Entries that a partner was sent, which a scanner passes over.
use Rattle.std.specs.Prelude.{◌≡◌, List, Option, None}
use Rattle.std.specs.List.{AllByRecursion}
use Rattle.sr_ast.specs.declared.stmt.Stmt.{Stmt}
use Rattle.sr_logform.specs.declared.entry.Entry.{Entry}
use Rattle.sr_scan.specs.Inner.Images.{catalog_after}
use Rattle.sr_scan.specs.Inner.Meanings.{texts_of, AreMeant}
use Rattle.sr_scan.specs.Inner.Scanners.{Scan}

-- no statement of an entry ran here
abbrev pub RunsNothing : Entry → Type 0
RunsNothing e = AllByRecursion (λ text. text ≡ None) (texts_of e)

-- the scanner goes on after an entry, whatever that gives: with the catalog after the entry's statements
pub record IsPassed (old : Scan) (e : Entry) (new : Scan) : Type 0 where
  pub meant : List (Option Stmt)
  pub are : AreMeant (texts_of e) meant
  pub catalog : new.catalog ≡ catalog_after old.catalog meant
  pub user : new.user ≡ old.user
