-- A scanner: a user, and the catalog behind what was read.
use Rattle.std.specs.Prelude.{◌≡◌, ℕ, List, [], ◌∷◌, Option, Some, None}
use Rattle.sr_ast.specs.declared.stmt.Stmt.{Stmt}
use Rattle.sr_base.specs.declared.offset.Offset.{Offset}
use Rattle.sr_logform.specs.declared.entry.Entry.{Entry}
use Rattle.sr_logform.specs.declared.op.Op.{Op}
use Rattle.sr_logform.specs.declared.op.Transaction.{Transaction}
use Rattle.sr_catalog_schema.specs.Catalogs.{Lists}
use Rattle.sr_scan.specs.Inner.Images.{told, catalog_behind, catalog_after}
use Rattle.sr_scan.specs.Inner.Meanings.{texts_of, IsMeant, AreMeant}

pub record Scan : Type 0 where
  pub catalog : Lists
  pub user : List ℕ

-- the transaction of ops; none where there are none
abbrev pub transaction_of : Offset → List Op → Option Transaction
transaction_of at [] = None
transaction_of at (op ∷ ops) = Some (record { at = at; ops = op ∷ ops })

-- what a scanner answers to an entry that ends at an offset, and what it goes on with: the catalog behind the entry's statements
pub record IsFed (old : Scan) (at : Offset) (e : Entry) (found : Option Transaction) (new : Scan) : Type 0 where
  pub meant : List (Option Stmt)
  pub are : AreMeant (texts_of e) meant
  pub gives : found ≡ transaction_of at (told old.catalog e meant old.user)
  pub catalog : new.catalog ≡ catalog_after old.catalog meant
  pub user : new.user ≡ old.user

-- a scanner goes on with the catalog behind the statement that a text is
pub record Follows (old : Scan) (text : List ℕ) (new : Scan) : Type 0 where
  pub meant : Option Stmt
  pub is : IsMeant (Some text) meant
  pub catalog : new.catalog ≡ catalog_behind old.catalog meant
  pub user : new.user ≡ old.user
