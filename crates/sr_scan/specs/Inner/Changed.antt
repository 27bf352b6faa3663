-- The catalog behind texts.
use Rattle.std.specs.Prelude.{◌≡◌, ℕ, Bool, List, map, Option, Some, None}
use Rattle.sr_ast.specs.declared.stmt.Stmt.{Stmt}
use Rattle.sr_logform.specs.declared.entry.Entry.{Entry}
use Rattle.sr_logform.specs.declared.op.Op.{Op}
use Rattle.sr_logform.specs.declared.outcome.Outcome.{Outcome}
use Rattle.sr_catalog_schema.specs.Catalogs.{Lists}
use Rattle.sr_scan.specs.Inner.Images.{catalog_behind, catalog_after, ops_told, told}
use Rattle.sr_scan.specs.Inner.Meanings.{text_done, texts_of, IsMeant, AreMeant}

-- the catalog that is answered, or the one before where none is
abbrev pub or_before : Option Lists → Lists → Lists
or_before None before = before
or_before (Some after) before = after

-- the answer is the catalog behind the statement that the text is, if there is a text
pub record LeavesBehind (c : Lists) (text : Option (List ℕ)) (after : Option Lists) : Type 0 where
  pub meant : Option Stmt
  pub is : IsMeant text meant
  pub catalog : or_before after c ≡ catalog_behind c meant

-- the texts of ops that ran, with a place for each op
abbrev pub texts_done : List (Op × Outcome) → List (Option (List ℕ))
texts_done taken = map (λ p. text_done p.0 p.1) taken

-- the ops that taken ones give, and the catalog behind them, if it changes
pub record AreTaken (is_origin : Bool) (c : Lists) (user : List ℕ) (taken : List (Op × Outcome)) (ops : List Op) (behind : Option Lists) : Type 0 where
  pub meant : List (Option Stmt)
  pub are : AreMeant (texts_done taken) meant
  pub gives : ops ≡ ops_told is_origin c user taken meant
  pub catalog : or_before behind c ≡ catalog_after c meant

-- the ops that an entry gives, and the catalog behind it, if it changes
pub record IsTold (c : Lists) (e : Entry) (user : List ℕ) (ops : List Op) (behind : Option Lists) : Type 0 where
  pub meant : List (Option Stmt)
  pub are : AreMeant (texts_of e) meant
  pub gives : ops ≡ told c e meant user
  pub catalog : or_before behind c ≡ catalog_after c meant
