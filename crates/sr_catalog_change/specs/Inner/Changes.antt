-- What each statement does to a catalog, and which statements are refused.
-- Here is what no contract of the program says by itself.
use Rattle.std.specs.Prelude.{◌≡◌, Some, None, Result, Ok, Err}
use Rattle.sr_ast.specs.declared.stmt.Stmt.{Stmt}
use Rattle.sr_catalog_schema.specs.Catalogs.{Lists}
use Rattle.sr_catalog_schema.specs.declared.fault.DdlFault.{DdlFault}
use Rattle.sr_catalog_schema.specs.declared.fault.DdlFault.TheVariants.{Exists, Missing, BadType, NoKey, KeyNotInArticle, TwiceSubscribed, InUse, TooMany, Memory}
use Rattle.sr_catalog_change.specs.Changes.{refusal, next}

-- what `change` answers: the catalog after a statement that is not refused, or the fault that refuses it; want of memory is free
abbrev pub IsChange : Lists → Stmt → Result Lists DdlFault → Type 0
IsChange c s (Ok after) = (refusal c s ≡ None) × (after ≡ next c s)
IsChange c s (Err (Exists n)) = refusal c s ≡ Some (Exists n)
IsChange c s (Err (Missing n)) = refusal c s ≡ Some (Missing n)
IsChange c s (Err (BadType n)) = refusal c s ≡ Some (BadType n)
IsChange c s (Err (NoKey t)) = refusal c s ≡ Some (NoKey t)
IsChange c s (Err (KeyNotInArticle t n)) = refusal c s ≡ Some (KeyNotInArticle t n)
IsChange c s (Err (TwiceSubscribed u t)) = refusal c s ≡ Some (TwiceSubscribed u t)
IsChange c s (Err (InUse n)) = refusal c s ≡ Some (InUse n)
IsChange c s (Err (TooMany limit)) = refusal c s ≡ Some (TooMany limit)
IsChange c s (Err Memory) = Unit {0}
