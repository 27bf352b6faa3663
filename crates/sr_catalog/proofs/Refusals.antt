-- What a refusal says.
use Rattle.std.proofs.Common.{◌≡◌, Some, Err}
use Rattle.sr_ast.specs.declared.stmt.Stmt.{Stmt}
use Rattle.sr_catalog_schema.specs.Catalogs.{Lists}
use Rattle.sr_catalog_change.specs.Changes.{refusal}
use Rattle.sr_catalog_change.specs.Inner.Changes.{IsChange}
use Rattle.sr_catalog_schema.specs.declared.fault.DdlFault.{DdlFault}
use Rattle.sr_catalog_schema.specs.declared.fault.DdlFault.TheVariants.{Exists, Missing, BadType, NoKey, KeyNotInArticle, TwiceSubscribed, InUse, TooMany, Memory}

-- the fault that refuses is what is answered
pub refused : (c : Lists) (s : Stmt) (f : DdlFault) → refusal c s ≡ Some f → IsChange c s (Err f)
refused c s (Exists n) h = h
refused c s (Missing n) h = h
refused c s (BadType n) h = h
refused c s (NoKey t) h = h
refused c s (KeyNotInArticle t n) h = h
refused c s (TwiceSubscribed u t) h = h
refused c s (InUse n) h = h
refused c s (TooMany limit) h = h
refused c s Memory h = tt
