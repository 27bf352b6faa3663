-- Catalogs show a user the same over statements that do not touch him.
use Rattle.std.proofs.Common.{◌≡◌, Bool, true, false, ◌||◌, List, [], ◌∷◌, Option, Some, None, refl, ◌∙◌}
use Rattle.sr_ast.specs.declared.stmt.Stmt.{Stmt}
use Rattle.sr_ast.specs.declared.stmt.Stmt.TheVariants as stmt
use Rattle.sr_book.specs.Entries.{Name}
use Rattle.sr_catalog_change.specs.Changes.{refusal, next}
use Rattle.sr_catalog_schema.specs.Catalogs.{Lists}
use Rattle.sr_catalog_schema.specs.declared.fault.DdlFault.{DdlFault}
use Rattle.sr_publish.specs.SubscribedTables.{subscribed_table_of}
use Rattle.sr_scan.specs.Inner.Images.{unless_refused, catalog_behind, catalog_after}
use Rattle.sr_survey.proofs.Alike.{created, granted_below, granted_above, started, stopped, dropped}
use Rattle.sr_survey.specs.Inner.Alike.{ShowsAlike, touches, touched}

pub alike_itself : (c : Lists) (user : Name) → ShowsAlike c c user
alike_itself c user = record { shares = λ table. refl; tables = λ table. refl }

pub alike_on : (c d e : Lists) (user : Name) → ShowsAlike c d user → ShowsAlike d e user → ShowsAlike c e user
alike_on c d e user first second = record { shares = λ table. second.shares table ∙ first.shares table; tables = λ table. second.tables table ∙ first.tables table }

untouched : (c : Lists) (s : Stmt) (user : Name) → touches user s ≡ false → ShowsAlike c (next c s) user
unfolding next subscribed_table_of
untouched c (stmt.CreateTable t) user e = cc
untouched c (stmt.DropTable name) user e = cc
untouched c (stmt.CreatePublication p) user e = cc
untouched c (stmt.DropPublication name) user e = cc
untouched c (stmt.GrantRemote g) user e = granted_below c g user
untouched c (stmt.GrantConsolidate g) user e = granted_above c g user e
untouched c (stmt.CreateSubscription r) user e = created c r user
untouched c (stmt.StartSubscription r) user e = started c r user e
untouched c (stmt.StopSubscription r) user e = stopped c r user e
untouched c (stmt.Synchronize r) user e = alike_itself c user
untouched c (stmt.DropSubscription r) user e = dropped c r user e
untouched c (stmt.CreateTrigger t) user e = record { shares = λ table. refl; tables = λ table. refl }
untouched c (stmt.DropTrigger name) user e = record { shares = λ table. refl; tables = λ table. refl }
untouched c (stmt.SetOption o) user e = cc
untouched c (stmt.Dml d) user e = alike_itself c user
untouched c (stmt.Select q) user e = alike_itself c user
untouched c stmt.Commit user e = alike_itself c user
untouched c stmt.Rollback user e = alike_itself c user
untouched c (stmt.Passthrough p) user e = alike_itself c user
untouched c stmt.PassthroughStop user e = alike_itself c user

refused_alike : (o : Option DdlFault) (c d : Lists) (user : Name) → ShowsAlike c d user → ShowsAlike c (unless_refused o c d) user
refused_alike None c d user alike = alike
refused_alike (Some fault) c d user alike = alike_itself c user

or_first : (a b : Bool) → (a || b) ≡ false → a ≡ false
or_first true b e = e
or_first false b e = refl

or_second : (a b : Bool) → (a || b) ≡ false → b ≡ false
or_second true b e = cc
or_second false b e = e

pub after_alike : (c : Lists) (meant : List (Option Stmt)) (user : Name) → touched user meant ≡ false → ShowsAlike c (catalog_after c meant) user
after_alike c [] user e = alike_itself c user
after_alike c (None ∷ meant) user e = after_alike c meant user e
after_alike c (Some s ∷ meant) user e =
    alike_on c (catalog_behind c (Some s)) (catalog_after (catalog_behind c (Some s)) meant) user
    (refused_alike (refusal c s) c (next c s) user (untouched c s user (or_first (touches user s) (touched user meant) e)))
    (after_alike (catalog_behind c (Some s)) meant user (or_second (touches user s) (touched user meant) e))
