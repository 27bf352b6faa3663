-- The catalog behind a text.
use Rattle.std.proofs.Common.{◌≡◌, ℕ, true, false, List, Option, Some, None, is_some, Result, Ok, Err, IfSome, IfOk, refl, sym, ap, ◌∙◌}
use Rattle.sr_ast.specs.Statements.{is_ddl}
use Rattle.sr_ast.specs.declared.stmt.Stmt.{Stmt}
use Rattle.sr_ast.specs.declared.stmt.Stmt.TheVariants as stmt
use Rattle.sr_catalog_change.specs.Changes.{refusal, next}
use Rattle.sr_parse.specs.Prints.{Prints}
use Rattle.sr_catalog_schema.specs.Catalogs.{Lists}
use Rattle.sr_catalog_schema.specs.declared.fault.DdlFault.{DdlFault}
use Rattle.sr_scan.specs.Inner.Changed.{or_before, LeavesBehind}
use Rattle.sr_scan.specs.Inner.Images.{unless_refused, catalog_behind}
use Rattle.sr_scan.specs.Inner.Meanings.{IsMeant}

-- ---- behind a statement

pub refused : (c : Lists) (x : Stmt) → is_some (refusal c x) ≡ true → c ≡ catalog_behind c (Some x)
refused c x e = go (refusal c x) e where
  go : (o : Option DdlFault) → is_some o ≡ true → c ≡ unless_refused o c (next c x)
  go None f = cc
  go (Some fault) f = refl

pub accepted : (c : Lists) (x : Stmt) → is_some (refusal c x) ≡ false → next c x ≡ catalog_behind c (Some x)
accepted c x e = go (refusal c x) e where
  go : (o : Option DdlFault) → is_some o ≡ false → next c x ≡ unless_refused o c (next c x)
  go None f = refl
  go (Some fault) f = cc

pub not_refused : (c : Lists) (x : Stmt) → is_some (refusal c x) ≡ false → refusal c x ≡ None
not_refused c x e = go (refusal c x) e where
  go : (o : Option DdlFault) → is_some o ≡ false → o ≡ None
  go None f = refl
  go (Some fault) f = cc

-- a statement that is no DDL leaves the catalog as it is, refused or not
left : (o : Option DdlFault) (c : Lists) → unless_refused o c c ≡ c
left None c = refl
left (Some fault) c = refl

kept : (c : Lists) (x : Stmt) → is_ddl x ≡ false → next c x ≡ c
unfolding next
kept c (stmt.CreateTable t) e = cc
kept c (stmt.DropTable name) e = cc
kept c (stmt.CreatePublication p) e = cc
kept c (stmt.DropPublication name) e = cc
kept c (stmt.GrantRemote g) e = cc
kept c (stmt.GrantConsolidate g) e = cc
kept c (stmt.CreateSubscription r) e = cc
kept c (stmt.StartSubscription r) e = cc
kept c (stmt.StopSubscription r) e = cc
kept c (stmt.DropSubscription r) e = cc
kept c (stmt.CreateTrigger g) e = cc
kept c (stmt.DropTrigger name) e = cc
kept c (stmt.SetOption o) e = cc
kept c _ e = refl

pub rows_only : (c : Lists) (x : Stmt) → is_ddl x ≡ false → c ≡ catalog_behind c (Some x)
rows_only c x e = sym (ap (λ (l : Lists). unless_refused (refusal c x) c l) (kept c x e) ∙ left (refusal c x) c)

-- ---- behind a text

pub meant_so : (text : List ℕ) (meant : Option Stmt) → IfSome meant (λ x. Prints x text) → (meant ≡ None → (x : Stmt) → ¬ (Prints x text)) → IsMeant (Some text) meant
meant_so text None p none = none refl
meant_so text (Some x) p none = p

pub behind_none : (c : Lists) (text : List ℕ) → IsMeant (Some text) None → LeavesBehind c (Some text) None
behind_none c text none = record { meant = None; is = none; catalog = refl }

pub behind_so : {E : Type 0} (c : Lists) (text : List ℕ) (meant : Option Stmt) (x : Stmt) (r : Result (Option Lists) E) → IsMeant (Some text) meant → meant ≡ Some x
    → IfOk r (λ after. or_before after c ≡ catalog_behind c (Some x)) → IfOk r (λ after. LeavesBehind c (Some text) after)
behind_so c text meant x (Err e) is so h = tt
behind_so c text meant x (Ok after) is so h = record { meant = meant; is = is; catalog = h ∙ ap (catalog_behind c) (sym so) }

-- where there is no text the catalog stays
pub behind_nothing : (c : Lists) → LeavesBehind c None None
behind_nothing c = record { meant = None; is = refl; catalog = refl }
