-- What is at hand of the tables of a catalog.
use Rattle.std.proofs.Common.{◌≡◌, Bool, true, false, cond, List, [], Option, Some, None, filter_map, Result, Ok, Err, OnOk, OnErr, refl, sym, ap, subst, ◌∙◌}
use Rattle.std.specs.BTreeMap as tree
use Rattle.std.specs.BTreeMap.{is_at}
use Rattle.std.specs.Map.{lookup}
use Rattle.std.specs.Ordering.{is_eq}
use Rattle.sr_ast.specs.declared.stmt.Stmt.{Stmt}
use Rattle.sr_ast.specs.declared.stmt.Stmt.TheVariants as stmt
use Rattle.sr_base.specs.Order.{name_cmp}
use Rattle.sr_book.specs.Entries.{Name}
use Rattle.sr_catalog_change.specs.Changes.{next}
use Rattle.sr_catalog_schema.specs.Catalogs.{Lists}
use Rattle.sr_catalog_schema.specs.Members.{scope_of}
use Rattle.sr_catalog_schema.specs.Names.{named}
use Rattle.sr_catalog_schema.specs.declared.publication.Publication.{Publication}
use Rattle.sr_catalog_schema.specs.declared.table.Table.{Table}
use Rattle.sr_exec_dml.specs.Statements.{table_named}
use Rattle.sr_survey.proofs.Officed.{one_name}
use Rattle.sr_survey.specs.Inner.Charts.{ByTable, IsRoute, AreRoutes}
use Rattle.sr_survey.specs.Inner.Effects.{is_for_all}
use Rattle.sr_survey.specs.Inner.Keyed.{route_in, routes_of}
use Rattle.sr_survey.specs.declared.routes.Routes.{Routes}

pub none_held : (c : Lists) (m : ByTable) → m.entries ≡ [] → AreRoutes c m
none_held c m none = record { each = λ name r e. let gone : None ≡ Some r = sym (ap (λ es. lookup (is_at (name_cmp name)) es) none) ∙ e in cc }

pub held_same : (c : Lists) (old new : ByTable) → new.entries ≡ old.entries → AreRoutes c old → AreRoutes c new
held_same c old new same held = record { each = λ name r e. held.each name r (sym (ap (λ es. lookup (is_at (name_cmp name)) es) same) ∙ e) }

pub route_made : (c : Lists) (name : Name) (t : Table) (r : Routes) → table_named c name ≡ Some t → r.table ≡ t → r.scope ≡ scope_of t → r.articles ≡ routes_of c name → IsRoute c name r
route_made c name t r named is scope articles = record { table = named ∙ ap Some (sym is); scope = scope ∙ ap scope_of (sym is); articles = articles }

pub held_more : (c : Lists) (old new : ByTable) (name : Name) (r : Routes) → IsRoute c name r → ((q : Name) → tree.get name_cmp new q ≡ cond (is_at (name_cmp name) q) (Some r) (tree.get name_cmp old q))
    → AreRoutes c old → AreRoutes c new
held_more c old new name r is put held = record { each = λ q x e. go q x (is_eq (name_cmp name q)) refl (sym (put q) ∙ e) } where
  go : (q : Name) (x : Routes) (b : Bool) → is_eq (name_cmp name q) ≡ b → cond b (Some r) (tree.get name_cmp old q) ≡ Some x → IsRoute c q x
  go q x true at e =
      let same : r ≡ x = cc in
      subst (λ (n : Name). IsRoute c n x) (one_name name q at) (subst (λ (y : Routes). IsRoute c name y) same is)
  go q x false at e = held.each q x e

-- statements but for those on tables and publications leave both
moved : (c d : Lists) (m : ByTable) → d.tables ≡ c.tables → d.publications ≡ c.publications → AreRoutes c m → AreRoutes d m
moved c d m tables publications held = record {
  each = λ name r e. let is = held.each name r e in record {
    table = ap (λ (ts : List Table). named (λ t. t.name) name ts) tables ∙ is.table;
    scope = is.scope;
    articles = is.articles ∙ sym (ap (λ (ps : List Publication). filter_map (route_in name) ps) publications);
  };
}

held_next : (c : Lists) (m : ByTable) (s : Stmt) → is_for_all s ≡ false → AreRoutes c m → AreRoutes (next c s) m
unfolding next
held_next c m (stmt.CreateTable t) e held = cc
held_next c m (stmt.DropTable name) e held = cc
held_next c m (stmt.CreatePublication p) e held = cc
held_next c m (stmt.DropPublication name) e held = cc
held_next c m (stmt.GrantRemote g) e held = moved c (next c (stmt.GrantRemote g)) m refl refl held
held_next c m (stmt.GrantConsolidate g) e held = moved c (next c (stmt.GrantConsolidate g)) m refl refl held
held_next c m (stmt.CreateSubscription r) e held = moved c (next c (stmt.CreateSubscription r)) m refl refl held
held_next c m (stmt.StartSubscription r) e held = moved c (next c (stmt.StartSubscription r)) m refl refl held
held_next c m (stmt.StopSubscription r) e held = moved c (next c (stmt.StopSubscription r)) m refl refl held
held_next c m (stmt.Synchronize r) e held = held
held_next c m (stmt.DropSubscription r) e held = moved c (next c (stmt.DropSubscription r)) m refl refl held
held_next c m (stmt.CreateTrigger t) e held = moved c (next c (stmt.CreateTrigger t)) m refl refl held
held_next c m (stmt.DropTrigger name) e held = moved c (next c (stmt.DropTrigger name)) m refl refl held
held_next c m (stmt.SetOption o) e held = cc
held_next c m (stmt.Dml d) e held = held
held_next c m (stmt.Select q) e held = held
held_next c m stmt.Commit e held = held
held_next c m stmt.Rollback e held = held
held_next c m (stmt.Passthrough p) e held = held
held_next c m stmt.PassthroughStop e held = held

pub held_on : (c d : Lists) (m : ByTable) (s : Stmt) → d ≡ next c s → is_for_all s ≡ false → AreRoutes c m → AreRoutes d m
held_on c d m s is quiet held = subst (λ (l : Lists). AreRoutes l m) (sym is) (held_next c m s quiet held)

-- the same catalog
pub held_so : (c d : Lists) (m : ByTable) → d ≡ c → AreRoutes c m → AreRoutes d m
held_so c d m is held = subst (λ (l : Lists). AreRoutes l m) (sym is) held

pub held_there : (c : Lists) (m : ByTable) (name : Name) (r : Routes) → AreRoutes c m → Some r ≡ tree.get name_cmp m name → IsRoute c name r
held_there c m name r held is = held.each name r (sym is)

-- what is put at hand, if there is memory for it
pub held_put : {X E : Type 0} (result : Result X E) (c : Lists) (old new : ByTable) (name : Name) (r : Routes) → IsRoute c name r
    → OnOk result ((q : Name) → tree.get name_cmp new q ≡ cond (is_at (name_cmp name) q) (Some r) (tree.get name_cmp old q)) → OnErr result (new.entries ≡ old.entries) → AreRoutes c old → AreRoutes c new
held_put (Ok x) c old new name r is put left held = held_more c old new name r is put held
held_put (Err e) c old new name r is put left held = held_same c old new left held
