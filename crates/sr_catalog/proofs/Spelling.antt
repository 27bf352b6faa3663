-- Catalogs that are made here: accepted statements in normal form have made each.
use Rattle.std.proofs.Common.{◌≡◌, ℕ, List, None, Result, Ok, Err, OnOk, OnErr, ap, sym, subst, ◌∙◌}
use Rattle.sr_ast.specs.NormalForms.{IsNormal}
use Rattle.sr_ast.specs.declared.stmt.Stmt.{Stmt}
use Rattle.sr_catalog_change.specs.Changes.{refusal, next}
use Rattle.sr_catalog_script_laws.specs.Scripts.{IsSpellable}
use Rattle.sr_catalog_script_laws.proofs.Spelled.{new_spelled, spelled_after}
use Rattle.sr_catalog_schema.specs.Catalogs.{Lists, nothing_but}

-- a new one
pub spelled_at_first : (c : Lists) (publisher : List ℕ) → c ≡ nothing_but publisher → IsSpellable c
spelled_at_first c publisher is = subst (λ (x : Lists). IsSpellable x) (sym is) (new_spelled publisher)

-- one that a statement changed, or that stayed as it was
pub spelled_either : {A E : Type 0} (r : Result A E) (c after : Lists) (s : Stmt) → IsSpellable c → IsNormal s → refusal c s ≡ None
    → OnOk r (after ≡ next c s) → OnErr r (after ≡ c) → IsSpellable after
spelled_either (Ok done) c after s spelled normal accepted ok err = spelled_after c after s accepted normal ok spelled
spelled_either (Err fault) c after s spelled normal accepted ok err = subst (λ (x : Lists). IsSpellable x) (sym err) spelled

-- one that a statement made of a copy
pub spelled_copy : (c copy after : Lists) (s : Stmt) → IsSpellable c → IsNormal s → refusal c s ≡ None → copy ≡ c → after ≡ next copy s → IsSpellable after
spelled_copy c copy after s spelled normal accepted same is = spelled_after c after s accepted normal (is ∙ ap (λ (x : Lists). next x s) same) spelled
