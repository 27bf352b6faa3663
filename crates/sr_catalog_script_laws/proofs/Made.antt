-- The laws of the catalogs that statements have made.
use Rattle.std.proofs.Common.{◌≡◌, ℕ, List, [], ◌∷◌, ◌++◌, Some, None, refl, ap, sym, subst, ◌∙◌}
use Rattle.sr_ast.specs.declared.stmt.Stmt.{Stmt}
use Rattle.sr_catalog_schema.specs.Catalogs.{Lists, nothing_but}
use Rattle.sr_catalog_change.specs.Changes.{refusal, next}
use Rattle.sr_catalog_script_laws.specs.Scripts.{statements, replayed, IsMadeByStatements}
use Rattle.sr_catalog_script_laws.proofs.ReplayNexts.{made_stands, publisher_next}
use Rattle.sr_catalog_script_laws.proofs.Replays.{made_again, replayed-cons, replayed-append}

-- its statements make it again
pub again : (c : Lists) → IsMadeByStatements c → replayed (nothing_but c.publisher) (statements c) ≡ Some c
again c made = made_again c (made_stands c made)

-- an accepted statement behind those that made it makes the next one
pub makes_next : (c : Lists) (history : List Stmt) (s : Stmt) → replayed (nothing_but c.publisher) history ≡ Some c → refusal c s ≡ None
    → replayed (nothing_but (next c s).publisher) (history ++ s ∷ []) ≡ Some (next c s)
makes_next c history s makes accepted =
    ap (λ p. replayed (nothing_but p) (history ++ s ∷ [])) (publisher_next c s)
    ∙ (replayed-append (nothing_but c.publisher) c history (s ∷ []) makes ∙ replayed-cons c (next c s) s [] accepted refl)

-- it makes such a catalog of it
pub still_made : (c : Lists) (s : Stmt) → IsMadeByStatements c → refusal c s ≡ None → IsMadeByStatements (next c s)
still_made c s made accepted = record { history = made.history ++ s ∷ []; makes = makes_next c made.history s made.makes accepted }

-- what is the catalog after an accepted statement is one
pub changed : (c after : Lists) (s : Stmt) → refusal c s ≡ None → after ≡ next c s → IsMadeByStatements c → IsMadeByStatements after
changed c after s accepted is made = subst (λ (x : Lists). IsMadeByStatements x) (sym is) (still_made c s made accepted)

-- a new one is one
pub new_made : (publisher : List ℕ) → IsMadeByStatements (nothing_but publisher)
new_made publisher = record { history = []; makes = refl }

pub ruleset steps = (new_made, still_made)
