-- A trigger that names columns fires where one of them differs.
use Rattle.std.proofs.Common.{◌≡◌, ◌≤◌, ℕ, List, [], ◌∷◌, length, refl, arith}
use Rattle.std.specs.List.{list_any}
use Rattle.sr_catalog_schema.specs.Firsts.{has}
use Rattle.sr_resolve_triggers.specs.Firing.{is_fired}

pub any_fires : (differing names : List (List ℕ)) → 1 ≤ length names → list_any (has differing) names ≡ is_fired differing names
any_fires differing [] h = absurd (omega arith)
any_fires differing (name ∷ names) h = refl
