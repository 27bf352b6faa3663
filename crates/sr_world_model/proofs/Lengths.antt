use Rattle.std.proofs.Common.{◌≡◌, ℕ, ◌+◌, ◌≤◌, List, [], ◌∷◌, ◌++◌, refl, arith, le_refl}
use Rattle.sr_world_model.specs.Layers.{Layers, end_from, end_of}

module _ {Entry Ops : Type 0} (p : Layers Entry Ops) where
  pub end_from-append : (place : ℕ) (es fs : List Entry) → end_from p place (es ++ fs) ≡ end_from p (end_from p place es) fs
  end_from-append place [] fs = refl
  end_from-append place (e ∷ es) fs = end_from-append (place + (p.size e + 5)) es fs

  pub end_more : (es : List Entry) (e : Entry) → end_of p (es ++ e ∷ []) ≡ end_of p es + (p.size e + 5)
  end_more es e = end_from-append 0 es (e ∷ [])

  pub le-end_from : (place : ℕ) (es : List Entry) → place ≤ end_from p place es
  le-end_from place [] = le_refl place
  le-end_from place (e ∷ es) = omega (arith, le-end_from (place + (p.size e + 5)) es)
