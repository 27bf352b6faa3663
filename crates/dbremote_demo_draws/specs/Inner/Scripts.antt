-- What each database has of a block.
use Rattle.std.specs.Prelude.{◌≡◌, List, [], ◌∷◌, ◌++◌}
use Rattle.dbremote_demo_draws.specs.DrawnStatements.{script_at}
use Rattle.dbremote_demo_draws.specs.declared.statements.Drawn.{Drawn}
use Rattle.dbremote_demo_draws.specs.declared.drawing.Scripts.{Scripts}
use Rattle.dbremote_demo_draws.specs.declared.demo_site.DemoSite.TheVariants.{Cons, R1, R2, R3}

-- the transactions of drawn statements, each at its database
pub record IsScripts (drawn : List Drawn) (scripts : Scripts) : Type 0 where
  pub cons : scripts.cons.items ≡ script_at Cons drawn
  pub r1 : scripts.r1.items ≡ script_at R1 drawn
  pub r2 : scripts.r2.items ≡ script_at R2 drawn
  pub r3 : scripts.r3.items ≡ script_at R3 drawn

-- those of one statement more
pub record IsWithOne (drawn : Drawn) (old new : Scripts) : Type 0 where
  pub cons : new.cons.items ≡ old.cons.items ++ script_at Cons (drawn ∷ [])
  pub r1 : new.r1.items ≡ old.r1.items ++ script_at R1 (drawn ∷ [])
  pub r2 : new.r2.items ≡ old.r2.items ++ script_at R2 (drawn ∷ [])
  pub r3 : new.r3.items ≡ old.r3.items ++ script_at R3 (drawn ∷ [])
