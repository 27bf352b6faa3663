-- Expressions of the grammar, from loose to tight.
-- Here is what no contract of the program says by itself.
use Rattle.std.specs.Prelude.{◌≡◌, ℕ, ◌<◌, ◌≤◌}
use Rattle.sr_ast.specs.Terms.{Term, depth}

-- a term, its depth, and the depth that it may have
pub record IsDeep (t : Term) (d : ℕ) (room : ℕ) : Type 0 where
  pub is : d ≡ depth t
  pub some : 0 < d
  pub within : d ≤ room
