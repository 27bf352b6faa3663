-- Statements as texts.
use Rattle.std.specs.Prelude.{◌≡◌, ℕ, List}
use Rattle.sr_ast.specs.Layout.{printed}
use Rattle.sr_ast.specs.declared.stmt.Stmt.{Stmt}
use Rattle.sr_ast.specs.NormalForms.{IsNormal}

-- the statement is in normal form, and it prints as this text
pub record Prints (s : Stmt) (text : List ℕ) : Type 0 where
  pub normal : IsNormal s
  pub prints : printed s ≡ text
