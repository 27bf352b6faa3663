use Rattle.std.proofs.Common.{subst, sym, List}
use Rattle.std.specs.List.{AllByRecursion}
use Rattle.sr_ast.specs.NormalForms.{IsNormal}
use Rattle.sr_ast.specs.declared.stmt.Stmt.{Stmt}
use Rattle.test_scripts.proofs.read.Goals as goal

pub told-status-requires : goal.told-status-requires
told-status-requires c = record {
  normal = subst (λ (l : List Stmt). AllByRecursion IsNormal l) (sym c.as_slice.ensures.items) (c.what_prints_is_read_so.ensures.normal _ c.in-Ok.script c.in-Ok.ensures.sound);
}
