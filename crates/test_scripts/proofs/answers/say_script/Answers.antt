use Rattle.std.proofs.Common.{subst, sym, List}
use Rattle.std.specs.List.{AllByRecursion}
use Rattle.sr_ast.specs.NormalForms.{IsNormal}
use Rattle.sr_ast.specs.declared.stmt.Stmt.{Stmt}
use Rattle.test_scripts.proofs.answers.say_script.Goals as goal

pub say_answers-said-requires : goal.say_answers-said-requires
say_answers-said-requires c = record {
  normal = subst (λ (l : List Stmt). AllByRecursion IsNormal l) (sym c.as_slice.ensures.items) (c.what_prints_is_read_so.ensures.normal c.args.script.now c.in-Ok.statements c.in-Ok.ensures.sound);
}
