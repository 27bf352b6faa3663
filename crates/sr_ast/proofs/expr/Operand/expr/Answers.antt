use Rattle.std.proofs.Common.{ap, ◌∙◌}
use Rattle.sr_ast.specs.Exprs.{term_of}
use Rattle.sr_ast.proofs.expr.Operand.expr.Goals as goal

pub returns : goal.returns
returns c = record { term = ap term_of c.deref.ensures ∙ c.self.view_is }
