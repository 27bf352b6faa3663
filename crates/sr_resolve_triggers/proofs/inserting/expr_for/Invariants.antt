use Rattle.std.proofs.Common.{◌≡◌, length, map}
use Rattle.sr_ast.specs.Exprs.{term_of}
use Rattle.sr_resolve_triggers.specs.Actions.{term_for}
use Rattle.sr_resolve_triggers.proofs.inserting.expr_for.Given as goal

abbrev pub invariant-names : goal.invariant-names
invariant-names g l = term_for (map g.T.HasName.name_of l.names_left) (map term_of l.left) l.column
    ≡ term_for (map g.T.HasName.name_of l.named) (map term_of l.exprs) l.column

abbrev pub decreases-names : goal.decreases-names
decreases-names g l = length l.names_left
