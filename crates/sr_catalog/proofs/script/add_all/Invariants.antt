use Rattle.std.proofs.Common.{◌≡◌, ◌++◌, length, map}
use Rattle.sr_ast.specs.Layout.{printed}
use Rattle.sr_catalog.proofs.script.add_all.Given as goal

abbrev pub invariant-items : goal.invariant-items
invariant-items g l = l.texts.items ++ map printed (map g.T.Made.stmt_of l.rest) ≡ l.fn.texts.items ++ map printed (map g.T.Made.stmt_of l.items)

abbrev pub decreases-items : goal.decreases-items
decreases-items g l = length l.rest
