use Rattle.std.proofs.Common.{◌≡◌, length}
use Rattle.sr_ast.specs.Classes.{kind_of}
use Rattle.sr_ast.proofs.classes.first_kind.Given as goal

abbrev pub invariant-columns : goal.invariant-columns
invariant-columns l = kind_of l.rest l.table l.name ≡ kind_of l.columns l.table l.name

abbrev pub decreases-columns : goal.decreases-columns
decreases-columns l = length l.rest
