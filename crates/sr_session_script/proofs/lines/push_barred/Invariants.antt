use Rattle.std.proofs.Common.{◌≡◌, ◌++◌, length}
use Rattle.sr_session_script.specs.Acts.{barred}
use Rattle.sr_session_script.proofs.lines.push_barred.Given as goal

abbrev pub invariant-values : goal.invariant-values
invariant-values l = l.out.items ++ barred l.left ≡ l.fn.out.items ++ barred l.fn.values

abbrev pub decreases-values : goal.decreases-values
decreases-values l = length l.left
