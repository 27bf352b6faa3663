use Rattle.std.proofs.Common.{◌≡◌, ◌++◌, length}
use Rattle.sr_session_script.specs.Refusals.{more_values}
use Rattle.sr_session_script.proofs.refusal_lines.push_more.Given as goal

abbrev pub invariant-values : goal.invariant-values
invariant-values l = l.out.items ++ more_values l.left ≡ l.fn.out.items ++ more_values l.fn.values

abbrev pub decreases-values : goal.decreases-values
decreases-values l = length l.left
