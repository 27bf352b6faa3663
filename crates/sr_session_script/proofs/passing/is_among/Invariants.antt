use Rattle.std.proofs.Common.{◌≡◌, length, bytes_eq}
use Rattle.std.specs.List.{list_any}
use Rattle.sr_session_script.proofs.passing.is_among.Given as goal

abbrev pub invariant-others : goal.invariant-others
invariant-others l = list_any (λ other. bytes_eq l.name other) l.left ≡ list_any (λ other. bytes_eq l.name other) l.fn.others

abbrev pub decreases-others : goal.decreases-others
decreases-others l = length l.left
