use Rattle.std.proofs.Common.{◌≡◌, None, length}
use Rattle.std.specs.Prelude.{map}
use Rattle.std.specs.List.{AllByRecursion}
use Rattle.sr_scan.specs.Inner.Meanings.{text_done}
use Rattle.sr_send.proofs.passing.ran_nothing.Given as goal

-- of all none ran where of those that are left none did
abbrev pub invariant-taken : goal.invariant-taken
invariant-taken l = AllByRecursion (λ text. text ≡ None) (map (λ p. text_done p.0 p.1) l.left) → AllByRecursion (λ text. text ≡ None) (map (λ p. text_done p.0 p.1) l.taken)

abbrev pub decreases-taken : goal.decreases-taken
decreases-taken l = length l.left
