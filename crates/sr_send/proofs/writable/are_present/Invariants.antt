use Rattle.std.proofs.Common.{◌≡◌, ◌↔◌, length}
use Rattle.std.specs.Prelude.{⊤}
use Rattle.std.specs.List.{AllByRecursion}
use Rattle.sr_base.specs.Values.{IsShort}
use Rattle.sr_base.specs.declared.value.Value.TheVariants.{Null}
use Rattle.sr_send.proofs.writable.are_present.Given as goal

abbrev pub invariant-columns : goal.invariant-columns
invariant-columns l = AllByRecursion (λ c. ⊤ × (IsShort c.1 × ¬ (c.1 ≡ Null))) l.left ↔ AllByRecursion (λ c. ⊤ × (IsShort c.1 × ¬ (c.1 ≡ Null))) l.columns

abbrev pub decreases-columns : goal.decreases-columns
decreases-columns l = length l.left
