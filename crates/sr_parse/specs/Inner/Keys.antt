-- Names as a set.
use Rattle.std.specs.Prelude.{ℕ, List, IsTrue, ◌↔◌, Contains}
use Rattle.std.specs.BTreeSet.{BTreeSet, contains}
use Rattle.sr_base.specs.Order.{name_cmp}

-- the set has the names of the list
abbrev pub IsSetOf : BTreeSet (List ℕ) → List (List ℕ) → Type 0
IsSetOf set names = (n : List ℕ) → IsTrue (contains name_cmp set n) ↔ Contains names n
