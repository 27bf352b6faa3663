-- The rows of one table in the order of their keys.
-- Here is what no contract of the program says by itself.
use Rattle.std.specs.Prelude.{◌≡◌, ⊤, Bool, true, List, [], ◌∷◌, Option, Some, None, filter}
use Rattle.std.specs.declared.cmp.Ordering.{Ordering}
use Rattle.std.specs.declared.cmp.Ordering.TheVariants.{Less}
use Rattle.std.specs.Ordering.{is_lt}
use Rattle.std.specs.List.{AllByRecursion}
use Rattle.sr_base.specs.declared.value.Value.{Value}
use Rattle.sr_base.specs.Order.{key_cmp}
use Rattle.sr_rows.specs.Walks.{Entry}

-- whether a key comes after another one; each key does where there is no other
abbrev pub is_past : Option (List Value) → List Value → Bool
is_past None key = true
is_past (Some after) key = is_lt (key_cmp after key)

-- those of the rows whose keys come after a key
abbrev pub past : Option (List Value) → List Entry → List Entry
past after entries = filter (λ e. is_past after e.0) entries

-- entries whose keys rise
abbrev pub Rises : {K X : Type 0} → (K → K → Ordering) → List (K × X) → Type 0
Rises order [] = ⊤
Rises order (e ∷ es) = AllByRecursion (λ later. order e.0 later.0 ≡ Less) es × Rises order es
