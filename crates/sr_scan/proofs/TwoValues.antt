-- The columns in which two rows differ have two values each.
use Rattle.std.proofs.Common.{◌≡◌, Bool, true, false, cond, List, [], ◌∷◌, refl}
use Rattle.std.specs.List.{AllByRecursion}
use Rattle.std.specs.Ordering.{eq_by_cmp}
use Rattle.sr_base.specs.Order.{value_cmp}
use Rattle.sr_base.specs.declared.value.Value.{Value as Cell}
use Rattle.sr_catalog_schema.specs.declared.table.Column.{Column}
use Rattle.sr_scan.specs.Ops.{differing}
use Rattle.sr_scan.specs.Inner.Laws.{IsOfTwoValues}

pub all_differ : (columns : List Column) (before after : List Cell) → AllByRecursion IsOfTwoValues (differing columns before after)
all_differ [] before after = tt
all_differ (c ∷ columns) [] after = tt
all_differ (c ∷ columns) (v ∷ before) [] = tt
all_differ (c ∷ columns) (v ∷ before) (w ∷ after) = go (eq_by_cmp value_cmp v w) refl (all_differ columns before after) where
  go : (same : Bool) → eq_by_cmp value_cmp v w ≡ same → AllByRecursion IsOfTwoValues (differing columns before after)
      → AllByRecursion IsOfTwoValues (cond same (differing columns before after) ((c.name, v, w) ∷ differing columns before after))
  go true e rest = rest
  go false e rest = (e, rest)
