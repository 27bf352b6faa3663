-- How rows go on from a mark, and back.
use Rattle.std.specs.Prelude.{ℕ, not, List}
use Rattle.std.specs.Ordering.{eq_by_cmp}
use Rattle.std.specs.FinMap as map
use Rattle.sr_base.specs.Order.{name_cmp}
use Rattle.sr_rows.specs.Marks.{RowMap}

-- the rows of all tables but one
abbrev pub without_table : RowMap → List ℕ → RowMap
without_table rows table = map.retain_keys rows (λ place. not (eq_by_cmp name_cmp table place.0))
