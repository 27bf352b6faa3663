-- Rows by table and key, with a mark to go back to.
-- Here is what no contract of the program says by itself.
use Rattle.std.specs.Prelude.{◌≡◌, ◌≢◌, ℕ, List, Option, Some, refl}
use Rattle.std.specs.declared.cmp.Ordering.TheVariants.{Less}
use Rattle.std.specs.Cmp.{IsTotalOrder, then_total, on_total}
use Rattle.std.specs.Coded.{Coded, code_by, coded×, coded_ℕ, coded_list}
use Rattle.std.specs.FinMap as map
use Rattle.sr_base.specs.declared.value.Value.{Value}
use Rattle.sr_base.specs.Inner.Codes.{coded_value}
use Rattle.sr_base.specs.Order.{key_cmp}
use Rattle.sr_base.specs.Inner.Order.{name_cmp_total, key_cmp_total}
use Rattle.sr_rows.specs.Marks.{place_cmp, RowMap, Marked, OneAtHand}
use Rattle.sr_rows.specs.Walks.{IsPast}

pub place_cmp_total : IsTotalOrder place_cmp
place_cmp_total = then_total (on_total (λ p. p.0) name_cmp_total) (on_total (λ p. p.1) key_cmp_total)

abbrev pub coded_rows : Coded RowMap
coded_rows = map.code (coded× (coded_list coded_ℕ) (coded_list coded_value)) (coded_list coded_value)

abbrev pub coded_marked : Coded Marked
coded_marked = code_by (RowMap × (RowMap × List RowMap)) (coded× coded_rows (coded× coded_rows (coded_list coded_rows)))
    (λ m. (m.rows, (m.marked, m.trail))) (λ p. record { rows = p.0; marked = p.1.0; trail = p.1.1 }) (λ _. refl)

abbrev pub coded_at_hand : Coded OneAtHand
coded_at_hand = code_by (List ℕ × Marked) (coded× (coded_list coded_ℕ) coded_marked) (λ h. (h.table, h.rows)) (λ p. record { table = p.0; rows = p.1 }) (λ _. refl)

-- of the rows past a key, the one with the least key
pub record IsNext (row_at : List Value → Option (List Value)) (after : Option (List Value)) (key row : List Value) : Type 0 where
  pub held : row_at key ≡ Some row
  pub past : IsPast after key
  pub least : (other found : List Value) → row_at other ≡ Some found → IsPast after other → key_cmp other key ≢ Less

-- no row is past a key
abbrev pub IsLast : (List Value → Option (List Value)) → Option (List Value) → Type 0
IsLast row_at after = (other found : List Value) → row_at other ≡ Some found → ¬ (IsPast after other)
