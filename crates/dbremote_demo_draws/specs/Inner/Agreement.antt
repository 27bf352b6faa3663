-- How far a database below differs from what the one above has for it.
-- Here is what no contract of the program says by itself.
use Rattle.std.specs.Prelude.{◌≡◌, List}
use Rattle.std.specs.BTreeSet.{BTreeSet, contains}
use Rattle.sr_base.specs.Order.{key_cmp}
use Rattle.sr_base.specs.declared.value.Value.{Value as Cell}
use Rattle.dbremote_demo_draws.specs.Agreement.{is_among}

-- the set has these keys, and no others
pub record IsSetOf (set : BTreeSet (List Cell)) (keys : List (List Cell)) : Type 0 where
  pub same : (key : List Cell) → contains key_cmp set key ≡ is_among keys key
