-- Lists that may be written.
use Rattle.std.specs.Prelude.{◌≡◌, ◌<◌, ◌^◌, List, [], length}

-- it is not empty, and has fewer than 2^32 items
pub record IsCount {A : Type 0} (items : List A) : Type 0 where
  pub few : length items < 2 ^ 32
  pub filled : ¬ (items ≡ [])
