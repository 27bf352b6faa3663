-- A key is ready for a place.
use Rattle.std.specs.Prelude.{◌≡◌, true, false}
use Rattle.sr_survey_places.specs.Inner.Keys.{is_shared}
use Rattle.sr_survey_places.specs.Inner.Listed.{ByKey, has_list, IsLeft}
use Rattle.sr_survey_places.specs.declared.key.Key.{Key}

-- a key that is none of rows has a list, and all else is as it was
pub record IsReady (old : ByKey) (key : Key) (new : ByKey) : Type 0 where
  pub there : is_shared key ≡ false → has_list new key ≡ true
  pub left : IsLeft old new
