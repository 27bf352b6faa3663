-- Values and rows that were read from a file.
use Rattle.std.specs.Prelude.{◌≡◌, ◌≢◌, ℕ, List, length, take, Option, MatchOption}
use Rattle.std.specs.List.{flat_map, AllByRecursion}
use Rattle.sr_base.specs.Fields.{IsListOf}
use Rattle.sr_base.specs.Values.{value_spelling, IsValue, row_spelling}
use Rattle.sr_base.specs.declared.value.Value.{Value}
use Rattle.sr_site.specs.Seen.{Seen}
use Rattle.sr_site.specs.declared.file.File.{File}
use Rattle.sr_snapshot_read.specs.Inner.Reading.{HasTaken}
use Rattle.sr_snapshot_read.specs.Inner.Views.{View}

-- so many values were taken, of which the first ones are kept
pub record HasTakenValues (file : File) (count width : ℕ) (before now : Seen) (old new : View) (kept : List Value) : Type 0 where
  pub values : List Value
  pub taken : HasTaken file (flat_map value_spelling values) before now old new
  pub are : AllByRecursion IsValue values
  pub counted : length values ≡ count
  pub kept_is : kept ≡ take width values

-- a row was taken; it is answered where it has so many values
pub record HasTakenRow (file : File) (width : ℕ) (before now : Seen) (old new : View) (found : Option (List Value)) : Type 0 where
  pub row : List Value
  pub taken : HasTaken file (row_spelling row) before now old new
  pub is : IsListOf IsValue row
  pub found_is : MatchOption found (length row ≢ width) (λ r. r ≡ row)
