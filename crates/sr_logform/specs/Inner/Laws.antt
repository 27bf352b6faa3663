-- What the spellings of a format keep, whatever bytes follow them.
use Rattle.std.specs.Prelude.{ℕ, List}
use Rattle.sr_base.specs.Inner.Laws.{ReadsSpellings, ReadsAgain, BeginsNoOther}
use Rattle.sr_base.specs.Reading.{Read}

-- what is read is spelled so, what is spelled so is read, and bytes begin with one spelling at most
pub record SpellsOnce {A : Type 0} (reading : List ℕ → Read A) (spelling : A → List ℕ) (fits : A → Type 0) : Type 0 where
  pub read_so : ReadsSpellings reading spelling fits
  pub read_again : ReadsAgain reading spelling fits
  pub no_other : BeginsNoOther spelling fits
