-- Why a survey is given up.
use Rattle.std.specs.Prelude.{◌≡◌, ℕ, ◌<◌}
use Rattle.sr_logform.specs.declared.entry.Entry.{Entry}
use Rattle.sr_survey.specs.Inner.Concerning.{entry_keys}
use Rattle.sr_survey.specs.declared.given_up.GivenUp.{GivenUp}
use Rattle.sr_survey.specs.declared.given_up.GivenUp.TheVariants.{Places}
use Rattle.sr_survey.specs.declared.survey.Survey.{Survey}
use Rattle.sr_survey_places.specs.Inner.Listed.{ByKey, IsListedUnder, count_of}

-- with an entry that ends at an offset a survey lists more places than it may
pub record IsFull (old : Survey) (e : Entry) (at : ℕ) : Type 0 where
  pub lists : ByKey
  pub listed : IsListedUnder old.places.lists (entry_keys old.catalog e) (record { start = old.end; end = at }) lists
  pub more : old.most < count_of lists

-- why a survey is given up: for its places only where it is full. Of memory nothing can be said
pub record IsGivenUpFor (why : GivenUp) (old : Survey) (e : Entry) (at : ℕ) : Type 0 where
  pub places : why ≡ Places → IsFull old e at
