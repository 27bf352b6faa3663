use Rattle.std.proofs.Common.{◌≡◌, ◌++◌, List, length}
use Rattle.sr_survey_places.specs.Inner.Search.{IsFirstOther}
use Rattle.sr_survey_places.specs.Inner.Listed.{IsUnder}
use Rattle.sr_survey_places.specs.declared.key.Key.{Key}
use Rattle.sr_survey_places.proofs.listings.Listings.first_under.Given as goal

abbrev pub invariant-keys : goal.invariant-keys
invariant-keys l = (done : List Key) × (done ++ l.left ≡ l.keys) × IsFirstOther (IsUnder l.self.lists done) l.own l.passed l.limit l.first

abbrev pub decreases-keys : goal.decreases-keys
decreases-keys l = length l.left
