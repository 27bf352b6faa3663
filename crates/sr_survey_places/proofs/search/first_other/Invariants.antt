use Rattle.std.proofs.Common.{◌-◌, ◌<◌, ◌≤◌, length}
use Rattle.std.specs.List.{AllWithin}
use Rattle.sr_survey_places.proofs.Finding.{AreOwnBefore}
use Rattle.sr_survey_places.proofs.search.first_other.Given as goal

abbrev pub invariant-places : goal.invariant-places
invariant-places l = record {
  bound : l.at ≤ length l.places;
  left : AllWithin (λ p. l.passed < p.end) l.places l.at (length l.places);
  own : AreOwnBefore l.places l.own l.passed l.at;
}

abbrev pub decreases-places : goal.decreases-places
decreases-places l = length l.places - l.at
