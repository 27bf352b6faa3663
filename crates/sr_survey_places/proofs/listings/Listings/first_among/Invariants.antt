use Rattle.std.proofs.Common.{◌≤◌, ◌++◌, ◌-◌, ◌^◌}
use Rattle.sr_survey_places.proofs.Among.{AreOwn}
use Rattle.sr_survey_places.proofs.listings.Listings.first_among.Given as goal

abbrev pub invariant-spans : goal.invariant-spans
invariant-spans l = record {
  from : l.sent ≤ l.passed;
  own : AreOwn l.self.lists (l.keys ++ l.others) l.from l.sent l.passed;
}

abbrev pub decreases-spans : goal.decreases-spans
decreases-spans l = 2 ^ 64 - l.passed
