use Rattle.std.proofs.Common.{arith, rules}
use Rattle.sr_survey_places.proofs.Finding.{own_at_first, other_is}
use Rattle.sr_survey_places.proofs.search.first_other.Goals as goal

pub places-init : goal.places-init
places-init c = record {
  bound = c.count_passed-at.ensures.bound;
  left = c.count_passed-at.ensures.left;
  own = own_at_first c.args.places.now c.args.own.now c.args.passed c.count_passed-at.result c.count_passed-at.ensures.passed;
}

pub returns-then-not-is_own_near : goal.returns-then-not-is_own_near
returns-then-not-is_own_near c = record {
  first = other_is c.args.places.now c.args.own.now c.args.passed c.args.limit c.places.at _ c.requires.order c.places.invariant.left (omega arith) (c.lies_within.ensures.within (search rules))
      (c.is_own_near.ensures.other (search rules)) c.places.invariant.own;
}
