use Rattle.std.proofs.Common.{◌<◌, ◌++◌, Some, None, arith, subst}
use Rattle.sr_survey_places.specs.Inner.Search.{IsFirstOther}
use Rattle.sr_survey_places.specs.Inner.Listed.{IsUnder}
use Rattle.sr_survey_places.proofs.Among.{none_own, own_more, among_found, among_last}
use Rattle.sr_survey_places.proofs.listings.Listings.first_among.Goals as goal

pub spans-init : goal.spans-init
spans-init c = record { from = omega arith; own = none_own c.args.self.now.lists (c.args.keys.now ++ c.args.others.now) c.args.from.now c.args.sent }

pub returns-in-Some-first_of_both : goal.returns-in-Some-first_of_both
returns-in-Some-first_of_both c =
    let lists = c.args.self.now.lists in
    let keys = c.args.keys.now ++ c.args.others.now in
    let place = c.in-Some-first_of_both.place in
    record {
      first = among_found lists keys c.args.from.now c.args.sent c.spans.passed (Some c.in-Some.end) place c.spans.invariant.from
          (subst (λ own. IsFirstOther (IsUnder lists keys) own c.spans.passed (Some c.in-Some.end) (Some place)) c.places-own.ensures.places c.in-Some-first_of_both.ensures.first) c.spans.invariant.own;
    }

pub spans-preserved : goal.spans-preserved
spans-preserved c =
    let lists = c.args.self.now.lists in
    let keys = c.args.keys.now ++ c.args.others.now in
    let further : c.spans.passed < c.in-Some.end = c.in-Some.ensures.further in
    record {
      from = omega arith;
      own = own_more lists keys c.args.from.now c.args.sent c.spans.passed c.in-Some.end
          (subst (λ own. IsFirstOther (IsUnder lists keys) own c.spans.passed (Some c.in-Some.end) None) c.places-own.ensures.places c.in_default-first_of_both.ensures.first) c.spans.invariant.own;
    }

pub returns : goal.returns
returns c =
    let lists = c.args.self.now.lists in
    let keys = c.args.keys.now ++ c.args.others.now in
    record {
      first = among_last lists keys c.args.from.now c.args.sent c.spans.passed c.first_of_both-2.result c.spans.invariant.from
          (subst (λ own. IsFirstOther (IsUnder lists keys) own c.spans.passed None c.first_of_both-2.result) c.places-own.ensures.places c.first_of_both-2.ensures.first) c.spans.invariant.own;
    }
