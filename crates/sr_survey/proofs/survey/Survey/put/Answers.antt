use Rattle.std.proofs.Common.{◌≡◌, ◌<◌, refl, arith, ◌∙◌}
use Rattle.sr_survey.proofs.GivingUp.{for_memory, if_given_up}
use Rattle.sr_survey.proofs.Taken.{taken_whole}
use Rattle.sr_survey.specs.Inner.GivingUp.{IsGivenUpFor}
use Rattle.sr_survey.specs.declared.given_up.GivenUp.{GivenUp}
use Rattle.sr_survey.specs.declared.given_up.GivenUp.TheVariants.{Memory}
use Rattle.sr_survey_places.specs.Inner.Listed.{count_of}
use Rattle.sr_survey.proofs.survey.Survey.put.Goals as goal

pub returns-in_err-list-clause-refused : goal.returns-in_err-list-clause-refused
returns-in_err-list-clause-refused c =
    let s = c.args.self.now in
    if_given_up (λ (why : GivenUp). IsGivenUpFor why s c.args.entry.now c.args.at) Memory c.from_residual.result c.from_residual.ensures.1 (for_memory Memory s c.args.entry.now c.args.at refl)

pub returns-in_err-look_at_places-clause-refused : goal.returns-in_err-look_at_places-clause-refused
returns-in_err-look_at_places-clause-refused c =
    let s = c.args.self.now in
    if_given_up (λ (why : GivenUp). IsGivenUpFor why s c.args.entry.now c.args.at) c.in_err-look_at_places.field-0.0 c.from_residual-in_err-look_at_places.result c.from_residual-in_err-look_at_places.ensures.1
    (record {
      places = λ e. record {
        lists = c.list.new.self.places.lists;
        listed = c.in_ok-list.ensures.listed.listed;
        more =
            let most : c.list.new.self.most ≡ s.most = c.in_ok-list.ensures.listed.most in
            let full : c.list.new.self.most < count_of c.list.new.self.places.lists = c.in_err-look_at_places.ensures.full.1 in
            omega arith;
      };
    })

pub returns-in_err-follow-clause-refused : goal.returns-in_err-follow-clause-refused
returns-in_err-follow-clause-refused c =
    let s = c.args.self.now in
    if_given_up (λ (why : GivenUp). IsGivenUpFor why s c.args.entry.now c.args.at) Memory c.from_residual-in_err-follow.result c.from_residual-in_err-follow.ensures.1 (for_memory Memory s c.args.entry.now c.args.at refl)

pub returns-clause-taken : goal.returns-clause-taken
returns-clause-taken c =
    taken_whole c.args.self.now c.list.new.self c.follow.new.self c.go_on.new.self c.args.entry.now c.args.at c.in_ok-list.ensures.listed c.in_ok-look_at_places.ensures.room c.in_ok-follow.ensures.followed
    c.go_on.ensures.ends

pub returns-clause-given_up : goal.returns-clause-given_up
returns-clause-given_up c = c.go_on.ensures.ends.given_up ∙ c.in_ok-follow.ensures.followed.follows.knows.given_up ∙ c.in_ok-list.ensures.listed.given_up
