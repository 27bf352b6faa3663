use Rattle.std.proofs.Common.{Option, subst}
use Rattle.sr_survey.specs.Inner.Surveyed.{IsNext}
use Rattle.sr_survey_places.specs.declared.place.Place.{Place}
use Rattle.sr_send.proofs.surveying.way_to.Goals as goal

pub returns-in-None : goal.returns-in-None
returns-in-None c =
    let may = c.may_tell.ensures.may c.if-not-may_tell.false in
    record {
      way = record {
        kept = may.0;
        begun = may.1;
        next = subst (λ (o : Option Place). IsNext c.args.survey.now c.args.user.now c.args.sent.0 o) c.in-None.is c.in_ok-next.ensures.next;
      };
    }
