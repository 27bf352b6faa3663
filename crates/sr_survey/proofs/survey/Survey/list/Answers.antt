use Rattle.std.proofs.Common.{refl, subst}
use Rattle.sr_survey.specs.Inner.Concerning.{entry_keys}
use Rattle.sr_survey_places.specs.Inner.Listed.{IsListedUnder}
use Rattle.sr_survey.proofs.survey.Survey.list.Goals as goal

pub returns : goal.returns
returns c = record {
  listed = record {
    listed = subst (λ l. IsListedUnder c.args.self.now.places.lists (entry_keys l c.args.entry.now) (record { start = c.args.self.now.end; end = c.args.at }) c.list_entry.new.lists.lists) c.take_up.ensures.same
        c.in_ok-list_entry.ensures.listed;
    catalog = c.take_up.ensures.same;
    offices = refl;
    since = refl;
    begin = refl;
    most = refl;
    given_up = refl;
  };
}
