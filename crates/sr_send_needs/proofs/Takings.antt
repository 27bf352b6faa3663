-- A survey that takes the entries of a log.
use Rattle.std.proofs.Common.{◌≡◌, ℕ, ◌≤◌, ◌<◌, [], Option, Some, None, refl, sym, subst, ◌∙◌, arith}
use Rattle.std.proofs.lemmas.List.{append-nil}
use Rattle.sr_base.specs.declared.offset.Offset.{Offset}
use Rattle.sr_database.specs.Views.{View}
use Rattle.sr_database_files.specs.Inner.Openings.{ReadAlone}
use Rattle.sr_send.specs.Inner.Surveys.{BeginsAt, IsWhole, SurveysTo}
use Rattle.sr_send_needs.proofs.Followed.{IsEndOfEach, database_back, read_none, read_on, told_before}
use Rattle.sr_send_needs.specs.Inner.Starting.{IsStart, catalog_in}
use Rattle.sr_send_needs.specs.Inner.Surveying.{HasTaken, SurveysWhole}
use Rattle.sr_send_needs.specs.declared.start.Start.{Start}
use Rattle.sr_site.specs.Seen.{Seen}
use Rattle.sr_survey.proofs.Keeping.{begun_surveyed}
use Rattle.sr_survey.specs.Inner.Surveyed.{Begins}
use Rattle.sr_survey.specs.declared.survey.Survey.{Survey}

-- ---- where it begins

pub begun_there : (db : View) (start : Start) (s : Survey) (seen : Seen) → IsStart db start seen → BeginsAt (catalog_in db start.is_now) start.at.0 s → SurveysTo db s start.at seen
begun_there db start s seen starts begins = record {
  end_is = λ kept. (begins kept).end;
  knows = λ kept told publisher es database.
      let b = begins kept in
      let c = starts.there told publisher es database in
      record {
        done = c.done;
        left = c.left;
        parts = c.parts;
        has = begun_surveyed publisher c.done (catalog_in db start.is_now) s (subst (λ (n : ℕ). Begins (catalog_in db start.is_now) n s) c.at_is b) c.catalog_is;
        before = c.done;
        behind = [];
        begins = sym (append-nil c.done);
        begin_is = b.begin ∙ c.at_is;
        from_base = omega (arith, starts.from_base, b.begin);
      };
}

-- ---- entry by entry

-- a survey that was not given up comes to the end of an entry
pub taken_to : (db : View) (s : Survey) (at : Offset) (seen : Seen) → SurveysTo db s at seen → s.given_up ≡ None → IsEndOfEach db at seen
taken_to db s at seen surveyed kept told publisher es database =
    let k = surveyed.knows kept told publisher es database in
    record { done = k.done; left = k.left; parts = k.parts; place_is = sym (surveyed.end_is kept) ∙ k.has.end_is }

pub take_start : (db : View) (s : Survey) (at : Offset) (seen : Seen) → (db.log.base ≤ at.0) × (at.0 ≤ db.log.end) → SurveysTo db s at seen → HasTaken db s at seen seen
take_start db s at seen within surveyed = record { read = read_none seen; steady = refl; from_base = within.0; within = within.1; surveyed = surveyed }

pub take_on : (db : View) (old new : Survey) (at end : Offset) (first before now : Seen) → HasTaken db old at first before → ReadAlone before now → now.disk_faults ≡ before.disk_faults → (at.0 < end.0) × (end.0 ≤ db.log.end) → SurveysTo db new end now
    → HasTaken db new end first now
take_on db old new at end first before now taken read steady within surveyed = record {
  read = read_on first before now taken.read read;
  steady = steady ∙ taken.steady;
  from_base = omega (arith, taken.from_base, within.0);
  within = within.1;
  surveyed = surveyed;
}

-- ---- it stands while the log is read

pub whole_on : (db : View) (s : Survey) (first before : Seen) → ReadAlone first before → IsWhole db s first → IsWhole db s before
whole_on db s first before read whole kept told = λ publisher es database.
    let was = told_before first before read told in
    whole kept was publisher es (database_back db publisher es first before read was database)

pub surveys_on : (db : View) (o : Option Survey) (first before : Seen) → ReadAlone first before → SurveysWhole db o first → SurveysWhole db o before
surveys_on db None first before read whole = tt
surveys_on db (Some s) first before read whole = whole_on db s first before read whole
