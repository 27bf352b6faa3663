-- A survey of a log that is made to seek needs by.
use Rattle.std.specs.Prelude.{◌≡◌, ◌≤◌, Option, IfSome}
use Rattle.sr_base.specs.declared.offset.Offset.{Offset}
use Rattle.sr_database.specs.Views.{View}
use Rattle.sr_database_files.specs.Inner.Openings.{ReadAlone}
use Rattle.sr_send.specs.Inner.Surveys.{IsWhole, SurveysTo}
use Rattle.sr_site.specs.Seen.{Seen}
use Rattle.sr_survey.specs.declared.survey.Survey.{Survey}

-- a survey, if there is one, is one of all that the log holds
abbrev pub SurveysWhole : View → Option Survey → Seen → Type 0
SurveysWhole db survey seen = IfSome survey (λ s. IsWhole db s seen)

-- a survey took the entries up to an offset
pub record HasTaken (db : View) (s : Survey) (at : Offset) (before now : Seen) : Type 0 where
  pub read : ReadAlone before now
  pub steady : now.disk_faults ≡ before.disk_faults
  pub from_base : db.log.base ≤ at.0
  pub within : at.0 ≤ db.log.end
  pub surveyed : SurveysTo db s at now
