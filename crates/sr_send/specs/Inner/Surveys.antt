-- The survey that the passes of a run share: what it knows of the database's history, and how what the history gives a user is found.
use Rattle.std.specs.Prelude.{◌≡◌, ◌≤◌, ⊤, ℕ, List, ◌++◌, Option, Some, None, IsTrue, IfSome}
use Rattle.sr_base.specs.declared.offset.Offset.{Offset}
use Rattle.sr_book.specs.Entries.{Name}
use Rattle.sr_catalog_schema.specs.Catalogs.{Lists}
use Rattle.sr_database.specs.Databases.{IsDatabase}
use Rattle.sr_database.specs.Views.{View}
use Rattle.sr_database_history.specs.Folds.{end_of}
use Rattle.sr_database_history.specs.Recorded.{Recorded}
use Rattle.sr_site.specs.Seen.{Seen}
use Rattle.sr_survey.specs.Inner.Following.{since_of}
use Rattle.sr_survey.specs.Inner.Surveyed.{Begins, HasSurveyed, IsNext, IsNextShown}
use Rattle.sr_survey.specs.declared.survey.Survey.{Survey}
use Rattle.sr_survey_places.specs.declared.place.Place.{Place}
use Rattle.sr_send.specs.declared.shared.SharedSurvey.{SharedSurvey}
use Rattle.sr_send.specs.declared.way.Way.{Way}
use Rattle.sr_send.specs.declared.way.Way.TheVariants.{Nothing, Places, Log}

-- ---- what is known

-- a survey knows the first entries of a history, from the end of one of them on, which does not lie before a base
pub record KnowsOf (base : ℕ) (publisher : Name) (es : List Recorded) (s : Survey) : Type 0 where
  pub done : List Recorded
  pub left : List Recorded
  pub parts : es ≡ done ++ left
  pub has : HasSurveyed publisher done s
  pub before : List Recorded
  pub behind : List Recorded
  pub begins : done ≡ before ++ behind
  pub begin_is : s.begin ≡ end_of before
  pub from_base : base ≤ s.begin

-- all of them
pub record KnowsAllOf (base : ℕ) (publisher : Name) (es : List Recorded) (s : Survey) : Type 0 where
  pub has : HasSurveyed publisher es s
  pub before : List Recorded
  pub behind : List Recorded
  pub begins : es ≡ before ++ behind
  pub begin_is : s.begin ≡ end_of before
  pub from_base : base ≤ s.begin

-- a survey knows so of each history that the database is of
abbrev pub Knows : View → Survey → Seen → Type 0
Knows db s seen = (publisher : Name) (es : List Recorded) → IsDatabase db publisher es seen → KnowsOf db.log.base publisher es s

abbrev pub KnowsAll : View → Survey → Seen → Type 0
KnowsAll db s seen = (publisher : Name) (es : List Recorded) → IsDatabase db publisher es seen → KnowsAllOf db.log.base publisher es s

-- a survey is one of the database, if it was not given up
abbrev pub IsSurveyOf : View → Survey → Seen → Type 0
IsSurveyOf db s seen = s.given_up ≡ None → IsTrue seen.observable → Knows db s seen

-- it is one of all that the log holds
abbrev pub IsWhole : View → Survey → Seen → Type 0
IsWhole db s seen = s.given_up ≡ None → IsTrue seen.observable → KnowsAll db s seen

-- the survey that is shared, if there is one, is one of the database
abbrev pub Surveys : View → SharedSurvey → Seen → Type 0
Surveys db shared seen = IfSome shared.survey (λ s. IsSurveyOf db s seen)

-- it is one of all that the log holds
abbrev pub SurveysAll : View → SharedSurvey → Seen → Type 0
SurveysAll db shared seen = IfSome shared.survey (λ s. IsWhole db s seen)

-- a survey is one of the database, and comes to an offset
pub record SurveysTo (db : View) (s : Survey) (at : Offset) (seen : Seen) : Type 0 where
  pub end_is : s.given_up ≡ None → s.end ≡ at.0
  pub knows : IsSurveyOf db s seen

-- a survey begins with a catalog at an offset, if it is not given up
abbrev pub BeginsAt : Lists → ℕ → Survey → Type 0
BeginsAt base at s = s.given_up ≡ None → Begins base at s

-- ---- how what is given is found

-- the first of a user's places that hang on the catalog, if there is one, begins no sooner than that shows him what it showed him then
abbrev pub IsShownNow : Survey → Name → Option Place → Type 0
IsShownNow s user None = ⊤
IsShownNow s user (Some first) = since_of s user ≤ first.start

-- a survey tells all that the log gives a user past an offset: it begins no later, and its catalog shows him at each of his places that hang on it what it
-- showed him then
pub record CanTell (s : Survey) (user : Name) (sent : ℕ) : Type 0 where
  pub kept : s.given_up ≡ None
  pub begun : s.begin ≤ sent
  pub found : Option Place
  pub next : IsNextShown s user sent found
  pub shown : IsShownNow s user found

-- a survey that begins no later than an offset lists nothing for a user past it
pub record ListsNothing (s : Survey) (user : Name) (sent : ℕ) : Type 0 where
  pub kept : s.given_up ≡ None
  pub begun : s.begin ≤ sent
  pub next : IsNext s user sent None

-- why it is found so: the survey lists nothing for him past the offset, or tells it. The log tells it whatever the survey is
abbrev pub IsWay : Survey → Name → ℕ → Way → Type 0
IsWay s user sent Nothing = ListsNothing s user sent
IsWay s user sent Places = CanTell s user sent
IsWay s user sent Log = ⊤
