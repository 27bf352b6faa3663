-- What a survey knows of a history, from where it began.
use Rattle.std.specs.Prelude.{◌≡◌, ◌⊎◌, ⊤, ℕ, ◌≤◌, ◌<◌, max, true, false, List, [], ◌∷◌, ◌++◌, Option, Some, None}
use Rattle.std.specs.List.{All, AllByRecursion, Contains}
use Rattle.sr_book.specs.Entries.{Name}
use Rattle.sr_catalog_schema.specs.Catalogs.{Lists}
use Rattle.sr_catalog_schema.specs.declared.subscription.Subscription.{Subscription}
use Rattle.sr_database_history.specs.Folds.{state_of, end_of}
use Rattle.sr_database_history.specs.Recorded.{Recorded, entry_of}
use Rattle.sr_logform.specs.declared.entry.Entry.{Entry}
use Rattle.sr_ast.specs.declared.stmt.Stmt.{Stmt}
use Rattle.sr_scan.specs.Given.{gives}
use Rattle.sr_scan.specs.Inner.Images.{told, catalog_after}
use Rattle.sr_scan.specs.Inner.Meanings.{texts_of, AreMeant}
use Rattle.sr_survey.specs.Inner.Alike.{ShowsAlike, touched}
use Rattle.sr_survey.specs.Inner.Concerning.{entry_keys, names_user, runs}
use Rattle.sr_survey.specs.Inner.Following.{keys_at, since_of, IsKeyOf, IsNoted, IsStarted, KeepsKeys}
use Rattle.sr_survey.specs.Inner.Keyed.{keys_of}
use Rattle.sr_survey.specs.declared.survey.Survey.{Survey}
use Rattle.sr_survey_places.specs.Inner.Search.{IsOwn}
use Rattle.sr_survey_places.specs.Inner.Listed.{ByKey, under, count_of, IsListedUnder}
use Rattle.sr_survey_places.specs.declared.key.Key.{Key}
use Rattle.sr_survey_places.specs.declared.key.Key.TheVariants as keyed
use Rattle.sr_survey_places.specs.declared.place.Place.{Place}

-- ---- what is listed for a user

-- a key of his: what is for him alone, for everybody, and those of the subscriptions that he ever had started
abbrev pub IsHis : Survey → Name → Key → Type 0
IsHis s user k = (k ≡ keyed.To user) ⊎ ((k ≡ keyed.Text user) ⊎ ((k ≡ keyed.Each) ⊎ Contains (keys_at s.offices user) k))

-- a place is listed for a user: under a key of his, and not as taken from him
pub record IsListed (s : Survey) (user : Name) (place : Place) : Type 0 where
  pub key : Key
  pub his : IsHis s user key
  pub there : Contains (under s.places.lists key) place
  pub other : ¬ (IsOwn (under s.places.lists (keyed.From user)) place)

-- the first place that is listed for a user and ends past an offset; none exactly where there is none
abbrev pub IsNext : Survey → Name → ℕ → Option Place → Type 0
IsNext s user sent None = (place : Place) → IsListed s user place → place.end ≤ sent
IsNext s user sent (Some first) = IsListed s user first × (sent < first.end) × ((place : Place) → IsListed s user place → sent < place.end → first.end ≤ place.end)

-- a key of his but for that of statements that are passed on: what is told of an entry under it hangs on the catalog
abbrev pub IsShownBy : Survey → Name → Key → Type 0
IsShownBy s user k = (k ≡ keyed.To user) ⊎ ((k ≡ keyed.Each) ⊎ Contains (keys_at s.offices user) k)

-- a place is listed for a user under such a key, and not as taken from him
pub record IsShown (s : Survey) (user : Name) (place : Place) : Type 0 where
  pub key : Key
  pub his : IsShownBy s user key
  pub there : Contains (under s.places.lists key) place
  pub other : ¬ (IsOwn (under s.places.lists (keyed.From user)) place)

-- the first of these places that ends past an offset; none exactly where there is none
abbrev pub IsNextShown : Survey → Name → ℕ → Option Place → Type 0
IsNextShown s user sent None = (place : Place) → IsShown s user place → place.end ≤ sent
IsNextShown s user sent (Some first) = IsShown s user first × (sent < first.end) × ((place : Place) → IsShown s user place → sent < place.end → first.end ≤ place.end)

-- an offset lies before a place, if there is one
abbrev pub IsBefore : ℕ → Option Place → Type 0
IsBefore end None = ⊤
IsBefore end (Some place) = end < place.end

-- ---- what is known of a history

-- where an entry stands in a history
abbrev pub place_of : List Recorded → Recorded → Place
place_of first r = record { start = end_of first; end = end_of (first ++ r ∷ []) }

-- an entry of a history stands there
pub record IsPlace (done : List Recorded) (place : Place) : Type 0 where
  pub first : List Recorded
  pub rest : List Recorded
  pub entry : Recorded
  pub parts : done ≡ first ++ entry ∷ rest
  pub is : place ≡ place_of first entry

-- the keys of a started subscription are its user's
abbrev pub IsServed : Survey → Subscription → Type 0
IsServed s subscription = subscription.started ≡ true → All (IsKeyOf s subscription.user) (keys_of subscription.publication subscription.value)

-- a key of one of the subscriptions that are started is its user's
abbrev pub IsOfStarted : List Subscription → Name → Key → Type 0
IsOfStarted [] user k = ⊥
IsOfStarted (s ∷ ss) user k = ((s.started ≡ true) × (user ≡ s.user) × Contains (keys_of s.publication s.value) k) ⊎ IsOfStarted ss user k

-- a survey knows the entries of a history so far: its catalog is that behind them; each place that it lists is one of theirs, and what is listed as
-- a statement that is passed on to a user is one; an entry behind where it began
-- that is not listed for a user gives him nothing; what the catalog shows a user is what it showed since; an entry in which a statement
-- ran moved the start of all past it; and each started subscription is served
pub record HasSurveyed (publisher : Name) (done : List Recorded) (s : Survey) : Type 0 where
  pub end_is : s.end ≡ end_of done
  pub catalog : s.catalog ≡ (state_of publisher done).catalog
  pub places : (k : Key) (place : Place) → Contains (under s.places.lists k) place → IsPlace done place
  pub texts : (user : Name) (first rest : List Recorded) (r : Recorded) → done ≡ first ++ r ∷ rest → Contains (under s.places.lists (keyed.Text user)) (place_of first r) → names_user user (entry_of r) ≡ true
  pub covers : (user : Name) (first rest : List Recorded) (r : Recorded) → done ≡ first ++ r ∷ rest → s.begin ≤ end_of first
      → IsListed s user (place_of first r) ⊎ (gives (state_of publisher first) r user ≡ [])
  pub shows : (user : Name) (first rest : List Recorded) → done ≡ first ++ rest → since_of s user ≤ end_of first → ShowsAlike (state_of publisher first).catalog s.catalog user
  pub each : (user : Name) (first rest : List Recorded) (r : Recorded) → done ≡ first ++ r ∷ rest → s.begin ≤ end_of first → runs (entry_of r) ≡ true
      → end_of (first ++ r ∷ []) ≤ since_of s user
  pub served : AllByRecursion (IsServed s) s.catalog.subscriptions

-- it knows the first part of a history
pub record IsSurvey (publisher : Name) (es : List Recorded) (s : Survey) : Type 0 where
  pub done : List Recorded
  pub left : List Recorded
  pub parts : es ≡ done ++ left
  pub has : HasSurveyed publisher done s

-- something is so of each entry of a history that begins no sooner than the survey, by the history before it
abbrev pub OfEach : List Recorded → Survey → (List Recorded → Recorded → Type 0) → Type 0
OfEach es s Says = (first rest : List Recorded) (r : Recorded) → es ≡ first ++ r ∷ rest → s.begin ≤ end_of first → Says first r

-- the catalog of a survey tells of an entry what it gives a user behind a history
abbrev pub IsToldNow : Name → Name → Survey → List (Option Stmt) → List Recorded → Recorded → Type 0
IsToldNow publisher user s meant first r = told s.catalog (entry_of r) meant user ≡ gives (state_of publisher first) r user

-- a survey begins with a catalog at an offset: nothing is listed, and each started subscription is served
pub record Begins (base : Lists) (at : ℕ) (s : Survey) : Type 0 where
  pub catalog : s.catalog ≡ base
  pub begin : s.begin ≡ at
  pub end : s.end ≡ at
  pub since : (user : Name) → since_of s user ≡ at
  pub none : (k : Key) (place : Place) → ¬ (Contains (under s.places.lists k) place)
  pub served : AllByRecursion (IsServed s) base.subscriptions
  pub only : (user : Name) (k : Key) → Contains (keys_at s.offices user) k → IsOfStarted base.subscriptions user k

-- ---- one entry more

-- a survey takes an entry that ends at an offset: it is listed by the catalog before it, and then its statements are followed; it lists no more places than
-- it may
pub record Takes (old : Survey) (e : Entry) (at : ℕ) (new : Survey) : Type 0 where
  pub meant : List (Option Stmt)
  pub are : AreMeant (texts_of e) meant
  pub lists : ByKey
  pub listed : IsListedUnder old.places.lists (entry_keys old.catalog e) (record { start = old.end; end = at }) lists
  pub same : (k : Key) → under new.places.lists k ≡ under lists k
  pub keys : KeepsKeys old new
  pub catalog : new.catalog ≡ catalog_after old.catalog meant
  pub others : (user : Name) → touched user meant ≡ false → runs e ≡ false → since_of new user ≡ since_of old user
  pub touched : (user : Name) → touched user meant ≡ true → at ≤ since_of new user
  pub each : runs e ≡ true → (user : Name) → at ≤ since_of new user
  pub rises : (user : Name) → since_of old user ≤ since_of new user
  pub bound : (user : Name) → since_of new user ≤ max (since_of old user) at
  pub noted : AllByRecursion (IsNoted new) meant
  pub only : (user : Name) (k : Key) → Contains (keys_at new.offices user) k → Contains (keys_at old.offices user) k ⊎ IsStarted meant user k
  pub begin : new.begin ≡ old.begin
  pub end : new.end ≡ at
  pub most : new.most ≡ old.most
  pub room : count_of new.places.lists ≤ new.most
