-- The parts of taking an entry, and of beginning.
use Rattle.std.specs.Prelude.{◌≡◌, ◌⊎◌, ℕ, ◌≤◌, max, true, false, List, [], None}
use Rattle.std.specs.List.{AllByRecursion, Contains}
use Rattle.sr_book.specs.Entries.{Name}
use Rattle.sr_catalog_schema.specs.Catalogs.{Lists}
use Rattle.sr_catalog_schema.specs.declared.subscription.Subscription.{Subscription}
use Rattle.sr_logform.specs.declared.entry.Entry.{Entry}
use Rattle.sr_survey.specs.Inner.Concerning.{entry_keys, runs}
use Rattle.sr_survey.specs.Inner.Following.{keys_at, since_of, KeepsKeys, StillKnows}
use Rattle.sr_survey.specs.Inner.Surveyed.{IsServed, IsOfStarted}
use Rattle.sr_survey.specs.declared.survey.Survey.{Survey}
use Rattle.sr_survey_places.specs.Inner.Listed.{under, count_of, IsListedUnder, IsEmpty}
use Rattle.sr_survey_places.specs.declared.key.Key.{Key}

-- an entry that ends at an offset is listed, and all else is as it was
pub record ListsEntry (old : Survey) (e : Entry) (at : ℕ) (new : Survey) : Type 0 where
  pub listed : IsListedUnder old.places.lists (entry_keys old.catalog e) (record { start = old.end; end = at }) new.places.lists
  pub catalog : new.catalog ≡ old.catalog
  pub offices : new.offices ≡ old.offices
  pub since : new.since ≡ old.since
  pub begin : new.begin ≡ old.begin
  pub most : new.most ≡ old.most
  pub given_up : new.given_up ≡ old.given_up

-- a survey goes on behind an entry: a statement that ran in it may have shown everybody another catalog
pub record EndsAt (old : Survey) (e : Entry) (at : ℕ) (new : Survey) : Type 0 where
  pub each : runs e ≡ true → (user : Name) → at ≤ since_of new user
  pub rises : (user : Name) → since_of old user ≤ since_of new user
  pub bound : (user : Name) → since_of new user ≤ max (since_of old user) at
  pub others : runs e ≡ false → (user : Name) → since_of new user ≡ since_of old user
  pub only : (user : Name) (k : Key) → Contains (keys_at new.offices user) k → Contains (keys_at old.offices user) k
  pub end : new.end ≡ at
  pub catalog : new.catalog ≡ old.catalog
  pub keys : KeepsKeys old new
  pub same : (k : Key) → under new.places.lists k ≡ under old.places.lists k
  pub count : count_of new.places.lists ≡ count_of old.places.lists
  pub begin : new.begin ≡ old.begin
  pub most : new.most ≡ old.most
  pub given_up : new.given_up ≡ old.given_up

-- nothing is known yet but a catalog and an offset
pub record IsFresh (base : Lists) (at room : ℕ) (s : Survey) : Type 0 where
  pub catalog : s.catalog ≡ base
  pub begin : s.begin ≡ at
  pub end : s.end ≡ at
  pub since : s.since ≡ at
  pub offices : s.offices.entries ≡ []
  pub empty : IsEmpty s.places.lists
  pub most : s.most ≡ room
  pub given_up : s.given_up ≡ None

-- subscriptions are served, if they are started
pub record ServesAll (old : Survey) (subscriptions : List Subscription) (new : Survey) : Type 0 where
  pub all : AllByRecursion (IsServed new) subscriptions
  pub since : (user : Name) → since_of new user ≡ since_of old user
  pub only : (user : Name) (k : Key) → Contains (keys_at new.offices user) k → Contains (keys_at old.offices user) k ⊎ IsOfStarted subscriptions user k
  pub knows : StillKnows old new
  pub catalog : new.catalog ≡ old.catalog
