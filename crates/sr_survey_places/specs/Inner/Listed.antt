-- What places are listed under which key, and what one place more changes.
use Rattle.std.specs.Prelude.{◌≡◌, ◌⊎◌, ℕ, ◌≤◌, ◌<◌, Bool, true, false, not, ◌+◌, ◌||◌, List, Option, Some, None, is_some, length}
use Rattle.std.specs.HashMap as table
use Rattle.std.specs.declared.hash.BuildHasherDefault.{BuildHasherDefault}
use Rattle.std.specs.declared.hash.FoldHasher.{FoldHasher}
use Rattle.std.specs.List.{Contains, All, sum_by}
use Rattle.std.specs.Ordering.{is_eq}
use Rattle.sr_survey_places.specs.Inner.Search.{places_in, IsOwn}
use Rattle.sr_survey_places.specs.Inner.Keys.{is_shared, key_cmp, key_eq}
use Rattle.sr_survey_places.specs.declared.key.Key.{Key}
use Rattle.sr_survey_places.specs.declared.place.Place.{Place}

-- lists of places by their keys
abbrev pub ByKey : Type 0
ByKey = table.HashMap Key (List Place) (BuildHasherDefault FoldHasher)

-- the places under a key, in order
abbrev pub under : ByKey → Key → List Place
under lists key = places_in (table.get key_eq lists key)

-- whether a key has a list
abbrev pub has_list : ByKey → Key → Bool
has_list lists key = is_some (table.get key_eq lists key)

-- whether places are listed under a key: under one of rows only once it was begun
abbrev pub is_begun : ByKey → Key → Bool
is_begun lists key = not (is_shared key) || has_list lists key

-- how many places are listed: one under several keys counts under each
abbrev pub count_of : ByKey → ℕ
count_of lists = sum_by (λ (places : List Place). length places) (table.values lists)

-- nothing is listed, and no key of rows is begun
pub record IsEmpty (lists : ByKey) : Type 0 where
  pub none : (key : Key) (place : Place) → ¬ (Contains (under lists key) place)
  pub begun : (key : Key) → has_list lists key ≡ false
  pub count : count_of lists ≡ 0

-- a key more is begun, and all else is as it was
pub record IsBegun (old : ByKey) (key : Key) (new : ByKey) : Type 0 where
  pub there : has_list new key ≡ true
  pub begun : (q : Key) → is_begun old q ≡ true → is_begun new q ≡ true
  pub others : (q : Key) → is_eq (key_cmp key q) ≡ false → has_list new q ≡ has_list old q
  pub same : (q : Key) → under new q ≡ under old q
  pub count : count_of new ≡ count_of old

-- the places under each key, and what is begun, are as they were
pub record IsLeft (old new : ByKey) : Type 0 where
  pub same : (q : Key) → under new q ≡ under old q
  pub begun : (q : Key) → is_begun new q ≡ is_begun old q
  pub count : count_of new ≡ count_of old

-- a place is listed under keys, where they are begun, at most once more under each, and all else is as it was
pub record IsListedUnder (old : ByKey) (keys : List Key) (place : Place) (new : ByKey) : Type 0 where
  pub there : All (λ key. is_begun old key ≡ true → Contains (under new key) place) keys
  pub stays : (q : Key) (x : Place) → Contains (under old q) x → Contains (under new q) x
  pub only : (q : Key) (x : Place) → Contains (under new q) x → Contains (under old q) x ⊎ (Contains keys q × (x ≡ place))
  pub begun : (q : Key) → is_begun new q ≡ is_begun old q
  pub count : count_of new ≤ count_of old + length keys

-- ---- the first of several lists

-- a place is listed under one of some keys
pub record IsUnder (lists : ByKey) (keys : List Key) (place : Place) : Type 0 where
  pub key : Key
  pub among : Contains keys key
  pub there : Contains (under lists key) place

-- the first place under some keys that ends past an offset and is none under another key; none only where there is none
abbrev pub IsFirstAmong : ByKey → List Key → Key → ℕ → Option Place → Type 0
IsFirstAmong lists keys from sent None = (x : Place) → IsUnder lists keys x → sent < x.end → IsOwn (under lists from) x
IsFirstAmong lists keys from sent (Some p) = IsUnder lists keys p × (sent < p.end) × ¬ (IsOwn (under lists from) p)
    × ((x : Place) → IsUnder lists keys x → sent < x.end → ¬ (IsOwn (under lists from) x) → p.end ≤ x.end)
