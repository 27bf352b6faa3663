-- How a call went through its trace: what was put, and what the files stand for, at each of its moments.
use Rattle.std.specs.Prelude.{◌≡◌, ◌⊎◌, List, [], ◌∷◌, ◌++◌}
use Rattle.std.specs.List.{AllByRecursion}
use Rattle.sr_book.specs.Entries.{Name}
use Rattle.sr_database_history.specs.Recorded.{Recorded}
use Rattle.sr_site.specs.Files.{Files}
use Rattle.sr_site.specs.Happenings.{Happening, IsCall}
use Rattle.sr_site.specs.Images.{MayLeave}
use Rattle.sr_site.specs.Seen.{Seen}
use Rattle.sr_database_meaning.specs.Bases.{KeepsBase}
use Rattle.sr_database_meaning.specs.Events.{Event, commit, commits, puts, puts_in, attaches_in, IsBetween}
use Rattle.sr_database_meaning.specs.Standing.{StandsAs}

-- files stand for a history that goes on with the commits that have begun, but for the last of them, where this is the last that has begun
pub record LacksLast (publisher : Name) (es : List Recorded) (begun : List Event) (files : Files) : Type 0 where
  pub others : List Event
  pub last : Recorded
  pub is : begun ≡ others ++ commit last ∷ []
  pub stands : StandsAs publisher (es ++ commits others) files

-- what a crash may leave once these items have begun: the history with their commits, or without the last where this has just begun
abbrev pub MayStandFor : Name → List Recorded → List Event → Files → Type 0
MayStandFor publisher es begun files = StandsAs publisher (es ++ commits begun) files ⊎ LacksLast publisher es begun files

-- once this has happened since an earlier moment, these items have begun: these messages were put, and this is what a crash may leave. While
-- no commit is under way, none may be missing
pub record HasBegun (first : Files) (publisher : Name) (es : List Recorded) (before : List Happening) (begun : List Event) (since : List Happening) : Type 0 where
  pub put : puts_in since ≡ puts begun
  pub images : (image : Files) → MayLeave first (since ++ before) image → MayStandFor publisher es begun image
  pub settled : IsBetween since → (image : Files) → MayLeave first (since ++ before) image → StandsAs publisher (es ++ commits begun) image

-- a prefix of the trace has begun
pub record IsOnTrace (first : Files) (publisher : Name) (es : List Recorded) (before : List Happening) (trace : List Event) (since : List Happening) : Type 0 where
  pub begun : List Event
  pub left : List Event
  pub prefix : trace ≡ begun ++ left
  pub has : HasBegun first publisher es before begun since

-- at each moment as these happened, the newest first: before all of them, and after each
abbrev pub AtEach : (List Happening → Type 0) → List Happening → Type 0
AtEach holds [] = holds []
AtEach holds (step ∷ more) = holds (step ∷ more) × AtEach holds more

-- at one of these moments no commit was under way, and what a crash may leave is the history with the commits of this front
pub record Joint (first : Files) (publisher : Name) (es : List Recorded) (before : List Happening) (prefix : List Event) (more : List Happening) : Type 0 where
  pub later : List Happening
  pub since : List Happening
  pub is : more ≡ later ++ since
  pub settled : (image : Files) → MayLeave first (since ++ before) image → StandsAs publisher (es ++ commits prefix) image

-- so it is before each item of the trace: the one before it is done then
abbrev pub HasJoints : Files → Name → List Recorded → List Happening → List Event → List Happening → Type 0
HasJoints first publisher es before trace more = (prefix back : List Event) (event : Event) → trace ≡ prefix ++ event ∷ back → Joint first publisher es before prefix more

-- at each moment from the one to the other a prefix of the trace has begun, and at the end all of it; no other files were attached, all that happened
-- are calls, and the log was not begun anew
pub record GoesThrough (before now : Seen) (publisher : Name) (es : List Recorded) (trace : List Event) : Type 0 where
  pub observable : now.observable ≡ before.observable
  pub first : now.first ≡ before.first
  pub attached : attaches_in now.happened ≡ attaches_in before.happened
  pub more : List Happening
  pub is : now.happened ≡ more ++ before.happened
  pub calls : AllByRecursion IsCall more
  pub moments : AtEach (IsOnTrace before.first publisher es before.happened trace) more
  pub end : HasBegun before.first publisher es before.happened trace more
  pub joints : HasJoints before.first publisher es before.happened trace more
  pub base : KeepsBase before now

-- between two moments of a site it went through a trace, from files that stood for this history
unfoldable pub Went : Seen → Seen → Name → List Recorded → List Event → Type 0
Went before now publisher es trace = GoesThrough before now publisher es trace
