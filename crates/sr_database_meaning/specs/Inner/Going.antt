-- When a site goes through a trace of one item, and what it passed on its way through one.
-- Here is what no contract of the program says by itself.
use Rattle.std.specs.Prelude.{◌≡◌, ◌⊎◌, List, [], ◌∷◌, ◌++◌}
use Rattle.sr_book.specs.Entries.{Name}
use Rattle.sr_database_history.specs.Recorded.{Recorded}
use Rattle.sr_site.specs.Files.{Files}
use Rattle.sr_site.specs.Happenings.{Happening, mail_in}
use Rattle.sr_site.specs.Images.{IsSettled, RestsThroughout}
use Rattle.sr_site.specs.Seen.{Seen}
use Rattle.sr_database_meaning.specs.Bases.{KeepsBase}
use Rattle.sr_database_meaning.specs.Events.{Event, attaches_in}
use Rattle.sr_database_meaning.specs.Standing.{StandsAs}
use Rattle.sr_database_meaning.specs.Traces.{Joint}

-- files stand for a history, or for it and one entry more
abbrev pub StandsWithOrWithout : Name → List Recorded → Recorded → Files → Type 0
StandsWithOrWithout publisher es r image = StandsAs publisher es image ⊎ StandsAs publisher (es ++ r ∷ []) image

-- this is so where, between two moments of a site that was settled, one entry is committed: something happens but no call of the mail and no attach,
-- whatever a crash may leave at each moment stands for the history before or for it and the entry, and the log is not begun anew
abbrev pub WhereOneIsCommitted : Seen → Seen → Name → List Recorded → Recorded → Type 0 → Type 0
WhereOneIsCommitted before now publisher es r This = now.observable ≡ before.observable → now.first ≡ before.first
    → IsSettled (StandsAs publisher es) before → mail_in now.happened ≡ mail_in before.happened → attaches_in now.happened ≡ attaches_in before.happened
    → ¬ (now.happened ≡ before.happened) → RestsThroughout (StandsWithOrWithout publisher es r) before now → KeepsBase before now → This

-- this is so where, between two moments of a site that was settled, one put happens, done or not, and nothing else
abbrev pub WhereOneIsPut : Seen → Seen → Name → List Recorded → Happening → Type 0 → Type 0
WhereOneIsPut before now publisher es happening This = IsSettled (StandsAs publisher es) before
    → now.observable ≡ before.observable → now.first ≡ before.first → now.happened ≡ happening ∷ before.happened → This

-- on the way from one moment to another there was, before each item of the trace, a moment at which all that a crash may leave has just the items before it
abbrev pub HasPassedJoints : Seen → Seen → Name → List Recorded → List Event → Type 0
HasPassedJoints before now publisher es trace = (prefix back : List Event) (event : Event) → trace ≡ prefix ++ event ∷ back
    → (more : List Happening) × (now.happened ≡ more ++ before.happened) × Joint before.first publisher es before.happened prefix more
