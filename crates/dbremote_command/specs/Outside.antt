-- All that a run touches.
use Rattle.std.specs.Prelude.{◌≡◌, ◌⊎◌, ℕ, true, false, List, [], ◌∷◌, IsTrue}
use Rattle.sr_book.specs.Entries.{Name}
use Rattle.sr_database_history.specs.Recorded.{Recorded}
use Rattle.sr_site.specs.Happenings.{IsMoment, attached}
use Rattle.sr_site.specs.Seen.{Seen}
use Rattle.sr_site.specs.Streams.{Input, Output}
use Rattle.sr_database_meaning.specs.Events.{attaches_in}
use Rattle.sr_database_meaning.specs.Standing.{StandsAs}

pub record Outside : Type 0 where
  pub site : Seen
  pub input : Input
  pub output : Output

-- all of it from its parts
abbrev pub outside : Seen → Input → Output → Outside
outside site input output = record { site = site; input = input; output = output }

-- the first that happened is that the site was attached to the files of this name and to this mail folder; and it was not attached again
pub record AttachedOnce (name mail : List ℕ) (before now : Seen) : Type 0 where
  pub first : IsMoment (attached name mail true ∷ before.happened) now.happened
  pub once : attaches_in now.happened ≡ attached name mail true ∷ attaches_in before.happened

abbrev pub IsAttached : List ℕ → List ℕ → Seen → Seen → Type 0
IsAttached name mail before now = IsTrue before.observable → AttachedOnce name mail before now

-- all that happened is that this was refused
abbrev pub IsAttachRefused : List ℕ → List ℕ → Seen → Seen → Type 0
IsAttachRefused name mail before now = IsTrue before.observable → now.happened ≡ attached name mail false ∷ before.happened

-- the one or the other
abbrev pub IsAttachTried : List ℕ → List ℕ → Seen → Seen → Type 0
IsAttachTried name mail before now = IsAttached name mail before now ⊎ IsAttachRefused name mail before now

-- the first that happened is that the site was attached so; and where its files stood for a history it was not attached again
pub record AttachedForHistory (name mail : List ℕ) (before now : Seen) : Type 0 where
  pub first : IsMoment (attached name mail true ∷ before.happened) now.happened
  pub once : (publisher : Name) (es : List Recorded) → StandsAs publisher es before.files → attaches_in now.happened ≡ attached name mail true ∷ attaches_in before.happened

abbrev pub IsAttachedForHistory : List ℕ → List ℕ → Seen → Seen → Type 0
IsAttachedForHistory name mail before now = IsTrue before.observable → AttachedForHistory name mail before now

-- this, or it was refused
abbrev pub IsAttachTriedForHistory : List ℕ → List ℕ → Seen → Seen → Type 0
IsAttachTriedForHistory name mail before now = IsAttachedForHistory name mail before now ⊎ IsAttachRefused name mail before now

-- all that a source had left was read, and it is this text
pub record HasRead (old new : Input) (text : List ℕ) : Type 0 where
  pub was : IsTrue old.observable → old.left ≡ text
  pub left : IsTrue old.observable → new.left ≡ []
  pub steady : new.faults ≡ old.faults
