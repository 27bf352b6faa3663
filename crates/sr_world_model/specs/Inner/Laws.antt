-- What the laws of worlds say, of layers below that are given: which steps are allowed, what is taken of windows, and what keeps a world good.
-- Here is what no contract of the program says by itself.
use Rattle.std.specs.Prelude.{◌≡◌, ℕ, ◌<◌, ◌≤◌, List, [], ◌∷◌, ◌++◌, All, map}
use Rattle.sr_base.specs.declared.offset.Offset.{Offset}
use Rattle.sr_book.specs.declared.note.Note.TheVariants.{Sent}
use Rattle.sr_book.specs.Entries.{Name, from_user, noted}
use Rattle.sr_book.specs.Histories.{taken_end, book_of}
use Rattle.sr_book.specs.Rising.{Rises, top, offsets}
use Rattle.sr_msgform.specs.declared.message.Message.{Message}
use Rattle.sr_world_model.specs.Layers.{Layers}
use Rattle.sr_world_model.specs.Runs.{WorldRun, after_world_runs, AreWorldRuns}
use Rattle.sr_world_model.specs.Steps.{DatabaseStep, append, CanDoAll, CanTake, Chain, Covers, HasAllFragments, history_after_all, messages_after_all}
use Rattle.sr_world_model.specs.Windows.{past, window}
use Rattle.sr_world_model.specs.Worlds.{World, AreAmong, IsGood, IsNamed, acts_by, after_all, history}
use Rattle.sr_world_model.specs.Inner.Steps.{AreLawfulAfter, Take}
use Rattle.sr_world_model.specs.Inner.Worlds.{IsAllowed, AreAllowed}

module _ {Entry Ops : Type 0} (p : Layers Entry Ops) (HasSpelling : (ℕ × Ops) → Type 0) (lawful : Name → List Entry → Type 0) where
  -- ---- steps of one database

  -- steps that its history and some messages allow, and then others that what these leave allows, are together allowed
  abbrev pub AllowedStepsJoin : Type 0
  AllowedStepsJoin = (messages : List Message) (d : Name) (es : List Entry) (database_steps more : List (DatabaseStep Entry))
      → CanDoAll p HasSpelling lawful messages d es database_steps
      → CanDoAll p HasSpelling lawful (messages_after_all messages database_steps) d (history_after_all es database_steps) more
      → CanDoAll p HasSpelling lawful messages d es (database_steps ++ more)

  -- steps that its history and some messages allow are allowed in every world that has this history, and these messages among others
  abbrev pub StepsAreAllowedInWorlds : Type 0
  StepsAreAllowedInWorlds = (messages : List Message) (d : Name) (es : List Entry) (database_steps : List (DatabaseStep Entry)) (w : World Entry)
      → IsNamed w d → history w d ≡ es → AreAmong messages w.messages → CanDoAll p HasSpelling lawful messages d es database_steps
      → AreAllowed p HasSpelling lawful w (acts_by d database_steps)

  -- and they leave each such world good that was good
  abbrev pub StepsKeepWorldsGood : Type 0
  StepsKeepWorldsGood = (messages : List Message) (d : Name) (es : List Entry) (database_steps : List (DatabaseStep Entry)) (w : World Entry)
      → IsNamed w d → history w d ≡ es → AreAmong messages w.messages → CanDoAll p HasSpelling lawful messages d es database_steps
      → IsGood p lawful w → IsGood p lawful (after_all w (acts_by d database_steps))

  -- ---- runs

  -- runs that are allowed leave a good world good also where the last of them breaks off anywhere
  abbrev pub RunsMayBreakOff : Type 0
  RunsMayBreakOff = (w : World Entry) (runs : List (WorldRun Entry)) (owner : Name) (known : List Message) (database_steps more : List (DatabaseStep Entry))
      → IsGood p lawful w
      → AreWorldRuns p HasSpelling lawful w (runs ++ record { owner = owner; known = known; database_steps = database_steps ++ more } ∷ [])
      → IsGood p lawful (after_world_runs w (runs ++ record { owner = owner; known = known; database_steps = database_steps } ∷ []))

  -- ---- windows

  -- a whole window that begins at what was taken, or before it, is taken to its end: entries that take its transactions past that, each of which leaves
  -- the history lawful, may be appended one after the other
  abbrev pub WholeWindowsAreTaken : Type 0
  WholeWindowsAreTaken = (messages : List Message) (d user : Name) (prev upto : ℕ) (txs : List (ℕ × Ops)) (es new : List Entry)
      → HasAllFragments messages user d prev upto (p.encode txs) → All HasSpelling txs → Rises prev (offsets txs) → top prev (offsets txs) ≤ upto
      → prev ≤ taken_end p.sees user es → Take p user (past (taken_end p.sees user es) txs) new → AreLawfulAfter lawful d es new
      → CanDoAll p HasSpelling lawful messages d es (map append new)

  -- two takes of one partner that are allowed in a good world are one entry, whichever windows they come from
  abbrev pub TakesAreOne : Type 0
  TakesAreOne = (w : World Entry) (d user : Name) (e f : Entry) (place place' : ℕ) (ops ops' : Ops) → IsGood p lawful w
      → p.sees e ≡ from_user user place ops → p.sees f ≡ from_user user place' ops'
      → IsAllowed p HasSpelling lawful w (record { owner = d; database_step = append e })
      → IsAllowed p HasSpelling lawful w (record { owner = d; database_step = append f }) → e ≡ f

  -- in a good world some transaction may be taken from a whole window that begins no later than the receiver has taken, and ends past that
  abbrev pub WholeWindowsGiveMore : Type 0
  WholeWindowsGiveMore = (w : World Entry) (d user : Name) (prev upto : ℕ) (bytes : List ℕ) → IsGood p lawful w
      → HasAllFragments w.messages user d prev upto bytes → prev ≤ taken_end p.sees user (history w d) → taken_end p.sees user (history w d) < upto
      → (place : ℕ) × (ops : Ops) × CanTake p HasSpelling w.messages d (history w d) user place ops

  -- in a good world what may be noted as sent was put: windows lead there from what was noted last, with all that is given between, no more and no less
  abbrev pub WhatIsNotedWasPut : Type 0
  WhatIsNotedWasPut = (w : World Entry) (d user : Name) (e : Entry) (end confirm : Offset) (count : ℕ) → IsGood p lawful w
      → p.sees e ≡ noted user (Sent end count confirm) → IsAllowed p HasSpelling lawful w (record { owner = d; database_step = append e })
      → (windows : List (ℕ × List ℕ)) × Chain w.messages d user (book_of p.sees user (history w d)).log_sent end.0 windows
      × Covers p windows (window (book_of p.sees user (history w d)).log_sent end.0 (p.given d user (history w d)))
