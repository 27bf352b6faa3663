-- Windows that lead on from an offset, and how far.
use Rattle.std.specs.Prelude.{◌≡◌, ℕ, ◌+◌, ◌<◌, ◌≤◌, ◌==◌, ◌||◌, ◌⊎◌, ◌++◌, Bool, true, false, cond, List, [], ◌∷◌, length, Contains}
use Rattle.std.specs.List.{AllByRecursion}
use Rattle.sr_book.specs.Entries.{Name}
use Rattle.sr_msgform.specs.declared.message.Message.{Message}
use Rattle.sr_world_model.specs.Steps.{Chain}

-- whether an offset is among others
abbrev pub has : List ℕ → ℕ → Bool
has [] place = false
has (x ∷ places) place = (x == place) || has places place

-- a message is of the window of another
pub record IsSameWindow (piece m : Message) : Type 0 where
  pub sent_by : piece.from ≡ m.from
  pub sent_to : piece.to ≡ m.to
  pub begins : piece.prev.0 ≡ m.prev.0
  pub ends : piece.upto.0 ≡ m.upto.0
  pub total : piece.total ≡ m.total

-- and its fragment has the byte at a place
pub record Covers (piece m : Message) (place : ℕ) : Type 0 where
  pub window : IsSameWindow piece m
  pub from_start : piece.start ≤ place
  pub to_end : place < piece.start + length piece.fragment

-- some message among these has it
pub record HasCover (messages : List Message) (m : Message) (place : ℕ) : Type 0 where
  pub piece : Message
  pub among : Contains messages piece
  pub covers : Covers piece m place

-- each byte of its window came
abbrev pub IsWhole : List Message → Message → Type 0
IsWhole messages m = (place : ℕ) → place < m.total → HasCover messages m place

-- the message is of a whole window from one database to another that begins at an offset
pub record IsNext (messages : List Message) (sender receiver : Name) (place : ℕ) (m : Message) : Type 0 where
  pub sent_by : m.from ≡ sender
  pub sent_to : m.to ≡ receiver
  pub begins : m.prev.0 ≡ place
  pub whole : IsWhole messages m

-- whole windows lead from one offset to another
abbrev pub Leads : List Message → Name → Name → ℕ → ℕ → Type 0
Leads messages sender receiver from to = (windows : List (ℕ × List ℕ)) × Chain messages sender receiver from to windows

-- the messages that end at no offset among these
abbrev pub missing : List Message → List ℕ → ℕ
missing [] places = 0
missing (m ∷ messages) places = cond (has places m.upto.0) 0 1 + missing messages places

-- the end of a message's window is added, where this is a whole one that begins at the offset, and its end is not there
abbrev pub StepsOn : List Message → Name → Name → ℕ → Message → List ℕ → List ℕ → Type 0
StepsOn messages sender receiver place m before now =
    (IsNext messages sender receiver place m × (has before m.upto.0 ≡ false) × (now ≡ before ++ m.upto.0 ∷ []))
    ⊎ ((now ≡ before) × (IsNext messages sender receiver place m → has before m.upto.0 ≡ true))

-- the ends of the whole windows that begin at an offset are added, but for those of messages that are left; each that is new is such an end, and fewer are
-- missing by as many
pub record ReachesOn (messages : List Message) (sender receiver : Name) (place : ℕ) (before now : List ℕ) (left : List Message) : Type 0 where
  pub more : List ℕ
  pub is : now ≡ before ++ more
  pub each : AllByRecursion (λ u. (m : Message) × Contains messages m × IsNext messages sender receiver place m × (m.upto.0 ≡ u)) more
  pub all : (m : Message) → Contains messages m → IsNext messages sender receiver place m → (has now m.upto.0 ≡ true) ⊎ Contains left m
  pub fewer : missing messages now + length more ≤ missing messages before
