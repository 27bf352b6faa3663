-- Where a database stands among those that are shown, and its log with an entry more.
use Rattle.std.specs.Prelude.{◌≡◌, ℕ, zero, suc, List, [], ◌∷◌, ◌++◌, length}
use Rattle.std.specs.List.{AllByRecursion}
use Rattle.sr_base.specs.declared.offset.Offset.{Offset}
use Rattle.sr_book.specs.Entries.{Name}
use Rattle.sr_logform.specs.declared.entry.Entry.{Entry}

-- the entries of a log, each with the offset at which it ends
abbrev pub Log : Type 0
Log = List (Offset × Entry)

-- a database by its name, with its log
abbrev pub History : Type 0
History = Name × Log

-- none of these is of this name
abbrev pub NoneIs : Name → List History → Type 0
NoneIs d histories = AllByRecursion (λ h. ¬ (h.0 ≡ d)) histories

-- the first of this name stands at a place, and has this log
pub record StandsAt (d : Name) (histories : List History) (place : ℕ) (log : Log) : Type 0 where
  pub before : List History
  pub behind : List History
  pub parts : histories ≡ before ++ (d, log) ∷ behind
  pub count : length before ≡ place
  pub others : NoneIs d before

-- the log at a place has an entry more
abbrev pub with_entry : ℕ → Offset × Entry → List History → List History
with_entry place item [] = []
with_entry zero item (h ∷ histories) = (h.0, h.1 ++ item ∷ []) ∷ histories
with_entry (suc place) item (h ∷ histories) = h ∷ with_entry place item histories
