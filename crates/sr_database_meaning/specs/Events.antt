-- What a call did to the world, one thing after the other: entries that it committed, messages that it put.
use Rattle.std.specs.Prelude.{ℕ, List, [], ◌∷◌, ◌++◌}
use Rattle.sr_book.specs.Entries.{Name}
use Rattle.sr_database_history.specs.Recorded.{Recorded}
use Rattle.sr_site.specs.Happenings.{Happening, attached, wrote, cut_to, synced, listed, fetched, sent, removed, handed_over}

-- each counts from the moment it begins
pub data Event : Type 0 where
  commit : Recorded → Event
  -- the folder's address, the file's name, its bytes
  put : Name → List ℕ → List ℕ → Event

-- the entries that were committed, in order
abbrev pub commits : List Event → List Recorded
commits [] = []
commits (commit r ∷ events) = r ∷ commits events
commits (put address name bytes ∷ events) = commits events

-- an address, a name and bytes
abbrev pub PutFile : Type 0
PutFile = Name × List ℕ × List ℕ

-- the messages that were put, in order
abbrev pub puts : List Event → List PutFile
puts [] = []
puts (commit r ∷ events) = puts events
puts (put address name bytes ∷ events) = (address, name, bytes) ∷ puts events

-- the messages of all puts that were begun at a site, in order
abbrev pub puts_in : List Happening → List PutFile
puts_in [] = []
puts_in (attached name folder done ∷ before) = puts_in before
puts_in (wrote file place bytes done after ∷ before) = puts_in before
puts_in (cut_to file to done after ∷ before) = puts_in before
puts_in (synced file done after ∷ before) = puts_in before
puts_in (listed address folder listing ∷ before) = puts_in before
puts_in (fetched address name limit found ∷ before) = puts_in before
puts_in (sent address name bytes done ∷ before) = puts_in before ++ (address, name, bytes) ∷ []
puts_in (removed address name done ∷ before) = puts_in before
puts_in (handed_over folders noted ∷ before) = puts_in before

-- the attaches that were begun at a site, the newest first
abbrev pub attaches_in : List Happening → List Happening
attaches_in [] = []
attaches_in (attached name folder done ∷ before) = attached name folder done ∷ attaches_in before
attaches_in (wrote file place bytes done after ∷ before) = attaches_in before
attaches_in (cut_to file to done after ∷ before) = attaches_in before
attaches_in (synced file done after ∷ before) = attaches_in before
attaches_in (listed address folder listing ∷ before) = attaches_in before
attaches_in (fetched address name limit found ∷ before) = attaches_in before
attaches_in (sent address name bytes done ∷ before) = attaches_in before
attaches_in (removed address name done ∷ before) = attaches_in before
attaches_in (handed_over folders noted ∷ before) = attaches_in before

-- no commit is under way: nothing has happened yet, or the last that did is a call of the mail, or that folders were handed over
abbrev pub IsBetween : List Happening → Type 0
IsBetween [] = Unit {0}
IsBetween (attached name folder done ∷ before) = ⊥
IsBetween (wrote file place bytes done after ∷ before) = ⊥
IsBetween (cut_to file to done after ∷ before) = ⊥
IsBetween (synced file done after ∷ before) = ⊥
IsBetween (listed address folder listing ∷ before) = Unit {0}
IsBetween (fetched address name limit found ∷ before) = Unit {0}
IsBetween (sent address name bytes done ∷ before) = Unit {0}
IsBetween (removed address name done ∷ before) = Unit {0}
IsBetween (handed_over folders noted ∷ before) = Unit {0}
