-- Worlds: databases with their histories, and messages.
use Rattle.std.specs.Prelude.{◌≡◌, ℕ, ◌≤◌, List, [], ◌∷◌, ◌++◌, map, if◌then◌else◌, Contains}
use Rattle.std.specs.Str.{bytes_eq}
use Rattle.sr_book.specs.Entries.{Name}
use Rattle.sr_book.specs.Histories.{taken, taken_end, book_of, asked}
use Rattle.sr_book.specs.Rising.{Rises}
use Rattle.sr_msgform.specs.declared.message.Message.{Message}
use Rattle.sr_world_model.specs.Layers.{Layers, end_of}
use Rattle.sr_world_model.specs.Steps.{DatabaseStep, history_after, messages_after}
use Rattle.sr_world_model.specs.Truth.{IsTrueOf}

-- databases by name, each with its history, and all messages that were ever put
pub record World (Entry : Type 0) : Type 0 where
  pub histories : List (Name × List Entry)
  pub messages : List Message

-- a step: a database and what it does
pub record WorldStep (Entry : Type 0) : Type 0 where
  pub owner : Name
  pub database_step : DatabaseStep Entry

-- databases of these names with empty histories, and no message
abbrev pub fresh_world : {Entry : Type 0} → List Name → World Entry
fresh_world names = record { histories = map (λ name. (name, [])) names; messages = [] }

-- each of these messages is among those
abbrev pub AreAmong : List Message → List Message → Type 0
AreAmong fewer messages = (m : Message) → Contains fewer m → Contains messages m

-- the history of this name, empty where there is none
abbrev pub history_in : {Entry : Type 0} → Name → List (Name × List Entry) → List Entry
history_in d [] = []
history_in d (h ∷ hs) = if bytes_eq d h.0 then h.1 else history_in d hs

-- the history of a database in a world
abbrev pub history : {Entry : Type 0} → World Entry → Name → List Entry
history w d = history_in d w.histories

-- the histories after a step of one database
abbrev pub histories_after : {Entry : Type 0} → List (Name × List Entry) → Name → DatabaseStep Entry → List (Name × List Entry)
histories_after [] d database_step = []
histories_after (h ∷ hs) d database_step = if bytes_eq d h.0
    then (h.0, history_after h.1 database_step) ∷ hs
    else h ∷ histories_after hs d database_step

-- the world after a step
abbrev pub happens : {Entry : Type 0} → World Entry → WorldStep Entry → World Entry
happens w act = record {
  histories = histories_after w.histories act.owner act.database_step;
  messages = messages_after w.messages act.database_step;
}

-- the world after some steps
abbrev pub after_all : {Entry : Type 0} → World Entry → List (WorldStep Entry) → World Entry
after_all w [] = w
after_all w (act ∷ acts) = after_all (happens w act) acts

-- the world has a database of this name
abbrev pub IsNamed : {Entry : Type 0} → World Entry → Name → Type 0
IsNamed w d = Contains (map (λ h. h.0) w.histories) d

-- steps of one database as steps
abbrev pub acts_by : {Entry : Type 0} → Name → List (DatabaseStep Entry) → List (WorldStep Entry)
acts_by d database_steps = map (λ database_step. record { owner = d; database_step = database_step }) database_steps

module _ {Entry Ops : Type 0} (p : Layers Entry Ops) where
  -- of a database's history and that of a user: it took a beginning of what the user's history gives it,
  -- and what its book has as confirmed by the user is at most what the user took
  pub record AreInStep (d user : Name) (es us : List Entry) : Type 0 where
    pub rest : List (ℕ × Ops)
    pub taken_first : p.given user d us ≡ taken p.sees user es ++ rest
    pub confirmed : (book_of p.sees user es).confirm_sent ≤ taken_end p.sees d us

  -- the book of a user is in order, and the counts of its asks rise
  pub record IsInOrder (user : Name) (es : List Entry) : Type 0 where
    pub confirmed_sent : (book_of p.sees user es).confirm_sent ≤ (book_of p.sees user es).log_sent
    pub sent_stands : (book_of p.sees user es).log_sent ≤ end_of p es
    pub confirmed_received : (book_of p.sees user es).confirm_received ≤ (book_of p.sees user es).log_received
    pub asks_rise : Rises 0 (asked p.sees user es)

module _ {Entry Ops : Type 0} (p : Layers Entry Ops) (lawful : Name → List Entry → Type 0) where
  -- a good world
  pub record IsGood (w : World Entry) : Type 0 where
    -- every history keeps every rule
    pub are_lawful : (d : Name) → lawful d (history w d)
    -- every database took a beginning of what each partner gives it, and no confirm passes what was taken
    pub in_step : (d user : Name) → AreInStep p d user (history w d) (history w user)
    -- every book is in order
    pub books : (d user : Name) → IsInOrder p user (history w d)
    -- every message is true of its sender's history
    pub messages : (m : Message) → Contains w.messages m → IsTrueOf p m.from (history w m.from) m
