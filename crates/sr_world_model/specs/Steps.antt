-- The steps of a world, and what each makes of histories and messages.
use Rattle.std.specs.Prelude.{◌≡◌, ℕ, ◌+◌, ◌-◌, ◌<◌, ◌≤◌, ◌⊎◌, List, [], ◌∷◌, ◌++◌, All, length, map, flat_map, slice_index, Contains}
use Rattle.sr_book.specs.declared.note.Note.{Note}
use Rattle.sr_book.specs.declared.note.Note.TheVariants.{Confirmed, Asked, Raised, Sent}
use Rattle.sr_book.specs.Entries.{Name, Sight, local, from_user, noted}
use Rattle.sr_book.specs.Histories.{taken_end, book_of}
use Rattle.sr_book.specs.Rising.{offsets}
use Rattle.sr_msgform.specs.declared.message.Message.{Message}
use Rattle.sr_world_model.specs.Layers.{Layers}
use Rattle.sr_world_model.specs.Windows.{past}
use Rattle.sr_world_model.specs.Truth.{IsTrueOf}

-- a message among these, from one database to another
pub record Comes (messages : List Message) (sender receiver : Name) : Type 0 where
  pub message : Message
  pub among : Contains messages message
  pub sent_by : message.from ≡ sender
  pub sent_to : message.to ≡ receiver

-- a message is of the window from one offset to another, whose body has this length
pub record IsOfWindow (prev upto total : ℕ) (m : Message) : Type 0 where
  pub begins : m.prev.0 ≡ prev
  pub ends : m.upto.0 ≡ upto
  pub long : m.total ≡ total

-- a message among these is a piece of the window
pub record HasPiece (messages : List Message) (sender receiver : Name) (prev upto total : ℕ) : Type 0 where
  pub comes : Comes messages sender receiver
  pub of_window : IsOfWindow prev upto total comes.message

-- a piece has this byte at this place of the body
pub record HasByte (messages : List Message) (sender receiver : Name) (prev upto total place byte : ℕ) : Type 0 where
  pub piece : HasPiece messages sender receiver prev upto total
  pub from_start : piece.comes.message.start ≤ place
  pub to_end : place < piece.comes.message.start + length piece.comes.message.fragment
  pub is_byte : slice_index piece.comes.message.fragment (place - piece.comes.message.start) ≡ byte

-- a window is whole: it has a piece, and its pieces cover the bytes of its body
pub record HasAllFragments (messages : List Message) (sender receiver : Name) (prev upto : ℕ) (body : List ℕ) : Type 0 where
  pub some_piece : HasPiece messages sender receiver prev upto (length body)
  pub covered : (place : ℕ) → place < length body →
      HasByte messages sender receiver prev upto (length body) place (slice_index body place)

-- windows lead from one offset to another, each whole, each beginning where the one before it ends
abbrev pub Chain : List Message → Name → Name → ℕ → ℕ → List (ℕ × List ℕ) → Type 0
Chain messages sender receiver prev upto [] = prev ≡ upto
Chain messages sender receiver prev upto (next ∷ windows) =
    HasAllFragments messages sender receiver prev next.0 next.1 × Chain messages sender receiver next.0 upto windows

module _ {Entry Ops : Type 0} (p : Layers Entry Ops) where
  -- windows have the bodies of lists of transactions, which joined in order are these
  pub record Covers (windows : List (ℕ × List ℕ)) (transactions : List (ℕ × Ops)) : Type 0 where
    pub lists : List (List (ℕ × Ops))
    pub bodies : map p.encode lists ≡ map (λ next. next.1) windows
    pub joined : flat_map (λ list. list) lists ≡ transactions

  -- messages may be noted as sent: whole windows lead from what was sent to here; none is wanted where that is here
  pub record HasSent (messages : List Message) (d : Name) (es : List Entry) (user : Name) (upto count confirm : ℕ) : Type 0 where
    pub windows : List (ℕ × List ℕ)
    pub chain : Chain messages d user (book_of p.sees user es).log_sent upto windows
    pub given_there : (upto ≡ (book_of p.sees user es).log_sent)
        ⊎ (((book_of p.sees user es).log_sent < upto) × Contains (offsets (p.given d user es)) upto)
    pub some_message : 1 ≤ count
    pub confirms : confirm ≡ (book_of p.sees user es).log_received

  -- a note of a user may be made
  abbrev pub CanNote : List Message → Name → List Entry → Name → Note → Type 0
  CanNote messages d es user (Confirmed place) = (came : Comes messages user d) × (came.message.confirm ≡ place)
      × (((book_of p.sees user es).confirm_sent < place.0) ⊎ ((book_of p.sees user es).log_sent < place.0))
  CanNote messages d es user (Asked count place) = (came : Comes messages user d) × (came.message.ask_count ≡ count)
      × (came.message.ask_offset ≡ place) × ((book_of p.sees user es).resend_count < count)
  CanNote messages d es user Raised = (came : Comes messages user d) × (taken_end p.sees user es < came.message.upto.0)
  CanNote messages d es user (Sent end count confirm) = HasSent messages d es user end.0 count confirm.0

module _ {Entry Ops : Type 0} (p : Layers Entry Ops) (HasSpelling : (ℕ × Ops) → Type 0) where
  -- a transaction of a user may be taken: it is the first past what was taken, in a whole window that begins no later
  pub record CanTake (messages : List Message) (d : Name) (es : List Entry) (user : Name) (place : ℕ) (ops : Ops) : Type 0 where
    pub prev : ℕ
    pub upto : ℕ
    pub transactions : List (ℕ × Ops)
    pub rest : List (ℕ × Ops)
    pub is_whole : HasAllFragments messages user d prev upto (p.encode transactions)
    pub have_spellings : All HasSpelling transactions
    pub reached : prev ≤ taken_end p.sees user es
    pub ahead : taken_end p.sees user es < upto
    pub first : past (taken_end p.sees user es) transactions ≡ (place, ops) ∷ rest

  -- what a database may append, by its history and the messages alone
  abbrev pub CanAppend : List Message → Name → List Entry → Sight Ops → Type 0
  CanAppend messages d es local = Unit {0}
  CanAppend messages d es (from_user user place ops) = CanTake messages d es user place ops
  CanAppend messages d es (noted user note) = CanNote p messages d es user note

-- what a database does: an entry (a commit, a take, a note, a note of what was sent), a message put, a crash
pub data DatabaseStep (Entry : Type 0) : Type 0 where
  append : Entry → DatabaseStep Entry
  put : Message → DatabaseStep Entry
  crash : DatabaseStep Entry

-- the history after a step
abbrev pub history_after : {Entry : Type 0} → List Entry → DatabaseStep Entry → List Entry
history_after es (append e) = es ++ e ∷ []
history_after es (put m) = es
history_after es crash = es

-- the messages after a step: all that were ever put
abbrev pub messages_after : {Entry : Type 0} → List Message → DatabaseStep Entry → List Message
messages_after messages (append e) = messages
messages_after messages (put m) = messages ++ m ∷ []
messages_after messages crash = messages

-- the history and the messages after some steps
abbrev pub history_after_all : {Entry : Type 0} → List Entry → List (DatabaseStep Entry) → List Entry
history_after_all es [] = es
history_after_all es (database_step ∷ database_steps) = history_after_all (history_after es database_step) database_steps

abbrev pub messages_after_all : {Entry : Type 0} → List Message → List (DatabaseStep Entry) → List Message
messages_after_all messages [] = messages
messages_after_all messages (database_step ∷ database_steps) = messages_after_all (messages_after messages database_step) database_steps

module _ {Entry Ops : Type 0} (p : Layers Entry Ops) (HasSpelling : (ℕ × Ops) → Type 0) (lawful : Name → List Entry → Type 0) where
  -- a database may do this, by its history and the messages alone
  abbrev pub CanDo : List Message → Name → List Entry → DatabaseStep Entry → Type 0
  CanDo messages d es (append e) = CanAppend p HasSpelling messages d es (p.sees e) × lawful d (es ++ e ∷ [])
  CanDo messages d es (put m) = IsTrueOf p d es m
  CanDo messages d es crash = Unit {0}

  -- and all of these, one after the other
  abbrev pub CanDoAll : List Message → Name → List Entry → List (DatabaseStep Entry) → Type 0
  CanDoAll messages d es [] = Unit {0}
  CanDoAll messages d es (database_step ∷ database_steps) =
      CanDo messages d es database_step × CanDoAll (messages_after messages database_step) d (history_after es database_step) database_steps
