-- Which messages are true.
use Rattle.std.specs.Prelude.{◌≡◌, ℕ, ◌≤◌, List, length, take, drop}
use Rattle.sr_book.specs.Entries.{Name}
use Rattle.sr_book.specs.Histories.{taken_end, book_of}
use Rattle.sr_book.specs.Rising.{top, offsets}
use Rattle.sr_msgform.specs.declared.message.Message.{Message}
use Rattle.sr_world_model.specs.Layers.{Layers, end_of}
use Rattle.sr_world_model.specs.Windows.{window}

module _ {Entry Ops : Type 0} (p : Layers Entry Ops) where
  -- the transactions in a message's window, of what the history of a database gives the receiver
  abbrev pub members : Name → List Entry → Message → List (ℕ × Ops)
  members d es m = window m.prev.0 m.upto.0 (p.given d m.to es)

  -- a message is true of the history of a database
  pub record IsTrueOf (d : Name) (es : List Entry) (m : Message) : Type 0 where
    -- that database sent it
    pub sent_by : m.from ≡ d
    -- the window ends at its last transaction; an empty one ends where it begins
    pub ends_at : top m.prev.0 (offsets (members d es m)) ≡ m.upto.0
    -- it ends within the history
    pub stands : m.upto.0 ≤ end_of p es
    -- the body is that of the window, of this length
    pub total : m.total ≡ length (p.encode (members d es m))
    -- the fragment is the body's bytes from `start` on
    pub fragment : m.fragment ≡ take (length m.fragment) (drop m.start (p.encode (members d es m)))
    -- and all of it, where the window has two transactions or more
    pub whole : 2 ≤ length (members d es m) → m.fragment ≡ p.encode (members d es m)
    -- no more is confirmed than was taken
    pub confirm : m.confirm.0 ≤ taken_end p.sees m.to es
    -- nothing is asked for again that lies past it
    pub ask_offset : m.ask_offset.0 ≤ taken_end p.sees m.to es
    -- the ask was raised
    pub ask_count : m.ask_count ≤ (book_of p.sees m.to es).rereceive_count
    -- the asks that it says were noted were noted
    pub resend_count : m.resend_count ≤ (book_of p.sees m.to es).resend_count
