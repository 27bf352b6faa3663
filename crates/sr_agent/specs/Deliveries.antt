-- The send pass: messages for each partner in order. Deliveries stand with the newest first.
use Rattle.std.specs.Prelude.{◌≡◌, ⊤, ℕ, true, List, [], ◌∷◌, ◌++◌, length, None}
use Rattle.std.specs.List.{AllByRecursion}
use Rattle.sr_book.specs.Entries.{Name}
use Rattle.sr_mail_cut.specs.Bodies.{first_long}
use Rattle.sr_database_history.specs.Folds.{state_of, books_of}
use Rattle.sr_database_history.specs.Recorded.{Recorded}
use Rattle.sr_msgform.specs.Messages.{IsMessage}
use Rattle.sr_msgform.specs.declared.message.Message.{Message}
use Rattle.sr_send.specs.PutFiles.{address_in, noted_put_files}
use Rattle.sr_send.specs.Passes.{AreAll, sent_end, waiting}
use Rattle.sr_site.specs.Happenings.{Happening, sent as sent_file}
use Rattle.sr_database_meaning.specs.Events.{Event, commit, put, commits}
use Rattle.sr_agent.specs.Lines.{Line, sent}
use Rattle.sr_agent.specs.declared.partner.Partner.{Partner}

-- what happens to the mail as the files of a trace are put, each of them done
abbrev pub with_puts : List Event → List Happening → List Happening
with_puts [] before = before
with_puts (commit r ∷ events) before = with_puts events before
with_puts (put address name bytes ∷ events) before = with_puts events (sent_file address name bytes true ∷ before)

-- ---- one partner

-- a partner, where the log that was sent from begins, and the messages that were put for him, in order
pub record Delivery : Type 0 where
  pub base : ℕ
  pub partner : Partner
  pub messages : List Message

-- the one cut of what the history gives him past what he was sent, behind the base of the log, where a message is due, and else none; each message can be read again
pub record IsDelivery (publisher : Name) (es : List Recorded) (limit : ℕ) (d : Delivery) : Type 0 where
  pub are : AreAll d.base publisher es d.partner.user (books_of d.partner.user es) d.partner.ask limit d.messages
  pub spelled : AllByRecursion IsMessage d.messages
  pub fits : first_long (waiting d.base publisher es d.partner.user (books_of d.partner.user es)) ≡ None

-- the folder that his messages are put into, by the catalog as it is then
abbrev pub folder_of : Name → List Recorded → Name → Name
folder_of publisher es user = address_in (state_of publisher es).catalog user

-- what it adds to the trace: the files of the messages, and then their note; nothing where there is none
abbrev pub delivery_events : Name → List Recorded → Delivery → List Event
delivery_events publisher es d =
    noted_put_files (folder_of publisher es d.partner.user) d.partner.user (books_of d.partner.user es) (sent_end d.base publisher es d.partner.user (books_of d.partner.user es)) d.messages

abbrev pub delivery_line : Name → List Recorded → Delivery → Line
delivery_line publisher es d = sent d.partner.user (length d.messages) (sent_end d.base publisher es d.partner.user (books_of d.partner.user es)).0

-- ---- partners, each on the history with the notes of those before him

-- with what one more adds to the trace
abbrev pub events_with : Name → List Recorded → Delivery → List Event → List Event
events_with publisher es d added = added ++ delivery_events publisher (es ++ commits added) d

abbrev pub deliveries_events : Name → List Recorded → List Delivery → List Event
deliveries_events publisher es [] = []
deliveries_events publisher es (d ∷ earlier) = events_with publisher es d (deliveries_events publisher es earlier)

-- the history that deliveries leave
abbrev pub after_deliveries : Name → List Recorded → List Delivery → List Recorded
after_deliveries publisher es deliveries = es ++ commits (deliveries_events publisher es deliveries)

abbrev pub AreDeliveries : Name → List Recorded → ℕ → List Delivery → Type 0
AreDeliveries publisher es limit [] = ⊤
AreDeliveries publisher es limit (d ∷ earlier) = AreDeliveries publisher es limit earlier × IsDelivery publisher (after_deliveries publisher es earlier) limit d

abbrev pub deliveries_lines : Name → List Recorded → List Delivery → List Line
deliveries_lines publisher es [] = []
deliveries_lines publisher es (d ∷ earlier) = deliveries_lines publisher es earlier ++ delivery_line publisher (after_deliveries publisher es earlier) d ∷ []

-- each is from a log that begins there
abbrev pub AreBased : ℕ → List Delivery → Type 0
AreBased base [] = ⊤
AreBased base (d ∷ earlier) = AreBased base earlier × (d.base ≡ base)

-- to whom, in order, and whether an ask was due
abbrev pub sent_to : List Delivery → List Partner
sent_to [] = []
sent_to (d ∷ earlier) = sent_to earlier ++ d.partner ∷ []
