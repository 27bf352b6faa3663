-- What the passes of a run commit, and whether the receive pass was made.
use Rattle.std.proofs.Common.{◌≡◌, ℕ, ◌+◌, List, [], ◌∷◌, ◌++◌, refl, ap, ◌∙◌, inl, inr}
use Rattle.std.specs.Prelude.{Bool, ◌⊎◌, length, true, false}
use Rattle.sr_base.specs.declared.offset.Offset.{Offset}
use Rattle.sr_book.specs.Entries.{Name}
use Rattle.sr_book.specs.declared.book.Book.{Book}
use Rattle.sr_database.specs.Views.{View}
use Rattle.sr_database_history.specs.Recorded.{Recorded}
use Rattle.sr_msgform.specs.declared.message.Message.{Message}
use Rattle.sr_send.specs.PutFiles.{put_files, noted_put_files, sent_note}
use Rattle.sr_site.specs.Seen.{Seen}
use Rattle.sr_database_meaning.specs.Events.{Event, commit, commits}
use Rattle.sr_agent.specs.Lines.{Line}
use Rattle.sr_agent.specs.Runs.{Run, IsReceiving, Receives}
use Rattle.sr_agent.specs.PartnerPasses.{partners}
use Rattle.sr_agent.specs.Stops.{StopsAt, at_first, gathering, behind_gathering, in_partner_pass, sending, in_delivery}
use Rattle.sr_agent.specs.declared.fault.AgentFault.{AgentFault}
use Rattle.sr_agent.specs.declared.options.Options.{Options}
use Rattle.sr_agent.proofs.Joints.{commits-append}

-- files commit nothing
pub commits_letters : (address : Name) (count : ℕ) (messages : List Message) → commits (put_files address count messages) ≡ []
commits_letters address count [] = refl
commits_letters address count (m ∷ messages) = commits_letters address (count + 1) messages

pub commits_noted : (address user : Name) (book : Book) (end : Offset) (m : Message) (messages : List Message)
    → commits (noted_put_files address user book end (m ∷ messages)) ≡ sent_note user book end (length (m ∷ messages)) ∷ []
commits_noted address user book end m messages =
    commits-append (put_files address book.send_count (m ∷ messages)) (commit (sent_note user book end (length (m ∷ messages))) ∷ [])
    ∙ ap (λ (rs : List Recorded). rs ++ sent_note user book end (length (m ∷ messages)) ∷ []) (commits_letters address book.send_count (m ∷ messages))

-- the receive pass was not made, or it was made up to some partner
abbrev pub HasReceived : Name → List Recorded → Run → Type 0
HasReceived publisher es run = (run.partner_passes ≡ []) ⊎ ((users : List Name) × IsReceiving publisher es run users)

pub received_either : (b : Bool) (publisher : Name) (es : List Recorded) (run : Run) → Receives b publisher es run → HasReceived publisher es run
received_either true publisher es run is = inr (partners publisher es, is)
received_either false publisher es run is = inl is.none

-- where it stopped, so far it had received or not
pub stop_received : (publisher : Name) (es : List Recorded) (options : Options) (run : Run) (db new : View) (seen now : Seen) (events : List Event) (lines : List Line) (fault : AgentFault) (whole : Type 0)
    → StopsAt publisher es options run db new seen now events lines fault whole → HasReceived publisher es run
stop_received publisher es options run db new seen now events lines fault whole (at_first is_run is_new is_now is_events is_lines untold) = inl (ap (λ (r : Run). r.partner_passes) is_run)
stop_received publisher es options run db new seen now events lines fault whole (gathering asked_for is_run is_new is_events stop) = inl (ap (λ (r : Run). r.partner_passes) is_run)
stop_received publisher es options run db new seen now events lines fault whole (behind_gathering left upto none is_new is_now is_events is_lines untold) = inl none
stop_received publisher es options run db new seen now events lines fault whole (in_partner_pass whose left upto stop) = inr (upto.done, upto.receiving)
stop_received publisher es options run db new seen now events lines fault whole (sending left upto newest earlier newest_is is_new is_now is_events is_lines untold) = received_either options.receive publisher es run upto.received
stop_received publisher es options run db new seen now events lines fault whole (in_delivery partner left upto is_lines stop) = received_either options.receive publisher es run upto.received
