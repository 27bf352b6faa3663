-- What a run of the agent does, to its end or to the fault that ended it: each entry is a step of some kind.
use Rattle.std.proofs.Common.{◌≡◌, ℕ, List, [], ◌∷◌, ◌++◌, map, Result, Ok, Err, sym, ap, subst, ◌∙◌, arith}
use Rattle.std.specs.Prelude.{IsTrue, length}
use Rattle.std.specs.List.{AllByRecursion}
use Rattle.sr_book.specs.Entries.{Name}
use Rattle.sr_database.specs.Views.{View}
use Rattle.sr_database_history.specs.Folds.{books_of}
use Rattle.sr_database_history.specs.Recorded.{Recorded}
use Rattle.sr_msgform.specs.declared.message.Message.{Message}
use Rattle.sr_receive_gather.specs.MessageFiles.{MessageFile, message_files_from}
use Rattle.sr_send.specs.PutFiles.{put_files, noted_put_files, sent_note}
use Rattle.sr_send.specs.Passes.{sent_end}
use Rattle.sr_site.specs.Seen.{Seen}
use Rattle.sr_site.specs.Streams.{Output}
use Rattle.sr_site.specs.Happenings.{mail_in}
use Rattle.sr_database_meaning.specs.Events.{Event, commit, commits}
use Rattle.sr_database_meaning.specs.Traces.{Went}
use Rattle.sr_agent.specs.Agents.{CameSoFar, Did}
use Rattle.sr_agent.specs.Deliveries.{Delivery, deliveries_events, delivery_events, folder_of}
use Rattle.sr_agent.specs.Ends.{HasTold}
use Rattle.sr_agent.specs.Lines.{Line}
use Rattle.sr_agent.specs.Runs.{IsReceiving, Run, after_receiving, after_run, fetched_files_of, received_mail, sent_events, taken_entries, trace_of}
use Rattle.sr_agent.specs.Stops.{DeliveryStop, IsBegunNote, StopsAt, at_first, gathering, behind_gathering, in_partner_pass, sending, in_delivery, PartnerPassStop}
use Rattle.sr_agent.specs.declared.fault.AgentFault.{AgentFault}
use Rattle.sr_agent.specs.declared.options.Options.{Options}
use Rattle.sr_agent.proofs.Joints.{commits_of, commits-append}
use Rattle.sr_world_prefix.proofs.Along.{Steps, steps_more}
use Rattle.sr_world_prefix.proofs.Mail.{AllSince, no_more}
use Rattle.sr_world_prefix.proofs.Ran.{HasReceived, commits_letters, commits_noted, received_either, stop_received}
use Rattle.sr_world_prefix.proofs.RunMail.{MailParts, mail_parts, stop_goes}
use Rattle.sr_world_prefix.proofs.Walking.{Walk, held, received_walked, partner_pass_walked}

-- the site went through a trace, and each commit of it is a step of a kind
pub record DidBy (publisher : Name) (Step : List Recorded → Recorded → Type 0) (before now : Seen) (es : List Recorded) : Type 0 where
  pub trace : List Event
  pub went : Went before now publisher es trace
  pub steps : Steps Step es (commits trace)

-- a kind of steps, of which a note of messages that were sent is one
module _ (publisher : Name) (walk : Walk publisher)
    (sent : (base : ℕ) (es : List Recorded) (whose : Name) (count : ℕ) → walk.Holds es → walk.Step es (sent_note whose (books_of whose es) (sent_end base publisher es whose (books_of whose es)) count)) where
  abbrev Q : List Recorded → Recorded → Type 0
  Q es r = walk.Step es r

  abbrev AreSteps : List Recorded → List Recorded → Type 0
  AreSteps es rs = Steps Q es rs

  -- ---- what is sent

  noted_steps : (base : ℕ) (es : List Recorded) (address whose : Name) (messages : List Message) → walk.Holds es
      → AreSteps es (commits (noted_put_files address whose (books_of whose es) (sent_end base publisher es whose (books_of whose es)) messages))
  noted_steps base es address whose [] holds = tt
  noted_steps base es address whose (m ∷ messages) holds =
      subst (λ (rs : List Recorded). AreSteps es rs) (sym (commits_noted address whose (books_of whose es) (sent_end base publisher es whose (books_of whose es)) m messages))
      (sent base es whose (length (m ∷ messages)) holds, tt)

  pub deliveries_walked : (es : List Recorded) (deliveries : List Delivery) → walk.Holds es → AreSteps es (commits (deliveries_events publisher es deliveries))
  deliveries_walked es [] holds = tt
  deliveries_walked es (d ∷ earlier) holds =
      let added : List Event = deliveries_events publisher es earlier in
      let there : List Recorded = es ++ commits added in
      let first = deliveries_walked es earlier holds in
      subst (λ (rs : List Recorded). AreSteps es rs) (sym (commits-append added (delivery_events publisher there d)))
      (steps_more Q es (commits added) (commits (delivery_events publisher there d)) first
      (noted_steps d.base there (folder_of publisher there d.partner.user) d.partner.user d.messages (held publisher walk es (commits added) holds first)))

  -- ---- the first steps of a run

  pub run_walked : (es : List Recorded) (run : Run) → walk.Holds es → AreSteps es (taken_entries publisher es run) → AreSteps es (commits (trace_of publisher es run))
  run_walked es run holds first =
      let taken_then : List Recorded = taken_entries publisher es run in
      let is : commits (trace_of publisher es run) ≡ taken_then ++ commits (sent_events publisher es run)
      = commits-append (map commit taken_then) (sent_events publisher es run) ∙ ap (λ (rs : List Recorded). rs ++ commits (sent_events publisher es run)) (commits_of taken_then) in
      subst (λ (rs : List Recorded). AreSteps es rs) (sym is)
      (steps_more Q es taken_then (commits (sent_events publisher es run)) first
      (deliveries_walked (after_receiving publisher es run) run.deliveries (held publisher walk es taken_then holds first)))

  -- ---- a run

  module _ (es : List Recorded) (options : Options) (holds : walk.Holds es)
      (gathered : (run : Run) (users : List Name) → AllByRecursion walk.Happened (received_mail publisher es options.purge run []) → IsReceiving publisher es run users
      → (whose : Name) → walk.Good es whose (message_files_from whose (fetched_files_of run.gathered))) where
    so_far_walked : (run : Run) → HasReceived publisher es run → AllByRecursion walk.Happened (received_mail publisher es options.purge run []) → AreSteps es (commits (trace_of publisher es run))
    so_far_walked run received mail =
        run_walked es run holds (received_walked publisher walk es options.purge run holds received (λ users r. gathered run users mail r) mail)

    module _ (run : Run) (base : ℕ) (db new : View) (before seen now : Seen) (told : IsTrue before.observable) (came : CameSoFar base db before seen publisher es options run)
        (parts : MailParts walk.Happened publisher es options.purge run seen now) (so_far : AreSteps es (commits (trace_of publisher es run))) where
      abbrev trace : List Event
      trace = trace_of publisher es run

      abbrev there : List Recorded
      there = after_run publisher es run

      there_holds : walk.Holds there
      there_holds = held publisher walk es (commits trace) holds so_far

      with_more : (events : List Event) (entries : List Recorded) → commits events ≡ entries → AreSteps there entries → Went before now publisher es (trace ++ events) → DidBy publisher Q before now es
      with_more events entries is more went = record {
        trace = trace ++ events;
        went = went;
        steps =
            subst (λ (l : List Recorded). AreSteps es l) (ap (λ (l : List Recorded). commits trace ++ l) (sym is) ∙ sym (commits-append trace events))
            (steps_more Q es (commits trace) entries so_far more);
      }

      with_none : (events : List Event) → events ≡ [] → Went before now publisher es (trace ++ events) → DidBy publisher Q before now es
      with_none events is went = with_more events [] (ap commits is) tt went

      partner_pass_steps : (users : List Name) (whose : Name) (events : List Event) (lines : List Line) (fault : AgentFault) (whole : Type 0) → IsReceiving publisher es run users
          → PartnerPassStop publisher there (fetched_files_of run.gathered) whose db new seen now events lines fault options.purge whole → Went before now publisher es (trace ++ events) → DidBy publisher Q before now es
      partner_pass_steps users whose events lines fault whole r stop went =
          let put_files : List MessageFile = message_files_from whose (fetched_files_of run.gathered) in
          let on = partner_pass_walked publisher walk es trace (fetched_files_of run.gathered) whose db new before seen now events lines fault options.purge whole told (omega (arith, came.steady.disk)) came.went came.database there_holds
          (walk.later es (commits trace) whose put_files (gathered run users parts.mail r whose)) parts.since stop went in
          with_more (map commit on.entries) on.entries (commits_of on.entries) on.steps on.went

      note_steps : (whose : Name) (messages left : List Message) (notes : List Recorded) → IsBegunNote db.log.base publisher there whose messages left notes → AreSteps there notes
      note_steps whose messages left [] is = tt
      note_steps whose messages left (r ∷ []) is = (subst (λ (x : Recorded). Q there x) (sym is.1) (sent db.log.base there whose (length messages) there_holds), tt)
      note_steps whose messages left (r ∷ other ∷ rs) is = absurd is

      delivery_stop : (partner : _) (events : List Event) (fault : AgentFault) → DeliveryStop publisher there options.length partner db new seen now events fault
          → Went before now publisher es (trace ++ events) → DidBy publisher Q before now es
      delivery_stop partner events fault stop went =
          let whose : Name = partner.user in
          let files : List Event = put_files (folder_of publisher there whose) (books_of whose there).send_count stop.messages in
          let is : commits events ≡ stop.notes
          = ap commits stop.events_are ∙ commits-append files (map commit stop.notes)
          ∙ ap (λ (rs : List Recorded). rs ++ commits (map commit stop.notes)) (commits_letters (folder_of publisher there whose) (books_of whose there).send_count stop.messages)
          ∙ commits_of stop.notes in
          with_more events stop.notes is (note_steps whose stop.messages stop.left stop.notes stop.note) went

      stop_steps : (events : List Event) (lines : List Line) (fault : AgentFault) (whole : Type 0) → StopsAt publisher es options run db new seen now events lines fault whole
          → Went before now publisher es (trace ++ events) → DidBy publisher Q before now es
      stop_steps events lines fault whole (at_first is_run is_new is_now is_events is_lines untold) went = with_none events is_events went
      stop_steps events lines fault whole (gathering asked_for is_run is_new is_events stop) went = with_none events is_events went
      stop_steps events lines fault whole (behind_gathering left upto none is_new is_now is_events is_lines untold) went = with_none events is_events went
      stop_steps events lines fault whole (in_partner_pass whose left upto stop) went = partner_pass_steps upto.done whose events lines fault whole upto.receiving stop went
      stop_steps events lines fault whole (sending left upto newest earlier newest_is is_new is_now is_events is_lines untold) went = with_none events is_events went
      stop_steps events lines fault whole (in_delivery partner left upto is_lines stop) went = delivery_stop partner events fault stop went

    pub did_walked : (base : ℕ) (new : View) (before now : Seen) (written written' : Output) (lines : List Line) (result : Result ℕ AgentFault) → IsTrue before.observable
        → AllSince walk.Happened (mail_in before.happened) (mail_in now.happened) → Did base new before now written written' publisher es options lines result → DidBy publisher Q before now es
    did_walked base new before now written written' lines (Ok count) told all ran =
        let parts = mail_parts walk.Happened publisher es options ran.run base new before now now all ran.came (no_more (mail_in now.happened)) in
        record {
          trace = trace_of publisher es ran.run;
          went = ran.came.went;
          steps = so_far_walked ran.run (received_either options.receive publisher es ran.run ran.is.receives) parts.mail;
        }
    did_walked base new before now written written' lines (Err fault) told all ran =
        let whole = HasTold lines written written' in
        let goes = stop_goes publisher es options ran.run ran.db new ran.seen now ran.events ran.told fault whole ran.stops in
        let parts = mail_parts walk.Happened publisher es options ran.run base ran.db before ran.seen now all ran.came goes in
        let so_far = so_far_walked ran.run (stop_received publisher es options ran.run ran.db new ran.seen now ran.events ran.told fault whole ran.stops) parts.mail in
        stop_steps ran.run base ran.db new before ran.seen now told ran.came parts so_far ran.events ran.told fault whole ran.stops ran.went
