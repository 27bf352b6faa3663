-- What stands behind the puts of a run, to its end or to the fault that ended it, and at each of its moments.
use Rattle.std.proofs.Common.{◌≡◌, ℕ, List, [], ◌∷◌, ◌++◌, map, Result, Ok, Err, refl, sym, ap, subst, ◌∙◌, inl, inr, append-nil}
use Rattle.std.specs.Prelude.{Bool, true, false, ◌⊎◌, length}
use Rattle.std.specs.List.{AllByRecursion}
use Rattle.sr_base.specs.Values.{offset_from}
use Rattle.sr_book.specs.Entries.{Name}
use Rattle.sr_mail_cut.proofs.Lists.{AllByRecursion-prefix}
use Rattle.sr_database.specs.Views.{View}
use Rattle.sr_database_history.specs.Folds.{books_of}
use Rattle.sr_database_history.specs.Recorded.{Recorded}
use Rattle.sr_msgform.specs.declared.message.Message.{Message}
use Rattle.sr_send.specs.PutFiles.{put_files}
use Rattle.sr_send.specs.Passes.{AreAll, sent_end}
use Rattle.sr_site.specs.Files.{Files}
use Rattle.sr_site.specs.Seen.{Seen}
use Rattle.sr_site.specs.Streams.{Output}
use Rattle.sr_database_meaning.specs.Events.{Event, commit, commits, PutFile, puts}
use Rattle.sr_database_meaning.specs.Standing.{StandsAs}
use Rattle.sr_database_meaning.specs.Traces.{Went}
use Rattle.sr_agent.specs.Agents.{Did}
use Rattle.sr_agent.specs.Deliveries.{Delivery, AreBased, AreDeliveries, deliveries_events, folder_of}
use Rattle.sr_agent.specs.Ends.{HasTold}
use Rattle.sr_agent.specs.Lines.{Line}
use Rattle.sr_agent.specs.Runs.{Run, Sends, after_receiving, after_run, fetched_files_of, sent_events, taken_entries, trace_of}
use Rattle.sr_agent.specs.Stops.{DeliveryStop, IsBegunNote, StopsAt, at_first, gathering, behind_gathering, in_partner_pass, sending, in_delivery, PartnerPassStop, in_message_files, behind_message_files}
use Rattle.sr_agent.specs.PartnerPasses.{partner_pass_entries}
use Rattle.sr_agent.specs.declared.fault.AgentFault.{AgentFault}
use Rattle.sr_agent.specs.declared.options.Options.{Options}
use Rattle.sr_agent.proofs.Joints.{commits_of}
use Rattle.sr_world_prefix.specs.Puts.{BacksPuts, StandBehind}
use Rattle.sr_world_prefix.proofs.Behind.{went_behind}
use Rattle.sr_database_meaning.proofs.Joining.{trace_puts}
use Rattle.sr_world_prefix.proofs.Ran.{HasReceived, commits_letters, received_either, stop_received}
use Rattle.sr_world_prefix.proofs.Putting.{AreSo, Backs, Truth, backs_commits, backs_prefix, backs_last, backs_put_files, backs_more, backs_note, deliveries_back}
use Rattle.sr_world_prefix.proofs.RunSteps.{received_steps, run_steps}

-- ---- puts

pub puts_commits : (rs : List Recorded) → puts (map commit rs) ≡ []
puts_commits [] = refl
puts_commits (r ∷ rs) = puts_commits rs

module _ (publisher : Name) (es : List Recorded) where
  -- ---- the first steps of a run

  -- nothing was sent yet, or it was sent to some partners
  abbrev pub HasSent : ℕ → Run → Type 0
  HasSent limit run = (run.deliveries ≡ []) ⊎ AreDeliveries publisher (after_receiving publisher es run) limit run.deliveries

  pub sent_either : (b : Bool) (options : Options) (run : Run) → Sends options b publisher es run → HasSent options.length run
  sent_either true options run is = inr is.are
  sent_either false options run is = inl is

  -- where nothing was sent yet nothing was put
  pub none_put : (run : Run) → run.deliveries ≡ [] → puts (trace_of publisher es run) ≡ []
  none_put run none =
      let there : List Recorded = after_receiving publisher es run in
      let events : sent_events publisher es run ≡ [] = ap (λ (ds : List Delivery). deliveries_events publisher there ds) none in
      trace_puts (map commit (taken_entries publisher es run)) (sent_events publisher es run)
      ∙ ap (λ (l : List PutFile). l ++ puts (sent_events publisher es run)) (puts_commits (taken_entries publisher es run)) ∙ ap puts events

-- ---- what holds by a history of all that a pass on it says

module _ (base : ℕ) (publisher : Name) (Holds : Name → List Recorded → Message → Type 0) (Fine : List Recorded → Type 0) (truth : Truth base publisher (Holds publisher) Fine) (es : List Recorded) (fine : Fine es) where
  abbrev So : List Recorded → Message → Type 0
  So = Holds publisher

  fine_there : (run : Run) → HasReceived publisher es run → Fine (after_receiving publisher es run)
  fine_there run received = truth.stepped es (taken_entries publisher es run) fine (received_steps publisher es run received)

  fine_behind : (run : Run) → HasReceived publisher es run → Fine (after_run publisher es run)
  fine_behind run received = truth.stepped es (commits (trace_of publisher es run)) fine (run_steps publisher es run received)

  sent_back : (limit : ℕ) (run : Run) → HasReceived publisher es run → AreBased base run.deliveries → HasSent publisher es limit run → Backs So (after_receiving publisher es run) [] (sent_events publisher es run)
  sent_back limit run received based (inl none) =
      subst (λ (ds : List Delivery). Backs So (after_receiving publisher es run) [] (deliveries_events publisher (after_receiving publisher es run) ds)) (sym none) tt
  sent_back limit run received based (inr are) = deliveries_back base publisher So Fine truth (after_receiving publisher es run) limit run.deliveries (fine_there run received) based are

  trace_back : (limit : ℕ) (run : Run) → HasReceived publisher es run → AreBased base run.deliveries → HasSent publisher es limit run → Backs So es [] (trace_of publisher es run)
  trace_back limit run received based sent =
      let taken : List Recorded = taken_entries publisher es run in
      let there : Backs So (es ++ commits (map commit taken)) (puts (map commit taken)) (sent_events publisher es run)
      = subst (λ (rs : List Recorded). Backs So (es ++ rs) (puts (map commit taken)) (sent_events publisher es run)) (sym (commits_of taken))
      (subst (λ (ls : List PutFile). Backs So (es ++ taken) ls (sent_events publisher es run)) (sym (puts_commits taken)) (sent_back limit run received based sent)) in
      backs_more So es [] (map commit taken) (sent_events publisher es run) (backs_commits So es taken) there

  -- ---- and what came behind them

  -- the site went through a trace, and behind each put on the way stands the history
  pub record BacksOn (before now : Seen) : Type 0 where
    pub trace : List Event
    pub went : Went before now publisher es trace
    pub backs : Backs So es [] trace

  module _ (options : Options) (run : Run) (before now : Seen) (received : HasReceived publisher es run) (based : AreBased base run.deliveries) where
    abbrev trace : List Event
    trace = trace_of publisher es run

    abbrev there : List Recorded
    there = after_run publisher es run

    with_none : (events : List Event) → HasSent publisher es options.length run → events ≡ [] → Went before now publisher es (trace ++ events) → BacksOn before now
    with_none events sent is went = record {
      trace = trace ++ events;
      went = went;
      backs =
          subst (λ (l : List Event). Backs So es [] (trace ++ l)) (sym is)
          (subst (λ (l : List Event). Backs So es [] l) (sym (append-nil trace)) (trace_back options.length run received based sent));
    }

    with_commits : (events : List Event) (rs : List Recorded) → run.deliveries ≡ [] → events ≡ map commit rs → Went before now publisher es (trace ++ events) → BacksOn before now
    with_commits events rs none is went =
        let behind : Backs So there (puts trace) (map commit rs)
        = subst (λ (ls : List PutFile). Backs So there ls (map commit rs)) (sym (none_put publisher es run none)) (backs_commits So there rs) in
        record {
          trace = trace ++ events;
          went = went;
          backs = subst (λ (l : List Event). Backs So es [] (trace ++ l)) (sym is) (backs_more So es [] trace (map commit rs) (trace_back options.length run received based (inl none)) behind);
        }

    note_back : (at : ℕ) (whose : Name) (done : List PutFile) (messages left : List Message) (notes : List Recorded) → AreSo So there done → IsBegunNote at publisher there whose messages left notes
        → (rs : List Recorded) → rs ≡ there → Backs So rs done (map commit notes)
    note_back at whose done messages left [] are is rs same = subst (λ (qs : List Recorded). AreSo So qs done) (sym same) are
    note_back at whose done messages left (r ∷ []) are is rs same =
        subst (λ (qs : List Recorded). Backs So qs done (commit r ∷ [])) (sym same)
        (subst (λ (x : Recorded). Backs So there done (commit x ∷ [])) (sym is.1)
        (backs_note base publisher So Fine truth there done whose (sent_end at publisher there whose (books_of whose there)) (length messages) (offset_from (books_of whose there).log_received) are))
    note_back at whose done messages left (r ∷ other ∷ rest) are is rs same = absurd is

    with_delivery : (partner : _) (db new : View) (seen : Seen) (events : List Event) (fault : AgentFault) → db.log.base ≡ base → HasSent publisher es options.length run
        → DeliveryStop publisher there options.length partner db new seen now events fault → Went before now publisher es (trace ++ events) → BacksOn before now
    with_delivery partner db new seen events fault same sent stop went =
        let whose : Name = partner.user in
        let files : List Event = put_files (folder_of publisher there whose) (books_of whose there).send_count stop.messages in
        let all : AreAll base publisher there whose (books_of whose there) partner.ask options.length (stop.messages ++ stop.left)
        = subst (λ (n : ℕ). AreAll n publisher there whose (books_of whose there) partner.ask options.length (stop.messages ++ stop.left)) same stop.are in
        let hold : AllByRecursion (So there) stop.messages
        = AllByRecursion-prefix (So there) stop.messages stop.left (truth.said there whose partner.ask options.length (stop.messages ++ stop.left) (fine_behind run received) all) in
        let first = trace_back options.length run received based sent in
        let put_then : Backs So there (puts trace) files
        = backs_put_files base publisher So Fine truth there (puts trace) (folder_of publisher there whose) (books_of whose there).send_count stop.messages (backs_last So es [] trace first) hold stop.spelled in
        let still : there ++ commits files ≡ there
        = ap (λ (l : List Recorded). there ++ l) (commits_letters (folder_of publisher there whose) (books_of whose there).send_count stop.messages) ∙ append-nil there in
        let are : AreSo So there (puts trace ++ puts files)
        = subst (λ (rs : List Recorded). AreSo So rs (puts trace ++ puts files)) still (backs_last So there (puts trace) files put_then) in
        let behind : Backs So there (puts trace) (files ++ map commit stop.notes)
        = backs_more So there (puts trace) files (map commit stop.notes) put_then
        (note_back db.log.base whose (puts trace ++ puts files) stop.messages stop.left stop.notes are stop.note (there ++ commits files) still) in
        record {
          trace = trace ++ events;
          went = went;
          backs = subst (λ (l : List Event). Backs So es [] (trace ++ l)) (sym stop.events_are) (backs_more So es [] trace (files ++ map commit stop.notes) first behind);
        }

    partner_pass_back : (whose : Name) (db new : View) (seen : Seen) (events : List Event) (lines : List Line) (fault : AgentFault) (whole : Type 0) → run.deliveries ≡ []
        → PartnerPassStop publisher there (fetched_files_of run.gathered) whose db new seen now events lines fault options.purge whole → Went before now publisher es (trace ++ events) → BacksOn before now
    partner_pass_back whose db new seen events lines fault whole none (in_message_files stop) went = with_commits events (stop.entries ++ stop.begun) none stop.events_are went
    partner_pass_back whose db new seen events lines fault whole none (behind_message_files stop) went =
        with_commits events (partner_pass_entries publisher there (fetched_files_of run.gathered) stop.partner_pass) none stop.events_are went

    stop_back : (db new : View) (seen : Seen) (events : List Event) (lines : List Line) (fault : AgentFault) (whole : Type 0) → db.log.base ≡ base → StopsAt publisher es options run db new seen now events lines fault whole
        → Went before now publisher es (trace ++ events) → BacksOn before now
    stop_back db new seen events lines fault whole same (at_first is_run is_new is_now is_events is_lines untold) went = with_none events (inl (ap (λ (r : Run). r.deliveries) is_run)) is_events went
    stop_back db new seen events lines fault whole same (gathering asked_for is_run is_new is_events stop) went = with_none events (inl (ap (λ (r : Run). r.deliveries) is_run)) is_events went
    stop_back db new seen events lines fault whole same (behind_gathering left upto none is_new is_now is_events is_lines untold) went = with_none events (inl upto.none) is_events went
    stop_back db new seen events lines fault whole same (in_partner_pass whose left upto stop) went = partner_pass_back whose db new seen events lines fault whole upto.none stop went
    stop_back db new seen events lines fault whole same (sending left upto newest earlier newest_is is_new is_now is_events is_lines untold) went = with_none events (inr upto.sending.are) is_events went
    stop_back db new seen events lines fault whole same (in_delivery partner left upto is_lines stop) went = with_delivery partner db new seen events fault same (inr upto.sending.are) stop went

  did_back : (options : Options) (new : View) (before now : Seen) (written written' : Output) (lines : List Line) (result : Result ℕ AgentFault) → Did base new before now written written' publisher es options lines result → BacksOn before now
  did_back options new before now written written' lines (Ok count) ran = record {
    trace = trace_of publisher es ran.run;
    went = ran.came.went;
    backs = trace_back options.length ran.run (received_either options.receive publisher es ran.run ran.is.receives) ran.came.based (sent_either publisher es options.send options ran.run ran.is.sends);
  }
  did_back options new before now written written' lines (Err fault) ran =
      let whole = HasTold lines written written' in
      stop_back options ran.run before now (stop_received publisher es options ran.run ran.db new ran.seen now ran.events ran.told fault whole ran.stops) ran.came.based ran.db new ran.seen ran.events ran.told fault whole ran.came.base_is ran.stops ran.went

  -- ---- at each moment

  module _ (trace : List Event) (backs : Backs So es [] trace) where
    prefix_so : (begun left : List Event) → trace ≡ begun ++ left → AreSo So (es ++ commits begun) (puts begun)
    prefix_so begun left prefix =
        backs_last So es [] begun (backs_prefix So es [] begun left (subst (λ (l : List Event). Backs So es [] l) prefix backs))

    stand_behind : (begun left : List Event) → trace ≡ begun ++ left → (image : Files) → StandsAs publisher (es ++ commits begun) image → StandBehind Holds publisher (puts begun) image
    stand_behind begun left prefix image stands = record { es = es ++ commits begun; stands = stands; are = prefix_so begun left prefix }

  pub went_back : (before now : Seen) (trace : List Event) → Backs So es [] trace → Went before now publisher es trace → BacksPuts Holds publisher before now
  went_back before now trace backs went = went_behind (StandBehind Holds publisher) publisher es trace (stand_behind trace backs) before now went

  pub run_backs : (options : Options) (new : View) (before now : Seen) (written written' : Output) (lines : List Line) (result : Result ℕ AgentFault) → Did base new before now written written' publisher es options lines result
      → BacksPuts Holds publisher before now
  run_backs options new before now written written' lines result did =
      let back = did_back options new before now written written' lines result did in
      went_back before now back.trace back.backs back.went
