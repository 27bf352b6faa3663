-- What a run does until a fault ends it, as steps that are allowed.
use Rattle.std.proofs.Common.{◌≡◌, ◌≢◌, ℕ, ◌≤◌, List, [], ◌∷◌, ◌++◌, map, sym, ap, subst, ◌∙◌, inl, inr, arith, append_assoc, append-nil}
use Rattle.std.proofs.lemmas.List.Elements.{Contains-append_left, Contains-append_right}
use Rattle.std.specs.Prelude.{Bool, IsTrue, length}
use Rattle.std.specs.List.{AllByRecursion}
use Rattle.sr_base.specs.declared.offset.Offset.{Offset}
use Rattle.sr_book.specs.Entries.{Name}
use Rattle.sr_book.specs.declared.book.Book.{Book}
use Rattle.sr_database_files.specs.Books.{book_in}
use Rattle.sr_mail_cut.proofs.Lists.{AllByRecursion-prefix}
use Rattle.sr_database.specs.Databases.{IsDatabase}
use Rattle.sr_database.specs.Views.{View}
use Rattle.sr_database_history.specs.Folds.{books_of, end_of, state_of}
use Rattle.sr_database_history.specs.Recorded.{Recorded}
use Rattle.sr_world_model.specs.Steps.{append, put}
use Rattle.sr_world_model.specs.Truth.{IsTrueOf}
use Rattle.sr_msgform.specs.declared.message.Message.{Message}
use Rattle.sr_send.specs.PutFiles.{address_in, put_files, sent_note}
use Rattle.sr_send.specs.Passes.{AreAll, PutAndBegan, PutInPart, SendCause, sent_end}
use Rattle.sr_send.specs.declared.fault.SendFault.{SendFault}
use Rattle.sr_send.specs.declared.fault.SendFault.TheVariants as sends
use Rattle.sr_site.specs.Causes.{Rose}
use Rattle.sr_site.specs.Images.{IsSettled}
use Rattle.sr_site.specs.Seen.{Seen}
use Rattle.sr_site.specs.Streams.{Output}
use Rattle.sr_database_meaning.specs.Events.{Event, commit, commits}
use Rattle.sr_database_meaning.specs.Standing.{StandsAs}
use Rattle.sr_database_meaning.specs.Traces.{Went}
use Rattle.sr_database_meaning.proofs.Going.{told_same}
use Rattle.sr_database_meaning.proofs.Joining.{joined}
use Rattle.sr_agent.specs.Agents.{CameSoFar, RanInPart, RanWhole}
use Rattle.sr_agent.specs.Ends.{HasTold}
use Rattle.sr_agent.specs.Lines.{Line}
use Rattle.sr_agent.specs.Runs.{Run, after_run, fetched_files_of, taken_entries, trace_of}
use Rattle.sr_agent.specs.Stops.{DeliveryStop, IsReceivingUpTo, StopsAt, at_first, gathering, behind_gathering, in_partner_pass, sending, in_delivery, PartnerPassStop}
use Rattle.sr_agent.specs.declared.fault.AgentFault.{AgentFault}
use Rattle.sr_agent.specs.declared.options.Options.{Options}
use Rattle.sr_agent.proofs.Joints.{commits_of, commits-append, settled_as}
use Rattle.sr_world.specs.Real.{layers}
use Rattle.sr_world_runs.specs.Worlds.{put_in}
use Rattle.sr_world_prefix.proofs.Along.{Steps, steps_more}
use Rattle.sr_world_prefix.proofs.Backed.{HasSent, sent_either}
use Rattle.sr_world_runs.proofs.DatabaseSteps.{CanStep, HasDatabaseSteps, commits_database_steps, database_steps_more, steps_among}
use Rattle.sr_world_runs.proofs.Delivered.{letters_database_steps, run_database_steps, with_entry}
use Rattle.sr_world_prefix.proofs.Noting.{sent_step}
use Rattle.sr_world_prefix.proofs.Ran.{HasReceived, commits_letters, received_either}
use Rattle.sr_agent.proofs.Returned.{SettlesAs, gathered_settled, settles_before}
use Rattle.sr_world_prefix.proofs.RunSteps.{run_steps}
use Rattle.sr_world_runs.proofs.Sending.{all_noted}
use Rattle.sr_world_prefix.proofs.Steps.{IsRunStep}
use Rattle.sr_world_prefix.proofs.TruePuts.{IsFine, all_said, fine_along, sent_within}

-- the site went through a trace that some steps make, each commit of which is a step of a run
pub record DatabaseStepsOn (messages : List Message) (publisher : Name) (es : List Recorded) (before now : Seen) : Type 0 where
  pub trace : List Event
  pub went : Went before now publisher es trace
  pub has : HasDatabaseSteps messages publisher es trace
  pub steps : Steps (IsRunStep publisher) es (commits trace)
  -- where no call of the disk failed it is settled after it
  pub settles : SettlesAs publisher (es ++ commits trace) before now

-- it went through this trace and then some commits, each of them allowed, and a step of a run
pub record WentOnBy (messages : List Message) (publisher : Name) (es : List Recorded) (before now : Seen) (trace : List Event) : Type 0 where
  pub entries : List Recorded
  pub went : Went before now publisher es (trace ++ map commit entries)
  pub can : Steps (CanStep messages publisher) (es ++ commits trace) entries
  pub steps : Steps (IsRunStep publisher) (es ++ commits trace) entries
  pub settles : SettlesAs publisher ((es ++ commits trace) ++ entries) before now

-- ---- a pass that a fault ended

module _ (messages : List Message) (publisher : Name) (es : List Recorded) (db new : View) (old : IsFine publisher db.log.base es) (before now : Seen) (user : Name) (limit : ℕ) (ask : Bool) (database : IsDatabase db publisher es before) where
  abbrev book_is : book_in db.books user ≡ books_of user es
  book_is = database.is.books user

  -- the first messages were put
  part_database_steps : PutInPart db before now publisher es user (book_in db.books user) limit ask → DatabaseStepsOn messages publisher es before now
  part_database_steps part =
      let address : Name = address_in db.catalog user in
      let count : ℕ = (book_in db.books user).send_count in
      let are : AreAll db.log.base publisher es user (books_of user es) ask limit (part.messages ++ part.left)
      = subst (λ (b : Book). AreAll db.log.base publisher es user b ask limit (part.messages ++ part.left)) book_is part.are in
      let hold : AllByRecursion (IsTrueOf layers publisher es) part.messages
      = AllByRecursion-prefix (IsTrueOf layers publisher es) part.messages part.left (all_said db.log.base publisher es user ask limit (part.messages ++ part.left) old.keeps (sent_within es user old.books) are) in
      record {
        trace = put_files address count part.messages;
        went = part.went;
        has = record { database_steps = map put part.messages; are = letters_database_steps db.log.base publisher messages es address count part.messages hold part.spelled };
        steps = subst (λ (rs : List Recorded). Steps (IsRunStep publisher) es rs) (sym (commits_letters address count part.messages)) tt;
        settles = λ none.
            subst (λ (rs : List Recorded). IsSettled (StandsAs publisher rs) now) (sym (ap (λ (l : List Recorded). es ++ l) (commits_letters address count part.messages) ∙ append-nil es))
            (settled_as db publisher es now part.database);
      }

  -- all were put, and their note was begun
  note_database_steps : (address : Name) (sent : Offset) (count : ℕ) → count ≢ 0 → Rose before.disk_faults now.disk_faults
      → PutAndBegan db.log.base before now address publisher es user (book_in db.books user) limit ask sent count (commit (sent_note user (book_in db.books user) sent count) ∷ []) → DatabaseStepsOn messages publisher es before now
  note_database_steps address sent count some rose part =
      let base : ℕ = db.log.base in
      let pass : List Message = part.messages in
      let number : ℕ = (book_in db.books user).send_count in
      let r : Recorded = sent_note user (book_in db.books user) sent count in
      let are : AreAll base publisher es user (books_of user es) ask limit pass = subst (λ (b : Book). AreAll base publisher es user b ask limit pass) book_is part.are in
      let filled : 1 ≤ length pass = omega (arith, some, part.count_is) in
      let end_is : sent ≡ sent_end base publisher es user (books_of user es) = part.end_is ∙ ap (λ (b : Book). sent_end base publisher es user b) book_is in
      let is : r ≡ sent_note user (books_of user es) (sent_end base publisher es user (books_of user es)) (length pass)
      = ap (λ (b : Book). sent_note user b sent count) book_is ∙ ap (λ (e : Offset). sent_note user (books_of user es) e count) end_is
      ∙ ap (λ (n : ℕ). sent_note user (books_of user es) (sent_end base publisher es user (books_of user es)) n) part.count_is in
      let can : CanStep (messages ++ pass) publisher es r
      = subst (λ (x : Recorded). CanStep (messages ++ pass) publisher es x) (sym is)
      (all_noted base (messages ++ pass) publisher es user ask limit pass are (λ m has. Contains-append_right messages pass m has) filled) in
      let alone : commits (put_files address number pass ++ commit r ∷ []) ≡ r ∷ []
      = commits-append (put_files address number pass) (commit r ∷ []) ∙ ap (λ (rs : List Recorded). rs ++ r ∷ []) (commits_letters address number pass) in
      record {
        trace = put_files address number pass ++ commit r ∷ [];
        went = part.went;
        has = with_entry base publisher messages es address number pass r (all_said base publisher es user ask limit pass old.keeps (sent_within es user old.books) are) part.spelled can;
        steps =
            subst (λ (rs : List Recorded). Steps (IsRunStep publisher) es rs) (sym alone)
            (subst (λ (x : Recorded). IsRunStep publisher es x) (sym is) (sent_step publisher base es user (length pass)), tt);
        settles = λ none. absurd (none rose);
      }

  pub cause_database_steps : (why : SendFault) → IsTrue before.observable → SendCause db new before now user limit ask why → DatabaseStepsOn messages publisher es before now
  cause_database_steps sends.Disk told (rose, inl part) = part_database_steps (part.part told publisher es database)
  cause_database_steps sends.Disk told (rose, inr noted) = note_database_steps (address_in db.catalog user) noted.sent noted.count noted.some rose (noted.part told publisher es database)
  cause_database_steps sends.Mail told cause = part_database_steps (cause.1.part told publisher es database)
  cause_database_steps (sends.Full end need) told cause = part_database_steps (cause.1.part told publisher es database)
  cause_database_steps (sends.Long size longest) told cause = part_database_steps (cause.1.part told publisher es database)
  cause_database_steps sends.Memory told cause = part_database_steps (cause.part told publisher es database)

-- ---- a run that a fault ended

module _ (messages : List Message) (publisher : Name) (es : List Recorded) (base : ℕ) (old : IsFine publisher base es) (options : Options) (run : Run) (db new : View) (before seen now : Seen) (told : IsTrue before.observable)
    (came : CameSoFar base db before seen publisher es options run) (so_far : HasDatabaseSteps messages publisher es (trace_of publisher es run)) (received : HasReceived publisher es run) where
  abbrev trace : List Event
  trace = trace_of publisher es run

  abbrev there : List Recorded
  there = after_run publisher es run

  steps_so_far : Steps (IsRunStep publisher) es (commits trace)
  steps_so_far = run_steps publisher es run received

  -- nothing was done after the first steps
  with_none : (events : List Event) → events ≡ [] → IsSettled (StandsAs publisher there) now → Went before now publisher es (trace ++ events) → DatabaseStepsOn messages publisher es before now
  with_none events is settled went = record {
    trace = trace;
    went = subst (λ (l : List Event). Went before now publisher es l) (ap (λ (l : List Event). trace ++ l) is ∙ append-nil trace) went;
    has = so_far;
    steps = steps_so_far;
    settles = λ none. settled;
  }

  -- or something was
  with_more : (more : List Event) → Went before now publisher es (trace ++ more) → HasDatabaseSteps (messages ++ put_in so_far.database_steps) publisher there more → Steps (IsRunStep publisher) there (commits more)
      → SettlesAs publisher (there ++ commits more) before now → DatabaseStepsOn messages publisher es before now
  with_more more went has steps settles = record {
    trace = trace ++ more;
    went = went;
    has = record { database_steps = so_far.database_steps ++ has.database_steps; are = database_steps_more messages publisher es trace more so_far.database_steps has.database_steps so_far.are has.are };
    steps =
        subst (λ (rs : List Recorded). Steps (IsRunStep publisher) es rs) (sym (commits-append trace more))
        (steps_more (IsRunStep publisher) es (commits trace) (commits more) steps_so_far steps);
    settles =
        subst (λ (rs : List Recorded). SettlesAs publisher rs before now)
        (append_assoc es (commits trace) (commits more) ∙ ap (λ (rs : List Recorded). es ++ rs) (sym (commits-append trace more))) settles;
  }

  -- entries were committed
  pub with_entries : (entries : List Recorded) → Went before now publisher es (trace ++ map commit entries) → Steps (CanStep messages publisher) there entries → Steps (IsRunStep publisher) there entries
      → SettlesAs publisher (there ++ entries) before now → DatabaseStepsOn messages publisher es before now
  with_entries entries went can steps settles =
      let known : List Message = messages ++ put_in so_far.database_steps in
      let all : Steps (CanStep known publisher) there entries = steps_among messages known publisher there entries (λ m has. Contains-append_left messages (put_in so_far.database_steps) m has) can in
      with_more (map commit entries) went (record { database_steps = map append entries; are = commits_database_steps known publisher there entries all })
      (subst (λ (rs : List Recorded). Steps (IsRunStep publisher) there rs) (sym (commits_of entries)) steps)
      (subst (λ (rs : List Recorded). SettlesAs publisher (there ++ rs) before now) (sym (commits_of entries)) settles)

  -- messages were being put for a partner, or their note was being committed
  with_delivery : (partner : _) (events : List Event) (fault : AgentFault) → DeliveryStop publisher there options.length partner db new seen now events fault → DatabaseStepsOn messages publisher es before now
  with_delivery partner events fault stop =
      let still : IsTrue seen.observable = subst (λ (b : Bool). IsTrue b) (sym (told_same before seen publisher es trace came.went).0) told in
      let fine : IsFine publisher db.log.base there = subst (λ (n : ℕ). IsFine publisher n there) (sym came.base_is) (fine_along publisher base es (commits trace) old steps_so_far) in
      let more = cause_database_steps (messages ++ put_in so_far.database_steps) publisher there db new fine seen now partner.user options.length partner.ask came.database
      stop.why still stop.cause in
      with_more more.trace (joined before seen now publisher es trace more.trace came.went more.went) more.has more.steps
      (settles_before publisher (there ++ commits more.trace) before seen now (omega (arith, came.steady.disk)) more.settles)

  -- where nothing happened after them it is as they left it
  still_settled : now ≡ seen → IsSettled (StandsAs publisher there) now
  still_settled same = subst (λ (s : Seen). IsSettled (StandsAs publisher there) s) (sym same) (settled_as db publisher there seen came.database)

  -- each of them; a partner's pass of a partner by what is received in it
  pub stop_database_steps : (events : List Event) (lines : List Line) (fault : AgentFault) (whole : Type 0)
      → ((whose : Name) (left : List Name) → IsReceivingUpTo publisher es options run (whose ∷ left) → PartnerPassStop publisher there (fetched_files_of run.gathered) whose db new seen now events lines fault options.purge whole
      → DatabaseStepsOn messages publisher es before now)
      → StopsAt publisher es options run db new seen now events lines fault whole → Went before now publisher es (trace ++ events) → DatabaseStepsOn messages publisher es before now
  stop_database_steps events lines fault whole partner_pass (at_first is_run is_new is_now is_events is_lines untold) went = with_none events is_events (still_settled is_now) went
  stop_database_steps events lines fault whole partner_pass (gathering asked_for is_run is_new is_events stop) went =
      with_none events is_events
      (gathered_settled db publisher there seen now (state_of publisher es).catalog (end_of es) [] stop.told stop.why
      (subst (λ (b : Bool). IsTrue b) (sym (told_same before seen publisher es trace came.went).0) told) came.database stop.part) went
  stop_database_steps events lines fault whole partner_pass (behind_gathering left upto none is_new is_now is_events is_lines untold) went = with_none events is_events (still_settled is_now) went
  stop_database_steps events lines fault whole partner_pass (in_partner_pass whose left upto stop) went = partner_pass whose left upto stop
  stop_database_steps events lines fault whole partner_pass (sending left upto newest earlier newest_is is_new is_now is_events is_lines untold) went = with_none events is_events (still_settled is_now) went
  stop_database_steps events lines fault whole partner_pass (in_delivery partner left upto is_lines stop) went = with_delivery partner events fault stop

-- ---- what was sent by then

pub stop_sent : (publisher : Name) (es : List Recorded) (options : Options) (run : Run) (db new : View) (seen now : Seen) (events : List Event) (lines : List Line) (fault : AgentFault) (whole : Type 0)
    → StopsAt publisher es options run db new seen now events lines fault whole → HasSent publisher es options.length run
stop_sent publisher es options run db new seen now events lines fault whole (at_first is_run is_new is_now is_events is_lines untold) = inl (ap (λ (r : Run). r.deliveries) is_run)
stop_sent publisher es options run db new seen now events lines fault whole (gathering asked_for is_run is_new is_events stop) = inl (ap (λ (r : Run). r.deliveries) is_run)
stop_sent publisher es options run db new seen now events lines fault whole (behind_gathering left upto none is_new is_now is_events is_lines untold) = inl upto.none
stop_sent publisher es options run db new seen now events lines fault whole (in_partner_pass whose left upto stop) = inl upto.none
stop_sent publisher es options run db new seen now events lines fault whole (sending left upto newest earlier newest_is is_new is_now is_events is_lines untold) = inr upto.sending.are
stop_sent publisher es options run db new seen now events lines fault whole (in_delivery partner left upto is_lines stop) = inr upto.sending.are

-- ---- a run to its end, and to a fault, by what it received

pub whole_database_steps : (messages : List Message) (publisher : Name) (es : List Recorded) (options : Options) (base : ℕ) (new : View) (before now : Seen) (lines : List Line) → IsFine publisher base es
    → (ran : RanWhole base new before now publisher es options lines) → Steps (CanStep messages publisher) es (taken_entries publisher es ran.run) → DatabaseStepsOn messages publisher es before now
whole_database_steps messages publisher es options base new before now lines old ran taken =
    let received : HasReceived publisher es ran.run = received_either options.receive publisher es ran.run ran.is.receives in
    record {
      trace = trace_of publisher es ran.run;
      went = ran.came.went;
      has = run_database_steps base publisher messages es options.length ran.run old ran.came.based received taken (sent_either publisher es options.send options ran.run ran.is.sends);
      steps = run_steps publisher es ran.run received;
      settles = λ none. settled_as new publisher (after_run publisher es ran.run) now ran.came.database;
    }

pub part_of_database_steps : (messages : List Message) (publisher : Name) (es : List Recorded) (options : Options) (base : ℕ) (new : View) (before now : Seen) (written written' : Output) (lines : List Line) (fault : AgentFault)
    → IsTrue before.observable → IsFine publisher base es → (ran : RanInPart base new before now written written' publisher es options lines fault) → HasReceived publisher es ran.run
    → Steps (CanStep messages publisher) es (taken_entries publisher es ran.run)
    → ((whose : Name) (left : List Name) → IsReceivingUpTo publisher es options ran.run (whose ∷ left)
    → PartnerPassStop publisher (after_run publisher es ran.run) (fetched_files_of ran.run.gathered) whose ran.db new ran.seen now ran.events ran.told fault options.purge (HasTold lines written written')
    → WentOnBy messages publisher es before now (trace_of publisher es ran.run))
    → DatabaseStepsOn messages publisher es before now
part_of_database_steps messages publisher es options base new before now written written' lines fault told old ran received taken partner_pass =
    let sent : HasSent publisher es options.length ran.run
    = stop_sent publisher es options ran.run ran.db new ran.seen now ran.events ran.told fault (HasTold lines written written') ran.stops in
    let so_far = run_database_steps base publisher messages es options.length ran.run old ran.came.based received taken sent in
    stop_database_steps messages publisher es base old options ran.run ran.db new before ran.seen now told ran.came so_far received ran.events ran.told fault (HasTold lines written written')
    (λ whose left upto stop. let on = partner_pass whose left upto stop in
    with_entries messages publisher es base old options ran.run ran.db new before ran.seen now told ran.came so_far received on.entries on.went on.can on.steps on.settles)
    ran.stops ran.went
