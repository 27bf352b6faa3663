-- Behind a put nothing is done to the mail but further puts: in a run of the agent, to its end or to the fault that ended it.
use Rattle.std.proofs.Common.{◌≡◌, ℕ, false, inl, inr, List, [], ◌∷◌, ◌++◌, map, length, Result, Ok, Err, refl, sym, ap, subst, ◌∙◌, arith, append_assoc, append-nil, length-append}
use Rattle.std.proofs.lemmas.List.{append_cancel_right}
use Rattle.sr_mail_cut.proofs.Lists.{AllByRecursion-append}
use Rattle.std.specs.List.{AllByRecursion}
use Rattle.std.specs.Prelude.{Bool, true, IsTrue}
use Rattle.sr_book.specs.Entries.{Name}
use Rattle.sr_database.specs.Databases.{IsDatabase}
use Rattle.sr_database.specs.Views.{View}
use Rattle.sr_database_history.specs.Recorded.{Recorded}
use Rattle.sr_send.specs.Posting.{PutAlone, PutSucceeded}
use Rattle.sr_site.specs.Happenings.{Happening, attached, wrote, cut_to, synced, listed, fetched, sent, removed, handed_over, mail_in}
use Rattle.sr_site.specs.Causes.{DiskStays, Stays}
use Rattle.sr_site.specs.Inner.Growing.{disk_stays_on}
use Rattle.sr_site.specs.Seen.{Seen}
use Rattle.sr_site.specs.Streams.{Output}
use Rattle.sr_database_meaning.specs.Events.{Event, PutFile, commit, put, puts, puts_in}
use Rattle.sr_database_meaning.specs.Traces.{Went}
use Rattle.sr_database_meaning.proofs.Going.{calls_more, mail_more, none_calls, none_put, puts_more, puts_of_mail, told_calls, told_puts, told_same}
use Rattle.sr_agent.specs.Agents.{CameSoFar, Did, DidWhere, RanAgent, RanWhole}
use Rattle.sr_agent.proofs.Restarted.{stop_stays}
use Rattle.sr_agent.specs.Deliveries.{with_puts}
use Rattle.sr_agent.specs.Ends.{HasTold}
use Rattle.sr_agent.specs.Lines.{Line}
use Rattle.sr_agent.specs.Runs.{Run, after_run, fetched_files_of, mail_of, received_mail, sent_events, taken_entries, trace_of}
use Rattle.sr_agent.specs.Stops.{StopsAt, at_first, gathering, behind_gathering, in_partner_pass, sending, in_delivery, PartnerPassStop, in_message_files, behind_message_files, DeliveryStop}
use Rattle.sr_agent.specs.PartnerPasses.{partner_pass_entries, partner_passes_mail}
use Rattle.sr_agent.specs.declared.fault.AgentFault.{AgentFault}
use Rattle.sr_agent.specs.declared.options.Options.{Options}
use Rattle.sr_agent.proofs.PutsAlone.{cause_alone}
use Rattle.sr_world_prefix.proofs.Backed.{puts_commits}
use Rattle.sr_world_prefix.proofs.Backed as backed
use Rattle.sr_world_prefix.proofs.Behind.{none_before}
use Rattle.sr_database_meaning.proofs.Joining.{trace_puts}
use Rattle.sr_world_prefix.proofs.Mail.{goes_on, mail_of_on, partner_passes_mail_on, puts_on}
use Rattle.sr_world_runs.specs.Inner.Worlds.{CallsInOrder}
use Rattle.sr_world_runs.specs.Worlds.{PutsComeLast}
use Rattle.sr_world_runs.proofs.Resting.{none_mail}

no_last : (l : List PutFile) (x : PutFile) → l ++ x ∷ [] ≡ [] → ⊥
no_last [] x e = cc
no_last (y ∷ l) x e = cc

-- ---- nothing was put

pub unput_last : (more : List Happening) → puts_in more ≡ [] → PutsComeLast more
unput_last [] none = tt
unput_last (attached name folder done ∷ more) none = unput_last more none
unput_last (wrote file place bytes done after ∷ more) none = unput_last more none
unput_last (cut_to file to done after ∷ more) none = unput_last more none
unput_last (synced file done after ∷ more) none = unput_last more none
unput_last (listed address folder listing ∷ more) none = (none, unput_last more none)
unput_last (fetched address name limit found ∷ more) none = (none, unput_last more none)
unput_last (sent address name bytes done ∷ more) none = unput_last more (none_before (sent address name bytes done) more none)
unput_last (removed address name done ∷ more) none = (none, unput_last more none)
unput_last (handed_over folders noted ∷ more) none = (none, unput_last more none)

-- what happened since was no put, where the trace has none
pub unput_since : (before now : Seen) (publisher : Name) (es : List Recorded) (trace : List Event) → Went before now publisher es trace → puts trace ≡ [] → (more : List Happening)
    → now.happened ≡ more ++ before.happened → PutsComeLast more
unfolding Went
unput_since before now publisher es trace went none more is =
    let same : went.more ≡ more = append_cancel_right went.more more before.happened (sym went.is ∙ is) in
    unput_last more (ap puts_in (sym same) ∙ went.end.put ∙ none)

-- ---- after an opening

unput_there : (later opening : List Happening) → mail_in opening ≡ [] → puts_in later ≡ [] → puts_in (later ++ opening) ≡ []
unput_there later opening none unput = puts_more opening later ∙ ap (λ (l : List PutFile). l ++ puts_in later) (none_put opening none) ∙ unput

pub opened_last : (later opening : List Happening) → mail_in opening ≡ [] → PutsComeLast later → PutsComeLast (later ++ opening)
opened_last [] opening none last = unput_last opening (none_put opening none)
opened_last (attached name folder done ∷ later) opening none last = opened_last later opening none last
opened_last (wrote file place bytes done after ∷ later) opening none last = opened_last later opening none last
opened_last (cut_to file to done after ∷ later) opening none last = opened_last later opening none last
opened_last (synced file done after ∷ later) opening none last = opened_last later opening none last
opened_last (listed address folder listing ∷ later) opening none last = (unput_there later opening none last.0, opened_last later opening none last.1)
opened_last (fetched address name limit found ∷ later) opening none last = (unput_there later opening none last.0, opened_last later opening none last.1)
opened_last (sent address name bytes done ∷ later) opening none last = opened_last later opening none last
opened_last (removed address name done ∷ later) opening none last = (unput_there later opening none last.0, opened_last later opening none last.1)
opened_last (handed_over folders noted ∷ later) opening none last = (unput_there later opening none last.0, opened_last later opening none last.1)

-- after what happened before it was opened
pub puts_behind : (before opened now : Seen) (opening : List Happening) → opened.happened ≡ opening ++ before.happened → mail_in opening ≡ [] → (later : List Happening)
    → now.happened ≡ later ++ opened.happened → ((more : List Happening) → now.happened ≡ more ++ opened.happened → PutsComeLast more) → (more : List Happening)
    → now.happened ≡ more ++ before.happened → PutsComeLast more
puts_behind before opened now opening one none later two last more is =
    let joined : now.happened ≡ (later ++ opening) ++ before.happened = two ∙ ap (λ (l : List Happening). later ++ l) one ∙ sym (append_assoc later opening before.happened) in
    let same : later ++ opening ≡ more = append_cancel_right (later ++ opening) more before.happened (sym joined ∙ is) in
    subst PutsComeLast same (opened_last later opening none (last later two))

-- ---- all that happened are calls, too

-- where the mail was left alone
pub quiet_order : (before now : Seen) → DiskStays before now → CallsInOrder before now
quiet_order before now stays =
    let all = goes_on before.happened now.happened stays.grows in
    let none : mail_in all.more ≡ [] = none_mail before now all.more all.is stays in
    record { more = all.more; is = all.is; calls = none_calls all.more none; puts_come_last = unput_last all.more (none_put all.more none) }

-- where a database was opened and went through a trace
pub went_order : (before opened now : Seen) → DiskStays before opened → (publisher : Name) (es : List Recorded) (trace : List Event) → Went opened now publisher es trace
    → ((more : List Happening) → now.happened ≡ more ++ opened.happened → PutsComeLast more) → CallsInOrder before now
went_order before opened now quiet publisher es trace went last =
    let opening = goes_on before.happened opened.happened quiet.grows in
    let none : mail_in opening.more ≡ [] = none_mail before opened opening.more opening.is quiet in
    let later = told_calls opened now publisher es trace went in
    let is : now.happened ≡ (later.0 ++ opening.more) ++ before.happened
    = later.1 ∙ ap (λ (l : List Happening). later.0 ++ l) opening.is ∙ sym (append_assoc later.0 opening.more before.happened) in
    record {
      more = later.0 ++ opening.more;
      is = is;
      calls = calls_more opening.more later.0 later.2 (none_calls opening.more none);
      puts_come_last = puts_behind before opened now opening.more opening.is none later.0 later.1 last (later.0 ++ opening.more) is;
    }

-- ---- where nothing was put, no put failed

unput_done : (more : List Happening) → puts_in more ≡ [] → AllByRecursion PutSucceeded more
unput_done [] none = tt
unput_done (attached name folder done ∷ more) none = (tt, unput_done more none)
unput_done (wrote file place bytes done after ∷ more) none = (tt, unput_done more none)
unput_done (cut_to file to done after ∷ more) none = (tt, unput_done more none)
unput_done (synced file done after ∷ more) none = (tt, unput_done more none)
unput_done (listed address folder listing ∷ more) none = (tt, unput_done more none)
unput_done (fetched address name limit found ∷ more) none = (tt, unput_done more none)
unput_done (sent address name bytes done ∷ more) none = absurd (no_last (puts_in more) (address, name, bytes) none)
unput_done (removed address name done ∷ more) none = (tt, unput_done more none)
unput_done (handed_over folders noted ∷ more) none = (tt, unput_done more none)

pub quiet_done : (before now : Seen) → DiskStays before now → (more : List Happening) → now.happened ≡ more ++ before.happened → AllByRecursion PutSucceeded more
quiet_done before now stays more is = unput_done more (none_put more (none_mail before now more is stays))

-- ---- by the mail alone

mail_last : (more : List Happening) → PutsComeLast (mail_in more) → PutsComeLast more
mail_last [] last = tt
mail_last (attached name folder done ∷ more) last = mail_last more last
mail_last (wrote file place bytes done after ∷ more) last = mail_last more last
mail_last (cut_to file to done after ∷ more) last = mail_last more last
mail_last (synced file done after ∷ more) last = mail_last more last
mail_last (listed address folder listing ∷ more) last = (sym (puts_of_mail more) ∙ last.0, mail_last more last.1)
mail_last (fetched address name limit found ∷ more) last = (sym (puts_of_mail more) ∙ last.0, mail_last more last.1)
mail_last (sent address name bytes done ∷ more) last = mail_last more last
mail_last (removed address name done ∷ more) last = (sym (puts_of_mail more) ∙ last.0, mail_last more last.1)
mail_last (handed_over folders noted ∷ more) last = (sym (puts_of_mail more) ∙ last.0, mail_last more last.1)

mail_done : (more : List Happening) → AllByRecursion PutSucceeded (mail_in more) → AllByRecursion PutSucceeded more
mail_done [] done = tt
mail_done (attached name folder done ∷ more) all = (tt, mail_done more all)
mail_done (wrote file place bytes done after ∷ more) all = (tt, mail_done more all)
mail_done (cut_to file to done after ∷ more) all = (tt, mail_done more all)
mail_done (synced file done after ∷ more) all = (tt, mail_done more all)
mail_done (listed address folder listing ∷ more) all = (tt, mail_done more all.1)
mail_done (fetched address name limit found ∷ more) all = (tt, mail_done more all.1)
mail_done (sent address name bytes done ∷ more) all = (all.0, mail_done more all.1)
mail_done (removed address name done ∷ more) all = (tt, mail_done more all.1)
mail_done (handed_over folders noted ∷ more) all = (tt, mail_done more all.1)

with_puts_done : (events : List Event) (before : List Happening) → AllByRecursion PutSucceeded before → AllByRecursion PutSucceeded (with_puts events before)
with_puts_done [] before all = all
with_puts_done (commit r ∷ events) before all = with_puts_done events before all
with_puts_done (put address name bytes ∷ events) before all = with_puts_done events (sent address name bytes true ∷ before) (refl, all)

puts_last : (events : List Event) (before : List Happening) → PutsComeLast before → PutsComeLast (with_puts events before)
puts_last [] before last = last
puts_last (commit r ∷ events) before last = puts_last events before last
puts_last (put address name bytes ∷ events) before last = puts_last events (sent address name bytes true ∷ before) last

puts_with : (events : List Event) (before : List Happening) → puts_in (with_puts events before) ≡ puts_in before ++ puts events
puts_with [] before = sym (append-nil (puts_in before))
puts_with (commit r ∷ events) before = puts_with events before
puts_with (put address name bytes ∷ events) before =
    puts_with events (sent address name bytes true ∷ before) ∙ append_assoc (puts_in before) ((address, name, bytes) ∷ []) (puts events)

-- puts alone, after mail that came after other mail
record AloneSince (events : List Event) (first mail now : List Happening) : Type 0 where
  more : List Happening
  is : now ≡ more ++ mail
  alone : PutAlone events first more

alone_since : (events : List Event) (first mail now : List Happening) → PutAlone events (first ++ mail) now → AloneSince events first mail now
alone_since [] first mail now alone = record { more = first; is = alone; alone = refl }
alone_since (commit r ∷ events) first mail now alone = let rest = alone_since events first mail now alone in record { more = rest.more; is = rest.is; alone = rest.alone }
alone_since (put address name bytes ∷ events) first mail now alone =
    let rest = alone_since events (sent address name bytes alone.0 ∷ first) mail now alone.1 in
    record { more = rest.more; is = rest.is; alone = (alone.0, rest.alone) }

alone_last : (events : List Event) (before now : List Happening) → PutAlone events before now → PutsComeLast before → PutsComeLast now
alone_last [] before now alone last = subst PutsComeLast (sym alone) last
alone_last (commit r ∷ events) before now alone last = alone_last events before now alone last
alone_last (put address name bytes ∷ events) before now alone last = alone_last events (sent address name bytes alone.0 ∷ before) now alone.1 last

-- the mail since then, by all of it
mail_since_is : (before now : Seen) (more mail : List Happening) → now.happened ≡ more ++ before.happened → mail_in now.happened ≡ mail ++ mail_in before.happened → mail_in more ≡ mail
mail_since_is before now more mail is mail_is =
    append_cancel_right (mail_in more) mail (mail_in before.happened) (sym (mail_more before.happened more) ∙ ap mail_in (sym is) ∙ mail_is)

-- ---- a run of the agent

no_length : (l : List PutFile) → length l ≡ 0 → l ≡ []
no_length [] none = refl
no_length (p ∷ l) none = absurd (omega (arith, none))

module _ (publisher : Name) (es : List Recorded) (options : Options) where
  -- what it put, it sent
  puts_sent : (run : Run) → puts (trace_of publisher es run) ≡ puts (sent_events publisher es run)
  puts_sent run =
      trace_puts (map commit (taken_entries publisher es run)) (sent_events publisher es run)
      ∙ ap (λ (l : List PutFile). l ++ puts (sent_events publisher es run)) (puts_commits (taken_entries publisher es run))

  module _ (run : Run) (base : ℕ) (db : View) (before seen : Seen) (came : CameSoFar base db before seen publisher es options run) where
    abbrev events : List Event
    events = sent_events publisher es run

    abbrev received : List Happening
    received = received_mail publisher es options.purge run []

    -- the mail of its first steps
    abbrev mail : List Happening
    mail = with_puts events received

    received_is : (past : List Happening) → received_mail publisher es options.purge run past ≡ received ++ past
    received_is past =
        ap (partner_passes_mail publisher es (fetched_files_of run.gathered) options.purge run.partner_passes) (mail_of_on publisher run.gathered [] past)
        ∙ partner_passes_mail_on publisher es (fetched_files_of run.gathered) options.purge run.partner_passes (mail_of publisher run.gathered []) past

    mail_is : mail_in seen.happened ≡ mail ++ mail_in before.happened
    mail_is = came.mail ∙ ap (with_puts events) (received_is (mail_in before.happened)) ∙ puts_on events received (mail_in before.happened)

    -- nothing was put in the receive pass
    unput : puts_in received ≡ []
    unput =
        let by_mail : puts_in seen.happened ≡ puts_in (mail_in before.happened) ++ (puts_in received ++ puts events)
        = sym (puts_of_mail seen.happened) ∙ ap puts_in mail_is ∙ puts_more (mail_in before.happened) mail
        ∙ ap (λ (l : List PutFile). puts_in (mail_in before.happened) ++ l) (puts_with events received) in
        let by_trace : puts_in seen.happened ≡ puts_in (mail_in before.happened) ++ puts events
        = told_puts before seen publisher es (trace_of publisher es run) came.went
        ∙ ap (λ (l : List PutFile). l ++ puts (trace_of publisher es run)) (sym (puts_of_mail before.happened))
        ∙ ap (λ (l : List PutFile). puts_in (mail_in before.happened) ++ l) (puts_sent run) in
        let long : length (puts_in (mail_in before.happened) ++ (puts_in received ++ puts events)) ≡ length (puts_in (mail_in before.happened) ++ puts events) = ap length (sym by_mail ∙ by_trace) in
        no_length (puts_in received) (omega (
          arith,
          long,
          length-append (puts_in (mail_in before.happened)) (puts_in received ++ puts events),
          length-append (puts_in received) (puts events),
          length-append (puts_in (mail_in before.happened)) (puts events),
        ))

    so_far_last : PutsComeLast mail
    so_far_last = puts_last events received (unput_last received unput)

    came_last : (more : List Happening) → seen.happened ≡ more ++ before.happened → PutsComeLast more
    came_last more is = mail_last more (subst PutsComeLast (sym (mail_since_is before seen more mail is mail_is)) so_far_last)

    came_done : (more : List Happening) → seen.happened ≡ more ++ before.happened → AllByRecursion PutSucceeded more
    came_done more is =
        mail_done more (subst (λ (l : List Happening). AllByRecursion PutSucceeded l) (sym (mail_since_is before seen more mail is mail_is)) (with_puts_done events received (unput_done received unput)))

    -- and then puts alone
    alone_behind : (now : Seen) (added : List Event) → PutAlone added (mail_in seen.happened) (mail_in now.happened) → (more : List Happening) → now.happened ≡ more ++ before.happened → PutsComeLast more
    alone_behind now added alone more is =
        let behind = alone_since added mail (mail_in before.happened) (mail_in now.happened) (subst (λ (l : List Happening). PutAlone added l (mail_in now.happened)) mail_is alone) in
        mail_last more (subst PutsComeLast (sym (mail_since_is before now more behind.more is behind.is)) (alone_last added mail behind.more behind.alone so_far_last))

module _ (publisher : Name) (es : List Recorded) (options : Options) (base : ℕ) (new : View) (before now : Seen) (told : IsTrue before.observable) where
  module _ (run : Run) (db : View) (seen : Seen) (came : CameSoFar base db before seen publisher es options run) where
    -- nothing happened after the first steps
    same_last : now ≡ seen → (more : List Happening) → now.happened ≡ more ++ before.happened → PutsComeLast more
    same_last same more is = came_last publisher es options run base db before seen came more (ap (λ (s : Seen). s.happened) (sym same) ∙ is)

    -- nothing was put in them, and nothing after them
    unput_behind : (events : List Event) (rs : List Recorded) → run.deliveries ≡ [] → events ≡ map commit rs → Went before now publisher es (trace_of publisher es run ++ events) → (more : List Happening)
        → now.happened ≡ more ++ before.happened → PutsComeLast more
    unput_behind events rs none is_events went more is =
        let unput : puts (trace_of publisher es run ++ events) ≡ []
        = trace_puts (trace_of publisher es run) events ∙ ap (λ (l : List PutFile). l ++ puts events) (backed.none_put publisher es run none) ∙ ap puts is_events ∙ puts_commits rs in
        unput_since before now publisher es (trace_of publisher es run ++ events) went unput more is

    delivery_last : (partner : _) (events : List Event) (fault : AgentFault) → DeliveryStop publisher (after_run publisher es run) options.length partner db new seen now events fault → (more : List Happening)
        → now.happened ≡ more ++ before.happened → PutsComeLast more
    delivery_last partner events fault stop more is =
        let still : IsTrue seen.observable = subst (λ (b : Bool). IsTrue b) (sym (told_same before seen publisher es (trace_of publisher es run) came.went).0) told in
        let put_alone = cause_alone publisher (after_run publisher es run) db new seen now partner.user options.length partner.ask still came.database stop.why stop.cause in
        alone_behind publisher es options run base db before seen came now put_alone.events put_alone.alone more is

    partner_pass_last : (whose : Name) (events : List Event) (lines : List Line) (fault : AgentFault) (whole : Type 0) → run.deliveries ≡ []
        → PartnerPassStop publisher (after_run publisher es run) (fetched_files_of run.gathered) whose db new seen now events lines fault options.purge whole
        → Went before now publisher es (trace_of publisher es run ++ events) → (more : List Happening) → now.happened ≡ more ++ before.happened → PutsComeLast more
    partner_pass_last whose events lines fault whole none (in_message_files stop) went more is = unput_behind events (stop.entries ++ stop.begun) none stop.events_are went more is
    partner_pass_last whose events lines fault whole none (behind_message_files stop) went more is = unput_behind events (partner_pass_entries publisher (after_run publisher es run) (fetched_files_of run.gathered) stop.partner_pass) none stop.events_are went more is

    stop_last : (events : List Event) (lines : List Line) (fault : AgentFault) (whole : Type 0) → StopsAt publisher es options run db new seen now events lines fault whole
        → Went before now publisher es (trace_of publisher es run ++ events) → (more : List Happening) → now.happened ≡ more ++ before.happened → PutsComeLast more
    stop_last events lines fault whole (at_first is_run is_new is_now is_events is_lines untold) went = same_last is_now
    stop_last events lines fault whole (gathering asked_for is_run is_new is_events stop) went = unput_behind events [] (ap (λ (r : Run). r.deliveries) is_run) is_events went
    stop_last events lines fault whole (behind_gathering left upto none is_new is_now is_events is_lines untold) went = same_last is_now
    stop_last events lines fault whole (in_partner_pass whose left upto stop) went = partner_pass_last whose events lines fault whole upto.none stop went
    stop_last events lines fault whole (sending left upto newest earlier newest_is is_new is_now is_events is_lines untold) went = same_last is_now
    stop_last events lines fault whole (in_delivery partner left upto is_lines stop) went = delivery_last partner events fault stop

  pub did_last : (written written' : Output) (lines : List Line) (result : Result ℕ AgentFault) → Did base new before now written written' publisher es options lines result → (more : List Happening)
      → now.happened ≡ more ++ before.happened → PutsComeLast more
  did_last written written' lines (Ok count) ran = came_last publisher es options ran.run base new before now ran.came
  did_last written written' lines (Err fault) ran = stop_last ran.run ran.db ran.seen ran.came ran.events ran.told fault (HasTold lines written written') ran.stops ran.went

-- ---- a run of the agent on a database that was opened

module _ (publisher : Name) (es : List Recorded) (options : Options) (new : View) (before now : Seen) (written' : Output) where
  did_went : (base : ℕ) (opened : Seen) (written : Output) (lines : List Line) (result : Result ℕ AgentFault) → Did base new opened now written written' publisher es options lines result
      → (trace : List Event) × Went opened now publisher es trace
  did_went base opened written lines (Ok count) whole = (trace_of publisher es whole.run, whole.came.went)
  did_went base opened written lines (Err fault) part = (trace_of publisher es part.run ++ part.events, part.went)

  did_order : (base : ℕ) (opened : Seen) (written : Output) (lines : List Line) (result : Result ℕ AgentFault) → IsTrue before.observable → DiskStays before opened
      → Did base new opened now written written' publisher es options lines result → CallsInOrder before now
  did_order base opened written lines result told quiet did =
      let still_told : IsTrue opened.observable = subst (λ (b : Bool). IsTrue b) (sym quiet.observable) told in
      let went = did_went base opened written lines result did in
      went_order before opened now quiet publisher es went.0 went.1 (did_last publisher es options base new opened now still_told written written' lines result did)

  whole_done : (base : ℕ) (opened : Seen) (lines : List Line) → DiskStays before opened → Stays opened now → RanWhole base new opened now publisher es options lines → (more : List Happening)
      → now.happened ≡ more ++ before.happened → AllByRecursion PutSucceeded more
  whole_done base opened lines quiet stays whole more is =
      let opening = goes_on before.happened opened.happened quiet.grows in
      let later = goes_on opened.happened now.happened stays.grows in
      let joined : now.happened ≡ (later.more ++ opening.more) ++ before.happened
      = later.is ∙ ap (λ (l : List Happening). later.more ++ l) opening.is ∙ sym (append_assoc later.more opening.more before.happened) in
      let same : later.more ++ opening.more ≡ more = append_cancel_right (later.more ++ opening.more) more before.happened (sym joined ∙ is) in
      subst (λ (l : List Happening). AllByRecursion PutSucceeded l) same
      (AllByRecursion-append PutSucceeded later.more opening.more (came_done publisher es options whole.run base new opened now whole.came later.more later.is)
      (quiet_done before opened quiet opening.more opening.is))

module _ (publisher : Name) (es : List Recorded) (options : Options) (view new : View) (before opened now : Seen) (written written' : Output) where
  -- with a restart or without: nothing happens to the mail before the passes
  all_order : (b : Bool) (lines : List Line) (result : Result ℕ AgentFault) → IsTrue before.observable → DiskStays before opened → DidWhere b view new opened now written written' publisher es options lines result
      → CallsInOrder before now
  all_order false lines result told quiet did = did_order publisher es options new before now written' view.log.base opened written lines result told quiet did
  all_order true lines (Ok count) told quiet did =
      did_order publisher es options new before now written' did.between.log.base did.middle did.said did.rest (Ok count) told (disk_stays_on before opened did.middle quiet did.restart.stays) did.did
  all_order true lines (Err fault) told quiet (inl did) =
      did_order publisher es options new before now written' did.between.log.base did.middle did.said did.rest (Err fault) told (disk_stays_on before opened did.middle quiet did.restart.stays) did.did
  all_order true lines (Err fault) told quiet (inr stop) = quiet_order before now (disk_stays_on before opened now quiet (stop_stays publisher es view new opened now lines fault stop))

  all_done : (b : Bool) (lines : List Line) (count : ℕ) → DiskStays before opened → Stays opened now → DidWhere b view new opened now written written' publisher es options lines (Ok count) → (more : List Happening)
      → now.happened ≡ more ++ before.happened → AllByRecursion PutSucceeded more
  all_done false lines count quiet stays whole = whole_done publisher es options new before now written' view.log.base opened lines quiet stays whole
  all_done true lines count quiet stays did =
      whole_done publisher es options new before now written' did.between.log.base did.middle did.rest (disk_stays_on before opened did.middle quiet did.restart.stays) did.stays did.did

  pub agent_order : (result : Result ℕ AgentFault) → IsTrue before.observable → DiskStays before opened → IsDatabase view publisher es opened
      → RanAgent view new opened now written written' options result → CallsInOrder before now
  agent_order result told quiet database ran =
      let still_told : IsTrue opened.observable = subst (λ (b : Bool). IsTrue b) (sym quiet.observable) told in
      all_order options.restart ran.lines result told quiet (ran.did still_told publisher es database)

  pub agent_done : (count : ℕ) → IsTrue before.observable → DiskStays before opened → IsDatabase view publisher es opened
      → RanAgent view new opened now written written' options (Ok count) → (more : List Happening) → now.happened ≡ more ++ before.happened → AllByRecursion PutSucceeded more
  agent_done count told quiet database ran =
      let still_told : IsTrue opened.observable = subst (λ (b : Bool). IsTrue b) (sym quiet.observable) told in
      all_done options.restart ran.lines count quiet ran.ended.site (ran.did still_told publisher es database)
