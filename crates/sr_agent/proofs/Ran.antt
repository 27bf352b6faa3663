-- What a run promises, from what its passes do.
use Rattle.std.proofs.Common.{◌≡◌, Bool, true, false, ℕ, List, [], ◌∷◌, ◌++◌, map, refl, sym, ap, subst, inl, inr, ◌∙◌, append_assoc, arith}
use Rattle.std.specs.Prelude.{IsTrue, Ok, Err}
use Rattle.std.proofs.lemmas.List.{append-nil}
use Rattle.sr_book.specs.Entries.{Name}
use Rattle.sr_database.specs.Databases.{IsDatabase}
use Rattle.sr_database.specs.Views.{View}
use Rattle.sr_database_history.specs.Folds.{state_of}
use Rattle.sr_database_history.specs.Recorded.{Recorded}
use Rattle.sr_receive.specs.Inner.Ready.{IsReady}
use Rattle.sr_receive.specs.Passes.{AreSteady as IsSteady}
use Rattle.sr_site.specs.Causes.{Stays}
use Rattle.sr_receive_gather.specs.declared.bag.PartnerMail.{PartnerMail}
use Rattle.sr_catalog_schema.specs.Members.{user_name}
use Rattle.sr_site.specs.Inner.Growing.{stays_on}
use Rattle.sr_site.specs.Happenings.{mail_in}
use Rattle.sr_site.specs.Seen.{Seen}
use Rattle.sr_site.specs.Streams.{Output}
use Rattle.sr_database_meaning.specs.Events.{Event, commit, commits}
use Rattle.sr_database_meaning.specs.Traces.{Went}
use Rattle.sr_database_meaning.proofs.Going.{told_same}
use Rattle.sr_database_meaning.proofs.Joining.{joined}
use Rattle.sr_session.specs.Reports.{Endures}
use Rattle.sr_agent.specs.Agents.{AreTold, RanInPart, RanWhole}
use Rattle.sr_agent.specs.Deliveries.{Delivery, deliveries_events, deliveries_lines}
use Rattle.sr_agent.specs.Ends.{Ended, HasTold}
use Rattle.sr_agent.specs.Inner.Restarting.{RanPasses}
use Rattle.sr_agent.specs.Lines.{Line, alarms, lines_text}
use Rattle.sr_agent.specs.Removals.{RemovesInRun}
use Rattle.sr_agent.specs.Runs.{IsSending, Receives, Run, Sends, after_receiving, after_run, asked, fetched_files_of, lines_of, nothing_done, received_lines, run_lines, taken_entries, trace_of}
use Rattle.sr_agent.specs.Inner.Steps.{BrokeInDeliveries, BrokeInReceiving, BrokeInPartnerPasses, BrokenWhere, HasGatheredAll, IsUntoldThere, MadePass, PassBroken, SendingBroken, SendingDone, SentPartWhere, SentWhere, TookDeliveries, Told, told_in_part, gathered_in_part, in_mail, in_partner_passes}
use Rattle.sr_agent.specs.Stops.{DeliveryStop, GatheringStop, IsSendingUpTo, IsUntold, StopsAt, at_first, gathering, behind_gathering, in_partner_pass, sending, in_delivery}
use Rattle.sr_agent.specs.PartnerPasses.{PartnerPass, gathering_lines, partners, partner_passes_entries, partner_passes_lines}
use Rattle.sr_agent.specs.declared.fault.AgentFault.{AgentFault}
use Rattle.sr_agent.specs.declared.fault.AgentFault.TheVariants.{Memory}
use Rattle.sr_agent.specs.declared.options.Options.{Options}
use Rattle.sr_agent.specs.declared.partner.Partner.{Partner}
use Rattle.sr_agent.specs.declared.progress.Progress.{Progress}
use Rattle.sr_agent.proofs.Based.{base_stays}
use Rattle.sr_agent.proofs.DoneWith.{removes_on}
use Rattle.sr_agent.proofs.Joints.{told_then}
use Rattle.sr_agent.proofs.Made.{HasMade, are_users, made_where, names_of_history, names_once}
use Rattle.sr_agent.proofs.PutsAlone.{cause_alone}
use Rattle.sr_agent.proofs.Reaching.{Reaches, came_alone, came_behind, gathered_run, reaches_mail, reaches_none, reaches_partner_passes, took_none, went_behind_mail, with_deliveries}
use Rattle.sr_agent.proofs.Reported.{StopEndures, database_endures, nothing_told, observable_then, stop_endures, went_endures}
use Rattle.sr_agent.proofs.Unremoved.{alone_same, gathered_same, mail_same, none_removed}
use Rattle.sr_agent.proofs.Wholes.{Received, history_is}
use Rattle.sr_agent.proofs.Written.{alarms_on, ended_at_once, ended_behind, still_site, still_steady, still_told, told_before, told_behind, told_on}

-- ---- the receive pass ended by a fault

-- nothing was done
in_part_at_once : (view : View) (seen : Seen) (written : Output) (publisher : Name) (es : List Recorded) (options : Options) (fault : AgentFault) → IsDatabase view publisher es seen → fault ≡ Memory
    → RanInPart view.log.base view seen seen written written publisher es options [] fault
in_part_at_once view seen written publisher es options fault database want =
    let came = came_alone view.log.base view seen seen publisher es options nothing_done (reaches_none view seen publisher es options database) refl in
    record {
      run = nothing_done;
      db = view;
      seen = seen;
      came = came;
      events = [];
      told = [];
      stops = at_first refl refl refl refl refl want;
      went = came.went;
      removals = came.removals;
      lines_are = refl;
      reported = nothing_told publisher (after_run publisher es nothing_done) seen (database_endures view publisher (after_run publisher es nothing_done) seen came.database);
      partner_passes_told = tt;
    }

-- the mail was gathered, and not told
in_part_untold : (view : View) (before now : Seen) (written written' : Output) (publisher : Name) (es : List Recorded) (options : Options) (bag : List PartnerMail) (lines : List Line) (fault : AgentFault) → options.receive ≡ true
    → HasGatheredAll view before now publisher es bag lines → IsUntold fault → RanInPart view.log.base view before now written written' publisher es options lines fault
in_part_untold view before now written written' publisher es options bag lines fault on gathered untold =
    let run = gathered_run gathered.gathering [] in
    let came = came_alone view.log.base view before now publisher es options run (reaches_mail view before now publisher es options bag lines gathered) refl in
    record {
      run = run;
      db = view;
      seen = now;
      came = came;
      events = [];
      told = [];
      stops = behind_gathering (partners publisher es)
          (record { asked_for = on; done = []; parts = refl; receiving = record { gathering = gathered.gathering; gathered_is = refl; is = gathered.is; are = tt; whose = refl }; none = refl })
          refl refl refl refl refl untold;
      went = came.went;
      removals = came.removals;
      lines_are = gathered.lines_are ∙ sym (append-nil (gathering_lines gathered.gathering)) ∙ sym (append-nil (gathering_lines gathered.gathering ++ []));
      reported = nothing_told publisher (after_run publisher es run) now (database_endures view publisher (after_run publisher es run) now came.database);
      partner_passes_told = tt;
    }

-- it was gathered in part
in_part_gathering : (view : View) (before now : Seen) (written written' : Output) (publisher : Name) (es : List Recorded) (options : Options) (lines : List Line) (fault : AgentFault) → options.receive ≡ true → IsTrue before.observable → IsDatabase view publisher es before
    → GatheringStop publisher es before now lines fault → Went before now publisher es [] → RanInPart view.log.base view before now written written' publisher es options lines fault
in_part_gathering view before now written written' publisher es options lines fault on told database stop went = record {
  run = nothing_done;
  db = view;
  seen = before;
  came = came_alone view.log.base view before before publisher es options nothing_done (reaches_none view before publisher es options database) refl;
  events = [];
  told = lines;
  stops = gathering on refl refl refl stop;
  went = went;
  removals = none_removed before.first before.happened before now publisher es [] went
      (mail_same before.happened now.happened (gathered_same (state_of publisher es).catalog.publisher before.happened now.happened stop.part.more stop.part.fetched_files (stop.part.happened told)));
  lines_are = refl;
  reported = nothing_told publisher (after_run publisher es nothing_done) now (nothing_told publisher es now (went_endures before now publisher es [] went));
  partner_passes_told = tt;
}

-- and a partner's pass was broken
are_told : (partner_passes : List PartnerPass) (lines : List Line) (written written' : Output) → HasTold lines written written' → AreTold partner_passes lines written written'
are_told [] lines written written' told = tt
are_told (t ∷ earlier) lines written written' told = told

in_part_partner_pass : (old new : View) (before seen now : Seen) (written between written' : Output) (publisher : Name) (es : List Recorded) (options : Options) (bag : List PartnerMail) (users : List Name) (first behind : List Line)
    (fault : AgentFault) → options.receive ≡ true → IsTrue before.observable → users ≡ partners publisher es → (gathered : HasGatheredAll old before seen publisher es bag first) → Told (lines_text first) written between
    → BrokeInPartnerPasses old new seen now publisher es gathered.gathering.fetched_files options.purge users between written' behind fault → RanInPart old.log.base new before now written written' publisher es options (first ++ behind) fault
in_part_partner_pass old new before seen now written between written' publisher es options bag users first behind fault on observable users_are gathered told broke =
    let g = gathered.gathering in
    let run = gathered_run g broke.took.partner_passes in
    let added = partner_passes_entries publisher es g.fetched_files broke.took.partner_passes in
    let reaches = reaches_partner_passes old broke.db before seen broke.seen publisher es options bag first broke.done broke.asks broke.earlier gathered broke.took in
    let same = base_stays old broke.db seen broke.seen publisher es (es ++ added) (map commit added) gathered.database broke.took.went broke.took.database in
    let observable_seen = observable_then before seen publisher es [] gathered.went observable in
    let stopped : StopEndures publisher (es ++ added) g.fetched_files broke.user broke.db new broke.seen now broke.events broke.told fault options.purge (HasTold (first ++ behind) written written')
    = stop_endures publisher (es ++ added) g.fetched_files broke.user broke.db new broke.seen now broke.events broke.told fault options.purge (HasTold behind between written') (HasTold (first ++ behind) written written')
    (told_behind first behind written between written' told) (observable_then seen broke.seen publisher es (map commit added) broke.took.went observable_seen)
    (observable_then seen now publisher es (map commit added ++ broke.events) broke.went observable_seen) broke.took.database broke.stop in
    let moved : StopEndures publisher (after_run publisher es run) g.fetched_files broke.user broke.db new broke.seen now broke.events broke.told fault options.purge (HasTold (first ++ behind) written written')
    = subst (λ (rs : List Recorded). StopEndures publisher rs g.fetched_files broke.user broke.db new broke.seen now broke.events broke.told fault options.purge (HasTold (first ++ behind) written written'))
    (sym (append-nil (es ++ added)) ∙ history_is es added []) stopped in
    record {
      run = run;
      db = broke.db;
      seen = broke.seen;
      came = came_alone old.log.base broke.db before broke.seen publisher es options run reaches same;
      events = broke.events;
      told = broke.told;
      stops = in_partner_pass broke.user broke.left
          (record {
            asked_for = on;
            done = broke.done;
            parts = sym users_are ∙ broke.parts;
            receiving = record { gathering = g; gathered_is = refl; is = gathered.is; are = broke.took.are; whose = broke.took.whose };
            none = refl;
          })
          moved.0;
      reported = moved.1;
      went = subst (λ (events : List Event). Went before now publisher es (events ++ broke.events)) (sym (append-nil (map commit added)))
          (went_behind_mail before seen now publisher es (map commit added ++ broke.events) gathered.went broke.went);
      removals = removes_on before.first seen.first publisher before.happened before.happened seen.happened now.happened (told_same before seen publisher es [] gathered.went).1
          (reaches_mail old before seen publisher es options bag first gathered).removals (broke.removals before.happened gathered.came);
      lines_are =
          ap (λ (ls : List Line). ls ++ behind) gathered.lines_are
          ∙ ap (λ (ls : List Line). gathering_lines g ++ ls) (broke.lines_are ∙ ap (λ (ls : List Line). ls ++ broke.told) (broke.took.lines_are ∙ sym (append-nil (partner_passes_lines publisher es g.fetched_files broke.took.partner_passes))))
          ∙ sym (append_assoc (gathering_lines g) (partner_passes_lines publisher es g.fetched_files broke.took.partner_passes ++ []) broke.told);
      partner_passes_told = are_told broke.took.partner_passes (received_lines publisher es run) written written'
          (subst (λ (ls : List Line). HasTold ls written written') (ap (λ (ls : List Line). ls ++ broke.earlier) gathered.lines_are ∙ ap (λ (ls : List Line). gathering_lines g ++ ls) broke.took.lines_are)
          (told_behind first broke.earlier written between written' told broke.earlier_told));
    }

in_part_received : (old new : View) (before now : Seen) (written written' : Output) (publisher : Name) (es : List Recorded) (options : Options) (users : List Name) (lines : List Line) (fault : AgentFault) → options.receive ≡ true → IsTrue before.observable
    → users ≡ partners publisher es → IsDatabase old publisher es before → BrokeInReceiving old new before now publisher es options.purge users written written' lines fault
    → RanInPart old.log.base new before now written written' publisher es options lines fault
in_part_received old new before now written written' publisher es options users lines fault on observable users_are database (in_mail same (told_in_part bag gathered untold)) =
    subst (λ (v : View). RanInPart old.log.base v before now written written' publisher es options lines fault) (sym same) (in_part_untold old before now written written' publisher es options bag lines fault on gathered untold)
in_part_received old new before now written written' publisher es options users lines fault on observable users_are database (in_mail same (gathered_in_part stop went)) =
    subst (λ (v : View). RanInPart old.log.base v before now written written' publisher es options lines fault) (sym same) (in_part_gathering old before now written written' publisher es options lines fault on observable database stop went)
in_part_received old new before now written written' publisher es options users lines fault on observable users_are database (in_partner_passes bag seen first behind between gathered told broke lines_are) =
    subst (λ (ls : List Line). RanInPart old.log.base new before now written written' publisher es options ls fault) (sym lines_are)
    (in_part_partner_pass old new before seen now written between written' publisher es options bag users first behind fault on observable users_are gathered told broke)

-- a run that ended at once for want of memory
pub ran_none : (view : View) (seen : Seen) (written : Output) (options : Options) → view.log.usable ≡ true → view.pending ≡ [] → RanPasses view view seen seen written written options (Err Memory)
ran_none view seen written options usable pending = record {
  lines = [];
  ended = ended_at_once view seen written usable pending;
  count = tt;
  in_force = tt;
  did = λ told publisher es database. in_part_at_once view seen written publisher es options Memory database refl;
}

broken_where : (b : Bool) (old new : View) (before now : Seen) (options : Options) (users : List Name) (written written' : Output) (fault : AgentFault) → options.receive ≡ b → old.log.usable ≡ true → old.pending ≡ []
    → users ≡ map user_name old.catalog.users → BrokenWhere b options.purge old new before now users written written' fault → RanPasses old new before now written written' options (Err fault)
broken_where false old new before now options users written written' fault off usable pending users_are want =
    subst (λ (f : AgentFault). RanPasses old new before now written written' options (Err f)) (sym want.why)
    (subst (λ (v : View). RanPasses old v before now written written' options (Err Memory)) (sym want.same)
    (subst (λ (s : Seen). RanPasses old old before s written written' options (Err Memory)) (sym want.still)
    (subst (λ (o : Output). RanPasses old old before before written o options (Err Memory)) (sym want.silent) (ran_none old before written options usable pending))))
broken_where true old new before now options users written written' fault on usable pending users_are broken = record {
  lines = broken.lines;
  ended = broken.ended;
  count = tt;
  in_force = tt;
  did = λ told publisher es database.
      in_part_received old new before now written written' publisher es options users broken.lines fault on told (names_of_history old publisher es users database.is users_are) database
      (broken.did told publisher es database (names_once old publisher es users database.is users_are));
}

pub ran_broken : (old new : View) (before now : Seen) (options : Options) (users : List Name) (written written' : Output) (fault : AgentFault) → IsReady old before → users ≡ map user_name old.catalog.users
    → PassBroken options old new before now users written written' fault → RanPasses old new before now written written' options (Err fault)
ran_broken old new before now options users written written' fault ready users_are broken = broken_where options.receive old new before now options users written written' fault refl ready.usable ready.idle users_are broken

-- ---- the send pass after it

receives_with : (b : Bool) (publisher : Name) (es : List Recorded) (run : Run) (deliveries : List Delivery) → Receives b publisher es run → Receives b publisher es (with_deliveries run deliveries)
receives_with true publisher es run deliveries receives = record { gathering = receives.gathering; gathered_is = receives.gathered_is; is = receives.is; are = receives.are; whose = receives.whose }
receives_with false publisher es run deliveries receives = record { gathered_is = receives.gathered_is; none = receives.none }

asked_with : (b : Bool) (publisher : Name) (es : List Recorded) (run : Run) (deliveries : List Delivery) → asked b publisher es run ≡ asked b publisher es (with_deliveries run deliveries)
asked_with true publisher es run deliveries = refl
asked_with false publisher es run deliveries = refl

reaches_of : (base : ℕ) (new : View) (before now : Seen) (publisher : Name) (es : List Recorded) (options : Options) (asks : List Partner) (lines : List Line)
    (received : Received base new before now publisher es options asks lines) → Reaches new before now publisher es options received.run
reaches_of base new before now publisher es options asks lines received = record { database = received.database; went = received.went; mail = received.mail; steady = received.steady; removals = received.removals }

-- lines of both passes
lines_on : (publisher : Name) (es : List Recorded) (run : Run) (deliveries : List Delivery) (earlier lines : List Line) → earlier ≡ lines_of run.gathered ++ partner_passes_lines publisher es (fetched_files_of run.gathered) run.partner_passes
    → lines ≡ deliveries_lines publisher (after_receiving publisher es run) deliveries → earlier ++ lines ≡ run_lines publisher es (with_deliveries run deliveries)
lines_on publisher es run deliveries earlier lines one two =
    let turned = partner_passes_lines publisher es (fetched_files_of run.gathered) run.partner_passes in
    ap (λ (ls : List Line). ls ++ lines) one
    ∙ append_assoc (lines_of run.gathered) turned lines
    ∙ ap (λ (ls : List Line). lines_of run.gathered ++ (turned ++ ls)) two

-- as far as these deliveries
sending_to : (publisher : Name) (es : List Recorded) (options : Options) (run : Run) (deliveries : List Delivery) (asks done left : List Partner) → options.send ≡ true → Receives options.receive publisher es run
    → asks ≡ asked options.receive publisher es run → asks ≡ done ++ left → IsSending publisher es options.length (with_deliveries run deliveries) done
    → IsSendingUpTo publisher es options (with_deliveries run deliveries) left
sending_to publisher es options run deliveries asks done left on receives asks_are parts sends = record {
  asked_for = on;
  received = receives_with options.receive publisher es run deliveries receives;
  done = done;
  parts = sym (asked_with options.receive publisher es run deliveries) ∙ sym asks_are ∙ parts;
  sending = sends;
}

abbrev pub stops_there : (publisher : Name) (es : List Recorded) (options : Options) (run : Run) (deliveries : List Delivery) (left : List Partner) (db new : View) (seen now : Seen) (told : List Line) (fault : AgentFault) (whole : Type 0)
    → IsSendingUpTo publisher es options (with_deliveries run deliveries) left → IsUntoldThere deliveries db new seen now told fault
    → StopsAt publisher es options (with_deliveries run deliveries) db new seen now [] told fault whole
stops_there publisher es options run deliveries left db new seen now told fault whole up_to there = sending left up_to there.last there.earlier there.put there.same there.still refl there.none there.why

in_part_sent : (base : ℕ) (middle new : View) (before seen now : Seen) (written written' : Output) (publisher : Name) (es : List Recorded) (options : Options) (asks : List Partner) (earlier lines : List Line) (fault : AgentFault)
    → options.send ≡ true → IsTrue before.observable → HasTold earlier written written'
    → (received : Received base middle before seen publisher es options asks earlier) → BrokeInDeliveries middle new seen now publisher (after_receiving publisher es received.run) options.length asks lines fault
    → RanInPart base new before now written written' publisher es options (earlier ++ lines) fault
in_part_sent base middle new before seen now written written' publisher es options asks earlier lines fault on observable told received broke =
    let run = received.run in
    let ds = broke.took.deliveries in
    let whole = with_deliveries run ds in
    let added = taken_entries publisher es run in
    let put = deliveries_events publisher (es ++ added) ds in
    let came = came_behind base middle broke.db before seen broke.seen publisher es options run options.length broke.done broke.earlier (reaches_of base middle before seen publisher es options asks earlier received) received.base_is broke.took in
    let up_to = sending_to publisher es options run ds asks broke.done broke.left on received.receives received.asks_are broke.parts (record { are = broke.took.are; whom = broke.took.whom }) in
    let lines_are = ap (λ (ls : List Line). earlier ++ ls) broke.lines_are ∙ sym (append_assoc earlier broke.earlier broke.told)
    ∙ ap (λ (ls : List Line). ls ++ broke.told) (lines_on publisher es run ds earlier broke.earlier received.lines_are broke.took.lines_are) in
    let partner_passes_told = are_told run.partner_passes (received_lines publisher es run) written written' (subst (λ (ls : List Line). HasTold ls written written') received.lines_are told) in
    elim broke.stop [
      | inl there ↦ record {
        run = whole;
        db = broke.db;
        seen = broke.seen;
        came = came;
        events = [];
        told = broke.told;
        stops = stops_there publisher es options run ds broke.left broke.db new broke.seen now broke.told fault (HasTold (earlier ++ lines) written written') up_to there;
        went = subst (λ (s : Seen). Went before s publisher es (trace_of publisher es whole ++ [])) (sym there.still)
            (subst (λ (events : List Event). Went before broke.seen publisher es events) (sym (append-nil (trace_of publisher es whole))) came.went);
        removals = subst (λ (s : Seen). RemovesInRun publisher before s) (sym there.still) came.removals;
        lines_are = lines_are;
        reported = subst (λ (s : Seen). Endures publisher (after_run publisher es whole ++ []) s) (sym there.still)
            (nothing_told publisher (after_run publisher es whole) broke.seen (database_endures broke.db publisher (after_run publisher es whole) broke.seen came.database));
        partner_passes_told = partner_passes_told;
      }
      | inr next ↦ record {
        run = whole;
        db = broke.db;
        seen = broke.seen;
        came = came;
        events = next.broke.events;
        told = broke.told;
        stops = in_delivery next.partner next.others
            (subst (λ (ps : List Partner). IsSendingUpTo publisher es options whole ps) next.next up_to) next.broke.no_lines
            (subst (λ (rs : List Recorded). DeliveryStop publisher rs options.length next.partner broke.db new broke.seen now next.broke.events fault) (history_is es added put) next.broke.stop);
        went = joined before broke.seen now publisher es (trace_of publisher es whole) next.broke.events came.went
            (subst (λ (rs : List Recorded). Went broke.seen now publisher rs next.broke.events) (history_is es added put) next.broke.went);
        removals =
            let same = told_same before broke.seen publisher es (trace_of publisher es whole) came.went in
            let alone = cause_alone publisher ((es ++ added) ++ commits put) broke.db new broke.seen now next.partner.user options.length next.partner.ask (subst (λ (b : Bool). IsTrue b) (sym same.0) observable) broke.took.database
            next.broke.stop.why next.broke.stop.cause in
            removes_on before.first broke.seen.first publisher before.happened before.happened broke.seen.happened now.happened same.1 came.removals
            (none_removed broke.seen.first before.happened broke.seen now publisher ((es ++ added) ++ commits put) next.broke.events next.broke.went
            (alone_same alone.events (mail_in broke.seen.happened) (mail_in now.happened) alone.alone));
        lines_are = lines_are;
        reported = nothing_told publisher (after_run publisher es whole) now
            (went_endures broke.seen now publisher (after_run publisher es whole) next.broke.events
            (subst (λ (rs : List Recorded). Went broke.seen now publisher rs next.broke.events) (history_is es added put) next.broke.went));
        partner_passes_told = partner_passes_told;
      }
    ]

sent_part_where : (b : Bool) (old middle new : View) (before seen now : Seen) (options : Options) (users : List Name) (asks : List Partner) (count : ℕ) (written between written' : Output) (fault : AgentFault)
    → options.send ≡ b → users ≡ map user_name old.catalog.users → HasMade old middle before seen options users asks count written between
    → SentPartWhere b options.length middle new seen now asks between written' fault → RanPasses old new before now written written' options (Err fault)
sent_part_where false old middle new before seen now options users asks count written between written' fault off users_are made broken = absurd broken
sent_part_where true old middle new before seen now options users asks count written between written' fault on users_are made broken = record {
  lines = made.lines ++ broken.lines;
  ended = ended_behind new before seen now written between written' made.lines broken.lines fault made.told made.steady made.stays broken.ended;
  count = tt;
  in_force = tt;
  did = λ told publisher es database.
      let received = made.did told publisher es database (names_of_history old publisher es users database.is users_are) (names_once old publisher es users database.is users_are) in
      in_part_sent old.log.base middle new before seen now written written' publisher es options asks made.lines broken.lines fault on told
      (told_before made.lines broken.lines written between written' fault made.told broken.ended.wrote) received
      (broken.did (subst (λ (b : Bool). IsTrue b) (sym made.stays.observable) told) publisher (after_receiving publisher es received.run) received.database);
}

pub ran_stopped : (old middle new : View) (before seen now : Seen) (options : Options) (users : List Name) (progress : Progress) (written between written' : Output) (fault : AgentFault)
    → users ≡ map user_name old.catalog.users → MadePass options old middle before seen users written between progress
    → SendingBroken options middle new seen now progress.partners.items between written' fault → RanPasses old new before now written written' options (Err fault)
ran_stopped old middle new before seen now options users progress written between written' fault users_are pass broken =
    sent_part_where options.send old middle new before seen now options users progress.partners.items progress.alarms written between written' fault refl users_are
    (made_where options.receive old middle before seen options users written between progress (are_users old users users_are) refl pass) broken

-- ---- both passes to their ends

whole_of : (base : ℕ) (middle new : View) (before seen now : Seen) (publisher : Name) (es : List Recorded) (options : Options) (asks to : List Partner) (earlier lines : List Line)
    (received : Received base middle before seen publisher es options asks earlier) (took : TookDeliveries middle.log.base new seen now publisher (after_receiving publisher es received.run) options.length to lines)
    → Sends options options.send publisher es (with_deliveries received.run took.deliveries) → RanWhole base new before now publisher es options (earlier ++ lines)
whole_of base middle new before seen now publisher es options asks to earlier lines received took sends =
    let run = received.run in
    record {
      run = with_deliveries run took.deliveries;
      is = record { receives = receives_with options.receive publisher es run took.deliveries received.receives; sends = sends };
      came = came_behind base middle new before seen now publisher es options run options.length to lines (reaches_of base middle before seen publisher es options asks earlier received) received.base_is took;
      lines_are = lines_on publisher es run took.deliveries earlier lines received.lines_are took.lines_are;
    }

whole_sent : (base : ℕ) (middle new : View) (before seen now : Seen) (publisher : Name) (es : List Recorded) (options : Options) (asks : List Partner) (earlier lines : List Line) → options.send ≡ true
    → (received : Received base middle before seen publisher es options asks earlier) → TookDeliveries middle.log.base new seen now publisher (after_receiving publisher es received.run) options.length asks lines
    → RanWhole base new before now publisher es options (earlier ++ lines)
whole_sent base middle new before seen now publisher es options asks earlier lines on received took =
    let whole = with_deliveries received.run took.deliveries in
    whole_of base middle new before seen now publisher es options asks asks earlier lines received took
    (subst (λ (b : Bool). Sends options b publisher es whole) (sym on)
    (record { are = took.are; whom = took.whom ∙ received.asks_are ∙ asked_with options.receive publisher es received.run took.deliveries }))

whole_unsent : (base : ℕ) (middle : View) (before seen : Seen) (publisher : Name) (es : List Recorded) (options : Options) (asks : List Partner) (earlier : List Line) → options.send ≡ false
    → Received base middle before seen publisher es options asks earlier → RanWhole base middle before seen publisher es options (earlier ++ [])
whole_unsent base middle before seen publisher es options asks earlier off received =
    let whole = with_deliveries received.run [] in
    whole_of base middle middle before seen seen publisher es options asks [] earlier [] received
    (took_none middle seen publisher (after_receiving publisher es received.run) options.length received.database)
    (subst (λ (b : Bool). Sends options b publisher es whole) (sym off) refl)

-- a whole run ends well
ended_well : (new : View) (before seen now : Seen) (written between written' : Output) (first behind : List Line) (count : ℕ) → IsReady new now → Told (lines_text first) written between
    → Told (lines_text behind) between written' → IsSteady before seen → IsSteady seen now → Stays before seen → Stays seen now → Ended new before now written written' (first ++ behind) (Ok count)
ended_well new before seen now written between written' first behind count ready one two steady steady' stays stays' =
    let told = told_on first behind written between written' one two in
    record {
      wrote = told.taken;
      counts = (steady'.disk ∙ steady.disk, steady'.mail ∙ steady.mail, told.steady);
      usable = ready.usable;
      pending = ready.idle;
      site = stays_on before seen now stays stays';
      sink = told.stays;
    }

count_on : (first behind : List Line) (count : ℕ) → count ≡ alarms first → alarms behind ≡ 0 → count ≡ alarms (first ++ behind)
count_on first behind count one none = omega (arith, one, none, alarms_on first behind)

sent_where : (b : Bool) (old middle new : View) (before seen now : Seen) (options : Options) (users : List Name) (asks : List Partner) (count : ℕ) (written between written' : Output)
    → options.send ≡ b → users ≡ map user_name old.catalog.users → IsReady new now → HasMade old middle before seen options users asks count written between
    → SentWhere b options.length middle new seen now asks between written' → RanPasses old new before now written written' options (Ok count)
sent_where true old middle new before seen now options users asks count written between written' on users_are ready made done = record {
  lines = made.lines ++ done.lines;
  ended = ended_well new before seen now written between written' made.lines done.lines count ready made.told done.told made.steady done.steady made.stays done.stays;
  count = count_on made.lines done.lines count made.alarms_are done.no_alarm;
  in_force = λ told has. ready.stands (told_then before now (stays_on before seen now made.stays done.stays) told);
  did = λ told publisher es database.
      let received = made.did told publisher es database (names_of_history old publisher es users database.is users_are) (names_once old publisher es users database.is users_are) in
      whole_sent old.log.base middle new before seen now publisher es options asks made.lines done.lines on received
      (done.did (subst (λ (b : Bool). IsTrue b) (sym made.stays.observable) told) publisher (after_receiving publisher es received.run) received.database);
}
sent_where false old middle new before seen now options users asks count written between written' off users_are ready made none =
    subst (λ (v : View). RanPasses old v before now written written' options (Ok count)) (sym none.same)
    (subst (λ (s : Seen). RanPasses old middle before s written written' options (Ok count)) (sym none.still)
    (subst (λ (o : Output). RanPasses old middle before seen written o options (Ok count)) (sym none.silent)
    (record {
      lines = made.lines ++ [];
      ended = ended_well middle before seen seen written between between made.lines [] count
          (subst (λ (v : View). IsReady v seen) none.same (subst (λ (s : Seen). IsReady new s) none.still ready))
          made.told (still_told between) made.steady (still_steady seen) made.stays (still_site seen);
      count = count_on made.lines [] count made.alarms_are refl;
      in_force = λ told has.
          let still : IsReady middle seen = subst (λ (v : View). IsReady v seen) none.same (subst (λ (s : Seen). IsReady new s) none.still ready) in
          still.stands (told_then before seen made.stays told);
      did = λ told publisher es database.
          let received = made.did told publisher es database (names_of_history old publisher es users database.is users_are) (names_once old publisher es users database.is users_are) in
          whole_unsent old.log.base middle before seen publisher es options asks made.lines off received;
    })))

pub ran_whole : (old middle new : View) (before seen now : Seen) (options : Options) (users : List Name) (progress : Progress) (written between written' : Output) (count : ℕ)
    → users ≡ map user_name old.catalog.users → IsReady new now → MadePass options old middle before seen users written between progress
    → SendingDone options middle new seen now progress.partners.items between written' → count ≡ progress.alarms → RanPasses old new before now written written' options (Ok count)
ran_whole old middle new before seen now options users progress written between written' count users_are ready pass done count_is =
    subst (λ (n : ℕ). RanPasses old new before now written written' options (Ok n)) (sym count_is)
    (sent_where options.send old middle new before seen now options users progress.partners.items progress.alarms written between written' refl users_are ready
    (made_where options.receive old middle before seen options users written between progress (are_users old users users_are) refl pass) done)
