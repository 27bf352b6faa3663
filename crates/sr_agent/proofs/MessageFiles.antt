-- A pass over a partner's message files, told.
use Rattle.std.proofs.Common.{◌≡◌, ◌+◌, ◌-◌, ◌^◌, ◌≤◌, ℕ, Bool, true, false, List, [], ◌∷◌, ◌++◌, length, map, take, drop, Result, Ok, Err, IfErr, IfOk, refl, sym, ap, subst, inl, inr, ◌∙◌, arith, append_assoc, length-append, if◌then◌else◌}
use Rattle.std.specs.Prelude.{IsTrue, min}
use Rattle.std.proofs.Math.Seq.{drop-append_seam, take-append_seam}
use Rattle.sr_book.specs.Books.{with_note}
use Rattle.sr_book.specs.Entries.{Name, booked}
use Rattle.sr_book.specs.declared.book.Book.{Book}
use Rattle.sr_book.specs.declared.note.Note.TheVariants.{Raised}
use Rattle.sr_book.proofs.Folds.{book_from-append, same_name}
use Rattle.sr_database.specs.Databases.{IsDatabase}
use Rattle.sr_book.specs.Histories.{book_from}
use Rattle.sr_database.specs.Views.{View}
use Rattle.sr_database_files.specs.Books.{book_in}
use Rattle.sr_database_history.specs.Folds.{sees}
use Rattle.sr_database_history.specs.Recorded.{Recorded, note}
use Rattle.sr_mail.specs.declared.window.Window.{Window}
use Rattle.sr_receive.specs.Acts.{entries_of}
use Rattle.sr_receive_gather.specs.Bags.{Has, filed_of}
use Rattle.sr_receive.specs.Entering.{Reached}
use Rattle.sr_receive.specs.Inner.Ready.{IsReady}
use Rattle.sr_receive_gather.specs.Greatest.{has_gap, raises}
use Rattle.sr_receive_gather.specs.MessageFiles.{FetchedFile, MessageFile, message_files_from}
use Rattle.sr_receive.specs.Passes.{PassedInPart, act_reports, begun_by, first_notes, gap_report, note_entries}
use Rattle.sr_receive.specs.Inner.Passes.{HasReceived, Passed, ReceiveCause}
use Rattle.sr_receive_gather.specs.declared.bag.PartnerMail.{PartnerMail}
use Rattle.sr_receive_gather.specs.declared.fault.ReceiveFault.{ReceiveFault}
use Rattle.sr_receive_gather.specs.declared.fault.ReceiveFault.TheVariants as receives
use Rattle.sr_receive.specs.declared.receiving.Received.{Received}
use Rattle.sr_receive_gather.specs.declared.report.Report.{Report}
use Rattle.sr_receive.proofs.Committing.{ready_then}
use Rattle.sr_site.specs.Seen.{Seen}
use Rattle.sr_site.specs.Streams.{Output}
use Rattle.sr_database_meaning.specs.Events.{commit}
use Rattle.sr_agent.specs.Ends.{HasTold, IsUsableEnd}
use Rattle.sr_agent.specs.Faults.{fault_of_receive}
use Rattle.sr_agent.specs.Lines.{Line, lines_text, report_lines}
use Rattle.sr_agent.specs.Inner.PartnerMails.{HasSome, TookMessageFiles, ToldMessageFiles}
use Rattle.sr_agent.specs.Inner.Steps.{BrokeInPartnerPass, IsParted, IsUser, KeepsPartners, MaySendTo, OutcomeCause, TellEnd, ToldPartnerPass, PartnerPassBroken, partner_pass_said}
use Rattle.sr_agent.specs.Stops.{IsUntold, in_message_files, behind_message_files, untouched}
use Rattle.sr_agent.specs.PartnerPasses.{partner_pass_entries}
use Rattle.sr_agent.specs.declared.fault.AgentFault.{AgentFault}
use Rattle.sr_agent.specs.declared.fault.AgentFault.TheVariants.{Memory}
use Rattle.sr_agent.proofs.Ending.{ended_by, untold_is}
use Rattle.sr_agent.proofs.Removing.{files_are}
use Rattle.sr_agent.proofs.Turning.{behind_removes, ask_is, behind_partner_pass, said_is, partner_pass_of}
use Rattle.sr_agent.proofs.Unremoved.{none_removed, passed_same}
use Rattle.sr_agent.proofs.Values.{keeps_partners}

-- ---- reports in two parts

gap_length : (b : Bool) (r : Report) → length (if b then r ∷ [] else []) ≡ (if b then 1 else 0)
gap_length true r = refl
gap_length false r = refl

pub parted : (old new : View) (before middle : Seen) (user : Name) (message_files : List MessageFile) (dropped_windows dropped_windows' : List Window) (reports : List Report) (answer : Received)
    (passed : Passed old new before middle user message_files dropped_windows dropped_windows' [] reports answer) → IsParted reports answer.ask (act_reports user passed.acts) (gap_report user answer.end.0 (map filed_of message_files))
parted old new before middle user message_files dropped_windows dropped_windows' reports answer passed = record {
  parts = passed.reports_are;
  one = gap_length (has_gap answer.end.0 (map filed_of message_files)) _ ∙ ap (λ (b : Bool). if b then 1 else 0) (sym passed.ask);
}

same_parts : (a b c d : List Report) → a ++ b ≡ c ++ d → length b ≡ length d → (a ≡ c) × (b ≡ d)
same_parts a b c d is same =
    let whole : length a + length b ≡ length c + length d = sym (length-append a b) ∙ ap (λ (l : List Report). length l) is ∙ length-append c d in
    let long : length a ≡ length c = omega (arith, whole, same) in (
      sym (take-append_seam a b) ∙ ap (λ (l : List Report). take (length a) l) is ∙ ap (λ (n : ℕ). take n (c ++ d)) long ∙ take-append_seam c d,
      sym (drop-append_seam a b) ∙ ap (λ (l : List Report). drop (length a) l) is ∙ ap (λ (n : ℕ). drop n (c ++ d)) long ∙ drop-append_seam c d,
    )

said_same : (user : Name) (answer : Received) (reports prefix behind prefix' behind' : List Report) → IsParted reports answer.ask prefix behind → IsParted reports answer.ask prefix' behind'
    → partner_pass_said user answer prefix behind ≡ partner_pass_said user answer prefix' behind'
said_same user answer reports prefix behind prefix' behind' one two =
    let same = same_parts prefix behind prefix' behind' (sym one.parts ∙ two.parts) (one.one ∙ sym two.one) in
    ap (λ (rs : List Report). partner_pass_said user answer rs behind) same.0 ∙ ap (λ (rs : List Report). partner_pass_said user answer prefix' rs) same.1

-- ---- what was raised

raised_one : (n : ℕ) → 1 ≤ min (n + 1) (2 ^ 64 - 1)
raised_one n = omega arith

raised_book : (user : Name) (book : Book) → 1 ≤ (booked user book (sees (note user Raised))).rereceive_count
raised_book user book = subst (λ (b : Bool). 1 ≤ (if b then with_note book Raised else book).rereceive_count) (sym (same_name user)) (raised_one book.rereceive_count)

raised_last : (user : Name) (book : Book) (rs : List Recorded) → 1 ≤ (book_from sees user book (rs ++ note user Raised ∷ [])).rereceive_count
raised_last user book rs = subst (λ (b : Book). 1 ≤ b.rereceive_count) (sym (book_from-append sees user book rs (note user Raised ∷ []))) (raised_book user (book_from sees user book rs))

raised_where : (user : Name) (book : Book) (first acts : List Recorded) (gap ask : Bool) → ask ≡ gap → IsTrue ask → 1 ≤ (book_from sees user book (first ++ (acts ++ note_entries user (if gap then Raised ∷ [] else [])))).rereceive_count
raised_where user book first acts true ask is asked =
    subst (λ (rs : List Recorded). 1 ≤ (book_from sees user book rs).rereceive_count) (append_assoc first acts (note user Raised ∷ [])) (raised_last user book (first ++ acts))
raised_where user book first acts false ask is asked =
    let no : false ≡ true = subst (λ (b : Bool). IsTrue b) is asked in
    absurd (cc)

-- ---- what a pass leaves

may_of : (old new : View) (before middle : Seen) (user : Name) (message_files : List MessageFile) (dropped_windows dropped_windows' : List Window) (reports : List Report) (answer : Received) → IsReady old before → IsUser old user → KeepsPartners old new
    → Passed old new before middle user message_files dropped_windows dropped_windows' [] reports answer → MaySendTo new (record { user = user; ask = answer.ask })
may_of old new before middle user message_files dropped_windows dropped_windows' reports answer ready is_user keeps passed =
    let first = first_notes user (book_in old.books user) (map filed_of message_files) in
    let acts = entries_of user passed.acts in
    let on = passed.reached.value passed.reached.state.0 in
    record {
      user = keeps.users user is_user;
      raised = λ asked. subst (λ (b : Book). 1 ≤ b.rereceive_count) (sym (on.books user)) (raised_where user (book_in old.books user) first acts (has_gap answer.end.0 (map filed_of message_files)) answer.ask passed.ask asked);
    }

pub took : (old new : View) (before middle : Seen) (user : Name) (bag bag' : List PartnerMail) (reports prefix behind : List Report) (answer : Received) → IsReady old before → IsUser old user → HasSome bag user
    → HasReceived old new before middle user bag bag' [] reports answer → IsParted reports answer.ask prefix behind → TookMessageFiles old new before middle user bag bag' answer.ask (partner_pass_said user answer prefix behind)
took old new before middle user bag bag' reports prefix behind answer ready is_user some received parts =
    let here = received.passed some.message_files some.dropped_windows some.has in
    let passed = here.2 in
    let entries = first_notes user (book_in old.books user) (map filed_of some.message_files) ++ (entries_of user passed.acts ++ note_entries user (raises answer.end.0 (map filed_of some.message_files))) in
    let keeps = keeps_partners old new entries (passed.reached.value passed.reached.state.0) in
    record {
      ready = ready_then old new before middle entries ready passed.reached;
      keeps = keeps;
      may = may_of old new before middle user some.message_files some.dropped_windows here.0 reports answer ready is_user keeps passed;
      others = received.others;
      holds = record { message_files = some.message_files; dropped_windows = here.0; has = here.1 };
      steady = record { disk = passed.reached.state.1; mail = passed.steady };
      stays = passed.reached.stays;
      did = λ told publisher es fetched_files database has.
          let there = received.passed (message_files_from user fetched_files) [] has in
          record {
            partner_pass = partner_pass_of user there.2.acts;
            user_is = refl;
            behind = behind_partner_pass old new before middle publisher es fetched_files user there.0 reports answer told database there.2;
            ask_is = ask_is old new before middle publisher es fetched_files user there.0 reports answer database there.2;
            lines_are =
                said_same user answer reports prefix behind (act_reports user there.2.acts) (gap_report user answer.end.0 (map filed_of (message_files_from user fetched_files))) parts
                (parted old new before middle user (message_files_from user fetched_files) [] there.0 reports answer there.2)
                ∙ said_is old new before middle publisher es fetched_files user there.0 reports answer database there.2;
            files_are = files_are bag' user (message_files_from user fetched_files) there.0 there.1;
          };
    }

-- ---- and told

some_parted : (old new : View) (before middle : Seen) (user : Name) (bag bag' : List PartnerMail) (reports : List Report) (answer : Received) → HasSome bag user → HasReceived old new before middle user bag bag' [] reports answer
    → (prefix : List Report) × (behind : List Report) × IsParted reports answer.ask prefix behind
some_parted old new before middle user bag bag' reports answer some received =
    let here = received.passed some.message_files some.dropped_windows some.has in
    (act_reports user here.2.acts, gap_report user answer.end.0 (map filed_of some.message_files), parted old new before middle user some.message_files some.dropped_windows here.0 reports answer here.2)

pub message_files_told : (old new : View) (before middle : Seen) (user : Name) (bag bag' : List PartnerMail) (written written' : Output) (none shown reports : List Report) (outcome : Result Received ReceiveFault)
    (result : Result (Received × ℕ) AgentFault) → none ≡ [] → shown ≡ reports → IsReady old before → IsUser old user → HasSome bag user → IfOk outcome (HasReceived old new before middle user bag bag' none reports)
    → IfOk result (λ told. ToldPartnerPass user outcome told.0 told.1 shown written written') → IfOk result (λ told. ToldMessageFiles old new before middle user bag bag' told.0 told.1 written written')
message_files_told old new before middle user bag bag' written written' none shown reports outcome (Err fault) is_none is ready is_user some received told = tt
message_files_told old new before middle user bag bag' written written' none shown reports outcome (Ok answer) is_none is ready is_user some received partner_pass =
    let from : IfOk {E = ReceiveFault} (Ok answer.0) (HasReceived old new before middle user bag bag' [] reports) =
    subst (λ (r : Result Received ReceiveFault). IfOk r (HasReceived old new before middle user bag bag' [] reports)) partner_pass.is
    (subst (λ (rs : List Report). IfOk outcome (HasReceived old new before middle user bag bag' rs reports)) is_none received) in
    let parts = some_parted old new before middle user bag bag' reports answer.0 some from in
    let shown_parts = subst (λ (rs : List Report). IsParted rs answer.0.ask parts.0 parts.1) (sym is) parts.2 in
    record {
      lines = partner_pass_said user answer.0 parts.0 parts.1;
      told = partner_pass.told parts.0 parts.1 shown_parts;
      count_is = partner_pass.count_is parts.0 parts.1 shown_parts;
      took = took old new before middle user bag bag' reports parts.0 parts.1 answer.0 ready is_user some from parts.2;
    }

-- ---- and not told, or in part

-- the partner's pass was had, and no file was removed yet
pub turned_untold : (old new : View) (before middle : Seen) (user : Name) (bag bag' : List PartnerMail) (ask : Bool) (lines : List Line) (fault : AgentFault) → TookMessageFiles old new before middle user bag bag' ask lines → IsUntold fault
    → (purge : Bool) (whole : Type 0) → IsTrue before.observable → (publisher : Name) (es : List Recorded) (fetched_files : List FetchedFile) → IsDatabase old publisher es before → Has bag user (message_files_from user fetched_files) []
    → BrokeInPartnerPass old new before middle publisher es fetched_files purge user lines fault whole
turned_untold old new before middle user bag bag' ask lines fault took why purge whole told publisher es fetched_files database has =
    let turned = took.did told publisher es fetched_files database has in
    record {
      events = map commit (partner_pass_entries publisher es fetched_files turned.partner_pass);
      stop = behind_message_files (record {
        partner_pass = turned.partner_pass;
        user_is = turned.user_is;
        is = turned.behind.is;
        between = middle;
        database = turned.behind.database;
        mail = turned.behind.mail;
        removed = untouched refl why;
        events_are = refl;
        lines_are = turned.lines_are;
      });
      went = turned.behind.went;
      removals = λ begun come. behind_removes new before middle publisher es fetched_files turned.partner_pass turned.behind begun;
    }

pub record ReachedInPart (old new : View) (before middle : Seen) (why : ReceiveFault) : Type 0 where
  pub entries : List Recorded
  pub refused : List Recorded
  pub reached : Reached old new before middle entries (begun_by why refused)

reached_part : (old new : View) (before middle : Seen) (user : Name) (message_files : List MessageFile) (dropped_windows dropped_windows' : List Window) (reports : List Report) (why : ReceiveFault)
    → PassedInPart old new before middle user message_files dropped_windows dropped_windows' [] reports why → ReachedInPart old new before middle why
reached_part old new before middle user message_files dropped_windows dropped_windows' reports why (inl notes) = record { entries = notes.stops.entries; refused = notes.stops.refused; reached = notes.stops.reached }
reached_part old new before middle user message_files dropped_windows dropped_windows' reports why (inr stopped) = elim stopped.stopped [
  | inl windows ↦ record { entries = first_notes user (book_in old.books user) (map filed_of message_files) ++ entries_of user stopped.acts; refused = windows.refused; reached = windows.reached }
  | inr end ↦ record { entries = first_notes user (book_in old.books user) (map filed_of message_files) ++ (entries_of user stopped.acts ++ end.raised); refused = end.refused; reached = end.reached }
]

usable_part : (old new : View) (before middle : Seen) (why : ReceiveFault) → ReachedInPart old new before middle why → IsUsableEnd new (Err (fault_of_receive why))
usable_part old new before middle receives.Disk part = tt
usable_part old new before middle receives.Mail part = part.reached.state.0
usable_part old new before middle (receives.Full end need) part = part.reached.state.0
usable_part old new before middle (receives.Long size limit) part = part.reached.state.0
usable_part old new before middle receives.Memory part = part.reached.state.0

broken_in : (old new : View) (before middle : Seen) (user : Name) (bag bag' : List PartnerMail) (written written' : Output) (reports : List Report) (why : ReceiveFault) (fault : AgentFault) → HasSome bag user
    → ReceiveCause old new before middle user bag bag' [] reports why
    → TellEnd (fault_of_receive why) (lines_text (report_lines reports)) written written' fault → (purge : Bool) → PartnerPassBroken old new before middle user bag purge written written' fault
broken_in old new before middle user bag bag' written written' reports why fault some cause said purge =
    let here = cause.passed some.message_files some.dropped_windows some.has in
    let part = reached_part old new before middle user some.message_files some.dropped_windows here.0 reports why here.2 in
    let by = ended_by new before middle written written' (report_lines reports) why fault part.reached.idle part.reached.stays cause.why (usable_part old new before middle why part) said in
    record {
      lines = report_lines reports;
      ended = by.ended;
      did = λ told publisher es fetched_files database has.
          let there = cause.passed (message_files_from user fetched_files) [] has in
          let now = reached_part old new before middle user (message_files_from user fetched_files) [] there.0 reports why there.2 in
          record {
            events = map commit (now.entries ++ begun_by why now.refused);
            stop = in_message_files (record {
              dropped_windows = there.0;
              told = reports;
              why = why;
              part = there.2;
              entries = now.entries;
              begun = begun_by why now.refused;
              reached = now.reached;
              fault_is = by.by;
              events_are = refl;
              lines_are = refl;
            });
            went = now.reached.went told publisher es database;
            removals = λ begun come. none_removed before.first begun before middle publisher es (map commit (now.entries ++ begun_by why now.refused)) (now.reached.went told publisher es database)
                (passed_same old new before middle user (message_files_from user fetched_files) [] there.0 [] reports why told there.2);
          };
    }

broken_behind : (old new : View) (before middle : Seen) (user : Name) (bag bag' : List PartnerMail) (written written' : Output) (reports : List Report) (answer : Received) (fault : AgentFault) → IsReady old before → IsUser old user
    → HasSome bag user → HasReceived old new before middle user bag bag' [] reports answer
    → ((prefix behind : List Report) → IsParted reports answer.ask prefix behind → TellEnd Memory (lines_text (partner_pass_said user answer prefix behind)) written written' fault)
    → (purge : Bool) → PartnerPassBroken old new before middle user bag purge written written' fault
broken_behind old new before middle user bag bag' written written' reports answer fault ready is_user some received cause purge =
    let parts = some_parted old new before middle user bag bag' reports answer some received in
    let lines = partner_pass_said user answer parts.0 parts.1 in
    let all = took old new before middle user bag bag' reports parts.0 parts.1 answer ready is_user some received parts.2 in
    let why = cause parts.0 parts.1 parts.2 in
    record {
      lines = lines;
      ended = (ended_by new before middle written written' lines receives.Memory fault all.ready.idle all.stays all.steady all.ready.usable why).ended;
      did = turned_untold old new before middle user bag bag' answer.ask lines fault all (untold_is (lines_text lines) written written' fault why) purge (HasTold lines written written');
    }

broken_of : (old new : View) (before middle : Seen) (user : Name) (bag bag' : List PartnerMail) (written written' : Output) (reports : List Report) (outcome : Result Received ReceiveFault) (fault : AgentFault) → IsReady old before
    → IsUser old user → HasSome bag user → IfOk outcome (HasReceived old new before middle user bag bag' [] reports) → IfErr outcome (ReceiveCause old new before middle user bag bag' [] reports)
    → OutcomeCause user outcome reports written written' fault → (purge : Bool) → PartnerPassBroken old new before middle user bag purge written written' fault
broken_of old new before middle user bag bag' written written' reports (Ok answer) fault ready is_user some received stopped cause purge =
    broken_behind old new before middle user bag bag' written written' reports answer fault ready is_user some received cause purge
broken_of old new before middle user bag bag' written written' reports (Err why) fault ready is_user some received stopped cause purge =
    broken_in old new before middle user bag bag' written written' reports why fault some stopped cause purge

pub message_files_broken : (old new : View) (before middle : Seen) (user : Name) (bag bag' : List PartnerMail) (written written' : Output) (none shown reports : List Report) (outcome : Result Received ReceiveFault)
    (result : Result (Received × ℕ) AgentFault) → none ≡ [] → shown ≡ reports → IsReady old before → IsUser old user → HasSome bag user → IfOk outcome (HasReceived old new before middle user bag bag' none reports)
    → IfErr outcome (ReceiveCause old new before middle user bag bag' none reports) → IfErr result (OutcomeCause user outcome shown written written')
    → (purge : Bool) → IfErr result (PartnerPassBroken old new before middle user bag purge written written')
message_files_broken old new before middle user bag bag' written written' none shown reports outcome (Ok answer) is_none is ready is_user some received stopped cause purge = tt
message_files_broken old new before middle user bag bag' written written' none shown reports outcome (Err fault) is_none is ready is_user some received stopped cause purge =
    broken_of old new before middle user bag bag' written written' reports outcome fault ready is_user some
    (subst (λ (rs : List Report). IfOk outcome (HasReceived old new before middle user bag bag' rs reports)) is_none received)
    (subst (λ (rs : List Report). IfErr outcome (ReceiveCause old new before middle user bag bag' rs reports)) is_none stopped)
    (subst (λ (rs : List Report). OutcomeCause user outcome rs written written' fault) is cause) purge
