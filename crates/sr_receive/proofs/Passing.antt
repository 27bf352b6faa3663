-- A pass: the notes that come first, windows, and what is raised behind them.
use Rattle.std.proofs.Common.{◌≡◌, ◌+◌, ℕ, ◌-◌, ◌^◌, List, [], ◌∷◌, ◌++◌, length, Option, Some, None, Result, Ok, Err, refl, sym, ap, subst, ◌∙◌, append_assoc, inl, inr, arith}
use Rattle.std.specs.Prelude.{IfOk, OnErr, map, min}
use Rattle.std.specs.Option.{option_map}
use Rattle.std.proofs.lemmas.List.{append-nil}
use Rattle.sr_book.specs.Entries.{Name}
use Rattle.sr_book.specs.declared.book.Book.{Book}
use Rattle.sr_book.specs.declared.note.Note.{Note}
use Rattle.sr_catalog_schema.specs.declared.user.User.{User}
use Rattle.sr_database.specs.Advances.{Advances}
use Rattle.sr_database.specs.Views.{committed}
use Rattle.sr_database_did.specs.Inner.Did.{PlaceView, Did}
use Rattle.sr_database_did.specs.Inner.Effects.{Effect, entered, End, whole, asked, entries, mail_behind, trace, under_way}
use Rattle.sr_database_did.proofs.Joins.{did_on, entries_on, mail_on, trace_then}
use Rattle.sr_database_files.specs.Books.{book_in}
use Rattle.sr_database_history.specs.Folds.{State, next, state_from}
use Rattle.sr_database_history.specs.Recorded.{Recorded, note}
use Rattle.sr_database_history.proofs.Joined.{state_from-append}
use Rattle.sr_database_meaning.specs.Events.{Event, commit}
use Rattle.sr_database_meaning.specs.Inner.Events.{AreQuiet}
use Rattle.sr_mail.specs.Inboxes.{Gathered}
use Rattle.sr_mail.specs.declared.window.Window.{Window}
use Rattle.sr_site.specs.Happenings.{Happening, mail_in}
use Rattle.sr_receive_gather.specs.Bags.{filed_of, Holds, IsPartnerMail}
use Rattle.sr_receive_gather.specs.Greatest.{asks, confirms, has_gap, raises}
use Rattle.sr_receive_gather.specs.MessageFiles.{MessageFile}
use Rattle.sr_receive_gather.specs.Windows.{NoneLeads}
use Rattle.sr_receive_gather.specs.declared.bag.Filed.{Filed}
use Rattle.sr_receive_gather.specs.declared.bag.PartnerMail.{PartnerMail}
use Rattle.sr_receive_gather.specs.declared.fault.ReceiveFault.{ReceiveFault}
use Rattle.sr_receive_gather.specs.declared.report.Report.{Report}
use Rattle.sr_receive.specs.Acts.{ReceiveAct, PassState, stand_of, IsAtRest, entries_of, mail_after, taken_in}
use Rattle.sr_receive.specs.Inner.Ready.{IsReady}
use Rattle.sr_receive.specs.Inner.Noting.{EntersAll, NotAll}
use Rattle.sr_receive.specs.Inner.Passes.{IsDeviceFault, Passed, ReceivedMail}
use Rattle.sr_receive.specs.Inner.Running.{HasRaised, StoppedRaising, WentBehind, WentThrough}
use Rattle.sr_receive.specs.Inner.Stands.{Stand, Acted, IsResting, Stopped, effects_of, publisher_in}
use Rattle.sr_receive.specs.Passes.{PassedInPart, StopsAmong, act_reports, first_notes, first_of, gap_report, note_entries}
use Rattle.sr_receive.specs.declared.receiving.Received.{Received}
use Rattle.sr_receive.proofs.Acted.{few_taken}
use Rattle.sr_receive.proofs.Committing.{ready_did, state_did}
use Rattle.sr_receive.proofs.Ends.{quiet_way, reached_did, refused_did, told_mail_at, told_next, why_did}
use Rattle.sr_receive.proofs.Leading.{none_leads}
use Rattle.sr_receive.proofs.Telling.{Tells, told_entries, told_mail, told_steps, told_trace}

-- ---- notes

note_still : (s : State) (user : Name) (what : Note) → next s (note user what) ≡ s
unfolding next
note_still s user what = refl

notes_still : (s : State) (user : Name) (notes : List Note) → state_from s (note_entries user notes) ≡ s
notes_still s user [] = refl
notes_still s user (what ∷ notes) = ap (λ (x : State). state_from x (note_entries user notes)) (note_still s user what) ∙ notes_still s user notes

-- the book of a user who is granted
pub book_is : (o : Option User) (b book : Book) → Some book ≡ option_map (λ _. b) o → book ≡ b
book_is None b book e = absurd cc
book_is (Some user) b book e = cc

-- what entries come to that are committed one behind the other
all_entries : (rs : List Recorded) → entries (map entered rs) ≡ rs
all_entries [] = refl
all_entries (r ∷ rs) = ap (λ (l : List Recorded). r ∷ l) (all_entries rs)

all_mail : (rs : List Recorded) (before : List Happening) → mail_behind (map entered rs) before ≡ before
all_mail [] before = refl
all_mail (r ∷ rs) before = all_mail rs before

all_trace : (rs : List Recorded) → trace (map entered rs) ≡ map commit (entries (map entered rs))
all_trace [] = refl
all_trace (r ∷ rs) = ap (λ (l : List Event). commit r ∷ l) (all_trace rs)

-- of entries the first were committed
pub stops_among : (a b : PlaceView) (rs : List Recorded) (fault : ReceiveFault) → IsReady a.db a.seen → NotAll a b rs fault → StopsAmong a.db b.db a.seen b.seen rs fault
stops_among a b rs fault ready not = subst (λ (f : ReceiveFault). StopsAmong a.db b.db a.seen b.seen rs f) (sym not.is) (record {
  entries = not.done;
  refused = asked not.end;
  rest = not.rest;
  parts = not.parts;
  is = refused_did a b (map entered not.done) not.end not.did;
  reached = reached_did a b (map entered not.done) not.end not.done ready (all_entries not.done) (all_trace not.done) (subst AreQuiet (sym not.quiet) tt) not.did;
})

-- ---- notes, acts, and notes again

module _ (notes : List Recorded) (publisher user : Name) (acts : List ReceiveAct) (raised : List Recorded) where
  abbrev between : List Effect
  between = map entered notes ++ (effects_of publisher user acts ++ map entered raised)

  between_entries : entries between ≡ notes ++ (entries_of user acts ++ raised)
  between_entries =
      entries_on (map entered notes) (effects_of publisher user acts ++ map entered raised)
      ∙ (λ i. all_entries notes i ++ entries_on (effects_of publisher user acts) (map entered raised) i)
      ∙ ap (λ (l : List Recorded). notes ++ l) (λ i. told_entries publisher user acts i ++ all_entries raised i)

  between_mail : (before : List Happening) → mail_behind between before ≡ mail_after publisher acts before
  between_mail before =
      mail_on (map entered notes) (effects_of publisher user acts ++ map entered raised) before
      ∙ mail_on (effects_of publisher user acts) (map entered raised) (mail_behind (map entered notes) before)
      ∙ all_mail raised (mail_behind (effects_of publisher user acts) (mail_behind (map entered notes) before))
      ∙ ap (mail_behind (effects_of publisher user acts)) (all_mail notes before)
      ∙ told_mail publisher user acts before

  between_trace : trace between ≡ map commit (entries between)
  between_trace =
      trace_then (map entered notes) (effects_of publisher user acts ++ map entered raised) (all_trace notes)
      (trace_then (effects_of publisher user acts) (map entered raised) (told_trace publisher user acts) (all_trace raised))

-- ---- of one partner mail

-- where windows begin
pub record IsBeginning (a : PlaceView) (s : Stand) (book : Book) (mail : PartnerMail) : Type 0 where
  pub state : s.state ≡ committed a.db
  pub received : s.received ≡ book.log_received
  pub took : s.took ≡ 0
  pub told : s.told ≡ length s.reports
  pub inbox : s.inbox ≡ mail.inbox
  pub left : s.left ≡ []

module _ (o a d : PlaceView) (s : Stand) (mail mail' : PartnerMail) (reports' : List Report) (ready : IsReady o.db o.seen) (beginning : IsBeginning a s (book_in o.db.books s.user) mail) (files : mail'.files.items ≡ mail.files.items)
    (noted : Did o a (map entered (first_notes s.user (book_in o.db.books s.user) mail.files.items)) whole) where
  abbrev book : Book
  book = book_in o.db.books s.user

  abbrev publisher : Name
  publisher = o.db.catalog.publisher

  -- the notes leave the state
  noted_state : committed a.db ≡ committed o.db
  noted_state =
      let one = note_entries s.user (confirms book mail.files.items) in
      let two = note_entries s.user (asks book mail.files.items) in
      state_did o a (map entered (one ++ two)) ready noted
      ∙ ap (state_from (committed o.db)) (all_entries (one ++ two))
      ∙ state_from-append (committed o.db) one two
      ∙ ap (λ (x : State). state_from x two) (notes_still (committed o.db) s.user (confirms book mail.files.items))
      ∙ notes_still (committed o.db) s.user (asks book mail.files.items)

  same_publisher : publisher_in s ≡ publisher
  same_publisher = ap (λ (x : State). x.catalog.publisher) (beginning.state ∙ noted_state)

  module _ (message_files : List MessageFile) (dropped_windows : List Window) (is : IsPartnerMail message_files dropped_windows mail) where
    abbrev first : PassState
    first = first_of o.db book dropped_windows

    abbrev notes : List Recorded
    notes = first_notes s.user book (map filed_of message_files)

    noted_there : Did o a (map entered notes) whole
    noted_there = subst (λ (f : List Filed). Did o a (map entered (first_notes s.user book f)) whole) is.files noted

    told_first : Tells publisher s.user message_files first s.reports [] s
    told_first = let zero : length s.reports ≡ length s.reports + 0 = omega arith in record {
      user_is = refl;
      publisher_is = same_publisher;
      are = tt;
      state = beginning.state ∙ noted_state;
      received = beginning.received;
      left = beginning.left;
      holds = subst (λ (l : List Gathered). Holds message_files dropped_windows l) (sym beginning.inbox) is.inbox;
      took = beginning.took;
      told = beginning.told ∙ zero;
      reports_are = sym (append-nil s.reports);
    }

    -- acts, and what was committed behind them
    module _ (last : Stand) (c : PlaceView) (end : End) (acted : Acted s last a c end) where
      tells : Tells publisher s.user message_files first s.reports acted.acts last
      tells = told_steps publisher s.user message_files first s.reports s last acted.acts told_first acted.steps

      abbrev at : PassState
      at = stand_of first acted.acts

      effects_are : effects_of (publisher_in s) s.user acted.acts ≡ effects_of publisher s.user acted.acts
      effects_are = ap (λ (n : Name). effects_of n s.user acted.acts) same_publisher

      mail_there : mail'.inbox ≡ last.inbox → IsPartnerMail message_files at.dropped_windows mail'
      mail_there inbox = record { files = files ∙ is.files; inbox = subst (λ (l : List Gathered). Holds message_files at.dropped_windows l) (sym inbox) tells.holds }

    module _ (last : Stand) (c : PlaceView) (acted : Acted s last a c whole) where
      behind : (raised : List Recorded) (end : End) → Did c d (map entered raised) end → Did o d (between notes publisher s.user acted.acts raised) end
      behind raised end did =
          did_on o a d (map entered notes) (effects_of publisher s.user acted.acts ++ map entered raised) end noted_there
          (subst (λ (l : List Effect). Did a d (l ++ map entered raised) end) (effects_are last c whole acted) (did_on a c d (effects_of (publisher_in s) s.user acted.acts) (map entered raised) end acted.did did))

      at_rest : IsResting last → IsAtRest message_files (at last c whole acted)
      at_rest rest =
          let t = tells last c whole acted in
          let dropped' = (at last c whole acted).dropped_windows in
          (sym t.left ∙ rest.idle, subst (λ (n : ℕ). NoneLeads message_files dropped' n) t.received (none_leads message_files dropped' last.inbox last.received t.holds rest.none))

      raised_are : (files' : List Filed) → files' ≡ map filed_of message_files → note_entries last.user (raises last.received files') ≡ note_entries s.user (raises (at last c whole acted).received (map filed_of message_files))
      raised_are files' same = let t = tells last c whole acted in λ i. note_entries (t.user_is i) (raises (t.received i) (same i))

      few : taken_in acted.acts ≡ min (taken_in acted.acts) (2 ^ 64 - 1)
      few =
          let ready' = ready_did o a (map entered notes) ready noted_there in
          let less = few_taken a.db c.db s.user acted.acts ready'.sound (subst (λ (l : List Recorded). Advances a.db c.db l) (told_entries (publisher_in s) s.user acted.acts) (acted.did.value acted.did.state.0)) in
          omega (arith, less)

    went_through : (answer : Received) → WentThrough s a d (map filed_of message_files) mail'.inbox reports' answer
        → (dropped_windows' : List Window) × IsPartnerMail message_files dropped_windows' mail' × Passed o.db d.db o.seen d.seen s.user message_files dropped_windows dropped_windows' s.reports reports' answer
    went_through answer went =
        let acts = went.acted.acts in
        let last = went.last in
        let t = tells last went.middle whole went.acted in
        let there = at last went.middle whole went.acted in
        let raised = note_entries last.user (raises last.received (map filed_of message_files)) in
        let end_is : answer.end.0 ≡ last.received = went.raised.end in
        let did = behind last went.middle went.acted raised whole went.noted in
        let raised_is : raised ≡ note_entries s.user (raises answer.end.0 (map filed_of message_files)) = λ i. note_entries (t.user_is i) (raises (sym end_is i) (map filed_of message_files)) in
        let gap_is : gap_report last.user last.received (map filed_of message_files) ≡ gap_report s.user answer.end.0 (map filed_of message_files) = λ i. gap_report (t.user_is i) (sym end_is i) (map filed_of message_files) in (
          there.dropped_windows,
          mail_there last went.middle whole went.acted went.inbox_is,
          record {
            acts = acts;
            are = t.are;
            rest = at_rest last went.middle went.acted went.rest;
            dropped_windows_are = refl;
            reached = reached_did o d (between notes publisher s.user acts raised) whole (notes ++ (entries_of s.user acts ++ note_entries s.user (raises answer.end.0 (map filed_of message_files)))) ready
                (between_entries notes publisher s.user acts raised ∙ ap (λ (l : List Recorded). notes ++ (entries_of s.user acts ++ l)) raised_is) (between_trace notes publisher s.user acts raised) tt did;
            mail = λ told. did.mail told ∙ between_mail notes publisher s.user acts raised (mail_in o.seen.happened);
            steady = did.cause;
            reports_are = went.raised.reports_are ∙ (λ i. t.reports_are i ++ gap_is i) ∙ append_assoc s.reports (act_reports s.user acts) (gap_report s.user answer.end.0 (map filed_of message_files));
            took = went.raised.took ∙ t.took ∙ sym (few last went.middle went.acted);
            end = end_is ∙ t.received;
            ask = went.raised.ask ∙ ap (λ (n : ℕ). has_gap n (map filed_of message_files)) (sym end_is);
          },
        )

    stopped_windows : (fault : ReceiveFault) → Stopped s mail'.inbox reports' a d fault
        → (dropped_windows' : List Window) × IsPartnerMail message_files dropped_windows' mail' × PassedInPart o.db d.db o.seen d.seen s.user message_files dropped_windows dropped_windows' s.reports reports' fault
    stopped_windows fault stopped =
        let acts = stopped.acted.acts in
        let end = stopped.end in
        let t = tells stopped.middle d end stopped.acted in
        let there = at stopped.middle d end stopped.acted in
        let effects = map entered notes ++ effects_of publisher s.user acts in
        let did : Did o d (between notes publisher s.user acts []) end =
        did_on o a d (map entered notes) (effects_of publisher s.user acts ++ []) end noted_there
        (subst (λ (l : List Effect). Did a d l end) (effects_are stopped.middle d end stopped.acted ∙ sym (append-nil (effects_of publisher s.user acts))) stopped.acted.did) in (
          there.dropped_windows,
          mail_there stopped.middle d end stopped.acted stopped.inbox_is,
          subst (λ (f : ReceiveFault). PassedInPart o.db d.db o.seen d.seen s.user message_files dropped_windows there.dropped_windows s.reports reports' f) (sym stopped.is) (inr (record {
            acts = acts;
            are = t.are;
            dropped_windows_are = refl;
            stopped = inl (record {
              refused = asked end;
              is = refused_did o d (between notes publisher s.user acts []) end did;
              next = told_next publisher s.user message_files first s.reports acts stopped.middle t end stopped.under_way;
              reached = reached_did o d (between notes publisher s.user acts []) end (notes ++ entries_of s.user acts) ready
                  (between_entries notes publisher s.user acts [] ∙ ap (λ (l : List Recorded). notes ++ l) (append-nil (entries_of s.user acts))) (between_trace notes publisher s.user acts []) (quiet_way stopped.middle end stopped.under_way) did;
              mail = λ told.
                  told_mail_at publisher s.user message_files first s.reports acts stopped.middle t end (mail_after publisher acts (mail_in o.seen.happened)) (mail_in d.seen.happened) stopped.under_way
                  (did.mail told ∙ ap (λ (l : List Happening). under_way end ++ l) (between_mail notes publisher s.user acts [] (mail_in o.seen.happened)));
              reports_are = stopped.reports_are ∙ t.reports_are;
            });
          })),
        )

    stopped_raising : (fault : ReceiveFault) → StoppedRaising s a d (map filed_of message_files) mail'.inbox reports' fault
        → (dropped_windows' : List Window) × IsPartnerMail message_files dropped_windows' mail' × PassedInPart o.db d.db o.seen d.seen s.user message_files dropped_windows dropped_windows' s.reports reports' fault
    stopped_raising fault stopped =
        let acts = stopped.acted.acts in
        let not = stopped.noted in
        let t = tells stopped.last stopped.middle whole stopped.acted in
        let there = at stopped.last stopped.middle whole stopped.acted in
        let did = behind stopped.last stopped.middle stopped.acted not.done not.end not.did in
        let quiet : AreQuiet (under_way not.end) = subst AreQuiet (sym not.quiet) tt in (
          there.dropped_windows,
          mail_there stopped.last stopped.middle whole stopped.acted stopped.inbox_is,
          subst (λ (f : ReceiveFault). PassedInPart o.db d.db o.seen d.seen s.user message_files dropped_windows there.dropped_windows s.reports reports' f) (sym not.is) (inr (record {
            acts = acts;
            are = t.are;
            dropped_windows_are = refl;
            stopped = inr (record {
              at_rest = at_rest stopped.last stopped.middle stopped.acted stopped.rest;
              raised = not.done;
              refused = asked not.end;
              rest = not.rest;
              parts = sym (raised_are stopped.last stopped.middle stopped.acted (map filed_of message_files) refl) ∙ not.parts;
              is = refused_did o d (between notes publisher s.user acts not.done) not.end did;
              reached = reached_did o d (between notes publisher s.user acts not.done) not.end (notes ++ (entries_of s.user acts ++ not.done)) ready (between_entries notes publisher s.user acts not.done) (between_trace notes publisher s.user acts not.done) quiet did;
              mail = λ told. did.mail told
                  ∙ (λ i. not.quiet i ++ between_mail notes publisher s.user acts not.done (mail_in o.seen.happened) i);
              reports_are = stopped.reports_are ∙ t.reports_are;
            });
          })),
        )

  why_windows : (fault : ReceiveFault) → Stopped s mail'.inbox reports' a d fault → IsDeviceFault o.seen d.seen fault
  why_windows fault stopped = subst (λ (f : ReceiveFault). IsDeviceFault o.seen d.seen f) (sym stopped.is) (why_did o d _ stopped.end (did_on o a d _ _ stopped.end noted stopped.acted.did))

  why_raising : (fault : ReceiveFault) → StoppedRaising s a d mail.files.items mail'.inbox reports' fault → IsDeviceFault o.seen d.seen fault
  why_raising fault stopped =
      let not = stopped.noted in
      subst (λ (f : ReceiveFault). IsDeviceFault o.seen d.seen f) (sym not.is) (why_did o d _ not.end (did_on o a d _ _ not.end noted (did_on a stopped.middle d _ _ not.end stopped.acted.did not.did)))

  pub received_mail : (result : Result Received ReceiveFault) → WentBehind s a d mail.files.items mail'.inbox reports' result → ReceivedMail o d s.user mail mail' s.reports reports' result
  received_mail (Ok answer) went =
      record { why = tt; passed = λ message_files dropped_windows is. went_through message_files dropped_windows is answer (subst (λ (f : List Filed). WentThrough s a d f mail'.inbox reports' answer) is.files went) }
  received_mail (Err fault) (inl stopped) = record { why = why_windows fault stopped; passed = λ message_files dropped_windows is. stopped_windows message_files dropped_windows is fault stopped }
  received_mail (Err fault) (inr stopped) = record {
    why = why_raising fault stopped;
    passed = λ message_files dropped_windows is. stopped_raising message_files dropped_windows is fault (subst (λ (f : List Filed). StoppedRaising s a d f mail'.inbox reports' fault) is.files stopped);
  }

-- the notes stopped
pub notes_stopped : (o a : PlaceView) (user : Name) (mail : PartnerMail) (reports : List Report) (fault : ReceiveFault) → IsReady o.db o.seen → NotAll o a (first_notes user (book_in o.db.books user) mail.files.items) fault
    → ReceivedMail o a user mail mail reports reports (Err fault)
notes_stopped o a user mail reports fault ready not = record {
  why = subst (λ (f : ReceiveFault). IsDeviceFault o.seen a.seen f) (sym not.is) (why_did o a (map entered not.done) not.end not.did);
  passed = λ message_files dropped_windows is. (
    dropped_windows,
    is,
    inl (record {
      stops = subst (λ (f : List Filed). StopsAmong o.db a.db o.seen a.seen (first_notes user (book_in o.db.books user) f) fault) is.files (stops_among o a (first_notes user (book_in o.db.books user) mail.files.items) fault ready not);
      dropped_windows_are = refl;
      mail = λ told. not.did.mail told ∙ (λ i. not.quiet i ++ all_mail not.done (mail_in o.seen.happened) i);
      reports_are = refl;
    }),
  );
}

-- windows were tried, and then what was to be raised was, or not
pub went_behind : (s last : Stand) (a b c : PlaceView) (files : List Filed) (reports : List Report) (result : Result Received ReceiveFault) → Acted s last a b whole → IsResting last → EntersAll b c (note_entries last.user (raises last.received files)) result
    → IfOk result (HasRaised last files reports) → OnErr result (reports ≡ last.reports) → WentBehind s a c files last.inbox reports result
went_behind s last a b c files reports (Ok answer) acted rest noted raised same = record { last = last; middle = b; acted = acted; rest = rest; inbox_is = refl; noted = noted; raised = raised }
went_behind s last a b c files reports (Err fault) acted rest noted raised same = inr (record { last = last; middle = b; acted = acted; rest = rest; inbox_is = refl; reports_are = same; noted = noted })
