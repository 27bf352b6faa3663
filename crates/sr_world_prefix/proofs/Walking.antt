-- What a run receives, entry by entry: each is a step of some kind, where the notes that are made of message files and the transactions that are taken are.
use Rattle.std.proofs.Common.{◌≡◌, ℕ, Bool, List, [], ◌∷◌, ◌++◌, map, Option, refl, sym, ap, subst, ◌∙◌, inl, inr, append_assoc, append-nil}
use Rattle.std.specs.Prelude.{◌⊎◌, ◌≤◌, IsTrue}
use Rattle.std.specs.List.{AllByRecursion}
use Rattle.sr_book.specs.Entries.{Name}
use Rattle.sr_book.specs.declared.book.Book.{Book}
use Rattle.sr_database.specs.Databases.{IsDatabase}
use Rattle.sr_database.specs.Views.{View}
use Rattle.sr_database_files.specs.Books.{book_in}
use Rattle.sr_database_history.specs.Folds.{books_of}
use Rattle.sr_database_history.specs.Recorded.{Recorded, taken}
use Rattle.sr_mail.specs.declared.piece.Piece.{Piece}
use Rattle.sr_mail.specs.declared.window.Window.{Window}
use Rattle.sr_receive.specs.Acts.{ReceiveAct, took, PassState, stand_of, AreActs, entries_of, mail_after}
use Rattle.sr_receive.specs.Passes.{IsMailAt, IsOfNext, IsRefused, PassedInPart, StoppedAtEnd, StoppedAtNotes, StoppedAtWindows, begun_by, first_notes, first_of, note_entries}
use Rattle.sr_receive_gather.specs.Bags.{filed_of}
use Rattle.sr_receive_gather.specs.Fetches.{RefetchedInPart, refetches}
use Rattle.sr_receive_gather.specs.Greatest.{raises}
use Rattle.sr_receive_gather.specs.MessageFiles.{FetchedFile, MessageFile, message_files_from}
use Rattle.sr_receive_gather.specs.declared.fault.ReceiveFault.{ReceiveFault}
use Rattle.sr_receive_gather.specs.declared.fault.ReceiveFault.TheVariants.{Disk, Full, Long, Mail, Memory}
use Rattle.sr_receive_gather.specs.declared.report.Report.{Report}
use Rattle.sr_site.specs.Happenings.{Happening, mail_in}
use Rattle.sr_site.specs.Seen.{Seen}
use Rattle.sr_database_meaning.specs.Events.{Event, commit, commits}
use Rattle.sr_database_meaning.specs.Traces.{Went}
use Rattle.sr_database_meaning.proofs.Going.{told_same}
use Rattle.sr_database_meaning.proofs.Joining.{joined}
use Rattle.sr_agent.specs.Lines.{Line}
use Rattle.sr_agent.specs.Runs.{IsReceiving, Run, fetched_files_of, mail_of, received_mail, taken_entries}
use Rattle.sr_agent.specs.Stops.{PartnerPassStop, in_message_files, behind_message_files}
use Rattle.sr_agent.specs.PartnerPasses.{Gathering, PartnerPass, ArePartnerPasses, IsPartnerPass, after_partner_passes, beginning, ending, files_of, message_files_of, partner_pass_entries, partner_passes_entries, partner_passes_mail}
use Rattle.sr_agent.specs.declared.fault.AgentFault.{AgentFault}
use Rattle.sr_agent.proofs.Values.{beginning_is, publisher_is}
use Rattle.sr_world_prefix.proofs.Acting.{StandsAt, acts_on, begins_at}
use Rattle.sr_world_prefix.proofs.Along.{Steps, along_last, steps_along, steps_prefix, steps_more}
use Rattle.sr_world_prefix.proofs.Mail.{AllSince, GoesOn, acts_parts, acts_since, refetches_on, under_partner_pass}
use Rattle.sr_world_prefix.proofs.Ran.{HasReceived}
use Rattle.sr_agent.proofs.Returned.{SettlesAs, reached_settles, removed_settled, settles_before}
use Rattle.sr_world_prefix.proofs.RunMail.{removed_goes}

-- what happened to the mail behind the acts
part_goes : (publisher user : Name) (pieces : List Piece) (before now : List Happening) → RefetchedInPart publisher user pieces before now → GoesOn before now
part_goes publisher user pieces before now part = record {
  more = part.last ++ refetches publisher part.pairs [];
  is = part.happened ∙ ap (λ (l : List Happening). part.last ++ l) (refetches_on publisher part.pairs [] before) ∙ sym (append_assoc part.last (refetches publisher part.pairs []) before);
}

mail_at : (why : ReceiveFault) (publisher user : Name) (message_files : List MessageFile) (s : PassState) (before now : List Happening) → IsMailAt why publisher user message_files s before now → GoesOn before now
mail_at Disk publisher user message_files s before now is = record { more = []; is = is }
mail_at Mail publisher user message_files s before now is = part_goes publisher user is.pieces before now is.part
mail_at (Full end need) publisher user message_files s before now is = record { more = []; is = is }
mail_at (Long size limit) publisher user message_files s before now is = record { more = []; is = is }
mail_at Memory publisher user message_files s before now (inl same) = record { more = []; is = same }
mail_at Memory publisher user message_files s before now (inr is) = part_goes publisher user is.pieces before now is.part

-- ---- the commit that was begun

-- it is a prefix of what was refused and of what is left
begun_prefix : (why : ReceiveFault) (refused rest : List Recorded) → (left : List Recorded) × (refused ++ rest ≡ begun_by why refused ++ left)
begun_prefix Disk refused rest = (rest, refl)
begun_prefix Mail refused rest = (refused ++ rest, refl)
begun_prefix (Full end need) refused rest = (refused ++ rest, refl)
begun_prefix (Long size limit) refused rest = (refused ++ rest, refl)
begun_prefix Memory refused rest = (refused ++ rest, refl)

begun_parts : (why : ReceiveFault) (entries refused rest : List Recorded) → (left : List Recorded) × (entries ++ (refused ++ rest) ≡ (entries ++ begun_by why refused) ++ left)
begun_parts why entries refused rest =
    let prefix = begun_prefix why refused rest in
    (prefix.0, ap (λ (l : List Recorded). entries ++ l) prefix.1 ∙ sym (append_assoc entries (begun_by why refused) prefix.0))

-- the site went through a trace and then these commits, each of these a step of a kind behind it; and it is settled behind them where no call of the disk
-- failed
pub record WentOn (publisher : Name) (Q : List Recorded → Recorded → Type 0) (before now : Seen) (es : List Recorded) (trace : List Event) : Type 0 where
  pub entries : List Recorded
  pub went : Went before now publisher es (trace ++ map commit entries)
  pub steps : Steps Q (es ++ commits trace) entries
  pub settles : SettlesAs publisher ((es ++ commits trace) ++ entries) before now

-- a kind of steps that a run makes as it receives
pub record Walk (publisher : Name) : Type 1 where
  -- an entry is a step, from the history before it
  pub Step : List Recorded → Recorded → Type 0
  -- what is so of a history, and of it with each step
  pub Holds : List Recorded → Type 0
  pub kept : (es : List Recorded) (r : Recorded) → Holds es → Step es r → Holds (es ++ r ∷ [])
  -- what is so of a user's message files, and stays so as the history goes on
  pub Good : List Recorded → Name → List MessageFile → Type 0
  pub later : (es more : List Recorded) (whose : Name) (message_files : List MessageFile) → Good es whose message_files → Good (es ++ more) whose message_files
  -- what is so of all that happens to the mail
  pub Happened : Happening → Type 0
  -- the notes that are made of message files are steps, those that come first and the one behind the windows
  pub noted : (es : List Recorded) (whose : Name) (message_files : List MessageFile) → Holds es → Good es whose message_files
      → Steps Step es (first_notes whose (books_of whose es) (map filed_of message_files))
  pub raised : (es : List Recorded) (whose : Name) (message_files : List MessageFile) (received : ℕ) → Holds es → Good es whose message_files → received ≡ (books_of whose es).log_received
      → Steps Step es (note_entries whose (raises received (map filed_of message_files)))
  -- and so are the transactions that are taken of windows
  pub acted : (es : List Recorded) (whose : Name) (message_files : List MessageFile) (first : PassState) (acts : List ReceiveAct) → Holds es → StandsAt publisher es whose first → first.left ≡ []
      → AreActs publisher whose message_files first acts → AllByRecursion Happened (mail_after publisher acts []) → Steps Step es (entries_of whose acts)

module _ (publisher : Name) (walk : Walk publisher) where
  abbrev P : Happening → Type 0
  P step = walk.Happened step

  abbrev Q : List Recorded → Recorded → Type 0
  Q es r = walk.Step es r

  -- what is so of a history is so behind steps
  pub held : (es rs : List Recorded) → walk.Holds es → Steps walk.Step es rs → walk.Holds (es ++ rs)
  held es rs holds steps = along_last walk.Holds es rs (steps_along walk.Step walk.Holds walk.kept es rs holds steps)

  abbrev AreSteps : List Recorded → List Recorded → Type 0
  AreSteps es rs = Steps Q es rs

  -- ---- windows, behind the notes that come first

  record Behind (es : List Recorded) (whose : Name) (notes : List Recorded) (first : PassState) (acts : List ReceiveAct) : Type 0 where
    steps : AreSteps es (notes ++ entries_of whose acts)
    received : (stand_of first acts).received ≡ (books_of whose (es ++ (notes ++ entries_of whose acts))).log_received

  windows : (es : List Recorded) (whose : Name) (message_files : List MessageFile) (acts : List ReceiveAct) → walk.Holds es → walk.Good es whose message_files → AreActs publisher whose message_files (beginning publisher es whose) acts
      → AllByRecursion P (mail_after publisher acts []) → Behind es whose (first_notes whose (books_of whose es) (map filed_of message_files)) (beginning publisher es whose) acts
  windows es whose message_files acts holds good are mail =
      let notes : List Recorded = first_notes whose (books_of whose es) (map filed_of message_files) in
      let stands = begins_at publisher es whose (map filed_of message_files) in
      let first = walk.noted es whose message_files holds good in
      record {
        steps = steps_more Q es notes (entries_of whose acts) first
            (walk.acted (es ++ notes) whose message_files (beginning publisher es whose) acts (held es notes holds first) stands refl are mail);
        received = (acts_on publisher (es ++ notes) whose message_files (beginning publisher es whose) acts stands are).stands.received
            ∙ ap (λ (rs : List Recorded). (books_of whose rs).log_received) (append_assoc es notes (entries_of whose acts));
      }

  -- ---- partners' passes

  partner_pass : (es : List Recorded) (fetched_files : List FetchedFile) (t : PartnerPass) → walk.Holds es → walk.Good es t.user (message_files_of fetched_files t) → IsPartnerPass publisher es fetched_files t → AllByRecursion P (mail_after publisher t.acts [])
      → AreSteps es (partner_pass_entries publisher es fetched_files t)
  partner_pass es fetched_files t holds good is mail =
      let notes : List Recorded = first_notes t.user (books_of t.user es) (files_of fetched_files t) in
      let acted_then : List Recorded = entries_of t.user t.acts in
      let raised_then : List Recorded = note_entries t.user (raises (ending publisher es t).received (files_of fetched_files t)) in
      let behind = windows es t.user (message_files_of fetched_files t) t.acts holds good is.are mail in
      subst (λ (l : List Recorded). AreSteps es l) (append_assoc notes acted_then raised_then)
      (steps_more Q es (notes ++ acted_then) raised_then behind.steps
      (walk.raised (es ++ (notes ++ acted_then)) t.user (message_files_of fetched_files t) (ending publisher es t).received (held es (notes ++ acted_then) holds behind.steps)
      (walk.later es (notes ++ acted_then) t.user (message_files_of fetched_files t) good) behind.received))

  partner_passes : (es : List Recorded) (fetched_files : List FetchedFile) (purge : Bool) (ts : List PartnerPass) (before : List Happening) → walk.Holds es → ((whose : Name) → walk.Good es whose (message_files_from whose fetched_files))
      → ArePartnerPasses publisher es fetched_files ts → AllByRecursion P (partner_passes_mail publisher es fetched_files purge ts before) → AreSteps es (partner_passes_entries publisher es fetched_files ts)
  partner_passes es fetched_files purge [] before holds good are all = tt
  partner_passes es fetched_files purge (t ∷ earlier) before holds good are all =
      let added : List Recorded = partner_passes_entries publisher es fetched_files earlier in
      let there : List Recorded = after_partner_passes publisher es fetched_files earlier in
      let mail : List Happening = partner_passes_mail publisher es fetched_files purge earlier before in
      let parts = acts_parts P publisher t.acts mail (under_partner_pass P publisher there fetched_files purge t mail all) in
      let first = partner_passes es fetched_files purge earlier before holds good are.0 parts.1 in
      steps_more Q es added (partner_pass_entries publisher there fetched_files t) first
      (partner_pass there fetched_files t (held es added holds first) (walk.later es added t.user (message_files_of fetched_files t) (good t.user)) are.1 parts.0)

  -- what a run received
  pub received_walked : (es : List Recorded) (purge : Bool) (run : Run) → walk.Holds es → HasReceived publisher es run
      → ((users : List Name) → IsReceiving publisher es run users → (whose : Name) → walk.Good es whose (message_files_from whose (fetched_files_of run.gathered)))
      → AllByRecursion P (received_mail publisher es purge run []) → AreSteps es (taken_entries publisher es run)
  received_walked es purge run holds (inl none) good all = subst (λ (ts : List PartnerPass). AreSteps es (partner_passes_entries publisher es (fetched_files_of run.gathered) ts)) (sym none) tt
  received_walked es purge run holds (inr some) good all =
      let r = some.1 in
      partner_passes es (fetched_files_of run.gathered) purge run.partner_passes (mail_of publisher run.gathered []) holds (good some.0 r)
      (subst (λ (o : Option Gathering). ArePartnerPasses publisher es (fetched_files_of o) run.partner_passes) (sym r.gathered_is) r.are) all

  -- ---- a partner's pass that a fault ended

  -- what a commit that was begun adds, where all of this may be added
  begun_steps : (es : List Recorded) (why : ReceiveFault) (entries refused rest : List Recorded) → AreSteps es (entries ++ (refused ++ rest)) → AreSteps es (entries ++ begun_by why refused)
  begun_steps es why entries refused rest steps =
      let parts = begun_parts why entries refused rest in
      steps_prefix Q es (entries ++ begun_by why refused) parts.0 (subst (λ (l : List Recorded). AreSteps es l) parts.1 steps)

  -- the site went through these commits, each of them a step
  record WentSteps (before now : Seen) (es : List Recorded) : Type 0 where
    entries : List Recorded
    went : Went before now publisher es (map commit entries)
    steps : AreSteps es entries
    settles : SettlesAs publisher (es ++ entries) before now

  module _ (db new : View) (seen now : Seen) (es : List Recorded) (whose : Name) (message_files : List MessageFile) (why : ReceiveFault) (told : IsTrue seen.observable)
      (database : IsDatabase db publisher es seen) (holds : walk.Holds es) (good : walk.Good es whose message_files) (since : AllSince P (mail_in seen.happened) (mail_in now.happened)) where
    abbrev book : Book
    book = book_in db.books whose

    abbrev notes : List Recorded
    notes = first_notes whose book (map filed_of message_files)

    abbrev first : PassState
    first = first_of db book []

    -- the value's book is that of the history
    notes_steps : AreSteps es notes
    notes_steps = subst (λ (b : Book). AreSteps es (first_notes whose b (map filed_of message_files))) (sym (database.is.books whose)) (walk.noted es whose message_files holds good)

    behind_windows : (acts : List ReceiveAct) → AreActs publisher whose message_files first acts → GoesOn (mail_after db.catalog.publisher acts (mail_in seen.happened)) (mail_in now.happened)
        → Behind es whose notes first acts
    behind_windows acts are goes =
        let own : db.catalog.publisher ≡ publisher = publisher_is db publisher es database.is in
        let mail = acts_since P publisher acts (mail_in seen.happened) (mail_in now.happened) since
        (subst (λ (n : Name). GoesOn (mail_after n acts (mail_in seen.happened)) (mail_in now.happened)) own goes) in
        let same : beginning publisher es whose ≡ first = sym (beginning_is db publisher es whose database.is) in
        let there = windows es whose message_files acts holds good (subst (λ (s : PassState). AreActs publisher whose message_files s acts) (sym same) are) mail in
        subst (λ (b : Book). Behind es whose (first_notes whose b (map filed_of message_files)) first acts) (sym (database.is.books whose))
        (subst (λ (s : PassState). Behind es whose (first_notes whose (books_of whose es) (map filed_of message_files)) s acts) same there)

    -- the next transaction was refused, if one was
    refused_steps : (acts : List ReceiveAct) (refused : List Recorded) → AreActs publisher whose message_files first acts
        → GoesOn (mail_after db.catalog.publisher acts (mail_in seen.happened)) (mail_in now.happened) → IsRefused new refused why → IsOfNext whose (stand_of first acts) refused
        → AreSteps es ((notes ++ entries_of whose acts) ++ begun_by why refused)
    refused_steps acts [] are goes is next =
        begun_steps es why (notes ++ entries_of whose acts) [] []
        (subst (λ (l : List Recorded). AreSteps es l) (sym (append-nil (notes ++ entries_of whose acts))) (behind_windows acts are goes).steps)
    refused_steps acts (r ∷ []) are goes is next =
        let one : List Recorded = taken whose next.t.at next.dones ∷ [] in
        let apart : AreSteps es ((notes ++ entries_of whose acts) ++ one)
        = subst (λ (l : List Recorded). AreSteps es l) (sym (append_assoc notes (entries_of whose acts) one)) (behind_windows (took next.t next.dones ∷ acts) (are, next.next) goes).steps in
        begun_steps es why (notes ++ entries_of whose acts) (r ∷ []) []
        (subst (λ (x : Recorded). AreSteps es ((notes ++ entries_of whose acts) ++ x ∷ [])) (sym next.is) apart)
    refused_steps acts (r ∷ other ∷ rs) are goes is next = absurd (is_none is)
      where
        is_none : IsRefused new (r ∷ other ∷ rs) why → ⊥
        is_none none = none

    at_notes : (dropped_windows dropped_windows' : List Window) (reports reports' : List Report) → StoppedAtNotes db new seen now notes dropped_windows dropped_windows' reports reports' why → WentSteps seen now es
    at_notes dropped_windows dropped_windows' reports reports' stop =
        let s = stop.stops in
        record {
          entries = s.entries ++ begun_by why s.refused;
          went = s.reached.went told publisher es database;
          steps = begun_steps es why s.entries s.refused s.rest (subst (λ (l : List Recorded). AreSteps es l) s.parts notes_steps);
          settles = reached_settles db new publisher es seen now s.entries (begun_by why s.refused) told database s.reached;
        }

    at_windows : (acts : List ReceiveAct) (reports reports' : List Report) → AreActs publisher whose message_files first acts → StoppedAtWindows db new seen now whose message_files notes first acts reports reports' why → WentSteps seen now es
    at_windows acts reports reports' are stop = record {
      entries = (notes ++ entries_of whose acts) ++ begun_by why stop.refused;
      went = stop.reached.went told publisher es database;
      steps = refused_steps acts stop.refused are
          (mail_at why db.catalog.publisher whose message_files (stand_of first acts) (mail_after db.catalog.publisher acts (mail_in seen.happened)) (mail_in now.happened) (stop.mail told)) stop.is stop.next;
      settles = reached_settles db new publisher es seen now (notes ++ entries_of whose acts) (begun_by why stop.refused) told database stop.reached;
    }

    at_end : (acts : List ReceiveAct) (reports reports' : List Report) → AreActs publisher whose message_files first acts → StoppedAtEnd db new seen now whose message_files notes first acts reports reports' why → WentSteps seen now es
    at_end acts reports reports' are stop =
        let prefix : List Recorded = notes ++ entries_of whose acts in
        let behind = behind_windows acts are (record { more = []; is = stop.mail told }) in
        let raised_then : List Recorded = note_entries whose (raises (stand_of first acts).received (map filed_of message_files)) in
        let whole : AreSteps es (prefix ++ raised_then)
        = steps_more Q es prefix raised_then behind.steps
        (walk.raised (es ++ prefix) whose message_files (stand_of first acts).received (held es prefix holds behind.steps) (walk.later es prefix whose message_files good) behind.received) in
        let parts : prefix ++ raised_then ≡ (prefix ++ stop.raised) ++ (stop.refused ++ stop.rest)
        = ap (λ (l : List Recorded). prefix ++ l) stop.parts ∙ sym (append_assoc prefix stop.raised (stop.refused ++ stop.rest)) in
        let begun_then : AreSteps es ((prefix ++ stop.raised) ++ begun_by why stop.refused)
        = begun_steps es why (prefix ++ stop.raised) stop.refused stop.rest (subst (λ (l : List Recorded). AreSteps es l) parts whole) in
        record {
          entries = (notes ++ (entries_of whose acts ++ stop.raised)) ++ begun_by why stop.refused;
          went = stop.reached.went told publisher es database;
          steps = subst (λ (l : List Recorded). AreSteps es (l ++ begun_by why stop.refused)) (append_assoc notes (entries_of whose acts) stop.raised) begun_then;
          settles = reached_settles db new publisher es seen now (notes ++ (entries_of whose acts ++ stop.raised)) (begun_by why stop.refused) told database stop.reached;
        }

    from_windows : (acts : List ReceiveAct) (reports reports' : List Report) → AreActs publisher whose message_files first acts
        → StoppedAtWindows db new seen now whose message_files notes first acts reports reports' why ⊎ StoppedAtEnd db new seen now whose message_files notes first acts reports reports' why → WentSteps seen now es
    from_windows acts reports reports' are (inl stop) = at_windows acts reports reports' are stop
    from_windows acts reports reports' are (inr stop) = at_end acts reports reports' are stop

    part_steps : (dropped_windows' : List Window) (reports reports' : List Report) → PassedInPart db new seen now whose message_files [] dropped_windows' reports reports' why → WentSteps seen now es
    part_steps dropped_windows' reports reports' (inl stop) = at_notes [] dropped_windows' reports reports' stop
    part_steps dropped_windows' reports reports' (inr from) =
        from_windows from.acts reports reports' (subst (λ (n : Name). AreActs n whose message_files first from.acts) (publisher_is db publisher es database.is) from.are) from.stopped

  pub partner_pass_walked : (es : List Recorded) (trace : List Event) (fetched_files : List FetchedFile) (whose : Name) (db new : View) (before seen now : Seen) (events : List Event) (lines : List Line) (fault : AgentFault) (purge : Bool)
      (whole : Type 0) → IsTrue before.observable → before.disk_faults ≤ seen.disk_faults → Went before seen publisher es trace → IsDatabase db publisher (es ++ commits trace) seen → walk.Holds (es ++ commits trace) → walk.Good (es ++ commits trace) whose (message_files_from whose fetched_files)
      → AllSince P (mail_in seen.happened) (mail_in now.happened) → PartnerPassStop publisher (es ++ commits trace) fetched_files whose db new seen now events lines fault purge whole
      → Went before now publisher es (trace ++ events) → WentOn publisher Q before now es trace
  partner_pass_walked es trace fetched_files whose db new before seen now events lines fault purge whole told later came database holds good since (in_message_files stop) went =
      let there : List Recorded = es ++ commits trace in
      let still : IsTrue seen.observable = subst (λ (b : Bool). IsTrue b) (sym (told_same before seen publisher es trace came).0) told in
      let part : WentSteps seen now there
      = part_steps db new seen now there whose (message_files_from whose fetched_files) stop.why still database holds good since stop.dropped_windows [] stop.told stop.part in
      record {
        entries = part.entries;
        went = joined before seen now publisher es trace (map commit part.entries) came part.went;
        steps = part.steps;
        settles = settles_before publisher (there ++ part.entries) before seen now later part.settles;
      }
  partner_pass_walked es trace fetched_files whose db new before seen now events lines fault purge whole told later came database holds good since (behind_message_files stop) went =
      let there : List Recorded = es ++ commits trace in
      let added : List Recorded = partner_pass_entries publisher there fetched_files stop.partner_pass in
      let goes = removed_goes publisher there fetched_files stop.partner_pass stop.between now fault purge whole stop.removed in
      let mail = acts_since P publisher stop.partner_pass.acts (mail_in seen.happened) (mail_in now.happened) since
      (subst (λ (l : List Happening). GoesOn l (mail_in now.happened)) stop.mail goes) in
      record {
        entries = added;
        went = subst (λ (l : List Event). Went before now publisher es (trace ++ l)) stop.events_are went;
        steps = partner_pass there fetched_files stop.partner_pass holds (subst (λ (n : Name). walk.Good there n (message_files_from n fetched_files)) (sym stop.user_is) good) stop.is mail;
        settles = λ none.
            removed_settled new publisher there (there ++ added) fetched_files stop.partner_pass stop.between now fault purge whole
            (subst (λ (b : Bool). IsTrue b) (sym (told_same before now publisher es (trace ++ events) went).0) told) stop.database stop.removed;
      }
