-- A run to its end, or to the fault that ended it: each history on the way is in step with a partner's.
use Rattle.std.proofs.Common.{◌≡◌, ℕ, List, [], ◌∷◌, ◌++◌, Option, map, Result, Ok, sym, ap, subst, ◌∙◌}
use Rattle.std.specs.Prelude.{Bool, IsTrue}
use Rattle.std.specs.List.{AllByRecursion}
use Rattle.sr_base.specs.Values.{offset_from}
use Rattle.sr_book.specs.Entries.{Name}
use Rattle.sr_book.specs.Histories.{taken_end}
use Rattle.sr_book.specs.declared.book.Book.{Book}
use Rattle.sr_book.specs.declared.note.Note.TheVariants.{Sent}
use Rattle.sr_book.proofs.Folds.{book_received}
use Rattle.sr_database.specs.Views.{View}
use Rattle.sr_database_history.specs.Fitting.{Stored}
use Rattle.sr_database_history.specs.Folds.{end_of, books_of, state_of, sees}
use Rattle.sr_database_history.specs.Recorded.{Recorded}
use Rattle.sr_receive.specs.Acts.{mail_after, ReceiveAct, PassState, AreActs, entries_of}
use Rattle.sr_receive.specs.Passes.{first_notes, note_entries}
use Rattle.sr_receive_gather.specs.Bags.{filed_of}
use Rattle.sr_receive_gather.specs.MessageFiles.{message_files_from, MessageFile}
use Rattle.sr_receive_gather.specs.Greatest.{asks, confirms, raises}
use Rattle.sr_receive_gather.specs.declared.bag.Filed.{Filed}
use Rattle.sr_send.specs.PutFiles.{sent_note}
use Rattle.sr_send.specs.Passes.{sent_end}
use Rattle.sr_site.specs.Happenings.{listed, mail_in}
use Rattle.sr_site.specs.Seen.{Seen}
use Rattle.sr_site.specs.Streams.{Output}
use Rattle.sr_database_meaning.specs.Events.{Event, commits}
use Rattle.sr_database_meaning.specs.Traces.{Went}
use Rattle.sr_agent.specs.Agents.{Did}
use Rattle.sr_agent.specs.Lines.{Line}
use Rattle.sr_agent.specs.Runs.{Run, IsReceiving, fetched_files_of, received_mail}
use Rattle.sr_agent.specs.PartnerPasses.{Gathering}
use Rattle.sr_agent.specs.declared.fault.AgentFault.{AgentFault}
use Rattle.sr_agent.specs.declared.options.Options.{Options}
use Rattle.sr_world_prefix.proofs.Acting.{StandsAt}
use Rattle.sr_world_prefix.proofs.Along.{Along, along_last, along_more, along_steps, steps_along}
use Rattle.sr_world_prefix.proofs.Came.{IsWithin, Unforged, acts_true, all_came, asks_within, confirms_within, message_files_within, raises_within}
use Rattle.sr_world_prefix.proofs.Doing.{did_walked}
use Rattle.sr_world_prefix.proofs.Leading.{acts_on}
use Rattle.sr_world_prefix.proofs.Mail.{AllSince}
use Rattle.sr_world_prefix.proofs.RunMail.{gathered_mail}
use Rattle.sr_world_prefix.proofs.Taking.{IsOn, notes_on}
use Rattle.sr_world_prefix.proofs.Walking.{Walk}

module _ (publisher user : Name) (us : List Recorded) where
  -- the notes before the windows
  first_on : (es : List Recorded) (whose : Name) (book : Book) (files : List Filed) → IsOn publisher user us es → (user ≡ whose → AllByRecursion (IsWithin publisher user us) files)
      → Along (IsOn publisher user us) es (first_notes whose book files)
  first_on es whose book files on within =
      let confirmed : List Recorded = note_entries whose (confirms book files) in
      let one = notes_on publisher user us es whose (confirms book files) on (λ same. confirms_within (taken_end sees publisher us) book files (within same)) in
      let last : IsOn publisher user us (es ++ confirmed) = along_last (IsOn publisher user us) es confirmed one in
      along_more (IsOn publisher user us) es confirmed (note_entries whose (asks book files)) one
      (notes_on publisher user us (es ++ confirmed) whose (asks book files) last (λ same. asks_within (taken_end sees publisher us) book files))

  -- ---- a step more is one that keeps the history in step

  -- his message files confirm no more than he took
  abbrev KnowsLetters : Name → List MessageFile → Type 0
  KnowsLetters whose message_files = user ≡ whose → AllByRecursion (IsWithin publisher user us) (map filed_of message_files)

  acts_along : (es : List Recorded) (whose : Name) (message_files : List MessageFile) (first : PassState) (acts : List ReceiveAct) → Stored user us → IsOn publisher user us es → StandsAt publisher es whose first
      → first.left ≡ [] → AreActs publisher whose message_files first acts → AllByRecursion (Unforged publisher user us) (mail_after publisher acts [])
      → Along (IsOn publisher user us) es (entries_of whose acts)
  acts_along es whose message_files first acts stored on stands idle are mail =
      acts_on publisher user us es whose message_files first acts stored on idle
      (λ (same : user ≡ whose). stands.received ∙ book_received sees whose es ∙ ap (λ (n : Name). taken_end sees n es) (sym same))
      are (acts_true publisher user us whose message_files first acts [] are mail).0

  abbrev step_walk : Stored user us → Walk publisher
  step_walk stored = record {
    Step = λ es r. IsOn publisher user us (es ++ r ∷ []);
    Holds = IsOn publisher user us;
    Good = λ es whose message_files. KnowsLetters whose message_files;
    Happened = Unforged publisher user us;
    kept = λ es r on step. step;
    later = λ es more whose message_files knows. knows;
    noted = λ es whose message_files on knows.
        along_steps (IsOn publisher user us) es (first_notes whose (books_of whose es) (map filed_of message_files)) (first_on es whose (books_of whose es) (map filed_of message_files) on knows);
    acted = λ es whose message_files first acts on stands idle are mail.
        along_steps (IsOn publisher user us) es (entries_of whose acts) (acts_along es whose message_files first acts stored on stands idle are mail);
    raised = λ es whose message_files received on knows is.
        along_steps (IsOn publisher user us) es (note_entries whose (raises received (map filed_of message_files)))
        (notes_on publisher user us es whose (raises received (map filed_of message_files)) on (λ same. raises_within (taken_end sees publisher us) received (map filed_of message_files)));
  }

  sent : (base : ℕ) (es : List Recorded) (whose : Name) (count : ℕ) → IsOn publisher user us es
      → IsOn publisher user us (es ++ sent_note whose (books_of whose es) (sent_end base publisher es whose (books_of whose es)) count ∷ [])
  sent base es whose count on =
      (notes_on publisher user us es whose (Sent (sent_end base publisher es whose (books_of whose es)) count (offset_from (books_of whose es).log_received) ∷ []) on (λ same. (tt, tt))).1

  gathered : (es : List Recorded) (purge : Bool) → (state_of publisher es).catalog.publisher ≡ publisher → (run : Run) (users : List Name)
      → AllByRecursion (Unforged publisher user us) (received_mail publisher es purge run []) → IsReceiving publisher es run users
      → (whose : Name) → KnowsLetters whose (message_files_from whose (fetched_files_of run.gathered))
  gathered es purge own run users mail r whose same =
      let g : Gathering = r.gathering in
      let came = all_came publisher user us (state_of publisher es).catalog (end_of es) g.fetched_files (listed publisher g.folder (Ok g.listing) ∷ []) own r.is.are
      (gathered_mail (Unforged publisher user us) publisher es purge run users r mail) in
      let within = message_files_within publisher user us (state_of publisher es).catalog (end_of es) g.fetched_files own r.is.are came.0 in
      subst (λ (o : Option Gathering). AllByRecursion (IsWithin publisher user us) (map filed_of (message_files_from whose (fetched_files_of o)))) (sym r.gathered_is)
      (subst (λ (n : Name). AllByRecursion (IsWithin publisher user us) (map filed_of (message_files_from n g.fetched_files))) same within)

module _ (publisher user : Name) (us es : List Recorded) (options : Options) (stored : Stored user us) (own : (state_of publisher es).catalog.publisher ≡ publisher)
    (on : IsOn publisher user us es) where
  -- the site went through a trace, and each history on the way is in step
  pub record KeptOn (before now : Seen) : Type 0 where
    pub trace : List Event
    pub went : Went before now publisher es trace
    pub along : Along (IsOn publisher user us) es (commits trace)

  pub did_on : (base : ℕ) (new : View) (before now : Seen) (written written' : Output) (lines : List Line) (result : Result ℕ AgentFault) → IsTrue before.observable → AllSince (Unforged publisher user us) (mail_in before.happened) (mail_in now.happened)
      → Did base new before now written written' publisher es options lines result → KeptOn before now
  did_on base new before now written written' lines result told all ran =
      let did = did_walked publisher (step_walk publisher user us stored) (sent publisher user us) es options on
      (λ run users mail r whose. gathered publisher user us es options.purge own run users mail r whose) base new before now written written' lines result told all ran in
      record {
        trace = did.trace;
        went = did.went;
        along = steps_along (step_walk publisher user us stored).Step (IsOn publisher user us) (λ qs r was step. step) es (commits did.trace) on did.steps;
      }
