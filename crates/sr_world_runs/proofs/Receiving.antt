-- What a run receives, where all that it fetches is known: each entry is a step that the messages allow.
use Rattle.std.proofs.Common.{◌≡◌, ℕ, List, [], ◌∷◌, ◌++◌, map, Option, Ok, refl, sym, ap, subst, ◌∙◌, inl, inr, arith, le_refl}
use Rattle.std.specs.Prelude.{⊤, ◌⊎◌, IsTrue}
use Rattle.std.specs.List.{AllByRecursion}
use Rattle.sr_book.specs.Entries.{Name}
use Rattle.sr_book.specs.Histories.{taken_end}
use Rattle.sr_book.proofs.Folds.{book_received}
use Rattle.sr_database.specs.Views.{View}
use Rattle.sr_database_history.specs.Folds.{books_of, end_of, sees, state_of}
use Rattle.sr_database_history.specs.Recorded.{Recorded, Done, taken}
use Rattle.sr_logform.specs.declared.op.Transaction.{Transaction}
use Rattle.sr_msgform.specs.declared.message.Message.{Message}
use Rattle.sr_receive.specs.Acts.{ReceiveAct, dropped, torn, begun, took, PassState, stand_of, AreActs, IsNextTaken, entries_of, mail_after, rest_of}
use Rattle.sr_receive.specs.Passes.{first_notes, note_entries}
use Rattle.sr_receive_gather.specs.Bags.{filed_of}
use Rattle.sr_receive_gather.specs.Greatest.{raises}
use Rattle.sr_receive_gather.specs.MessageFiles.{MessageFile, message_files_from}
use Rattle.sr_site.specs.Happenings.{Happening, listed, mail_in}
use Rattle.sr_site.specs.Seen.{Seen}
use Rattle.sr_database_meaning.specs.Events.{Event, commits}
use Rattle.sr_database_meaning.specs.Traces.{Went}
use Rattle.sr_agent.specs.Agents.{CameSoFar}
use Rattle.sr_agent.specs.Lines.{Line}
use Rattle.sr_agent.specs.Runs.{IsReceiving, Run, after_run, fetched_files_of, received_mail, taken_entries, trace_of}
use Rattle.sr_agent.specs.Stops.{IsReceivingUpTo, StopsAt, PartnerPassStop, in_partner_pass}
use Rattle.sr_agent.specs.PartnerPasses.{Gathering}
use Rattle.sr_agent.specs.declared.fault.AgentFault.{AgentFault}
use Rattle.sr_agent.specs.declared.options.Options.{Options}
use Rattle.sr_world_runs.specs.Worlds.{AllKnown, CameKnown}
use Rattle.sr_world_prefix.proofs.Acting.{StandsAt, acts_on}
use Rattle.sr_world_prefix.proofs.Along.{Steps, steps_more, steps_both, steps_second}
use Rattle.sr_world_runs.proofs.DatabaseSteps.{CanStep}
use Rattle.sr_world_prefix.proofs.Fetched.{IsSoOfAct, so_of_acts}
use Rattle.sr_world_runs.proofs.Knowing.{AreKnown, first_can, message_files_known, raised_can}
use Rattle.sr_world_prefix.proofs.Mail.{AllSince, GoesOn, mail_since, no_more, since_parts}
use Rattle.sr_world_prefix.proofs.Noting.{IsHere, first_steps, here_later, letters_here, raised_steps}
use Rattle.sr_world_prefix.proofs.Ran.{HasReceived, stop_received}
use Rattle.sr_world_prefix.proofs.RunMail.{gathered_mail, mail_parts, stop_goes}
use Rattle.sr_world_prefix.proofs.Steps.{IsRunStep}
use Rattle.sr_world_prefix.proofs.Taking.{ops_of}
use Rattle.sr_world_prefix.proofs.Walking.{Walk, WentOn, received_walked, partner_pass_walked}
use Rattle.sr_world_runs.proofs.Windows.{IsKnownPair, LeftOf, can_take, left_begun, left_taken}

module _ (messages : List Message) (publisher : Name) where
  abbrev pub Known : Happening → Type 0
  Known step = CameKnown messages publisher step

  -- ---- transactions

  abbrev IsLeft : Name → PassState → Type 0
  IsLeft whose s = (s.left ≡ []) ⊎ LeftOf messages publisher whose s.received s.left

  -- acts add steps, and what is left is of a whole window
  record ActsCan (es : List Recorded) (whose : Name) (first : PassState) (acts : List ReceiveAct) : Type 0 where
    steps : Steps (CanStep messages publisher) es (entries_of whose acts)
    left : IsLeft whose (stand_of first acts)

  none_left : (s : PassState) (t : Transaction) (rest : List Transaction) → s.left ≡ t ∷ rest → s.left ≡ [] → ⊥
  none_left s t rest some none =
      let no : [] ≡ t ∷ rest = sym none ∙ some in
      absurd cc

  left_of : (whose : Name) (s : PassState) (t : Transaction) (rest : List Transaction) → s.left ≡ t ∷ rest → IsLeft whose s → LeftOf messages publisher whose s.received (t ∷ rest)
  left_of whose s t rest some (inl none) = absurd (none_left s t rest some none)
  left_of whose s t rest some (inr left) = subst (λ (l : List Transaction). LeftOf messages publisher whose s.received l) some left

  took_can : (es : List Recorded) (whose : Name) (first : PassState) (earlier : List ReceiveAct) (t : Transaction) (dones : List Done) → ActsCan es whose first earlier
      → StandsAt publisher (es ++ entries_of whose earlier) whose (stand_of first earlier) → IsNextTaken whose (stand_of first earlier) t dones → ActsCan es whose first (took t dones ∷ earlier)
  took_can es whose first earlier t dones before stands next =
      let s : PassState = stand_of first earlier in
      let added : List Recorded = entries_of whose earlier in
      let there : List Recorded = es ++ added in
      let left = left_of whose s t next.rest next.left_are before.left in
      let received_is : s.received ≡ taken_end sees whose there = stands.received ∙ book_received sees whose there in
      let can = can_take messages publisher whose there t next.rest (ops_of dones)
      (subst (λ (n : ℕ). LeftOf messages publisher whose n (t ∷ next.rest)) received_is left) next.done.ops_are in
      record {
        steps = steps_more (CanStep messages publisher) es added (taken whose t.at dones ∷ []) before.steps (can, tt);
        left = inr (subst (λ (l : List Transaction). LeftOf messages publisher whose t.at.0 l) (sym (ap rest_of next.left_are))
            (left_taken messages publisher whose s.received t next.rest left));
      }

  acts_can : (es : List Recorded) (whose : Name) (message_files : List MessageFile) (first : PassState) (acts : List ReceiveAct) → StandsAt publisher es whose first → first.left ≡ []
      → AreActs publisher whose message_files first acts → AllByRecursion (IsSoOfAct (IsKnownPair messages)) acts → ActsCan es whose first acts
  acts_can es whose message_files first [] stands idle are known = record { steps = tt; left = inl idle }
  acts_can es whose message_files first (dropped w pairs piece found ∷ earlier) stands idle are known =
      let before = acts_can es whose message_files first earlier stands idle are.0 known.1 in
      record { steps = before.steps; left = before.left }
  acts_can es whose message_files first (torn w pairs ∷ earlier) stands idle are known =
      let before = acts_can es whose message_files first earlier stands idle are.0 known.1 in
      record { steps = before.steps; left = before.left }
  acts_can es whose message_files first (begun w pairs txs ∷ earlier) stands idle are known =
      let before = acts_can es whose message_files first earlier stands idle are.0 known.1 in
      record { steps = before.steps; left = inr (left_begun messages publisher whose message_files (stand_of first earlier) w pairs txs are.1.0 are.1.1 known.0) }
  acts_can es whose message_files first (took t dones ∷ earlier) stands idle are known =
      took_can es whose first earlier t dones (acts_can es whose message_files first earlier stands idle are.0 known.1)
      (acts_on publisher es whose message_files first earlier stands are.0).stands are.1

  acts_known : (whose : Name) (message_files : List MessageFile) (first : PassState) (acts : List ReceiveAct) → AreActs publisher whose message_files first acts → AllByRecursion Known (mail_after publisher acts [])
      → AllByRecursion (IsSoOfAct (IsKnownPair messages)) acts
  acts_known whose message_files first acts are mail =
      (so_of_acts Known (IsKnownPair messages) publisher whose (λ pair still known. known pair.1 still.0 refl still.1.to) message_files first acts [] are mail).0

  -- ---- steps of a run, which the messages allow

  abbrev pub IsReceived : List Recorded → Recorded → Type 0
  IsReceived es r = IsRunStep publisher es r × CanStep messages publisher es r

  -- message files are known, and confirm and ask for what lies within the history
  abbrev pub AreGood : List Recorded → Name → List MessageFile → Type 0
  AreGood es whose message_files = AllByRecursion (IsHere (end_of es)) (map filed_of message_files) × AreKnown messages publisher whose message_files

  abbrev walk : Walk publisher
  walk = record {
    Step = IsReceived;
    Holds = λ es. ⊤;
    Good = AreGood;
    Happened = Known;
    kept = λ es r holds step. tt;
    later = λ es more whose message_files good. (here_later es more (map filed_of message_files) good.0, good.1);
    noted = λ es whose message_files holds good.
        steps_both (IsRunStep publisher) (CanStep messages publisher) es (first_notes whose (books_of whose es) (map filed_of message_files))
        (first_steps publisher es whose (end_of es) (map filed_of message_files) (le_refl (end_of es)) good.0) (first_can messages publisher whose es message_files good.1);
    acted = λ es whose message_files first acts holds stands idle are mail.
        steps_both (IsRunStep publisher) (CanStep messages publisher) es (entries_of whose acts) (acts_on publisher es whose message_files first acts stands are).steps
        (acts_can es whose message_files first acts stands idle are (acts_known whose message_files first acts are mail)).steps;
    raised = λ es whose message_files upto holds good is.
        steps_both (IsRunStep publisher) (CanStep messages publisher) es (note_entries whose (raises upto (map filed_of message_files)))
        (raised_steps publisher es whose upto (map filed_of message_files)) (raised_can messages publisher whose es message_files upto good.1 is);
  }

  -- ---- runs

  -- what was known of all was known of what came later
  pub known_later : (before middle now : Seen) → AllKnown messages publisher before now → GoesOn before.happened middle.happened → GoesOn middle.happened now.happened
      → AllKnown messages publisher middle now
  known_later before middle now known first second =
      let all : AllSince Known before.happened now.happened = record { more = known.more; is = known.is; each = known.each } in
      record {
        more = second.more;
        is = second.is;
        each = (since_parts Known before.happened middle.happened now.happened first.more second.more all first.is second.is).0;
      }

  module _ (es : List Recorded) (options : Options) (own : (state_of publisher es).catalog.publisher ≡ publisher) where
    -- the message files that a run gathered
    gathered : (run : Run) (users : List Name) → AllByRecursion Known (received_mail publisher es options.purge run []) → IsReceiving publisher es run users
        → (whose : Name) → AreGood es whose (message_files_from whose (fetched_files_of run.gathered))
    gathered run users mail r whose =
        let g : Gathering = r.gathering in
        let here = letters_here (state_of publisher es).catalog (end_of es) whose g.fetched_files r.is.are in
        let known = message_files_known messages publisher (state_of publisher es).catalog (end_of es) g.fetched_files (listed publisher g.folder (Ok g.listing) ∷ []) own r.is.are
        (gathered_mail Known publisher es options.purge run users r mail) whose in
        subst (λ (o : Option Gathering). AreGood es whose (message_files_from whose (fetched_files_of o))) (sym r.gathered_is) (here, known)

    received_steps : (run : Run) → HasReceived publisher es run → AllByRecursion Known (received_mail publisher es options.purge run []) → Steps IsReceived es (taken_entries publisher es run)
    received_steps run some mail =
        received_walked publisher walk es options.purge run tt some (λ users r. gathered run users mail r) mail

    -- what a run received that came so far, whatever came after
    pub so_far_received : (run : Run) (base : ℕ) (db : View) (before seen now : Seen) → AllKnown messages publisher before now → CameSoFar base db before seen publisher es options run → HasReceived publisher es run
        → GoesOn (mail_in seen.happened) (mail_in now.happened) → Steps IsReceived es (taken_entries publisher es run)
    so_far_received run base db before seen now known came some goes =
        received_steps run some (mail_parts Known publisher es options run base db before seen now (mail_since Known before.happened now.happened known.more known.is known.each) came goes).mail

    -- what a whole run received
    pub run_received : (run : Run) (base : ℕ) (new : View) (before now : Seen) → AllKnown messages publisher before now → CameSoFar base new before now publisher es options run → HasReceived publisher es run
        → Steps IsReceived es (taken_entries publisher es run)
    run_received run base new before now known came some = so_far_received run base new before now now known came some (no_more (mail_in now.happened))

    -- and the entries of it alone are steps that the messages allow
    pub received_can : (run : Run) (base : ℕ) (new : View) (before now : Seen) → AllKnown messages publisher before now → CameSoFar base new before now publisher es options run → HasReceived publisher es run
        → Steps (CanStep messages publisher) es (taken_entries publisher es run)
    received_can run base new before now known came some =
        steps_second (IsRunStep publisher) (CanStep messages publisher) es (taken_entries publisher es run) (run_received run base new before now known came some)

    module _ (run : Run) (base : ℕ) (db new : View) (before seen now : Seen) (events : List Event) (lines : List Line) (fault : AgentFault) (whole : Type 0) (known : AllKnown messages publisher before now)
        (came : CameSoFar base db before seen publisher es options run) where
      -- what a run received until the step at which a fault ended it
      pub until_received : StopsAt publisher es options run db new seen now events lines fault whole → Steps IsReceived es (taken_entries publisher es run)
      until_received stops =
          so_far_received run base db before seen now known came (stop_received publisher es options run db new seen now events lines fault whole stops)
          (stop_goes publisher es options run db new seen now events lines fault whole stops)

      -- and in the partner's pass at which it ended, after its trace until then
      pub partner_pass_received : (whose : Name) (left : List Name) (upto : IsReceivingUpTo publisher es options run (whose ∷ left)) → IsTrue before.observable
          → PartnerPassStop publisher (after_run publisher es run) (fetched_files_of run.gathered) whose db new seen now events lines fault options.purge whole
          → Went before now publisher es (trace_of publisher es run ++ events) → WentOn publisher IsReceived before now es (trace_of publisher es run)
      partner_pass_received whose left upto told stop went =
          let trace : List Event = trace_of publisher es run in
          let goes = stop_goes publisher es options run db new seen now events lines fault whole (in_partner_pass whose left upto stop) in
          let parts = mail_parts Known publisher es options run base db before seen now (mail_since Known before.happened now.happened known.more known.is known.each) came goes in
          let good = walk.later es (commits trace) whose (message_files_from whose (fetched_files_of run.gathered)) (gathered run upto.done parts.mail upto.receiving whose) in
          partner_pass_walked publisher walk es trace (fetched_files_of run.gathered) whose db new before seen now events lines fault options.purge whole told (omega (arith, came.steady.disk)) came.went came.database tt good
          parts.since stop went
