-- Whole runs, from the moment at which nothing was opened yet: what they put, and the histories that stand behind it.
use Rattle.std.proofs.Common.{◌≡◌, ℕ, Bool, true, false, List, [], ◌++◌, map, Result, Ok, Err, inl, inr, sym, subst}
use Rattle.std.specs.Prelude.{IsTrue}
use Rattle.sr_ast.specs.declared.stmt.Stmt.{Stmt}
use Rattle.sr_book.specs.Entries.{Name}
use Rattle.sr_database.proofs.Alike.{database_in}
use Rattle.sr_database.specs.Databases.{IsDatabase}
use Rattle.sr_database.specs.Views.{View}
use Rattle.sr_database_files.proofs.Beside.{rests_each}
use Rattle.sr_database_history.specs.Fitting.{Stored}
use Rattle.sr_database_history.specs.Recorded.{Recorded}
use Rattle.sr_database_meaning.specs.Restarts.{StandsAtEither}
use Rattle.sr_msgform.specs.declared.message.Message.{Message}
use Rattle.sr_send_needs.specs.Needs.{least_need}
use Rattle.sr_world_model.specs.Truth.{IsTrueOf}
use Rattle.sr_session_script.specs.Acts.{entries_of}
use Rattle.sr_session.specs.Runs.{RanScript}
use Rattle.sr_session.specs.declared.fault.SessionFault.{SessionFault}
use Rattle.sr_site.specs.Causes.{DiskStays, Stays}
use Rattle.sr_site.specs.Files.{Files}
use Rattle.sr_site.specs.Images.{IsImage, IsSettled, RestsThroughout}
use Rattle.sr_site.specs.Seen.{Seen}
use Rattle.sr_site.specs.Streams.{Output}
use Rattle.sr_database_meaning.specs.Events.{commit}
use Rattle.sr_database_meaning.specs.Standing.{StandsFor}
use Rattle.sr_agent.specs.Agents.{Did, DidWhere, RanAgent, RestartedAndDid}
use Rattle.sr_agent.specs.Lines.{Line}
use Rattle.sr_agent.specs.declared.fault.AgentFault.{AgentFault}
use Rattle.sr_agent.specs.declared.options.Options.{Options}
use Rattle.sr_world.specs.Real.{layers}
use Rattle.sr_world_prefix.specs.Good.{IsGoodHistory, StandGood}
use Rattle.sr_world_prefix.specs.Puts.{BacksPuts, PutsTrue, StandBehind, StandForOne}
use Rattle.sr_world_prefix.specs.Truths.{IsTrueInPart}
use Rattle.sr_world_prefix.proofs.Backed.{run_backs, went_back}
use Rattle.sr_world_prefix.proofs.Behind.{rested_behind, rested_opened, silent_behind, still_opened}
use Rattle.sr_agent.proofs.Based.{one_base, stands_based}
use Rattle.sr_agent.proofs.Images.{some_image}
use Rattle.sr_agent.proofs.Restarted.{stop_rests, stop_stays, begins_where}
use Rattle.sr_world_prefix.proofs.Kept.{IsKeeping, KeepsAny, KeepsSent, any_moved, any_sent, as_it_stands, keeping_moved, keeping_sent, stands_keeping, stands_within}
use Rattle.sr_world_prefix.proofs.Opened.{was_image}
use Rattle.sr_world_prefix.proofs.Putting.{backs_commits, part_truth}
use Rattle.sr_world_prefix.proofs.TruePuts.{AreInOrder, IsFine, whole_truth}

-- every book of a history is in order, and the log keeps what is needed
record IsFineThere (publisher : Name) (base : ℕ) (es : List Recorded) : Type 0 where
  books : AreInOrder es
  keeping : IsKeeping publisher base es

fine_there : (publisher : Name) (base : ℕ) (es : List Recorded) → IsFineThere publisher base es → IsFine publisher base es
fine_there publisher base es fine = record { books = fine.books; keeps = keeping_sent publisher base es fine.keeping }

fine_moved : (publisher : Name) (base : ℕ) (es : List Recorded) → Stored publisher es → IsFineThere publisher base es → IsFineThere publisher (least_need publisher es base) es
fine_moved publisher base es stored fine = record { books = fine.books; keeping = keeping_moved publisher base es stored fine.keeping }

-- ---- the history that was opened

module _ (publisher : Name) (before : Seen) (opened : Seen) (same : opened.first ≡ before.first) (still : RestsThroughout (IsImage before) before opened) (owner : Name) (es : List Recorded) (view : View)
    (database : IsDatabase view owner es opened) where
  -- what was opened is the database of a history for which files stand that a crash could have left before, with the log at this base
  record WasOne (Of : ℕ → List Recorded → Type 0) : Type 0 where
    there : List Recorded
    own : IsDatabase view publisher there opened
    held : Of view.log.base there

  was_one : (Of : ℕ → List Recorded → Type 0) (files : Files) (rs : List Recorded) (base : ℕ) → IsImage opened files → StandsFor publisher rs base files → Of base rs → WasOne Of
  was_one Of files rs base there stands held =
      let own = database_in view owner publisher es rs base files opened database there stands in
      let same_log : base ≡ view.log.base = one_base publisher rs view.log.base base files stands (stands_based publisher rs view.log.base files (own.settled files there).stands) in
      record { there = rs; own = own; held = subst (λ (n : ℕ). Of n rs) same_log held }

  good_one : IsSettled (StandGood publisher) before → WasOne (IsFineThere publisher)
  good_one settled =
      let some = some_image opened.first opened.happened in
      let stood : StandGood publisher some.0 = settled some.0 (was_image before opened some.0 same still some.1) in
      let keeping = stands_keeping publisher stood.es some.0 stood.stands stood.good.books in
      was_one (IsFineThere publisher) some.0 stood.es stood.stands.base some.1 stood.stands.stands (record { books = stood.good.books; keeping = keeping })

  any_one : IsSettled (StandForOne publisher) before → WasOne (KeepsAny publisher)
  any_one settled =
      let some = some_image opened.first opened.happened in
      let stood : StandForOne publisher some.0 = settled some.0 (was_image before opened some.0 same still some.1) in
      was_one (KeepsAny publisher) some.0 stood.es stood.base some.1 stood.stands (record { within = stands_within publisher stood.es stood.base some.0 stood.stands; needs = stood.needs })

-- with nothing put it stands so behind it
module _ (publisher : Name) (before : Seen) where
  good_nothing : IsSettled (StandGood publisher) before → IsSettled (StandBehind (IsTrueOf layers) publisher []) before
  good_nothing settled image there = let stood : StandGood publisher image = settled image there in record { es = stood.es; stands = as_it_stands publisher stood.es image stood.stands; are = tt }

  any_nothing : IsSettled (StandForOne publisher) before → IsSettled (StandBehind IsTrueInPart publisher []) before
  any_nothing settled image there = let stood : StandForOne publisher image = settled image there in record { es = stood.es; stands = record { base = stood.base; stands = stood.stands }; are = tt }

-- ---- the log begun anew, or not

module _ (publisher : Name) (Holds : Name → List Recorded → Message → Type 0) (Of : ℕ → List Recorded → Type 0)
    (backs : (base : ℕ) (es : List Recorded) (options : Options) (new : View) (before now : Seen) (written written' : Output) (lines : List Line) (result : Result ℕ AgentFault) → Of base es
    → Did base new before now written written' publisher es options lines result → BacksPuts Holds publisher before now)
    (moves : (base : ℕ) (es : List Recorded) → Stored publisher es → Of base es → Of (least_need publisher es base) es) where
  nothing_put : (es : List Recorded) (base keep : ℕ) (image : Files) → StandsAtEither publisher es base keep image → StandBehind Holds publisher [] image
  nothing_put es base keep image (inl stands) = record { es = es; stands = record { base = base; stands = stands }; are = tt }
  nothing_put es base keep image (inr stands) = record { es = es; stands = record { base = keep; stands = stands }; are = tt }

  nothing_rests : (es : List Recorded) (base keep : ℕ) (before now : Seen) → RestsThroughout (StandsAtEither publisher es base keep) before now → RestsThroughout (StandBehind Holds publisher []) before now
  nothing_rests es base keep before now rests = rests_each (StandsAtEither publisher es base keep) (StandBehind Holds publisher []) before now (nothing_put es base keep) rests

  module _ (es : List Recorded) (options : Options) (view new : View) (opened now : Seen) (written written' : Output) (lines : List Line) (own : IsDatabase view publisher es opened) (held : Of view.log.base es) where
    settled_there : IsSettled (StandBehind Holds publisher []) opened
    settled_there image there = nothing_put es view.log.base view.log.base image (inl (own.settled image there).stands)

    anew_backs : (result : Result ℕ AgentFault) → RestartedAndDid view new opened now written written' publisher es options lines result → BacksPuts Holds publisher opened now
    anew_backs result ran =
        rested_opened (StandBehind Holds publisher) opened settled_there ran.middle now ran.restart.stays.first
        (nothing_rests es view.log.base (least_need publisher es view.log.base) opened ran.middle ran.restart.moments) ran.restart.stays
        (backs ran.between.log.base es options new ran.middle now ran.said written' ran.rest result
        (subst (λ (n : ℕ). Of n es) (sym (begins_where ran.restart.value)) (moves view.log.base es own.is.stored held)) ran.did)

    all_back : (b : Bool) (result : Result ℕ AgentFault) → DidWhere b view new opened now written written' publisher es options lines result → BacksPuts Holds publisher opened now
    all_back false result ran = backs view.log.base es options new opened now written written' lines result held ran
    all_back true (Ok count) ran = anew_backs (Ok count) ran
    all_back true (Err fault) (inl ran) = anew_backs (Err fault) ran
    all_back true (Err fault) (inr stop) =
        rested_behind (StandBehind Holds publisher) opened settled_there now
        (nothing_rests es view.log.base (least_need publisher es view.log.base) opened now (stop_rests publisher es view new opened now lines fault own stop))
        (stop_stays publisher es view new opened now lines fault stop)

fine_backs : (publisher : Name) (base : ℕ) (es : List Recorded) (options : Options) (new : View) (before now : Seen) (written written' : Output) (lines : List Line) (result : Result ℕ AgentFault)
    → IsFineThere publisher base es → Did base new before now written written' publisher es options lines result → BacksPuts (IsTrueOf layers) publisher before now
fine_backs publisher base es options new before now written written' lines result fine did =
    run_backs base publisher (IsTrueOf layers) (IsFine publisher base) (whole_truth base publisher) es (fine_there publisher base es fine) options new before now written written' lines result did

any_backs : (publisher : Name) (base : ℕ) (es : List Recorded) (options : Options) (new : View) (before now : Seen) (written written' : Output) (lines : List Line) (result : Result ℕ AgentFault)
    → KeepsAny publisher base es → Did base new before now written written' publisher es options lines result → BacksPuts IsTrueInPart publisher before now
any_backs publisher base es options new before now written written' lines result any did =
    run_backs base publisher IsTrueInPart (KeepsSent publisher base) (part_truth base publisher) es (any_sent publisher base es any) options new before now written written' lines result did

-- ---- whole runs

pub untouched_true : (publisher : Name) (before now : Seen) → RestsThroughout (IsImage before) before now → DiskStays before now → PutsTrue publisher before now
untouched_true publisher before now still stays = record {
  whole = λ settled. silent_behind (StandBehind (IsTrueOf layers) publisher) before (good_nothing publisher before settled) now still stays;
  in_part = λ settled. silent_behind (StandBehind IsTrueInPart publisher) before (any_nothing publisher before settled) now still stays;
}

-- of the agent, on a database that was opened
pub agent_true : (publisher owner : Name) (es : List Recorded) (options : Options) (view new : View) (before opened now : Seen) (written written' : Output) (result : Result ℕ AgentFault)
    → IsTrue before.observable → Stays before now → RestsThroughout (IsImage before) before opened → DiskStays before opened → IsDatabase view owner es opened
    → RanAgent view new opened now written written' options result → PutsTrue publisher before now
agent_true publisher owner es options view new before opened now written written' result told stays still quiet database ran =
    let still_told : IsTrue opened.observable = subst (λ (b : Bool). IsTrue b) (sym quiet.observable) told in
    record {
      whole = λ settled.
          let was = good_one publisher before opened quiet.first still owner es view database settled in
          still_opened (StandBehind (IsTrueOf layers) publisher) before (good_nothing publisher before settled) opened now quiet.first still quiet
          (all_back publisher (IsTrueOf layers) (IsFineThere publisher) (fine_backs publisher) (fine_moved publisher) was.there options view new opened now written written' ran.lines was.own was.held options.restart result
          (ran.did still_told publisher was.there was.own));
      in_part = λ settled.
          let was = any_one publisher before opened quiet.first still owner es view database settled in
          still_opened (StandBehind IsTrueInPart publisher) before (any_nothing publisher before settled) opened now quiet.first still quiet
          (all_back publisher IsTrueInPart (KeepsAny publisher) (any_backs publisher) (any_moved publisher) was.there options view new opened now written written' ran.lines was.own was.held options.restart result
          (ran.did still_told publisher was.there was.own));
    }

-- of a script on one
pub script_true : (publisher owner : Name) (es : List Recorded) (view new : View) (before opened now : Seen) (written written' : Output) (statements : List Stmt) (result : Result ℕ SessionFault)
    → IsTrue before.observable → Stays before now → RestsThroughout (IsImage before) before opened → DiskStays before opened → IsDatabase view owner es opened
    → RanScript view new opened now written written' statements result → PutsTrue publisher before now
script_true publisher owner es view new before opened now written written' statements result told stays still quiet database ran =
    let still_told : IsTrue opened.observable = subst (λ (b : Bool). IsTrue b) (sym quiet.observable) told in
    let entries : List Recorded = entries_of ran.acts ++ ran.broken in
    record {
      whole = λ settled.
          let was = good_one publisher before opened quiet.first still owner es view database settled in
          still_opened (StandBehind (IsTrueOf layers) publisher) before (good_nothing publisher before settled) opened now quiet.first still quiet
          (went_back view.log.base publisher (IsTrueOf layers) (IsFine publisher view.log.base) (whole_truth view.log.base publisher) was.there (fine_there publisher view.log.base was.there was.held) opened now (map commit entries) (backs_commits (IsTrueOf layers publisher) was.there entries)
          (ran.reached.went still_told publisher was.there was.own));
      in_part = λ settled.
          let was = any_one publisher before opened quiet.first still owner es view database settled in
          still_opened (StandBehind IsTrueInPart publisher) before (any_nothing publisher before settled) opened now quiet.first still quiet
          (went_back view.log.base publisher IsTrueInPart (KeepsSent publisher view.log.base) (part_truth view.log.base publisher) was.there (any_sent publisher view.log.base was.there was.held) opened now (map commit entries) (backs_commits (IsTrueInPart publisher) was.there entries) (ran.reached.went still_told publisher was.there was.own));
    }

-- ---- a run of the agent on a history that is there

pub good_run_backs : (publisher : Name) (es : List Recorded) (options : Options) (base : ℕ) (new : View) (before now : Seen) (written written' : Output) (lines : List Line) (result : Result ℕ AgentFault)
    → KeepsSent publisher base es → IsGoodHistory publisher es → Did base new before now written written' publisher es options lines result → BacksPuts (IsTrueOf layers) publisher before now
good_run_backs publisher es options base new before now written written' lines result keeps good did =
    run_backs base publisher (IsTrueOf layers) (IsFine publisher base) (whole_truth base publisher) es (record { books = good.books; keeps = keeps }) options new before now written written' lines result did

pub any_run_backs : (publisher : Name) (es : List Recorded) (options : Options) (base : ℕ) (new : View) (before now : Seen) (written written' : Output) (lines : List Line) (result : Result ℕ AgentFault)
    → KeepsSent publisher base es → Did base new before now written written' publisher es options lines result → BacksPuts IsTrueInPart publisher before now
any_run_backs publisher es options base new before now written written' lines result keeps did =
    run_backs base publisher IsTrueInPart (KeepsSent publisher base) (part_truth base publisher) es keeps options new before now written written' lines result did
