-- Whole runs, from the moment at which nothing was opened yet: what each entry keeps that they add holds of every history that a crash leaves.
use Rattle.std.proofs.Common.{◌≡◌, ℕ, Bool, true, false, List, [], ◌∷◌, ◌++◌, map, Result, Ok, Err, sym, ap, subst, ◌∙◌, inl, inr, append_assoc}
use Rattle.std.specs.Prelude.{◌⊎◌, IsTrue}
use Rattle.sr_ast.specs.declared.stmt.Stmt.{Stmt}
use Rattle.sr_book.specs.Entries.{Name}
use Rattle.sr_database.proofs.Alike.{database_in}
use Rattle.sr_database.specs.Databases.{IsDatabase}
use Rattle.sr_database.specs.Views.{View}
use Rattle.sr_database_history.specs.Fitting.{Stored}
use Rattle.sr_database_history.specs.Recorded.{Recorded}
use Rattle.sr_database_meaning.specs.Restarts.{StandsAtEither}
use Rattle.sr_send_needs.specs.Needs.{least_need}
use Rattle.sr_session_script.specs.Acts.{entries_of}
use Rattle.sr_session.specs.Runs.{RanScript}
use Rattle.sr_session.specs.declared.fault.SessionFault.{SessionFault}
use Rattle.sr_site.specs.Causes.{Stays}
use Rattle.sr_site.specs.Files.{Files}
use Rattle.sr_site.specs.Happenings.{Happening, Throughout}
use Rattle.sr_site.specs.Images.{IsImage, IsSettled, MayLeave, RestsThroughout}
use Rattle.sr_site.specs.Seen.{Seen}
use Rattle.sr_site.specs.Streams.{Output}
use Rattle.sr_database_meaning.specs.Events.{Event, commit, commits}
use Rattle.sr_database_meaning.specs.Bases.{HasBase}
use Rattle.sr_database_meaning.specs.Standing.{StandsAs, StandsFor}
use Rattle.sr_database_meaning.specs.Traces.{AtEach, IsOnTrace, LacksLast, Went}
use Rattle.sr_database_meaning.proofs.Going.{told_base}
use Rattle.sr_database_files.proofs.Beside.{rests_both, rests_each}
use Rattle.sr_agent.specs.Agents.{Did, DidWhere, RanAgent, RestartedAndDid}
use Rattle.sr_agent.specs.Lines.{Line}
use Rattle.sr_agent.specs.declared.fault.AgentFault.{AgentFault}
use Rattle.sr_agent.specs.declared.options.Options.{Options}
use Rattle.sr_agent.proofs.Joints.{commits_of, commits-append}
use Rattle.sr_world_prefix.proofs.Along.{Along, along_prefix, along_last, steps_along}
use Rattle.sr_world_prefix.proofs.Kept.{stands_at}
use Rattle.sr_agent.proofs.Based.{one_base, settled_base, stands_based}
use Rattle.sr_agent.proofs.Images.{some_image}
use Rattle.sr_agent.proofs.Restarted.{stop_rests, begins_where}
use Rattle.sr_world_prefix.proofs.Opened.{rests_on, rests_still, was_image}
use Rattle.sr_world_prefix.proofs.RunSteps.{did_steps}
use Rattle.sr_world_prefix.proofs.Steps.{IsRunStep}

-- files stand for a history of this publisher, with the log in force at a base, of which this holds
pub record StandsHolding (publisher : Name) (holds : ℕ → List Recorded → Type 0) (image : Files) : Type 0 where
  pub es : List Recorded
  pub base : ℕ
  pub stands : StandsFor publisher es base image
  pub held : holds base es

-- `Stand` says the same of files
module _ (publisher : Name) (holds : ℕ → List Recorded → Type 0) (Stand : Files → Type 0) (into : (image : Files) → StandsHolding publisher holds image → Stand image)
    (out : (image : Files) → Stand image → StandsHolding publisher holds image) where
  -- ---- at each moment

  -- files stand for a history of which this holds, wherever the log begins
  record StandsSo (base : ℕ) (image : Files) : Type 0 where
    es : List Recorded
    stands : StandsAs publisher es image
    held : holds base es

  -- where the log of an image begins there
  into_at : (base : ℕ) (image : Files) → StandsSo base image × HasBase base image → Stand image
  into_at base image (s, has) = into image (record { es = s.es; base = base; stands = stands_at publisher s.es base image has s.stands; held = s.held })

  module _ (base : ℕ) (es : List Recorded) (trace : List Event) (along : Along (holds base) es (commits trace)) where
    prefix_holds : (begun left : List Event) → trace ≡ begun ++ left → holds base (es ++ commits begun)
    prefix_holds begun left prefix =
        let parts : Along (holds base) es (commits begun ++ commits left) = subst (λ (l : List Recorded). Along (holds base) es l) (ap commits prefix ∙ commits-append begun left) along in
        along_last (holds base) es (commits begun) (along_prefix (holds base) es (commits begun) (commits left) parts)

    standing : (image : Files) (begun left : List Event) → trace ≡ begun ++ left → StandsAs publisher (es ++ commits begun) image ⊎ LacksLast publisher es begun image → StandsSo base image
    standing image begun left prefix (inl stands) = record { es = es ++ commits begun; stands = stands; held = prefix_holds begun left prefix }
    standing image begun left prefix (inr lacks) =
        let others : trace ≡ lacks.others ++ (commit lacks.last ∷ left)
        = prefix ∙ ap (λ (l : List Event). l ++ left) lacks.is ∙ append_assoc lacks.others (commit lacks.last ∷ []) left in
        record { es = es ++ commits lacks.others; stands = lacks.stands; held = prefix_holds lacks.others (commit lacks.last ∷ left) others }

    module _ (first : Files) (before : List Happening) where
      at_moment : (since : List Happening) → IsOnTrace first publisher es before trace since → (image : Files) → MayLeave first (since ++ before) image → StandsSo base image
      at_moment since on image there = standing image on.begun on.left on.prefix (on.has.images image there)

      throughout : (more : List Happening) → AtEach (IsOnTrace first publisher es before trace) more → Throughout (λ moment. (image : Files) → MayLeave first moment image → StandsSo base image) before more
      throughout [] on = at_moment [] on
      throughout (step ∷ more) on = (at_moment (step ∷ more) on.0, throughout more on.1)

    went_so : (before now : Seen) → Went before now publisher es trace → RestsThroughout (StandsSo base) before now
    unfolding Went
    went_so before now went = record { more = went.more; is = went.is; moments = throughout before.first before.happened went.more went.moments }

    -- the log goes on to begin where it did
    went_holds : (before now : Seen) → IsSettled (HasBase base) before → Went before now publisher es trace → RestsThroughout Stand before now
    went_holds before now based went =
        rests_each (λ image. StandsSo base image × HasBase base image) Stand before now (into_at base)
        (rests_both (StandsSo base) (HasBase base) before now (went_so before now went) (told_base before now publisher es trace went base based))

  -- ---- whole runs

  -- what was opened is the database of a history that stood before
  record WasThere (view : View) (opened : Seen) : Type 0 where
    there : List Recorded
    own : IsDatabase view publisher there opened
    held : holds view.log.base there

  opened_holds : (owner : Name) (es : List Recorded) (view : View) (before opened : Seen) → opened.first ≡ before.first → RestsThroughout (IsImage before) before opened
      → IsDatabase view owner es opened → IsSettled Stand before → WasThere view opened
  opened_holds owner es view before opened same still database settled =
      let some = some_image opened.first opened.happened in
      let stood : StandsHolding publisher holds some.0 = out some.0 (settled some.0 (was_image before opened some.0 same still some.1)) in
      let own = database_in view owner publisher es stood.es stood.base some.0 opened database some.1 stood.stands in
      let same_log : stood.base ≡ view.log.base
      = one_base publisher stood.es view.log.base stood.base some.0 stood.stands (stands_based publisher stood.es view.log.base some.0 (own.settled some.0 some.1).stands) in
      record { there = stood.es; own = own; held = subst (λ (n : ℕ). holds n stood.es) same_log stood.held }

  pub untouched_holds : (before now : Seen) → RestsThroughout (IsImage before) before now → IsSettled Stand before → RestsThroughout Stand before now
  untouched_holds before now still settled = rests_still Stand before now settled still

  -- ---- the log begun anew

  either_holds : (es : List Recorded) (base keep : ℕ) → holds base es → holds keep es → (image : Files) → StandsAtEither publisher es base keep image → Stand image
  either_holds es base keep one other image (inl stands) = into image (record { es = es; base = base; stands = stands; held = one })
  either_holds es base keep one other image (inr stands) = into image (record { es = es; base = keep; stands = stands; held = other })

  either_rests : (es : List Recorded) (base keep : ℕ) (before now : Seen) → holds base es → holds keep es → RestsThroughout (StandsAtEither publisher es base keep) before now → RestsThroughout Stand before now
  either_rests es base keep before now one other rests = rests_each (StandsAtEither publisher es base keep) Stand before now (either_holds es base keep one other) rests

  -- of the agent, on a database that was opened, where it holds with each step of it, and of a log that begins where the least need lies
  module _ (kept : (base : ℕ) (es : List Recorded) (r : Recorded) → holds base es → IsRunStep publisher es r → holds base (es ++ r ∷ []))
      (moves : (base : ℕ) (es : List Recorded) → Stored publisher es → holds base es → holds (least_need publisher es base) es) where
    did_holds : (es : List Recorded) (options : Options) (view new : View) (opened now : Seen) (written written' : Output) (lines : List Line) (result : Result ℕ AgentFault) → IsTrue opened.observable
        → IsDatabase view publisher es opened → holds view.log.base es → Did view.log.base new opened now written written' publisher es options lines result → RestsThroughout Stand opened now
    did_holds es options view new opened now written written' lines result told own held ran =
        let did = did_steps publisher es options view.log.base new opened now written written' lines result told ran in
        let along : Along (holds view.log.base) es (commits did.trace) = steps_along (IsRunStep publisher) (holds view.log.base) (kept view.log.base) es (commits did.trace) held did.steps in
        went_holds view.log.base es did.trace along opened now (settled_base view publisher es opened own) did.went

    anew_holds : (es : List Recorded) (options : Options) (view new : View) (opened now : Seen) (written written' : Output) (lines : List Line) (result : Result ℕ AgentFault) → IsTrue opened.observable
        → IsDatabase view publisher es opened → holds view.log.base es → RestartedAndDid view new opened now written written' publisher es options lines result → RestsThroughout Stand opened now
    anew_holds es options view new opened now written written' lines result told own held ran =
        let keep : ℕ = least_need publisher es view.log.base in
        let moved : holds keep es = moves view.log.base es own.is.stored held in
        let middle_told : IsTrue ran.middle.observable = subst (λ (b : Bool). IsTrue b) (sym ran.restart.stays.observable) told in
        rests_on Stand opened ran.middle now ran.restart.stays.first (either_rests es view.log.base keep opened ran.middle held moved ran.restart.moments)
        (did_holds es options ran.between new ran.middle now ran.said written' ran.rest result middle_told ran.restart.database (subst (λ (n : ℕ). holds n es) (sym (begins_where ran.restart.value)) moved) ran.did)

    all_holds : (b : Bool) (es : List Recorded) (options : Options) (view new : View) (opened now : Seen) (written written' : Output) (lines : List Line) (result : Result ℕ AgentFault) → IsTrue opened.observable
        → IsDatabase view publisher es opened → holds view.log.base es → DidWhere b view new opened now written written' publisher es options lines result → RestsThroughout Stand opened now
    all_holds false es options view new opened now written written' lines result told own held ran = did_holds es options view new opened now written written' lines result told own held ran
    all_holds true es options view new opened now written written' lines (Ok count) told own held ran = anew_holds es options view new opened now written written' lines (Ok count) told own held ran
    all_holds true es options view new opened now written written' lines (Err fault) told own held (inl ran) = anew_holds es options view new opened now written written' lines (Err fault) told own held ran
    all_holds true es options view new opened now written written' lines (Err fault) told own held (inr stop) =
        either_rests es view.log.base (least_need publisher es view.log.base) opened now held (moves view.log.base es own.is.stored held) (stop_rests publisher es view new opened now lines fault own stop)

    pub agent_holds : (owner : Name) (es : List Recorded) (options : Options) (view new : View) (before opened now : Seen) (written written' : Output) (result : Result ℕ AgentFault)
        → IsTrue before.observable → Stays before now → RestsThroughout (IsImage before) before opened → IsDatabase view owner es opened
        → RanAgent view new opened now written written' options result → IsSettled Stand before → RestsThroughout Stand before now
    agent_holds owner es options view new before opened now written written' result told stays still database ran settled =
        let same : opened.first ≡ before.first = sym ran.ended.site.first ∙ stays.first in
        let still_told : IsTrue opened.observable = subst (λ (b : Bool). IsTrue b) (sym (sym ran.ended.site.observable ∙ stays.observable)) told in
        let was = opened_holds owner es view before opened same still database settled in
        rests_on Stand before opened now same (rests_still Stand before opened settled still)
        (all_holds options.restart was.there options view new opened now written written' ran.lines result still_told was.own was.held (ran.did still_told publisher was.there was.own))

  -- of a script on one, where it holds with each of its entries
  pub script_holds : (owner : Name) (es : List Recorded) (view new : View) (before opened now : Seen) (written written' : Output) (statements : List Stmt) (result : Result ℕ SessionFault)
      → IsTrue before.observable → Stays before now → RestsThroughout (IsImage before) before opened → IsDatabase view owner es opened
      → (ran : RanScript view new opened now written written' statements result) → ((there : List Recorded) → IsDatabase view publisher there opened → holds view.log.base there → Along (holds view.log.base) there (entries_of ran.acts ++ ran.broken))
      → IsSettled Stand before → RestsThroughout Stand before now
  script_holds owner es view new before opened now written written' statements result told stays still database ran adds settled =
      let same : opened.first ≡ before.first = sym ran.reached.stays.first ∙ stays.first in
      let still_told : IsTrue opened.observable = subst (λ (b : Bool). IsTrue b) (sym (sym ran.reached.stays.observable ∙ stays.observable)) told in
      let was = opened_holds owner es view before opened same still database settled in
      let entries : List Recorded = entries_of ran.acts ++ ran.broken in
      let along : Along (holds view.log.base) was.there (commits (map commit entries)) = subst (λ (rs : List Recorded). Along (holds view.log.base) was.there rs) (sym (commits_of entries)) (adds was.there was.own was.held) in
      rests_on Stand before opened now same (rests_still Stand before opened settled still) (went_holds view.log.base was.there (map commit entries) along opened now (settled_base view publisher was.there opened was.own) (ran.reached.went still_told publisher was.there was.own))
