-- Whole runs, from the moment at which nothing was opened yet: they make steps of a world alone.
use Rattle.std.proofs.Common.{◌≡◌, ℕ, Bool, List, [], ◌∷◌, ◌++◌, map, Result, inl, inr, refl, sym, subst, ◌∙◌, append-nil}
use Rattle.std.specs.Prelude.{◌⊎◌, IsTrue}
use Rattle.sr_ast.specs.declared.stmt.Stmt.{Stmt}
use Rattle.sr_book.specs.Entries.{Name}
use Rattle.sr_database.proofs.Alike.{database_in}
use Rattle.sr_database.specs.Databases.{IsDatabase}
use Rattle.sr_database.specs.Views.{View}
use Rattle.sr_database_files.proofs.Beside.{rests_each}
use Rattle.sr_database_history.specs.Fitting.{Stored}
use Rattle.sr_database_history.specs.Folds.{fresh}
use Rattle.sr_database_history.specs.Recorded.{Recorded}
use Rattle.sr_database_meaning.specs.Restarts.{StandsAtEither}
use Rattle.sr_send_needs.specs.Needs.{least_need}
use Rattle.sr_world_model.specs.Steps.{DatabaseStep, append, history_after_all}
use Rattle.sr_world_model.specs.Worlds.{World, IsNamed, history}
use Rattle.sr_session_script.specs.Acts.{ScriptAct, entries_of}
use Rattle.sr_session.specs.Reached.{Reached}
use Rattle.sr_session.specs.Runs.{RanScript}
use Rattle.sr_session.specs.declared.fault.SessionFault.{SessionFault}
use Rattle.sr_site.specs.Causes.{DiskStays, Stays}
use Rattle.sr_site.specs.Files.{Files}
use Rattle.sr_site.specs.Happenings.{Happening}
use Rattle.sr_site.specs.Images.{IsImage, IsSettled, RestsThroughout}
use Rattle.sr_site.specs.Seen.{Seen}
use Rattle.sr_site.specs.Streams.{Output}
use Rattle.sr_database_meaning.proofs.Resting.{rests_end}
use Rattle.sr_database_meaning.specs.Bases.{HasBase}
use Rattle.sr_database_meaning.specs.Events.{Event, commit, commits}
use Rattle.sr_database_meaning.specs.Standing.{StandsAs}
use Rattle.sr_database_meaning.specs.Traces.{Went}
use Rattle.sr_site.specs.Inner.Growing.{disk_stays_on}
use Rattle.sr_agent.proofs.Joints.{commits_of, settled_as}
use Rattle.sr_world.specs.Real.{IsGoodWorld, MayDo}
use Rattle.sr_world_prefix.specs.Good.{AreSaid}
use Rattle.sr_world_prefix.specs.Kept.{StandsKeeping}
use Rattle.sr_world_runs.specs.Worlds.{IsAhead, IsFaithfulThroughout, MakesSteps, PutsComeLast, Rests, on_one, on_two, put_in}
use Rattle.sr_world_runs.proofs.NextRuns.{faithful}
use Rattle.sr_world_prefix.proofs.Along.{Along, Steps, steps_along}
use Rattle.sr_world_runs.proofs.DatabaseSteps.{CanStep, HasDatabaseSteps, commits_database_steps, database_steps_history, local_step}
use Rattle.sr_world_prefix.proofs.Goodness.{said_more}
use Rattle.sr_world_prefix.proofs.Backed.{puts_commits}
use Rattle.sr_agent.proofs.Based.{one_base, settled_base, stands_based}
use Rattle.sr_agent.proofs.Images.{some_image}
use Rattle.sr_world_prefix.proofs.Kept.{IsKeeping, keeping_moved, keeping_own, stands_keeping}
use Rattle.sr_world_prefix.proofs.Opened.{was_image}
use Rattle.sr_agent.proofs.Returned.{SettlesAs, settles_before}
use Rattle.sr_world_runs.proofs.Ordered.{IsOrdered, reached_ordered}
use Rattle.sr_world_runs.proofs.PutsLast.{quiet_order, unput_since, went_order}
use Rattle.sr_world_runs.proofs.Reached.{history_more, lawful_says_so}
use Rattle.sr_world_runs.proofs.Resting.{opened_rests, silent_rests, stretch_rests, went_behind_stretch, went_rests}
use Rattle.sr_world_prefix.proofs.Said.{script_says_so}
use Rattle.sr_world_prefix.proofs.Steps.{IsOwnStep}
use Rattle.sr_world_prefix.proofs.TruePuts.{AreInOrder}

module _ (w : World Recorded) (owner : Name) where
  abbrev first : List Recorded
  first = history w owner

  abbrev Rested : Seen → Type 0
  Rested seen = Rests w.messages owner first (IsImage seen)

  pub untouched_steps : (before now : Seen) → RestsThroughout (IsImage before) before now → DiskStays before now → MakesSteps w owner before now
  untouched_steps before now still stays good named rested known =
      faithful w owner before good named [] [] now (silent_rests w.messages owner first before rested now still stays)
      (quiet_order before now stays) (inl (still, stays.mail))

  -- ---- the history that was opened

  -- what was opened is the database of one to which the world's history leads, with nothing put
  record WasReached (view : View) (opened : Seen) : Type 0 where
    database_steps : List (DatabaseStep Recorded)
    ahead : IsAhead database_steps
    may : MayDo w.messages owner first database_steps
    none : put_in database_steps ≡ []
    own : IsDatabase view owner (history_after_all first database_steps) opened
    keeping : AreInOrder (history_after_all first database_steps) → IsKeeping owner view.log.base (history_after_all first database_steps)

  module _ (publisher : Name) (es : List Recorded) (view : View) (opened : Seen) (database : IsDatabase view publisher es opened) (files : Files) (left : IsImage opened files) where
    reached_by : (database_steps : List (DatabaseStep Recorded)) → IsAhead database_steps → MayDo w.messages owner first database_steps → put_in database_steps ≡ []
        → StandsKeeping owner (history_after_all first database_steps) files → WasReached view opened
    reached_by database_steps ahead may none stands =
        let there : List Recorded = history_after_all first database_steps in
        let own = database_in view publisher owner es there stands.base files opened database left stands.stands in
        let same_log : stands.base ≡ view.log.base
        = one_base owner there view.log.base stands.base files stands.stands (stands_based owner there view.log.base files (own.settled files left).stands) in
        record {
          database_steps = database_steps;
          ahead = ahead;
          may = may;
          none = none;
          own = own;
          keeping = λ books. subst (λ (n : ℕ). IsKeeping owner n there) same_log (stands_keeping owner there files stands books);
        }

    reached_in : (seen : Seen) → Rested seen → IsImage seen files → WasReached view opened
    reached_in seen (on_one all) there = reached_by [] tt tt refl (all files there)
    reached_in seen (on_two r each) there = elim (each files there) [
      | inl short ↦ reached_by [] tt tt refl short
      | inr long ↦ reached_by (append r ∷ []) tt long.may refl long.stands
    ]

  opened_reached : (publisher : Name) (es : List Recorded) (view : View) (before opened : Seen) → opened.first ≡ before.first → RestsThroughout (IsImage before) before opened
      → IsDatabase view publisher es opened → Rested before → WasReached view opened
  opened_reached publisher es view before opened same still database rested =
      let some = some_image opened.first opened.happened in
      reached_in publisher es view opened database some.0 some.1 before rested (was_image before opened some.0 same still some.1)

  -- a trace on it of steps that are allowed, each entry of which says what is so; the log begins at a base, and keeps what partners need
  pub record TraceOn (base : ℕ) (es : List Recorded) (opened now : Seen) : Type 0 where
    pub trace : List Event
    pub went : Went opened now owner es trace
    pub has : HasDatabaseSteps w.messages owner es trace
    pub said : AreSaid (fresh owner) es → Along (AreSaid (fresh owner)) es (commits trace)
    pub kept : IsKeeping owner base es → Along (IsKeeping owner base) es (commits trace)
    -- its puts come last, and where no call of the disk failed it is settled after it
    pub last : (more : List Happening) → now.happened ≡ more ++ opened.happened → PutsComeLast more
    pub settles : SettlesAs owner (es ++ commits trace) opened now

  pub trace_steps : (publisher : Name) (es : List Recorded) (view : View) (before opened now : Seen) → opened.first ≡ before.first → RestsThroughout (IsImage before) before opened → DiskStays before opened
      → IsDatabase view publisher es opened → IsGoodWorld w → IsNamed w owner → Rested before
      → ((there : List Recorded) → IsDatabase view owner there opened → IsOrdered owner there → IsKeeping owner view.log.base there → TraceOn view.log.base there opened now) → IsFaithfulThroughout w owner before now
  trace_steps publisher es view before opened now same still quiet database good named settled goes =
      let was = opened_reached publisher es view before opened same still database settled in
      let there : List Recorded = history_after_all first was.database_steps in
      let ordered : IsOrdered owner there = reached_ordered w w.messages owner first was.database_steps good named refl (λ m has. has) was.may in
      let base : ℕ = view.log.base in
      let keeping : IsKeeping owner base there = was.keeping ordered.books in
      let on = goes there was.own ordered keeping in
      let later = went_rests w.messages owner first there was.database_steps was.may was.none refl on.trace on.has.database_steps on.has.are (on.said (lawful_says_so owner there ordered.lawful))
      base (on.kept keeping) was.ahead opened now (settled_base view owner there opened was.own) on.went in
      let history_is : history_after_all first (was.database_steps ++ on.has.database_steps) ≡ there ++ commits on.trace
      = history_more first was.database_steps on.has.database_steps ∙ database_steps_history w.messages owner there on.trace on.has.database_steps on.has.are in
      faithful w owner before good named was.database_steps on.has.database_steps now
      (opened_rests w.messages owner first before settled was.database_steps on.has.database_steps opened now same still quiet later)
      (went_order before opened now quiet owner there on.trace on.went on.last)
      (inr (λ none. subst (λ (rs : List Recorded). IsSettled (StandsAs owner rs) now) (sym history_is) (settles_before owner (there ++ commits on.trace) before opened now quiet.later on.settles none)))

  -- ---- behind a log that was begun anew

  module _ (base : ℕ) (es : List Recorded) (stored : Stored owner es) (keeping : IsKeeping owner base es) where
    abbrev keep : ℕ
    keep = least_need owner es base

    moved : IsKeeping owner keep es
    moved = keeping_moved owner base es stored keeping

    either_keeps : (image : Files) → StandsAtEither owner es base keep image → StandsKeeping owner es image
    either_keeps image (inl stands) = record { base = base; stands = stands; needs = keeping.needs }
    either_keeps image (inr stands) = record { base = keep; stands = stands; needs = moved.needs }

    keeping_throughout : (opened now : Seen) → RestsThroughout (StandsAtEither owner es base keep) opened now → RestsThroughout (StandsKeeping owner es) opened now
    keeping_throughout opened now rests = rests_each (StandsAtEither owner es base keep) (StandsKeeping owner es) opened now either_keeps rests

  -- a trace on a history whose log was begun anew before it
  pub record RestartOn (base : ℕ) (es : List Recorded) (opened now : Seen) : Type 0 where
    pub middle : Seen
    pub rests : RestsThroughout (StandsAtEither owner es base (least_need owner es base)) opened middle
    pub stays : DiskStays opened middle
    pub based : IsSettled (HasBase (least_need owner es base)) middle
    pub on : TraceOn (least_need owner es base) es middle now

  -- it was to be begun anew, and a fault ended the run
  pub record StopOn (base : ℕ) (es : List Recorded) (opened now : Seen) : Type 0 where
    pub rests : RestsThroughout (StandsAtEither owner es base (least_need owner es base)) opened now
    pub stays : DiskStays opened now

  module _ (publisher : Name) (es : List Recorded) (view : View) (before opened now : Seen) (same : opened.first ≡ before.first) (still : RestsThroughout (IsImage before) before opened) (quiet : DiskStays before opened)
      (database : IsDatabase view publisher es opened) (good : IsGoodWorld w) (named : IsNamed w owner) (settled : Rested before) where
    restarted_from : (was : WasReached view opened) → (ordered : IsOrdered owner (history_after_all first was.database_steps)) → RestartOn view.log.base (history_after_all first was.database_steps) opened now
        → IsFaithfulThroughout w owner before now
    restarted_from was ordered restart =
        let there : List Recorded = history_after_all first was.database_steps in
        let base : ℕ = view.log.base in
        let keeping : IsKeeping owner base there = was.keeping ordered.books in
        let on = restart.on in
        let later = went_behind_stretch w.messages owner first there was.database_steps was.may was.none refl on.trace on.has.database_steps on.has.are (on.said (lawful_says_so owner there ordered.lawful))
        (least_need owner there base) (on.kept (moved base there was.own.is.stored keeping)) was.ahead opened restart.middle now
        (keeping_throughout base there was.own.is.stored keeping opened restart.middle restart.rests) restart.stays restart.based on.went in
        let history_is : history_after_all first (was.database_steps ++ on.has.database_steps) ≡ there ++ commits on.trace
        = history_more first was.database_steps on.has.database_steps ∙ database_steps_history w.messages owner there on.trace on.has.database_steps on.has.are in
        let alone = disk_stays_on before opened restart.middle quiet restart.stays in
        faithful w owner before good named was.database_steps on.has.database_steps now
        (opened_rests w.messages owner first before settled was.database_steps on.has.database_steps opened now same still quiet later)
        (went_order before restart.middle now alone owner there on.trace on.went on.last)
        (inr (λ none. subst (λ (rs : List Recorded). IsSettled (StandsAs owner rs) now) (sym history_is) (settles_before owner (there ++ commits on.trace) before restart.middle now alone.later on.settles none)))

    as_keeping : (rs : List Recorded) (image : Files) → StandsKeeping owner rs image → StandsAs owner rs image
    as_keeping rs image stood = record { base = stood.base; stands = stood.stands }

    stopped_from : (was : WasReached view opened) → (ordered : IsOrdered owner (history_after_all first was.database_steps)) → StopOn view.log.base (history_after_all first was.database_steps) opened now
        → IsFaithfulThroughout w owner before now
    stopped_from was ordered stop =
        let there : List Recorded = history_after_all first was.database_steps in
        let base : ℕ = view.log.base in
        let keeping : IsKeeping owner base there = was.keeping ordered.books in
        let rests = keeping_throughout base there was.own.is.stored keeping opened now stop.rests in
        let later = stretch_rests w.messages owner first there was.database_steps was.may was.none refl [] [] tt (lawful_says_so owner there ordered.lawful) base keeping was.ahead refl opened now rests stop.stays in
        let alone = disk_stays_on before opened now quiet stop.stays in
        faithful w owner before good named was.database_steps [] now
        (opened_rests w.messages owner first before settled was.database_steps [] opened now same still quiet later)
        (quiet_order before now alone)
        (inr (λ none. subst (λ (l : List (DatabaseStep Recorded)). IsSettled (StandsAs owner (history_after_all first l)) now) (sym (append-nil was.database_steps))
        (λ image left. as_keeping there image (rests_end (StandsKeeping owner there) opened now stop.stays.first rests image left))))

    pub restart_steps : ((there : List Recorded) → IsDatabase view owner there opened → IsOrdered owner there → IsKeeping owner view.log.base there
        → RestartOn view.log.base there opened now ⊎ StopOn view.log.base there opened now) → IsFaithfulThroughout w owner before now
    restart_steps goes =
        let was = opened_reached publisher es view before opened same still database settled in
        let there : List Recorded = history_after_all first was.database_steps in
        let ordered : IsOrdered owner there = reached_ordered w w.messages owner first was.database_steps good named refl (λ m has. has) was.may in
        elim (goes there was.own ordered (was.keeping ordered.books)) [
          | inl restart ↦ restarted_from was ordered restart
          | inr stop ↦ stopped_from was ordered stop
        ]

  -- ---- scripts

  script_settles : (es : List Recorded) (view new : View) (opened now : Seen) (acts : List ScriptAct) (broken : List Recorded) → IsTrue opened.observable → IsDatabase view owner es opened
      → Reached view new opened now acts broken → SettlesAs owner (es ++ (entries_of acts ++ broken)) opened now
  script_settles es view new opened now acts [] told database reached none =
      subst (λ (rs : List Recorded). IsSettled (StandsAs owner (es ++ rs)) now) (sym (append-nil (entries_of acts)))
      (settled_as new owner (es ++ entries_of acts) now (reached.database told reached.state.0 owner es database))
  script_settles es view new opened now acts (r ∷ []) told database reached none = absurd (none reached.state.1)
  script_settles es view new opened now acts (r ∷ other ∷ rs) told database reached none = absurd reached.state

  own_said : (es rs : List Recorded) → Steps (IsOwnStep owner) es rs → AreSaid (fresh owner) es → Along (AreSaid (fresh owner)) es rs
  own_said es rs steps said = steps_along (IsOwnStep owner) (AreSaid (fresh owner)) (λ qs r before is. said_more (fresh owner) qs r before is.1) es rs said steps

  own_can : (es rs : List Recorded) → Steps (IsOwnStep owner) es rs → Steps (CanStep w.messages owner) es rs
  own_can es [] steps = tt
  own_can es (r ∷ rs) steps = (local_step w.messages owner es r steps.0.0, own_can (es ++ r ∷ []) rs steps.1)

  pub script_steps : (publisher : Name) (es : List Recorded) (view new : View) (before opened now : Seen) (written written' : Output) (statements : List Stmt) (result : Result ℕ SessionFault)
      → IsTrue before.observable → Stays before now → RestsThroughout (IsImage before) before opened → DiskStays before opened → IsDatabase view publisher es opened
      → RanScript view new opened now written written' statements result → MakesSteps w owner before now
  script_steps publisher es view new before opened now written written' statements result told stays still quiet database ran good named settled known =
      let entries : List Recorded = entries_of ran.acts ++ ran.broken in
      let still_told : IsTrue opened.observable = subst (λ (b : Bool). IsTrue b) (sym quiet.observable) told in
      trace_steps publisher es view before opened now quiet.first still quiet database good named settled
      (λ there database_there ordered keeping.
      let own : Steps (IsOwnStep owner) there entries = script_says_so owner there view new opened now written written' statements result database_there ran in
      record {
        trace = map commit entries;
        went = ran.reached.went still_told owner there database_there;
        has = record { database_steps = map append entries; are = commits_database_steps w.messages owner there entries (own_can there entries own) };
        said = subst (λ (rs : List Recorded). AreSaid (fresh owner) there → Along (AreSaid (fresh owner)) there rs) (sym (commits_of entries)) (own_said there entries own);
        kept = subst (λ (rs : List Recorded). IsKeeping owner view.log.base there → Along (IsKeeping owner view.log.base) there rs) (sym (commits_of entries))
            (λ keeps. steps_along (IsOwnStep owner) (IsKeeping owner view.log.base) (keeping_own owner view.log.base) there entries keeps own);
        last = unput_since opened now owner there (map commit entries) (ran.reached.went still_told owner there database_there) (puts_commits entries);
        settles = subst (λ (rs : List Recorded). SettlesAs owner (there ++ rs) opened now) (sym (commits_of entries))
            (script_settles there view new opened now ran.acts ran.broken still_told database_there ran.reached);
      })
