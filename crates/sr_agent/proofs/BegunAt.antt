-- The log begun anew before the passes of a run.
use Rattle.std.proofs.Common.{◌≡◌, ℕ, Bool, List, [], ◌∷◌, ◌++◌, Ok, Err, refl, sym, ap, subst, inl, inr, ◌∙◌, le_refl, arith}
use Rattle.std.specs.Prelude.{⊤, IsTrue, IfErr, OnOk, Result}
use Rattle.sr_base.specs.declared.offset.Offset.{Offset}
use Rattle.sr_book.specs.Entries.{Name}
use Rattle.sr_database.proofs.Opened.{in_force_from}
use Rattle.sr_database.specs.Databases.{HasBeginning, IsDatabase, IsDatabaseFrom, IsHeldFrom}
use Rattle.sr_database.specs.InForce.{HasLogInForce}
use Rattle.sr_database.specs.Inner.Entries.{IsEnd}
use Rattle.sr_database.specs.Inner.Restarts.{AnewCause}
use Rattle.sr_database.specs.Restarts.{BeginsAnew, IsTooLongAt}
use Rattle.sr_database.specs.Views.{View}
use Rattle.sr_database_files.specs.Inner.Openings.{ReadAlone}
use Rattle.sr_database_files.specs.declared.fault.DatabaseFault.{DatabaseFault}
use Rattle.sr_database_files.specs.declared.fault.DatabaseFault.TheVariants as store
use Rattle.sr_database_history.specs.Recorded.{Recorded}
use Rattle.sr_database_meaning.specs.Events.{attaches_in}
use Rattle.sr_database_meaning.specs.Generations.{Generation, generation_of}
use Rattle.sr_database_meaning.specs.Restarts.{StandsAtEither, MayGoOver, IsQuiet}
use Rattle.sr_database_meaning.specs.Standing.{StandsFor}
use Rattle.sr_logfile.specs.Log.{Log}
use Rattle.sr_send_needs.proofs.Followed.{database_on, told_then}
use Rattle.sr_send_needs.proofs.Places.{least_is_end}
use Rattle.sr_send_needs.specs.Inner.Ends.{IsEndOf}
use Rattle.sr_send_needs.specs.Inner.Reading.{NeedCause}
use Rattle.sr_send_needs.specs.Needs.{least_need}
use Rattle.sr_send_needs.specs.declared.fault.NeedFault.{NeedFault}
use Rattle.sr_send_needs.specs.declared.fault.NeedFault.TheVariants as needs
use Rattle.sr_site.specs.Causes.{DiskStays, Rose, Stays}
use Rattle.sr_site.specs.Files.{Files}
use Rattle.sr_site.specs.Happenings.{Happening, Throughout}
use Rattle.sr_site.specs.Images.{MayLeave, RestsThroughout}
use Rattle.sr_site.specs.Inner.Growing.{disk_stays_on}
use Rattle.sr_site.specs.Seen.{Seen}
use Rattle.sr_site.specs.Streams.{Output, OutputStays}
use Rattle.sr_snapshot.specs.Beginnings.{Beginning}
use Rattle.sr_agent.specs.Ends.{Ended, IsUsableEnd}
use Rattle.sr_agent.specs.Lines.{lines_text, restarted}
use Rattle.sr_agent.specs.Restarts.{BegunAnew, BegunInPart, IsLeft, IsUnmoved, LeftBy, RestartStop, restarting, searching, untold}
use Rattle.sr_agent.specs.Inner.Restarting.{BeginsAt, BreaksAt, CanRun, EndsBy, EndsByNeed, IsNeedPassedOver, IsPassedOver, IsRestartRefusal, RestartBroken, RestartCount, RestartTold, Restarts, RunUnbegun}
use Rattle.sr_agent.specs.Inner.Steps.{Told, ToldInPart}
use Rattle.sr_agent.specs.declared.fault.AgentFault.{AgentFault}
use Rattle.sr_agent.specs.declared.fault.AgentFault.TheVariants.{Disk, Mail, Sink, Full, Long, Memory}
use Rattle.sr_agent.proofs.Ending.{sink_end}
use Rattle.sr_agent.proofs.Written.{wrote_none}

-- ---- behind reads

still_read : (before now : Seen) → IsTrue before.observable → ReadAlone before now → IsUnmoved before now
still_read before now told read = record { stays = read.stays; files = read.files told; happened = read.happened told }

-- what every crash leaves from a moment on, it leaves from one before since which nothing happened
rests_from : (P : Files → Type 0) (before middle now : Seen) → middle.first ≡ before.first → middle.happened ≡ before.happened → RestsThroughout P middle now → RestsThroughout P before now
rests_from P before middle now first happened rests =
    let at : (Files → List Happening → Type 0) = λ f moment. (image : Files) → MayLeave f moment image → P image in
    record {
      more = rests.more;
      is = rests.is ∙ ap (λ (h : List Happening). rests.more ++ h) happened;
      moments = subst (λ (h : List Happening). Throughout (at before.first) h rests.more) happened (subst (λ (f : Files). Throughout (at f) middle.happened rests.more) first rests.moments);
    }

goes_from : (generation : Generation) (publisher : Name) (es : List Recorded) (base keep : ℕ) (before middle now : Seen) → middle.first ≡ before.first → middle.happened ≡ before.happened
    → MayGoOver generation publisher es base keep middle now → MayGoOver generation publisher es base keep before now
goes_from generation publisher es base keep before middle now first happened (inl rests) = inl (rests_from (StandsFor publisher es base) before middle now first happened rests)
goes_from generation publisher es base keep before middle now first happened (inr goes) = inr (record {
  middle = goes.middle;
  first = goes.first ∙ first;
  writing = rests_from (StandsFor publisher es base) before middle goes.middle first happened goes.writing;
  naming = goes.naming;
})

from_on : (view : View) (b : Beginning) (es : List Recorded) (before middle : Seen) → ReadAlone before middle → IsTrue before.observable → IsDatabaseFrom view b es before → IsDatabaseFrom view b es middle
from_on view b es before middle read told database = record {
  is = database.is;
  held = subst (λ (files : Files). IsHeldFrom view b es files) (sym (read.files told)) database.held;
  settled = λ image there. database.settled image
      (subst (λ (f : Files). MayLeave f before.happened image) read.stays.first (subst (λ (h : List Happening). MayLeave middle.first h image) (read.happened told) there));
}

beginning_on : (view : View) (before middle : Seen) → ReadAlone before middle → IsTrue before.observable → HasBeginning view before → HasBeginning view middle
beginning_on view before middle read told has = record { beginning = has.beginning; es = has.es; is = from_on view has.beginning has.es before middle read told has.is }

-- what the search asked for is so of what comes behind it
pub begins_there : (view : View) (before middle : Seen) → ReadAlone before middle → (IsTrue before.observable → HasBeginning view before) → IsTrue middle.observable → HasBeginning view middle
begins_there view before middle read begins told =
    let first : IsTrue before.observable = subst (λ (b : Bool). IsTrue b) read.stays.observable told in
    beginning_on view before middle read first (begins first)

begun_from : (publisher : Name) (es : List Recorded) (keep : ℕ) (old new : View) (before middle now : Seen) → IsTrue before.observable → ReadAlone before middle → middle.disk_faults ≡ before.disk_faults
    → BegunAnew publisher es keep old new middle now → BegunAnew publisher es keep old new before now
begun_from publisher es keep old new before middle now told read steady begun = record {
  value = begun.value;
  database = begun.database;
  moments = rests_from (StandsAtEither publisher es old.log.base keep) before middle now read.stays.first (read.happened told) begun.moments;
  both = goes_from (generation_of old.log.file) publisher es old.log.base keep before middle now read.stays.first (read.happened told) begun.both;
  quiet = subst (λ (h : List Happening). IsQuiet h now.happened) (read.happened told) begun.quiet;
  stays = disk_stays_on before middle now read.stays begun.stays;
  steady = begun.steady ∙ steady;
}

still_from : (before middle now : Seen) → IsTrue before.observable → ReadAlone before middle → IsUnmoved middle now → IsUnmoved before now
still_from before middle now told read still = record {
  stays = disk_stays_on before middle now read.stays still.stays;
  files = still.files ∙ read.files told;
  happened = still.happened ∙ read.happened told;
}

too_long_from : (view : View) (keep : ℕ) (before middle : Seen) (size limit : ℕ) → ReadAlone before middle → IsTooLongAt view keep middle size limit → IsTooLongAt view keep before size limit
too_long_from view keep before middle size limit read long = record {
  long = long.long;
  limit_is = long.limit_is;
  size_is = λ told b done left database keep_is. long.size_is (told_then before middle read told) b done left (from_on view b (done ++ left) before middle read told database) keep_is;
}

left_from : (publisher : Name) (es : List Recorded) (keep : ℕ) (old new : View) (before middle now : Seen) (fault : AgentFault) → IsTrue before.observable → ReadAlone before middle
    → LeftBy publisher es keep old new middle now fault → LeftBy publisher es keep old new before now fault
left_from publisher es keep old new before middle now Disk told read left = tt
left_from publisher es keep old new before middle now Mail told read left = absurd left
left_from publisher es keep old new before middle now Sink told read left = absurd left
left_from publisher es keep old new before middle now (Full end need) told read left = absurd left
left_from publisher es keep old new before middle now (Long size limit) told read left = (left.0, too_long_from old keep before middle size limit read left.1, still_from before middle now told read left.2)
left_from publisher es keep old new before middle now Memory told read left = left

in_part_from : (publisher : Name) (es : List Recorded) (keep : ℕ) (old new : View) (before middle now : Seen) (fault : AgentFault) → IsTrue before.observable → ReadAlone before middle
    → BegunInPart publisher es keep old new middle now fault → BegunInPart publisher es keep old new before now fault
in_part_from publisher es keep old new before middle now fault told read part = record {
  moments = rests_from (StandsAtEither publisher es old.log.base keep) before middle now read.stays.first (read.happened told) part.moments;
  both = goes_from (generation_of old.log.file) publisher es old.log.base keep before middle now read.stays.first (read.happened told) part.both;
  quiet = subst (λ (h : List Happening). IsQuiet h now.happened) (read.happened told) part.quiet;
  stays = disk_stays_on before middle now read.stays part.stays;
  left = left_from publisher es keep old new before middle now fault told read part.left;
}

-- ---- the log begun anew at an offset

pub refusal_is : (old new : View) (keep : Offset) (before now : Seen) (fault : DatabaseFault) → AnewCause old new keep before now fault → IsRestartRefusal fault
refusal_is old new keep before now store.Missing cause = absurd cause
refusal_is old new keep before now store.Exists cause = absurd cause
refusal_is old new keep before now (store.Damaged file at) cause = tt
refusal_is old new keep before now store.Disk cause = tt
refusal_is old new keep before now (store.Full end need) cause = absurd cause
refusal_is old new keep before now (store.Long size limit) cause = tt
refusal_is old new keep before now store.Memory cause = tt

told_back : (before now : Seen) → DiskStays before now → IsTrue now.observable → IsTrue before.observable
told_back before now stays told = subst (λ (b : Bool). IsTrue b) stays.observable told

-- the disk did not refuse, and the run ends
abbrev pub EndsAsItWas : DatabaseFault → Type 0
EndsAsItWas store.Missing = ⊥
EndsAsItWas store.Exists = ⊥
EndsAsItWas (store.Damaged file at) = ⊥
EndsAsItWas store.Disk = ⊥
EndsAsItWas (store.Full end need) = ⊥
EndsAsItWas (store.Long size limit) = ⊤
EndsAsItWas store.Memory = ⊤

module _ (keep : Offset) (old new : View) (before now : Seen) (can : CanRun old before) (stays : DiskStays before now)
    (moments : IsTrue before.observable → (publisher : Name) (es : List Recorded) → IsDatabase old publisher es before → RestsThroughout (StandsAtEither publisher es old.log.base keep.0) before now)
    (both : IsTrue before.observable → (publisher : Name) (es : List Recorded) → IsDatabase old publisher es before → MayGoOver (generation_of old.log.file) publisher es old.log.base keep.0 before now)
    (quiet : IsTrue before.observable → IsQuiet before.happened now.happened) where
  pub begun_at : BeginsAnew keep.0 old new → (IsTrue before.observable → HasBeginning new now)
      → (IsTrue before.observable → (publisher : Name) (es : List Recorded) → IsDatabase old publisher es before → IsDatabase new publisher es now)
      → now.disk_faults ≡ before.disk_faults → BeginsAt keep.0 old new before now
  begun_at anew begins database steady = record {
    can = record {
      usable = ap (λ (l : Log). l.usable) anew.log;
      idle = anew.pending ∙ can.idle;
      stands = λ told. in_force_from new now (begins (told_back before now stays told));
    };
    stays = stays;
    steady = steady;
    did = λ told publisher es its end. record {
      value = anew;
      database = database told publisher es its;
      moments = moments told publisher es its;
      both = both told publisher es its;
      quiet = quiet told;
      stays = stays;
      steady = steady;
    };
  }

  -- a record reads as damaged
  its_end : (publisher : Name) (es : List Recorded) → IsDatabase old publisher es before → IsEndOf es keep.0 → IsEnd old keep before
  its_end publisher es its end = record {
    publisher = publisher;
    done = end.done;
    left = end.left;
    is = subst (λ (rs : List Recorded). IsDatabase old publisher rs before) end.parts its;
    after_is = end.place_is;
  }

  pub passed_at : (fault : DatabaseFault) → IsPassedOver fault → (IsTrue before.observable → (¬ (fault ≡ store.Disk)) → HasBeginning new now) → AnewCause old new keep before now fault → BeginsAt keep.0 old new before now
  passed_at store.Missing passed left cause = absurd passed
  passed_at store.Exists passed left cause = absurd passed
  passed_at (store.Damaged file at) passed left cause = record {
    can = record {
      usable = ap (λ (v : View). v.log.usable) cause.1 ∙ can.usable;
      idle = ap (λ (v : View). v.pending) cause.1 ∙ can.idle;
      stands = λ told. in_force_from new now (left (told_back before now stays told) (λ is. subst IsPassedOver is passed));
    };
    stays = stays;
    steady = cause.2;
    did = λ told publisher es its end. absurd ((cause.0 told).history (its_end publisher es its end));
  }
  passed_at store.Disk passed left cause = absurd passed
  passed_at (store.Full end need) passed left cause = absurd passed
  passed_at (store.Long size limit) passed left cause = absurd passed
  passed_at store.Memory passed left cause = absurd passed

  -- it ends the run
  part_at : (why : AgentFault) → (IsTrue before.observable → (publisher : Name) (es : List Recorded) → IsDatabase old publisher es before → LeftBy publisher es keep.0 old new before now why)
      → IsTrue before.observable → (publisher : Name) (es : List Recorded) → IsDatabase old publisher es before → IsEndOf es keep.0 → BegunInPart publisher es keep.0 old new before now why
  part_at why left told publisher es its end = record {
    moments = moments told publisher es its;
    both = both told publisher es its;
    quiet = quiet told;
    stays = stays;
    left = left told publisher es its;
  }

  pub broken_at : (fault : DatabaseFault) (why : AgentFault) → EndsBy fault why
      → (IsTrue before.observable → (publisher : Name) (es : List Recorded) → IsDatabase old publisher es before → (¬ (fault ≡ store.Disk)) → IsDatabase new publisher es now)
      → AnewCause old new keep before now fault → BreaksAt keep.0 old new before now why
  broken_at store.Missing why ends same cause = absurd ends
  broken_at store.Exists why ends same cause = absurd ends
  broken_at (store.Damaged file at) why ends same cause = absurd ends
  broken_at store.Disk why ends same cause = subst (λ (w : AgentFault). BreaksAt keep.0 old new before now w) (sym ends) (record {
    idle = ap (λ (v : View). v.pending) cause.spent_is ∙ can.idle;
    usable = tt;
    stays = stays;
    count = cause.rose;
    did = part_at Disk (λ told publisher es its. tt);
  })
  broken_at (store.Full end need) why ends same cause = absurd ends
  broken_at (store.Long size limit) why ends same cause = subst (λ (w : AgentFault). BreaksAt keep.0 old new before now w) (sym ends) (record {
    idle = ap (λ (v : View). v.pending) cause.1 ∙ can.idle;
    usable = ap (λ (v : View). v.log.usable) cause.1 ∙ can.usable;
    stays = stays;
    count = cause.2.steady;
    did = part_at (Long size limit) (λ told publisher es its. (
      record { same = cause.1; database = same told publisher es its (λ is. subst EndsAsItWas is tt) },
      cause.0,
      still_read before now told cause.2.read,
    ));
  })
  broken_at store.Memory why ends same cause = subst (λ (w : AgentFault). BreaksAt keep.0 old new before now w) (sym ends) (record {
    idle = ap (λ (v : View). v.pending) cause.0 ∙ can.idle;
    usable = ap (λ (v : View). v.log.usable) cause.0 ∙ can.usable;
    stays = stays;
    count = cause.1;
    did = part_at Memory (λ told publisher es its. record { same = cause.0; database = same told publisher es its (λ is. subst EndsAsItWas is tt) });
  })

  -- of the answer
  pub passed_in : {T : Type 0} (fault : DatabaseFault) (result : Result T AgentFault) → OnOk result (IsPassedOver fault) → (IsTrue before.observable → (¬ (fault ≡ store.Disk)) → HasBeginning new now)
      → AnewCause old new keep before now fault → OnOk result (BeginsAt keep.0 old new before now)
  passed_in fault (Ok x) passed left cause = passed_at fault passed left cause
  passed_in fault (Err why) passed left cause = tt

  pub ended_at : {T : Type 0} (fault : DatabaseFault) (result : Result T AgentFault) → IfErr result (EndsBy fault)
      → (IsTrue before.observable → (publisher : Name) (es : List Recorded) → IsDatabase old publisher es before → (¬ (fault ≡ store.Disk)) → IsDatabase new publisher es now)
      → AnewCause old new keep before now fault → IfErr result (BreaksAt keep.0 old new before now)
  ended_at fault (Ok x) ends same cause = tt
  ended_at fault (Err why) ends same cause = broken_at fault why ends same cause

-- ---- where the least need lies

rose_behind : (a b c : ℕ) → b ≡ a → Rose b c → Rose a c
rose_behind a b c same rose = subst (λ (n : ℕ). Rose n c) same rose

count_behind : (before middle now : Seen) (why : AgentFault) → middle.disk_faults ≡ before.disk_faults → RestartCount middle now why → RestartCount before now why
count_behind before middle now Disk steady count = rose_behind before.disk_faults middle.disk_faults now.disk_faults steady count
count_behind before middle now Mail steady count = absurd count
count_behind before middle now Sink steady count = absurd count
count_behind before middle now (Full end need) steady count = absurd count
count_behind before middle now (Long size limit) steady count = count ∙ steady
count_behind before middle now Memory steady count = count ∙ steady

module _ (old : View) (before middle : Seen) (keep : Offset) (read : ReadAlone before middle) (steady : middle.disk_faults ≡ before.disk_faults)
    (least : IsTrue before.observable → (publisher : Name) (es : List Recorded) → IsDatabase old publisher es before → keep.0 ≡ least_need publisher es old.log.base) where
  ends_there : (publisher : Name) (es : List Recorded) → keep.0 ≡ least_need publisher es old.log.base → IsEndOf es keep.0
  ends_there publisher es is = subst (λ (n : ℕ). IsEndOf es n) (sym is) (least_is_end publisher es old.log.base)

  pub restarts_behind : (new : View) (now : Seen) → BeginsAt keep.0 old new middle now → Restarts old new before now
  restarts_behind new now begins = record {
    can = begins.can;
    stays = disk_stays_on before middle now read.stays begins.stays;
    steady = begins.steady ∙ steady;
    did = λ told publisher es its.
        let is = least told publisher es its in
        let begun = begins.did (told_then before middle read told) publisher es (database_on old publisher es before middle read told its) (ends_there publisher es is) in
        subst (λ (n : ℕ). BegunAnew publisher es n old new before now) is (begun_from publisher es keep.0 old new before middle now told read steady begun);
  }

  pub broken_behind : (new : View) (now : Seen) (why : AgentFault) → BreaksAt keep.0 old new middle now why → RestartBroken old new before now why
  broken_behind new now why breaks = record {
    idle = breaks.idle;
    usable = breaks.usable;
    stays = disk_stays_on before middle now read.stays breaks.stays;
    count = count_behind before middle now why steady breaks.count;
    did = λ told publisher es its.
        let is = least told publisher es its in
        let part = breaks.did (told_then before middle read told) publisher es (database_on old publisher es before middle read told its) (ends_there publisher es is) in
        restarting (subst (λ (n : ℕ). BegunInPart publisher es n old new before now why) is (in_part_from publisher es keep.0 old new before middle now why told read part)) refl;
  }

  -- of the answer
  pub restarts_after : {T : Type 0} (new : View) (now : Seen) (result : Result T AgentFault) → OnOk result (BeginsAt keep.0 old new middle now) → OnOk result (Restarts old new before now)
  restarts_after new now (Ok x) begins = restarts_behind new now begins
  restarts_after new now (Err why) begins = tt

  pub broken_after : {T : Type 0} (new : View) (now : Seen) (result : Result T AgentFault) → IfErr result (BreaksAt keep.0 old new middle now) → IfErr result (RestartBroken old new before now)
  broken_after new now (Ok x) breaks = tt
  broken_after new now (Err why) breaks = broken_behind new now why breaks

pub can_there : (view : View) (before now : Seen) → CanRun view before → (IsTrue before.observable → HasLogInForce view before → HasLogInForce view now) → ReadAlone before now → CanRun view now
can_there view before now can in_force read = record {
  usable = can.usable;
  idle = can.idle;
  stands = λ told.
      let first = told_back before now read.stays told in
      in_force first (can.stands first);
}

-- the search was not ended
pub need_passed : (view : View) (before now : Seen) (fault : NeedFault) → CanRun view before → (IsTrue before.observable → HasLogInForce view now) → ReadAlone before now → IsNeedPassedOver fault → NeedCause view before now fault
    → Restarts view view before now
need_passed view before now needs.Disk can stands read passed cause = absurd passed
need_passed view before now (needs.Damaged file at) can there read passed cause = record {
  can = record { usable = can.usable; idle = can.idle; stands = λ told. there (told_back before now read.stays told) };
  stays = read.stays;
  steady = cause.1;
  did = λ told publisher es its. absurd (cause.0 told (record { publisher = publisher; es = es; is = its }));
}
need_passed view before now needs.Memory can stands read passed cause = absurd passed

need_broken_by : (view : View) (before now : Seen) (why : AgentFault) → CanRun view before → ReadAlone before now → IsUsableEnd view (Err why) → RestartCount before now why
    → (IsTrue before.observable → (publisher : Name) (es : List Recorded) → IsDatabase view publisher es before → RestartStop publisher es view view before now [] why) → RestartBroken view view before now why
need_broken_by view before now why can read usable count did = record { idle = can.idle; usable = usable; stays = read.stays; count = count; did = did }

left_there : (view : View) (publisher : Name) (es : List Recorded) (before now : Seen) → IsTrue before.observable → ReadAlone before now → IsDatabase view publisher es before → IsLeft publisher es view view now
left_there view publisher es before now told read its = record { same = refl; database = database_on view publisher es before now read told its }

pub need_broken : (view : View) (before now : Seen) (fault : NeedFault) (why : AgentFault) → CanRun view before → ReadAlone before now → EndsByNeed fault why → NeedCause view before now fault → RestartBroken view view before now why
need_broken view before now needs.Disk why can read ends cause = subst (λ (w : AgentFault). RestartBroken view view before now w) (sym ends)
    (need_broken_by view before now Disk can read tt cause (λ told publisher es its. searching (left_there view publisher es before now told read its) (still_read before now told read) refl (inl refl)))
need_broken view before now (needs.Damaged file at) why can read ends cause = absurd ends
need_broken view before now needs.Memory why can read ends cause = subst (λ (w : AgentFault). RestartBroken view view before now w) (sym ends)
    (need_broken_by view before now Memory can read can.usable cause (λ told publisher es its. searching (left_there view publisher es before now told read its) (still_read before now told read) refl (inr refl)))

-- of the answer
pub need_passed_in : {T : Type 0} (view : View) (before now : Seen) (fault : NeedFault) (result : Result T AgentFault) → CanRun view before → (IsTrue before.observable → HasLogInForce view before → HasLogInForce view now)
    → ReadAlone before now → OnOk result (IsNeedPassedOver fault) → NeedCause view before now fault → OnOk result (Restarts view view before now)
need_passed_in view before now fault (Ok x) can in_force read passed cause = need_passed view before now fault can (λ told. in_force told (can.stands told)) read passed cause
need_passed_in view before now fault (Err why) can in_force read passed cause = tt

pub need_broken_in : {T : Type 0} (view : View) (before now : Seen) (fault : NeedFault) (result : Result T AgentFault) → CanRun view before → ReadAlone before now → IfErr result (EndsByNeed fault) → NeedCause view before now fault
    → IfErr result (RestartBroken view view before now)
need_broken_in view before now fault (Ok x) can read ends cause = tt
need_broken_in view before now fault (Err why) can read ends cause = need_broken view before now fault why can read ends cause

-- ---- and told

pub of_disk : (before now : Seen) → DiskStays before now → Stays before now
of_disk before now stays = record { observable = stays.observable; first = stays.first; grows = stays.grows; disk = stays.later; mail = omega (arith, stays.mail_faults) }

silent : (written : Output) → OutputStays written written
silent written = record { observable = refl; later = le_refl written.faults }

unbegun_ended : (new : View) (before now : Seen) (written : Output) (why : AgentFault) → new.pending ≡ [] → IsUsableEnd new (Err why) → DiskStays before now → RestartCount before now why
    → Ended new before now written written [] (Err why)
unbegun_ended new before now written Disk idle usable stays count =
    record { wrote = λ tells. wrote_none written.taken; counts = (count, stays.mail_faults, refl); usable = tt; pending = idle; site = of_disk before now stays; sink = silent written }
unbegun_ended new before now written Mail idle usable stays count = absurd count
unbegun_ended new before now written Sink idle usable stays count = absurd count
unbegun_ended new before now written (Full end need) idle usable stays count = absurd count
unbegun_ended new before now written (Long size limit) idle usable stays count =
    record { wrote = λ tells. wrote_none written.taken; counts = (count, stays.mail_faults, refl); usable = usable; pending = idle; site = of_disk before now stays; sink = silent written }
unbegun_ended new before now written Memory idle usable stays count =
    record { wrote = λ tells. wrote_none written.taken; counts = (count, stays.mail_faults, refl); usable = usable; pending = idle; site = of_disk before now stays; sink = silent written }

pub unbegun_broken : (old new : View) (before now : Seen) (written : Output) (why : AgentFault) → RestartBroken old new before now why → RunUnbegun old new before now written written why
unbegun_broken old new before now written why broken = record {
  lines = [];
  ended = unbegun_ended new before now written why broken.idle broken.usable broken.stays broken.count;
  did = broken.did;
}

pub unbegun_untold : (old new : View) (before now : Seen) (written written' : Output) (why : AgentFault) (base : ℕ) → Restarts old new before now → base ≡ new.log.base
    → ToldInPart (lines_text (restarted base ∷ [])) written written' → why ≡ Sink → RunUnbegun old new before now written written' why
unbegun_untold old new before now written written' why base restarts is part sink = subst (λ (w : AgentFault). RunUnbegun old new before now written written' w) (sym sink) (record {
  lines = restarted new.log.base ∷ [];
  ended = sink_end new before now written written' (restarted new.log.base ∷ []) restarts.can.idle (of_disk before now restarts.stays)
      (subst (λ (n : ℕ). ToldInPart (lines_text (restarted n ∷ [])) written written') is part);
  did = λ told publisher es its. untold (restarts.did told publisher es its) refl refl;
})

pub restart_told : (old new : View) (before now : Seen) (written written' : Output) (base : ℕ) → Restarts old new before now → base ≡ new.log.base → Told (lines_text (restarted base ∷ [])) written written'
    → RestartTold old new before now written written'
restart_told old new before now written written' base restarts is told = record {
  restarts = restarts;
  told = subst (λ (n : ℕ). Told (lines_text (restarted n ∷ [])) written written') is told;
}
