-- The entry behind an offset.
use Rattle.std.proofs.Common.{◌≡◌, ◌≢◌, ℕ, ◌+◌, ◌≤◌, List, [], ◌∷◌, ◌++◌, length, take, Option, Some, None, Result, Ok, Err, refl, sym, ◌∙◌, ap, subst, arith}
use Rattle.std.specs.Prelude.{IsTrue, IfErr, MatchOption}
use Rattle.std.proofs.lemmas.List.{map-append}
use Rattle.sr_base.specs.declared.offset.Offset.{Offset}
use Rattle.sr_book.specs.Entries.{Name}
use Rattle.sr_database_history.specs.Fitting.{Stored}
use Rattle.sr_database_history.specs.Folds.{fresh, end_of, size}
use Rattle.sr_database_history.specs.Recorded.{Recorded, entry_of}
use Rattle.sr_database_history.proofs.Joined.{end_from-append, end_from-more, stored_from-append}
use Rattle.sr_logfile.specs.Inner.Faults.{NextCause, RecordAfterCause}
use Rattle.sr_logfile.specs.Log.{Log}
use Rattle.sr_logfile.specs.Inner.Logs.{IsLog, IsAt}
use Rattle.sr_logfile.specs.Inner.Steps.{IsNext as IsNextBody, IsLonger, IsStep}
use Rattle.sr_logfile.specs.declared.reading.Step.{Step}
use Rattle.sr_logfile.specs.declared.reading.Step.TheVariants as steps
use Rattle.sr_logfile.specs.declared.fault.LogFault.{LogFault}
use Rattle.sr_logfile.specs.declared.fault.LogFault.TheVariants as logs
use Rattle.sr_logfile.specs.declared.fault.RecordFault.{RecordFault}
use Rattle.sr_logfile.specs.declared.fault.RecordFault.TheVariants as records
use Rattle.sr_logform.specs.Entries.{entry_spelling, IsEntry}
use Rattle.sr_logform.specs.Inner.EntryLaws.{entry_format}
use Rattle.sr_logform.specs.declared.entry.Entry.{Entry}
use Rattle.sr_logform.specs.declared.entry.Entry.TheVariants.{Own, From, Ddl, Sync, Pass, Note}
use Rattle.sr_logform.proofs.Once.{spells_once}
use Rattle.sr_site.specs.Files.{Files}
use Rattle.sr_site.specs.Images.{MayLeave}
use Rattle.sr_site.specs.Seen.{Seen}
use Rattle.sr_site.specs.declared.file.File.{File}
use Rattle.sr_survey_brief.specs.Inner.Briefs.{IsBrief}
use Rattle.sr_database_meaning.specs.Standing.{body, bodies}
use Rattle.sr_database_meaning.proofs.Standing.{ends_are, size_is}
use Rattle.sr_database_replay.proofs.Fronts.{parted}
use Rattle.sr_database.specs.Inner.Causes.{EntryCause, IsRecordFault}
use Rattle.sr_database.specs.Databases.{IsHeld, IsDatabase}
use Rattle.sr_database.specs.Inner.Entries.{IsNext, IsNextBrief, IsNextEnd, IsNextKind, BeginWith, Parts, BehindCause}
use Rattle.sr_database_files.specs.Inner.Openings.{IsLogFault}
use Rattle.sr_database_replay.specs.Inner.Replays.{SpellingCause}
use Rattle.sr_database.specs.Views.{View}
use Rattle.sr_database_files.specs.declared.fault.DatabaseFault.{DatabaseFault}
use Rattle.sr_database_files.specs.declared.fault.DatabaseFault.TheVariants.{Missing, Exists, Damaged, Disk, Full, Long, Memory}
use Rattle.sr_database.proofs.Commits.{log_of_held}

-- the position parts the log as the offset parts the history
record PartsLog (log : Log) (after : ℕ) (left : List Recorded) (files : Files) : Type 0 where
  front : List (List ℕ)
  at : IsAt log after front (bodies left) files

parts_log : (view : View) (publisher : Name) (done left : List Recorded) (seen : Seen) (after : ℕ) → IsDatabase view publisher (done ++ left) seen → after ≡ end_of done → view.log.base ≤ after → PartsLog view.log after left seen.files
parts_log view publisher done left seen after database is from =
    let s = database.held.stands in
    let m = parted 0 s.done s.left done left (sym s.parts) (let le : end_of s.done ≤ end_of done = omega (arith, s.base_is, is, from) in le) in
    record {
      front = bodies m.more;
      at = record {
        is_log = subst (λ (l : List (List ℕ)). IsLog view.log l seen.files) (ap bodies m.others_are ∙ map-append body m.more left) (log_of_held view publisher (done ++ left) seen.files database.is database.held);
        after_is = omega (arith, is, ap end_of m.done_is, end_from-append 0 s.done m.more, s.base_is, ends_are (end_of s.done) m.more);
      };
    }

-- nothing is left
pub none_left : (left : List Recorded) → bodies left ≡ [] → left ≡ []
none_left [] is = refl
none_left (r ∷ rs) is = cc

-- an entry has a byte
never_empty : (entry : Entry) → entry_spelling entry ≢ []
unfolding entry_spelling
never_empty (Own changes) is = absurd cc
never_empty (From user at ops) is = absurd cc
never_empty (Ddl text) is = absurd cc
never_empty (Sync user tables) is = absurd cc
never_empty (Pass users only text changes) is = absurd cc
never_empty (Note user note) is = absurd cc

-- the entry of the next body
module _ (log : Log) (publisher : Name) (done : List Recorded) (front : List (List ℕ)) (after : ℕ) (at : after ≡ end_of done) where
  first_fits : (r : Recorded) (rs : List Recorded) → Stored publisher (done ++ r ∷ rs) → IsEntry (entry_of r)
  first_fits r rs stored = ((stored_from-append (fresh publisher) 0 done (r ∷ rs)).0 stored).1.0.spelled

  one_entry : (r : Recorded) (rs : List Recorded) (entry : Entry) → Stored publisher (done ++ r ∷ rs) → IsEntry entry → entry_spelling entry ≡ body r → entry ≡ entry_of r
  one_entry r rs entry stored spelled same =
      ((spells_once entry_format).no_other entry (entry_of r) [] [] spelled (first_fits r rs stored) (ap (λ (l : List ℕ). l ++ []) same)).0

  pub next_is : (left : List Recorded) (files : Files) (buffer : List ℕ) (end : Offset) (count : ℕ) (entry : Entry) → Stored publisher (done ++ left) → IsNextBody log after front (bodies left) files buffer end.0 count
      → IsEntry entry → take count buffer ≡ entry_spelling entry → IsNext done left end entry
  next_is [] files buffer end count entry stored n spelled read = let is = n.left_is in absurd cc
  next_is (r ∷ rs) files buffer end count entry stored n spelled read =
      let heads : body r ≡ n.body = let is = n.left_is in cc in
      let same : entry_spelling entry ≡ body r = sym read ∙ n.prefix ∙ sym heads in
      record {
        r = r;
        rest = rs;
        left_is = refl;
        entry_is = one_entry r rs entry stored spelled same;
        end_is = omega (arith, n.end_is, n.count_is, at, end_from-more 0 done r, size_is r, ap length heads);
      }

  -- the same in brief
  pub next_in_brief : (left : List Recorded) (files : Files) (buffer : List ℕ) (end : Offset) (count : ℕ) (brief : Entry) → Stored publisher (done ++ left) → IsNextBody log after front (bodies left) files buffer end.0 count
      → ((entry : Entry) → IsEntry entry → take count buffer ≡ entry_spelling entry → IsBrief entry brief) → IsNextBrief done left end brief
  next_in_brief [] files buffer end count brief stored n read = let is = n.left_is in absurd cc
  next_in_brief (r ∷ rs) files buffer end count brief stored n read =
      let heads : body r ≡ n.body = let is = n.left_is in cc in
      let spelled : IsEntry (entry_of r) = first_fits r rs stored in
      let same : take count buffer ≡ entry_spelling (entry_of r) = n.prefix ∙ sym heads in
      record {
        entry = entry_of r;
        is = next_is (r ∷ rs) files buffer end count (entry_of r) stored n spelled same;
        brief_is = read (entry_of r) spelled same;
      }

  -- its end
  end_of_next : (left : List Recorded) (body_is : List ℕ) (rest : List (List ℕ)) (end : Offset) → bodies left ≡ body_is ∷ rest → end.0 ≡ after + 5 + length body_is → IsNextEnd done left end
  end_of_next [] body_is rest end left_is ends = absurd cc
  end_of_next (r ∷ rs) body_is rest end left_is ends =
      let heads : body r ≡ body_is = cc in
      record { r = r; rest = rs; left_is = refl; end_is = omega (arith, ends, at, end_from-more 0 done r, size_is r, ap length heads) }

  pub short_end : (left : List Recorded) (room need : ℕ) (end : Offset) → IsLonger (bodies left) room need → end.0 ≡ after + 5 + need → IsNextEnd done left end
  short_end left room need end longer ends = end_of_next left longer.body longer.rest end longer.left_is (omega (arith, ends, longer.need_is))

  pub record_end : (left : List Recorded) (files : Files) (buffer : List ℕ) (end : Offset) (count : ℕ) → IsNextBody log after front (bodies left) files buffer end.0 count → IsNextEnd done left end
  record_end left files buffer end count n = end_of_next left n.body n.rest end n.left_is (omega (arith, n.end_is, n.count_is))

  -- its kind
  pub next_kind : (left : List Recorded) (files : Files) (buffer : List ℕ) (end : Offset) (count kind : ℕ) → IsNextBody log after front (bodies left) files buffer end.0 count → BeginWith (take count buffer) kind
      → IsNextKind done left end kind
  next_kind [] files buffer end count kind n begins = let is = n.left_is in absurd cc
  next_kind (r ∷ rs) files buffer end count kind n begins =
      let heads : body r ≡ n.body = let is = n.left_is in cc in
      record {
        r = r;
        rest = rs;
        left_is = refl;
        end_is = omega (arith, n.end_is, n.count_is, at, end_from-more 0 done r, size_is r, ap length heads);
        more = begins.0;
        kind_is = heads ∙ sym n.prefix ∙ begins.1;
      }

  -- what is read there is spelled
  pub always_spelled : (left : List Recorded) (files : Files) (buffer : List ℕ) (end count : ℕ) → Stored publisher (done ++ left) → IsNextBody log after front (bodies left) files buffer end count
      → ((entry : Entry) → IsEntry entry → take count buffer ≢ entry_spelling entry) → ⊥
  always_spelled [] files buffer end count stored n none = let left = n.left_is in cc
  always_spelled (r ∷ rs) files buffer end count stored n none =
      let heads : body r ≡ n.body = let left = n.left_is in cc in
      none (entry_of r) (first_fits r rs stored) (n.prefix ∙ sym heads)

  -- no body is without a byte
  pub always_begins : (left : List Recorded) (files : Files) (buffer : List ℕ) (end count : ℕ) → Stored publisher (done ++ left) → IsNextBody log after front (bodies left) files buffer end count → take count buffer ≡ [] → ⊥
  always_begins left files buffer end count stored n none = always_spelled left files buffer end count stored n (λ entry spelled same. never_empty entry (sym same ∙ none))

-- a log is never refused for want of memory
pub not_memory : (file : File) (fault : LogFault) (answer : DatabaseFault) → IsLogFault file fault answer → answer ≢ Memory
not_memory file logs.Disk answer is same = absurd cc
not_memory file (logs.Full end need) answer is same = absurd cc
not_memory file (logs.Damaged at) answer is same = absurd cc

-- what the log tells of the record behind a position
abbrev StepOf : Log → ℕ → Seen → Files → List ℕ → Option (Offset × ℕ) → Type 0
StepOf log after before files buffer found = (done left : List (List ℕ)) → IsAt log after done left before.files → MatchOption found (left ≡ []) (λ x. IsNextBody log after done left files buffer x.0.0 x.1)

abbrev pub StepsTo : Log → ℕ → Seen → Files → List ℕ → Step → Type 0
StepsTo log after before files buffer step = (done left : List (List ℕ)) → IsAt log after done left before.files → IsStep log after done left files buffer step

-- an entry that was read
module _ (log : Log) (after : ℕ) (before now : Seen) where
  pub ends_behind : (files : Files) (buffer : List ℕ) (found : Option (Offset × ℕ)) → found ≡ None → StepOf log after before files buffer found → (publisher : Name) (done left : List Recorded) → Parts log after publisher done left before → left ≡ []
  ends_behind files buffer found is step publisher done left parts =
      none_left left (subst (λ (o : Option (Offset × ℕ)). StepOf log after before files buffer o) is step parts.front (bodies left) parts.at)

  module _ (files : Files) (buffer body : List ℕ) (found : Option (Offset × ℕ)) (end : Offset) (count : ℕ) (found_is : found ≡ Some (end, count)) (body_is : body ≡ take count buffer) where
    pub read_behind : StepOf log after before files buffer found → (entry : Entry) → IsEntry entry → body ≡ entry_spelling entry → (publisher : Name) (done left : List Recorded) → Parts log after publisher done left before → IsNext done left end entry
    read_behind step entry spelled read publisher done left parts =
        next_is log publisher done parts.front after parts.after_is left files buffer end count entry parts.stored
        (subst (λ (o : Option (Offset × ℕ)). StepOf log after before files buffer o) found_is step parts.front (bodies left) parts.at) spelled (sym body_is ∙ read)

    pub brief_behind : StepOf log after before files buffer found → (brief : Entry) → ((entry : Entry) → IsEntry entry → body ≡ entry_spelling entry → IsBrief entry brief) → (publisher : Name) (done left : List Recorded)
        → Parts log after publisher done left before → IsNextBrief done left end brief
    brief_behind step brief read publisher done left parts =
        next_in_brief log publisher done parts.front after parts.after_is left files buffer end count brief parts.stored
        (subst (λ (o : Option (Offset × ℕ)). StepOf log after before files buffer o) found_is step parts.front (bodies left) parts.at) (λ entry spelled same. read entry spelled (body_is ∙ same))

    pub kind_read : StepOf log after before files buffer found → (kind : ℕ) → BeginWith body kind → (publisher : Name) (done left : List Recorded) → Parts log after publisher done left before → IsNextKind done left end kind
    kind_read step kind begins publisher done left parts =
        next_kind log publisher done parts.front after parts.after_is left files buffer end count kind
        (subst (λ (o : Option (Offset × ℕ)). StepOf log after before files buffer o) found_is step parts.front (bodies left) parts.at) (begins.0, sym body_is ∙ begins.1)

    pub unkind_behind : (IsTrue before.observable → StepOf log after before files buffer found) → now.disk_faults ≡ before.disk_faults → (file : File) (place : ℕ) (fault : DatabaseFault) → (fault ≡ Damaged file place) × (body ≡ []) → BehindCause log after before now fault
    unkind_behind step steady file place fault cause =
        subst (λ (f : DatabaseFault). BehindCause log after before now f) (sym cause.0) (
          λ told publisher done left parts.
              always_begins log publisher done parts.front after parts.after_is left files buffer end.0 count parts.stored
              (subst (λ (o : Option (Offset × ℕ)). StepOf log after before files buffer o) found_is (step told) parts.front (bodies left) parts.at) (sym body_is ∙ cause.1),
          steady,
        )

    pub spelling_behind : (IsTrue before.observable → StepOf log after before files buffer found) → now.disk_faults ≡ before.disk_faults → (file : File) (place : ℕ) (fault : DatabaseFault) → SpellingCause file place body fault → BehindCause log after before now fault
    spelling_behind step steady file place Missing cause = absurd cause
    spelling_behind step steady file place Exists cause = absurd cause
    spelling_behind step steady file place (Damaged other at) cause = (
      λ told publisher done left parts.
          always_spelled log publisher done parts.front after parts.after_is left files buffer end.0 count parts.stored
          (subst (λ (o : Option (Offset × ℕ)). StepOf log after before files buffer o) found_is (step told) parts.front (bodies left) parts.at)
          (λ entry spelled same. cause.2 entry spelled (body_is ∙ same)),
      steady,
    )
    spelling_behind step steady file place Disk cause = absurd cause
    spelling_behind step steady file place (Full last need) cause = absurd cause
    spelling_behind step steady file place (Long size limit) cause = absurd cause
    spelling_behind step steady file place Memory cause = steady

  -- an end that was read
  pub no_end : (files : Files) (buffer : List ℕ) → StepsTo log after before files buffer steps.End → (publisher : Name) (done left : List Recorded) → Parts log after publisher done left before → left ≡ []
  no_end files buffer step publisher done left parts = none_left left (step parts.front (bodies left) parts.at)

  pub end_short : (files : Files) (buffer : List ℕ) (need : ℕ) (end : Offset) → end.0 ≡ after + 5 + need → StepsTo log after before files buffer (steps.Short need) → (publisher : Name) (done left : List Recorded) → Parts log after publisher done left before
      → IsNextEnd done left end
  end_short files buffer need end ends step publisher done left parts = short_end log publisher done parts.front after parts.after_is left (length buffer) need end (step parts.front (bodies left) parts.at) ends

  pub end_whole : (files : Files) (buffer : List ℕ) (end : Offset) (count : ℕ) → StepsTo log after before files buffer (steps.Record end count) → (publisher : Name) (done left : List Recorded) → Parts log after publisher done left before → IsNextEnd done left end
  end_whole files buffer end count step publisher done left parts = record_end log publisher done parts.front after parts.after_is left files buffer end count (step parts.front (bodies left) parts.at).0

  -- the log's refusal
  pub next_refused : (file : File) (fault : LogFault) (answer : DatabaseFault) → IsLogFault file fault answer → NextCause log after before now fault → BehindCause log after before now answer
  next_refused file logs.Disk answer is cause = subst (λ (a : DatabaseFault). BehindCause log after before now a) (sym is) cause
  next_refused file (logs.Full end need) answer is cause = absurd cause
  next_refused file (logs.Damaged at) answer is cause =
      subst (λ (a : DatabaseFault). BehindCause log after before now a) (sym is) (λ told publisher done left parts. cause.0 told parts.front (bodies left) parts.at, cause.1)

  pub refused_behind : (file : File) (fault : RecordFault) (answer : DatabaseFault) → IsRecordFault file fault answer → RecordAfterCause log after before now fault → BehindCause log after before now answer
  refused_behind file records.Memory answer is cause = subst (λ (a : DatabaseFault). BehindCause log after before now a) (sym is) cause
  refused_behind file (records.Log fault) answer is cause = next_refused file fault answer is cause

-- ---- seen from the database

module _ (view : View) (log : Log) (log_is : view.log ≡ log) (after : Offset) (from : view.log.base ≤ after.0) (before now : Seen) where
  pub parts_of : (publisher : Name) (done left : List Recorded) → IsDatabase view publisher (done ++ left) before → after.0 ≡ end_of done → Parts log after.0 publisher done left before
  parts_of publisher done left database is =
      let parts = parts_log view publisher done left before after.0 database is from in
      record { stored = database.is.stored; front = parts.front; at = subst (λ (l : Log). IsAt l after.0 parts.front (bodies left) before.files) log_is parts.at; after_is = is }

  behind_cause : (fault : DatabaseFault) → BehindCause log after.0 before now fault → EntryCause view after before now fault
  behind_cause Missing cause = absurd cause
  behind_cause Exists cause = absurd cause
  behind_cause (Damaged file at) cause = (λ told end. cause.0 told end.publisher end.done end.left (parts_of end.publisher end.done end.left end.is end.after_is), cause.1)
  behind_cause Disk cause = cause
  behind_cause (Full end need) cause = absurd cause
  behind_cause (Long size limit) cause = absurd cause
  behind_cause Memory cause = cause

  pub behind_refused : {A : Type 0} (result : Result A DatabaseFault) → IfErr result (BehindCause log after.0 before now) → IfErr result (EntryCause view after before now)
  behind_refused (Ok found) cause = tt
  behind_refused (Err fault) cause = behind_cause fault cause

-- the database stays where nothing happens to the files
pub stays_database : (view : View) (publisher : Name) (es : List Recorded) (before now : Seen) → now.first ≡ before.first → now.files ≡ before.files → now.happened ≡ before.happened → IsDatabase view publisher es before → IsDatabase view publisher es now
stays_database view publisher es before now first files happened d =
    record {
      is = d.is;
      held = subst (λ (f : Files). IsHeld view publisher es f) (sym files) d.held;
      settled = λ image there. d.settled image
          (subst (λ h. MayLeave before.first h image) happened (subst (λ (f : Files). MayLeave f now.happened image) first there));
    }
