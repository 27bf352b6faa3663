-- What a survey knows of a database's history, as passes begin it, read it on, and put messages.
use Rattle.std.proofs.Common.{◌≡◌, ℕ, ◌+◌, ◌≤◌, Bool, List, [], ◌∷◌, ◌++◌, Option, Some, None, Result, Ok, Err, refl, sym, ap, subst, ◌∙◌, arith, append_assoc}
use Rattle.std.specs.Prelude.{IsTrue, IfErr, IfSome, OnOk}
use Rattle.std.proofs.lemmas.List.{append-nil}
use Rattle.sr_base.specs.declared.offset.Offset.{Offset}
use Rattle.sr_book.specs.Entries.{Name}
use Rattle.sr_database.specs.Databases.{IsBased, IsDatabase}
use Rattle.sr_database.specs.Inner.Entries.{IsNextBrief}
use Rattle.sr_database.specs.Views.{View}
use Rattle.sr_database_history.proofs.Joined.{end_from-append, le-end_from, stored_from-append}
use Rattle.sr_database_history.specs.Fitting.{Stored}
use Rattle.sr_database_history.specs.Folds.{fresh, end_of}
use Rattle.sr_database_history.specs.Recorded.{Recorded, entry_of}
use Rattle.sr_database_meaning.specs.Events.{Event}
use Rattle.sr_logform.specs.declared.entry.Entry.{Entry}
use Rattle.sr_site.specs.Causes.{Stays}
use Rattle.sr_site.specs.Seen.{Seen}
use Rattle.sr_survey.proofs.Brief.{takes_brief}
use Rattle.sr_survey.proofs.Keeping.{begun_surveyed, kept as keeps_up}
use Rattle.sr_survey.specs.Inner.Surveyed.{Begins, HasSurveyed, Takes}
use Rattle.sr_survey.specs.declared.survey.Survey.{Survey}
use Rattle.sr_send.specs.Posting.{IsSteady}
use Rattle.sr_send.specs.Inner.Notes.{Noted}
use Rattle.sr_send.specs.Inner.Posting.{Posted}
use Rattle.sr_send.specs.Inner.Starts.{BeginStop, IsStill, Walked}
use Rattle.sr_send.specs.Inner.Surveys.{BeginsAt, IsSurveyOf, IsWhole, KnowsAllOf, KnowsOf, SurveysTo}
use Rattle.sr_send.specs.declared.fault.SendFault.{SendFault}
use Rattle.sr_send.proofs.Loops.{fault_from}
use Rattle.sr_send.proofs.Posts.{ends_on, posted_before}
use Rattle.sr_send.proofs.Starts.{read_on}

-- ---- one database

-- an offset where entries end does not lie past the log
pub ends_within : (db : View) (publisher : Name) (done left : List Recorded) (seen : Seen) (at : ℕ) → IsDatabase db publisher (done ++ left) seen → at ≡ end_of done → at ≤ db.log.end
ends_within db publisher done left seen at database is =
    let end : db.log.end ≡ end_of (done ++ left) = database.is.end in
    let joined : end_of (done ++ left) ≡ end_of (done ++ left) = refl in
    let further : end_of done ≤ end_of (done ++ left) = subst (λ (n : ℕ). end_of done ≤ n) (sym (end_from-append 0 done left)) (le-end_from (end_of done) left) in
    omega arith

told_before : (before now : Seen) → Stays before now → IsTrue now.observable → IsTrue before.observable
told_before before now stays told = subst (λ (b : Bool). IsTrue b) stays.observable told

-- ---- it stands while messages are put

pub knows_on : (db : View) (s : Survey) (before now : Seen) (events : List Event) → Posted before now events → IsSurveyOf db s before → IsSurveyOf db s now
knows_on db s before now events posted surveyed kept told =
    let was = told_before before now posted.stays told in
    λ publisher es database. surveyed kept was publisher es (posted_before db publisher es before now events posted was database)

-- who knows all knows the first
some_of : (base : ℕ) (publisher : Name) (es : List Recorded) (s : Survey) → KnowsAllOf base publisher es s → KnowsOf base publisher es s
some_of base publisher es s k =
    record { done = es; left = []; parts = sym (append-nil es); has = k.has; before = k.before; behind = k.behind; begins = k.begins; begin_is = k.begin_is; from_base = k.from_base }

pub knows_some : (db : View) (s : Survey) (seen : Seen) → IsWhole db s seen → IsSurveyOf db s seen
knows_some db s seen whole kept told = λ publisher es database. some_of db.log.base publisher es s (whole kept told publisher es database)

-- with an entry that is noted
noted_of : (base : ℕ) (publisher : Name) (es : List Recorded) (s : Survey) (r : Recorded) → KnowsOf base publisher es s → KnowsOf base publisher (es ++ r ∷ []) s
noted_of base publisher es s r k =
    record {
      done = k.done;
      left = k.left ++ r ∷ [];
      parts = ap (λ (rs : List Recorded). rs ++ r ∷ []) k.parts ∙ append_assoc k.done k.left (r ∷ []);
      has = k.has;
      before = k.before;
      behind = k.behind;
      begins = k.begins;
      begin_is = k.begin_is;
      from_base = k.from_base;
    }

pub knows_noted : (old new : View) (s : Survey) (before now : Seen) (r : Recorded) → Stays before now → Noted old new before now r → IsSurveyOf old s before → IsSurveyOf new s now
knows_noted old new s before now r stays noted surveyed kept told =
    let was = told_before before now stays told in
    λ publisher es database.
    let w = noted.without was publisher es new.log.base database.held.stands in
    let here : KnowsOf new.log.base publisher w.first s = subst (λ (n : ℕ). KnowsOf n publisher w.first s) (sym noted.value.base) (surveyed kept was publisher w.first w.database) in
    subst (λ (rs : List Recorded). KnowsOf new.log.base publisher rs s) (sym w.is) (noted_of new.log.base publisher w.first s r here)

-- the same of the survey that is shared
pub shared_on : (db : View) (o : Option Survey) (before now : Seen) (events : List Event) → Posted before now events → IfSome o (λ s. IsSurveyOf db s before) → IfSome o (λ s. IsSurveyOf db s now)
shared_on db None before now events posted surveyed = tt
shared_on db (Some s) before now events posted surveyed = knows_on db s before now events posted surveyed

pub shared_some : (db : View) (o : Option Survey) (seen : Seen) → IfSome o (λ s. IsWhole db s seen) → IfSome o (λ s. IsSurveyOf db s seen)
shared_some db None seen whole = tt
shared_some db (Some s) seen whole = knows_some db s seen whole

pub shared_noted : (old new : View) (o : Option Survey) (before now : Seen) (r : Recorded) → Stays before now → Noted old new before now r → IfSome o (λ s. IsSurveyOf old s before) → IfSome o (λ s. IsSurveyOf new s now)
shared_noted old new None before now r stays noted surveyed = tt
shared_noted old new (Some s) before now r stays noted surveyed = knows_noted old new s before now r stays noted surveyed

-- ---- where it begins

module _ (db : View) (s : Survey) (first before now : Seen) where
  -- behind what was sent to everybody
  behind_of : (sent : ℕ) (at : Offset) → Walked db sent at first before → IsStill db at before → Begins db.catalog at.0 s → IsTrue first.observable → IsTrue before.observable
      → (publisher : Name) (es : List Recorded) → IsDatabase db publisher es before → KnowsOf db.log.base publisher es s
  behind_of sent at walked still b was then_told publisher es database =
      let part = walked.part was publisher es (posted_before db publisher es first before [] walked.posted was database) in
      let here : IsDatabase db publisher (part.done ++ part.left) before = subst (λ (rs : List Recorded). IsDatabase db publisher rs before) part.parts database in
      record {
        done = part.done;
        left = part.left;
        parts = part.parts;
        has = begun_surveyed publisher part.done db.catalog s (subst (λ (n : ℕ). Begins db.catalog n s) part.at_is b) (still then_told publisher part.done part.left here part.at_is);
        before = part.done;
        behind = [];
        begins = sym (append-nil part.done);
        begin_is = b.begin ∙ part.at_is;
        from_base = omega (arith, walked.from_base, b.begin);
      }

  pub begun_behind : (sent : ℕ) (at : Offset) → Walked db sent at first before → Posted before now [] → IsStill db at before → BeginsAt db.catalog at.0 s → IsSurveyOf db s now
  begun_behind sent at walked read still begins kept told =
      let then_told = told_before before now read.stays told in
      let was = told_before first before walked.posted.stays then_told in
      λ publisher es database.
      behind_of sent at walked still (begins kept) was then_told publisher es (posted_before db publisher es before now [] read then_told database)

  -- at the base
  base_of : (base : ℕ) → base ≡ db.log.base → Begins db.base_catalog base s → (publisher : Name) (es : List Recorded) → IsBased db.log.base db.base_catalog publisher es → KnowsOf db.log.base publisher es s
  base_of base at_base b publisher es based =
      record {
        done = based.done;
        left = based.left;
        parts = based.parts;
        has = begun_surveyed publisher based.done db.base_catalog s (subst (λ (n : ℕ). Begins db.base_catalog n s) (at_base ∙ based.base_is) b) based.catalog_is;
        before = based.done;
        behind = [];
        begins = sym (append-nil based.done);
        begin_is = b.begin ∙ at_base ∙ based.base_is;
        from_base = omega (arith, b.begin, at_base);
      }

  pub begun_at_base : (base : Offset) → base.0 ≡ db.log.base → BeginsAt db.base_catalog base.0 s → IsSurveyOf db s now
  begun_at_base base at_base begins kept told = λ publisher es database. base_of base.0 at_base (begins kept) publisher es database.is.based

-- if there is one
pub begun_made : (db : View) (o : Option Survey) (now : Seen) (holds : Survey → Type 0) → ((s : Survey) → holds s → IsSurveyOf db s now) → IfSome o holds → IfSome o (λ s. IsSurveyOf db s now)
begun_made db None now holds so made = tt
begun_made db (Some s) now holds so made = so s made

-- ---- an entry more

stored_more : (publisher : Name) (done rest : List Recorded) (r : Recorded) → Stored publisher (done ++ r ∷ rest) → Stored publisher (done ++ r ∷ [])
stored_more publisher done rest r stored =
    let both = (stored_from-append (fresh publisher) 0 (done ++ r ∷ []) rest).0 (subst (λ (rs : List Recorded). Stored publisher rs) (sym (append_assoc done (r ∷ []) rest)) stored) in
    both.0

-- what `take` says
abbrev pub TakesOr : Survey → Entry → ℕ → Survey → Type 0
TakesOr old e at new = new.given_up ≡ None → (old.given_up ≡ None) × Takes old e at new

took_of : (base : ℕ) (publisher : Name) (es : List Recorded) (old new : Survey) (end : Offset) (brief : Entry) → Stored publisher es → (k : KnowsOf base publisher es old) → IsNextBrief k.done k.left end brief → Takes old brief end.0 new
    → KnowsOf base publisher es new
took_of base publisher es old new end brief stands k b takes =
    let n = b.is in
    let r = n.r in
    let whole : es ≡ k.done ++ r ∷ n.rest = k.parts ∙ ap (λ (rs : List Recorded). k.done ++ rs) n.left_is in
    let stored : Stored publisher (k.done ++ r ∷ []) = stored_more publisher k.done n.rest r (subst (λ (rs : List Recorded). Stored publisher rs) whole stands) in
    let same : Takes old (entry_of r) (end_of (k.done ++ r ∷ [])) new = subst (λ (m : ℕ). Takes old (entry_of r) m new) n.end_is (subst (λ (e : Entry). Takes old e end.0 new) n.entry_is (takes_brief old new b.entry brief end.0 b.brief_is takes)) in
    record {
      done = k.done ++ r ∷ [];
      left = n.rest;
      parts = whole ∙ sym (append_assoc k.done (r ∷ []) n.rest);
      has = keeps_up publisher k.done r old new stored k.has same;
      before = k.before;
      behind = k.behind ++ r ∷ [];
      begins = ap (λ (rs : List Recorded). rs ++ r ∷ []) k.begins ∙ append_assoc k.before k.behind (r ∷ []);
      begin_is = takes.begin ∙ k.begin_is;
      from_base = omega (arith, k.from_base, takes.begin);
    }

-- what it knows ends no sooner than the base
from_base_on : (base : ℕ) (publisher : Name) (es : List Recorded) (s : Survey) → (k : KnowsOf base publisher es s) → base ≤ end_of k.done
from_base_on base publisher es s k =
    let joined : end_of (k.before ++ k.behind) ≡ end_of k.done = ap end_of (sym k.begins) in
    let further : end_of k.before ≤ end_of (k.before ++ k.behind) = subst (λ (n : ℕ). end_of k.before ≤ n) (sym (end_from-append 0 k.before k.behind)) (le-end_from (end_of k.before) k.behind) in
    omega (arith, k.from_base, k.begin_is, joined, further)

pub took_next : (db : View) (old new : Survey) (at end : Offset) (brief : Entry) (before now : Seen) → SurveysTo db old at before → Posted before now []
    → (IsTrue before.observable → (publisher : Name) (done left : List Recorded) → IsDatabase db publisher (done ++ left) before → at.0 ≡ end_of done → db.log.base ≤ at.0 → IsNextBrief done left end brief) → TakesOr old brief end.0 new
    → SurveysTo db new end now
took_next db old new at end brief before now surveyed read found takes = record {
  end_is = λ stays. (takes stays).1.end;
  knows = λ stays told.
      let t = takes stays in
      let was = told_before before now read.stays told in
      λ publisher es database.
      let there = posted_before db publisher es before now [] read was database in
      let k = surveyed.knows t.0 was publisher es there in
      let comes : at.0 ≡ end_of k.done = sym (surveyed.end_is t.0) ∙ k.has.end_is in
      took_of db.log.base publisher es old new end brief there.is.stored k
      (found was publisher k.done k.left (subst (λ (rs : List Recorded). IsDatabase db publisher rs before) k.parts there) comes (omega (arith, comes, from_base_on db.log.base publisher es old k))) t.1;
}

-- none follows: it knows all
all_of : (base : ℕ) (publisher : Name) (es : List Recorded) (s : Survey) → (k : KnowsOf base publisher es s) → k.left ≡ [] → KnowsAllOf base publisher es s
all_of base publisher es s k empty =
    let whole : es ≡ k.done = k.parts ∙ ap (λ (rs : List Recorded). k.done ++ rs) empty ∙ append-nil k.done in
    record {
      has = subst (λ (rs : List Recorded). HasSurveyed publisher rs s) (sym whole) k.has;
      before = k.before;
      behind = k.behind;
      begins = whole ∙ k.begins;
      begin_is = k.begin_is;
      from_base = k.from_base;
    }

pub took_all : (db : View) (s : Survey) (at : Offset) (before now : Seen) → SurveysTo db s at before → Posted before now []
    → (IsTrue before.observable → (publisher : Name) (done left : List Recorded) → IsDatabase db publisher (done ++ left) before → at.0 ≡ end_of done → db.log.base ≤ at.0 → left ≡ []) → IsWhole db s now
took_all db s at before now surveyed read none stays told =
    let was = told_before before now read.stays told in
    λ publisher es database.
    let there = posted_before db publisher es before now [] read was database in
    let k = surveyed.knows stays was publisher es there in
    let comes : at.0 ≡ end_of k.done = sym (surveyed.end_is stays) ∙ k.has.end_is in
    all_of db.log.base publisher es s k
    (none was publisher k.done k.left (subst (λ (rs : List Recorded). IsDatabase db publisher rs before) k.parts there) comes (omega (arith, comes, from_base_on db.log.base publisher es s k)))

-- one that was given up says nothing
pub given_up_whole : (db : View) (s : Survey) (seen : Seen) → ¬ (s.given_up ≡ None) → IsWhole db s seen
given_up_whole db s seen gave stays told = absurd (gave stays)

-- ---- reading on

-- a survey is being read on
pub record ReadingOn (db : View) (s : Survey) (at : Offset) (before now : Seen) : Type 0 where
  pub posted : Posted before now []
  pub steady : IsSteady before now
  pub surveyed : SurveysTo db s at now

stopped_after : (first before now : Seen) (fault : SendFault) → Posted first before [] → IsSteady first before → BeginStop before now fault → BeginStop first now fault
stopped_after first before now fault posted steady stop = record {
  posted = read_on first before now posted stop.posted;
  cause = fault_from first before now [] fault steady stop.cause;
  ends = ends_on first before now steady stop.ends;
}

-- what is no offset is none
pub none_is : (found : Option Offset) → ((end : Offset) → found ≡ Some end → ⊥) → found ≡ None
none_is None none = refl
none_is (Some end) none = absurd (none end refl)

-- ---- as the code meets them

pub posted_after : (first before now : Seen) (result : Result (Unit {0}) SendFault) → Posted first before [] → OnOk result (Posted before now []) → OnOk result (Posted first now [])
posted_after first before now (Ok done) posted read = read_on first before now posted read
posted_after first before now (Err fault) posted read = tt

pub ended_after : (first before now : Seen) (result : Result (Unit {0}) SendFault) → Posted first before [] → IsSteady first before → IfErr result (BeginStop before now) → IfErr result (BeginStop first now)
ended_after first before now (Ok done) posted steady stop = tt
ended_after first before now (Err fault) posted steady stop = stopped_after first before now fault posted steady stop
