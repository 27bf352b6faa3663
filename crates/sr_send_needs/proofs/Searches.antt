-- A log read on until it gives a user something past an offset.
use Rattle.std.proofs.Common.{◌≡◌, ℕ, ◌+◌, ◌≤◌, ◌<◌, Bool, true, false, cond, List, [], ◌∷◌, ◌++◌, inl, inr, Option, Some, None, Result, Ok, Err, refl, sym, ap, ap₂, subst, ◌∙◌, arith, append_assoc}
use Rattle.std.specs.Prelude.{IsTrue, IfOk, nat_lt, ◌&&◌, min}
use Rattle.sr_base.specs.declared.offset.Offset.{Offset}
use Rattle.sr_book.specs.Entries.{Name}
use Rattle.sr_book.proofs.Folds.{ask_test}
use Rattle.sr_database.specs.Databases.{IsDatabase}
use Rattle.sr_database.specs.Inner.Entries.{IsNext}
use Rattle.sr_database.specs.Views.{View}
use Rattle.sr_database_files.specs.Inner.Openings.{ReadAlone}
use Rattle.sr_database_files.specs.declared.fault.DatabaseFault.{DatabaseFault}
use Rattle.sr_database_history.proofs.Joined.{state_from-more, end_from-more, le-end_from}
use Rattle.sr_database_history.proofs.Kept.{stored_holds}
use Rattle.sr_database_history.specs.Fitting.{Stored}
use Rattle.sr_database_history.specs.Folds.{State, fresh, next, size, state_from, state_of, end_from, end_of}
use Rattle.sr_database_history.specs.Recorded.{Recorded, entry_of}
use Rattle.sr_logform.specs.declared.entry.Entry.{Entry}
use Rattle.sr_logform.specs.declared.op.Op.{Op}
use Rattle.sr_scan.proofs.Agreeing.{fed_same}
use Rattle.sr_scan.specs.Given.{gives}
use Rattle.sr_scan.specs.Inner.Scanners.{Scan, IsFed, transaction_of}
use Rattle.sr_send.proofs.Histories.{fits_next}
use Rattle.sr_send_needs.proofs.Followed.{IsEndOfEach, database_on, read_none, read_on, told_then}
use Rattle.sr_send_needs.specs.Inner.Searching.{is_past, IsAsked, IsPassed, IsStep, Passes, Stops, HasPassed, SearchedTo, step_to}
use Rattle.sr_site.specs.Seen.{Seen}
use Rattle.sr_send_needs.specs.Needs.{any_ops, end_before}

-- ---- the place before what is given

pub le-before : (sent : ℕ) (user : Name) (s : State) (place : ℕ) (rs : List Recorded) → place ≤ end_before sent s place rs user
le-before sent user s place [] = omega arith
le-before sent user s place (r ∷ rs) =
    let later = le-before sent user (next s r) (place + (size r + 5)) rs in
    elim (any_ops (gives s r user) && nat_lt sent (place + (size r + 5))) as (λ t. place ≤ cond t place (end_before sent (next s r) (place + (size r + 5)) rs user)) [
      | true ↦ omega arith
      | false ↦ omega (arith, later)
    ]

-- what ends no later than the offset is passed over
pub passed_over : (sent : ℕ) (user : Name) (s : State) (place : ℕ) (rs qs : List Recorded) → end_from place rs ≤ sent → end_before sent s place (rs ++ qs) user ≡ end_before sent (state_from s rs) (end_from place rs) qs user
passed_over sent user s place [] qs le = refl
passed_over sent user s place (r ∷ rs) qs le =
    let end = place + (size r + 5) in
    let not_past : end ≤ sent = omega (arith, le-end_from end rs, le) in
    no_test (any_ops (gives s r user)) end not_past place (end_before sent (next s r) end (rs ++ qs) user) ∙ passed_over sent user (next s r) end rs qs le
  where
    no_test : (some : Bool) (end : ℕ) → end ≤ sent → (a b : ℕ) → cond (some && nat_lt sent end) a b ≡ b
    no_test true end le a b = elim (ask_test sent end) [ inl t ↦ absurd (omega (arith, t.1, le)) | inr t ↦ rw t.0 refl ]
    no_test false end le a b = refl

past_of : (sent : ℕ) (end : Offset) (ops : List Op) → is_past sent end.0 (transaction_of end ops) ≡ (any_ops ops && nat_lt sent end.0)
past_of sent end [] = refl
past_of sent end (op ∷ ops) = refl

-- ---- the next entry

module _ (publisher : Name) (done left : List Recorded) (sent : ℕ) (old new : Scan) (end : Offset) (entry : Entry) (stored : Stored publisher (done ++ left)) (n : IsNext done left end entry)
    (catalog : old.catalog ≡ (state_of publisher done).catalog) where
  abbrev pub s : State
  s = state_of publisher done

  end_is : end.0 ≡ end_of done + (size n.r + 5)
  end_is = n.end_is ∙ end_from-more 0 done n.r

  -- what is asked of a scanner is whether the entry gives something past the offset
  test_is : (past : Bool) → IsAsked old sent end entry new past → (past ≡ (any_ops (gives s n.r old.user) && nat_lt sent (end_of done + (size n.r + 5)))) × (new.catalog ≡ (next s n.r).catalog) × (new.user ≡ old.user)
  test_is past asked =
      let fits = fits_next publisher (done ++ left) done n.rest n.r stored (ap (λ (rs : List Recorded). done ++ rs) n.left_is) in
      let fed : IsFed old end (entry_of n.r) asked.found new = subst (λ (e : Entry). IsFed old end e asked.found new) n.entry_is asked.fed in
      let same = fed_same s (end_of done) n.r old new end asked.found (stored_holds publisher done fits.0) fits.1 catalog fed in (
        asked.past_is ∙ ap (λ f. is_past sent end.0 f) same.0 ∙ past_of sent end (gives s n.r old.user) ∙ ap (λ (m : ℕ). any_ops (gives s n.r old.user) && nat_lt sent m) end_is,
        same.1,
        same.2,
      )

  first_is : end_before sent s (end_of done) left old.user
      ≡ cond (any_ops (gives s n.r old.user) && nat_lt sent (end_of done + (size n.r + 5))) (end_of done) (end_before sent (next s n.r) (end_of done + (size n.r + 5)) n.rest old.user)
  first_is = ap (λ (rs : List Recorded). end_before sent s (end_of done) rs old.user) n.left_is

  pub next_passed : IsAsked old sent end entry new false → IsPassed publisher done left sent new end old.user
  next_passed asked =
      let test = test_is false asked in
      let state : next s n.r ≡ state_of publisher (done ++ n.r ∷ []) = sym (state_from-more (fresh publisher) done n.r) in
      record {
        r = n.r;
        rest = n.rest;
        left_is = n.left_is;
        end_is = n.end_is;
        catalog = test.1 ∙ ap (λ (x : State). x.catalog) state;
        same =
            first_is
            ∙ ap (λ (b : Bool). cond b (end_of done) (end_before sent (next s n.r) (end_of done + (size n.r + 5)) n.rest old.user)) (sym test.0)
            ∙ ap₂ (λ (x : State) (m : ℕ). end_before sent x m n.rest old.user) state (sym (end_from-more 0 done n.r));
      }

  pub next_user : (past : Bool) → IsAsked old sent end entry new past → new.user ≡ old.user
  next_user past asked = (test_is past asked).2

  pub next_stops : IsAsked old sent end entry new true → end_before sent s (end_of done) left old.user ≡ end_of done
  next_stops asked =
      first_is ∙ ap (λ (b : Bool). cond b (end_of done) (end_before sent (next s n.r) (end_of done + (size n.r + 5)) n.rest old.user)) (sym (test_is true asked).0)

-- ---- a step

-- the entry was found: the next after the offset
abbrev pub IsFoundNext : View → Offset → Offset → Entry → Seen → Type 0
IsFoundNext db at end entry seen = IsTrue seen.observable → (publisher : Name) (done left : List Recorded) → IsDatabase db publisher (done ++ left) seen → at.0 ≡ end_of done → IsNext done left end entry

pub step_on : (db : View) (sent : ℕ) (old new : Scan) (at end : Offset) (entry : Entry) (seen : Seen) → (at.0 < end.0) × (end.0 ≤ db.log.end) → IsFoundNext db at end entry seen → IsAsked old sent end entry new false
    → Passes db sent old new at end seen
step_on db sent old new at end entry seen within found asked = record {
  later = within.0;
  within = within.1;
  user = asked.fed.user;
  passed = λ told publisher done left database is catalog. next_passed publisher done left sent old new end entry database.is.stored (found told publisher done left database is) catalog asked;
}

pub step_stops : (db : View) (sent limit : ℕ) (old new : Scan) (at end : Offset) (entry : Entry) (seen : Seen) → IsFoundNext db at end entry seen → IsAsked old sent end entry new true → Stops db sent limit old at seen
step_stops db sent limit old new at end entry seen found asked = record {
  least = λ told publisher done left database is catalog.
      ap (λ (m : ℕ). min limit m) (next_stops publisher done left sent old new end entry database.is.stored (found told publisher done left database is) catalog asked ∙ sym is);
}

pub step_none : (db : View) (sent limit : ℕ) (scan : Scan) (at : Offset) (seen : Seen)
    → (IsTrue seen.observable → (publisher : Name) (done left : List Recorded) → IsDatabase db publisher (done ++ left) seen → at.0 ≡ end_of done → left ≡ []) → Stops db sent limit scan at seen
step_none db sent limit scan at seen none = record {
  least = λ told publisher done left database is catalog.
      ap (λ (rs : List Recorded). min limit (end_before sent (state_of publisher done) (end_of done) rs scan.user)) (none told publisher done left database is) ∙ ap (λ (m : ℕ). min limit m) (sym is);
}

pub step_limit : (db : View) (sent limit : ℕ) (scan : Scan) (at : Offset) (seen : Seen) → limit ≤ at.0 → Stops db sent limit scan at seen
step_limit db sent limit scan at seen le = record {
  least = λ told publisher done left database is catalog.
      let later = le-before sent scan.user (state_of publisher done) (end_of done) left in
      omega (arith, le, is, later);
}

pub step_answer : (db : View) (sent limit : ℕ) (old new : Scan) (at end : Offset) (entry : Entry) (seen : Seen) (past : Result Bool DatabaseFault) (answer : Result (Option Offset) DatabaseFault) → answer ≡ step_to end past
    → (at.0 < end.0) × (end.0 ≤ db.log.end) → IsFoundNext db at end entry seen → IfOk past (IsAsked old sent end entry new) → IfOk answer (IsStep db sent limit old new at seen)
step_answer db sent limit old new at end entry seen (Ok true) answer is within found asked =
    subst (λ (r : Result (Option Offset) DatabaseFault). IfOk r (IsStep db sent limit old new at seen)) (sym is) (step_stops db sent limit old new at end entry seen found asked)
step_answer db sent limit old new at end entry seen (Ok false) answer is within found asked =
    subst (λ (r : Result (Option Offset) DatabaseFault). IfOk r (IsStep db sent limit old new at seen)) (sym is) (step_on db sent old new at end entry seen within found asked)
step_answer db sent limit old new at end entry seen (Err fault) answer is within found asked =
    subst (λ (r : Result (Option Offset) DatabaseFault). IfOk r (IsStep db sent limit old new at seen)) (sym is) tt

-- what is no step is none
pub stops_at : (db : View) (sent limit : ℕ) (old new : Scan) (at : Offset) (seen : Seen) (found : Option Offset) → ((end : Offset) → found ≡ Some end → ⊥) → IsStep db sent limit old new at seen found → Stops db sent limit old at seen
stops_at db sent limit old new at seen None none step = step
stops_at db sent limit old new at seen (Some end) none step = absurd (none end refl)

-- ---- the search

pub search_start : (db : View) (sent : ℕ) (scan : Scan) (at : Offset) (seen : Seen) → (db.log.base ≤ at.0) × (at.0 ≤ db.log.end)
    → (IsTrue seen.observable → (publisher : Name) (es : List Recorded) → IsDatabase db publisher es seen → HasPassed publisher es scan.user sent scan at) → SearchedTo db sent scan.user scan at seen seen
search_start db sent scan at seen within passed = record { read = read_none seen; steady = refl; from_base = within.0; within = within.1; user_is = refl; passed = passed }

passed_more : (publisher : Name) (es : List Recorded) (user : Name) (sent : ℕ) (old new : Scan) (at end : Offset) → (h : HasPassed publisher es user sent old at) → IsPassed publisher h.done h.left sent new end user → HasPassed publisher es user sent new end
passed_more publisher es user sent old new at end h p = record {
  done = h.done ++ p.r ∷ [];
  left = p.rest;
  parts = h.parts ∙ ap (λ (rs : List Recorded). h.done ++ rs) p.left_is ∙ sym (append_assoc h.done (p.r ∷ []) p.rest);
  at_is = p.end_is;
  catalog = p.catalog;
  same = h.same ∙ p.same;
}

pub search_on : (db : View) (sent : ℕ) (user : Name) (old new : Scan) (at end : Offset) (first before now : Seen) → SearchedTo db sent user old at first before → Passes db sent old new at end before → ReadAlone before now
    → now.disk_faults ≡ before.disk_faults → SearchedTo db sent user new end first now
search_on db sent user old new at end first before now searched passes read steady = record {
  read = read_on first before now searched.read read;
  steady = steady ∙ searched.steady;
  from_base = omega (arith, searched.from_base, passes.later);
  within = passes.within;
  user_is = passes.user ∙ searched.user_is;
  passed = λ told publisher es database.
      let h = searched.passed told publisher es database in
      let here = database_on db publisher es first before searched.read told database in
      let p = passes.passed (told_then first before searched.read told) publisher h.done h.left (subst (λ (rs : List Recorded). IsDatabase db publisher rs before) h.parts here) h.at_is h.catalog in
      passed_more publisher es user sent old new at end h (subst (λ (u : Name). IsPassed publisher h.done h.left sent new end u) searched.user_is p);
}

pub search_end : (db : View) (sent limit : ℕ) (user : Name) (scan : Scan) (at : Offset) (first before : Seen) → SearchedTo db sent user scan at first before → Stops db sent limit scan at before → IsTrue first.observable
    → (publisher : Name) (es : List Recorded) → IsDatabase db publisher es first → min limit at.0 ≡ min limit (end_before sent (fresh publisher) 0 es user)
search_end db sent limit user scan at first before searched stops told publisher es database =
    let h = searched.passed told publisher es database in
    let here = database_on db publisher es first before searched.read told database in
    let least = stops.least (told_then first before searched.read told) publisher h.done h.left (subst (λ (rs : List Recorded). IsDatabase db publisher rs before) h.parts here) h.at_is h.catalog in
    sym least
    ∙ ap (λ (u : Name). min limit (end_before sent (state_of publisher h.done) (end_of h.done) h.left u)) searched.user_is
    ∙ ap (λ (m : ℕ). min limit m) (sym h.same)

pub search_ends : (db : View) (sent : ℕ) (user : Name) (scan : Scan) (at : Offset) (first now : Seen) → SearchedTo db sent user scan at first now → IsEndOfEach db at first
search_ends db sent user scan at first now searched told publisher es database =
    let h = searched.passed told publisher es database in
    record { done = h.done; left = h.left; parts = h.parts; place_is = h.at_is }
