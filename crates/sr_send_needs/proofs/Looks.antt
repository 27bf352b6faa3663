-- The places of a survey looked at, one after the other.
use Rattle.std.proofs.Common.{◌≡◌, ℕ, ◌≤◌, ◌<◌, Bool, true, false, List, [], ◌∷◌, ◌++◌, Option, Some, None, Result, Ok, Err, refl, sym, ap, subst, ◌∙◌, arith}
use Rattle.std.specs.Prelude.{IsTrue, IfOk}
use Rattle.sr_base.specs.Values.{offset_from}
use Rattle.sr_base.specs.declared.offset.Offset.{Offset}
use Rattle.sr_book.specs.Entries.{Name}
use Rattle.sr_catalog_schema.specs.Catalogs.{Lists}
use Rattle.sr_database.specs.Databases.{IsDatabase}
use Rattle.sr_database.specs.Inner.Entries.{IsEntryAfter, IsNext as IsNextEntry}
use Rattle.sr_database.specs.Views.{View}
use Rattle.sr_database_files.specs.Inner.Openings.{ReadAlone}
use Rattle.sr_database_files.specs.declared.fault.DatabaseFault.{DatabaseFault}
use Rattle.sr_database_history.specs.Folds.{end_of}
use Rattle.sr_database_history.specs.Recorded.{Recorded, entry_of}
use Rattle.sr_logform.specs.declared.entry.Entry.{Entry}
use Rattle.sr_logform.specs.declared.op.Op.{Op}
use Rattle.sr_scan.specs.Inner.Images.{told}
use Rattle.sr_scan.specs.Inner.Meanings.{IsGiven}
use Rattle.sr_send.proofs.Jumps.{reached_none}
use Rattle.sr_send.proofs.Told.{place_known}
use Rattle.sr_send.specs.Inner.Places.{IsPlaceOf}
use Rattle.sr_send.specs.Inner.Surveys.{CanTell, IsWhole, KnowsAllOf}
use Rattle.sr_send_needs.proofs.Followed.{IsEndOfEach, database_on, read_none, read_on, told_then}
use Rattle.sr_send_needs.proofs.Listings.{need_is_there, none_within, reached_past, within_some}
use Rattle.sr_send_needs.proofs.Takings.{whole_on}
use Rattle.sr_send_needs.specs.Inner.Listing.{FindsAt, IsAnyAt, IsAnyBy, IsLesser, IsNextWithin, ListsNoneWithin, LookedAmong}
use Rattle.sr_send_needs.specs.Needs.{any_ops}
use Rattle.sr_site.specs.Seen.{Seen}
use Rattle.sr_survey.specs.Inner.Surveyed.{IsPlace}
use Rattle.sr_survey.specs.declared.survey.Survey.{Survey}
use Rattle.sr_survey_places.specs.declared.place.Place.{Place}

-- ---- the entry at a place

-- an entry gives something where there are ops
pub any_given : (c d : Lists) (e : Entry) (user : Name) (ops : List Op) (any : Bool) → d ≡ c → IsGiven d e user ops → any ≡ any_ops ops → IsAnyBy c e user any
any_given c d e user ops any same given is =
    let here : IsGiven c e user ops = subst (λ (l : Lists). IsGiven l e user ops) same given in
    record { meant = here.meant; are = here.are; any_is = is ∙ ap any_ops here.gives }

-- what was read where a place begins is the entry there
any_at_place : (es : List Recorded) (s : Survey) (user : Name) (place : Place) (end : Offset) (entry : Entry) (any : Bool) → (there : IsPlace es place) → IsNextEntry there.first (there.entry ∷ there.rest) end entry → IsAnyBy s.catalog entry user any
    → IsAnyAt es s user place any
any_at_place es s user place end entry any there next by =
    let same : there.entry ≡ next.r = cases next.left_is in
    record {
      there = there;
      by = subst (λ (e : Entry). IsAnyBy s.catalog e user any) (next.entry_is ∙ ap entry_of (sym same)) by;
    }
  where
    cases : there.entry ∷ there.rest ≡ next.r ∷ next.rest → there.entry ≡ next.r
    cases e = cc

module _ (db : View) (s : Survey) (user : Name) (place : Place) (seen : Seen) (place_is : IsPlaceOf db place seen) where
  -- what `entry_read` says of what it read
  abbrev pub ReadAt : Option (Offset × Entry) → Type 0
  ReadAt found = IsTrue seen.observable → (publisher : Name) (done left : List Recorded) → IsDatabase db publisher (done ++ left) seen → place.start ≡ end_of done → IsEntryAfter done left found

  read_there : (o : Option (Offset × Entry)) → ReadAt o → IsTrue seen.observable → (publisher : Name) (es : List Recorded) → IsDatabase db publisher es seen → (there : IsPlace es place) × IsEntryAfter there.first (there.entry ∷ there.rest) o
  read_there o read told publisher es database =
      let there : IsPlace es place = (place_is told publisher es database).0 in
      (there, read told publisher there.first (there.entry ∷ there.rest) (subst (λ (rs : List Recorded). IsDatabase db publisher rs seen) there.parts database) (ap (λ (p : Place). p.start) there.is))

  pub found_some : (end : Offset) (entry : Entry) (answer : Result Bool DatabaseFault) → ReadAt (Some (end, entry)) → IfOk answer (IsAnyBy s.catalog entry user) → IfOk answer (FindsAt db s user place seen)
  found_some end entry (Ok any) read by = λ told publisher es database.
      let r = read_there (Some (end, entry)) read told publisher es database in
      any_at_place es s user place end entry any r.0 r.1 by
  found_some end entry (Err fault) read by = tt

  pub found_none : (any : Bool) → ReadAt None → FindsAt db s user place seen any
  found_none any read told publisher es database =
      let r = read_there None read told publisher es database in
      absurd (let e : r.0.entry ∷ r.0.rest ≡ [] = r.1 in cc)

  -- it begins where an entry ends
  pub place_ends : IsEndOfEach db (offset_from place.start) seen
  place_ends told publisher es database =
      let there : IsPlace es place = (place_is told publisher es database).0 in
      record { done = there.first; left = there.entry ∷ there.rest; parts = there.parts; place_is = ap (λ (p : Place). p.start) there.is }

-- what is no place is none
pub none_found : (s : Survey) (user : Name) (at limit : ℕ) (found : Option Place) → ((place : Place) → found ≡ Some place → ⊥) → IsNextWithin s user at limit found → IsNextWithin s user at limit None
none_found s user at limit None none n = n
none_found s user at limit (Some place) none n = absurd (none place refl)

-- ---- one after the other

-- nothing is listed that begins before the limit
pub none_listed : (db : View) (s : Survey) (user : Name) (sent : ℕ) (limit : Offset) (first : Seen) → IsWhole db s first → limit.0 ≤ db.log.end → ListsNoneWithin s user sent limit.0 → IsLesser db user sent limit.0 first limit
none_listed db s user sent limit first whole within none told publisher es database =
    let k = whole none.kept told publisher es database in
    let end : db.log.end ≡ end_of es = database.is.end in
    none_within publisher user es s sent k.has sent limit.0 (reached_none publisher user es k.before k.behind s.begin sent k.begins k.begin_is none.begun) none.next (omega (arith, within, end))

module _ (db : View) (s : Survey) (user : Name) (sent : ℕ) (limit : Offset) (first : Seen) (can : CanTell s user sent) (whole : IsWhole db s first) where
  known : (publisher : Name) (es : List Recorded) → IsTrue first.observable → IsDatabase db publisher es first → KnowsAllOf db.log.base publisher es s
  known publisher es told database = whole can.kept told publisher es database

  pub look_start : LookedAmong db s user sent sent first first
  look_start = record {
    read = read_none first;
    steady = refl;
    past = omega arith;
    reached = λ told publisher es database.
        let k = known publisher es told database in
        reached_none publisher user es k.before k.behind s.begin sent k.begins k.begin_is can.begun;
  }

  module _ (at : ℕ) (before : Seen) (looked : LookedAmong db s user sent at first before) where
    -- the next place is one of the history
    pub look_place : (place : Place) → IsNextWithin s user at limit.0 (Some place) → IsPlaceOf db place before
    look_place place n =
        let begun : s.begin ≤ at = (let sent_first = can.begun in let past = looked.past in omega (arith, sent_first, past)) in
        place_known db s user at place before (λ told. whole_on db s first before looked.read whole can.kept told) begun (within_some s user at limit.0 place n).0

    -- it gives nothing
    pub look_on : (place : Place) (now : Seen) → IsNextWithin s user at limit.0 (Some place) → FindsAt db s user place before false → ReadAlone before now → now.disk_faults ≡ before.disk_faults → LookedAmong db s user sent place.end first now
    look_on place now n finds read steady = record {
      read = read_on first before now looked.read read;
      steady = steady ∙ looked.steady;
      past = let late : at < place.end = (within_some s user at limit.0 place n).0.1 in let past = looked.past in omega (arith, late, past);
      reached = λ told publisher es database.
          reached_past publisher user es s sent (known publisher es told database).has database.is.stored can at place false (looked.reached told publisher es database) looked.past (within_some s user at limit.0 place n).0
          (finds (told_then first before looked.read told) publisher es (database_on db publisher es first before looked.read told database)) refl;
    }

    -- it gives something
    pub look_stops : (place : Place) → IsNextWithin s user at limit.0 (Some place) → FindsAt db s user place before true → IsLesser db user sent limit.0 first (offset_from place.start)
    look_stops place n finds told publisher es database =
        let need =
        need_is_there publisher user es s sent (known publisher es told database).has database.is.stored can at place true (looked.reached told publisher es database) looked.past (within_some s user at limit.0 place n).0
        (finds (told_then first before looked.read told) publisher es (database_on db publisher es first before looked.read told database)) refl in
        let early : place.start < limit.0 = (within_some s user at limit.0 place n).1 in
        omega (arith, need, early)

    -- there is none
    pub look_ends : limit.0 ≤ db.log.end → IsNextWithin s user at limit.0 None → IsLesser db user sent limit.0 first limit
    look_ends within n told publisher es database =
        let end : db.log.end ≡ end_of es = database.is.end in
        none_within publisher user es s sent (known publisher es told database).has at limit.0 (looked.reached told publisher es database) n (omega (arith, within, end))
