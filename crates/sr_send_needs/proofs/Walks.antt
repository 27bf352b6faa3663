-- Where the log is read on from.
use Rattle.std.proofs.Common.{◌≡◌, ℕ, ◌≤◌, ◌<◌, true, false, List, [], ◌++◌, refl, sym, ap, subst, ◌∙◌, arith, append_assoc}
use Rattle.std.specs.Prelude.{IsTrue}
use Rattle.std.proofs.lemmas.List.{append-nil}
use Rattle.sr_base.specs.declared.offset.Offset.{Offset}
use Rattle.sr_book.specs.Entries.{Name}
use Rattle.sr_database.specs.Databases.{IsDatabase}
use Rattle.sr_database.specs.Inner.Entries.{IsNextEnd}
use Rattle.sr_database.specs.Inner.Sound.{IsSound}
use Rattle.sr_database.specs.Views.{View}
use Rattle.sr_database_files.specs.Inner.Openings.{ReadAlone}
use Rattle.sr_database_history.specs.Folds.{state_of, end_of}
use Rattle.sr_database_history.specs.Recorded.{Recorded}
use Rattle.sr_send.proofs.Starts.{part_on, still_on, none_rest}
use Rattle.sr_send.specs.Inner.Starts.{IsStillEnd, IsStill}
use Rattle.sr_send_needs.proofs.Followed.{IsEndOfEach, database_back, database_on, read_none, read_on, told_before, told_then}
use Rattle.sr_send_needs.specs.Inner.Starting.{WalkedTo, LookedTo, IsStart}
use Rattle.sr_send_needs.specs.declared.start.Start.{Start}
use Rattle.sr_site.specs.Seen.{Seen}

-- ---- the ends

pub walk_start : (db : View) (sent : ℕ) (at : Offset) (seen : Seen) → IsSound db → at.0 ≡ db.log.base → db.log.base ≤ sent → WalkedTo db sent at seen seen
walk_start db sent at seen sound at_is before = record {
  read = read_none seen;
  steady = refl;
  from_base = omega (arith, at_is);
  within = omega (arith, at_is, sound.order.order);
  before_sent = omega (arith, at_is, before);
  part = λ told publisher es database.
      let b = database.is.based in
      record { done = b.done; left = b.left; parts = b.parts; at_is = at_is ∙ b.base_is; before = omega (arith, at_is, before) };
}

pub walk_on : (db : View) (sent : ℕ) (at end : Offset) (first before now : Seen) → WalkedTo db sent at first before → ReadAlone before now → now.disk_faults ≡ before.disk_faults → (at.0 < end.0) × (end.0 ≤ db.log.end) × (end.0 ≤ sent)
    → (IsTrue before.observable → (publisher : Name) (done left : List Recorded) → IsDatabase db publisher (done ++ left) before → at.0 ≡ end_of done → IsNextEnd done left end) → WalkedTo db sent end first now
walk_on db sent at end first before now walked read steady within found = record {
  read = read_on first before now walked.read read;
  steady = steady ∙ walked.steady;
  from_base = omega (arith, walked.from_base, within.0);
  within = within.1;
  before_sent = within.2;
  part = λ told publisher es database.
      let part = walked.part told publisher es database in
      let here = database_on db publisher es first before walked.read told database in
      part_on es sent at end part
      (found (told_then first before walked.read told) publisher part.done part.left (subst (λ (rs : List Recorded). IsDatabase db publisher rs before) part.parts here) part.at_is) within.2;
}

pub walk_end : (db : View) (sent : ℕ) (at : Offset) (first before now : Seen) → WalkedTo db sent at first before → ReadAlone before now → now.disk_faults ≡ before.disk_faults → WalkedTo db sent at first now
walk_end db sent at first before now walked read steady = record {
  read = read_on first before now walked.read read;
  steady = steady ∙ walked.steady;
  from_base = walked.from_base;
  within = walked.within;
  before_sent = walked.before_sent;
  part = walked.part;
}

pub walked_end : (db : View) (sent : ℕ) (at : Offset) (first now : Seen) → WalkedTo db sent at first now → IsEndOfEach db at first
walked_end db sent at first now walked told publisher es database =
    let part = walked.part told publisher es database in
    record { done = part.done; left = part.left; parts = part.parts; place_is = part.at_is }

-- where they were read before
pub end_then : (db : View) (at : Offset) (first before : Seen) → ReadAlone first before → IsEndOfEach db at first → IsEndOfEach db at before
end_then db at first before read ends told publisher es database =
    let was = told_before first before read told in
    ends was publisher es (database_back db publisher es first before read was database)

-- ---- the catalog

pub look_start : (db : View) (from : Offset) (seen : Seen) → (db.log.base ≤ from.0) × (from.0 ≤ db.log.end) → LookedTo db from from seen seen
look_start db from seen within = record {
  read = read_none seen;
  steady = refl;
  from_base = within.0;
  within = within.1;
  still = λ told publisher done left database at. record {
    more = [];
    rest = left;
    parts = refl;
    at_is = at ∙ ap end_of (sym (append-nil done));
    catalog = ap (λ (rs : List Recorded). (state_of publisher rs).catalog) (append-nil done);
  };
}

pub look_on : (db : View) (from at end : Offset) (first before now : Seen) → LookedTo db from at first before → ReadAlone before now → now.disk_faults ≡ before.disk_faults → (at.0 < end.0) × (end.0 ≤ db.log.end)
    → (IsTrue before.observable → (publisher : Name) (done left : List Recorded) → IsDatabase db publisher (done ++ left) before → at.0 ≡ end_of done → IsStillEnd done left end) → LookedTo db from end first now
look_on db from at end first before now looked read steady within found = record {
  read = read_on first before now looked.read read;
  steady = steady ∙ looked.steady;
  from_base = omega (arith, looked.from_base, within.0);
  within = within.1;
  still = λ told publisher done left database is.
      let to = looked.still told publisher done left database is in
      let whole : done ++ left ≡ (done ++ to.more) ++ to.rest = ap (λ (rs : List Recorded). done ++ rs) to.parts ∙ sym (append_assoc done to.more to.rest) in
      let here = database_on db publisher (done ++ left) first before looked.read told database in
      still_on publisher done left at end database.is.stored to
      (found (told_then first before looked.read told) publisher (done ++ to.more) to.rest (subst (λ (rs : List Recorded). IsDatabase db publisher rs before) whole here) to.at_is);
}

pub look_end : (db : View) (from at : Offset) (first now : Seen) → LookedTo db from at first now → at.0 ≡ db.log.end → IsStill db from first
look_end db from at first now looked ends told publisher done left database is =
    let to = looked.still told publisher done left database is in
    let whole : done ++ left ≡ (done ++ to.more) ++ to.rest = ap (λ (rs : List Recorded). done ++ rs) to.parts ∙ sym (append_assoc done to.more to.rest) in
    let last : end_of (done ++ to.more) ≡ end_of ((done ++ to.more) ++ to.rest) = sym to.at_is ∙ ends ∙ database.is.end ∙ ap end_of whole in
    let all : done ++ left ≡ done ++ to.more = whole ∙ ap (λ (rs : List Recorded). (done ++ to.more) ++ rs) (none_rest (done ++ to.more) to.rest last) ∙ append-nil (done ++ to.more) in
    database.is.catalog ∙ ap (λ (rs : List Recorded). (state_of publisher rs).catalog) all ∙ to.catalog

pub look_ends : (db : View) (from at : Offset) (first now : Seen) → IsEndOfEach db from first → LookedTo db from at first now → IsEndOfEach db at first
look_ends db from at first now ends looked told publisher es database =
    let end = ends told publisher es database in
    let to = looked.still told publisher end.done end.left (subst (λ (rs : List Recorded). IsDatabase db publisher rs first) end.parts database) end.place_is in
    record {
      done = end.done ++ to.more;
      left = to.rest;
      parts = end.parts ∙ ap (λ (rs : List Recorded). end.done ++ rs) to.parts ∙ sym (append_assoc end.done to.more to.rest);
      place_is = to.at_is;
    }

-- ---- the beginning

pub start_here : (db : View) (sent : ℕ) (start : Start) (first before : Seen) → start.is_now ≡ true → WalkedTo db sent start.at first before → IsStill db start.at before → IsStart db start first
start_here db sent start first before is walked still = record {
  from_base = walked.from_base;
  within = walked.within;
  there = λ told publisher es database.
      let part = walked.part told publisher es database in
      let here = database_on db publisher es first before walked.read told database in
      let same = still (told_then first before walked.read told) publisher part.done part.left (subst (λ (rs : List Recorded). IsDatabase db publisher rs before) part.parts here) part.at_is in
      record { done = part.done; left = part.left; parts = part.parts; at_is = part.at_is; catalog_is = rw is same };
}

pub start_base : (db : View) (start : Start) (seen : Seen) → IsSound db → start.is_now ≡ false → start.at.0 ≡ db.log.base → IsStart db start seen
start_base db start seen sound is at_is = record {
  from_base = omega (arith, at_is);
  within = omega (arith, at_is, sound.order.order);
  there = λ told publisher es database.
      let b = database.is.based in
      record { done = b.done; left = b.left; parts = b.parts; at_is = at_is ∙ b.base_is; catalog_is = rw is b.catalog_is };
}

pub start_on : (db : View) (start : Start) (first before : Seen) → ReadAlone first before → IsStart db start first → IsStart db start before
start_on db start first before read starts = record {
  from_base = starts.from_base;
  within = starts.within;
  there = λ told publisher es database.
      let was = told_before first before read told in
      starts.there was publisher es (database_back db publisher es first before read was database);
}
