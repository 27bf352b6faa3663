-- Where a log is read on from.
use Rattle.std.proofs.Common.{◌≡◌, ℕ, ◌+◌, ◌≤◌, ◌<◌, List, [], ◌∷◌, ◌++◌, inl, inr, Option, refl, sym, ap, subst, ◌∙◌, arith, append_assoc}
use Rattle.std.specs.Prelude.{IsTrue, max, IfErr, Result, Ok, Err}
use Rattle.std.proofs.lemmas.List.{append-nil}
use Rattle.sr_base.specs.declared.offset.Offset.{Offset}
use Rattle.sr_book.specs.Entries.{Name}
use Rattle.sr_database.specs.Databases.{IsDatabase}
use Rattle.sr_database.specs.Inner.Sound.{IsSound}
use Rattle.sr_database.specs.Inner.Entries.{IsNextEnd, IsNextKind}
use Rattle.sr_database.specs.Views.{View}
use Rattle.sr_database_history.specs.Fitting.{Stored}
use Rattle.sr_database_history.specs.Folds.{State, fresh, size, state_of, end_of}
use Rattle.sr_database_history.specs.Recorded.{Recorded, entry_of}
use Rattle.sr_database_history.proofs.Joined.{state_from-more, end_from-append, le-end_from}
use Rattle.sr_database_history.proofs.Kept.{stored_holds}
use Rattle.sr_logform.specs.Entries.{entry_spelling}
use Rattle.sr_logform.specs.declared.entry.Entry.{Entry}
use Rattle.sr_logform.specs.declared.entry.Entry.TheVariants.{Own, From, Ddl, Sync, Pass, Note}
use Rattle.sr_logform.specs.declared.op.Transaction.{Transaction}
use Rattle.sr_scan.specs.Inner.Images.{told}
use Rattle.sr_scan.specs.Inner.Scanners.{Scan, IsFed, transaction_of}
use Rattle.sr_scan.proofs.Agreeing.{fed_same}
use Rattle.sr_site.specs.Seen.{Seen}
use Rattle.sr_send.specs.Inner.Aims.{IsAim, HasMade}
use Rattle.sr_send.specs.Inner.Passing.{RunsNothing}
use Rattle.sr_send.specs.Posting.{IsSteady}
use Rattle.sr_send.specs.Inner.Posting.{Posted}
use Rattle.sr_send.specs.Inner.Starts.{IsPartAt, Walked, IsStillEnd, IsStillKind, IsStillTo, Looked, IsStill, Begun, BeginStop}
use Rattle.sr_send.specs.Inner.Steps.{HasRead, UnderWay}
use Rattle.sr_send.specs.Inner.Stops.{NextFault, ReadStop}
use Rattle.sr_send.specs.Unsent.{unsent}
use Rattle.sr_send.specs.declared.aim.Aim.{Aim}
use Rattle.sr_send.specs.declared.fault.SendFault.{SendFault}
use Rattle.sr_send.specs.declared.fault.SendFault.TheVariants.{Disk, Full, Long, Mail, Memory}
use Rattle.sr_send.specs.declared.post.Post.{Post}
use Rattle.sr_send.proofs.Posts.{told_then, posted_none, posted_on, posted_database, same_counts, steady_on, ends_none, ends_on, ends_steady, rose_from}
use Rattle.sr_send.proofs.Still.{passed_still}
use Rattle.sr_send.proofs.Cutting.{made_prefix}
use Rattle.sr_send.proofs.Histories.{fits_next, none_unsent, read_none}
use Rattle.sr_send.proofs.Loops.{fault_from, next_fault}

-- ---- the ends

pub read_on : (before middle now : Seen) → Posted before middle [] → Posted middle now [] → Posted before now []
read_on before middle now one two = posted_on before middle now [] [] refl one two

pub walk_start : (db : View) (sent : ℕ) (at : Offset) (seen : Seen) → IsSound db → at.0 ≡ db.log.base → Walked db sent at seen seen
walk_start db sent at seen sound at_is =
    record {
      posted = posted_none seen;
      steady = same_counts seen;
      from_base = omega (arith, at_is);
      within = omega (arith, at_is, sound.order.order);
      part = λ told publisher es database.
          let based = database.is.based in
          record { done = based.done; left = based.left; parts = based.parts; at_is = at_is ∙ based.base_is; before = omega (arith, at_is) };
    }

pub part_on : (es : List Recorded) (sent : ℕ) (at end : Offset) → (part : IsPartAt es sent at) → IsNextEnd part.done part.left end → end.0 ≤ sent → IsPartAt es sent end
part_on es sent at end part next_is before = record {
  done = part.done ++ next_is.r ∷ [];
  left = next_is.rest;
  parts = part.parts ∙ ap (λ (rs : List Recorded). part.done ++ rs) next_is.left_is ∙ sym (append_assoc part.done (next_is.r ∷ []) next_is.rest);
  at_is = next_is.end_is;
  before = before;
}

pub walk_on : (db : View) (sent : ℕ) (at end : Offset) (first before now : Seen) → Walked db sent at first before → Posted before now [] → IsSteady before now → (at.0 < end.0) × (end.0 ≤ db.log.end) × (end.0 ≤ sent)
    → (IsTrue before.observable → (publisher : Name) (done left : List Recorded) → IsDatabase db publisher (done ++ left) before → at.0 ≡ end_of done → IsNextEnd done left end) → Walked db sent end first now
walk_on db sent at end first before now walked read steady within found = record {
  posted = read_on first before now walked.posted read;
  steady = steady_on first before now walked.steady steady;
  from_base = omega (arith, walked.from_base, within.0);
  within = within.1;
  part = λ told publisher es database.
      let part = walked.part told publisher es database in
      let here = posted_database db publisher es first before _ walked.posted told database in
      part_on es (max db.log.base sent) at end part
      (found (told_then first before walked.posted.stays told) publisher part.done part.left (subst (λ (rs : List Recorded). IsDatabase db publisher rs before) part.parts here) part.at_is) (omega (arith, within.2));
}

pub walk_end : (db : View) (sent : ℕ) (at : Offset) (first before now : Seen) → Walked db sent at first before → Posted before now [] → IsSteady before now → Walked db sent at first now
walk_end db sent at first before now walked read steady = record {
  posted = read_on first before now walked.posted read;
  steady = steady_on first before now walked.steady steady;
  from_base = walked.from_base;
  within = walked.within;
  part = walked.part;
}

pub begin_stopped : (first before now : Seen) (fault : SendFault) → Posted first before [] → IsSteady first before → Posted before now [] → now.mail_faults ≡ before.mail_faults → NextFault before now fault
    → BeginStop first now fault
begin_stopped first before now fault posted steady read mail cause = record {
  posted = read_on first before now posted read;
  cause = fault_from first before now [] fault steady (next_fault before now fault mail cause);
  ends = ends_on first before now steady (ends_none before now read.mail);
}

-- ---- the catalog

-- an entry of which no statement ran
pub still_next : (publisher : Name) (done left : List Recorded) (end : Offset) → Stored publisher (done ++ left) → (still : IsStillEnd done left end) → (state_of publisher (done ++ still.r ∷ [])).catalog ≡ (state_of publisher done).catalog
still_next publisher done left end stored still =
    let r = still.r in
    let s = state_of publisher done in
    let fits = fits_next publisher (done ++ left) done still.rest r stored (ap (λ (rs : List Recorded). done ++ rs) still.left_is) in
    let scan : Scan = record { catalog = s.catalog; user = [] } in
    let passed = passed_still scan (entry_of r) still.nothing in
    let found : Option Transaction = transaction_of end (told scan.catalog (entry_of r) passed.meant scan.user) in
    let fed : IsFed scan end (entry_of r) found scan = record { meant = passed.meant; are = passed.are; gives = refl; catalog = passed.catalog; user = refl } in
    ap (λ (x : State). x.catalog) (state_from-more (fresh publisher) done r) ∙ sym (fed_same s (end_of done) r scan scan end found (stored_holds publisher done fits.0) fits.1 refl fed).1

-- by its kind
still_by : (e : Entry) (kind : ℕ) (more : List ℕ) → entry_spelling e ≡ kind ∷ more → IsStillKind kind → RunsNothing e
unfolding entry_spelling
still_by (Own changes) kind more is still = tt
still_by (From user at ops) kind more is still = absurd (cases still)
  where
    cases : IsStillKind kind → ⊥
    cases (inl one) = let two : 2 ≡ kind = cc in absurd (omega (arith, two, one))
    cases (inr (inl four)) = let two : 2 ≡ kind = cc in absurd (omega (arith, two, four))
    cases (inr (inr six)) = let two : 2 ≡ kind = cc in absurd (omega (arith, two, six))
still_by (Ddl text) kind more is still = absurd (cases still)
  where
    cases : IsStillKind kind → ⊥
    cases (inl one) = let three : 3 ≡ kind = cc in absurd (omega (arith, three, one))
    cases (inr (inl four)) = let three : 3 ≡ kind = cc in absurd (omega (arith, three, four))
    cases (inr (inr six)) = let three : 3 ≡ kind = cc in absurd (omega (arith, three, six))
still_by (Sync user tables) kind more is still = tt
still_by (Pass users only text changes) kind more is still = absurd (cases still)
  where
    cases : IsStillKind kind → ⊥
    cases (inl one) = let five : 5 ≡ kind = cc in absurd (omega (arith, five, one))
    cases (inr (inl four)) = let five : 5 ≡ kind = cc in absurd (omega (arith, five, four))
    cases (inr (inr six)) = let five : 5 ≡ kind = cc in absurd (omega (arith, five, six))
still_by (Note user note) kind more is still = tt

pub kind_still : (done left : List Recorded) (end : Offset) (kind : ℕ) → IsNextKind done left end kind → IsStillKind kind → IsStillEnd done left end
kind_still done left end kind n still = record {
  r = n.r;
  rest = n.rest;
  left_is = n.left_is;
  end_is = n.end_is;
  nothing = still_by (entry_of n.r) kind n.more n.kind_is still;
}

-- a fault of a later read
next_from : (before middle now : Seen) (fault : SendFault) → IsSteady before middle → NextFault middle now fault → NextFault before now fault
next_from before middle now Disk steady cause = rose_from before.disk_faults middle.disk_faults now.disk_faults steady.disk cause
next_from before middle now Mail steady cause = absurd cause
next_from before middle now (Full end need) steady cause = absurd cause
next_from before middle now (Long size limit) steady cause = absurd cause
next_from before middle now Memory steady cause = cause ∙ steady.disk

pub later_next : {T : Type 0} (before middle now : Seen) (result : Result T SendFault) → IsSteady before middle → IfErr result (NextFault middle now) → IfErr result (NextFault before now)
later_next before middle now (Ok x) steady cause = tt
later_next before middle now (Err fault) steady cause = next_from before middle now fault steady cause

pub look_start : (db : View) (from : Offset) (seen : Seen) → (db.log.base ≤ from.0) × (from.0 ≤ db.log.end) → Looked db from from seen seen
look_start db from seen within = record {
  posted = posted_none seen;
  steady = same_counts seen;
  from_base = within.0;
  within = within.1;
  still = λ told publisher done left database at. record {
    more = [];
    rest = left;
    parts = refl;
    at_is = at ∙ ap end_of (sym (append-nil done));
    catalog = ap (λ (rs : List Recorded). (state_of publisher rs).catalog) (append-nil done);
  };
}

pub still_on : (publisher : Name) (done left : List Recorded) (at end : Offset) → Stored publisher (done ++ left) → (to : IsStillTo publisher done left at) → IsStillEnd (done ++ to.more) to.rest end → IsStillTo publisher done left end
still_on publisher done left at end stored to still =
    let whole : done ++ left ≡ (done ++ to.more) ++ to.rest = ap (λ (rs : List Recorded). done ++ rs) to.parts ∙ sym (append_assoc done to.more to.rest) in
    let joined : (done ++ to.more) ++ still.r ∷ [] ≡ done ++ (to.more ++ still.r ∷ []) = append_assoc done to.more (still.r ∷ []) in
    record {
      more = to.more ++ still.r ∷ [];
      rest = still.rest;
      parts = to.parts ∙ ap (λ (rs : List Recorded). to.more ++ rs) still.left_is ∙ sym (append_assoc to.more (still.r ∷ []) still.rest);
      at_is = still.end_is ∙ ap end_of joined;
      catalog =
          ap (λ (rs : List Recorded). (state_of publisher rs).catalog) (sym joined)
          ∙ still_next publisher (done ++ to.more) to.rest end (subst (λ (rs : List Recorded). Stored publisher rs) whole stored) still ∙ to.catalog;
    }

pub look_on : (db : View) (from at end : Offset) (first before now : Seen) → Looked db from at first before → Posted before now [] → IsSteady before now → (at.0 < end.0) × (end.0 ≤ db.log.end)
    → (IsTrue before.observable → (publisher : Name) (done left : List Recorded) → IsDatabase db publisher (done ++ left) before → at.0 ≡ end_of done → IsStillEnd done left end) → Looked db from end first now
look_on db from at end first before now looked read steady within found = record {
  posted = read_on first before now looked.posted read;
  steady = steady_on first before now looked.steady steady;
  from_base = omega (arith, looked.from_base, within.0);
  within = within.1;
  still = λ told publisher done left database is.
      let to = looked.still told publisher done left database is in
      let whole : done ++ left ≡ (done ++ to.more) ++ to.rest = ap (λ (rs : List Recorded). done ++ rs) to.parts ∙ sym (append_assoc done to.more to.rest) in
      let here = posted_database db publisher (done ++ left) first before _ looked.posted told database in
      still_on publisher done left at end database.is.stored to
      (found (told_then first before looked.posted.stays told) publisher (done ++ to.more) to.rest (subst (λ (rs : List Recorded). IsDatabase db publisher rs before) whole here) to.at_is);
}

-- nothing is left where the ends are one
pub none_rest : (done rest : List Recorded) → end_of done ≡ end_of (done ++ rest) → rest ≡ []
none_rest done [] same = refl
none_rest done (r ∷ rs) same =
    let end = end_of done + (size r + 5) in
    absurd (omega (arith, same, end_from-append 0 done (r ∷ rs), le-end_from end rs))

pub look_end : (db : View) (from at : Offset) (first now : Seen) → Looked db from at first now → at.0 ≡ db.log.end → IsStill db from first
look_end db from at first now looked ends told publisher done left database is =
    let to = looked.still told publisher done left database is in
    let whole : done ++ left ≡ (done ++ to.more) ++ to.rest = ap (λ (rs : List Recorded). done ++ rs) to.parts ∙ sym (append_assoc done to.more to.rest) in
    let last : end_of (done ++ to.more) ≡ end_of ((done ++ to.more) ++ to.rest) = sym to.at_is ∙ ends ∙ database.is.end ∙ ap end_of whole in
    let all : done ++ left ≡ done ++ to.more = whole ∙ ap (λ (rs : List Recorded). (done ++ to.more) ++ rs) (none_rest (done ++ to.more) to.rest last) ∙ append-nil (done ++ to.more) in
    database.is.catalog ∙ ap (λ (rs : List Recorded). (state_of publisher rs).catalog) all ∙ to.catalog

-- ---- the beginning

pub begun_here : (db : View) (aim : Aim) (scan : Scan) (after : Offset) (first before now : Seen) → Walked db aim.prev.0 after first before → Posted before now [] → IsSteady before now → IsStill db after before → scan.catalog ≡ db.catalog
    → Begun db aim scan after first now
begun_here db aim scan after first before now walked read steady still catalog = record {
  posted = read_on first before now walked.posted read;
  steady = steady_on first before now walked.steady steady;
  from_base = walked.from_base;
  within = walked.within;
  read = λ told publisher es database.
      let part = walked.part told publisher es database in
      let here = posted_database db publisher es first before _ walked.posted told database in
      record {
        done = part.done;
        left = part.left;
        parts = part.parts;
        after_is = part.at_is;
        catalog = catalog ∙ still (told_then first before walked.posted.stays told) publisher part.done part.left (subst (λ (rs : List Recorded). IsDatabase db publisher rs before) part.parts here) part.at_is;
        user_is = refl;
        from_base = walked.from_base;
        pushed_are = sym (none_unsent publisher scan.user part.done (max db.log.base aim.prev.0) (omega (arith, part.at_is, part.before)));
      };
}

pub begun_base : (db : View) (aim : Aim) (scan : Scan) (sent : ℕ) (at after : Offset) (first before now : Seen) → IsSound db → Walked db sent at first before → Posted before now [] → IsSteady before now → after.0 ≡ db.log.base → scan.catalog ≡ db.base_catalog
    → Begun db aim scan after first now
begun_base db aim scan sent at after first before now sound walked read steady at_is catalog =
    record {
      posted = read_on first before now walked.posted read;
      steady = steady_on first before now walked.steady steady;
      from_base = omega (arith, at_is);
      within = omega (arith, at_is, sound.order.order);
      read = λ told publisher es database. read_none db publisher es scan.user aim.prev.0 after scan database.is at_is catalog refl;
    }

-- it ended after the ends
pub later_stopped : (db : View) (sent : ℕ) (at : Offset) (first before now : Seen) (fault : SendFault) → Walked db sent at first before → BeginStop before now fault → BeginStop first now fault
later_stopped db sent at first before now fault walked stop = record {
  posted = read_on first before now walked.posted stop.posted;
  cause = fault_from first before now [] fault walked.steady stop.cause;
  ends = ends_on first before now walked.steady stop.ends;
}

-- there was no memory for a scanner
pub begin_short : (db : View) (sent : ℕ) (at : Offset) (first before now : Seen) → Walked db sent at first before → Posted before now [] → IsSteady before now → BeginStop first now Memory
begin_short db sent at first before now walked read steady = record {
  posted = read_on first before now walked.posted read;
  cause = (steady.disk ∙ walked.steady.disk, steady.mail ∙ walked.steady.mail);
  ends = ends_on first before now walked.steady (ends_steady before now steady);
}

pub under_begun : (db : View) (aim : Aim) (user : Name) (scan : Scan) (post : Post) (after : Offset) (first now : Seen) → HasMade aim post [] [] → Begun db aim scan after first now → scan.user ≡ user → UnderWay db aim user scan post after first now
under_begun db aim user scan post after first now made begun user_is =
    let end_is : post.end.0 ≡ aim.prev.0 = ap (λ (o : Offset). o.0) made.end_is in
    record {
      pushed = [];
      messages = [];
      made = made;
      posted = begun.posted;
      spelled = tt;
      steady = begun.steady;
      from_base = begun.from_base;
      within = begun.within;
      behind = λ n past further. omega (arith, end_is, past);
      read = λ told publisher es database. subst (λ (u : Name). HasRead db.log.base publisher es u aim.prev.0 after scan []) user_is (begun.read told publisher es database);
    }

pub unbegun : (db : View) (aim : Aim) (user : Name) (post : Post) (before now : Seen) (fault : SendFault) → IsAim aim → HasMade aim post [] [] → BeginStop before now fault → ReadStop db aim user before now fault
unbegun db aim user post before now fault good made stop = record {
  pushed = [];
  messages = [];
  prefix = made_prefix aim post [] [] good made;
  posted = stop.posted;
  spelled = tt;
  begins = λ told publisher es database. record { rest = unsent publisher es user (max db.log.base aim.prev.0); parts = refl };
  cause = stop.cause;
  ends = stop.ends;
}
