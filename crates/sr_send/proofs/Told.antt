-- Places of a survey, told one after the other.
use Rattle.std.proofs.Common.{◌≡◌, ◌⊎◌, inl, inr, ℕ, ◌+◌, ◌≤◌, ◌<◌, Bool, List, [], ◌∷◌, ◌++◌, Option, Some, None, Result, Ok, Err, refl, sym, ap, subst, ◌∙◌, arith}
use Rattle.std.specs.Prelude.{IsTrue, max, IfOk, IfErr, IfSome, OnOk}
use Rattle.std.proofs.lemmas.List.{append-nil}
use Rattle.sr_base.specs.Values.{offset_from}
use Rattle.sr_base.specs.declared.offset.Offset.{Offset}
use Rattle.sr_book.specs.Entries.{Name}
use Rattle.sr_mail_cut.proofs.Lists.{AllByRecursion-append}
use Rattle.sr_catalog_schema.specs.Catalogs.{Lists}
use Rattle.sr_database.specs.Databases.{IsDatabase}
use Rattle.sr_database.specs.Inner.Entries.{IsEntryAfter, IsNext as IsNextEntry}
use Rattle.sr_database.specs.Views.{View}
use Rattle.sr_database_history.specs.Folds.{end_of}
use Rattle.sr_database_history.specs.Recorded.{Recorded, entry_of}
use Rattle.sr_database_meaning.specs.Events.{Event}
use Rattle.sr_logform.specs.declared.entry.Entry.{Entry}
use Rattle.sr_logform.specs.declared.op.Op.{Op}
use Rattle.sr_logform.specs.declared.op.Transaction.{Transaction}
use Rattle.sr_msgform.specs.Messages.{IsMessage}
use Rattle.sr_scan.specs.Inner.Meanings.{IsGiven}
use Rattle.sr_scan.specs.Inner.Scanners.{transaction_of}
use Rattle.sr_site.specs.Seen.{Seen}
use Rattle.sr_survey.specs.Inner.Surveyed.{HasSurveyed, IsNext, IsPlace}
use Rattle.sr_survey.specs.declared.survey.Survey.{Survey}
use Rattle.sr_survey_places.specs.declared.place.Place.{Place}
use Rattle.sr_send.specs.Inner.Aims.{IsAim, HasMade, HasMadeSome}
use Rattle.sr_send.specs.Inner.Places.{AddedAt, AddedNext, FoundAt, HasReached, IsPlaceOf, IsToldAt, IsToldBy, NextStop, NoneNext, PlaceStop, PutPlace, Telling, ToldNext, WentOn}
use Rattle.sr_send.specs.Inner.Posting.{Posted}
use Rattle.sr_send.specs.Inner.Steps.{newer, AllRead, EndsWith, Pushed, stepped_to}
use Rattle.sr_send.specs.Inner.Stops.{IsPrefixOf, NextFault, PushStop, ReadStop}
use Rattle.sr_send.specs.Inner.Surveys.{CanTell, KnowsAll, ListsNothing}
use Rattle.sr_send.specs.Posting.{IsSteady}
use Rattle.sr_send.specs.PutFiles.{put_files}
use Rattle.sr_send.specs.Unsent.{unsent}
use Rattle.sr_send.specs.declared.aim.Aim.{Aim}
use Rattle.sr_send.specs.declared.fault.SendFault.{SendFault}
use Rattle.sr_send.specs.declared.fault.SendFault.TheVariants.{Memory}
use Rattle.sr_send.specs.declared.post.Post.{Post}
use Rattle.sr_send.proofs.Jumps.{reached_all, reached_next, reached_none, reached_prefix, starts_behind}
use Rattle.sr_send.proofs.Loops.{fault_from, long_of, next_fault, posted_behind_read, put_files_on, stop_from}
use Rattle.sr_send.proofs.Numbers.{no_commits}
use Rattle.sr_send.proofs.Posts.{ends_none, ends_on, posted_before, posted_database, posted_none, posted_on, same_counts, steady_on, told_then}
use Rattle.sr_send.proofs.Pushes.{nothing_put, stopped_short}

-- ---- the entry at a place

-- what was read where a place begins is the entry there
pub told_at_place : (es : List Recorded) (s : Survey) (user : Name) (place : Place) (end : Offset) (entry : Entry) (found : Option Transaction) → (there : IsPlace es place) → IsNextEntry there.first (there.entry ∷ there.rest) end entry
    → IsToldBy s.catalog entry user (offset_from place.end) found → IsToldAt es s user place found
told_at_place es s user place end entry found there next by =
    let same : there.entry ≡ next.r = cases next.left_is in
    record {
      there = there;
      by = subst (λ (e : Entry). IsToldBy s.catalog e user (offset_from place.end) found) (next.entry_is ∙ ap entry_of (sym same)) by;
    }
  where
    cases : there.entry ∷ there.rest ≡ next.r ∷ next.rest → there.entry ≡ next.r
    cases e = cc

module _ (db : View) (s : Survey) (user : Name) (place : Place) (seen : Seen) where
  -- what `entry_from` says of what it read
  abbrev pub ReadAt : Option (Offset × Entry) → Type 0
  ReadAt found = IsTrue seen.observable → (publisher : Name) (done left : List Recorded) → IsDatabase db publisher (done ++ left) seen → place.start ≡ end_of done → db.log.base ≤ place.start → IsEntryAfter done left found

  read_there : (o : Option (Offset × Entry)) → IsPlaceOf db place seen → ReadAt o → IsTrue seen.observable → (publisher : Name) (es : List Recorded) → IsDatabase db publisher es seen
      → (there : IsPlace es place) × IsEntryAfter there.first (there.entry ∷ there.rest) o
  read_there o place_is read told publisher es database =
      let both = place_is told publisher es database in
      let there : IsPlace es place = both.0 in
      (there, read told publisher there.first (there.entry ∷ there.rest) (subst (λ (rs : List Recorded). IsDatabase db publisher rs seen) there.parts database) (ap (λ (p : Place). p.start) there.is) both.1)

  pub found_there_some : (end : Offset) (entry : Entry) (found : Option Transaction) → IsPlaceOf db place seen → ReadAt (Some (end, entry)) → IsToldBy s.catalog entry user (offset_from place.end) found → FoundAt db s user place seen found
  found_there_some end entry found place_is read by told publisher es database =
      let r = read_there (Some (end, entry)) place_is read told publisher es database in
      told_at_place es s user place end entry found r.0 r.1 by

  pub found_there_none : (found : Option Transaction) → IsPlaceOf db place seen → ReadAt None → FoundAt db s user place seen found
  found_there_none found place_is read told publisher es database =
      let r = read_there None place_is read told publisher es database in
      absurd (let e : r.0.entry ∷ r.0.rest ≡ [] = r.1 in cc)

-- what an entry gives by a catalog that is equal
pub told_by_given : (c d : Lists) (e : Entry) (user : Name) (end : Offset) (ops : List Op) (found : Option Transaction) → d ≡ c → IsGiven d e user ops → found ≡ transaction_of end ops → IsToldBy c e user end found
told_by_given c d e user end ops found same given is =
    let here : IsGiven c e user ops = subst (λ (l : Lists). IsGiven l e user ops) same given in
    record { meant = here.meant; are = here.are; gives = is ∙ ap (λ (xs : List Op). transaction_of end xs) here.gives }

-- ---- what it gives, put

-- the place lies past what was pushed before
pub place_later : (sent : ℕ) (old : Offset) (place : Place) (found : Option Transaction) → old.0 < place.end → IfSome found (λ t. t.at ≡ offset_from place.end) → IfSome found (λ t. sent < t.at.0 → old.0 < t.at.0)
place_later sent old place None later at = tt
place_later sent old place (Some t) later at = λ past. subst (λ (o : Offset). old.0 < o.0) (sym at) later

ends_by : (old new : Offset) (place : Place) (found : Option Transaction) → old.0 < place.end → IfSome found (λ t. t.at ≡ offset_from place.end) → EndsWith old found new → new.0 ≤ place.end
ends_by old new place None later at same = subst (λ (o : Offset). o.0 ≤ place.end) (sym same) (omega (arith, later))
ends_by old new place (Some t) later at (inl same) = subst (λ (o : Offset). o.0 ≤ place.end) (sym same) (omega (arith, later))
ends_by old new place (Some t) later at (inr is) = let there : new ≡ offset_from place.end = is ∙ at in subst (λ (o : Offset). o.0 ≤ place.end) (sym there) (omega arith)

module _ (db : View) (aim : Aim) (s : Survey) (user : Name) (old : Post) (place : Place) (before middle now : Seen) where
  pub place_put : (new : Post) (found : Option Transaction) → FoundAt db s user place before found → IfSome found (λ t. t.at ≡ offset_from place.end) → old.end.0 < place.end → Posted before middle [] → IsSteady before middle
      → (result : Result (Unit {0}) SendFault) → OnOk result (Pushed aim old new middle now (newer aim.prev.0 found)) → OnOk result (EndsWith old.end found new.end) → OnOk result (PutPlace db aim s user old new place before now)
  place_put new found told at later read steady (Ok done) pushed end = record {
    found = found;
    told = told;
    pushed = record {
      closed = pushed.closed;
      made = pushed.made;
      posted = posted_behind_read before middle now _ read pushed.posted;
      spelled = pushed.spelled;
      steady = steady_on before middle now steady pushed.steady;
    };
    ends = ends_by old.end new.end place found later at end;
  }
  place_put new found told at later read steady (Err fault) pushed end = tt

  pub place_stopped : (found : Option Transaction) → FoundAt db s user place before found → Posted before middle [] → IsSteady before middle → (result : Result (Unit {0}) SendFault)
      → IfErr result (PushStop aim old middle now (newer aim.prev.0 found)) → IfErr result (PlaceStop db aim s user old place before now)
  place_stopped found told read steady (Ok done) stop = tt
  place_stopped found told read steady (Err fault) stop = record {
    added = newer aim.prev.0 found;
    found = inr (record { found = found; told = told; added_is = refl });
    stop = stop_from aim old before middle now (newer aim.prev.0 found) fault read steady stop;
  }

-- it was not read
pub place_unread : (db : View) (aim : Aim) (s : Survey) (user : Name) (old : Post) (place : Place) (before now : Seen) (fault : SendFault) → IsAim aim → Posted before now [] → now.mail_faults ≡ before.mail_faults → NextFault before now fault
    → PlaceStop db aim s user old place before now fault
place_unread db aim s user old place before now fault good read mail cause = record {
  added = [];
  found = inl refl;
  stop = record {
    messages = [];
    prefix = nothing_put aim old [] good;
    posted = read;
    spelled = tt;
    cause = next_fault before now fault mail cause;
    ends = ends_none before now read.mail;
  };
}

-- ---- the next place

-- it is one of the history, and does not begin before the survey
pub place_known : (db : View) (s : Survey) (user : Name) (at : ℕ) (place : Place) (seen : Seen) → (IsTrue seen.observable → KnowsAll db s seen) → s.begin ≤ at → IsNext s user at (Some place) → IsPlaceOf db place seen
place_known db s user at place seen whole begun next told publisher es database =
    let k = whole told publisher es database in
    let there : IsPlace es place = k.has.places next.0.key place next.0.there in
    let late : at < place.end = next.1 in
    let starts = starts_behind es k.before k.behind place k.begins there (omega (arith, k.begin_is, begun, late)) in
    (there, omega (arith, k.from_base, k.begin_is, starts))

module _ (db : View) (aim : Aim) (s : Survey) (user : Name) (old new : Post) (at : Offset) (place : Place) (before now : Seen) (next : IsNext s user at.0 (Some place)) where
  pub went_next : (result : Result (Unit {0}) SendFault) → OnOk result (PutPlace db aim s user old new place before now) → IfOk (stepped_to (offset_from place.end) result) (WentOn db aim s user old new at before now)
  went_next (Ok done) put = record { place = place; next = next; end_is = refl; put = put }
  went_next (Err fault) put = tt

  pub further_next : (result : Result (Unit {0}) SendFault) → IfOk (stepped_to (offset_from place.end) result) (λ found. IfSome found (λ end. at.0 < end.0))
  further_next (Ok done) = next.1
  further_next (Err fault) = tt

  pub stopped_next : (result : Result (Unit {0}) SendFault) → IfErr result (PlaceStop db aim s user old place before now) → IfErr (stepped_to (offset_from place.end) result) (NextStop db aim s user old at before now)
  stopped_next (Ok done) stop = tt
  stopped_next (Err fault) stop = record { added = stop.added; found = cases stop.found; stop = stop.stop }
    where
      cases : (stop.added ≡ []) ⊎ AddedAt db s user place aim.prev.0 before stop.added → (stop.added ≡ []) ⊎ AddedNext db s user at.0 aim.prev.0 before stop.added
      cases (inl none) = inl none
      cases (inr what) = inr (record { place = place; next = next; what = what })

-- it is not known, for want of memory
pub next_short : (db : View) (aim : Aim) (s : Survey) (user : Name) (old : Post) (at : Offset) (seen : Seen) → IsAim aim → NextStop db aim s user old at seen seen Memory
next_short db aim s user old at seen good = record { added = []; found = inl refl; stop = stopped_short aim old seen [] good }

-- ---- one after the other

-- what lies past what was sent lies past the base, where a survey begins in between
max_is : (base begin sent : ℕ) → base ≤ begin → begin ≤ sent → sent ≡ max base sent
max_is base begin sent from_base begun = omega (arith, from_base, begun)

-- what a survey knows is so of the history that the database is of
known : (db : View) (s : Survey) (publisher : Name) (es : List Recorded) (seen : Seen) → (k : KnowsAll db s seen) → IsDatabase db publisher es seen → HasSurveyed publisher es s
known db s publisher es seen k database = (k publisher es database).has

module _ (db : View) (aim : Aim) (s : Survey) (user : Name) (first : Seen) (can : CanTell s user aim.prev.0) (whole : IsTrue first.observable → KnowsAll db s first) where
  pub telling_start : (post : Post) → HasMade aim post [] [] → Telling db aim s user post aim.prev first first
  telling_start post made = record {
    pushed = [];
    messages = [];
    made = made;
    posted = posted_none first;
    spelled = tt;
    steady = same_counts first;
    past = omega arith;
    ends = let end_is : post.end.0 ≡ aim.prev.0 = ap (λ (o : Offset). o.0) made.end_is in omega arith;
    reached = λ told publisher es database.
        let k = whole told publisher es database in
        reached_none publisher user es k.before k.behind s.begin aim.prev.0 k.begins k.begin_is can.begun;
  }

  pub some_told : (post : Post) (at : Offset) (now : Seen) → Telling db aim s user post at first now → HasMadeSome aim post
  some_told post at now t = record { pushed = t.pushed; messages = t.messages; made = t.made }

  -- what is known stays so while messages are put
  pub still_whole : (post : Post) (at : Offset) (now : Seen) → Telling db aim s user post at first now → IsTrue now.observable → KnowsAll db s now
  still_whole post at now t told =
      let was : IsTrue first.observable = subst (λ (b : Bool). IsTrue b) t.steady.observable told in
      λ publisher es database. whole was publisher es (posted_before db publisher es first now _ t.posted was database)

  pub telling_on : (post post' : Post) (at end : Offset) (before now : Seen) → Telling db aim s user post at first before → ToldNext db aim s user post post' at end before now → Telling db aim s user post' end first now
  telling_on post post' at end before now t n = record {
    pushed = t.pushed ++ newer aim.prev.0 n.put.found;
    messages = t.messages ++ n.put.pushed.closed;
    made = n.put.pushed.made t.pushed t.messages t.made;
    posted = put_files_on aim post t.pushed t.messages n.put.pushed.closed first before now t.made t.posted n.put.pushed.posted;
    spelled = AllByRecursion-append IsMessage t.messages n.put.pushed.closed t.spelled n.put.pushed.spelled;
    steady = steady_on first before now t.steady n.put.pushed.steady;
    past = let was : aim.prev.0 ≤ at.0 = t.past in let later : at.0 < n.place.end = n.next.1 in let ends : end.0 ≡ n.place.end = n.end_is in omega arith;
    ends = let by : post'.end.0 ≤ n.place.end = n.put.ends in let ends : end.0 ≡ n.place.end = n.end_is in omega arith;
    reached = λ told publisher es database.
        let here = posted_database db publisher es first before _ t.posted told database in
        subst (λ (m : ℕ). HasReached publisher es user s.begin aim.prev.0 m (t.pushed ++ newer aim.prev.0 n.put.found)) (sym n.end_is)
        (reached_next publisher user es s aim.prev.0 database.is.stored (known db s publisher es first (whole told) database) can at.0 t.pushed n.place n.put.found (t.reached told publisher es database) t.past n.next
        (n.put.told (told_then first before t.posted.stays told) publisher es here));
  }

  pub telling_end : (post post' : Post) (at : Offset) (before now : Seen) → Telling db aim s user post at first before → NoneNext s user post post' at before now → AllRead db aim user post' first now
  telling_end post post' at before now t n = record {
    pushed = t.pushed;
    messages = t.messages;
    made = subst (λ (p : Post). HasMade aim p t.pushed t.messages) (sym n.same) t.made;
    posted =
        subst (λ (events : List Event). Posted first now events) (append-nil (put_files aim.address aim.count t.messages))
        (posted_on first before now (put_files aim.address aim.count t.messages) [] (no_commits aim.address aim.count t.messages) t.posted n.posted);
    spelled = t.spelled;
    steady = steady_on first before now t.steady n.steady;
    whole = λ told publisher es database.
        reached_all publisher user es s aim.prev.0 at.0 t.pushed (known db s publisher es first (whole told) database) (t.reached told publisher es database) n.next
        ∙ ap (λ (m : ℕ). unsent publisher es user m) (max_is db.log.base s.begin aim.prev.0 (whole told publisher es database).from_base can.begun);
  }

  -- the loop ends
  pub told_all : (post post' : Post) (at : Offset) (before now : Seen) (found : Option Offset) → Telling db aim s user post at first before → ((end : Offset) → found ≡ Some end → ⊥) → WentOn db aim s user post post' at before now found
      → AllRead db aim user post' first now
  told_all post post' at before now None t none went = telling_end post post' at before now t went
  told_all post post' at before now (Some end) t none went = absurd (none end refl)

  prefix_sent : (post : Post) (at : Offset) (before : Seen) (added : List Transaction) → (t : Telling db aim s user post at first before) → (added ≡ []) ⊎ AddedNext db s user at.0 aim.prev.0 before added
      → IsTrue first.observable → (publisher : Name) (es : List Recorded) → IsDatabase db publisher es first → IsPrefixOf (t.pushed ++ added) (unsent publisher es user aim.prev.0)
  prefix_sent post at before added t (inl none) told publisher es database =
      subst (λ (ts : List Transaction). IsPrefixOf ts (unsent publisher es user aim.prev.0)) (sym (ap (λ (ts : List Transaction). t.pushed ++ ts) none ∙ append-nil t.pushed))
      (reached_prefix publisher user es s.begin aim.prev.0 at.0 t.pushed (t.reached told publisher es database))
  prefix_sent post at before added t (inr n) told publisher es database =
      let here = posted_database db publisher es first before _ t.posted told database in
      subst (λ (ts : List Transaction). IsPrefixOf (t.pushed ++ ts) (unsent publisher es user aim.prev.0)) (sym n.what.added_is)
      (reached_prefix publisher user es s.begin aim.prev.0 n.place.end (t.pushed ++ newer aim.prev.0 n.what.found)
      (reached_next publisher user es s aim.prev.0 database.is.stored (known db s publisher es first (whole told) database) can at.0 t.pushed n.place n.what.found (t.reached told publisher es database) t.past n.next
      (n.what.told (told_then first before t.posted.stays told) publisher es here)))

  prefix_there : (post : Post) (at : Offset) (before : Seen) (added : List Transaction) → (t : Telling db aim s user post at first before) → (added ≡ []) ⊎ AddedNext db s user at.0 aim.prev.0 before added
      → IsTrue first.observable → (publisher : Name) (es : List Recorded) → IsDatabase db publisher es first → IsPrefixOf (t.pushed ++ added) (unsent publisher es user (max db.log.base aim.prev.0))
  prefix_there post at before added t found told publisher es database =
      subst (λ (m : ℕ). IsPrefixOf (t.pushed ++ added) (unsent publisher es user m)) (max_is db.log.base s.begin aim.prev.0 (whole told publisher es database).from_base can.begun)
      (prefix_sent post at before added t found told publisher es database)

  pub telling_stopped : (post : Post) (at : Offset) (before now : Seen) (fault : SendFault) → Telling db aim s user post at first before → NextStop db aim s user post at before now fault → ReadStop db aim user first now fault
  telling_stopped post at before now fault t stop = record {
    pushed = t.pushed ++ stop.added;
    messages = t.messages ++ stop.stop.messages;
    prefix = stop.stop.prefix t.pushed t.messages t.made;
    posted = put_files_on aim post t.pushed t.messages stop.stop.messages first before now t.made t.posted stop.stop.posted;
    spelled = AllByRecursion-append IsMessage t.messages stop.stop.messages t.spelled stop.stop.spelled;
    begins = prefix_there post at before stop.added t stop.found;
    cause = long_of aim post t.pushed stop.added t.messages first before now fault t.made t.steady stop.stop.cause;
    ends = ends_on first before now t.steady stop.stop.ends;
  }

-- nothing is listed
pub nothing_told : (db : View) (aim : Aim) (s : Survey) (user : Name) (post : Post) (first : Seen) → (IsTrue first.observable → KnowsAll db s first) → ListsNothing s user aim.prev.0 → HasMade aim post [] [] → AllRead db aim user post first first
nothing_told db aim s user post first whole nothing made = record {
  pushed = [];
  messages = [];
  made = made;
  posted = posted_none first;
  spelled = tt;
  steady = same_counts first;
  whole = λ told publisher es database.
      let k = whole told publisher es database in
      reached_all publisher user es s aim.prev.0 aim.prev.0 [] k.has (reached_none publisher user es k.before k.behind s.begin aim.prev.0 k.begins k.begin_is nothing.begun) nothing.next
      ∙ ap (λ (m : ℕ). unsent publisher es user m) (max_is db.log.base s.begin aim.prev.0 k.from_base nothing.begun);
}

-- ---- behind what was read for the survey

pub read_later : (db : View) (aim : Aim) (user : Name) (post : Post) (first before now : Seen) → Posted first before [] → IsSteady first before → AllRead db aim user post before now → AllRead db aim user post first now
read_later db aim user post first before now read steady all = record {
  pushed = all.pushed;
  messages = all.messages;
  made = all.made;
  posted = posted_behind_read first before now _ read all.posted;
  spelled = all.spelled;
  steady = steady_on first before now steady all.steady;
  whole = λ told publisher es database. all.whole (told_then first before read.stays told) publisher es (posted_database db publisher es first before [] read told database);
}

pub stopped_later : (db : View) (aim : Aim) (user : Name) (first before now : Seen) (fault : SendFault) → Posted first before [] → IsSteady first before → ReadStop db aim user before now fault → ReadStop db aim user first now fault
stopped_later db aim user first before now fault read steady stop = record {
  pushed = stop.pushed;
  messages = stop.messages;
  prefix = stop.prefix;
  posted = posted_behind_read first before now _ read stop.posted;
  spelled = stop.spelled;
  begins = λ told publisher es database. stop.begins (told_then first before read.stays told) publisher es (posted_database db publisher es first before [] read told database);
  cause = fault_from first before now stop.pushed fault steady stop.cause;
  ends = ends_on first before now steady stop.ends;
}
