-- A log read entry by entry.
use Rattle.std.proofs.Common.{◌≡◌, ℕ, ◌+◌, ◌≤◌, ◌<◌, List, [], ◌++◌, Option, Some, None, Result, Ok, Err, refl, sym, ap, subst, ◌∙◌, arith, inl, inr}
use Rattle.std.specs.Prelude.{IsTrue, IfOk, IfErr, OnOk, max, ◌⊎◌}
use Rattle.std.proofs.lemmas.List.{append-nil}
use Rattle.sr_base.specs.declared.offset.Offset.{Offset}
use Rattle.sr_book.specs.Entries.{Name}
use Rattle.sr_mail_cut.proofs.Items.{long-behind}
use Rattle.sr_mail_cut.proofs.Lists.{AllByRecursion-append}
use Rattle.sr_database.specs.Databases.{IsDatabase}
use Rattle.sr_database.specs.Inner.Entries.{IsNext}
use Rattle.sr_database.specs.Views.{View}
use Rattle.sr_database_history.specs.Folds.{end_of}
use Rattle.sr_database_history.specs.Recorded.{Recorded}
use Rattle.sr_logform.specs.declared.entry.Entry.{Entry}
use Rattle.sr_logform.specs.declared.op.Transaction.{Transaction}
use Rattle.sr_msgform.specs.Messages.{IsMessage}
use Rattle.sr_msgform.specs.declared.message.Message.{Message}
use Rattle.sr_scan.specs.Inner.Scanners.{Scan}
use Rattle.sr_site.specs.Seen.{Seen}
use Rattle.sr_database_meaning.specs.Events.{Event}
use Rattle.sr_send.specs.Inner.Aims.{IsAim, HasMade, HasMadeSome}
use Rattle.sr_send.specs.PutFiles.{put_files}
use Rattle.sr_send.specs.Posting.{IsSteady}
use Rattle.sr_send.specs.Inner.Posting.{Posted}
use Rattle.sr_send.specs.Inner.Steps.{EndsAt, IsBehind, Fed, Stepped, IsAtEnd, DoneStep, stepped_to, HasRead, UnderWay, AllRead}
use Rattle.sr_send.specs.Inner.Stops.{NextFault, StopFault, PushStop, FeedStop, IsFound, IsNextFound, StepStop, IsPrefixOf, ReadStop}
use Rattle.sr_send.specs.Unsent.{unsent}
use Rattle.sr_send.specs.declared.aim.Aim.{Aim}
use Rattle.sr_send.specs.declared.fault.SendFault.{SendFault}
use Rattle.sr_send.specs.declared.fault.SendFault.TheVariants.{Disk, Mail, Full, Long, Memory}
use Rattle.sr_send.specs.declared.post.Post.{Post}
use Rattle.sr_send.proofs.Posts.{told_then, posted_none, posted_on, posted_database, same_counts, steady_on, ends_none, ends_on, rose_from}
use Rattle.sr_send.proofs.Numbers.{no_commits, posted_more}
use Rattle.sr_send.proofs.Pushes.{nothing_put}
use Rattle.sr_send.proofs.Histories.{read_none, read_more, read_all, read_prefix, next_prefix}

-- ---- one step

-- the entry was found: the next after the offset
abbrev pub IsFoundNext : View → Offset → Offset → Entry → Seen → Type 0
IsFoundNext db after end entry seen = IsTrue seen.observable → (publisher : Name) (done left : List Recorded) → IsDatabase db publisher (done ++ left) seen → after.0 ≡ end_of done → IsNext done left end entry

behind_fed : (sent : ℕ) (after end old new : Offset) → IsBehind sent after.0 old.0 → after.0 < end.0 → EndsAt old end new → IsBehind sent end.0 new.0
behind_fed sent after end old new behind later (inl same) = λ n past further. subst (λ (o : Offset). o.0 < n) (sym same) (behind n past (omega (arith, later, further)))
behind_fed sent after end old new behind later (inr is) = λ n past further. subst (λ (o : Offset). o.0 < n) (sym is) further

pub posted_behind_read : (before middle now : Seen) (events : List Event) → Posted before middle [] → Posted middle now events → Posted before now events
posted_behind_read before middle now events read posted = posted_on before middle now [] events refl read posted

pub step_on : (db : View) (aim : Aim) (scan scan' : Scan) (old new : Post) (after end : Offset) (entry : Entry) (before middle now : Seen) → IsBehind aim.prev.0 after.0 old.end.0 → Posted before middle [] → IsSteady before middle
    → (after.0 < end.0) × (end.0 ≤ db.log.end) → IsFoundNext db after end entry before → Fed aim scan scan' old new end entry middle now → Stepped db aim scan scan' old new after end before now
step_on db aim scan scan' old new after end entry before middle now behind read steady within found fed = record {
  entry = entry;
  next = found;
  added = fed.added;
  scanned = fed.scanned;
  pushed = record {
    closed = fed.pushed.closed;
    made = fed.pushed.made;
    posted = posted_behind_read before middle now _ read fed.pushed.posted;
    spelled = fed.pushed.spelled;
    steady = steady_on before middle now steady fed.pushed.steady;
  };
  later = within.0;
  within = within.1;
  behind = behind_fed aim.prev.0 after end old.end new.end behind within.0 fed.end;
}

pub fault_from : (before middle now : Seen) (added : List Transaction) (fault : SendFault) → IsSteady before middle → StopFault middle now added fault → StopFault before now added fault
fault_from before middle now added Disk steady cause = (rose_from before.disk_faults middle.disk_faults now.disk_faults steady.disk cause.0, cause.1 ∙ steady.mail)
fault_from before middle now added Mail steady cause = (rose_from before.mail_faults middle.mail_faults now.mail_faults steady.mail cause.0, cause.1 ∙ steady.disk)
fault_from before middle now added (Full end need) steady cause = cause
fault_from before middle now added (Long size limit) steady cause = (steady_on before middle now steady cause.0, cause.1, cause.2)
fault_from before middle now added Memory steady cause = (cause.0 ∙ steady.disk, cause.1 ∙ steady.mail)

pub stop_from : (aim : Aim) (old : Post) (before middle now : Seen) (added : List Transaction) (fault : SendFault) → Posted before middle [] → IsSteady before middle → PushStop aim old middle now added fault
    → PushStop aim old before now added fault
stop_from aim old before middle now added fault read steady stop = record {
  messages = stop.messages;
  prefix = stop.prefix;
  posted = posted_behind_read before middle now _ read stop.posted;
  spelled = stop.spelled;
  cause = fault_from before middle now added fault steady stop.cause;
  ends = ends_on before middle now steady stop.ends;
}

found_of : (db : View) (aim : Aim) (scan : Scan) (old : Post) (after end : Offset) (entry : Entry) (before middle now : Seen) (fault : SendFault) → IsFoundNext db after end entry before → (stop : FeedStop aim scan old end entry middle now fault)
    → IsTrue before.observable → (publisher : Name) (done left : List Recorded) → IsDatabase db publisher (done ++ left) before → after.0 ≡ end_of done → (stop.added ≡ []) ⊎ IsNextFound scan aim.prev.0 done left stop.added
found_of db aim scan old after end entry before middle now fault next_is stop told publisher done left database at = cases stop.found
  where
    cases : (stop.added ≡ []) ⊎ IsFound scan end entry aim.prev.0 stop.added → (stop.added ≡ []) ⊎ IsNextFound scan aim.prev.0 done left stop.added
    cases (inl none) = inl none
    cases (inr found) = inr (record { end = end; entry = entry; next = next_is told publisher done left database at; found = found })

pub step_stopped : (db : View) (aim : Aim) (scan : Scan) (old : Post) (after end : Offset) (entry : Entry) (before middle now : Seen) (fault : SendFault) → Posted before middle [] → IsSteady before middle
    → IsFoundNext db after end entry before → FeedStop aim scan old end entry middle now fault → StepStop db aim scan old after before now fault
step_stopped db aim scan old after end entry before middle now fault read steady next_is stop = record {
  added = stop.added;
  found = found_of db aim scan old after end entry before middle now fault next_is stop;
  stop = stop_from aim old before middle now stop.added fault read steady stop.stop;
}

pub next_fault : (before now : Seen) (fault : SendFault) → now.mail_faults ≡ before.mail_faults → NextFault before now fault → StopFault before now [] fault
next_fault before now Disk mail cause = (cause, mail)
next_fault before now Mail mail cause = absurd cause
next_fault before now (Full end need) mail cause = absurd cause
next_fault before now (Long size limit) mail cause = absurd cause
next_fault before now Memory mail cause = (cause, mail)

-- no entry was read
pub step_unread : (db : View) (aim : Aim) (scan : Scan) (old : Post) (after : Offset) (before now : Seen) (fault : SendFault) → IsAim aim → Posted before now [] → now.mail_faults ≡ before.mail_faults
    → NextFault before now fault → StepStop db aim scan old after before now fault
step_unread db aim scan old after before now fault good read mail cause = record {
  added = [];
  found = λ told publisher done left database at. inl refl;
  stop = record {
    messages = [];
    prefix = nothing_put aim old [] good;
    posted = read;
    spelled = tt;
    cause = next_fault before now fault mail cause;
    ends = ends_none before now read.mail;
  };
}

-- ---- the loop

pub under_start : (db : View) (aim : Aim) (user : Name) (scan : Scan) (post : Post) (after : Offset) (seen : Seen) → HasMade aim post [] [] → after.0 ≡ db.log.base → db.log.base ≤ db.log.end → scan.catalog ≡ db.base_catalog → scan.user ≡ user
    → UnderWay db aim user scan post after seen seen
under_start db aim user scan post after seen made at order catalog user_is =
    let end_is : post.end.0 ≡ aim.prev.0 = ap (λ (o : Offset). o.0) made.end_is in
    record {
      pushed = [];
      messages = [];
      made = made;
      posted = posted_none seen;
      spelled = tt;
      steady = same_counts seen;
      from_base = omega (arith, at);
      within = omega (arith, at, order);
      behind = λ n past further. omega (arith, end_is, past);
      read = λ told publisher es database. read_none db publisher es user aim.prev.0 after scan database.is at catalog user_is;
    }

pub some_made : (db : View) (aim : Aim) (user : Name) (scan : Scan) (post : Post) (after : Offset) (before now : Seen) → UnderWay db aim user scan post after before now → HasMadeSome aim post
some_made db aim user scan post after before now under = record { pushed = under.pushed; messages = under.messages; made = under.made }

-- the message files of a step stand after those before it
pub put_files_on : (aim : Aim) (post : Post) (pushed : List Transaction) (messages more : List Message) (before middle now : Seen) → HasMade aim post pushed messages → Posted before middle (put_files aim.address aim.count messages)
    → Posted middle now (put_files aim.address (aim.count + post.put) more) → Posted before now (put_files aim.address aim.count (messages ++ more))
put_files_on aim post pushed messages more before middle now made one two =
    posted_more aim.address aim.count messages more before middle now one
    (subst (λ (n : ℕ). Posted middle now (put_files aim.address (aim.count + n) more)) made.count two)

pub under_step : (db : View) (aim : Aim) (user : Name) (scan scan' : Scan) (post post' : Post) (after end : Offset) (first before now : Seen) → UnderWay db aim user scan post after first before
    → Stepped db aim scan scan' post post' after end before now → UnderWay db aim user scan' post' end first now
under_step db aim user scan scan' post post' after end first before now under step = record {
  pushed = under.pushed ++ step.added;
  messages = under.messages ++ step.pushed.closed;
  made = step.pushed.made under.pushed under.messages under.made;
  posted = put_files_on aim post under.pushed under.messages step.pushed.closed first before now under.made under.posted step.pushed.posted;
  spelled = AllByRecursion-append IsMessage under.messages step.pushed.closed under.spelled step.pushed.spelled;
  steady = steady_on first before now under.steady step.pushed.steady;
  from_base = omega (arith, under.from_base, step.later);
  within = step.within;
  behind = step.behind;
  read = λ told publisher es database.
      let read = under.read told publisher es database in
      let here = posted_database db publisher es first before _ under.posted told database in
      let next_is = step.next (told_then first before under.posted.stays told) publisher read.done read.left (subst (λ (rs : List Recorded). IsDatabase db publisher rs before) read.parts here) read.after_is in
      read_more db.log.base publisher es user aim.prev.0 after end scan scan' under.pushed step.added step.entry database.is.stored read next_is step.scanned;
}

pub under_end : (db : View) (aim : Aim) (user : Name) (scan : Scan) (post post' : Post) (after : Offset) (first before now : Seen) → UnderWay db aim user scan post after first before → IsAtEnd db post post' after before now
    → AllRead db aim user post' first now
under_end db aim user scan post post' after first before now under at_end = record {
  pushed = under.pushed;
  messages = under.messages;
  made = subst (λ (p : Post). HasMade aim p under.pushed under.messages) (sym at_end.same) under.made;
  posted =
      subst (λ (events : List Event). Posted first now events) (append-nil (put_files aim.address aim.count under.messages))
      (posted_on first before now (put_files aim.address aim.count under.messages) [] (no_commits aim.address aim.count under.messages) under.posted at_end.posted);
  spelled = under.spelled;
  steady = steady_on first before now under.steady at_end.steady;
  whole = λ told publisher es database.
      let read = under.read told publisher es database in
      let here = posted_database db publisher es first before _ under.posted told database in
      read_all db.log.base publisher es user aim.prev.0 after scan under.pushed read
      (at_end.none (told_then first before under.posted.stays told) publisher read.done read.left (subst (λ (rs : List Recorded). IsDatabase db publisher rs before) read.parts here) read.after_is);
}

-- the first that is too long of all that was pushed
pub long_of : (aim : Aim) (post : Post) (pushed added : List Transaction) (messages : List Message) (first before now : Seen) (fault : SendFault) → HasMade aim post pushed messages → IsSteady first before → StopFault before now added fault
    → StopFault first now (pushed ++ added) fault
long_of aim post pushed added messages first before now Disk made steady cause = fault_from first before now added Disk steady cause
long_of aim post pushed added messages first before now Mail made steady cause = fault_from first before now added Mail steady cause
long_of aim post pushed added messages first before now (Full end need) made steady cause = cause
long_of aim post pushed added messages first before now (Long size limit) made steady cause = (steady_on first before now steady cause.0, cause.1, long-behind pushed added made.fits ∙ cause.2)
long_of aim post pushed added messages first before now Memory made steady cause = fault_from first before now added Memory steady cause

prefix_at : (publisher : Name) (es : List Recorded) (user : Name) (sent : ℕ) (after : Offset) (scan : Scan) (pushed added : List Transaction) (db : View) (seen : Seen) → IsDatabase db publisher es seen → (read : HasRead db.log.base publisher es user sent after scan pushed)
    → (added ≡ []) ⊎ IsNextFound scan sent read.done read.left added → IsPrefixOf (pushed ++ added) (unsent publisher es user (max db.log.base sent))
prefix_at publisher es user sent after scan pushed added db seen database read (inl none) =
    subst (λ (ts : List Transaction). IsPrefixOf ts (unsent publisher es user (max db.log.base sent))) (sym (ap (λ (ts : List Transaction). pushed ++ ts) none ∙ append-nil pushed)) (read_prefix db.log.base publisher es user sent after scan pushed read)
prefix_at publisher es user sent after scan pushed added db seen database read (inr found) = next_prefix db.log.base publisher es user sent after scan pushed added database.is.stored read found

pub under_stopped : (db : View) (aim : Aim) (user : Name) (scan : Scan) (post : Post) (after : Offset) (first before now : Seen) (fault : SendFault) → UnderWay db aim user scan post after first before
    → StepStop db aim scan post after before now fault → ReadStop db aim user first now fault
under_stopped db aim user scan post after first before now fault under stop = record {
  pushed = under.pushed ++ stop.added;
  messages = under.messages ++ stop.stop.messages;
  prefix = stop.stop.prefix under.pushed under.messages under.made;
  posted = put_files_on aim post under.pushed under.messages stop.stop.messages first before now under.made under.posted stop.stop.posted;
  spelled = AllByRecursion-append IsMessage under.messages stop.stop.messages under.spelled stop.stop.spelled;
  begins = λ told publisher es database.
      let read = under.read told publisher es database in
      let here = posted_database db publisher es first before _ under.posted told database in
      prefix_at publisher es user aim.prev.0 after scan under.pushed stop.added db first database read
      (stop.found (told_then first before under.posted.stays told) publisher read.done read.left (subst (λ (rs : List Recorded). IsDatabase db publisher rs before) read.parts here) read.after_is);
  cause = long_of aim post under.pushed stop.added under.messages first before now fault under.made under.steady stop.stop.cause;
  ends = ends_on first before now under.steady stop.stop.ends;
}

-- ---- as the code meets them

pub done_answer : (db : View) (aim : Aim) (scan scan' : Scan) (old new : Post) (after end : Offset) (entry : Entry) (before middle now : Seen) (result : Result (Unit {0}) SendFault) → IsBehind aim.prev.0 after.0 old.end.0 → Posted before middle []
    → IsSteady before middle → (after.0 < end.0) × (end.0 ≤ db.log.end) → IsFoundNext db after end entry before → OnOk result (Fed aim scan scan' old new end entry middle now)
    → IfOk (stepped_to end result) (DoneStep db aim scan scan' old new after before now)
done_answer db aim scan scan' old new after end entry before middle now (Ok done) behind read steady within found fed = step_on db aim scan scan' old new after end entry before middle now behind read steady within found fed
done_answer db aim scan scan' old new after end entry before middle now (Err fault) behind read steady within found fed = tt

pub stop_answer : (db : View) (aim : Aim) (scan : Scan) (old : Post) (after end : Offset) (entry : Entry) (before middle now : Seen) (result : Result (Unit {0}) SendFault) → Posted before middle [] → IsSteady before middle
    → IsFoundNext db after end entry before → IfErr result (FeedStop aim scan old end entry middle now) → IfErr (stepped_to end result) (StepStop db aim scan old after before now)
stop_answer db aim scan old after end entry before middle now (Ok done) read steady found stop = tt
stop_answer db aim scan old after end entry before middle now (Err fault) read steady found stop = step_stopped db aim scan old after end entry before middle now fault read steady found stop

pub loop_end : (db : View) (aim : Aim) (user : Name) (scan scan' : Scan) (post post' : Post) (after : Offset) (first before now : Seen) (found : Option Offset) → UnderWay db aim user scan post after first before
    → ((end : Offset) → found ≡ Some end → ⊥) → DoneStep db aim scan scan' post post' after before now found → AllRead db aim user post' first now
loop_end db aim user scan scan' post post' after first before now None under none step = under_end db aim user scan post post' after first before now under step
loop_end db aim user scan scan' post post' after first before now (Some end) under none step = absurd (none end refl)
