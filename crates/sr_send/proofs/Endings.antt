-- The messages that are still due once the log was read.
use Rattle.std.proofs.Common.{◌≡◌, ℕ, ◌+◌, ◌≤◌, List, [], ◌∷◌, ◌++◌, length, Result, Ok, Err, refl, sym, ap, subst, ◌∙◌, arith, append_assoc, length-append, inl, inr}
use Rattle.std.specs.Prelude.{IsTrue, Bool, true, false, max, IfErr, OnOk, ◌↔◌, ◌⊎◌}
use Rattle.std.specs.List.{AllByRecursion}
use Rattle.std.proofs.lemmas.Bool.{cases_lt}
use Rattle.std.proofs.lemmas.List.{append-nil}
use Rattle.sr_base.specs.Values.{offset_from}
use Rattle.sr_base.specs.declared.offset.Offset.{Offset}
use Rattle.sr_book.specs.Entries.{Name}
use Rattle.sr_book.specs.declared.book.Book.{Book}
use Rattle.sr_mail_cut.specs.Bodies.{RisesPast, last_at}
use Rattle.sr_mail_cut.specs.Cuts.{Cutting, HasGiven, AreCut, IsParcel, Parcel, transactions_of, all_messages, bodyless}
use Rattle.sr_mail_cut.specs.Inner.Cuts.{messages_held, CutCause}
use Rattle.sr_mail_cut.specs.declared.head.Head.{Head}
use Rattle.sr_mail_cut.specs.declared.too_long.TooLong.{TooLong}
use Rattle.sr_mail_cut.specs.declared.too_long.TooLong.TheVariants as long
use Rattle.sr_mail_cut.proofs.Existing.{cut_there}
use Rattle.sr_mail_cut.proofs.Giving.{finishes}
use Rattle.sr_mail_cut.proofs.Lists.{AllByRecursion-append}
use Rattle.sr_mail_cut.proofs.Rising.{lt-last}
use Rattle.sr_database.specs.Views.{View}
use Rattle.sr_logform.specs.declared.op.Transaction.{Transaction}
use Rattle.sr_msgform.specs.Messages.{IsMessage}
use Rattle.sr_msgform.specs.declared.message.Message.{Message}
use Rattle.sr_site.specs.Seen.{Seen}
use Rattle.sr_send.specs.Inner.Aims.{IsAim, HasMade, HasMadeSome}
use Rattle.sr_send.specs.Inner.Faults.{fault_of_cut}
use Rattle.sr_send.specs.PutFiles.{IsDue, AreMessages, put_files}
use Rattle.sr_send.specs.Posting.{IsSteady}
use Rattle.sr_send.specs.Inner.Posting.{Posted, PutFault}
use Rattle.sr_send.specs.Inner.Steps.{Emptied, IsDueAlone, Bodyless, Completed, AllRead, PutAll}
use Rattle.sr_send.specs.Inner.Stops.{ReadStop, IsPartSent, HeldStop, LastStop, EndStop, PutStop}
use Rattle.sr_send.specs.Unsent.{unsent}
use Rattle.sr_send.specs.declared.aim.Aim.{Aim}
use Rattle.sr_send.specs.declared.fault.SendFault.{SendFault}
use Rattle.sr_send.specs.declared.fault.SendFault.TheVariants.{Disk, Mail, Full, Long, Memory}
use Rattle.sr_send.specs.declared.post.Post.{Post}
use Rattle.sr_send.proofs.Posts.{posted_none, steady_on, ends_same, ends_on, rose_from}
use Rattle.sr_send.proofs.Numbers.{MayBePut, posted_more}
use Rattle.sr_send.proofs.Cutting.{cut_along, cut_may, has_room}
use Rattle.sr_send.proofs.Loops.{put_files_on}

-- ---- what the cutter holds

-- what `finish` says where it succeeds
abbrev pub IsEmptied : Cutting → List Message → Type 0
IsEmptied old closed = (first : Offset) (pushed : List Transaction) (earlier : List Message) → HasGiven old first pushed earlier → AreCut old.head first pushed old.limit (earlier ++ closed)

held_cut : (aim : Aim) (old : Post) (closed : List Message) → IsEmptied old.cutter closed → (pushed : List Transaction) (messages : List Message) → HasMade aim old pushed messages
    → AreCut aim.head aim.prev pushed aim.limit (messages ++ closed)
held_cut aim old closed emptied pushed messages made =
    cut_along old.cutter.head aim.head old.cutter.limit aim.limit aim.prev pushed (messages ++ closed) made.head_is made.limit_is (emptied aim.prev pushed messages made.given)

pub held_may : (aim : Aim) (old : Post) (closed : List Message) → IsAim aim → HasMadeSome aim old → IsEmptied old.cutter closed → AllByRecursion MayBePut closed
held_may aim old closed good some emptied =
    cut_may aim some.pushed some.messages closed good some.made.rises some.made.fits (held_cut aim old closed emptied some.pushed some.messages some.made)

pub emptied_so : (aim : Aim) (old new : Post) (closed : List Message) (before now : Seen) → IsEmptied old.cutter closed → new.put ≡ old.put + length closed → new.end ≡ old.end
    → Posted before now (put_files aim.address (aim.count + old.put) closed) → AllByRecursion IsMessage closed → IsSteady before now → Emptied aim old new before now
emptied_so aim old new closed before now emptied count end_is posted spelled steady = record {
  closed = closed;
  cut = held_cut aim old closed emptied;
  count = count;
  end_is = end_is;
  posted = posted;
  spelled = spelled;
  steady = steady;
}

pub held_stopped : (aim : Aim) (old : Post) (closed : List Message) (before now : Seen) (fault : SendFault) → IsEmptied old.cutter closed → IsPartSent aim (aim.count + old.put) before now closed fault
    → HeldStop aim old before now fault
held_stopped aim old closed before now fault emptied part = record {
  messages = part.done;
  left = part.left;
  cut = λ pushed earlier made.
      subst (λ (ms : List Message). AreCut aim.head aim.prev pushed aim.limit (earlier ++ ms)) part.parts (held_cut aim old closed emptied pushed earlier made);
  posted = part.posted;
  spelled = part.spelled;
  cause = part.cause;
  ends = part.ends;
}

-- the message of what is held is not made
pub held_short : (aim : Aim) (old : Post) (seen : Seen) → HeldStop aim old seen seen Memory
held_short aim old seen =
    let held : List Message = messages_held old.cutter.head old.cutter.prev old.cutter.upto old.cutter.body in
    record {
      messages = [];
      left = held;
      cut = λ pushed earlier made.
          cut_along old.cutter.head aim.head old.cutter.limit aim.limit aim.prev pushed (earlier ++ held) made.head_is made.limit_is (finishes old.cutter aim.prev pushed earlier made.given);
      posted = posted_none seen;
      spelled = tt;
      cause = (refl, refl);
      ends = ends_same seen;
    }

-- ---- whether something was to be sent

no_parcels : (head : Head) (limit : ℕ) (ps : List Parcel) → AllByRecursion (IsParcel head limit) ps → transactions_of ps ≡ [] → ps ≡ []
no_parcels head limit [] windows none = refl
no_parcels head limit (p ∷ ps) windows none = absurd (windows.0.filled (prefix_none p.transactions (transactions_of ps) none))
  where
    prefix_none : (xs ys : List Transaction) → xs ++ ys ≡ [] → xs ≡ []
    prefix_none [] ys e = refl
    prefix_none (x ∷ xs) ys e = absurd cc

nothing_cut : (head : Head) (prev : Offset) (limit : ℕ) (messages : List Message) → AreCut head prev [] limit messages → messages ≡ []
nothing_cut head prev limit messages cut = cut.sent ∙ ap (all_messages head prev) (no_parcels head limit cut.parcels cut.windows cut.covered)

-- no transaction lies after where the last offset is that of the beginning
none_behind : (prev : Offset) (pushed : List Transaction) → RisesPast prev.0 pushed → (last_at prev pushed).0 ≡ prev.0 → pushed ≡ []
none_behind prev [] rises same = refl
none_behind prev (t ∷ ts) rises same = absurd (omega (arith, lt-last prev t ts rises, same))

same_end : (aim : Aim) (post : Post) (pushed : List Transaction) (messages : List Message) → HasMade aim post pushed messages → post.end.0 ≡ aim.prev.0 → pushed ≡ []
same_end aim post pushed messages made same = none_behind aim.prev pushed made.rises (ap (λ (o : Offset). o.0) (sym made.end_is) ∙ same)

-- all messages of a pass, where there is none without a body
messages_of_cut : (head : Head) (prev : Offset) (book : Book) (ask : Bool) (limit : ℕ) (pushed : List Transaction) (all : List Message) → prev ≡ offset_from book.log_sent → AreCut head prev pushed limit all
    → (pushed ≡ [] → ¬ (IsDue book ask [])) → AreMessages head book ask limit pushed all
messages_of_cut head prev book ask limit [] all at cut alone = record { due = λ due. absurd (alone refl due); none = λ none. nothing_cut head prev limit all cut }
messages_of_cut head prev book ask limit (t ∷ ts) all at cut alone = record { due = λ due. subst (λ (o : Offset). AreCut head o (t ∷ ts) limit all) at cut; none = λ none. absurd (none tt) }

end_then : (aim : Aim) (old new : Post) (book : Book) (ask : Bool) (pushed : List Transaction) (messages : List Message) → HasMade aim old pushed messages → new.end ≡ old.end → ¬ (IsDueAlone aim.prev new.end book ask)
    → pushed ≡ [] → ¬ (IsDue book ask [])
end_then aim old new book ask pushed messages made same alone none due =
    alone (ap (λ (o : Offset). o.0) (same ∙ made.end_is ∙ ap (last_at aim.prev) none), due)

pub completed_cut : (aim : Aim) (book : Book) (ask : Bool) (old new : Post) (before now : Seen) → aim.prev ≡ offset_from book.log_sent → Emptied aim old new before now → ¬ (IsDueAlone aim.prev new.end book ask)
    → Completed aim book ask old new before now
completed_cut aim book ask old new before now at emptied alone = record {
  closed = emptied.closed;
  are = λ pushed messages made. messages_of_cut aim.head aim.prev book ask aim.limit pushed (messages ++ emptied.closed) at (emptied.cut pushed messages made) (end_then aim old new book ask pushed messages made emptied.end_is alone);
  count = emptied.count;
  end_is = emptied.end_is;
  posted = emptied.posted;
  spelled = emptied.spelled;
  steady = emptied.steady;
}

-- ---- messages that begin those of a pass

-- whether a message is due where nothing is to be sent
no_due : (book : Book) → book.log_received ≤ book.confirm_received → IsDue book false [] → ⊥
no_due book none (inl asked) = let both : false ≡ true = asked in cc
no_due book none (inr more) = omega (arith, none, more)

pub due_case : (book : Book) (ask : Bool) → IsDue book ask [] ⊎ (IsDue book ask [] → ⊥)
due_case book true = inl (inl refl)
due_case book false = elim (cases_lt book.confirm_received book.log_received) [
  | inl more ↦ inl (inr more)
  | inr none ↦ inr (no_due book none)
]

first_none : (xs ys : List Message) → xs ++ ys ≡ [] → xs ≡ []
first_none [] ys e = refl
first_none (x ∷ xs) ys e = absurd cc

left_alone : (head : Head) (book : Book) (ask : Bool) (limit : ℕ) (messages : List Message) → messages ≡ [] → IsDue book ask [] ⊎ (IsDue book ask [] → ⊥)
    → (left : List Message) × AreMessages head book ask limit [] (messages ++ left)
left_alone head book ask limit messages none (inl due) = (
  bodyless head (offset_from book.log_sent) ∷ [],
  record { due = λ yes. ap (λ (ms : List Message). ms ++ bodyless head (offset_from book.log_sent) ∷ []) none; none = λ none_due. absurd (none_due due) },
)
left_alone head book ask limit messages none (inr undue) = ([], record { due = λ due. absurd (undue due); none = λ yes. append-nil messages ∙ none })

-- messages that begin a cut begin those of the pass
pub some_left : (head : Head) (prev : Offset) (book : Book) (ask : Bool) (limit : ℕ) (pushed : List Transaction) (messages left : List Message) → prev ≡ offset_from book.log_sent → AreCut head prev pushed limit (messages ++ left)
    → (more : List Message) × AreMessages head book ask limit pushed (messages ++ more)
some_left head prev book ask limit [] messages left at cut = left_alone head book ask limit messages (first_none messages left (nothing_cut head prev limit (messages ++ left) cut)) (due_case book ask)
some_left head prev book ask limit (t ∷ ts) messages left at cut =
    (left, record { due = λ due. subst (λ (o : Offset). AreCut head o (t ∷ ts) limit (messages ++ left)) at cut; none = λ undue. absurd (undue tt) })

pub held_last : (aim : Aim) (book : Book) (ask : Bool) (old : Post) (before now : Seen) (fault : SendFault) → aim.prev ≡ offset_from book.log_sent → HeldStop aim old before now fault → LastStop aim book ask old before now fault
held_last aim book ask old before now fault at stop = record {
  messages = stop.messages;
  are = λ pushed earlier made.
      let cut = subst (λ (ms : List Message). AreCut aim.head aim.prev pushed aim.limit ms) (sym (append_assoc earlier stop.messages stop.left)) (stop.cut pushed earlier made) in
      let some = some_left aim.head aim.prev book ask aim.limit pushed (earlier ++ stop.messages) stop.left at cut in
      (some.0, subst (λ (ms : List Message). AreMessages aim.head book ask aim.limit pushed ms) (append_assoc earlier stop.messages some.0) some.1);
  posted = stop.posted;
  spelled = stop.spelled;
  cause = stop.cause;
  ends = stop.ends;
}

-- ---- the message without a body

-- it is the only one
bodyless_all : (head : Head) (prev : Offset) (book : Book) (ask : Bool) (limit : ℕ) (pushed : List Transaction) (all : List Message) → prev ≡ offset_from book.log_sent → pushed ≡ [] → IsDue book ask [] → all ≡ bodyless head prev ∷ []
    → AreMessages head book ask limit pushed all
bodyless_all head prev book ask limit [] all at none due is = record { due = λ yes. is ∙ ap (λ (o : Offset). bodyless head o ∷ []) at; none = λ no. absurd (no due) }
bodyless_all head prev book ask limit (t ∷ ts) all at none due is = absurd cc

-- nothing was made before it
alone_behind : (aim : Aim) (old : Post) (closed more : List Message) (pushed : List Transaction) (messages : List Message) → pushed ≡ [] → AreCut aim.head aim.prev pushed aim.limit (messages ++ closed)
    → messages ++ (closed ++ more) ≡ more
alone_behind aim old closed more pushed messages none cut =
    let nothing : messages ++ closed ≡ [] = nothing_cut aim.head aim.prev aim.limit (messages ++ closed) (subst (λ (ts : List Transaction). AreCut aim.head aim.prev ts aim.limit (messages ++ closed)) none cut) in
    sym (append_assoc messages closed more) ∙ ap (λ (ms : List Message). ms ++ more) nothing

are_bodyless : (aim : Aim) (book : Book) (ask : Bool) (old middle : Post) (before now : Seen) (more : List Message) → aim.prev ≡ offset_from book.log_sent → (emptied : Emptied aim old middle before now) → IsDueAlone aim.prev middle.end book ask
    → more ≡ bodyless aim.head aim.prev ∷ [] → (pushed : List Transaction) (messages : List Message) → HasMade aim old pushed messages → AreMessages aim.head book ask aim.limit pushed (messages ++ (emptied.closed ++ more))
are_bodyless aim book ask old middle before now more at emptied alone is pushed messages made =
    let none : pushed ≡ [] = same_end aim old pushed messages made (ap (λ (o : Offset). o.0) (sym emptied.end_is) ∙ alone.0) in
    bodyless_all aim.head aim.prev book ask aim.limit pushed (messages ++ (emptied.closed ++ more)) at none alone.1
    (alone_behind aim old emptied.closed more pushed messages none (emptied.cut pushed messages made) ∙ is)

-- message files after those of what the cutter held
put_files_behind : (aim : Aim) (old middle : Post) (closed more : List Message) (before seen now : Seen) → middle.put ≡ old.put + length closed → Posted before seen (put_files aim.address (aim.count + old.put) closed)
    → Posted seen now (put_files aim.address (aim.count + middle.put) more) → Posted before now (put_files aim.address (aim.count + old.put) (closed ++ more))
put_files_behind aim old middle closed more before seen now count one two =
    let same : aim.count + middle.put ≡ aim.count + old.put + length closed = omega (arith, count) in
    posted_more aim.address (aim.count + old.put) closed more before seen now one (subst (λ (n : ℕ). Posted seen now (put_files aim.address n more)) same two)

pub completed_bodyless : (aim : Aim) (book : Book) (ask : Bool) (old middle new : Post) (before seen now : Seen) → aim.prev ≡ offset_from book.log_sent → Emptied aim old middle before seen → IsDueAlone aim.prev middle.end book ask
    → Bodyless aim middle new seen now → Completed aim book ask old new before now
completed_bodyless aim book ask old middle new before seen now at emptied alone put = record {
  closed = emptied.closed ++ bodyless aim.head aim.prev ∷ [];
  are = are_bodyless aim book ask old middle before seen (bodyless aim.head aim.prev ∷ []) at emptied alone refl;
  count = omega (arith, emptied.count, put.count, length-append emptied.closed (bodyless aim.head aim.prev ∷ []));
  end_is = put.end_is ∙ emptied.end_is;
  posted = put_files_behind aim old middle emptied.closed (bodyless aim.head aim.prev ∷ []) before seen now emptied.count emptied.posted put.posted;
  spelled = AllByRecursion-append IsMessage emptied.closed (bodyless aim.head aim.prev ∷ []) emptied.spelled put.spelled;
  steady = steady_on before seen now emptied.steady put.steady;
}

fault_behind : (before middle now : Seen) (fault : SendFault) → IsSteady before middle → PutFault middle now fault → PutFault before now fault
fault_behind before middle now Disk steady cause = cause
fault_behind before middle now Mail steady cause = (rose_from before.mail_faults middle.mail_faults now.mail_faults steady.mail cause.0, cause.1 ∙ steady.disk)
fault_behind before middle now (Full end need) steady cause = cause
fault_behind before middle now (Long size limit) steady cause = cause
fault_behind before middle now Memory steady cause = (cause.0 ∙ steady.disk, cause.1 ∙ steady.mail)

pub last_stopped : (aim : Aim) (book : Book) (ask : Bool) (old middle : Post) (before seen now : Seen) (fault : SendFault) → aim.prev ≡ offset_from book.log_sent → Emptied aim old middle before seen → IsDueAlone aim.prev middle.end book ask
    → IsPartSent aim (aim.count + middle.put) seen now (bodyless aim.head aim.prev ∷ []) fault → LastStop aim book ask old before now fault
last_stopped aim book ask old middle before seen now fault at emptied alone part = record {
  messages = emptied.closed ++ part.done;
  are = λ pushed earlier made. (
    part.left,
    subst (λ (ms : List Message). AreMessages aim.head book ask aim.limit pushed (earlier ++ ms)) (sym (append_assoc emptied.closed part.done part.left))
        (are_bodyless aim book ask old middle before seen (part.done ++ part.left) at emptied alone (sym part.parts) pushed earlier made),
  );
  posted = put_files_behind aim old middle emptied.closed part.done before seen now emptied.count emptied.posted part.posted;
  spelled = AllByRecursion-append IsMessage emptied.closed part.done emptied.spelled part.spelled;
  cause = fault_behind before seen now fault emptied.steady part.cause;
  ends = ends_on before seen now emptied.steady part.ends;
}

-- ---- all of a pass

pub all_put : (db : View) (aim : Aim) (book : Book) (ask : Bool) (user : Name) (post post' : Post) (before middle now : Seen) → AllRead db aim user post before middle → Completed aim book ask post post' middle now
    → PutAll db aim book ask user before now (record { put = post'.put; end = post'.end })
all_put db aim book ask user post post' before middle now read completed = record {
  pushed = read.pushed;
  messages = read.messages ++ completed.closed;
  are = completed.are read.pushed read.messages read.made;
  count = omega (arith, completed.count, read.made.count, length-append read.messages completed.closed);
  end_is = completed.end_is ∙ read.made.end_is;
  fits = read.made.fits;
  posted = put_files_on aim post read.pushed read.messages completed.closed before middle now read.made read.posted completed.posted;
  spelled = AllByRecursion-append IsMessage read.messages completed.closed read.spelled completed.spelled;
  steady = steady_on before middle now read.steady completed.steady;
  whole = read.whole;
}

last_read : (db : View) (aim : Aim) (book : Book) (ask : Bool) (user : Name) (post : Post) (before middle now : Seen) (fault : SendFault) → AllRead db aim user post before middle → LastStop aim book ask post middle now fault
    → EndStop db aim book ask user before now fault
last_read db aim book ask user post before middle now fault read stop =
    let all = stop.are read.pushed read.messages read.made in
    record {
      pushed = read.pushed;
      messages = read.messages ++ stop.messages;
      left = all.0;
      are = subst (λ (ms : List Message). AreMessages aim.head book ask aim.limit read.pushed ms) (sym (append_assoc read.messages stop.messages all.0)) all.1;
      posted = put_files_on aim post read.pushed read.messages stop.messages before middle now read.made read.posted stop.posted;
      spelled = AllByRecursion-append IsMessage read.messages stop.messages read.spelled stop.spelled;
      whole = read.whole;
      cause = fault_behind before middle now fault read.steady stop.cause;
      ends = ends_on before middle now read.steady stop.ends;
    }

pub rest_stopped : (db : View) (aim : Aim) (book : Book) (ask : Bool) (user : Name) (post : Post) (before middle now : Seen) (fault : SendFault) → AllRead db aim user post before middle
    → LastStop aim book ask post middle now fault → PutStop db aim book ask user before now fault
rest_stopped db aim book ask user post before middle now fault read stop = inr (last_read db aim book ask user post before middle now fault read stop)

-- nothing was put, for want of memory
pub not_begun : (db : View) (aim : Aim) (user : Name) (seen : Seen) → IsAim aim → ReadStop db aim user seen seen Memory
not_begun db aim user seen good = record {
  pushed = [];
  messages = [];
  prefix = record { begins = λ rest. cut_there aim.head aim.limit (has_room aim good) aim.prev rest };
  posted = posted_none seen;
  spelled = tt;
  begins = λ told publisher es database. record { rest = unsent publisher es user (max db.log.base aim.prev.0); parts = refl };
  cause = (refl, refl);
  ends = ends_same seen;
}

pub nothing_put : (db : View) (aim : Aim) (book : Book) (ask : Bool) (user : Name) (seen : Seen) → IsAim aim → PutStop db aim book ask user seen seen Memory
nothing_put db aim book ask user seen good = inl (not_begun db aim user seen good)

-- ---- as the code meets them

-- nothing is too long where there is nothing
pub bodyless_refused : (aim : Aim) (count : ℕ) (seen : Seen) (messages : List Message) (e : TooLong) → CutCause [] e → IsPartSent aim count seen seen messages (fault_of_cut e)
bodyless_refused aim count seen messages (long.Transaction need) cause = absurd cc
bodyless_refused aim count seen messages long.Memory cause = record { done = []; left = messages; parts = refl; posted = posted_none seen; spelled = tt; cause = (refl, refl); ends = ends_same seen }

pub not_due : (due : Bool) (P : Type 0) → (IsTrue due ↔ P) → due ≡ false → ¬ P
not_due due P same is_not holds =
    let both : true ≡ false = sym (same.1 holds) ∙ is_not in
    cc

pub is_due : (due : Bool) (P : Type 0) → (IsTrue due ↔ P) → due ≡ true → P
is_due due P same is = same.0 is

pub completed_answer : (aim : Aim) (book : Book) (ask : Bool) (old middle new : Post) (before seen now : Seen) (result : Result (Unit {0}) SendFault) → aim.prev ≡ offset_from book.log_sent → Emptied aim old middle before seen
    → IsDueAlone aim.prev middle.end book ask → OnOk result (Bodyless aim middle new seen now) → OnOk result (Completed aim book ask old new before now)
completed_answer aim book ask old middle new before seen now (Ok done) at emptied alone put = completed_bodyless aim book ask old middle new before seen now at emptied alone put
completed_answer aim book ask old middle new before seen now (Err fault) at emptied alone put = tt

pub last_answer : (aim : Aim) (book : Book) (ask : Bool) (old middle : Post) (before seen now : Seen) (result : Result (Unit {0}) SendFault) → aim.prev ≡ offset_from book.log_sent → Emptied aim old middle before seen
    → IsDueAlone aim.prev middle.end book ask → IfErr result (IsPartSent aim (aim.count + middle.put) seen now (bodyless aim.head aim.prev ∷ []))
    → IfErr result (LastStop aim book ask old before now)
last_answer aim book ask old middle before seen now (Ok done) at emptied alone part = tt
last_answer aim book ask old middle before seen now (Err fault) at emptied alone part = last_stopped aim book ask old middle before seen now fault at emptied alone part
