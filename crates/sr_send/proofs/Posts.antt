-- Files that are put while a database stands still: nothing, one, and some after others.
use Rattle.std.proofs.Common.{◌≡◌, ℕ, Bool, true, List, [], ◌∷◌, ◌++◌, append_assoc, refl, sym, ap, subst, ◌∙◌, Result, Err, arith, le_refl, inl, inr}
use Rattle.std.specs.Prelude.{IsTrue, IsErrOf}
use Rattle.std.proofs.lemmas.List.{append-nil}
use Rattle.sr_book.specs.Entries.{Name}
use Rattle.sr_mail_cut.specs.Hexadecimal.{file_name_of}
use Rattle.sr_mail_cut.proofs.Lists.{AllByRecursion-append}
use Rattle.sr_database_history.specs.Recorded.{Recorded}
use Rattle.sr_msgform.specs.Messages.{IsMessage, message_spelling}
use Rattle.sr_msgform.specs.declared.message.Message.{Message}
use Rattle.sr_site.specs.Causes.{Stays, DiskStays, MailStays, Rose}
use Rattle.sr_site.specs.Files.{Files}
use Rattle.sr_site.specs.Inner.Growing.{stays_on}
use Rattle.sr_site.specs.Happenings.{Happening, sent, mail_in}
use Rattle.sr_site.specs.Images.{IsImage, IsSettled, MayLeave}
use Rattle.sr_site.specs.Seen.{Seen}
use Rattle.sr_site.specs.declared.mail.MailFault.{MailFault}
use Rattle.sr_site.specs.declared.mail.MailFault.TheVariants as mail
use Rattle.sr_database_meaning.specs.Events.{Event, put, commit, commits}
use Rattle.sr_database_meaning.specs.Standing.{StandsAs}
use Rattle.sr_database_meaning.specs.Traces.{Went}
use Rattle.sr_database_meaning.proofs.Going.{nothing, quiet, quiet_before, one_put, put_before}
use Rattle.sr_database_meaning.proofs.Joining.{joined}
use Rattle.sr_database.specs.Databases.{IsHeld, IsDatabase}
use Rattle.sr_database.specs.Views.{View}
use Rattle.sr_send.specs.Inner.Faults.{fault_of_mail}
use Rattle.sr_send.specs.PutFiles.{put_file}
use Rattle.sr_send.specs.Posting.{PutAlone, PutSucceeded, NoneFailed, LastMayFail, IsSteady}
use Rattle.sr_send.specs.Inner.Posting.{Posted, EndsAtPut}
use Rattle.sr_send.specs.Inner.Stops.{IsPartPut}
use Rattle.sr_send.specs.declared.fault.SendFault.TheVariants.{Memory}

pub still : (seen : Seen) → Stays seen seen
still seen = record { observable = refl; first = refl; grows = λ moment there. there; disk = le_refl seen.disk_faults; mail = le_refl seen.mail_faults }

pub of_disk : (before now : Seen) → DiskStays before now → Stays before now
of_disk before now stays = record { observable = stays.observable; first = stays.first; grows = stays.grows; disk = stays.later; mail = omega (arith, stays.mail_faults) }

pub of_mail : (before now : Seen) → MailStays before now → Stays before now
of_mail before now stays = record { observable = stays.observable; first = stays.first; grows = stays.grows; disk = omega (arith, stays.disk_faults); mail = stays.later }

pub told_then : (before now : Seen) → Stays before now → IsTrue before.observable → IsTrue now.observable
told_then before now stays told = subst (λ (b : Bool). IsTrue b) (sym stays.observable) told

-- ---- what is put

-- some files after others
pub alone_on : (events more : List Event) (a b c : List Happening) → PutAlone events a b → PutAlone more b c → PutAlone (events ++ more) a c
alone_on [] more a b c one two = subst (λ (from : List Happening). PutAlone more from c) one two
alone_on (commit r ∷ events) more a b c one two = alone_on events more a b c one two
alone_on (put address name bytes ∷ events) more a b c one two = (one.0, alone_on events more (sent address name bytes one.0 ∷ a) b c one.1 two)

-- what a crash may leave before these calls, it may leave behind them
image_behind : (before now : Seen) (more : List Happening) (image : Files) → now.first ≡ before.first → now.happened ≡ more ++ before.happened → MayLeave before.first (more ++ before.happened) image → IsImage now image
image_behind before now more image first is there =
    subst (λ (f : Files). MayLeave f now.happened image) (sym first) (subst (λ (h : List Happening). MayLeave before.first h image) (sym is) there)

pub posted_none : (seen : Seen) → Posted seen seen []
posted_none seen = record {
  stays = still seen;
  files = λ told. refl;
  went = λ told publisher es settled. nothing seen publisher es settled;
  images = λ told image there. there;
  images_too = λ told image there. there;
  mail = λ told. refl;
}

pub posted_read : (before now : Seen) → DiskStays before now → (IsTrue before.observable → now.files ≡ before.files) → (IsTrue before.observable → now.happened ≡ before.happened) → Posted before now []
posted_read before now stays files happened = record {
  stays = of_disk before now stays;
  files = files;
  went = λ told publisher es settled. quiet before now publisher es [] settled stays.observable stays.first (happened told) tt;
  images = λ told image there. quiet_before before now [] image stays.first (happened told) tt there;
  images_too = λ told image there. image_behind before now [] image stays.first (happened told) there;
  mail = λ told. stays.mail;
}

pub posted_one : (before now : Seen) (address name bytes : List ℕ) (done : Bool) → MailStays before now → (IsTrue before.observable → now.happened ≡ sent address name bytes done ∷ before.happened)
    → Posted before now (put address name bytes ∷ [])
posted_one before now address name bytes done stays happened = record {
  stays = of_mail before now stays;
  files = λ told. stays.files;
  went = λ told publisher es settled. one_put before now publisher es address name bytes done settled stays.observable stays.first (happened told);
  images = λ told image there. put_before before now address name bytes done image stays.first (happened told) there;
  images_too = λ told image there. image_behind before now (sent address name bytes done ∷ []) image stays.first (happened told) there;
  mail = λ told. (done, ap mail_in (happened told));
}

pub settled_then : (holds : Files → Type 0) (before now : Seen) (events : List Event) → Posted before now events → IsTrue before.observable → IsSettled holds before → IsSettled holds now
settled_then holds before now events posted told settled image there = settled image (posted.images told image there)

pub posted_on : (a b c : Seen) (events more : List Event) → commits events ≡ [] → Posted a b events → Posted b c more → Posted a c (events ++ more)
posted_on a b c events more silent one two = record {
  stays = stays_on a b c one.stays two.stays;
  files = λ told. two.files (told_then a b one.stays told) ∙ one.files told;
  went = λ told publisher es settled.
      let same : es ++ commits events ≡ es = ap (λ (rs : List Recorded). es ++ rs) silent ∙ append-nil es in
      joined a b c publisher es events more (one.went told publisher es settled)
      (subst (λ (rs : List Recorded). Went b c publisher rs more) (sym same)
      (two.went (told_then a b one.stays told) publisher es (settled_then (StandsAs publisher es) a b events one told settled)));
  images = λ told image there. one.images told image (two.images (told_then a b one.stays told) image there);
  images_too = λ told image there. two.images_too (told_then a b one.stays told) image (one.images_too told image there);
  mail = λ told. alone_on events more (mail_in a.happened) (mail_in b.happened) (mail_in c.happened) (one.mail told) (two.mail (told_then a b one.stays told));
}

-- ---- the database that stands still

pub stands_as : (view : View) (publisher : Name) (es : List Recorded) (seen : Seen) → IsDatabase view publisher es seen → IsSettled (StandsAs publisher es) seen
stands_as view publisher es seen database image left = record { base = view.log.base; stands = (database.settled image left).stands }

pub posted_database : (view : View) (publisher : Name) (es : List Recorded) (before now : Seen) (events : List Event) → Posted before now events → IsTrue before.observable → IsDatabase view publisher es before → IsDatabase view publisher es now
posted_database view publisher es before now events posted told database = record {
  is = database.is;
  held = subst (λ (files : Files). IsHeld view publisher es files) (sym (posted.files told)) database.held;
  settled = settled_then (IsHeld view publisher es) before now events posted told database.settled;
}

-- and it stood so before
pub posted_before : (view : View) (publisher : Name) (es : List Recorded) (before now : Seen) (events : List Event) → Posted before now events → IsTrue before.observable → IsDatabase view publisher es now → IsDatabase view publisher es before
posted_before view publisher es before now events posted told database = record {
  is = database.is;
  held = subst (λ (files : Files). IsHeld view publisher es files) (posted.files told) database.held;
  settled = λ image there. database.settled image (posted.images_too told image there);
}

pub posted_went : (view : View) (publisher : Name) (es : List Recorded) (before now : Seen) (events : List Event) → Posted before now events → IsTrue before.observable → IsDatabase view publisher es before → Went before now publisher es events
posted_went view publisher es before now events posted told database = posted.went told publisher es (stands_as view publisher es before database)

-- ---- counts

-- nothing happened to the mail
none_failed : (before now : List Happening) → now ≡ before → NoneFailed before now
none_failed before now same = record { more = []; is = same; done = tt }

none_on : (a b c : List Happening) → NoneFailed a b → NoneFailed b c → NoneFailed a c
none_on a b c one two = record {
  more = two.more ++ one.more;
  is = two.is ∙ ap (λ (l : List Happening). two.more ++ l) one.is ∙ sym (append_assoc two.more one.more a);
  done = AllByRecursion-append PutSucceeded two.more one.more two.done one.done;
}

pub same_counts : (seen : Seen) → IsSteady seen seen
same_counts seen = record { observable = refl; disk = refl; mail = refl; done = λ told. none_failed (mail_in seen.happened) (mail_in seen.happened) refl }

pub steady_on : (a b c : Seen) → IsSteady a b → IsSteady b c → IsSteady a c
steady_on a b c one two = record {
  observable = two.observable ∙ one.observable;
  disk = two.disk ∙ one.disk;
  mail = two.mail ∙ one.mail;
  done = λ told. none_on (mail_in a.happened) (mail_in b.happened) (mail_in c.happened) (one.done told) (two.done (subst (λ (x : Bool). IsTrue x) (sym one.observable) told));
}

-- ---- where putting ends

-- nothing happened to the mail
pub ends_none : (before now : Seen) → (IsTrue before.observable → mail_in now.happened ≡ mail_in before.happened) → EndsAtPut before now
ends_none before now same = λ told. record { last = []; one = omega arith; more = []; is = same told; done = tt }

pub ends_same : (seen : Seen) → EndsAtPut seen seen
ends_same seen = ends_none seen seen (λ told. refl)

pub ends_put : (before now : Seen) (address name bytes : List ℕ) (done : Bool) → (IsTrue before.observable → now.happened ≡ sent address name bytes done ∷ before.happened) → EndsAtPut before now
ends_put before now address name bytes done happened = λ told. record { last = sent address name bytes done ∷ []; one = omega arith; more = []; is = ap mail_in (happened told); done = tt }

last_on : (a b c : List Happening) → NoneFailed a b → LastMayFail b c → LastMayFail a c
last_on a b c one two = record {
  last = two.last;
  one = two.one;
  more = two.more ++ one.more;
  is = two.is ∙ ap (λ (l : List Happening). two.last ++ (two.more ++ l)) one.is ∙ ap (λ (l : List Happening). two.last ++ l) (sym (append_assoc two.more one.more a));
  done = AllByRecursion-append PutSucceeded two.more one.more two.done one.done;
}

pub ends_on : (a b c : Seen) → IsSteady a b → EndsAtPut b c → EndsAtPut a c
ends_on a b c steady ends =
    λ told. last_on (mail_in a.happened) (mail_in b.happened) (mail_in c.happened) (steady.done told) (ends (subst (λ (x : Bool). IsTrue x) (sym steady.observable) told))

pub ends_steady : (a b : Seen) → IsSteady a b → EndsAtPut a b
ends_steady a b steady = ends_on a b b steady (ends_same b)

-- a call of the disk succeeded
pub steady_read : (before now : Seen) → DiskStays before now → now.disk_faults ≡ before.disk_faults → IsSteady before now
steady_read before now stays same = record {
  observable = stays.observable;
  disk = same;
  mail = stays.mail_faults;
  done = λ told. none_failed (mail_in before.happened) (mail_in now.happened) stays.mail;
}

-- a put did
pub steady_put : (before now : Seen) (address name bytes : List ℕ) → MailStays before now → now.mail_faults ≡ before.mail_faults → (IsTrue before.observable → now.happened ≡ sent address name bytes true ∷ before.happened) → IsSteady before now
steady_put before now address name bytes stays same happened = record {
  observable = stays.observable;
  disk = stays.disk_faults;
  mail = same;
  done = λ told. record { more = sent address name bytes true ∷ []; is = ap mail_in (happened told); done = (refl, tt) };
}

pub rose_from : (old middle new : ℕ) → middle ≡ old → Rose middle new → Rose old new
rose_from old middle new same rose = subst (λ (n : ℕ). Rose n new) same rose

-- ---- one message

-- it is put as its file
pub put_as : (before now : Seen) (address name bytes : List ℕ) (done : Bool) (number : ℕ) (m : Message) → name ≡ file_name_of m.from number → bytes ≡ message_spelling m → MailStays before now
    → (IsTrue before.observable → now.happened ≡ sent address name bytes done ∷ before.happened) → Posted before now (put_file address number m ∷ [])
put_as before now address name bytes done number m name_is bytes_are stays happened =
    posted_one before now address (file_name_of m.from number) (message_spelling m) done stays
    (λ told. happened told
    ∙ ap (λ (n : List ℕ). sent address n bytes done ∷ before.happened) name_is
    ∙ ap (λ (b : List ℕ). sent address (file_name_of m.from number) b done ∷ before.happened) bytes_are)

pub not_begun : (seen : Seen) (address : Name) (number : ℕ) (m : Message) → IsPartPut seen seen address number m Memory
not_begun seen address number m = record { posted = inl (posted_none seen); cause = (refl, refl); ends = ends_same seen }

pub part_begun : (before now : Seen) (address : Name) (number : ℕ) (m : Message) (fault : MailFault) (result : Result (Unit {0}) MailFault) → result ≡ Err fault → Posted before now (put_file address number m ∷ []) → IsMessage m
    → EndsAtPut before now
    → MailStays before now → (IsErrOf result mail.Failed → Rose before.mail_faults now.mail_faults) → (IsErrOf result mail.Memory → now.mail_faults ≡ before.mail_faults)
    → IsPartPut before now address number m (fault_of_mail fault)
part_begun before now address number m mail.Failed result is posted spelled ends stays cause short = record { posted = inr (posted, spelled); cause = (cause is, stays.disk_faults); ends = ends }
part_begun before now address number m mail.Memory result is posted spelled ends stays cause short = record { posted = inr (posted, spelled); cause = (stays.disk_faults, short is); ends = ends }
