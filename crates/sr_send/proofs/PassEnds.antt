-- A pass as its caller sees it.
use Rattle.std.proofs.Common.{◌≡◌, ℕ, List, [], ◌∷◌, ◌++◌, length, Option, Some, None, refl, sym, ap, subst, ◌∙◌, arith, inl, inr}
use Rattle.std.specs.Prelude.{IsTrue, IsSome, Bool, true, false, ◌≢◌}
use Rattle.std.specs.List.{AllByRecursion}
use Rattle.std.specs.Option.{option_map}
use Rattle.std.proofs.lemmas.List.{append-nil}
use Rattle.sr_base.specs.Values.{offset_from}
use Rattle.sr_book.specs.Entries.{Name}
use Rattle.sr_book.specs.declared.book.Book.{Book}
use Rattle.sr_database_files.specs.Books.{book_in}
use Rattle.sr_mail_cut.specs.Bodies.{last_at, first_long}
use Rattle.sr_mail_cut.specs.Cuts.{AreCut}
use Rattle.sr_mail_cut.specs.declared.head.Head.{Head}
use Rattle.sr_database.specs.Causes.{IsTooFar}
use Rattle.sr_database.specs.Inner.Causes.{IsSame}
use Rattle.sr_database.specs.Commits.{HasRoom}
use Rattle.sr_database.specs.Databases.{IsOf, IsDatabase}
use Rattle.sr_database.specs.Advances.{Advances}
use Rattle.sr_database.proofs.Advancing.{none_advanced}
use Rattle.sr_database.proofs.InForce.{in_force_still}
use Rattle.sr_database.specs.InForce.{HasLogInForce}
use Rattle.sr_database.specs.Views.{View}
use Rattle.sr_database_history.specs.Folds.{fresh}
use Rattle.sr_database_history.specs.Recorded.{Recorded, entry_of}
use Rattle.sr_logform.specs.declared.op.Transaction.{Transaction}
use Rattle.sr_msgform.specs.Messages.{IsMessage}
use Rattle.sr_msgform.specs.declared.message.Message.{Message}
use Rattle.sr_catalog_schema.specs.Catalogs.{Lists}
use Rattle.sr_catalog_schema.specs.declared.user.User.{User}
use Rattle.sr_site.specs.Causes.{Stays, DiskStays}
use Rattle.sr_site.specs.Inner.Growing.{stays_on}
use Rattle.sr_site.specs.Happenings.{Happening, mail_in}
use Rattle.sr_site.specs.Seen.{Seen}
use Rattle.sr_database_meaning.specs.Events.{Event, commit, commits}
use Rattle.sr_database_meaning.specs.Traces.{Went}
use Rattle.sr_database_meaning.proofs.Beginnings.{publisher_from}
use Rattle.sr_database_meaning.proofs.Joining.{joined}
use Rattle.sr_send.specs.Inner.Aims.{aim_at}
use Rattle.sr_send.specs.PutFiles.{head_of, address_in, AreMessages, put_files, sent_note, noted_put_files}
use Rattle.sr_send.specs.Inner.Notes.{Noted, NoteCause}
use Rattle.sr_send.specs.Passes.{waiting, AreAll, sent_end, Passed, HasSent, PutInPart, Unnoted, PutAndBegan, NoteRefused, NoteFull, HasLongEncoding, SendCause}
use Rattle.sr_send.specs.Posting.{PutAlone, NoneFailed, IsSteady, IsDeviceFault}
use Rattle.sr_send.specs.Inner.Posting.{Posted, EndsAtPut, PutFault}
use Rattle.sr_send.specs.Inner.Steps.{PutAll}
use Rattle.sr_send.specs.Inner.Stops.{StopFault, ReadStop, EndStop, PutStop}
use Rattle.sr_send.specs.declared.aim.Aim.{Aim}
use Rattle.sr_send.specs.declared.fault.SendFault.{SendFault}
use Rattle.sr_send.specs.declared.fault.SendFault.TheVariants.{Disk, Mail, Full, Long, Memory}
use Rattle.sr_send.specs.declared.sending.Sent.{Sent}
use Rattle.sr_send.proofs.Posts.{of_disk, told_then, alone_on, posted_database, posted_went, steady_on, steady_read, ends_steady, rose_from}
use Rattle.sr_send.proofs.Numbers.{no_commits, commits_behind}
use Rattle.sr_send.proofs.Cutting.{still_long}
use Rattle.sr_send.proofs.Endings.{some_left}

-- the book of a user who is granted
pub book_is : (o : Option User) (b book : Book) → Some book ≡ option_map (λ _. b) o → book ≡ b
book_is None b book e = absurd cc
book_is (Some user) b book e = cc

-- the publisher at the base is that of the history
head_is : (db : View) (publisher : Name) (es : List Recorded) (user : Name) (book : Book) (ask : Bool) → IsOf db publisher es → head_of db.base_catalog.publisher user book ask ≡ head_of publisher user book ask
head_is db publisher es user book ask is =
    let same : db.base_catalog.publisher ≡ publisher = ap (λ (c : Lists). c.publisher) is.based.catalog_is ∙ publisher_from (fresh publisher) is.based.done in
    ap (λ (name : Name). head_of name user book ask) same

are_along : (head head' : Head) (book : Book) (ask : Bool) (limit : ℕ) (ts ts' : List Transaction) (messages : List Message) → head ≡ head' → ts ≡ ts' → AreMessages head book ask limit ts messages → AreMessages head' book ask limit ts' messages
are_along head head' book ask limit ts ts' messages same whole are =
    subst (λ (l : List Transaction). AreMessages head' book ask limit l messages) whole (subst (λ (h : Head). AreMessages h book ask limit ts messages) same are)

-- ---- a pass to a user with this book

module _ (db : View) (user : Name) (book : Book) (limit : ℕ) (ask : Bool) (is : book ≡ book_in db.books user) where
  -- in part
  abbrev pub InPart : Seen → Seen → Type 0
  InPart before now = IsTrue before.observable → (publisher : Name) (es : List Recorded) → IsDatabase db publisher es before → PutInPart db before now publisher es user book limit ask

  unnoted : (before now : Seen) → Stays before now → InPart before now → Unnoted db db before now user limit ask
  unnoted before now stays part = record {
    same = refl;
    stays = stays;
    part = λ told publisher es database. subst (λ (b : Book). PutInPart db before now publisher es user b limit ask) is (part told publisher es database);
  }

  read_part : (before now : Seen) (fault : SendFault) → ReadStop db (aim_at db user book limit ask) user before now fault → InPart before now
  read_part before now fault stop told publisher es database =
      let begins = stop.begins told publisher es database in
      let head = head_of db.base_catalog.publisher user book ask in
      let more = stop.prefix.begins begins.rest in
      let cut = subst (λ (ts : List Transaction). AreCut head (offset_from book.log_sent) ts limit (stop.messages ++ more.0)) (sym begins.parts) more.1 in
      let some = some_left head (offset_from book.log_sent) book ask limit (waiting db.log.base publisher es user book) stop.messages more.0 refl cut in
      record {
        messages = stop.messages;
        left = some.0;
        are = are_along head (head_of publisher user book ask) book ask limit (waiting db.log.base publisher es user book) (waiting db.log.base publisher es user book) (stop.messages ++ some.0)
            (head_is db publisher es user book ask database.is) refl some.1;
        spelled = stop.spelled;
        went = posted_went db publisher es before now _ stop.posted told database;
        mail = stop.posted.mail told;
        outcomes = stop.ends told;
        database = posted_database db publisher es before now _ stop.posted told database;
      }

  -- all that was put, with what is left
  all_part : (before now : Seen) (pushed : List Transaction) (messages left : List Message) → AreMessages (head_of db.base_catalog.publisher user book ask) book ask limit pushed (messages ++ left)
      → Posted before now (put_files (address_in db.catalog user) book.send_count messages) → AllByRecursion IsMessage messages → EndsAtPut before now
      → (IsTrue before.observable → (publisher : Name) (es : List Recorded) → IsDatabase db publisher es before → pushed ≡ waiting db.log.base publisher es user book) → InPart before now
  all_part before now pushed messages left are posted spelled ends whole told publisher es database = record {
    messages = messages;
    left = left;
    are = are_along (head_of db.base_catalog.publisher user book ask) (head_of publisher user book ask) book ask limit pushed (waiting db.log.base publisher es user book) (messages ++ left)
        (head_is db publisher es user book ask database.is) (whole told publisher es database) are;
    spelled = spelled;
    went = posted_went db publisher es before now _ posted told database;
    mail = posted.mail told;
    outcomes = ends told;
    database = posted_database db publisher es before now _ posted told database;
  }

  end_part : (before now : Seen) (fault : SendFault) → EndStop db (aim_at db user book limit ask) book ask user before now fault → InPart before now
  end_part before now fault stop = all_part before now stop.pushed stop.messages stop.left stop.are stop.posted stop.spelled stop.ends stop.whole

  put_part : (before now : Seen) (sent : Sent) → PutAll db (aim_at db user book limit ask) book ask user before now sent → InPart before now
  put_part before now sent put =
      all_part before now put.pushed put.messages [] (subst (λ (ms : List Message). AreMessages (head_of db.base_catalog.publisher user book ask) book ask limit put.pushed ms) (sym (append-nil put.messages)) put.are)
      put.posted put.spelled (ends_steady before now put.steady) put.whole

  -- the first encoding that is too long
  long_part : (before now : Seen) (size longest : ℕ) → ReadStop db (aim_at db user book limit ask) user before now (Long size longest) → HasLongEncoding db before user size longest
  long_part before now size longest stop = record {
    limit_is = stop.cause.1;
    first = λ told publisher es database.
        let begins = stop.begins told publisher es database in
        subst (λ (b : Book). first_long (waiting db.log.base publisher es user b) ≡ Some size) is (ap first_long begins.parts ∙ still_long stop.pushed begins.rest size stop.cause.2);
  }

  read_cause : (before now : Seen) (fault : SendFault) → ReadStop db (aim_at db user book limit ask) user before now fault → SendCause db db before now user limit ask fault
  read_cause before now Disk stop = (stop.cause.0, inl (unnoted before now stop.posted.stays (read_part before now Disk stop)))
  read_cause before now Mail stop = (stop.cause.0, unnoted before now stop.posted.stays (read_part before now Mail stop))
  read_cause before now (Full end need) stop = absurd stop.cause
  read_cause before now (Long size longest) stop = (long_part before now size longest stop, unnoted before now stop.posted.stays (read_part before now (Long size longest) stop))
  read_cause before now Memory stop = unnoted before now stop.posted.stays (read_part before now Memory stop)

  end_cause : (before now : Seen) (fault : SendFault) → EndStop db (aim_at db user book limit ask) book ask user before now fault → SendCause db db before now user limit ask fault
  end_cause before now Disk stop = absurd stop.cause
  end_cause before now Mail stop = (stop.cause.0, unnoted before now stop.posted.stays (end_part before now Mail stop))
  end_cause before now (Full end need) stop = absurd stop.cause
  end_cause before now (Long size longest) stop = absurd stop.cause
  end_cause before now Memory stop = unnoted before now stop.posted.stays (end_part before now Memory stop)

  pub put_stopped : (before now : Seen) (fault : SendFault) → PutStop db (aim_at db user book limit ask) book ask user before now fault → SendCause db db before now user limit ask fault
  put_stopped before now fault (inl stop) = read_cause before now fault stop
  put_stopped before now fault (inr stop) = end_cause before now fault stop

  -- ---- the note

  -- what a whole pass leaves, with its note
  module _ (new : View) (before middle now : Seen) (sent : Sent) (put : PutAll db (aim_at db user book limit ask) book ask user before middle sent) where
    all_of : IsTrue before.observable → (publisher : Name) (es : List Recorded) → IsDatabase db publisher es before → AreAll db.log.base publisher es user book ask limit put.messages
    all_of told publisher es database =
        are_along (head_of db.base_catalog.publisher user book ask) (head_of publisher user book ask) book ask limit put.pushed (waiting db.log.base publisher es user book) put.messages
        (head_is db publisher es user book ask database.is) (put.whole told publisher es database) put.are

    end_of_all : IsTrue before.observable → (publisher : Name) (es : List Recorded) → IsDatabase db publisher es before → sent.end ≡ sent_end db.log.base publisher es user book
    end_of_all told publisher es database = put.end_is ∙ ap (last_at (offset_from book.log_sent)) (put.whole told publisher es database)

    fits_all : IsTrue before.observable → (publisher : Name) (es : List Recorded) → IsDatabase db publisher es before → first_long (waiting db.log.base publisher es user book) ≡ None
    fits_all told publisher es database = ap first_long (sym (put.whole told publisher es database)) ∙ put.fits

    -- the message files, and then one commit
    put_files_then : (r : Recorded) (publisher : Name) (es : List Recorded) → IsTrue before.observable → IsDatabase db publisher es before
        → (IsTrue middle.observable → IsDatabase db publisher es middle → Went middle now publisher es (commit r ∷ []))
        → Went before now publisher es (put_files (address_in db.catalog user) book.send_count put.messages ++ commit r ∷ [])
    put_files_then r publisher es told database noted =
        let events = put_files (address_in db.catalog user) book.send_count put.messages in
        let same : es ++ commits events ≡ es = ap (λ (rs : List Recorded). es ++ rs) (no_commits (address_in db.catalog user) book.send_count put.messages) ∙ append-nil es in
        joined before middle now publisher es events (commit r ∷ []) (posted_went db publisher es before middle events put.posted told database)
        (subst (λ (rs : List Recorded). Went middle now publisher rs (commit r ∷ [])) (sym same)
        (noted (told_then before middle put.posted.stays told) (posted_database db publisher es before middle events put.posted told database)))

    -- what happened to the mail: nothing but the message files, whatever commit was begun after them
    mail_then : (begun : List Event) → IsTrue before.observable → PutAlone begun (mail_in middle.happened) (mail_in now.happened)
        → PutAlone (put_files (address_in db.catalog user) book.send_count put.messages ++ begun) (mail_in before.happened) (mail_in now.happened)
    mail_then begun told alone =
        alone_on (put_files (address_in db.catalog user) book.send_count put.messages) begun (mail_in before.happened) (mail_in middle.happened) (mail_in now.happened) (put.posted.mail told) alone

    -- nothing was put: nothing is noted
    passed_none : (publisher : Name) (es : List Recorded) → IsTrue before.observable → IsDatabase db publisher es before → put.messages ≡ [] → Passed db db before middle publisher es user book limit ask sent
    passed_none publisher es told database none = record {
      messages = [];
      are = subst (λ (ms : List Message). AreAll db.log.base publisher es user book ask limit ms) none (all_of told publisher es database);
      spelled = tt;
      count = put.count ∙ ap (λ (ms : List Message). length ms) none;
      end_is = end_of_all told publisher es database;
      fits = fits_all told publisher es database;
      went = subst (λ (ms : List Message). Went before middle publisher es (put_files (address_in db.catalog user) book.send_count ms)) none (posted_went db publisher es before middle _ put.posted told database);
      mail = subst (λ (ms : List Message). PutAlone (put_files (address_in db.catalog user) book.send_count ms) (mail_in before.happened) (mail_in middle.happened)) none (put.posted.mail told);
      database = subst (λ (rs : List Recorded). IsDatabase db publisher rs middle) (sym (append-nil es)) (posted_database db publisher es before middle _ put.posted told database);
    }

    no_messages : (ms : List Message) → length ms ≡ 0 → ms ≡ []
    no_messages [] none = refl
    no_messages (m ∷ ms) none = absurd (omega (arith, none))

    pub sent_none : sent.put ≡ 0 → db.log.usable ≡ true → db.pending ≡ [] → HasSent db db before middle user limit ask sent
    sent_none none usable pending = record {
      usable = usable;
      pending = pending;
      stays = put.posted.stays;
      steady = put.steady;
      idle = λ nothing. refl;
      room = λ some. absurd (some none);
      value = λ some. absurd (some none);
      in_force = λ told has. in_force_still db db before middle refl (none_advanced db) (put.posted.files told) (put.posted.images told) has;
      passed = λ told publisher es database.
          subst (λ (b : Book). Passed db db before middle publisher es user b limit ask sent) is
          (passed_none publisher es told database (no_messages put.messages (sym put.count ∙ none)));
    }

    -- the trace of message files that are some
    noted_is : (ms : List Message) → ms ≢ [] → noted_put_files (address_in db.catalog user) user book sent.end ms
        ≡ put_files (address_in db.catalog user) book.send_count ms ++ commit (sent_note user book sent.end (length ms)) ∷ []
    noted_is [] some = absurd (some refl)
    noted_is (m ∷ ms) some = refl

    some_messages : sent.put ≢ 0 → put.messages ≢ []
    some_messages some none = some (put.count ∙ ap (λ (ms : List Message). length ms) none)

    passed_noted : (publisher : Name) (es : List Recorded) → IsTrue before.observable → IsDatabase db publisher es before → sent.put ≢ 0 → DiskStays middle now → Noted db new middle now (sent_note user book sent.end sent.put)
        → Passed db new before now publisher es user book limit ask sent
    passed_noted publisher es told database some stays noted =
        let address = address_in db.catalog user in
        let r = sent_note user book sent.end sent.put in
        let trace = noted_is put.messages (some_messages some) in
        let whole : put_files address book.send_count put.messages ++ commit r ∷ [] ≡ noted_put_files address user book sent.end put.messages =
        ap (λ (n : ℕ). put_files address book.send_count put.messages ++ commit (sent_note user book sent.end n) ∷ []) put.count ∙ sym trace in
        let middle_is = posted_database db publisher es before middle _ put.posted told database in
        let then = told_then before middle put.posted.stays told in
        let stands : IsDatabase new publisher (es ++ commits (put_files address book.send_count put.messages ++ commit r ∷ [])) now =
        subst (λ (rs : List Recorded). IsDatabase new publisher (es ++ rs) now) (sym (commits_behind address book.send_count put.messages (commit r ∷ []))) (noted.database then publisher es middle_is) in
        record {
          messages = put.messages;
          are = all_of told publisher es database;
          spelled = put.spelled;
          count = put.count;
          end_is = end_of_all told publisher es database;
          fits = fits_all told publisher es database;
          went = subst (λ (events : List Event). Went before now publisher es events) whole (put_files_then r publisher es told database (λ yes there. noted.went yes publisher es there));
          mail = subst (λ (events : List Event). PutAlone events (mail_in before.happened) (mail_in now.happened)) whole (mail_then (commit r ∷ []) told stays.mail);
          database = subst (λ (events : List Event). IsDatabase new publisher (es ++ commits events) now) whole stands;
        }

    pub sent_noted : sent.put ≢ 0 → DiskStays middle now → Noted db new middle now (sent_note user book sent.end sent.put) → HasSent db new before now user limit ask sent
    sent_noted some stays noted = record {
      usable = noted.usable;
      pending = noted.pending;
      stays = stays_on before middle now put.posted.stays (of_disk middle now stays);
      steady = steady_on before middle now put.steady (steady_read middle now stays noted.steady);
      idle = λ none. absurd (some none);
      value = λ yes. subst (λ (b : Book). Advances db new (sent_note user b sent.end sent.put ∷ [])) is noted.value;
      in_force = λ told has. noted.in_force (told_then before middle put.posted.stays told);
      room = λ yes. subst (λ (b : Book). HasRoom db.log (entry_of (sent_note user b sent.end sent.put))) is noted.room;
      passed = λ told publisher es database.
          subst (λ (b : Book). Passed db new before now publisher es user b limit ask sent) is (passed_noted publisher es told database some stays noted);
    }

    -- all is as it was before the note
    unnoted_then : IsSame db new middle now → Unnoted db new before now user limit ask
    unnoted_then same = record {
      same = same.value;
      stays = subst (λ (seen : Seen). Stays before seen) (sym same.site) put.posted.stays;
      part = λ told publisher es database.
          subst (λ (seen : Seen). PutInPart db before seen publisher es user (book_in db.books user) limit ask) (sym same.site)
          (subst (λ (b : Book). PutInPart db before middle publisher es user b limit ask) is (put_part before middle sent put told publisher es database));
    }

    -- all of them, and then these commits
    put_and_began : (publisher : Name) (es : List Recorded) (begun : List Event) → IsTrue before.observable → IsDatabase db publisher es before
        → Went before now publisher es (put_files (address_in db.catalog user) book.send_count put.messages ++ begun) → PutAlone begun (mail_in middle.happened) (mail_in now.happened)
        → mail_in now.happened ≡ mail_in middle.happened → PutAndBegan db.log.base before now (address_in db.catalog user) publisher es user book limit ask sent.end sent.put begun
    put_and_began publisher es begun told database trace alone same = record {
      messages = put.messages;
      are = all_of told publisher es database;
      spelled = put.spelled;
      count_is = put.count;
      end_is = end_of_all told publisher es database;
      went = trace;
      mail = mail_then begun told alone;
      done = subst (λ (l : List Happening). NoneFailed (mail_in before.happened) l) (sym same) (put.steady.done told);
    }

    -- no commit was begun
    put_files_alone : (publisher : Name) (es : List Recorded) → IsTrue before.observable → IsDatabase db publisher es before → now ≡ middle
        → Went before now publisher es (put_files (address_in db.catalog user) book.send_count put.messages ++ [])
    put_files_alone publisher es told database same =
        let events = put_files (address_in db.catalog user) book.send_count put.messages in
        subst (λ (seen : Seen). Went before seen publisher es (events ++ [])) (sym same)
        (subst (λ (l : List Event). Went before middle publisher es l) (sym (append-nil events)) (posted_went db publisher es before middle events put.posted told database))

    refused_note : sent.put ≢ 0 → DiskStays middle now → NoteCause db new middle now (sent_note user book sent.end sent.put) Disk → NoteRefused db new before now user limit ask
    refused_note some stays cause = record {
      spent = cause.0.spent;
      pending = cause.0.pending;
      stays = stays_on before middle now put.posted.stays (of_disk middle now stays);
      sent = sent.end;
      count = sent.put;
      some = some;
      room = subst (λ (b : Book). HasRoom db.log (entry_of (sent_note user b sent.end sent.put))) is cause.1;
      part = λ told publisher es database.
          let r = sent_note user book sent.end sent.put in
          subst (λ (b : Book). PutAndBegan db.log.base before now (address_in db.catalog user) publisher es user b limit ask sent.end sent.put (commit (sent_note user b sent.end sent.put) ∷ [])) is
          (put_and_began publisher es (commit r ∷ []) told database (put_files_then r publisher es told database (λ yes there. cause.2 yes publisher es there)) stays.mail stays.mail);
    }

    full_note : (end need : ℕ) → sent.put ≢ 0 → IsTooFar db.log (entry_of (sent_note user book sent.end sent.put)) end need → DiskStays middle now → now ≡ middle → NoteFull db before now user limit ask end need
    full_note end need some full stays same = record {
      sent = sent.end;
      count = sent.put;
      some = some;
      full = subst (λ (b : Book). IsTooFar db.log (entry_of (sent_note user b sent.end sent.put)) end need) is full;
      part = λ told publisher es database.
          subst (λ (b : Book). PutAndBegan db.log.base before now (address_in db.catalog user) publisher es user b limit ask sent.end sent.put []) is
          (put_and_began publisher es [] told database (put_files_alone publisher es told database same) stays.mail stays.mail);
    }

    pub note_stopped : (fault : SendFault) → sent.put ≢ 0 → DiskStays middle now → NoteCause db new middle now (sent_note user book sent.end sent.put) fault → SendCause db new before now user limit ask fault
    note_stopped Disk some stays cause = (rose_from before.disk_faults middle.disk_faults now.disk_faults put.steady.disk cause.0.rose, inr (refused_note some stays cause))
    note_stopped Mail some stays cause = absurd cause
    note_stopped (Full end need) some stays cause = (full_note end need some cause.0 stays cause.1.site, unnoted_then cause.1)
    note_stopped (Long size longest) some stays cause = absurd cause
    note_stopped Memory some stays cause = unnoted_then cause

-- ---- which device refused

stop_device : (before now : Seen) (pushed : List Transaction) (fault : SendFault) → StopFault before now pushed fault → IsDeviceFault before now fault
stop_device before now pushed Disk cause = cause
stop_device before now pushed Mail cause = cause
stop_device before now pushed (Full end need) cause = absurd cause
stop_device before now pushed (Long size longest) cause = cause.0
stop_device before now pushed Memory cause = cause

put_device : (before now : Seen) (fault : SendFault) → PutFault before now fault → IsDeviceFault before now fault
put_device before now Disk cause = absurd cause
put_device before now Mail cause = cause
put_device before now (Full end need) cause = absurd cause
put_device before now (Long size longest) cause = absurd cause
put_device before now Memory cause = cause

pub pass_device : (db : View) (aim : Aim) (book : Book) (ask : Bool) (user : Name) (before now : Seen) (fault : SendFault) → PutStop db aim book ask user before now fault → IsDeviceFault before now fault
pass_device db aim book ask user before now fault (inl stop) = stop_device before now stop.pushed fault stop.cause
pass_device db aim book ask user before now fault (inr stop) = put_device before now fault stop.cause

pub note_device : (old new : View) (before middle now : Seen) (r : Recorded) (fault : SendFault) → IsSteady before middle → DiskStays middle now → NoteCause old new middle now r fault → IsDeviceFault before now fault
note_device old new before middle now r Disk steady stays cause = (rose_from before.disk_faults middle.disk_faults now.disk_faults steady.disk cause.0.rose, stays.mail_faults ∙ steady.mail)
note_device old new before middle now r Mail steady stays cause = absurd cause
note_device old new before middle now r (Full end need) steady stays cause = subst (λ (seen : Seen). IsSteady before seen) (sym cause.1.site) steady
note_device old new before middle now r (Long size longest) steady stays cause = absurd cause
note_device old new before middle now r Memory steady stays cause =
    (ap (λ (seen : Seen). seen.disk_faults) cause.site ∙ steady.disk, ap (λ (seen : Seen). seen.mail_faults) cause.site ∙ steady.mail)

-- a user who is granted has a book
pub has_book : (found : Option Book) (o : Option User) (b : Book) → found ≡ option_map (λ _. b) o → IsSome o → ((book : Book) → found ≡ Some book → ⊥) → ⊥
has_book found None b is known none = let both : false ≡ true = known in cc
has_book found (Some user) b is known none = none b is

-- the log is still in force once files were put
pub still_in_force : (db : View) (before now : Seen) (events : List Event) → Posted before now events → (IsTrue before.observable → HasLogInForce db before) → IsTrue now.observable → HasLogInForce db now
still_in_force db before now events posted stands told =
    let then : IsTrue before.observable = subst (λ (b : Bool). IsTrue b) posted.stays.observable told in
    in_force_still db db before now refl (none_advanced db) (posted.files then) (posted.images then) (stands then)
