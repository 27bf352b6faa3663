-- A delivery, from what the pass to a partner says.
use Rattle.std.proofs.Common.{◌≡◌, ◌⊎◌, ℕ, zero, suc, None, Bool, true, List, [], ◌∷◌, ◌++◌, length, Result, Ok, Err, IfErr, refl, sym, ap, subst, inl, inr, ◌∙◌, arith}
use Rattle.std.specs.Prelude.{◌≢◌, IsTrue, IsErrAnd}
use Rattle.std.proofs.lemmas.List.{append-nil}
use Rattle.sr_base.specs.declared.offset.Offset.{Offset}
use Rattle.sr_book.specs.Entries.{Name}
use Rattle.sr_book.specs.declared.book.Book.{Book}
use Rattle.sr_database_files.specs.Books.{book_in}
use Rattle.sr_mail_cut.specs.Bodies.{first_long}
use Rattle.sr_database.specs.Databases.{IsDatabase}
use Rattle.sr_database.specs.Inner.Sound.{IsSound}
use Rattle.sr_database.proofs.Advancing.{advanced_sound}
use Rattle.sr_database.specs.Views.{View}
use Rattle.sr_database_history.specs.Folds.{books_of}
use Rattle.sr_database_history.specs.Recorded.{Recorded}
use Rattle.sr_msgform.specs.declared.message.Message.{Message}
use Rattle.sr_receive.specs.Inner.Ready.{IsReady}
use Rattle.sr_catalog_schema.specs.Catalogs.{Lists}
use Rattle.sr_send.specs.PutFiles.{address_in, put_files, noted_put_files, sent_note}
use Rattle.sr_send.specs.Passes.{AreAll, HasSent, PutAndBegan, PutInPart, SendCause, sent_end, waiting}
use Rattle.sr_send.specs.Posting.{IsDeviceFault}
use Rattle.sr_send.specs.declared.fault.SendFault.{SendFault}
use Rattle.sr_send.specs.declared.fault.SendFault.TheVariants as sends
use Rattle.sr_send.specs.declared.sending.Sent.{Sent}
use Rattle.sr_site.specs.Happenings.{mail_in}
use Rattle.sr_site.specs.Seen.{Seen}
use Rattle.sr_site.specs.Streams.{Output}
use Rattle.sr_database_meaning.specs.Events.{Event, commit, commits}
use Rattle.sr_database_meaning.specs.Traces.{Went}
use Rattle.sr_agent.specs.Deliveries.{Delivery, delivery_events, folder_of, with_puts}
use Rattle.sr_agent.specs.Ends.{Ended}
use Rattle.sr_agent.specs.Faults.{fault_of_send}
use Rattle.sr_agent.specs.Lines.{Line, lines_text, sent as sent_line}
use Rattle.sr_agent.specs.Inner.Steps.{BrokeInDelivery, DeliveryBroken, DeliveryDone, KeepsPartners, Told, ToldInPart, TookDelivery}
use Rattle.sr_agent.specs.declared.fault.AgentFault.{AgentFault}
use Rattle.sr_agent.specs.declared.fault.AgentFault.TheVariants.{Sink}
use Rattle.sr_agent.specs.declared.partner.Partner.{Partner}
use Rattle.sr_agent.proofs.Ending.{sink_end}
use Rattle.sr_agent.proofs.PutDone.{puts_done}
use Rattle.sr_agent.proofs.Values.{keeps_partners, keeps_same}

-- the line of what was put
abbrev pub line_of : Partner → Sent → Line
line_of partner sent = sent_line partner.user sent.put sent.end.0

-- ---- the database after a pass

is_put : (count : ℕ) → (count ≡ 0) ⊎ (count ≢ 0)
is_put zero = inl refl
is_put (suc count) = inr (λ none. absurd (cc))

pub ready_then : (old new : View) (before now : Seen) (user : Name) (limit : ℕ) (ask : Bool) (sent : Sent) → IsReady old before → HasSent old new before now user limit ask sent → IsReady new now
ready_then old new before now user limit ask sent ready has = record {
  usable = has.usable;
  idle = has.pending;
  sound = elim (is_put sent.put) [
    | inl none ↦ subst (λ (v : View). IsSound v) (sym (has.idle none)) ready.sound
    | inr some ↦ advanced_sound old new (sent_note user (book_in old.books user) sent.end sent.put ∷ []) (has.value some) ready.sound
  ];
  stands = λ told.
      let first : IsTrue before.observable = subst (λ (b : Bool). IsTrue b) has.stays.observable told in
      has.in_force first (ready.stands first);
}

pub keeps_then : (old new : View) (before now : Seen) (user : Name) (limit : ℕ) (ask : Bool) (sent : Sent) → IsReady old before → HasSent old new before now user limit ask sent → KeepsPartners old new
keeps_then old new before now user limit ask sent ready has = elim (is_put sent.put) [
  | inl none ↦ subst (λ (v : View). KeepsPartners old v) (sym (has.idle none)) (keeps_same old)
  | inr some ↦
      keeps_partners old new (sent_note user (book_in old.books user) sent.end sent.put ∷ []) (has.value some)
]

-- ---- a pass, said of the history

abbrev delivery_of : ℕ → Partner → List Message → Delivery
delivery_of base partner messages = record { base = base; partner = partner; messages = messages }

-- the log begins where it did
base_then : (old new : View) (before now : Seen) (user : Name) (limit : ℕ) (ask : Bool) (sent : Sent) → HasSent old new before now user limit ask sent → new.log.base ≡ old.log.base
base_then old new before now user limit ask sent has = elim (is_put sent.put) [
  | inl none ↦ ap (λ (v : View). v.log.base) (has.idle none)
  | inr some ↦ (has.value some).base
]

pub took_delivery : (old new : View) (before now : Seen) (publisher : Name) (es : List Recorded) (limit : ℕ) (partner : Partner) (sent : Sent) → IsTrue before.observable → IsDatabase old publisher es before
    → HasSent old new before now partner.user limit partner.ask sent → TookDelivery old.log.base new before now publisher es limit partner (line_of partner sent ∷ [])
took_delivery old new before now publisher es limit partner sent told database has =
    let user = partner.user in
    let passed = has.passed told publisher es database in
    let messages : List Message = passed.messages in
    let base = old.log.base in
    let d = delivery_of base partner messages in
    let book = book_in old.books user in
    let folder = address_in old.catalog user in
    let book_is : book ≡ books_of user es = database.is.books user in
    let folder_is : folder ≡ folder_of publisher es user = ap (λ (c : Lists). address_in c user) database.is.catalog in
    let end_is : sent.end ≡ sent_end base publisher es user (books_of user es) = passed.end_is ∙ ap (λ (b : Book). sent_end base publisher es user b) book_is in
    let events_are : noted_put_files folder user book sent.end messages ≡ delivery_events publisher es d =
    ap (λ (a : Name). noted_put_files a user book sent.end messages) folder_is
    ∙ ap (λ (b : Book). noted_put_files (folder_of publisher es user) user b sent.end messages) book_is
    ∙ ap (λ (e : Offset). noted_put_files (folder_of publisher es user) user (books_of user es) e messages) end_is in
    record {
      delivery = d;
      based = refl;
      whom = refl;
      is = record {
        are = subst (λ (b : Book). AreAll base publisher es user b partner.ask limit messages) book_is passed.are;
        spelled = passed.spelled;
        fits = subst (λ (b : Book). first_long (waiting base publisher es user b) ≡ None) book_is passed.fits;
      };
      database = subst (λ (events : List Event). IsDatabase new publisher (es ++ commits events) now) events_are passed.database;
      base_is = base_then old new before now user limit partner.ask sent has;
      steady = record { disk = has.steady.disk; mail = has.steady.mail };
      went = subst (λ (events : List Event). Went before now publisher es events) events_are passed.went;
      mail = puts_done (noted_put_files folder user book sent.end messages) (mail_in before.happened) (mail_in now.happened) passed.mail (has.steady.done told) ∙ ap (λ (events : List Event). with_puts events (mail_in before.happened)) events_are;
      lines_are =
          ap (λ (n : ℕ). sent_line user n sent.end.0 ∷ []) passed.count ∙ ap (λ (e : Offset). sent_line user (length messages) e.0 ∷ []) end_is;
    }

-- ---- a pass that a fault ended

part_of : (old new : View) (before now : Seen) (publisher : Name) (es : List Recorded) (limit : ℕ) (partner : Partner) (why : SendFault) → IsDatabase old publisher es before
    → SendCause old new before now partner.user limit partner.ask why → IsDeviceFault before now why → PutInPart old before now publisher es partner.user (book_in old.books partner.user) limit partner.ask
    → BrokeInDelivery old new before now publisher es limit partner [] (fault_of_send why)
part_of old new before now publisher es limit partner why database cause devices part =
    let user = partner.user in
    let book = book_in old.books user in
    let book_is : book ≡ books_of user es = database.is.books user in
    let messages : List Message = part.messages in
    let events_are : put_files (address_in old.catalog user) book.send_count messages ≡ put_files (folder_of publisher es user) (books_of user es).send_count messages =
    ap (λ (c : Lists). put_files (address_in c user) book.send_count messages) database.is.catalog
    ∙ ap (λ (b : Book). put_files (folder_of publisher es user) b.send_count messages) book_is in
    record {
      events = put_files (address_in old.catalog user) book.send_count messages;
      stop = record {
        why = why;
        cause = cause;
        devices = devices;
        fault_is = refl;
        messages = messages;
        left = part.left;
        are = subst (λ (b : Book). AreAll old.log.base publisher es user b partner.ask limit (messages ++ part.left)) book_is part.are;
        spelled = part.spelled;
        notes = [];
        note = tt;
        events_are = events_are ∙ sym (append-nil (put_files (folder_of publisher es user) (books_of user es).send_count messages));
      };
      went = part.went;
      no_lines = refl;
    }

note_of : (old new : View) (before now : Seen) (publisher : Name) (es : List Recorded) (limit : ℕ) (partner : Partner) (why : SendFault) (sent : Offset) (count : ℕ) → IsDatabase old publisher es before
    → SendCause old new before now partner.user limit partner.ask why → IsDeviceFault before now why
    → PutAndBegan old.log.base before now (address_in old.catalog partner.user) publisher es partner.user (book_in old.books partner.user) limit partner.ask sent count
    (commit (sent_note partner.user (book_in old.books partner.user) sent count) ∷ [])
    → BrokeInDelivery old new before now publisher es limit partner [] (fault_of_send why)
note_of old new before now publisher es limit partner why sent count database cause devices part =
    let user = partner.user in
    let book = book_in old.books user in
    let book_is : book ≡ books_of user es = database.is.books user in
    let messages : List Message = part.messages in
    let note = sent_note user book sent count in
    let base = old.log.base in
    let end_is : sent ≡ sent_end base publisher es user (books_of user es) = part.end_is ∙ ap (λ (b : Book). sent_end base publisher es user b) book_is in
    let events_are : put_files (address_in old.catalog user) book.send_count messages ≡ put_files (folder_of publisher es user) (books_of user es).send_count messages =
    ap (λ (c : Lists). put_files (address_in c user) book.send_count messages) database.is.catalog
    ∙ ap (λ (b : Book). put_files (folder_of publisher es user) b.send_count messages) book_is in
    record {
      events = put_files (address_in old.catalog user) book.send_count messages ++ commit note ∷ [];
      stop = record {
        why = why;
        cause = cause;
        devices = devices;
        fault_is = refl;
        messages = messages;
        left = [];
        are = subst (λ (ms : List Message). AreAll base publisher es user (books_of user es) partner.ask limit ms) (sym (append-nil messages))
            (subst (λ (b : Book). AreAll base publisher es user b partner.ask limit messages) book_is part.are);
        spelled = part.spelled;
        notes = note ∷ [];
        note = (
          refl,
          ap (λ (b : Book). sent_note user b sent count) book_is ∙ ap (λ (e : Offset). sent_note user (books_of user es) e count) end_is
              ∙ ap (λ (n : ℕ). sent_note user (books_of user es) (sent_end base publisher es user (books_of user es)) n) part.count_is,
        );
        events_are = ap (λ (events : List Event). events ++ commit note ∷ []) events_are;
      };
      went = part.went;
      no_lines = refl;
    }

broke_delivery : (old new : View) (before now : Seen) (publisher : Name) (es : List Recorded) (limit : ℕ) (partner : Partner) (why : SendFault) → IsTrue before.observable → IsDatabase old publisher es before
    → SendCause old new before now partner.user limit partner.ask why → IsDeviceFault before now why → BrokeInDelivery old new before now publisher es limit partner [] (fault_of_send why)
broke_delivery old new before now publisher es limit partner sends.Disk told database (rose, inl part) devices =
    part_of old new before now publisher es limit partner sends.Disk database (rose, inl part) devices (part.part told publisher es database)
broke_delivery old new before now publisher es limit partner sends.Disk told database (rose, inr note) devices =
    note_of old new before now publisher es limit partner sends.Disk note.sent note.count database (rose, inr note) devices (note.part told publisher es database)
broke_delivery old new before now publisher es limit partner sends.Mail told database cause devices = part_of old new before now publisher es limit partner sends.Mail database cause devices (cause.1.part told publisher es database)
broke_delivery old new before now publisher es limit partner (sends.Full end need) told database cause devices =
    part_of old new before now publisher es limit partner (sends.Full end need) database cause devices (cause.1.part told publisher es database)
broke_delivery old new before now publisher es limit partner (sends.Long size longest) told database cause devices =
    part_of old new before now publisher es limit partner (sends.Long size longest) database cause devices (cause.1.part told publisher es database)
broke_delivery old new before now publisher es limit partner sends.Memory told database cause devices = part_of old new before now publisher es limit partner sends.Memory database cause devices (cause.part told publisher es database)

-- ---- how it ends

nothing_said : (written : Output) → written.taken ≡ written.taken ++ lines_text []
nothing_said written = sym (append-nil written.taken)

usable_same : (old new : View) → new ≡ old → old.log.usable ≡ true → new.log.usable ≡ true
usable_same old new same usable = ap (λ (v : View). v.log.usable) same ∙ usable

pending_same : (old new : View) → new ≡ old → old.pending ≡ [] → new.pending ≡ []
pending_same old new same idle = ap (λ (v : View). v.pending) same ∙ idle

ended_send : (old new : View) (before now : Seen) (written : Output) (user : Name) (limit : ℕ) (ask : Bool) (why : SendFault) → IsReady old before → SendCause old new before now user limit ask why
    → IsDeviceFault before now why → Ended new before now written written [] (Err (fault_of_send why))
ended_send old new before now written user limit ask sends.Disk ready (rose, inl part) devices = record {
  wrote = λ told. nothing_said written;
  counts = (devices.0, devices.1, refl);
  usable = tt;
  pending = pending_same old new part.same ready.idle;
  site = part.stays;
  sink = record { observable = refl; later = omega arith };
}
ended_send old new before now written user limit ask sends.Disk ready (rose, inr note) devices = record {
  wrote = λ told. nothing_said written;
  counts = (devices.0, devices.1, refl);
  usable = tt;
  pending = note.pending;
  site = note.stays;
  sink = record { observable = refl; later = omega arith };
}
ended_send old new before now written user limit ask sends.Mail ready cause devices = record {
  wrote = λ told. nothing_said written;
  counts = (devices.0, devices.1, refl);
  usable = usable_same old new cause.1.same ready.usable;
  pending = pending_same old new cause.1.same ready.idle;
  site = cause.1.stays;
  sink = record { observable = refl; later = omega arith };
}
ended_send old new before now written user limit ask (sends.Full end need) ready cause devices = record {
  wrote = λ told. nothing_said written;
  counts = (devices.disk, devices.mail, refl);
  usable = usable_same old new cause.1.same ready.usable;
  pending = pending_same old new cause.1.same ready.idle;
  site = cause.1.stays;
  sink = record { observable = refl; later = omega arith };
}
ended_send old new before now written user limit ask (sends.Long size longest) ready cause devices = record {
  wrote = λ told. nothing_said written;
  counts = (devices.disk, devices.mail, refl);
  usable = usable_same old new cause.1.same ready.usable;
  pending = pending_same old new cause.1.same ready.idle;
  site = cause.1.stays;
  sink = record { observable = refl; later = omega arith };
}
ended_send old new before now written user limit ask sends.Memory ready cause devices = record {
  wrote = λ told. nothing_said written;
  counts = (devices.0, devices.1, refl);
  usable = usable_same old new cause.same ready.usable;
  pending = pending_same old new cause.same ready.idle;
  site = cause.stays;
  sink = record { observable = refl; later = omega arith };
}

pub if_fault : {T : Type 0} (holds : AgentFault → Type 0) (fault : AgentFault) (result : Result T AgentFault) → IsErrAnd result (λ e. e ≡ fault) → holds fault → IfErr result holds
if_fault holds fault (Ok x) is so = tt
if_fault holds fault (Err e) is so = subst holds (sym is) so

broken_send : (old new : View) (before now : Seen) (limit : ℕ) (partner : Partner) (written : Output) (why : SendFault) → IsReady old before → SendCause old new before now partner.user limit partner.ask why
    → IsDeviceFault before now why → DeliveryBroken old new before now limit partner written written (fault_of_send why)
broken_send old new before now limit partner written why ready cause devices = record {
  lines = [];
  ended = ended_send old new before now written partner.user limit partner.ask why ready cause devices;
  did = λ told publisher es database. inr (broke_delivery old new before now publisher es limit partner why told database cause devices);
}

pub send_answer : {T : Type 0} (old new : View) (before now : Seen) (limit : ℕ) (partner : Partner) (written : Output) (why : SendFault) (result : Result T AgentFault) → IsErrAnd result (λ e. e ≡ fault_of_send why)
    → IsReady old before → SendCause old new before now partner.user limit partner.ask why → IsDeviceFault before now why → IfErr result (DeliveryBroken old new before now limit partner written written)
send_answer old new before now limit partner written why result is ready cause devices =
    if_fault (DeliveryBroken old new before now limit partner written written) (fault_of_send why) result is (broken_send old new before now limit partner written why ready cause devices)

-- ---- what was told of it

pub delivery_done : (old new : View) (before now : Seen) (limit : ℕ) (partner : Partner) (sent : Sent) (written written' : Output) → HasSent old new before now partner.user limit partner.ask sent
    → Told (lines_text (line_of partner sent ∷ [])) written written' → DeliveryDone old new before now limit partner written written'
delivery_done old new before now limit partner sent written written' has told = record {
  lines = line_of partner sent ∷ [];
  told = told;
  no_alarm = refl;
  steady = record { disk = has.steady.disk; mail = has.steady.mail };
  stays = has.stays;
  did = λ tells publisher es database. took_delivery old new before now publisher es limit partner sent tells database has;
}

untold_delivery : (old new : View) (before now : Seen) (limit : ℕ) (partner : Partner) (sent : Sent) (written written' : Output) → HasSent old new before now partner.user limit partner.ask sent
    → ToldInPart (lines_text (line_of partner sent ∷ [])) written written' → DeliveryBroken old new before now limit partner written written' Sink
untold_delivery old new before now limit partner sent written written' has part = record {
  lines = line_of partner sent ∷ [];
  ended = sink_end new before now written written' (line_of partner sent ∷ []) has.pending has.stays part;
  did = λ tells publisher es database. inl (record { took = took_delivery old new before now publisher es limit partner sent tells database has; why = refl });
}

pub untold_answer : {T : Type 0} (old new : View) (before now : Seen) (limit : ℕ) (partner : Partner) (sent : Sent) (written written' : Output) (result : Result T AgentFault) → IsErrAnd result (λ e. e ≡ Sink)
    → HasSent old new before now partner.user limit partner.ask sent → ToldInPart (lines_text (line_of partner sent ∷ [])) written written' → IfErr result (DeliveryBroken old new before now limit partner written written')
untold_answer old new before now limit partner sent written written' result is has part =
    if_fault (DeliveryBroken old new before now limit partner written written') Sink result is (untold_delivery old new before now limit partner sent written written' has part)
