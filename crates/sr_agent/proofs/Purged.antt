-- A partner's pass with the removal of his dead files.
use Rattle.std.proofs.Common.{◌≡◌, ◌+◌, ℕ, Bool, true, false, List, [], ◌∷◌, ◌++◌, map, Result, Ok, Err, IfErr, OnOk, refl, sym, ap, subst, inl, inr, ◌∙◌, arith}
use Rattle.std.specs.Prelude.{IsErrAnd, IsTrue}
use Rattle.std.specs.List.{AllByRecursion}
use Rattle.sr_book.specs.Entries.{Name}
use Rattle.sr_book.specs.declared.book.Book.{Book}
use Rattle.sr_database.specs.Views.{View}
use Rattle.sr_database_files.specs.Books.{book_in}
use Rattle.sr_database_history.specs.Folds.{books_of}
use Rattle.sr_database_history.specs.Recorded.{Recorded}
use Rattle.sr_receive_gather.specs.Bags.{partner_mail_of}
use Rattle.sr_receive.specs.Inner.Ready.{IsReady}
use Rattle.sr_receive_gather.specs.MessageFiles.{FetchedFile}
use Rattle.sr_receive.specs.Passes.{AreSteady as IsSteady}
use Rattle.sr_receive.specs.Inner.Passes.{IsDeviceFault}
use Rattle.sr_receive_gather.specs.Purges.{PurgeCause, PurgedInPart, Removes, dead, removals}
use Rattle.sr_receive_gather.specs.Inner.Purges.{HasPurged, files_in}
use Rattle.sr_receive_gather.specs.declared.bag.Filed.{Filed}
use Rattle.sr_receive_gather.specs.declared.bag.PartnerMail.{PartnerMail}
use Rattle.sr_receive_gather.specs.declared.fault.ReceiveFault.{ReceiveFault}
use Rattle.sr_receive_gather.specs.declared.fault.ReceiveFault.TheVariants as receives
use Rattle.sr_receive.specs.declared.receiving.Received.{Received}
use Rattle.sr_site.specs.Causes.{Rose, Stays}
use Rattle.sr_site.specs.Inner.Growing.{stays_on}
use Rattle.sr_site.specs.Happenings.{Happening, removed}
use Rattle.sr_site.specs.Seen.{Seen}
use Rattle.sr_site.specs.Streams.{Output}
use Rattle.sr_database_meaning.specs.Events.{commit}
use Rattle.sr_agent.specs.Ends.{HasTold, IsUsableEnd}
use Rattle.sr_agent.specs.Faults.{fault_of_receive}
use Rattle.sr_agent.specs.Lines.{Line}
use Rattle.sr_agent.specs.Inner.PartnerMails.{ToldMessageFiles, Turned}
use Rattle.sr_agent.specs.Inner.Steps.{BrokeInPartnerPass, PurgeEnd, PurgedWhere, TookPartnerPass, PartnerPassBroken, PartnerPassDone}
use Rattle.sr_agent.specs.Stops.{begun, behind_message_files}
use Rattle.sr_agent.specs.PartnerPasses.{files_of, partner_pass_entries}
use Rattle.sr_agent.specs.declared.fault.AgentFault.{AgentFault}
use Rattle.sr_agent.specs.declared.fault.AgentFault.TheVariants.{Memory}
use Rattle.sr_agent.specs.declared.progress.Progress.{Progress}
use Rattle.sr_agent.proofs.Ending.{ended_told}
use Rattle.sr_agent.proofs.DoneWith.{IsDone, some_removed}
use Rattle.sr_agent.proofs.Gathered.{IsQuietly}
use Rattle.sr_agent.proofs.Joints.{in_force_there, of_mail, steady_on, told_then, went_quiet, went_still}
use Rattle.sr_agent.proofs.MessageFiles.{turned_untold}
use Rattle.sr_agent.proofs.Removing.{are_removed}
use Rattle.sr_agent.proofs.Turning.{purge_removes, took_and_purged, took_quietly}
use Rattle.sr_agent.proofs.Values.{publisher_is}
use Rattle.sr_agent.proofs.Written.{has_told}

pub on_ok : {A E : Type 0} (P : Type 0) (result : Result A E) → P → OnOk result P
on_ok P (Ok x) p = p
on_ok P (Err e) p = tt

-- ---- dead files were removed, or not

ready_removed : (new : View) (middle now : Seen) (address : Name) (book : Book) (files : List Filed) (count : ℕ) → IsReady new middle → HasPurged address book files middle now count → IsReady new now
ready_removed new middle now address book files count ready purged = record {
  usable = ready.usable;
  idle = ready.idle;
  sound = ready.sound;
  stands = λ told.
      let then = subst (λ (b : Bool). IsTrue b) purged.stays.observable told in
      let removal = are_removed address (dead book files) middle.happened in
      in_force_there new middle now removal.more purged.stays (purged.removed_are then ∙ removal.is) removal.quiet (ready.stands then);
}

ready_where : (purge : Bool) (new : View) (user : Name) (bag' : List PartnerMail) (middle now : Seen) → IsReady new middle → PurgedWhere purge new user bag' middle now → IsReady new now
ready_where false new user bag' middle now ready still = subst (λ (s : Seen). IsReady new s) (sym still) ready
ready_where true new user bag' middle now ready purged = ready_removed new middle now new.catalog.publisher (book_in new.books user) (files_in (partner_mail_of bag' user)) purged.0 ready purged.1

pub ready_purged : {A : Type 0} (purge : Bool) (new : View) (user : Name) (bag' : List PartnerMail) (middle now : Seen) (result : Result A AgentFault) → IsReady new middle → OnOk result (PurgedWhere purge new user bag' middle now)
    → OnOk result (IsReady new now)
ready_purged purge new user bag' middle now (Ok x) ready purged = ready_where purge new user bag' middle now ready purged
ready_purged purge new user bag' middle now (Err e) ready purged = tt

steady_where : (purge : Bool) (new : View) (user : Name) (bag' : List PartnerMail) (middle now : Seen) → PurgedWhere purge new user bag' middle now → IsSteady middle now
steady_where false new user bag' middle now still = record { disk = ap (λ (s : Seen). s.disk_faults) still; mail = ap (λ (s : Seen). s.mail_faults) still }
steady_where true new user bag' middle now purged = record { disk = purged.1.stays.disk_faults; mail = purged.1.steady }

pub stays_same : (seen : Seen) → Stays seen seen
stays_same seen = record { observable = refl; first = refl; grows = λ moment there. there; disk = omega arith; mail = omega arith }

stays_where : (purge : Bool) (new : View) (user : Name) (bag' : List PartnerMail) (middle now : Seen) → PurgedWhere purge new user bag' middle now → Stays middle now
stays_where false new user bag' middle now still = subst (λ (s : Seen). Stays middle s) (sym still) (stays_same middle)
stays_where true new user bag' middle now purged = of_mail middle now purged.1.stays

took_partner_pass : (purge : Bool) (new : View) (before middle now : Seen) (publisher : Name) (es : List Recorded) (fetched_files : List FetchedFile) (user : Name) (bag' : List PartnerMail) (ask : Bool) (lines : List Line) → IsTrue middle.observable
    → Turned new before middle publisher es fetched_files user bag' ask lines → PurgedWhere purge new user bag' middle now → TookPartnerPass new before now publisher es fetched_files purge user ask lines
took_partner_pass false new before middle now publisher es fetched_files user bag' ask lines told turned still =
    subst (λ (s : Seen). TookPartnerPass new before s publisher es fetched_files false user ask lines) (sym still)
    (took_quietly new before middle publisher es fetched_files user turned.partner_pass ask lines turned.user_is turned.behind turned.ask_is turned.lines_are)
took_partner_pass true new before middle now publisher es fetched_files user bag' ask lines told turned purged =
    took_and_purged new before middle now publisher es fetched_files user turned.partner_pass ask lines new.catalog.publisher (book_in new.books user) (files_in (partner_mail_of bag' user)) purged.0 turned.user_is told turned.behind turned.ask_is turned.lines_are
    (publisher_is new publisher (es ++ partner_pass_entries publisher es fetched_files turned.partner_pass) turned.behind.database.is)
    (turned.behind.database.is.books user ∙ ap (λ (n : Name). books_of n (es ++ partner_pass_entries publisher es fetched_files turned.partner_pass)) (sym turned.user_is)) turned.files_are purged.1

partner_pass_where : (purge : Bool) (old new : View) (before middle now : Seen) (user : Name) (bag bag' : List PartnerMail) (answer : Received) (count : ℕ) (progress progress' : Progress) (written written' : Output)
    → ToldMessageFiles old new before middle user bag bag' answer count written written' → progress'.partners.items ≡ progress.partners.items ++ record { user = user; ask = answer.ask } ∷ []
    → progress'.alarms ≡ progress.alarms + count → PurgedWhere purge new user bag' middle now → PartnerPassDone old new before now user bag bag' purge progress progress' written written'
partner_pass_where purge old new before middle now user bag bag' answer count progress progress' written written' message_files partners sum purged = record {
  lines = message_files.lines;
  ask = answer.ask;
  told = message_files.told;
  alarms_are = sum ∙ ap (λ (n : ℕ). progress.alarms + n) message_files.count_is;
  partners_are = partners;
  may = message_files.took.may;
  others = message_files.took.others;
  steady = steady_on before middle now message_files.took.steady (steady_where purge new user bag' middle now purged);
  stays = stays_on before middle now message_files.took.stays (stays_where purge new user bag' middle now purged);
  did = λ told publisher es fetched_files database has.
      took_partner_pass purge new before middle now publisher es fetched_files user bag' answer.ask message_files.lines (told_then before middle message_files.took.stays told) (message_files.took.did told publisher es fetched_files database has) purged;
}

pub partner_pass_done : {A : Type 0} (purge : Bool) (old new : View) (before middle now : Seen) (user : Name) (bag bag' : List PartnerMail) (answer : Received) (count : ℕ) (progress progress' : Progress) (written written' : Output)
    (result : Result A AgentFault) → ToldMessageFiles old new before middle user bag bag' answer count written written' → progress'.partners.items ≡ progress.partners.items ++ record { user = user; ask = answer.ask } ∷ []
    → progress'.alarms ≡ progress.alarms + count → OnOk result (PurgedWhere purge new user bag' middle now)
    → OnOk result (PartnerPassDone old new before now user bag bag' purge progress progress' written written')
partner_pass_done purge old new before middle now user bag bag' answer count progress progress' written written' (Ok x) message_files partners sum purged =
    partner_pass_where purge old new before middle now user bag bag' answer count progress progress' written written' message_files partners sum purged
partner_pass_done purge old new before middle now user bag bag' answer count progress progress' written written' (Err e) message_files partners sum purged = tt

-- ---- there was no memory to note that he had his pass

pub partner_pass_unadded : (old new : View) (before middle : Seen) (user : Name) (bag bag' : List PartnerMail) (answer : Received) (count : ℕ) (written written' : Output) (fault : AgentFault)
    → ToldMessageFiles old new before middle user bag bag' answer count written written' → fault ≡ Memory → (purge : Bool) → PartnerPassBroken old new before middle user bag purge written written' fault
partner_pass_unadded old new before middle user bag bag' answer count written written' fault message_files is purge = record {
  lines = message_files.lines;
  ended = (ended_told new before middle written written' message_files.lines receives.Memory fault message_files.took.ready.idle message_files.took.stays message_files.took.steady message_files.took.ready.usable is message_files.told).ended;
  did = turned_untold old new before middle user bag bag' answer.ask message_files.lines fault message_files.took (inr is) purge (HasTold message_files.lines written written');
}

-- ---- dead files were removed in part

part_of : (address : Name) (book : Book) (files : List Filed) (middle now : Seen) (why : ReceiveFault) → PurgeCause address book files middle now why → PurgedInPart address book files middle now
part_of address book files middle now receives.Disk cause = absurd cause
part_of address book files middle now receives.Mail cause = cause.1
part_of address book files middle now (receives.Full end need) cause = absurd cause
part_of address book files middle now (receives.Long size limit) cause = absurd cause
part_of address book files middle now receives.Memory cause = cause.1

device_of : (address : Name) (book : Book) (files : List Filed) (before middle now : Seen) (why : ReceiveFault) → IsSteady before middle → PurgeCause address book files middle now why → IsDeviceFault before now why
device_of address book files before middle now receives.Disk steady cause = absurd cause
device_of address book files before middle now receives.Mail steady cause = (subst (λ (n : ℕ). Rose n now.mail_faults) steady.mail cause.0, cause.1.stays.disk_faults ∙ steady.disk)
device_of address book files before middle now (receives.Full end need) steady cause = absurd cause
device_of address book files before middle now (receives.Long size limit) steady cause = absurd cause
device_of address book files before middle now receives.Memory steady cause = record { disk = cause.1.stays.disk_faults ∙ steady.disk; mail = cause.0 ∙ steady.mail }

usable_of : (new : View) (address : Name) (book : Book) (files : List Filed) (middle now : Seen) (why : ReceiveFault) → new.log.usable ≡ true → PurgeCause address book files middle now why
    → IsUsableEnd new (Err (fault_of_receive why))
usable_of new address book files middle now receives.Disk usable cause = absurd cause
usable_of new address book files middle now receives.Mail usable cause = usable
usable_of new address book files middle now (receives.Full end need) usable cause = absurd cause
usable_of new address book files middle now (receives.Long size limit) usable cause = absurd cause
usable_of new address book files middle now receives.Memory usable cause = usable

removed_all : (address : Name) (done : List Filed) (before now : List Happening) → now ≡ removals address done before → IsQuietly before now
removed_all address done before now is =
    let removal = are_removed address done before in
    record { more = removal.more; is = is ∙ removal.is; quiet = removal.quiet }

removed_some : (address : Name) (done left : List Filed) (before now : List Happening) → Removes address done left before now → IsQuietly before now
removed_some address done [] before now is = removed_all address done before now is
removed_some address done (f ∷ left) before now (inl is) = removed_all address done before now is
removed_some address done (f ∷ left) before now (inr is) =
    let removal = are_removed address done before in
    record { more = removed address f.name false ∷ removal.more; is = is ∙ ap (λ (l : List Happening). removed address f.name false ∷ l) removal.is; quiet = removal.quiet }

cause_in : (new : View) (before middle now : Seen) (publisher : Name) (es : List Recorded) (fetched_files : List FetchedFile) (user : Name) (bag' : List PartnerMail) (ask : Bool) (lines : List Line) (why : ReceiveFault)
    (turned : Turned new before middle publisher es fetched_files user bag' ask lines) → PurgeCause new.catalog.publisher (book_in new.books user) (files_in (partner_mail_of bag' user)) middle now why
    → PurgeCause publisher (books_of turned.partner_pass.user (es ++ partner_pass_entries publisher es fetched_files turned.partner_pass)) (files_of fetched_files turned.partner_pass) middle now why
cause_in new before middle now publisher es fetched_files user bag' ask lines why turned cause =
    let rs = es ++ partner_pass_entries publisher es fetched_files turned.partner_pass in
    subst (λ (fs : List Filed). PurgeCause publisher (books_of turned.partner_pass.user rs) fs middle now why) turned.files_are
    (subst (λ (b : Book). PurgeCause publisher b (files_in (partner_mail_of bag' user)) middle now why) (turned.behind.database.is.books user ∙ ap (λ (n : Name). books_of n rs) (sym turned.user_is))
    (subst (λ (p : Name). PurgeCause p (book_in new.books user) (files_in (partner_mail_of bag' user)) middle now why) (publisher_is new publisher rs turned.behind.database.is) cause))

broken_partner_pass : (new : View) (before middle now : Seen) (publisher : Name) (es : List Recorded) (fetched_files : List FetchedFile) (user : Name) (bag' : List PartnerMail) (ask : Bool) (lines : List Line) (old : View) (why : ReceiveFault) (fault : AgentFault)
    (purge : Bool) (whole : Type 0) → purge ≡ true → whole → IsTrue middle.observable → Turned new before middle publisher es fetched_files user bag' ask lines
    → PurgeCause new.catalog.publisher (book_in new.books user) (files_in (partner_mail_of bag' user)) middle now why → fault ≡ fault_of_receive why
    → BrokeInPartnerPass old new before now publisher es fetched_files purge user lines fault whole
broken_partner_pass new before middle now publisher es fetched_files user bag' ask lines old why fault purge whole on all told turned cause is =
    let entries = partner_pass_entries publisher es fetched_files turned.partner_pass in
    let address = new.catalog.publisher in
    let book = book_in new.books user in
    let files = files_in (partner_mail_of bag' user) in
    let part = part_of address book files middle now why cause in
    let quietly = removed_some address part.done part.left middle.happened now.happened (part.happened told) in
    record {
      events = map commit entries;
      stop = behind_message_files (record {
        partner_pass = turned.partner_pass;
        user_is = turned.user_is;
        is = turned.behind.is;
        between = middle;
        database = turned.behind.database;
        mail = turned.behind.mail;
        removed = begun on all why (cause_in new before middle now publisher es fetched_files user bag' ask lines why turned cause) is;
        events_are = refl;
        lines_are = turned.lines_are;
      });
      went = went_still before middle now publisher es entries turned.behind.went (went_quiet new publisher (es ++ entries) middle now quietly.more part.stays quietly.is quietly.quiet turned.behind.database);
      removals = purge_removes new before middle now.happened publisher es fetched_files turned.partner_pass address book files turned.behind (publisher_is new publisher (es ++ entries) turned.behind.database.is)
          (turned.behind.database.is.books user ∙ ap (λ (n : Name). books_of n (es ++ entries)) (sym turned.user_is)) turned.files_are
          (λ begun done. some_removed middle.first publisher address begun part.done part.left middle.happened now.happened (part.happened told)
          (subst (λ (fs : List Filed). AllByRecursion (IsDone middle.first publisher address begun middle.happened) fs) part.parts done));
    }

broken_end : (old new : View) (before middle now : Seen) (user : Name) (bag bag' : List PartnerMail) (purge : Bool) (answer : Received) (count : ℕ) (written written' : Output) (fault : AgentFault)
    → ToldMessageFiles old new before middle user bag bag' answer count written written' → PurgeEnd purge new user bag' middle now fault → PartnerPassBroken old new before now user bag purge written written' fault
broken_end old new before middle now user bag bag' purge answer count written written' fault message_files end =
    let took = message_files.took in
    let address = new.catalog.publisher in
    let book = book_in new.books user in
    let files = files_in (partner_mail_of bag' user) in
    let part = part_of address book files middle now end.why end.cause in
    record {
      lines = message_files.lines;
      ended = (ended_told new before now written written' message_files.lines end.why fault took.ready.idle (stays_on before middle now took.stays (of_mail middle now part.stays))
          (device_of address book files before middle now end.why took.steady end.cause) (usable_of new address book files middle now end.why took.ready.usable end.cause) end.fault_is message_files.told).ended;
      did = λ told publisher es fetched_files database has.
          broken_partner_pass new before middle now publisher es fetched_files user bag' answer.ask message_files.lines old end.why fault purge (HasTold message_files.lines written written') end.asked_for (has_told message_files.lines written written' message_files.told)
          (told_then before middle took.stays told) (took.did told publisher es fetched_files database has) end.cause end.fault_is;
    }

pub partner_pass_broken : {A : Type 0} (old new : View) (before middle now : Seen) (user : Name) (bag bag' : List PartnerMail) (purge : Bool) (answer : Received) (count : ℕ) (written written' : Output) (result : Result A AgentFault)
    → ToldMessageFiles old new before middle user bag bag' answer count written written' → IfErr result (PurgeEnd purge new user bag' middle now) → IfErr result (PartnerPassBroken old new before now user bag purge written written')
partner_pass_broken old new before middle now user bag bag' purge answer count written written' (Ok x) message_files end = tt
partner_pass_broken old new before middle now user bag bag' purge answer count written written' (Err fault) message_files end =
    broken_end old new before middle now user bag bag' purge answer count written written' fault message_files end

pub if_err : {A : Type 0} (P : AgentFault → Type 0) (fault : AgentFault) (result : Result A AgentFault) → IsErrAnd result (λ f. f ≡ fault) → P fault → IfErr result P
if_err P fault (Ok x) is p = tt
if_err P fault (Err f) is p = subst P (sym is) p
