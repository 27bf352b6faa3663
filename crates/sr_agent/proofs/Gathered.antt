-- What was gathered, said of the history.
use Rattle.std.proofs.Common.{◌≡◌, ℕ, Bool, true, List, [], ◌∷◌, ◌++◌, Result, Ok, Err, IfErr, IfOk, refl, sym, ap, subst, inl, inr, ◌∙◌, append_assoc}
use Rattle.std.specs.Prelude.{IsTrue}
use Rattle.std.specs.List.{AllByRecursion}
use Rattle.sr_book.specs.Entries.{Name}
use Rattle.sr_database.specs.Databases.{IsDatabase}
use Rattle.sr_database.specs.InForce.{HasLogInForce}
use Rattle.sr_database.specs.Views.{View}
use Rattle.sr_database_history.specs.Folds.{state_of, end_of}
use Rattle.sr_database_history.specs.Recorded.{Recorded}
use Rattle.sr_receive.specs.Inner.Ready.{IsReady}
use Rattle.sr_receive_gather.specs.Gathers.{GatherCause, HappenedInPart, IsLastFetch, IsMailFault, fetches}
use Rattle.sr_receive_gather.specs.Inner.Gathers.{HasGathered}
use Rattle.sr_receive_gather.specs.MessageFiles.{FetchedFile, IsFetchedFile, fetch_of, gone, junk, stranger, message_file}
use Rattle.sr_receive.specs.Inner.Passes.{IsDeviceFault}
use Rattle.sr_receive.proofs.Acted.{quiet_both}
use Rattle.sr_receive_gather.specs.declared.bag.PartnerMail.{PartnerMail}
use Rattle.sr_receive_gather.specs.declared.fault.ReceiveFault.{ReceiveFault}
use Rattle.sr_receive_gather.specs.declared.fault.ReceiveFault.TheVariants as receives
use Rattle.sr_receive_gather.specs.declared.report.Report.{Report}
use Rattle.sr_catalog_schema.specs.Catalogs.{Lists}
use Rattle.sr_site.specs.Causes.{MailStays}
use Rattle.sr_site.specs.Happenings.{Happening, listed, mail_in}
use Rattle.sr_site.specs.Seen.{Seen}
use Rattle.sr_site.specs.Streams.{Output}
use Rattle.sr_database_meaning.specs.Inner.Events.{AreQuiet}
use Rattle.sr_database_meaning.specs.Traces.{Went}
use Rattle.sr_agent.specs.Ends.{IsUsableEnd}
use Rattle.sr_agent.specs.Faults.{fault_of_receive}
use Rattle.sr_agent.specs.Lines.{alarms, lines_text, report_lines}
use Rattle.sr_agent.specs.Inner.Coming.{HaveCome}
use Rattle.sr_agent.specs.Inner.Steps.{told_in_part, gathered_in_part, GatheringBroken, GatheringCause, GatheringDone, HasGatheredAll, TellEnd, Told, ToldGathering}
use Rattle.sr_agent.specs.declared.fault.AgentFault.{AgentFault}
use Rattle.sr_agent.specs.declared.fault.AgentFault.TheVariants.{Memory}
use Rattle.sr_agent.proofs.Ending.{EndedBy, ended_by, untold_is}
use Rattle.sr_agent.proofs.Joints.{in_force_there, of_mail, still_there, went_quiet}
use Rattle.sr_agent.proofs.Values.{publisher_is}

-- ---- listings and fetches change nothing but the mail

pub record IsQuietly (before now : List Happening) : Type 0 where
  pub more : List Happening
  pub is : now ≡ more ++ before
  pub quiet : AreQuiet more

behind_step : (step : Happening) (before now : List Happening) → AreQuiet (step ∷ []) → IsQuietly (step ∷ before) now → IsQuietly before now
behind_step step before now quiet rest = record {
  more = rest.more ++ step ∷ [];
  is = rest.is ∙ sym (append_assoc rest.more (step ∷ []) before);
  quiet = quiet_both rest.more (step ∷ []) rest.quiet quiet;
}

behind_last : (last before middle now : List Happening) → AreQuiet last → IsQuietly before middle → now ≡ last ++ middle → IsQuietly before now
behind_last last before middle now quiet first is = record {
  more = last ++ first.more;
  is = is ∙ ap (λ (l : List Happening). last ++ l) first.is ∙ sym (append_assoc last first.more before);
  quiet = quiet_both last first.more quiet first.quiet;
}

pub fetches_quietly : (address : List ℕ) (fetched_files : List FetchedFile) (before : List Happening) → IsQuietly before (fetches address fetched_files before)
fetches_quietly address [] before = record { more = []; is = refl; quiet = tt }
fetches_quietly address (came ∷ fetched_files) before = behind_step (fetch_of address came) before (fetches address (came ∷ fetched_files) before) tt (fetches_quietly address fetched_files (fetch_of address came ∷ before))

pub quiet_last : (address : List ℕ) (left : List (List ℕ)) (last : List Happening) → IsLastFetch address left last → AreQuiet last
quiet_last address left [] one = tt
quiet_last address left (step ∷ more) one =
    subst (λ (l : List Happening). AreQuiet (step ∷ l)) (sym one.0) (subst (λ (s : Happening). AreQuiet (s ∷ [])) (sym one.1.4) tt)

in_part : (address : List ℕ) (before now : List Happening) (more : Bool) (fetched_files : List FetchedFile) → HappenedInPart address before now more fetched_files → IsQuietly before now
in_part address before now more fetched_files (inl none) = elim none.happened [
  | inl same ↦ record { more = []; is = same; quiet = tt }
  | inr one ↦ record { more = listed address one.0 (Err one.1) ∷ []; is = one.2; quiet = tt }
]
in_part address before now more fetched_files (inr some) =
    let first = behind_step (listed address some.folder (Ok some.listing)) before (fetches address fetched_files (listed address some.folder (Ok some.listing) ∷ before)) tt (fetches_quietly address fetched_files (listed address some.folder (Ok some.listing) ∷ before)) in
    behind_last some.part.last before (fetches address fetched_files (listed address some.folder (Ok some.listing) ∷ before)) now (quiet_last address some.part.left some.part.last some.part.one) first some.part.happened

mail_fetches : (address : List ℕ) (fetched_files : List FetchedFile) (before : List Happening) → mail_in (fetches address fetched_files before) ≡ fetches address fetched_files (mail_in before)
mail_fetches address [] before = refl
mail_fetches address (came ∷ fetched_files) before = mail_fetches address fetched_files (fetch_of address came ∷ before)

-- each message file among them came, after what happened since a run began
have_come : (catalog : Lists) (end : ℕ) (begun earlier middle : List Happening) (fetched_files : List FetchedFile) → middle ≡ earlier ++ begun → AllByRecursion (IsFetchedFile catalog end) fetched_files
    → HaveCome catalog.publisher begun (fetches catalog.publisher fetched_files middle) fetched_files
have_come catalog end begun earlier middle [] is are = tt
have_come catalog end begun earlier middle (came ∷ fetched_files) is are = with_first came are.0
    (have_come catalog end begun (fetch_of catalog.publisher came ∷ earlier) (fetch_of catalog.publisher came ∷ middle) fetched_files (ap (λ (l : List Happening). fetch_of catalog.publisher came ∷ l) is) are.1)
  where
    with_first : (came : FetchedFile) → IsFetchedFile catalog end came → HaveCome catalog.publisher begun (fetches catalog.publisher fetched_files (fetch_of catalog.publisher came ∷ middle)) fetched_files
        → HaveCome catalog.publisher begun (fetches catalog.publisher fetched_files (fetch_of catalog.publisher came ∷ middle)) (came ∷ fetched_files)
    with_first (gone name) fits come = come
    with_first (junk name bytes) fits come = come
    with_first (stranger name m) fits come = come
    with_first (message_file name m) fits come =
        let step = fetch_of catalog.publisher (message_file name m) in
        let later = fetches_quietly catalog.publisher fetched_files (step ∷ middle) in (
          record {
            spelled = fits.0;
            to = fits.1.to;
            there = record { later = later.more; earlier = earlier; is = later.is ∙ ap (λ (l : List Happening). later.more ++ step ∷ l) is };
          },
          come,
        )

-- ---- all of it

same_publisher : (view : View) (publisher : Name) (es : List Recorded) (seen : Seen) → IsDatabase view publisher es seen → (state_of publisher es).catalog.publisher ≡ publisher
same_publisher view publisher es seen database = ap (λ (c : Lists). c.publisher) (sym database.is.catalog) ∙ publisher_is view publisher es database.is

gathered_at : (view : View) (before now : Seen) (publisher : Name) (es : List Recorded) (reports : List Report) (bag : List PartnerMail) → IsDatabase view publisher es before
    → HasGathered view.catalog view.log.end before now [] reports bag → HasGathered (state_of publisher es).catalog (end_of es) before now [] reports bag
gathered_at view before now publisher es reports bag database gathered =
    subst (λ (c : Lists). HasGathered c (end_of es) before now [] reports bag) database.is.catalog
    (subst (λ (n : ℕ). HasGathered view.catalog n before now [] reports bag) database.is.end gathered)

with_history : (view : View) (before now : Seen) (publisher : Name) (es : List Recorded) (reports : List Report) (bag : List PartnerMail) → IsTrue before.observable → IsDatabase view publisher es before
    → HasGathered (state_of publisher es).catalog (end_of es) before now [] reports bag → HasGatheredAll view before now publisher es bag (report_lines reports)
with_history view before now publisher es reports bag told database gathered =
    let all = gathered.happened told in
    let address = (state_of publisher es).catalog.publisher in
    let first = listed address all.folder (Ok gathered.listing) in
    let quietly = behind_step first before.happened (fetches address gathered.fetched_files (first ∷ before.happened)) tt (fetches_quietly address gathered.fetched_files (first ∷ before.happened)) in
    let happened = all.happened ∙ quietly.is in
    record {
      gathering = record { folder = all.folder; listing = gathered.listing; fetched_files = gathered.fetched_files };
      is = record { lists = all.lists; names = gathered.names; are = gathered.are };
      database = still_there view publisher es before now quietly.more gathered.stays happened quietly.quiet database;
      steady = record { disk = gathered.stays.disk_faults; mail = gathered.steady };
      went = went_quiet view publisher es before now quietly.more gathered.stays happened quietly.quiet database;
      mail =
          ap (λ (l : List Happening). mail_in l) all.happened
          ∙ mail_fetches address gathered.fetched_files (first ∷ before.happened)
          ∙ ap (λ (a : Name). fetches a gathered.fetched_files (listed a all.folder (Ok gathered.listing) ∷ mail_in before.happened)) (same_publisher view publisher es before database);
      came =
          subst (λ (a : Name). HaveCome a before.happened now.happened gathered.fetched_files) (same_publisher view publisher es before database)
          (subst (λ (l : List Happening). HaveCome address before.happened l gathered.fetched_files) (sym all.happened)
          (have_come (state_of publisher es).catalog (end_of es) before.happened (first ∷ []) (first ∷ before.happened) gathered.fetched_files refl gathered.are));
      bag_is = gathered.bag_is;
      lines_are = ap (λ (rs : List Report). report_lines rs) gathered.reports_are;
    }

in_force_gathered : (view : View) (before now : Seen) (reports : List Report) (bag : List PartnerMail) → HasGathered view.catalog view.log.end before now [] reports bag → IsTrue before.observable → HasLogInForce view before → HasLogInForce view now
in_force_gathered view before now reports bag gathered told has =
    let all = gathered.happened told in
    let address = view.catalog.publisher in
    let first = listed address all.folder (Ok gathered.listing) in
    let quietly = behind_step first before.happened (fetches address gathered.fetched_files (first ∷ before.happened)) tt (fetches_quietly address gathered.fetched_files (first ∷ before.happened)) in
    in_force_there view before now quietly.more gathered.stays (all.happened ∙ quietly.is) quietly.quiet has

all_gathered : (view : View) (before now : Seen) (publisher : Name) (es : List Recorded) (reports : List Report) (bag : List PartnerMail) → IsTrue before.observable → IsDatabase view publisher es before
    → HasGathered view.catalog view.log.end before now [] reports bag → HasGatheredAll view before now publisher es bag (report_lines reports)
all_gathered view before now publisher es reports bag told database gathered =
    with_history view before now publisher es reports bag told database (gathered_at view before now publisher es reports bag database gathered)

-- ---- a part of it

part_at : (view : View) (before now : Seen) (publisher : Name) (es : List Recorded) (reports : List Report) (why : ReceiveFault) → IsDatabase view publisher es before
    → GatherCause view.catalog view.log.end before now [] reports why → GatherCause (state_of publisher es).catalog (end_of es) before now [] reports why
part_at view before now publisher es reports why database cause =
    subst (λ (c : Lists). GatherCause c (end_of es) before now [] reports why) database.is.catalog
    (subst (λ (n : ℕ). GatherCause view.catalog n before now [] reports why) database.is.end cause)

part_went : (view : View) (before now : Seen) (publisher : Name) (es : List Recorded) (reports : List Report) (why : ReceiveFault) → IsTrue before.observable → IsDatabase view publisher es before
    → GatherCause view.catalog view.log.end before now [] reports why → Went before now publisher es []
part_went view before now publisher es reports why told database cause =
    let quietly = in_part view.catalog.publisher before.happened now.happened cause.more cause.fetched_files (cause.happened told) in
    went_quiet view publisher es before now quietly.more cause.stays quietly.is quietly.quiet database

device_of : (before now : Seen) (why : ReceiveFault) → IsMailFault before now why → MailStays before now → IsDeviceFault before now why
device_of before now receives.Disk fault stays = absurd fault
device_of before now receives.Mail fault stays = (fault, stays.disk_faults)
device_of before now (receives.Full end need) fault stays = absurd fault
device_of before now (receives.Long size limit) fault stays = absurd fault
device_of before now receives.Memory fault stays = record { disk = stays.disk_faults; mail = fault }

usable_of : (view : View) (before now : Seen) (why : ReceiveFault) → view.log.usable ≡ true → IsMailFault before now why → IsUsableEnd view (Err (fault_of_receive why))
usable_of view before now receives.Disk usable fault = absurd fault
usable_of view before now receives.Mail usable fault = usable
usable_of view before now (receives.Full end need) usable fault = absurd fault
usable_of view before now (receives.Long size limit) usable fault = absurd fault
usable_of view before now receives.Memory usable fault = usable

-- ---- what is answered

pub gathered_done : (view : View) (before now : Seen) (written written' : Output) (none shown reports : List Report) (outcome : Result (List PartnerMail) ReceiveFault) (result : Result (List PartnerMail × ℕ) AgentFault)
    → none ≡ [] → shown ≡ reports → IfOk outcome (HasGathered view.catalog view.log.end before now none reports)
    → IfOk result (λ gathered. ToldGathering outcome gathered.0 gathered.1 shown written written') → IfOk result (λ gathered. GatheringDone view before now gathered.0 gathered.1 written written')
gathered_done view before now written written' none shown reports outcome (Err fault) is_none is gathered told = tt
gathered_done view before now written written' none shown reports outcome (Ok answer) is_none is gathered told =
    let all : IfOk {E = ReceiveFault} (Ok answer.0) (HasGathered view.catalog view.log.end before now [] reports) =
    subst (λ (r : Result (List PartnerMail) ReceiveFault). IfOk r (HasGathered view.catalog view.log.end before now [] reports)) told.is
    (subst (λ (rs : List Report). IfOk outcome (HasGathered view.catalog view.log.end before now rs reports)) is_none gathered) in
    record {
      lines = report_lines reports;
      told = subst (λ (rs : List Report). Told (lines_text (report_lines rs)) written written') is told.told;
      count_is = subst (λ (rs : List Report). answer.1 ≡ alarms (report_lines rs)) is told.count_is;
      site = all.stays;
      steady = all.steady;
      in_force = in_force_gathered view before now reports answer.0 all;
      did = λ tells publisher es database. all_gathered view before now publisher es reports answer.0 tells database all;
    }

-- all was gathered
gathered_untold : (view : View) (before now : Seen) (written written' : Output) (reports : List Report) (bag : List PartnerMail) (fault : AgentFault) → IsReady view before
    → HasGathered view.catalog view.log.end before now [] reports bag → TellEnd Memory (lines_text (report_lines reports)) written written' fault → GatheringBroken view before now written written' fault
gathered_untold view before now written written' reports bag fault ready all end = record {
  lines = report_lines reports;
  ended = (ended_by view before now written written' (report_lines reports) receives.Memory fault ready.idle (of_mail before now all.stays) (record { disk = all.stays.disk_faults; mail = all.steady }) ready.usable end).ended;
  did = λ tells publisher es database. told_in_part bag (all_gathered view before now publisher es reports bag tells database all) (untold_is (lines_text (report_lines reports)) written written' fault end);
}

-- a part was
gathered_in : (view : View) (before now : Seen) (written written' : Output) (reports : List Report) (why : ReceiveFault) (fault : AgentFault) → IsReady view before
    → GatherCause view.catalog view.log.end before now [] reports why → TellEnd (fault_of_receive why) (lines_text (report_lines reports)) written written' fault → GatheringBroken view before now written written' fault
gathered_in view before now written written' reports why fault ready part end =
    let by : EndedBy view before now written written' (report_lines reports) why fault =
    ended_by view before now written written' (report_lines reports) why fault ready.idle (of_mail before now part.stays) (device_of before now why part.why part.stays) (usable_of view before now why ready.usable part.why) end in
    record {
      lines = report_lines reports;
      ended = by.ended;
      did = λ told_all publisher es database. gathered_in_part
          (record { told = reports; why = why; part = part_at view before now publisher es reports why database part; fault_is = by.by; lines_are = refl })
          (part_went view before now publisher es reports why told_all database part);
    }

broken_of : (view : View) (before now : Seen) (written written' : Output) (reports : List Report) (outcome : Result (List PartnerMail) ReceiveFault) (fault : AgentFault) → IsReady view before
    → IfOk outcome (HasGathered view.catalog view.log.end before now [] reports) → IfErr outcome (GatherCause view.catalog view.log.end before now [] reports)
    → GatheringCause outcome reports written written' fault → GatheringBroken view before now written written' fault
broken_of view before now written written' reports (Ok bag) fault ready gathered part end = gathered_untold view before now written written' reports bag fault ready gathered end
broken_of view before now written written' reports (Err why) fault ready gathered part end = gathered_in view before now written written' reports why fault ready part end

pub gathered_broken : (view : View) (before now : Seen) (written written' : Output) (none shown reports : List Report) (outcome : Result (List PartnerMail) ReceiveFault) (result : Result (List PartnerMail × ℕ) AgentFault)
    → IsReady view before → none ≡ [] → shown ≡ reports → IfOk outcome (HasGathered view.catalog view.log.end before now none reports)
    → IfErr outcome (GatherCause view.catalog view.log.end before now none reports) → IfErr result (GatheringCause outcome shown written written') → IfErr result (GatheringBroken view before now written written')
gathered_broken view before now written written' none shown reports outcome (Ok answer) ready is_none is gathered part end = tt
gathered_broken view before now written written' none shown reports outcome (Err fault) ready is_none is gathered part end =
    broken_of view before now written written' reports outcome fault ready
    (subst (λ (rs : List Report). IfOk outcome (HasGathered view.catalog view.log.end before now rs reports)) is_none gathered)
    (subst (λ (rs : List Report). IfErr outcome (GatherCause view.catalog view.log.end before now rs reports)) is_none part)
    (subst (λ (rs : List Report). GatheringCause outcome rs written written' fault) is end)
