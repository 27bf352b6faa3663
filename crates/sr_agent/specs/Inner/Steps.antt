-- What one step of a run promises to the next.
use Rattle.std.specs.Prelude.{◌≡◌, ◌⊎◌, ◌≤◌, ◌+◌, ⊤, ℕ, Bool, true, false, List, [], ◌∷◌, ◌++◌, length, map, bytes_eq, IsSome, IsTrue, Result, Ok, Err, if◌then◌else◌}
use Rattle.std.specs.List.{AllByRecursion}
use Rattle.sr_book.specs.Entries.{Name}
use Rattle.sr_database.specs.Databases.{IsDatabase}
use Rattle.sr_database.specs.InForce.{HasLogInForce}
use Rattle.sr_database.specs.Views.{View}
use Rattle.sr_database_files.specs.Books.{book_in}
use Rattle.sr_database_history.specs.Folds.{state_of, end_of}
use Rattle.sr_database_history.specs.Recorded.{Recorded}
use Rattle.sr_receive_gather.specs.Bags.{Has, partner_mail_of}
use Rattle.sr_receive_gather.specs.Inner.Bags.{OthersStay}
use Rattle.sr_receive_gather.specs.MessageFiles.{FetchedFile, message_files_from}
use Rattle.sr_receive_gather.specs.Purges.{PurgeCause}
use Rattle.sr_receive_gather.specs.Inner.Purges.{HasPurged, files_in}
use Rattle.sr_receive_gather.specs.declared.bag.PartnerMail.{PartnerMail}
use Rattle.sr_receive_gather.specs.declared.fault.ReceiveFault.{ReceiveFault}
use Rattle.sr_receive.specs.declared.receiving.Received.{Received}
use Rattle.sr_receive_gather.specs.declared.report.Report.{Report}
use Rattle.sr_catalog_schema.specs.Members.{user_name}
use Rattle.sr_catalog_schema.specs.Names.{named}
use Rattle.sr_receive.specs.Passes.{AreSteady as IsSteady}
use Rattle.sr_session.specs.Said.{Said, WrotePrefix}
use Rattle.sr_site.specs.Causes.{Rose, Stays, MailStays}
use Rattle.sr_site.specs.Happenings.{mail_in}
use Rattle.sr_site.specs.Seen.{Seen}
use Rattle.sr_site.specs.Streams.{Output, OutputStays}
use Rattle.sr_database_meaning.specs.Events.{Event, commit, commits}
use Rattle.sr_database_meaning.specs.Traces.{Went}
use Rattle.sr_agent.specs.Deliveries.{Delivery, AreBased, AreDeliveries, IsDelivery, after_deliveries, deliveries_events, deliveries_lines, delivery_events, delivery_line, sent_to, with_puts}
use Rattle.sr_agent.specs.Ends.{Ended, HasTold}
use Rattle.sr_agent.specs.Faults.{fault_of_receive}
use Rattle.sr_agent.specs.Lines.{Line, alarms, lines_text, received, report_lines}
use Rattle.sr_agent.specs.Inner.Coming.{HaveCome, RemovesOfCome}
use Rattle.sr_agent.specs.Runs.{quiet}
use Rattle.sr_agent.specs.Stops.{GatheringStop, PartnerPassStop, DeliveryStop, IsUntold}
use Rattle.sr_agent.specs.PartnerPasses.{Gathering, IsGathering, gathering_lines, gathering_mail}
use Rattle.sr_agent.specs.PartnerPasses.{PartnerPass, IsPartnerPass, asks_in, partner_pass_entries, partner_pass_lines, partner_pass_mail}
use Rattle.sr_agent.specs.PartnerPasses.{ArePartnerPasses, after_partner_passes, partners_in, partner_passes_entries, partner_passes_lines, partner_passes_mail, users_in}
use Rattle.sr_agent.specs.declared.fault.AgentFault.{AgentFault}
use Rattle.sr_agent.specs.declared.fault.AgentFault.TheVariants.{Sink, Memory}
use Rattle.sr_agent.specs.declared.options.Options.{Options}
use Rattle.sr_agent.specs.declared.partner.Partner.{Partner}
use Rattle.sr_agent.specs.declared.progress.Progress.{Progress}

-- ---- what passes ask of a database

-- a user of it
abbrev pub IsUser : View → Name → Type 0
IsUser view user = IsSome (named user_name user view.catalog.users)

-- a user of it, of whom something missing was raised before, where an ask is due
pub record MaySendTo (view : View) (p : Partner) : Type 0 where
  pub user : IsUser view p.user
  pub raised : IsTrue p.ask → 1 ≤ (book_in view.books p.user).rereceive_count

-- what passes ask of partners stays so
pub record KeepsPartners (old new : View) : Type 0 where
  pub users : (user : Name) → IsUser old user → IsUser new user
  pub asks : (p : Partner) → MaySendTo old p → MaySendTo new p

-- ---- what is told

-- a text was written whole
pub record Told (said : List ℕ) (old new : Output) : Type 0 where
  pub taken : IsTrue old.observable → new.taken ≡ old.taken ++ said
  pub steady : new.faults ≡ old.faults
  pub stays : OutputStays old new

-- the sink failed after a prefix of it
pub record ToldInPart (said : List ℕ) (old new : Output) : Type 0 where
  pub prefix : IsTrue old.observable → WrotePrefix said old.taken new.taken
  pub rose : Rose old.faults new.faults
  pub stays : OutputStays old new

-- this fault came, and all of a text was written before; or the sink failed after a prefix of it
abbrev pub TellEnd : AgentFault → List ℕ → Output → Output → AgentFault → Type 0
TellEnd why said old new fault = ((fault ≡ why) × Told said old new) ⊎ ((fault ≡ Sink) × ToldInPart said old new)

-- a text was added to what was held: of both together some bytes were written, and the others are held
pub record Added (said held held' : List ℕ) (old new : Output) : Type 0 where
  pub written : IsTrue old.observable → Said (held ++ said) held' old.taken new.taken
  pub steady : new.faults ≡ old.faults
  pub stays : OutputStays old new

-- the first of two parts of a text was added, and the second is left
pub record AddedSome (whole left held held' : List ℕ) (old new : Output) : Type 0 where
  pub done : List ℕ
  pub parts : whole ≡ done ++ left
  pub added : Added done held held' old new

-- reports in two parts: the second is one report where an ask is due, and else none
pub record IsParted (reports : List Report) (ask : Bool) (prefix behind : List Report) : Type 0 where
  pub parts : reports ≡ prefix ++ behind
  pub one : length behind ≡ (if ask then 1 else 0)

-- the lines of a partner's pass, from what the pass answered and reported
abbrev pub partner_pass_said : Name → Received → List Report → List Report → List Line
partner_pass_said user answer prefix behind = report_lines prefix ++ received user answer.took answer.end.0 ∷ report_lines behind

-- a pass over a partner's message files ended, and what came of it was told
pub record ToldPartnerPass (user : Name) (outcome : Result Received ReceiveFault) (answer : Received) (count : ℕ) (reports : List Report) (old new : Output) : Type 0 where
  pub is : outcome ≡ Ok answer
  pub told : (prefix behind : List Report) → IsParted reports answer.ask prefix behind → Told (lines_text (partner_pass_said user answer prefix behind)) old new
  pub count_is : (prefix behind : List Report) → IsParted reports answer.ask prefix behind → count ≡ alarms (partner_pass_said user answer prefix behind)

-- the fault that ended the pass, after the reports of what was done before; or too many lines to count, after all of them; or that of the sink
abbrev pub OutcomeCause : Name → Result Received ReceiveFault → List Report → Output → Output → AgentFault → Type 0
OutcomeCause user (Ok answer) reports old new fault =
    (prefix behind : List Report) → IsParted reports answer.ask prefix behind → TellEnd Memory (lines_text (partner_pass_said user answer prefix behind)) old new fault
OutcomeCause user (Err why) reports old new fault = TellEnd (fault_of_receive why) (lines_text (report_lines reports)) old new fault

-- ---- the mail

pub record HasGatheredAll (view : View) (before now : Seen) (publisher : Name) (es : List Recorded) (bag : List PartnerMail) (lines : List Line) : Type 0 where
  pub gathering : Gathering
  pub is : IsGathering (state_of publisher es).catalog (end_of es) gathering
  pub database : IsDatabase view publisher es now
  pub steady : IsSteady before now
  pub went : Went before now publisher es []
  pub mail : mail_in now.happened ≡ gathering_mail publisher gathering (mail_in before.happened)
  pub came : HaveCome publisher before.happened now.happened gathering.fetched_files
  pub bag_is : (user : Name) → Has bag user (message_files_from user gathering.fetched_files) []
  pub lines_are : lines ≡ gathering_lines gathering

-- what is to be reported of the folder was told
pub record ToldGathering (outcome : Result (List PartnerMail) ReceiveFault) (bag : List PartnerMail) (count : ℕ) (reports : List Report) (old new : Output) : Type 0 where
  pub is : outcome ≡ Ok bag
  pub told : Told (lines_text (report_lines reports)) old new
  pub count_is : count ≡ alarms (report_lines reports)

-- the fault that ended the gathering, after the reports of what was gathered before; or too many lines to count, after all of them; or that of
-- the sink
abbrev pub GatheringCause : Result (List PartnerMail) ReceiveFault → List Report → Output → Output → AgentFault → Type 0
GatheringCause (Ok bag) reports old new fault = TellEnd Memory (lines_text (report_lines reports)) old new fault
GatheringCause (Err why) reports old new fault = TellEnd (fault_of_receive why) (lines_text (report_lines reports)) old new fault

-- the mail was gathered and could not be told, or was gathered in part
pub data BrokeInGathering (view : View) (before now : Seen) (publisher : Name) (es : List Recorded) (lines : List Line) (fault : AgentFault) : Type 0 where
  told_in_part : (bag : List PartnerMail) → HasGatheredAll view before now publisher es bag lines → IsUntold fault → BrokeInGathering view before now publisher es lines fault
  gathered_in_part : GatheringStop publisher es before now lines fault → Went before now publisher es [] → BrokeInGathering view before now publisher es lines fault

-- a database's mail was gathered, and what is to be reported of it was told
pub record GatheringDone (old : View) (before now : Seen) (bag : List PartnerMail) (count : ℕ) (written written' : Output) : Type 0 where
  pub lines : List Line
  pub told : Told (lines_text lines) written written'
  pub count_is : count ≡ alarms lines
  pub site : MailStays before now
  pub steady : now.mail_faults ≡ before.mail_faults
  pub in_force : IsTrue before.observable → HasLogInForce old before → HasLogInForce old now
  pub did : IsTrue before.observable → (publisher : Name) (es : List Recorded) → IsDatabase old publisher es before → HasGatheredAll old before now publisher es bag lines

-- a fault ended it
pub record GatheringBroken (view : View) (before now : Seen) (written written' : Output) (fault : AgentFault) : Type 0 where
  pub lines : List Line
  pub ended : Ended view before now written written' lines (Err fault)
  pub did : IsTrue before.observable → (publisher : Name) (es : List Recorded) → IsDatabase view publisher es before → BrokeInGathering view before now publisher es lines fault

-- ---- dead files

-- they were removed where they are to be
abbrev pub PurgedWhere : Bool → View → Name → List PartnerMail → Seen → Seen → Type 0
PurgedWhere false view user bag before now = now ≡ before
PurgedWhere true view user bag before now = (count : ℕ) × HasPurged view.catalog.publisher (book_in view.books user) (files_in (partner_mail_of bag user)) before now count

-- they are to be removed, and were in part
pub record PurgeEnd (purge : Bool) (view : View) (user : Name) (bag : List PartnerMail) (before now : Seen) (fault : AgentFault) : Type 0 where
  pub asked_for : purge ≡ true
  pub why : ReceiveFault
  pub cause : PurgeCause view.catalog.publisher (book_in view.books user) (files_in (partner_mail_of bag user)) before now why
  pub fault_is : fault ≡ fault_of_receive why

-- ---- a partner's pass

pub record TookPartnerPass (new : View) (before now : Seen) (publisher : Name) (es : List Recorded) (fetched_files : List FetchedFile) (purge : Bool) (user : Name) (ask : Bool) (lines : List Line) : Type 0 where
  pub partner_pass : PartnerPass
  pub user_is : partner_pass.user ≡ user
  pub is : IsPartnerPass publisher es fetched_files partner_pass
  pub database : IsDatabase new publisher (es ++ partner_pass_entries publisher es fetched_files partner_pass) now
  pub steady : IsSteady before now
  pub went : Went before now publisher es (map commit (partner_pass_entries publisher es fetched_files partner_pass))
  pub mail : mail_in now.happened ≡ partner_pass_mail publisher es fetched_files purge partner_pass (mail_in before.happened)
  pub removals : RemovesOfCome publisher fetched_files before now
  pub ask_is : ask ≡ asks_in publisher es fetched_files partner_pass
  pub lines_are : lines ≡ partner_pass_lines publisher es fetched_files partner_pass

-- a partner had his pass, and it was told
pub record PartnerPassDone (old new : View) (before now : Seen) (user : Name) (bag bag' : List PartnerMail) (purge : Bool) (progress progress' : Progress) (written written' : Output) : Type 0 where
  pub lines : List Line
  pub ask : Bool
  pub told : Told (lines_text lines) written written'
  pub alarms_are : progress'.alarms ≡ progress.alarms + alarms lines
  pub partners_are : progress'.partners.items ≡ progress.partners.items ++ record { user = user; ask = ask } ∷ []
  pub may : MaySendTo new (record { user = user; ask = ask })
  pub others : OthersStay bag bag' user
  pub steady : IsSteady before now
  pub stays : Stays before now
  pub did : IsTrue before.observable → (publisher : Name) (es : List Recorded) (fetched_files : List FetchedFile) → IsDatabase old publisher es before → Has bag user (message_files_from user fetched_files) []
      → TookPartnerPass new before now publisher es fetched_files purge user ask lines

pub record BrokeInPartnerPass (old new : View) (before now : Seen) (publisher : Name) (es : List Recorded) (fetched_files : List FetchedFile) (purge : Bool) (user : Name) (lines : List Line) (fault : AgentFault) (whole : Type 0) : Type 0 where
  pub events : List Event
  pub stop : PartnerPassStop publisher es fetched_files user old new before now events lines fault purge whole
  pub went : Went before now publisher es events
  pub removals : RemovesOfCome publisher fetched_files before now

-- a fault ended it
pub record PartnerPassBroken (old new : View) (before now : Seen) (user : Name) (bag : List PartnerMail) (purge : Bool) (written written' : Output) (fault : AgentFault) : Type 0 where
  pub lines : List Line
  pub ended : Ended new before now written written' lines (Err fault)
  pub did : IsTrue before.observable → (publisher : Name) (es : List Recorded) (fetched_files : List FetchedFile) → IsDatabase old publisher es before → Has bag user (message_files_from user fetched_files) []
      → BrokeInPartnerPass old new before now publisher es fetched_files purge user lines fault (HasTold lines written written')

-- ---- partners' passes of partners in order

-- the bag holds the message files of each of these users
abbrev pub HoldsAll : List PartnerMail → List FetchedFile → List Name → Type 0
HoldsAll bag fetched_files users = AllByRecursion (λ user. Has bag user (message_files_from user fetched_files) []) users

-- each is named once
abbrev pub AreOnce : List Name → Type 0
AreOnce [] = ⊤
AreOnce (user ∷ users) = AllByRecursion (λ other. bytes_eq user other ≡ false) users × AreOnce users

pub record TookPartnerPasses (new : View) (before now : Seen) (publisher : Name) (es : List Recorded) (fetched_files : List FetchedFile) (purge : Bool) (users : List Name) (asks : List Partner) (lines : List Line) : Type 0 where
  pub partner_passes : List PartnerPass
  pub whose : users_in partner_passes ≡ users
  pub are : ArePartnerPasses publisher es fetched_files partner_passes
  pub database : IsDatabase new publisher (after_partner_passes publisher es fetched_files partner_passes) now
  pub steady : IsSteady before now
  pub went : Went before now publisher es (map commit (partner_passes_entries publisher es fetched_files partner_passes))
  pub mail : mail_in now.happened ≡ partner_passes_mail publisher es fetched_files purge partner_passes (mail_in before.happened)
  pub removals : RemovesOfCome publisher fetched_files before now
  pub asks_are : asks ≡ partners_in publisher es fetched_files partner_passes
  pub lines_are : lines ≡ partner_passes_lines publisher es fetched_files partner_passes

pub record PartnerPassesDone (old new : View) (before now : Seen) (users : List Name) (bag : List PartnerMail) (purge : Bool) (progress progress' : Progress) (written written' : Output) : Type 0 where
  pub lines : List Line
  pub asks : List Partner
  pub told : Told (lines_text lines) written written'
  pub alarms_are : progress'.alarms ≡ progress.alarms + alarms lines
  pub partners_are : progress'.partners.items ≡ progress.partners.items ++ asks
  pub may : AllByRecursion (MaySendTo new) asks
  pub steady : IsSteady before now
  pub stays : Stays before now
  pub did : IsTrue before.observable → (publisher : Name) (es : List Recorded) (fetched_files : List FetchedFile) → IsDatabase old publisher es before → HoldsAll bag fetched_files users → AreOnce users
      → TookPartnerPasses new before now publisher es fetched_files purge users asks lines

pub record BrokeInPartnerPasses (old new : View) (before now : Seen) (publisher : Name) (es : List Recorded) (fetched_files : List FetchedFile) (purge : Bool) (users : List Name) (written written' : Output) (lines : List Line) (fault : AgentFault) : Type 0 where
  pub done : List Name
  pub user : Name
  pub left : List Name
  pub parts : users ≡ done ++ user ∷ left
  pub db : View
  pub seen : Seen
  pub asks : List Partner
  pub earlier : List Line
  pub took : TookPartnerPasses db before seen publisher es fetched_files purge done asks earlier
  pub told : List Line
  pub events : List Event
  pub stop : PartnerPassStop publisher (after_partner_passes publisher es fetched_files took.partner_passes) fetched_files user db new seen now events told fault purge (HasTold lines written written')
  pub went : Went before now publisher es (map commit (partner_passes_entries publisher es fetched_files took.partner_passes) ++ events)
  pub removals : RemovesOfCome publisher fetched_files before now
  pub lines_are : lines ≡ earlier ++ told
  -- the lines of the partners' passes before it
  pub earlier_told : HasTold earlier written written'

pub record PartnerPassesBroken (old new : View) (before now : Seen) (users : List Name) (bag : List PartnerMail) (purge : Bool) (written written' : Output) (fault : AgentFault) : Type 0 where
  pub lines : List Line
  pub ended : Ended new before now written written' lines (Err fault)
  pub did : IsTrue before.observable → (publisher : Name) (es : List Recorded) (fetched_files : List FetchedFile) → IsDatabase old publisher es before → HoldsAll bag fetched_files users → AreOnce users
      → BrokeInPartnerPasses old new before now publisher es fetched_files purge users written written' lines fault

-- ---- the receive pass

pub record TookAll (new : View) (before now : Seen) (publisher : Name) (es : List Recorded) (purge : Bool) (users : List Name) (asks : List Partner) (lines : List Line) : Type 0 where
  pub bag : List PartnerMail
  pub seen : Seen
  pub view : View
  pub first : List Line
  pub gathered : HasGatheredAll view before seen publisher es bag first
  pub behind : List Line
  pub took : TookPartnerPasses new seen now publisher es gathered.gathering.fetched_files purge users asks behind
  pub lines_are : lines ≡ first ++ behind

-- the mail was gathered, each partner had his pass, and all of it was told
pub record ReceivingDone (old new : View) (before now : Seen) (users : List Name) (purge : Bool) (written written' : Output) (progress : Progress) : Type 0 where
  pub lines : List Line
  pub told : Told (lines_text lines) written written'
  pub alarms_are : progress.alarms ≡ alarms lines
  pub may : AllByRecursion (MaySendTo new) progress.partners.items
  pub steady : IsSteady before now
  pub stays : Stays before now
  pub did : IsTrue before.observable → (publisher : Name) (es : List Recorded) → IsDatabase old publisher es before → AreOnce users → TookAll new before now publisher es purge users progress.partners.items lines

-- it was gathered and could not be told, or in part; or all of it was told, and a partner's pass was broken
pub data BrokeInReceiving (old new : View) (before now : Seen) (publisher : Name) (es : List Recorded) (purge : Bool) (users : List Name) (written written' : Output) (lines : List Line) (fault : AgentFault) : Type 0 where
  in_mail : new ≡ old → BrokeInGathering old before now publisher es lines fault → BrokeInReceiving old new before now publisher es purge users written written' lines fault
  in_partner_passes : (bag : List PartnerMail) (seen : Seen) (first behind : List Line) (between : Output) (gathered : HasGatheredAll old before seen publisher es bag first) → Told (lines_text first) written between
      → BrokeInPartnerPasses old new seen now publisher es gathered.gathering.fetched_files purge users between written' behind fault → lines ≡ first ++ behind
      → BrokeInReceiving old new before now publisher es purge users written written' lines fault

pub record ReceivingBroken (old new : View) (before now : Seen) (users : List Name) (purge : Bool) (written written' : Output) (fault : AgentFault) : Type 0 where
  pub lines : List Line
  pub ended : Ended new before now written written' lines (Err fault)
  pub did : IsTrue before.observable → (publisher : Name) (es : List Recorded) → IsDatabase old publisher es before → AreOnce users
      → BrokeInReceiving old new before now publisher es purge users written written' lines fault

-- ---- a delivery

-- from a log that begins at a base, and goes on to
pub record TookDelivery (base : ℕ) (new : View) (before now : Seen) (publisher : Name) (es : List Recorded) (limit : ℕ) (partner : Partner) (lines : List Line) : Type 0 where
  pub delivery : Delivery
  pub based : delivery.base ≡ base
  pub whom : delivery.partner ≡ partner
  pub is : IsDelivery publisher es limit delivery
  pub database : IsDatabase new publisher (es ++ commits (delivery_events publisher es delivery)) now
  pub base_is : new.log.base ≡ base
  pub steady : IsSteady before now
  pub went : Went before now publisher es (delivery_events publisher es delivery)
  pub mail : mail_in now.happened ≡ with_puts (delivery_events publisher es delivery) (mail_in before.happened)
  pub lines_are : lines ≡ delivery_line publisher es delivery ∷ []

-- a partner was sent what is due, and it was told
pub record DeliveryDone (old new : View) (before now : Seen) (limit : ℕ) (partner : Partner) (written written' : Output) : Type 0 where
  pub lines : List Line
  pub told : Told (lines_text lines) written written'
  pub no_alarm : alarms lines ≡ 0
  pub steady : IsSteady before now
  pub stays : Stays before now
  pub did : IsTrue before.observable → (publisher : Name) (es : List Recorded) → IsDatabase old publisher es before → TookDelivery old.log.base new before now publisher es limit partner lines

-- it was sent, and the sink failed as it was told
pub record UntoldDelivery (base : ℕ) (new : View) (before now : Seen) (publisher : Name) (es : List Recorded) (limit : ℕ) (partner : Partner) (lines : List Line) (fault : AgentFault) : Type 0 where
  pub took : TookDelivery base new before now publisher es limit partner lines
  pub why : fault ≡ Sink

-- it was sent in part
pub record BrokeInDelivery (old new : View) (before now : Seen) (publisher : Name) (es : List Recorded) (limit : ℕ) (partner : Partner) (lines : List Line) (fault : AgentFault) : Type 0 where
  pub events : List Event
  pub stop : DeliveryStop publisher es limit partner old new before now events fault
  pub went : Went before now publisher es events
  pub no_lines : lines ≡ []

pub record DeliveryBroken (old new : View) (before now : Seen) (limit : ℕ) (partner : Partner) (written written' : Output) (fault : AgentFault) : Type 0 where
  pub lines : List Line
  pub ended : Ended new before now written written' lines (Err fault)
  pub did : IsTrue before.observable → (publisher : Name) (es : List Recorded) → IsDatabase old publisher es before
      → UntoldDelivery old.log.base new before now publisher es limit partner lines fault ⊎ BrokeInDelivery old new before now publisher es limit partner lines fault

-- ---- deliveries to partners in order

pub record TookDeliveries (base : ℕ) (new : View) (before now : Seen) (publisher : Name) (es : List Recorded) (limit : ℕ) (partners : List Partner) (lines : List Line) : Type 0 where
  pub deliveries : List Delivery
  pub based : AreBased base deliveries
  pub whom : sent_to deliveries ≡ partners
  pub are : AreDeliveries publisher es limit deliveries
  pub database : IsDatabase new publisher (after_deliveries publisher es deliveries) now
  pub base_is : new.log.base ≡ base
  pub steady : IsSteady before now
  pub went : Went before now publisher es (deliveries_events publisher es deliveries)
  pub mail : mail_in now.happened ≡ with_puts (deliveries_events publisher es deliveries) (mail_in before.happened)
  pub lines_are : lines ≡ deliveries_lines publisher es deliveries

pub record DeliveriesDone (old new : View) (before now : Seen) (limit : ℕ) (partners : List Partner) (written written' : Output) : Type 0 where
  pub lines : List Line
  pub told : Told (lines_text lines) written written'
  pub no_alarm : alarms lines ≡ 0
  pub steady : IsSteady before now
  pub stays : Stays before now
  pub did : IsTrue before.observable → (publisher : Name) (es : List Recorded) → IsDatabase old publisher es before → TookDeliveries old.log.base new before now publisher es limit partners lines

-- the sink failed as what was put last was told
pub record IsUntoldThere (deliveries : List Delivery) (db new : View) (seen now : Seen) (told : List Line) (fault : AgentFault) : Type 0 where
  pub last : Delivery
  pub earlier : List Delivery
  pub put : deliveries ≡ last ∷ earlier
  pub same : new ≡ db
  pub still : now ≡ seen
  pub none : told ≡ []
  pub why : fault ≡ Sink

-- the next partner was sent to in part
pub record IsInNextDelivery (publisher : Name) (es : List Recorded) (limit : ℕ) (left : List Partner) (db new : View) (seen now : Seen) (told : List Line) (fault : AgentFault) : Type 0 where
  pub partner : Partner
  pub others : List Partner
  pub next : left ≡ partner ∷ others
  pub broke : BrokeInDelivery db new seen now publisher es limit partner told fault

-- all up to some partner were sent to; what was put for the last could not be told, or the next was sent to in part
pub record BrokeInDeliveries (old new : View) (before now : Seen) (publisher : Name) (es : List Recorded) (limit : ℕ) (partners : List Partner) (lines : List Line) (fault : AgentFault) : Type 0 where
  pub done : List Partner
  pub left : List Partner
  pub parts : partners ≡ done ++ left
  pub db : View
  pub seen : Seen
  pub earlier : List Line
  pub took : TookDeliveries old.log.base db before seen publisher es limit done earlier
  pub told : List Line
  pub stop : IsUntoldThere took.deliveries db new seen now told fault ⊎ IsInNextDelivery publisher (after_deliveries publisher es took.deliveries) limit left db new seen now told fault
  pub lines_are : lines ≡ earlier ++ told

pub record DeliveriesBroken (old new : View) (before now : Seen) (limit : ℕ) (partners : List Partner) (written written' : Output) (fault : AgentFault) : Type 0 where
  pub lines : List Line
  pub ended : Ended new before now written written' lines (Err fault)
  pub did : IsTrue before.observable → (publisher : Name) (es : List Recorded) → IsDatabase old publisher es before → BrokeInDeliveries old new before now publisher es limit partners lines fault

-- ---- passes, where they are asked for

-- nothing was done, and nothing is to be asked of anybody
pub record IsQuietPass (old new : View) (before now : Seen) (users : List Name) (written written' : Output) (progress : Progress) : Type 0 where
  pub same : new ≡ old
  pub still : now ≡ before
  pub silent : written' ≡ written
  pub no_alarm : progress.alarms ≡ 0
  pub partners_are : progress.partners.items ≡ map quiet users

abbrev pub MadeWhere : Bool → Bool → View → View → Seen → Seen → List Name → Output → Output → Progress → Type 0
MadeWhere false purge old new before now users written written' progress = IsQuietPass old new before now users written written' progress
MadeWhere true purge old new before now users written written' progress = ReceivingDone old new before now users purge written written' progress

-- the receive pass was made, or is left out
abbrev pub MadePass : Options → View → View → Seen → Seen → List Name → Output → Output → Progress → Type 0
MadePass options old new before now users written written' progress = MadeWhere options.receive options.purge old new before now users written written' progress

-- there was no memory, and nothing was done
pub record IsForWant (old new : View) (before now : Seen) (written written' : Output) (fault : AgentFault) : Type 0 where
  pub same : new ≡ old
  pub still : now ≡ before
  pub silent : written' ≡ written
  pub why : fault ≡ Memory

abbrev pub BrokenWhere : Bool → Bool → View → View → Seen → Seen → List Name → Output → Output → AgentFault → Type 0
BrokenWhere false purge old new before now users written written' fault = IsForWant old new before now written written' fault
BrokenWhere true purge old new before now users written written' fault = ReceivingBroken old new before now users purge written written' fault

abbrev pub PassBroken : Options → View → View → Seen → Seen → List Name → Output → Output → AgentFault → Type 0
PassBroken options old new before now users written written' fault = BrokenWhere options.receive options.purge old new before now users written written' fault

-- nothing was sent
pub record IsNothingSent (old new : View) (before now : Seen) (written written' : Output) : Type 0 where
  pub same : new ≡ old
  pub still : now ≡ before
  pub silent : written' ≡ written

abbrev pub SentWhere : Bool → ℕ → View → View → Seen → Seen → List Partner → Output → Output → Type 0
SentWhere false limit old new before now partners written written' = IsNothingSent old new before now written written'
SentWhere true limit old new before now partners written written' = DeliveriesDone old new before now limit partners written written'

-- the send pass was made, or is left out
abbrev pub SendingDone : Options → View → View → Seen → Seen → List Partner → Output → Output → Type 0
SendingDone options old new before now partners written written' = SentWhere options.send options.length old new before now partners written written'

abbrev pub SentPartWhere : Bool → ℕ → View → View → Seen → Seen → List Partner → Output → Output → AgentFault → Type 0
SentPartWhere false limit old new before now partners written written' fault = ⊥
SentPartWhere true limit old new before now partners written written' fault = DeliveriesBroken old new before now limit partners written written' fault

abbrev pub SendingBroken : Options → View → View → Seen → Seen → List Partner → Output → Output → AgentFault → Type 0
SendingBroken options old new before now partners written written' fault = SentPartWhere options.send options.length old new before now partners written written' fault
