-- Where a run ends before its end: how far it came, the step at which a fault came, and what was done of that.
use Rattle.std.specs.Prelude.{◌≡◌, ◌⊎◌, ⊤, ℕ, Bool, true, List, [], ◌∷◌, ◌++◌, length, map}
use Rattle.std.specs.List.{AllByRecursion}
use Rattle.sr_book.specs.Entries.{Name}
use Rattle.sr_database.specs.Databases.{IsDatabase}
use Rattle.sr_database.specs.Views.{View}
use Rattle.sr_database_history.specs.Folds.{state_of, books_of, end_of}
use Rattle.sr_database_history.specs.Recorded.{Recorded}
use Rattle.sr_mail.specs.declared.window.Window.{Window}
use Rattle.sr_msgform.specs.Messages.{IsMessage}
use Rattle.sr_msgform.specs.declared.message.Message.{Message}
use Rattle.sr_receive.specs.Acts.{mail_after}
use Rattle.sr_receive.specs.Entering.{Reached}
use Rattle.sr_receive_gather.specs.Gathers.{GatherCause}
use Rattle.sr_receive_gather.specs.MessageFiles.{FetchedFile, message_files_from}
use Rattle.sr_receive.specs.Passes.{PassedInPart}
use Rattle.sr_receive_gather.specs.Purges.{PurgeCause}
use Rattle.sr_receive_gather.specs.declared.fault.ReceiveFault.{ReceiveFault}
use Rattle.sr_receive_gather.specs.declared.report.Report.{Report}
use Rattle.sr_send.specs.PutFiles.{put_files, sent_note}
use Rattle.sr_send.specs.Passes.{AreAll, SendCause, sent_end}
use Rattle.sr_send.specs.Posting.{IsDeviceFault}
use Rattle.sr_send.specs.declared.fault.SendFault.{SendFault}
use Rattle.sr_site.specs.Happenings.{mail_in}
use Rattle.sr_site.specs.Seen.{Seen}
use Rattle.sr_database_meaning.specs.Events.{Event, commit}
use Rattle.sr_agent.specs.Deliveries.{Delivery, folder_of}
use Rattle.sr_agent.specs.Faults.{fault_of_receive, fault_of_send}
use Rattle.sr_agent.specs.Lines.{Line, report_lines}
use Rattle.sr_agent.specs.Runs.{Run, IsReceiving, IsSending, Receives, after_run, asked, fetched_files_of, nothing_done}
use Rattle.sr_agent.specs.PartnerPasses.{PartnerPass, IsPartnerPass, files_of, partners, partner_pass_entries, partner_pass_lines}
use Rattle.sr_agent.specs.declared.fault.AgentFault.{AgentFault}
use Rattle.sr_agent.specs.declared.fault.AgentFault.TheVariants.{Sink, Memory}
use Rattle.sr_agent.specs.declared.options.Options.{Options}
use Rattle.sr_agent.specs.declared.partner.Partner.{Partner}

-- ---- which fault ends it

-- the sink failed as what was done was told; or all of it was told, and there was no memory to go on
abbrev pub IsUntold : AgentFault → Type 0
IsUntold fault = (fault ≡ Sink) ⊎ (fault ≡ Memory)

-- that of the step, unless the sink failed as what was done of it was told
abbrev pub IsFaultOr : AgentFault → AgentFault → Type 0
IsFaultOr why fault = (fault ≡ why) ⊎ (fault ≡ Sink)

-- ---- a step that a fault ended, with what it added to the trace and what of it is told

-- the mail was being gathered
pub record GatheringStop (publisher : Name) (es : List Recorded) (seen now : Seen) (lines : List Line) (fault : AgentFault) : Type 0 where
  pub told : List Report
  pub why : ReceiveFault
  pub part : GatherCause (state_of publisher es).catalog (end_of es) seen now [] told why
  pub fault_is : IsFaultOr (fault_of_receive why) fault
  pub lines_are : lines ≡ report_lines told

-- message files of a partner were being received
pub record ReceivingStop (publisher : Name) (es : List Recorded) (fetched_files : List FetchedFile) (user : Name) (db new : View) (seen now : Seen) (events : List Event) (lines : List Line) (fault : AgentFault) : Type 0 where
  pub dropped_windows : List Window
  pub told : List Report
  pub why : ReceiveFault
  pub part : PassedInPart db new seen now user (message_files_from user fetched_files) [] dropped_windows [] told why
  pub entries : List Recorded
  pub begun : List Recorded
  pub reached : Reached db new seen now entries begun
  pub fault_is : IsFaultOr (fault_of_receive why) fault
  pub events_are : events ≡ map commit (entries ++ begun)
  pub lines_are : lines ≡ report_lines told

-- after a partner's pass no file was removed yet; or files are to be removed, all its lines were told, and the dead ones by the book with its entries were
-- being removed
pub data RemovedInPart (publisher : Name) (es : List Recorded) (fetched_files : List FetchedFile) (t : PartnerPass) (between now : Seen) (fault : AgentFault) (purge : Bool) (whole : Type 0) : Type 0 where
  untouched : now ≡ between → IsUntold fault → RemovedInPart publisher es fetched_files t between now fault purge whole
  begun : purge ≡ true → whole → (why : ReceiveFault) → PurgeCause publisher (books_of t.user (es ++ partner_pass_entries publisher es fetched_files t)) (files_of fetched_files t) between now why → fault ≡ fault_of_receive why
      → RemovedInPart publisher es fetched_files t between now fault purge whole

-- a partner had his pass; its lines were not all told, or his dead files were being removed
pub record BehindPartnerPassStop (publisher : Name) (es : List Recorded) (fetched_files : List FetchedFile) (user : Name) (new : View) (seen now : Seen) (events : List Event) (lines : List Line) (fault : AgentFault) (purge : Bool)
    (whole : Type 0) : Type 0 where
  pub partner_pass : PartnerPass
  pub user_is : partner_pass.user ≡ user
  pub is : IsPartnerPass publisher es fetched_files partner_pass
  pub between : Seen
  pub database : IsDatabase new publisher (es ++ partner_pass_entries publisher es fetched_files partner_pass) between
  pub mail : mail_in between.happened ≡ mail_after publisher partner_pass.acts (mail_in seen.happened)
  pub removed : RemovedInPart publisher es fetched_files partner_pass between now fault purge whole
  pub events_are : events ≡ map commit (partner_pass_entries publisher es fetched_files partner_pass)
  pub lines_are : lines ≡ partner_pass_lines publisher es fetched_files partner_pass

-- a partner's pass
pub data PartnerPassStop (publisher : Name) (es : List Recorded) (fetched_files : List FetchedFile) (user : Name) (db new : View) (seen now : Seen) (events : List Event) (lines : List Line) (fault : AgentFault) (purge : Bool)
    (whole : Type 0) : Type 0 where
  in_message_files : ReceivingStop publisher es fetched_files user db new seen now events lines fault → PartnerPassStop publisher es fetched_files user db new seen now events lines fault purge whole
  behind_message_files : BehindPartnerPassStop publisher es fetched_files user new seen now events lines fault purge whole → PartnerPassStop publisher es fetched_files user db new seen now events lines fault purge whole

-- the note of messages was begun, which comes after the last of them, or not; the log begins at a base
abbrev pub IsBegunNote : ℕ → Name → List Recorded → Name → List Message → List Message → List Recorded → Type 0
IsBegunNote base publisher es user messages left [] = ⊤
IsBegunNote base publisher es user messages left (r ∷ []) = (left ≡ []) × (r ≡ sent_note user (books_of user es) (sent_end base publisher es user (books_of user es)) (length messages))
IsBegunNote base publisher es user messages left (r ∷ other ∷ rs) = ⊥

-- messages were being put for a partner, each of which can be read again, or their note was being committed
pub record DeliveryStop (publisher : Name) (es : List Recorded) (limit : ℕ) (partner : Partner) (db new : View) (seen now : Seen) (events : List Event) (fault : AgentFault) : Type 0 where
  pub why : SendFault
  pub cause : SendCause db new seen now partner.user limit partner.ask why
  pub devices : IsDeviceFault seen now why
  pub fault_is : fault ≡ fault_of_send why
  pub messages : List Message
  pub left : List Message
  pub are : AreAll db.log.base publisher es partner.user (books_of partner.user es) partner.ask limit (messages ++ left)
  pub spelled : AllByRecursion IsMessage messages
  pub notes : List Recorded
  pub note : IsBegunNote db.log.base publisher es partner.user messages left notes
  pub events_are : events ≡ put_files (folder_of publisher es partner.user) (books_of partner.user es).send_count messages ++ map commit notes

-- ---- which entries its lines tell of

-- of a partner's pass: those that were committed
abbrev pub told_in_pass : {publisher : Name} {es : List Recorded} {fetched_files : List FetchedFile} {user : Name} {db new : View} {seen now : Seen} {events : List Event} {lines : List Line} {fault : AgentFault} {purge : Bool}
    {whole : Type 0} → PartnerPassStop publisher es fetched_files user db new seen now events lines fault purge whole → List Recorded
told_in_pass (in_message_files stop) = stop.entries
told_in_pass {publisher} {es} {fetched_files} (behind_message_files stop) = partner_pass_entries publisher es fetched_files stop.partner_pass

-- ---- how far a run came before

-- the receive pass was made up to some partner, and these are left
pub record IsReceivingUpTo (publisher : Name) (es : List Recorded) (options : Options) (run : Run) (left : List Name) : Type 0 where
  pub asked_for : options.receive ≡ true
  pub done : List Name
  pub parts : partners publisher es ≡ done ++ left
  pub receiving : IsReceiving publisher es run done
  pub none : run.deliveries ≡ []

-- the receive pass was made or is left out, the send pass was made up to some partner, and these are left
pub record IsSendingUpTo (publisher : Name) (es : List Recorded) (options : Options) (run : Run) (left : List Partner) : Type 0 where
  pub asked_for : options.send ≡ true
  pub received : Receives options.receive publisher es run
  pub done : List Partner
  pub parts : asked options.receive publisher es run ≡ done ++ left
  pub sending : IsSending publisher es options.length run done

-- ---- a run that a fault ended, after these first steps of it; whether all lines up to there were written

pub data StopsAt (publisher : Name) (es : List Recorded) (options : Options) (run : Run) (db new : View) (seen now : Seen) (events : List Event) (lines : List Line) (fault : AgentFault) (whole : Type 0) : Type 0 where
  -- nothing was done yet, for want of memory
  at_first : run ≡ nothing_done → new ≡ db → now ≡ seen → events ≡ [] → lines ≡ [] → fault ≡ Memory → StopsAt publisher es options run db new seen now events lines fault whole
  -- the mail was being gathered
  gathering : options.receive ≡ true → run ≡ nothing_done → new ≡ db → events ≡ [] → GatheringStop publisher es seen now lines fault → StopsAt publisher es options run db new seen now events lines fault whole
  -- the mail was gathered, and no partner had his pass
  behind_gathering : (left : List Name) → IsReceivingUpTo publisher es options run left → run.partner_passes ≡ [] → new ≡ db → now ≡ seen → events ≡ [] → lines ≡ [] → IsUntold fault
      → StopsAt publisher es options run db new seen now events lines fault whole
  -- the next partner had his pass
  in_partner_pass : (user : Name) (left : List Name) → IsReceivingUpTo publisher es options run (user ∷ left)
      → PartnerPassStop publisher (after_run publisher es run) (fetched_files_of run.gathered) user db new seen now events lines fault options.purge whole → StopsAt publisher es options run db new seen now events lines fault whole
  -- what was put for a partner was not told, since the sink failed, and nothing was put for any other
  sending : (left : List Partner) → IsSendingUpTo publisher es options run left → (last : Delivery) (earlier : List Delivery) → run.deliveries ≡ last ∷ earlier → new ≡ db → now ≡ seen → events ≡ [] → lines ≡ []
      → fault ≡ Sink → StopsAt publisher es options run db new seen now events lines fault whole
  -- the next partner was being sent to
  in_delivery : (partner : Partner) (left : List Partner) → IsSendingUpTo publisher es options run (partner ∷ left) → lines ≡ []
      → DeliveryStop publisher (after_run publisher es run) options.length partner db new seen now events fault → StopsAt publisher es options run db new seen now events lines fault whole

-- the entries of the step at which it ended that its lines tell of
abbrev pub told_entries : {publisher : Name} {es : List Recorded} {options : Options} {run : Run} {db new : View} {seen now : Seen} {events : List Event} {lines : List Line} {fault : AgentFault} {whole : Type 0}
    → StopsAt publisher es options run db new seen now events lines fault whole → List Recorded
told_entries (at_first none same still no_events no_lines want) = []
told_entries (gathering on none same no_events stop) = []
told_entries (behind_gathering left up_to none same still no_events no_lines untold) = []
told_entries (in_partner_pass user left up_to stop) = told_in_pass stop
told_entries (sending left up_to last earlier put same still no_events no_lines sink) = []
told_entries (in_delivery partner left up_to no_lines stop) = []
