-- How a step ends that was told, or in part.
use Rattle.std.proofs.Common.{◌≡◌, ℕ, Bool, List, [], Err, sym, subst, inl, inr}
use Rattle.sr_book.specs.Entries.{Name}
use Rattle.sr_database.specs.Views.{View}
use Rattle.sr_database_history.specs.Recorded.{Recorded}
use Rattle.sr_receive.specs.Inner.Passes.{IsDeviceFault}
use Rattle.sr_receive_gather.specs.MessageFiles.{FetchedFile}
use Rattle.sr_receive_gather.specs.declared.fault.ReceiveFault.{ReceiveFault}
use Rattle.sr_receive_gather.specs.declared.fault.ReceiveFault.TheVariants as receives
use Rattle.sr_site.specs.Causes.{Stays}
use Rattle.sr_site.specs.Seen.{Seen}
use Rattle.sr_site.specs.Streams.{Output}
use Rattle.sr_database_meaning.specs.Events.{Event}
use Rattle.sr_agent.specs.Ends.{Ended, IsUsableEnd}
use Rattle.sr_agent.specs.Faults.{fault_of_receive}
use Rattle.sr_agent.specs.Lines.{Line, lines_text}
use Rattle.sr_agent.specs.Inner.Steps.{TellEnd, Told, ToldInPart}
use Rattle.sr_agent.specs.Stops.{IsFaultOr, IsUntold, RemovedInPart, PartnerPassStop, begun, behind_message_files, in_message_files, untouched}
use Rattle.sr_agent.specs.PartnerPasses.{PartnerPass}
use Rattle.sr_agent.specs.declared.fault.AgentFault.{AgentFault}
use Rattle.sr_agent.specs.declared.fault.AgentFault.TheVariants.{Sink, Memory}

pub untold_is : (said : List ℕ) (written written' : Output) (fault : AgentFault) → TellEnd Memory said written written' fault → IsUntold fault
untold_is said written written' fault (inl told) = inr told.0
untold_is said written written' fault (inr part) = inl part.0

-- the sink failed as its lines were told
pub sink_end : (new : View) (before now : Seen) (written written' : Output) (lines : List Line) → new.pending ≡ [] → Stays before now → ToldInPart (lines_text lines) written written'
    → Ended new before now written written' lines (Err Sink)
sink_end new before now written written' lines idle stays part = record { wrote = part.prefix; counts = part.rose; usable = tt; pending = idle; site = stays; sink = part.stays }

-- its lines were told, and then its fault ended it
pub told_end : (new : View) (before now : Seen) (written written' : Output) (lines : List Line) (why : ReceiveFault) → new.pending ≡ [] → Stays before now → IsDeviceFault before now why
    → IsUsableEnd new (Err (fault_of_receive why)) → Told (lines_text lines) written written' → Ended new before now written written' lines (Err (fault_of_receive why))
told_end new before now written written' lines receives.Disk idle stays device usable told =
    record { wrote = told.taken; counts = (device.0, device.1, told.steady); usable = usable; pending = idle; site = stays; sink = told.stays }
told_end new before now written written' lines receives.Mail idle stays device usable told =
    record { wrote = told.taken; counts = (device.0, device.1, told.steady); usable = usable; pending = idle; site = stays; sink = told.stays }
told_end new before now written written' lines (receives.Full end need) idle stays device usable told =
    record { wrote = told.taken; counts = (device.disk, device.mail, told.steady); usable = usable; pending = idle; site = stays; sink = told.stays }
told_end new before now written written' lines (receives.Long size limit) idle stays device usable told =
    record { wrote = told.taken; counts = (device.disk, device.mail, told.steady); usable = usable; pending = idle; site = stays; sink = told.stays }
told_end new before now written written' lines receives.Memory idle stays device usable told =
    record { wrote = told.taken; counts = (device.disk, device.mail, told.steady); usable = usable; pending = idle; site = stays; sink = told.stays }

-- how a step ended, and by which fault
pub record EndedBy (new : View) (before now : Seen) (written written' : Output) (lines : List Line) (why : ReceiveFault) (fault : AgentFault) : Type 0 where
  pub ended : Ended new before now written written' lines (Err fault)
  pub by : IsFaultOr (fault_of_receive why) fault

pub ended_told : (new : View) (before now : Seen) (written written' : Output) (lines : List Line) (why : ReceiveFault) (fault : AgentFault) → new.pending ≡ [] → Stays before now → IsDeviceFault before now why
    → IsUsableEnd new (Err (fault_of_receive why)) → fault ≡ fault_of_receive why → Told (lines_text lines) written written' → EndedBy new before now written written' lines why fault
ended_told new before now written written' lines why fault idle stays device usable is told = record {
  ended = subst (λ (f : AgentFault). Ended new before now written written' lines (Err f)) (sym is) (told_end new before now written written' lines why idle stays device usable told);
  by = inl is;
}

-- or the sink failed before
pub ended_by : (new : View) (before now : Seen) (written written' : Output) (lines : List Line) (why : ReceiveFault) (fault : AgentFault) → new.pending ≡ [] → Stays before now → IsDeviceFault before now why
    → IsUsableEnd new (Err (fault_of_receive why)) → TellEnd (fault_of_receive why) (lines_text lines) written written' fault → EndedBy new before now written written' lines why fault
ended_by new before now written written' lines why fault idle stays device usable (inl told) = ended_told new before now written written' lines why fault idle stays device usable told.0 told.1
ended_by new before now written written' lines why fault idle stays device usable (inr part) = record {
  ended = subst (λ (f : AgentFault). Ended new before now written written' lines (Err f)) (sym part.0) (sink_end new before now written written' lines idle stays part.1);
  by = inr part.0;
}

-- ---- a partner's pass that a fault ended, after other lines

pub removed_so : (publisher : Name) (es : List Recorded) (fetched_files : List FetchedFile) (t : PartnerPass) (between now : Seen) (fault : AgentFault) (purge : Bool) (one all : Type 0) → (one → all)
    → RemovedInPart publisher es fetched_files t between now fault purge one → RemovedInPart publisher es fetched_files t between now fault purge all
removed_so publisher es fetched_files t between now fault purge one all so (untouched same why) = untouched same why
removed_so publisher es fetched_files t between now fault purge one all so (begun on told why cause is) = begun on (so told) why cause is

abbrev pub partner_pass_stopped : (publisher : Name) (es : List Recorded) (fetched_files : List FetchedFile) (user : Name) (db new : View) (seen now : Seen) (events : List Event) (lines : List Line) (fault : AgentFault) (purge : Bool) (one all : Type 0)
    → (one → all) → PartnerPassStop publisher es fetched_files user db new seen now events lines fault purge one → PartnerPassStop publisher es fetched_files user db new seen now events lines fault purge all
partner_pass_stopped publisher es fetched_files user db new seen now events lines fault purge one all so (in_message_files stop) = in_message_files stop
partner_pass_stopped publisher es fetched_files user db new seen now events lines fault purge one all so (behind_message_files stop) = behind_message_files (record {
  partner_pass = stop.partner_pass;
  user_is = stop.user_is;
  is = stop.is;
  between = stop.between;
  database = stop.database;
  mail = stop.mail;
  removed = removed_so publisher es fetched_files stop.partner_pass stop.between now fault purge one all so stop.removed;
  events_are = stop.events_are;
  lines_are = stop.lines_are;
})
