-- Faults of one statement, and of a script.
use Rattle.std.specs.Prelude.{ℕ}
use Rattle.sr_database_files.specs.declared.fault.DatabaseFault.{DatabaseFault}
use Rattle.sr_database_files.specs.declared.fault.DatabaseFault.TheVariants as store
use Rattle.sr_session_script.specs.declared.refusal.Stop.{Stop}
use Rattle.sr_session_script.specs.declared.refusal.Stop.TheVariants as stops
use Rattle.sr_session.specs.declared.fault.SessionFault.{SessionFault}
use Rattle.sr_session.specs.declared.fault.SessionFault.TheVariants as session
use Rattle.sr_session.specs.declared.fault.StepFault.{StepFault}
use Rattle.sr_session.specs.declared.fault.StepFault.TheVariants.{Refused, Store, Memory}

abbrev pub fault_of_stop : Stop → StepFault
fault_of_stop (stops.Refused fault) = Refused fault
fault_of_stop stops.Memory = Memory

abbrev pub fault_of_store : DatabaseFault → StepFault
fault_of_store store.Missing = Store store.Missing
fault_of_store store.Exists = Store store.Exists
fault_of_store (store.Damaged file at) = Store (store.Damaged file at)
fault_of_store store.Disk = Store store.Disk
fault_of_store (store.Full end need) = Store (store.Full end need)
fault_of_store (store.Long size limit) = Store (store.Long size limit)
fault_of_store store.Memory = Memory

abbrev pub session_fault : ℕ → StepFault → SessionFault
session_fault number (Refused fault) = session.Statement number fault
session_fault number (Store fault) = session.Store fault
session_fault number Memory = session.Memory
