-- The faults of what a pass stands on, as its own.
use Rattle.sr_database_files.specs.declared.fault.DatabaseFault.{DatabaseFault}
use Rattle.sr_database_files.specs.declared.fault.DatabaseFault.TheVariants as store
use Rattle.sr_site.specs.declared.mail.MailFault.{MailFault}
use Rattle.sr_site.specs.declared.mail.MailFault.TheVariants as mail
use Rattle.sr_receive_gather.specs.declared.fault.ReceiveFault.{ReceiveFault}
use Rattle.sr_receive_gather.specs.declared.fault.ReceiveFault.TheVariants.{Disk, Mail, Full, Long, Memory}

abbrev pub fault_of_mail : MailFault → ReceiveFault
fault_of_mail mail.Failed = Mail
fault_of_mail mail.Memory = Memory

-- of a commit: an open database is not missing, there or damaged
abbrev pub fault_of_store : DatabaseFault → ReceiveFault
fault_of_store store.Missing = Memory
fault_of_store store.Exists = Memory
fault_of_store (store.Damaged file at) = Memory
fault_of_store store.Disk = Disk
fault_of_store (store.Full end need) = Full end need
fault_of_store (store.Long size limit) = Long size limit
fault_of_store store.Memory = Memory
