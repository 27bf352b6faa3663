-- The faults of what a pass stands on, as its own.
use Rattle.std.specs.Prelude.{◌≡◌, ⊤, Option, None, Result, Ok, Err}
use Rattle.sr_logform.specs.Limits.{longest_transaction}
use Rattle.sr_mail_cut.specs.declared.too_long.TooLong.{TooLong}
use Rattle.sr_mail_cut.specs.declared.too_long.TooLong.TheVariants as long
use Rattle.sr_database_files.specs.declared.fault.DatabaseFault.{DatabaseFault}
use Rattle.sr_database_files.specs.declared.fault.DatabaseFault.TheVariants as store
use Rattle.sr_site.specs.declared.mail.MailFault.{MailFault}
use Rattle.sr_site.specs.declared.mail.MailFault.TheVariants as mail
use Rattle.sr_send.specs.declared.fault.SendFault.{SendFault}
use Rattle.sr_send.specs.declared.fault.SendFault.TheVariants.{Disk, Mail, Long, Memory}

abbrev pub fault_of_mail : MailFault → SendFault
fault_of_mail mail.Failed = Mail
fault_of_mail mail.Memory = Memory

-- an encoding that is longer than 64 MiB
abbrev pub fault_of_cut : TooLong → SendFault
fault_of_cut (long.Transaction need) = Long need longest_transaction
fault_of_cut long.Memory = Memory

-- what a read of an open log may be refused with: its database is not missing or there, and nothing is written
abbrev pub IsReadRefusal : DatabaseFault → Type 0
IsReadRefusal store.Missing = ⊥
IsReadRefusal store.Exists = ⊥
IsReadRefusal (store.Damaged file at) = ⊤
IsReadRefusal store.Disk = ⊤
IsReadRefusal (store.Full end need) = ⊥
IsReadRefusal (store.Long size limit) = ⊥
IsReadRefusal store.Memory = ⊤

-- what was read after an offset of it, as a pass takes it: where a record reads as damaged the log ends, and memory is wanting only where it was
abbrev pub IsFoundOrEnd : {T : Type 0} → Result (Option T) DatabaseFault → Result (Option T) SendFault → Type 0
IsFoundOrEnd (Ok found) answer = answer ≡ Ok found
IsFoundOrEnd (Err store.Missing) answer = ⊥
IsFoundOrEnd (Err store.Exists) answer = ⊥
IsFoundOrEnd (Err (store.Damaged file at)) answer = answer ≡ Ok None
IsFoundOrEnd (Err store.Disk) answer = answer ≡ Err Disk
IsFoundOrEnd (Err (store.Full end need)) answer = ⊥
IsFoundOrEnd (Err (store.Long size limit)) answer = ⊥
IsFoundOrEnd (Err store.Memory) answer = answer ≡ Err Memory
