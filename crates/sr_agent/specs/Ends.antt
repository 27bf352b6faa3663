-- How a run, or a step of one, ends: what was written, what the counts of faults tell, and what is left of the database.
use Rattle.std.specs.Prelude.{◌≡◌, ⊤, ℕ, true, List, [], ◌++◌, IsTrue, Result, Ok, Err}
use Rattle.sr_database.specs.Views.{View}
use Rattle.sr_session.specs.Said.{IsPrefix, WrotePrefix}
use Rattle.sr_site.specs.Causes.{Rose, Stays}
use Rattle.sr_site.specs.Seen.{Seen}
use Rattle.sr_site.specs.Streams.{Output, OutputStays}
use Rattle.sr_agent.specs.Lines.{Line, lines_text}
use Rattle.sr_agent.specs.declared.fault.AgentFault.{AgentFault}
use Rattle.sr_agent.specs.declared.fault.AgentFault.TheVariants.{Disk, Mail, Sink, Full, Long, Memory}

-- all of a text was written; a prefix of it where the sink failed
abbrev pub Wrote : List ℕ → List ℕ → List ℕ → Result ℕ AgentFault → Type 0
Wrote said old new (Ok count) = new ≡ old ++ said
Wrote said old new (Err Disk) = new ≡ old ++ said
Wrote said old new (Err Mail) = new ≡ old ++ said
Wrote said old new (Err Sink) = WrotePrefix said old new
Wrote said old new (Err (Full end need)) = new ≡ old ++ said
Wrote said old new (Err (Long size limit)) = new ≡ old ++ said
Wrote said old new (Err Memory) = new ≡ old ++ said

-- after what was written before, these lines were written whole, whatever came after them
abbrev pub HasTold : List Line → Output → Output → Type 0
HasTold lines written written' = IsTrue written.observable → IsPrefix (written.taken ++ lines_text lines) written'.taken

-- a fault of the disk or of the mail comes only where its count rose, and then no other count did; at a limit and where memory was wanting no
-- count rose, nor where no fault came. Where the sink failed, a device may have failed before: what was done until then could not be told
abbrev pub CountEnd : Seen → Seen → Output → Output → Result ℕ AgentFault → Type 0
CountEnd before now written written' (Ok count) =
    (now.disk_faults ≡ before.disk_faults) × (now.mail_faults ≡ before.mail_faults) × (written'.faults ≡ written.faults)
CountEnd before now written written' (Err Disk) =
    Rose before.disk_faults now.disk_faults × (now.mail_faults ≡ before.mail_faults) × (written'.faults ≡ written.faults)
CountEnd before now written written' (Err Mail) =
    Rose before.mail_faults now.mail_faults × (now.disk_faults ≡ before.disk_faults) × (written'.faults ≡ written.faults)
CountEnd before now written written' (Err Sink) = Rose written.faults written'.faults
CountEnd before now written written' (Err (Full end need)) =
    (now.disk_faults ≡ before.disk_faults) × (now.mail_faults ≡ before.mail_faults) × (written'.faults ≡ written.faults)
CountEnd before now written written' (Err (Long size limit)) =
    (now.disk_faults ≡ before.disk_faults) × (now.mail_faults ≡ before.mail_faults) × (written'.faults ≡ written.faults)
CountEnd before now written written' (Err Memory) =
    (now.disk_faults ≡ before.disk_faults) × (now.mail_faults ≡ before.mail_faults) × (written'.faults ≡ written.faults)

-- the database can be used again, unless the disk refused; that is not told where the sink then failed
abbrev pub IsUsableEnd : View → Result ℕ AgentFault → Type 0
IsUsableEnd new (Ok count) = new.log.usable ≡ true
IsUsableEnd new (Err Disk) = ⊤
IsUsableEnd new (Err Mail) = new.log.usable ≡ true
IsUsableEnd new (Err Sink) = ⊤
IsUsableEnd new (Err (Full end need)) = new.log.usable ≡ true
IsUsableEnd new (Err (Long size limit)) = new.log.usable ≡ true
IsUsableEnd new (Err Memory) = new.log.usable ≡ true

-- what is so of any end, where these are the lines of what was done
pub record Ended (new : View) (before now : Seen) (written written' : Output) (lines : List Line) (result : Result ℕ AgentFault) : Type 0 where
  pub wrote : IsTrue written.observable → Wrote (lines_text lines) written.taken written'.taken result
  pub counts : CountEnd before now written written' result
  pub usable : IsUsableEnd new result
  pub pending : new.pending ≡ []
  pub site : Stays before now
  pub sink : OutputStays written written'
