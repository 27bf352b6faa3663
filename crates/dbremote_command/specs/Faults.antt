-- The line of the fault that ended a run, and the run's status.
use Rattle.std.specs.Prelude.{ℕ, List, ◌∷◌, ◌++◌, codes}
use Rattle.std.specs.Fmt.{decimal}
use Rattle.sr_agent.specs.declared.fault.AgentFault.{AgentFault}
use Rattle.sr_agent.specs.declared.fault.AgentFault.TheVariants as agent
use Rattle.sr_database_files.specs.declared.fault.DatabaseFault.{DatabaseFault}
use Rattle.sr_database_files.specs.declared.fault.DatabaseFault.TheVariants.{Missing, Exists, Damaged, Disk, Full, Long, Memory}
use Rattle.sr_catalog_schema.specs.declared.fault.DdlFault.{DdlFault}
use Rattle.sr_catalog_schema.specs.declared.fault.DdlFault.TheVariants as ddl
use Rattle.sr_session_script.specs.Acts.{line}
use Rattle.sr_session_script.specs.Refusals.{refusal_line}
use Rattle.sr_session_script.specs.declared.refusal.Refusal.{Refusal}
use Rattle.sr_session_script.specs.declared.refusal.Refusal.TheVariants.{Ddl, Dml}
use Rattle.sr_site.specs.declared.file.File.{File}
use Rattle.sr_site.specs.declared.file.File.TheVariants.{Root, Log0, Log1, Snap0, Snap1}
use Rattle.dbremote_command.specs.declared.fault.Fault.{Fault}
use Rattle.dbremote_command.specs.declared.fault.Fault.TheVariants.{Words, Database, Source, TooLong, Script, Statement, Sink, Mail}

-- the name of a file in a line
abbrev pub file_text : File → List ℕ
file_text Root = codes "root"
file_text Log0 = codes "log0"
file_text Log1 = codes "log1"
file_text Snap0 = codes "snap0"
file_text Snap1 = codes "snap1"

-- two numbers, with a blank between them
abbrev pub numbers : ℕ → ℕ → List ℕ
numbers first second = decimal first ++ 32 ∷ decimal second

-- what a database's fault says
abbrev pub database_text : DatabaseFault → List ℕ
database_text Missing = codes "database missing"
database_text Exists = codes "database exists"
database_text (Damaged file at) = codes "database damaged " ++ file_text file ++ 32 ∷ decimal at
database_text Disk = codes "disk fault"
database_text (Full end need) = codes "full " ++ numbers end need
database_text (Long size limit) = codes "too long " ++ numbers size limit
database_text Memory = codes "out of memory"

-- the line of a fault
abbrev pub fault_line : Fault → List ℕ
fault_line Words = line (codes "words refused")
fault_line (Database fault) = line (database_text fault)
fault_line Source = line (codes "source fault")
fault_line TooLong = line (codes "script too long")
fault_line (Script at) = line (codes "script refused at byte " ++ decimal at)
fault_line (Statement number fault) = refusal_line number fault
fault_line Sink = line (codes "sink fault")
fault_line Mail = line (codes "mail fault")

-- the exit status of a database's fault
abbrev pub database_status : DatabaseFault → ℕ
database_status Missing = 3
database_status Exists = 3
database_status (Damaged file at) = 3
database_status Disk = 5
database_status (Full end need) = 9
database_status (Long size limit) = 9
database_status Memory = 8

-- the exit status of a statement that is refused: a limit has its own
abbrev pub ddl_status : DdlFault → ℕ
ddl_status (ddl.Exists name) = 4
ddl_status (ddl.Missing name) = 4
ddl_status (ddl.BadType name) = 4
ddl_status (ddl.NoKey table) = 4
ddl_status (ddl.KeyNotInArticle table column) = 4
ddl_status (ddl.TwiceSubscribed user table) = 4
ddl_status (ddl.InUse name) = 4
ddl_status (ddl.TooMany limit) = 9
ddl_status ddl.Memory = 8

abbrev pub refusal_status : Refusal → ℕ
refusal_status (Ddl fault) = ddl_status fault
refusal_status (Dml fault) = 4

-- the exit status of a run that a fault ended
abbrev pub status_of : Fault → ℕ
status_of Words = 2
status_of (Database fault) = database_status fault
status_of Source = 7
status_of TooLong = 9
status_of (Script at) = 4
status_of (Statement number fault) = refusal_status fault
status_of Sink = 7
status_of Mail = 6

-- the fault of a run of the agent
abbrev pub fault_of_agent : AgentFault → Fault
fault_of_agent agent.Disk = Database Disk
fault_of_agent agent.Mail = Mail
fault_of_agent agent.Sink = Sink
fault_of_agent (agent.Full end need) = Database (Full end need)
fault_of_agent (agent.Long size limit) = Database (Long size limit)
fault_of_agent agent.Memory = Database Memory
