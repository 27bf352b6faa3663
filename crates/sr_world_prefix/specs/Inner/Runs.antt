-- Where the agent ran, and where a script did: of which runs a law speaks.
-- Here is what no contract of the program says by itself.
use Rattle.std.specs.Prelude.{ℕ, IsTrue, List, Result}
use Rattle.sr_agent.specs.Agents.{Did, RanAgent}
use Rattle.sr_agent.specs.Lines.{Line}
use Rattle.sr_agent.specs.declared.fault.AgentFault.{AgentFault}
use Rattle.sr_agent.specs.declared.options.Options.{Options}
use Rattle.sr_ast.specs.declared.stmt.Stmt.{Stmt}
use Rattle.sr_book.specs.Entries.{Name}
use Rattle.sr_database.specs.Databases.{IsDatabase}
use Rattle.sr_database.specs.Views.{View}
use Rattle.sr_database_history.specs.Recorded.{Recorded}
use Rattle.sr_session.specs.Runs.{RanScript}
use Rattle.sr_session.specs.declared.fault.SessionFault.{SessionFault}
use Rattle.sr_site.specs.Causes.{DiskStays, Stays}
use Rattle.sr_site.specs.Images.{IsImage, RestsThroughout}
use Rattle.sr_site.specs.Seen.{Seen}
use Rattle.sr_site.specs.Streams.{Output}

-- ---- on a database that stands open: its name, its history, and the moments between which the run was

-- it is so wherever the agent was at work, to its end or to the fault that ended it
abbrev pub WhereTheAgentDid : (Name → List Recorded → Seen → Seen → Type 0) → Type 0
WhereTheAgentDid IsSo = (publisher : Name) (es : List Recorded) (options : Options) (base : ℕ) (new : View) (before now : Seen) (written written' : Output)
    (lines : List Line) (result : Result ℕ AgentFault)
    → Did base new before now written written' publisher es options lines result → IsSo publisher es before now

-- the same, where it is so of the offset, too, at which the log of the database begins
abbrev pub WhereTheAgentDidAt : (ℕ → Name → List Recorded → Seen → Seen → Type 0) → Type 0
WhereTheAgentDidAt IsSo = (publisher : Name) (es : List Recorded) (options : Options) (base : ℕ) (new : View) (before now : Seen) (written written' : Output)
    (lines : List Line) (result : Result ℕ AgentFault)
    → Did base new before now written written' publisher es options lines result → IsSo base publisher es before now

-- it is so wherever a script ran on a database that told what it holds
abbrev pub WhereAScriptDid : (Name → List Recorded → Seen → Seen → Type 0) → Type 0
WhereAScriptDid IsSo = (publisher : Name) (es : List Recorded) (old new : View) (before now : Seen) (written written' : Output)
    (statements : List Stmt) (result : Result ℕ SessionFault)
    → IsTrue before.observable → IsDatabase old publisher es before → RanScript old new before now written written' statements result
    → IsSo publisher es before now

-- ---- from the moment at which nothing was opened yet: any name, and the moments between which the run was

-- it is so of every name wherever a database was opened and the agent ran on it, to its end or to the fault that ended it. While it was opened, a crash left
-- what it could have left before
abbrev pub WhereTheAgentRan : (Name → Seen → Seen → Type 0) → Type 0
WhereTheAgentRan IsSo = (publisher owner : Name) (es : List Recorded) (options : Options) (view new : View) (before opened now : Seen)
    (written written' : Output) (result : Result ℕ AgentFault)
    → IsTrue before.observable → Stays before now → RestsThroughout (IsImage before) before opened → IsDatabase view owner es opened
    → RanAgent view new opened now written written' options result → IsSo publisher before now

-- and wherever one was opened so and a script ran on it
abbrev pub WhereAScriptRan : (Name → Seen → Seen → Type 0) → Type 0
WhereAScriptRan IsSo = (publisher owner : Name) (es : List Recorded) (view new : View) (before opened now : Seen) (written written' : Output)
    (statements : List Stmt) (result : Result ℕ SessionFault)
    → IsTrue before.observable → Stays before now → RestsThroughout (IsImage before) before opened → IsDatabase view owner es opened
    → RanScript view new opened now written written' statements result → IsSo publisher before now

-- the same of the agent, where the mail too was left alone while the database was opened
abbrev pub WhereTheAgentRanFromQuiet : (Name → Seen → Seen → Type 0) → Type 0
WhereTheAgentRanFromQuiet IsSo = (publisher owner : Name) (es : List Recorded) (options : Options) (view new : View) (before opened now : Seen)
    (written written' : Output) (result : Result ℕ AgentFault)
    → IsTrue before.observable → Stays before now → RestsThroughout (IsImage before) before opened → DiskStays before opened → IsDatabase view owner es opened
    → RanAgent view new opened now written written' options result → IsSo publisher before now

-- and of a script
abbrev pub WhereAScriptRanFromQuiet : (Name → Seen → Seen → Type 0) → Type 0
WhereAScriptRanFromQuiet IsSo = (publisher owner : Name) (es : List Recorded) (view new : View) (before opened now : Seen) (written written' : Output)
    (statements : List Stmt) (result : Result ℕ SessionFault)
    → IsTrue before.observable → Stays before now → RestsThroughout (IsImage before) before opened → DiskStays before opened → IsDatabase view owner es opened
    → RanScript view new opened now written written' statements result → IsSo publisher before now
