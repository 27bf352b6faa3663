-- What a run does, by its words.
use Rattle.std.specs.Prelude.{◌≡◌, ◌⊎◌, ⊤, ℕ, Option, Some, None}
use Rattle.sr_database_files.specs.declared.fault.DatabaseFault.TheVariants.{Memory}
use Rattle.sr_site.specs.Causes.{Rose}
use Rattle.dbremote_command.specs.CaughtUp as caught
use Rattle.dbremote_command.specs.Complete as complete
use Rattle.dbremote_command.specs.Outside.{Outside}
use Rattle.dbremote_command.specs.Runs.{IsRefused, RanOrder}
use Rattle.dbremote_command.specs.Runs as command
use Rattle.dbremote_command.specs.declared.fault.Fault.TheVariants.{Words, Database}
use Rattle.dbremote_demo.specs.Demonstrations.{Demonstrated, EndedInside, ShownAll}
use Rattle.dbremote_words.specs.declared.asked.Asked.{Asked}
use Rattle.dbremote_words.specs.declared.asked.Asked.TheVariants.{Demo, Order}

-- the demonstration was made: nothing happened at the site, and nothing was read
pub record RanDemo (seed statements : ℕ) (old new : Outside) (status : ℕ) : Type 0 where
  pub site : new.site ≡ old.site
  pub input : new.input ≡ old.input
  pub demonstrated : Demonstrated seed statements old.output new.output status

-- what was asked for is done
abbrev pub RanAsked : Asked → Outside → Outside → ℕ → Type 0
RanAsked (Order order) old new status = RanOrder order old new status
RanAsked (Demo seed statements) old new status = RanDemo seed statements old new status

-- words that ask for nothing are refused; what they ask for is done, where there is memory for them
abbrev pub RanProgram : Option Asked → Outside → Outside → ℕ → Type 0
RanProgram None old new status = IsRefused Words old new status ⊎ IsRefused (Database Memory) old new status
RanProgram (Some asked) old new status = RanAsked asked old new status ⊎ IsRefused (Database Memory) old new status

-- the words asked for a run of the agent, which went to its end and told of something amiss
abbrev pub HasAlarms : Option Asked → Outside → Outside → Type 0
HasAlarms None old new = ⊥
HasAlarms (Some (Order order)) old new = command.HasAlarms order old new
HasAlarms (Some (Demo seed statements)) old new = ⊥

-- the count of the mail's faults rose; or the words asked for the demonstration, and it did so within it, on the mail that it holds in memory
abbrev pub HasMailFault : Option Asked → Outside → Outside → Type 0
HasMailFault None old new = Rose old.site.mail_faults new.site.mail_faults
HasMailFault (Some (Order order)) old new = Rose old.site.mail_faults new.site.mail_faults
HasMailFault (Some (Demo seed statements)) old new = EndedInside seed statements old.output new.output 6

-- the demonstration showed all, or a run inside it ended it, or there was no memory
pub data IsShown (seed statements : ℕ) (old new : Outside) (status : ℕ) : Type 0 where
  whole : ShownAll seed statements old.output new.output status → IsShown seed statements old new status
  stopped : EndedInside seed statements old.output new.output status → IsShown seed statements old new status
  no_memory : status ≡ 8 → IsShown seed statements old new status

-- where nothing stands in the way of what the words ask for, it is done
abbrev pub IsComplete : Option Asked → Outside → Outside → ℕ → Type 0
IsComplete None old new status = ⊤
IsComplete (Some (Order order)) old new status = complete.IsComplete order old new status
IsComplete (Some (Demo seed statements)) old new status = complete.NoneFailed old new → IsShown seed statements old new status

-- where the words asked for a run of the agent with a receive pass, and it went to its end, each partner is caught up
abbrev pub CatchesUp : Option Asked → Outside → Outside → ℕ → Type 0
CatchesUp None old new status = ⊤
CatchesUp (Some (Order order)) old new status = caught.CatchesUp order old new status
CatchesUp (Some (Demo seed statements)) old new status = ⊤
