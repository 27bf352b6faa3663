-- How a run ends, from how its steps do.
use Rattle.std.proofs.Common.{◌≡◌, ℕ, List, [], ◌++◌, refl, inl, inr}
use Rattle.std.specs.Prelude.{◌≢◌, ◌⊎◌, IsTrue}
use Rattle.sr_agent.specs.declared.options.Options.{Options}
use Rattle.sr_book.specs.Entries.{Name}
use Rattle.sr_database_files.specs.declared.fault.DatabaseFault.TheVariants.{Memory}
use Rattle.sr_site.specs.Causes.{DiskStays}
use Rattle.sr_site.specs.Seen.{Seen}
use Rattle.sr_site.specs.Streams.{Input, Output, OutputStays}
use Rattle.dbremote_command.specs.Agents.{AgentStopped}
use Rattle.dbremote_command.specs.Inner.Agents.{AgentRanSome}
use Rattle.dbremote_command.specs.Faults.{fault_line, status_of}
use Rattle.dbremote_command.specs.Making.{created_line, IsGuarded, IsMade, MakeCause}
use Rattle.dbremote_command.specs.Outside.{outside, IsAttachTried, IsAttachTriedForHistory}
use Rattle.dbremote_command.specs.Reports.{HasNumbers, Wrote}
use Rattle.dbremote_command.specs.Running.{IsUntouched, RanWhole, Stopped}
use Rattle.dbremote_command.specs.Runs.{Told, RanInit, RanSql, RanShow, RanAgentOrder, IsRefused}
use Rattle.dbremote_command.specs.Showing.{HasShown, ShowCause}
use Rattle.dbremote_command.specs.declared.fault.Fault.{Fault}
use Rattle.dbremote_command.specs.declared.fault.Fault.TheVariants.{Database}

pub told_as : (fault told : Fault) (between now : Output) (status : ℕ) → (told ≡ fault) ⊎ ((told ≡ Database Memory) × HasNumbers fault) → status ≡ status_of told
    → (IsTrue between.observable → Wrote (fault_line told) between now) → OutputStays between now → Told fault between now status
told_as fault told between now status is of written stays = record { told = told; told_is = is; status_is = of; written = written; stays = stays }

module _ (name : List ℕ) (user : Name) (before after : Seen) (input : Input) (old new : Output) (tried : IsAttachTried name [] before after) (mail : DiskStays before after) (guarded : IsGuarded user before after) where
  pub init_made : IsMade name user before after → (IsTrue old.observable → new.taken ≡ old.taken ++ created_line user) → new.faults ≡ old.faults
      → RanInit name user (outside before input old) (outside after input new) 0
  init_made made said steady = record { tried = tried; no_mail = mail; guarded = guarded; input = refl; ended = inl (record { status_is = refl; made = made; said = said; steady = steady }) }

  pub init_ended : (fault : Fault) (between : Output) (status : ℕ) → MakeCause name user before after old between fault → Told fault between new status
      → RanInit name user (outside before input old) (outside after input new) status
  init_ended fault between status cause told =
      record { tried = tried; no_mail = mail; guarded = guarded; input = refl; ended = inr (record { fault = fault; between = between; stopped = cause; line = told }) }

module _ (name : List ℕ) (before after : Seen) (input left : Input) (old new : Output) (tried : IsAttachTried name [] before after) (mail : DiskStays before after) where
  pub sql_done : RanWhole name (outside before input old) (outside after left new) → RanSql name (outside before input old) (outside after left new) 0
  sql_done whole = record { tried = tried; no_mail = mail; ended = inl (record { status_is = refl; ran = whole }) }

  pub sql_ended : (fault : Fault) (between : Output) (status : ℕ) → Stopped name (outside before input old) (outside after left between) fault → Told fault between new status
      → RanSql name (outside before input old) (outside after left new) status
  sql_ended fault between status stopped told = record { tried = tried; no_mail = mail; ended = inr (record { fault = fault; between = between; stopped = stopped; line = told }) }

module _ (name mail : List ℕ) (options : Options) (before after : Seen) (input : Input) (old new : Output) (tried : IsAttachTriedForHistory name mail before after) where
  pub agent_done : (status count : ℕ) → AgentRanSome name mail options (outside before input old) (outside after input new) count → (count ≡ 0 → status ≡ 0) → (count ≢ 0 → status ≡ 1)
      → RanAgentOrder name mail options (outside before input old) (outside after input new) status
  agent_done status count ran none some = record { tried = tried; input = refl; ended = inl (record { count = count; ran = ran; none = none; some = some }) }

  pub agent_ended : (fault : Fault) (between : Output) (status : ℕ) → AgentStopped name mail options (outside before input old) (outside after input between) fault → Told fault between new status
      → RanAgentOrder name mail options (outside before input old) (outside after input new) status
  agent_ended fault between status stops told = record { tried = tried; input = refl; ended = inr (record { fault = fault; between = between; stopped = stops; line = told }) }

module _ (name : List ℕ) (before after : Seen) (input : Input) (old new : Output) (tried : IsAttachTried name [] before after) (mail : DiskStays before after) (untouched : IsUntouched before after) where
  pub show_done : HasShown name before after old new → RanShow name (outside before input old) (outside after input new) 0
  show_done shown = record { tried = tried; no_mail = mail; untouched = untouched; input = refl; ended = inl (record { status_is = refl; shown = shown }) }

  pub show_ended : (fault : Fault) (between : Output) (status : ℕ) → ShowCause name before after old between fault → Told fault between new status
      → RanShow name (outside before input old) (outside after input new) status
  show_ended fault between status cause told =
      record { tried = tried; no_mail = mail; untouched = untouched; input = refl; ended = inr (record { fault = fault; between = between; stopped = cause; line = told }) }

-- nothing was touched but the output
pub is_refused : (fault : Fault) (site : Seen) (input : Input) (old new : Output) (status : ℕ) → Told fault old new status → IsRefused fault (outside site input old) (outside site input new) status
is_refused fault site input old new status told = record { site = refl; input = refl; line = told }
