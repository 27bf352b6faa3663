-- What whole runs take is as judging has it, whatever a crash leaves.
use Rattle.std.proofs.Common.{◌≡◌, ℕ, List, [], ◌∷◌, ◌++◌, Result}
use Rattle.std.specs.Prelude.{IsTrue}
use Rattle.std.specs.List.{AllByRecursion}
use Rattle.sr_ast.specs.declared.stmt.Stmt.{Stmt}
use Rattle.sr_book.specs.Entries.{Name, local}
use Rattle.sr_database.specs.Databases.{IsDatabase}
use Rattle.sr_database.specs.Views.{View}
use Rattle.sr_database_history.specs.Folds.{State, fresh, next, sees, state_from, state_of}
use Rattle.sr_database_history.specs.Recorded.{Recorded, own, taken, ddl, sync, pass, note}
use Rattle.sr_session_script.specs.Acts.{entries_of}
use Rattle.sr_session.specs.Runs.{RanScript}
use Rattle.sr_session.specs.declared.fault.SessionFault.{SessionFault}
use Rattle.sr_site.specs.Causes.{Stays}
use Rattle.sr_site.specs.Files.{Files}
use Rattle.sr_site.specs.Images.{IsImage, RestsThroughout}
use Rattle.sr_site.specs.Seen.{Seen}
use Rattle.sr_site.specs.Streams.{Output}
use Rattle.sr_agent.specs.Agents.{RanAgent}
use Rattle.sr_agent.specs.declared.fault.AgentFault.{AgentFault}
use Rattle.sr_agent.specs.declared.options.Options.{Options}
use Rattle.sr_world_prefix.specs.Decided.{AreDecided, IsDecided, KeepsDecided, StandDecided}
use Rattle.sr_world_prefix.proofs.Along.{Along}
use Rattle.sr_world_prefix.proofs.Holding.{StandsHolding, agent_holds, script_holds, untouched_holds}
use Rattle.sr_world_prefix.proofs.OwnActs.{script_locals}
use Rattle.sr_world_prefix.proofs.Steps.{IsRunStep}

decided_more : (s : State) (rs : List Recorded) (r : Recorded) → AreDecided s rs → IsDecided (state_from s rs) r → AreDecided s (rs ++ r ∷ [])
decided_more s [] r decided is = (is, tt)
decided_more s (q ∷ rs) r decided is = (decided.0, decided_more (next s q) rs r decided.1 is)

step_decided : (publisher : Name) (es : List Recorded) (r : Recorded) → IsRunStep publisher es r → IsDecided (state_of publisher es) r
step_decided publisher es (own changes) is = tt
step_decided publisher es (taken user at dones) is = is.0
step_decided publisher es (ddl statement) is = tt
step_decided publisher es (sync user tables) is = tt
step_decided publisher es (pass users only statement changes) is = tt
step_decided publisher es (note user what) is = tt

-- what a database does by itself takes nothing
local_decided : (s : State) (r : Recorded) → sees r ≡ local → IsDecided s r
local_decided s (own changes) is = tt
local_decided s (taken user at dones) is = absurd (cc)
local_decided s (ddl statement) is = tt
local_decided s (sync user tables) is = tt
local_decided s (pass users only statement changes) is = tt
local_decided s (note user what) is = tt

module _ (publisher : Name) where
  abbrev Decided : List Recorded → Type 0
  Decided es = AreDecided (fresh publisher) es

  locals_decided : (es rs : List Recorded) → Decided es → AllByRecursion (λ r. sees r ≡ local) rs → Along Decided es rs
  locals_decided es [] decided locals = decided
  locals_decided es (r ∷ rs) decided locals =
      (decided, locals_decided (es ++ r ∷ []) rs (decided_more (fresh publisher) es r decided (local_decided (state_of publisher es) r locals.0)) locals.1)

  -- ---- whole runs

  abbrev DecidedAt : ℕ → List Recorded → Type 0
  DecidedAt base = Decided

  into : (image : Files) → StandsHolding publisher DecidedAt image → StandDecided publisher image
  into image s = record { es = s.es; stands = record { base = s.base; stands = s.stands }; decided = s.held }

  out : (image : Files) → StandDecided publisher image → StandsHolding publisher DecidedAt image
  out image s = record { es = s.es; base = s.stands.base; stands = s.stands.stands; held = s.decided }

  pub untouched_decided : (before now : Seen) → RestsThroughout (IsImage before) before now → KeepsDecided publisher before now
  untouched_decided = untouched_holds publisher DecidedAt (StandDecided publisher) into out

  pub agent_decided : (owner : Name) (es : List Recorded) (options : Options) (view new : View) (before opened now : Seen) (written written' : Output) (result : Result ℕ AgentFault)
      → IsTrue before.observable → Stays before now → RestsThroughout (IsImage before) before opened → IsDatabase view owner es opened
      → RanAgent view new opened now written written' options result → KeepsDecided publisher before now
  agent_decided =
      agent_holds publisher DecidedAt (StandDecided publisher) into out (λ base es r decided is. decided_more (fresh publisher) es r decided (step_decided publisher es r is)) (λ base es stored decided. decided)

  pub script_decided : (owner : Name) (es : List Recorded) (view new : View) (before opened now : Seen) (written written' : Output) (statements : List Stmt) (result : Result ℕ SessionFault)
      → IsTrue before.observable → Stays before now → RestsThroughout (IsImage before) before opened → IsDatabase view owner es opened
      → RanScript view new opened now written written' statements result → KeepsDecided publisher before now
  script_decided owner es view new before opened now written written' statements result told stays still database ran =
      script_holds publisher DecidedAt (StandDecided publisher) into out owner es view new before opened now written written' statements result told stays still database ran
      (λ there own_view decided. locals_decided there (entries_of ran.acts ++ ran.broken) decided (script_locals view new opened now written written' statements result ran))
