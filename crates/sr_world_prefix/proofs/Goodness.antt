-- Good histories stay good in whole runs, whatever a crash leaves.
use Rattle.std.proofs.Common.{ℕ, List, [], ◌∷◌, ◌++◌, Result, le_refl}
use Rattle.std.specs.Prelude.{IsTrue}
use Rattle.sr_ast.specs.declared.stmt.Stmt.{Stmt}
use Rattle.sr_book.specs.Entries.{Name}
use Rattle.sr_database.specs.Databases.{IsDatabase}
use Rattle.sr_database.specs.Views.{View}
use Rattle.sr_database_history.specs.Fitting.{Stored}
use Rattle.sr_database_history.specs.Folds.{State, fresh, next, state_from, state_of}
use Rattle.sr_database_history.specs.Recorded.{Recorded, own, taken, ddl, sync, pass, note}
use Rattle.sr_send_needs.specs.Needs.{least_need}
use Rattle.sr_session_script.specs.Acts.{entries_of}
use Rattle.sr_session.specs.Runs.{RanScript}
use Rattle.sr_session.specs.declared.fault.SessionFault.{SessionFault}
use Rattle.sr_site.specs.Causes.{Stays}
use Rattle.sr_site.specs.Files.{Files}
use Rattle.sr_site.specs.Images.{IsImage, RestsThroughout}
use Rattle.sr_site.specs.Seen.{Seen}
use Rattle.sr_site.specs.Streams.{Output}
use Rattle.sr_agent.specs.Agents.{RanAgent}
use Rattle.sr_agent.specs.declared.fault.AgentFault.{AgentFault}
use Rattle.sr_agent.specs.declared.options.Options.{Options}
use Rattle.sr_world.specs.Lawful.{SaysSo}
use Rattle.sr_world_prefix.specs.Good.{AreSaid, IsGoodHistory, KeepsGood, StandGood}
use Rattle.sr_world_prefix.proofs.Along.{steps_along}
use Rattle.sr_world_prefix.proofs.Holding.{StandsHolding, agent_holds, script_holds, untouched_holds}
use Rattle.sr_world_prefix.proofs.InOrder.{local_in_order, step_in_order}
use Rattle.sr_world_prefix.proofs.Kept.{IsKeeping, keeping_more, keeping_moved, keeping_own, stands_keeping}
use Rattle.sr_world_prefix.proofs.Said.{script_says_so}
use Rattle.sr_world_prefix.proofs.Steps.{IsOwnStep, IsRunStep}

pub said_more : (s : State) (rs : List Recorded) (r : Recorded) → AreSaid s rs → SaysSo (state_from s rs) r → AreSaid s (rs ++ r ∷ [])
said_more s [] r said is = (is, tt)
said_more s (q ∷ rs) r said is = (said.0, said_more (next s q) rs r said.1 is)

pub step_says_so : (publisher : Name) (es : List Recorded) (r : Recorded) → IsRunStep publisher es r → SaysSo (state_of publisher es) r
step_says_so publisher es (own changes) is = tt
step_says_so publisher es (taken user at dones) is = is.0
step_says_so publisher es (ddl statement) is = tt
step_says_so publisher es (sync user tables) is = absurd is
step_says_so publisher es (pass users only statement changes) is = absurd is
step_says_so publisher es (note user what) is = tt

-- a new database
pub new_good : (publisher : Name) → IsGoodHistory publisher []
new_good publisher = record {
  says_so = tt;
  books = λ user. record { confirmed_sent = le_refl 0; sent_stands = le_refl 0; confirmed_received = le_refl 0; asks_rise = tt };
}

module _ (publisher : Name) where
  step_good : (es : List Recorded) (r : Recorded) → IsGoodHistory publisher es → IsRunStep publisher es r → IsGoodHistory publisher (es ++ r ∷ [])
  step_good es r good is = record {
    says_so = said_more (fresh publisher) es r good.says_so (step_says_so publisher es r is);
    books = λ user. step_in_order user es (good.books user) publisher r is;
  }

  own_good : (es : List Recorded) (r : Recorded) → IsGoodHistory publisher es → IsOwnStep publisher es r → IsGoodHistory publisher (es ++ r ∷ [])
  own_good es r good is = record {
    says_so = said_more (fresh publisher) es r good.says_so is.1;
    books = λ user. local_in_order user es (good.books user) r is.0;
  }

  -- ---- whole runs

  -- a good history, of which the log keeps what is needed
  record IsGoodAt (base : ℕ) (es : List Recorded) : Type 0 where
    good : IsGoodHistory publisher es
    keeping : IsKeeping publisher base es

  into : (image : Files) → StandsHolding publisher IsGoodAt image → StandGood publisher image
  into image s = record { es = s.es; stands = record { base = s.base; stands = s.stands; needs = s.held.keeping.needs }; good = s.held.good }

  out : (image : Files) → StandGood publisher image → StandsHolding publisher IsGoodAt image
  out image s = record {
    es = s.es;
    base = s.stands.base;
    stands = s.stands.stands;
    held = record { good = s.good; keeping = stands_keeping publisher s.es image s.stands s.good.books };
  }

  step_at : (base : ℕ) (es : List Recorded) (r : Recorded) → IsGoodAt base es → IsRunStep publisher es r → IsGoodAt base (es ++ r ∷ [])
  step_at base es r at is = record { good = step_good es r at.good is; keeping = keeping_more publisher base es r at.keeping is }

  own_at : (base : ℕ) (es : List Recorded) (r : Recorded) → IsGoodAt base es → IsOwnStep publisher es r → IsGoodAt base (es ++ r ∷ [])
  own_at base es r at is = record { good = own_good es r at.good is; keeping = keeping_own publisher base es r at.keeping is }

  -- a log that begins where the least need lies goes on to keep what is needed
  moved_at : (base : ℕ) (es : List Recorded) → Stored publisher es → IsGoodAt base es → IsGoodAt (least_need publisher es base) es
  moved_at base es stored at = record { good = at.good; keeping = keeping_moved publisher base es stored at.keeping }

  pub untouched_good : (before now : Seen) → RestsThroughout (IsImage before) before now → KeepsGood publisher before now
  untouched_good = untouched_holds publisher IsGoodAt (StandGood publisher) into out

  pub agent_good : (owner : Name) (es : List Recorded) (options : Options) (view new : View) (before opened now : Seen) (written written' : Output) (result : Result ℕ AgentFault)
      → IsTrue before.observable → Stays before now → RestsThroughout (IsImage before) before opened → IsDatabase view owner es opened
      → RanAgent view new opened now written written' options result → KeepsGood publisher before now
  agent_good = agent_holds publisher IsGoodAt (StandGood publisher) into out step_at moved_at

  pub script_good : (owner : Name) (es : List Recorded) (view new : View) (before opened now : Seen) (written written' : Output) (statements : List Stmt) (result : Result ℕ SessionFault)
      → IsTrue before.observable → Stays before now → RestsThroughout (IsImage before) before opened → IsDatabase view owner es opened
      → RanScript view new opened now written written' statements result → KeepsGood publisher before now
  script_good owner es view new before opened now written written' statements result told stays still database ran =
      script_holds publisher IsGoodAt (StandGood publisher) into out owner es view new before opened now written written' statements result told stays still database ran
      (λ there own_view good. steps_along (IsOwnStep publisher) (IsGoodAt view.log.base) (own_at view.log.base) there (entries_of ran.acts ++ ran.broken) good
      (script_says_so publisher there view new opened now written written' statements result own_view ran))
