-- How a run ends that nothing stands in the way of, from what its words ask for.
use Rattle.std.proofs.Common.{◌≡◌, ℕ, Option, Some, None, inl, inr}
use Rattle.sr_database_files.specs.declared.fault.DatabaseFault.TheVariants.{Memory}
use Rattle.dbremote_command.proofs.Caught.{catches_up, told_above}
use Rattle.dbremote_command.proofs.Completing.{is_complete}
use Rattle.dbremote_command.specs.CaughtUp as caught
use Rattle.dbremote_command.specs.Complete as complete
use Rattle.dbremote_command.specs.Outside.{Outside}
use Rattle.dbremote_command.specs.Runs.{IsRefused}
use Rattle.dbremote_command.specs.declared.fault.Fault.TheVariants.{Database}
use Rattle.dbremote_command.specs.declared.order.Order.{Order}
use Rattle.dbremote_command.specs.declared.order.Order.TheVariants.{Init, Sql, Agent, Show}
use Rattle.dbremote_demo.specs.Demonstrations.{Demonstrated, shown, unshown, ended, no_memory}
use Rattle.dbremote_run.proofs.Demonstrations.{memory_is, part_rose}
use Rattle.dbremote_run.specs.Runs as runs
use Rattle.dbremote_run.specs.Runs.{CatchesUp, IsComplete, IsShown, RanProgram, RanAsked}
use Rattle.dbremote_words.specs.declared.asked.Asked.{Asked}
use Rattle.dbremote_words.specs.declared.asked.Asked.TheVariants as asked

-- ---- what was asked for was done

demo_complete : (seed statements : ℕ) (old new : Outside) (status : ℕ) → Demonstrated seed statements old.output new.output status → complete.NoneFailed old new → IsShown seed statements old new status
demo_complete seed statements old new status (shown all) steady = runs.whole all
demo_complete seed statements old new status (unshown part) steady = absurd (steady.sink (part_rose seed statements old.output new.output status part))
demo_complete seed statements old new status (ended by) steady = runs.stopped by
demo_complete seed statements old new status (no_memory told) steady = runs.no_memory (memory_is seed statements old.output new.output status told)

asked_complete : (wanted : Asked) (old new : Outside) (status : ℕ) → RanAsked wanted old new status → IsComplete (Some wanted) old new status
asked_complete (asked.Order order) old new status ran = is_complete order old new status ran
asked_complete (asked.Demo seed statements) old new status ran = demo_complete seed statements old new status ran.demonstrated

asked_caught_up : (wanted : Asked) (old new : Outside) (status : ℕ) → RanAsked wanted old new status → CatchesUp (Some wanted) old new status
asked_caught_up (asked.Order order) old new status ran = catches_up order old new status ran
asked_caught_up (asked.Demo seed statements) old new status ran = tt

-- ---- there was no memory for the words

memory : (old new : Outside) (status : ℕ) → IsRefused (Database Memory) old new status → status ≡ 8
memory old new status refused = memory_is 0 0 old.output new.output status refused.line

wanting : (wanted : Asked) (old new : Outside) (status : ℕ) → IsRefused (Database Memory) old new status → IsComplete (Some wanted) old new status
wanting (asked.Order order) old new status refused = λ told meets steady. complete.no_memory (memory old new status refused)
wanting (asked.Demo seed statements) old new status refused = λ steady. runs.no_memory (memory old new status refused)

order_wanting_ends : (order : Order) (old new : Outside) (status : ℕ) → IsRefused (Database Memory) old new status → caught.CatchesUp order old new status
order_wanting_ends (Init name user) old new status refused = tt
order_wanting_ends (Sql name) old new status refused = tt
order_wanting_ends (Show name) old new status refused = tt
order_wanting_ends (Agent name mail options) old new status refused = λ told receives low publisher es stood. absurd (told_above (Database Memory) old.output new.output status refused.line low)

wanting_ends : (wanted : Asked) (old new : Outside) (status : ℕ) → IsRefused (Database Memory) old new status → CatchesUp (Some wanted) old new status
wanting_ends (asked.Order order) old new status refused = order_wanting_ends order old new status refused
wanting_ends (asked.Demo seed statements) old new status refused = tt

-- ---- the words

pub run_complete : (wanted : Option Asked) (old new : Outside) (status : ℕ) → RanProgram wanted old new status → IsComplete wanted old new status
run_complete None old new status ran = tt
run_complete (Some wanted) old new status (inl ran) = asked_complete wanted old new status ran
run_complete (Some wanted) old new status (inr none) = wanting wanted old new status none

pub run_caught_up : (wanted : Option Asked) (old new : Outside) (status : ℕ) → RanProgram wanted old new status → CatchesUp wanted old new status
run_caught_up None old new status ran = tt
run_caught_up (Some wanted) old new status (inl ran) = asked_caught_up wanted old new status ran
run_caught_up (Some wanted) old new status (inr none) = wanting_ends wanted old new status none
