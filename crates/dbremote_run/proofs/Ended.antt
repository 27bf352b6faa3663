-- How a run ends, from what its words ask for.
use Rattle.std.proofs.Common.{◌≡◌, ℕ, Option, Some, None, refl, sym, subst, inl, inr}
use Rattle.sr_database_files.specs.declared.fault.DatabaseFault.TheVariants.{Memory}
use Rattle.sr_site.specs.Seen.{Seen}
use Rattle.sr_site.specs.Streams.{Input, Output}
use Rattle.dbremote_command.proofs.Ended.{is_refused}
use Rattle.dbremote_command.specs.Outside.{Outside, outside}
use Rattle.dbremote_command.specs.Runs.{Told, RanOrder}
use Rattle.dbremote_command.specs.declared.fault.Fault.TheVariants.{Words, Database}
use Rattle.dbremote_command.specs.declared.order.Order.{Order}
use Rattle.dbremote_demo.specs.Demonstrations.{Demonstrated}
use Rattle.dbremote_run.specs.Inner.Runs.{RanWithMemory}
use Rattle.dbremote_run.specs.Runs.{RanProgram}
use Rattle.dbremote_words.specs.declared.asked.Asked.{Asked}
use Rattle.dbremote_words.specs.declared.asked.Asked.TheVariants as asked

pub refused : (wanted : Option Asked) (site : Seen) (input : Input) (old new : Output) (status : ℕ) → wanted ≡ None → Told Words old new status → RanProgram wanted (outside site input old) (outside site input new) status
refused wanted site input old new status is told =
    subst (λ (w : Option Asked). RanProgram w (outside site input old) (outside site input new) status) (sym is) (inl (is_refused Words site input old new status told))

pub ordered : (wanted : Option Asked) (order : Order) (old new : Outside) (status : ℕ) → wanted ≡ Some (asked.Order order) → RanWithMemory order old new status → RanProgram wanted old new status
ordered wanted order old new status is ran = subst (λ (w : Option Asked). RanProgram w old new status) (sym is) ran

pub demonstrated : (wanted : Option Asked) (seed statements : ℕ) (site : Seen) (input : Input) (old new : Output) (status : ℕ) → wanted ≡ Some (asked.Demo seed statements)
    → Demonstrated seed statements old new status → RanProgram wanted (outside site input old) (outside site input new) status
demonstrated wanted seed statements site input old new status is did =
    subst (λ (w : Option Asked). RanProgram w (outside site input old) (outside site input new) status) (sym is) (inl (record { site = refl; input = refl; demonstrated = did }))

pub wanting : (wanted : Option Asked) (site : Seen) (input : Input) (old new : Output) (status : ℕ) → Told (Database Memory) old new status → RanProgram wanted (outside site input old) (outside site input new) status
wanting None site input old new status told = inr (is_refused (Database Memory) site input old new status told)
wanting (Some wanted) site input old new status told = inr (is_refused (Database Memory) site input old new status told)

pub unordered : (order : Order) (site : Seen) (input : Input) (old new : Output) (status : ℕ) → Told (Database Memory) old new status
    → RanWithMemory order (outside site input old) (outside site input new) status
unordered order site input old new status told = inr (is_refused (Database Memory) site input old new status told)

pub order_ran : (order : Order) (old new : Outside) (status : ℕ) → RanOrder order old new status → RanWithMemory order old new status
order_ran order old new status ran = inl ran

pub ruleset order_done = (unordered, order_ran)

pub ruleset words_done = (refused, ordered, demonstrated, wanting)
