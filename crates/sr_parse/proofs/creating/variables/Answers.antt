use Rattle.std.proofs.Common.{rules, arith, refl}
use Rattle.std.proofs.lemmas.Grind.{common_steps}
use Rattle.sr_parse_reader.proofs.Parts.{handed, no_memory, valued}
use Rattle.sr_parse_reader.proofs.Loops.{filed_begun, filed_on, filed_done, filed_missed}
use Rattle.sr_parse.proofs.Triggers.{declare_goes, no_variable}
use Rattle.sr_parse.proofs.creating.variables.Goals as goal

pub more-init : goal.more-init
more-init c = record { reads = filed_begun (search rules); less = search rules }

pub more-preserved : goal.more-preserved
more-preserved c = record {
  reads = filed_on (λ b x a h. tt) (λ a s. tt) c.more.invariant.reads (declare_goes (c.is_keyword.ensures.found (search rules))) c.in_ok-item.ensures.reads (grind (arith, common_steps));
  less = search rules;
}

pub returns-in_err-item-clause-reads : goal.returns-in_err-item-clause-reads
returns-in_err-item-clause-reads c = handed _ (filed_missed (λ b x a h. tt) (λ a s. tt) c.more.invariant.reads (declare_goes (c.is_keyword.ensures.found (search rules))) c.in_err-item.ensures.reads) (search rules)

pub returns-in_err-push-clause-reads : goal.returns-in_err-push-clause-reads
returns-in_err-push-clause-reads c = no_memory _ (search rules)

pub returns-clause-reads : goal.returns-clause-reads
returns-clause-reads c = valued c.from_vec.ensures.items (filed_done c.more.invariant.reads (no_variable (c.is_keyword.ensures.absent (search rules))) refl)
