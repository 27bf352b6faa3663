use Rattle.std.proofs.Common.{rules, refl}
use Rattle.sr_parse_grammar.specs.Inner.Going.{condition_goes, Ends}
use Rattle.sr_parse_grammar.specs.Writing.{IsUpdate}
use Rattle.sr_parse_reader.proofs.Parts.{then, first_fails, recast, handed, narrow}
use Rattle.sr_parse_grammar.proofs.Lists.{Ends-stop}
use Rattle.sr_parse_reader.proofs.Samples.{condition_sample}
use Rattle.sr_parse_reader.proofs.Writings.{update_of, update_to, update_back, sets_end, sets_sample, update_sample}
use Rattle.sr_parse_reader.proofs.querying.update.Goals as goal

pub returns-in_err-table-clause-reads : goal.returns-in_err-table-clause-reads
returns-in_err-table-clause-reads c = handed _ (recast IsUpdate update_of update_to update_back (first_fails _ _ (λ b y a h q. tt) update_sample c.in_err-table.ensures.reads)) (search rules)

pub returns-in_err-keyword-clause-reads : goal.returns-in_err-keyword-clause-reads
returns-in_err-keyword-clause-reads c = handed _ (recast IsUpdate update_of update_to update_back (then (λ b y a h q. tt) c.in_ok-table.ensures.reads (first_fails _ _ (λ b y a h q. tt) sets_sample c.in_err-keyword.ensures.reads))) (search rules)

pub returns-in_err-sets-clause-reads : goal.returns-in_err-sets-clause-reads
returns-in_err-sets-clause-reads c = handed _ (recast IsUpdate update_of update_to update_back (then (λ b y a h q. tt) c.in_ok-table.ensures.reads (then (λ b y a h q. tt) c.in_ok-keyword.ensures.reads (first_fails _ _ sets_end condition_sample c.in_err-sets.ensures.reads)))) (search rules)

pub returns-in_err-condition-clause-reads : goal.returns-in_err-condition-clause-reads
returns-in_err-condition-clause-reads c = handed _ (recast IsUpdate update_of update_to update_back (then (λ b y a h q. tt) c.in_ok-table.ensures.reads (then (λ b y a h q. tt) c.in_ok-keyword.ensures.reads (then sets_end c.in_ok-sets.ensures.reads ((narrow Ends (λ a q. Ends-stop condition_goes a refl q) c.in_err-condition.ensures.reads)))))) (search rules)

pub returns-clause-reads : goal.returns-clause-reads
returns-clause-reads c = recast IsUpdate update_of update_to update_back (then (λ b y a h q. tt) c.in_ok-table.ensures.reads (then (λ b y a h q. tt) c.in_ok-keyword.ensures.reads (then sets_end c.in_ok-sets.ensures.reads ((narrow Ends (λ a q. Ends-stop condition_goes a refl q) c.in_ok-condition.ensures.reads)))))
