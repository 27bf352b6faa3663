use Rattle.std.proofs.Common.{rules}
use Rattle.sr_parse_grammar.specs.Triggers.{IsTrigger}
use Rattle.sr_ast.specs.declared.keyword.Keyword.TheVariants as key
use Rattle.sr_parse_reader.proofs.Parts.{then, first_fails, recast, handed}
use Rattle.sr_parse_reader.proofs.Starts.{word_sample}
use Rattle.sr_parse.proofs.Triggers.{trigger_of, trigger_to, trigger_back, columns_end, aliases_end, variables_end, actions_end, from_resolve, from_columns, from_on, from_table, from_referencing, from_aliases, from_each, from_variables, from_actions}
use Rattle.sr_parse.proofs.creating.create_trigger.Goals as goal

pub returns-in_err-name-clause-reads : goal.returns-in_err-name-clause-reads
returns-in_err-name-clause-reads c =
    handed _ (recast IsTrigger trigger_of trigger_to trigger_back (first_fails _ _ (λ b y a h q. tt) from_resolve c.in_err-name.ensures.reads)) (search rules)

pub returns-in_err-resolve_update-clause-reads : goal.returns-in_err-resolve_update-clause-reads
returns-in_err-resolve_update-clause-reads c =
    handed _ (recast IsTrigger trigger_of trigger_to trigger_back (then (λ b y a h q. tt) c.in_ok-name.ensures.reads (first_fails _ _ (λ b y a h q. tt) from_columns c.in_err-resolve_update.ensures.reads))) (search rules)

pub returns-in_err-columns-clause-reads : goal.returns-in_err-columns-clause-reads
returns-in_err-columns-clause-reads c =
    handed _ (recast IsTrigger trigger_of trigger_to trigger_back (then (λ b y a h q. tt) c.in_ok-name.ensures.reads (then (λ b y a h q. tt) c.in_ok-resolve_update.ensures.reads (first_fails _ _ (columns_end _) from_on c.in_err-columns.ensures.reads)))) (search rules)

pub returns-in_err-keyword-clause-reads : goal.returns-in_err-keyword-clause-reads
returns-in_err-keyword-clause-reads c =
    handed _ (recast IsTrigger trigger_of trigger_to trigger_back (then (λ b y a h q. tt) c.in_ok-name.ensures.reads (then (λ b y a h q. tt) c.in_ok-resolve_update.ensures.reads (then (columns_end _) c.in_ok-columns.ensures.reads (first_fails _ _ (λ b y a h q. tt) from_table c.in_err-keyword.ensures.reads))))) (search rules)

pub returns-in_err-table-clause-reads : goal.returns-in_err-table-clause-reads
returns-in_err-table-clause-reads c =
    handed _ (recast IsTrigger trigger_of trigger_to trigger_back (then (λ b y a h q. tt) c.in_ok-name.ensures.reads (then (λ b y a h q. tt) c.in_ok-resolve_update.ensures.reads (then (columns_end _) c.in_ok-columns.ensures.reads (then (λ b y a h q. tt) c.in_ok-keyword.ensures.reads (first_fails _ _ (λ b y a h q. tt) from_referencing c.in_err-table.ensures.reads)))))) (search rules)

pub returns-in_err-keyword-2-clause-reads : goal.returns-in_err-keyword-2-clause-reads
returns-in_err-keyword-2-clause-reads c =
    handed _ (recast IsTrigger trigger_of trigger_to trigger_back (then (λ b y a h q. tt) c.in_ok-name.ensures.reads (then (λ b y a h q. tt) c.in_ok-resolve_update.ensures.reads (then (columns_end _) c.in_ok-columns.ensures.reads (then (λ b y a h q. tt) c.in_ok-keyword.ensures.reads (then (λ b y a h q. tt) c.in_ok-table.ensures.reads (first_fails _ _ (λ b y a h q. tt) from_aliases c.in_err-keyword-2.ensures.reads))))))) (search rules)

pub returns-in_err-aliases-clause-reads : goal.returns-in_err-aliases-clause-reads
returns-in_err-aliases-clause-reads c =
    handed _ (recast IsTrigger trigger_of trigger_to trigger_back (then (λ b y a h q. tt) c.in_ok-name.ensures.reads (then (λ b y a h q. tt) c.in_ok-resolve_update.ensures.reads (then (columns_end _) c.in_ok-columns.ensures.reads (then (λ b y a h q. tt) c.in_ok-keyword.ensures.reads (then (λ b y a h q. tt) c.in_ok-table.ensures.reads (then (λ b y a h q. tt) c.in_ok-keyword-2.ensures.reads (first_fails _ _ (aliases_end _) from_each c.in_err-aliases.ensures.reads)))))))) (search rules)

pub returns-in_err-for_each_row-clause-reads : goal.returns-in_err-for_each_row-clause-reads
returns-in_err-for_each_row-clause-reads c =
    handed _ (recast IsTrigger trigger_of trigger_to trigger_back (then (λ b y a h q. tt) c.in_ok-name.ensures.reads (then (λ b y a h q. tt) c.in_ok-resolve_update.ensures.reads (then (columns_end _) c.in_ok-columns.ensures.reads (then (λ b y a h q. tt) c.in_ok-keyword.ensures.reads (then (λ b y a h q. tt) c.in_ok-table.ensures.reads (then (λ b y a h q. tt) c.in_ok-keyword-2.ensures.reads (then (aliases_end _) c.in_ok-aliases.ensures.reads (first_fails _ _ (λ b y a h q. tt) from_variables c.in_err-for_each_row.ensures.reads))))))))) (search rules)

pub returns-in_err-variables-clause-reads : goal.returns-in_err-variables-clause-reads
returns-in_err-variables-clause-reads c =
    handed _ (recast IsTrigger trigger_of trigger_to trigger_back (then (λ b y a h q. tt) c.in_ok-name.ensures.reads (then (λ b y a h q. tt) c.in_ok-resolve_update.ensures.reads (then (columns_end _) c.in_ok-columns.ensures.reads (then (λ b y a h q. tt) c.in_ok-keyword.ensures.reads (then (λ b y a h q. tt) c.in_ok-table.ensures.reads (then (λ b y a h q. tt) c.in_ok-keyword-2.ensures.reads (then (aliases_end _) c.in_ok-aliases.ensures.reads (then (λ b y a h q. tt) c.in_ok-for_each_row.ensures.reads (first_fails _ _ variables_end from_actions c.in_err-variables.ensures.reads)))))))))) (search rules)

pub returns-in_err-actions-clause-reads : goal.returns-in_err-actions-clause-reads
returns-in_err-actions-clause-reads c =
    handed _ (recast IsTrigger trigger_of trigger_to trigger_back (then (λ b y a h q. tt) c.in_ok-name.ensures.reads (then (λ b y a h q. tt) c.in_ok-resolve_update.ensures.reads (then (columns_end _) c.in_ok-columns.ensures.reads (then (λ b y a h q. tt) c.in_ok-keyword.ensures.reads (then (λ b y a h q. tt) c.in_ok-table.ensures.reads (then (λ b y a h q. tt) c.in_ok-keyword-2.ensures.reads (then (aliases_end _) c.in_ok-aliases.ensures.reads (then (λ b y a h q. tt) c.in_ok-for_each_row.ensures.reads (then variables_end c.in_ok-variables.ensures.reads (first_fails _ _ actions_end (word_sample key.End) c.in_err-actions.ensures.reads))))))))))) (search rules)

pub returns-in_err-keyword-3-clause-reads : goal.returns-in_err-keyword-3-clause-reads
returns-in_err-keyword-3-clause-reads c =
    handed _ (recast IsTrigger trigger_of trigger_to trigger_back (then (λ b y a h q. tt) c.in_ok-name.ensures.reads (then (λ b y a h q. tt) c.in_ok-resolve_update.ensures.reads (then (columns_end _) c.in_ok-columns.ensures.reads (then (λ b y a h q. tt) c.in_ok-keyword.ensures.reads (then (λ b y a h q. tt) c.in_ok-table.ensures.reads (then (λ b y a h q. tt) c.in_ok-keyword-2.ensures.reads (then (aliases_end _) c.in_ok-aliases.ensures.reads (then (λ b y a h q. tt) c.in_ok-for_each_row.ensures.reads (then variables_end c.in_ok-variables.ensures.reads (then actions_end c.in_ok-actions.ensures.reads c.in_err-keyword-3.ensures.reads))))))))))) (search rules)

pub returns-clause-reads : goal.returns-clause-reads
returns-clause-reads c =
    recast IsTrigger trigger_of trigger_to trigger_back (then (λ b y a h q. tt) c.in_ok-name.ensures.reads (then (λ b y a h q. tt) c.in_ok-resolve_update.ensures.reads (then (columns_end _) c.in_ok-columns.ensures.reads (then (λ b y a h q. tt) c.in_ok-keyword.ensures.reads (then (λ b y a h q. tt) c.in_ok-table.ensures.reads (then (λ b y a h q. tt) c.in_ok-keyword-2.ensures.reads (then (aliases_end _) c.in_ok-aliases.ensures.reads (then (λ b y a h q. tt) c.in_ok-for_each_row.ensures.reads (then variables_end c.in_ok-variables.ensures.reads (then actions_end c.in_ok-actions.ensures.reads c.in_ok-keyword-3.ensures.reads))))))))))
