use Rattle.std.proofs.Common.{rules, refl}
use Rattle.sr_parse_grammar.specs.Writing.{IsInsert}
use Rattle.sr_parse_grammar.specs.Inner.Going.{is_open, is_comma, Ends}
use Rattle.sr_parse_grammar.proofs.Steps.{Stop-at}
use Rattle.sr_parse_grammar.proofs.Lists.{Ends-stop}
use Rattle.sr_parse_reader.proofs.Parts.{then, first_fails, recast, handed, narrow}
use Rattle.sr_parse_reader.proofs.Writings.{insert_of, insert_to, insert_back, rows_sample, valued_sample, columns_sample, into_sample}
use Rattle.sr_parse_reader.proofs.querying.insert.Goals as goal

pub returns-in_err-keyword-clause-reads : goal.returns-in_err-keyword-clause-reads
returns-in_err-keyword-clause-reads c = handed _ (recast IsInsert insert_of insert_to insert_back (first_fails _ _ (λ b y a h q. tt) into_sample c.in_err-keyword.ensures.reads)) (search rules)

pub returns-in_err-table-clause-reads : goal.returns-in_err-table-clause-reads
returns-in_err-table-clause-reads c = handed _ (recast IsInsert insert_of insert_to insert_back (then (λ b y a h q. tt) c.in_ok-keyword.ensures.reads (first_fails _ _ (λ b y a h q. tt) columns_sample c.in_err-table.ensures.reads))) (search rules)

pub returns-in_err-columns-clause-reads : goal.returns-in_err-columns-clause-reads
returns-in_err-columns-clause-reads c = handed _ (recast IsInsert insert_of insert_to insert_back (then (λ b y a h q. tt) c.in_ok-keyword.ensures.reads (then (λ b y a h q. tt) c.in_ok-table.ensures.reads (first_fails _ _ (λ b y a h q. Stop-at is_open h.1 refl) valued_sample c.in_err-columns.ensures.reads)))) (search rules)

pub returns-in_err-keyword-2-clause-reads : goal.returns-in_err-keyword-2-clause-reads
returns-in_err-keyword-2-clause-reads c = handed _ (recast IsInsert insert_of insert_to insert_back (then (λ b y a h q. tt) c.in_ok-keyword.ensures.reads (then (λ b y a h q. tt) c.in_ok-table.ensures.reads (then (λ b y a h q. Stop-at is_open h.1 refl) c.in_ok-columns.ensures.reads (first_fails _ _ (λ b y a h q. tt) rows_sample c.in_err-keyword-2.ensures.reads))))) (search rules)

pub returns-in_err-rows-clause-reads : goal.returns-in_err-rows-clause-reads
returns-in_err-rows-clause-reads c = handed _ (recast IsInsert insert_of insert_to insert_back (then (λ b y a h q. tt) c.in_ok-keyword.ensures.reads (then (λ b y a h q. tt) c.in_ok-table.ensures.reads (then (λ b y a h q. Stop-at is_open h.1 refl) c.in_ok-columns.ensures.reads (then (λ b y a h q. tt) c.in_ok-keyword-2.ensures.reads ((narrow Ends (λ a q. Ends-stop is_comma a refl q) c.in_err-rows.ensures.reads))))))) (search rules)

pub returns-clause-reads : goal.returns-clause-reads
returns-clause-reads c = recast IsInsert insert_of insert_to insert_back (then (λ b y a h q. tt) c.in_ok-keyword.ensures.reads (then (λ b y a h q. tt) c.in_ok-table.ensures.reads (then (λ b y a h q. Stop-at is_open h.1 refl) c.in_ok-columns.ensures.reads (then (λ b y a h q. tt) c.in_ok-keyword-2.ensures.reads ((narrow Ends (λ a q. Ends-stop is_comma a refl q) c.in_ok-rows.ensures.reads))))))
