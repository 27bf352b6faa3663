use Rattle.std.proofs.Common.{rules}
use Rattle.sr_parse_reader.specs.Inner.Productions.{Inserted}
use Rattle.sr_parse_reader.proofs.Parts.{then, first_fails, recast, handed}
use Rattle.sr_parse.proofs.Acted.{inserted_of, inserted_to, inserted_back, before_values, given_sample, values_sample, columns_sample, table_sample}
use Rattle.sr_parse.proofs.acting.inserted.Goals as goal

pub returns-in_err-keyword-clause-reads : goal.returns-in_err-keyword-clause-reads
returns-in_err-keyword-clause-reads c = handed _ (recast Inserted inserted_of inserted_to inserted_back (first_fails _ _ (λ b y a h q. tt) table_sample c.in_err-keyword.ensures.reads)) (search rules)

pub returns-in_err-table-clause-reads : goal.returns-in_err-table-clause-reads
returns-in_err-table-clause-reads c = handed _ (recast Inserted inserted_of inserted_to inserted_back (then (λ b y a h q. tt) c.in_ok-keyword.ensures.reads (first_fails _ _ (λ b y a h q. tt) columns_sample c.in_err-table.ensures.reads))) (search rules)

pub returns-in_err-columns-clause-reads : goal.returns-in_err-columns-clause-reads
returns-in_err-columns-clause-reads c = handed _ (recast Inserted inserted_of inserted_to inserted_back (then (λ b y a h q. tt) c.in_ok-keyword.ensures.reads (then (λ b y a h q. tt) c.in_ok-table.ensures.reads (first_fails _ _ before_values values_sample c.in_err-columns.ensures.reads)))) (search rules)

pub returns-in_err-keyword-2-clause-reads : goal.returns-in_err-keyword-2-clause-reads
returns-in_err-keyword-2-clause-reads c = handed _ (recast Inserted inserted_of inserted_to inserted_back (then (λ b y a h q. tt) c.in_ok-keyword.ensures.reads (then (λ b y a h q. tt) c.in_ok-table.ensures.reads (then before_values c.in_ok-columns.ensures.reads (first_fails _ _ (λ b y a h q. tt) given_sample c.in_err-keyword-2.ensures.reads))))) (search rules)

pub returns-in_err-values-clause-reads : goal.returns-in_err-values-clause-reads
returns-in_err-values-clause-reads c = handed _ (recast Inserted inserted_of inserted_to inserted_back (then (λ b y a h q. tt) c.in_ok-keyword.ensures.reads (then (λ b y a h q. tt) c.in_ok-table.ensures.reads (then before_values c.in_ok-columns.ensures.reads (then (λ b y a h q. tt) c.in_ok-keyword-2.ensures.reads c.in_err-values.ensures.reads))))) (search rules)

pub returns-clause-reads : goal.returns-clause-reads
returns-clause-reads c = recast Inserted inserted_of inserted_to inserted_back (then (λ b y a h q. tt) c.in_ok-keyword.ensures.reads (then (λ b y a h q. tt) c.in_ok-table.ensures.reads (then before_values c.in_ok-columns.ensures.reads (then (λ b y a h q. tt) c.in_ok-keyword-2.ensures.reads c.in_ok-values.ensures.reads))))
