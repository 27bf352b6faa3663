use Rattle.std.proofs.Common.{rules}
use Rattle.sr_ast.specs.declared.keyword.Keyword.TheVariants as key
use Rattle.sr_parse_grammar.specs.Symbols.{IsName}
use Rattle.sr_parse_grammar.specs.Writing.{IsSource}
use Rattle.sr_parse_reader.proofs.Parts.{then, first_fails, recast, handed}
use Rattle.sr_parse_reader.proofs.Samples.{led_sample}
use Rattle.sr_parse_reader.proofs.Selections.{source_of, source_to, source_back}
use Rattle.sr_parse_reader.proofs.querying.source.Goals as goal

pub returns-in_err-table-clause-reads : goal.returns-in_err-table-clause-reads
returns-in_err-table-clause-reads c = handed _ (recast IsSource source_of source_to source_back (first_fails _ _ (λ b y a h q. tt) (led_sample key.As IsName) c.in_err-table.ensures.reads)) (search rules)

pub returns-in_err-alias-clause-reads : goal.returns-in_err-alias-clause-reads
returns-in_err-alias-clause-reads c = handed _ (recast IsSource source_of source_to source_back (then (λ b y a h q. tt) c.in_ok-table.ensures.reads (c.in_err-alias.ensures.reads))) (search rules)

pub returns-clause-reads : goal.returns-clause-reads
returns-clause-reads c = recast IsSource source_of source_to source_back (then (λ b y a h q. tt) c.in_ok-table.ensures.reads (c.in_ok-alias.ensures.reads))
