use Rattle.std.proofs.Common.{rules}
use Rattle.sr_ast.specs.declared.keyword.Keyword.TheVariants as key
use Rattle.sr_parse_grammar.specs.Symbols.{IsTextAt}
use Rattle.sr_parse_grammar.specs.Parts.{IsBehind}
use Rattle.sr_parse_grammar.specs.Inner.Going.{Ends}
use Rattle.sr_parse_grammar.proofs.Parts.{behind, text_proper}
use Rattle.sr_parse.proofs.Grants.{address_read}
use Rattle.sr_parse_reader.proofs.Parts.{spelled, handed}
use Rattle.sr_parse_reader.proofs.Optionals.{behind_word, behind_ends, led_absent}
use Rattle.sr_parse.proofs.creating.address.Goals as goal

pub returns-then-not-takes-clause-reads : goal.returns-then-not-takes-clause-reads
returns-then-not-takes-clause-reads c = led_absent key.Type (IsBehind key.File (IsBehind key.Address IsTextAt)) Ends (c.takes.ensures.kept (search rules)) (c.takes.ensures.absent (search rules))

pub returns-in_err-keyword-clause-reads : goal.returns-in_err-keyword-clause-reads
returns-in_err-keyword-clause-reads c = handed _ (address_read (c.takes.ensures.found (search rules)) (behind_ends (behind key.Address text_proper) c.in_err-keyword.ensures.reads)) (search rules)

pub returns-in_err-keyword-2-clause-reads : goal.returns-in_err-keyword-2-clause-reads
returns-in_err-keyword-2-clause-reads c = handed _ (address_read (c.takes.ensures.found (search rules)) (behind_word (spelled c.in_ok-keyword.ensures.reads) (behind_ends text_proper c.in_err-keyword-2.ensures.reads))) (search rules)

pub returns-in_err-text-clause-reads : goal.returns-in_err-text-clause-reads
returns-in_err-text-clause-reads c = handed _ (address_read (c.takes.ensures.found (search rules)) (behind_word (spelled c.in_ok-keyword.ensures.reads) (behind_word (spelled c.in_ok-keyword-2.ensures.reads) c.in_err-text.ensures.reads))) (search rules)

pub returns-clause-reads : goal.returns-clause-reads
returns-clause-reads c = address_read (c.takes.ensures.found (search rules)) (behind_word (spelled c.in_ok-keyword.ensures.reads) (behind_word (spelled c.in_ok-keyword-2.ensures.reads) c.in_ok-text.ensures.reads))
