use Rattle.std.proofs.Common.{rules, refl}
use Rattle.sr_ast.specs.declared.keyword.Keyword.TheVariants as key
use Rattle.sr_parse_grammar.specs.Symbols.{IsName}
use Rattle.sr_parse_grammar.specs.Inner.Going.{is_as, Stop}
use Rattle.sr_parse_reader.proofs.Parts.{handed}
use Rattle.sr_parse_reader.proofs.Optionals.{led_read, led_absent}
use Rattle.sr_parse_reader.proofs.querying.alias.Goals as goal

pub returns-in_err-name-clause-reads : goal.returns-in_err-name-clause-reads
returns-in_err-name-clause-reads c = handed _ (led_read key.As IsName (Stop is_as) is_as refl (λ a q. tt) (λ a q. q) (c.takes.ensures.found (search rules)) c.in_err-name.ensures.reads) (search rules)

pub returns-then-takes-clause-reads : goal.returns-then-takes-clause-reads
returns-then-takes-clause-reads c = led_read key.As IsName (Stop is_as) is_as refl (λ a q. tt) (λ a q. q) (c.takes.ensures.found (search rules)) c.in_ok-name.ensures.reads

pub returns-clause-reads : goal.returns-clause-reads
returns-clause-reads c = led_absent key.As IsName (Stop is_as) (c.takes.ensures.kept (search rules)) (c.takes.ensures.absent (search rules))
