use Rattle.std.proofs.Common.{rules}
use Rattle.sr_ast.specs.declared.keyword.Keyword.TheVariants as key
use Rattle.sr_parse_grammar.specs.Expressions.{IsExpr}
use Rattle.sr_parse_grammar.specs.Inner.Going.{Stop, condition_goes}
use Rattle.sr_parse_reader.proofs.Parts.{handed}
use Rattle.sr_parse_reader.proofs.Conditions.{condition_read}
use Rattle.sr_parse_reader.proofs.Optionals.{led_absent}
use Rattle.sr_parse_reader.proofs.querying.condition.Goals as goal

pub returns-in_err-condition-clause-reads : goal.returns-in_err-condition-clause-reads
returns-in_err-condition-clause-reads c = handed _ (condition_read (c.takes.ensures.found (search rules)) c.in_err-condition.ensures.reads) (search rules)

pub returns-then-takes-clause-reads : goal.returns-then-takes-clause-reads
returns-then-takes-clause-reads c = condition_read (c.takes.ensures.found (search rules)) c.in_ok-condition.ensures.reads

pub returns-clause-reads : goal.returns-clause-reads
returns-clause-reads c = led_absent key.Where IsExpr (Stop condition_goes) (c.takes.ensures.kept (search rules)) (c.takes.ensures.absent (search rules))
