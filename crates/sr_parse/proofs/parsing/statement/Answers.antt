use Rattle.std.proofs.Common.{rules, refl}
use Rattle.sr_parse_reader.proofs.Optionals.{moved}
use Rattle.sr_parse_reader.proofs.Parts.{handed}
use Rattle.sr_parse.proofs.FirstWords.{stated, none_stated}
use Rattle.sr_parse.proofs.parsing.statement.Goals as goal

pub returns-in_default-clause-reads : goal.returns-in_default-clause-reads
returns-in_default-clause-reads c = none_stated refl (search rules)

pub returns-in_err-stmt-clause-reads : goal.returns-in_err-stmt-clause-reads
returns-in_err-stmt-clause-reads c = handed _ (stated _ _ (search rules) (moved c.take_words.ensures.rest c.in_err-stmt.ensures.reads)) (search rules)

pub returns-clause-reads : goal.returns-clause-reads
returns-clause-reads c = stated _ _ (search rules) (moved c.take_words.ensures.rest c.in_ok-stmt.ensures.reads)
