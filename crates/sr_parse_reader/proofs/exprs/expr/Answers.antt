use Rattle.std.proofs.Common.{rules, refl}
use Rattle.sr_parse_reader.proofs.Parts.{handed}
use Rattle.sr_parse_reader.proofs.Refusing.{expr_missed, expr_read}
use Rattle.sr_parse_reader.proofs.exprs.expr.Goals as goal

pub returns-in_err-sized-clause-reads : goal.returns-in_err-sized-clause-reads
returns-in_err-sized-clause-reads c = handed _ (expr_missed refl refl c.in_err-sized.ensures.reads) (search rules)

pub returns-clause-reads : goal.returns-clause-reads
returns-clause-reads c = expr_read c.in_ok-sized.sized refl refl c.in_ok-sized.ensures.reads
