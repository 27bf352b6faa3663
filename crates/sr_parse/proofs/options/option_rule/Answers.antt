use Rattle.std.proofs.Common.{rules}
use Rattle.sr_parse_grammar.proofs.Optioned.{named_proper, behind_equal, kept_proper}
use Rattle.sr_parse.proofs.Optioning.{option_read}
use Rattle.sr_parse_reader.proofs.Parts.{then_on, ends_at, spelled, handed}
use Rattle.sr_parse_reader.proofs.Optionals.{behind_word, behind_ends, behind_sign, sign_ends}
use Rattle.sr_parse.proofs.options.option_rule.Goals as goal

pub returns-in_err-keyword-clause-reads : goal.returns-in_err-keyword-clause-reads
returns-in_err-keyword-clause-reads c = handed _ (option_read (behind_ends named_proper c.in_err-keyword.ensures.reads)) (search rules)

pub returns-in_err-name-clause-reads : goal.returns-in_err-name-clause-reads
returns-in_err-name-clause-reads c = handed _ (option_read (behind_word (spelled c.in_ok-keyword.ensures.reads) (ends_at (behind_equal kept_proper) c.in_err-name.ensures.reads))) (search rules)

pub returns-in_err-sign-clause-reads : goal.returns-in_err-sign-clause-reads
returns-in_err-sign-clause-reads c = handed _ (option_read (behind_word (spelled c.in_ok-keyword.ensures.reads) (then_on c.in_ok-name.ensures.reads (sign_ends kept_proper c.in_err-sign.ensures.reads)))) (search rules)

pub returns-in_err-value-clause-reads : goal.returns-in_err-value-clause-reads
returns-in_err-value-clause-reads c = handed _ (option_read (behind_word (spelled c.in_ok-keyword.ensures.reads) (then_on c.in_ok-name.ensures.reads (behind_sign (spelled c.in_ok-sign.ensures.reads) c.in_err-value.ensures.reads)))) (search rules)

pub returns-clause-reads : goal.returns-clause-reads
returns-clause-reads c = option_read (behind_word (spelled c.in_ok-keyword.ensures.reads) (then_on c.in_ok-name.ensures.reads (behind_sign (spelled c.in_ok-sign.ensures.reads) c.in_ok-value.ensures.reads)))
