use Rattle.std.proofs.Common.{rules}
use Rattle.sr_parse_reader.proofs.Parts.{handed, valued, then, first_fails}
use Rattle.sr_parse_reader.proofs.Starts.{sign_sample}
use Rattle.sr_parse_reader.proofs.Names.{names_opened, no_names, names_close}
use Rattle.sr_parse_grammar.specs.declared.symbol.Sign.TheVariants as mark
use Rattle.sr_parse_reader.proofs.reader.Reader.optional_names.Goals as goal

pub returns-then-not-takes_sign-clause-reads : goal.returns-then-not-takes_sign-clause-reads
returns-then-not-takes_sign-clause-reads c = valued (search rules) (no_names (c.takes_sign.ensures.kept (search rules)) (c.takes_sign.ensures.absent (search rules)))

pub returns-in_err-names-clause-reads : goal.returns-in_err-names-clause-reads
returns-in_err-names-clause-reads c = handed _ (names_opened (c.takes_sign.ensures.found (search rules)) (first_fails _ _ names_close (sign_sample mark.Close) c.in_err-names.ensures.reads)) (search rules)

pub returns-in_err-sign-clause-reads : goal.returns-in_err-sign-clause-reads
returns-in_err-sign-clause-reads c = handed _ (names_opened (c.takes_sign.ensures.found (search rules)) (then names_close c.in_ok-names.ensures.reads c.in_err-sign.ensures.reads)) (search rules)

pub returns-clause-reads : goal.returns-clause-reads
returns-clause-reads c = names_opened (c.takes_sign.ensures.found (search rules)) (then names_close c.in_ok-names.ensures.reads c.in_ok-sign.ensures.reads)
