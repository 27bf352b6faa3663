use Rattle.std.proofs.Common.{rules}
use Rattle.sr_parse_grammar.proofs.symbol.symbol_of.Goals as goal

pub returns-in_ok-symbol-in-Word : goal.returns-in_ok-symbol-in-Word
returns-in_ok-symbol-in-Word c = record { found = record { bytes = c.slice-bytes.result.now; span = c.slice-bytes.ensures.span; means = rw c.in-Word.is c.in_ok-symbol-in-Word.ensures.found } }

pub returns-in-Number : goal.returns-in-Number
returns-in-Number c = record { found = record { bytes = c.slice-bytes.result.now; span = c.slice-bytes.ensures.span; means = rw c.in-Number.is (search rules) } }

pub returns-in-TopNumber : goal.returns-in-TopNumber
returns-in-TopNumber c = record { found = record { bytes = c.slice-bytes.result.now; span = c.slice-bytes.ensures.span; means = rw c.in-TopNumber.is } }

pub returns-in-Str : goal.returns-in-Str
returns-in-Str c = record { found = record { bytes = c.slice-bytes.result.now; span = c.slice-bytes.ensures.span; means = rw c.in-Str.is (search rules) } }

pub returns-in-Some : goal.returns-in-Some
returns-in-Some c = record { found = record { bytes = c.slice-bytes.result.now; span = c.slice-bytes.ensures.span; means = rw c.in-Sign.is c.in-Some.ensures.found } }

pub returns-in-None : goal.returns-in-None
returns-in-None c = record { found = record { bytes = c.slice-bytes.result.now; span = c.slice-bytes.ensures.span; means = rw c.in-Sign.is (c.sign_of.ensures.none (search rules)) } }
