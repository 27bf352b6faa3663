use Rattle.std.proofs.Common.{rules}
use Rattle.sr_parse.proofs.Optioning.{kept_read}
use Rattle.sr_parse_reader.proofs.Parts.{valued, handed, no_memory}
use Rattle.sr_parse.proofs.options.kept_value.Goals as goal

pub returns-in_err-written-clause-reads : goal.returns-in_err-written-clause-reads
returns-in_err-written-clause-reads c = handed _ (kept_read c.in_err-written.ensures.reads) (search rules)

pub returns-in_err-value-clause-reads : goal.returns-in_err-value-clause-reads
returns-in_err-value-clause-reads c = no_memory _ (search rules)

pub returns-clause-reads : goal.returns-clause-reads
returns-clause-reads c = valued (search rules) (kept_read c.in_ok-written.ensures.reads)
