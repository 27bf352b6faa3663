use Rattle.std.proofs.Common.{rules, refl, arith}
use Rattle.std.proofs.lemmas.Grind.{common_steps}
use Rattle.sr_parse_reader.proofs.Starts.{name_read, name_missed}
use Rattle.sr_parse_reader.specs.Inner.Reading.Reading.{memory}
use Rattle.sr_parse_reader.proofs.reader.Reader.name.Goals as goal

pub returns-in_default-named-clause-reads : goal.returns-in_default-named-clause-reads
returns-in_default-named-clause-reads c = name_missed refl (λ x rest h. search rules)

pub returns-in-Err-clause-reads : goal.returns-in-Err-clause-reads
returns-in-Err-clause-reads c = memory

pub returns-in-Some-Keyword-clause-reads : goal.returns-in-Some-Keyword-clause-reads
returns-in-Some-Keyword-clause-reads c = name_read (grind (arith, common_steps))

pub returns-then-not-is_name-clause-reads : goal.returns-then-not-is_name-clause-reads
returns-then-not-is_name-clause-reads c = name_missed refl (c.is_name.ensures.absent (search rules))

pub returns-in-Some-Name-clause-reads : goal.returns-in-Some-Name-clause-reads
returns-in-Some-Name-clause-reads c = name_read (grind (arith, common_steps))
