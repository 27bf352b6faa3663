use Rattle.std.proofs.Common.{rules, refl, arith}
use Rattle.std.proofs.lemmas.Grind.{common_steps}
use Rattle.sr_parse_reader.proofs.Starts.{text_read, text_missed}
use Rattle.sr_parse_reader.proofs.reader.Reader.text.Goals as goal

pub returns-in_default-clause-reads : goal.returns-in_default-clause-reads
returns-in_default-clause-reads c = text_missed refl (λ x rest h. search rules)

pub returns-in-Some-Text-pop-clause-reads : goal.returns-in-Some-Text-pop-clause-reads
returns-in-Some-Text-pop-clause-reads c = text_read (grind (arith, common_steps))
