use Rattle.std.proofs.Common.{rules, refl}
use Rattle.sr_parse.proofs.Typing.{length_read, length_missed}
use Rattle.sr_parse.proofs.creating.length.Goals as goal

pub returns-then-number-lt1-clause-reads : goal.returns-then-number-lt1-clause-reads
returns-then-number-lt1-clause-reads c = length_missed refl (λ n rest h. search rules)

pub returns-else-number-gt32767-clause-reads : goal.returns-else-number-gt32767-clause-reads
returns-else-number-gt32767-clause-reads c = length_read (search rules)

pub returns-in_default : goal.returns-in_default
returns-in_default c = record { reads = length_missed refl (λ n rest h. search rules); shorter = search rules; progress = tt }

pub returns-in_default-2-clause-reads : goal.returns-in_default-2-clause-reads
returns-in_default-2-clause-reads c = length_missed refl (λ n rest h. search rules)
