-- What the program keeps of an expression's value, as its meaning.
use Rattle.sr_eval.specs.Meanings.{Meaning}
use Rattle.sr_eval.specs.Meanings.Meaning.{value, truth}
use Rattle.sr_eval.specs.declared.worth.Worth.{Worth}
use Rattle.sr_eval.specs.declared.worth.Worth.TheVariants.{Held, Made, Judged}

-- the value or the truth
abbrev pub meant : Worth → Meaning
meant (Held v) = value v.now
meant (Made v) = value v
meant (Judged t) = truth t
