-- Truths of three values.
use Rattle.std.specs.Prelude.{Bool, true, false}
use Rattle.sr_eval.specs.declared.truth.Truth.{Truth}
use Rattle.sr_eval.specs.declared.truth.Truth.TheVariants.{True, False, Unknown}

-- the truth of a test
abbrev pub known : Bool → Truth
known true = True
known false = False

-- NOT
abbrev pub not_of : Truth → Truth
not_of True = False
not_of False = True
not_of Unknown = Unknown

-- AND: false where one is false, and true where both are true
abbrev pub and_of : Truth → Truth → Truth
and_of True b = b
and_of False b = False
and_of Unknown True = Unknown
and_of Unknown False = False
and_of Unknown Unknown = Unknown

-- OR: true where one is true, and false where both are false
abbrev pub or_of : Truth → Truth → Truth
or_of True b = True
or_of False b = b
or_of Unknown True = True
or_of Unknown False = Unknown
or_of Unknown Unknown = Unknown
