-- Answers after nothing.
use Rattle.std.proofs.Common.{◌≡◌, List, [], Result, Ok, Err, refl}
use Rattle.sr_exec_dml.specs.Inner.Edits.{prefixed}

pub prefixed-none : {A E : Type 0} (rest : Result (List A) E) → prefixed [] rest ≡ rest
prefixed-none (Ok xs) = refl
prefixed-none (Err e) = refl
