-- What was given, and what was not.
use Rattle.std.proofs.Common.{◌≡◌, Option, Some, None, Ok, Err, refl}
use Rattle.std.specs.Option.{ok_or}

pub not_given : {A E : Type 0} (o : Option A) (e x : E) → Err x ≡ ok_or o e → None ≡ o
not_given None e x h = refl
not_given (Some a) e x h = cc

pub was_given : {A E : Type 0} (o : Option A) (e : E) (a : A) → Ok a ≡ ok_or o e → Some a ≡ o
was_given None e a h = cc
was_given (Some b) e a h = cc

pub ruleset given_rules = (not_given, was_given)
