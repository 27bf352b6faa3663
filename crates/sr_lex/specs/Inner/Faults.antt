-- What a refusal leaves open.
use Rattle.std.specs.Prelude.{◌≡◌, List, Vec, Result, Ok, Err}
use Rattle.std.proofs.Common.{Global}
use Rattle.sr_lex.specs.declared.token.Token.{Token}
use Rattle.sr_lex.specs.declared.fault.LexFault.{LexFault}
use Rattle.sr_lex.specs.declared.fault.LexFault.TheVariants.{NoToken, Memory}

-- these tokens were answered, or there was no memory for them
abbrev pub IsLexed : Result (Vec Token Global) LexFault → List Token → Type 0
IsLexed (Ok found) tokens = found.items ≡ tokens
IsLexed (Err Memory) tokens = Unit {0}
IsLexed (Err (NoToken at)) tokens = ⊥
