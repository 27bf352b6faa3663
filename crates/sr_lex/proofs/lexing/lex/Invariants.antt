use Rattle.std.proofs.Common.{◌≡◌, length}
use Rattle.sr_lex.specs.Inner.Prefixes.{IsPrefix}
use Rattle.sr_lex.proofs.lexing.lex.Given as goal

abbrev pub invariant-tokens : goal.invariant-tokens
invariant-tokens l = record {
  prefix : IsPrefix l.lexer l.tokens.items;
  text : l.lexer.0 ≡ l.fn.text;
}

abbrev pub decreases-tokens : goal.decreases-tokens
decreases-tokens l = length l.lexer.1
