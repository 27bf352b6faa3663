use Rattle.std.proofs.Common.{arith}
use Rattle.sr_parse_reader.proofs.Meant.{IsTaken-start, IsTaken-more, taken_starts, taken_all}
use Rattle.sr_parse_reader.proofs.tokens.start_behind.Goals as goal

pub tokens-init : goal.tokens-init
tokens-init c = IsTaken-start _ _ _ c.new-lexer.ensures.begins c.new-lexer.ensures.text

pub returns-then-left-eq0 : goal.returns-then-left-eq0
returns-then-left-eq0 c = record {
  place = λ tokens all. taken_starts c.args.text.now c.tokens.lexer c.next.new.self c.tokens.left c.args.count c.in_ok-token.field-0 c.in-Some.token c.tokens.invariant c.if-left-eq0.true c.in_ok-token.ensures.goes c.in-Some.is c.in_ok-token.ensures.text tokens all;
}

pub tokens-preserved-else-left-eq0 : goal.tokens-preserved-else-left-eq0
tokens-preserved-else-left-eq0 c =
    IsTaken-more c.args.text.now c.tokens.lexer c.next.new.self c.tokens.left _ c.args.count c.in_ok-token.field-0 c.in-Some.token c.tokens.invariant c.in_ok-token.ensures.goes c.in-Some.is c.in_ok-token.ensures.text (omega arith)

pub tokens-preserved : goal.tokens-preserved
tokens-preserved c =
    IsTaken-more c.args.text.now c.tokens.lexer c.next.new.self c.tokens.left _ c.args.count c.in_ok-token.field-0 c.in-Some.token c.tokens.invariant c.in_ok-token.ensures.goes c.in-Some.is c.in_ok-token.ensures.text (omega arith)

pub returns : goal.returns
returns c = record {
  place = λ tokens all. taken_all c.args.text.now c.tokens.lexer c.next.new.self c.tokens.left c.args.count c.in_ok-token.field-0 c.tokens.invariant c.in_ok-token.ensures.goes c.in_default.is c.in_ok-token.ensures.text tokens all;
}
