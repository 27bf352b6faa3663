use Rattle.std.proofs.Common.{rules, ◌≡◌, reverse, ◌∙◌, ap, sym, subst}
use Rattle.std.proofs.lemmas.List.{reverse-reverse}
use Rattle.sr_parse_grammar.specs.Symbols.{Symbols}
use Rattle.sr_parse_grammar.specs.Meanings.{AreSymbols}
use Rattle.sr_parse_grammar.specs.Inner.Faults.{fault_of}
use Rattle.sr_parse_grammar.specs.declared.fault.ParseFault.TheVariants.{Refused}
use Rattle.sr_parse_reader.proofs.Meant.{IsSoFar-start, IsSoFar-more, IsSoFar-end, IsSoFar-whole, IsSoFar-refused, fault_refused}
use Rattle.sr_parse_reader.proofs.tokens.symbols.Goals as goal

pub tokens-init : goal.tokens-init
tokens-init c = IsSoFar-start _ _ _ c.new-lexer.ensures.begins c.new-lexer.ensures.text c.new-symbols.ensures.items

pub returns-in_err-token-clause-only : goal.returns-in_err-token-clause-only
returns-in_err-token-clause-only c = λ tokens at t e.
    let fault : fault_of c.in_err-token.field-0.0 ≡ Refused at = search rules in
    IsSoFar-whole c.args.text.now c.tokens.lexer c.next.new.self c.tokens.symbols.items c.in_err-token.field-0.0 c.tokens.invariant c.in_err-token.ensures.goes c.in_err-token.ensures.text tokens at t fault

pub returns-in_err-token-clause-refused : goal.returns-in_err-token-clause-refused
returns-in_err-token-clause-refused c = λ at e.
    let fault : fault_of c.in_err-token.field-0.0 ≡ Refused at = search rules in
    IsSoFar-refused c.args.text.now c.tokens.lexer c.next.new.self c.tokens.symbols.items c.in_err-token.field-0.0 c.tokens.invariant c.in_err-token.ensures.goes c.in_err-token.ensures.text at (fault_refused c.in_err-token.field-0.0 at fault)

pub tokens-preserved : goal.tokens-preserved
tokens-preserved c =
    IsSoFar-more c.args.text.now c.tokens.lexer c.next.new.self c.tokens.symbols.items c.push.new.self.items c.in_ok-token.field-0 c.in-Some.token c.in_ok-symbol.symbol
    c.tokens.invariant c.in_ok-token.ensures.goes c.in-Some.is c.in_ok-token.ensures.text c.in_ok-symbol.ensures.found c.in_ok-push.ensures.items

pub returns-clause-found : goal.returns-clause-found
returns-clause-found c =
    let s = IsSoFar-end c.args.text.now c.tokens.lexer c.next.new.self c.tokens.symbols.items c.in_ok-token.field-0 c.tokens.invariant c.in_ok-token.ensures.goes c.in_default.is c.in_ok-token.ensures.text in
    let turned : c.tokens.symbols.items ≡ reverse c.reverse.new.self.items = sym (ap reverse c.reverse.ensures.items ∙ reverse-reverse c.tokens.symbols.items) in
    (s.0, s.1, subst (λ (r : Symbols). AreSymbols c.args.text.now s.0 r) turned s.2)
