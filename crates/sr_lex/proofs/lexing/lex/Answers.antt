use Rattle.std.proofs.Common.{rules, ◌≡◌, List, [], ◌∷◌, ◌++◌, sym, ◌∙◌, subst}
use Rattle.sr_lex.specs.declared.token.Token.{Token}
use Rattle.sr_lex.specs.declared.fault.LexFault.TheVariants.{Memory}
use Rattle.sr_lex.specs.Inner.Prefixes.{IsPrefix}
use Rattle.sr_lex.proofs.Walk.{refused_memory, refused_at, taken, ended}
use Rattle.sr_lex.proofs.lexing.lex.Goals as goal

pub returns-in_err-token-clause-only : goal.returns-in_err-token-clause-only
returns-in_err-token-clause-only c = λ tokens t.
    let is : c.in_err-token.field-0.0 ≡ Memory =
    refused_memory c.args.text.now c.tokens.tokens.items c.next.new.self c.in_err-token.field-0.0 (c.in_err-token.ensures.goes c.tokens.tokens.items c.tokens.invariant.prefix) (c.in_err-token.ensures.text ∙ c.tokens.invariant.text) tokens t in
    search rules

pub returns-in_err-token-clause-fault : goal.returns-in_err-token-clause-fault
returns-in_err-token-clause-fault c = λ at e.
    refused_at c.args.text.now c.tokens.tokens.items c.next.new.self c.in_err-token.field-0.0 (c.in_err-token.ensures.goes c.tokens.tokens.items c.tokens.invariant.prefix) (c.in_err-token.ensures.text ∙ c.tokens.invariant.text) at (search rules)

pub tokens-preserved : goal.tokens-preserved
tokens-preserved c =
    let goes : IsPrefix c.next.new.self (c.tokens.tokens.items ++ c.in-Some.token ∷ []) =
    taken c.tokens.tokens.items c.next.new.self c.in_ok-token.field-0 c.in-Some.token (c.in_ok-token.ensures.goes c.tokens.tokens.items c.tokens.invariant.prefix) c.in-Some.is in
    record {
      prefix = subst (λ (l : List Token). IsPrefix c.next.new.self l) (sym c.in_ok-push.ensures.items) goes;
      text = c.in_ok-token.ensures.text ∙ c.tokens.invariant.text;
    }

pub returns-clause-found : goal.returns-clause-found
returns-clause-found c =
    (ended c.args.text.now c.tokens.tokens.items c.next.new.self c.in_ok-token.field-0 (c.in_ok-token.ensures.goes c.tokens.tokens.items c.tokens.invariant.prefix) c.in_default.is (c.in_ok-token.ensures.text ∙ c.tokens.invariant.text)).0

pub returns-clause-only : goal.returns-clause-only
returns-clause-only c = λ tokens t.
    (ended c.args.text.now c.tokens.tokens.items c.next.new.self c.in_ok-token.field-0 (c.in_ok-token.ensures.goes c.tokens.tokens.items c.tokens.invariant.prefix) c.in_default.is (c.in_ok-token.ensures.text ∙ c.tokens.invariant.text)).1 tokens t
