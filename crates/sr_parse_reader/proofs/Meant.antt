-- Tokens taken one after the other, and their symbols.
use Rattle.std.proofs.Common.{◌≡◌, ℕ, ◌+◌, ◌≤◌, zero, suc, List, [], ◌∷◌, ◌++◌, length, Option, Some, None, Result, Ok, Err, refl, sym, subst, ap, ◌∙◌, arith, length-append}
use Rattle.sr_lex.specs.declared.token.Token.{Token}
use Rattle.sr_lex.specs.declared.fault.LexFault.{LexFault}
use Rattle.sr_lex.specs.declared.fault.LexFault.TheVariants.{NoToken, Memory}
use Rattle.sr_lex.specs.Tokens.{IsTokens, NoTokenAt}
use Rattle.sr_lex.specs.Inner.Prefixes.{IsPrefix, Goes}
use Rattle.sr_lex.proofs.Walk.{taken, ended, refused_memory, refused_at}
use Rattle.sr_parse_grammar.specs.declared.symbol.Symbol.{Symbol}
use Rattle.sr_parse_grammar.specs.declared.fault.ParseFault.TheVariants.{Refused}
use Rattle.sr_parse_grammar.specs.Inner.Faults.{fault_of}
use Rattle.sr_parse_grammar.specs.Places.{start_at}
use Rattle.sr_parse_grammar.specs.Symbols.{Symbols}
use Rattle.sr_parse_grammar.specs.Meanings.{IsSymbol, AreSymbols}
use Rattle.sr_parse_grammar.proofs.Meaning.{tokens_once}

-- the tokens taken so far mean these symbols
pub record IsSoFar (text : List ℕ) (lexer : List ℕ × List ℕ) (symbols : Symbols) : Type 0 where
  pub done : List Token
  pub prefix : IsPrefix lexer done
  pub mean : AreSymbols text done symbols
  pub same : lexer.0 ≡ text

-- what the lexer says of its next token
abbrev pub Next : List ℕ × List ℕ → List ℕ × List ℕ → Result (Option Token) LexFault → Type 0
Next before lexer found = (done : List Token) → IsPrefix before done → Goes done lexer found

pub IsSoFar-start : (text : List ℕ) (lexer : List ℕ × List ℕ) (symbols : Symbols) → IsPrefix lexer [] → lexer.0 ≡ text → symbols ≡ [] → IsSoFar text lexer symbols
IsSoFar-start text lexer symbols f same e = record { done = []; prefix = f; mean = subst (λ (s : Symbols). AreSymbols text [] s) (sym e) tt; same = same }

are_more : (text : List ℕ) (done : List Token) (symbols : Symbols) (t : Token) (s : Symbol) → AreSymbols text done symbols → IsSymbol text t s → AreSymbols text (done ++ t ∷ []) (symbols ++ s ∷ [])
are_more text [] [] t s h is = (is, tt)
are_more text [] (r ∷ symbols) t s h is = absurd h
are_more text (u ∷ done) [] t s h is = absurd h
are_more text (u ∷ done) (r ∷ symbols) t s h is = (h.0, are_more text done symbols t s h.1 is)

pub IsSoFar-more : (text : List ℕ) (before lexer : List ℕ × List ℕ) (symbols more : Symbols) (found : Option Token) (t : Token) (s : Symbol)
    → IsSoFar text before symbols → Next before lexer (Ok found) → found ≡ Some t → lexer.0 ≡ before.0 → IsSymbol text t s → more ≡ symbols ++ s ∷ [] → IsSoFar text lexer more
IsSoFar-more text before lexer symbols more found t s h next e same is m = record {
  done = h.done ++ t ∷ [];
  prefix = taken h.done lexer found t (next h.done h.prefix) e;
  mean = subst (λ (r : Symbols). AreSymbols text (h.done ++ t ∷ []) r) (sym m) (are_more text h.done symbols t s h.mean is);
  same = same ∙ h.same;
}

pub IsSoFar-end : (text : List ℕ) (before lexer : List ℕ × List ℕ) (symbols : Symbols) (found : Option Token)
    → IsSoFar text before symbols → Next before lexer (Ok found) → found ≡ None → lexer.0 ≡ before.0 → (tokens : List Token) × IsTokens text tokens × AreSymbols text tokens symbols
IsSoFar-end text before lexer symbols found h next e same = (h.done, (ended text h.done lexer found (next h.done h.prefix) e (same ∙ h.same)).0, h.mean)

pub IsSoFar-only : (text : List ℕ) (before lexer : List ℕ × List ℕ) (symbols : Symbols) (fault : LexFault)
    → IsSoFar text before symbols → Next before lexer (Err fault) → lexer.0 ≡ before.0 → (tokens : List Token) → IsTokens text tokens → fault ≡ Memory
IsSoFar-only text before lexer symbols fault h next same tokens t = refused_memory text h.done lexer fault (next h.done h.prefix) (same ∙ h.same) tokens t

pub IsSoFar-refused : (text : List ℕ) (before lexer : List ℕ × List ℕ) (symbols : Symbols) (fault : LexFault)
    → IsSoFar text before symbols → Next before lexer (Err fault) → lexer.0 ≡ before.0 → (at : ℕ) → fault ≡ NoToken at → NoTokenAt text at
IsSoFar-refused text before lexer symbols fault h next same at e = refused_at text h.done lexer fault (next h.done h.prefix) (same ∙ h.same) at e

-- a fault of the tokens that refuses the script
pub fault_refused : (fault : LexFault) (at : ℕ) → fault_of fault ≡ Refused at → fault ≡ NoToken at
fault_refused Memory at e = absurd (cc)
fault_refused (NoToken n) at e = cc

pub IsSoFar-whole : (text : List ℕ) (before lexer : List ℕ × List ℕ) (symbols : Symbols) (fault : LexFault)
    → IsSoFar text before symbols → Next before lexer (Err fault) → lexer.0 ≡ before.0 → (tokens : List Token) (at : ℕ) → IsTokens text tokens → fault_of fault ≡ Refused at → ⊥
IsSoFar-whole text before lexer symbols fault h next same tokens at t e =
    let m = IsSoFar-only text before lexer symbols fault h next same tokens t in
    let r = fault_refused fault at e in cc

-- tokens of the text were taken, of `count` as many as are not left
pub record IsTaken (text : List ℕ) (lexer : List ℕ × List ℕ) (left count : ℕ) : Type 0 where
  pub done : List Token
  pub prefix : IsPrefix lexer done
  pub same : lexer.0 ≡ text
  pub counted : length done + left ≡ count

pub IsTaken-start : (text : List ℕ) (lexer : List ℕ × List ℕ) (count : ℕ) → IsPrefix lexer [] → lexer.0 ≡ text → IsTaken text lexer count count
IsTaken-start text lexer count f same = record { done = []; prefix = f; same = same; counted = omega arith }

pub IsTaken-more : (text : List ℕ) (before lexer : List ℕ × List ℕ) (left fewer count : ℕ) (found : Option Token) (t : Token)
    → IsTaken text before left count → Next before lexer (Ok found) → found ≡ Some t → lexer.0 ≡ before.0 → fewer + 1 ≡ left → IsTaken text lexer fewer count
IsTaken-more text before lexer left fewer count found t h next e same f =
    let n = h.counted in
    record { done = h.done ++ t ∷ []; prefix = taken h.done lexer found t (next h.done h.prefix) e; same = same ∙ h.same; counted = omega (arith, n, f, length-append h.done (t ∷ [])) }

start_there : (text : List ℕ) (done more : List Token) (t : Token) → start_at text ((done ++ t ∷ []) ++ more) (length done) ≡ t.start
start_there text [] more t = refl
start_there text (u ∷ done) more t = start_there text done more t

start_beyond : (text : List ℕ) (tokens : List Token) (n : ℕ) → length tokens ≤ n → start_at text tokens n ≡ length text
start_beyond text [] n h = refl
start_beyond text (t ∷ tokens) zero h = absurd (omega arith)
start_beyond text (t ∷ tokens) (suc n) h = start_beyond text tokens n (omega arith)

-- a token that is taken where none is left begins at that of the tokens of the text
pub taken_starts : (text : List ℕ) (before lexer : List ℕ × List ℕ) (left count : ℕ) (found : Option Token) (t : Token)
    → IsTaken text before left count → left ≡ 0 → Next before lexer (Ok found) → found ≡ Some t → lexer.0 ≡ before.0 → (tokens : List Token) → IsTokens text tokens → t.start ≡ start_at text tokens count
taken_starts text before lexer left count found t h z next e same tokens all =
    let f : IsPrefix lexer (h.done ++ t ∷ []) = taken h.done lexer found t (next h.done h.prefix) e in
    let b = f.back tokens (subst (λ (b : List ℕ). IsTokens b tokens) (sym (same ∙ h.same)) all) in
    let n = h.counted in
    sym (start_there text h.done b.0 t) ∙ (ap (λ (l : List Token). start_at text l (length h.done)) (sym b.1) ∙ ap (λ k. start_at text tokens k) (omega (arith, n, z)))

-- behind the last token is the text's length
pub taken_all : (text : List ℕ) (before lexer : List ℕ × List ℕ) (left count : ℕ) (found : Option Token)
    → IsTaken text before left count → Next before lexer (Ok found) → found ≡ None → lexer.0 ≡ before.0 → (tokens : List Token) → IsTokens text tokens → length text ≡ start_at text tokens count
taken_all text before lexer left count found h next e same tokens all =
    let n = h.counted in
    let same_tokens : tokens ≡ h.done = tokens_once 0 text tokens h.done all (ended text h.done lexer found (next h.done h.prefix) e (same ∙ h.same)).0 in
    sym (start_beyond text tokens count (omega (arith, n, ap length same_tokens)))
