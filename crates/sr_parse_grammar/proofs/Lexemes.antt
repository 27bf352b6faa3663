-- A text, token by token, and the symbols that its tokens are.
use Rattle.std.proofs.Common.{◌≡◌, ℕ, ◌+◌, ◌-◌, List, [], ◌∷◌, ◌++◌, length, take, drop, slice_range, refl, sym, ap, ◌∙◌, subst, arith, length-append, append_assoc}
use Rattle.sr_lex.specs.declared.token.Token.{Token}
use Rattle.sr_lex.specs.declared.token.TokenKind.{TokenKind}
use Rattle.sr_lex.specs.Tokens.{IsToken, IsTokens, Skips, Takes, TakesToken}
use Rattle.sr_lex.specs.Tokens.Skips.{none, blank, comment}
use Rattle.sr_parse_grammar.specs.declared.symbol.Symbol.{Symbol}
use Rattle.sr_parse_grammar.specs.Symbols.{Symbols}
use Rattle.sr_parse_grammar.specs.Meanings.{IsSymbolOf, IsSymbol, AreSymbols}

-- the symbols of a text
pub data Lexes : List ℕ → Symbols → Type 0 where
  done : {bytes : List ℕ} → Skips bytes [] → Lexes bytes []
  token : {bytes : List ℕ} {symbols : Symbols} (word rest : List ℕ) (kind : TokenKind) (s : Symbol)
      → Skips bytes (word ++ rest) → IsToken kind word rest → IsSymbolOf word kind s → Lexes rest symbols → Lexes bytes (s ∷ symbols)

-- a space more in front
pub Lexes-space : {bytes : List ℕ} {symbols : Symbols} → Lexes bytes symbols → Lexes (32 ∷ bytes) symbols
Lexes-space (done skips) = done (blank refl skips)
Lexes-space (token word rest kind s skips is means more) = token word rest kind s (blank refl skips) is means more

pub Skips-prefix : {bytes rest : List ℕ} → Skips bytes rest → (prefix : List ℕ) × (bytes ≡ prefix ++ rest)
Skips-prefix none = ([], refl)
Skips-prefix (blank {byte = byte} b more) = let e = Skips-prefix more in (byte ∷ e.0, ap (λ t. byte ∷ t) e.1)
Skips-prefix {rest = rest} (comment line after is l f more) =
    let e = Skips-prefix more in
    (45 ∷ 45 ∷ (line ++ e.0), is ∙ ap (λ t. 45 ∷ 45 ∷ t) (ap (λ t. line ++ t) e.1 ∙ sym (append_assoc line e.0 rest)))

drop_prefix : (xs ys : List ℕ) → drop (length xs) (xs ++ ys) ≡ ys
drop_prefix [] ys = refl
drop_prefix (x ∷ xs) ys = drop_prefix xs ys

take_prefix : (xs ys : List ℕ) → take (length xs) (xs ++ ys) ≡ xs
take_prefix [] ys = refl
take_prefix (x ∷ xs) ys = ap (λ t. x ∷ t) (take_prefix xs ys)

pub slice_middle : (xs ys zs : List ℕ) → ys ≡ slice_range (xs ++ (ys ++ zs)) (length xs) (length (xs ++ ys))
slice_middle xs ys zs =
    let n : length (xs ++ ys) - length xs ≡ length ys = omega (arith, length-append xs ys) in
    sym (ap (λ t. take (length (xs ++ ys) - length xs) t) (drop_prefix xs (ys ++ zs)) ∙ (ap (λ k. take k (ys ++ zs)) n ∙ take_prefix ys zs))

pub record HasTokens (text bytes : List ℕ) (at : ℕ) (symbols : Symbols) : Type 0 where
  pub tokens : List Token
  pub takes : Takes at bytes tokens []
  pub are : AreSymbols text tokens symbols

has_tokens : (text before : List ℕ) {bytes : List ℕ} {symbols : Symbols} → text ≡ before ++ bytes → Lexes bytes symbols → HasTokens text bytes (length before) symbols
has_tokens text before e (done skips) = record { tokens = []; takes = skips; are = tt }
has_tokens text before {bytes = bytes} e (token word rest kind s skips is means more) =
    let prefix = Skips-prefix skips in
    let begin = before ++ prefix.0 in
    let whole : text ≡ begin ++ (word ++ rest) = e ∙ (ap (λ t. before ++ t) prefix.1 ∙ sym (append_assoc before prefix.0 (word ++ rest))) in
    let next : text ≡ (begin ++ word) ++ rest = whole ∙ sym (append_assoc begin word rest) in
    let others = has_tokens text (begin ++ word) next more in
    let t : Token = record { kind = kind; start = length begin; end = length (begin ++ word) } in
    let takes : TakesToken (length before) bytes t rest = record {
      word = word;
      skips = skips;
      is = is;
      start = ap (λ n. n + length (word ++ rest)) (length-append before prefix.0) ∙ omega (arith, length-append prefix.0 (word ++ rest), ap length prefix.1);
      end = length-append begin word;
    } in
    let symbol : IsSymbol text t s = record {
      bytes = word;
      span = λ p q. subst (λ (x : List ℕ). word ≡ slice_range x (length begin) (length (begin ++ word))) (sym whole) (slice_middle begin word rest);
      means = means;
    } in
    record { tokens = t ∷ others.tokens; takes = (rest, takes, others.takes); are = (symbol, others.are) }

-- the tokens of a whole text
pub tokens_of : (text : List ℕ) (symbols : Symbols) → Lexes text symbols → (tokens : List Token) × IsTokens text tokens × AreSymbols text tokens symbols
tokens_of text symbols h = let has = has_tokens text [] refl h in (has.tokens, has.takes, has.are)
