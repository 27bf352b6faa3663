-- The tokens of a text are one list, they mean one list of symbols, and these spell one script.
use Rattle.std.proofs.Common.{◌≡◌, ℕ, ◌+◌, ◌≤◌, List, [], ◌∷◌, ◌++◌, length, slice_range, Option, Some, None, refl, sym, subst, ap, ◌∙◌, arith, length-append, rules}
use Rattle.sr_lex.specs.declared.token.Token.{Token}
use Rattle.sr_lex.specs.declared.token.TokenKind.{TokenKind}
use Rattle.sr_lex.specs.declared.token.TokenKind.TheVariants as token
use Rattle.sr_lex.specs.Tokens.{Skips, IsToken, TakesToken, Takes, IsTokens}
use Rattle.sr_lex.specs.Inner.Reading.{token_at, after_gap}
use Rattle.sr_lex.proofs.Gaps.{after_gap-skips}
use Rattle.sr_lex.proofs.Marks.{token_at-again, token_bare}
use Rattle.sr_lex.proofs.Walk.{seam_same}
use Rattle.sr_ast.specs.declared.stmt.Stmt.{Stmt}
use Rattle.sr_parse_grammar.specs.declared.symbol.Symbol.{Symbol}
use Rattle.sr_parse_grammar.specs.declared.symbol.Symbol.TheVariants as symbol
use Rattle.sr_parse_grammar.specs.Symbols.{Symbols}
use Rattle.sr_parse_grammar.specs.Scripts.{IsScript}
use Rattle.sr_parse_grammar.specs.Meanings.{IsWordSymbol, IsSignSymbol, IsSymbolOf, IsSymbol, AreSymbols, IsWritten}
use Rattle.sr_parse_grammar.proofs.Spellings.{keyword_once, sign_once}
use Rattle.sr_parse_grammar.proofs.Statements.{script_once}
use Rattle.sr_parse_grammar.proofs.Steps.{two_parts, three_parts}

word_once : (word : List ℕ) (s t : Symbol) → IsWordSymbol word s → IsWordSymbol word t → s ≡ t
word_once word (symbol.Keyword a) (symbol.Keyword b) h k = ap symbol.Keyword (keyword_once word a b h k)
word_once word (symbol.Keyword a) (symbol.Name n) h k = absurd (k.0 a h)
word_once word (symbol.Keyword a) symbol.Other h k = absurd (k.0 a h)
word_once word (symbol.Name a) (symbol.Keyword b) h k = absurd (h.0 b k)
word_once word (symbol.Name a) (symbol.Name b) h k = ap symbol.Name (h.2 ∙ sym k.2)
word_once word (symbol.Name a) symbol.Other h k = absurd (k.1 h.1)
word_once word symbol.Other (symbol.Keyword b) h k = absurd (h.0 b k)
word_once word symbol.Other (symbol.Name b) h k = absurd (h.1 k.1)
word_once word symbol.Other symbol.Other h k = refl
word_once word _ _ h k = search rules

mark_once : (word : List ℕ) (s t : Symbol) → IsSignSymbol word s → IsSignSymbol word t → s ≡ t
mark_once word (symbol.Sign a) (symbol.Sign b) h k = ap symbol.Sign (sign_once word a b h k)
mark_once word (symbol.Sign a) symbol.Other h k = absurd (k a h)
mark_once word symbol.Other (symbol.Sign b) h k = absurd (h b k)
mark_once word symbol.Other symbol.Other h k = refl
mark_once word _ _ h k = search rules

meant_once : (word : List ℕ) (kind : TokenKind) (s t : Symbol) → IsSymbolOf word kind s → IsSymbolOf word kind t → s ≡ t
meant_once word token.Word s t h k = word_once word s t h k
meant_once word token.Sign s t h k = mark_once word s t h k
meant_once word _ s t h k = h ∙ sym k

-- the tokens lie within the text
record Within (text : List ℕ) (t : Token) : Type 0 where
  order : t.start ≤ t.end
  fits : t.end ≤ length text

AllWithin : List ℕ → List Token → Type 0
AllWithin text [] = Unit {0}
AllWithin text (t ∷ tokens) = Within text t × AllWithin text tokens

symbol_once : (text : List ℕ) (t : Token) (s u : Symbol) → Within text t → IsSymbol text t s → IsSymbol text t u → s ≡ u
symbol_once text t s u w h k =
    let here : h.bytes ≡ slice_range text t.start t.end = h.span w.order w.fits in
    let there : k.bytes ≡ slice_range text t.start t.end = k.span w.order w.fits in
    meant_once h.bytes t.kind s u h.means (subst (λ (b : List ℕ). IsSymbolOf b t.kind u) (there ∙ sym here) k.means)

symbols_once : (text : List ℕ) (tokens : List Token) (xs ys : Symbols) → AllWithin text tokens → AreSymbols text tokens xs → AreSymbols text tokens ys → xs ≡ ys
unfolding AllWithin
symbols_once text [] [] [] w h k = refl
symbols_once text (t ∷ tokens) (x ∷ xs) (y ∷ ys) w h k = two_parts (λ (s : Symbol) (ss : Symbols). s ∷ ss) (symbol_once text t x y w.0 h.0 k.0) (symbols_once text tokens xs ys w.1 h.1 k.1)
symbols_once text _ _ _ w h k = search rules

all_within : (text : List ℕ) (at : ℕ) (bytes : List ℕ) (tokens : List Token) → at + length bytes ≤ length text → Takes at bytes tokens [] → AllWithin text tokens
unfolding AllWithin
all_within text at bytes [] n h = tt
all_within text at bytes (t ∷ tokens) n (after, h, more) =
    let start = h.start in let end = h.end in let long = length-append h.word after in
    let within : Within text t = record { order = omega arith; fits = omega arith } in
    (within, all_within text t.end after tokens (omega arith) more)

-- no token is at the end of a text
no_token : (kind : TokenKind) (word rest : List ℕ) → IsToken kind word rest → word ++ rest ≡ [] → ⊥
no_token kind word rest is e =
    let again : token_at (word ++ rest) ≡ Some (kind, length word) = token_at-again kind word rest is in
    let none : token_at (word ++ rest) ≡ None = ap token_at e in
    let clash : ◌≡◌ {A = Option (TokenKind × ℕ)} (Some (kind, length word)) None = sym again ∙ none in cc

taken_at : (kind : TokenKind) (word rest bytes : List ℕ) → Skips bytes (word ++ rest) → IsToken kind word rest → after_gap bytes ≡ word ++ rest
taken_at kind word rest bytes s is = after_gap-skips s ∙ token_bare kind word rest is

pair_once : (p q : TokenKind × ℕ) → ◌≡◌ {A = Option (TokenKind × ℕ)} (Some p) (Some q) → p ≡ q
pair_once p q e = cc

token_same : (t u : Token) → t.kind ≡ u.kind → t.start ≡ u.start → t.end ≡ u.end → t ≡ u
token_same t u a b c = three_parts (λ (k : TokenKind) (m n : ℕ). let x : Token = record { kind = k; start = m; end = n } in x) a b c

token_once : (at : ℕ) (bytes : List ℕ) (t : Token) (after : List ℕ) (u : Token) (rest : List ℕ) → TakesToken at bytes t after → TakesToken at bytes u rest → (t ≡ u) × (after ≡ rest)
token_once at bytes t after u rest h k =
    let here = taken_at t.kind h.word after bytes h.skips h.is in
    let there = taken_at u.kind k.word rest bytes k.skips k.is in
    let one_place : h.word ++ after ≡ k.word ++ rest = sym here ∙ there in
    let first : token_at (h.word ++ after) ≡ Some (t.kind, length h.word) = token_at-again t.kind h.word after h.is in
    let second : token_at (k.word ++ rest) ≡ Some (u.kind, length k.word) = token_at-again u.kind k.word rest k.is in
    let both : TokenKind × ℕ = (t.kind, length h.word) in
    let other : TokenKind × ℕ = (u.kind, length k.word) in
    let pair : both ≡ other = pair_once both other (sym first ∙ (ap token_at one_place ∙ second)) in
    let kind : t.kind ≡ u.kind = ap (λ (p : TokenKind × ℕ). p.0) pair in
    let long : length h.word ≡ length k.word = ap (λ (p : TokenKind × ℕ). p.1) pair in
    let parts = seam_same h.word after k.word rest one_place long in
    let lengths : length (h.word ++ after) ≡ length (k.word ++ rest) = ap (λ (l : List ℕ). length l) one_place in
    let hs = h.start in let ks = k.start in let he = h.end in let ke = k.end in
    let start : t.start ≡ u.start = omega arith in
    (token_same t u kind start (omega arith), parts.1)

pub tokens_once : (at : ℕ) (bytes : List ℕ) (xs ys : List Token) → Takes at bytes xs [] → Takes at bytes ys [] → xs ≡ ys
tokens_once at bytes [] [] h k = refl
tokens_once at bytes [] (u ∷ ys) h (rest, k, more) = absurd (no_token u.kind k.word rest k.is (sym (taken_at u.kind k.word rest bytes k.skips k.is) ∙ after_gap-skips h))
tokens_once at bytes (t ∷ xs) [] (after, h, more) k = absurd (no_token t.kind h.word after h.is (sym (taken_at t.kind h.word after bytes h.skips h.is) ∙ after_gap-skips k))
tokens_once at bytes (t ∷ xs) (u ∷ ys) (after, h, more) (rest, k, others) =
    let s = token_once at bytes t after u rest h k in
    let place : u.end ≡ t.end = ap (λ (x : Token). x.end) (sym s.0) in
    let others' : Takes t.end after ys [] = subst (λ (n : ℕ). Takes n after ys []) place (subst (λ (b : List ℕ). Takes u.end b ys []) (sym s.1) others) in
    two_parts (λ (x : Token) (l : List Token). x ∷ l) s.0 (tokens_once t.end after xs ys more others')

pub written_once : (text : List ℕ) (s t : List Stmt) → IsWritten text s → IsWritten text t → s ≡ t
written_once text s t (tokens, is, (symbols, mean, spell)) (tokens', is', (symbols', mean', spell')) =
    let one : tokens' ≡ tokens = tokens_once 0 text tokens' tokens is' is in
    let mean'' : AreSymbols text tokens symbols' = subst (λ (l : List Token). AreSymbols text l symbols') one mean' in
    let two : symbols' ≡ symbols = symbols_once text tokens symbols' symbols (all_within text 0 text tokens (omega arith) is) mean'' mean in
    script_once symbols s t spell (subst (λ (l : Symbols). IsScript l t) two spell')

-- the symbols of the tokens of a text spell each script that the text spells
pub spelled_by : (text : List ℕ) (tokens : List Token) (symbols : Symbols) (script : List Stmt) → IsTokens text tokens → AreSymbols text tokens symbols → IsWritten text script → IsScript symbols script
spelled_by text tokens symbols script is mean (tokens', is', (symbols', mean', spell)) =
    let one : tokens' ≡ tokens = tokens_once 0 text tokens' tokens is' is in
    let mean'' : AreSymbols text tokens symbols' = subst (λ (l : List Token). AreSymbols text l symbols') one mean' in
    let two : symbols' ≡ symbols = symbols_once text tokens symbols' symbols (all_within text 0 text tokens (omega arith) is) mean'' mean in
    subst (λ (l : Symbols). IsScript l script) two spell

-- the same, where the bytes are the text's, and the reader begins at the symbols
pub read_whole : (text bytes : List ℕ) (symbols here : Symbols) (script : List Stmt) → bytes ≡ text → here ≡ symbols → ((tokens : List Token) × IsTokens bytes tokens × AreSymbols bytes tokens symbols) → IsWritten text script → IsScript here script
read_whole text bytes symbols here script e same (tokens, is, mean) w =
    subst (λ (s : Symbols). IsScript s script) (sym same) (spelled_by bytes tokens symbols script is mean (subst (λ (b : List ℕ). IsWritten b script) (sym e) w))

pub written_by : (text bytes : List ℕ) (symbols here : Symbols) (script : List Stmt) → bytes ≡ text → here ≡ symbols → ((tokens : List Token) × IsTokens bytes tokens × AreSymbols bytes tokens symbols) → IsScript here script → IsWritten text script
written_by text bytes symbols here script e same (tokens, is, mean) spells =
    subst (λ (b : List ℕ). IsWritten b script) e (tokens, is, (symbols, mean, subst (λ (s : Symbols). IsScript s script) same spells))
