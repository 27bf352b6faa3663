-- A text that spells a script is refused at no byte.
use Rattle.std.proofs.Common.{◌≡◌, ℕ, List, [], ◌∷◌, ◌++◌, length, drop, Option, Some, sym, subst, ap, ◌∙◌, inl, inr, append-nil, append_assoc}
use Rattle.std.proofs.Math.Seq.{drop-append_seam}
use Rattle.sr_ast.specs.declared.stmt.Stmt.{Stmt}
use Rattle.sr_parse_grammar.proofs.Meaning.{spelled_by}
use Rattle.sr_parse_grammar.specs.Meanings.{IsWritten}
use Rattle.sr_parse_grammar.specs.Places.{NoneGoesOn, IsStuck, IsRefusedAt}
use Rattle.sr_parse_grammar.specs.Scripts.{IsScript}
use Rattle.sr_parse_grammar.specs.Symbols.{Symbols}
use Rattle.sr_lex.proofs.Gaps.{after_gap-skips, skips_gap}
use Rattle.sr_lex.proofs.Marks.{mark_same, token_at-again, token_bare}
use Rattle.sr_lex.specs.Inner.Reading.{after_gap, token_at}
use Rattle.sr_lex.specs.Tokens.{BeginsNothing, IsToken, IsTokens, Skips, Takes, TakesToken}
use Rattle.sr_lex.specs.declared.token.Token.{Token}
use Rattle.sr_lex.specs.declared.token.TokenKind.{TokenKind}

-- ---- tokens

-- a token stands after white space and comments
stands : (kind : TokenKind) (word rest bytes : List ℕ) → Skips bytes (word ++ rest) → IsToken kind word rest → after_gap bytes ≡ word ++ rest
stands kind word rest bytes skips is = after_gap-skips skips ∙ token_bare kind word rest is

-- no token stands at the end
none_at_end : (kind : TokenKind) (word rest bytes : List ℕ) → Skips bytes (word ++ rest) → IsToken kind word rest → Skips bytes [] → ⊥
none_at_end kind word rest bytes skips is end =
    let nothing : word ++ rest ≡ [] = sym (stands kind word rest bytes skips is) ∙ after_gap-skips end in
    let here : token_at [] ≡ Some (kind, length word) = ap token_at (sym nothing) ∙ token_at-again kind word rest is in
    cc

same_length : (p q : TokenKind × ℕ) → ◌≡◌ {A = Option (TokenKind × ℕ)} (Some p) (Some q) → p.1 ≡ q.1
same_length p q same = ap (λ (p : TokenKind × ℕ). p.1) (mark_same p q same)

-- the first token leaves the same bytes, wherever it is said to begin
same_left : (at to : ℕ) (bytes : List ℕ) (t u : Token) (after rest : List ℕ) → TakesToken at bytes t after → TakesToken to bytes u rest → after ≡ rest
same_left at to bytes t u after rest h k =
    let one : h.word ++ after ≡ k.word ++ rest = sym (stands t.kind h.word after bytes h.skips h.is) ∙ stands u.kind k.word rest bytes k.skips k.is in
    let long : length h.word ≡ length k.word =
    same_length (t.kind, length h.word) (u.kind, length k.word) (sym (token_at-again t.kind h.word after h.is) ∙ ap token_at one ∙ token_at-again u.kind k.word rest k.is) in
    sym (drop-append_seam h.word after) ∙ ap (λ (l : List ℕ). drop (length h.word) l) one ∙ ap (λ (n : ℕ). drop n (k.word ++ rest)) long ∙ drop-append_seam k.word rest

-- where nothing begins, all that is white space or a comment is behind
no_gap : (rest : List ℕ) → BeginsNothing rest → after_gap rest ≡ rest
no_gap rest nothing = nothing.no_gap (after_gap rest) (skips_gap rest)

-- tokens that take all of the bytes leave none where no token begins
all_tokens : (at to : ℕ) (bytes rest : List ℕ) (some all : List Token) → Takes at bytes some rest → BeginsNothing rest → Takes to bytes all [] → ⊥
all_tokens at to bytes rest [] [] h nothing k = nothing.more (sym (no_gap rest nothing) ∙ sym (after_gap-skips h) ∙ after_gap-skips k)
all_tokens at to bytes rest [] (u ∷ all) h nothing (left, k, more) =
    nothing.no_token u.kind k.word left (sym (no_gap rest nothing) ∙ sym (after_gap-skips h) ∙ stands u.kind k.word left bytes k.skips k.is) k.is
all_tokens at to bytes rest (t ∷ some) [] (after, h, more) nothing k = none_at_end t.kind h.word after bytes h.skips h.is k
all_tokens at to bytes rest (t ∷ some) (u ∷ all) (after, h, more) nothing (left, k, others) =
    all_tokens t.end u.end after rest some all more nothing (subst (λ (l : List ℕ). Takes u.end l all []) (sym (same_left at to bytes t u after left h k)) others)

-- ---- symbols

-- symbols that spell a script go on
goes_on : (taken left : Symbols) (script : List Stmt) → IsScript (taken ++ left) script → NoneGoesOn taken left → ⊥
goes_on taken [] script is none = none script (subst (λ (l : Symbols). IsScript l script) (append-nil taken) is)
goes_on taken (s ∷ left) script is none = none left script (subst (λ (l : Symbols). IsScript l script) (sym (append_assoc taken (s ∷ []) left)) is)

not_stuck : (text : List ℕ) (tokens : List Token) (at : ℕ) (script : List Stmt) → IsTokens text tokens → IsStuck text tokens at → IsWritten text script → ⊥
not_stuck text tokens at script are stuck written = goes_on stuck.taken stuck.left script (spelled_by text tokens (stuck.taken ++ stuck.left) script are stuck.mean written) stuck.none

pub not_refused : (text : List ℕ) (at : ℕ) (script : List Stmt) → IsWritten text script → IsRefusedAt text at → ⊥
not_refused text at script (tokens, are, spell) (inl none) = all_tokens 0 0 text none.rest none.tokens tokens none.takes none.nothing are
not_refused text at script written (inr (tokens, are, stuck)) = not_stuck text tokens at script are stuck written
