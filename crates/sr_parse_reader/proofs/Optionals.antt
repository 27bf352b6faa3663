-- Readers of a part that stands behind a key word or a sign, and may be left out with its word.
use Rattle.std.proofs.Common.{◌≡◌, Bool, true, List, Some, None, Result, Ok, Err, refl, sym, subst, ap, ◌∙◌}
use Rattle.sr_ast.specs.declared.keyword.Keyword.{Keyword}
use Rattle.sr_ast.specs.Pages.{Piece}
use Rattle.sr_parse_grammar.specs.declared.symbol.Sign.{Sign}
use Rattle.sr_parse_grammar.specs.declared.symbol.Symbol.{Symbol}
use Rattle.sr_parse_reader.specs.declared.reader.Broken.{Broken}
use Rattle.sr_parse_grammar.specs.Symbols.{Symbols, first, word, IsWord, IsSign}
use Rattle.sr_parse_grammar.specs.Writing.{IsLed}
use Rattle.sr_parse_grammar.specs.Parts.{IsBehind, IsBehindSign}
use Rattle.sr_parse_grammar.specs.Inner.Going.{Stop}
use Rattle.sr_parse_reader.specs.Inner.Reading.{Alike, Reading, Anywhere, mapped}
use Rattle.sr_parse_reader.specs.Inner.Productions.{Word, Mark}
use Rattle.sr_parse_reader.specs.Inner.Reading.Reading.{read, refused, memory}
use Rattle.sr_parse_grammar.proofs.Steps.{Stop-begins}
use Rattle.sr_parse_reader.proofs.Parts.{Proper, then, ends_at, recast, perhaps_none, perhaps_some}
use Rattle.sr_parse_reader.proofs.Starts.{standing, lacks, word_read, sign_read}

-- a reading from a place that is the same
pub moved : {A : Type 0} {X : Symbols → A → Symbols → Type 0} {P : Symbols → Type 0} {before there here : Symbols} {r : Result A Broken} → there ≡ before → Reading X P there here r → Reading X P before here r
moved {X = X} {P = P} {here = here} {r = r} e h = subst (λ (b : Symbols). Reading X P b here r) e h

-- a key word that is not next, from a place that is the same
abbrev pub Lacks : Keyword → Symbols → Type 0
Lacks k before = (rest : Symbols) → IsWord before k rest → ⊥

pub lacking : {k : Keyword} {before here : Symbols} → here ≡ before → Lacks k here → Lacks k before
lacking e absent rest h = absent rest (e ∙ h)

-- the key word was taken
pub behind_word : {A : Type 0} {k : Keyword} {X : Symbols → A → Symbols → Type 0} {P : Symbols → Type 0} {before middle here : Symbols} {r : Result A Broken} → IsWord before k middle → Reading X P middle here r → Reading (IsBehind k X) P before here r
behind_word w memory = memory
behind_word {A = A} {k = k} {X = X} w (read r) = recast (IsBehind k X) (λ (p : Unit {0} × A). p.1) (λ b x a h. h) (λ b y a h. ((tt, y), h, refl)) (then (λ b y a h q. tt) (word_read w) (read r))
behind_word {A = A} {k = k} {X = X} w (refused r) = recast (IsBehind k X) (λ (p : Unit {0} × A). p.1) (λ b x a h. h) (λ b y a h. ((tt, y), h, refl)) (then (λ b y a h q. tt) (word_read w) (refused r))

-- it was refused
pub behind_ends : {A : Type 0} {k : Keyword} {X : Symbols → A → Symbols → Type 0} {P : Symbols → Type 0} {N : A → Type 0} {f : A → List Piece} → Proper X P N f → {before here : Symbols} {e : Broken} → Reading (Word k) Anywhere before here (Err e) → Reading (IsBehind k X) P before here (Err e)
behind_ends {A = A} {k = k} {X = X} p r = recast (IsBehind k X) (λ (q : Unit {0} × A). q.1) (λ b x a h. h) (λ b y a h. ((tt, y), h, refl)) (ends_at p r)

-- the sign was taken
pub behind_sign : {A : Type 0} {k : Sign} {X : Symbols → A → Symbols → Type 0} {P : Symbols → Type 0} {before middle here : Symbols} {r : Result A Broken} → IsSign before k middle → Reading X P middle here r → Reading (IsBehindSign k X) P before here r
behind_sign w memory = memory
behind_sign {A = A} {k = k} {X = X} w (read r) = recast (IsBehindSign k X) (λ (p : Unit {0} × A). p.1) (λ b x a h. h) (λ b y a h. ((tt, y), h, refl)) (then (λ b y a h q. tt) (sign_read w) (read r))
behind_sign {A = A} {k = k} {X = X} w (refused r) = recast (IsBehindSign k X) (λ (p : Unit {0} × A). p.1) (λ b x a h. h) (λ b y a h. ((tt, y), h, refl)) (then (λ b y a h q. tt) (sign_read w) (refused r))

pub sign_ends : {A : Type 0} {k : Sign} {X : Symbols → A → Symbols → Type 0} {P : Symbols → Type 0} {N : A → Type 0} {f : A → List Piece} → Proper X P N f → {before here : Symbols} {e : Broken} → Reading (Mark k) Anywhere before here (Err e) → Reading (IsBehindSign k X) P before here (Err e)
sign_ends {A = A} {k = k} {X = X} p r = recast (IsBehindSign k X) (λ (q : Unit {0} × A). q.1) (λ b x a h. h) (λ b y a h. ((tt, y), h, refl)) (ends_at p r)

no_end : (k : Keyword) (test : Symbol → Bool) → test (word k) ≡ true → {before middle : Symbols} → IsWord before k middle → (a : Symbols) → Alike before a → Stop test a → ⊥
no_end k test t w a alike s = Stop-begins test (standing a (sym alike ∙ ap first w)) t s

-- the part is there: where it ends, its key word does not begin
pub led_read : {A : Type 0} (k : Keyword) (X : Symbols → A → Symbols → Type 0) {P : Symbols → Type 0} (Q : Symbols → Type 0) (test : Symbol → Bool) → test (word k) ≡ true → ((after : Symbols) → Q after → P after) → ((after : Symbols) → Q after → Stop test after) → {before middle here : Symbols} {r : Result A Broken}
    → IsWord before k middle → Reading X P middle here r → Reading (IsLed k X) Q before here (mapped Some r)
led_read k X Q test t fits stops w h = perhaps_some (IsBehind k X) Q fits (λ a alike q. no_end k test t w a alike (stops a q)) (behind_word w h)

-- it is not there
pub led_absent : {A : Type 0} (k : Keyword) (X : Symbols → A → Symbols → Type 0) (P : Symbols → Type 0) {before here : Symbols} → here ≡ before → Lacks k before → Reading (IsLed k X) P before here (Ok None)
led_absent k X P e absent = perhaps_none (IsBehind k X) P e (λ there alike x a h. lacks alike absent h.1)
