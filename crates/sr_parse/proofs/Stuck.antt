-- The tokens before a refusal, as the beginning of a script.
use Rattle.std.proofs.Common.{◌≡◌, ℕ, ◌+◌, Bool, true, false, not, ◌&&◌, ◌||◌, List, [], ◌∷◌, ◌++◌, length, slice_range, refl, sym, subst, ap, ◌∙◌, arith, length-append, append_assoc, nat_eq, inr, Ok, Err}
use Rattle.std.proofs.lemmas.List.{append-nil}
use Rattle.sr_ast.specs.declared.stmt.Stmt.{Stmt}
use Rattle.sr_lex.specs.declared.token.Token.{Token}
use Rattle.sr_lex.specs.declared.token.TokenKind.{TokenKind}
use Rattle.sr_lex.specs.declared.token.TokenKind.TheVariants.{Word, Number, Sign}
use Rattle.sr_lex.specs.Tokens.{IsToken, IsTokens, Takes, is_sign, is_lone, is_dash, is_behind_less, begins}
use Rattle.sr_lex.specs.Tokens.Skips.{none, blank}
use Rattle.sr_parse_grammar.specs.Symbols.{Symbols}
use Rattle.sr_parse_grammar.specs.Meanings.{IsSymbolOf, AreSymbols}
use Rattle.sr_parse_grammar.specs.Inner.Meant.{AreMeant}
use Rattle.sr_parse_grammar.specs.Places.{start_at, NoneGoesOn, IsStuck, IsRefusedAt}
use Rattle.sr_parse_grammar.specs.Scripts.{Pieces, IsScript}
use Rattle.sr_parse_grammar.specs.Scripts.Stage.{closed}
use Rattle.sr_parse_reader.specs.Inner.Reading.{WasRefused, Reading, Alike, AtEnd}
use Rattle.sr_parse_reader.specs.Inner.Reading.Reading.{refused}
use Rattle.sr_parse_reader.specs.declared.reader.Broken.{Broken}
use Rattle.sr_parse_reader.specs.declared.reader.Broken.TheVariants.{Memory, Refused}
use Rattle.sr_parse_reader.proofs.Parts.{spelled}
use Rattle.sr_parse_grammar.proofs.Lexemes.{Lexes, Skips-prefix, slice_middle, tokens_of}
use Rattle.sr_parse_grammar.proofs.Lexemes.Lexes.{done, token}

-- ---- a token alone, and before a space

lone_sign : (p q r s x y z : Bool) → (p || (q && x) || (r && y) || (s && z)) ≡ true → (p || (q && true) || (r && true) || (s && true)) ≡ true
lone_sign false false false false x y z h = h
lone_sign p q r s x y z h = refl

sign_alone : (word rest : List ℕ) → is_sign word rest ≡ true → is_sign word [] ≡ true
sign_alone (a ∷ []) rest h = lone_sign (is_lone a) (is_dash a) (nat_eq a 60) (nat_eq a 62) (not (begins is_dash rest)) (not (begins is_behind_less rest)) (not (begins (λ b. nat_eq b 61) rest)) h
sign_alone (a ∷ b ∷ []) rest h = h
sign_alone _ rest h = h

token_alone : (kind : TokenKind) (word rest : List ℕ) → IsToken kind word rest → IsToken kind word []
token_alone Word word rest h = (h.0, refl)
token_alone (Number n) word rest h = (h.0, h.1, h.2, refl)
token_alone Sign word rest h = sign_alone word rest h
token_alone _ word rest h = (h.0, h.1, refl)

sign_spaced : (word rest : List ℕ) → is_sign word [] ≡ true → is_sign word (32 ∷ rest) ≡ true
sign_spaced (a ∷ b ∷ []) rest h = h
sign_spaced _ rest h = h

token_spaced : (kind : TokenKind) (word rest : List ℕ) → IsToken kind word [] → IsToken kind word (32 ∷ rest)
token_spaced Word word rest h = (h.0, refl)
token_spaced (Number n) word rest h = (h.0, h.1, h.2, refl)
token_spaced Sign word rest h = sign_spaced word rest h
token_spaced _ word rest h = (h.0, h.1, refl)

-- ---- symbols that tokens mean are the symbols of a text

said : (symbols : Symbols) → AreMeant symbols → List ℕ
said [] m = []
said (s ∷ symbols) m = 32 ∷ (m.0.0 ++ said symbols m.1)

before_more : (kind : TokenKind) (word : List ℕ) (symbols : Symbols) (m : AreMeant symbols) → IsToken kind word [] → IsToken kind word (said symbols m)
unfolding said
before_more kind word [] m h = h
before_more kind word (s ∷ symbols) m h = token_spaced kind word (m.0.0 ++ said symbols m.1) h

said_lexes : (symbols : Symbols) (m : AreMeant symbols) → Lexes (said symbols m) symbols
unfolding said
said_lexes [] m = done none
said_lexes (s ∷ symbols) m =
    token m.0.0 (said symbols m.1) m.0.1 s (blank refl none) (before_more m.0.1 m.0.0 symbols m.1 m.0.2) m.0.3 (said_lexes symbols m.1)

-- ---- the symbols of the tokens of a text are meant by tokens

meant_prefix : (xs ys : Symbols) → AreMeant (xs ++ ys) → AreMeant xs
meant_prefix [] ys m = tt
meant_prefix (x ∷ xs) ys m = (m.0, meant_prefix xs ys m.1)

meant_by : (text prefix bytes : List ℕ) (tokens : List Token) (symbols : Symbols) → text ≡ prefix ++ bytes → Takes (length prefix) bytes tokens [] → AreSymbols text tokens symbols → AreMeant symbols
meant_by text prefix bytes [] [] e h m = tt
meant_by text prefix bytes [] (s ∷ symbols) e h m = absurd m
meant_by text prefix bytes (t ∷ tokens) [] e h m = absurd m
meant_by text prefix bytes (t ∷ tokens) (s ∷ symbols) e (after, h, others) m =
    let gap = Skips-prefix h.skips in
    let begin = prefix ++ gap.0 in
    let whole : text ≡ begin ++ (h.word ++ after) = e ∙ (ap (λ b. prefix ++ b) gap.1 ∙ sym (append_assoc prefix gap.0 (h.word ++ after))) in
    let next : text ≡ (begin ++ h.word) ++ after = whole ∙ sym (append_assoc begin h.word after) in
    let start : t.start ≡ length begin = let s = h.start in omega (arith, s, ap length gap.1, length-append gap.0 (h.word ++ after), length-append prefix gap.0) in
    let end : t.end ≡ length (begin ++ h.word) = let s = h.end in omega (arith, s, start, length-append begin h.word) in
    let is = m.0 in
    let all = ap length next in
    let bytes : is.bytes ≡ h.word =
    is.span (omega (arith, start, end, length-append begin h.word)) (omega (arith, end, all, length-append (begin ++ h.word) after))
    ∙ (ap (λ n. slice_range text n t.end) start ∙ ap (λ n. slice_range text (length begin) n) end)
    ∙ sym (subst (λ (x : List ℕ). h.word ≡ slice_range x (length begin) (length (begin ++ h.word))) (sym whole) (slice_middle begin h.word after)) in (
      (h.word, t.kind, token_alone t.kind h.word after h.is, subst (λ b. IsSymbolOf b t.kind s) bytes is.means),
      meant_by text (begin ++ h.word) after tokens symbols next (subst (λ n. Takes n after tokens []) end others) m.1,
    )

meant_all : (xs ys : Symbols) → AreMeant xs → AreMeant ys → AreMeant (xs ++ ys)
meant_all [] ys m n = n
meant_all (x ∷ xs) ys m n = (m.0, meant_all xs ys m.1 n)

-- ---- where a script is refused

none_goes_on : (taken left : Symbols) → ((there : Symbols) → Alike left there → (x : List Stmt) (rest : Symbols) → Pieces closed (taken ++ there) x rest → AtEnd rest → ⊥) → NoneGoesOn taken left
none_goes_on taken [] free = λ script h. free [] refl script [] (subst (λ (b : Symbols). Pieces closed b script []) (sym (append-nil taken)) h) refl
none_goes_on taken (s ∷ left) free = λ more script h. free (s ∷ more) refl script [] (subst (λ (b : Symbols). Pieces closed b script []) (append_assoc taken (s ∷ []) more) h) refl

pub stuck_at : (text : List ℕ) (tokens : List Token) (symbols here : Symbols) (at count : ℕ) → IsTokens text tokens → AreSymbols text tokens symbols → WasRefused (Pieces closed) AtEnd symbols here → count + length here ≡ length symbols → at ≡ start_at text tokens count
    → IsStuck text tokens at
stuck_at text tokens symbols here at count is mean r size place =
    let all = subst (λ (l : Symbols). AreSymbols text tokens l) r.parts mean in
    let meant = meant_all r.taken r.goes.more (meant_prefix r.taken here (meant_by text [] text tokens (r.taken ++ here) refl is all)) r.goes.meant in
    let t = tokens_of (said (r.taken ++ r.goes.more) meant) (r.taken ++ r.goes.more) (said_lexes (r.taken ++ r.goes.more) meant) in
    let parts = r.parts in
    let n : count ≡ length r.taken = omega (arith, size, ap length parts, length-append r.taken here) in
    record {
      taken = r.taken;
      left = here;
      mean = all;
      place = place ∙ ap (λ k. start_at text tokens k) n;
      some = record {
        text = said (r.taken ++ r.goes.more) meant;
        tokens = t.0;
        more = r.goes.more;
        script = r.goes.value;
        are_tokens = t.1;
        mean = t.2;
        spell = subst (λ (b : Symbols). Pieces closed b r.goes.value []) (append-nil (r.taken ++ r.goes.more)) (r.goes.spells []);
      };
      none = none_goes_on r.taken here r.none;
    }

refused_reading : {before here : Symbols} (e : Broken) → e ≡ Refused → Reading (Pieces closed) AtEnd before here (Err e) → WasRefused (Pieces closed) AtEnd before here
refused_reading Refused h (refused r) = r
refused_reading Memory h r = absurd (cc)

-- where the reader of a script stands when it is refused
pub refused_by : (text bytes again : List ℕ) (symbols before here : Symbols) (e : Broken) (at behind : ℕ) → bytes ≡ text → again ≡ text → before ≡ symbols → ((tokens : List Token) × IsTokens bytes tokens × AreSymbols bytes tokens symbols)
    → e ≡ Refused → Reading (Pieces closed) AtEnd before here (Err e) → behind + length here ≡ length before → ((tokens : List Token) → IsTokens again tokens → at ≡ start_at again tokens behind) → IsRefusedAt text at
refused_by text bytes again symbols before here e at behind b g same (tokens, is, mean) refusal reads size place =
    let whole : IsTokens text tokens = subst (λ (l : List ℕ). IsTokens l tokens) b is in
    let mean' : AreSymbols text tokens before = subst (λ (l : Symbols). AreSymbols text tokens l) (sym same) (subst (λ (l : List ℕ). AreSymbols l tokens symbols) b mean) in
    let place' : at ≡ start_at text tokens behind = subst (λ (l : List ℕ). at ≡ start_at l tokens behind) g (place tokens (subst (λ (l : List ℕ). IsTokens l tokens) (sym g) whole)) in
    inr (tokens, whole, stuck_at text tokens before here at behind whole mean' (refused_reading e refusal reads) size place')

-- the script that was read, where the reader stands at the end
pub script_read : {before here : Symbols} {script : List Stmt} → Reading (Pieces closed) AtEnd before here (Ok script) → here ≡ [] → IsScript before script
script_read {before = before} {script = script} r e = subst (λ (l : Symbols). Pieces closed before script l) e (spelled r)
