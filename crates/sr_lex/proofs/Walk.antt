-- The tokens of a text, one after the other.
use Rattle.std.proofs.Common.{◌≡◌, ◌≢◌, ℕ, suc, ◌+◌, ◌-◌, ◌<◌, ◌≤◌, Bool, true, false, List, [], ◌∷◌, ◌++◌, length, drop, Option, Some, None, Ok, Err, refl, ap, sym, ◌∙◌, subst, length-append, append_assoc, append-nil, length-drop, le_trans, ◌==◌, true≢false, arith}
use Rattle.std.proofs.Math.Seq.{drop-append_seam}
use Rattle.std.proofs.lemmas.Bool.{eqb-true}
use Rattle.sr_lex.specs.declared.token.Token.{Token}
use Rattle.sr_lex.specs.declared.token.TokenKind.{TokenKind}
use Rattle.sr_lex.specs.Tokens.{Skips, IsToken, TakesToken, Takes, IsTokens, NoTokenAt}
use Rattle.sr_lex.specs.Tokens.Skips.{none}
use Rattle.sr_lex.specs.Inner.Reading.{token_at, after_gap}
use Rattle.sr_lex.specs.Inner.Prefixes.{Prefix, IsPrefix, AreAll, IsRefused, Goes}
use Rattle.sr_lex.specs.declared.fault.LexFault.{LexFault}
use Rattle.sr_lex.specs.declared.fault.LexFault.TheVariants.{NoToken, Memory}
use Rattle.sr_lex.proofs.Gaps.{after_gap-skips, join, skips_gap, bare_skips, after_gap-le}
use Rattle.sr_lex.proofs.Marks.{token_at-again, token_bare, token_at-stands, mark_same}

after_gap-twice : (bytes : List ℕ) → after_gap (after_gap bytes) ≡ after_gap bytes
after_gap-twice bytes = sym (after_gap-skips (skips_gap bytes))

pub after_gap-again : (rest bytes : List ℕ) → rest ≡ after_gap bytes → after_gap rest ≡ rest
after_gap-again rest bytes e = ap after_gap e ∙ (after_gap-twice bytes ∙ sym e)

-- white space and comments before tokens may be taken first
gap_forth : (at to : ℕ) (bytes : List ℕ) (more : List Token) (left : List ℕ) → to + length (after_gap bytes) ≡ at + length bytes → Takes to (after_gap bytes) more left → Takes at bytes more left
gap_forth at to bytes [] left e s = join (skips_gap bytes) s
gap_forth at to bytes (token ∷ more) left e (after, t, ts) =
    (after, record { word = t.word; skips = join (skips_gap bytes) t.skips; is = t.is; start = t.start ∙ e; end = t.end }, ts)

none_of : (bytes : List ℕ) → bytes ≡ [] → Skips bytes []
none_of bytes e = subst (λ (b : List ℕ). Skips b []) (sym e) none

gap_back : (at to : ℕ) (bytes : List ℕ) (more : List Token) → to + length (after_gap bytes) ≡ at + length bytes → Takes at bytes more [] → Takes to (after_gap bytes) more []
gap_back at to bytes [] e s = none_of (after_gap bytes) (after_gap-skips s)
gap_back at to bytes (token ∷ more) e (after, t, ts) =
    let same : after_gap bytes ≡ t.word ++ after = after_gap-skips t.skips ∙ token_bare token.kind t.word after t.is in
    (after, record { word = t.word; skips = subst (λ (b : List ℕ). Skips b (t.word ++ after)) (sym same) none; is = t.is; start = t.start ∙ sym e; end = t.end }, ts)

-- before the first token
prefix_start : (text : List ℕ) (at : ℕ) → at + length (after_gap text) ≡ length text → Prefix text at [] (after_gap text)
prefix_start text at e = record {
  forth = λ more left s. gap_forth 0 at text more left (omega arith) s;
  back = λ all s. (all, refl, gap_back 0 at text all (omega arith) s);
  bare = after_gap-twice text;
  place = e;
}

-- a token's kind and length
abbrev pub mark : (at n : ℕ) (kind : TokenKind) → Token
mark at n kind = record { kind = kind; start = at; end = at + n }

-- the first of two fronts that a token and what follows it make
pub seam_same : (word after w a : List ℕ) → word ++ after ≡ w ++ a → length word ≡ length w → (word ≡ w) × (after ≡ a)
seam_same [] after [] a e n = (refl, e)
seam_same [] after (b ∷ w) a e n = absurd (omega arith)
seam_same (b ∷ word) after [] a e n = absurd (omega arith)
seam_same (b ∷ word) after (c ∷ w) a e n =
    let tails : word ++ after ≡ w ++ a = cc in
    let heads : b ≡ c = cc in
    let both = seam_same word after w a tails (omega arith) in
    (cc, both.1)

pair_kind : (k j : TokenKind) (n m : ℕ) → ◌≡◌ {A = Option (TokenKind × ℕ)} (Some (k, n)) (Some (j, m)) → (k ≡ j) × (n ≡ m)
pair_kind k j n m e =
    let p : TokenKind × ℕ = (k, n) in
    let q : TokenKind × ℕ = (j, m) in
    let same : p ≡ q = mark_same p q e in
    (ap (λ (z : TokenKind × ℕ). z.0) same, ap (λ (z : TokenKind × ℕ). z.1) same)

token_same : (k j : TokenKind) (a b m n : ℕ) → k ≡ j → a ≡ b → m ≡ n → ◌≡◌ {A = Token} (record { kind = k; start = a; end = m }) (record { kind = j; start = b; end = n })
token_same k j a b m n e f g = rw (e, f, g) refl

token_is : (t : Token) (at n : ℕ) (kind : TokenKind) → t.kind ≡ kind → t.start ≡ at → t.end ≡ at + n → t ≡ mark at n kind
token_is t at n kind e f g = token_same t.kind kind t.start at t.end (at + n) e f g

-- what is taken at a token's place begins with it
back_more : (text : List ℕ) (at to n : ℕ) (done : List Token) (rest : List ℕ) (kind : TokenKind) (all : List Token) → Prefix text at done rest → token_at rest ≡ Some (kind, n) →
    to + length (after_gap (drop n rest)) ≡ (at + n) + length (drop n rest) → (more : List Token) × (all ≡ done ++ more) × Takes at rest more [] →
    (more : List Token) × (all ≡ (done ++ mark at n kind ∷ []) ++ more) × Takes to (after_gap (drop n rest)) more []
back_more text at to n done rest kind all f found along ([], e, s) =
    let bare : rest ≡ [] = sym f.bare ∙ after_gap-skips s in
    let here : token_at [] ≡ Some (kind, n) = ap token_at (sym bare) ∙ found in
    absurd (cc)
back_more text at to n done rest kind all f found along (token ∷ more, e, (after, t, ts)) =
    let same : rest ≡ t.word ++ after = sym f.bare ∙ (after_gap-skips t.skips ∙ token_bare token.kind t.word after t.is) in
    let again : token_at rest ≡ Some (token.kind, length t.word) = ap token_at same ∙ token_at-again token.kind t.word after t.is in
    let p = pair_kind token.kind kind (length t.word) n (sym again ∙ found) in
    let behind : drop n rest ≡ after = ap (λ k. drop k rest) (sym p.1) ∙ (ap (λ b. drop (length t.word) b) same ∙ drop-append_seam t.word after) in
    let size : length rest ≡ length (t.word ++ after) = ap length same in
    let st = t.start in
    let en = t.end in
    let k = p.1 in
    let is : token ≡ mark at n kind = token_is token at n kind p.0 (omega arith) (omega arith) in
    let ts' : Takes (at + n) (drop n rest) more [] =
    subst (λ (r : List ℕ). Takes (at + n) r more []) (sym behind) (subst (λ (x : ℕ). Takes x after more []) (ap (λ (z : Token). z.end) is) ts) in
    (more, e ∙ (ap (λ (z : Token). done ++ z ∷ more) is ∙ sym (append_assoc done (mark at n kind ∷ []) more)), gap_back (at + n) to (drop n rest) more along ts')

-- one token more, and the white space and comments behind it
prefix_more : (text : List ℕ) (at to n : ℕ) (done : List Token) (rest : List ℕ) (kind : TokenKind) →
    Prefix text at done rest → token_at rest ≡ Some (kind, n) → to + length (after_gap (drop n rest)) ≡ length text → Prefix text to (done ++ mark at n kind ∷ []) (after_gap (drop n rest))
prefix_more text at to n done rest kind f found place =
    let s = token_at-stands rest kind n f.bare found in
    let behind : drop n rest ≡ s.rest = ap (λ k. drop k rest) (sym s.count) ∙ (ap (λ b. drop (length s.word) b) s.is ∙ drop-append_seam s.word s.rest) in
    let size : length rest ≡ length s.word + length s.rest = ap length s.is ∙ length-append s.word s.rest in
    let b : length (drop n rest) ≡ length s.rest = ap length behind in
    let p = f.place in
    let c = s.count in
    let along : to + length (after_gap (drop n rest)) ≡ (at + n) + length (drop n rest) = omega arith in
    let w : length (s.word ++ s.rest) ≡ length s.word + length s.rest = length-append s.word s.rest in
    let takes : TakesToken at rest (mark at n kind) (drop n rest) =
    subst (λ (r : List ℕ). TakesToken at rest (mark at n kind) r) (sym behind)
    (record { word = s.word; skips = subst (λ (r : List ℕ). Skips r (s.word ++ s.rest)) (sym s.is) none; is = s.token; start = omega arith; end = omega arith }) in
    record {
      forth = λ more left t. subst (λ (l : List Token). Takes 0 text l left) (sym (append_assoc done (mark at n kind ∷ []) more))
          (f.forth (mark at n kind ∷ more) left (drop n rest, takes, gap_forth (at + n) to (drop n rest) more left along t));
      back = λ all t. back_more text at to n done rest kind all f found along (f.back all t);
      bare = after_gap-twice (drop n rest);
      place = place;
    }

-- at the text's end
prefix_end : (text : List ℕ) (at : ℕ) (done : List Token) (rest : List ℕ) → Prefix text at done rest → rest ≡ [] → Takes 0 text done []
prefix_end text at done rest f e = subst (λ (l : List Token). Takes 0 text l []) (append-nil done) (f.forth [] [] (none_of rest e))

only_end : (at : ℕ) (rest : List ℕ) (more : List Token) → after_gap rest ≡ rest → rest ≡ [] → Takes at rest more [] → more ≡ []
only_end at rest [] bare e t = refl
only_end at rest (token ∷ more) bare e (after, t, ts) =
    let same : rest ≡ t.word ++ after = sym bare ∙ (after_gap-skips t.skips ∙ token_bare token.kind t.word after t.is) in
    let none : [] ≡ t.word ++ after = sym e ∙ same in
    let found = token_at-again token.kind t.word after t.is in
    let here : token_at [] ≡ Some (token.kind, length t.word) = ap token_at none ∙ found in
    absurd (cc)

prefix_only : (text : List ℕ) (at : ℕ) (done : List Token) (rest : List ℕ) (all : List Token) → Prefix text at done rest → rest ≡ [] → Takes 0 text all [] → done ≡ all
prefix_only text at done rest all f e t =
    let b = f.back all t in
    let none = only_end at rest b.0 f.bare e b.2 in
    sym (b.1 ∙ (ap (λ l. done ++ l) none ∙ append-nil done))

-- at the text's end these are its tokens
pub prefix_all : (text : List ℕ) (at : ℕ) (done : List Token) (rest : List ℕ) → Prefix text at done rest → rest ≡ [] → AreAll text done
prefix_all text at done rest f e = (prefix_end text at done rest f e, λ all t. prefix_only text at done rest all f e t)

-- where no token begins
no_more : (at : ℕ) (rest : List ℕ) (more : List Token) → after_gap rest ≡ rest → rest ≢ [] → token_at rest ≡ None → Takes at rest more [] → ⊥
no_more at rest [] bare some lacks s = some (sym bare ∙ after_gap-skips s)
no_more at rest (token ∷ more) bare some lacks (after, t, ts) =
    let same : rest ≡ t.word ++ after = sym bare ∙ (after_gap-skips t.skips ∙ token_bare token.kind t.word after t.is) in
    let found = token_at-again token.kind t.word after t.is in
    let here : token_at rest ≡ Some (token.kind, length t.word) = ap token_at same ∙ found in
    absurd (cc)

prefix_none : (text : List ℕ) (at : ℕ) (done : List Token) (rest : List ℕ) (all : List Token) → Prefix text at done rest → rest ≢ [] → token_at rest ≡ None → Takes 0 text all [] → ⊥
prefix_none text at done rest all f some lacks t = let b = f.back all t in no_more at rest b.0 f.bare some lacks b.2

none_is : (rest : List ℕ) (kind : TokenKind) (word after : List ℕ) → token_at rest ≡ None → rest ≡ word ++ after → IsToken kind word after → ⊥
none_is rest kind word after lacks e t =
    let found = token_at-again kind word after t in
    let here : token_at rest ≡ Some (kind, length word) = ap token_at e ∙ found in
    absurd (cc)

prefix_fault : (text : List ℕ) (at : ℕ) (done : List Token) (rest : List ℕ) → Prefix text at done rest → rest ≢ [] → token_at rest ≡ None → NoTokenAt text at
prefix_fault text at done rest f some lacks =
    let takes : Takes at rest [] rest = none in
    record {
      tokens = done;
      rest = rest;
      takes = subst (λ (l : List Token). Takes 0 text l rest) (append-nil done) (f.forth [] rest takes);
      place = f.place;
      nothing = record { more = some; no_gap = λ r s. bare_skips f.bare s; no_token = λ kind word after e t. none_is rest kind word after lacks e t };
    }

-- there the text is refused
pub prefix_refused : (text : List ℕ) (at : ℕ) (done : List Token) (rest : List ℕ) → Prefix text at done rest → rest ≢ [] → token_at rest ≡ None → IsRefused text at
prefix_refused text at done rest f some lacks = (prefix_fault text at done rest f some lacks, λ all t. prefix_none text at done rest all f some lacks t)

-- how the code's loop begins and goes on
pub begins_with : (text rest : List ℕ) → rest ≡ after_gap text → Prefix text (length text - length rest) [] rest
begins_with text rest e =
    subst (λ (r : List ℕ). Prefix text (length text - length r) [] r) (sym e) (prefix_start text (length text - length (after_gap text)) (omega (arith, after_gap-le text)))

pub goes_on : (text rest after next : List ℕ) (at n : ℕ) (done : List Token) (kind : TokenKind) → Prefix text at done rest → token_at rest ≡ Some (kind, n) → after ≡ drop n rest → next ≡ after_gap after →
    Prefix text (length text - length next) (done ++ mark at n kind ∷ []) next
goes_on text rest after next at n done kind f found e g =
    let same : after_gap (drop n rest) ≡ next = ap after_gap (sym e) ∙ sym g in
    let p = f.place in
    let short : length next ≤ length rest = rw (← same) (le_trans (after_gap-le (drop n rest)) (omega (arith, length-drop n rest))) in
    let size : length (after_gap (drop n rest)) ≡ length next = ap length same in
    subst (λ (r : List ℕ). Prefix text (length text - length next) (done ++ mark at n kind ∷ []) r) same
    (prefix_more text at (length text - length next) n done rest kind f found (omega arith))

-- a token takes a byte at least, and no more than there are
pub token_fits : (rest : List ℕ) (n : ℕ) (kind : TokenKind) → after_gap rest ≡ rest → token_at rest ≡ Some (kind, n) → (0 < n) × (n ≤ length rest)
token_fits rest n kind bare found =
    let s = token_at-stands rest kind n bare found in
    let size : length rest ≡ length s.word + length s.rest = ap length s.is ∙ length-append s.word s.rest in
    let c = s.count in
    (s.some, omega arith)

-- what a test for emptiness says
pub nothing_left : (r : Bool) (xs : List ℕ) → r ≡ (length xs == 0) → r ≡ true → xs ≡ []
nothing_left r [] e h = refl
nothing_left r (x ∷ xs) e h = let n : suc (length xs) ≡ 0 = eqb-true (suc (length xs)) 0 (sym e ∙ h) in absurd (omega arith)

pub something_left : (r : Bool) (xs : List ℕ) → r ≡ (length xs == 0) → r ≡ false → xs ≢ []
something_left r [] e h = λ none. true≢false (sym e ∙ h)
something_left r (x ∷ xs) e h = λ none. cc

-- what a refusal behind these tokens says of the text
pub refused_memory : (text : List ℕ) (done : List Token) (lexer : List ℕ × List ℕ) (e : LexFault) → Goes done lexer (Err e) → lexer.0 ≡ text → (all : List Token) → IsTokens text all → e ≡ Memory
refused_memory text done lexer Memory g same all t = refl
refused_memory text done lexer (NoToken at) g same all t = absurd (g.1 all (subst (λ (b : List ℕ). IsTokens b all) (sym same) t))

pub refused_at : (text : List ℕ) (done : List Token) (lexer : List ℕ × List ℕ) (e : LexFault) → Goes done lexer (Err e) → lexer.0 ≡ text → (at : ℕ) → e ≡ NoToken at → NoTokenAt text at
refused_at text done lexer e g same at is =
    let there : Goes done lexer (Err (NoToken at)) = subst (λ (x : LexFault). Goes done lexer (Err x)) is g in
    subst (λ (b : List ℕ). NoTokenAt b at) same there.0

-- a token was taken, or there is none
pub taken : (done : List Token) (lexer : List ℕ × List ℕ) (found : Option Token) (t : Token) → Goes done lexer (Ok found) → found ≡ Some t → IsPrefix lexer (done ++ t ∷ [])
taken done lexer found t g e = subst (λ (o : Option Token). Goes done lexer (Ok o)) e g

pub ended : (text : List ℕ) (done : List Token) (lexer : List ℕ × List ℕ) (found : Option Token) → Goes done lexer (Ok found) → found ≡ None → lexer.0 ≡ text → AreAll text done
ended text done lexer found g e same =
    let all : AreAll lexer.0 done = subst (λ (o : Option Token). Goes done lexer (Ok o)) e g in
    subst (λ (b : List ℕ). AreAll b done) same all
