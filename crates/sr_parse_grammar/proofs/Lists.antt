-- Lists from left to right: symbols spell one at most.
use Rattle.std.proofs.Common.{◌≡◌, ℕ, Bool, false, List, [], ◌∷◌, ◌++◌, refl, sym, subst, ◌∙◌, append_assoc, inl, inr}
use Rattle.std.proofs.lemmas.List.{append-nil}
use Rattle.sr_parse_grammar.specs.declared.symbol.Sign.TheVariants as sign
use Rattle.sr_parse_grammar.specs.declared.symbol.Symbol.{Symbol}
use Rattle.sr_parse_grammar.specs.declared.symbol.Symbol.TheVariants as symbol
use Rattle.sr_parse_grammar.specs.Symbols.{Symbols, IsName, IsSign}
use Rattle.sr_parse_grammar.specs.Listing.{Listed, Row, IsNameList, IsNames}
use Rattle.sr_parse_grammar.specs.Listing.Listed.{one, more}
use Rattle.sr_parse_grammar.specs.Listing.Row.{none, then}
use Rattle.sr_parse_grammar.specs.Inner.Going.{Stop, is_comma, is_open, Ends, Closes}
use Rattle.sr_parse_grammar.proofs.Steps.{Stop-at, Stop-begins, IsName-once, Once, onward}

-- what a list has behind its first item, with commas, and the whole of it
pub data Behind {A : Type 0} (X : Symbols → A → Symbols → Type 0) : Symbols → List A → Symbols → Type 0 where
  no_more : {after : Symbols} → Behind X after [] after
  one_more : {before next middle after : Symbols} {x : A} {xs : List A} → IsSign before sign.Comma next → X next x middle → Behind X middle xs after → Behind X before (x ∷ xs) after

pub data Whole {A : Type 0} (X : Symbols → A → Symbols → Type 0) : Symbols → List A → Symbols → Type 0 where
  items : {before middle after : Symbols} {x : A} {xs : List A} → X before x middle → Behind X middle xs after → Whole X before (x ∷ xs) after

-- items, one behind the other
pub data File {A : Type 0} (X : Symbols → A → Symbols → Type 0) : Symbols → List A → Symbols → Type 0 where
  empty : {after : Symbols} → File X after [] after
  first : {before middle after : Symbols} {x : A} {xs : List A} → X before x middle → File X middle xs after → File X before (x ∷ xs) after

pub whole : {A : Type 0} {X : Symbols → A → Symbols → Type 0} {before middle after : Symbols} {xs ys : List A} → Listed X before xs middle → Behind X middle ys after → Whole X before (xs ++ ys) after
whole (one h) b = items h b
whole {X = X} {before = before} {after = after} {ys = ys} (more {xs = xs} {x = x} hs c h) b =
    subst (λ l. Whole X before l after) (sym (append_assoc xs (x ∷ []) ys)) (whole hs (one_more c h b))

pub filed : {A : Type 0} {X : Symbols → A → Symbols → Type 0} {before middle after : Symbols} {xs ys : List A} → Row X before xs middle → File X middle ys after → File X before (xs ++ ys) after
filed none b = b
filed {X = X} {before = before} {after = after} {ys = ys} (then {xs = xs} {x = x} hs h) b =
    subst (λ l. File X before l after) (sym (append_assoc xs (x ∷ []) ys)) (filed hs (first h b))

-- where a list with commas ends, and where items one behind the other do
pub record Last {A : Type 0} (X : Symbols → A → Symbols → Type 0) (P : Symbols → Type 0) (after : Symbols) : Type 0 where
  pub stops : P after
  pub ends : (next : Symbols) (y : A) (rest : Symbols) → IsSign after sign.Comma next → X next y rest → ⊥

pub record End {A : Type 0} (X : Symbols → A → Symbols → Type 0) (P : Symbols → Type 0) (after : Symbols) : Type 0 where
  pub stops : P after
  pub ends : (y : A) (rest : Symbols) → X after y rest → ⊥

pub behind_stops : {A : Type 0} {X : Symbols → A → Symbols → Type 0} (P : Symbols → Type 0) → ((b n : Symbols) → IsSign b sign.Comma n → P b)
    → {before after : Symbols} {xs : List A} → Behind X before xs after → P after → P before
behind_stops P comma no_more p = p
behind_stops P comma (one_more {before = b} {next = n} c h others) p = comma b n c

behind_once : {A : Type 0} {X : Symbols → A → Symbols → Type 0} (P : Symbols → Type 0) → Once X P → ((b n : Symbols) → IsSign b sign.Comma n → P b)
    → {before after rest : Symbols} {xs ys : List A} → Behind X before xs after → Behind X before ys rest → Last X P after → Last X P rest → (xs ≡ ys) × (after ≡ rest)
behind_once P once comma no_more no_more p q = (refl, refl)
behind_once P once comma no_more (one_more c h others) p q = absurd (p.ends _ _ _ c h)
behind_once P once comma (one_more c h others) no_more p q = absurd (q.ends _ _ _ c h)
behind_once {X = X} P once comma (one_more {next = next} {middle = middle} {x = x} c h others) (one_more {next = here} {middle = middle'} {after = rest} {x = y} {xs = ys} c' h' others') p q =
    let same : next ≡ here = cc in
    let s = onward X P once next here x middle y middle' same h h' (behind_stops P comma others p.stops) (behind_stops P comma others' q.stops) in
    let r = behind_once P once comma others (subst (λ (b : Symbols). Behind X b ys rest) (sym s.1) others') p q in
    let e = s.0 in let f = r.0 in (cc, r.1)

whole_once : {A : Type 0} {X : Symbols → A → Symbols → Type 0} (P : Symbols → Type 0) → Once X P → ((b n : Symbols) → IsSign b sign.Comma n → P b)
    → {before after rest : Symbols} {xs ys : List A} → Whole X before xs after → Whole X before ys rest → Last X P after → Last X P rest → (xs ≡ ys) × (after ≡ rest)
whole_once {X = X} P once comma (items {before = before} {middle = middle} {x = x} h others) (items {middle = middle'} {after = rest} {x = y} {xs = ys} h' others') p q =
    let s = once before x middle y middle' h h' (behind_stops P comma others p.stops) (behind_stops P comma others' q.stops) in
    let r = behind_once P once comma others (subst (λ (b : Symbols). Behind X b ys rest) (sym s.1) others') p q in
    let e = s.0 in let f = r.0 in (cc, r.1)

pub Listed-once : {A : Type 0} (X : Symbols → A → Symbols → Type 0) (P : Symbols → Type 0) → Once X P → ((b n : Symbols) → IsSign b sign.Comma n → P b)
    → {before here after rest : Symbols} {xs ys : List A} → before ≡ here → Listed X before xs after → Listed X here ys rest → Last X P after → Last X P rest → (xs ≡ ys) × (after ≡ rest)
Listed-once X P once comma {before = before} {after = after} {rest = rest} {xs = xs} {ys = ys} e h k p q =
    let k' = subst (λ (b : Symbols). Listed X b ys rest) (sym e) k in
    whole_once P once comma
    (subst (λ l. Whole X before l after) (append-nil xs) (whole h no_more)) (subst (λ l. Whole X before l rest) (append-nil ys) (whole k' no_more)) p q

pub Listed-begins : {A : Type 0} {X : Symbols → A → Symbols → Type 0} (P : Symbols → Type 0) → ((b : Symbols) (x : A) (a : Symbols) → X b x a → P b)
    → {before after : Symbols} {xs : List A} → Listed X before xs after → P before
Listed-begins P begins (one {before = b} {after = a} {x = x} h) = begins b x a h
Listed-begins P begins (more hs c h) = Listed-begins P begins hs

pub Row-begins : {A : Type 0} {X : Symbols → A → Symbols → Type 0} (P : Symbols → Type 0) → ((b : Symbols) (x : A) (a : Symbols) → X b x a → P b)
    → {before after : Symbols} {xs : List A} → Row X before xs after → P after → P before
Row-begins P begins none p = p
Row-begins P begins (then {middle = b} {after = a} {x = x} hs h) p = Row-begins P begins hs (begins b x a h)

pub file_begins : {A : Type 0} {X : Symbols → A → Symbols → Type 0} (P : Symbols → Type 0) → ((b : Symbols) (x : A) (a : Symbols) → X b x a → P b)
    → {before after : Symbols} {xs : List A} → File X before xs after → P after → P before
file_begins P begins empty p = p
file_begins P begins (first {before = b} {middle = a} {x = x} h others) p = begins b x a h

file_once : {A : Type 0} {X : Symbols → A → Symbols → Type 0} (P : Symbols → Type 0) → Once X P → ((b : Symbols) (x : A) (a : Symbols) → X b x a → P b)
    → {before after rest : Symbols} {xs ys : List A} → File X before xs after → File X before ys rest → End X P after → End X P rest → (xs ≡ ys) × (after ≡ rest)
file_once P once begins empty empty p q = (refl, refl)
file_once P once begins empty (first h others) p q = absurd (p.ends _ _ h)
file_once P once begins (first h others) empty p q = absurd (q.ends _ _ h)
file_once {X = X} P once begins (first {before = before} {middle = middle} {x = x} h others) (first {middle = middle'} {after = rest} {x = y} {xs = ys} h' others') p q =
    let s = once before x middle y middle' h h' (file_begins P begins others p.stops) (file_begins P begins others' q.stops) in
    let r = file_once P once begins others (subst (λ (b : Symbols). File X b ys rest) (sym s.1) others') p q in
    let e = s.0 in let f = r.0 in (cc, r.1)

pub Row-once : {A : Type 0} (X : Symbols → A → Symbols → Type 0) (P : Symbols → Type 0) → Once X P → ((b : Symbols) (x : A) (a : Symbols) → X b x a → P b)
    → {before here after rest : Symbols} {xs ys : List A} → before ≡ here → Row X before xs after → Row X here ys rest → End X P after → End X P rest → (xs ≡ ys) × (after ≡ rest)
Row-once X P once begins {before = before} {after = after} {rest = rest} {xs = xs} {ys = ys} e h k p q =
    let k' = subst (λ (b : Symbols). Row X b ys rest) (sym e) k in
    file_once P once begins
    (subst (λ l. File X before l after) (append-nil xs) (filed h empty)) (subst (λ l. File X before l rest) (append-nil ys) (filed k' empty)) p q

-- anything may follow
abbrev pub Any : Symbols → Type 0
Any after = Unit {0}

pub last : {A : Type 0} (X : Symbols → A → Symbols → Type 0) (P : Symbols → Type 0) {after : Symbols} → P after → Stop is_comma after → Last X P after
last X P p s = record { stops = p; ends = λ next y rest c h. Stop-begins is_comma c refl s }

pub Ends-stop : (test : Symbol → Bool) (after : Symbols) → test (symbol.Sign sign.Semicolon) ≡ false → Ends after → Stop test after
Ends-stop test after e (inl n) = subst (λ (s : Symbols). Stop test s) (sym n) tt
Ends-stop test after e (inr (next, n)) = Stop-at test n e

pub name_once : Once IsName Any
name_once before x after y rest h k p q = IsName-once refl h k

pub NamesListed-once : {before here after rest : Symbols} {xs ys : List (List ℕ)} → before ≡ here → Listed IsName before xs after → Listed IsName here ys rest → Stop is_comma after → Stop is_comma rest → (xs ≡ ys) × (after ≡ rest)
NamesListed-once e h k p q = Listed-once IsName Any name_once (λ b n c. tt) e h k (last IsName Any tt p) (last IsName Any tt q)

pub IsNameList-once : {before here after rest : Symbols} {xs ys : List (List ℕ)} → before ≡ here → IsNameList before xs after → IsNameList here ys rest → (xs ≡ ys) × (after ≡ rest)
IsNameList-once e h k =
    let ho = h.opened in let ko = k.opened in let hc = h.closed in let kc = k.closed in
    let s = NamesListed-once (cc) h.listed k.listed (Stop-at is_comma hc refl) (Stop-at is_comma kc refl) in
    let f = s.1 in (s.0, cc)

pub IsNames-once : (before here : Symbols) (xs : List (List ℕ)) (after : Symbols) (ys : List (List ℕ)) (rest : Symbols) → before ≡ here → IsNames before xs after → IsNames here ys rest → Stop is_open after → Stop is_open rest → (xs ≡ ys) × (after ≡ rest)
IsNames-once before here xs after ys rest e (inl (n, a)) (inl (m, b)) p q = (cc, cc)
IsNames-once before here xs after ys rest e (inl (n, a)) (inr k) p q = absurd (Stop-begins is_open (sym a ∙ (e ∙ k.opened)) refl p)
IsNames-once before here xs after ys rest e (inr h) (inl (m, b)) p q = absurd (Stop-begins is_open (sym b ∙ (sym e ∙ h.opened)) refl q)
IsNames-once before here xs after ys rest e (inr h) (inr k) p q = IsNameList-once e h k

pub Closes-stop : (test : Symbol → Bool) (after : Symbols) → test (symbol.Sign sign.Comma) ≡ false → test (symbol.Sign sign.Close) ≡ false → Closes after → Stop test after
Closes-stop test after t u (inl (next, c)) = Stop-at test c t
Closes-stop test after t u (inr (next, c)) = Stop-at test c u

pub closing : {A : Type 0} (X : Symbols → A → Symbols → Type 0) {after next : Symbols} → IsSign after sign.Close next → Last X Closes after
closing X {next = next} c = record { stops = inr (next, c); ends = λ other y rest d h. cc }
