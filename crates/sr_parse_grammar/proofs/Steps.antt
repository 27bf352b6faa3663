-- What may follow a production, and readings that are the same.
use Rattle.std.proofs.Common.{◌≡◌, ℕ, Bool, true, false, List, [], ◌∷◌, Some, sym, subst}
use Rattle.sr_parse_grammar.specs.declared.symbol.Symbol.{Symbol}
use Rattle.sr_parse_grammar.specs.Symbols.{Symbols, name_meant, IsName}
use Rattle.sr_parse_grammar.specs.Inner.Going.{Stop, Begins}

pub Stop-at : (test : Symbol → Bool) {before after : Symbols} {s : Symbol} → before ≡ s ∷ after → test s ≡ false → Stop test before
Stop-at test e h = subst (λ (b : Symbols). Stop test b) (sym e) h

pub Begins-at : (test : Symbol → Bool) {before after : Symbols} {s : Symbol} → before ≡ s ∷ after → test s ≡ true → Begins test before
Begins-at test e h = subst (λ (b : Symbols). Begins test b) (sym e) h

pub Stop-fewer : (wide test : Symbol → Bool) (before : Symbols) → ((s : Symbol) → wide s ≡ false → test s ≡ false) → Stop wide before → Stop test before
Stop-fewer wide test [] fewer h = tt
Stop-fewer wide test (s ∷ after) fewer h = fewer s h

pub Begins-more : (test wide : Symbol → Bool) (before : Symbols) → ((s : Symbol) → test s ≡ true → wide s ≡ true) → Begins test before → Begins wide before
Begins-more test wide [] more h = h
Begins-more test wide (s ∷ after) more h = more s h

-- what stops is no begin
pub Stop-begins : (test : Symbol → Bool) {before after : Symbols} {s : Symbol} → before ≡ s ∷ after → test s ≡ true → Stop test before → ⊥
Stop-begins test {after = after} {s = s} e h stop =
    let stays : test s ≡ false = subst (λ (b : Symbols). Stop test b) e stop in
    let clash : true ≡ false = cc in absurd (cc)

pub Begins-not : (test : Symbol → Bool) {before after : Symbols} {s : Symbol} → before ≡ s ∷ after → test s ≡ false → Begins test before → ⊥
Begins-not test {after = after} {s = s} e h begins =
    let stays : test s ≡ true = subst (λ (b : Symbols). Begins test b) e begins in
    let clash : true ≡ false = cc in absurd (cc)

-- two readings from one place are the same, where each ends at a place with the property
abbrev pub Once : {A : Type 0} → (Symbols → A → Symbols → Type 0) → (Symbols → Type 0) → Type 0
Once {A = A} X P = (before : Symbols) (x : A) (after : Symbols) (y : A) (rest : Symbols) → X before x after → X before y rest → P after → P rest → (x ≡ y) × (after ≡ rest)

pub onward : {A : Type 0} (X : Symbols → A → Symbols → Type 0) (P : Symbols → Type 0) → Once X P
    → (before here : Symbols) (x : A) (after : Symbols) (y : A) (rest : Symbols) → before ≡ here → X before x after → X here y rest → P after → P rest → (x ≡ y) × (after ≡ rest)
onward X P once before here x after y rest e h k p q = once before x after y rest h (subst (λ (s : Symbols). X s y rest) (sym e) k) p q

-- a name is read in one way
pub IsName-once : {before here after rest : Symbols} {x y : List ℕ} → before ≡ here → IsName before x after → IsName here y rest → (x ≡ y) × (after ≡ rest)
IsName-once {x = x} {y = y} e h k =
    let same : h.word ≡ k.word = let s = h.stands in let t = k.stands in cc in
    let meant : name_meant h.word ≡ Some y = subst (λ (w : Symbol). name_meant w ≡ Some y) (sym same) k.means in
    let m = h.means in let s = h.stands in let t = k.stands in (cc, cc)

-- a value made of equal parts
pub two_parts : {A B R : Type 0} (f : A → B → R) {a x : A} {b y : B} → a ≡ x → b ≡ y → f a b ≡ f x y
two_parts f p q = cc

pub three_parts : {A B C R : Type 0} (f : A → B → C → R) {a x : A} {b y : B} {c z : C} → a ≡ x → b ≡ y → c ≡ z → f a b c ≡ f x y z
three_parts f p q r = cc

pub four_parts : {A B C D R : Type 0} (f : A → B → C → D → R) {a x : A} {b y : B} {c z : C} {d w : D} → a ≡ x → b ≡ y → c ≡ z → d ≡ w → f a b c d ≡ f x y z w
four_parts f p q r s = cc

pub five_parts : {A B C D E R : Type 0} (f : A → B → C → D → E → R) {a x : A} {b y : B} {c z : C} {d w : D} {e v : E} → a ≡ x → b ≡ y → c ≡ z → d ≡ w → e ≡ v → f a b c d e ≡ f x y z w v
five_parts f p q r s t = cc

pub six_parts : {A B C D E F R : Type 0} (f : A → B → C → D → E → F → R) {a x : A} {b y : B} {c z : C} {d w : D} {e v : E} {g u : F} → a ≡ x → b ≡ y → c ≡ z → d ≡ w → e ≡ v → g ≡ u → f a b c d e g ≡ f x y z w v u
six_parts f p q r s t o = cc
