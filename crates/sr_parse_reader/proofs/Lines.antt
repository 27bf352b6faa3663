-- Lists as a reader goes through them: each list from the start goes on where the reader stands.
use Rattle.std.proofs.Common.{◌≡◌, ◌+◌, ◌<◌, length, arith, ap, length-append, List, [], ◌∷◌, ◌++◌, refl, sym, subst, ◌∙◌, append_assoc}
use Rattle.std.proofs.lemmas.List.{append-nil}
use Rattle.sr_parse_reader.specs.declared.reader.Broken.{Broken}
use Rattle.sr_parse_reader.specs.declared.reader.Broken.TheVariants.{Memory}
use Rattle.sr_parse_grammar.specs.declared.symbol.Sign.TheVariants as sign
use Rattle.sr_parse_grammar.specs.Symbols.{Symbols, IsSign}
use Rattle.sr_parse_grammar.specs.Listing.{Listed, Row}
use Rattle.sr_parse_grammar.specs.Inner.Going.{Stop, is_comma}
use Rattle.sr_parse_grammar.proofs.Steps.{Stop-begins}
use Rattle.sr_parse_grammar.proofs.Lists.{Behind, Whole, File, whole, filed, behind_stops, file_begins}
use Rattle.sr_parse_grammar.proofs.Lists.Behind.{no_more, one_more}
use Rattle.sr_parse_grammar.proofs.Lists.Whole.{items}
use Rattle.sr_parse_grammar.proofs.Lists.File.{empty, first}

-- what the symbols spell of a production, where it ends with the property, is this value, and ends here
abbrev pub Finds : {A : Type 0} → (Symbols → A → Symbols → Type 0) → (Symbols → Type 0) → Symbols → A → Symbols → Type 0
Finds {A = A} X P before value after = (x : A) (rest : Symbols) → X before x rest → P rest → (value ≡ x) × (after ≡ rest)

-- where they spell something, memory ended
abbrev pub Misses : {A : Type 0} → (Symbols → A → Symbols → Type 0) → (Symbols → Type 0) → Symbols → Broken → Type 0
Misses {A = A} X P before e = (x : A) (rest : Symbols) → X before x rest → P rest → e ≡ Memory

-- a production may end before a comma
abbrev pub Commas : (Symbols → Type 0) → Type 0
Commas P = (before next : Symbols) → IsSign before sign.Comma next → P before

-- with commas: each list from the start begins with what was read, and goes on here
abbrev pub Goes : {A : Type 0} → (Symbols → A → Symbols → Type 0) → (Symbols → Type 0) → Symbols → List A → Symbols → Type 0
Goes {A = A} X P start read here = (xs : List A) (rest : Symbols) → Listed X start xs rest → P rest → Stop is_comma rest → (others : List A) × (xs ≡ read ++ others) × Behind X here others rest

to_whole : {A : Type 0} (X : Symbols → A → Symbols → Type 0) {start rest : Symbols} {xs : List A} → Listed X start xs rest → Whole X start xs rest
to_whole X {start = start} {rest = rest} {xs = xs} h = subst (λ l. Whole X start l rest) (append-nil xs) (whole h no_more)

whole_begun : {A : Type 0} (X : Symbols → A → Symbols → Type 0) (P : Symbols → Type 0) → Commas P → {start here rest : Symbols} {y : A} {read xs : List A}
    → Finds X P start y here → read ≡ y ∷ [] → Whole X start xs rest → P rest → (others : List A) × (xs ≡ read ++ others) × Behind X here others rest
whole_begun X P comma {rest = rest} f e (items {middle = middle} {x = x} {xs = others} h b) p =
    let s = f x middle h (behind_stops P comma b p) in let same = s.0 in
    (others, subst (λ l. x ∷ others ≡ l ++ others) (sym e) (cc), subst (λ (at : Symbols). Behind X at others rest) (sym s.1) b)

-- the first item was read
pub Listed-begun : {A : Type 0} (X : Symbols → A → Symbols → Type 0) (P : Symbols → Type 0) → Commas P → {start here : Symbols} {y : A} {read : List A}
    → Finds X P start y here → read ≡ y ∷ [] → Goes X P start read here
Listed-begun X P comma f e xs rest h p s = whole_begun X P comma f e (to_whole X h) p

whole_unread : {A : Type 0} (X : Symbols → A → Symbols → Type 0) (P : Symbols → Type 0) → Commas P → {start rest : Symbols} {e : Broken} {xs : List A}
    → Misses X P start e → Whole X start xs rest → P rest → e ≡ Memory
whole_unread X P comma m (items {middle = middle} {x = x} h b) p = m x middle h (behind_stops P comma b p)

-- the first item was not read
pub Listed-unread : {A : Type 0} (X : Symbols → A → Symbols → Type 0) (P : Symbols → Type 0) → Commas P → {start : Symbols} {e : Broken}
    → Misses X P start e → (xs : List A) (rest : Symbols) → Listed X start xs rest → P rest → Stop is_comma rest → e ≡ Memory
Listed-unread X P comma m xs rest h p s = whole_unread X P comma m (to_whole X h) p

behind_on : {A : Type 0} (X : Symbols → A → Symbols → Type 0) (P : Symbols → Type 0) → Commas P → {here next after rest : Symbols} {y : A} (read on xs others : List A)
    → xs ≡ read ++ others → Behind X here others rest → IsSign here sign.Comma next → Finds X P next y after → on ≡ read ++ y ∷ [] → P rest → Stop is_comma rest
    → (left : List A) × (xs ≡ on ++ left) × Behind X after left rest
behind_on X P comma read on xs others e no_more c f g p s = absurd (Stop-begins is_comma c refl s)
behind_on X P comma {next = next} {rest = rest} {y = y} read on xs others e (one_more {next = at} {middle = middle} {x = x} {xs = left} d h b) c f g p s =
    let same : at ≡ next = cc in
    let found = f x middle (subst (λ (b : Symbols). X b x middle) same h) (behind_stops P comma b p) in
    let value : x ≡ y = sym found.0 in
    let moved : xs ≡ read ++ (y ∷ left) = subst (λ v. xs ≡ read ++ (v ∷ left)) value e in
    (left, subst (λ l. xs ≡ l ++ left) (sym g) (rw append_assoc moved), subst (λ (b : Symbols). Behind X b left rest) (sym found.1) b)

-- a comma was taken, and one item more was read
pub Listed-on : {A : Type 0} (X : Symbols → A → Symbols → Type 0) (P : Symbols → Type 0) → Commas P → {start here next after : Symbols} {y : A} (read : List A) {on : List A}
    → Goes X P start read here → IsSign here sign.Comma next → Finds X P next y after → on ≡ read ++ y ∷ [] → Goes X P start on after
Listed-on X P comma read {on = on} goes c f g xs rest h p s = let r = goes xs rest h p s in behind_on X P comma read on xs r.0 r.1 r.2 c f g p s

behind_missed : {A : Type 0} (X : Symbols → A → Symbols → Type 0) (P : Symbols → Type 0) → Commas P → {here next rest : Symbols} {e : Broken} {others : List A}
    → Behind X here others rest → IsSign here sign.Comma next → Misses X P next e → P rest → Stop is_comma rest → e ≡ Memory
behind_missed X P comma no_more c m p s = absurd (Stop-begins is_comma c refl s)
behind_missed X P comma {next = next} (one_more {next = at} {middle = middle} {x = x} d h b) c m p s =
    let same : at ≡ next = cc in m x middle (subst (λ (b : Symbols). X b x middle) same h) (behind_stops P comma b p)

-- a comma was taken, and no item was read behind it
pub Listed-missed : {A : Type 0} (X : Symbols → A → Symbols → Type 0) (P : Symbols → Type 0) → Commas P → {start here next : Symbols} {e : Broken} (read : List A)
    → Goes X P start read here → IsSign here sign.Comma next → Misses X P next e → (xs : List A) (rest : Symbols) → Listed X start xs rest → P rest → Stop is_comma rest → e ≡ Memory
Listed-missed X P comma read goes c m xs rest h p s = let r = goes xs rest h p s in behind_missed X P comma r.2 c m p s

behind_done : {A : Type 0} (X : Symbols → A → Symbols → Type 0) {here there rest : Symbols} {read xs others : List A}
    → xs ≡ read ++ others → Behind X here others rest → ((next : Symbols) → IsSign here sign.Comma next → ⊥) → there ≡ here → (read ≡ xs) × (there ≡ rest)
behind_done X {read = read} e no_more absent k = (sym (rw append-nil at e), k)
behind_done X e (one_more c h b) absent k = absurd (absent _ c)

-- no comma is next: the list was read
pub Listed-done : {A : Type 0} (X : Symbols → A → Symbols → Type 0) (P : Symbols → Type 0) → {start here there : Symbols} {read : List A}
    → Goes X P start read here → ((next : Symbols) → IsSign here sign.Comma next → ⊥) → there ≡ here
    → (xs : List A) (rest : Symbols) → Listed X start xs rest → P rest → Stop is_comma rest → (read ≡ xs) × (there ≡ rest)
Listed-done X P goes absent k xs rest h p s = let r = goes xs rest h p s in behind_done X r.1 r.2 absent k

-- one behind the other: each list from the start begins with what was read, and goes on here
abbrev pub Runs : {A : Type 0} → (Symbols → A → Symbols → Type 0) → (Symbols → Type 0) → Symbols → List A → Symbols → Type 0
Runs {A = A} X Q start read here = (xs : List A) (rest : Symbols) → Row X start xs rest → Q rest → (others : List A) × (xs ≡ read ++ others) × File X here others rest

-- a production may end where another of its kind begins
abbrev pub Begun : {A : Type 0} → (Symbols → A → Symbols → Type 0) → (Symbols → Type 0) → Type 0
Begun {A = A} X P = (before : Symbols) (x : A) (after : Symbols) → X before x after → P before

-- nothing was read
pub Row-begun : {A : Type 0} (X : Symbols → A → Symbols → Type 0) (Q : Symbols → Type 0) {start : Symbols} {read : List A} → read ≡ [] → Runs X Q start read start
Row-begun X Q {start = start} e xs rest h q =
    (xs, subst (λ l. xs ≡ l ++ xs) (sym e) refl, subst (λ l. File X start l rest) (append-nil xs) (filed h empty))

file_on : {A : Type 0} (X : Symbols → A → Symbols → Type 0) (P Q : Symbols → Type 0) → Begun X P → ((after : Symbols) → Q after → P after) → {here after rest : Symbols} {y : A} (read on xs others : List A)
    → xs ≡ read ++ others → File X here others rest → (Q here → ⊥) → Finds X P here y after → on ≡ read ++ y ∷ [] → Q rest
    → (left : List A) × (xs ≡ on ++ left) × File X after left rest
file_on X P Q begun ends read on xs others e empty goes f g q = absurd (goes q)
file_on X P Q begun ends {rest = rest} {y = y} read on xs others e (first {middle = middle} {x = x} {xs = left} h b) goes f g q =
    let found = f x middle h (file_begins P begun b (ends rest q)) in
    let value : x ≡ y = sym found.0 in
    let moved : xs ≡ read ++ (y ∷ left) = subst (λ v. xs ≡ read ++ (v ∷ left)) value e in
    (left, subst (λ l. xs ≡ l ++ left) (sym g) (rw append_assoc moved), subst (λ (b : Symbols). File X b left rest) (sym found.1) b)

-- one item more was read, at symbols before which the list does not end
pub Row-on : {A : Type 0} (X : Symbols → A → Symbols → Type 0) (P Q : Symbols → Type 0) → Begun X P → ((after : Symbols) → Q after → P after) → {start here after : Symbols} {y : A} (read : List A) {on : List A}
    → Runs X Q start read here → (Q here → ⊥) → Finds X P here y after → on ≡ read ++ y ∷ [] → Runs X Q start on after
Row-on X P Q begun ends read {on = on} runs goes f g xs rest h q = let r = runs xs rest h q in file_on X P Q begun ends read on xs r.0 r.1 r.2 goes f g q

file_missed : {A : Type 0} (X : Symbols → A → Symbols → Type 0) (P Q : Symbols → Type 0) → Begun X P → ((after : Symbols) → Q after → P after) → {here rest : Symbols} {e : Broken} {others : List A}
    → File X here others rest → (Q here → ⊥) → Misses X P here e → Q rest → e ≡ Memory
file_missed X P Q begun ends empty goes m q = absurd (goes q)
file_missed X P Q begun ends {rest = rest} (first {middle = middle} {x = x} h b) goes m q = m x middle h (file_begins P begun b (ends rest q))

-- no item was read, at symbols before which the list does not end
pub Row-missed : {A : Type 0} (X : Symbols → A → Symbols → Type 0) (P Q : Symbols → Type 0) → Begun X P → ((after : Symbols) → Q after → P after) → {start here : Symbols} {e : Broken} (read : List A)
    → Runs X Q start read here → (Q here → ⊥) → Misses X P here e → (xs : List A) (rest : Symbols) → Row X start xs rest → Q rest → e ≡ Memory
Row-missed X P Q begun ends read runs goes m xs rest h q = let r = runs xs rest h q in file_missed X P Q begun ends r.2 goes m q

file_done : {A : Type 0} (X : Symbols → A → Symbols → Type 0) {here rest : Symbols} {read xs others : List A}
    → xs ≡ read ++ others → File X here others rest → ((x : A) (next : Symbols) → X here x next → ⊥) → (read ≡ xs) × (here ≡ rest)
file_done X e empty absent = (sym (rw append-nil at e), refl)
file_done X e (first h b) absent = absurd (absent _ _ h)

-- no item is next: the list was read
pub Row-done : {A : Type 0} (X : Symbols → A → Symbols → Type 0) (Q : Symbols → Type 0) {start here : Symbols} {read : List A}
    → Runs X Q start read here → ((x : A) (next : Symbols) → X here x next → ⊥) → (xs : List A) (rest : Symbols) → Row X start xs rest → Q rest → (read ≡ xs) × (here ≡ rest)
Row-done X Q runs absent xs rest h q = let r = runs xs rest h q in file_done X r.1 r.2 absent

file_more : {A : Type 0} (X : Symbols → A → Symbols → Type 0) (Q : Symbols → Type 0) {here rest : Symbols} (read xs others : List A)
    → xs ≡ read ++ others → File X here others rest → (Q here → ⊥) → Q rest → length read < length xs
file_more X Q read xs others e empty goes q = absurd (goes q)
file_more X Q read xs others e (first {x = x} {xs = left} h b) goes q =
    let l : length xs ≡ length read + length (x ∷ left) = ap length e ∙ length-append read (x ∷ left) in omega arith

-- at symbols before which the list does not end, it has more than was read
pub Row-more : {A : Type 0} (X : Symbols → A → Symbols → Type 0) (Q : Symbols → Type 0) {start here : Symbols} (read : List A)
    → Runs X Q start read here → (Q here → ⊥) → (xs : List A) (rest : Symbols) → Row X start xs rest → Q rest → length read < length xs
Row-more X Q read runs goes xs rest h q = let r = runs xs rest h q in file_more X Q read xs r.0 r.1 r.2 goes q
