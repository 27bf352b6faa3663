-- Lists that begin alike.
use Rattle.std.proofs.Common.{◌≡◌, ℕ, ◌+◌, ◌<◌, ◌⊎◌, List, [], ◌∷◌, ◌++◌, length, take, drop, get_or, refl, sym, ap, ◌∙◌, arith, append_assoc, subst, Result, Ok, Err}
use Rattle.std.specs.List.{AllByRecursion}
use Rattle.std.specs.Prelude.{IfOk}
use Rattle.std.proofs.lemmas.List.{take_more, take_at, drop_at, append-nil}

-- two ways to part a list at one place are one
pub same_parts : {A : Type 0} (a b c d : List A) → length a ≡ length c → a ++ b ≡ c ++ d → (a ≡ c) × (b ≡ d)
same_parts a b c d same e = (
  sym (take_at a b (length a) refl) ∙ ap (take (length a)) e ∙ take_at c d (length a) (sym same),
  sym (drop_at a b (length a) refl) ∙ ap (drop (length a)) e ∙ drop_at c d (length a) (sym same),
)

-- the shorter of two prefixes of a list begins the longer one
pub longer_prefix : {A : Type 0} (a b c d : List A) → length a < length c → a ++ b ≡ c ++ d → (x : A) × (more : List A) × (c ≡ a ++ x ∷ more) × (b ≡ x ∷ (more ++ d))
longer_prefix [] b [] d lt e = absurd (omega arith)
longer_prefix [] b (x ∷ c) d lt e = (x, c, refl, e)
longer_prefix (y ∷ a) b [] d lt e = absurd (omega arith)
longer_prefix (y ∷ a) b (z ∷ c) d lt e =
    let head : y ≡ z = cc in
    let tail : a ++ b ≡ c ++ d = cc in
    let more = longer_prefix a b c d (omega arith) tail in
    (more.0, more.1, cc (head, more.2), more.3)

pub three_ways : (a b : ℕ) → (a < b) ⊎ ((a ≡ b) ⊎ (b < a))
three_ways a b = grind arith

pub AllByRecursion-append : {A : Type 0} (P : A → Type 0) (xs ys : List A) → AllByRecursion P xs → AllByRecursion P ys → AllByRecursion P (xs ++ ys)
AllByRecursion-append P [] ys h k = k
AllByRecursion-append P (x ∷ xs) ys h k = (h.0, AllByRecursion-append P xs ys h.1 k)

pub AllByRecursion-prefix : {A : Type 0} (P : A → Type 0) (xs ys : List A) → AllByRecursion P (xs ++ ys) → AllByRecursion P xs
AllByRecursion-prefix P [] ys h = tt
AllByRecursion-prefix P (x ∷ xs) ys h = (h.0, AllByRecursion-prefix P xs ys h.1)

pub AllByRecursion-back : {A : Type 0} (P : A → Type 0) (xs ys : List A) → AllByRecursion P (xs ++ ys) → AllByRecursion P ys
AllByRecursion-back P [] ys h = h
AllByRecursion-back P (x ∷ xs) ys h = AllByRecursion-back P xs ys h.1

pub AllByRecursion-map : {A : Type 0} (P Q : A → Type 0) (xs : List A) → ((x : A) → P x → Q x) → AllByRecursion P xs → AllByRecursion Q xs
AllByRecursion-map P Q [] f h = tt
AllByRecursion-map P Q (x ∷ xs) f h = (f x h.0, AllByRecursion-map P Q xs f h.1)

-- what holds of nothing, and of one more wherever it holds, holds of every list
by_more_on : {A : Type 0} (P : List A → Type 0) → ((xs : List A) (x : A) → P xs → P (xs ++ x ∷ [])) → (done rest : List A) → P done → P (done ++ rest)
by_more_on P more done [] h = subst P (sym (append-nil done)) h
by_more_on P more done (x ∷ rest) h = subst P (append_assoc done (x ∷ []) rest) (by_more_on P more (done ++ x ∷ []) rest (more done x h))

pub by_one_more : {A : Type 0} (P : List A → Type 0) → P [] → ((xs : List A) (x : A) → P xs → P (xs ++ x ∷ [])) → (xs : List A) → P xs
by_one_more P none more xs = by_more_on P more [] xs none

-- what holds of an answer, in other words
pub if_ok_map : {A E : Type 0} {P Q : A → Type 0} (r : Result A E) → ((x : A) → P x → Q x) → IfOk r P → IfOk r Q
if_ok_map (Ok x) f h = f x h
if_ok_map (Err e) f h = tt

-- one item more of a list
pub take_item : {A : Type 0} (xs : List A) (i : ℕ) (x : A) → i < length xs → x ≡ get_or xs i x → take (i + 1) xs ≡ take i xs ++ x ∷ []
take_item xs i x lt is = take_more xs i x lt ∙ ap (λ y. take i xs ++ y ∷ []) (sym is)
