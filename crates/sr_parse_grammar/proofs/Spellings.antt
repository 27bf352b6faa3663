-- A word means one key word at most, and a sign one sign.
use Rattle.std.proofs.Common.{◌≡◌, ℕ, Bool, true, false, List, [], ◌∷◌, Option, Some, None, refl, sym, ap, ◌∙◌}
use Rattle.std.specs.Str.{bytes_eq}
use Rattle.std.proofs.lemmas.Slice.Eq.{bytes_eq-Decides}
use Rattle.sr_ast.specs.declared.keyword.Keyword.{Keyword}
use Rattle.sr_ast.specs.declared.keyword.Keyword.TheVariants as key
use Rattle.sr_ast.specs.Keywords.{lower, spelling, IsKeyword}
use Rattle.sr_parse_grammar.specs.declared.symbol.Sign.{Sign}
use Rattle.sr_parse_grammar.specs.declared.symbol.Sign.TheVariants as mark
use Rattle.sr_parse_grammar.specs.Meanings.{sign_text}
use Rattle.sr_parse_grammar.proofs.Words.{keywords, signs}

-- the first of the candidates with this spelling
abbrev pub found : {A : Type 0} → (A → List ℕ) → List ℕ → List A → Option A
found spelled word [] = None
found {A = A} spelled word (x ∷ xs) = elim (bytes_eq (spelled x) word) as (λ _. Option A) [ true ↦ Some x | false ↦ found spelled word xs ]

abbrev pub lowered : Keyword → List ℕ
lowered k = lower (spelling k)

keyword_found : (k : Keyword) → found lowered (lowered k) keywords ≡ Some k
keyword_found key.Create = refl
keyword_found _ = refl

some_same : {A : Type 0} (x y : A) → Some x ≡ Some y → x ≡ y
some_same x y e = cc

found_first : {A : Type 0} (spelled : A → List ℕ) (word : List ℕ) (y : A) (xs : List A) (x : A) (b : Bool) → bytes_eq (spelled y) word ≡ b
    → (found spelled word xs ≡ Some x → spelled x ≡ word) → elim b as (λ _. Option A) [ true ↦ Some y | false ↦ found spelled word xs ] ≡ Some x → spelled x ≡ word
found_first spelled word y xs x true is later e = ap spelled (sym (some_same y x e)) ∙ (bytes_eq-Decides (spelled y) word).0 is
found_first spelled word y xs x false is later e = later e

-- what is found has this spelling
pub found_is : {A : Type 0} (spelled : A → List ℕ) (word : List ℕ) (xs : List A) (x : A) → found spelled word xs ≡ Some x → spelled x ≡ word
found_is spelled word [] x e = absurd cc
found_is spelled word (y ∷ xs) x e = found_first spelled word y xs x (bytes_eq (spelled y) word) refl (found_is spelled word xs x) e

pub never_found : (k : Keyword) → found lowered (lowered k) keywords ≡ None → ⊥
never_found k e = let some = keyword_found k in absurd cc

sign_found : (s : Sign) → found sign_text (sign_text s) signs ≡ Some s
sign_found mark.Open = refl
sign_found _ = refl

pub keyword_once : (word : List ℕ) (k l : Keyword) → IsKeyword word k → IsKeyword word l → k ≡ l
keyword_once word k l h e =
    let one : found lowered (lowered k) keywords ≡ found lowered (lowered l) keywords = ap (λ (w : List ℕ). found lowered w keywords) (sym h ∙ e) in
    let some : Some k ≡ Some l = sym (keyword_found k) ∙ (one ∙ keyword_found l) in cc

pub sign_once : (word : List ℕ) (s t : Sign) → word ≡ sign_text s → word ≡ sign_text t → s ≡ t
sign_once word s t h e =
    let one : found sign_text (sign_text s) signs ≡ found sign_text (sign_text t) signs = ap (λ (w : List ℕ). found sign_text w signs) (sym h ∙ e) in
    let some : Some s ≡ Some t = sym (sign_found s) ∙ (one ∙ sign_found t) in cc
