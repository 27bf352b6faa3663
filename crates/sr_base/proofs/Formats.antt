-- The three laws, of any format.
use Rattle.std.proofs.Common.{◌≡◌, ℕ, ◌+◌, ◌-◌, List, ◌++◌, length, drop, Result, Ok, refl, sym, ap, ◌∙◌, arith}
use Rattle.std.proofs.lemmas.List.{length-append, drop_at}
use Rattle.sr_base.specs.Inner.Laws.{ReadsSpellings, ReadsAgain, BeginsNoOther}
use Rattle.sr_base.specs.Reading.{Read}
use Rattle.sr_base.specs.Inner.Reading.{IsBytes, BeginsWith, IsFormat}

pub reads_spellings : {A : Type 0} {reading : List ℕ → Read A} {spelling : A → List ℕ} {fits : A → Type 0} → IsFormat reading spelling fits → ReadsSpellings reading spelling fits
reads_spellings format bytes value rest h e = let t = format.takes bytes value rest h e in (t.0.parts, t.1)

pub reads_again : {A : Type 0} {reading : List ℕ → Read A} {spelling : A → List ℕ} {fits : A → Type 0} → IsFormat reading spelling fits → ReadsAgain reading spelling fits
reads_again format = format.again

abbrev done : {A : Type 0} → A → Result A ℕ
done x = Ok x

same : {A : Type 0} (x y : A) → done x ≡ done y → x ≡ y
same x y e = cc

pub begins_no_other : {A : Type 0} {reading : List ℕ → Read A} {spelling : A → List ℕ} {fits : A → Type 0} → IsFormat reading spelling fits → BeginsNoOther spelling fits
begins_no_other {A} {reading} {spelling} {fits} format value other rest more h k e =
    let both = same (value, rest) (other, more) (sym (format.again value rest h) ∙ ap reading e ∙ format.again other more k) in
    (ap (λ (x : A × List ℕ). x.0) both, ap (λ (x : A × List ℕ). x.1) both)

-- what was read stands at the front
pub prefix_of : {A : Type 0} {reading : List ℕ → Read A} {spelling : A → List ℕ} {fits : A → Type 0} → IsFormat reading spelling fits → (bytes : List ℕ) (value : A) (rest : List ℕ) → IsBytes bytes → reading bytes ≡ Ok (value, rest) → fits value × BeginsWith bytes (spelling value) (length bytes - length rest)
prefix_of {A} {reading} {spelling} {fits} format bytes value rest h e =
    let t = format.takes bytes value rest h e in
    let whole : length bytes ≡ length (spelling value) + length rest = ap length t.0.parts ∙ length-append (spelling value) rest in
    let taken : length bytes - length rest ≡ length (spelling value) = omega arith in
    let behind : drop (length bytes - length rest) bytes ≡ rest = rw (taken, t.0.parts) (drop_at (spelling value) rest (length (spelling value)) refl) in
    (t.1, record { taken_all = taken; prefix = t.0.parts ∙ ap (λ (x : List ℕ). spelling value ++ x) (sym behind) })
