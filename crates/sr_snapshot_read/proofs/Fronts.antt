-- What stands at the front of bytes.
use Rattle.std.proofs.Common.{◌≡◌, ℕ, List, ◌++◌, Result, Ok, Err, sym, ap, subst, ◌∙◌}
use Rattle.sr_base.proofs.Formats.{begins_no_other}
use Rattle.sr_base.specs.Inner.Reading.{IsFormat}
use Rattle.sr_base.specs.Reading.{Read}
use Rattle.sr_snapshot_read.specs.Damages.{BehindPart, FieldBreaks}

-- two spellings stand at the front of the same bytes
pub behind_same : {A : Type 0} {reading : List ℕ → Read A} {spelling : A → List ℕ} {fits : A → Type 0} (format : IsFormat reading spelling fits) (x y : A) (bytes rest : List ℕ) (holds : List ℕ → Type 0) → fits x → fits y
    → bytes ≡ spelling x ++ rest → BehindPart (spelling y) holds bytes → (x ≡ y) × holds rest
behind_same format x y bytes rest holds fx fy is behind =
    let both = begins_no_other format x y rest behind.rest fx fy (sym is ∙ behind.parts) in
    (both.0, subst (λ (l : List ℕ). holds l) (sym both.1) behind.then)

not_both : {A : Type 0} (x : A × List ℕ) (left : ℕ) (read : Result (A × List ℕ) ℕ) → read ≡ Ok x → read ≡ Err left → ⊥
not_both x left read one other = cc

-- what is spelled does not break
pub never : {A : Type 0} {reading : List ℕ → Read A} {spelling : A → List ℕ} {fits : A → Type 0} (format : IsFormat reading spelling fits) (x : A) (bytes rest : List ℕ) (left : ℕ) → fits x → bytes ≡ spelling x ++ rest
    → FieldBreaks reading bytes left → ⊥
never {A} {reading} {spelling} {fits} format x bytes rest left fx is breaks = not_both (x, rest) left (reading bytes) (ap reading is ∙ format.again x rest fx) breaks
