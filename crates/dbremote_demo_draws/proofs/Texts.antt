-- Texts that are put together.
use Rattle.std.proofs.Common.{◌≡◌, ◌∙◌, ℕ, List, ◌++◌, ap, append_assoc}

pub one : (out new first second : List ℕ) → new ≡ out ++ first ++ second → new ≡ out ++ (first ++ second)
one out new first second is = is ∙ append_assoc out first second

pub two : (out mid new first second third fourth : List ℕ) → mid ≡ out ++ first ++ second → new ≡ mid ++ third ++ fourth → new ≡ out ++ (first ++ second ++ third ++ fourth)
two out mid new first second third fourth is more =
    more ∙ (ap (λ (s : List ℕ). s ++ third ++ fourth) (one out mid first second is)
    ∙ (ap (λ (s : List ℕ). s ++ fourth) (append_assoc out (first ++ second) third) ∙ append_assoc out (first ++ second ++ third) fourth))

pub last : (out mid new before words : List ℕ) → mid ≡ out ++ before → new ≡ mid ++ words → new ≡ out ++ (before ++ words)
last out mid new before words is more = more ∙ (ap (λ (s : List ℕ). s ++ words) is ∙ append_assoc out before words)
