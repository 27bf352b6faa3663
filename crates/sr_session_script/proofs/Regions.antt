-- Names, of each the first.
use Rattle.std.proofs.Common.{◌≡◌, ℕ, true, false, ◌||◌, List, [], ◌∷◌, ◌++◌, cond, bytes_eq, refl, sym, ap, subst, ◌∙◌}
use Rattle.std.specs.List.{AllByRecursion}
use Rattle.sr_logform.specs.Rules.{AreDistinct}
use Rattle.std.specs.Cmp.{tied_itself}
use Rattle.std.specs.Ordering.{is_eq}
use Rattle.std.proofs.lemmas.Map.Text.{is_eq-slice_cmp}
use Rattle.sr_base.specs.Inner.Order.{name_cmp_total}
use Rattle.sr_book.specs.Entries.{Name}
use Rattle.sr_session_script.specs.Works.{is_among, once_behind}

pub behind_known : (before : List Name) (name : Name) (names : List Name) → is_among name before ≡ true → once_behind before (name ∷ names) ≡ once_behind before names
behind_known before name names is = rw is refl

pub behind_new : (before : List Name) (name : Name) (names : List Name) → is_among name before ≡ false → once_behind before (name ∷ names) ≡ name ∷ once_behind (before ++ name ∷ []) names
behind_new before name names is = rw is refl

pub ruleset kept = (behind_known, behind_new)

bytes_itself : (s : List ℕ) → bytes_eq s s ≡ true
bytes_itself s = sym (is_eq-slice_cmp s s) ∙ ap is_eq (tied_itself name_cmp_total s)

-- what holds of each name holds of those that are kept
pub once_all : (P : Name → Type 0) (before names : List Name) → AllByRecursion P names → AllByRecursion P (once_behind before names)
once_all P before [] all = tt
once_all P before (name ∷ names) all =
    elim (is_among name before) as (λ b. AllByRecursion P (cond b (once_behind before names) (name ∷ once_behind (before ++ name ∷ []) names))) [
      | true ↦ once_all P before names all.1
      | false ↦ (all.0, once_all P (before ++ name ∷ []) names all.1)
    ]

among_more : (name other : Name) (before : List Name) → is_among name (before ++ other ∷ []) ≡ false → (is_among name before ≡ false) × (bytes_eq name other ≡ false)
among_more name other [] is = (refl, elim (bytes_eq name other) as (λ b. (b || false) ≡ false → b ≡ false) [ true ↦ λ no. no | false ↦ λ no. no ] is)
among_more name other (first ∷ before) is =
    elim (bytes_eq name first) as (λ b. (b || is_among name (before ++ other ∷ [])) ≡ false → ((b || is_among name before) ≡ false) × (bytes_eq name other ≡ false)) [
      | true ↦ λ no. absurd (let same : true ≡ false = no in cc)
      | false ↦ λ no. among_more name other before no
    ] is

older : (kept before : List Name) (name : Name) → AllByRecursion (λ n. is_among n (before ++ name ∷ []) ≡ false) kept → AllByRecursion (λ n. is_among n before ≡ false) kept
older [] before name all = tt
older (k ∷ kept) before name all = ((among_more k name before all.0).0, older kept before name all.1)

-- none that is kept stood before
fresh : (before names : List Name) → AllByRecursion (λ name. is_among name before ≡ false) (once_behind before names)
fresh before [] = tt
fresh before (name ∷ names) =
    elim (is_among name before) as (λ b. is_among name before ≡ b → AllByRecursion (λ n. is_among n before ≡ false) (cond b (once_behind before names) (name ∷ once_behind (before ++ name ∷ []) names))) [
      | true ↦ λ is. fresh before names
      | false ↦ λ is. (is, older (once_behind (before ++ name ∷ []) names) before name (fresh (before ++ name ∷ []) names))
    ] refl

differ : (kept before : List Name) (name : Name) → AllByRecursion (λ n. is_among n (before ++ name ∷ []) ≡ false) kept → AllByRecursion (λ n. ¬ (name ≡ n)) kept
differ [] before name all = tt
differ (k ∷ kept) before name all =
    (λ same. absurd (let no : true ≡ false = sym (bytes_itself k) ∙ subst (λ (n : Name). bytes_eq k n ≡ false) same (among_more k name before all.0).1 in cc), differ kept before name all.1)

-- none of those that are kept stands twice
pub once_distinct : (before names : List Name) → AreDistinct (once_behind before names)
once_distinct before [] = tt
once_distinct before (name ∷ names) =
    elim (is_among name before) as (λ b. AreDistinct (cond b (once_behind before names) (name ∷ once_behind (before ++ name ∷ []) names))) [
      | true ↦ once_distinct before names
      | false ↦ (differ (once_behind (before ++ name ∷ []) names) before name (fresh (before ++ name ∷ []) names), once_distinct (before ++ name ∷ []) names)
    ]
