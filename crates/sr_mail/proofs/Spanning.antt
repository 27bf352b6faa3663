-- Few spans that cover as much as all.
use Rattle.std.proofs.Common.{◌≡◌, ℕ, zero, suc, ◌+◌, ◌<◌, ◌≤◌, inl, inr, Bool, true, false, ◌||◌, Some, List, [], ◌∷◌, ◌++◌, length, get_or, IsTrue, refl, sym, ap, ◌∙◌, arith, append_assoc, subst}
use Rattle.std.specs.List.{list_any, AllByRecursion, Contains}
use Rattle.std.specs.Prelude.{slice_get}
use Rattle.std.proofs.lemmas.Bool.{cases_lt, or_right, or_left, or_cases}
use Rattle.std.proofs.lemmas.List.{length-append, get_or_at, get_or_append_left}
use Rattle.std.proofs.lemmas.List.Folds.{list_any-append}
use Rattle.sr_mail.specs.declared.piece.Piece.{Piece}
use Rattle.sr_mail.specs.Seen.{covers}
use Rattle.sr_mail.specs.Inner.Spans.{Span, spans_from, has_place, SpansCover, BeginsLater, AreSorted, IsSoFar, SpanOf}
use Rattle.sr_mail_cut.proofs.Lists.{AllByRecursion-append, AllByRecursion-map}

pub Contains-at : {A : Type 0} (prefix : List A) (x : A) (behind : List A) → Contains (prefix ++ x ∷ behind) x
Contains-at prefix x behind = (length prefix, omega (arith, length-append prefix (x ∷ behind)), get_or_at prefix x behind x (length prefix) refl)

pub Contains-left : {A : Type 0} (xs ys : List A) (x : A) → Contains xs x → Contains (xs ++ ys) x
Contains-left xs ys x h = (h.0, omega (arith, h.1, length-append xs ys), get_or_append_left xs ys x h.0 h.1 ∙ h.2)

pub Contains-right : {A : Type 0} (xs ys : List A) (x : A) → Contains ys x → Contains (xs ++ ys) x
Contains-right [] ys x h = h
Contains-right (y ∷ xs) ys x h = let rest = Contains-right xs ys x h in (suc rest.0, omega (arith, rest.1), rest.2)

all_at : {A : Type 0} (P : A → Type 0) (xs : List A) (x : A) (k : ℕ) → AllByRecursion P xs → k < length xs → get_or xs k x ≡ x → P x
all_at P [] x k h lt e = absurd (omega arith)
all_at P (y ∷ xs) x zero h lt e = subst P e h.0
all_at P (y ∷ xs) x (suc k) h lt e = all_at P xs x k h.1 (omega arith) e

-- what holds of all holds of one of them
pub All-at : {A : Type 0} (P : A → Type 0) (xs : List A) (x : A) → AllByRecursion P xs → Contains xs x → P x
All-at P xs x h c = all_at P xs x c.0 h c.1 c.2

pub has-here : (place : ℕ) (s : Span) → s.0 ≤ place → place < s.1 → has_place place s ≡ true
has-here place s le lt = grind arith

pub has-at : (place : ℕ) (s : Span) → has_place place s ≡ true → (s.0 ≤ place) × (place < s.1)
has-at place s e = (grind arith, grind arith)

-- no span of these has a place behind which they end, or before which they begin
ended : (place : ℕ) (spans : List Span) → AllByRecursion (λ s. s.1 ≤ place) spans → list_any (has_place place) spans ≡ true → ⊥
ended place [] h e = absurd cc
ended place (s ∷ spans) h e = elim (or_cases (has_place place s) (list_any (has_place place) spans) e) [
  | inl here ↦ omega (arith, h.0, (has-at place s here).1)
  | inr there ↦ ended place spans h.1 there
]

begun_later : (place low : ℕ) (spans : List Span) → place < low → AllByRecursion (λ s. low ≤ s.0) spans → list_any (has_place place) spans ≡ true → ⊥
begun_later place low [] lt h e = absurd cc
begun_later place low (s ∷ spans) lt h e = elim (or_cases (has_place place s) (list_any (has_place place) spans) e) [
  | inl here ↦ omega (arith, h.0, (has-at place s here).0)
  | inr there ↦ begun_later place low spans lt h.1 there
]

none_later : (place : ℕ) (spans : List Span) → BeginsLater place spans → AreSorted spans → list_any (has_place place) spans ≡ true → ⊥
none_later place [] h sorted e = absurd cc
none_later place (s ∷ spans) h sorted e = elim (or_cases (has_place place s) (list_any (has_place place) spans) e) [
  | inl here ↦ omega (arith, h, (has-at place s here).0)
  | inr there ↦ begun_later place s.0 spans h sorted.0 there
]

-- one that has a place ends behind it
ends_past : (place far : ℕ) (spans : List Span) → AllByRecursion (λ s. s.1 ≤ far) spans → list_any (has_place place) spans ≡ true → place < far
ends_past place far [] h e = absurd cc
ends_past place far (s ∷ spans) h e = elim (or_cases (has_place place s) (list_any (has_place place) spans) e) [
  | inl here ↦ omega (arith, h.0, (has-at place s here).1)
  | inr there ↦ ends_past place far spans h.1 there
]

sorted-back : (a b : List Span) → AreSorted (a ++ b) → AreSorted b
sorted-back [] b h = h
sorted-back (s ∷ a) b h = sorted-back a b h.1

-- what a walk over spans has chosen
pub record Swept (spans chosen : List Span) (reached : ℕ) (left : List Span) : Type 0 where
  pub passed : List Span
  pub parts : spans ≡ passed ++ left
  pub ended : AllByRecursion (λ s. s.1 ≤ reached) passed
  pub own : AllByRecursion (Contains spans) chosen
  pub covered : (place : ℕ) → place < reached → IsTrue (list_any (has_place place) chosen)

pub swept_none : (spans : List Span) → Swept spans [] 0 spans
swept_none spans = record { passed = []; parts = refl; ended = tt; own = tt; covered = λ place lt. absurd (omega arith) }

-- where the reached place is not the end, another span goes on from it
pub swept_goes_on : (spans chosen : List Span) (reached total : ℕ) (left : List Span) (farthest : Span) (behind : List Span) → AreSorted spans → SpansCover spans total → reached < total → Swept spans chosen reached left →
    IsSoFar left reached farthest behind → BeginsLater reached behind → reached < farthest.1
swept_goes_on spans chosen reached total left farthest behind sorted cover lt swept so_far later =
    let whole : spans ≡ swept.passed ++ (so_far.passed ++ behind) = swept.parts ∙ ap (λ (x : List Span). swept.passed ++ x) so_far.parts in
    let there : list_any (has_place reached) (swept.passed ++ (so_far.passed ++ behind)) ≡ true = ap (list_any (has_place reached)) (sym whole) ∙ cover reached lt in
    let one = or_cases (list_any (has_place reached) swept.passed) (list_any (has_place reached) (so_far.passed ++ behind)) (sym (list_any-append (has_place reached) swept.passed (so_far.passed ++ behind)) ∙ there) in
    elim one [
      | inl before ↦ absurd (ended reached swept.passed swept.ended before)
      | inr rest ↦ elim (or_cases (list_any (has_place reached) so_far.passed) (list_any (has_place reached) behind) (sym (list_any-append (has_place reached) so_far.passed behind) ∙ rest)) [
        | inl here ↦ ends_past reached farthest.1 so_far.passed so_far.ends here
        | inr after ↦ absurd (none_later reached behind later (sorted-back so_far.passed behind (sorted-back swept.passed (so_far.passed ++ behind) (subst AreSorted whole sorted))) after)
      ]
    ]

-- where no span goes on, the end is reached
pub swept_end : (spans chosen : List Span) (reached total : ℕ) (left : List Span) → AreSorted spans → SpansCover spans total → reached < total → Swept spans chosen reached left → BeginsLater reached left → ⊥
swept_end spans chosen reached total left sorted cover lt swept later =
    let there : list_any (has_place reached) (swept.passed ++ left) ≡ true = ap (list_any (has_place reached)) (sym swept.parts) ∙ cover reached lt in
    elim (or_cases (list_any (has_place reached) swept.passed) (list_any (has_place reached) left) (sym (list_any-append (has_place reached) swept.passed left) ∙ there)) [
      | inl before ↦ ended reached swept.passed swept.ended before
      | inr after ↦ none_later reached left later (sorted-back swept.passed left (subst AreSorted swept.parts sorted)) after
    ]

pub swept_more : (spans chosen : List Span) (reached : ℕ) (left : List Span) (farthest : Span) (behind : List Span) → Swept spans chosen reached left → IsSoFar left reached farthest behind → reached < farthest.1 →
    Swept spans (chosen ++ farthest ∷ []) farthest.1 behind
swept_more spans chosen reached left farthest behind swept so_far past = record {
  passed = swept.passed ++ so_far.passed;
  parts = swept.parts ∙ ap (λ (x : List Span). swept.passed ++ x) so_far.parts ∙ sym (append_assoc swept.passed so_far.passed behind);
  ended = AllByRecursion-append (λ s. s.1 ≤ farthest.1) swept.passed so_far.passed
      (AllByRecursion-map (λ s. s.1 ≤ reached) (λ s. s.1 ≤ farthest.1) swept.passed (λ s le. omega (arith, le, past)) swept.ended) so_far.ends;
  own = AllByRecursion-append (Contains spans) chosen (farthest ∷ []) swept.own (
    subst (λ (x : List Span). Contains x farthest) (sym swept.parts) (Contains-right swept.passed left farthest
        (subst (λ (x : List Span). Contains x farthest) (sym so_far.parts) (Contains-left so_far.passed behind farthest so_far.member))),
    tt,
  );
  covered = λ place lt. list_any-append (has_place place) chosen (farthest ∷ []) ∙ (elim (cases_lt place reached) [
    | inl before ↦ or_left (list_any (has_place place) chosen) (list_any (has_place place) (farthest ∷ [])) (swept.covered place before)
    | inr behind ↦ or_right (list_any (has_place place) chosen) (list_any (has_place place) (farthest ∷ [])) (or_left (has_place place farthest) false (has-here place farthest (omega (arith, so_far.begins, behind)) lt))
  ]);
}

pub swept_covers : (spans chosen : List Span) (reached total : ℕ) (left : List Span) → Swept spans chosen reached left → total ≤ reached → SpansCover chosen total
swept_covers spans chosen reached total left swept le = λ place lt. swept.covered place (omega (arith, lt, le))

-- ---- the farthest of the spans at the front

pub so_far_first : (s : Span) (spans : List Span) (place : ℕ) → s.0 ≤ place → IsSoFar (s ∷ spans) place s spans
so_far_first s spans place le = record { passed = s ∷ []; parts = refl; member = Contains-at [] s []; begins = le; ends = (omega arith, tt) }

pub so_far_farther : (spans : List Span) (place : ℕ) (farthest s : Span) (behind : List Span) → IsSoFar spans place farthest (s ∷ behind) → s.0 ≤ place → farthest.1 < s.1 → IsSoFar spans place s behind
so_far_farther spans place farthest s behind h le lt = record {
  passed = h.passed ++ s ∷ [];
  parts = h.parts ∙ sym (append_assoc h.passed (s ∷ []) behind);
  member = Contains-at h.passed s [];
  begins = le;
  ends = AllByRecursion-append (λ x. x.1 ≤ s.1) h.passed (s ∷ []) (AllByRecursion-map (λ x. x.1 ≤ farthest.1) (λ x. x.1 ≤ s.1) h.passed (λ x k. omega (arith, k, lt)) h.ends) (omega arith, tt);
}

pub so_far_same : (spans : List Span) (place : ℕ) (farthest s : Span) (behind : List Span) → IsSoFar spans place farthest (s ∷ behind) → s.1 ≤ farthest.1 → IsSoFar spans place farthest behind
so_far_same spans place farthest s behind h le = record {
  passed = h.passed ++ s ∷ [];
  parts = h.parts ∙ sym (append_assoc h.passed (s ∷ []) behind);
  member = Contains-left h.passed (s ∷ []) farthest h.member;
  begins = h.begins;
  ends = AllByRecursion-append (λ x. x.1 ≤ farthest.1) h.passed (s ∷ []) h.ends (le, tt);
}

-- ---- spans and pieces

pub spans-append : (n : ℕ) (a b : List Piece) → spans_from n (a ++ b) ≡ spans_from n a ++ spans_from (n + length a) b
spans-append n [] b = ap (λ (k : ℕ). spans_from k b) (omega arith)
spans-append n (p ∷ a) b =
    let later : n + 1 + length a ≡ n + length (p ∷ a) = omega arith in
    ap (λ (x : List Span). (p.start, p.start + p.length, n) ∷ x) (spans-append (n + 1) a b ∙ ap (λ (k : ℕ). spans_from (n + 1) a ++ spans_from k b) later)

pub spans-cover : (place n : ℕ) (pieces : List Piece) → list_any (has_place place) (spans_from n pieces) ≡ list_any (covers place) pieces
spans-cover place n [] = refl
spans-cover place n (p ∷ pieces) = ap (λ (b : Bool). covers place p || b) (spans-cover place (n + 1) pieces)

slice_get-at : {A : Type 0} (prefix : List A) (x : A) (behind : List A) → slice_get (prefix ++ x ∷ behind) (length prefix) ≡ Some x
slice_get-at [] x behind = refl
slice_get-at (y ∷ prefix) x behind = slice_get-at prefix x behind

pub spans-own : (prefix pieces : List Piece) → AllByRecursion (SpanOf (prefix ++ pieces)) (spans_from (length prefix) pieces)
spans-own prefix [] = tt
spans-own prefix (p ∷ pieces) =
    let longer : length (prefix ++ p ∷ []) ≡ length prefix + 1 = length-append prefix (p ∷ []) in
    let one : SpanOf (prefix ++ p ∷ pieces) (p.start, p.start + p.length, length prefix) = record { piece = p; number = slice_get-at prefix p pieces; starts = refl; ends = refl } in (
      one,
      subst (λ (x : List Piece). AllByRecursion (SpanOf x) (spans_from (length prefix + 1) pieces)) (append_assoc prefix (p ∷ []) pieces)
          (subst (λ (k : ℕ). AllByRecursion (SpanOf ((prefix ++ p ∷ []) ++ pieces)) (spans_from k pieces)) longer (spans-own (prefix ++ p ∷ []) pieces)),
    )

-- nothing covers nothing
pub none_covers : {A : Type 0} (test : ℕ → A → Bool) (xs : List A) (total : ℕ) → 0 < total → ((place : ℕ) → place < total → IsTrue (list_any (test place) xs)) → ¬ (xs ≡ [])
none_covers test [] total some h e = let never : false ≡ true = h 0 some in absurd cc
none_covers test (x ∷ xs) total some h e = absurd cc
