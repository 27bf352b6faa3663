-- Rows in order of their ranks are one list.
use Rattle.std.proofs.Common.{◌≡◌, ℕ, suc, ◌+◌, ◌<◌, Bool, true, false, not, ◌&&◌, cond, List, [], ◌∷◌, length, map, get_or, Ok, Result, refl, sym, ap, subst, ◌∙◌, arith}
use Rattle.std.specs.Prelude.{⊤, filter}
use Rattle.std.specs.List.{AllByRecursion}
use Rattle.std.specs.List.Sorted.{IsSortedBy, IsStableBy, ties}
use Rattle.std.specs.Ordering.{is_lt}
use Rattle.std.specs.Cmp.{IsStrictWeakOrder}
use Rattle.std.proofs.lemmas.List.Sorted.{ranks_by}
use Rattle.sr_base.specs.declared.value.Value.{Value as Cell}
use Rattle.sr_query.specs.Orders.{listed_cmp}
use Rattle.sr_query.specs.Inner.Orders.{listed_cmp_total}
use Rattle.sr_query.specs.Selecting.{Answered}
use Rattle.sr_catalog_schema.specs.declared.fault.DmlFault.{DmlFault}
use Rattle.sr_session_script.specs.Meaning.{in_order}
use Rattle.sr_session_script.specs.Orders.{put_in, sorted_by}

module _ {X : Type 0} (lt : X → X → Bool) (o : IsStrictWeakOrder lt) where
  -- none is less than the one before it
  abbrev Rises : List X → Type 0
  Rises [] = ⊤
  Rises (x ∷ []) = ⊤
  Rises (x ∷ y ∷ ys) = (lt y x ≡ false) × Rises (y ∷ ys)

  abbrev Above : X → List X → Type 0
  Above x xs = AllByRecursion (λ w. lt w x ≡ false) xs

  above_on : (x y : X) (ws : List X) → lt y x ≡ false → Above y ws → Above x ws
  above_on x y [] low all = tt
  above_on x y (w ∷ ws) low all = (o.chain w y x all.0 low, above_on x y ws low all.1)

  all_above : (x : X) (xs : List X) → Rises (x ∷ xs) → Above x xs
  all_above x [] up = tt
  all_above x (y ∷ ys) up = (up.0, above_on x y ys up.0 (all_above y ys up.1))

  tail_rises : (x : X) (xs : List X) → Rises (x ∷ xs) → Rises xs
  tail_rises x [] up = tt
  tail_rises x (y ∷ ys) up = up.1

  rises_from : (xs : List X) → ((k : ℕ) (d : X) → k + 1 < length xs → lt (get_or xs (k + 1) d) (get_or xs k d) ≡ false) → Rises xs
  rises_from [] up = tt
  rises_from (x ∷ []) up = tt
  rises_from (x ∷ y ∷ ys) up = (
    up 0 x (omega arith),
    rises_from (y ∷ ys) (λ k d low.
        let at : lt (get_or (x ∷ y ∷ ys) (suc k + 1) d) (get_or (y ∷ ys) k d) ≡ false = up (suc k) d (omega (arith, low)) in
        let further : suc k + 1 ≡ suc (k + 1) = omega arith in
        subst (λ (n : ℕ). lt (get_or (x ∷ y ∷ ys) n d) (get_or (y ∷ ys) k d) ≡ false) further at),
  )

  not_less : (x : X) → lt x x ≡ false
  not_less x = elim (lt x x) as (λ b. lt x x ≡ b → lt x x ≡ false) [ true ↦ λ is. o.one_way x x is | false ↦ λ is. is ] refl

  ties_self : (x : X) → ties lt x x ≡ true
  ties_self x = rw (not_less x) refl

  ties_from : (x y : X) → lt x y ≡ false → lt y x ≡ false → ties lt x y ≡ true
  ties_from x y one two = rw one (rw two refl)

  -- an element that ties with the first passes the test for it
  passes : (p : X → Bool) (x : X) (xs : List X) → p x ≡ true → filter p (x ∷ xs) ≡ x ∷ filter p xs
  passes p x xs is = rw is refl

  fails : (p : X → Bool) (x : X) (xs : List X) → p x ≡ false → filter p (x ∷ xs) ≡ filter p xs
  fails p x xs is = rw is refl

  -- the first of a filtered list is an element, so what holds of each element holds of it
  first_is : (P : X → Type 0) (p : X → Bool) (y : X) (rest zs : List X) → AllByRecursion P zs → y ∷ rest ≡ filter p zs → P y
  first_is P p y rest [] all is = absurd (let no : y ∷ rest ≡ [] = is in cc)
  first_is P p y rest (z ∷ zs) all is =
      elim (p z) as (λ b. p z ≡ b → P y) [
        | true ↦ λ yes. let both : y ∷ rest ≡ z ∷ filter p zs = is ∙ passes p z zs yes in let same : z ≡ y = cc in subst P same all.0
        | false ↦ λ no. first_is P p y rest zs all.1 (is ∙ fails p z zs no)
      ] refl

  -- the firsts of two such lists tie
  firsts_tie : (y z : X) (ys zs : List X) → Rises (y ∷ ys) → Rises (z ∷ zs) → ((x : X) → filter (ties lt x) (y ∷ ys) ≡ filter (ties lt x) (z ∷ zs)) → ties lt y z ≡ true
  firsts_tie y z ys zs up up' same =
      elim (ties lt y z) as (λ b. ties lt y z ≡ b → ties lt y z ≡ true) [
        | true ↦ λ is. is
        | false ↦ λ is.
            let here : y ∷ filter (ties lt y) ys ≡ filter (ties lt y) zs = sym (passes (ties lt y) y ys (ties_self y)) ∙ same y ∙ fails (ties lt y) z zs is in
            let low : lt y z ≡ false = first_is (λ w. lt w z ≡ false) (ties lt y) y _ zs (all_above z zs up') here in
            elim (ties lt z y) as (λ b. ties lt z y ≡ b → ties lt y z ≡ true) [
              | true ↦ λ yes. ties_from y z low (elim (lt z y) as (λ b. lt z y ≡ b → lt z y ≡ false) [ true ↦ λ less. absurd (let no : false ≡ true = sym (rw less refl) ∙ yes in cc) | false ↦ λ not_less. not_less ] refl)
              | false ↦ λ no.
                  let there : z ∷ filter (ties lt z) zs ≡ filter (ties lt z) ys = sym (passes (ties lt z) z zs (ties_self z)) ∙ sym (same z) ∙ fails (ties lt z) y ys no in
                  ties_from y z low (first_is (λ w. lt w y ≡ false) (ties lt z) z _ ys (all_above y ys up) there)
            ] refl
      ] refl

  -- two lists in order of which each has what ties in one order are one
  pub one_order : (ys zs : List X) → Rises ys → Rises zs → ((x : X) → filter (ties lt x) ys ≡ filter (ties lt x) zs) → ys ≡ zs
  one_order [] [] up up' same = refl
  one_order [] (z ∷ zs) up up' same = absurd (let no : [] ≡ z ∷ filter (ties lt z) zs = same z ∙ passes (ties lt z) z zs (ties_self z) in cc)
  one_order (y ∷ ys) [] up up' same = absurd (let no : y ∷ filter (ties lt y) ys ≡ [] = sym (passes (ties lt y) y ys (ties_self y)) ∙ same y in cc)
  one_order (y ∷ ys) (z ∷ zs) up up' same =
      let both : y ∷ filter (ties lt y) ys ≡ z ∷ filter (ties lt y) zs = sym (passes (ties lt y) y ys (ties_self y)) ∙ same y ∙ passes (ties lt y) z zs (firsts_tie y z ys zs up up' same) in
      let first : y ≡ z = cc in
      let tails : (x : X) → filter (ties lt x) ys ≡ filter (ties lt x) zs = λ x.
      elim (ties lt x y) as (λ b. ties lt x y ≡ b → filter (ties lt x) ys ≡ filter (ties lt x) zs) [
        | true ↦ λ yes. let on : y ∷ filter (ties lt x) ys ≡ z ∷ filter (ties lt x) zs = sym (passes (ties lt x) y ys yes) ∙ same x ∙ passes (ties lt x) z zs (subst (λ w. ties lt x w ≡ true) first yes) in cc
        | false ↦ λ no. sym (fails (ties lt x) y ys no) ∙ same x ∙ fails (ties lt x) z zs (subst (λ w. ties lt x w ≡ false) first no)
      ] refl in
      let rest : ys ≡ zs = one_order ys zs (tail_rises y ys up) (tail_rises z zs up') tails in
      rw first (ap (λ l. z ∷ l) rest)

  rises_cons : (x : X) (ys : List X) → Above x ys → Rises ys → Rises (x ∷ ys)
  rises_cons x [] all up = tt
  rises_cons x (y ∷ ys) all up = (all.0, up)

  both_true : (a b : Bool) → (a && b) ≡ true → (a ≡ true) × (b ≡ true)
  both_true true b is = (refl, is)
  both_true false b is = absurd (let no : false ≡ true = is in cc)

  not_true : (a : Bool) → not a ≡ true → a ≡ false
  not_true true is = absurd (let no : false ≡ true = is in cc)
  not_true false is = refl

  -- what ties with one element has no order
  no_order : (x m l : X) → ties lt x m ≡ true → ties lt x l ≡ true → lt m l ≡ false
  no_order x m l one two =
      o.chain m x l (not_true (lt m x) (both_true (not (lt x m)) (not (lt m x)) one).1) (not_true (lt x l) (both_true (not (lt x l)) (not (lt l x)) two).0)

  above_put : (m l : X) (xs : List X) → lt l m ≡ false → Above m xs → Above m (put_in lt l xs)
  above_put m l [] low all = (low, tt)
  above_put m l (k ∷ xs) low all =
      elim (lt k l) as (λ b. Above m (cond b (k ∷ put_in lt l xs) (l ∷ k ∷ xs))) [ true ↦ (all.0, above_put m l xs low all.1) | false ↦ (low, all) ]

  put_rises : (l : X) (xs : List X) → Rises xs → Rises (put_in lt l xs)
  put_rises l [] up = tt
  put_rises l (m ∷ xs) up =
      elim (lt m l) as (λ b. lt m l ≡ b → Rises (cond b (m ∷ put_in lt l xs) (l ∷ m ∷ xs))) [
        | true ↦ λ less. rises_cons m (put_in lt l xs) (above_put m l xs (o.one_way m l less) (all_above m xs up)) (put_rises l xs (tail_rises m xs up))
        | false ↦ λ not_less. (not_less, up)
      ] refl

  sorted_rises : (xs : List X) → Rises (sorted_by lt xs)
  sorted_rises [] = tt
  sorted_rises (l ∷ xs) = put_rises l (sorted_by lt xs) (sorted_rises xs)

  swapped : (x m l : X) (xs : List X) → lt m l ≡ true → filter (ties lt x) (m ∷ l ∷ xs) ≡ filter (ties lt x) (l ∷ m ∷ xs)
  swapped x m l xs less =
      elim (ties lt x m) as (λ b. ties lt x m ≡ b → filter (ties lt x) (m ∷ l ∷ xs) ≡ filter (ties lt x) (l ∷ m ∷ xs)) [
        | true ↦ λ is. elim (ties lt x l) as (λ b. ties lt x l ≡ b → filter (ties lt x) (m ∷ l ∷ xs) ≡ filter (ties lt x) (l ∷ m ∷ xs)) [
          | true ↦ λ is'. absurd (let no : true ≡ false = sym less ∙ no_order x m l is is' in cc)
          | false ↦ λ is'. passes (ties lt x) m (l ∷ xs) is ∙ ap (λ ys. m ∷ ys) (fails (ties lt x) l xs is') ∙ sym (fails (ties lt x) l (m ∷ xs) is' ∙ passes (ties lt x) m xs is)
        ] refl
        | false ↦ λ is. fails (ties lt x) m (l ∷ xs) is ∙ elim (ties lt x l) as (λ b. ties lt x l ≡ b → filter (ties lt x) (l ∷ xs) ≡ filter (ties lt x) (l ∷ m ∷ xs)) [
          | true ↦ λ is'. passes (ties lt x) l xs is' ∙ sym (passes (ties lt x) l (m ∷ xs) is' ∙ ap (λ ys. l ∷ ys) (fails (ties lt x) m xs is))
          | false ↦ λ is'. fails (ties lt x) l xs is' ∙ sym (fails (ties lt x) l (m ∷ xs) is' ∙ fails (ties lt x) m xs is)
        ] refl
      ] refl

  under : (p : X → Bool) (x : X) (xs ys : List X) → filter p xs ≡ filter p ys → filter p (x ∷ xs) ≡ filter p (x ∷ ys)
  under p x xs ys same = elim (p x) as (λ b. cond b (x ∷ filter p xs) (filter p xs) ≡ cond b (x ∷ filter p ys) (filter p ys)) [ true ↦ ap (λ l. x ∷ l) same | false ↦ same ]

  put_stable : (x l : X) (xs : List X) → filter (ties lt x) (put_in lt l xs) ≡ filter (ties lt x) (l ∷ xs)
  put_stable x l [] = refl
  put_stable x l (m ∷ xs) =
      elim (lt m l) as (λ b. lt m l ≡ b → filter (ties lt x) (cond b (m ∷ put_in lt l xs) (l ∷ m ∷ xs)) ≡ filter (ties lt x) (l ∷ m ∷ xs)) [
        | true ↦ λ less. under (ties lt x) m (put_in lt l xs) (l ∷ xs) (put_stable x l xs) ∙ swapped x m l xs less
        | false ↦ λ _. refl
      ] refl

  sorted_stable : (x : X) (xs : List X) → filter (ties lt x) (sorted_by lt xs) ≡ filter (ties lt x) xs
  sorted_stable x [] = refl
  sorted_stable x (l ∷ xs) = put_stable x l (sorted_by lt xs) ∙ under (ties lt x) l (sorted_by lt xs) xs (sorted_stable x xs)

  -- what is in order, and keeps what ties in its order, is the list in order
  pub one_sorted : (xs ys : List X) → IsSortedBy lt ys → IsStableBy lt xs ys → ys ≡ sorted_by lt xs
  one_sorted xs ys up stable =
      one_order ys (sorted_by lt xs) (rises_from ys (λ k d low. up k d (omega arith) low)) (sorted_rises xs) (λ x. stable x ∙ sym (sorted_stable x xs))

-- an answer of a SELECT is its rows by their ranks
pub answered_in_order : (meant : Result (List _) DmlFault) (answer : List (List Cell)) → Answered meant answer → in_order listed_cmp (λ l. l.row) meant ≡ Ok answer
answered_in_order meant answer is =
    let sorted = one_sorted (λ x y. is_lt (listed_cmp x y)) (ranks_by listed_cmp_total (λ l. l)) is.listed is.ordered is.order.sorted is.order.ties in
    ap (in_order listed_cmp (λ l. l.row)) is.found ∙ ap (λ rs. Ok rs) (sym (is.rows ∙ ap (λ ls. map (λ l. l.row) ls) sorted))

pub ruleset answers = (answered_in_order)
