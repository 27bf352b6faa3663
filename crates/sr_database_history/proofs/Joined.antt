-- Folds over histories, joined.
use Rattle.std.proofs.Common.{◌≡◌, ◌↔◌, ℕ, ◌+◌, ◌≤◌, List, [], ◌∷◌, ◌++◌, refl, arith, le_refl}
use Rattle.sr_book.proofs.Folds.{book_from-append, book_more}
use Rattle.sr_database_history.specs.Recorded.{Recorded}
use Rattle.sr_database_history.specs.Folds.{State, next, state_from, size, end_from}
use Rattle.sr_database_history.specs.Fitting.{Fits, stored_from}

pub state_from-append : (s : State) (rs qs : List Recorded) → state_from s (rs ++ qs) ≡ state_from (state_from s rs) qs
state_from-append s [] qs = refl
state_from-append s (r ∷ rs) qs = state_from-append (next s r) rs qs

pub state_from-more : (s : State) (rs : List Recorded) (r : Recorded) → state_from s (rs ++ r ∷ []) ≡ next (state_from s rs) r
state_from-more s rs r = state_from-append s rs (r ∷ [])

pub end_from-append : (place : ℕ) (rs qs : List Recorded) → end_from place (rs ++ qs) ≡ end_from (end_from place rs) qs
end_from-append place [] qs = refl
end_from-append place (r ∷ rs) qs = end_from-append (place + (size r + 5)) rs qs

pub end_from-more : (place : ℕ) (rs : List Recorded) (r : Recorded) → end_from place (rs ++ r ∷ []) ≡ end_from place rs + (size r + 5)
end_from-more place rs r = end_from-append place rs (r ∷ [])

pub le-end_from : (place : ℕ) (rs : List Recorded) → place ≤ end_from place rs
le-end_from place [] = le_refl place
le-end_from place (r ∷ rs) = omega (arith, le-end_from (place + (size r + 5)) rs)

-- of a stored history that is joined of two the first is stored, and the second goes on from it
stored_parts : (s : State) (place : ℕ) (rs qs : List Recorded) → stored_from s place (rs ++ qs)
    → stored_from s place rs × stored_from (state_from s rs) (end_from place rs) qs
stored_parts s place [] qs stored = (tt, stored)
stored_parts s place (r ∷ rs) qs stored =
    let parts = stored_parts (next s r) (place + (size r + 5)) rs qs stored.1 in
    ((stored.0, parts.0), parts.1)

stored_whole : (s : State) (place : ℕ) (rs qs : List Recorded) → stored_from s place rs
    → stored_from (state_from s rs) (end_from place rs) qs → stored_from s place (rs ++ qs)
stored_whole s place [] qs prefix back = back
stored_whole s place (r ∷ rs) qs prefix back = (prefix.0, stored_whole (next s r) (place + (size r + 5)) rs qs prefix.1 back)

pub stored_from-append : (s : State) (place : ℕ) (rs qs : List Recorded) → stored_from s place (rs ++ qs)
    ↔ (stored_from s place rs × stored_from (state_from s rs) (end_from place rs) qs)
stored_from-append s place rs qs = (stored_parts s place rs qs, λ both. stored_whole s place rs qs both.0 both.1)

pub stored_from-more : (s : State) (place : ℕ) (rs : List Recorded) (r : Recorded) → stored_from s place (rs ++ r ∷ [])
    ↔ (stored_from s place rs × Fits (state_from s rs) (end_from place rs) r)
stored_from-more s place rs r = (
  λ stored. let parts = stored_parts s place rs (r ∷ []) stored in (parts.0, parts.1.0),
  λ both. stored_whole s place rs (r ∷ []) both.0 (both.1, tt),
)

pub ruleset joining = (state_from-append, state_from-more, end_from-append, end_from-more, le-end_from, stored_from-append, stored_from-more)

pub ruleset booking = (book_from-append, book_more)
