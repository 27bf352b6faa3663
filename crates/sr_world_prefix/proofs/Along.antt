-- Histories that go on entry by entry, and what holds of each on the way.
use Rattle.std.proofs.Common.{List, [], ◌∷◌, ◌++◌, sym, subst, append_assoc, append-nil}
use Rattle.std.specs.Prelude.{⊤}
use Rattle.sr_database_history.specs.Recorded.{Recorded}

-- it holds of the history, and of it with each front of these entries
abbrev pub Along : (List Recorded → Type 0) → List Recorded → List Recorded → Type 0
Along holds es [] = holds es
Along holds es (r ∷ rs) = holds es × Along holds (es ++ r ∷ []) rs

pub along_first : (holds : List Recorded → Type 0) (es rs : List Recorded) → Along holds es rs → holds es
along_first holds es [] h = h
along_first holds es (r ∷ rs) h = h.0

pub along_last : (holds : List Recorded → Type 0) (es rs : List Recorded) → Along holds es rs → holds (es ++ rs)
along_last holds es [] h = subst holds (sym (append-nil es)) h
along_last holds es (r ∷ rs) h = subst holds (append_assoc es (r ∷ []) rs) (along_last holds (es ++ r ∷ []) rs h.1)

pub along_more : (holds : List Recorded → Type 0) (es rs qs : List Recorded) → Along holds es rs → Along holds (es ++ rs) qs → Along holds es (rs ++ qs)
along_more holds es [] qs h k = subst (λ (l : List Recorded). Along holds l qs) (append-nil es) k
along_more holds es (r ∷ rs) qs h k = (
  h.0,
  along_more holds (es ++ r ∷ []) rs qs h.1 (subst (λ (l : List Recorded). Along holds l qs) (sym (append_assoc es (r ∷ []) rs)) k),
)

pub along_prefix : (holds : List Recorded → Type 0) (es prefix back : List Recorded) → Along holds es (prefix ++ back) → Along holds es prefix
along_prefix holds es [] back h = along_first holds es back h
along_prefix holds es (r ∷ prefix) back h = (h.0, along_prefix holds (es ++ r ∷ []) prefix back h.1)

-- ---- steps

-- each of these entries is a step from the history before it
abbrev pub Steps : (List Recorded → Recorded → Type 0) → List Recorded → List Recorded → Type 0
Steps is es [] = ⊤
Steps is es (r ∷ rs) = is es r × Steps is (es ++ r ∷ []) rs

pub steps_more : (is : List Recorded → Recorded → Type 0) (es rs qs : List Recorded) → Steps is es rs → Steps is (es ++ rs) qs → Steps is es (rs ++ qs)
steps_more is es [] qs h k = subst (λ (l : List Recorded). Steps is l qs) (append-nil es) k
steps_more is es (r ∷ rs) qs h k = (
  h.0,
  steps_more is (es ++ r ∷ []) rs qs h.1 (subst (λ (l : List Recorded). Steps is l qs) (sym (append_assoc es (r ∷ []) rs)) k),
)

pub steps_prefix : (is : List Recorded → Recorded → Type 0) (es prefix back : List Recorded) → Steps is es (prefix ++ back) → Steps is es prefix
steps_prefix is es [] back h = tt
steps_prefix is es (r ∷ prefix) back h = (h.0, steps_prefix is (es ++ r ∷ []) prefix back h.1)

-- what each step keeps holds on the way
pub steps_along : (is : List Recorded → Recorded → Type 0) (holds : List Recorded → Type 0) → ((es : List Recorded) (r : Recorded) → holds es → is es r → holds (es ++ r ∷ []))
    → (es rs : List Recorded) → holds es → Steps is es rs → Along holds es rs
steps_along is holds kept es [] h steps = h
steps_along is holds kept es (r ∷ rs) h steps = (h, steps_along is holds kept (es ++ r ∷ []) rs (kept es r h steps.0) steps.1)

-- and what holds on the way holds behind each step
pub along_steps : (holds : List Recorded → Type 0) (es rs : List Recorded) → Along holds es rs → Steps (λ qs r. holds (qs ++ r ∷ [])) es rs
along_steps holds es [] along = tt
along_steps holds es (r ∷ rs) along = (along_first holds (es ++ r ∷ []) rs along.1, along_steps holds (es ++ r ∷ []) rs along.1)

-- entries that are steps of two kinds
pub steps_both : (P Q : List Recorded → Recorded → Type 0) (es rs : List Recorded) → Steps P es rs → Steps Q es rs → Steps (λ es' r. P es' r × Q es' r) es rs
steps_both P Q es [] first second = tt
steps_both P Q es (r ∷ rs) first second = ((first.0, second.0), steps_both P Q (es ++ r ∷ []) rs first.1 second.1)

pub steps_first : (P Q : List Recorded → Recorded → Type 0) (es rs : List Recorded) → Steps (λ es' r. P es' r × Q es' r) es rs → Steps P es rs
steps_first P Q es [] both = tt
steps_first P Q es (r ∷ rs) both = (both.0.0, steps_first P Q (es ++ r ∷ []) rs both.1)

pub steps_second : (P Q : List Recorded → Recorded → Type 0) (es rs : List Recorded) → Steps (λ es' r. P es' r × Q es' r) es rs → Steps Q es rs
steps_second P Q es [] both = tt
steps_second P Q es (r ∷ rs) both = (both.0.1, steps_second P Q (es ++ r ∷ []) rs both.1)
