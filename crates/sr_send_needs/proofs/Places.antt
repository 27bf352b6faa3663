-- A need is the base of the log, or the end of an entry.
use Rattle.std.proofs.Common.{◌≡◌, ℕ, ◌+◌, ◌≤◌, Bool, true, false, cond, List, [], ◌∷◌, ◌++◌, ◌⊎◌, inl, inr, refl, sym, ap, subst, ◌∙◌, arith, append_assoc}
use Rattle.std.specs.Prelude.{nat_lt, ◌&&◌, map, max, min}
use Rattle.std.proofs.lemmas.List.{append-nil}
use Rattle.sr_book.specs.Entries.{Name}
use Rattle.sr_catalog_schema.specs.Members.{user_name}
use Rattle.sr_database_history.proofs.Joined.{end_from-append, end_from-more, le-end_from}
use Rattle.sr_database_history.specs.Folds.{State, fresh, next, size, state_of, end_of, books_of}
use Rattle.sr_database_history.specs.Recorded.{Recorded}
use Rattle.sr_scan.specs.Given.{gives}
use Rattle.sr_send_needs.proofs.Searches.{le-before, passed_over}
use Rattle.sr_send_needs.specs.Inner.Ends.{IsEndOf}
use Rattle.sr_send_needs.specs.Needs.{any_ops, end_before, need_of, least_from, least_need}

-- of the rest of a history the place before what is given is an end of it
before_is_end : (sent : ℕ) (user : Name) (es done : List Recorded) (s : State) (rs : List Recorded) → es ≡ done ++ rs → IsEndOf es (end_before sent s (end_of done) rs user)
before_is_end sent user es done s [] parts = record { done = done; left = []; parts = parts; place_is = refl }
before_is_end sent user es done s (r ∷ rs) parts =
    let end = end_of done + (size r + 5) in
    let more : end_of (done ++ r ∷ []) ≡ end = end_from-more 0 done r in
    let later : IsEndOf es (end_before sent (next s r) end rs user) =
    subst (λ (m : ℕ). IsEndOf es (end_before sent (next s r) m rs user)) more (before_is_end sent user es (done ++ r ∷ []) (next s r) rs (parts ∙ sym (append_assoc done (r ∷ []) rs))) in
    either (any_ops (gives s r user) && nat_lt sent end) (end_before sent (next s r) end rs user) later
  where
    either : (b : Bool) (other : ℕ) → IsEndOf es other → IsEndOf es (cond b (end_of done) other)
    either true other later = record { done = done; left = r ∷ rs; parts = parts; place_is = refl }
    either false other later = later

need_is_end : (publisher : Name) (es : List Recorded) (base : ℕ) (user : Name) → IsEndOf es (need_of publisher es base user)
need_is_end publisher es base user = before_is_end (max base (books_of user es).confirm_sent) user es [] (fresh publisher) es refl

lesser_is_end : (es : List Recorded) (one other : ℕ) → IsEndOf es one → IsEndOf es other → IsEndOf es (min one other)
lesser_is_end es one other first second = elim (ask_order one other) [
  | inl le ↦ subst (λ (m : ℕ). IsEndOf es m) (omega (arith, le)) first
  | inr le ↦ subst (λ (m : ℕ). IsEndOf es m) (omega (arith, le)) second
]
  where
    ask_order : (a b : ℕ) → (a ≤ b) ⊎ (b ≤ a)
    ask_order a b = grind arith

from_is_end : (publisher : Name) (es : List Recorded) (base : ℕ) (users : List Name) → IsEndOf es (least_from publisher es base users)
from_is_end publisher es base [] = record { done = es; left = []; parts = sym (append-nil es); place_is = refl }
from_is_end publisher es base (user ∷ users) =
    lesser_is_end es (need_of publisher es base user) (least_from publisher es base users) (need_is_end publisher es base user) (from_is_end publisher es base users)

pub least_is_end : (publisher : Name) (es : List Recorded) (base : ℕ) → IsEndOf es (least_need publisher es base)
least_is_end publisher es base = from_is_end publisher es base (map user_name (state_of publisher es).catalog.users)

-- it does not lie before the base
need_from_base : (publisher : Name) (es : List Recorded) (base : ℕ) (user : Name) → IsEndOf es base → base ≤ need_of publisher es base user
need_from_base publisher es base user e =
    let sent = max base (books_of user es).confirm_sent in
    let over = passed_over sent user (fresh publisher) 0 e.done e.left (omega (arith, e.place_is)) in
    let is : need_of publisher es base user ≡ end_before sent (state_of publisher e.done) (end_of e.done) e.left user =
    ap (λ (rs : List Recorded). end_before sent (fresh publisher) 0 rs user) e.parts ∙ over in
    let later = le-before sent user (state_of publisher e.done) (end_of e.done) e.left in
    omega (arith, is, later, e.place_is)

end_from_base : (es : List Recorded) (base : ℕ) → IsEndOf es base → base ≤ end_of es
end_from_base es base e = omega (arith, e.place_is, ap end_of e.parts, end_from-append 0 e.done e.left, le-end_from (end_of e.done) e.left)

each_from_base : (publisher : Name) (es : List Recorded) (base : ℕ) (users : List Name) → IsEndOf es base → base ≤ least_from publisher es base users
each_from_base publisher es base [] e = end_from_base es base e
each_from_base publisher es base (user ∷ users) e =
    let one = need_from_base publisher es base user e in
    let rest = each_from_base publisher es base users e in
    omega (arith, one, rest)

pub least_from_base : (publisher : Name) (es : List Recorded) (base : ℕ) → IsEndOf es base → base ≤ least_need publisher es base
least_from_base publisher es base e = each_from_base publisher es base (map user_name (state_of publisher es).catalog.users) e

-- nor past the end
to_end : (publisher : Name) (es : List Recorded) (base : ℕ) (users : List Name) → least_from publisher es base users ≤ end_of es
to_end publisher es base [] = omega arith
to_end publisher es base (user ∷ users) = let rest = to_end publisher es base users in omega (arith, rest)

pub least_to_end : (publisher : Name) (es : List Recorded) (base : ℕ) → least_need publisher es base ≤ end_of es
least_to_end publisher es base = to_end publisher es base (map user_name (state_of publisher es).catalog.users)
