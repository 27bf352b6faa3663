-- What is needed stays so with an entry more, and is kept at the least need.
use Rattle.std.proofs.Common.{◌≡◌, ℕ, ◌+◌, ◌≤◌, ◌<◌, Bool, true, false, cond, Option, Some, None, IsSome, List, [], ◌∷◌, ◌++◌, inl, inr, refl, sym, ap, subst, ◌∙◌, arith, le-ltb, lt-ltb}
use Rattle.sr_base.specs.declared.offset.Offset.{Offset}
use Rattle.sr_book.proofs.Folds.{ask_test}
use Rattle.std.specs.Prelude.{nat_lt, ◌&&◌, map, filter, max, min, bytes_eq}
use Rattle.std.specs.List.{AllByRecursion}
use Rattle.sr_book.specs.Books.{with_note}
use Rattle.sr_book.specs.Entries.{Name, Sight, local, from_user, noted, booked}
use Rattle.sr_book.specs.declared.book.Book.{Book}
use Rattle.sr_book.specs.declared.note.Note.{Note}
use Rattle.sr_book.specs.declared.note.Note.TheVariants.{Confirmed, Asked, Raised, Sent}
use Rattle.sr_book.proofs.Folds.{name_test, book_more}
use Rattle.sr_database_history.specs.Folds.{State, fresh, next, size, sees, state_of, end_of, books_of}
use Rattle.sr_database_history.specs.Fitting.{Stored}
use Rattle.sr_database_history.specs.Recorded.{Recorded, own, taken, ddl, sync, pass, note}
use Rattle.sr_catalog_schema.specs.Members.{user_name}
use Rattle.sr_catalog_schema.specs.Names.{named}
use Rattle.sr_catalog_schema.specs.declared.user.User.{User}
use Rattle.sr_exec_where.proofs.Fixed.{same_name}
use Rattle.sr_send_needs.proofs.Ungranted.{given_nothing}
use Rattle.sr_logform.specs.declared.op.Op.{Op}
use Rattle.sr_scan.specs.Given.{given_of, given_from, gives, with_transaction}
use Rattle.sr_scan.proofs.Growing.{one_more}
use Rattle.sr_send.specs.Passes.{waiting}
use Rattle.sr_send.specs.Unsent.{as_transaction, unsent}
use Rattle.sr_send_needs.specs.Inner.Needs.{SendsOn, KeepsUnsent}
use Rattle.sr_send_needs.specs.Needs.{AreOrdered, IsKept, KeepsNeeds, any_ops, end_before, need_of, least_from, least_need}

-- ---- no book confirms less

note_confirms : (b : Book) (what : Note) → b.confirm_sent ≤ (with_note b what).confirm_sent
note_confirms b (Confirmed place) = omega arith
note_confirms b (Asked count place) = by (nat_lt b.resend_count count) refl
  where
    by : (t : Bool) → nat_lt b.resend_count count ≡ t → b.confirm_sent ≤ (with_note b (Asked count place)).confirm_sent
    by true is = rw is (omega arith)
    by false is = rw is (omega arith)
note_confirms b Raised = omega arith
note_confirms b (Sent end messages confirm) = omega arith

confirms : {Ops : Type 0} (user : Name) (b : Book) (s : Sight Ops) → b.confirm_sent ≤ (booked user b s).confirm_sent
confirms user b local = omega arith
confirms user b (from_user other place ops) = elim (name_test user other) [ inl t ↦ rw t.0 (omega arith) | inr t ↦ rw t (omega arith) ]
confirms user b (noted other what) = elim (name_test user other) [ inl t ↦ rw t.0 (note_confirms b what) | inr t ↦ rw t (omega arith) ]

-- ---- one entry more

kept_on : (base c d : ℕ) (txs : List (ℕ × List Op)) → c ≤ d → AllByRecursion (IsKept base c) txs → AllByRecursion (IsKept base d) txs
kept_on base c d [] le all = tt
kept_on base c d (tx ∷ txs) le all = (λ past. all.0 (omega (arith, le, past)), kept_on base c d txs le all.1)

both : (base c : ℕ) (xs ys : List (ℕ × List Op)) → AllByRecursion (IsKept base c) xs → AllByRecursion (IsKept base c) ys → AllByRecursion (IsKept base c) (xs ++ ys)
both base c [] ys one other = other
both base c (x ∷ xs) ys one other = (one.0, both base c xs ys one.1 other)

behind : (base c end : ℕ) (ops : List Op) → base < end → AllByRecursion (IsKept base c) (with_transaction end ops [])
behind base c end [] lt = tt
behind base c end (op ∷ ops) lt = (λ past. lt, tt)

pub needs_more : (publisher : Name) (es : List Recorded) (r : Recorded) (base : ℕ) → base ≤ end_of es → KeepsNeeds publisher es base
    → ((user : Name) → (books_of user (es ++ r ∷ [])).confirm_sent ≤ (books_of user (es ++ r ∷ [])).log_sent) → KeepsNeeds publisher (es ++ r ∷ []) base
needs_more publisher es r base le keeps ordered = record {
  needed = λ user.
      let c : (books_of user es).confirm_sent ≤ (books_of user (es ++ r ∷ [])).confirm_sent =
      subst (λ (b : Book). (books_of user es).confirm_sent ≤ b.confirm_sent) (sym (book_more sees user es r)) (confirms user (books_of user es) (sees r)) in
      subst (λ (txs : List (ℕ × List Op)). AllByRecursion (IsKept base (books_of user (es ++ r ∷ [])).confirm_sent) txs) (sym (one_more publisher user es r))
      (both base _ (given_of publisher es user) _ (kept_on base _ _ (given_of publisher es user) c (keeps.needed user))
      (behind base _ (end_of es + (size r + 5)) (gives (state_of publisher es) r user) (omega (arith, le))));
  ordered = ordered;
}

-- ---- the same of what lies past the lesser of what was confirmed and what was sent

abbrev lesser : Book → ℕ
lesser b = min b.confirm_sent b.log_sent

-- a note lowers neither, but where it says so, or an ask goes back to what was confirmed
lesser_note : (b : Book) (what : Note) → ((end : Offset) (messages : ℕ) (confirm : Offset) → what ≡ Sent end messages confirm → b.log_sent ≤ end.0) → lesser b ≤ lesser (with_note b what)
lesser_note b (Confirmed place) on = omega arith
lesser_note b (Asked count place) on = by (nat_lt b.resend_count count) refl
  where
    by : (t : Bool) → nat_lt b.resend_count count ≡ t → lesser b ≤ lesser (with_note b (Asked count place))
    by true is = rw is (omega arith)
    by false is = rw is (omega arith)
lesser_note b Raised on = omega arith
lesser_note b (Sent end messages confirm) on = omega (arith, on end messages confirm refl)

lesser_noted : (user other : Name) (es : List Recorded) (what : Note) → SendsOn es (note other what) → lesser (books_of user es) ≤ lesser (booked user (books_of user es) (sees (note other what)))
lesser_noted user other es what on = elim (name_test user other) [ inl t ↦ rw t.0 (lesser_note (books_of user es) what (his t.1 what on)) | inr t ↦ rw t (omega arith) ]
  where
    his : user ≡ other → (n : Note) → SendsOn es (note other n) → (end : Offset) (messages : ℕ) (confirm : Offset) → n ≡ Sent end messages confirm → (books_of user es).log_sent ≤ end.0
    his same n on end messages confirm is =
        subst (λ (u : Name). (books_of u es).log_sent ≤ end.0) (sym same) (subst (λ (m : Note). SendsOn es (note other m)) is on)

lesser_more : (user : Name) (es : List Recorded) (r : Recorded) → SendsOn es r → lesser (books_of user es) ≤ lesser (booked user (books_of user es) (sees r))
lesser_more user es (own changes) on = omega arith
lesser_more user es (taken other at dones) on = elim (name_test user other) [ inl t ↦ rw t.0 (omega arith) | inr t ↦ rw t (omega arith) ]
lesser_more user es (ddl statement) on = omega arith
lesser_more user es (sync other tables) on = omega arith
lesser_more user es (pass users only statement changes) on = omega arith
lesser_more user es (note other what) on = lesser_noted user other es what on

pub unsent_more : (publisher : Name) (es : List Recorded) (r : Recorded) (base : ℕ) → base ≤ end_of es → KeepsUnsent publisher es base → SendsOn es r → KeepsUnsent publisher (es ++ r ∷ []) base
unsent_more publisher es r base le keeps on user =
    let c : lesser (books_of user es) ≤ lesser (books_of user (es ++ r ∷ [])) =
    subst (λ (b : Book). lesser (books_of user es) ≤ lesser b) (sym (book_more sees user es r)) (lesser_more user es r on) in
    subst (λ (txs : List (ℕ × List Op)). AllByRecursion (IsKept base (lesser (books_of user (es ++ r ∷ [])))) txs) (sym (one_more publisher user es r))
    (both base _ (given_of publisher es user) _ (kept_on base _ _ (given_of publisher es user) c (keeps user))
    (behind base _ (end_of es + (size r + 5)) (gives (state_of publisher es) r user) (omega (arith, le))))

-- ---- what is sent from a base

same_test : (base sent n : ℕ) → (sent < n → base < n) → nat_lt (max base sent) n ≡ nat_lt sent n
same_test base sent n kept = elim (ask_test sent n) [
  | inl t ↦ lt-ltb (max base sent) n (omega (arith, t.1, kept t.1)) ∙ sym t.0
  | inr t ↦ le-ltb (max base sent) n (omega (arith, t.1)) ∙ sym t.0
]

same_past : (base c sent : ℕ) (txs : List (ℕ × List Op)) → c ≤ sent → AllByRecursion (IsKept base c) txs
    → filter (λ tx. nat_lt (max base sent) tx.0) txs ≡ filter (λ tx. nat_lt sent tx.0) txs
same_past base c sent [] le all = refl
same_past base c sent (tx ∷ txs) le all =
    let test : nat_lt (max base sent) tx.0 ≡ nat_lt sent tx.0 = same_test base sent tx.0 (λ lt. all.0 (omega (arith, le, lt))) in
    ap (λ (b : Bool). cond b (tx ∷ filter (λ tx. nat_lt (max base sent) tx.0) txs) (filter (λ tx. nat_lt (max base sent) tx.0) txs)) test
    ∙ ap (λ (l : List (ℕ × List Op)). cond (nat_lt sent tx.0) (tx ∷ l) l) (same_past base c sent txs le all.1)

pub sent_all : (publisher : Name) (es : List Recorded) (base : ℕ) (user : Name) → KeepsNeeds publisher es base
    → waiting base publisher es user (books_of user es) ≡ unsent publisher es user (books_of user es).log_sent
sent_all publisher es base user keeps =
    ap (λ (l : List (ℕ × List Op)). map as_transaction l)
    (same_past base (books_of user es).confirm_sent (books_of user es).log_sent (given_of publisher es user) (keeps.ordered user) (keeps.needed user))

pub unsent_all : (publisher : Name) (es : List Recorded) (base : ℕ) (user : Name) → KeepsUnsent publisher es base
    → waiting base publisher es user (books_of user es) ≡ unsent publisher es user (books_of user es).log_sent
unsent_all publisher es base user keeps =
    ap (λ (l : List (ℕ × List Op)). map as_transaction l)
    (same_past base (lesser (books_of user es)) (books_of user es).log_sent (given_of publisher es user) (omega arith) (keeps user))

-- ---- the need of a user

abbrev IsBeyond : ℕ → ℕ → ℕ × List Op → Type 0
IsBeyond sent need tx = sent < tx.0 → need < tx.0

module _ (sent : ℕ) (user : Name) where
  all_past : (s : State) (place need : ℕ) (rs : List Recorded) → need ≤ place → AllByRecursion (IsBeyond sent need) (given_from s place rs user)
  all_past s place need [] le = tt
  all_past s place need (r ∷ rs) le = by (gives s r user) (all_past (next s r) (place + (size r + 5)) need rs (omega (arith, le)))
    where
      by : (ops : List Op) → AllByRecursion (IsBeyond sent need) (given_from (next s r) (place + (size r + 5)) rs user)
          → AllByRecursion (IsBeyond sent need) (with_transaction (place + (size r + 5)) ops (given_from (next s r) (place + (size r + 5)) rs user))
      by [] rest = rest
      by (op ∷ ops) rest = (λ lt. omega (arith, le), rest)

  one_beyond : (place rest end : ℕ) (ops : List Op) (txs : List (ℕ × List Op)) → place < end → AllByRecursion (IsBeyond sent rest) txs → AllByRecursion (IsBeyond sent place) txs
      → AllByRecursion (IsBeyond sent (cond (any_ops ops && nat_lt sent end) place rest)) (with_transaction end ops txs)
  one_beyond place rest end [] txs lt far near = far
  one_beyond place rest end (op ∷ ops) txs lt far near = elim (ask_test sent end) [
    | inl t ↦ subst (λ (b : Bool). AllByRecursion (IsBeyond sent (cond b place rest)) ((end, op ∷ ops) ∷ txs)) (sym t.0) ((λ past. lt), near)
    | inr t ↦ subst (λ (b : Bool). AllByRecursion (IsBeyond sent (cond b place rest)) ((end, op ∷ ops) ∷ txs)) (sym t.0) ((λ past. absurd (omega (arith, t.1, past))), far)
  ]

  beyond : (s : State) (place : ℕ) (rs : List Recorded) → AllByRecursion (IsBeyond sent (end_before sent s place rs user)) (given_from s place rs user)
  beyond s place [] = tt
  beyond s place (r ∷ rs) =
      let end = place + (size r + 5) in
      one_beyond place (end_before sent (next s r) end rs user) end (gives s r user) (given_from (next s r) end rs user) (omega arith) (beyond (next s r) end rs)
      (all_past (next s r) end place rs (omega arith))

kept_beyond : (base c need : ℕ) (txs : List (ℕ × List Op)) → AllByRecursion (IsKept base c) txs → AllByRecursion (IsBeyond (max base c) need) txs → AllByRecursion (IsKept need c) txs
kept_beyond base c need [] all far = tt
kept_beyond base c need (tx ∷ txs) all far = (λ past. far.0 (omega (arith, past, all.0 past)), kept_beyond base c need txs all.1 far.1)

need_keeps : (publisher : Name) (es : List Recorded) (base : ℕ) (user : Name) → KeepsNeeds publisher es base
    → AllByRecursion (IsKept (need_of publisher es base user) (books_of user es).confirm_sent) (given_of publisher es user)
need_keeps publisher es base user keeps =
    kept_beyond base (books_of user es).confirm_sent (need_of publisher es base user) (given_of publisher es user) (keeps.needed user)
    (beyond (max base (books_of user es).confirm_sent) user (fresh publisher) 0 es)

-- ---- the least need

kept_to : (base keep c : ℕ) (txs : List (ℕ × List Op)) → keep ≤ base → AllByRecursion (IsKept base c) txs → AllByRecursion (IsKept keep c) txs
kept_to base keep c [] le all = tt
kept_to base keep c (tx ∷ txs) le all = (λ past. omega (arith, le, all.0 past), kept_to base keep c txs le all.1)

-- it is no greater than the need of a user who is granted
least_of_named : (publisher : Name) (es : List Recorded) (base : ℕ) (users : List User) (user : Name) → IsSome (named user_name user users) → least_from publisher es base (map user_name users) ≤ need_of publisher es base user
least_of_named publisher es base [] user some = absurd cc
least_of_named publisher es base (u ∷ users) user some = go (bytes_eq user u.name) refl some (least_of_named publisher es base users user) where
  go : (b : Bool) → bytes_eq user u.name ≡ b → IsSome (cond b (Some u) (named user_name user users)) → (IsSome (named user_name user users) → least_from publisher es base (map user_name users) ≤ need_of publisher es base user)
      → min (need_of publisher es base u.name) (least_from publisher es base (map user_name users)) ≤ need_of publisher es base user
  go true is found later =
      let same : need_of publisher es base user ≡ need_of publisher es base u.name = ap (λ (n : Name). need_of publisher es base n) (same_name user u.name is) in
      omega (arith, same)
  go false is found later = let rest = later found in omega (arith, rest)

-- who is granted has all kept, and who is not was given nothing
user_keeps : (publisher : Name) (es : List Recorded) (base keep : ℕ) (user : Name) → Stored publisher es → KeepsNeeds publisher es base → keep ≤ least_need publisher es base → (found : Option User)
    → named user_name user (state_of publisher es).catalog.users ≡ found → AllByRecursion (IsKept keep (books_of user es).confirm_sent) (given_of publisher es user)
user_keeps publisher es base keep user stored keeps le (Some u) is =
    let least = least_of_named publisher es base (state_of publisher es).catalog.users user (subst IsSome (sym is) refl) in
    kept_to (need_of publisher es base user) keep (books_of user es).confirm_sent (given_of publisher es user) (omega (arith, le, least)) (need_keeps publisher es base user keeps)
user_keeps publisher es base keep user stored keeps le None is =
    let none : given_of publisher es user ≡ [] = given_nothing publisher user es stored (λ knows. no_user (named user_name user (state_of publisher es).catalog.users) is knows) in
    subst (λ (txs : List (ℕ × List Op)). AllByRecursion (IsKept keep (books_of user es).confirm_sent) txs) (sym none) tt
  where
    no_user : (o : Option User) → o ≡ None → IsSome o → ⊥
    no_user None is some = cc
    no_user (Some u) is some = cc

pub least_kept : (publisher : Name) (es : List Recorded) (base keep : ℕ) → Stored publisher es → KeepsNeeds publisher es base → keep ≤ least_need publisher es base → KeepsNeeds publisher es keep
least_kept publisher es base keep stored keeps le = record {
  needed = λ user. user_keeps publisher es base keep user stored keeps le (named user_name user (state_of publisher es).catalog.users) refl;
  ordered = keeps.ordered;
}

pub least_keeps : (publisher : Name) (es : List Recorded) (base : ℕ) → Stored publisher es → KeepsNeeds publisher es base → KeepsNeeds publisher es (least_need publisher es base)
least_keeps publisher es base stored keeps = least_kept publisher es base (least_need publisher es base) stored keeps (omega arith)

-- ---- the beginning

all_kept : (c : ℕ) (txs : List (ℕ × List Op)) → AllByRecursion (IsKept 0 c) txs
all_kept c [] = tt
all_kept c (tx ∷ txs) = (λ past. omega (arith, past), all_kept c txs)

pub first_keeps : (publisher : Name) (es : List Recorded) → AreOrdered es → KeepsNeeds publisher es 0
first_keeps publisher es ordered = record { needed = λ user. all_kept (books_of user es).confirm_sent (given_of publisher es user); ordered = ordered }

pub first_unsent : (publisher : Name) (es : List Recorded) → KeepsUnsent publisher es 0
first_unsent publisher es user = all_kept (lesser (books_of user es)) (given_of publisher es user)
