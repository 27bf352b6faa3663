use Rattle.std.proofs.Common.{◌≡◌, ℕ, ◌+◌, List, [], ◌∷◌, ◌++◌, refl, ap, ◌∙◌, inl, inr}
use Rattle.sr_book.specs.Books.{new_book}
use Rattle.sr_book.specs.declared.book.Book.{Book}
use Rattle.sr_book.specs.Entries.{Name, Sight, local, from_user, noted, takes, booked}
use Rattle.sr_book.specs.Histories.{taken, book_from, book_of}
use Rattle.sr_book.proofs.Folds.{name_test, taken-append, book_from-append}
use Rattle.sr_world_model.specs.Machines.{Machine, state_from, state_of, lawful_from, lawful_by}
use Rattle.sr_world_model.specs.Inner.Machines.{GrantLaws}

module _ {State Entry Ops : Type 0} (m : Machine State Entry Ops) (Fits : State → ℕ → Entry → Type 0)
    (Knows : State → Name → Type 0) (laws : GrantLaws m Fits Knows) where
  -- who is granted stays so
  known_from : (s : State) (place : ℕ) (user : Name) (es : List Entry) → lawful_from m Fits s place es → Knows s user → Knows (state_from m s es) user
  known_from s place user [] lawful known = known
  known_from s place user (e ∷ es) lawful known =
      known_from (m.next s e) (place + (m.size e + 5)) user es lawful.1 (laws.stays s place e user lawful.0 known)

  -- an entry of a user that is not granted takes nothing from it and leaves its book
  quiet_entry : (s : State) (place : ℕ) (user : Name) (book : Book) (e : Entry) (sight : Sight Ops) → m.sees e ≡ sight → Fits s place e →
      ¬ (Knows s user) → (takes user sight ≡ []) × (booked user book sight ≡ book)
  quiet_entry s place user book e local is fits unknown = (refl, refl)
  quiet_entry s place user book e (from_user other at ops) is fits unknown = elim (name_test user other) [
    | inl t ↦ absurd (unknown (rw t.1 (laws.taken_behind s place e other at ops fits is)))
    | inr t ↦ rw t (refl, refl)
  ]
  quiet_entry s place user book e (noted other note) is fits unknown = elim (name_test user other) [
    | inl t ↦ absurd (unknown (rw t.1 (laws.noted_behind s place e other note fits is)))
    | inr t ↦ rw t (refl, refl)
  ]

  -- so do the entries before its grant
  quiet_from : (s : State) (place : ℕ) (user : Name) (book : Book) (es : List Entry) → lawful_from m Fits s place es →
      ¬ (Knows (state_from m s es) user) → (taken m.sees user es ≡ []) × (book_from m.sees user book es ≡ book)
  quiet_from s place user book [] lawful unknown = (refl, refl)
  quiet_from s place user book (e ∷ es) lawful unknown =
      let before : ¬ (Knows s user) = λ known. unknown (known_from s place user (e ∷ es) lawful known) in
      let here = quiet_entry s place user book e (m.sees e) refl lawful.0 before in
      let later = quiet_from (m.next s e) (place + (m.size e + 5)) user book es lawful.1 unknown in (
        ap (λ txs. txs ++ taken m.sees user es) here.0 ∙ later.0,
        ap (λ b. book_from m.sees user b es) here.1 ∙ later.1,
      )

  pub book_at_grant : (d user : Name) (es more : List Entry) → lawful_by m Fits d es → ¬ (Knows (state_of m d es) user) →
      book_of m.sees user (es ++ more) ≡ book_from m.sees user new_book more
  book_at_grant d user es more lawful unknown =
      book_from-append m.sees user new_book es more
      ∙ ap (λ b. book_from m.sees user b more) (quiet_from (m.fresh d) 0 user new_book es lawful unknown).1

  pub taken_at_grant : (d user : Name) (es more : List Entry) → lawful_by m Fits d es → ¬ (Knows (state_of m d es) user) →
      taken m.sees user (es ++ more) ≡ taken m.sees user more
  taken_at_grant d user es more lawful unknown =
      taken-append m.sees user es more
      ∙ ap (λ txs. txs ++ taken m.sees user more) (quiet_from (m.fresh d) 0 user new_book es lawful unknown).0
