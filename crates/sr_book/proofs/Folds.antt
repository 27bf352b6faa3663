use Rattle.std.proofs.Common.{◌≡◌, ℕ, ◌-◌, ◌^◌, ◌<◌, ◌≤◌, ◌⊎◌, Bool, true, false, List, [], ◌∷◌, ◌++◌, refl, sym, ap, ◌∙◌, inl, inr, arith, append_assoc, append-nil, le_refl, bytes_eq, nat_lt}
use Rattle.std.proofs.lemmas.Slice.Eq.{bytes_eq-Decides}
use Rattle.sr_book.specs.Books.{new_book, with_note}
use Rattle.sr_book.specs.declared.book.Book.{Book}
use Rattle.sr_book.specs.declared.note.Note.{Note}
use Rattle.sr_book.specs.declared.note.Note.TheVariants.{Confirmed, Asked, Raised, Sent}
use Rattle.sr_book.specs.Entries.{Name, Sight, local, from_user, noted, takes, asks, booked, ask_count}
use Rattle.sr_book.specs.Histories.{taken, taken_end, asked, book_from, book_of}
use Rattle.sr_book.specs.Rising.{top, offsets}
use Rattle.sr_book.proofs.Offsets.{top-append, offsets-append}

-- two names are one, or are told apart
pub name_test : (a b : Name) → ((bytes_eq a b ≡ true) × (a ≡ b)) ⊎ (bytes_eq a b ≡ false)
name_test a b = by_test (bytes_eq a b) refl
  where
    by_test : (r : Bool) → bytes_eq a b ≡ r → ((bytes_eq a b ≡ true) × (a ≡ b)) ⊎ (bytes_eq a b ≡ false)
    by_test true e = inl (e, (bytes_eq-Decides a b).0 e)
    by_test false e = inr e

pub same_name : (a : Name) → bytes_eq a a ≡ true
same_name a = (bytes_eq-Decides a a).1 refl

-- an ask whose count is new, or not
pub ask_test : (known count : ℕ) → ((nat_lt known count ≡ true) × (known < count)) ⊎ ((nat_lt known count ≡ false) × (count ≤ known))
ask_test known count = grind arith

-- a note leaves what was received
note_received : (book : Book) (note : Note) → (with_note book note).log_received ≡ book.log_received
note_received book (Confirmed place) = refl
note_received book (Asked count place) = elim (ask_test book.resend_count count) [ inl t ↦ rw t.0 refl | inr t ↦ rw t.0 refl ]
note_received book Raised = refl
note_received book (Sent end count confirm) = refl

-- after a note the count of asks is at least that of the ask, and no less than before
note_resend : (book : Book) (note : Note) (count : ℕ) → count ≤ book.resend_count →
    (top count (ask_count note) ≤ (with_note book note).resend_count) × (book.resend_count ≤ (with_note book note).resend_count)
note_resend book (Confirmed place) count le = (le, le_refl book.resend_count)
note_resend book (Asked new place) count le =
    elim (ask_test book.resend_count new) [ inl t ↦ rw t.0 (le_refl new, omega arith) | inr t ↦ rw t.0 (t.1, le_refl book.resend_count) ]
note_resend book Raised count le = (le, le_refl book.resend_count)
note_resend book (Sent end messages confirm) count le = (le, le_refl book.resend_count)

-- a count that is raised stays within 64 bits, and falls only where it had passed them
note_rereceive : (book : Book) (note : Note) → book.rereceive_count ≤ 2 ^ 64 - 1 →
    (book.rereceive_count ≤ (with_note book note).rereceive_count) × ((with_note book note).rereceive_count ≤ 2 ^ 64 - 1)
note_rereceive book (Confirmed place) le = (le_refl book.rereceive_count, le)
note_rereceive book (Asked new place) le =
    elim (ask_test book.resend_count new) [ inl t ↦ rw t.0 (le_refl book.rereceive_count, le) | inr t ↦ rw t.0 (le_refl book.rereceive_count, le) ]
note_rereceive book Raised le = (omega arith, omega arith)
note_rereceive book (Sent end messages confirm) le = (le_refl book.rereceive_count, le)

booked_received : {Ops : Type 0} (user : Name) (book : Book) (s : Sight Ops) →
    (booked user book s).log_received ≡ top book.log_received (offsets (takes user s))
booked_received user book local = refl
booked_received user book (from_user other place ops) = elim (name_test user other) [ inl t ↦ rw t.0 refl | inr t ↦ rw t refl ]
booked_received user book (noted other note) = elim (name_test user other) [ inl t ↦ rw t.0 (note_received book note) | inr t ↦ rw t refl ]

booked_resend : {Ops : Type 0} (user : Name) (book : Book) (s : Sight Ops) (count : ℕ) → count ≤ book.resend_count →
    (top count (asks user s) ≤ (booked user book s).resend_count) × (book.resend_count ≤ (booked user book s).resend_count)
booked_resend user book local count le = (le, le_refl book.resend_count)
booked_resend user book (from_user other place ops) count le =
    elim (name_test user other) [ inl t ↦ rw t.0 (le, le_refl book.resend_count) | inr t ↦ rw t (le, le_refl book.resend_count) ]
booked_resend user book (noted other note) count le =
    elim (name_test user other) [ inl t ↦ rw t.0 (note_resend book note count le) | inr t ↦ rw t (le, le_refl book.resend_count) ]

booked_rereceive : {Ops : Type 0} (user : Name) (book : Book) (s : Sight Ops) → book.rereceive_count ≤ 2 ^ 64 - 1 →
    (book.rereceive_count ≤ (booked user book s).rereceive_count) × ((booked user book s).rereceive_count ≤ 2 ^ 64 - 1)
booked_rereceive user book local le = (le_refl book.rereceive_count, le)
booked_rereceive user book (from_user other place ops) le =
    elim (name_test user other) [ inl t ↦ rw t.0 (le_refl book.rereceive_count, le) | inr t ↦ rw t (le_refl book.rereceive_count, le) ]
booked_rereceive user book (noted other note) le =
    elim (name_test user other) [ inl t ↦ rw t.0 (note_rereceive book note le) | inr t ↦ rw t (le_refl book.rereceive_count, le) ]

module _ {Entry Ops : Type 0} (sees : Entry → Sight Ops) where
  pub taken-append : (user : Name) (es fs : List Entry) → taken sees user (es ++ fs) ≡ taken sees user es ++ taken sees user fs
  taken-append user [] fs = refl
  taken-append user (e ∷ es) fs = ap (λ txs. takes user (sees e) ++ txs) (taken-append user es fs)
      ∙ sym (append_assoc (takes user (sees e)) (taken sees user es) (taken sees user fs))

  pub taken_more : (user : Name) (es : List Entry) (e : Entry) → taken sees user (es ++ e ∷ []) ≡ taken sees user es ++ takes user (sees e)
  taken_more user es e = taken-append user es (e ∷ []) ∙ ap (λ txs. taken sees user es ++ txs) (append-nil (takes user (sees e)))

  pub asked-append : (user : Name) (es fs : List Entry) → asked sees user (es ++ fs) ≡ asked sees user es ++ asked sees user fs
  asked-append user [] fs = refl
  asked-append user (e ∷ es) fs = ap (λ counts. asks user (sees e) ++ counts) (asked-append user es fs)
      ∙ sym (append_assoc (asks user (sees e)) (asked sees user es) (asked sees user fs))

  pub asked_more : (user : Name) (es : List Entry) (e : Entry) → asked sees user (es ++ e ∷ []) ≡ asked sees user es ++ asks user (sees e)
  asked_more user es e = asked-append user es (e ∷ []) ∙ ap (λ counts. asked sees user es ++ counts) (append-nil (asks user (sees e)))

  pub book_from-append : (user : Name) (book : Book) (es fs : List Entry) →
      book_from sees user book (es ++ fs) ≡ book_from sees user (book_from sees user book es) fs
  book_from-append user book [] fs = refl
  book_from-append user book (e ∷ es) fs = book_from-append user (booked user book (sees e)) es fs

  pub book_more : (user : Name) (es : List Entry) (e : Entry) → book_of sees user (es ++ e ∷ []) ≡ booked user (book_of sees user es) (sees e)
  book_more user es e = book_from-append user new_book es (e ∷ [])

  received_from : (user : Name) (book : Book) (es : List Entry) →
      (book_from sees user book es).log_received ≡ top book.log_received (offsets (taken sees user es))
  received_from user book [] = refl
  received_from user book (e ∷ es) = received_from user (booked user book (sees e)) es
      ∙ ap (λ low. top low (offsets (taken sees user es))) (booked_received user book (sees e))
      ∙ sym (ap (top book.log_received) (offsets-append (takes user (sees e)) (taken sees user es))
      ∙ top-append book.log_received (offsets (takes user (sees e))) (offsets (taken sees user es)))

  -- what the book has as received is where the taken transactions end
  pub book_received : (user : Name) (es : List Entry) → (book_of sees user es).log_received ≡ taken_end sees user es
  book_received user es = received_from user new_book es

  pub resend_from : (user : Name) (book : Book) (es : List Entry) (count : ℕ) → count ≤ book.resend_count →
      (top count (asked sees user es) ≤ (book_from sees user book es).resend_count) × (book.resend_count ≤ (book_from sees user book es).resend_count)
  resend_from user book [] count le = (le, le_refl book.resend_count)
  resend_from user book (e ∷ es) count le =
      let here : (top count (asks user (sees e)) ≤ (booked user book (sees e)).resend_count)
      × (book.resend_count ≤ (booked user book (sees e)).resend_count) = booked_resend user book (sees e) count le in
      let later : (top (top count (asks user (sees e))) (asked sees user es) ≤ (book_from sees user (booked user book (sees e)) es).resend_count)
      × ((booked user book (sees e)).resend_count ≤ (book_from sees user (booked user book (sees e)) es).resend_count)
      = resend_from user (booked user book (sees e)) es (top count (asks user (sees e))) here.0 in
      (rw top-append later.0, omega (arith, here.1, later.1))

  -- the counts of the asks are at most the count of asks in the book
  pub asked_within : (user : Name) (es : List Entry) → top 0 (asked sees user es) ≤ (book_of sees user es).resend_count
  asked_within user es = (resend_from user new_book es 0 (le_refl 0)).0

  pub rereceive_from : (user : Name) (book : Book) (es : List Entry) → book.rereceive_count ≤ 2 ^ 64 - 1 →
      (book.rereceive_count ≤ (book_from sees user book es).rereceive_count) × ((book_from sees user book es).rereceive_count ≤ 2 ^ 64 - 1)
  rereceive_from user book [] le = (le_refl book.rereceive_count, le)
  rereceive_from user book (e ∷ es) le =
      let here : (book.rereceive_count ≤ (booked user book (sees e)).rereceive_count)
      × ((booked user book (sees e)).rereceive_count ≤ 2 ^ 64 - 1) = booked_rereceive user book (sees e) le in
      let later : ((booked user book (sees e)).rereceive_count ≤ (book_from sees user (booked user book (sees e)) es).rereceive_count)
      × ((book_from sees user (booked user book (sees e)) es).rereceive_count ≤ 2 ^ 64 - 1)
      = rereceive_from user (booked user book (sees e)) es here.1 in
      (omega (arith, here.0, later.0), later.1)

  -- the count of asks raised stays within 64 bits
  pub rereceive_within : (user : Name) (es : List Entry) → (book_of sees user es).rereceive_count ≤ 2 ^ 64 - 1
  rereceive_within user es = (rereceive_from user new_book es (omega arith)).1

  -- the counts of a longer history are no less
  pub counts_kept : (user : Name) (es more : List Entry) →
      ((book_of sees user es).resend_count ≤ (book_of sees user (es ++ more)).resend_count)
      × ((book_of sees user es).rereceive_count ≤ (book_of sees user (es ++ more)).rereceive_count)
  counts_kept user es more = rw (book_from-append user new_book es more) (
    (resend_from user (book_of sees user es) more 0 (omega arith)).1,
    (rereceive_from user (book_of sees user es) more (rereceive_within user es)).0,
  )
