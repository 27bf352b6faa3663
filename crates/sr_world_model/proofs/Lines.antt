use Rattle.std.proofs.Common.{◌≡◌, ℕ, ◌<◌, ◌≤◌, ◌⊎◌, List, [], ◌∷◌, ◌++◌, sym, ap, ◌∙◌, subst, inl, inr, arith, append_assoc, append-nil, le_refl}
use Rattle.std.proofs.Common.{nat_lt, true}
use Rattle.std.proofs.lemmas.List.Elements.{Contains-push_cases}
use Rattle.sr_book.specs.Books.{with_note}
use Rattle.sr_book.specs.declared.book.Book.{Book}
use Rattle.sr_book.specs.declared.note.Note.{Note}
use Rattle.sr_book.specs.declared.note.Note.TheVariants.{Confirmed, Asked, Raised, Sent}
use Rattle.sr_book.specs.Entries.{Name, Sight, local, from_user, noted, takes, asks, booked, ask_count}
use Rattle.sr_book.specs.Histories.{taken, taken_end, asked, book_of}
use Rattle.sr_book.specs.Rising.{Rises, top, offsets}
use Rattle.sr_book.proofs.Offsets.{Rises-append, Rises-prefix, Rises-back, offsets-append}
use Rattle.sr_book.proofs.Folds.{name_test, ask_test, taken_more, asked_more, book_more, asked_within, book_received}
use Rattle.sr_msgform.specs.declared.message.Message.{Message}
use Rattle.sr_world_model.specs.Layers.{Layers, end_of}
use Rattle.sr_world_model.specs.Inner.Layers.{Laws}
use Rattle.sr_world_model.specs.Truth.{IsTrueOf}
use Rattle.sr_world_model.specs.Worlds.{AreInStep, IsInOrder}
use Rattle.sr_world_model.proofs.Longer.{given_in, given_longer, taken_longer, true_longer, le-end_of}
use Rattle.sr_world_model.proofs.Sound.{AreGood, IsSound, IsSoundNote, taken_stands}

-- a history that stays, or has one lawful and sound entry more
pub record HasMore {Entry Ops : Type 0} (p : Layers Entry Ops) (lawful : Name → List Entry → Type 0) (of : Name →
    List Entry) (d : Name) (new : List Entry) : Type 0 where
  pub entry : Entry
  pub joined : new ≡ of d ++ entry ∷ []
  pub is_lawful : lawful d new
  pub sound : IsSound p of d (p.sees entry)

-- a book in order, of a history that ends here
record IsBookInOrder (book : Book) (end : ℕ) : Type 0 where
  confirmed_sent : book.confirm_sent ≤ book.log_sent
  sent_stands : book.log_sent ≤ end
  confirmed_received : book.confirm_received ≤ book.log_received

-- the test of an ask whose count is new
ask_new : (known count : ℕ) → known < count → nat_lt known count ≡ true
ask_new known count above = grind arith

module _ {Entry Ops : Type 0} (p : Layers Entry Ops) (HasSpelling : (ℕ × Ops) → Type 0) (lawful : Name → List Entry →
    Type 0) (laws : Laws p HasSpelling lawful) (of : Name →
    List Entry) (messages : List Message) (good : AreGood p lawful of messages) where
  old_in_order : (d user : Name) → IsBookInOrder (book_of p.sees user (of d)) (end_of p (of d))
  old_in_order d user =
      let old = good.books d user in
      record { confirmed_sent = old.confirmed_sent; sent_stands = old.sent_stands; confirmed_received = old.confirmed_received }

  ask_rises : (d user : Name) (note : Note) → IsSoundNote p of d user note → Rises (top 0 (asked p.sees user (of d))) (ask_count note)
  ask_rises d user (Confirmed place) sound = tt
  ask_rises d user (Asked count place) sound = (omega (arith, asked_within p.sees user (of d), sound.1), tt)
  ask_rises d user Raised sound = tt
  ask_rises d user (Sent end count confirm) sound = tt

  -- what a sound entry takes is the next of what the user's history gives
  take_next : (d user : Name) (s : Sight Ops) → IsSound p of d s →
      (more : List (ℕ × Ops)) × (p.given user d (of user) ≡ (taken p.sees user (of d) ++ takes user s) ++ more)
  take_next d user local sound =
      let pair = good.in_step d user in
      (pair.rest, pair.taken_first ∙ ap (λ txs. txs ++ pair.rest) (sym (append-nil (taken p.sees user (of d)))))
  take_next d user (from_user other place ops) sound =
      let pair = good.in_step d user in
      elim (name_test user other) [
        | inl t ↦
            let here : p.given user d (of user) ≡ taken p.sees user (of d) ++ (place, ops) ∷ sound.0
            = subst (λ name. p.given name d (of name) ≡ taken p.sees name (of d) ++ (place, ops) ∷ sound.0) (sym t.1) sound.1 in
            rw t.0 (sound.0, here ∙ sym (append_assoc (taken p.sees user (of d)) ((place, ops) ∷ []) sound.0))
        | inr t ↦ rw t (pair.rest, pair.taken_first ∙ ap (λ txs. txs ++ pair.rest) (sym (append-nil (taken p.sees user (of d)))))
      ]
  take_next d user (noted other note) sound =
      let pair = good.in_step d user in
      (pair.rest, pair.taken_first ∙ ap (λ txs. txs ++ pair.rest) (sym (append-nil (taken p.sees user (of d)))))

  -- what a longer history took is a beginning of what was given before
  taken_next : (d user : Name) (new : List Entry) → (new ≡ of d) ⊎ HasMore p lawful of d new →
      (more : List (ℕ × Ops)) × (p.given user d (of user) ≡ taken p.sees user new ++ more)
  taken_next d user new (inl same) = let pair = good.in_step d user in rw same (pair.rest, pair.taken_first)
  taken_next d user new (inr more) =
      let next = take_next d user (p.sees more.entry) more.sound in
      let is : taken p.sees user new ≡ taken p.sees user (of d) ++ takes user (p.sees more.entry)
      = ap (taken p.sees user) more.joined ∙ taken_more p.sees user (of d) more.entry in
      rw is next

  -- so its offsets rise
  taken_rises : (d user : Name) (new : List Entry) → (new ≡ of d) ⊎ HasMore p lawful of d new → Rises 0 (offsets (taken p.sees user new))
  taken_rises d user new change =
      let next = taken_next d user new change in
      let rises : Rises 0 (offsets (taken p.sees user new) ++ offsets next.0)
      = rw (ap offsets next.1 ∙ offsets-append (taken p.sees user new) next.0) at (given_in p HasSpelling lawful laws user d (of user)).0 in
      Rises-prefix 0 (offsets (taken p.sees user new)) (offsets next.0) rises

  taken_later : (d user : Name) (new : List Entry) → (new ≡ of d) ⊎ HasMore p lawful of d new → taken_end p.sees user (of d) ≤ taken_end p.sees user new
  taken_later d user new (inl same) = rw same (le_refl (taken_end p.sees user (of d)))
  taken_later d user new (inr more) =
      let rises : Rises 0 (offsets (taken p.sees user new)) = taken_rises d user new (inr more) in
      let rises' : Rises 0 (offsets (taken p.sees user (of d ++ more.entry ∷ [])))
      = subst (λ es. Rises 0 (offsets (taken p.sees user es))) more.joined rises in
      rw more.joined (taken_longer p HasSpelling lawful laws user (of d) (more.entry ∷ []) rises')

  -- what a changed history gives goes on from what it gave
  given_next : (user d : Name) (new : List Entry) → (new ≡ of d) ⊎ HasMore p lawful of d new →
      (more : List (ℕ × Ops)) × (p.given d user new ≡ p.given d user (of d) ++ more)
  given_next user d new (inl same) = ([], ap (p.given d user) same ∙ sym (append-nil (p.given d user (of d))))
  given_next user d new (inr more) =
      let grown = given_longer p HasSpelling lawful laws d user (of d) (more.entry ∷ []) in
      (grown.more, ap (p.given d user) more.joined ∙ grown.joined)

  -- a sound entry confirms no more than was taken
  booked_confirmed : (d user : Name) (s : Sight Ops) → IsSound p of d s →
      (booked user (book_of p.sees user (of d)) s).confirm_sent ≤ taken_end p.sees d (of user)
  booked_confirmed d user local sound = (good.in_step d user).confirmed
  booked_confirmed d user (from_user other place ops) sound =
      elim (name_test user other) [ inl t ↦ rw t.0 (good.in_step d user).confirmed | inr t ↦ rw t (good.in_step d user).confirmed ]
  booked_confirmed d user (noted other note) sound =
      elim (name_test user other) [
        | inl t ↦ rw t.0 (by_note note (subst (λ name. IsSoundNote p of d name note) (sym t.1) sound))
        | inr t ↦ rw t (good.in_step d user).confirmed
      ]
    where
      by_note : (note : Note) → IsSoundNote p of d user note → (with_note (book_of p.sees user (of d)) note).confirm_sent ≤ taken_end p.sees d (of user)
      by_note (Confirmed place) sound = omega (arith, (good.in_step d user).confirmed)
      by_note (Asked count place) sound = elim (ask_test (book_of p.sees user (of d)).resend_count count) [
        | inl t ↦ rw t.0 (good.in_step d user).confirmed
        | inr t ↦ rw t.0 (good.in_step d user).confirmed
      ]
      by_note Raised sound = (good.in_step d user).confirmed
      by_note (Sent end count confirm) sound = (good.in_step d user).confirmed

  new_confirmed : (d user : Name) (new : List Entry) → (new ≡ of d) ⊎ HasMore p lawful of d new →
      (book_of p.sees user new).confirm_sent ≤ taken_end p.sees d (of user)
  new_confirmed d user new (inl same) = rw same (good.in_step d user).confirmed
  new_confirmed d user new (inr more) =
      rw (ap (book_of p.sees user) more.joined ∙ book_more p.sees user (of d) more.entry) (booked_confirmed d user (p.sees more.entry) more.sound)

  -- the second and third line
  pub in_step_kept : (d user : Name) (new_d new_user : List Entry) → (new_d ≡ of d) ⊎ HasMore p lawful of d new_d →
      (new_user ≡ of user) ⊎ HasMore p lawful of user new_user → AreInStep p d user new_d new_user
  in_step_kept d user new_d new_user change change' =
      let next = taken_next d user new_d change in
      let given = given_next d user new_user change' in
      let later : taken_end p.sees d (of user) ≤ taken_end p.sees d new_user = taken_later user d new_user change' in
      record {
        rest = next.0 ++ given.0;
        taken_first = given.1 ∙ ap (λ txs. txs ++ given.0) next.1 ∙ append_assoc (taken p.sees user new_d) next.0 given.0;
        confirmed = omega (arith, new_confirmed d user new_d change, later);
      }

  -- a sound take lies past what was taken
  taken_past : (d user : Name) (place : ℕ) (ops : Ops) (more : List (ℕ × Ops)) → p.given user d (of user) ≡ taken p.sees user (of d) ++ (place, ops) ∷ more →
      taken_end p.sees user (of d) < place
  taken_past d user place ops more is =
      let rises : Rises 0 (offsets (taken p.sees user (of d)) ++ place ∷ offsets more)
      = rw (ap offsets is ∙ offsets-append (taken p.sees user (of d)) ((place, ops) ∷ more)) at (given_in p HasSpelling lawful laws user d (of user)).0 in
      (Rises-back 0 (offsets (taken p.sees user (of d))) (place ∷ offsets more) rises).0

  -- the book after a sound note is in order
  note_in_order : (d user : Name) (note : Note) → IsSoundNote p of d user note →
      IsBookInOrder (with_note (book_of p.sees user (of d)) note) (end_of p (of d))
  note_in_order d user (Confirmed place) sound =
      let old = good.books d user in
      let stands : taken_end p.sees d (of user) ≤ end_of p (of d) = taken_stands p HasSpelling lawful laws of messages good user d in
      record {
        confirmed_sent = omega (arith, old.confirmed_sent);
        sent_stands = omega (arith, old.sent_stands, stands);
        confirmed_received = old.confirmed_received;
      }
  note_in_order d user (Asked count place) sound =
      let old = good.books d user in
      let stands : taken_end p.sees d (of user) ≤ end_of p (of d) = taken_stands p HasSpelling lawful laws of messages good user d in
      rw (ask_new (book_of p.sees user (of d)).resend_count count sound.1) (record {
        confirmed_sent = omega arith;
        sent_stands = omega (arith, old.confirmed_sent, old.sent_stands, stands, sound.0);
        confirmed_received = old.confirmed_received;
      })
  note_in_order d user Raised sound =
      let old = good.books d user in
      record { confirmed_sent = old.confirmed_sent; sent_stands = old.sent_stands; confirmed_received = old.confirmed_received }
  note_in_order d user (Sent end count confirm) sound =
      let old = good.books d user in
      record {
        confirmed_sent = omega (arith, old.confirmed_sent, sound.0);
        sent_stands = sound.1;
        confirmed_received = omega (arith, sound.2);
      }

  -- the book after a sound entry is in order
  booked_in_order : (d user : Name) (s : Sight Ops) → IsSound p of d s →
      IsBookInOrder (booked user (book_of p.sees user (of d)) s) (end_of p (of d))
  booked_in_order d user local sound = old_in_order d user
  booked_in_order d user (from_user other place ops) sound =
      let old = good.books d user in
      elim (name_test user other) [
        | inl t ↦
            let here : p.given user d (of user) ≡ taken p.sees user (of d) ++ (place, ops) ∷ sound.0
            = subst (λ name. p.given name d (of name) ≡ taken p.sees name (of d) ++ (place, ops) ∷ sound.0) (sym t.1) sound.1 in
            let later : taken_end p.sees user (of d) < place = taken_past d user place ops sound.0 here in
            rw t.0 (record {
              confirmed_sent = old.confirmed_sent;
              sent_stands = old.sent_stands;
              confirmed_received = omega (arith, old.confirmed_received, book_received p.sees user (of d), later);
            })
        | inr t ↦ rw t (old_in_order d user)
      ]
  booked_in_order d user (noted other note) sound =
      elim (name_test user other) [
        | inl t ↦ rw t.0 (note_in_order d user note (subst (λ name. IsSoundNote p of d name note) (sym t.1) sound))
        | inr t ↦ rw t (old_in_order d user)
      ]

  -- the asks that a sound entry notes rise above those before
  asks_rise : (d user : Name) (s : Sight Ops) → IsSound p of d s → Rises (top 0 (asked p.sees user (of d))) (asks user s)
  asks_rise d user local sound = tt
  asks_rise d user (from_user other place ops) sound = tt
  asks_rise d user (noted other note) sound =
      elim (name_test user other) [
        | inl t ↦ rw t.0 (ask_rises d user note (subst (λ name. IsSoundNote p of d name note) (sym t.1) sound))
        | inr t ↦ rw t tt
      ]

  -- the fourth and the sixth line
  pub books_kept : (d user : Name) (new : List Entry) → (new ≡ of d) ⊎ HasMore p lawful of d new → IsInOrder p user new
  books_kept d user new (inl same) = rw same (good.books d user)
  books_kept d user new (inr more) =
      let e = more.entry in
      let book : IsBookInOrder (book_of p.sees user new) (end_of p (of d))
      = rw (ap (book_of p.sees user) more.joined ∙ book_more p.sees user (of d) e) (booked_in_order d user (p.sees e) more.sound) in
      let later : end_of p (of d) ≤ end_of p new = rw more.joined (le-end_of p HasSpelling lawful laws (of d) (e ∷ [])) in
      let counts : asked p.sees user new ≡ asked p.sees user (of d) ++ asks user (p.sees e)
      = ap (asked p.sees user) more.joined ∙ asked_more p.sees user (of d) e in
      record {
        confirmed_sent = book.confirmed_sent;
        sent_stands = omega (arith, book.sent_stands, later);
        confirmed_received = book.confirmed_received;
        asks_rise = rw counts (Rises-append 0 (asked p.sees user (of d)) (asks user (p.sees e)) (good.books d user).asks_rise
            (asks_rise d user (p.sees e) more.sound));
      }

  -- the fifth line
  true_kept : (d : Name) (new : List Entry) (m : Message) → (new ≡ of d) ⊎ HasMore p lawful of d new → IsTrueOf p d (of d) m → IsTrueOf p d new m
  true_kept d new m (inl same) t = rw same t
  true_kept d new m (inr more) t =
      let rises : Rises 0 (offsets (taken p.sees m.to (of d ++ more.entry ∷ [])))
      = subst (λ es. Rises 0 (offsets (taken p.sees m.to es))) more.joined (taken_rises d m.to new (inr more)) in
      rw more.joined (true_longer p HasSpelling lawful laws d (of d) (more.entry ∷ []) m rises t)

  lawful_kept : (d : Name) (new : List Entry) → (new ≡ of d) ⊎ HasMore p lawful of d new → lawful d new
  lawful_kept d new (inl same) = rw same (good.are_lawful d)
  lawful_kept d new (inr more) = more.is_lawful

  -- histories that stay, or have a lawful and sound entry more, stay good
  pub histories_kept : (new : Name → List Entry) → ((d : Name) → (new d ≡ of d) ⊎ HasMore p lawful of d (new d)) → AreGood p lawful new messages
  histories_kept new changes = record {
    are_lawful = λ d. lawful_kept d (new d) (changes d);
    in_step = λ d user. in_step_kept d user (new d) (new user) (changes d) (changes user);
    books = λ d user. books_kept d user (new d) (changes d);
    are_true = λ m among. true_kept m.from (new m.from) m (changes m.from) (good.are_true m among);
  }

  -- a true message more is as good
  pub message_kept : (m : Message) → IsTrueOf p m.from (of m.from) m → AreGood p lawful of (messages ++ m ∷ [])
  message_kept m t = record {
    are_lawful = good.are_lawful;
    in_step = good.in_step;
    books = good.books;
    are_true = λ x among. elim (Contains-push_cases messages m x among) [
      | inl before ↦ good.are_true x before
      | inr same ↦ subst (λ x. IsTrueOf p x.from (of x.from) x) same t
    ];
  }
