-- Books in order: each entry that a run adds leaves them so.
use Rattle.std.proofs.Common.{◌≡◌, ℕ, ◌+◌, ◌<◌, ◌≤◌, List, [], ◌∷◌, ◌++◌, refl, sym, subst, inl, inr, arith}
use Rattle.sr_base.specs.declared.offset.Offset.{Offset}
use Rattle.sr_book.specs.Books.{with_note, with_taken}
use Rattle.sr_book.specs.Entries.{Name, ask_count, asks, booked, local}
use Rattle.sr_book.specs.Histories.{asked}
use Rattle.sr_book.specs.Rising.{Rises, top}
use Rattle.sr_book.specs.declared.book.Book.{Book}
use Rattle.sr_book.specs.declared.note.Note.{Note}
use Rattle.sr_book.specs.declared.note.Note.TheVariants.{Confirmed, Asked, Raised, Sent}
use Rattle.sr_book.proofs.Folds.{asked_more, asked_within, book_more, name_test}
use Rattle.sr_book.proofs.Offsets.{Rises-append}
use Rattle.sr_database_history.specs.Folds.{books_of, end_from, end_of, sees, size}
use Rattle.sr_database_history.specs.Recorded.{Recorded, Done, own, taken, ddl, sync, pass, note}
use Rattle.sr_world_model.specs.Layers as layered
use Rattle.sr_world_model.specs.Worlds.{IsInOrder}
use Rattle.sr_world_model.proofs.Offsets.{past_test}
use Rattle.sr_world.specs.Real.{layers}
use Rattle.sr_world_prefix.proofs.Steps.{GoesWith, IsRunStep, ends_later}

-- a history ends where it does, by the layers as they are
ends_same : (place : ℕ) (es : List Recorded) → layered.end_from layers place es ≡ end_from place es
ends_same place [] = refl
ends_same place (r ∷ es) = ends_same (place + (size r + 5)) es

-- a book in order, of a history that ends here
record IsOrderly (book : Book) (end : ℕ) : Type 0 where
  confirmed_sent : book.confirm_sent ≤ book.log_sent
  sent_stands : book.log_sent ≤ end
  confirmed_received : book.confirm_received ≤ book.log_received

module _ (user : Name) (es : List Recorded) (old : IsInOrder layers user es) where
  old_orderly : IsOrderly (books_of user es) (end_of es)
  old_orderly = record { confirmed_sent = old.confirmed_sent; sent_stands = omega (arith, old.sent_stands, ends_same 0 es); confirmed_received = old.confirmed_received }

  -- one entry more
  with_entry : (r : Recorded) → IsOrderly (booked user (books_of user es) (sees r)) (end_of es) → Rises (top 0 (asked sees user es)) (asks user (sees r)) → IsInOrder layers user (es ++ r ∷ [])
  with_entry r orderly rises =
      let book : IsOrderly (books_of user (es ++ r ∷ [])) (end_of es) = rw (book_more sees user es r) orderly in
      record {
        confirmed_sent = book.confirmed_sent;
        sent_stands = omega (arith, book.sent_stands, ends_later es (r ∷ []), ends_same 0 (es ++ r ∷ []));
        confirmed_received = book.confirmed_received;
        asks_rise = rw (asked_more sees user es r) (Rises-append 0 (asked sees user es) (asks user (sees r)) old.asks_rise rises);
      }

  -- what the database does by itself changes no book
  pub local_in_order : (r : Recorded) → sees r ≡ local → IsInOrder layers user (es ++ r ∷ [])
  local_in_order r is = with_entry r (rw is old_orderly) (rw is tt)

  -- a note in the user's book
  noted_orderly : (what : Note) → GoesWith es user what → IsOrderly (with_note (books_of user es) what) (end_of es)
  noted_orderly (Confirmed place) goes = record {
    confirmed_sent = omega (arith, old_orderly.confirmed_sent);
    sent_stands = omega (arith, old_orderly.sent_stands, goes);
    confirmed_received = old.confirmed_received;
  }
  noted_orderly (Asked count place) goes =
      rw (past_test (books_of user es).resend_count count goes.1) (record {
        confirmed_sent = omega arith;
        sent_stands = omega (arith, old_orderly.confirmed_sent, old_orderly.sent_stands, goes.0);
        confirmed_received = old.confirmed_received;
      })
  noted_orderly Raised goes = record { confirmed_sent = old.confirmed_sent; sent_stands = old_orderly.sent_stands; confirmed_received = old.confirmed_received }
  noted_orderly (Sent end count confirm) goes = record {
    confirmed_sent = omega (arith, old_orderly.confirmed_sent, goes.0);
    sent_stands = omega (arith, old_orderly.sent_stands, goes.1);
    confirmed_received = omega (arith, goes.2);
  }

  ask_rises : (what : Note) → GoesWith es user what → Rises (top 0 (asked sees user es)) (ask_count what)
  ask_rises (Confirmed place) goes = tt
  ask_rises (Asked count place) goes = (omega (arith, asked_within sees user es, goes.1), tt)
  ask_rises Raised goes = tt
  ask_rises (Sent end count confirm) goes = tt

  note_in_order : (whose : Name) (what : Note) → GoesWith es whose what → IsInOrder layers user (es ++ note whose what ∷ [])
  note_in_order whose what goes = elim (name_test user whose) [
    | inl t ↦
        let his : GoesWith es user what = subst (λ (n : Name). GoesWith es n what) (sym t.1) goes in
        with_entry (note whose what) (rw t.0 (noted_orderly what his)) (rw t.0 (ask_rises what his))
    | inr t ↦ with_entry (note whose what) (rw t old_orderly) (rw t tt)
  ]

  -- a transaction from past what was received
  taken_orderly : (at : Offset) → (books_of user es).log_received < at.0 → IsOrderly (with_taken (books_of user es) at.0) (end_of es)
  taken_orderly at later = record {
    confirmed_sent = old.confirmed_sent;
    sent_stands = old_orderly.sent_stands;
    confirmed_received = omega (arith, old_orderly.confirmed_received, later);
  }

  taken_in_order : (whose : Name) (at : Offset) (dones : List Done) → (books_of whose es).log_received < at.0 → IsInOrder layers user (es ++ taken whose at dones ∷ [])
  taken_in_order whose at dones later = elim (name_test user whose) [
    | inl t ↦
        let his : (books_of user es).log_received < at.0 = subst (λ (n : Name). (books_of n es).log_received < at.0) (sym t.1) later in
        with_entry (taken whose at dones) (rw t.0 (taken_orderly at his)) tt
    | inr t ↦ with_entry (taken whose at dones) (rw t old_orderly) tt
  ]

  pub step_in_order : (publisher : Name) (r : Recorded) → IsRunStep publisher es r → IsInOrder layers user (es ++ r ∷ [])
  step_in_order publisher (own changes) is = absurd is
  step_in_order publisher (taken whose at dones) is = taken_in_order whose at dones is.1
  step_in_order publisher (ddl statement) is = absurd is
  step_in_order publisher (sync whose tables) is = absurd is
  step_in_order publisher (pass users only statement changes) is = absurd is
  step_in_order publisher (note whose what) is = note_in_order whose what is
