-- One entry more: what it takes of a partner, and what it has as confirmed by him.
use Rattle.std.proofs.Common.{◌≡◌, ℕ, ◌≤◌, false, List, [], ◌∷◌, ◌++◌, map, bytes_eq, refl, sym, ap, subst, ◌∙◌, inl, inr, arith, append_assoc, append-nil}
use Rattle.std.specs.Prelude.{⊤}
use Rattle.std.specs.List.{AllByRecursion}
use Rattle.sr_base.specs.declared.offset.Offset.{Offset}
use Rattle.sr_book.specs.Books.{with_note}
use Rattle.sr_book.specs.Entries.{Name, local, takes, booked}
use Rattle.sr_book.specs.Histories.{taken as taken_from, taken_end}
use Rattle.sr_book.specs.declared.book.Book.{Book}
use Rattle.sr_book.specs.declared.note.Note.{Note}
use Rattle.sr_book.specs.declared.note.Note.TheVariants.{Confirmed, Asked, Raised, Sent}
use Rattle.sr_book.proofs.Folds.{ask_test, book_more, name_test, same_name, taken_more}
use Rattle.sr_database_history.specs.Folds.{books_of, sees}
use Rattle.sr_database_history.specs.Recorded.{Done, done_of}
use Rattle.sr_database_history.specs.Recorded.{Recorded, taken, note}
use Rattle.sr_logform.specs.declared.op.Op.{Op}
use Rattle.sr_world_model.specs.Worlds.{AreInStep}
use Rattle.sr_receive.specs.Passes.{note_entries}
use Rattle.sr_world.specs.Real.{layers}
use Rattle.sr_world_prefix.proofs.Along.{Along}

-- a note confirms no more than this
abbrev pub ConfirmsWithin : ℕ → Note → Type 0
ConfirmsWithin bound (Confirmed place) = place.0 ≤ bound
ConfirmsWithin bound (Asked count place) = ⊤
ConfirmsWithin bound Raised = ⊤
ConfirmsWithin bound (Sent end count confirm) = ⊤

noted_within : (bound : ℕ) (book : Book) (what : Note) → book.confirm_sent ≤ bound → ConfirmsWithin bound what → (with_note book what).confirm_sent ≤ bound
noted_within bound book (Confirmed place) old new = omega (arith, old, new)
noted_within bound book (Asked count place) old new = elim (ask_test book.resend_count count) [ inl t ↦ rw t.0 old | inr t ↦ rw t.0 old ]
noted_within bound book Raised old new = old
noted_within bound book (Sent end count confirm) old new = old

-- the ops of what was done
abbrev pub ops_of : List Done → List Op
ops_of dones = map (λ d. (done_of d).0) dones

-- notes take nothing
pub notes_take_none : (user whose : Name) (notes : List Note) → taken_from sees user (note_entries whose notes) ≡ []
notes_take_none user whose [] = refl
notes_take_none user whose (what ∷ notes) = notes_take_none user whose notes

module _ (publisher user : Name) (us : List Recorded) where
  -- the history is in step with the partner's
  abbrev pub IsOn : List Recorded → Type 0
  IsOn es = AreInStep layers publisher user es us

  -- an entry takes the next of what is given, if it takes anything, and has no more as confirmed than he took
  record GoesOn (es : List Recorded) (r : Recorded) : Type 0 where
    rest : List (ℕ × List Op)
    next : layers.given user publisher us ≡ (taken_from sees user es ++ takes user (sees r)) ++ rest
    confirms : (booked user (books_of user es) (sees r)).confirm_sent ≤ taken_end sees publisher us

  one_more : (es : List Recorded) (r : Recorded) → GoesOn es r → IsOn (es ++ r ∷ [])
  one_more es r goes = record {
    rest = goes.rest;
    taken_first = goes.next ∙ ap (λ (txs : List (ℕ × List Op)). txs ++ goes.rest) (sym (taken_more sees user es r));
    confirmed = subst (λ (b : Book). b.confirm_sent ≤ taken_end sees publisher us) (sym (book_more sees user es r)) goes.confirms;
  }

  takes_none : (es : List Recorded) (on : IsOn es) → layers.given user publisher us ≡ (taken_from sees user es ++ []) ++ on.rest
  takes_none es on = on.taken_first ∙ ap (λ (txs : List (ℕ × List Op)). txs ++ on.rest) (sym (append-nil (taken_from sees user es)))

  -- what the database does by itself takes nothing
  pub local_on : (es : List Recorded) (r : Recorded) → sees r ≡ local → IsOn es → IsOn (es ++ r ∷ [])
  local_on es r is on = one_more es r (record { rest = on.rest; next = rw is (takes_none es on); confirms = rw is on.confirmed })

  -- a note takes nothing
  note_on : (es : List Recorded) (whose : Name) (what : Note) → IsOn es → (user ≡ whose → ConfirmsWithin (taken_end sees publisher us) what) → IsOn (es ++ note whose what ∷ [])
  note_on es whose what on within = one_more es (note whose what) (record {
    rest = on.rest;
    next = takes_none es on;
    confirms = elim (name_test user whose) [
      | inl t ↦ rw t.0 (noted_within (taken_end sees publisher us) (books_of user es) what on.confirmed (within t.1))
      | inr t ↦ rw t on.confirmed
    ];
  })

  pub notes_on : (es : List Recorded) (whose : Name) (notes : List Note) → IsOn es → (user ≡ whose → AllByRecursion (ConfirmsWithin (taken_end sees publisher us)) notes)
      → Along IsOn es (note_entries whose notes)
  notes_on es whose [] on within = on
  notes_on es whose (what ∷ notes) on within =
      (on, notes_on (es ++ note whose what ∷ []) whose notes (note_on es whose what on (λ same. (within same).0)) (λ same. (within same).1))

  -- what is taken of another partner is nothing of this one
  pub other_on : (es : List Recorded) (whose : Name) (at : Offset) (dones : List Done) → bytes_eq user whose ≡ false → IsOn es → IsOn (es ++ taken whose at dones ∷ [])
  other_on es whose at dones differ on = one_more es (taken whose at dones) (record {
    rest = on.rest;
    next = rw differ (takes_none es on);
    confirms = rw differ on.confirmed;
  })

  pub take_on : (es : List Recorded) (at : Offset) (dones : List Done) (more : List (ℕ × List Op)) → IsOn es
      → layers.given user publisher us ≡ taken_from sees user es ++ (at.0, ops_of dones) ∷ more → IsOn (es ++ taken user at dones ∷ [])
  take_on es at dones more on next = one_more es (taken user at dones) (record {
    rest = more;
    next = rw (same_name user) (next ∙ sym (append_assoc (taken_from sees user es) ((at.0, ops_of dones) ∷ []) more));
    confirms = rw (same_name user) on.confirmed;
  })

  -- what was taken then
  pub taken_one : (es : List Recorded) (at : Offset) (dones : List Done) → taken_from sees user (es ++ taken user at dones ∷ []) ≡ taken_from sees user es ++ (at.0, ops_of dones) ∷ []
  taken_one es at dones =
      let one : takes user (sees (taken user at dones)) ≡ (at.0, ops_of dones) ∷ [] = rw (same_name user) refl in
      taken_more sees user es (taken user at dones) ∙ ap (λ (txs : List (ℕ × List Op)). taken_from sees user es ++ txs) one
