use Rattle.std.proofs.Common.{◌≡◌, ℕ, zero, suc, ◌<◌, ◌≤◌, List, [], ◌∷◌, ◌++◌, length, get_or, Contains, ap, ◌∙◌, subst, inl, inr, arith}
use Rattle.sr_book.specs.declared.note.Note.{Note}
use Rattle.sr_book.specs.declared.note.Note.TheVariants.{Confirmed, Asked, Raised, Sent}
use Rattle.sr_book.specs.Entries.{Name, Sight, local, from_user, noted}
use Rattle.sr_book.specs.Histories.{taken, taken_end, book_of}
use Rattle.sr_book.specs.Rising.{Rises, top, offsets}
use Rattle.sr_book.proofs.Offsets.{top-append, Rises-back, le-top, offsets-append}
use Rattle.sr_msgform.specs.declared.message.Message.{Message}
use Rattle.sr_world_model.specs.Layers.{Layers, end_of}
use Rattle.sr_world_model.specs.Inner.Layers.{Laws}
use Rattle.sr_world_model.specs.Windows.{window, past}
use Rattle.sr_world_model.specs.Steps.{Comes, CanTake, CanNote, CanAppend}
use Rattle.sr_world_model.specs.Truth.{IsTrueOf}
use Rattle.sr_world_model.specs.Worlds.{AreInStep, IsInOrder}
use Rattle.sr_world_model.proofs.Offsets.{window_next}
use Rattle.sr_world_model.proofs.Longer.{given_in}
use Rattle.sr_world_model.proofs.Spelled.{spelled}

-- the lines of a good world, over histories by name
pub record AreGood {Entry Ops : Type 0} (p : Layers Entry Ops) (lawful : Name → List Entry → Type 0) (of : Name →
    List Entry) (messages : List Message) : Type 0 where
  pub are_lawful : (d : Name) → lawful d (of d)
  pub in_step : (d user : Name) → AreInStep p d user (of d) (of user)
  pub books : (d user : Name) → IsInOrder p user (of d)
  pub are_true : (m : Message) → Contains messages m → IsTrueOf p m.from (of m.from) m

-- what an entry of a database does that keeps a good world good, by the histories before it
abbrev pub IsSoundNote : {Entry Ops : Type 0} (p : Layers Entry Ops) (of : Name → List Entry) (d user : Name) → Note → Type 0
IsSoundNote p of d user (Confirmed place) = place.0 ≤ taken_end p.sees d (of user)
IsSoundNote p of d user (Asked count place) = (place.0 ≤ taken_end p.sees d (of user)) × ((book_of p.sees user (of d)).resend_count < count)
IsSoundNote p of d user Raised = Unit {0}
IsSoundNote p of d user (Sent end count confirm) = ((book_of p.sees user (of d)).log_sent ≤ end.0) × (end.0 ≤ end_of p (of d))
    × (confirm.0 ≡ (book_of p.sees user (of d)).log_received)

abbrev pub IsSound : {Entry Ops : Type 0} (p : Layers Entry Ops) (of : Name → List Entry) (d : Name) → Sight Ops → Type 0
IsSound p of d local = Unit {0}
IsSound {Ops} p of d (from_user user place ops) = (more : List (ℕ × Ops)) × (p.given user d (of user) ≡ taken p.sees user (of d) ++ (place, ops) ∷ more)
IsSound p of d (noted user note) = IsSoundNote p of d user note

-- what stands among rising numbers is at most the last
contains_at : (low : ℕ) (xs : List ℕ) (x k : ℕ) → Rises low xs → k < length xs → get_or xs k x ≡ x → x ≤ top low xs
contains_at low [] x k rises within is = absurd (omega arith)
contains_at low (y ∷ ys) x zero rises within is = let up : y ≤ top y ys = le-top y ys rises.1 in omega (arith, is)
contains_at low (y ∷ ys) x (suc k) rises within is = contains_at y ys x k rises.1 (omega arith) is

module _ {Entry Ops : Type 0} (p : Layers Entry Ops) (HasSpelling : (ℕ × Ops) → Type 0) (lawful : Name → List Entry →
    Type 0) (laws : Laws p HasSpelling lawful) (of : Name →
    List Entry) (messages : List Message) (good : AreGood p lawful of messages) where
  came_true : (user d : Name) (came : Comes messages user d) → IsTrueOf p user (of user) came.message
  came_true user d came = subst (λ name. IsTrueOf p name (of name) came.message) came.sent_by (good.are_true came.message came.among)

  -- what a user's history gives rises, first what was taken of it and then the rest
  given_split : (d user : Name) (rest : List (ℕ × Ops)) → p.given user d (of user) ≡ taken p.sees user (of d) ++ rest →
      Rises 0 (offsets (taken p.sees user (of d)) ++ offsets rest)
  given_split d user rest is =
      rw (ap offsets is ∙ offsets-append (taken p.sees user (of d)) rest) at (given_in p HasSpelling lawful laws user d (of user)).0

  -- what was taken of a history ends within it
  pub taken_stands : (d user : Name) → taken_end p.sees user (of d) ≤ end_of p (of user)
  taken_stands d user =
      let pair = good.in_step d user in
      let rises = given_split d user pair.rest pair.taken_first in
      let split : top 0 (offsets (p.given user d (of user))) ≡ top (taken_end p.sees user (of d)) (offsets pair.rest)
      = ap (top 0) (ap offsets pair.taken_first ∙ offsets-append (taken p.sees user (of d)) pair.rest)
      ∙ top-append 0 (offsets (taken p.sees user (of d))) (offsets pair.rest) in
      let last : taken_end p.sees user (of d) ≤ top (taken_end p.sees user (of d)) (offsets pair.rest)
      = le-top (taken_end p.sees user (of d)) (offsets pair.rest) (Rises-back 0 (offsets (taken p.sees user (of d))) (offsets pair.rest) rises) in
      let within = (given_in p HasSpelling lawful laws user d (of user)).1 in
      omega (arith, split, last, within)

  -- a take that is allowed takes the next transaction of what the user's history gives
  pub take_sound : (d user : Name) (place : ℕ) (ops : Ops) → CanTake p HasSpelling messages d (of d) user place ops →
      (more : List (ℕ × Ops)) × (p.given user d (of user) ≡ taken p.sees user (of d) ++ (place, ops) ∷ more)
  take_sound d user place ops can =
      let pair = good.in_step d user in
      let same : can.transactions ≡ window can.prev can.upto (p.given user d (of user))
      = spelled p HasSpelling lawful laws messages user d (of user) can.prev can.upto can.transactions can.is_whole
      (came_true user d) can.have_spellings (good.are_lawful user) in
      let first : past (taken_end p.sees user (of d)) (window can.prev can.upto (taken p.sees user (of d) ++ pair.rest)) ≡ (place, ops) ∷ can.rest
      = rw (← pair.taken_first, ← same) can.first in
      let next = window_next (taken p.sees user (of d)) pair.rest can.prev can.upto (place, ops) can.rest
      (given_split d user pair.rest pair.taken_first) can.reached first in
      (next.0, pair.taken_first ∙ ap (λ txs. taken p.sees user (of d) ++ txs) next.1)

  -- an end that was given lies within the history
  given_stands : (d user : Name) (place : ℕ) → Contains (offsets (p.given d user (of d))) place → place ≤ end_of p (of d)
  given_stands d user place among =
      let given = given_in p HasSpelling lawful laws d user (of d) in
      let last : place ≤ top 0 (offsets (p.given d user (of d)))
      = contains_at 0 (offsets (p.given d user (of d))) place among.0 given.0 among.1 among.2 in
      omega (arith, given.1)

  -- a note that is allowed is sound
  pub note_sound : (d user : Name) (note : Note) → CanNote p messages d (of d) user note → IsSoundNote p of d user note
  note_sound d user (Confirmed place) can =
      let t = came_true user d can.0 in
      rw (can.0.sent_to, can.1) at t.confirm
  note_sound d user (Asked count place) can =
      let t = came_true user d can.0 in
      (rw (can.0.sent_to, can.2) at t.ask_offset, can.3)
  note_sound d user Raised can = tt
  note_sound d user (Sent end count confirm) can =
      elim can.given_there [
        | inl is ↦ (omega (arith, is), omega (arith, is, (good.books d user).sent_stands), can.confirms)
        | inr later ↦ (omega (arith, later.0), given_stands d user end.0 later.1, can.confirms)
      ]

  -- what a database may append is sound
  pub append_sound : (d : Name) (s : Sight Ops) → CanAppend p HasSpelling messages d (of d) s → IsSound p of d s
  append_sound d local can = tt
  append_sound d (from_user user place ops) can = take_sound d user place ops can
  append_sound d (noted user note) can = note_sound d user note can
