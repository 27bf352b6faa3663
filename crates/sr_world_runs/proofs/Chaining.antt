-- The windows of a cut: each is whole by its messages, and they lead from where the cut begins to where it ends.
use Rattle.std.proofs.Common.{◌≡◌, ℕ, ◌+◌, ◌-◌, ◌<◌, ◌≤◌, Contains, List, [], ◌∷◌, ◌++◌, length, refl, sym, ap, subst, ◌∙◌, inl, inr, arith, get_or}
use Rattle.std.specs.Prelude.{Bool}
use Rattle.std.specs.List.{concat, AllByRecursion}
use Rattle.std.proofs.lemmas.List.{length-append, get_or-append_right, get_or_append_left}
use Rattle.std.proofs.lemmas.List.Elements.{Contains-append_left, Contains-append_right}
use Rattle.sr_base.specs.Values.{offset_from}
use Rattle.sr_base.specs.declared.offset.Offset.{Offset}
use Rattle.sr_book.specs.Entries.{Name}
use Rattle.sr_book.specs.declared.book.Book.{Book}
use Rattle.sr_mail_cut.specs.Bodies.{body_spelling, last_at}
use Rattle.sr_mail_cut.specs.Cuts.{AreCut, AreFragments, IsParcel, Parcel, all_messages, carrying, messages_from, messages_of, transactions_of}
use Rattle.sr_mail_cut.specs.declared.head.Head.{Head}
use Rattle.sr_mail_cut.proofs.Rising.{last_at-append}
use Rattle.sr_logform.specs.declared.op.Transaction.{Transaction}
use Rattle.sr_world_model.specs.Steps.{Chain, HasByte, HasPiece, HasAllFragments}
use Rattle.sr_world_model.specs.Worlds.{AreAmong}
use Rattle.sr_world_model.proofs.Offsets.{le_or_lt}
use Rattle.sr_msgform.specs.declared.message.Message.{Message}
use Rattle.sr_send.specs.PutFiles.{AreMessages}

-- ---- lists

pub contains_first : {A : Type 0} (x : A) (xs : List A) → Contains (x ∷ xs) x
contains_first x xs = Contains-append_left (x ∷ []) xs x (0, omega arith, refl)

pub contains_later : {A : Type 0} (x y : A) (xs : List A) → Contains xs y → Contains (x ∷ xs) y
contains_later x y xs there = Contains-append_right (x ∷ []) xs y there

-- ---- a window is whole by its messages

module _ (messages : List Message) (head : Head) (prev upto : Offset) (total : ℕ) where
  -- the message of a fragment, where it is among these
  abbrev piece_of : (start : ℕ) (f : List ℕ) → Contains messages (carrying head prev upto total start f) → HasPiece messages head.from head.to prev.0 upto.0 total
  piece_of start f among = record {
    comes = record { message = carrying head prev upto total start f; among = among; sent_by = refl; sent_to = refl };
    of_window = record { begins = refl; ends = refl; long = refl };
  }

  -- the messages of fragments have each byte of these
  byte_of : (start : ℕ) (fs : List (List ℕ)) → AreAmong (messages_from head prev upto total start fs) messages → (place : ℕ) → start ≤ place → place < start + length (concat fs)
      → HasByte messages head.from head.to prev.0 upto.0 total place (get_or (concat fs) (place - start) 0)
  byte_of start [] among place from_start to_end = absurd (omega (arith, from_start, to_end))
  byte_of start (f ∷ fs) among place from_start to_end =
      let m : Message = carrying head prev upto total start f in
      let rest : List Message = messages_from head prev upto total (start + length f) fs in
      let long : length (f ++ concat fs) ≡ length f + length (concat fs) = length-append f (concat fs) in
      elim (le_or_lt (start + length f) place) [
        | inl later ↦
            let there : (place - start) - length f ≡ place - (start + length f) = omega arith in
            let same : get_or (f ++ concat fs) (place - start) 0 ≡ get_or (concat fs) (place - (start + length f)) 0
            = get_or-append_right f (concat fs) (length f) (place - start) 0 refl (omega (arith, later, from_start)) ∙ ap (λ (i : ℕ). get_or (concat fs) i 0) there in
            subst (λ (byte : ℕ). HasByte messages head.from head.to prev.0 upto.0 total place byte) (sym same)
            (byte_of (start + length f) fs (λ x has. among x (contains_later m x rest has)) place later (omega (arith, to_end, long)))
        | inr sooner ↦
            record {
              piece = piece_of start f (among m (contains_first m rest));
              from_start = from_start;
              to_end = sooner;
              is_byte = sym (get_or_append_left f (concat fs) 0 (place - start) (omega (arith, sooner, from_start)));
            }
      ]

  some_piece_of : (limit : ℕ) (fs : List (List ℕ)) → AreFragments head limit fs → AreAmong (messages_from head prev upto total 0 fs) messages
      → HasPiece messages head.from head.to prev.0 upto.0 total
  some_piece_of limit [] parts among = absurd parts
  some_piece_of limit (f ∷ fs) parts among =
      piece_of 0 f (among (carrying head prev upto total 0 f) (contains_first (carrying head prev upto total 0 f) (messages_from head prev upto total (0 + length f) fs)))

parcel_whole : (messages : List Message) (head : Head) (limit : ℕ) (prev : Offset) (p : Parcel) → IsParcel head limit p → AreAmong (messages_of head prev p) messages
    → HasAllFragments messages head.from head.to prev.0 (last_at prev p.transactions).0 (body_spelling p.transactions)
parcel_whole messages head limit prev p is among =
    let upto : Offset = last_at prev p.transactions in
    let total : ℕ = length (body_spelling p.transactions) in
    record {
      some_piece = some_piece_of messages head prev upto total limit p.fragments is.parts among;
      covered = λ place below.
          let same : get_or (concat p.fragments) (place - 0) 0 ≡ get_or (body_spelling p.transactions) place 0
          = ap (λ (b : List ℕ). get_or b (place - 0) 0) is.body ∙ ap (λ (i : ℕ). get_or (body_spelling p.transactions) i 0) (omega arith) in
          let long : length (concat p.fragments) ≡ total = ap length is.body in
          subst (λ (byte : ℕ). HasByte messages head.from head.to prev.0 upto.0 total place byte) same
          (byte_of messages head prev upto total 0 p.fragments among place (omega arith) (omega (arith, below, long)));
    }

-- ---- windows lead on

abbrev pub windows_of : Offset → List Parcel → List (ℕ × List ℕ)
windows_of prev [] = []
windows_of prev (p ∷ ps) = ((last_at prev p.transactions).0, body_spelling p.transactions) ∷ windows_of (last_at prev p.transactions) ps

parcels_chain : (messages : List Message) (head : Head) (limit : ℕ) (prev : Offset) (ps : List Parcel) → AllByRecursion (IsParcel head limit) ps → AreAmong (all_messages head prev ps) messages
    → Chain messages head.from head.to prev.0 (last_at prev (transactions_of ps)).0 (windows_of prev ps)
parcels_chain messages head limit prev [] are among = refl
parcels_chain messages head limit prev (p ∷ ps) are among =
    let upto : Offset = last_at prev p.transactions in
    let first : List Message = messages_of head prev p in
    let rest : List Message = all_messages head upto ps in (
      parcel_whole messages head limit prev p are.0 (λ m has. among m (Contains-append_left first rest m has)),
      subst (λ (o : Offset). Chain messages head.from head.to upto.0 o.0 (windows_of upto ps)) (sym (last_at-append prev p.transactions (transactions_of ps)))
          (parcels_chain messages head limit upto ps are.1 (λ m has. among m (Contains-append_right first rest m has))),
    )

-- windows that lead from one offset to another
pub record Leads (messages : List Message) (sender receiver : Name) (prev upto : ℕ) : Type 0 where
  pub windows : List (ℕ × List ℕ)
  pub chain : Chain messages sender receiver prev upto windows

cut_leads : (messages : List Message) (head : Head) (prev : Offset) (ts : List Transaction) (limit : ℕ) (cut : List Message) → AreCut head prev ts limit cut → AreAmong cut messages
    → Leads messages head.from head.to prev.0 (last_at prev ts).0
cut_leads messages head prev ts limit cut are among = record {
  windows = windows_of prev are.parcels;
  chain =
      subst (λ (l : List Transaction). Chain messages head.from head.to prev.0 (last_at prev l).0 (windows_of prev are.parcels)) are.covered
      (parcels_chain messages head limit prev are.parcels are.windows (λ m has. among m (subst (λ (ms : List Message). Contains ms m) (sym are.sent) has)));
}

-- the messages of a pass, where they are among these
pub pass_leads : (messages : List Message) (head : Head) (book : Book) (ask : Bool) (limit : ℕ) (ts : List Transaction) (pass : List Message) → AreMessages head book ask limit ts pass → AreAmong pass messages
    → Leads messages head.from head.to book.log_sent (last_at (offset_from book.log_sent) ts).0
pass_leads messages head book ask limit [] pass are among = record { windows = []; chain = refl }
pass_leads messages head book ask limit (t ∷ ts) pass are among = cut_leads messages head (offset_from book.log_sent) (t ∷ ts) limit pass (are.due tt) among
