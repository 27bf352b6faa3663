use Rattle.std.proofs.Common.{◌≢◌, bytes_eq, not, ◌≡◌, ◌⊎◌, ℕ, zero, suc, ◌+◌, ◌-◌, ◌<◌, ◌≤◌, Bool, true, false, ◌&&◌, nat_lt, nat_le, List, [], ◌∷◌}
use Rattle.std.proofs.Common.{◌++◌, length, map}
use Rattle.std.proofs.Common.{take, drop, slice_index, refl, sym, ap, subst, ◌∙◌, get_or, inl, inr, arith, Contains}
use Rattle.std.proofs.lemmas.List.{length-append, get_or-append_right, get_or_append_left}
use Rattle.sr_book.specs.Entries.{Name}
use Rattle.sr_book.specs.Histories.{taken_end, book_of}
use Rattle.sr_book.proofs.Folds.{same_name}
use Rattle.sr_book.specs.Rising.{top, offsets}
use Rattle.sr_msgform.specs.declared.message.Message.{Message}
use Rattle.sr_world_model.specs.Layers.{end_of}
use Rattle.sr_world_model.specs.Machines.{layers_of, lawful_from, given_from}
use Rattle.sr_world_model.specs.Inner.Small.{Verdict, plain, conflict, SmallEntry, wrote, took, said, verdict_on, small_body, small, SmallHasSpelling, SmallFits}
use Rattle.sr_world_model.specs.Steps.{HasPiece, HasAllFragments, Chain, CanTake, HasSent}
use Rattle.sr_world_model.specs.Truth.{members, IsTrueOf}
use Rattle.sr_world_model.specs.Windows.{past}
use Rattle.sr_world_model.specs.Worlds.{AreAmong}
use Rattle.sr_world_model.proofs.Offsets.{le_or_lt}
use Rattle.sr_base.proofs.Truths.{both_true}

-- a test that computes to true shows its fact
pub le_if : (a b : ℕ) → nat_le a b ≡ true → a ≤ b
le_if a b is = grind arith

pub lt_if : (a b : ℕ) → nat_lt a b ≡ true → a < b
lt_if a b is = grind arith

-- whether verdicts are the same
abbrev pub same_verdicts : List Verdict → List Verdict → Bool
same_verdicts [] [] = true
same_verdicts [] (y ∷ ys) = false
same_verdicts (x ∷ xs) [] = false
same_verdicts (plain ∷ xs) (plain ∷ ys) = same_verdicts xs ys
same_verdicts (plain ∷ xs) (conflict ∷ ys) = false
same_verdicts (conflict ∷ xs) (plain ∷ ys) = false
same_verdicts (conflict ∷ xs) (conflict ∷ ys) = same_verdicts xs ys

same_if : (xs ys : List Verdict) → same_verdicts xs ys ≡ true → xs ≡ ys
same_if [] [] is = refl
same_if [] (y ∷ ys) is = absurd (cc)
same_if (x ∷ xs) [] is = absurd (cc)
same_if (plain ∷ xs) (plain ∷ ys) is = ap (λ them. plain ∷ them) (same_if xs ys is)
same_if (plain ∷ xs) (conflict ∷ ys) is = absurd (cc)
same_if (conflict ∷ xs) (plain ∷ ys) is = absurd (cc)
same_if (conflict ∷ xs) (conflict ∷ ys) is = ap (λ them. conflict ∷ them) (same_if xs ys is)

-- whether every entry is of another database, and every transaction taken has the verdicts on its ops
abbrev pub all_judged : Name → List SmallEntry → Bool
all_judged d [] = true
all_judged d (wrote user ops ∷ es) = all_judged d es
all_judged d (took user at ops verdicts ∷ es) = not (bytes_eq user d) && (same_verdicts verdicts (map (verdict_on d) ops) && all_judged d es)
all_judged d (said user note ∷ es) = not (bytes_eq user d) && all_judged d es

apart_if : (a b : Name) → not (bytes_eq a b) ≡ true → a ≢ b
apart_if a b is same = let one : bytes_eq a b ≡ true = rw same (same_name b) in cc

lawful_from_if : (d : Name) (place : ℕ) (es : List SmallEntry) → all_judged d es ≡ true → lawful_from small SmallFits d place es
lawful_from_if d place [] is = tt
lawful_from_if d place (wrote user ops ∷ es) is = (tt, lawful_from_if d (place + 15) es is)
lawful_from_if d place (took user at ops verdicts ∷ es) is =
    let parts = both_true (not (bytes_eq user d)) (same_verdicts verdicts (map (verdict_on d) ops) && all_judged d es) is in
    let rest = both_true (same_verdicts verdicts (map (verdict_on d) ops)) (all_judged d es) parts.1 in
    ((apart_if user d parts.0, same_if verdicts (map (verdict_on d) ops) rest.0), lawful_from_if d (place + 15) es rest.1)
lawful_from_if d place (said user note ∷ es) is =
    let parts = both_true (not (bytes_eq user d)) (all_judged d es) is in
    (apart_if user d parts.0, lawful_from_if d (place + 15) es parts.1)

pub lawful_if : (d : Name) (es : List SmallEntry) → all_judged d es ≡ true → lawful_from small SmallFits d 0 es
lawful_if d es is = lawful_from_if d 0 es is

-- what a list with one more in front has is that or in the rest
Contains-cons_cases : (m : Message) (rest : List Message) (x : Message) → Contains (m ∷ rest) x → (m ≡ x) ⊎ Contains rest x
Contains-cons_cases m rest x (zero, below, is) = inl is
Contains-cons_cases m rest x (suc k, below, is) = inr (k, omega arith, is)

-- no message, and one more, among others
pub none_among : (messages : List Message) → AreAmong [] messages
none_among messages m is = absurd (omega (arith, is.1))

pub more_among : (m : Message) (rest messages : List Message) → Contains messages m → AreAmong rest messages → AreAmong (m ∷ rest) messages
more_among m rest messages here others x is = elim (Contains-cons_cases m rest x is) [
  | inl same ↦ subst (λ y. Contains messages y) same here
  | inr later ↦ others x later
]

-- a message is true
pub told : (d : Name) (es : List SmallEntry) (m : Message) → m.from ≡ d → top m.prev.0 (offsets (members (layers_of small) d es m)) ≡ m.upto.0 →
    nat_le m.upto.0 (end_of (layers_of small) es) ≡ true → m.total ≡ length (small_body (members (layers_of small) d es m)) →
    m.fragment ≡ take (length m.fragment) (drop m.start (small_body (members (layers_of small) d es m))) →
    (2 ≤ length (members (layers_of small) d es m) → m.fragment ≡ small_body (members (layers_of small) d es m)) →
    nat_le m.confirm.0 (taken_end small.sees m.to es) ≡ true → nat_le m.ask_offset.0 (taken_end small.sees m.to es) ≡ true →
    nat_le m.ask_count (book_of small.sees m.to es).rereceive_count ≡ true →
    nat_le m.resend_count (book_of small.sees m.to es).resend_count ≡ true → IsTrueOf (layers_of small) d es m
told d es m from ends_at stands total fragment whole confirm ask_offset ask_count resend_count = record {
  sent_by = from;
  ends_at = ends_at;
  stands = le_if m.upto.0 (end_of (layers_of small) es) stands;
  total = total;
  fragment = fragment;
  whole = whole;
  confirm = le_if m.confirm.0 (taken_end small.sees m.to es) confirm;
  ask_offset = le_if m.ask_offset.0 (taken_end small.sees m.to es) ask_offset;
  ask_count = le_if m.ask_count (book_of small.sees m.to es).rereceive_count ask_count;
  resend_count = le_if m.resend_count (book_of small.sees m.to es).resend_count resend_count;
}

-- a message is a piece of its window
abbrev piece_of : (messages : List Message) (sender receiver : Name) (m : Message) → Contains messages m → m.from ≡ sender → m.to ≡ receiver →
    (prev upto total : ℕ) → m.prev.0 ≡ prev → m.upto.0 ≡ upto → m.total ≡ total → HasPiece messages sender receiver prev upto total
piece_of messages sender receiver m among from to prev upto total begins ends long = record {
  comes = record { message = m; among = among; sent_by = from; sent_to = to };
  of_window = record { begins = begins; ends = ends; long = long };
}

-- a window is whole by one message that has all of it
pub one_piece : (messages : List Message) (m : Message) → Contains messages m → (m.start ≡ 0) → m.total ≡ length m.fragment →
    HasAllFragments messages m.from m.to m.prev.0 m.upto.0 m.fragment
one_piece messages m among starts long = record {
  some_piece = piece_of messages m.from m.to m among refl refl m.prev.0 m.upto.0 (length m.fragment) refl refl long;
  covered = λ place below.
      let there : place - m.start ≡ place = omega (arith, starts) in
      record {
        piece = piece_of messages m.from m.to m among refl refl m.prev.0 m.upto.0 (length m.fragment) refl refl long;
        from_start = omega (arith, starts);
        to_end = omega (arith, starts, below);
        is_byte = ap (slice_index m.fragment) there;
      };
}

-- and by two, of which the second goes on where the first ends
pub two_pieces : (messages : List Message) (m n : Message) → Contains messages m → Contains messages n → n.from ≡ m.from → n.to ≡ m.to →
    n.prev.0 ≡ m.prev.0 → n.upto.0 ≡ m.upto.0 → m.start ≡ 0 → n.start ≡ length m.fragment →
    m.total ≡ length (m.fragment ++ n.fragment) → n.total ≡ length (m.fragment ++ n.fragment) →
    HasAllFragments messages m.from m.to m.prev.0 m.upto.0 (m.fragment ++ n.fragment)
two_pieces messages m n first second from to prev upto starts goes_on long long' = record {
  some_piece = piece_of messages m.from m.to m first refl refl m.prev.0 m.upto.0 (length (m.fragment ++ n.fragment)) refl refl long;
  covered = λ place below. elim (le_or_lt (length m.fragment) place) [
    | inl later ↦
        let there : n.start ≡ length m.fragment = goes_on in
        record {
          piece = piece_of messages m.from m.to n second from to m.prev.0 m.upto.0 (length (m.fragment ++ n.fragment)) prev upto long';
          from_start = omega (arith, later, goes_on);
          to_end = omega (arith, below, goes_on, length-append m.fragment n.fragment);
          is_byte = ap (λ at. get_or n.fragment (place - at) 0) there
              ∙ sym (get_or-append_right m.fragment n.fragment (length m.fragment) place 0 refl later);
        }
    | inr sooner ↦
        let there : place - m.start ≡ place = omega (arith, starts) in
        record {
          piece = piece_of messages m.from m.to m first refl refl m.prev.0 m.upto.0 (length (m.fragment ++ n.fragment)) refl refl long;
          from_start = omega (arith, starts);
          to_end = omega (arith, starts, sooner);
          is_byte = ap (λ at. get_or m.fragment at 0) there ∙ sym (get_or_append_left m.fragment n.fragment 0 place sooner);
        }
  ];
}

-- a transaction may be taken
pub taken_from : (messages : List Message) (d : Name) (es : List SmallEntry) (user : Name) (place : ℕ) (ops : List ℕ) (prev upto : ℕ)
    (txs rest : List (ℕ × List ℕ)) → HasAllFragments messages user d prev upto (small_body txs) →
    nat_le prev (taken_end small.sees user es) ≡ true → nat_lt (taken_end small.sees user es) upto ≡ true →
    past (taken_end small.sees user es) txs ≡ (place, ops) ∷ rest → CanTake (layers_of small) SmallHasSpelling messages d es user place ops
taken_from messages d es user place ops prev upto txs rest whole reached ahead first = record {
  prev = prev;
  upto = upto;
  transactions = txs;
  rest = rest;
  is_whole = whole;
  have_spellings = λ k d below. tt;
  reached = le_if prev (taken_end small.sees user es) reached;
  ahead = lt_if (taken_end small.sees user es) upto ahead;
  first = first;
}

-- messages may be noted as sent
pub sent_by_windows : (messages : List Message) (d : Name) (es : List SmallEntry) (user : Name) (upto count confirm : ℕ) (windows : List (ℕ × List ℕ)) →
    Chain messages d user (book_of small.sees user es).log_sent upto windows →
    (upto ≡ (book_of small.sees user es).log_sent)
    ⊎ (((book_of small.sees user es).log_sent < upto) × Contains (offsets (given_from small d 0 user es)) upto) →
    nat_le 1 count ≡ true → confirm ≡ (book_of small.sees user es).log_received → HasSent (layers_of small) messages d es user upto count confirm
sent_by_windows messages d es user upto count confirm windows chain given_there some confirms = record {
  windows = windows;
  chain = chain;
  given_there = given_there;
  some_message = le_if 1 count some;
  confirms = confirms;
}
