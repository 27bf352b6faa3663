-- A window that came again is whole, where the messages of its pieces are known; and each of its transactions may be taken in its pass.
use Rattle.std.proofs.Common.{◌≡◌, ℕ, ◌-◌, ◌<◌, ◌≤◌, Bool, true, false, cond, List, [], ◌∷◌, length, map, get_or, Option, Some, Contains, All, refl, sym, ap, subst, ◌∙◌, inl, inr, arith}
use Rattle.std.specs.List.{AllByRecursion}
use Rattle.std.proofs.lemmas.List.Elements.{All-nil, All-cons}
use Rattle.sr_base.specs.Values.{offset_from}
use Rattle.sr_base.specs.declared.offset.Offset.{Offset}
use Rattle.sr_book.specs.Entries.{Name}
use Rattle.sr_book.specs.Histories.{taken_end}
use Rattle.sr_mail_cut.specs.Bodies.{RisesPast, body_spelling, last_at}
use Rattle.sr_mail_cut.proofs.Rising.{le-last}
use Rattle.sr_database_history.specs.Folds.{sees}
use Rattle.sr_database_history.specs.Recorded.{Recorded}
use Rattle.sr_logform.specs.declared.op.Op.{Op}
use Rattle.sr_logform.specs.declared.op.Transaction.{Transaction}
use Rattle.sr_logform.specs.Ops.{IsTransaction}
use Rattle.sr_mail.specs.Assembled.{IsAssembled, byte_at}
use Rattle.sr_mail.specs.Seen.{covers, window_of}
use Rattle.sr_mail.specs.declared.piece.Piece.{Piece}
use Rattle.sr_mail.specs.declared.window.Window.{Window}
use Rattle.sr_mail.proofs.Covered.{covers-at}
use Rattle.sr_world_model.specs.Steps.{CanTake, HasByte, HasPiece, HasAllFragments}
use Rattle.sr_world_model.specs.Windows.{past}
use Rattle.sr_world_model.proofs.Offsets.{le_or_lt, not_past_test, past_test}
use Rattle.sr_msgform.specs.declared.message.Message.{Message}
use Rattle.sr_receive.specs.Acts.{PassState, CameAgain, IsReadAs}
use Rattle.sr_receive_gather.specs.Fetches.{Pairs}
use Rattle.sr_receive_gather.specs.MessageFiles.{MessageFile}
use Rattle.sr_receive_gather.specs.Windows.{AreOf, IsRefetched, past as past_of, pieces_among}
use Rattle.sr_world.specs.Real.{HasSpelling, layers, transaction_at}

-- ---- transactions, with their offsets beside them

abbrev pub offset_with : Transaction → ℕ × List Op
offset_with t = (t.at.0, t.ops)

back_again : (ts : List Transaction) → map transaction_at (map offset_with ts) ≡ ts
back_again [] = refl
back_again (t ∷ ts) = ap (λ (l : List Transaction). t ∷ l) (back_again ts)

each_spelled : (ts : List Transaction) → AllByRecursion IsTransaction ts → All HasSpelling (map offset_with ts)
each_spelled [] each = All-nil HasSpelling
each_spelled (t ∷ ts) each = All-cons HasSpelling (offset_with t) (map offset_with ts) each.0 (each_spelled ts each.1)

past_with : (r : ℕ) (ts : List Transaction) → past r (map offset_with ts) ≡ map offset_with (past_of r ts)
past_with r [] = refl
past_with r (t ∷ ts) = elim (le_or_lt t.at.0 r) [
  | inl seen ↦ rw (not_past_test r t.at.0 seen) (past_with r ts)
  | inr ahead ↦ rw (past_test r t.at.0 ahead) (ap (λ (l : List (ℕ × List Op)). offset_with t ∷ l) (past_with r ts))
]

-- ---- the next of a window's transactions

all_past : (r low : ℕ) (ts : List Transaction) → r ≤ low → RisesPast low ts → past_of r ts ≡ ts
all_past r low [] below rises = refl
all_past r low (t ∷ ts) below rises =
    let ahead : r < t.at.0 = omega (arith, below, rises.0) in
    let later : r ≤ t.at.0 = omega (arith, ahead) in
    rw (past_test r t.at.0 ahead) (ap (λ (l : List Transaction). t ∷ l) (all_past r t.at.0 ts later rises.1))

-- the first of what lies past an offset, and what lies past it
record IsNext (low : Offset) (r : ℕ) (ts : List Transaction) (t : Transaction) (rest : List Transaction) : Type 0 where
  ahead : r < t.at.0
  rest_is : rest ≡ past_of t.at.0 ts
  within : t.at.0 ≤ (last_at low ts).0

next_past : (low : Offset) (r : ℕ) (ts : List Transaction) (t : Transaction) (rest : List Transaction) → RisesPast low.0 ts → past_of r ts ≡ t ∷ rest → IsNext low r ts t rest
next_past low r [] t rest rises is = let no : [] ≡ t ∷ rest = is in absurd (cc)
next_past low r (x ∷ xs) t rest rises is = elim (le_or_lt x.at.0 r) [
  | inl seen ↦
      let shown : past_of r xs ≡ t ∷ rest = rw (not_past_test r x.at.0 seen) at is in
      let later = next_past x.at r xs t rest rises.1 shown in
      let below : x.at.0 ≤ t.at.0 = omega (arith, seen, later.ahead) in
      record { ahead = later.ahead; rest_is = rw (not_past_test t.at.0 x.at.0 below) later.rest_is; within = later.within }
  | inr ahead ↦
      let shown : x ∷ past_of r xs ≡ t ∷ rest = rw (past_test r x.at.0 ahead) at is in
      let first : x ≡ t = cc in
      let others : past_of r xs ≡ rest = cc in
      let later : r ≤ x.at.0 = omega (arith, ahead) in
      let same : x.at.0 ≤ x.at.0 = omega arith in
      let whole : rest ≡ past_of x.at.0 xs = sym others ∙ all_past r x.at.0 xs later rises.1 ∙ sym (all_past x.at.0 x.at.0 xs same rises.1) in
      let behind : rest ≡ past_of x.at.0 (x ∷ xs) = rw (not_past_test x.at.0 x.at.0 same) whole in
      record {
        ahead = subst (λ (y : Transaction). r < y.at.0) first ahead;
        rest_is = subst (λ (y : Transaction). rest ≡ past_of y.at.0 (x ∷ xs)) first behind;
        within = subst (λ (y : Transaction). y.at.0 ≤ (last_at x.at xs).0) first (le-last x.at xs rises.1);
      }
]

last_is : (w : Window) (low : Offset) (ts : List Transaction) → AreOf w ts → (last_at low ts).0 ≡ w.upto
last_is w low [] are = absurd (cc are.ends.1)
last_is w low (t ∷ ts) are =
    let some : Some (last_at t.at ts) ≡ Some are.ends.0 = are.ends.1 in
    let same : last_at t.at ts ≡ are.ends.0 = cc in
    ap (λ (o : Offset). o.0) same ∙ are.ends.2

-- the message of a piece is known
abbrev pub IsKnownPair : List Message → Piece × Message → Type 0
IsKnownPair messages pair = Contains messages pair.1

module _ (messages : List Message) (publisher user : Name) where
  -- ---- the bytes of a window's body

  abbrev piece : (w : Window) (total : ℕ) (p : Piece) (m : Message) → w.total ≡ total → window_of p ≡ w → IsRefetched publisher user (p, m) → Contains messages m
      → HasPiece messages user publisher w.prev w.upto total
  piece w total p m long is still among = record {
    comes = record { message = m; among = among; sent_by = still.1.from; sent_to = still.1.to };
    of_window = record {
      begins = ap (λ (o : Offset). o.0) still.1.own.prev ∙ ap (λ (v : Window). v.prev) is;
      ends = ap (λ (o : Offset). o.0) still.1.own.upto ∙ ap (λ (v : Window). v.upto) is;
      long = still.1.own.total ∙ ap (λ (v : Window). v.total) is ∙ long;
    };
  }

  some_is : (x y : ℕ) → (Some x) ≡ (Some y) → x ≡ y
  some_is x y e = cc

  here_or : (c : Bool) (w : Window) (total : ℕ) (p : Piece × Message) (others : Option ℕ) (place byte : ℕ) → w.total ≡ total → window_of p.0 ≡ w → IsRefetched publisher user p → IsKnownPair messages p
      → covers place p.0 ≡ c → (others ≡ Some byte → HasByte messages user publisher w.prev w.upto total place byte)
      → cond c (Some (get_or p.1.fragment (place - p.0.start) 0)) others ≡ Some byte → HasByte messages user publisher w.prev w.upto total place byte
  here_or true w total p others place byte long own still known is behind e =
      let at = covers-at place p.0 is in
      let start : p.1.start ≡ p.0.start = still.1.own.start in
      let size : length p.1.fragment ≡ p.0.length = still.1.own.size in
      record {
        piece = piece w total p.0 p.1 long own still known;
        from_start = omega (arith, at.0, start);
        to_end = omega (arith, at.1, start, size);
        is_byte = ap (λ (n : ℕ). get_or p.1.fragment (place - n) 0) start ∙ some_is (get_or p.1.fragment (place - p.0.start) 0) byte e;
      }
  here_or false w total p others place byte long own still known is behind e = behind e

  byte_in : (w : Window) (total : ℕ) (message_files : List MessageFile) (pairs : Pairs) (place byte : ℕ) → w.total ≡ total
      → AllByRecursion (λ p. (window_of p ≡ w) × Contains (pieces_among message_files w) p) (map (λ p. p.0) pairs) → AllByRecursion (IsRefetched publisher user) pairs
      → AllByRecursion (IsKnownPair messages) pairs → byte_at pairs place ≡ Some byte → HasByte messages user publisher w.prev w.upto total place byte
  byte_in w total message_files [] place byte long own still known e = absurd cc
  byte_in w total message_files (p ∷ pairs) place byte long own still known e =
      here_or (covers place p.0) w total p (byte_at pairs place) place byte long own.0.0 still.0 known.0 refl
      (byte_in w total message_files pairs place byte long own.1 still.1 known.1) e

  whole : (w : Window) (message_files : List MessageFile) (pairs : Pairs) (bytes : List ℕ) → ¬ (map (λ p. p.0) pairs ≡ [])
      → AllByRecursion (λ p. (window_of p ≡ w) × Contains (pieces_among message_files w) p) (map (λ p. p.0) pairs) → AllByRecursion (IsRefetched publisher user) pairs
      → AllByRecursion (IsKnownPair messages) pairs → IsAssembled pairs bytes → HasAllFragments messages user publisher w.prev w.upto bytes
  whole w message_files [] bytes filled own still known is = absurd (filled refl)
  whole w message_files (p ∷ pairs) bytes filled own still known is =
      let long : w.total ≡ length bytes = sym (ap (λ (v : Window). v.total) own.0.0) ∙ sym is.whole in
      record {
        some_piece = piece w (length bytes) p.0 p.1 long own.0.0 still.0 known.0;
        covered = λ place below.
            byte_in w (length bytes) message_files (p ∷ pairs) place (get_or bytes place 0) long own still known (is.each place (omega (arith, below, is.whole)));
      }

  -- ---- what may be taken of it

  -- these are left of a whole window: what lies past what was received
  pub record LeftOf (received : ℕ) (left : List Transaction) : Type 0 where
    pub w : Window
    pub txs : List Transaction
    pub is_whole : HasAllFragments messages user publisher w.prev w.upto (body_spelling txs)
    pub are : AreOf w txs
    pub reached : w.prev ≤ received
    pub left_are : left ≡ past_of received txs

  pub left_begun : (message_files : List MessageFile) (s : PassState) (w : Window) (pairs : Pairs) (txs : List Transaction) → CameAgain publisher user message_files s w pairs → IsReadAs pairs w txs
      → AllByRecursion (IsKnownPair messages) pairs → LeftOf s.received (past_of s.received txs)
  left_begun message_files s w pairs txs came read known = record {
    w = w;
    txs = txs;
    is_whole = subst (λ (bytes : List ℕ). HasAllFragments messages user publisher w.prev w.upto bytes) read.spell.1
        (whole w message_files pairs read.bytes came.due.filled came.due.own came.still known read.assembled);
    are = read.spell.0;
    reached = came.due.leads.begins;
    left_are = refl;
  }

  -- the first of them may be taken, and then the others are left
  next_of : (received : ℕ) (t : Transaction) (rest : List Transaction) (left : LeftOf received (t ∷ rest)) → IsNext (offset_from left.w.prev) received left.txs t rest
  next_of received t rest left = next_past (offset_from left.w.prev) received left.txs t rest left.are.past (sym left.left_are)

  pub left_taken : (received : ℕ) (t : Transaction) (rest : List Transaction) → LeftOf received (t ∷ rest) → LeftOf t.at.0 rest
  left_taken received t rest left =
      let next = next_of received t rest left in
      record { w = left.w; txs = left.txs; is_whole = left.is_whole; are = left.are; reached = omega (arith, left.reached, next.ahead); left_are = next.rest_is }

  pub can_take : (es : List Recorded) (t : Transaction) (rest : List Transaction) (ops : List Op) → LeftOf (taken_end sees user es) (t ∷ rest) → ops ≡ t.ops
      → CanTake layers HasSpelling messages publisher es user t.at.0 ops
  can_take es t rest ops left same =
      let received : ℕ = taken_end sees user es in
      let next = next_of received t rest left in
      let upto : (last_at (offset_from left.w.prev) left.txs).0 ≡ left.w.upto = last_is left.w (offset_from left.w.prev) left.txs left.are in
      record {
        prev = left.w.prev;
        upto = left.w.upto;
        transactions = map offset_with left.txs;
        rest = map offset_with rest;
        is_whole = subst (λ (ts : List Transaction). HasAllFragments messages user publisher left.w.prev left.w.upto (body_spelling ts)) (sym (back_again left.txs)) left.is_whole;
        have_spellings = each_spelled left.txs left.are.body.each;
        reached = left.reached;
        ahead = omega (arith, next.ahead, next.within, upto);
        first =
            past_with received left.txs ∙ ap (map offset_with) (sym left.left_are)
            ∙ ap (λ (l : List Op). (t.at.0, l) ∷ map offset_with rest) (sym same);
      }
