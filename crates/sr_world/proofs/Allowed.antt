-- When messages are true, windows whole, transactions taken and messages noted, of histories that give what is known.
use Rattle.std.proofs.Common.{◌≡◌, ◌≤◌, ℕ, true, nat_lt, nat_le, List, [], ◌∷◌, All, length, take, drop, refl, sym, ap, subst, ◌∙◌, inr, Contains}
use Rattle.std.proofs.Math.Seq.{take-length}
use Rattle.sr_book.specs.Entries.{Name}
use Rattle.sr_book.specs.Histories.{taken_end, book_of}
use Rattle.sr_book.specs.Rising.{top, offsets}
use Rattle.sr_database_history.specs.Recorded.{Recorded}
use Rattle.sr_logform.specs.declared.op.Op.{Op}
use Rattle.sr_world_model.specs.Layers.{end_of}
use Rattle.sr_world_model.specs.Steps.{HasAllFragments, CanTake, HasSent}
use Rattle.sr_world_model.specs.Truth.{members, IsTrueOf}
use Rattle.sr_world_model.specs.Windows.{past, window}
use Rattle.sr_world_model.proofs.Tests.{le_if, lt_if}
use Rattle.sr_msgform.specs.declared.message.Message.{Message}
use Rattle.sr_world.specs.Real.{layers, HasSpelling}

-- a message with the whole body of its window is true
pub told_true : (d : Name) (es : List Recorded) (m : Message) (txs : List (ℕ × List Op)) (end : ℕ) → layers.given d m.to es ≡ txs → end_of layers es ≡ end
    → m.from ≡ d → top m.prev.0 (offsets (window m.prev.0 m.upto.0 txs)) ≡ m.upto.0 → nat_le m.upto.0 end ≡ true → m.start ≡ 0
    → m.total ≡ length m.fragment → m.fragment ≡ layers.encode (window m.prev.0 m.upto.0 txs)
    → nat_le m.confirm.0 (taken_end layers.sees m.to es) ≡ true → nat_le m.ask_offset.0 (taken_end layers.sees m.to es) ≡ true
    → nat_le m.ask_count (book_of layers.sees m.to es).rereceive_count ≡ true → nat_le m.resend_count (book_of layers.sees m.to es).resend_count ≡ true
    → IsTrueOf layers d es m
told_true d es m txs end gave ends from ends_at stands start total body confirm ask_offset ask_count resend_count =
    let same : members layers d es m ≡ window m.prev.0 m.upto.0 txs = ap (window m.prev.0 m.upto.0) gave in
    let is : m.fragment ≡ layers.encode (members layers d es m) = body ∙ sym (ap layers.encode same) in
    record {
      sent_by = from;
      ends_at = ap (λ (t : List (ℕ × List Op)). top m.prev.0 (offsets t)) same ∙ ends_at;
      stands = subst (λ (n : ℕ). m.upto.0 ≤ n) (sym ends) (le_if m.upto.0 end stands);
      total = total ∙ ap length is;
      fragment = is ∙ (sym (take-length (layers.encode (members layers d es m)))
          ∙ ap (λ n. take n (layers.encode (members layers d es m))) (ap length (sym is))
          ∙ ap (λ n. take (length m.fragment) (drop n (layers.encode (members layers d es m)))) (sym start));
      whole = λ two. is;
      confirm = le_if m.confirm.0 (taken_end layers.sees m.to es) confirm;
      ask_offset = le_if m.ask_offset.0 (taken_end layers.sees m.to es) ask_offset;
      ask_count = le_if m.ask_count (book_of layers.sees m.to es).rereceive_count ask_count;
      resend_count = le_if m.resend_count (book_of layers.sees m.to es).resend_count resend_count;
    }

-- a transaction may be taken
pub may_take : (messages : List Message) (d : Name) (es : List Recorded) (user : Name) (place : ℕ) (ops : List Op) (prev upto : ℕ)
    (txs rest : List (ℕ × List Op)) → HasAllFragments messages user d prev upto (layers.encode txs) → All HasSpelling txs
    → nat_le prev (taken_end layers.sees user es) ≡ true → nat_lt (taken_end layers.sees user es) upto ≡ true
    → past (taken_end layers.sees user es) txs ≡ (place, ops) ∷ rest → CanTake layers HasSpelling messages d es user place ops
may_take messages d es user place ops prev upto txs rest whole spelled reached ahead first = record {
  prev = prev;
  upto = upto;
  transactions = txs;
  rest = rest;
  is_whole = whole;
  have_spellings = spelled;
  reached = le_if prev (taken_end layers.sees user es) reached;
  ahead = lt_if (taken_end layers.sees user es) upto ahead;
  first = first;
}

-- one message may be noted as sent, which has the window from what was sent to an offset that is given
pub may_note : (messages : List Message) (d : Name) (es : List Recorded) (user : Name) (upto confirm : ℕ) (body : List ℕ) (txs : List (ℕ × List Op))
    → layers.given d user es ≡ txs → HasAllFragments messages d user (book_of layers.sees user es).log_sent upto body
    → nat_lt (book_of layers.sees user es).log_sent upto ≡ true → Contains (offsets txs) upto → confirm ≡ (book_of layers.sees user es).log_received
    → HasSent layers messages d es user upto 1 confirm
may_note messages d es user upto confirm body txs gave whole ahead there confirms = record {
  windows = (upto, body) ∷ [];
  chain = (whole, refl);
  given_there = inr (
    lt_if (book_of layers.sees user es).log_sent upto ahead,
    subst (λ (t : List (ℕ × List Op)). Contains (offsets t) upto) (sym gave) there,
  );
  some_message = le_if 1 1 refl;
  confirms = confirms;
}
