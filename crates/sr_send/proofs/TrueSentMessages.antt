-- What is put is true of the history.
use Rattle.std.proofs.Common.{◌≡◌, ℕ, ◌+◌, ◌≤◌, List, [], ◌∷◌, length, map, refl, sym, ap, subst, ◌∙◌, arith, le_refl, inl, inr}
use Rattle.std.specs.Prelude.{Bool, true, false, cond, filter, nat_lt, nat_le, ◌&&◌, ◌⊎◌}
use Rattle.std.specs.List.{AllByRecursion}
use Rattle.sr_base.specs.Values.{offset_from}
use Rattle.sr_base.specs.declared.offset.Offset.{Offset}
use Rattle.sr_book.specs.Entries.{Name}
use Rattle.sr_book.specs.declared.book.Book.{Book}
use Rattle.sr_mail_cut.specs.Bodies.{RisesPast, last_at, body_spelling}
use Rattle.sr_mail_cut.specs.Cuts.{AreCut, Parcel, transactions_of, messages_from, messages_of, all_messages, bodyless}
use Rattle.sr_mail_cut.specs.Truths.{IsFragmentOf, IsTrueOf, between}
use Rattle.sr_mail_cut.specs.declared.head.Head.{Head}
use Rattle.sr_mail_cut.proofs.Lists.{AllByRecursion-append}
use Rattle.sr_mail_cut.proofs.Rising.{le-last, RisesPast-prefix, RisesPast-back}
use Rattle.sr_mail_cut.proofs.Truth.{cut_true}
use Rattle.sr_database_history.specs.Recorded.{Recorded}
use Rattle.sr_logform.specs.declared.op.Op.{Op}
use Rattle.sr_logform.specs.declared.op.Transaction.{Transaction}
use Rattle.sr_msgform.specs.declared.message.Message.{Message}
use Rattle.sr_scan.specs.Given.{given_of}
use Rattle.sr_send.specs.PutFiles.{head_of, IsDue, AreMessages}
use Rattle.sr_send.specs.Passes.{AreAll, waiting}
use Rattle.sr_send.specs.Inner.TrueSentMessages.{IsTrueSentMessage}
use Rattle.sr_send.specs.Unsent.{as_transaction, past, unsent}
use Rattle.sr_send.proofs.Endings.{due_case}
use Rattle.sr_send.proofs.Truths.{unsent_rises}

-- ---- what lies in a window that begins past an offset lies past that

lt_false : (m n : ℕ) → n ≤ m → nat_lt m n ≡ false
lt_false m n le = grind arith

le_of : (m n : ℕ) → nat_lt m n ≡ false → n ≤ m
le_of m n test = grind arith

window_case : (b : Bool) (prev upto sent : ℕ) (tx : ℕ × List Op) (some txs : List (ℕ × List Op)) → nat_lt sent tx.0 ≡ b → sent ≤ prev → between prev upto (map as_transaction some) ≡ between prev upto (map as_transaction txs)
    → between prev upto (map as_transaction (cond b (tx ∷ some) some)) ≡ between prev upto (map as_transaction (tx ∷ txs))
window_case true prev upto sent tx some txs is later same = ap (λ (l : List Transaction). cond (nat_lt prev tx.0 && nat_le tx.0 upto) (as_transaction tx ∷ l) l) same
window_case false prev upto sent tx some txs is later same =
    let early : tx.0 ≤ sent = le_of sent tx.0 is in
    let none : nat_lt prev tx.0 ≡ false = lt_false prev tx.0 (omega (arith, early, later)) in
    same ∙ ap (λ (b : Bool). cond (b && nat_le tx.0 upto) (as_transaction tx ∷ between prev upto (map as_transaction txs)) (between prev upto (map as_transaction txs))) (sym none)

window_past : (prev upto sent : ℕ) (txs : List (ℕ × List Op)) → sent ≤ prev → between prev upto (past sent txs) ≡ between prev upto (map as_transaction txs)
window_past prev upto sent [] later = refl
window_past prev upto sent (tx ∷ txs) later =
    window_case (nat_lt sent tx.0) prev upto sent tx (filter (λ x. nat_lt sent x.0) txs) txs refl later (window_past prev upto sent txs later)

true_of_all : (sent : ℕ) (txs : List (ℕ × List Op)) (m : Message) → sent ≤ m.prev.0 → IsTrueOf (past sent txs) m → IsTrueOf (map as_transaction txs) m
true_of_all sent txs m later holds =
    let same = window_past m.prev.0 m.upto.0 sent txs later in
    record {
      part = subst (λ (ts : List Transaction). IsFragmentOf (body_spelling ts) m) same holds.part;
      ends = ap (last_at m.prev) (sym same) ∙ holds.ends;
      whole = λ two. holds.whole (subst (λ (ts : List Transaction). 2 ≤ length ts) (sym same) two) ∙ ap body_spelling same;
    }

-- ---- what all messages of a cut have of their head, and where their windows begin

pub record IsHeaded (head : Head) (low : ℕ) (m : Message) : Type 0 where
  pub from_is : m.from ≡ head.from
  pub to_is : m.to ≡ head.to
  pub resend : m.resend_count ≡ head.resend_count
  pub later : low ≤ m.prev.0
  pub confirms : m.confirm ≡ head.confirm
  pub asks : m.ask_count ≡ head.ask_count
  pub asks_past : m.ask_offset ≡ head.ask_offset

headed_from : (head : Head) (low : ℕ) (prev upto : Offset) (total start : ℕ) (fs : List (List ℕ)) → low ≤ prev.0 → AllByRecursion (IsHeaded head low) (messages_from head prev upto total start fs)
headed_from head low prev upto total start [] later = tt
headed_from head low prev upto total start (f ∷ fs) later = (
  record { from_is = refl; to_is = refl; resend = refl; later = later; confirms = refl; asks = refl; asks_past = refl },
  headed_from head low prev upto total (start + length f) fs later,
)

headed_all : (head : Head) (low : ℕ) (prev : Offset) (ps : List Parcel) → low ≤ prev.0 → RisesPast prev.0 (transactions_of ps) → AllByRecursion (IsHeaded head low) (all_messages head prev ps)
headed_all head low prev [] later rises = tt
headed_all head low prev (p ∷ ps) later rises =
    let on = le-last prev p.transactions (RisesPast-prefix prev.0 p.transactions (transactions_of ps) rises) in
    let last : Offset = last_at prev p.transactions in
    AllByRecursion-append (IsHeaded head low) (messages_of head prev p) (all_messages head last ps) (headed_from head low prev last (length (body_spelling p.transactions)) 0 p.fragments later)
    (headed_all head low last ps (omega (arith, later, on)) (RisesPast-back prev p.transactions (transactions_of ps) rises))

-- ---- the messages of a pass

abbrev IsGood : Head → ℕ → List Transaction → Message → Type 0
IsGood head low ts m = IsHeaded head low m × IsTrueOf ts m

both_all : (P Q : Message → Type 0) (ms : List Message) → AllByRecursion P ms → AllByRecursion Q ms → AllByRecursion (λ m. P m × Q m) ms
both_all P Q [] a b = tt
both_all P Q (m ∷ ms) a b = ((a.0, b.0), both_all P Q ms a.1 b.1)

bodyless_good : (head : Head) (low : ℕ) → IsGood head low [] (bodyless head (offset_from low))
bodyless_good head low = (
  record { from_is = refl; to_is = refl; resend = refl; later = le_refl low; confirms = refl; asks = refl; asks_past = refl },
  record { part = record { total = refl; fragment = refl }; ends = refl; whole = λ two. absurd (omega (arith, two)) },
)

good_alone : (head : Head) (book : Book) (ask : Bool) (limit : ℕ) (messages : List Message) → AreMessages head book ask limit [] messages → IsDue book ask [] ⊎ (IsDue book ask [] → ⊥)
    → AllByRecursion (IsGood head book.log_sent []) messages
good_alone head book ask limit messages are (inl due) = subst (λ (ms : List Message). AllByRecursion (IsGood head book.log_sent []) ms) (sym (are.due due)) (bodyless_good head book.log_sent, tt)
good_alone head book ask limit messages are (inr undue) = subst (λ (ms : List Message). AllByRecursion (IsGood head book.log_sent []) ms) (sym (are.none undue)) tt

good_cut : (head : Head) (prev : Offset) (ts : List Transaction) (limit : ℕ) (messages : List Message) → RisesPast prev.0 ts → AreCut head prev ts limit messages → AllByRecursion (IsGood head prev.0 ts) messages
good_cut head prev ts limit messages rises cut =
    both_all (IsHeaded head prev.0) (IsTrueOf ts) messages
    (subst (λ (ms : List Message). AllByRecursion (IsHeaded head prev.0) ms) (sym cut.sent) (headed_all head prev.0 prev cut.parcels (le_refl prev.0) (subst (λ (l : List Transaction). RisesPast prev.0 l) (sym cut.covered) rises)))
    (cut_true head prev ts limit messages rises cut)

good_messages : (head : Head) (book : Book) (ask : Bool) (limit : ℕ) (ts : List Transaction) (messages : List Message) → RisesPast book.log_sent ts → AreMessages head book ask limit ts messages
    → AllByRecursion (IsGood head book.log_sent ts) messages
good_messages head book ask limit [] messages rises are = good_alone head book ask limit messages are (due_case book ask)
good_messages head book ask limit (t ∷ ts) messages rises are = good_cut head (offset_from book.log_sent) (t ∷ ts) limit messages rises (are.due tt)

true_sent_messages : (publisher user : Name) (es : List Recorded) (book : Book) (ask : Bool) (ms : List Message) → AllByRecursion (IsGood (head_of publisher user book ask) book.log_sent (unsent publisher es user book.log_sent)) ms
    → AllByRecursion (IsTrueSentMessage publisher es user book ask) ms
true_sent_messages publisher user es book ask [] good = tt
true_sent_messages publisher user es book ask (m ∷ ms) good = (
  record {
    from_is = good.0.0.from_is;
    to_is = good.0.0.to_is;
    resend = good.0.0.resend;
    later = good.0.0.later;
    carries = true_of_all book.log_sent (given_of publisher es user) m good.0.0.later good.0.1;
    confirms = ap (λ (o : Offset). o.0) good.0.0.confirms;
    asks = good.0.0.asks;
    asks_past = ap (λ (o : Offset). o.0) good.0.0.asks_past;
  },
  true_sent_messages publisher user es book ask ms good.1,
)

pub all_true : (base : ℕ) (publisher : Name) (es : List Recorded) (user : Name) (book : Book) (ask : Bool) (limit : ℕ) (messages : List Message) → waiting base publisher es user book ≡ unsent publisher es user book.log_sent
    → AreAll base publisher es user book ask limit messages → AllByRecursion (IsTrueSentMessage publisher es user book ask) messages
all_true base publisher es user book ask limit messages kept are =
    true_sent_messages publisher user es book ask messages
    (good_messages (head_of publisher user book ask) book ask limit (unsent publisher es user book.log_sent) messages (unsent_rises publisher user es book.log_sent)
    (subst (λ (ts : List Transaction). AreMessages (head_of publisher user book ask) book ask limit ts messages) kept are))
