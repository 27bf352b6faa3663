-- Messages that are true of a history, by its log.
use Rattle.std.proofs.Common.{◌≡◌, ◌↔◌, ℕ, ◌<◌, ◌≤◌, Bool, true, false, cond, List, [], ◌∷◌, map, filter, All, IsTrue, refl, sym, subst, ◌∙◌, arith}
use Rattle.std.specs.List.{AllByRecursion}
use Rattle.std.proofs.lemmas.List.{length-map}
use Rattle.std.proofs.lemmas.List.Elements.{All-head, All-tail}
use Rattle.sr_base.specs.declared.offset.Offset.{Offset}
use Rattle.sr_base.specs.Values.{offset_from}
use Rattle.sr_book.specs.Books.{new_book}
use Rattle.sr_book.specs.Entries.{Name}
use Rattle.sr_book.specs.Histories.{book_of, taken_end}
use Rattle.sr_book.specs.Rising.{Rises, offsets, top}
use Rattle.sr_book.specs.declared.book.Book.{Book}
use Rattle.sr_book.proofs.Folds.{book_received}
use Rattle.sr_database_history.specs.Recorded.{Recorded}
use Rattle.sr_logform.specs.declared.op.Op.{Op}
use Rattle.sr_logform.specs.declared.op.Transaction.{Transaction}
use Rattle.sr_logform.specs.Inner.Ops.{IsShortTransaction}
use Rattle.sr_logform.proofs.Shorter.{short_transaction}
use Rattle.sr_mail_cut.specs.Bodies.{AreRising, RisesPast, last_at}
use Rattle.sr_msgform.specs.Messages.{IsMessage}
use Rattle.sr_msgform.specs.declared.message.Message.{Message}
use Rattle.sr_scan.specs.Given.{given_of}
use Rattle.sr_world.specs.Real.{layers, transaction_at, HasSpelling, LawfulHistory}
use Rattle.sr_world.proofs.Keeping.{real_laws, given_same, end_same}
use Rattle.sr_world_model.specs.Layers.{end_of}
use Rattle.sr_world_model.specs.Truth.{IsTrueOf}
use Rattle.sr_world_model.specs.Windows.{window}
use Rattle.sr_world_model.proofs.Longer.{given_in}
use Rattle.sr_world_steps.specs.Inner.Booked.{booked_in, end_in}
use Rattle.sr_world_steps.specs.Inner.Places.{Log}
use Rattle.sr_world_steps.specs.Inner.Putting.{HasLawfulLog, IsBacked, IsLawfulLog, TellsCarried, TellsPut}
use Rattle.sr_world_steps.specs.Inner.Scanned.{AreGiven, in_window, is_within}
use Rattle.sr_world_steps.specs.Inner.Windows.{Carries}
use Rattle.sr_world_steps.proofs.Logged.{log_books, log_ends}

-- ---- what is given can be written

rises_weaker : (low high : ℕ) (ts : List Transaction) → low ≤ high → RisesPast high ts → RisesPast low ts
rises_weaker low high [] le h = tt
rises_weaker low high (t ∷ ts) le h = (omega (arith, le, h.0), h.1)

rises_by : (b : Bool) (low : ℕ) (tx : ℕ × List Op) (txs : List (ℕ × List Op)) → low < tx.0 → RisesPast tx.0 (map transaction_at txs)
    → RisesPast low (map transaction_at (cond b (tx ∷ txs) txs))
rises_by true low tx txs lt h = (lt, h)
rises_by false low tx txs lt h = rises_weaker low tx.0 (map transaction_at txs) (omega (arith, lt)) h

window_rises : (prev upto low : ℕ) (txs : List (ℕ × List Op)) → Rises low (offsets txs) → RisesPast low (in_window prev upto txs)
window_rises prev upto low [] h = tt
window_rises prev upto low (tx ∷ txs) h =
    rises_by (is_within prev upto tx.0) low tx (filter (λ x. is_within prev upto x.0) txs) h.0 (window_rises prev upto tx.0 txs h.1)

are_rising : (low : ℕ) (ts : List Transaction) → RisesPast low ts → AreRising ts
are_rising low [] h = tt
are_rising low (t ∷ ts) h = h.1

short_by : (b : Bool) (tx : ℕ × List Op) (txs : List (ℕ × List Op)) → HasSpelling tx → AllByRecursion IsShortTransaction (map transaction_at txs)
    → AllByRecursion IsShortTransaction (map transaction_at (cond b (tx ∷ txs) txs))
short_by true tx txs one h = (short_transaction (transaction_at tx) one, h)
short_by false tx txs one h = h

window_short : (prev upto : ℕ) (txs : List (ℕ × List Op)) → All HasSpelling txs → AllByRecursion IsShortTransaction (in_window prev upto txs)
window_short prev upto [] h = tt
window_short prev upto (tx ∷ txs) h =
    short_by (is_within prev upto tx.0) tx (filter (λ x. is_within prev upto x.0) txs) (All-head HasSpelling tx txs h) (window_short prev upto txs (All-tail HasSpelling tx txs h))

pub given_short : (d user : Name) (prev upto : ℕ) (log : Log) (found : List Transaction) → HasLawfulLog d log → AreGiven d user prev upto log found
    → AllByRecursion IsShortTransaction found
unfolding HasLawfulLog AreGiven
given_short d user prev upto log found some given =
    subst (AllByRecursion IsShortTransaction) (sym (given some.0 some.1.shown))
    (window_short prev upto (given_of d some.0 user) (subst (All HasSpelling) (given_same d user some.0) (real_laws.given_fit d user some.0 some.1.lawful)))

pub given_rising : (d user : Name) (prev upto : ℕ) (log : Log) (found : List Transaction) → HasLawfulLog d log → AreGiven d user prev upto log found
    → AreRising found
unfolding HasLawfulLog AreGiven
given_rising d user prev upto log found some given =
    let rises : Rises 0 (offsets (given_of d some.0 user)) =
    subst (λ (t : List (ℕ × List Op)). Rises 0 (offsets t)) (given_same d user some.0) (given_in layers HasSpelling LawfulHistory real_laws d user some.0).0 in
    subst AreRising (sym (given some.0 some.1.shown)) (are_rising 0 (in_window prev upto (given_of d some.0 user)) (window_rises prev upto 0 (given_of d some.0 user) rises))

pub carries_where : (d : Name) (log : Log) (m : Message) (found : List Transaction) (carried : Bool) → AreGiven d m.to m.prev.0 m.upto.0 log found
    → (IsTrue carried ↔ Carries found m) → TellsCarried d log m carried
unfolding TellsCarried AreGiven
carries_where d log m found carried given h = λ rs g. subst (λ (ts : List Transaction). IsTrue carried ↔ Carries ts m) (given rs g.shown) h

-- ---- true messages

last_same : (o : Offset) (txs : List (ℕ × List Op)) → (last_at o (map transaction_at txs)).0 ≡ top o.0 (offsets txs)
last_same o [] = refl
last_same o (tx ∷ txs) = last_same (offset_from tx.0) txs

made_true : (d : Name) (rs : List Recorded) (log : Log) (m : Message) → IsLawfulLog d rs log → m.from ≡ d → IsBacked (booked_in m.to new_book log) (end_in 0 log) m
    → Carries (in_window m.prev.0 m.upto.0 (given_of d rs m.to)) m → IsTrueOf layers d rs m
made_true d rs log m g from b carried =
    let txs : List (ℕ × List Op) = window m.prev.0 m.upto.0 (layers.given d m.to rs) in
    let c : Carries (map transaction_at txs) m = subst (λ (t : List (ℕ × List Op)). Carries (in_window m.prev.0 m.upto.0 t) m) (sym (given_same d m.to rs)) carried in
    let k : IsBacked (book_of layers.sees m.to rs) (end_of layers rs) m =
    subst (λ (e : ℕ). IsBacked (book_of layers.sees m.to rs) e m) (log_ends d rs log g.shown ∙ sym (end_same rs))
    (subst (λ (o : Book). IsBacked o (end_in 0 log) m) (log_books d m.to rs log g.shown) b) in
    let received : (book_of layers.sees m.to rs).log_received ≡ taken_end layers.sees m.to rs = book_received layers.sees m.to rs in
    record {
      sent_by = from;
      ends_at = sym (last_same m.prev txs) ∙ c.ends;
      stands = k.stands;
      total = c.total;
      fragment = c.fragment;
      whole = λ two. c.whole (subst (λ (n : ℕ). 2 ≤ n) (sym (length-map txs transaction_at)) two);
      confirm = subst (λ (n : ℕ). m.confirm.0 ≤ n) received k.confirm;
      ask_offset = subst (λ (n : ℕ). m.ask_offset.0 ≤ n) received k.ask_offset;
      ask_count = k.ask_count;
      resend_count = k.resend_count;
    }

true_is_backed : (d : Name) (rs : List Recorded) (log : Log) (m : Message) → IsLawfulLog d rs log → IsTrueOf layers d rs m → IsBacked (booked_in m.to new_book log) (end_in 0 log) m
true_is_backed d rs log m g t =
    let received : (book_of layers.sees m.to rs).log_received ≡ taken_end layers.sees m.to rs = book_received layers.sees m.to rs in
    let k : IsBacked (book_of layers.sees m.to rs) (end_of layers rs) m = record {
      stands = t.stands;
      confirm = subst (λ (n : ℕ). m.confirm.0 ≤ n) (sym received) t.confirm;
      ask_offset = subst (λ (n : ℕ). m.ask_offset.0 ≤ n) (sym received) t.ask_offset;
      ask_count = t.ask_count;
      resend_count = t.resend_count;
    } in
    subst (λ (o : Book). IsBacked o (end_in 0 log) m) (sym (log_books d m.to rs log g.shown))
    (subst (λ (e : ℕ). IsBacked (book_of layers.sees m.to rs) e m) (sym (log_ends d rs log g.shown ∙ sym (end_same rs))) k)

true_carries : (d : Name) (rs : List Recorded) (m : Message) → IsTrueOf layers d rs m → Carries (in_window m.prev.0 m.upto.0 (given_of d rs m.to)) m
true_carries d rs m t =
    let txs : List (ℕ × List Op) = window m.prev.0 m.upto.0 (layers.given d m.to rs) in
    let c : Carries (map transaction_at txs) m = record {
      ends = last_same m.prev txs ∙ t.ends_at;
      total = t.total;
      fragment = t.fragment;
      whole = λ two. t.whole (subst (λ (n : ℕ). 2 ≤ n) (length-map txs transaction_at) two);
    } in
    subst (λ (u : List (ℕ × List Op)). Carries (in_window m.prev.0 m.upto.0 u) m) (given_same d m.to rs) c

-- ---- what may be put

pub not_from : (d : Name) (log : Log) (m : Message) (same : Bool) → (IsTrue same ↔ (m.from ≡ d)) → same ≡ false → TellsPut d log m false
unfolding TellsPut
not_from d log m same h never = λ rs g. (λ (t : false ≡ true). absurd (cc), λ may. let surely : same ≡ true = h.1 may.is_true.sent_by in absurd (cc))

pub not_spelled : (d : Name) (log : Log) (m : Message) (spelled : Bool) → (IsTrue spelled ↔ IsMessage m) → spelled ≡ false → TellsPut d log m false
unfolding TellsPut
not_spelled d log m spelled h never = λ rs g. (λ (t : false ≡ true). absurd (cc), λ may. let surely : spelled ≡ true = h.1 may.spelled in absurd (cc))

pub not_backed : (d : Name) (log : Log) (m : Message) (book : Book) (end : ℕ) (backed : Bool) → book ≡ booked_in m.to new_book log → end ≡ end_in 0 log
    → (IsTrue backed ↔ IsBacked book end m) → backed ≡ false → TellsPut d log m false
unfolding TellsPut
not_backed d log m book end backed is at h never = λ rs g. (
  λ (t : false ≡ true). absurd (cc),
  λ may.
      let b : IsBacked (booked_in m.to new_book log) (end_in 0 log) m = true_is_backed d rs log m g may.is_true in
      let surely : backed ≡ true = h.1 (subst (λ (e : ℕ). IsBacked book e m) (sym at) (subst (λ (o : Book). IsBacked o (end_in 0 log) m) (sym is) b)) in
      absurd (cc),
)

pub true_where : (d : Name) (log : Log) (m : Message) (book : Book) (end : ℕ) (same spelled backed carried : Bool) → (IsTrue same ↔ (m.from ≡ d)) → same ≡ true
    → (IsTrue spelled ↔ IsMessage m) → spelled ≡ true → book ≡ booked_in m.to new_book log → end ≡ end_in 0 log → (IsTrue backed ↔ IsBacked book end m) → backed ≡ true
    → TellsCarried d log m carried → TellsPut d log m carried
unfolding TellsCarried TellsPut
true_where d log m book end same spelled backed carried from is_from spells is_spelled is at backs is_backed carries = λ rs g.
    let b : IsBacked (booked_in m.to new_book log) (end_in 0 log) m =
    subst (λ (o : Book). IsBacked o (end_in 0 log) m) is (subst (λ (e : ℕ). IsBacked book e m) at (backs.0 is_backed)) in (
      λ c. record { spelled = spells.0 is_spelled; is_true = made_true d rs log m g (from.0 is_from) b ((carries rs g).0 c) },
      λ may. (carries rs g).1 (true_carries d rs m may.is_true),
    )
