-- Messages that are noted as sent, by a log.
use Rattle.std.proofs.Common.{◌≡◌, ◌↔◌, ℕ, zero, suc, ◌<◌, ◌≤◌, ◌⊎◌, Bool, true, false, cond, List, [], ◌∷◌, map, filter, length, get_or, Contains, Option, Some, None, IsTrue, inl, inr, refl, sym, ap, subst, ◌∙◌, arith}
use Rattle.std.specs.Prelude.{◌==◌, ◌||◌}
use Rattle.sr_base.specs.declared.offset.Offset.{Offset}
use Rattle.sr_book.specs.Books.{new_book}
use Rattle.sr_book.specs.Entries.{Name}
use Rattle.sr_book.specs.Histories.{book_of}
use Rattle.sr_book.specs.Rising.{offsets}
use Rattle.sr_book.specs.declared.book.Book.{Book}
use Rattle.sr_book.specs.declared.note.Note.{Note}
use Rattle.sr_book.specs.declared.note.Note.TheVariants.{Confirmed, Asked, Raised, Sent}
use Rattle.sr_database_history.specs.Folds.{sees, state_of, end_of}
use Rattle.sr_database_history.specs.Recorded.{Recorded}
use Rattle.sr_logform.specs.declared.op.Op.{Op}
use Rattle.sr_logform.specs.declared.op.Transaction.{Transaction}
use Rattle.sr_msgform.specs.declared.message.Message.{Message}
use Rattle.sr_scan.specs.Given.{given_of}
use Rattle.sr_world.proofs.Keeping.{given_same}
use Rattle.sr_world_steps.specs.Inner.Booked.{booked_in}
use Rattle.sr_world_steps.specs.Inner.Leading.{Leads}
use Rattle.sr_world_steps.specs.Inner.Logs.{EndsOne}
use Rattle.sr_world_steps.specs.Inner.Noted.{NoteEnds, StandsNoted}
use Rattle.sr_world_steps.specs.Inner.Places.{Log}
use Rattle.sr_world_steps.specs.Inner.Scanned.{AreGiven, in_window, is_within, transaction_in}
use Rattle.sr_world_steps.specs.Inner.Sending.{ends_at, IsGivenEnd, MayBeSent, SentEnds, TellsEnd, TellsSent, WasSent}
use Rattle.sr_world_steps.proofs.Logged.{log_books}

-- ---- ends of transactions

-- a transaction that ends at the window's end lies in it
within_end : (sent end : ℕ) → sent < end → is_within sent end end ≡ true
within_end sent end lt = grind (arith, lt)

ends_by : (b : Bool) (place : ℕ) (tx : ℕ × List Op) (ts : List Transaction) → ends_at ts place ≡ true
    → ends_at (cond b (transaction_in tx ∷ ts) ts) place ≡ true
ends_by true place tx ts e = by (tx.0 == place)
  where
    by : (b : Bool) → (b || ends_at ts place) ≡ true
    by true = refl
    by false = e
ends_by false place tx ts e = e

same_by : (b : Bool) (tx : ℕ × List Op) (txs : List (ℕ × List Op)) → map transaction_in (cond b (tx ∷ txs) txs)
    ≡ cond b (transaction_in tx ∷ map transaction_in txs) (map transaction_in txs)
same_by true tx txs = refl
same_by false tx txs = refl

-- it is found in the window
found_in : (sent end : ℕ) (txs : List (ℕ × List Op)) (k : ℕ) → sent < end → k < length (offsets txs) → get_or (offsets txs) k end ≡ end → ends_at (in_window sent end txs) end ≡ true
found_in sent end [] k lt within is = absurd (omega (arith, within))
found_in sent end (tx ∷ txs) zero lt within is =
    let inside : is_within sent end tx.0 ≡ true = subst (λ (n : ℕ). is_within sent end n ≡ true) (sym is) (within_end sent end lt) in
    let first : (tx.0 == end) ≡ true = grind (arith, is) in
    ap (λ (ts : List Transaction). ends_at ts end) (same_by (is_within sent end tx.0) tx (filter (λ x. is_within sent end x.0) txs))
    ∙ ap (λ (b : Bool). ends_at (cond b (transaction_in tx ∷ in_window sent end txs) (in_window sent end txs)) end) inside
    ∙ ap (λ (b : Bool). b || ends_at (in_window sent end txs) end) first
found_in sent end (tx ∷ txs) (suc k) lt within is =
    ap (λ (ts : List Transaction). ends_at ts end) (same_by (is_within sent end tx.0) tx (filter (λ x. is_within sent end x.0) txs))
    ∙ ends_by (is_within sent end tx.0) end tx (in_window sent end txs) (found_in sent end txs k lt (omega (arith, within)) is)

-- and what is found there is such an end
stands_by : (place : ℕ) (tx : ℕ × List Op) (txs : List (ℕ × List Op)) (b : Bool) (ts : List Transaction) → (ends_at ts place ≡ true → Contains (offsets txs) place)
    → ends_at (cond b (transaction_in tx ∷ ts) ts) place ≡ true → Contains (offsets (tx ∷ txs)) place
stands_by place tx txs true ts rest e = by (tx.0 == place) refl e
  where
    by : (b : Bool) → (tx.0 == place) ≡ b → (b || ends_at ts place) ≡ true → Contains (offsets (tx ∷ txs)) place
    by true t e = (0, omega arith, grind (arith, t))
    by false t e = let c = rest e in (suc c.0, omega (arith, c.1), c.2)
stands_by place tx txs false ts rest e = let c = rest e in (suc c.0, omega (arith, c.1), c.2)

stands_in : (sent end : ℕ) (txs : List (ℕ × List Op)) → ends_at (in_window sent end txs) end ≡ true → Contains (offsets txs) end
stands_in sent end [] e = absurd (cc)
stands_in sent end (tx ∷ txs) e =
    stands_by end tx txs (is_within sent end tx.0) (in_window sent end txs) (stands_in sent end txs)
    (sym (ap (λ (ts : List Transaction). ends_at ts end) (same_by (is_within sent end tx.0) tx (filter (λ x. is_within sent end x.0) txs))) ∙ e)

pub end_here : (d user : Name) (log : Log) (sent end : ℕ) (same : Bool) → end ≤ sent → (IsTrue same ↔ (end ≡ sent)) → TellsEnd d log user sent end same
unfolding TellsEnd
end_here d user log sent end same le h = λ rs g. (λ t. inl (h.0 t), λ i. elim i [ inl e ↦ h.1 e | inr past ↦ absurd (omega (arith, le, past.0)) ])

pub end_behind : (d user : Name) (log : Log) (sent end : ℕ) (found : List Transaction) (given : Bool) → sent < end → AreGiven d user sent end log found
    → given ≡ ends_at found end → TellsEnd d log user sent end given
unfolding TellsEnd AreGiven
end_behind d user log sent end found given lt are is = λ rs g.
    let all : given ≡ ends_at (in_window sent end (given_of d rs user)) end = is ∙ ap (λ (ts : List Transaction). ends_at ts end) (are rs g) in (
      λ t. inr (lt, stands_in sent end (given_of d rs user) (sym all ∙ t)),
      λ i. elim i [
        | inl e ↦ absurd (omega (arith, lt, e))
        | inr past ↦ all ∙ found_in sent end (given_of d rs user) past.1.0 lt past.1.1 past.1.2
      ],
    )

-- ---- what was sent

pub no_count : (messages : List Message) (d user : Name) (log : Log) (end confirm : Offset) (count : ℕ) (book : Book) → book ≡ booked_in user new_book log
    → (count ≡ 0) ⊎ (¬ (confirm.0 ≡ book.log_received)) → TellsSent messages d log user (Sent end count confirm) false
unfolding TellsSent
no_count messages d user log end confirm count book is bad = λ rs g. (
  λ (never : false ≡ true). absurd (cc),
  λ sent. elim bad [
    | inl none ↦ absurd (omega (arith, none, sent.some_message))
    | inr other ↦ absurd (other (sent.confirms ∙ ap (λ (b : Book). b.log_received) (sym (is ∙ log_books d user rs log g))))
  ],
)

pub no_end : (messages : List Message) (d user : Name) (log : Log) (end confirm : Offset) (count : ℕ) (book : Book) (given : Bool) → book ≡ booked_in user new_book log
    → TellsEnd d log user book.log_sent end.0 given → given ≡ false → TellsSent messages d log user (Sent end count confirm) false
unfolding TellsEnd TellsSent
no_end messages d user log end confirm count book given is h never = λ rs g.
    let same : book ≡ book_of sees user rs = is ∙ log_books d user rs log g in (
      λ (never : false ≡ true). absurd (cc),
      λ sent.
          let there : IsGivenEnd (book_of sees user rs).log_sent end.0 (given_of d rs user) =
          subst (λ (t : List (ℕ × List Op)). IsGivenEnd (book_of sees user rs).log_sent end.0 t) (given_same d user rs) sent.given_there in
          let surely : given ≡ true = (h rs g).1 (subst (λ (b : Book). IsGivenEnd b.log_sent end.0 (given_of d rs user)) (sym same) there) in
          absurd (cc),
    )

pub sent_where : (messages : List Message) (d user : Name) (log : Log) (end confirm : Offset) (count : ℕ) (book : Book) (given lead : Bool) → book ≡ booked_in user new_book log
    → 1 ≤ count → confirm.0 ≡ book.log_received
    → TellsEnd d log user book.log_sent end.0 given → given ≡ true
    → (IsTrue lead ↔ Leads messages d user book.log_sent end.0) → TellsSent messages d log user (Sent end count confirm) lead
unfolding TellsEnd TellsSent
sent_where messages d user log end confirm count book given lead is some confirms h surely l = λ rs g.
    let same : book ≡ book_of sees user rs = is ∙ log_books d user rs log g in (
      λ t.
          let chain : Leads messages d user (book_of sees user rs).log_sent end.0 = subst (λ (b : Book). Leads messages d user b.log_sent end.0) same (l.0 t) in
          let there : IsGivenEnd (book_of sees user rs).log_sent end.0 (given_of d rs user) =
          subst (λ (b : Book). IsGivenEnd b.log_sent end.0 (given_of d rs user)) same ((h rs g).0 surely) in
          record {
            windows = chain.0;
            chain = chain.1;
            given_there = subst (λ (t : List (ℕ × List Op)). IsGivenEnd (book_of sees user rs).log_sent end.0 t) (sym (given_same d user rs)) there;
            some_message = some;
            confirms = confirms ∙ ap (λ (b : Book). b.log_received) same;
          },
      λ sent. l.1 (subst (λ (b : Book). Leads messages d user b.log_sent end.0) (sym same) (sent.windows, sent.chain)),
    )

-- ---- where it ends

pub not_sent : (messages : List Message) (d user : Name) (log : Log) (what : Note) (sent : Bool)
    → TellsSent messages d log user what sent → sent ≡ false → SentEnds messages d log user what None
unfolding TellsSent SentEnds
not_sent messages d user log what sent h never = λ rs g r b. let surely : sent ≡ true = (h rs g).1 b.sent in absurd (cc)

sent_at : (messages : List Message) (d user : Name) (rs : List Recorded) (what : Note) (end : Option ℕ) → WasSent messages d rs user what
    → EndsOne (StandsNoted (state_of d rs) (end_of rs) user what) (end_of rs) end → EndsOne (MayBeSent messages d rs user what) (end_of rs) end
sent_at messages d user rs what None was none = λ r b. none r b.stands
sent_at messages d user rs what (Some end) was one = (one.0, record { sent = was; stands = one.1 }, one.2)

pub sent_ends : (messages : List Message) (d user : Name) (log : Log) (what : Note) (sent : Bool) (end : Option ℕ)
    → TellsSent messages d log user what sent → sent ≡ true → NoteEnds d log user what end → SentEnds messages d log user what end
unfolding TellsSent NoteEnds SentEnds
sent_ends messages d user log what sent end h surely one = λ rs g. sent_at messages d user rs what end ((h rs g).0 surely) (one rs g)

-- a note of something else was not sent
pub none_confirmed : (messages : List Message) (d user : Name) (log : Log) (place : Offset) → TellsSent messages d log user (Confirmed place) false
unfolding TellsSent
none_confirmed messages d user log place = λ rs g. (λ (never : false ≡ true). absurd (cc), λ was. absurd was)

pub none_asked : (messages : List Message) (d user : Name) (log : Log) (count : ℕ) (place : Offset) → TellsSent messages d log user (Asked count place) false
unfolding TellsSent
none_asked messages d user log count place = λ rs g. (λ (never : false ≡ true). absurd (cc), λ was. absurd was)

pub none_raised : (messages : List Message) (d user : Name) (log : Log) → TellsSent messages d log user Raised false
unfolding TellsSent
none_raised messages d user log = λ rs g. (λ (never : false ≡ true). absurd (cc), λ was. absurd was)
