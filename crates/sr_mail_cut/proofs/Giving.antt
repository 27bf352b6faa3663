-- What a cutter has given, one transaction later.
use Rattle.std.proofs.Common.{◌≡◌, ℕ, ◌+◌, ◌<◌, ◌≤◌, List, [], ◌∷◌, ◌++◌, length, refl, sym, ap, ap₂, ◌∙◌, arith, append_assoc, subst}
use Rattle.std.specs.List.{concat, AllByRecursion}
use Rattle.std.proofs.lemmas.List.{length-append, append-nil}
use Rattle.std.proofs.lemmas.List.Concat.{flat_map-append}
use Rattle.sr_base.specs.declared.offset.Offset.{Offset}
use Rattle.sr_logform.specs.declared.op.Transaction.{Transaction}
use Rattle.sr_logform.specs.Ops.{transaction_spelling}
use Rattle.sr_mail_cut.specs.declared.head.Head.{Head}
use Rattle.sr_mail_cut.specs.Bodies.{body_spelling, last_at}
use Rattle.sr_mail_cut.specs.Cuts.{carrying, file_length, Parcel, IsParcel, AreFragments, transactions_of, IsFull, AreFull, messages_from, messages_of, all_messages, AreCut, Cutting, HasGiven}
use Rattle.sr_mail_cut.specs.Inner.Cuts.{messages_held}
use Rattle.sr_mail_cut.proofs.Parting.{body-append, body-filled}
use Rattle.sr_mail_cut.proofs.Lists.{AllByRecursion-append}
use Rattle.sr_mail_cut.proofs.Rising.{last_at-append}
use Rattle.sr_msgform.specs.declared.message.Message.{Message}

pub transactions-append : (ps qs : List Parcel) → transactions_of (ps ++ qs) ≡ transactions_of ps ++ transactions_of qs
transactions-append ps qs = flat_map-append (λ (p : Parcel). p.transactions) ps qs

pub messages-append : (head : Head) (prev : Offset) (ps qs : List Parcel) → all_messages head prev (ps ++ qs) ≡ all_messages head prev ps ++ all_messages head (last_at prev (transactions_of ps)) qs
messages-append head prev [] qs = refl
messages-append head prev (p ∷ ps) qs =
    let at : last_at prev (p.transactions ++ transactions_of ps) ≡ last_at (last_at prev p.transactions) (transactions_of ps) = last_at-append prev p.transactions (transactions_of ps) in
    let rest = messages-append head (last_at prev p.transactions) ps qs in
    ap (λ (ms : List Message). messages_of head prev p ++ ms) rest
    ∙ sym (append_assoc (messages_of head prev p) (all_messages head (last_at prev p.transactions) ps) (all_messages head (last_at (last_at prev p.transactions) (transactions_of ps)) qs))
    ∙ ap (λ (o : Offset). messages_of head prev p ++ all_messages head (last_at prev p.transactions) ps ++ all_messages head o qs) (sym at)

module _ (head : Head) (limit : ℕ) where
  -- only the first transaction behind a window counts
  IsFull-first : (ts prefix : List Transaction) (x : Transaction) (a b : List Transaction) → IsFull head limit ts (prefix ++ x ∷ a) → IsFull head limit ts (prefix ++ x ∷ b)
  IsFull-first ts [] x a b h = h
  IsFull-first ts (y ∷ prefix) x a b h = h

  pub AreFull-first : (ps : List Parcel) (x : Transaction) (a b : List Transaction) → AreFull head limit ps (x ∷ a) → AreFull head limit ps (x ∷ b)
  AreFull-first [] x a b h = tt
  AreFull-first (p ∷ ps) x a b h = (IsFull-first p.transactions (transactions_of ps) x a b h.0, AreFull-first ps x a b h.1)

  pub AreFull-more : (ps : List Parcel) (p : Parcel) (behind : List Transaction) → AreFull head limit ps (p.transactions ++ behind) → IsFull head limit p.transactions behind → AreFull head limit (ps ++ p ∷ []) behind
  AreFull-more [] p behind h full = (full, tt)
  AreFull-more (q ∷ ps) p behind h full =
      let last : transactions_of (p ∷ []) ≡ p.transactions = append-nil p.transactions in
      let same : transactions_of (ps ++ p ∷ []) ++ behind ≡ transactions_of ps ++ (p.transactions ++ behind) =
      ap (λ (ts : List Transaction). ts ++ behind) (transactions-append ps (p ∷ []) ∙ ap (λ (ts : List Transaction). transactions_of ps ++ ts) last)
      ∙ append_assoc (transactions_of ps) p.transactions behind in
      (subst (IsFull head limit q.transactions) (sym same) h.0, AreFull-more ps p behind h.1 full)

-- all that a cutter held was sent, before transactions of which the first did not fit
pub record HasClosed (head : Head) (limit : ℕ) (first : Offset) (pushed : List Transaction) (messages : List Message) (upto : Offset) (behind : List Transaction) : Type 0 where
  pub parcels : List Parcel
  pub windows : AllByRecursion (IsParcel head limit) parcels
  pub full : AreFull head limit parcels behind
  pub covered : pushed ≡ transactions_of parcels
  pub sent : messages ≡ all_messages head first parcels
  pub ends : upto ≡ last_at first pushed

one_message : (head : Head) (limit : ℕ) (held : List Transaction) (body : List ℕ) → ¬ (held ≡ []) → body ≡ body_spelling held → file_length head (length body) ≤ limit → IsParcel head limit (record { transactions = held; fragments = body ∷ [] })
one_message head limit [] body some is short = absurd (some refl)
one_message head limit (t ∷ ts) body some is short = record {
  filled = some;
  parts = (λ e. let size = ap length e in let whole = ap length is in absurd (omega (arith, size, whole, body-filled t ts)), short);
  body = append-nil body ∙ is;
  single = λ two. absurd (omega arith);
}

held-sent : (head : Head) (prev upto : Offset) (held : List Transaction) (body : List ℕ) → ¬ (held ≡ []) → body ≡ body_spelling held → upto ≡ last_at prev held → messages_held head prev upto body ≡ all_messages head prev (record { transactions = held; fragments = body ∷ [] } ∷ [])
held-sent head prev upto [] body some is ends = absurd (some refl)
held-sent head prev upto (t ∷ ts) [] some is ends = absurd (let size = ap length is in omega (arith, size, body-filled t ts))
held-sent head prev upto (t ∷ ts) (b ∷ body) some is ends =
    ap₂ (λ (o : Offset) (n : ℕ). carrying head prev o n 0 (b ∷ body) ∷ []) ends (ap length is)

closes_of : (c : Cutting) (first : Offset) (pushed : List Transaction) (messages : List Message) (behind : List Transaction) (parcels : List Parcel) (held : List Transaction) →
    AllByRecursion (IsParcel c.head c.limit) parcels → AreFull c.head c.limit parcels (held ++ behind) → pushed ≡ transactions_of parcels ++ held → messages ≡ all_messages c.head first parcels →
    c.prev ≡ last_at first (transactions_of parcels) → c.upto ≡ last_at c.prev held → c.body ≡ body_spelling held → (¬ (held ≡ []) → file_length c.head (length c.body) ≤ c.limit) →
    IsFull c.head c.limit held behind → HasClosed c.head c.limit first pushed (messages ++ messages_held c.head c.prev c.upto c.body) c.upto behind
closes_of c first pushed messages behind parcels [] windows full covered sent begins ends bytes short over =
    let none : messages_held c.head c.prev c.upto c.body ≡ [] = ap (messages_held c.head c.prev c.upto) bytes in
    let all : pushed ≡ transactions_of parcels = covered ∙ append-nil (transactions_of parcels) in
    record {
      parcels = parcels;
      windows = windows;
      full = full;
      covered = all;
      sent = ap (λ (ms : List Message). messages ++ ms) none ∙ append-nil messages ∙ sent;
      ends = ends ∙ begins ∙ ap (last_at first) (sym all);
    }
closes_of c first pushed messages behind parcels (h ∷ hs) windows full covered sent begins ends bytes short over =
    let held : List Transaction = h ∷ hs in
    let p : Parcel = record { transactions = held; fragments = c.body ∷ [] } in
    let some : ¬ (held ≡ []) = λ e. absurd cc in
    let last : transactions_of (p ∷ []) ≡ held = append-nil held in
    let one = held-sent c.head c.prev c.upto held c.body some bytes ends in
    record {
      parcels = parcels ++ p ∷ [];
      windows = AllByRecursion-append (IsParcel c.head c.limit) parcels (p ∷ []) windows (one_message c.head c.limit held c.body some bytes (short some), tt);
      full = AreFull-more c.head c.limit parcels p behind full over;
      covered = covered ∙ sym (transactions-append parcels (p ∷ []) ∙ ap (λ (ts : List Transaction). transactions_of parcels ++ ts) last);
      sent =
          ap₂ (λ (a b : List Message). a ++ b) sent (one ∙ ap (λ (o : Offset). all_messages c.head o (p ∷ [])) begins)
          ∙ sym (messages-append c.head first parcels (p ∷ []));
      ends = ends ∙ ap (λ (o : Offset). last_at o held) begins ∙ sym (last_at-append first (transactions_of parcels) held) ∙ ap (last_at first) (sym covered);
    }

-- what is held is sent in one message, where there is some, before a transaction that does not fit
pub closes : (c : Cutting) (first : Offset) (pushed : List Transaction) (messages : List Message) (next : Transaction) → HasGiven c first pushed messages →
    c.limit < file_length c.head (length (c.body ++ transaction_spelling next)) →
    HasClosed c.head c.limit first pushed (messages ++ messages_held c.head c.prev c.upto c.body) c.upto (next ∷ [])
closes c first pushed messages next given over =
    closes_of c first pushed messages (next ∷ []) given.parcels given.held given.windows (given.full next) given.covered given.sent given.begins given.ends given.bytes given.short
    (subst (λ (b : List ℕ). c.limit < file_length c.head (length (b ++ transaction_spelling next))) given.bytes over)

-- a transaction that is held alone
pub holds : (head : Head) (limit : ℕ) (first : Offset) (pushed : List Transaction) (messages : List Message) (upto : Offset) (next : Transaction) → HasClosed head limit first pushed messages upto (next ∷ []) →
    file_length head (length (transaction_spelling next)) ≤ limit →
    HasGiven (record { head = head; limit = limit; prev = upto; upto = next.at; body = transaction_spelling next }) first (pushed ++ next ∷ []) messages
holds head limit first pushed messages upto next closed short = record {
  parcels = closed.parcels;
  held = next ∷ [];
  windows = closed.windows;
  full = λ later. AreFull-first head limit closed.parcels next [] (later ∷ []) closed.full;
  covered = ap (λ (ts : List Transaction). ts ++ next ∷ []) closed.covered;
  sent = closed.sent;
  begins = closed.ends ∙ ap (last_at first) closed.covered;
  ends = refl;
  bytes = sym (append-nil (transaction_spelling next));
  short = λ some. short;
}

-- a transaction that is sent in fragments
pub sends : (head : Head) (limit : ℕ) (first : Offset) (pushed : List Transaction) (messages : List Message) (upto : Offset) (next : Transaction) (fragments : List (List ℕ)) → HasClosed head limit first pushed messages upto (next ∷ []) →
    AreFragments head limit fragments → concat fragments ≡ transaction_spelling next → limit < file_length head (length (transaction_spelling next)) →
    HasGiven (record { head = head; limit = limit; prev = next.at; upto = next.at; body = [] }) first (pushed ++ next ∷ [])
    (messages ++ messages_from head upto next.at (length (transaction_spelling next)) 0 fragments)
sends head limit first pushed messages upto next fragments closed parts whole long =
    let p : Parcel = record { transactions = next ∷ []; fragments = fragments } in
    let alone : body_spelling (next ∷ []) ≡ transaction_spelling next = append-nil (transaction_spelling next) in
    let all : transactions_of (closed.parcels ++ p ∷ []) ≡ transactions_of closed.parcels ++ next ∷ [] = transactions-append closed.parcels (p ∷ []) in
    let full_alone : (later : Transaction) → IsFull head limit (next ∷ []) (later ∷ []) = λ later.
    omega (arith, long, length-append (body_spelling (next ∷ [])) (transaction_spelling later), ap length alone) in
    let messages_are : messages_from head upto next.at (length (transaction_spelling next)) 0 fragments ≡ all_messages head upto (p ∷ []) =
    ap (λ (n : ℕ). messages_from head upto next.at n 0 fragments) (sym (ap length alone)) ∙ sym (append-nil (messages_from head upto next.at (length (body_spelling (next ∷ []))) 0 fragments)) in
    record {
      parcels = closed.parcels ++ p ∷ [];
      held = [];
      windows = AllByRecursion-append (IsParcel head limit) closed.parcels (p ∷ []) closed.windows
          (record { filled = λ e. absurd cc; parts = parts; body = whole ∙ sym alone; single = λ two. refl }, tt);
      full = λ later. AreFull-more head limit closed.parcels p (later ∷ []) (AreFull-first head limit closed.parcels next [] (later ∷ []) closed.full) (full_alone later);
      covered = ap (λ (ts : List Transaction). ts ++ next ∷ []) closed.covered ∙ sym all ∙ sym (append-nil (transactions_of (closed.parcels ++ p ∷ [])));
      sent =
          ap₂ (λ (a b : List Message). a ++ b) closed.sent (messages_are ∙ ap (λ (o : Offset). all_messages head o (p ∷ [])) (closed.ends ∙ ap (last_at first) closed.covered))
          ∙ sym (messages-append head first closed.parcels (p ∷ []));
      begins = sym (ap (last_at first) all ∙ last_at-append first (transactions_of closed.parcels) (next ∷ []));
      ends = refl;
      bytes = refl;
      short = λ some. absurd (some refl);
    }

joined_full : (head : Head) (limit : ℕ) (ps : List Parcel) (held : List Transaction) (next later : Transaction) → AreFull head limit ps (held ++ next ∷ []) → AreFull head limit ps ((held ++ next ∷ []) ++ later ∷ [])
joined_full head limit ps [] next later h = AreFull-first head limit ps next [] (later ∷ []) h
joined_full head limit ps (x ∷ held) next later h = AreFull-first head limit ps x (held ++ next ∷ []) ((held ++ next ∷ []) ++ later ∷ []) h

-- a transaction that joins what is held
pub joins : (c : Cutting) (first : Offset) (pushed : List Transaction) (messages : List Message) (next : Transaction) → HasGiven c first pushed messages →
    file_length c.head (length (c.body ++ transaction_spelling next)) ≤ c.limit →
    HasGiven (record { head = c.head; limit = c.limit; prev = c.prev; upto = next.at; body = c.body ++ transaction_spelling next }) first (pushed ++ next ∷ []) messages
joins c first pushed messages next given short = record {
  parcels = given.parcels;
  held = given.held ++ next ∷ [];
  windows = given.windows;
  full = λ later. joined_full c.head c.limit given.parcels given.held next later (given.full next);
  covered = ap (λ (ts : List Transaction). ts ++ next ∷ []) given.covered ∙ append_assoc (transactions_of given.parcels) given.held (next ∷ []);
  sent = given.sent;
  begins = given.begins;
  ends = sym (last_at-append c.prev given.held (next ∷ []));
  bytes =
      ap (λ (b : List ℕ). b ++ transaction_spelling next) given.bytes
      ∙ ap (λ (b : List ℕ). body_spelling given.held ++ b) (sym (append-nil (transaction_spelling next)))
      ∙ sym (body-append given.held (next ∷ []));
  short = λ some. short;
}

IsFull-prefix : (head : Head) (limit : ℕ) (ts behind : List Transaction) (x : Transaction) → IsFull head limit ts (behind ++ x ∷ []) → IsFull head limit ts (behind ++ [])
IsFull-prefix head limit ts [] x h = tt
IsFull-prefix head limit ts (y ∷ behind) x h = h

-- nothing comes behind the last window
AreFull-prefix : (head : Head) (limit : ℕ) (ps : List Parcel) (x : Transaction) → AreFull head limit ps (x ∷ []) → AreFull head limit ps []
AreFull-prefix head limit [] x h = tt
AreFull-prefix head limit (p ∷ ps) x h = (IsFull-prefix head limit p.transactions (transactions_of ps) x h.0, AreFull-prefix head limit ps x h.1)

-- what comes behind where nothing more is given
nothing_behind : (head : Head) (limit : ℕ) (ps : List Parcel) (held : List Transaction) → ((next : Transaction) → AreFull head limit ps (held ++ next ∷ [])) → AreFull head limit ps (held ++ [])
nothing_behind head limit ps [] full = let any : Transaction = record { at = record { 0 = 0 }; ops = [] } in AreFull-prefix head limit ps any (full any)
nothing_behind head limit ps (x ∷ held) full = AreFull-first head limit ps x (held ++ x ∷ []) (held ++ []) (full x)

-- what is held ends the cut
pub finishes : (c : Cutting) (first : Offset) (pushed : List Transaction) (messages : List Message) → HasGiven c first pushed messages → AreCut c.head first pushed c.limit (messages ++ messages_held c.head c.prev c.upto c.body)
finishes c first pushed messages given =
    let closed = closes_of c first pushed messages [] given.parcels given.held given.windows (nothing_behind c.head c.limit given.parcels given.held given.full) given.covered given.sent given.begins given.ends given.bytes given.short tt in
    record { parcels = closed.parcels; windows = closed.windows; full = closed.full; covered = sym closed.covered; sent = closed.sent }

pub begins : (head : Head) (limit : ℕ) (prev : Offset) → HasGiven (record { head = head; limit = limit; prev = prev; upto = prev; body = [] }) prev [] []
begins head limit prev = record { parcels = []; held = []; windows = tt; full = λ next. tt; covered = refl; sent = refl; begins = refl; ends = refl; bytes = refl; short = λ some. absurd (some refl) }

-- ---- what a push makes, as a caller meets it

pub pushed_joined : (c after : Cutting) (next : Transaction) (encoded : List ℕ) (made : List Message) → encoded ≡ transaction_spelling next → after ≡ record { head = c.head; limit = c.limit; prev = c.prev; upto = next.at; body = c.body ++ encoded } → made ≡ [] →
    file_length c.head (length c.body + length encoded) ≤ c.limit → (first : Offset) (pushed : List Transaction) (before : List Message) → HasGiven c first pushed before → HasGiven after first (pushed ++ next ∷ []) (before ++ made)
pushed_joined c after next encoded made e f g short first pushed before h =
    let size : length encoded ≡ length (transaction_spelling next) = ap length e in
    let fits : file_length c.head (length (c.body ++ transaction_spelling next)) ≤ c.limit = omega (arith, short, size, length-append c.body (transaction_spelling next)) in
    let same : after ≡ record { head = c.head; limit = c.limit; prev = c.prev; upto = next.at; body = c.body ++ transaction_spelling next } =
    f ∙ ap (λ (b : List ℕ). record { head = c.head; limit = c.limit; prev = c.prev; upto = next.at; body = c.body ++ b }) e in
    let given : before ++ made ≡ before = ap (λ (ms : List Message). before ++ ms) g ∙ append-nil before in
    subst (λ (ms : List Message). HasGiven after first (pushed ++ next ∷ []) ms) (sym given) (subst (λ (x : Cutting). HasGiven x first (pushed ++ next ∷ []) before) (sym same) (joins c first pushed before next h fits))

pub pushed_held : (c after : Cutting) (next : Transaction) (encoded : List ℕ) (made : List Message) → encoded ≡ transaction_spelling next → after ≡ record { head = c.head; limit = c.limit; prev = c.upto; upto = next.at; body = encoded } →
    made ≡ messages_held c.head c.prev c.upto c.body → c.limit < file_length c.head (length c.body + length encoded) → file_length c.head (length encoded) ≤ c.limit →
    (first : Offset) (pushed : List Transaction) (before : List Message) → HasGiven c first pushed before → HasGiven after first (pushed ++ next ∷ []) (before ++ made)
pushed_held c after next encoded made e f g over short first pushed before h =
    let size : length encoded ≡ length (transaction_spelling next) = ap length e in
    let closed = closes c first pushed before next h (omega (arith, over, size, length-append c.body (transaction_spelling next))) in
    let same : after ≡ record { head = c.head; limit = c.limit; prev = c.upto; upto = next.at; body = transaction_spelling next } = f ∙ ap (λ (b : List ℕ). record { head = c.head; limit = c.limit; prev = c.upto; upto = next.at; body = b }) e in
    let one = holds c.head c.limit first pushed (before ++ messages_held c.head c.prev c.upto c.body) c.upto next closed (omega (arith, short, size)) in
    subst (λ (ms : List Message). HasGiven after first (pushed ++ next ∷ []) (before ++ ms)) (sym g) (subst (λ (x : Cutting). HasGiven x first (pushed ++ next ∷ []) (before ++ messages_held c.head c.prev c.upto c.body)) (sym same) one)

pub pushed_sent : (c after : Cutting) (next : Transaction) (encoded : List ℕ) (total : ℕ) (made : List Message) → encoded ≡ transaction_spelling next → total ≡ length encoded → after ≡ record { head = c.head; limit = c.limit; prev = next.at; upto = next.at; body = [] } →
    (fragments : List (List ℕ)) × AreFragments c.head c.limit fragments × (concat fragments ≡ encoded) × (made ≡ messages_held c.head c.prev c.upto c.body ++ messages_from c.head c.upto next.at total 0 fragments) →
    c.limit < file_length c.head (length encoded) →
    (first : Offset) (pushed : List Transaction) (before : List Message) → HasGiven c first pushed before → HasGiven after first (pushed ++ next ∷ []) (before ++ made)
pushed_sent c after next encoded total made e n f g long first pushed before h =
    let size : total ≡ length (transaction_spelling next) = n ∙ ap length e in
    let alone : length encoded ≡ length (transaction_spelling next) = ap length e in
    let closed = closes c first pushed before next h (omega (arith, long, alone, length-append c.body (transaction_spelling next))) in
    let held = messages_held c.head c.prev c.upto c.body in
    let one = sends c.head c.limit first pushed (before ++ held) c.upto next g.0 closed g.1 (g.2 ∙ e) (omega (arith, long, alone)) in
    let given : before ++ made ≡ before ++ held ++ messages_from c.head c.upto next.at (length (transaction_spelling next)) 0 g.0 =
    ap (λ (ms : List Message). before ++ ms) (g.3 ∙ ap (λ (m : ℕ). held ++ messages_from c.head c.upto next.at m 0 g.0) size) ∙ sym (append_assoc before held (messages_from c.head c.upto next.at (length (transaction_spelling next)) 0 g.0)) in
    subst (λ (ms : List Message). HasGiven after first (pushed ++ next ∷ []) ms) (sym given) (subst (λ (x : Cutting). HasGiven x first (pushed ++ next ∷ []) (before ++ held ++ messages_from c.head c.upto next.at (length (transaction_spelling next)) 0 g.0)) (sym f) one)
