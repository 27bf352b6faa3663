-- What a cutter has made: it begins the one cut of a prefix of what was pushed.
use Rattle.std.proofs.Common.{◌≡◌, ℕ, ◌≤◌, List, [], ◌∷◌, ◌++◌, length, Option, Some, None, refl, sym, ap, subst, ◌∙◌, arith, append_assoc}
use Rattle.std.specs.Prelude.{cond, nat_lt, true, false, Bool}
use Rattle.std.specs.List.{AllByRecursion}
use Rattle.std.proofs.lemmas.List.{append-nil}
use Rattle.sr_base.specs.declared.offset.Offset.{Offset}
use Rattle.sr_mail_cut.specs.Bodies.{RisesPast, last_at, first_long}
use Rattle.sr_logform.specs.Limits.{longest_transaction}
use Rattle.sr_mail_cut.specs.Cuts.{Cutting, HasGiven, AreCut, IsFull, AreFull, Parcel, IsParcel, transactions_of, all_messages, file_length, bodyless}
use Rattle.sr_mail_cut.specs.declared.head.Head.{Head}
use Rattle.sr_mail_cut.proofs.Existing.{cut_there}
use Rattle.sr_mail_cut.proofs.Giving.{AreFull-first, transactions-append, messages-append}
use Rattle.sr_mail_cut.proofs.Items.{long-behind}
use Rattle.sr_mail_cut.proofs.Lists.{AllByRecursion-append, AllByRecursion-back, AllByRecursion-map}
use Rattle.sr_mail_cut.proofs.Rising.{RisesPast-prefix}
use Rattle.sr_mail_cut.proofs.Truth.{cut_keeps}
use Rattle.sr_logform.specs.Ops.{transaction_spelling}
use Rattle.sr_logform.specs.declared.op.Transaction.{Transaction}
use Rattle.sr_msgform.specs.Messages.{KeepsRules, message_length}
use Rattle.sr_msgform.specs.declared.message.Message.{Message}
use Rattle.sr_send.specs.Inner.Aims.{IsAim, HasMade, IsCutPrefix}
use Rattle.sr_send.specs.declared.aim.Aim.{Aim}
use Rattle.sr_send.specs.declared.post.Post.{Post}
use Rattle.sr_send.proofs.Numbers.{MayBePut}

-- ---- what is full stays so where nothing follows

full_alone : (head : Head) (limit : ℕ) (ts others : List Transaction) (x : Transaction) → IsFull head limit ts (others ++ x ∷ []) → IsFull head limit ts (others ++ [])
full_alone head limit ts [] x full = tt
full_alone head limit ts (t ∷ others) x full = full

prefix_alone : (head : Head) (limit : ℕ) (ps : List Parcel) (x : Transaction) → AreFull head limit ps (x ∷ []) → AreFull head limit ps []
prefix_alone head limit [] x full = tt
prefix_alone head limit (p ∷ ps) x full = (full_alone head limit p.transactions (transactions_of ps) x full.0, prefix_alone head limit ps x full.1)

nothing_follows : (head : Head) (limit : ℕ) (ps : List Parcel) (held : List Transaction) → ((next : Transaction) → AreFull head limit ps (held ++ next ∷ [])) → AreFull head limit ps []
nothing_follows head limit ps [] full =
    let any : Transaction = record { at = record { 0 = 0 }; ops = [] } in
    prefix_alone head limit ps any (full any)
nothing_follows head limit ps (x ∷ held) full = prefix_alone head limit ps x (AreFull-first head limit ps x (held ++ x ∷ []) [] (full x))

-- ---- the prefix

-- whatever comes after what is held
full_behind : (head : Head) (limit : ℕ) (ps : List Parcel) (held rest : List Transaction) → ((next : Transaction) → AreFull head limit ps (held ++ next ∷ [])) → AreFull head limit ps (held ++ rest)
full_behind head limit ps [] [] full = nothing_follows head limit ps [] full
full_behind head limit ps [] (r ∷ rest) full = AreFull-first head limit ps r [] rest (full r)
full_behind head limit ps (x ∷ held) rest full = AreFull-first head limit ps x (held ++ x ∷ []) (held ++ rest) (full x)

-- windows after others
joined_full : (head : Head) (limit : ℕ) (ps qs : List Parcel) → AreFull head limit ps (transactions_of qs) → AreFull head limit qs [] → AreFull head limit (ps ++ qs) []
joined_full head limit [] qs full last = last
joined_full head limit (p ∷ ps) qs full last =
    let same : transactions_of (ps ++ qs) ++ [] ≡ transactions_of ps ++ transactions_of qs = append-nil (transactions_of (ps ++ qs)) ∙ transactions-append ps qs in
    (subst (IsFull head limit p.transactions) (sym same) full.0, joined_full head limit ps qs full.1 last)

-- what was given begins the cut of the transactions, whatever comes after these
goes_on : (cutter : Cutting) (first : Offset) (pushed rest : List Transaction) (messages : List Message) → file_length cutter.head 1 ≤ cutter.limit → HasGiven cutter first pushed messages
    → (left : List Message) × AreCut cutter.head first (pushed ++ rest) cutter.limit (messages ++ left)
goes_on cutter first pushed rest messages room given =
    let ps : List Parcel = given.parcels in
    let more = cut_there cutter.head cutter.limit room (last_at first (transactions_of ps)) (given.held ++ rest) in
    let qs : List Parcel = more.1.parcels in
    let all : transactions_of (ps ++ qs) ≡ pushed ++ rest =
    transactions-append ps qs
    ∙ ap (λ (ts : List Transaction). transactions_of ps ++ ts) more.1.covered
    ∙ sym (append_assoc (transactions_of ps) given.held rest)
    ∙ ap (λ (ts : List Transaction). ts ++ rest) (sym given.covered) in
    let full : AreFull cutter.head cutter.limit ps (transactions_of qs) =
    subst (AreFull cutter.head cutter.limit ps) (sym more.1.covered) (full_behind cutter.head cutter.limit ps given.held rest given.full) in (
      more.0,
      record {
        parcels = ps ++ qs;
        windows = AllByRecursion-append (IsParcel cutter.head cutter.limit) ps qs given.windows more.1.windows;
        full = joined_full cutter.head cutter.limit ps qs full more.1.full;
        covered = all;
        sent =
            ap (λ (ms : List Message). ms ++ more.0) given.sent
            ∙ ap (λ (ms : List Message). all_messages cutter.head first ps ++ ms) more.1.sent
            ∙ sym (messages-append cutter.head first ps qs);
      },
    )

-- what was given is the cut of the transactions that are not held
given_cut : (cutter : Cutting) (first : Offset) (pushed : List Transaction) (messages : List Message) (given : HasGiven cutter first pushed messages)
    → AreCut cutter.head first (transactions_of given.parcels) cutter.limit messages
given_cut cutter first pushed messages given = record {
  parcels = given.parcels;
  windows = given.windows;
  full = nothing_follows cutter.head cutter.limit given.parcels given.held given.full;
  covered = refl;
  sent = given.sent;
}

pub cut_along : (head head' : Head) (limit limit' : ℕ) (prev : Offset) (ts : List Transaction) (messages : List Message) → head ≡ head' → limit ≡ limit' → AreCut head prev ts limit messages → AreCut head' prev ts limit' messages
cut_along head head' limit limit' prev ts messages same short cut =
    subst (λ (n : ℕ). AreCut head' prev ts n messages) short (subst (λ (h : Head). AreCut h prev ts limit messages) same cut)

-- a message has room for a byte
pub has_room : (aim : Aim) → IsAim aim → file_length aim.head 1 ≤ aim.limit
has_room aim good = omega (arith, good.names, good.least)

room_along : (aim : Aim) (cutter : Cutting) → IsAim aim → cutter.head ≡ aim.head → cutter.limit ≡ aim.limit → file_length cutter.head 1 ≤ cutter.limit
room_along aim cutter good head_is limit_is =
    subst (λ (n : ℕ). file_length cutter.head 1 ≤ n) (sym limit_is) (subst (λ (h : Head). file_length h 1 ≤ aim.limit) (sym head_is) (has_room aim good))

pub given_prefix : (aim : Aim) (cutter : Cutting) (pushed : List Transaction) (messages left : List Message) → IsAim aim → cutter.head ≡ aim.head → cutter.limit ≡ aim.limit
    → HasGiven cutter aim.prev pushed (messages ++ left) → IsCutPrefix aim pushed messages
given_prefix aim cutter pushed messages left good head_is limit_is given = record {
  begins = λ rest.
      let more = goes_on cutter aim.prev pushed rest (messages ++ left) (room_along aim cutter good head_is limit_is) given in (
        left ++ more.0,
        subst (λ (ms : List Message). AreCut aim.head aim.prev (pushed ++ rest) aim.limit ms) (append_assoc messages left more.0)
            (cut_along cutter.head aim.head cutter.limit aim.limit aim.prev (pushed ++ rest) ((messages ++ left) ++ more.0) head_is limit_is more.1),
      );
}

pub made_prefix : (aim : Aim) (post : Post) (pushed : List Transaction) (messages : List Message) → IsAim aim → HasMade aim post pushed messages → IsCutPrefix aim pushed (messages ++ [])
made_prefix aim post pushed messages good made =
    subst (λ (ms : List Message). IsCutPrefix aim pushed ms) (sym (append-nil messages))
    (given_prefix aim post.cutter pushed messages [] good made.head_is made.limit_is
    (subst (λ (ms : List Message). HasGiven post.cutter aim.prev pushed ms) (sym (append-nil messages)) made.given))

-- it is one of more transactions too
pub prefix_more : (aim : Aim) (pushed added : List Transaction) (messages : List Message) → IsCutPrefix aim pushed messages → IsCutPrefix aim (pushed ++ added) messages
prefix_more aim pushed added messages prefix = record {
  begins = λ rest.
      let more = prefix.begins (added ++ rest) in
      (more.0, subst (λ (ts : List Transaction). AreCut aim.head aim.prev ts aim.limit (messages ++ more.0)) (sym (append_assoc pushed added rest)) more.1);
}

-- ---- encodings that are too long

long_case : (b : Bool) (n : ℕ) (rest : Option ℕ) → cond b (Some n) rest ≡ None → (b ≡ false) × (rest ≡ None)
long_case true n rest e = absurd cc
long_case false n rest e = (refl, e)

pub none_long : (xs ys : List Transaction) → first_long (xs ++ ys) ≡ None → first_long xs ≡ None
none_long [] ys e = refl
none_long (x ∷ xs) ys e =
    let both = long_case (nat_lt longest_transaction (length (transaction_spelling x))) (length (transaction_spelling x)) (first_long (xs ++ ys)) e in
    rw both.0 (none_long xs ys both.1)

some_case : (b : Bool) (n size : ℕ) (rest more : Option ℕ) → (rest ≡ Some size → more ≡ Some size) → cond b (Some n) rest ≡ Some size → cond b (Some n) more ≡ Some size
some_case true n size rest more on e = e
some_case false n size rest more on e = on e

pub still_long : (xs ys : List Transaction) (size : ℕ) → first_long xs ≡ Some size → first_long (xs ++ ys) ≡ Some size
still_long [] ys size e = absurd cc
still_long (x ∷ xs) ys size e =
    some_case (nat_lt longest_transaction (length (transaction_spelling x))) (length (transaction_spelling x)) size (first_long xs) (first_long (xs ++ ys)) (still_long xs ys size) e

not_long : (n : ℕ) → n ≤ longest_transaction → cond (nat_lt longest_transaction n) (Some n) None ≡ None
not_long n le =
    let no : nat_lt longest_transaction n ≡ false = grind arith in
    rw no refl

pub fits_more : (pushed : List Transaction) (t : Transaction) → first_long pushed ≡ None → length (transaction_spelling t) ≤ longest_transaction → first_long (pushed ++ t ∷ []) ≡ None
fits_more pushed t fits short = long-behind pushed (t ∷ []) fits ∙ not_long (length (transaction_spelling t)) short

-- ---- the rules of messages

wider : (limit : ℕ) (ms : List Message) → limit ≤ 1048576 → AllByRecursion (λ m. KeepsRules m × (message_length m ≤ limit)) ms → AllByRecursion MayBePut ms
wider limit ms most all = AllByRecursion-map (λ m. KeepsRules m × (message_length m ≤ limit)) MayBePut ms (λ m keeps. (keeps.0, omega (arith, keeps.1, most))) all

-- the messages of a cut may be put
pub cut_may : (aim : Aim) (ts : List Transaction) (earlier messages : List Message) → IsAim aim → RisesPast aim.prev.0 ts → first_long ts ≡ None → AreCut aim.head aim.prev ts aim.limit (earlier ++ messages)
    → AllByRecursion MayBePut messages
cut_may aim ts earlier messages good rises fits cut =
    AllByRecursion-back MayBePut earlier messages
    (wider aim.limit (earlier ++ messages) good.most (cut_keeps aim.head aim.prev ts aim.limit (earlier ++ messages) good.ask (omega (arith, good.most)) rises fits cut))

-- so may those that begin one
pub prefix_may : (aim : Aim) (cutter : Cutting) (pushed : List Transaction) (earlier messages : List Message) → IsAim aim → cutter.head ≡ aim.head → cutter.limit ≡ aim.limit → RisesPast aim.prev.0 pushed → first_long pushed ≡ None
    → HasGiven cutter aim.prev pushed (earlier ++ messages) → AllByRecursion MayBePut messages
prefix_may aim cutter pushed earlier messages good head_is limit_is rises fits given =
    cut_may aim (transactions_of given.parcels) earlier messages good
    (RisesPast-prefix aim.prev.0 (transactions_of given.parcels) given.held (subst (RisesPast aim.prev.0) given.covered rises))
    (none_long (transactions_of given.parcels) given.held (ap first_long (sym given.covered) ∙ fits))
    (cut_along cutter.head aim.head cutter.limit aim.limit aim.prev (transactions_of given.parcels) (earlier ++ messages) head_is limit_is (given_cut cutter aim.prev pushed (earlier ++ messages) given))

-- the message without a body may be put
pub bodyless_may : (aim : Aim) (messages : List Message) → IsAim aim → messages ≡ bodyless aim.head aim.prev ∷ [] → AllByRecursion MayBePut messages
bodyless_may aim messages good is =
    let rules : KeepsRules (bodyless aim.head aim.prev) = record {
      window = record { goes_on = omega arith; short = omega arith; empty = (λ e. refl, λ e. refl) };
      part = record { within = omega arith; empty = (λ e. refl, λ e. refl) };
      ask = good.ask;
    } in
    let named : file_length aim.head 0 ≤ 227 = good.names in
    let short : message_length (bodyless aim.head aim.prev) ≤ 2097152 = omega (arith, named) in
    subst (AllByRecursion MayBePut) (sym is) ((rules, short), tt)
