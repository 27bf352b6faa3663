-- What the messages of a cut keep, and what they are true of.
use Rattle.std.proofs.Common.{◌≡◌, ℕ, ◌+◌, ◌<◌, ◌≤◌, Bool, true, false, cond, ◌&&◌, nat_lt, nat_le, Option, Some, None, List, [], ◌∷◌, ◌++◌, length, take, drop, refl, sym, ap, ap₂, ◌∙◌, arith, append_assoc, subst}
use Rattle.std.specs.List.{concat, AllByRecursion}
use Rattle.std.proofs.lemmas.Bool.{ltb-false}
use Rattle.std.proofs.lemmas.List.{length-append, append-nil, take_at, drop_at}
use Rattle.std.proofs.lemmas.List.Elements.{filter-append}
use Rattle.sr_base.specs.declared.offset.Offset.{Offset}
use Rattle.sr_logform.specs.declared.op.Transaction.{Transaction}
use Rattle.sr_logform.specs.Ops.{transaction_spelling}
use Rattle.sr_mail_cut.specs.declared.head.Head.{Head}
use Rattle.sr_mail_cut.specs.Bodies.{body_spelling, RisesPast, last_at, first_long}
use Rattle.sr_logform.specs.Limits.{longest_transaction}
use Rattle.sr_mail_cut.specs.Cuts.{carrying, file_length, Parcel, IsParcel, AreFragments, transactions_of, messages_from, messages_of, all_messages, AreCut}
use Rattle.sr_mail_cut.specs.Truths.{between, IsTrueOf}
use Rattle.sr_mail_cut.proofs.Parting.{filled}
use Rattle.sr_mail_cut.proofs.Lists.{AllByRecursion-append}
use Rattle.sr_mail_cut.proofs.Rising.{last_at-append, RisesPast-prefix, RisesPast-back, lt-last, le-last}
use Rattle.sr_msgform.specs.declared.message.Message.{Message}
use Rattle.sr_msgform.specs.Messages.{KeepsRules, message_length}

before_test : (prev upto x : ℕ) → x ≤ prev → (nat_lt prev x && nat_le x upto) ≡ false
before_test prev upto x le = grind arith

behind_test : (prev upto x : ℕ) → upto < x → (nat_lt prev x && nat_le x upto) ≡ false
behind_test prev upto x lt = grind arith

within_test : (prev upto x : ℕ) → prev < x → x ≤ upto → (nat_lt prev x && nat_le x upto) ≡ true
within_test prev upto x lt le = grind arith

-- where the first is not too long
not_past : (b : Bool) (n : ℕ) (rest : Option ℕ) → (cond b (Some n) rest) ≡ None → (b ≡ false) × (rest ≡ None)
not_past true n rest e = absurd cc
not_past false n rest e = (refl, e)

not_long : (t : Transaction) (ts : List Transaction) → first_long (t ∷ ts) ≡ None → (length (transaction_spelling t) ≤ 67108864) × (first_long ts ≡ None)
not_long t ts e =
    let both = not_past (nat_lt longest_transaction (length (transaction_spelling t))) (length (transaction_spelling t)) (first_long ts) e in
    (ltb-false longest_transaction (length (transaction_spelling t)) both.0, both.1)

goes_past : (prev : Offset) (ts : List Transaction) → ¬ (ts ≡ []) → RisesPast prev.0 ts → prev.0 < (last_at prev ts).0
goes_past prev [] some rises = absurd (some refl)
goes_past prev (t ∷ ts) some rises = lt-last prev t ts rises

-- no transaction of a prefix is too long where none is
first_long-parts : (xs ys : List Transaction) → first_long (xs ++ ys) ≡ None → (first_long xs ≡ None) × (first_long ys ≡ None)
first_long-parts [] ys e = (refl, e)
first_long-parts (x ∷ xs) ys e =
    let both = not_past (nat_lt longest_transaction (length (transaction_spelling x))) (length (transaction_spelling x)) (first_long (xs ++ ys)) e in
    let parts = first_long-parts xs ys both.1 in
    (rw both.0 parts.0, parts.1)

module _ (head : Head) (limit : ℕ) where
  -- a message has room for a byte
  one_byte : (fs : List (List ℕ)) → AreFragments head limit fs → file_length head 1 ≤ limit
  one_byte [] parts = absurd parts
  one_byte (f ∷ []) parts = omega (arith, filled f parts.0, parts.1)
  one_byte (f ∷ g ∷ fs) parts = one_byte (g ∷ fs) parts.1

  Keeps : Message → Type 0
  Keeps m = KeepsRules m × (message_length m ≤ limit)

  keeps : (prev upto : Offset) (total start : ℕ) (f : List ℕ) → (head.ask_count ≡ 0 → head.ask_offset.0 ≡ 0) → prev.0 < upto.0 → total ≤ 67108864 → 1 ≤ length f → file_length head (length f) ≤ limit → start + length f ≤ total → Keeps (carrying head prev upto total start f)
  unfolding Keeps
  keeps prev upto total start f ask goes_on short some small within = (
    record {
      window = record { goes_on = omega arith; short = short; empty = ((λ e. absurd (omega (arith, e))), (λ e. absurd (omega (arith, e)))) };
      part = record { within = within; empty = ((λ e. absurd (omega (arith, e))), (λ e. absurd (omega (arith, e)))) };
      ask = ask;
    },
    small,
  )

  keep_from : (prev upto : Offset) (total start : ℕ) (fs : List (List ℕ)) → (head.ask_count ≡ 0 → head.ask_offset.0 ≡ 0) → prev.0 < upto.0 → total ≤ 67108864 → AreFragments head limit fs → start + length (concat fs) ≤ total → AllByRecursion Keeps (messages_from head prev upto total start fs)
  keep_from prev upto total start [] ask goes_on short parts within = absurd parts
  keep_from prev upto total start (f ∷ []) ask goes_on short parts within =
      (keeps prev upto total start f ask goes_on short (filled f parts.0) parts.1 (omega (arith, within, length-append f [])), tt)
  keep_from prev upto total start (f ∷ g ∷ fs) ask goes_on short parts within =
      let one = one_byte (g ∷ fs) parts.1 in
      let size = length-append f (concat (g ∷ fs)) in (
        keeps prev upto total start f ask goes_on short (omega (arith, one, parts.0)) (omega (arith, parts.0)) (omega (arith, within, size)),
        keep_from prev upto total (start + length f) (g ∷ fs) ask goes_on short parts.1 (omega (arith, within, size)),
      )

  -- a window's body is no longer than one transaction may be
  body_short : limit ≤ 2097152 → (ts : List Transaction) (fs : List (List ℕ)) → AreFragments head limit fs → concat fs ≡ body_spelling ts → (2 ≤ length fs → length ts ≡ 1) → first_long ts ≡ None → length (body_spelling ts) ≤ 67108864
  body_short most ts [] parts body single fits = absurd parts
  body_short most ts (f ∷ []) parts body single fits = omega (arith, ap length body, length-append f [], parts.1)
  body_short most [] (f ∷ g ∷ fs) parts body single fits = omega arith
  body_short most (t ∷ []) (f ∷ g ∷ fs) parts body single fits = omega (arith, length-append (transaction_spelling t) [], (not_long t [] fits).0)
  body_short most (t ∷ u ∷ ts) (f ∷ g ∷ fs) parts body single fits = absurd (let one = single (omega arith) in omega (arith, one))

  pub keep_all : limit ≤ 2097152 → (head.ask_count ≡ 0 → head.ask_offset.0 ≡ 0) → (prev : Offset) (ps : List Parcel) → AllByRecursion (IsParcel head limit) ps → RisesPast prev.0 (transactions_of ps) → first_long (transactions_of ps) ≡ None → AllByRecursion (λ m. KeepsRules m × (message_length m ≤ limit)) (all_messages head prev ps)
  unfolding Keeps
  keep_all most ask prev [] are rises fits = tt
  keep_all most ask prev (p ∷ ps) are rises fits =
      let parts = first_long-parts p.transactions (transactions_of ps) fits in
      let prefix = RisesPast-prefix prev.0 p.transactions (transactions_of ps) rises in
      let back = RisesPast-back prev p.transactions (transactions_of ps) rises in
      let last : Offset = last_at prev p.transactions in
      let on : prev.0 < last.0 = goes_past prev p.transactions are.0.filled prefix in
      AllByRecursion-append (λ m. KeepsRules m × (message_length m ≤ limit)) (messages_of head prev p) (all_messages head last ps)
      (keep_from prev last (length (body_spelling p.transactions)) 0 p.fragments ask on (body_short most p.transactions p.fragments are.0.parts are.0.body are.0.single parts.0) are.0.parts (omega (arith, ap length are.0.body)))
      (keep_all most ask last ps are.1 back parts.1)

-- ---- what a window has of transactions

none_before : (low : Offset) (xs : List Transaction) (prev upto : ℕ) → RisesPast low.0 xs → (last_at low xs).0 ≤ prev → between prev upto xs ≡ []
none_before low [] prev upto rises ends = refl
none_before low (x ∷ xs) prev upto rises ends =
    let on = le-last x.at xs rises.1 in
    rw (before_test prev upto x.at.0 (omega (arith, on, ends))) (none_before x.at xs prev upto rises.1 ends)

none_behind : (low : Offset) (xs : List Transaction) (prev upto : ℕ) → RisesPast low.0 xs → upto ≤ low.0 → between prev upto xs ≡ []
none_behind low [] prev upto rises le = refl
none_behind low (x ∷ xs) prev upto rises le =
    rw (behind_test prev upto x.at.0 (omega (arith, rises.0))) (none_behind x.at xs prev upto rises.1 (omega (arith, rises.0)))

all_within : (low : Offset) (xs : List Transaction) (prev upto : ℕ) → RisesPast low.0 xs → prev ≤ low.0 → (last_at low xs).0 ≤ upto → between prev upto xs ≡ xs
all_within low [] prev upto rises le ends = refl
all_within low (x ∷ xs) prev upto rises le ends =
    let on = le-last x.at xs rises.1 in
    rw (within_test prev upto x.at.0 (omega (arith, rises.0)) (omega (arith, on, ends))) (ap (λ (ts : List Transaction). x ∷ ts) (all_within x.at xs prev upto rises.1 (omega (arith, rises.0)) ends))

-- a window from the end of what stands before to its own end has its transactions
between_is : (first : Offset) (before ts behind : List Transaction) → RisesPast first.0 (before ++ (ts ++ behind)) →
    between (last_at first before).0 (last_at (last_at first before) ts).0 (before ++ (ts ++ behind)) ≡ ts
between_is first before ts behind rises =
    let prev : Offset = last_at first before in
    let upto : Offset = last_at prev ts in
    let back = RisesPast-back first before (ts ++ behind) rises in
    let parted = filter-append (λ t. nat_lt prev.0 t.at.0 && nat_le t.at.0 upto.0) before (ts ++ behind) in
    let parted' = filter-append (λ t. nat_lt prev.0 t.at.0 && nat_le t.at.0 upto.0) ts behind in
    let a = none_before first before prev.0 upto.0 (RisesPast-prefix first.0 before (ts ++ behind) rises) (omega arith) in
    let b = all_within prev ts prev.0 upto.0 (RisesPast-prefix prev.0 ts behind back) (omega arith) (omega arith) in
    let c = none_behind upto behind prev.0 upto.0 (RisesPast-back prev ts behind back) (omega arith) in
    parted ∙ ap₂ (λ (x y : List Transaction). x ++ y) a (parted' ∙ ap₂ (λ (x y : List Transaction). x ++ y) b c ∙ append-nil ts)

all_of : (prefix f : List ℕ) (fs : List (List ℕ)) (body : List ℕ) → (prefix ≡ []) × (length (f ∷ fs) ≤ 1) → body ≡ prefix ++ (f ++ concat fs) → f ≡ body
all_of [] f [] body single e = sym (e ∙ append-nil f)
all_of [] f (g ∷ fs) body single e = absurd (omega (arith, single.1))
all_of (b ∷ prefix) f fs body single e = absurd (let none = single.0 in cc)

-- a fragment of a window is true
true_part : (head : Head) (all ts : List Transaction) (prev upto : Offset) (prefix f : List ℕ) (fs : List (List ℕ)) → between prev.0 upto.0 all ≡ ts → last_at prev ts ≡ upto →
    (2 ≤ length ts → (prefix ≡ []) × (length (f ∷ fs) ≤ 1)) → body_spelling ts ≡ prefix ++ (f ++ concat fs) → IsTrueOf all (carrying head prev upto (length (body_spelling ts)) (length prefix) f)
true_part head all ts prev upto prefix f fs members ends single body =
    let whole = ap body_spelling members in
    let at : drop (length prefix) (body_spelling ts) ≡ f ++ concat fs = ap (drop (length prefix)) body ∙ drop_at prefix (f ++ concat fs) (length prefix) refl in
    let here : f ≡ take (length f) (drop (length prefix) (body_spelling ts)) = sym (ap (take (length f)) at ∙ take_at f (concat fs) (length f) refl) in
    record {
      part = record { total = ap length (sym whole); fragment = here ∙ ap (λ (b : List ℕ). take (length f) (drop (length prefix) b)) (sym whole) };
      ends = ap (last_at prev) members ∙ ends;
      whole = λ two. all_of prefix f fs (body_spelling ts) (single (subst (λ (l : List Transaction). 2 ≤ length l) members two)) body ∙ sym whole;
    }

-- the fragments of a window, from a place on
true_from : (head : Head) (all ts : List Transaction) (prev upto : Offset) (prefix : List ℕ) (fs : List (List ℕ)) → between prev.0 upto.0 all ≡ ts → last_at prev ts ≡ upto →
    (2 ≤ length ts → (prefix ≡ []) × (length fs ≤ 1)) → body_spelling ts ≡ prefix ++ concat fs → AllByRecursion (IsTrueOf all) (messages_from head prev upto (length (body_spelling ts)) (length prefix) fs)
true_from head all ts prev upto prefix [] members ends single body = tt
true_from head all ts prev upto prefix (f ∷ []) members ends single body = (true_part head all ts prev upto prefix f [] members ends single body, tt)
true_from head all ts prev upto prefix (f ∷ g ∷ fs) members ends single body =
    let rest = true_from head all ts prev upto (prefix ++ f) (g ∷ fs) members ends
    (λ two. let s = single two in absurd (omega (arith, s.1))) (body ∙ sym (append_assoc prefix f (concat (g ∷ fs)))) in (
      true_part head all ts prev upto prefix f (g ∷ fs) members ends single body,
      subst (λ (n : ℕ). AllByRecursion (IsTrueOf all) (messages_from head prev upto (length (body_spelling ts)) n (g ∷ fs))) (length-append prefix f) rest,
    )

-- two transactions or more are one fragment
one_fragment : (fs : List (List ℕ)) (ts : List Transaction) → (2 ≤ length fs → length ts ≡ 1) → 2 ≤ length ts → length fs ≤ 1
one_fragment [] ts single two = omega arith
one_fragment (f ∷ []) ts single two = omega arith
one_fragment (f ∷ g ∷ fs) ts single two = absurd (let one = single (omega arith) in omega (arith, one))

true_all : (head : Head) (limit : ℕ) (first : Offset) (all before : List Transaction) (ps : List Parcel) → AllByRecursion (IsParcel head limit) ps → all ≡ before ++ transactions_of ps → RisesPast first.0 all →
    AllByRecursion (IsTrueOf all) (all_messages head (last_at first before) ps)
true_all head limit first all before [] are is rises = tt
true_all head limit first all before (p ∷ ps) are is rises =
    let prev : Offset = last_at first before in
    let ts = p.transactions in
    let members : between prev.0 (last_at prev ts).0 all ≡ ts =
    ap (between prev.0 (last_at prev ts).0) is ∙ between_is first before ts (transactions_of ps) (subst (RisesPast first.0) is rises) in
    let here = true_from head all ts prev (last_at prev ts) [] p.fragments members refl (λ two. (refl, one_fragment p.fragments ts are.0.single two)) (sym are.0.body) in
    let rest = true_all head limit first all (before ++ ts) ps are.1 (is ∙ sym (append_assoc before ts (transactions_of ps))) rises in
    AllByRecursion-append (IsTrueOf all) (messages_of head prev p) (all_messages head (last_at prev ts) ps) here
    (subst (λ (o : Offset). AllByRecursion (IsTrueOf all) (all_messages head o ps)) (last_at-append first before ts) rest)

pub cut_true : (head : Head) (prev : Offset) (transactions : List Transaction) (limit : ℕ) (messages : List Message) → RisesPast prev.0 transactions → AreCut head prev transactions limit messages → AllByRecursion (IsTrueOf transactions) messages
cut_true head prev transactions limit messages rises cut =
    subst (AllByRecursion (IsTrueOf transactions)) (sym cut.sent) (true_all head limit prev transactions [] cut.parcels cut.windows (sym cut.covered) rises)

pub cut_keeps : (head : Head) (prev : Offset) (transactions : List Transaction) (limit : ℕ) (messages : List Message) → (head.ask_count ≡ 0 → head.ask_offset.0 ≡ 0) → limit ≤ 2097152 → RisesPast prev.0 transactions → first_long transactions ≡ None →
    AreCut head prev transactions limit messages → AllByRecursion (λ m. KeepsRules m × (message_length m ≤ limit)) messages
cut_keeps head prev transactions limit messages ask most rises fits cut =
    subst (AllByRecursion (λ m. KeepsRules m × (message_length m ≤ limit))) (sym cut.sent)
    (keep_all head limit most ask prev cut.parcels cut.windows (subst (RisesPast prev.0) (sym cut.covered) rises) (ap first_long cut.covered ∙ fits))
