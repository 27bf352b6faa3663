-- What a pass puts is true of the history that it is made on, where the books are in order there; and it stays so behind the notes of what was sent.
use Rattle.std.proofs.Common.{◌≡◌, ℕ, ◌+◌, ◌≤◌, List, [], ◌∷◌, ◌++◌, map, length, take, drop, refl, sym, ap, subst, ◌∙◌, inl, inr, arith, le_refl}
use Rattle.std.proofs.lemmas.List.{length-map}
use Rattle.std.specs.Prelude.{Bool, true, false, cond, nat_lt, nat_le, ◌&&◌, ◌⊎◌}
use Rattle.std.specs.List.{AllByRecursion}
use Rattle.sr_base.specs.Values.{offset_from}
use Rattle.sr_base.specs.declared.offset.Offset.{Offset}
use Rattle.sr_book.specs.Entries.{Name, booked}
use Rattle.sr_book.specs.Histories.{taken_end}
use Rattle.sr_book.specs.Rising.{offsets, top}
use Rattle.sr_book.specs.declared.book.Book.{Book}
use Rattle.sr_book.specs.declared.note.Note.TheVariants.{Sent}
use Rattle.sr_book.proofs.Folds.{book_more, book_received, name_test}
use Rattle.sr_mail_cut.specs.Bodies.{RisesPast, body_spelling, last_at}
use Rattle.sr_mail_cut.specs.Cuts.{AreCut, Parcel, all_messages, messages_from, messages_of, transactions_of}
use Rattle.sr_mail_cut.specs.Truths.{between}
use Rattle.sr_mail_cut.specs.Truths as cut
use Rattle.sr_mail_cut.specs.declared.head.Head.{Head}
use Rattle.sr_mail_cut.proofs.Lists.{AllByRecursion-append}
use Rattle.sr_mail_cut.proofs.Rising.{RisesPast-back, last_at-append, le-last}
use Rattle.sr_database_history.specs.Folds.{books_of, end_of, sees}
use Rattle.sr_database_history.specs.Recorded.{Recorded, note}
use Rattle.sr_logform.specs.declared.op.Op.{Op}
use Rattle.sr_logform.specs.declared.op.Transaction.{Transaction}
use Rattle.sr_world_model.specs.Truth.{IsTrueOf, members}
use Rattle.sr_world_model.specs.Windows.{window}
use Rattle.sr_world_model.specs.Worlds.{IsInOrder}
use Rattle.sr_msgform.specs.declared.message.Message.{Message}
use Rattle.sr_scan.specs.Given.{given_of}
use Rattle.sr_send.specs.PutFiles.{AreMessages, IsDue, head_of}
use Rattle.sr_send.specs.Passes.{AreAll, sent_end, waiting}
use Rattle.sr_send.specs.TrueSentMessages.{all_given}
use Rattle.sr_send.specs.Inner.TrueSentMessages.{IsTrueSentMessage}
use Rattle.sr_send.specs.Unsent.{as_transaction, unsent}
use Rattle.sr_send.proofs.Endings.{due_case}
use Rattle.sr_send.proofs.TrueSentMessages.{all_true}
use Rattle.sr_send.proofs.Truths.{unsent_rises}
use Rattle.sr_world.specs.Real.{layers}
use Rattle.sr_world.proofs.Keeping.{end_same, given_same}
use Rattle.sr_world_prefix.proofs.Along.{Steps, along_last, steps_along}
use Rattle.sr_world_prefix.proofs.InOrder.{step_in_order}
use Rattle.sr_world_prefix.proofs.Noting.{sent_step}
use Rattle.sr_world_prefix.proofs.Kept.{KeepsSent, same_waiting}
use Rattle.sr_world_prefix.proofs.Putting.{Truth, given_noted, sent_along, taken_noted}
use Rattle.sr_world_prefix.proofs.Steps.{IsRunStep, ends_later}

-- ---- no window ends behind the last

abbrev EndsBy : ℕ → Message → Type 0
EndsBy bound m = m.upto.0 ≤ bound

ends_from : (head : Head) (bound : ℕ) (prev upto : Offset) (total start : ℕ) (fs : List (List ℕ)) → upto.0 ≤ bound → AllByRecursion (EndsBy bound) (messages_from head prev upto total start fs)
ends_from head bound prev upto total start [] within = tt
ends_from head bound prev upto total start (f ∷ fs) within = (within, ends_from head bound prev upto total (start + length f) fs within)

ends_all : (head : Head) (bound : ℕ) (prev : Offset) (ps : List Parcel) → RisesPast prev.0 (transactions_of ps) → (last_at prev (transactions_of ps)).0 ≤ bound
    → AllByRecursion (EndsBy bound) (all_messages head prev ps)
ends_all head bound prev [] rises within = tt
ends_all head bound prev (p ∷ ps) rises within =
    let upto : Offset = last_at prev p.transactions in
    let back = RisesPast-back prev p.transactions (transactions_of ps) rises in
    let last : (last_at upto (transactions_of ps)).0 ≤ bound = subst (λ (o : Offset). o.0 ≤ bound) (last_at-append prev p.transactions (transactions_of ps)) within in
    AllByRecursion-append (EndsBy bound) (messages_of head prev p) (all_messages head upto ps)
    (ends_from head bound prev upto (length (body_spelling p.transactions)) 0 p.fragments (omega (arith, last, le-last upto (transactions_of ps) back)))
    (ends_all head bound upto ps back last)

alone_ends : (head : Head) (book : Book) (ask : Bool) (limit bound : ℕ) (pass : List Message) → AreMessages head book ask limit [] pass → IsDue book ask [] ⊎ (IsDue book ask [] → ⊥) → book.log_sent ≤ bound
    → AllByRecursion (EndsBy bound) pass
alone_ends head book ask limit bound pass are (inl due) within = subst (λ (ms : List Message). AllByRecursion (EndsBy bound) ms) (sym (are.due due)) (within, tt)
alone_ends head book ask limit bound pass are (inr undue) within = subst (λ (ms : List Message). AllByRecursion (EndsBy bound) ms) (sym (are.none undue)) tt

pub pass_ends : (head : Head) (book : Book) (ask : Bool) (limit bound : ℕ) (ts : List Transaction) (pass : List Message) → RisesPast book.log_sent ts → AreMessages head book ask limit ts pass
    → (last_at (offset_from book.log_sent) ts).0 ≤ bound → AllByRecursion (λ m. m.upto.0 ≤ bound) pass
pass_ends head book ask limit bound [] pass rises are within = alone_ends head book ask limit bound pass are (due_case book ask) within
pass_ends head book ask limit bound (t ∷ ts) pass rises are within =
    let made : AreCut head (offset_from book.log_sent) (t ∷ ts) limit pass = are.due tt in
    subst (λ (ms : List Message). AllByRecursion (EndsBy bound) ms) (sym made.sent)
    (ends_all head bound (offset_from book.log_sent) made.parcels (subst (λ (l : List Transaction). RisesPast book.log_sent l) (sym made.covered) rises)
    (subst (λ (l : List Transaction). (last_at (offset_from book.log_sent) l).0 ≤ bound) (sym made.covered) within))

-- ---- windows of transactions, as bodies hold them

window_case : (b : Bool) (tx : ℕ × List Op) (ts : List Transaction) (txs : List (ℕ × List Op)) → ts ≡ map as_transaction txs → cond b (as_transaction tx ∷ ts) ts ≡ map as_transaction (cond b (tx ∷ txs) txs)
window_case true tx ts txs same = ap (λ (l : List Transaction). as_transaction tx ∷ l) same
window_case false tx ts txs same = same

window_same : (prev upto : ℕ) (txs : List (ℕ × List Op)) → between prev upto (map as_transaction txs) ≡ map as_transaction (window prev upto txs)
window_same prev upto [] = refl
window_same prev upto (tx ∷ txs) = window_case (nat_lt prev tx.0 && nat_le tx.0 upto) tx (between prev upto (map as_transaction txs)) (window prev upto txs) (window_same prev upto txs)

last_same : (prev : Offset) (txs : List (ℕ × List Op)) → (last_at prev (map as_transaction txs)).0 ≡ top prev.0 (offsets txs)
last_same prev [] = refl
last_same prev (tx ∷ txs) = last_same (offset_from tx.0) txs

asked_most : (ask : Bool) (n : ℕ) → cond ask n 0 ≤ n
asked_most true n = le_refl n
asked_most false n = omega arith

-- ---- each message is true

one_true : (publisher : Name) (es : List Recorded) (user : Name) (ask : Bool) (m : Message) → IsTrueSentMessage publisher es user (books_of user es) ask m → m.upto.0 ≤ end_of es → IsTrueOf layers publisher es m
one_true publisher es user ask m t stands =
    let txs : List (ℕ × List Op) = given_of publisher es m.to in
    let carries : cut.IsTrueOf (all_given publisher es m.to) m = subst (λ (n : Name). cut.IsTrueOf (all_given publisher es n) m) (sym t.to_is) t.carries in
    let same : members layers publisher es m ≡ window m.prev.0 m.upto.0 txs = ap (window m.prev.0 m.upto.0) (given_same publisher m.to es) in
    let them : between m.prev.0 m.upto.0 (map as_transaction txs) ≡ map as_transaction (window m.prev.0 m.upto.0 txs) = window_same m.prev.0 m.upto.0 txs in
    let body : body_spelling (between m.prev.0 m.upto.0 (map as_transaction txs)) ≡ layers.encode (members layers publisher es m)
    = ap body_spelling them ∙ sym (ap layers.encode same) in
    let count : length (members layers publisher es m) ≡ length (between m.prev.0 m.upto.0 (map as_transaction txs))
    = ap length same ∙ sym (length-map (window m.prev.0 m.upto.0 txs) as_transaction) ∙ ap length (sym them) in
    let book : Book = books_of user es in
    let received : book.log_received ≡ taken_end sees user es = book_received sees user es in
    record {
      sent_by = t.from_is;
      ends_at = ap (λ (l : List (ℕ × List Op)). top m.prev.0 (offsets l)) same ∙ sym (last_same m.prev (window m.prev.0 m.upto.0 txs))
          ∙ ap (λ (l : List Transaction). (last_at m.prev l).0) (sym them) ∙ ap (λ (o : Offset). o.0) carries.ends;
      stands = subst (λ (n : ℕ). m.upto.0 ≤ n) (sym (end_same es)) stands;
      total = carries.part.total ∙ ap length body;
      fragment = carries.part.fragment ∙ ap (λ (b : List ℕ). take (length m.fragment) (drop m.start b)) body;
      whole = λ two. carries.whole (subst (λ (n : ℕ). 2 ≤ n) count two) ∙ body;
      confirm = subst (λ (n : Name). m.confirm.0 ≤ taken_end sees n es) (sym t.to_is) (omega (arith, t.confirms, received));
      ask_offset = subst (λ (n : Name). m.ask_offset.0 ≤ taken_end sees n es) (sym t.to_is) (omega (arith, t.asks_past, asked_most ask book.log_received, received));
      ask_count = subst (λ (n : Name). m.ask_count ≤ (books_of n es).rereceive_count) (sym t.to_is) (omega (arith, t.asks, asked_most ask book.rereceive_count));
      resend_count = subst (λ (n : Name). m.resend_count ≤ (books_of n es).resend_count) (sym t.to_is) (omega (arith, t.resend));
    }

each_true : (publisher : Name) (es : List Recorded) (user : Name) (ask : Bool) (messages : List Message) → AllByRecursion (IsTrueSentMessage publisher es user (books_of user es) ask) messages
    → AllByRecursion (λ m. m.upto.0 ≤ end_of es) messages → AllByRecursion (IsTrueOf layers publisher es) messages
each_true publisher es user ask [] hold ends = tt
each_true publisher es user ask (m ∷ messages) hold ends = (one_true publisher es user ask m hold.0 ends.0, each_true publisher es user ask messages hold.1 ends.1)

-- all is sent up to within the history, where what was sent lies within it
end_within : (base : ℕ) (publisher : Name) (es : List Recorded) (user : Name) → (books_of user es).log_sent ≤ end_of es → (sent_end base publisher es user (books_of user es)).0 ≤ end_of es
end_within base publisher es user within = let goes = sent_step publisher base es user 0 in omega (arith, within, goes.1)

pub all_said : (base : ℕ) (publisher : Name) (es : List Recorded) (user : Name) (ask : Bool) (limit : ℕ) (messages : List Message) → KeepsSent publisher base es → (books_of user es).log_sent ≤ end_of es
    → AreAll base publisher es user (books_of user es) ask limit messages → AllByRecursion (IsTrueOf layers publisher es) messages
all_said base publisher es user ask limit messages keeps within are =
    let book : Book = books_of user es in
    let sent : List Transaction = unsent publisher es user book.log_sent in
    let same : waiting base publisher es user book ≡ sent = same_waiting publisher base es user keeps in
    each_true publisher es user ask messages (all_true base publisher es user book ask limit messages same are)
    (pass_ends (head_of publisher user book ask) book ask limit (end_of es) sent messages (unsent_rises publisher user es book.log_sent)
    (subst (λ (ts : List Transaction). AreMessages (head_of publisher user book ask) book ask limit ts messages) same are)
    (subst (λ (ts : List Transaction). (last_at (offset_from book.log_sent) ts).0 ≤ end_of es) same (end_within base publisher es user within)))

-- ---- books in order on the way

-- the book of every user is in order
abbrev pub AreInOrder : List Recorded → Type 0
AreInOrder es = (user : Name) → IsInOrder layers user es

pub steps_in_order : (publisher : Name) (es rs : List Recorded) → AreInOrder es → Steps (IsRunStep publisher) es rs → AreInOrder (es ++ rs)
steps_in_order publisher es rs old steps =
    along_last AreInOrder es rs (steps_along (IsRunStep publisher) AreInOrder (λ qs r before is user. step_in_order user qs (before user) publisher r is) es rs old steps)

pub sent_within : (es : List Recorded) (user : Name) → AreInOrder es → (books_of user es).log_sent ≤ end_of es
sent_within es user old = subst (λ (n : ℕ). (books_of user es).log_sent ≤ n) (end_same es) (old user).sent_stands

-- ---- a note of what was sent changes nothing of it

module _ (publisher : Name) (es : List Recorded) (whose : Name) (end : Offset) (count : ℕ) (confirm : Offset) where
  abbrev sent_more : List Recorded
  sent_more = es ++ note whose (Sent end count confirm) ∷ []

  members_still : (m : Message) → members layers publisher es m ≡ members layers publisher sent_more m
  members_still m =
      ap (window m.prev.0 m.upto.0)
      (given_same publisher m.to es ∙ sym (given_noted publisher m.to es whose (Sent end count confirm)) ∙ sym (given_same publisher m.to sent_more))

  -- the counts of asks in a user's book are as they were
  booked_counts : (user : Name) (book : Book) → ((booked user book (sees (note whose (Sent end count confirm)))).rereceive_count ≡ book.rereceive_count)
      × ((booked user book (sees (note whose (Sent end count confirm)))).resend_count ≡ book.resend_count)
  booked_counts user book = elim (name_test user whose) [ inl t ↦ rw t.0 (refl, refl) | inr t ↦ rw t (refl, refl) ]

  raised_still : (user : Name) → (books_of user sent_more).rereceive_count ≡ (books_of user es).rereceive_count
  raised_still user = ap (λ (b : Book). b.rereceive_count) (book_more sees user es (note whose (Sent end count confirm))) ∙ (booked_counts user (books_of user es)).0

  resent_still : (user : Name) → (books_of user sent_more).resend_count ≡ (books_of user es).resend_count
  resent_still user = ap (λ (b : Book). b.resend_count) (book_more sees user es (note whose (Sent end count confirm))) ∙ (booked_counts user (books_of user es)).1

  whole_noted : (m : Message) → IsTrueOf layers publisher es m → IsTrueOf layers publisher sent_more m
  whole_noted m t =
      let same : members layers publisher es m ≡ members layers publisher sent_more m = members_still m in
      record {
        sent_by = t.sent_by;
        ends_at = subst (λ (l : List (ℕ × List Op)). top m.prev.0 (offsets l) ≡ m.upto.0) same t.ends_at;
        stands = omega (arith, t.stands, end_same es, end_same sent_more, ends_later es (note whose (Sent end count confirm) ∷ []));
        total = t.total ∙ ap (λ (l : List (ℕ × List Op)). length (layers.encode l)) same;
        fragment = t.fragment ∙ ap (λ (l : List (ℕ × List Op)). take (length m.fragment) (drop m.start (layers.encode l))) same;
        whole = λ two. t.whole (subst (λ (l : List (ℕ × List Op)). 2 ≤ length l) (sym same) two) ∙ ap layers.encode same;
        confirm = subst (λ (n : ℕ). m.confirm.0 ≤ n) (sym (taken_noted m.to es whose (Sent end count confirm))) t.confirm;
        ask_offset = subst (λ (n : ℕ). m.ask_offset.0 ≤ n) (sym (taken_noted m.to es whose (Sent end count confirm))) t.ask_offset;
        ask_count = subst (λ (n : ℕ). m.ask_count ≤ n) (sym (raised_still m.to)) t.ask_count;
        resend_count = subst (λ (n : ℕ). m.resend_count ≤ n) (sym (resent_still m.to)) t.resend_count;
      }

-- on histories in which every book is in order, and of which the log keeps what was not sent
pub record IsFine (publisher : Name) (base : ℕ) (es : List Recorded) : Type 0 where
  pub books : AreInOrder es
  pub keeps : KeepsSent publisher base es

pub fine_along : (publisher : Name) (base : ℕ) (es rs : List Recorded) → IsFine publisher base es → Steps (IsRunStep publisher) es rs → IsFine publisher base (es ++ rs)
fine_along publisher base es rs fine steps = record { books = steps_in_order publisher es rs fine.books steps; keeps = sent_along publisher base es rs fine.keeps steps }

pub whole_truth : (base : ℕ) (publisher : Name) → Truth base publisher (IsTrueOf layers publisher) (IsFine publisher base)
whole_truth base publisher = record {
  said = λ es whose ask limit messages fine are. all_said base publisher es whose ask limit messages fine.keeps (sent_within es whose fine.books) are;
  noted = λ es whose end count confirm m t. whole_noted publisher es whose end count confirm m t;
  stepped = λ es rs fine steps. fine_along publisher base es rs fine steps;
}
