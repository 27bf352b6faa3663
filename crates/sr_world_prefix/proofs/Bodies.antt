-- The body of a window whose messages are true: it has the transactions that the sender's history gives there, and no others.
use Rattle.std.proofs.Common.{◌≡◌, ℕ, List, [], ◌∷◌, map, All, refl, sym, ap, subst, ◌∙◌}
use Rattle.std.specs.Prelude.{Bool, true, false, cond, nat_lt, nat_le, ◌&&◌}
use Rattle.std.specs.List.{AllByRecursion, Contains}
use Rattle.std.proofs.lemmas.List.Elements.{All-head, All-tail, All-filter}
use Rattle.sr_base.specs.declared.offset.Offset.{Offset}
use Rattle.sr_book.specs.Entries.{Name}
use Rattle.sr_mail_cut.specs.Bodies.{body_spelling}
use Rattle.sr_mail_cut.specs.Truths.{IsFragmentOf, between}
use Rattle.sr_mail_cut.proofs.Parting.{body_once}
use Rattle.sr_database_history.specs.Fitting.{Stored}
use Rattle.sr_database_history.specs.Recorded.{Recorded}
use Rattle.sr_logform.specs.declared.op.Op.{Op}
use Rattle.sr_logform.specs.declared.op.Transaction.{Transaction}
use Rattle.sr_logform.specs.Ops.{IsTransaction}
use Rattle.sr_mail.specs.Seen.{window_of}
use Rattle.sr_mail.specs.declared.piece.Piece.{Piece}
use Rattle.sr_mail.specs.declared.window.Window.{Window}
use Rattle.sr_mail.proofs.Covered.{assembled_true}
use Rattle.sr_world_model.specs.Windows.{window}
use Rattle.sr_msgform.specs.declared.message.Message.{Message}
use Rattle.sr_receive.specs.Acts.{PassState, CameAgain, IsReadAs}
use Rattle.sr_receive_gather.specs.Fetches.{Pairs}
use Rattle.sr_receive_gather.specs.MessageFiles.{MessageFile}
use Rattle.sr_receive_gather.specs.Windows.{IsRefetched, IsStill, pieces_among}
use Rattle.sr_send.specs.TrueSentMessages.{all_given}
use Rattle.sr_world.specs.Real.{transaction_at, layers, HasSpelling}
use Rattle.sr_world.proofs.Keeping.{given_same}
use Rattle.sr_world_prefix.specs.Truths.{IsTrueInPart}
use Rattle.sr_world_prefix.proofs.Spelled.{given_spelled}

each_transaction : (txs : List (ℕ × List Op)) → All HasSpelling txs → AllByRecursion IsTransaction (map transaction_at txs)
each_transaction [] h = tt
each_transaction (tx ∷ txs) h = (All-head HasSpelling tx txs h, each_transaction txs (All-tail HasSpelling tx txs h))

-- a window of what bodies hold
one_between : (b : Bool) (tx : ℕ × List Op) (ts : List Transaction) (txs : List (ℕ × List Op)) → ts ≡ map transaction_at txs
    → cond b (transaction_at tx ∷ ts) ts ≡ map transaction_at (cond b (tx ∷ txs) txs)
one_between true tx ts txs is = ap (λ (l : List Transaction). transaction_at tx ∷ l) is
one_between false tx ts txs is = is

pub between_is : (prev upto : ℕ) (txs : List (ℕ × List Op)) → between prev upto (map transaction_at txs) ≡ map transaction_at (window prev upto txs)
between_is prev upto [] = refl
between_is prev upto (tx ∷ txs) =
    one_between (nat_lt prev tx.0 && nat_le tx.0 upto) tx (between prev upto (map transaction_at txs)) (window prev upto txs) (between_is prev upto txs)

module _ (publisher user : Name) (us : List Recorded) where
  -- what the user's history gives this database in a window
  abbrev pub given_in : ℕ → ℕ → List (ℕ × List Op)
  given_in prev upto = window prev upto (layers.given user publisher us)

  -- a message that was fetched again is true, where the user sent it
  abbrev pub IsTruePair : Piece × Message → Type 0
  IsTruePair pair = pair.1.from ≡ user → IsTrueInPart user us pair.1

  -- it is a fragment of its window's body
  fragment : (w : Window) (piece : Piece) (m : Message) → window_of piece ≡ w → IsStill publisher user (piece, m) → IsTrueInPart user us m
      → IsFragmentOf (layers.encode (given_in w.prev w.upto)) m
  fragment w piece m is still t =
      let begins : m.prev.0 ≡ w.prev = ap (λ (o : Offset). o.0) still.own.prev ∙ ap (λ (v : Window). v.prev) is in
      let ends : m.upto.0 ≡ w.upto = ap (λ (o : Offset). o.0) still.own.upto ∙ ap (λ (v : Window). v.upto) is in
      let same : between m.prev.0 m.upto.0 (all_given user us m.to) ≡ map transaction_at (given_in w.prev w.upto)
      = ap (λ (low : ℕ). between low m.upto.0 (all_given user us m.to)) begins
      ∙ ap (λ (high : ℕ). between w.prev high (all_given user us m.to)) ends
      ∙ ap (λ (name : Name). between w.prev w.upto (all_given user us name)) still.to
      ∙ ap (λ (txs : List (ℕ × List Op)). between w.prev w.upto (map transaction_at txs)) (sym (given_same user publisher us))
      ∙ between_is w.prev w.upto (layers.given user publisher us) in
      subst (λ (ts : List Transaction). IsFragmentOf (body_spelling ts) m) same t.carries.part

  fragments : (w : Window) (message_files : List MessageFile) (pairs : Pairs) → AllByRecursion (λ p. (window_of p ≡ w) × Contains (pieces_among message_files w) p) (map (λ p. p.0) pairs)
      → AllByRecursion (IsRefetched publisher user) pairs → AllByRecursion IsTruePair pairs
      → AllByRecursion (λ p. IsFragmentOf (layers.encode (given_in w.prev w.upto)) p.1) pairs
  fragments w message_files [] own still hold = tt
  fragments w message_files (p ∷ pairs) own still hold = (
    fragment w p.0 p.1 own.0.0 still.0.1 (hold.0 still.0.1.from),
    fragments w message_files pairs own.1 still.1 hold.1,
  )

  -- what is read of the body of a window that came again are the transactions that are given there
  pub read_given : (message_files : List MessageFile) (s : PassState) (w : Window) (pairs : Pairs) (txs : List Transaction) → Stored user us
      → CameAgain publisher user message_files s w pairs → IsReadAs pairs w txs → AllByRecursion IsTruePair pairs → txs ≡ map transaction_at (given_in w.prev w.upto)
  read_given message_files s w pairs txs stored came read hold =
      let body : read.bytes ≡ layers.encode (given_in w.prev w.upto)
      = assembled_true (layers.encode (given_in w.prev w.upto)) pairs read.bytes (fragments w message_files pairs came.due.own came.still hold)
      (λ (none : pairs ≡ []). came.due.filled (ap (λ (ps : Pairs). map (λ p. p.0) ps) none)) read.assembled in
      body_once txs (map transaction_at (given_in w.prev w.upto)) read.spell.0.body.each
      (each_transaction (given_in w.prev w.upto) (All-filter _ HasSpelling (layers.given user publisher us) (given_spelled user publisher us stored)))
      (sym read.spell.1 ∙ body)
