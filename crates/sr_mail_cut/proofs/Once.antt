-- There is one cut at most.
use Rattle.std.proofs.Common.{◌≡◌, ℕ, ◌+◌, ◌<◌, ◌≤◌, inl, inr, List, [], ◌∷◌, ◌++◌, length, refl, sym, ap, ap₂, ◌∙◌, arith, subst}
use Rattle.std.specs.List.{concat, AllByRecursion}
use Rattle.std.proofs.lemmas.List.{length-append, append-nil}
use Rattle.sr_base.specs.declared.offset.Offset.{Offset}
use Rattle.sr_logform.specs.declared.op.Transaction.{Transaction}
use Rattle.sr_logform.specs.Ops.{transaction_spelling}
use Rattle.sr_mail_cut.specs.declared.head.Head.{Head}
use Rattle.sr_mail_cut.specs.Bodies.{body_spelling}
use Rattle.sr_mail_cut.specs.Cuts.{file_length, Parcel, IsParcel, AreFragments, transactions_of, IsFull, AreFull, all_messages, AreCut}
use Rattle.sr_mail_cut.proofs.Parting.{body-append, filled, fragments_once}
use Rattle.sr_mail_cut.proofs.Lists.{longer_prefix, same_parts, three_ways}
use Rattle.sr_msgform.specs.declared.message.Message.{Message}

module _ (head : Head) (limit : ℕ) where
  fits_of : (fs : List (List ℕ)) (ts : List Transaction) → AreFragments head limit fs → concat fs ≡ body_spelling ts → (2 ≤ length fs → length ts ≡ 1) → 2 ≤ length ts → file_length head (length (body_spelling ts)) ≤ limit
  fits_of [] ts parts body single two = absurd parts
  fits_of (f ∷ []) ts parts body single two =
      let size = ap length body in
      omega (arith, size, length-append f [], parts.1)
  fits_of (f ∷ g ∷ fs) ts parts body single two = absurd (let one = single (omega arith) in omega (arith, one))

  -- a window of several transactions fits a message
  pub fits : (p : Parcel) → IsParcel head limit p → 2 ≤ length p.transactions → file_length head (length (body_spelling p.transactions)) ≤ limit
  fits p is two = fits_of p.fragments p.transactions is.parts is.body is.single two

  -- the first of two windows of one series of transactions is not the longer one
  not_longer : (a b : List Transaction) (ps : List Transaction) (q : Parcel) → ¬ (a ≡ []) → IsFull head limit a ps → IsParcel head limit q →
      length a < length q.transactions → a ++ ps ≡ q.transactions ++ b → ⊥
  not_longer a b ps q some full is longer e =
      let more = longer_prefix a ps q.transactions b longer e in
      let next : IsFull head limit a (more.0 ∷ (more.1 ++ b)) = subst (IsFull head limit a) more.3 full in
      let count : length q.transactions ≡ length a + length (more.0 ∷ more.1) = ap length more.2 ∙ length-append a (more.0 ∷ more.1) in
      let two : 2 ≤ length q.transactions = omega (arith, count, filled a some) in
      let small = fits q is two in
      let body : body_spelling q.transactions ≡ body_spelling a ++ (transaction_spelling more.0 ++ body_spelling more.1) = ap body_spelling more.2 ∙ body-append a (more.0 ∷ more.1) in
      let size = ap length body in
      omega (arith, small, size, next, length-append (body_spelling a) (transaction_spelling more.0 ++ body_spelling more.1), length-append (transaction_spelling more.0) (body_spelling more.1), length-append (body_spelling a) (transaction_spelling more.0))

  same_parcel : (p q : Parcel) → IsParcel head limit p → IsParcel head limit q → p.transactions ≡ q.transactions → p ≡ q
  same_parcel p q is other e =
      let parts = fragments_once head limit p.fragments q.fragments is.parts other.parts (is.body ∙ ap body_spelling e ∙ sym other.body) in
      ap₂ (λ (ts : List Transaction) (fs : List (List ℕ)). record { transactions = ts; fragments = fs }) e parts

  pub parcels_once : (ps qs : List Parcel) → AllByRecursion (IsParcel head limit) ps → AllByRecursion (IsParcel head limit) qs → AreFull head limit ps [] → AreFull head limit qs [] → transactions_of ps ≡ transactions_of qs → ps ≡ qs
  parcels_once [] [] is other full full' e = refl
  parcels_once [] (q ∷ qs) is other full full' e = absurd (let size = ap length e in omega (arith, size, length-append q.transactions (transactions_of qs), filled q.transactions other.0.filled))
  parcels_once (p ∷ ps) [] is other full full' e = absurd (let size = ap length e in omega (arith, size, length-append p.transactions (transactions_of ps), filled p.transactions is.0.filled))
  parcels_once (p ∷ ps) (q ∷ qs) is other full full' e = elim (three_ways (length p.transactions) (length q.transactions)) [
    | inl shorter ↦ absurd (not_longer p.transactions (transactions_of qs) (transactions_of ps) q is.0.filled (subst (IsFull head limit p.transactions) (append-nil (transactions_of ps)) full.0) other.0 shorter e)
    | inr (inl same) ↦
        let both = same_parts p.transactions (transactions_of ps) q.transactions (transactions_of qs) same e in
        ap₂ (λ (x : Parcel) (xs : List Parcel). x ∷ xs) (same_parcel p q is.0 other.0 both.0) (parcels_once ps qs is.1 other.1 full.1 full'.1 both.1)
    | inr (inr longer) ↦ absurd (not_longer q.transactions (transactions_of ps) (transactions_of qs) p other.0.filled (subst (IsFull head limit q.transactions) (append-nil (transactions_of qs)) full'.0) is.0 longer (sym e))
  ]

pub cut_once : (head : Head) (prev : Offset) (transactions : List Transaction) (limit : ℕ) (one other : List Message) → AreCut head prev transactions limit one → AreCut head prev transactions limit other → one ≡ other
cut_once head prev transactions limit one other a b =
    let same = parcels_once head limit a.parcels b.parcels a.windows b.windows a.full b.full (a.covered ∙ sym b.covered) in
    a.sent ∙ ap (all_messages head prev) same ∙ sym b.sent
