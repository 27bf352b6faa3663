-- There is a cut.
use Rattle.std.proofs.Common.{◌≡◌, ℕ, zero, suc, ◌-◌, ◌<◌, ◌≤◌, inl, inr, List, [], ◌∷◌, ◌++◌, length, take, drop, ap, ◌∙◌, arith}
use Rattle.std.specs.List.{concat}
use Rattle.std.proofs.lemmas.Bool.{cases_lt}
use Rattle.std.proofs.lemmas.List.{length-take, length-drop, take-append-drop, append-nil}
use Rattle.sr_base.specs.declared.offset.Offset.{Offset}
use Rattle.sr_logform.specs.declared.op.Transaction.{Transaction}
use Rattle.sr_logform.specs.Ops.{transaction_spelling}
use Rattle.sr_mail_cut.specs.declared.head.Head.{Head}
use Rattle.sr_mail_cut.specs.Cuts.{file_length, AreFragments, messages_from, AreCut, Cutting, HasGiven}
use Rattle.sr_mail_cut.specs.Inner.Cuts.{messages_held}
use Rattle.sr_mail_cut.proofs.Giving.{begins, closes, holds, sends, joins, finishes}
use Rattle.sr_mail_cut.proofs.Parting.{long_enough}
use Rattle.sr_mail_cut.proofs.Lists.{by_one_more}
use Rattle.sr_msgform.specs.declared.message.Message.{Message}

module _ (head : Head) (limit : ℕ) where
  -- a fragment of exactly what a message holds, before others
  pub one_fragment_more : (f : List ℕ) (fs : List (List ℕ)) → file_length head (length f) ≡ limit → AreFragments head limit fs → AreFragments head limit (f ∷ fs)
  one_fragment_more f [] full parts = absurd parts
  one_fragment_more f (g ∷ fs) full parts = (full, parts)

  -- bytes, parted into fragments of so many
  parted : (fuel room : ℕ) → 0 < room → file_length head room ≡ limit → (bytes : List ℕ) → 0 < length bytes → length bytes ≤ fuel → (fs : List (List ℕ)) × AreFragments head limit fs × (concat fs ≡ bytes)
  parted zero room some fills bytes any most = absurd (omega arith)
  parted (suc fuel) room some fills bytes any most = elim (cases_lt room (length bytes)) [
    | inl long ↦
        let prefix : length (take room bytes) ≡ room = omega (arith, length-take room bytes) in
        let back : length (drop room bytes) ≡ length bytes - room = length-drop room bytes in
        let rest = parted fuel room some fills (drop room bytes) (omega (arith, back)) (omega (arith, back)) in
        (take room bytes ∷ rest.0, one_fragment_more (take room bytes) rest.0 (omega (arith, prefix, fills)) rest.1, ap (λ (b : List ℕ). take room bytes ++ b) rest.2 ∙ take-append-drop room bytes)
    | inr short ↦ (bytes ∷ [], (λ e. let size = ap length e in absurd (omega (arith, size)), omega (arith, fills)), append-nil bytes)
  ]

  -- what a cutter of this head and limit gives, so far
  HasSome : Offset → List Transaction → Type 0
  HasSome first pushed = (prev : Offset) × (upto : Offset) × (body : List ℕ) × (messages : List Message) × HasGiven (record { head = head; limit = limit; prev = prev; upto = upto; body = body }) first pushed messages

  one_more : file_length head 1 ≤ limit → (first : Offset) (pushed : List Transaction) (next : Transaction) → HasSome first pushed → HasSome first (pushed ++ next ∷ [])
  unfolding HasSome
  one_more room first pushed next some =
      let prev = some.0 in
      let upto = some.1 in
      let body = some.2 in
      let c : Cutting = record { head = head; limit = limit; prev = prev; upto = upto; body = body } in
      elim (cases_lt limit (file_length head (length (body ++ transaction_spelling next)))) [
        | inr fits ↦ (prev, next.at, body ++ transaction_spelling next, some.3, joins c first pushed some.3 next some.4 fits)
        | inl over ↦
            let closed = closes c first pushed some.3 next some.4 over in
            let sent : List Message = some.3 ++ messages_held head prev upto body in
            elim (cases_lt limit (file_length head (length (transaction_spelling next)))) [
              | inr short ↦ (upto, next.at, transaction_spelling next, sent, holds head limit first pushed sent upto next closed short)
              | inl long ↦
                  let parts = parted (length (transaction_spelling next)) (limit - file_length head 0) (omega arith) (omega arith) (transaction_spelling next) (omega (arith, long_enough next)) (omega arith) in (
                    next.at,
                    next.at,
                    [],
                    sent ++ messages_from head upto next.at (length (transaction_spelling next)) 0 parts.0,
                    sends head limit first pushed sent upto next parts.0 closed parts.1 parts.2 long,
                  )
            ]
      ]

  pub cut_there : file_length head 1 ≤ limit → (prev : Offset) (transactions : List Transaction) → (messages : List Message) × AreCut head prev transactions limit messages
  unfolding HasSome
  cut_there room prev transactions =
      let some = by_one_more (HasSome prev) (prev, prev, [], [], begins head limit prev) (one_more room prev) transactions in
      let c : Cutting = record { head = head; limit = limit; prev = some.0; upto = some.1; body = some.2 } in
      (some.3 ++ messages_held head some.0 some.1 some.2, finishes c prev transactions some.3 some.4)
