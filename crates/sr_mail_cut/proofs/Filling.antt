-- The messages of one window, one after the other.
use Rattle.std.proofs.Common.{◌≡◌, ℕ, ◌+◌, ◌<◌, ◌≤◌, List, [], ◌∷◌, ◌++◌, length, refl, sym, ap, ◌∙◌, arith, append_assoc}
use Rattle.std.specs.List.{concat, AllByRecursion}
use Rattle.std.proofs.lemmas.List.{length-append, append-nil}
use Rattle.std.proofs.lemmas.List.Folds.{concat-append}
use Rattle.sr_base.specs.declared.offset.Offset.{Offset}
use Rattle.sr_mail_cut.specs.declared.head.Head.{Head}
use Rattle.sr_mail_cut.specs.Cuts.{carrying, file_length, AreFragments, messages_from}
use Rattle.sr_msgform.specs.declared.message.Message.{Message}

-- what has been made of the fragments of a body
pub record SoFar (head : Head) (prev upto : Offset) (total : ℕ) (fragments : List (List ℕ)) (before now : List Message) (start : ℕ) (rest : List (List ℕ)) : Type 0 where
  pub done : List (List ℕ)
  pub parts : fragments ≡ done ++ rest
  pub place : start ≡ length (concat done)
  pub sent : now ≡ before ++ messages_from head prev upto total 0 done

pub concat-more : (done : List (List ℕ)) (f : List ℕ) → concat (done ++ f ∷ []) ≡ concat done ++ f
concat-more done f = concat-append done (f ∷ []) ∙ ap (λ (x : List ℕ). concat done ++ x) (append-nil f)

messages-more : (head : Head) (prev upto : Offset) (total start : ℕ) (done : List (List ℕ)) (f : List ℕ) → messages_from head prev upto total start (done ++ f ∷ []) ≡ messages_from head prev upto total start done ++ carrying head prev upto total (start + length (concat done)) f ∷ []
messages-more head prev upto total start [] f = ap (λ (n : ℕ). carrying head prev upto total n f ∷ []) (omega arith)
messages-more head prev upto total start (g ∷ done) f =
    let at : start + length g + length (concat done) ≡ start + length (g ++ concat done) = omega (arith, length-append g (concat done)) in
    ap (λ (ms : List Message). carrying head prev upto total start g ∷ ms) (messages-more head prev upto total (start + length g) done f
    ∙ ap (λ (n : ℕ). messages_from head prev upto total (start + length g) done ++ carrying head prev upto total n f ∷ []) at)

pub so_far_none : (head : Head) (prev upto : Offset) (total : ℕ) (fragments : List (List ℕ)) (before : List Message) → SoFar head prev upto total fragments before before 0 fragments
so_far_none head prev upto total fragments before = record { done = []; parts = refl; place = refl; sent = sym (append-nil before) }

pub so_far_more : (head : Head) (prev upto : Offset) (total : ℕ) (fragments : List (List ℕ)) (before now : List Message) (start : ℕ) (rest : List (List ℕ)) (f : List ℕ) (after : List (List ℕ)) → rest ≡ f ∷ after → SoFar head prev upto total fragments before now start rest →
    SoFar head prev upto total fragments before (now ++ carrying head prev upto total start f ∷ []) (start + length f) after
so_far_more head prev upto total fragments before now start rest f after e h =
    let at : start ≡ 0 + length (concat h.done) = omega (arith, h.place) in
    record {
      done = h.done ++ f ∷ [];
      parts = h.parts ∙ ap (λ (fs : List (List ℕ)). h.done ++ fs) e ∙ sym (append_assoc h.done (f ∷ []) after);
      place = omega (arith, h.place, ap length (concat-more h.done f), length-append (concat h.done) f);
      sent =
          ap (λ (ms : List Message). ms ++ carrying head prev upto total start f ∷ []) h.sent
          ∙ append_assoc before (messages_from head prev upto total 0 h.done) (carrying head prev upto total start f ∷ [])
          ∙ ap (λ (n : ℕ). before ++ (messages_from head prev upto total 0 h.done ++ carrying head prev upto total n f ∷ [])) at
          ∙ ap (λ (ms : List Message). before ++ ms) (sym (messages-more head prev upto total 0 h.done f));
    }

-- a fragment lies within the body
pub so_far_within : (head : Head) (prev upto : Offset) (total : ℕ) (fragments : List (List ℕ)) (before now : List Message) (start : ℕ) (rest : List (List ℕ)) (f : List ℕ) (after : List (List ℕ)) → rest ≡ f ∷ after → SoFar head prev upto total fragments before now start rest →
    start + length f ≤ length (concat fragments)
so_far_within head prev upto total fragments before now start rest f after e h =
    let whole : concat fragments ≡ concat h.done ++ (f ++ concat after) = ap concat (h.parts ∙ ap (λ (fs : List (List ℕ)). h.done ++ fs) e) ∙ concat-append h.done (f ∷ after) in
    omega (arith, h.place, ap length whole, length-append (concat h.done) (f ++ concat after), length-append f (concat after))

pub so_far_all : (head : Head) (prev upto : Offset) (total : ℕ) (fragments : List (List ℕ)) (before now : List Message) (start : ℕ) → SoFar head prev upto total fragments before now start [] → now ≡ before ++ messages_from head prev upto total 0 fragments
so_far_all head prev upto total fragments before now start h =
    h.sent ∙ ap (λ (fs : List (List ℕ)). before ++ messages_from head prev upto total 0 fs) (sym (append-nil h.done) ∙ sym h.parts)

pub last_fragment : (head : Head) (room : ℕ) (done : List (List ℕ)) (last : List ℕ) → AllByRecursion (λ f. length f ≡ room) done → 0 < length last → length last ≤ room → AreFragments head (file_length head room) (done ++ last ∷ [])
last_fragment head room [] last full some le = ((λ e. let size = ap length e in omega (arith, size, some)), omega (arith, le))
last_fragment head room (f ∷ []) last full some le = (omega (arith, full.0), last_fragment head room [] last tt some le)
last_fragment head room (f ∷ g ∷ done) last full some le = (omega (arith, full.0), last_fragment head room (g ∷ done) last full.1 some le)
