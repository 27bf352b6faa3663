-- Bodies of transactions, and fragments of bytes: there is one way to part them.
use Rattle.std.proofs.Common.{◌≡◌, ℕ, ◌<◌, ◌≤◌, List, [], ◌∷◌, ◌++◌, length, refl, sym, ap, ap₂, ◌∙◌, arith, append_assoc}
use Rattle.std.specs.List.{concat, AllByRecursion}
use Rattle.std.proofs.lemmas.List.{length-append, append-nil, nil_from_length}
use Rattle.std.proofs.lemmas.List.Concat.{flat_map-append}
use Rattle.sr_base.proofs.Formats.{begins_no_other}
use Rattle.sr_logform.specs.declared.op.Transaction.{Transaction}
use Rattle.sr_logform.specs.Ops.{transaction_spelling, IsTransaction}
use Rattle.sr_logform.specs.Inner.OpLaws.{transaction_format}
use Rattle.sr_mail_cut.specs.declared.head.Head.{Head}
use Rattle.sr_mail_cut.specs.Bodies.{body_spelling}
use Rattle.sr_mail_cut.specs.Cuts.{file_length, AreFragments}
use Rattle.sr_mail_cut.proofs.Lists.{same_parts}

pub filled : {A : Type 0} (xs : List A) → ¬ (xs ≡ []) → 1 ≤ length xs
filled [] h = absurd (h refl)
filled (x ∷ xs) h = omega arith

-- a transaction has at least the bytes of its offset
pub long_enough : (t : Transaction) → 8 ≤ length (transaction_spelling t)
long_enough t = omega arith

pub body-append : (xs ys : List Transaction) → body_spelling (xs ++ ys) ≡ body_spelling xs ++ body_spelling ys
body-append xs ys = flat_map-append transaction_spelling xs ys

pub body-filled : (t : Transaction) (ts : List Transaction) → 8 ≤ length (body_spelling (t ∷ ts))
body-filled t ts = omega (arith, length-append (transaction_spelling t) (body_spelling ts), long_enough t)

-- bytes that begin with a body and are one have that body's transactions at the front
pub body_begins : (xs ts : List Transaction) (rest : List ℕ) → AllByRecursion IsTransaction xs → AllByRecursion IsTransaction ts → body_spelling xs ++ rest ≡ body_spelling ts → (more : List Transaction) × (ts ≡ xs ++ more) × (rest ≡ body_spelling more)
body_begins [] ts rest h k e = (ts, refl, e)
body_begins (x ∷ xs) [] rest h k e = absurd (let size = ap length e in omega (arith, size, length-append (body_spelling (x ∷ xs)) rest, body-filled x xs))
body_begins (x ∷ xs) (t ∷ ts) rest h k e =
    let parted = append_assoc (transaction_spelling x) (body_spelling xs) rest in
    let both = begins_no_other transaction_format x t (body_spelling xs ++ rest) (body_spelling ts) h.0 k.0 (sym parted ∙ e) in
    let others = body_begins xs ts rest h.1 k.1 both.1 in
    (others.0, ap₂ (λ (y : Transaction) (ys : List Transaction). y ∷ ys) (sym both.0) others.1, others.2)

nothing : (more : List Transaction) → [] ≡ body_spelling more → length more ≡ 0
nothing [] e = refl
nothing (t ∷ ts) e = absurd (let size = ap length e in omega (arith, size, body-filled t ts))

pub body_once : (a b : List Transaction) → AllByRecursion IsTransaction a → AllByRecursion IsTransaction b → body_spelling a ≡ body_spelling b → a ≡ b
body_once a b h k e =
    let begun = body_begins a b [] h k (append-nil (body_spelling a) ∙ e) in
    let none : length begun.0 ≡ 0 = nothing begun.0 begun.2 in
    sym (begun.1 ∙ ap (λ (ys : List Transaction). a ++ ys) (nil_from_length begun.0 none) ∙ append-nil a)

module _ (head : Head) (limit : ℕ) where
  -- fragments have a byte at least
  pub fragments-filled : (fs : List (List ℕ)) → AreFragments head limit fs → 1 ≤ length (concat fs)
  fragments-filled [] h = absurd h
  fragments-filled (f ∷ []) h = omega (arith, filled f h.0, length-append f [])
  fragments-filled (f ∷ g ∷ fs) h = omega (arith, length-append f (concat (g ∷ fs)), fragments-filled (g ∷ fs) h.1)

  pub fragments_once : (fs gs : List (List ℕ)) → AreFragments head limit fs → AreFragments head limit gs → concat fs ≡ concat gs → fs ≡ gs
  fragments_once [] gs h k e = absurd h
  fragments_once (f ∷ fs) [] h k e = absurd k
  fragments_once (f ∷ []) (g ∷ []) h k e = ap (λ (x : List ℕ). x ∷ []) (sym (append-nil f) ∙ e ∙ append-nil g)
  fragments_once (f ∷ []) (g ∷ g2 ∷ gs) h k e =
      absurd (let size = ap length e in omega (arith, size, h.1, k.0, length-append f [], length-append g (concat (g2 ∷ gs)), fragments-filled (g2 ∷ gs) k.1))
  fragments_once (f ∷ f2 ∷ fs) (g ∷ []) h k e =
      absurd (let size = ap length e in omega (arith, size, h.0, k.1, length-append g [], length-append f (concat (f2 ∷ fs)), fragments-filled (f2 ∷ fs) h.1))
  fragments_once (f ∷ f2 ∷ fs) (g ∷ g2 ∷ gs) h k e =
      let same : length f ≡ length g = omega (arith, h.0, k.0) in
      let both = same_parts f (concat (f2 ∷ fs)) g (concat (g2 ∷ gs)) same e in
      ap₂ (λ (x : List ℕ) (xs : List (List ℕ)). x ∷ xs) both.0 (fragments_once (f2 ∷ fs) (g2 ∷ gs) h.1 k.1 both.1)

  -- several fragments make more than one message holds
  pub several : (f g : List ℕ) (fs : List (List ℕ)) → AreFragments head limit (f ∷ g ∷ fs) → limit < file_length head (length (concat (f ∷ g ∷ fs)))
  several f g fs h = omega (arith, h.0, length-append f (concat (g ∷ fs)), fragments-filled (g ∷ fs) h.1)
