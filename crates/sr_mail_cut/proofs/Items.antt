-- Steps of loops over transactions, and the digits of a file's name.
use Rattle.std.proofs.Common.{◌≡◌, ℕ, ◌+◌, ◌<◌, ◌≤◌, ◌/◌, ◌%◌, Bool, true, false, cond, nat_lt, Option, Some, None, List, [], ◌∷◌, ◌++◌, length, take, drop, map, get_or, refl, sym, ap, ◌∙◌, arith, subst}
use Rattle.std.specs.List.{AllByRecursion}
use Rattle.std.proofs.lemmas.List.{append-nil, take-append-drop, drop_more}
use Rattle.sr_logform.specs.declared.op.Transaction.{Transaction}
use Rattle.sr_logform.specs.Ops.{transaction_spelling, IsTransaction}
use Rattle.sr_mail_cut.specs.Bodies.{body_spelling, first_long}
use Rattle.sr_logform.specs.Limits.{longest_transaction}
use Rattle.sr_mail_cut.specs.declared.too_long.TooLong.{TooLong}
use Rattle.sr_mail_cut.specs.declared.too_long.TooLong.TheVariants as long
use Rattle.sr_mail_cut.specs.Inner.Cuts.{CutCause}
use Rattle.sr_mail_cut.specs.Hexadecimal.{digit, digits}
use Rattle.sr_mail_cut.proofs.Lists.{take_item, AllByRecursion-append}
use Rattle.sr_mail_cut.proofs.Parting.{body-append}

-- one transaction more of a body
pub body_item : (ts : List Transaction) (i : ℕ) (t : Transaction) (before after : List ℕ) → i < length ts → t ≡ get_or ts i t → before ≡ body_spelling (take i ts) → after ≡ before ++ transaction_spelling t → after ≡ body_spelling (take (i + 1) ts)
body_item ts i t before after lt is e f =
    f ∙ ap (λ (b : List ℕ). b ++ transaction_spelling t) e ∙ ap (λ (b : List ℕ). body_spelling (take i ts) ++ b) (sym (append-nil (transaction_spelling t)))
    ∙ sym (body-append (take i ts) (t ∷ [])) ∙ ap body_spelling (sym (take_item ts i t lt is))

pub spelled_item : (ts : List Transaction) (i : ℕ) (t : Transaction) → i < length ts → t ≡ get_or ts i t → AllByRecursion IsTransaction (take i ts) → IsTransaction t → AllByRecursion IsTransaction (take (i + 1) ts)
spelled_item ts i t lt is h one = subst (AllByRecursion IsTransaction) (sym (take_item ts i t lt is)) (AllByRecursion-append IsTransaction (take i ts) (t ∷ []) h (one, tt))

-- the first encoding that is too long
first_long_case : (b : Bool) (n : ℕ) (rest : Option ℕ) → cond b (Some n) rest ≡ None → (b ≡ false) × (rest ≡ None)
first_long_case true n rest e = absurd cc
first_long_case false n rest e = (refl, e)

pub long-behind : (xs ys : List Transaction) → first_long xs ≡ None → first_long (xs ++ ys) ≡ first_long ys
long-behind [] ys e = refl
long-behind (x ∷ xs) ys e =
    let both = first_long_case (nat_lt longest_transaction (length (transaction_spelling x))) (length (transaction_spelling x)) (first_long xs) e in
    rw both.0 (long-behind xs ys both.1)

long_prefix_case : (b : Bool) (n need : ℕ) (behind : Option ℕ) → cond b (Some n) None ≡ Some need → cond b (Some n) behind ≡ Some need
long_prefix_case true n need behind e = e
long_prefix_case false n need behind e = absurd cc

pub long-first : (t : Transaction) (ts : List Transaction) (need : ℕ) → first_long (t ∷ []) ≡ Some need → first_long (t ∷ ts) ≡ Some need
long-first t ts need e = long_prefix_case (nat_lt longest_transaction (length (transaction_spelling t))) (length (transaction_spelling t)) need (first_long ts) e

not_long_one : (n : ℕ) → n ≤ longest_transaction → cond (nat_lt longest_transaction n) (Some n) None ≡ None
not_long_one n le = let no : nat_lt longest_transaction n ≡ false = grind arith in rw no refl

pub not_long_more : (ts : List Transaction) (i : ℕ) (t : Transaction) → i < length ts → t ≡ get_or ts i t → first_long (take i ts) ≡ None → length (transaction_spelling t) ≤ longest_transaction → first_long (take (i + 1) ts) ≡ None
not_long_more ts i t lt is h short =
    ap first_long (take_item ts i t lt is) ∙ long-behind (take i ts) (t ∷ []) h ∙ not_long_one (length (transaction_spelling t)) short

-- ---- the first encoding that is too long, in a loop

pub cause_of : (ts : List Transaction) (i : ℕ) (t : Transaction) (e : TooLong) → i < length ts → t ≡ get_or ts i t → first_long (take i ts) ≡ None → CutCause (t ∷ []) e → CutCause ts e
cause_of ts i t long.Memory lt is h cause = tt
cause_of ts i t (long.Transaction need) lt is h cause =
    let parts : ts ≡ take i ts ++ (t ∷ drop (i + 1) ts) = sym (take-append-drop i ts) ∙ ap (λ (x : List Transaction). take i ts ++ x) (drop_more ts i t lt ∙ ap (λ (x : Transaction). x ∷ drop (i + 1) ts) (sym is)) in
    ap first_long parts ∙ long-behind (take i ts) (t ∷ drop (i + 1) ts) h ∙ long-first t (drop (i + 1) ts) need cause

-- ---- the digits of a file's name

pub all_digits : (number : ℕ) → map (λ place. digit (number / place % 16)) (1152921504606846976 ∷ 72057594037927936 ∷ 4503599627370496 ∷ 281474976710656 ∷ 17592186044416 ∷ 1099511627776 ∷ 68719476736 ∷ 4294967296 ∷
    268435456 ∷ 16777216 ∷ 1048576 ∷ 65536 ∷ 4096 ∷ 256 ∷ 16 ∷ 1 ∷ []) ≡ digits 16 number
all_digits number = refl
