-- Steps of loops over fragments and spans.
use Rattle.std.proofs.Common.{◌≡◌, ℕ, zero, suc, ◌+◌, ◌-◌, ◌<◌, ◌≤◌, ◌⊎◌, inl, inr, Bool, true, false, cond, nat_le, nat_lt, ◌==◌, ◌||◌, ◌&&◌, Option, Some, List, [], ◌∷◌, ◌++◌, length, take, map, get_or, refl, sym, ap, ap₂, ◌∙◌, arith, subst}
use Rattle.std.specs.List.{list_any, AllByRecursion, Contains}
use Rattle.std.specs.List.Sorted.{IsPermutation}
use Rattle.std.specs.Ordering.{nat_cmp, ordering_then, is_lt}
use Rattle.std.specs.Prelude.{slice_get}
use Rattle.std.specs.declared.cmp.Ordering.{Ordering}
use Rattle.std.specs.declared.cmp.Ordering.TheVariants.{Less, Equal, Greater}
use Rattle.std.proofs.lemmas.Bool.{cases_lt, lt-ltb}
use Rattle.std.proofs.lemmas.List.{length-take}
use Rattle.std.proofs.lemmas.List.Folds.{list_any-append}
use Rattle.std.proofs.lemmas.List.Sorted.{Contains-permutation, IsPermutation-sym}
use Rattle.sr_mail.specs.declared.piece.Piece.{Piece}
use Rattle.sr_mail.specs.declared.reach.Reach.{Reach}
use Rattle.sr_mail.specs.Assembled.{total_of, IsItsPiece, byte_at, IsAssembled}
use Rattle.sr_mail.specs.Seen.{covers, Cover}
use Rattle.sr_mail.specs.Inner.Spans.{Span, spans_from, has_place, AreSorted, SpanOf}
use Rattle.sr_mail.specs.Inner.Tracking.{BeginsWithin}
use Rattle.sr_mail.proofs.Covered.{covers-at, covers-here}
use Rattle.sr_mail_cut.proofs.Lists.{AllByRecursion-map, take_item}
use Rattle.sr_mail.proofs.Spanning.{All-at, spans-append}
use Rattle.sr_msgform.specs.declared.message.Message.{Message}

-- the first entry of a map
first_is : {A : Type 0} (xs : List A) (x : A) → slice_get xs 0 ≡ Some x → (rest : List A) × (xs ≡ x ∷ rest)
first_is [] x e = absurd cc
first_is (y ∷ xs) x e = let same : y ≡ x = cc in (xs, ap (λ z. z ∷ xs) same)

pub begins : (r : Reach) (start end : ℕ) → slice_get r.waiting.entries 0 ≡ Some (start, end) → start ≤ r.reached → BeginsWithin r
begins r start end e le = let h = first_is r.waiting.entries (start, end) e in record { start = start; end = end; behind = h.0; entries = h.1; within = le }

-- ---- bodies put together

own_size : (pair : Piece × Message) (place : ℕ) → IsItsPiece pair → covers place pair.0 ≡ true → (pair.0.start ≤ place) × (place < pair.0.start + length pair.1.fragment)
own_size pair place own e = let at = covers-at place pair.0 e in (at.0, omega (arith, at.1, own.size))

outside : (place : ℕ) (p : Piece) → covers place p ≡ false → (place < p.start) ⊎ (p.start + p.length ≤ place)
outside place p e = elim (cases_lt place p.start) [
  | inl before ↦ inl before
  | inr from ↦ elim (cases_lt place (p.start + p.length)) [
    | inl within ↦ absurd (let never : false ≡ true = sym e ∙ covers-here place p from within in cc)
    | inr behind ↦ inr behind
  ]
]

some_is : (x y : ℕ) → Some x ≡ Some y → x ≡ y
some_is x y e = cc

-- after one fragment more, which stands earlier in the list
written_case : (b : Bool) (pair : Piece × Message) (others : Option ℕ) (bytes after : List ℕ) (place byte : ℕ) → covers place pair.0 ≡ b → IsItsPiece pair → place < length bytes →
    ((i : ℕ) → pair.0.start ≤ i → i < pair.0.start + length pair.1.fragment → i < length bytes → get_or after i 0 ≡ get_or pair.1.fragment (i - pair.0.start) 0) →
    ((i : ℕ) → i < pair.0.start → get_or after i 0 ≡ get_or bytes i 0) → ((i : ℕ) → pair.0.start + length pair.1.fragment ≤ i → get_or after i 0 ≡ get_or bytes i 0) →
    (others ≡ Some byte → get_or bytes place 0 ≡ byte) → cond b (Some (get_or pair.1.fragment (place - pair.0.start) 0)) others ≡ Some byte → get_or after place 0 ≡ byte
written_case true pair others bytes after place byte is own lt inside before behind old e =
    let at = own_size pair place own is in
    inside place at.0 at.1 lt ∙ some_is (get_or pair.1.fragment (place - pair.0.start) 0) byte e
written_case false pair others bytes after place byte is own lt inside before behind old e = elim (outside place pair.0 is) [
  | inl first ↦ before place first ∙ old e
  | inr last ↦ behind place (omega (arith, last, own.size)) ∙ old e
]

pub written_more : (pair : Piece × Message) (done : List (Piece × Message)) (bytes after : List ℕ) → IsItsPiece pair → length after ≡ length bytes →
    ((i : ℕ) → pair.0.start ≤ i → i < pair.0.start + length pair.1.fragment → i < length bytes → get_or after i 0 ≡ get_or pair.1.fragment (i - pair.0.start) 0) →
    ((i : ℕ) → i < pair.0.start → get_or after i 0 ≡ get_or bytes i 0) → ((i : ℕ) → pair.0.start + length pair.1.fragment ≤ i → get_or after i 0 ≡ get_or bytes i 0) →
    ((place byte : ℕ) → place < length bytes → byte_at done place ≡ Some byte → get_or bytes place 0 ≡ byte) →
    (place byte : ℕ) → place < length after → byte_at (pair ∷ done) place ≡ Some byte → get_or after place 0 ≡ byte
written_more pair done bytes after own long inside before behind old place byte lt e =
    written_case (covers place pair.0) pair (byte_at done place) bytes after place byte refl own (omega (arith, lt, long)) inside before behind (old place byte (omega (arith, lt, long))) e

has_byte_case : (b : Bool) (own : ℕ) (others : Option ℕ) (more : Bool) → (b || more) ≡ true → (more ≡ true → (byte : ℕ) × (others ≡ Some byte)) → (byte : ℕ) × (cond b (Some own) others ≡ Some byte)
has_byte_case true own others more e rest = (own, refl)
has_byte_case false own others more e rest = rest e

-- a place that is covered has a byte
has_byte : (pairs : List (Piece × Message)) (place : ℕ) → list_any (covers place) (map (λ pair. pair.0) pairs) ≡ true → (byte : ℕ) × (byte_at pairs place ≡ Some byte)
has_byte [] place e = absurd cc
has_byte (pair ∷ pairs) place e = has_byte_case (covers place pair.0) (get_or pair.1.fragment (place - pair.0.start) 0) (byte_at pairs place) (list_any (covers place) (map (λ pair. pair.0) pairs)) e (has_byte pairs place)

pub assembled : (pairs : List (Piece × Message)) (bytes : List ℕ) → AllByRecursion IsItsPiece pairs → Cover (map (λ pair. pair.0) pairs) (total_of pairs) → length bytes ≡ total_of pairs →
    ((place byte : ℕ) → place < length bytes → byte_at pairs place ≡ Some byte → get_or bytes place 0 ≡ byte) → IsAssembled pairs bytes
assembled pairs bytes own covered whole written = record {
  can = record { own = own; covered = covered };
  whole = whole;
  each = λ place lt.
      let found = has_byte pairs place (covered place lt) in
      found.1 ∙ ap (λ (x : ℕ). Some x) (sym (written place found.0 (omega (arith, lt, whole)) found.1));
}

-- ---- spans that are sorted

pub All-from : {A : Type 0} (P : A → Type 0) (xs : List A) → ((x : A) → Contains xs x → P x) → AllByRecursion P xs
All-from P [] h = tt
All-from P (x ∷ xs) h = (h x (0, omega arith, refl), All-from P xs (λ y c. h y (suc c.0, omega (arith, c.1), c.2)))

pub All-moved : {A : Type 0} (P : A → Type 0) (xs ys : List A) → IsPermutation xs ys → AllByRecursion P xs → AllByRecursion P ys
All-moved P xs ys moved h = All-from P ys (λ x c. All-at P xs x h (Contains-permutation ys xs x (IsPermutation-sym xs ys moved) c))

not_less_case : (less same : Bool) (o p : Ordering) → less ≡ true → is_lt (ordering_then (ordering_then (cond less Less (cond same Equal Greater)) o) p) ≡ false → ⊥
not_less_case true same o p e f = absurd cc
not_less_case false same o p e f = absurd cc

pub not_less : (a b : ℕ) (o p : Ordering) → is_lt (ordering_then (ordering_then (nat_cmp b a) o) p) ≡ false → a ≤ b
not_less a b o p e = elim (cases_lt b a) [
  | inl less ↦ absurd (not_less_case (nat_lt b a) (b == a) o p (lt-ltb b a less) e)
  | inr fine ↦ fine
]

AllByRecursion-cons : (x : Span) (xs : List Span) (s : Span) → s.0 ≤ x.0 → AllByRecursion (λ y. x.0 ≤ y.0) xs → AllByRecursion (λ y. s.0 ≤ y.0) (x ∷ xs)
AllByRecursion-cons x xs s first h = (first, AllByRecursion-map (λ y. x.0 ≤ y.0) (λ y. s.0 ≤ y.0) xs (λ y le. omega (arith, le, first)) h)

sorted_all : (s : Span) (xs : List Span) → ((k : ℕ) (d : Span) → k + 1 < length (s ∷ xs) → (get_or (s ∷ xs) k d).0 ≤ (get_or (s ∷ xs) (k + 1) d).0) → AllByRecursion (λ x. s.0 ≤ x.0) xs × AreSorted xs
sorted_all s [] h = (tt, tt)
sorted_all s (x ∷ xs) h =
    let first : s.0 ≤ x.0 = h 0 s (omega arith) in
    let rest = sorted_all x xs (λ k d lt.
    let next : suc k + 1 ≡ suc (k + 1) = omega arith in
    let one : (get_or (x ∷ xs) k d).0 ≤ (get_or (s ∷ x ∷ xs) (suc k + 1) d).0 = h (suc k) d (omega (arith, lt)) in
    subst (λ (n : ℕ). (get_or (x ∷ xs) k d).0 ≤ (get_or (s ∷ x ∷ xs) n d).0) next one) in
    (AllByRecursion-cons x xs s first rest.0, rest)

pub sorted_from : (xs : List Span) → ((k : ℕ) (d : Span) → k + 1 < length xs → (get_or xs k d).0 ≤ (get_or xs (k + 1) d).0) → AreSorted xs
sorted_from [] h = tt
sorted_from (s ∷ xs) h = sorted_all s xs h

-- ---- spans of pieces, and copies of them

pub span_item : (pieces : List Piece) (n : ℕ) (p : Piece) (before after : List Span) → n < length pieces → p ≡ get_or pieces n p → before ≡ spans_from 0 (take n pieces) → after ≡ before ++ (p.start, p.start + p.length, n) ∷ [] → after ≡ spans_from 0 (take (n + 1) pieces)
span_item pieces n p before after lt is e f =
    let size : 0 + length (take n pieces) ≡ n = omega (arith, length-take n pieces) in
    f ∙ ap (λ (x : List Span). x ++ (p.start, p.start + p.length, n) ∷ []) e
    ∙ ap (λ (k : ℕ). spans_from 0 (take n pieces) ++ (p.start, p.start + p.length, k) ∷ []) (sym size)
    ∙ sym (ap (spans_from 0) (take_item pieces n p lt is) ∙ spans-append 0 (take n pieces) (p ∷ []))

some_within : {A : Type 0} (xs : List A) (i : ℕ) (x : A) → slice_get xs i ≡ Some x → (i < length xs) × ((d : A) → get_or xs i d ≡ x)
some_within [] i x e = absurd cc
some_within (y ∷ xs) zero x e = let same : y ≡ x = cc in (omega arith, λ d. same)
some_within (y ∷ xs) (suc i) x e = let rest = some_within xs i x e in (omega (arith, rest.0), rest.1)

pub own_piece : (pieces : List Piece) (s : Span) (p : Piece) → SpanOf pieces s → p ≡ get_or pieces s.2 p → Contains pieces p
own_piece pieces s p h is = let at = some_within pieces s.2 h.piece h.number in (s.2, at.0, sym is)

same_places : (pieces : List Piece) (s : Span) (p : Piece) (place : ℕ) → SpanOf pieces s → p ≡ get_or pieces s.2 p → covers place p ≡ has_place place s
same_places pieces s p place h is =
    let at = some_within pieces s.2 h.piece h.number in
    let same : p ≡ h.piece = is ∙ at.1 p in
    ap (covers place) same ∙ ap₂ (λ (a b : ℕ). nat_le a place && nat_lt place b) h.starts h.ends

pub copied_more : (pieces : List Piece) (s : Span) (p : Piece) (place : ℕ) (chosen : List Piece) (done : List Span) → SpanOf pieces s → p ≡ get_or pieces s.2 p → list_any (covers place) chosen ≡ list_any (has_place place) done →
    list_any (covers place) (chosen ++ p ∷ []) ≡ list_any (has_place place) (done ++ s ∷ [])
copied_more pieces s p place chosen done h is e =
    list_any-append (covers place) chosen (p ∷ []) ∙ ap₂ (λ (a b : Bool). a || (b || false)) e (same_places pieces s p place h is) ∙ sym (list_any-append (has_place place) done (s ∷ []))
