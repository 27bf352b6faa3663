-- Lists: what is read is spelled so, and what is spelled is read again, where both hold of an item.
use Rattle.std.proofs.Common.{◌≡◌, ℕ, zero, suc, ◌^◌, ◌≤◌, List, [], ◌∷◌, ◌++◌, length, Ok, refl, sym, ap, subst, ◌∙◌, append_assoc, arith}
use Rattle.std.specs.Int.{w32, to_be_bytes}
use Rattle.std.specs.List.{flat_map, AllByRecursion}
use Rattle.sr_base.specs.Fields.{list_spelling, IsListOf}
use Rattle.sr_base.specs.Inner.NumberLaws.{within_ok, within_bind, within_then, format32, bind_ok, ok_is, Takes-then, wide32, number_takes, number_again}
use Rattle.sr_base.specs.Reading.{Read, ◌>>=◌, number_at, items_at, list_at}
use Rattle.sr_base.specs.Inner.Reading.{IsBytes, Takes, IsWithin, IsFormat}

module _ {A : Type 0} {item : List ℕ → Read A} {spelling : A → List ℕ} {fits : A → Type 0} (format : IsFormat item spelling fits) where
  items_takes : (count : ℕ) (bytes : List ℕ) (xs : List A) (rest : List ℕ) → IsBytes bytes → items_at item count bytes ≡ Ok (xs, rest) → Takes bytes (flat_map spelling xs) rest × (length xs ≡ count) × AllByRecursion fits xs
  unfolding items_at
  items_takes zero bytes xs rest h e =
      subst (λ (x : List A × List ℕ). Takes bytes (flat_map spelling x.0) x.1 × (length x.0 ≡ 0) × AllByRecursion fits x.0) (ok_is ([], bytes) (xs, rest) e) (record { parts = refl; rest_fits = h }, refl, tt)
  items_takes (suc count) bytes xs rest h e =
      let a = bind_ok (item bytes) (λ first. items_at item count first.1 >>= λ others. Ok (first.0 ∷ others.0, others.1)) (xs, rest) e in
      let b = bind_ok (items_at item count a.0.1) (λ others. Ok (a.0.0 ∷ others.0, others.1)) (xs, rest) a.2 in
      let first = format.takes bytes a.0.0 a.0.1 h a.1 in
      let others = items_takes count a.0.1 b.0.0 b.0.1 first.0.rest_fits b.1 in
      subst (λ (x : List A × List ℕ). Takes bytes (flat_map spelling x.0) x.1 × (length x.0 ≡ suc count) × AllByRecursion fits x.0) (ok_is (a.0.0 ∷ b.0.0, b.0.1) (xs, rest) b.2)
      (Takes-then bytes (spelling a.0.0) a.0.1 (flat_map spelling b.0.0) b.0.1 first.0 others.0, ap suc others.1, (first.1, others.2))

  items_again : (xs : List A) (rest : List ℕ) → AllByRecursion fits xs → items_at item (length xs) (flat_map spelling xs ++ rest) ≡ Ok (xs, rest)
  unfolding items_at
  items_again [] rest h = refl
  items_again (x ∷ xs) rest h =
      rw (append_assoc (spelling x) (flat_map spelling xs) rest, format.again x (flat_map spelling xs ++ rest) h.0, items_again xs rest h.1) refl

  list_takes : (bytes : List ℕ) (xs : List A) (rest : List ℕ) → IsBytes bytes → list_at item bytes ≡ Ok (xs, rest) → Takes bytes (list_spelling spelling xs) rest × IsListOf fits xs
  unfolding list_at
  list_takes bytes xs rest h e =
      let a = bind_ok (number_at w32 bytes) (λ count. items_at item count.0 count.1) (xs, rest) e in
      let count = number_takes w32 (2 ^ 32) wide32 bytes a.0.0 a.0.1 h a.1 in
      let items = items_takes a.0.0 a.0.1 xs rest count.0.rest_fits a.2 in
      let whole = Takes-then bytes (to_be_bytes w32 a.0.0) a.0.1 (flat_map spelling xs) rest count.0 items.0 in
      (subst (λ (n : ℕ). Takes bytes (to_be_bytes w32 n ++ flat_map spelling xs) rest) (sym items.1) whole, (omega (arith, items.1, count.1), items.2))

  list_again : (xs : List A) (rest : List ℕ) → IsListOf fits xs → list_at item (list_spelling spelling xs ++ rest) ≡ Ok (xs, rest)
  unfolding list_at
  list_again xs rest h =
      let regrouped : list_spelling spelling xs ++ rest ≡ to_be_bytes w32 (length xs) ++ (flat_map spelling xs ++ rest) = append_assoc (to_be_bytes w32 (length xs)) (flat_map spelling xs) rest in
      ap (list_at item) regrouped ∙ rw (number_again w32 (2 ^ 32) wide32 (length xs) (flat_map spelling xs ++ rest) h.0) (items_again xs rest h.1)

  items_within : (count : ℕ) (bytes : List ℕ) (bound : ℕ) → IsBytes bytes → length bytes ≤ bound → IsWithin (items_at item count bytes) bound
  unfolding items_at
  items_within zero bytes bound h le = within_ok ([], bytes) bound
  items_within (suc count) bytes bound h le =
      within_then format bytes (λ first. items_at item count first.1 >>= λ others. Ok (first.0 ∷ others.0, others.1)) bound h le
      (λ first h1 le1. within_bind (items_at item count first.1) (λ others. Ok (first.0 ∷ others.0, others.1)) bound (items_within count first.1 bound h1 le1) (λ others e. within_ok (first.0 ∷ others.0, others.1) bound))

  list_within : (bytes : List ℕ) → IsBytes bytes → IsWithin (list_at item bytes) (length bytes)
  unfolding list_at
  list_within bytes h = within_then format32 bytes (λ count. items_at item count.0 count.1) (length bytes) h (omega arith) (λ count h1 le1. items_within count.0 count.1 (length bytes) h1 le1)

  pub list_format : IsFormat (list_at item) (list_spelling spelling) (IsListOf fits)
  list_format = record { takes = list_takes; again = list_again; within = list_within }
