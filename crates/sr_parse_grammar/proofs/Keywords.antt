-- Key words in a table.
use Rattle.std.proofs.Common.{◌≡◌, ℕ, zero, suc, ◌<◌, Bool, true, false, ◌||◌, List, [], ◌∷◌, map, length, drop, refl, sym, ap, ◌∙◌, arith}
use Rattle.std.proofs.Common.{Bor, slice_index_or}
use Rattle.std.proofs.lemmas.Slice.Eq.{bytes_eq-Decides}
use Rattle.std.specs.List.{list_all}
use Rattle.std.specs.Str.{bytes_eq}
use Rattle.sr_ast.specs.declared.keyword.Keyword.{Keyword}
use Rattle.sr_ast.specs.Keywords.{lower, spelling, IsKeyword}
use Rattle.sr_parse_grammar.specs.Inner.Keywords.{Entries, are_spelled, has}
use Rattle.sr_base.proofs.Truths.{both_true}

-- an entry and a row of the table, as they lie in memory
abbrev pub Entry : Type 0
Entry = Keyword × Bor (List ℕ)

abbrev pub Row : Type 0
Row = Bor (List Entry)

-- entries as a contract sees them
abbrev pub plain : List Entry → Entries
plain entries = map (λ (entry : Entry). (entry.0, entry.1.now)) entries

-- what is left of the entries is spelled so, and has the word where the entries have it
pub record Left (word : List ℕ) (entries left : List Entry) : Type 0 where
  pub spelled : are_spelled (plain left) ≡ true
  pub has_it : (k : Keyword) → has (plain entries) k ≡ true → IsKeyword word k → has (plain left) k ≡ true

either_true : (a b : Bool) → (a || b) ≡ true → (a ≡ true → ⊥) → b ≡ true
either_true true b e not_a = absurd (not_a refl)
either_true false b e not_a = e

-- what is left begins with the entry at its place
next_left : {A : Type 0} (xs : List A) (n : ℕ) (d : A) → n < length xs → drop n xs ≡ slice_index_or xs n d ∷ drop (suc n) xs
next_left [] n d h = absurd (omega arith)
next_left (x ∷ xs) zero d h = refl
next_left (x ∷ xs) (suc n) d h = next_left xs n d (omega arith)

-- the entry that was compared is what the word is
pub found_here : (word : List ℕ) (entries : List Entry) (n : ℕ) (d : Entry) → n < length entries
    → are_spelled (plain (drop n entries)) ≡ true → lower word ≡ lower (slice_index_or entries n d).1.now
    → IsKeyword word (slice_index_or entries n d).0
found_here word entries n d low spelled e =
    let entry = slice_index_or entries n d in
    let parts : are_spelled (plain (entry ∷ drop (suc n) entries)) ≡ true =
    sym (ap (λ es. are_spelled (plain es)) (next_left entries n d low)) ∙ spelled in
    let here = both_true (bytes_eq entry.1.now (spelling entry.0)) _ parts in
    e ∙ ap lower ((bytes_eq-Decides entry.1.now (spelling entry.0)).0 here.0)

-- and where it is not, what is left behind it has the word
pub left_behind : (word : List ℕ) (entries : List Entry) (n : ℕ) (d : Entry) → n < length entries
    → Left word entries (drop n entries) → (lower word ≡ lower (slice_index_or entries n d).1.now → ⊥) → Left word entries (drop (suc n) entries)
left_behind word entries n d low left never =
    let entry = slice_index_or entries n d in
    let step = next_left entries n d low in
    let parts : are_spelled (plain (entry ∷ drop (suc n) entries)) ≡ true =
    sym (ap (λ es. are_spelled (plain es)) step) ∙ left.spelled in
    record {
      spelled = (both_true (bytes_eq entry.1.now (spelling entry.0)) _ parts).1;
      has_it = λ k has_k is.
          either_true (bytes_eq entry.1.now (spelling k)) _ (sym (ap (λ es. has (plain es) k) step) ∙ left.has_it k has_k is)
          (λ same. never (is ∙ ap lower (sym ((bytes_eq-Decides entry.1.now (spelling k)).0 same))));
    }

-- ---- the table

abbrev pub rows : List (Row) → List Entries
rows table = map (λ (row : Row). plain row.now) table

row_spelled : (table : List Entries) (n : ℕ) → list_all are_spelled table ≡ true → are_spelled (slice_index_or table n []) ≡ true
row_spelled [] n e = refl
row_spelled (row ∷ table) zero e = (both_true (are_spelled row) _ e).0
row_spelled (row ∷ table) (suc n) e = row_spelled table n (both_true (are_spelled row) _ e).1

row_at : (table : List (Row)) (n : ℕ) (d : Row) → n < length table
    → slice_index_or (rows table) n [] ≡ plain (slice_index_or table n d).now
row_at [] n d h = absurd (omega arith)
row_at (row ∷ table) zero d h = refl
row_at (row ∷ table) (suc n) d h = row_at table n d (omega arith)

-- a row of the table is spelled so
pub row_is_spelled : (table : List (Row)) (n : ℕ) (row : Row) → n < length table → row ≡ slice_index_or table n row
    → list_all are_spelled (rows table) ≡ true → are_spelled (plain row.now) ≡ true
row_is_spelled table n row low is spelled =
    ap (λ (r : Row). are_spelled (plain r.now)) is ∙ sym (ap are_spelled (row_at table n row low)) ∙ row_spelled (rows table) n spelled
