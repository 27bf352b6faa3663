-- The rows of a table as a list, and how going on with the next one goes along it.
use Rattle.std.proofs.Common.{◌≡◌, ◌≢◌, ◌&&◌, Bor, Bool, true, false, cond, T, bytes_eq, ℕ, List, [], ◌∷◌, Option, Some, None, refl, sym, ap, subst, ◌∙◌}
use Rattle.std.specs.declared.cmp.Ordering.{Ordering}
use Rattle.std.specs.declared.cmp.Ordering.TheVariants.{Less, Equal, Greater}
use Rattle.std.specs.Ordering.{is_eq, is_lt, eq_by_cmp, ordering_then, ordering_reverse}
use Rattle.std.specs.Cmp.{Equal-is, tied_itself}
use Rattle.std.specs.List.{AllByRecursion}
use Rattle.std.specs.Option.{MatchOption}
use Rattle.std.specs.FinMap.{entries, find, is_sorted, get-entries, entries_sorted}
use Rattle.sr_base.specs.declared.value.Value.{Value}
use Rattle.sr_base.specs.Order.{name_cmp, key_cmp}
use Rattle.sr_base.specs.Inner.Order.{name_cmp_total, key_cmp_total}
use Rattle.std.proofs.lemmas.Map.Lookups.{exact_bytes}
use Rattle.std.proofs.lemmas.Map.Text.{is_eq-slice_cmp}
use Rattle.sr_base.proofs.Exact.{exact_keys}
use Rattle.sr_rows.specs.Marks.{Place, place_cmp, RowMap, rows_of_table}
use Rattle.sr_rows.specs.Inner.Marks.{IsNext, IsLast}
use Rattle.sr_rows.specs.Walks.{Entry, of_table, table_rows, IsPast}
use Rattle.sr_rows.specs.Inner.Walks.{is_past, past, Rises}

abbrev Key : Type 0
Key = List Value

less : (o : Ordering) → T (is_lt o) → o ≡ Less
less Less h = refl
less Equal h = absurd h
less Greater h = absurd h

first : (a b : Bool) → T (a && b) → T a
first true b h = tt
first false b h = absurd h

second : (a b : Bool) → T (a && b) → T b
second true b h = h
second false b h = absurd h

module _ {K X : Type 0} (R : K → K → Ordering) where
  abbrev pub is_below : K → List (K × X) → Bool
  is_below k [] = true
  is_below k (e ∷ es) = is_lt (R k e.0) && is_below k es

  all_below : (k : K) (es : List (K × X)) → T (is_below k es) → AllByRecursion (λ x. R k x.0 ≡ Less) es
  all_below k [] h = tt
  all_below k (e ∷ es) h = (less (R k e.0) (first (is_lt (R k e.0)) (is_below k es) h), all_below k es (second (is_lt (R k e.0)) (is_below k es) h))

  pub rises : (es : List (K × X)) → T (is_sorted R es) → Rises R es
  rises [] h = tt
  rises (e ∷ es) h = (all_below e.0 es (first (is_below e.0 es) (is_sorted R es) h), rises es (second (is_below e.0 es) (is_sorted R es) h))

-- the entries of one table rise by key
same_name : (t n : List ℕ) → bytes_eq t n ≡ true → t ≡ n
same_name t n p = exact_bytes t n ((Equal-is (name_cmp t n)).0 (is_eq-slice_cmp t n ∙ p))

same_table : (t n m : List ℕ) → bytes_eq t n ≡ true → bytes_eq t m ≡ true → name_cmp n m ≡ Equal
same_table t n m p q = ap (λ x. name_cmp x m) (sym (same_name t n p)) ∙ ap (name_cmp t) (sym (same_name t m q)) ∙ tied_itself name_cmp_total t

other_first : (o s : Ordering) → is_eq o ≡ false → is_eq (ordering_then o s) ≡ false
other_first Less s h = refl
other_first Equal s h = cc
other_first Greater s h = refl

tied_first : (o s : Ordering) → is_eq o ≡ true → ordering_then o s ≡ s
tied_first Less s h = cc
tied_first Equal s h = refl
tied_first Greater s h = cc

table_below : (t : List ℕ) (e : Place × List Value) (es : List (Place × List Value)) → bytes_eq t e.0.0 ≡ true → AllByRecursion (λ x. place_cmp e.0 x.0 ≡ Less) es → AllByRecursion (λ x. key_cmp e.0.1 x.0 ≡ Less) (of_table t es)
table_below t e [] here h = tt
table_below t e (x ∷ es) here h = go (bytes_eq t x.0.0) refl (table_below t e es here h.1) where
  go : (b : Bool) → bytes_eq t x.0.0 ≡ b → AllByRecursion (λ y. key_cmp e.0.1 y.0 ≡ Less) (of_table t es) → AllByRecursion (λ y. key_cmp e.0.1 y.0 ≡ Less) (cond b ((x.0.1, x.1) ∷ of_table t es) (of_table t es))
  go false p rest = rest
  go true p rest = (sym (ap (λ o. ordering_then o (key_cmp e.0.1 x.0.1)) (same_table t e.0.0 x.0.0 here p)) ∙ h.0, rest)

table_rises : (t : List ℕ) (es : List (Place × List Value)) → Rises place_cmp es → Rises key_cmp (of_table t es)
table_rises t [] h = tt
table_rises t (e ∷ es) h = go (bytes_eq t e.0.0) refl (table_rises t es h.1) where
  go : (b : Bool) → bytes_eq t e.0.0 ≡ b → Rises key_cmp (of_table t es) → Rises key_cmp (cond b ((e.0.1, e.1) ∷ of_table t es) (of_table t es))
  go false p rest = rest
  go true p rest = (table_below t e es p h.0, rest)

-- what is found among the entries of one table
find-of_table : (t : List ℕ) (k : Key) (es : List (Place × List Value)) → find key_cmp k (of_table t es) ≡ find place_cmp (t, k) es
find-of_table t k [] = refl
find-of_table t k (e ∷ es) = go (bytes_eq t e.0.0) refl (find-of_table t k es) where
  go : (b : Bool) → bytes_eq t e.0.0 ≡ b → find key_cmp k (of_table t es) ≡ find place_cmp (t, k) es → find key_cmp k (cond b ((e.0.1, e.1) ∷ of_table t es) (of_table t es)) ≡ cond (eq_by_cmp place_cmp (t, k) e.0) (Some e.1) (find place_cmp (t, k) es)
  go false p rest = rest ∙ sym (ap (λ b. cond b (Some e.1) (find place_cmp (t, k) es)) (other_first (name_cmp t e.0.0) (key_cmp k e.0.1) (is_eq-slice_cmp t e.0.0 ∙ p)))
  go true p rest = ap (cond (is_eq (key_cmp k e.0.1)) (Some e.1)) rest
      ∙ ap (λ o. cond (is_eq o) (Some e.1) (find place_cmp (t, k) es)) (sym (tied_first (name_cmp t e.0.0) (key_cmp k e.0.1) (is_eq-slice_cmp t e.0.0 ∙ p)))

pub get-table_rows : (rows : RowMap) (t : List ℕ) (k : Key) → rows_of_table rows t k ≡ find key_cmp k (table_rows rows t)
get-table_rows rows t k = get-entries rows (t, k) ∙ sym (find-of_table t k (entries rows))

pub table_rows-rise : (rows : RowMap) (t : List ℕ) → Rises key_cmp (table_rows rows t)
table_rows-rise rows t = table_rises t (entries rows) (rises place_cmp (entries rows) (entries_sorted rows))

-- each entry is found
found_behind : (e : Entry) (es fs : List Entry) → AllByRecursion (λ x. key_cmp e.0 x.0 ≡ Less) fs → AllByRecursion (λ x. find key_cmp x.0 es ≡ Some x.1) fs → AllByRecursion (λ x. find key_cmp x.0 (e ∷ es) ≡ Some x.1) fs
found_behind e es [] above h = tt
found_behind e es (x ∷ fs) above h = (ap (λ o. cond (is_eq o) (Some e.1) (find key_cmp x.0 es)) (key_cmp_total.antisymm x.0 e.0 ∙ ap ordering_reverse above.0) ∙ h.0, found_behind e es fs above.1 h.1)

pub each_found : (es : List Entry) → Rises key_cmp es → AllByRecursion (λ x. find key_cmp x.0 es ≡ Some x.1) es
each_found [] h = tt
each_found (e ∷ es) h = (ap (λ o. cond (is_eq o) (Some e.1) (find key_cmp e.0 es)) (tied_itself key_cmp_total e.0), found_behind e es es h.0 (each_found es h.1))

-- nothing below all entries is found
pub none_below : (k : Key) (es : List Entry) → AllByRecursion (λ x. key_cmp k x.0 ≡ Less) es → find key_cmp k es ≡ None
none_below k [] h = refl
none_below k (e ∷ es) h = ap (λ o. cond (is_eq o) (Some e.1) (find key_cmp k es)) h.0 ∙ none_below k es h.1

above_both : (j k : Key) (es : List Entry) → key_cmp j k ≡ Less → AllByRecursion (λ x. key_cmp k x.0 ≡ Less) es → AllByRecursion (λ x. key_cmp j x.0 ≡ Less) es
above_both j k [] e h = tt
above_both j k (x ∷ es) e h = (key_cmp_total.trans j k x.0 e h.0, above_both j k es e h.1)

-- what comes after a key that comes after another one
past_further : (after : Option Key) (k q : Key) → is_past after k ≡ true → key_cmp k q ≡ Less → is_past after q ≡ true
past_further None k q p e = refl
past_further (Some a) k q p e = ap is_lt (key_cmp_total.trans a k q (less (key_cmp a k) (subst T (sym p) tt)) e)

all_past : (after : Option Key) (k : Key) (es : List Entry) → is_past after k ≡ true → AllByRecursion (λ x. key_cmp k x.0 ≡ Less) es → past after es ≡ es
all_past after k [] p h = refl
all_past after k (e ∷ es) p h = ap (λ b. cond b (e ∷ past after es) (past after es)) (past_further after k e.0 p h.0) ∙ ap (λ xs. e ∷ xs) (all_past after k es p h.1)

behind : (k : Key) (es : List Entry) → AllByRecursion (λ x. key_cmp k x.0 ≡ Less) es → past (Some k) es ≡ es
behind k [] h = refl
behind k (e ∷ es) h = ap (λ b. cond b (e ∷ past (Some k) es) (past (Some k) es)) (ap is_lt h.0) ∙ ap (λ xs. e ∷ xs) (behind k es h.1)

-- the least key past another one begins the rest
abbrev IsLeastPast : Option Key → Key → List Entry → Type 0
IsLeastPast after k es = AllByRecursion (λ x. is_past after x.0 ≡ true → key_cmp x.0 k ≢ Less) es

abbrev BeginsRest : Option Key → Key → Key → Entry → List Entry → Bool → Bool → Type 0
BeginsRest after k r e es b c = cond b (e ∷ past after es) (past after es) ≡ (k, r) ∷ cond c (e ∷ past (Some k) es) (past (Some k) es)

first_past : (after : Option Key) (k r : Key) (es : List Entry) → Rises key_cmp es → find key_cmp k es ≡ Some r → is_past after k ≡ true → IsLeastPast after k es → past after es ≡ (k, r) ∷ past (Some k) es
first_past after k r [] s f p l = cc
first_past after k r (e ∷ es) s f p l = go (key_cmp k e.0) refl f (λ h. first_past after k r es s.1 h p l.1) where
  skip : (b : Bool) → is_past after e.0 ≡ b → key_cmp k e.0 ≡ Greater → past after es ≡ (k, r) ∷ past (Some k) es → BeginsRest after k r e es b false
  skip true q g h = absurd (l.0 q (key_cmp_total.antisymm e.0 k ∙ ap ordering_reverse g))
  skip false q g h = h

  go : (o : Ordering) → key_cmp k e.0 ≡ o → cond (is_eq o) (Some e.1) (find key_cmp k es) ≡ Some r → (find key_cmp k es ≡ Some r → past after es ≡ (k, r) ∷ past (Some k) es) → BeginsRest after k r e es (is_past after e.0) (is_lt o)
  go Less g h rest = let none = none_below k es (above_both k e.0 es g s.0) in cc
  go Equal g h rest =
      let same : k ≡ e.0 = exact_keys k e.0 g in
      let past_it : is_past after e.0 ≡ true = ap (is_past after) (sym same) ∙ p in
      let row : e.1 ≡ r = cc in
      let further : past (Some k) es ≡ es = subst (λ q. past (Some q) es ≡ es) (sym same) (behind e.0 es s.0) in
      ap (λ b. cond b (e ∷ past after es) (past after es)) past_it
      ∙ (λ i. (sym same i, row i) ∷ (all_past after e.0 es past_it s.0 ∙ sym further) i)
  go Greater g h rest = skip (is_past after e.0) refl g (rest h)

none_past : (after : Option Key) (es : List Entry) → AllByRecursion (λ x. is_past after x.0 ≢ true) es → past after es ≡ []
none_past after [] h = refl
none_past after (e ∷ es) h = go (is_past after e.0) refl (none_past after es h.1) where
  go : (b : Bool) → is_past after e.0 ≡ b → past after es ≡ [] → cond b (e ∷ past after es) (past after es) ≡ []
  go true q rest = absurd (h.0 q)
  go false q rest = rest

is_past-IsPast : (after : Option Key) (k : Key) → is_past after k ≡ true → IsPast after k
is_past-IsPast None k h = tt
is_past-IsPast (Some a) k h = less (key_cmp a k) (subst T (sym h) tt)

IsPast-is_past : (after : Option Key) (k : Key) → IsPast after k → is_past after k ≡ true
IsPast-is_past None k h = refl
IsPast-is_past (Some a) k h = ap is_lt h

pub all_by : {P Q : Entry → Type 0} (es : List Entry) → ((x : Entry) → P x → Q x) → AllByRecursion P es → AllByRecursion Q es
all_by [] f h = tt
all_by (e ∷ es) f h = (f e h.0, all_by es f h.1)

-- what `next` gives begins the rest of the rows, past the key that it was given
pub goes_along : (rows : RowMap) (t : List ℕ) (after : Option Key) (r : Option (Bor Key × Bor Key)) → MatchOption r (IsLast (rows_of_table rows t) after) (λ x. IsNext (rows_of_table rows t) after x.0.now x.1.now)
    → MatchOption r (past after (table_rows rows t) ≡ []) (λ x. past after (table_rows rows t) ≡ (x.0.now, x.1.now) ∷ past (Some x.0.now) (table_rows rows t))
goes_along rows t after None h =
    none_past after (table_rows rows t) (all_by (table_rows rows t) (λ x f p. h x.0 x.1 (get-table_rows rows t x.0 ∙ f) (is_past-IsPast after x.0 p)) (each_found (table_rows rows t) (table_rows-rise rows t)))
goes_along rows t after (Some x) h =
    first_past after x.0.now x.1.now (table_rows rows t) (table_rows-rise rows t) (sym (get-table_rows rows t x.0.now) ∙ h.held) (IsPast-is_past after x.0.now h.past)
    (all_by (table_rows rows t) (λ y f p. h.least y.0 y.1 (get-table_rows rows t y.0 ∙ f) (is_past-IsPast after y.0 p)) (each_found (table_rows rows t) (table_rows-rise rows t)))

-- all rows come after none
pub past-None : (es : List Entry) → past None es ≡ es
past-None [] = refl
past-None (e ∷ es) = ap (λ xs. e ∷ xs) (past-None es)
