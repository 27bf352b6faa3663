-- Entries in the order of their keys: what a search among them tells, and what a change at its place makes of them.
use Rattle.std.proofs.Common.{Bor, ◌≡◌, ◌+◌, ◌-◌, ◌<◌, ◌≤◌, ◌++◌, ◌⊎◌, Bool, true, false, cond, ℕ, zero, suc, List, [], ◌∷◌, length, get_or, set, drop, filter, slice_get, Option, Some, None, Result, Ok, Err, HoldsAt, arith, add-one, refl, sym, ap, subst, ◌∙◌, ⊎_elim}
use Rattle.std.specs.declared.cmp.Ordering.{Ordering}
use Rattle.std.specs.declared.cmp.Ordering.TheVariants.{Less, Equal, Greater}
use Rattle.std.specs.Ordering.{eq_by_cmp, is_eq, is_lt, ordering_reverse}
use Rattle.std.specs.Cmp.{eq_by_cmp_equiv, tied_itself}
use Rattle.std.specs.List.{AllByRecursion, AllWithin, remove}
use Rattle.std.specs.List.Sorted.{IsStrictlySortedBy, IsSortedBy, IsBinarySearchResult, IsSearchInRange}
use Rattle.std.specs.Map.{keys_of}
use Rattle.std.specs.Map.Iter.{TakesFirst, deref_pair}
use Rattle.std.specs.Option.{option_map}
use Rattle.std.specs.BTreeMap.{is_at}
use Rattle.std.specs.FinMap.{FinMap, from_entries, get, insert, same_map, get-remove, get-from_entries, from_entries_push}
use Rattle.std.specs.FinMap as map
use Rattle.std.proofs.lemmas.Bool.{cases_eq}
use Rattle.std.proofs.lemmas.List.{get_or-map}
use Rattle.std.proofs.lemmas.List.Sorted.{searchable_from_sorted}
use Rattle.std.proofs.lemmas.Map.Entries.{lookup_from_place, lookup_at_gap}
use Rattle.std.proofs.lemmas.Map.Keys.{sorted_head, sorted_tail, IsDistinct-from_sorted, Less-from_sorted}
use Rattle.std.proofs.lemmas.Option.{slice_get-get_or, get_or_from_slice_get, slice_get_within}
use Rattle.sr_base.specs.declared.value.Value.{Value}
use Rattle.sr_base.specs.Order.{key_cmp}
use Rattle.sr_base.specs.Inner.Order.{key_cmp_total}
use Rattle.sr_base.proofs.Exact.{exact_keys}
use Rattle.sr_rows.specs.Inner.Gathered.{first_of, first_filled, and_filled, filled_rows}
use Rattle.sr_rows.specs.Inner.Searches.{InOrder, EndsAt}
use Rattle.sr_rows.proofs.Entries.{get-lookup, from_entries-given, from_entries-removed}
use Rattle.sr_rows.proofs.Walking.{Key, Entry, at, above_head, turned, same_key}

-- the key of the entry at an index
abbrev IsKeyAt : List Entry → ℕ → Key → Type 0
IsKeyAt es i k = HoldsAt (λ e. e.0 ≡ k) es i

-- a key among those that come after another one
below_at : (x : Key) (es : List Entry) (i : ℕ) (k : Key) → AllByRecursion (λ y. key_cmp x y ≡ Less) (keys_of es) → i < length es → IsKeyAt es i k → key_cmp x k ≡ Less
below_at x [] i k a l h = absurd (omega arith)
below_at x (e ∷ es) zero k a l h = ap (key_cmp x) (sym (h e)) ∙ a.0
below_at x (e ∷ es) (suc i) k a l h = below_at x es i k a.1 (omega arith) (λ d. h d)

-- what stands at the place of a key
pub at_place : (es : List Entry) (i : ℕ) (k : Key) → InOrder es → i < length es → IsKeyAt es i k → (d : Entry) → at es k ≡ Some (get_or es i d).1
at_place es i k s l h d = lookup_from_place (eq_by_cmp_equiv key_cmp_total) es i k (get_or es i d).1 (IsDistinct-from_sorted key_cmp (keys_of es) s) (slice_get-get_or es i d l ∙ (λ j. Some (h d j, (get_or es i d).1)))

-- nothing stands at a key between the lower ones and the higher ones
pub at_gap : (es : List Entry) (i : ℕ) (k : Key) → InOrder es → EndsAt es k (Err i) → at es k ≡ None
at_gap es i k s h = lookup_at_gap key_cmp_total k es i s
    (λ j e l g. turned e.0 k (ap (λ (x : Entry). key_cmp x.0 k) (sym (get_or_from_slice_get es j e e g)) ∙ h.1 j e (omega arith) l))
    (λ e g. key_cmp_total.antisymm k e.0 ∙ ap ordering_reverse (ap (λ (x : Entry). key_cmp x.0 k) (sym (get_or_from_slice_get es i e e g)) ∙ h.2 i e (omega arith) (slice_get_within es i e g)))

pub order_none : InOrder []
unfolding IsStrictlySortedBy
order_none = tt

-- ---- a place in which something else is put

same_keys : (es : List Entry) (i : ℕ) (k : Key) (v : Option (List Value)) → IsKeyAt es i k → keys_of (set es i (k, v)) ≡ keys_of es
same_keys [] i k v h = refl
same_keys (e ∷ es) zero k v h = ap (λ x. x ∷ keys_of es) (sym (h e))
same_keys (e ∷ es) (suc i) k v h = ap (λ ks. e.0 ∷ ks) (same_keys es i k v (λ d. h d))

pub order_set : (es : List Entry) (i : ℕ) (k : Key) (v : Option (List Value)) → IsKeyAt es i k → InOrder es → InOrder (set es i (k, v))
order_set es i k v h s = subst (IsStrictlySortedBy key_cmp) (sym (same_keys es i k v h)) s

-- the key of the head is another one than that of a later entry
apart : (e : Entry) (es : List Entry) (i : ℕ) (k q : Key) → InOrder (e ∷ es) → i < length es → IsKeyAt es i k → is_eq (key_cmp q e.0) ≡ true → is_eq (key_cmp k q) ≡ true → ⊥
apart e es i k q s l h a b =
    let less = below_at e.0 es i k (sorted_head key_cmp e.0 (keys_of es) s) l h in
    let same : k ≡ e.0 = same_key k q b ∙ same_key q e.0 a in
    let tied = tied_itself key_cmp_total e.0 in
    let both : Less ≡ Equal = sym less ∙ ap (key_cmp e.0) same ∙ tied in
    cc

swap : (x w y : Option (Option (List Value))) (a b : Bool) → (a ≡ true → b ≡ true → ⊥) → cond a x (cond b w y) ≡ cond b w (cond a x y)
swap x w y true true h = absurd (h refl refl)
swap x w y true false h = refl
swap x w y false b h = refl

twice : (x y z : Option (Option (List Value))) (b : Bool) → cond b x y ≡ cond b x (cond b z y)
twice x y z true = refl
twice x y z false = refl

at_set : (es : List Entry) (i : ℕ) (k : Key) (v : Option (List Value)) → InOrder es → i < length es → IsKeyAt es i k → (q : Key) → at (set es i (k, v)) q ≡ cond (is_at (key_cmp k) q) (Some v) (at es q)
at_set [] i k v s l h q = absurd (omega arith)
at_set (e ∷ es) zero k v s l h q =
    twice (Some v) (at es q) (Some e.1) (is_eq (key_cmp q k))
    ∙ (λ j. cond ((eq_by_cmp_equiv key_cmp_total).symm q k j) (Some v) (cond (is_eq (key_cmp q (sym (h e) j))) (Some e.1) (at es q)))
at_set (e ∷ es) (suc i) k v s l h q =
    ap (cond (is_eq (key_cmp q e.0)) (Some e.1)) (at_set es i k v (sorted_tail key_cmp e.0 (keys_of es) s) (omega arith) (λ d. h d) q)
    ∙ swap (Some e.1) (Some v) (at es q) (is_eq (key_cmp q e.0)) (is_eq (key_cmp k q)) (apart e es i k q s (omega arith) (λ d. h d))

pub map_set : (es : List Entry) (i : ℕ) (k : Key) (v : Option (List Value)) → InOrder es → i < length es → IsKeyAt es i k → from_entries {R = key_cmp} (set es i (k, v)) ≡ insert (from_entries es) k v
map_set es i k v s l h = from_entries-given key_cmp_total exact_keys es (set es i (k, v)) k v (at_set es i k v s l h)

-- ---- a place that is removed

kept : (x : Key) (es : List Entry) (i : ℕ) → AllByRecursion (λ y. key_cmp x y ≡ Less) (keys_of es) → AllByRecursion (λ y. key_cmp x y ≡ Less) (keys_of (remove es i))
kept x [] zero h = tt
kept x [] (suc i) h = tt
kept x (e ∷ es) zero h = h.1
kept x (e ∷ es) (suc i) h = (h.0, kept x es i h.1)

pub order_removed : (es : List Entry) (i : ℕ) → InOrder es → InOrder (remove es i)
unfolding IsStrictlySortedBy
order_removed [] zero s = tt
order_removed [] (suc i) s = tt
order_removed (e ∷ es) zero s = s.1
order_removed (e ∷ es) (suc i) s = (kept e.0 es i s.0, order_removed es i s.1)

at_removed : (es : List Entry) (i : ℕ) (k : Key) → InOrder es → i < length es → IsKeyAt es i k → (q : Key) → at (remove es i) q ≡ cond (is_at (key_cmp k) q) None (at es q)
at_removed [] i k s l h q = absurd (omega arith)
at_removed (e ∷ es) zero k s l h q = go (is_eq (key_cmp k q)) refl where
  none : is_eq (key_cmp k q) ≡ true → (o : Option (Option (List Value))) → at es q ≡ o → o ≡ None
  none b None g = refl
  none b (Some v) g =
      let same : e.0 ≡ q = h e ∙ same_key k q b in
      let both : Equal ≡ Less = sym (tied_itself key_cmp_total e.0) ∙ ap (key_cmp e.0) same ∙ above_head e.0 es (sorted_head key_cmp e.0 (keys_of es) s) q v g in
      cc

  go : (b : Bool) → is_eq (key_cmp k q) ≡ b → at es q ≡ cond b None (cond (is_eq (key_cmp q e.0)) (Some e.1) (at es q))
  go true g = none g (at es q) refl
  go false g = ap (λ c. cond c (Some e.1) (at es q)) (sym (ap (λ x. is_eq (key_cmp q x)) (h e) ∙ (eq_by_cmp_equiv key_cmp_total).symm q k ∙ g))
at_removed (e ∷ es) (suc i) k s l h q =
    ap (cond (is_eq (key_cmp q e.0)) (Some e.1)) (at_removed es i k (sorted_tail key_cmp e.0 (keys_of es) s) (omega arith) (λ d. h d) q)
    ∙ swap (Some e.1) None (at es q) (is_eq (key_cmp q e.0)) (is_eq (key_cmp k q)) (apart e es i k q s (omega arith) (λ d. h d))

pub map_removed : (es : List Entry) (i : ℕ) (k : Key) → InOrder es → i < length es → IsKeyAt es i k → from_entries {R = key_cmp} (remove es i) ≡ map.remove (from_entries es) k
map_removed es i k s l h = from_entries-removed key_cmp_total exact_keys es (remove es i) k (at_removed es i k s l h)

-- ---- a new place past all others

pub order_pushed : (es : List Entry) (k : Key) (v : Option (List Value)) → InOrder es → AllWithin (λ e. key_cmp e.0 k ≡ Less) es 0 (length es) → InOrder (es ++ (k, v) ∷ [])
unfolding IsStrictlySortedBy
order_pushed [] k v s h = (tt, tt)
order_pushed (e ∷ es) k v s h = (above es s.0, order_pushed es k v s.1 (λ j d a b. h (suc j) d (omega arith) (omega arith))) where
  above : (es : List Entry) → AllByRecursion (λ y. key_cmp e.0 y ≡ Less) (keys_of es) → AllByRecursion (λ y. key_cmp e.0 y ≡ Less) (keys_of (es ++ (k, v) ∷ []))
  above [] a = (h 0 e (omega arith) (omega arith), tt)
  above (x ∷ xs) a = (a.0, above xs a.1)

pub map_pushed : (es : List Entry) (k : Key) (v : Option (List Value)) → at es k ≡ None → from_entries {R = key_cmp} (es ++ (k, v) ∷ []) ≡ insert (from_entries es) k v
map_pushed es k v none = from_entries_push key_cmp_total exact_keys es k v (sym (get-from_entries key_cmp_total es k) ∙ get-lookup key_cmp_total es k ∙ none)

-- ---- what a search finds

less_at : (es : List Entry) (i j : ℕ) (d : Entry) → InOrder es → i < j → j < length es → key_cmp (get_or es i d).0 (get_or es j d).0 ≡ Less
less_at es i j d s a b =
    sym (λ t. key_cmp (get_or-map (λ (e : Entry). e.0) es i d d.0 (omega arith) t) (get_or-map (λ (e : Entry). e.0) es j d d.0 b t))
    ∙ Less-from_sorted key_cmp (keys_of es) i j d.0 s a (omega (arith, length_keys es))
  where
    length_keys : (es : List Entry) → length (keys_of es) ≡ length es
    length_keys [] = refl
    length_keys (e ∷ es) = ap suc (length_keys es)

in_order : (es : List Entry) → InOrder es → IsSortedBy (λ a b. is_lt (key_cmp a.0 b.0)) es
in_order es s j d a b = ap is_lt (turned (get_or es j d).0 (get_or es (j + 1) d).0 (less_at es j (j + 1) d s (omega arith) b))

pub search_ends : (es : List Entry) (k : Key) (r : Result ℕ ℕ) → InOrder es → IsSearchInRange r (length es) → IsBinarySearchResult (λ e. key_cmp e.0 k) es r → EndsAt es k r
search_ends es k (Ok i) s b h = (b, λ d. exact_keys (get_or es i d).0 k (h d))
search_ends es k (Err i) s b h =
    let parted = h (searchable_from_sorted key_cmp_total (λ (e : Entry). e.0) es k (in_order es s)) in
    (b, parted.0, parted.1)

pub less : (o : Ordering) → is_lt o ≡ true → o ≡ Less
less Less e = refl
less Equal e = cc
less Greater e = cc

-- a key past the last one is past all
pub past_last : (es : List Entry) (k : Key) (x : Entry) → InOrder es → Some x ≡ slice_get es (length es - 1) → key_cmp x.0 k ≡ Less → EndsAt es k (Err (length es))
past_last es k x s last less = (omega arith, λ j d a b. go j d b (cases_eq j (length es - 1)), λ j d a b. absurd (omega arith)) where
  at_last : (d : Entry) → get_or es (length es - 1) d ≡ x
  at_last d = get_or_from_slice_get es (length es - 1) x d (sym last)

  go : (j : ℕ) (d : Entry) → j < length es → (j ≡ length es - 1) ⊎ (j ≡ length es - 1 → ⊥) → key_cmp (get_or es j d).0 k ≡ Less
  go j d b c = ⊎_elim
      (λ (e : j ≡ length es - 1). ap (λ n. key_cmp (get_or es n d).0 k) e ∙ ap (λ (y : Entry). key_cmp y.0 k) (at_last d) ∙ less)
      (λ (n : j ≡ length es - 1 → ⊥). key_cmp_total.trans (get_or es j d).0 x.0 k (ap (λ (y : Entry). key_cmp (get_or es j d).0 y.0) (sym (at_last d)) ∙ less_at es j (length es - 1) d s (omega (arith, n)) (omega arith)) less) c

-- ---- the places whose keys come after a key

all_pass : (p : Entry → Bool) (es : List Entry) → AllByRecursion (λ e. p e ≡ true) es → filter p es ≡ es
all_pass p [] h = refl
all_pass p (e ∷ es) h = ap (λ b. cond b (e ∷ filter p es) (filter p es)) h.0 ∙ ap (λ xs. e ∷ xs) (all_pass p es h.1)

drop_gap : (p : Entry → Bool) (es : List Entry) (i : ℕ) → AllWithin (λ e. p e ≡ false) es 0 i → AllWithin (λ e. p e ≡ true) es i (length es) → i ≤ length es → drop i es ≡ filter p es
drop_gap p [] zero a b l = refl
drop_gap p [] (suc i) a b l = refl
drop_gap p (e ∷ es) zero a b l =
    sym (ap (λ c. cond c (e ∷ filter p es) (filter p es)) (b 0 e (omega arith) (omega arith)) ∙ ap (λ xs. e ∷ xs) (sym (drop_gap p es zero (λ j d m n. absurd (omega arith)) (λ j d m n. b (suc j) d (omega arith) (omega arith)) (omega arith))))
drop_gap p (e ∷ es) (suc i) a b l =
    drop_gap p es i (λ j d m n. a (suc j) d (omega arith) (omega arith)) (λ j d m n. b (suc j) d (omega arith) (omega arith)) (omega arith)
    ∙ sym (ap (λ c. cond c (e ∷ filter p es) (filter p es)) (a 0 e (omega arith) (omega arith)))

drop_place : (es : List Entry) (i : ℕ) (k : Key) → InOrder es → i < length es → IsKeyAt es i k → drop (suc i) es ≡ filter (λ e. is_lt (key_cmp k e.0)) es
drop_place [] i k s l h = absurd (omega arith)
drop_place (e ∷ es) zero k s l h =
    sym (ap (λ c. cond c (e ∷ filter (λ x. is_lt (key_cmp k x.0)) es) (filter (λ x. is_lt (key_cmp k x.0)) es)) (ap is_lt (ap (key_cmp k) (h e) ∙ tied_itself key_cmp_total k))
    ∙ all_pass (λ x. is_lt (key_cmp k x.0)) es (above es (sorted_head key_cmp e.0 (keys_of es) s))) where
      above : (es : List Entry) → AllByRecursion (λ y. key_cmp e.0 y ≡ Less) (keys_of es) → AllByRecursion (λ x. is_lt (key_cmp k x.0) ≡ true) es
      above [] a = tt
      above (x ∷ xs) a = (ap (λ y. is_lt (key_cmp y x.0)) (sym (h e)) ∙ ap is_lt a.0, above xs a.1)
drop_place (e ∷ es) (suc i) k s l h =
    drop_place es i k (sorted_tail key_cmp e.0 (keys_of es) s) (omega arith) (λ d. h d)
    ∙ sym (ap (λ c. cond c (e ∷ filter (λ x. is_lt (key_cmp k x.0)) es) (filter (λ x. is_lt (key_cmp k x.0)) es)) (ap is_lt (turned e.0 k (below_at e.0 es i k (sorted_head key_cmp e.0 (keys_of es) s) (omega arith) (λ d. h d)))))

-- where the places behind a key begin
pub behind_at : (es : List Entry) (i : ℕ) (k : Key) → InOrder es → EndsAt es k (Ok i) → drop (i + 1) es ≡ filter (λ e. is_lt (key_cmp k e.0)) es
behind_at es i k s h = rw add-one (drop_place es i k s h.0 h.1)

pub behind_gap : (es : List Entry) (i : ℕ) (k : Key) → EndsAt es k (Err i) → drop i es ≡ filter (λ e. is_lt (key_cmp k e.0)) es
behind_gap es i k h = drop_gap (λ e. is_lt (key_cmp k e.0)) es i
    (λ j d a b. ap is_lt (turned (get_or es j d).0 k (h.1 j d a b)))
    (λ j d a b. ap is_lt (key_cmp_total.antisymm k (get_or es j d).0 ∙ ap ordering_reverse (h.2 j d a b)))
    h.0

-- ---- what a search among the places of a table tells of the table, and what a change makes of it

-- xs is the list that was searched
module _ (xs es : List Entry) (same : xs ≡ es) (s : InOrder es) (m : FinMap key_cmp (Option (List Value))) (view : from_entries es ≡ m) (k : Key) where
  ends : (r : Result ℕ ℕ) → EndsAt xs k r → EndsAt es k r
  ends r h = subst (λ ys. EndsAt ys k r) same h

  at_key : get m k ≡ at es k
  at_key = ap (λ n. get n k) (sym view) ∙ get-lookup key_cmp_total es k

  pub get_placed : (i : ℕ) (v : Option (List Value)) → EndsAt xs k (Ok i) → HoldsAt (λ e. e.1 ≡ v) es i → get m k ≡ Some v
  get_placed i v h held = at_key ∙ at_place es i k s (ends (Ok i) h).0 (ends (Ok i) h).1 (k, v) ∙ ap Some (held (k, v))

  pub get_missed : (i : ℕ) → EndsAt xs k (Err i) → get m k ≡ None
  get_missed i h = at_key ∙ at_gap es i k s (ends (Err i) h)

  pub order_placed : (i : ℕ) (v : Option (List Value)) (fs : List Entry) → EndsAt xs k (Ok i) → ((q : Key) → IsKeyAt es i q → fs ≡ set es i (q, v)) → InOrder fs
  order_placed i v fs h is = subst InOrder (sym (is k (ends (Ok i) h).1)) (order_set es i k v (ends (Ok i) h).1 s)

  pub map_placed : (i : ℕ) (v : Option (List Value)) (fs : List Entry) → EndsAt xs k (Ok i) → ((q : Key) → IsKeyAt es i q → fs ≡ set es i (q, v)) → from_entries fs ≡ insert m k v
  map_placed i v fs h is = ap (λ ys. from_entries {R = key_cmp} ys) (is k (ends (Ok i) h).1) ∙ map_set es i k v s (ends (Ok i) h).0 (ends (Ok i) h).1 ∙ ap (λ n. insert n k v) view

  pub order_taken : (i : ℕ) (fs : List Entry) → fs ≡ remove es i → InOrder fs
  order_taken i fs is = subst InOrder (sym is) (order_removed es i s)

  pub map_taken : (i : ℕ) (fs : List Entry) → EndsAt xs k (Ok i) → fs ≡ remove es i → from_entries fs ≡ map.remove m k
  map_taken i fs h is = ap (λ ys. from_entries {R = key_cmp} ys) is ∙ map_removed es i k s (ends (Ok i) h).0 (ends (Ok i) h).1 ∙ ap (λ n. map.remove n k) view

  pub map_missed : (i : ℕ) → EndsAt xs k (Err i) → m ≡ map.remove m k
  map_missed i h = same_map key_cmp_total exact_keys _ _ (λ q. go q (eq_by_cmp key_cmp q k) refl ∙ sym (get-remove key_cmp_total m k q)) where
    go : (q : Key) (b : Bool) → eq_by_cmp key_cmp q k ≡ b → get m q ≡ cond b None (get m q)
    go q false g = refl
    go q true g = ap (get m) (same_key q k g) ∙ get_missed i h

  pub order_grown : (i : ℕ) (v : Option (List Value)) (fs : List Entry) → EndsAt xs k (Err i) → i ≡ length es → fs ≡ es ++ (k, v) ∷ [] → InOrder fs
  order_grown i v fs h all is = subst InOrder (sym is) (order_pushed es k v s (subst (λ n. AllWithin (λ e. key_cmp e.0 k ≡ Less) es 0 n) all (ends (Err i) h).1))

  pub map_grown : (i : ℕ) (v : Option (List Value)) (fs : List Entry) → EndsAt xs k (Err i) → fs ≡ es ++ (k, v) ∷ [] → from_entries fs ≡ insert m k v
  map_grown i v fs h is = ap (λ ys. from_entries {R = key_cmp} ys) is ∙ map_pushed es k v (at_gap es i k s (ends (Err i) h)) ∙ ap (λ n. insert n k v) view

-- ---- the first row of some places

first_row : (es : List Entry) → first_filled es ≡ slice_get (filled_rows es) 0
first_row [] = refl
first_row (e ∷ es) = go e.1 (first_row es) where
  go : (o : Option (List Value)) → first_filled es ≡ slice_get (filled_rows es) 0 → first_of e.0 o (first_filled es) ≡ slice_get (and_filled e.0 o (filled_rows es)) 0
  go None rest = rest
  go (Some row) rest = refl

pub taken_first : (es : List Entry) (r : Option (Bor Key × Bor (List Value))) (t : List (Key × List Value)) → TakesFirst deref_pair (filled_rows es) r t → option_map deref_pair r ≡ first_filled es
taken_first es None t h = sym (first_row es ∙ ap (λ xs. slice_get xs 0) h.0)
taken_first es (Some x) t h = sym (first_row es ∙ ap (λ xs. slice_get xs 0) h)

pub all_kept : (es : List Entry) → es ≡ filter (λ e. true) es
all_kept [] = refl
all_kept (e ∷ es) = ap (λ xs. e ∷ xs) (all_kept es)

-- ---- entries that are put into a map from the last to the first

abbrev pub with_entries : List Entry → FinMap key_cmp (Option (List Value)) → FinMap key_cmp (Option (List Value))
with_entries [] m = m
with_entries (e ∷ es) m = insert (with_entries es m) e.0 e.1

pub with_entries-snoc : (es : List Entry) (e : Entry) (m : FinMap key_cmp (Option (List Value))) → with_entries (es ++ e ∷ []) m ≡ with_entries es (insert m e.0 e.1)
with_entries-snoc [] e m = refl
with_entries-snoc (x ∷ es) e m = ap (λ n. insert n x.0 x.1) (with_entries-snoc es e m)

pub with_entries-all : (es : List Entry) → with_entries es map.empty ≡ from_entries es
with_entries-all [] = refl
with_entries-all (e ∷ es) = ap (λ n. insert n e.0 e.1) (with_entries-all es)
