-- The first filled entry of those in a range is the next one.
use Rattle.std.proofs.Common.{◌≡◌, ◌≢◌, ◌&&◌, Bor, Bool, true, false, cond, if◌then◌else◌, filter, List, [], ◌∷◌, Option, Some, None, unwrap_or, refl, sym, ap, subst, ◌∙◌}
use Rattle.std.specs.declared.cmp.Ordering.{Ordering}
use Rattle.std.specs.declared.cmp.Ordering.TheVariants.{Less, Equal, Greater}
use Rattle.std.specs.Ordering.{is_eq, is_lt, ordering_reverse}
use Rattle.std.specs.Cmp.{Equal-is, tied_itself}
use Rattle.std.specs.List.{AllByRecursion}
use Rattle.std.specs.List.Sorted.{IsStrictlySortedBy}
use Rattle.std.specs.Map.{lookup, keys_of}
use Rattle.std.specs.BTreeMap.{is_at}
use Rattle.std.proofs.lemmas.Map.Keys.{sorted_head, sorted_tail}
use Rattle.sr_base.specs.declared.value.Value.{Value}
use Rattle.sr_base.specs.Order.{key_cmp}
use Rattle.sr_base.specs.Inner.Order.{key_cmp_total}
use Rattle.sr_base.proofs.Exact.{exact_keys}
use Rattle.std.specs.Option.{option_map, MatchOption}
use Rattle.std.specs.Map.Iter.{deref_pair}
use Rattle.std.specs.FinMap.{FinMap, from_entries, get}
use Rattle.sr_rows.specs.Inner.Gathered.{first_of, first_filled, row_of}
use Rattle.sr_rows.specs.Inner.Marks.{IsNext, IsLast}
use Rattle.sr_rows.specs.Walks.{IsPast}
use Rattle.sr_rows.proofs.Entries.{get-lookup}

abbrev pub Key : Type 0
Key = List Value

abbrev pub Entry : Type 0
Entry = Key × Option (List Value)

abbrev pub at : List Entry → Key → Option (Option (List Value))
at es q = lookup (is_at (key_cmp q)) es

pub same_key : (q k : Key) → is_eq (key_cmp q k) ≡ true → q ≡ k
same_key q k e = exact_keys q k ((Equal-is (key_cmp q k)).0 e)

-- a key that is found behind the head is above it
pub above_head : (k : Key) (es : List Entry) → AllByRecursion (λ y. key_cmp k y ≡ Less) (keys_of es) → (q : Key) (v : Option (List Value)) → at es q ≡ Some v → key_cmp k q ≡ Less
above_head k [] s q v e = cc
above_head k (x ∷ es) s q v e = go (is_eq (key_cmp q x.0)) refl e (above_head k es s.1 q v) where
  go : (b : Bool) → is_eq (key_cmp q x.0) ≡ b → cond b (Some x.1) (at es q) ≡ Some v → (at es q ≡ Some v → key_cmp k q ≡ Less) → key_cmp k q ≡ Less
  go true h f rest = ap (key_cmp k) (same_key q x.0 h) ∙ s.0
  go false h f rest = rest f

pub turned : (k q : Key) → key_cmp k q ≡ Less → key_cmp q k ≡ Greater
turned k q e = key_cmp_total.antisymm q k ∙ ap ordering_reverse e

-- what is shown of the entry that is found
abbrev Least : (Key → Bool) → List Entry → Key → List Value → Type 0
Least p es k r = (at es k ≡ Some (Some r)) × (p k ≡ true) × ((q found : List Value) → at es q ≡ Some (Some found) → p q ≡ true → key_cmp q k ≢ Less)

passed : (p : Key → Bool) (x : Entry) (es : List Entry) → IsStrictlySortedBy key_cmp (keys_of (x ∷ es)) → (k r : List Value) → (p x.0 ≡ true → x.1 ≡ None) → Least p es k r → Least p (x ∷ es) k r
passed p x es s k r empty l =
    let above = above_head x.0 es (sorted_head key_cmp x.0 (keys_of es) s) k (Some r) l.0 in
    (ap (λ o. cond (is_eq o) (Some x.1) (at es k)) (turned x.0 k above) ∙ l.0, l.1, λ q found e h. go q found (is_eq (key_cmp q x.0)) refl e h) where
      go : (q found : List Value) (b : Bool) → is_eq (key_cmp q x.0) ≡ b → cond b (Some x.1) (at es q) ≡ Some (Some found) → p q ≡ true → key_cmp q k ≢ Less
      go q found true h e pq = let none = empty (ap p (sym (same_key q x.0 h)) ∙ pq) in cc
      go q found false h e pq = l.2 q found e pq

taken : (p : Key → Bool) (x : Entry) (es : List Entry) → IsStrictlySortedBy key_cmp (keys_of (x ∷ es)) → (r : List Value) → p x.0 ≡ true → x.1 ≡ Some r → Least p (x ∷ es) x.0 r
taken p x es s r px held =
    (ap (λ o. cond (is_eq o) (Some x.1) (at es x.0)) (tied_itself key_cmp_total x.0) ∙ ap Some held, px, λ q found e h less. go q found (is_eq (key_cmp q x.0)) refl e less) where
      go : (q found : List Value) (b : Bool) → is_eq (key_cmp q x.0) ≡ b → cond b (Some x.1) (at es q) ≡ Some (Some found) → key_cmp q x.0 ≡ Less → ⊥
      go q found true h e less = let tied = ap is_eq less in cc
      go q found false h e less = let above = turned x.0 q (above_head x.0 es (sorted_head key_cmp x.0 (keys_of es) s) q (Some found) e) in cc

same_entry : (a b k r : List Value) → ◌≡◌ {A = Option (List Value × List Value)} (Some (a, b)) (Some (k, r)) → (a ≡ k) × (b ≡ r)
same_entry a b k r e = (ap (λ (o : Option (List Value × List Value)). (unwrap_or {T = List Value × List Value} o (a, b)).0) e, ap (λ (o : Option (List Value × List Value)). (unwrap_or {T = List Value × List Value} o (a, b)).1) e)

pub found : (p : Key → Bool) (es : List Entry) → IsStrictlySortedBy key_cmp (keys_of es) → (k r : List Value) → first_filled (filter (λ e. p e.0) es) ≡ Some (k, r) → Least p es k r
found p [] s k r e = cc
found p (x ∷ es) s k r e = go (p x.0) refl x.1 refl e (found p es (sorted_tail key_cmp x.0 (keys_of es) s) k r) where
  go : (b : Bool) → p x.0 ≡ b → (o : Option (List Value)) → x.1 ≡ o → first_filled (if b then x ∷ filter (λ e. p e.0) es else filter (λ e. p e.0) es) ≡ Some (k, r)
      → (first_filled (filter (λ e. p e.0) es) ≡ Some (k, r) → Least p es k r) → Least p (x ∷ es) k r
  go false px o held f rest = passed p x es s k r (λ t. cc) (rest f)
  go true px None held f rest = passed p x es s k r (λ t. held) (rest (sym (ap (λ o. first_of x.0 o (first_filled (filter (λ e. p e.0) es))) held) ∙ f))
  go true px (Some row) held f rest =
      let same = same_entry x.0 row k r (sym (ap (λ o. first_of x.0 o (first_filled (filter (λ e. p e.0) es))) held) ∙ f) in
      subst (λ key. Least p (x ∷ es) key r) same.0 (taken p x es s r px (held ∙ ap Some same.1))

pub missing : (p : Key → Bool) (es : List Entry) → first_filled (filter (λ e. p e.0) es) ≡ None → (q row : List Value) → at es q ≡ Some (Some row) → p q ≡ true → ⊥
missing p [] e q row h pq = cc
missing p (x ∷ es) e q row h pq = go (p x.0) refl x.1 refl e (λ f. missing p es f q row) where
  behind : (b : Bool) → is_eq (key_cmp q x.0) ≡ b → cond b (Some x.1) (at es q) ≡ Some (Some row) → ¬ ((p x.0 ≡ true) × (x.1 ≡ Some row)) → at es q ≡ Some (Some row)
  behind true tie f apart = absurd (apart (ap p (sym (same_key q x.0 tie)) ∙ pq, cc))
  behind false tie f apart = f

  go : (b : Bool) → p x.0 ≡ b → (o : Option (List Value)) → x.1 ≡ o → first_filled (if b then x ∷ filter (λ e. p e.0) es else filter (λ e. p e.0) es) ≡ None
      → (first_filled (filter (λ e. p e.0) es) ≡ None → at es q ≡ Some (Some row) → p q ≡ true → ⊥) → ⊥
  go false px o held f rest = rest f (behind (is_eq (key_cmp q x.0)) refl h (λ both. let t = both.0 in cc)) pq
  go true px None held f rest = rest (sym (ap (λ o. first_of x.0 o (first_filled (filter (λ e. p e.0) es))) held) ∙ f) (behind (is_eq (key_cmp q x.0)) refl h (λ both. let t = both.1 in cc)) pq
  go true px (Some other) held f rest = let g = sym (ap (λ o. first_of x.0 o (first_filled (filter (λ e. p e.0) es))) held) ∙ f in cc

row_of-Some : (o : Option (Option (List Value))) (row : List Value) → row_of o ≡ Some row → o ≡ Some (Some row)
row_of-Some None row e = cc
row_of-Some (Some place) row e = ap Some e

-- the first filled entry of those past a key is the next row of the map that the entries make
pub next_is : (es : List Entry) → IsStrictlySortedBy key_cmp (keys_of es) → (m : FinMap key_cmp (Option (List Value))) → from_entries es ≡ m
    → (after : Option Key) (p : Key → Bool) → ((q : Key) → p q ≡ true → IsPast after q) → ((q : Key) → IsPast after q → p q ≡ true)
    → (r : Option (Bor Key × Bor (List Value))) → option_map deref_pair r ≡ first_filled (filter (λ e. p e.0) es)
    → MatchOption r (IsLast (λ k. row_of (get m k)) after) (λ x. IsNext (λ k. row_of (get m k)) after x.0.now x.1.now)
next_is es s m view after p tells holds r e = go r e where
  at_map : (q : Key) → get m q ≡ at es q
  at_map q = ap (λ n. get n q) (sym view) ∙ get-lookup key_cmp_total es q

  go : (r : Option (Bor Key × Bor (List Value))) → option_map deref_pair r ≡ first_filled (filter (λ e. p e.0) es)
      → MatchOption r (IsLast (λ k. row_of (get m k)) after) (λ x. IsNext (λ k. row_of (get m k)) after x.0.now x.1.now)
  go None e = λ q row held past. missing p es (sym e) q row (sym (at_map q) ∙ row_of-Some (get m q) row held) (holds q past)
  go (Some x) e =
      let l = found p es s x.0.now x.1.now (sym e) in
      record {
        held = ap row_of (at_map x.0.now ∙ l.0);
        past = tells x.0.now l.1;
        least = λ q row held past. l.2 q row (sym (at_map q) ∙ row_of-Some (get m q) row held) (holds q past);
      }

pub less_tells : (o : Ordering) → (is_lt o && true) ≡ true → o ≡ Less
less_tells Less e = refl
less_tells Equal e = cc
less_tells Greater e = cc
