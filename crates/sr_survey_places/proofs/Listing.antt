-- What one place more under a key changes.
use Rattle.std.proofs.Common.{◌≡◌, ◌⊎◌, ℕ, zero, suc, ◌<◌, ◌≤◌, ◌+◌, ◌-◌, min, Bool, true, false, not, ◌||◌, cond, List, [], ◌∷◌, length, get_or, take, drop, Option, Some, None, is_some, Result, Ok, Err, OnOk, OnErr, IfOk, refl, sym, ap, inl, inr, subst, arith, ◌∙◌}
use Rattle.std.proofs.lemmas.List.Elements.{All-nil, All-cons, Contains-append_left, Contains-append_right, Contains-append_cases}
use Rattle.std.proofs.lemmas.List.{take-append-drop}
use Rattle.std.proofs.lemmas.List.Sorted.{IsNonDecreasingBy-insert}
use Rattle.std.proofs.lemmas.Map.Entries.{sum_by-set_value, sum_by_puts_entry}
use Rattle.std.specs.HashMap as table
use Rattle.std.specs.List.{Contains, AllWithin, insert, sum_by}
use Rattle.std.specs.Map.{lookup, set_value, values_of}
use Rattle.std.specs.Ordering.{is_eq}
use Rattle.sr_survey_places.specs.Inner.Ready.{IsReady}
use Rattle.sr_survey_places.specs.Inner.Search.{InOrder, places_in}
use Rattle.sr_survey_places.specs.Inner.Keys.{is_shared, key_cmp, key_eq}
use Rattle.sr_survey_places.specs.Inner.Listed.{ByKey, under, has_list, is_begun, count_of, IsBegun, IsLeft, IsListedUnder}
use Rattle.sr_survey_places.specs.declared.key.Key.{Key}
use Rattle.sr_survey_places.specs.declared.place.Place.{Place}
use Rattle.sr_survey_places.specs.Inner.Exact.{one_key, at_itself}

-- ---- a place among others

in_rest : (x y : Place) (rest : List Place) → Contains rest y → Contains (x ∷ rest) y
in_rest x y rest h = let l : h.0 < length rest = h.1 in (suc h.0, omega arith, h.2)

from_rest : (x y : Place) (rest : List Place) → Contains (x ∷ rest) y → Contains rest y ⊎ (y ≡ x)
from_rest x y rest h = go h.0 h.1 h.2 where
  go : (k : ℕ) → k < length (x ∷ rest) → get_or (x ∷ rest) k y ≡ y → Contains rest y ⊎ (y ≡ x)
  go zero l e = inr (sym e)
  go (suc k) l e = inl (k, omega arith, e)

pub there_put : (xs : List Place) (at : ℕ) (x : Place) → Contains (insert xs at x) x
there_put xs at x = Contains-append_right (take at xs) (x ∷ drop at xs) x (0, omega arith, refl)

pub stays_put : (xs : List Place) (at : ℕ) (x y : Place) → Contains xs y → Contains (insert xs at x) y
stays_put xs at x y h = go (Contains-append_cases (take at xs) (drop at xs) y (subst (λ zs. Contains zs y) (sym (take-append-drop at xs)) h)) where
  go : Contains (take at xs) y ⊎ Contains (drop at xs) y → Contains (insert xs at x) y
  go (inl i) = Contains-append_left (take at xs) (x ∷ drop at xs) y i
  go (inr i) = Contains-append_right (take at xs) (x ∷ drop at xs) y (in_rest x y (drop at xs) i)

pub only_put : (xs : List Place) (at : ℕ) (x y : Place) → Contains (insert xs at x) y → Contains xs y ⊎ (y ≡ x)
only_put xs at x y h = go (Contains-append_cases (take at xs) (x ∷ drop at xs) y h) where
  behind : Contains (drop at xs) y ⊎ (y ≡ x) → Contains xs y ⊎ (y ≡ x)
  behind (inl i) = inl (subst (λ zs. Contains zs y) (take-append-drop at xs) (Contains-append_right (take at xs) (drop at xs) y i))
  behind (inr e) = inr e

  go : Contains (take at xs) y ⊎ Contains (x ∷ drop at xs) y → Contains xs y ⊎ (y ≡ x)
  go (inl i) = inl (subst (λ zs. Contains zs y) (take-append-drop at xs) (Contains-append_left (take at xs) (drop at xs) y i))
  go (inr i) = behind (from_rest x y (drop at xs) i)

pub order_put : (places : List Place) (at : ℕ) (place : Place) → InOrder places → at ≤ length places → AllWithin (λ p. p.end ≤ place.end) places 0 at → AllWithin (λ p. place.end < p.end) places at (length places)
    → InOrder (insert places at place)
order_put places at place order le passed left = IsNonDecreasingBy-insert (λ (p : Place). p.end) places at place order le
    (λ k d l. passed k d (omega arith) l) (λ k d m l. let late : place.end < (get_or places k d).end = left k d m l in omega arith)

-- ---- lists under keys

or_true : (b : Bool) → (b || true) ≡ true
or_true true = refl
or_true false = refl

-- a key of one
pub one_itself : (k : Key) → Contains (k ∷ []) k
one_itself k = (0, omega arith, refl)

-- the lists are as others, but for the one under a key
abbrev pub IsPut : (old new : ByKey) (k : Key) (places : List Place) → Type 0
IsPut old new k places = (q : Key) → table.get key_eq new q ≡ cond (is_eq (key_cmp k q)) (Some places) (table.get key_eq old q)

-- what holds of the list that was put, and of the others, holds of each
each_list : (P : Key → Option (List Place) → Type 0) (old new : ByKey) (k : Key) (places : List Place) → IsPut old new k places
    → P k (Some places) → ((q : Key) → P q (table.get key_eq old q)) → (q : Key) → P q (table.get key_eq new q)
each_list P old new k places put here others q =
    let holds : (b : Bool) → is_eq (key_cmp k q) ≡ b → P q (cond b (Some places) (table.get key_eq old q)) =
    λ b. elim b as (λ v. is_eq (key_cmp k q) ≡ v → P q (cond v (Some places) (table.get key_eq old q))) [ true ↦ λ e. subst (λ (x : Key). P x (Some places)) (one_key k q e) here | false ↦ λ e. others q ] in
    subst (P q) (sym (put q)) (holds (is_eq (key_cmp k q)) refl)

pub stays_in_order : (old new : ByKey) (k : Key) (places : List Place) → IsPut old new k places → InOrder places → ((q : Key) → InOrder (under old q)) → (q : Key) → InOrder (under new q)
stays_in_order old new k places put here others = each_list (λ q o. InOrder (places_in o)) old new k places put here others

-- the list of the key
put_there : (old new : ByKey) (k : Key) (places : List Place) → IsPut old new k places → table.get key_eq new k ≡ Some places
put_there old new k places put = put k ∙ ap (λ b. cond b (Some places) (table.get key_eq old k)) (at_itself k)

-- no key is begun or ended where one had a list
same_begun : (old new : ByKey) (k : Key) (places : List Place) → IsPut old new k places → has_list old k ≡ true → (q : Key) → is_begun new q ≡ is_begun old q
same_begun old new k places put has =
    each_list (λ q o. (not (is_shared q) || is_some o) ≡ is_begun old q) old new k places put (ap (λ b. not (is_shared k) || b) (sym has)) (λ q. refl)

-- a key that was begun stays so
stays_begun : (old new : ByKey) (k : Key) (places : List Place) → IsPut old new k places → (q : Key) → is_begun old q ≡ true → is_begun new q ≡ true
stays_begun old new k places put = each_list (λ q o. is_begun old q ≡ true → (not (is_shared q) || is_some o) ≡ true) old new k places put (λ _. or_true (not (is_shared k))) (λ q b. b)

-- ---- how many are listed

weight : List Place → ℕ
weight places = length places

pub count_put : (old new : ByKey) (k : Key) (before places : List Place) → table.get key_eq old k ≡ Some before → new.entries ≡ set_value (key_eq k) old.entries places
    → count_of new + length before ≡ count_of old + length places
unfolding weight
count_put old new k before places was written =
    ap (λ es. sum_by weight (values_of es) + length before) written ∙ sum_by-set_value weight (key_eq k) old.entries before places was

-- a key that was not there is begun, with no places
pub count_begun : (old new : ByKey) (k : Key) (there : Option (List Place)) → there ≡ table.get key_eq old k → is_some (table.get key_eq old k) ≡ false → table.PutsEntry key_eq old new k [] there
    → count_of new ≡ count_of old
unfolding weight
count_begun old new k None was none put = let e = sum_by_puts_entry weight key_eq old new k [] None was put in omega (arith, e)
count_begun old new k (Some places) was none put = let impossible : true ≡ false = ap is_some was ∙ none in cc

-- what is counted, one more or none
pub one_counted : (count after before places most : ℕ) → places ≡ before + 1 → after ≡ min (count + 1) most → after ≡ min (count + (places - before)) most
one_counted count after before places most e f = omega arith

pub none_counted : (count before places most : ℕ) → places ≡ before → count ≤ most → count ≡ min (count + (places - before)) most
none_counted count before places most e f = omega arith

pub counted_more : (old new before places count after most : ℕ) → new + before ≡ old + places → before ≤ places → count ≡ min old most → after ≡ min (count + (places - before)) most → after ≡ min new most
counted_more old new before places count after most e le f g = omega arith

pub counted_bound : (old new before places : ℕ) → new + before ≡ old + places → places ≤ before + 1 → new ≤ old + 1
counted_bound old new before places e le = omega arith

pub listed_more : (old new : ByKey) (k : Key) (place : Place) (before places : List Place) → table.get key_eq old k ≡ Some before → IsPut old new k places
    → count_of new ≤ count_of old + 1 → Contains places place → ((x : Place) → Contains before x → Contains places x) → ((x : Place) → Contains places x → Contains before x ⊎ (x ≡ place)) → IsListedUnder old (k ∷ []) place new
listed_more old new k place before places was put count there stays only = record {
  there = All-cons (λ key. is_begun old key ≡ true → Contains (under new key) place) k []
      (λ _. subst (λ o. Contains (places_in o) place) (sym (put_there old new k places put)) there) (All-nil (λ key. is_begun old key ≡ true → Contains (under new key) place));
  stays = each_list (λ q o. (x : Place) → Contains (under old q) x → Contains (places_in o) x) old new k places put
      (λ x h. stays x (subst (λ ps. Contains ps x) (ap places_in was) h)) (λ q x h. h);
  only = each_list (λ q o. (x : Place) → Contains (places_in o) x → Contains (under old q) x ⊎ (Contains (k ∷ []) q × (x ≡ place))) old new k places put
      (λ x h. from_only x (only x h)) (λ q x h. inl h);
  begun = same_begun old new k places put (ap is_some was);
  count = count;
} where
  from_only : (x : Place) → Contains before x ⊎ (x ≡ place) → Contains (under old k) x ⊎ (Contains (k ∷ []) k × (x ≡ place))
  from_only x (inl h) = inl (subst (λ ps. Contains ps x) (sym (ap places_in was)) h)
  from_only x (inr e) = inr (one_itself k, e)

-- a key that is not begun lists nothing more
pub listed_nothing : (old new : ByKey) (k : Key) (place : Place) → new ≡ old → is_some (table.get key_eq old k) ≡ false → (is_shared k ≡ false → has_list old k ≡ true)
    → IsListedUnder old (k ∷ []) place new
listed_nothing old new k place same none needs = record {
  there = All-cons (λ key. is_begun old key ≡ true → Contains (under new key) place) k [] (λ b. absurd (not_begun (is_shared k) (has_list old k) none needs b))
      (All-nil (λ key. is_begun old key ≡ true → Contains (under new key) place));
  stays = λ q x h. subst (λ m. Contains (places_in (table.get key_eq m q)) x) (sym same) h;
  only = λ q x h. inl (subst (λ m. Contains (places_in (table.get key_eq m q)) x) same h);
  begun = λ q. ap (λ m. is_begun m q) same;
  count = let e : count_of new ≡ count_of old = ap count_of same in omega arith;
} where
  not_begun : (shared has : Bool) → has ≡ false → (shared ≡ false → has ≡ true) → (not shared || has) ≡ true → ⊥
  not_begun false true e needs b = cc
  not_begun false false e needs b = let impossible : false ≡ true = needs refl in cc
  not_begun true true e needs b = cc
  not_begun true false e needs b = cc

-- another key has a list where it had one
other_lists : (old new : ByKey) (k : Key) (places : List Place) → IsPut old new k places → (q : Key) → is_eq (key_cmp k q) ≡ false → has_list new q ≡ has_list old q
other_lists old new k places put q apart = ap is_some (put q ∙ ap (λ b. cond b (Some places) (table.get key_eq old q)) apart)

pub begun_more : (old new : ByKey) (k : Key) → is_some (table.get key_eq old k) ≡ false → IsPut old new k [] → count_of new ≡ count_of old → IsBegun old k new
begun_more old new k none put count = record {
  there = ap is_some (put_there old new k [] put);
  begun = stays_begun old new k [] put;
  others = other_lists old new k [] put;
  same = each_list (λ q o. places_in o ≡ under old q) old new k [] put (no_places (table.get key_eq old k) none) (λ q. refl);
  count = count;
} where
  no_places : (o : Option (List Place)) → is_some o ≡ false → [] ≡ places_in o
  no_places None e = refl
  no_places (Some ps) e = cc

pub begun_already : (m : ByKey) (k : Key) → has_list m k ≡ true → IsBegun m k m
begun_already m k there = record { there = there; begun = λ q b. b; others = λ q e. refl; same = λ q. refl; count = refl }

pub ready_already : (m : ByKey) (k : Key) → is_shared k ≡ true → IsReady m k m
ready_already m k shared = record { there = λ e. cc; left = record { same = λ q. refl; begun = λ q. refl; count = refl } }

-- a key of one user is begun always, so that nothing more is begun by its list
pub ready_begun : (m n : ByKey) (k : Key) → is_shared k ≡ false → IsBegun m k n → IsReady m k n
ready_begun m n k alone b = record { there = λ e. b.there; left = record { same = b.same; begun = λ q. go q (is_eq (key_cmp k q)) refl; count = b.count } } where
  always : (q : Key) (has : Bool) → is_shared q ≡ false → (not (is_shared q) || has) ≡ true
  always q has e = ap (λ x. not x || has) e

  go : (q : Key) (t : Bool) → is_eq (key_cmp k q) ≡ t → is_begun n q ≡ is_begun m q
  go q true e = let none : is_shared q ≡ false = subst (λ x. is_shared x ≡ false) (one_key k q e) alone in always q (has_list n q) none ∙ sym (always q (has_list m q) none)
  go q false e = ap (λ x. not (is_shared q) || x) (b.others q e)

-- a key is made ready and then a place listed
pub ready_listed : (a b c : ByKey) (k : Key) (keys : List Key) (place : Place) → IsReady a k b → IsListedUnder b keys place c → IsListedUnder a keys place c
ready_listed a b c k keys place ready listed = record {
  there = λ i d l h. listed.there i d l (ready.left.begun (get_or keys i d) ∙ h);
  stays = λ q x h. listed.stays q x (subst (λ ps. Contains ps x) (sym (ready.left.same q)) h);
  only = λ q x h. subst (λ ps. Contains ps x ⊎ (Contains keys q × (x ≡ place))) (ready.left.same q) (listed.only q x h);
  begun = λ q. listed.begun q ∙ ready.left.begun q;
  count = subst (λ n. count_of c ≤ n + length keys) ready.left.count listed.count;
}

-- a list that is put back changes nothing
pub put_back : (old new : ByKey) (k : Key) (before places : List Place) → table.get key_eq old k ≡ Some before → IsPut old new k places → places ≡ before
    → new.entries ≡ set_value (key_eq k) old.entries places → IsLeft old new
put_back old new k before places was put back written = record {
  same = each_list (λ q o. places_in o ≡ under old q) old new k places put (back ∙ sym (ap places_in was)) (λ q. refl);
  begun = same_begun old new k places put (ap is_some was);
  count = let e : count_of new + length before ≡ count_of old + length places = count_put old new k before places was written in let f : length places ≡ length before = ap (λ (ps : List Place). length ps) back in omega arith;
}

-- ---- answers of calls

pub on_ok : {X E A B : Type 0} (r : Result X E) → OnOk r A → (A → B) → OnOk r B
on_ok (Ok x) a f = f a
on_ok (Err e) a f = tt

pub on_err : {X E A B : Type 0} (r : Result X E) → OnErr r A → (A → B) → OnErr r B
on_err (Ok x) a f = tt
on_err (Err e) a f = f a

pub err_too : {X E A : Type 0} (r : Result X E) → A → OnErr r A
err_too (Ok x) a = tt
err_too (Err e) a = a

same_get : (m n : ByKey) → n.entries ≡ m.entries → (q : Key) → table.get key_eq n q ≡ table.get key_eq m q
same_get m n same q = ap (λ es. lookup (key_eq q) es) same

pub nothing_in_order : InOrder []
nothing_in_order i j d l h = absurd (omega arith)

pub inserted_in_order : {X E : Type 0} (r : Result X E) (old new : ByKey) (k : Key) (places : List Place) → OnOk r (IsPut old new k places) → OnErr r (new.entries ≡ old.entries) → InOrder places
    → ((q : Key) → InOrder (under old q)) → (q : Key) → InOrder (under new q)
inserted_in_order (Ok x) old new k places put same here others q = stays_in_order old new k places put here others q
inserted_in_order (Err e) old new k places put same here others q = subst (λ o. InOrder (places_in o)) (sym (same_get old new same q)) (others q)

pub inserted_count : {E : Type 0} (r : Result (Option (List Place)) E) (old new : ByKey) (k : Key) (places : List Place) → is_some (table.get key_eq old k) ≡ false → places ≡ []
    → IfOk r (λ there. there ≡ table.get key_eq old k) → IfOk r (table.PutsEntry key_eq old new k places) → OnErr r (new.entries ≡ old.entries) → count_of new ≡ count_of old
inserted_count (Ok there) old new k places none empty was put same = count_begun old new k there was none (subst (λ v. table.PutsEntry key_eq old new k v there) empty put)
inserted_count (Err e) old new k places none empty was put same = ap (λ es. sum_by (λ (ps : List Place). length ps) (values_of es)) same
