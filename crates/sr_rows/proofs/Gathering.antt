-- What a map that is gathered from tables has at a place, and how it changes with one table.
use Rattle.std.proofs.Common.{◌≡◌, ℕ, Bool, true, false, not, cond, List, [], ◌∷◌, Option, Some, None, refl, sym, ap, ◌∙◌}
use Rattle.std.specs.declared.cmp.Ordering.{Ordering}
use Rattle.std.specs.declared.cmp.Ordering.TheVariants.{Less, Equal, Greater}
use Rattle.std.specs.Option.{option_and_then}
use Rattle.std.specs.Cmp.{eq_by_cmp_equiv}
use Rattle.std.specs.Ordering.{eq_by_cmp, is_eq, ordering_then}
use Rattle.std.specs.Map.{lookup}
use Rattle.std.specs.BTreeMap.{is_at}
use Rattle.std.proofs.lemmas.Map.Lookups.{exact_bytes, exact_pairs}
use Rattle.std.specs.FinMap.{IsAntisymmetric, FinMap, empty, entries, get, insert, remove, retain_keys, find, same_map, get-entries, get-empty, get-insert, get-remove, get-retain_keys}
use Rattle.sr_base.specs.declared.value.Value.{Value}
use Rattle.sr_base.specs.Order.{name_cmp, key_cmp}
use Rattle.sr_base.specs.Inner.Order.{name_cmp_total, key_cmp_total}
use Rattle.sr_base.proofs.Exact.{exact_keys}
use Rattle.sr_rows.specs.Marks.{Place, place_cmp}
use Rattle.sr_rows.specs.Inner.Marks.{place_cmp_total}
use Rattle.sr_rows.specs.Inner.Gathered.{with_table, gathered}

pub exact_places : IsAntisymmetric place_cmp
exact_places = exact_pairs name_cmp key_cmp exact_bytes exact_keys

module _ {V : Type 0} where
  -- the table of a name, of those of a list
  abbrev pub table_at : List (List ℕ × FinMap key_cmp V) → List ℕ → Option (FinMap key_cmp V)
  table_at ts t = lookup (is_at (name_cmp t)) ts

  -- what a list of tables has at a place
  abbrev pub place_at : List (List ℕ × FinMap key_cmp V) → Place → Option V
  place_at ts p = option_and_then (λ m. get m p.1) (table_at ts p.0)

  -- a place of the table that is put in
  in_table : (t table : List ℕ) (k : List Value) (es : List (List Value × V)) (m : FinMap place_cmp V) → name_cmp t table ≡ Equal → get m (t, k) ≡ None → get (with_table table es m) (t, k) ≡ find key_cmp k es
  in_table t table k [] m same none = none
  in_table t table k (e ∷ es) m same none =
      get-insert place_cmp_total (with_table table es m) (table, e.0) e.1 (t, k)
      ∙ (λ i. cond (is_eq (ordering_then (same i) (key_cmp k e.0))) (Some e.1) (in_table t table k es m same none i))

  -- a place of another table
  in_other : (t table : List ℕ) (k : List Value) (es : List (List Value × V)) (m : FinMap place_cmp V) (r : Ordering) → name_cmp t table ≡ r → is_eq r ≡ false → get (with_table table es m) (t, k) ≡ get m (t, k)
  in_other t table k [] m r at other = refl
  in_other t table k (e ∷ es) m r at other =
      get-insert place_cmp_total (with_table table es m) (table, e.0) e.1 (t, k)
      ∙ (λ i. cond (is_eq (ordering_then (at i) (key_cmp k e.0))) (Some e.1) (in_other t table k es m r at other i)) ∙ skipped r (key_cmp k e.0) other where
        skipped : (r s : Ordering) → is_eq r ≡ false → cond (is_eq (ordering_then r s)) (Some e.1) (get m (t, k)) ≡ get m (t, k)
        skipped Less s h = refl
        skipped Equal s h = cc
        skipped Greater s h = refl

  -- the places of the other tables
  abbrev others : List ℕ → List (List ℕ × FinMap key_cmp V) → FinMap place_cmp V
  others t ts = retain_keys (gathered ts) (λ q. not (eq_by_cmp name_cmp t q.0))

  -- what the gathered map has at a place
  pub get-gathered : (ts : List (List ℕ × FinMap key_cmp V)) (p : Place) → get (gathered ts) p ≡ place_at ts p
  get-gathered [] p = get-empty place_cmp p
  get-gathered (x ∷ ts) p = go (name_cmp p.0 x.0) refl (get-gathered ts p) where
    left : get (others x.0 ts) p ≡ cond (not (eq_by_cmp name_cmp x.0 p.0)) (get (gathered ts) p) None
    left = get-retain_keys (gathered ts) (λ q. not (eq_by_cmp name_cmp x.0 q.0)) p (λ q e. ap (λ (n : Place). not (eq_by_cmp name_cmp x.0 n.0)) (sym (exact_places p q e)))

    turned : (r : Ordering) → name_cmp p.0 x.0 ≡ r → eq_by_cmp name_cmp x.0 p.0 ≡ is_eq r
    turned r at = (eq_by_cmp_equiv name_cmp_total).symm x.0 p.0 ∙ ap is_eq at

    apart : (r : Ordering) → name_cmp p.0 x.0 ≡ r → is_eq r ≡ false → get (gathered ts) p ≡ place_at ts p → get (gathered (x ∷ ts)) p ≡ place_at (x ∷ ts) p
    apart r at other rest =
        in_other p.0 x.0 p.1 (entries x.1) (others x.0 ts) r at other ∙ left
        ∙ ap (λ b. cond (not b) (get (gathered ts) p) None) (turned r at ∙ other)
        ∙ rest
        ∙ sym (ap (λ b. option_and_then (λ m. get m p.1) (cond b (Some x.1) (table_at ts p.0))) (ap is_eq at ∙ other))

    go : (r : Ordering) → name_cmp p.0 x.0 ≡ r → get (gathered ts) p ≡ place_at ts p → get (gathered (x ∷ ts)) p ≡ place_at (x ∷ ts) p
    go Less at rest = apart Less at refl rest
    go Greater at rest = apart Greater at refl rest
    go Equal at rest =
        in_table p.0 x.0 p.1 (entries x.1) (others x.0 ts) at (left ∙ ap (λ b. cond (not b) (get (gathered ts) p) None) (turned Equal at))
        ∙ sym (get-entries x.1 p.1) ∙ sym (ap (λ r. option_and_then (λ m. get m p.1) (cond (is_eq r) (Some x.1) (table_at ts p.0))) at)

  -- the tables fs are es with another table at a name
  abbrev pub ChangesTable : List (List ℕ × FinMap key_cmp V) → List (List ℕ × FinMap key_cmp V) → List ℕ → FinMap key_cmp V → Type 0
  ChangesTable es fs t table = (q : List ℕ) → table_at fs q ≡ cond (is_at (name_cmp t) q) (Some table) (table_at es q)

  place_at-changed : (es fs : List (List ℕ × FinMap key_cmp V)) (t : List ℕ) (table : FinMap key_cmp V) → ChangesTable es fs t table → (p : Place) → place_at fs p ≡ cond (is_eq (name_cmp t p.0)) (get table p.1) (place_at es p)
  place_at-changed es fs t table u p = ap (option_and_then (λ m. get m p.1)) (u p.0) ∙ pushed (is_eq (name_cmp t p.0)) where
    pushed : (b : Bool) → option_and_then (λ m. get m p.1) (cond b (Some table) (table_at es p.0)) ≡ cond b (get table p.1) (place_at es p)
    pushed true = refl
    pushed false = refl

  -- where the table changes at one key, the gathered map changes at one place
  changed : (es fs : List (List ℕ × FinMap key_cmp V)) (t : List ℕ) (before table : FinMap key_cmp V) (k : List Value) (w : Option V) → ChangesTable es fs t table
      → ((j : List Value) → place_at es (t, j) ≡ get before j) → ((j : List Value) → get table j ≡ cond (is_eq (key_cmp j k)) w (get before j))
      → (p : Place) → get (gathered fs) p ≡ cond (eq_by_cmp place_cmp p (t, k)) w (get (gathered es) p)
  changed es fs t before table k w u is at p = get-gathered fs p ∙ place_at-changed es fs t table u p ∙ go (name_cmp p.0 t) refl ∙ ap (cond (eq_by_cmp place_cmp p (t, k)) w) (sym (get-gathered es p)) where
    turned : (r : Ordering) → name_cmp p.0 t ≡ r → eq_by_cmp name_cmp t p.0 ≡ is_eq r
    turned r e = (eq_by_cmp_equiv name_cmp_total).symm t p.0 ∙ ap is_eq e

    apart : (r : Ordering) → name_cmp p.0 t ≡ r → is_eq r ≡ false → is_eq (ordering_then r (key_cmp p.1 k)) ≡ false → cond (is_eq (name_cmp t p.0)) (get table p.1) (place_at es p) ≡ cond (eq_by_cmp place_cmp p (t, k)) w (place_at es p)
    apart r e other skipped =
        ap (λ b. cond b (get table p.1) (place_at es p)) (turned r e ∙ other)
        ∙ sym (ap (λ b. cond b w (place_at es p)) (ap (λ s. is_eq (ordering_then s (key_cmp p.1 k))) e ∙ skipped))

    go : (r : Ordering) → name_cmp p.0 t ≡ r → cond (is_eq (name_cmp t p.0)) (get table p.1) (place_at es p) ≡ cond (eq_by_cmp place_cmp p (t, k)) w (place_at es p)
    go Less e = apart Less e refl refl
    go Greater e = apart Greater e refl refl
    go Equal e =
        ap (λ b. cond b (get table p.1) (place_at es p)) (turned Equal e) ∙ at p.1
        ∙ ap (cond (is_eq (key_cmp p.1 k)) w) (sym (ap (λ n. place_at es (n, p.1)) (exact_bytes p.0 t e) ∙ is p.1))
        ∙ sym (ap (λ s. cond (is_eq (ordering_then s (key_cmp p.1 k))) w (place_at es p)) e)

  pub gathered-inserted : (es fs : List (List ℕ × FinMap key_cmp V)) (t : List ℕ) (before table : FinMap key_cmp V) (k : List Value) (v : V) → ChangesTable es fs t table
      → ((j : List Value) → place_at es (t, j) ≡ get before j) → table ≡ insert before k v → gathered fs ≡ insert (gathered es) (t, k) v
  gathered-inserted es fs t before table k v u is e = same_map place_cmp_total exact_places _ _ (λ p.
      changed es fs t before table k (Some v) u is (λ j. ap (λ m. get m j) e ∙ get-insert key_cmp_total before k v j) p
      ∙ sym (get-insert place_cmp_total (gathered es) (t, k) v p))

  pub gathered-removed : (es fs : List (List ℕ × FinMap key_cmp V)) (t : List ℕ) (before table : FinMap key_cmp V) (k : List Value) → ChangesTable es fs t table
      → ((j : List Value) → place_at es (t, j) ≡ get before j) → table ≡ remove before k → gathered fs ≡ remove (gathered es) (t, k)
  gathered-removed es fs t before table k u is e = same_map place_cmp_total exact_places _ _ (λ p.
      changed es fs t before table k None u is (λ j. ap (λ m. get m j) e ∙ get-remove key_cmp_total before k j) p
      ∙ sym (get-remove place_cmp_total (gathered es) (t, k) p))

  -- a table in place of an equal one changes nothing, nor does a new table without a place
  pub gathered-same : (es fs : List (List ℕ × FinMap key_cmp V)) (t : List ℕ) (table : FinMap key_cmp V) → ChangesTable es fs t table
      → ((j : List Value) → place_at es (t, j) ≡ get table j) → gathered fs ≡ gathered es
  gathered-same es fs t table u is = same_map place_cmp_total exact_places _ _ (λ p. get-gathered fs p ∙ place_at-changed es fs t table u p ∙ go p (name_cmp t p.0) refl ∙ sym (get-gathered es p)) where
    go : (p : Place) (r : Ordering) → name_cmp t p.0 ≡ r → cond (is_eq (name_cmp t p.0)) (get table p.1) (place_at es p) ≡ place_at es p
    go p Less e = ap (λ s. cond (is_eq s) (get table p.1) (place_at es p)) e
    go p Greater e = ap (λ s. cond (is_eq s) (get table p.1) (place_at es p)) e
    go p Equal e = ap (λ s. cond (is_eq s) (get table p.1) (place_at es p)) e ∙ sym (is p.1) ∙ ap (λ n. place_at es (n, p.1)) (exact_bytes t p.0 e)

  -- the places of a table that is there, and of one that is not
  pub place_at-held : (ts : List (List ℕ × FinMap key_cmp V)) (t : List ℕ) (table : FinMap key_cmp V) → Some table ≡ table_at ts t → (j : List Value) → place_at ts (t, j) ≡ get table j
  place_at-held ts t table e j = ap (option_and_then (λ m. get m j)) (sym e)

  pub get-held : (ts : List (List ℕ × FinMap key_cmp V)) (t : List ℕ) (table : FinMap key_cmp V) (k : List Value) → Some table ≡ table_at ts t → get (gathered ts) (t, k) ≡ get table k
  get-held ts t table k e = get-gathered ts (t, k) ∙ place_at-held ts t table e k

  pub get-gone : (ts : List (List ℕ × FinMap key_cmp V)) (t : List ℕ) (k : List Value) → None ≡ table_at ts t → get (gathered ts) (t, k) ≡ None
  get-gone ts t k e = get-gathered ts (t, k) ∙ ap (option_and_then (λ m. get m k)) (sym e)

  pub place_at-gone : (ts : List (List ℕ × FinMap key_cmp V)) (t : List ℕ) → None ≡ table_at ts t → (j : List Value) → place_at ts (t, j) ≡ get (empty {X = V} {R = key_cmp}) j
  place_at-gone ts t e j = ap (option_and_then (λ m. get m j)) (sym e) ∙ sym (get-empty key_cmp j)
