-- A finite map that is made of a list of entries.
use Rattle.std.proofs.Common.{◌≡◌, Bool, IsTrue, IsSome, is_some, false, cond, List, [], ◌∷◌, Option, Some, None, Result, Ok, Err, OnErr, refl, sym, ap, ◌∙◌}
use Rattle.std.specs.declared.cmp.Ordering.{Ordering}
use Rattle.std.specs.Cmp.{IsTotalOrder, eq_by_cmp_equiv}
use Rattle.std.specs.Map.{lookup}
use Rattle.std.specs.BTreeMap.{is_at}
use Rattle.std.specs.FinMap.{IsAntisymmetric, from_entries, get, insert, remove, find, same_map, get-from_entries, get-insert, get-remove}

module _ {K X : Type 0} {R : K → K → Ordering} (o : IsTotalOrder R) where
  abbrev at : List (K × X) → K → Option X
  at es q = lookup (is_at (R q)) es

  find-lookup : (es : List (K × X)) (q : K) → find R q es ≡ at es q
  find-lookup [] q = refl
  find-lookup (e ∷ es) q = ap (cond (is_at (R q) e.0) (Some e.1)) (find-lookup es q)

  -- what the map has at a key
  pub get-lookup : (es : List (K × X)) (q : K) → get (from_entries {R = R} es) q ≡ at es q
  get-lookup es q = get-from_entries o es q ∙ find-lookup es q

  module _ (exact : IsAntisymmetric R) where
    -- entries that differ at one key make maps that differ there
    pub from_entries-given : (es fs : List (K × X)) (k : K) (v : X) → ((q : K) → at fs q ≡ cond (is_at (R k) q) (Some v) (at es q)) → from_entries {R = R} fs ≡ insert (from_entries es) k v
    from_entries-given es fs k v h = same_map o exact _ _ (λ q.
        get-lookup fs q ∙ h q ∙ ap (λ b. cond b (Some v) (at es q)) ((eq_by_cmp_equiv o).symm k q)
        ∙ sym (get-insert o (from_entries es) k v q ∙ ap (cond (is_at (R q) k) (Some v)) (get-lookup es q)))

    pub from_entries-removed : (es fs : List (K × X)) (k : K) → ((q : K) → at fs q ≡ cond (is_at (R k) q) None (at es q)) → from_entries {R = R} fs ≡ remove (from_entries es) k
    from_entries-removed es fs k h = same_map o exact _ _ (λ q.
        get-lookup fs q ∙ h q ∙ ap (λ b. cond b None (at es q)) ((eq_by_cmp_equiv o).symm k q)
        ∙ sym (get-remove o (from_entries es) k q ∙ ap (cond (is_at (R q) k) None) (get-lookup es q)))

-- what is there is not gone
pub there_not_none : {X A : Type 0} (o : Option X) → o ≡ None → IsSome o → A
there_not_none None e h = cc
there_not_none (Some x) e h = cc

-- nothing stands at a key past all others
pub none_past : {X : Type 0} (o : Option X) (b : Bool) → (IsSome o → b ≡ false) → IsTrue b → o ≡ None
none_past None b h past = refl
none_past (Some x) b h past = let no : b ≡ false = h refl in cc

pub none_of_test : {X : Type 0} (o : Option X) → false ≡ is_some o → None ≡ o
none_of_test None e = refl
none_of_test (Some x) e = cc

pub on_err-intro : {T E P : Type 0} (r : Result T E) → P → OnErr r P
on_err-intro (Ok x) p = tt
on_err-intro (Err e) p = p
