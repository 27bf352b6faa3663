-- Ascending keys, and what is done at each of them.
use Rattle.std.proofs.Common.{◌≡◌, Bool, true, false, cond, filter, List, [], ◌∷◌, refl, sym, ap, subst, ◌∙◌}
use Rattle.std.specs.declared.cmp.Ordering.{Ordering}
use Rattle.std.specs.declared.cmp.Ordering.TheVariants.{Less, Equal, Greater}
use Rattle.std.specs.Ordering.{is_eq, ordering_reverse}
use Rattle.std.specs.Cmp.{Equal-is, tied_itself}
use Rattle.std.specs.List.{AllByRecursion}
use Rattle.sr_base.specs.declared.value.Value.{Value}
use Rattle.sr_base.specs.Order.{key_cmp}
use Rattle.sr_base.specs.Inner.Order.{key_cmp_total}
use Rattle.sr_base.proofs.Exact.{exact_keys}

abbrev pub Key : Type 0
Key = List Value

-- whether a key is in a list of keys
abbrev pub has : Key → List Key → Bool
has q [] = false
has q (k ∷ ks) = cond (is_eq (key_cmp q k)) true (has q ks)

-- keys that rise
abbrev pub Rise : List Key → Type 0
Rise [] = Unit {0}
Rise (k ∷ ks) = AllByRecursion (λ x. key_cmp k x ≡ Less) ks × Rise ks

pub same_key : (q k : Key) → is_eq (key_cmp q k) ≡ true → q ≡ k
same_key q k e = exact_keys q k ((Equal-is (key_cmp q k)).0 e)

pub itself : (k : Key) → is_eq (key_cmp k k) ≡ true
itself k = ap is_eq (tied_itself key_cmp_total k)

pub turned : (k x : Key) → key_cmp k x ≡ Less → is_eq (key_cmp x k) ≡ false
turned k x e = ap is_eq (key_cmp_total.antisymm x k ∙ ap ordering_reverse e)

-- nothing below all keys is one of them
pub none_below : (k : Key) (ks : List Key) → AllByRecursion (λ x. key_cmp k x ≡ Less) ks → has k ks ≡ false
none_below k [] h = refl
none_below k (x ∷ ks) h = ap (λ o. cond (is_eq o) true (has k ks)) h.0 ∙ none_below k ks h.1

above : (j k : Key) (ks : List Key) → key_cmp j k ≡ Less → AllByRecursion (λ x. key_cmp k x ≡ Less) ks → AllByRecursion (λ x. key_cmp j x ≡ Less) ks
above j k [] e h = tt
above j k (x ∷ ks) e h = (key_cmp_total.trans j k x e h.0, above j k ks e h.1)

-- ascending lists of the same keys are equal
first_apart : (a b : Key) (xs ys : List Key) → key_cmp a b ≡ Less → AllByRecursion (λ x. key_cmp b x ≡ Less) ys → has a (a ∷ xs) ≡ has a (b ∷ ys) → ⊥
first_apart a b xs ys less h e =
    let here : has a (a ∷ xs) ≡ true = ap (λ t. cond t true (has a xs)) (itself a) in
    let gone : has a (b ∷ ys) ≡ false = none_below a (b ∷ ys) (less, above a b ys less h) in
    cc

tails_alike : (a : Key) (xs ys : List Key) → AllByRecursion (λ x. key_cmp a x ≡ Less) xs → AllByRecursion (λ x. key_cmp a x ≡ Less) ys → ((q : Key) → has q (a ∷ xs) ≡ has q (a ∷ ys)) → (q : Key) → has q xs ≡ has q ys
tails_alike a xs ys f g h q = go (is_eq (key_cmp q a)) refl (h q) where
  go : (t : Bool) → is_eq (key_cmp q a) ≡ t → cond t true (has q xs) ≡ cond t true (has q ys) → has q xs ≡ has q ys
  go false e same = same
  go true e same = let is : q ≡ a = same_key q a e in
      ap (λ k. has k xs) is ∙ none_below a xs f ∙ sym (none_below a ys g) ∙ ap (λ k. has k ys) (sym is)

pub same_keys : (xs ys : List Key) → Rise xs → Rise ys → ((q : Key) → has q xs ≡ has q ys) → xs ≡ ys
same_keys [] [] f g h = refl
same_keys [] (b ∷ ys) f g h = let e = h b in let here : has b (b ∷ ys) ≡ true = ap (λ t. cond t true (has b ys)) (itself b) in cc
same_keys (a ∷ xs) [] f g h = let e = h a in let here : has a (a ∷ xs) ≡ true = ap (λ t. cond t true (has a xs)) (itself a) in cc
same_keys (a ∷ xs) (b ∷ ys) f g h = go (key_cmp a b) refl (λ rest. same_keys xs ys f.1 g.1 rest) where
  go : (o : Ordering) → key_cmp a b ≡ o → (((q : Key) → has q xs ≡ has q ys) → xs ≡ ys) → a ∷ xs ≡ b ∷ ys
  go Less e rest = absurd (first_apart a b xs ys e g.0 (h a))
  go Greater e rest = absurd (first_apart b a ys xs (key_cmp_total.antisymm b a ∙ ap ordering_reverse e) f.0 (sym (h b)))
  go Equal e rest =
      let is : a ≡ b = exact_keys a b e in
      let below : AllByRecursion (λ x. key_cmp a x ≡ Less) ys = subst (λ k. AllByRecursion (λ x. key_cmp k x ≡ Less) ys) (sym is) g.0 in
      let alike : (q : Key) → has q (a ∷ xs) ≡ has q (a ∷ ys) = λ q. h q ∙ ap (λ k. has q (k ∷ ys)) (sym is) in
      λ i. is i ∷ rest (tails_alike a xs ys f.0 below alike) i

-- a filter of ascending keys
below_filter : (p : Key → Bool) (k : Key) (ks : List Key) → AllByRecursion (λ x. key_cmp k x ≡ Less) ks → AllByRecursion (λ x. key_cmp k x ≡ Less) (filter p ks)
below_filter p k [] h = tt
below_filter p k (x ∷ ks) h = go (p x) (below_filter p k ks h.1) where
  go : (b : Bool) → AllByRecursion (λ x. key_cmp k x ≡ Less) (filter p ks) → AllByRecursion (λ x. key_cmp k x ≡ Less) (cond b (x ∷ filter p ks) (filter p ks))
  go true rest = (h.0, rest)
  go false rest = rest

pub Rise-filter : (p : Key → Bool) (ks : List Key) → Rise ks → Rise (filter p ks)
Rise-filter p [] h = tt
Rise-filter p (k ∷ ks) h = go (p k) (Rise-filter p ks h.1) where
  go : (b : Bool) → Rise (filter p ks) → Rise (cond b (k ∷ filter p ks) (filter p ks))
  go true rest = (below_filter p k ks h.0, rest)
  go false rest = rest

pub has-filter : (p : Key → Bool) (q : Key) (ks : List Key) → has q (filter p ks) ≡ cond (p q) (has q ks) false
has-filter p q [] = none (p q) where
  none : (b : Bool) → false ≡ cond b false false
  none true = refl
  none false = refl
has-filter p q (k ∷ ks) = go (is_eq (key_cmp q k)) refl (p k) refl (has-filter p q ks) where
  go : (t : Bool) → is_eq (key_cmp q k) ≡ t → (b : Bool) → p k ≡ b → has q (filter p ks) ≡ cond (p q) (has q ks) false
      → has q (cond b (k ∷ filter p ks) (filter p ks)) ≡ cond (p q) (cond t true (has q ks)) false
  go true e true pk rest = ap (λ t. cond t true (has q (filter p ks))) e ∙ sym (ap (λ b. cond b true false) (ap p (same_key q k e) ∙ pk))
  go true e false pk rest = let pq : p q ≡ false = ap p (same_key q k e) ∙ pk in rest ∙ ap (λ b. cond b (has q ks) false) pq ∙ sym (ap (λ b. cond b true false) pq)
  go false e true pk rest = ap (λ t. cond t true (has q (filter p ks))) e ∙ rest
  go false e false pk rest = rest

-- what is done at each key in turn, from the last one
module _ {A : Type 0} (step : Key → A → A) (start : A) where
  abbrev pub folded : List Key → A
  folded [] = start
  folded (k ∷ ks) = step k (folded ks)

  abbrev pub IsSilent : Key → Type 0
  IsSilent k = (rest : A) → step k rest ≡ rest

  folded-filter : (p : Key → Bool) (ks : List Key) → AllByRecursion (λ k. p k ≡ false → IsSilent k) ks → folded (filter p ks) ≡ folded ks
  folded-filter p [] h = refl
  folded-filter p (k ∷ ks) h = go (p k) refl (folded-filter p ks h.1) where
    go : (b : Bool) → p k ≡ b → folded (filter p ks) ≡ folded ks → folded (cond b (k ∷ filter p ks) (filter p ks)) ≡ step k (folded ks)
    go true e rest = ap (step k) rest
    go false e rest = rest ∙ sym (h.0 e (folded ks))

  each_silent : (p : Key → Bool) (ks : List Key) → ((k : Key) → p k ≡ false → IsSilent k) → AllByRecursion (λ k. p k ≡ false → IsSilent k) ks
  each_silent p [] h = tt
  each_silent p (k ∷ ks) h = (h k, each_silent p ks h)

  -- lists of ascending keys that differ only in silent ones
  pub folded-alike : (xs ys : List Key) → Rise xs → Rise ys → ((k : Key) → has k xs ≡ false → IsSilent k) → ((k : Key) → has k ys ≡ false → IsSilent k) → folded xs ≡ folded ys
  folded-alike xs ys f g not_xs not_ys =
      let left : filter (λ k. has k ys) xs ≡ filter (λ k. has k xs) ys = same_keys _ _ (Rise-filter (λ k. has k ys) xs f) (Rise-filter (λ k. has k xs) ys g)
      (λ q. has-filter (λ k. has k ys) q xs ∙ swapped (has q xs) (has q ys) ∙ sym (has-filter (λ k. has k xs) q ys)) in
      sym (folded-filter (λ k. has k ys) xs (each_silent (λ k. has k ys) xs not_ys)) ∙ ap folded left ∙ folded-filter (λ k. has k xs) ys (each_silent (λ k. has k xs) ys not_xs) where
        swapped : (a b : Bool) → cond b a false ≡ cond a b false
        swapped true true = refl
        swapped true false = refl
        swapped false true = refl
        swapped false false = refl
