-- A started subscription of another publication that has a table: looked for publication by publication, and subscription by subscription.
use Rattle.std.proofs.Common.{◌≡◌, Bool, true, false, ◌&&◌, ◌||◌, not, cond, ℕ, List, [], ◌∷◌, Some, refl, ap, sym, ◌∙◌}
use Rattle.std.specs.Prelude.{bytes_eq}
use Rattle.std.specs.List.{list_any}
use Rattle.std.proofs.lemmas.Bool.{or_parts, or_from}
use Rattle.std.proofs.lemmas.Slice.Eq.{bytes_eq-Decides}
use Rattle.sr_ast.specs.declared.create.SubscriptionRule.{SubscriptionRule}
use Rattle.sr_catalog_schema.specs.Catalogs.{Lists}
use Rattle.sr_catalog_schema.specs.Members.{publication_name}
use Rattle.sr_catalog_schema.specs.Names.{named}
use Rattle.sr_catalog_schema.specs.Inner.Singles.{IsSingle}
use Rattle.sr_catalog_schema.specs.declared.publication.Publication.{Publication}
use Rattle.sr_catalog_schema.specs.declared.subscription.Subscription.{Subscription}
use Rattle.sr_catalog_schema.proofs.Places.{flipped}
use Rattle.sr_catalog_ddl.specs.Inner.Elsewhere.{is_other_with, is_start_of, is_started_there}
use Rattle.sr_catalog_ddl.specs.Subscriptions.{has_article, is_elsewhere}

-- ---- two lists, in either order

any_never : {A : Type 0} (xs : List A) → list_any (λ _. false) xs ≡ false
any_never [] = refl
any_never (x ∷ xs) = any_never xs

any_and : {A : Type 0} (a : Bool) (f : A → Bool) (xs : List A) → list_any (λ x. a && f x) xs ≡ (a && list_any f xs)
any_and true f xs = refl
any_and false f xs = any_never xs

shuffled : (a b c d : Bool) → ((a || b) || (c || d)) ≡ ((a || c) || (b || d))
shuffled true b c d = refl
shuffled false true true d = refl
shuffled false true false d = refl
shuffled false false true d = refl
shuffled false false false d = refl

any_or : {A : Type 0} (f g : A → Bool) (xs : List A) → list_any (λ x. f x || g x) xs ≡ (list_any f xs || list_any g xs)
any_or f g [] = refl
any_or f g (x ∷ xs) = ap (λ b. (f x || g x) || b) (any_or f g xs) ∙ shuffled (f x) (g x) (list_any f xs) (list_any g xs)

any_swapped : {A B : Type 0} (a : A → Bool) (b : A → B → Bool) (xs : List A) (ys : List B)
    → list_any (λ x. a x && list_any (b x) ys) xs ≡ list_any (λ y. list_any (λ x. a x && b x y) xs) ys
any_swapped a b [] ys = sym (any_never ys)
any_swapped a b (x ∷ xs) ys =
    ap (λ r. (a x && list_any (b x) ys) || r) (any_swapped a b xs ys)
    ∙ (ap (λ r. r || list_any (λ y. list_any (λ z. a z && b z y) xs) ys) (sym (any_and (a x) (b x) ys))
    ∙ sym (any_or (λ y. a x && b x y) (λ y. list_any (λ z. a z && b z y) xs) ys))

-- ---- one subscription among publications of which no two have one name

nothing : (a b c : Bool) → (a && (b && (c && false))) ≡ false
nothing false b c = refl
nothing true false c = refl
nothing true true false = refl
nothing true true true = refl

no_term : (o a b e : Bool) → e ≡ false → (o && (a && (b && e))) ≡ false
no_term o a b e h = ap (λ x. o && (a && (b && x))) h ∙ nothing o a b

one_term : (x a s u : Bool) → (((x && a) && (s && (u && true))) || false) ≡ (s && (u && (x && a)))
one_term true true true true = refl
one_term true true true false = refl
one_term true true false u = refl
one_term true false true true = refl
one_term true false true false = refl
one_term true false false u = refl
one_term false a true true = refl
one_term false a true false = refl
one_term false a false u = refl

module _ (r : SubscriptionRule) (table : List ℕ) (s : Subscription) where
  abbrev pub term : Publication → Bool
  term p = is_other_with r table p && is_start_of r.user p.name s

  abbrev pub meant : List Publication → Bool
  meant ps = s.started && (bytes_eq r.user s.user && (not (bytes_eq r.publication s.publication) && has_article (named publication_name s.publication ps) table))

  none_terms : (ps : List Publication) → list_any (λ p. bytes_eq s.publication (publication_name p)) ps ≡ false → list_any term ps ≡ false
  none_terms [] h = refl
  none_terms (p ∷ ps) h =
      let parts = or_parts (bytes_eq s.publication p.name) (list_any (λ q. bytes_eq s.publication (publication_name q)) ps) h in
      or_from (term p) (list_any term ps) (no_term (is_other_with r table p) s.started (bytes_eq r.user s.user) (bytes_eq p.name s.publication) (flipped p.name s.publication ∙ parts.0)) (none_terms ps parts.1)

  pub one_elsewhere : (ps : List Publication) → IsSingle (λ p. bytes_eq s.publication (publication_name p)) ps → list_any term ps ≡ meant ps
  unfolding IsSingle
  one_elsewhere [] single = sym (nothing s.started (bytes_eq r.user s.user) (not (bytes_eq r.publication s.publication)))
  one_elsewhere (p ∷ ps) single = by (bytes_eq s.publication p.name) refl (one_elsewhere ps single.1)
    where
      by : (b : Bool) → bytes_eq s.publication p.name ≡ b → list_any term ps ≡ meant ps → list_any term (p ∷ ps) ≡ meant (p ∷ ps)
      by true e rest =
          let same : s.publication ≡ p.name = (bytes_eq-Decides s.publication p.name).0 e in
          let back : bytes_eq p.name s.publication ≡ true = flipped p.name s.publication ∙ e in
          let other : bytes_eq r.publication p.name ≡ bytes_eq r.publication s.publication = ap (bytes_eq r.publication) (sym same) in
          let none : list_any term ps ≡ false = none_terms ps (single.0 e) in
          (λ i. ((not (other i) && has_article (Some p) table) && (s.started && (bytes_eq r.user s.user && back i))) || none i)
          ∙ (one_term (not (bytes_eq r.publication s.publication)) (has_article (Some p) table) s.started (bytes_eq r.user s.user)
          ∙ sym (λ i. s.started && (bytes_eq r.user s.user && (not (bytes_eq r.publication s.publication) && has_article (cond (e i) (Some p) (named publication_name s.publication ps)) table))))
      by false e rest =
          ap (λ b. b || list_any term ps) (no_term (is_other_with r table p) s.started (bytes_eq r.user s.user) (bytes_eq p.name s.publication) (flipped p.name s.publication ∙ e))
          ∙ (rest
          ∙ sym (λ i. s.started && (bytes_eq r.user s.user && (not (bytes_eq r.publication s.publication) && has_article (cond (e i) (Some p) (named publication_name s.publication ps)) table))))

-- ---- all of them

pub any_elsewhere : (c : Lists) (r : SubscriptionRule) (table : List ℕ) → ((name : List ℕ) → IsSingle (λ p. bytes_eq name (publication_name p)) c.publications)
    → list_any (is_started_there c.subscriptions r table) c.publications ≡ list_any (is_elsewhere c r table) c.subscriptions
any_elsewhere c r table single =
    any_swapped (is_other_with r table) (λ p. is_start_of r.user p.name) c.publications c.subscriptions
    ∙ (λ i. list_any (λ s. one_elsewhere r table s c.publications (single s.publication) i) c.subscriptions)
