-- A statement is accepted where nothing speaks against it.
use Rattle.std.proofs.Common.{◌≡◌, ℕ, Bool, true, false, not, List, [], ◌∷◌, Option, Some, None, refl, ap}
use Rattle.std.specs.Prelude.{option_map}
use Rattle.std.specs.List.{AllByRecursion}
use Rattle.std.proofs.lemmas.Bool.{not-false}
use Rattle.sr_ast.specs.declared.stmt.Stmt.{Stmt}
use Rattle.sr_catalog_schema.specs.Catalogs.{Lists}
use Rattle.sr_catalog_schema.specs.Causes.{Causes, first_fault}
use Rattle.sr_catalog_change.specs.Changes.{causes, refusal}
use Rattle.sr_catalog_schema.specs.Firsts.{first_of, first_absent, where_true}
use Rattle.sr_catalog_schema.specs.declared.fault.DdlFault.TheVariants.{Exists, Missing, BadType, NoKey, KeyNotInArticle, TwiceSubscribed, InUse}

-- nothing speaks against a statement
pub record NoCause (against : Causes) : Type 0 where
  pub exists : against.exists ≡ None
  pub missing : against.missing ≡ None
  pub bad_type : against.bad_type ≡ None
  pub no_key : against.no_key ≡ None
  pub key_outside : against.key_outside ≡ None
  pub twice : against.twice ≡ None
  pub in_use : against.in_use ≡ None
  pub too_many : against.too_many ≡ None

pub first_of-None : {A : Type 0} (a b : Option A) → first_of a b ≡ None → (a ≡ None) × (b ≡ None)
first_of-None None b h = (refl, h)
first_of-None (Some x) b h = absurd (cc)

pub option_map-None : {A B : Type 0} (f : A → B) (a : Option A) → option_map f a ≡ None → a ≡ None
option_map-None f None h = refl
option_map-None f (Some x) h = absurd (cc)

pub where_true-None : {A : Type 0} (b : Bool) (x : A) → where_true b x ≡ None → b ≡ false
where_true-None true x h = absurd (cc)
where_true-None false x h = refl

pub no_cause_from : (against : Causes) → first_fault against ≡ None → NoCause against
unfolding first_fault
no_cause_from against h =
    let a = first_of-None (option_map Exists against.exists) _ h in
    let b = first_of-None (option_map Missing against.missing) _ a.1 in
    let c = first_of-None (option_map BadType against.bad_type) _ b.1 in
    let d = first_of-None (option_map NoKey against.no_key) _ c.1 in
    let e = first_of-None (option_map (λ (p : List ℕ × List ℕ). KeyNotInArticle p.0 p.1) against.key_outside) _ d.1 in
    let f = first_of-None (option_map (λ (p : List ℕ × List ℕ). TwiceSubscribed p.0 p.1) against.twice) _ e.1 in
    let g = first_of-None (option_map InUse against.in_use) _ f.1 in
    record {
      exists = option_map-None _ _ a.0;
      missing = option_map-None _ _ b.0;
      bad_type = option_map-None _ _ c.0;
      no_key = option_map-None _ _ d.0;
      key_outside = option_map-None _ _ e.0;
      twice = option_map-None _ _ f.0;
      in_use = option_map-None _ _ g.0;
      too_many = option_map-None _ _ g.1;
    }

-- nothing speaks against an accepted statement
pub no_cause_of : (c : Lists) (s : Stmt) → refusal c s ≡ None → NoCause (causes c s)
unfolding refusal
no_cause_of c s h = no_cause_from (causes c s) h

-- what has the same causes is refused alike
pub refused_alike : (c d : Lists) (s t : Stmt) → causes c s ≡ causes d t → refusal c s ≡ refusal d t
unfolding refusal
refused_alike c d s t e = ap first_fault e

-- none of the names is absent
pub all_there : (there : List ℕ → Bool) (names : List (List ℕ)) → first_absent there names ≡ None → AllByRecursion (λ n. there n ≡ true) names
all_there there [] h = tt
all_there there (n ∷ names) h =
    let parts = first_of-None (where_true (not (there n)) n) (first_absent there names) h in
    (not-false (there n) (where_true-None (not (there n)) n parts.0), all_there there names parts.1)
