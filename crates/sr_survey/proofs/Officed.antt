-- Offices with a key more, and with a later start.
use Rattle.std.proofs.Common.{◌≡◌, ◌⊎◌, ℕ, ◌≤◌, max, Bool, true, false, not, ◌||◌, cond, List, [], ◌∷◌, ◌++◌, Option, Some, bytes_eq, refl, sym, ap, inl, inr, subst, arith, ⊎_elim, ◌∙◌}
use Rattle.std.proofs.lemmas.List.Elements.{All-nil, All-cons, Contains-push, Contains-push_cases, Contains-append_left}
use Rattle.std.proofs.lemmas.Map.Lookups.{exact_bytes}
use Rattle.std.proofs.lemmas.Slice.Eq.{bytes_eq-Decides}
use Rattle.std.specs.BTreeMap as tree
use Rattle.std.specs.BTreeMap.{is_at}
use Rattle.std.specs.Cmp.{tied_itself}
use Rattle.std.specs.List.{Contains}
use Rattle.std.specs.Ordering.{is_eq}
use Rattle.std.specs.declared.cmp.Ordering.{Ordering}
use Rattle.std.specs.declared.cmp.Ordering.TheVariants.{Less, Equal, Greater}
use Rattle.sr_base.specs.Inner.Order.{name_cmp_total}
use Rattle.sr_base.specs.Order.{name_cmp}
use Rattle.sr_book.specs.Entries.{Name}
use Rattle.sr_survey.proofs.Members.{In, some_passes, contains_from_in}
use Rattle.sr_survey.specs.Inner.Effects.{Serves, Touches, TouchesAll}
use Rattle.sr_survey.specs.Inner.Following.{ByUser, keys_in, since_in, keys_at, IsKeyOf}
use Rattle.sr_survey.specs.Inner.Offices.{has_key, with_one, with_key, with_since}
use Rattle.sr_survey.specs.declared.office.Office.{Office}
use Rattle.sr_survey.specs.declared.survey.Survey.{Survey}
use Rattle.sr_survey_places.specs.Inner.Exact.{one_key}
use Rattle.sr_survey_places.specs.Inner.Keys.{is_shared, key_cmp}
use Rattle.sr_survey_places.specs.Inner.Listed.{IsBegun}
use Rattle.sr_survey_places.specs.declared.key.Key.{Key}
use Rattle.sr_survey_places.specs.declared.listings.Listings.{Listings}

equal : (o : Ordering) → is_eq o ≡ true → o ≡ Equal
equal Less h = cc
equal Equal h = refl
equal Greater h = cc

pub one_name : (a b : Name) → is_eq (name_cmp a b) ≡ true → a ≡ b
one_name a b e = exact_bytes a b (equal (name_cmp a b) e)

at_itself : (a : Name) → is_eq (name_cmp a a) ≡ true
at_itself a = ap is_eq (tied_itself name_cmp_total a)

-- another name is not found at a user's
other_name : (a b : Name) → bytes_eq b a ≡ false → is_eq (name_cmp a b) ≡ false
other_name a b apart = go (is_eq (name_cmp a b)) refl where
  go : (t : Bool) → is_eq (name_cmp a b) ≡ t → t ≡ false
  go true e = let same : bytes_eq b a ≡ true = (bytes_eq-Decides b a).1 (sym (one_name a b e)) in cc
  go false e = refl

or_true : (b : Bool) → (b || true) ≡ true
or_true true = refl
or_true false = refl

-- the offices are as others, but for the one of a user
abbrev pub IsPut : (old new : ByUser) (user : Name) (office : Office) → Type 0
IsPut old new user office = (q : Name) → tree.get name_cmp new q ≡ cond (is_at (name_cmp user) q) (Some office) (tree.get name_cmp old q)

put_there : (old new : ByUser) (user : Name) (office : Office) → IsPut old new user office → tree.get name_cmp new user ≡ Some office
put_there old new user office put = put user ∙ ap (λ b. cond b (Some office) (tree.get name_cmp old user)) (at_itself user)

each_office : (P : Name → Option Office → Type 0) (old new : ByUser) (user : Name) (office : Office) → IsPut old new user office
    → P user (Some office) → ((q : Name) → P q (tree.get name_cmp old q)) → (q : Name) → P q (tree.get name_cmp new q)
each_office P old new user office put here others q =
    let holds : (b : Bool) → is_eq (name_cmp user q) ≡ b → P q (cond b (Some office) (tree.get name_cmp old q)) =
    λ b. elim b as (λ v. is_eq (name_cmp user q) ≡ v → P q (cond v (Some office) (tree.get name_cmp old q))) [ true ↦ λ e. subst (λ (x : Name). P x (Some office)) (one_name user q e) here | false ↦ λ e. others q ] in
    subst (P q) (sym (put q)) (holds (is_eq (name_cmp user q)) refl)

-- ---- a key more

with_one_has : (keys : List Key) (k : Key) → Contains (with_one keys k) k
with_one_has keys k = go (has_key keys k) refl where
  go : (b : Bool) → has_key keys k ≡ b → Contains (cond b keys (keys ++ k ∷ [])) k
  go true is =
      let one = some_passes (λ q. is_eq (key_cmp k q)) keys is in
      contains_from_in keys k (subst (λ (x : Key). In keys x) (sym (one_key k one.item one.passes)) one.there)
  go false is = Contains-push keys k

with_one_keeps : (keys : List Key) (k q : Key) → Contains keys q → Contains (with_one keys k) q
with_one_keeps keys k q h = go (has_key keys k) where
  go : (b : Bool) → Contains (cond b keys (keys ++ k ∷ [])) q
  go true = h
  go false = Contains-append_left keys (k ∷ []) q h

with_one_only : (keys : List Key) (k q : Key) → Contains (with_one keys k) q → Contains keys q ⊎ (k ≡ q)
with_one_only keys k q = go (has_key keys k) where
  go : (b : Bool) → Contains (cond b keys (keys ++ k ∷ [])) q → Contains keys q ⊎ (k ≡ q)
  go true h = inl h
  go false h = Contains-push_cases keys k q h

max_rises : (a b c : ℕ) → b ≤ c → max a b ≤ max a c
max_rises a b c h = grind arith

-- a key is begun and given to a user
pub served_key : (a : Survey) (places : Listings) (offices : ByUser) (user : Name) (k : Key) → IsBegun a.places.lists k places.lists → IsPut a.offices offices user (with_key (tree.get name_cmp a.offices user) k)
    → Serves a user (k ∷ []) (record a { places = places; offices = offices })
served_key a places offices user k begun put = record {
  has = All-cons (IsKeyOf (record a { places = places; offices = offices }) user) k []
      (record {
        his = subst (λ o. Contains (keys_in o) k) (sym (put_there a.offices offices user (with_key (tree.get name_cmp a.offices user) k) put)) (with_one_has (keys_at a.offices user) k);
        begun = ap (λ b. not (is_shared k) || b) begun.there ∙ or_true (not (is_shared k));
      }) (All-nil (IsKeyOf (record a { places = places; offices = offices }) user));
  since = λ u. ap (max a.since)
      (each_office (λ n o. since_in o ≡ since_in (tree.get name_cmp a.offices n)) a.offices offices user (with_key (tree.get name_cmp a.offices user) k) put refl (λ n. refl) u);
  only = λ u q. each_office (λ n o. Contains (keys_in o) q → Contains (keys_at a.offices n) q ⊎ ((n ≡ user) × Contains (k ∷ []) q)) a.offices offices user (with_key (tree.get name_cmp a.offices user) k) put
      (λ h. ⊎_elim (λ i. inl i) (λ e. inr (refl, (0, omega arith, e))) (with_one_only (keys_at a.offices user) k q h)) (λ n h. inl h) u;
  knows = record {
    keys = record {
      his = λ u q. each_office (λ n o. Contains (keys_at a.offices n) q → Contains (keys_in o) q) a.offices offices user (with_key (tree.get name_cmp a.offices user) k) put
          (λ h. with_one_keeps (keys_at a.offices user) k q h) (λ n h. h) u;
      begun = begun.begun;
    };
    same = begun.same;
    rises = λ u. max_rises a.since (since_in (tree.get name_cmp a.offices u)) (since_in (tree.get name_cmp offices u))
        (each_office (λ n o. since_in (tree.get name_cmp a.offices n) ≤ since_in o) a.offices offices user (with_key (tree.get name_cmp a.offices user) k) put (omega arith) (λ n. omega arith) u);
    begin = refl;
    end = refl;
    most = refl;
    count = begun.count;
    given_up = refl;
  };
  catalog = refl;
}

-- ---- a later start

pub touched_user : (a : Survey) (offices : ByUser) (user : Name) (at : ℕ) → IsPut a.offices offices user (with_since (tree.get name_cmp a.offices user) at) → Touches a user at (record a { offices = offices })
touched_user a offices user at put = record {
  since = subst (λ o. at ≤ max a.since (since_in o)) (sym (put_there a.offices offices user (with_since (tree.get name_cmp a.offices user) at) put)) (late a.since (since_in (tree.get name_cmp a.offices user)));
  bound = λ u. within a.since (since_in (tree.get name_cmp a.offices u)) (since_in (tree.get name_cmp offices u))
      (each_office (λ n o. since_in o ≤ max (since_in (tree.get name_cmp a.offices n)) at) a.offices offices user (with_since (tree.get name_cmp a.offices user) at) put (omega arith)
      (λ n. le_max (since_in (tree.get name_cmp a.offices n))) u);
  others = λ u apart. ap (λ o. max a.since (since_in o)) (put u ∙ ap (λ b. cond b (Some (with_since (tree.get name_cmp a.offices user) at)) (tree.get name_cmp a.offices u)) (other_name user u apart));
  only = λ u q. each_office (λ n o. Contains (keys_in o) q → Contains (keys_at a.offices n) q) a.offices offices user (with_since (tree.get name_cmp a.offices user) at) put (λ h. h) (λ n h. h) u;
  knows = record {
    keys = record {
      his = λ u q. each_office (λ n o. Contains (keys_at a.offices n) q → Contains (keys_in o) q) a.offices offices user (with_since (tree.get name_cmp a.offices user) at) put (λ h. h) (λ n h. h) u;
      begun = λ q h. h;
    };
    same = λ q. refl;
    rises = λ u. max_rises a.since (since_in (tree.get name_cmp a.offices u)) (since_in (tree.get name_cmp offices u))
        (each_office (λ n o. since_in (tree.get name_cmp a.offices n) ≤ since_in o) a.offices offices user (with_since (tree.get name_cmp a.offices user) at) put (le_max (since_in (tree.get name_cmp a.offices user))) (λ n. omega arith) u);
    begin = refl;
    end = refl;
    most = refl;
    count = refl;
    given_up = refl;
  };
  catalog = refl;
} where
  late : (s n : ℕ) → at ≤ max s (max n at)
  late s n = grind arith

  within : (s n m : ℕ) → m ≤ max n at → max s m ≤ max (max s n) at
  within s n m h = grind arith

  le_max : (n : ℕ) → n ≤ max n at
  le_max n = grind arith

pub touched_all : (a : Survey) (at since : ℕ) → since ≡ max a.since at → TouchesAll a at (record a { since = since })
touched_all a at since is = record {
  since = λ user. subst (λ n. at ≤ max n (since_in (tree.get name_cmp a.offices user))) (sym is) (late a.since (since_in (tree.get name_cmp a.offices user)));
  bound = λ user. subst (λ n. max n (since_in (tree.get name_cmp a.offices user)) ≤ max (max a.since (since_in (tree.get name_cmp a.offices user))) at) (sym is) (within a.since (since_in (tree.get name_cmp a.offices user)));
  only = λ u q h. h;
  knows = record {
    keys = record { his = λ u q h. h; begun = λ q h. h };
    same = λ q. refl;
    rises = λ u. subst (λ n. max a.since (since_in (tree.get name_cmp a.offices u)) ≤ max n (since_in (tree.get name_cmp a.offices u))) (sym is) (rises a.since (since_in (tree.get name_cmp a.offices u)));
    begin = refl;
    end = refl;
    most = refl;
    count = refl;
    given_up = refl;
  };
  catalog = refl;
} where
  late : (s n : ℕ) → at ≤ max (max s at) n
  late s n = grind arith

  rises : (s n : ℕ) → max s n ≤ max (max s at) n
  rises s n = grind arith

  within : (s n : ℕ) → max (max s at) n ≤ max (max s n) at
  within s n = grind arith
