-- Each started subscription stays served.
use Rattle.std.proofs.Common.{◌≡◌, Bool, true, false, not, ◌&&◌, cond, List, [], ◌∷◌, ◌++◌, get_or, map, filter, Option, Some, None, refl, ap, subst, bytes_eq}
use Rattle.std.proofs.lemmas.Slice.Eq.{bytes_eq-Decides}
use Rattle.std.specs.List.{All, AllByRecursion}
use Rattle.sr_ast.specs.declared.create.SubscriptionRule.{SubscriptionRule}
use Rattle.sr_ast.specs.declared.stmt.Stmt.{Stmt}
use Rattle.sr_ast.specs.declared.stmt.Stmt.TheVariants as stmt
use Rattle.sr_base.specs.declared.value.Value.{Value as Cell}
use Rattle.sr_book.specs.Entries.{Name}
use Rattle.sr_catalog_change.specs.Changes.{refusal, next}
use Rattle.sr_catalog_ddl.specs.Subscriptions.{is_same_value, is_of, marked, subscription_of}
use Rattle.sr_catalog_schema.specs.Catalogs.{Lists}
use Rattle.sr_catalog_schema.specs.declared.fault.DdlFault.{DdlFault}
use Rattle.sr_catalog_schema.specs.declared.subscription.Subscription.{Subscription}
use Rattle.sr_exec_fits.proofs.Rows.{same_value}
use Rattle.sr_scan.specs.Inner.Images.{unless_refused, catalog_behind, catalog_after}
use Rattle.sr_survey.specs.Inner.Following.{IsKeyOf, IsNoted, KeepsKeys}
use Rattle.sr_survey.specs.Inner.Keyed.{keys_of}
use Rattle.sr_survey.specs.Inner.Surveyed.{IsServed}
use Rattle.sr_survey.specs.declared.survey.Survey.{Survey}
use Rattle.sr_survey_places.specs.declared.key.Key.{Key}

and_first : (a b : Bool) → (a && b) ≡ true → a ≡ true
and_first true b e = refl
and_first false b e = e

and_second : (a b : Bool) → (a && b) ≡ true → b ≡ true
and_second true b e = e
and_second false b e = cc

same_values : (v w : Option Cell) → is_same_value v w ≡ true → v ≡ w
same_values None None e = refl
same_values None (Some w) e = cc
same_values (Some v) None e = cc
same_values (Some v) (Some w) e = ap Some (same_value v w e)

-- a key that was his is so still
pub key_stays : (old new : Survey) (user : Name) (k : Key) → KeepsKeys old new → IsKeyOf old user k → IsKeyOf new user k
key_stays old new user k knows is = record { his = knows.his user k is.his; begun = knows.begun k is.begun }

pub keys_stay : (old new : Survey) (user : Name) (ks : List Key) → KeepsKeys old new → All (IsKeyOf old user) ks → All (IsKeyOf new user) ks
keys_stay old new user ks knows all = λ i d l. key_stays old new user (get_or ks i d) knows (all i d l)

served_stay : (old new : Survey) (ss : List Subscription) → KeepsKeys old new → AllByRecursion (IsServed old) ss → AllByRecursion (IsServed new) ss
served_stay old new [] knows all = tt
served_stay old new (x ∷ ss) knows all = ((λ started. keys_stay old new x.user (keys_of x.publication x.value) knows (all.0 started)), served_stay old new ss knows all.1)

pub still_served : (old new : Survey) (ss : List Subscription) → KeepsKeys old new → AllByRecursion (IsServed old) ss → AllByRecursion (IsServed new) ss
still_served old new ss knows all = served_stay old new ss knows all

module _ (s : Survey) where
  abbrev Noted : SubscriptionRule → Type 0
  Noted r = All (IsKeyOf s r.user) (keys_of r.publication r.value)

  -- the subscription of a rule whose keys are noted
  of_rule : (r : SubscriptionRule) (x : Subscription) → is_of r x ≡ true → Noted r → All (IsKeyOf s x.user) (keys_of x.publication x.value)
  of_rule r x is noted =
      let first : bytes_eq r.publication x.publication ≡ true = and_first (bytes_eq r.publication x.publication) (bytes_eq r.user x.user && is_same_value r.value x.value) is in
      let others = and_second (bytes_eq r.publication x.publication) (bytes_eq r.user x.user && is_same_value r.value x.value) is in
      let publication : r.publication ≡ x.publication = (bytes_eq-Decides r.publication x.publication).0 first in
      let user : r.user ≡ x.user = (bytes_eq-Decides r.user x.user).0 (and_first (bytes_eq r.user x.user) (is_same_value r.value x.value) others) in
      let value : r.value ≡ x.value = same_values r.value x.value (and_second (bytes_eq r.user x.user) (is_same_value r.value x.value) others) in
      subst (λ (u : Name). All (IsKeyOf s u) (keys_of x.publication x.value)) user
      (subst (λ (v : Option Cell). All (IsKeyOf s r.user) (keys_of x.publication v)) value
      (subst (λ (p : Name). All (IsKeyOf s r.user) (keys_of p r.value)) publication noted))

  start_one : (r : SubscriptionRule) → Noted r → (x : Subscription) → IsServed s x → (b : Bool) → is_of r x ≡ b → IsServed s (cond b (record x { started = true }) x)
  start_one r noted x served true is = λ started. of_rule r x is noted
  start_one r noted x served false is = served

  stop_one : (x : Subscription) → IsServed s x → (b : Bool) → IsServed s (cond b (record x { started = false }) x)
  stop_one x served true = λ started. cc
  stop_one x served false = served

  started_served : (r : SubscriptionRule) → Noted r → (ss : List Subscription) → AllByRecursion (IsServed s) ss → AllByRecursion (IsServed s) (map (marked true r) ss)
  started_served r noted [] all = tt
  started_served r noted (x ∷ ss) all = (start_one r noted x all.0 (is_of r x) refl, started_served r noted ss all.1)

  stopped_served : (r : SubscriptionRule) → (ss : List Subscription) → AllByRecursion (IsServed s) ss → AllByRecursion (IsServed s) (map (marked false r) ss)
  stopped_served r [] all = tt
  stopped_served r (x ∷ ss) all = (stop_one x all.0 (is_of r x), stopped_served r ss all.1)

  created_served : (r : SubscriptionRule) → (ss : List Subscription) → AllByRecursion (IsServed s) ss → AllByRecursion (IsServed s) (ss ++ subscription_of r ∷ [])
  created_served r [] all = ((λ started. cc), tt)
  created_served r (x ∷ ss) all = (all.0, created_served r ss all.1)

  dropped_served : (p : Subscription → Bool) (ss : List Subscription) → AllByRecursion (IsServed s) ss → AllByRecursion (IsServed s) (filter p ss)
  dropped_served p [] all = tt
  dropped_served p (x ∷ ss) all = go (p x) (dropped_served p ss all.1) where
    go : (b : Bool) → AllByRecursion (IsServed s) (filter p ss) → AllByRecursion (IsServed s) (cond b (x ∷ filter p ss) (filter p ss))
    go true rest = (all.0, rest)
    go false rest = rest

  next_served : (c : Lists) (statement : Stmt) → IsNoted s (Some statement) → AllByRecursion (IsServed s) c.subscriptions → AllByRecursion (IsServed s) (next c statement).subscriptions
  unfolding next
  next_served c (stmt.CreateTable t) noted all = all
  next_served c (stmt.DropTable name) noted all = all
  next_served c (stmt.CreatePublication p) noted all = all
  next_served c (stmt.DropPublication name) noted all = all
  next_served c (stmt.GrantRemote g) noted all = all
  next_served c (stmt.GrantConsolidate g) noted all = all
  next_served c (stmt.CreateSubscription r) noted all = created_served r c.subscriptions all
  next_served c (stmt.StartSubscription r) noted all = started_served r noted c.subscriptions all
  next_served c (stmt.StopSubscription r) noted all = stopped_served r c.subscriptions all
  next_served c (stmt.Synchronize r) noted all = all
  next_served c (stmt.DropSubscription r) noted all = dropped_served (λ x. not (is_of r x)) c.subscriptions all
  next_served c (stmt.CreateTrigger t) noted all = all
  next_served c (stmt.DropTrigger name) noted all = all
  next_served c (stmt.SetOption o) noted all = all
  next_served c (stmt.Dml d) noted all = all
  next_served c (stmt.Select q) noted all = all
  next_served c stmt.Commit noted all = all
  next_served c stmt.Rollback noted all = all
  next_served c (stmt.Passthrough p) noted all = all
  next_served c stmt.PassthroughStop noted all = all

  refused_served : (o : Option DdlFault) (c d : Lists) → AllByRecursion (IsServed s) c.subscriptions → AllByRecursion (IsServed s) d.subscriptions → AllByRecursion (IsServed s) (unless_refused o c d).subscriptions
  refused_served None c d before after = after
  refused_served (Some fault) c d before after = before

  pub after_served : (c : Lists) (meant : List (Option Stmt)) → AllByRecursion (IsNoted s) meant → AllByRecursion (IsServed s) c.subscriptions → AllByRecursion (IsServed s) (catalog_after c meant).subscriptions
  after_served c [] noted all = all
  after_served c (None ∷ meant) noted all = after_served c meant noted.1 all
  after_served c (Some m ∷ meant) noted all = after_served (catalog_behind c (Some m)) meant noted.1 (refused_served (refusal c m) c (next c m) all (next_served c m noted.0 all))
