-- What a survey notes of a statement.
use Rattle.std.proofs.Common.{◌≡◌, ◌⊎◌, ℕ, ◌≤◌, max, true, List, ◌++◌, Result, Ok, Err, OnOk, refl, sym, inl, inr, subst, arith, ⊎_elim, ◌∙◌}
use Rattle.std.proofs.lemmas.Slice.Eq.{bytes_eq-Decides}
use Rattle.std.proofs.lemmas.List.Elements.{All-append, Contains-append_left, Contains-append_right}
use Rattle.std.specs.List.{Contains}
use Rattle.sr_ast.specs.declared.create.Grant.{Grant}
use Rattle.sr_ast.specs.declared.create.SubscriptionRule.{SubscriptionRule}
use Rattle.sr_ast.specs.declared.stmt.Stmt.{Stmt}
use Rattle.sr_ast.specs.declared.stmt.Stmt.TheVariants as stmt
use Rattle.sr_book.specs.Entries.{Name}
use Rattle.sr_survey.proofs.Served.{keys_stay}
use Rattle.sr_survey.specs.Inner.Effects.{is_quiet, is_for_all, Serves, Touches, TouchesAll, Notes}
use Rattle.sr_survey.specs.Inner.Following.{keys_at, since_of, IsKeyOf, StillKnows}
use Rattle.sr_survey.specs.Inner.Keyed.{keys_of}
use Rattle.sr_survey.specs.declared.survey.Survey.{Survey}
use Rattle.sr_survey_places.specs.declared.key.Key.{Key}

pub le_trans : (a b c : ℕ) → a ≤ b → b ≤ c → a ≤ c
le_trans a b c x y = omega arith

pub max_itself : (a at : ℕ) → a ≤ max a at
max_itself a at = grind arith

pub max_on : (a b c at : ℕ) → c ≤ max b at → b ≤ max a at → c ≤ max a at
max_on a b c at x y = grind arith

pub max_same : (a b c at : ℕ) → c ≤ max b at → b ≡ a → c ≤ max a at
max_same a b c at x e = subst (λ n. c ≤ max n at) e x

pub knows_itself : (s : Survey) → StillKnows s s
knows_itself s = record {
  keys = record { his = λ user k h. h; begun = λ k h. h };
  same = λ k. refl;
  rises = λ user. omega arith;
  begin = refl;
  end = refl;
  most = refl;
  count = refl;
  given_up = refl;
}

pub knows_on : (a b c : Survey) → StillKnows a b → StillKnows b c → StillKnows a c
knows_on a b c x y = record {
  keys = record { his = λ user k h. y.keys.his user k (x.keys.his user k h); begun = λ k h. y.keys.begun k (x.keys.begun k h) };
  same = λ k. y.same k ∙ x.same k;
  rises = λ user. le_trans (since_of a user) (since_of b user) (since_of c user) (x.rises user) (y.rises user);
  begin = y.begin ∙ x.begin;
  end = y.end ∙ x.end;
  most = y.most ∙ x.most;
  count = y.count ∙ x.count;
  given_up = y.given_up ∙ x.given_up;
}

pub serves_both : (a b c : Survey) (user : Name) (ks js : List Key) → Serves a user ks b → Serves b user js c → Serves a user (ks ++ js) c
serves_both a b c user ks js x y = record {
  has = All-append (IsKeyOf c user) ks js (keys_stay b c user ks y.knows.keys x.has) y.has;
  since = λ u. y.since u ∙ x.since u;
  only = λ u k h. ⊎_elim (λ i. was u k (x.only u k i)) (λ i. inr (i.0, Contains-append_right ks js k i.1)) (y.only u k h);
  knows = knows_on a b c x.knows y.knows;
  catalog = y.catalog ∙ x.catalog;
} where
  was : (u : Name) (k : Key) → Contains (keys_at a.offices u) k ⊎ ((u ≡ user) × Contains ks k) → Contains (keys_at a.offices u) k ⊎ ((u ≡ user) × Contains (ks ++ js) k)
  was u k (inl h) = inl h
  was u k (inr h) = inr (h.0, Contains-append_left ks js k h.1)

-- a subscription is started: its keys are its user's, and he is shown another catalog
pub started : (a b c : Survey) (r : SubscriptionRule) (at : ℕ) → Serves a r.user (keys_of r.publication r.value) b → Touches b r.user at c → Notes a (stmt.StartSubscription r) at c
started a b c r at served moved = record {
  touched = λ user e. subst (λ (u : Name). at ≤ since_of c u) (sym ((bytes_eq-Decides user r.user).0 e)) moved.since;
  bound = λ user. max_same (since_of a user) (since_of b user) (since_of c user) at (moved.bound user) (served.since user);
  others = λ user e. moved.others user e ∙ served.since user;
  noted = keys_stay b c r.user (keys_of r.publication r.value) moved.knows.keys served.has;
  only = λ u k h. served.only u k (moved.only u k h);
  knows = knows_on a b c served.knows moved.knows;
  catalog = moved.catalog ∙ served.catalog;
}

stopped : (a b : Survey) (r : SubscriptionRule) (at : ℕ) → Touches a r.user at b → Notes a (stmt.StopSubscription r) at b
stopped a b r at moved = record {
  touched = λ user e. subst (λ (u : Name). at ≤ since_of b u) (sym ((bytes_eq-Decides user r.user).0 e)) moved.since;
  bound = moved.bound;
  others = moved.others;
  noted = tt;
  only = λ u k h. inl (moved.only u k h);
  knows = moved.knows;
  catalog = moved.catalog;
}

dropped : (a b : Survey) (r : SubscriptionRule) (at : ℕ) → Touches a r.user at b → Notes a (stmt.DropSubscription r) at b
dropped a b r at moved = record {
  touched = λ user e. subst (λ (u : Name). at ≤ since_of b u) (sym ((bytes_eq-Decides user r.user).0 e)) moved.since;
  bound = moved.bound;
  others = moved.others;
  noted = tt;
  only = λ u k h. inl (moved.only u k h);
  knows = moved.knows;
  catalog = moved.catalog;
}

granted : (a b : Survey) (g : Grant) (at : ℕ) → Touches a g.user at b → Notes a (stmt.GrantConsolidate g) at b
granted a b g at moved = record {
  touched = λ user e. subst (λ (u : Name). at ≤ since_of b u) (sym ((bytes_eq-Decides user g.user).0 e)) moved.since;
  bound = moved.bound;
  others = moved.others;
  noted = tt;
  only = λ u k h. inl (moved.only u k h);
  knows = moved.knows;
  catalog = moved.catalog;
}

-- the same of a call's answer
pub stopped_so : {A E : Type 0} (a b : Survey) (s : Stmt) (r : SubscriptionRule) (at : ℕ) (result : Result A E) → s ≡ stmt.StopSubscription r → OnOk result (Touches a r.user at b) → OnOk result (Notes a s at b)
stopped_so a b s r at (Ok done) is moved = subst (λ x. Notes a x at b) (sym is) (stopped a b r at moved)
stopped_so a b s r at (Err e) is moved = tt

pub dropped_so : {A E : Type 0} (a b : Survey) (s : Stmt) (r : SubscriptionRule) (at : ℕ) (result : Result A E) → s ≡ stmt.DropSubscription r → OnOk result (Touches a r.user at b) → OnOk result (Notes a s at b)
dropped_so a b s r at (Ok done) is moved = subst (λ x. Notes a x at b) (sym is) (dropped a b r at moved)
dropped_so a b s r at (Err e) is moved = tt

pub granted_so : {A E : Type 0} (a b : Survey) (s : Stmt) (g : Grant) (at : ℕ) (result : Result A E) → s ≡ stmt.GrantConsolidate g → OnOk result (Touches a g.user at b) → OnOk result (Notes a s at b)
granted_so a b s g at (Ok done) is moved = subst (λ x. Notes a x at b) (sym is) (granted a b g at moved)
granted_so a b s g at (Err e) is moved = tt

-- a statement that touches nobody
pub quiet_noted : (a : Survey) (s : Stmt) (at : ℕ) → is_quiet s ≡ true → Notes a s at a
quiet_noted a (stmt.CreateTable t) at e = cc
quiet_noted a (stmt.DropTable name) at e = cc
quiet_noted a (stmt.CreatePublication p) at e = cc
quiet_noted a (stmt.DropPublication name) at e = cc
quiet_noted a (stmt.GrantRemote g) at e = record { touched = λ user t. cc; bound = λ user. max_itself (since_of a user) at; others = λ user t. refl; noted = tt; only = λ u k h. inl h; knows = knows_itself a; catalog = refl }
quiet_noted a (stmt.GrantConsolidate g) at e = cc
quiet_noted a (stmt.CreateSubscription r) at e = record { touched = λ user t. cc; bound = λ user. max_itself (since_of a user) at; others = λ user t. refl; noted = tt; only = λ u k h. inl h; knows = knows_itself a; catalog = refl }
quiet_noted a (stmt.StartSubscription r) at e = cc
quiet_noted a (stmt.StopSubscription r) at e = cc
quiet_noted a (stmt.Synchronize r) at e = record { touched = λ user t. cc; bound = λ user. max_itself (since_of a user) at; others = λ user t. refl; noted = tt; only = λ u k h. inl h; knows = knows_itself a; catalog = refl }
quiet_noted a (stmt.DropSubscription r) at e = cc
quiet_noted a (stmt.CreateTrigger t) at e = record { touched = λ user t. cc; bound = λ user. max_itself (since_of a user) at; others = λ user t. refl; noted = tt; only = λ u k h. inl h; knows = knows_itself a; catalog = refl }
quiet_noted a (stmt.DropTrigger name) at e = record { touched = λ user t. cc; bound = λ user. max_itself (since_of a user) at; others = λ user t. refl; noted = tt; only = λ u k h. inl h; knows = knows_itself a; catalog = refl }
quiet_noted a (stmt.SetOption o) at e = cc
quiet_noted a (stmt.Dml d) at e = record { touched = λ user t. cc; bound = λ user. max_itself (since_of a user) at; others = λ user t. refl; noted = tt; only = λ u k h. inl h; knows = knows_itself a; catalog = refl }
quiet_noted a (stmt.Select q) at e = record { touched = λ user t. cc; bound = λ user. max_itself (since_of a user) at; others = λ user t. refl; noted = tt; only = λ u k h. inl h; knows = knows_itself a; catalog = refl }
quiet_noted a stmt.Commit at e = record { touched = λ user t. cc; bound = λ user. max_itself (since_of a user) at; others = λ user t. refl; noted = tt; only = λ u k h. inl h; knows = knows_itself a; catalog = refl }
quiet_noted a stmt.Rollback at e = record { touched = λ user t. cc; bound = λ user. max_itself (since_of a user) at; others = λ user t. refl; noted = tt; only = λ u k h. inl h; knows = knows_itself a; catalog = refl }
quiet_noted a (stmt.Passthrough p) at e = record { touched = λ user t. cc; bound = λ user. max_itself (since_of a user) at; others = λ user t. refl; noted = tt; only = λ u k h. inl h; knows = knows_itself a; catalog = refl }
quiet_noted a stmt.PassthroughStop at e = record { touched = λ user t. cc; bound = λ user. max_itself (since_of a user) at; others = λ user t. refl; noted = tt; only = λ u k h. inl h; knows = knows_itself a; catalog = refl }

-- a statement that touches everybody
pub all_noted : (a b : Survey) (s : Stmt) (at : ℕ) → is_for_all s ≡ true → TouchesAll a at b → Notes a s at b
all_noted a b (stmt.CreateTable t) at e moved = record { touched = λ user t. moved.since user; bound = moved.bound; others = λ user t. cc; noted = tt; only = λ u k h. inl (moved.only u k h); knows = moved.knows; catalog = moved.catalog }
all_noted a b (stmt.DropTable name) at e moved = record { touched = λ user t. moved.since user; bound = moved.bound; others = λ user t. cc; noted = tt; only = λ u k h. inl (moved.only u k h); knows = moved.knows; catalog = moved.catalog }
all_noted a b (stmt.CreatePublication p) at e moved = record { touched = λ user t. moved.since user; bound = moved.bound; others = λ user t. cc; noted = tt; only = λ u k h. inl (moved.only u k h); knows = moved.knows; catalog = moved.catalog }
all_noted a b (stmt.DropPublication name) at e moved = record { touched = λ user t. moved.since user; bound = moved.bound; others = λ user t. cc; noted = tt; only = λ u k h. inl (moved.only u k h); knows = moved.knows; catalog = moved.catalog }
all_noted a b (stmt.GrantRemote g) at e moved = cc
all_noted a b (stmt.GrantConsolidate g) at e moved = cc
all_noted a b (stmt.CreateSubscription r) at e moved = cc
all_noted a b (stmt.StartSubscription r) at e moved = cc
all_noted a b (stmt.StopSubscription r) at e moved = cc
all_noted a b (stmt.Synchronize r) at e moved = cc
all_noted a b (stmt.DropSubscription r) at e moved = cc
all_noted a b (stmt.CreateTrigger t) at e moved = cc
all_noted a b (stmt.DropTrigger name) at e moved = cc
all_noted a b (stmt.SetOption o) at e moved = record { touched = λ user t. moved.since user; bound = moved.bound; others = λ user t. cc; noted = tt; only = λ u k h. inl (moved.only u k h); knows = moved.knows; catalog = moved.catalog }
all_noted a b (stmt.Dml d) at e moved = cc
all_noted a b (stmt.Select q) at e moved = cc
all_noted a b stmt.Commit at e moved = cc
all_noted a b stmt.Rollback at e moved = cc
all_noted a b (stmt.Passthrough p) at e moved = cc
all_noted a b stmt.PassthroughStop at e moved = cc
