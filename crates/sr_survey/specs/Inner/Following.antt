-- What a survey does with the statements of an entry.
use Rattle.std.specs.Prelude.{◌≡◌, ◌⊎◌, ⊤, ℕ, ◌≤◌, true, false, List, [], ◌∷◌, Option, Some, None, max}
use Rattle.std.specs.BTreeMap as tree
use Rattle.std.specs.List.{All, Contains, AllByRecursion}
use Rattle.sr_ast.specs.declared.create.SubscriptionRule.{SubscriptionRule}
use Rattle.sr_ast.specs.declared.stmt.Stmt.{Stmt}
use Rattle.sr_ast.specs.declared.stmt.Stmt.TheVariants as stmt
use Rattle.sr_base.specs.Order.{name_cmp}
use Rattle.sr_book.specs.Entries.{Name}
use Rattle.sr_scan.specs.Inner.Images.{catalog_after}
use Rattle.sr_survey.specs.Inner.Alike.{touched}
use Rattle.sr_survey.specs.Inner.Keyed.{keys_of}
use Rattle.sr_survey.specs.declared.office.Office.{Office}
use Rattle.sr_survey.specs.declared.survey.Survey.{Survey}
use Rattle.sr_survey_places.specs.Inner.Listed.{under, is_begun, count_of}
use Rattle.sr_survey_places.specs.declared.key.Key.{Key}

-- offices by their users' names
abbrev pub ByUser : Type 0
ByUser = tree.BTreeMap Name Office

abbrev pub keys_in : Option Office → List Key
keys_in None = []
keys_in (Some office) = office.keys

abbrev pub since_in : Option Office → ℕ
since_in None = 0
since_in (Some office) = office.since

-- the keys of the subscriptions that a user ever had started
abbrev pub keys_at : ByUser → Name → List Key
keys_at offices user = keys_in (tree.get name_cmp offices user)

-- from where on the catalog shows him what it showed then
abbrev pub since_of : Survey → Name → ℕ
since_of s user = max s.since (since_in (tree.get name_cmp s.offices user))

-- a key is one of his, and places are listed under it
pub record IsKeyOf (s : Survey) (user : Name) (k : Key) : Type 0 where
  pub his : Contains (keys_at s.offices user) k
  pub begun : is_begun s.places.lists k ≡ true

-- the keys of a subscription, if there is one, are its user's
abbrev pub AreNoted : Survey → Option SubscriptionRule → Type 0
AreNoted s None = ⊤
AreNoted s (Some r) = All (IsKeyOf s r.user) (keys_of r.publication r.value)

-- the subscription that a statement starts
abbrev pub started_by : Stmt → Option SubscriptionRule
started_by (stmt.CreateTable t) = None
started_by (stmt.DropTable name) = None
started_by (stmt.CreatePublication p) = None
started_by (stmt.DropPublication name) = None
started_by (stmt.GrantRemote g) = None
started_by (stmt.GrantConsolidate g) = None
started_by (stmt.CreateSubscription r) = None
started_by (stmt.StartSubscription r) = Some r
started_by (stmt.StopSubscription r) = None
started_by (stmt.Synchronize r) = None
started_by (stmt.DropSubscription r) = None
started_by (stmt.CreateTrigger t) = None
started_by (stmt.DropTrigger name) = None
started_by (stmt.SetOption o) = None
started_by (stmt.Dml d) = None
started_by (stmt.Select q) = None
started_by stmt.Commit = None
started_by stmt.Rollback = None
started_by (stmt.Passthrough p) = None
started_by stmt.PassthroughStop = None

-- the keys of the subscription that a statement starts, if there is a statement and it starts one, are its user's
abbrev pub IsNoted : Survey → Option Stmt → Type 0
IsNoted s None = ⊤
IsNoted s (Some statement) = AreNoted s (started_by statement)

-- a key of the subscription that is started, if there is one, is its user's
abbrev pub IsOfRule : Option SubscriptionRule → Name → Key → Type 0
IsOfRule None user k = ⊥
IsOfRule (Some r) user k = (user ≡ r.user) × Contains (keys_of r.publication r.value) k

-- a key of a subscription that one of several statements starts
abbrev pub IsStarted : List (Option Stmt) → Name → Key → Type 0
IsStarted [] user k = ⊥
IsStarted (None ∷ meant) user k = IsStarted meant user k
IsStarted (Some s ∷ meant) user k = IsOfRule (started_by s) user k ⊎ IsStarted meant user k

-- keys that were a user's are his still, and keys that were begun stay so
pub record KeepsKeys (old new : Survey) : Type 0 where
  pub his : (user : Name) (k : Key) → Contains (keys_at old.offices user) k → Contains (keys_at new.offices user) k
  pub begun : (k : Key) → is_begun old.places.lists k ≡ true → is_begun new.places.lists k ≡ true

-- what a survey knew it still knows: keys are kept, places stay where they are, and starts only rise
pub record StillKnows (old new : Survey) : Type 0 where
  pub keys : KeepsKeys old new
  pub same : (k : Key) → under new.places.lists k ≡ under old.places.lists k
  pub rises : (user : Name) → since_of old user ≤ since_of new user
  pub begin : new.begin ≡ old.begin
  pub end : new.end ≡ old.end
  pub most : new.most ≡ old.most
  pub count : count_of new.places.lists ≡ count_of old.places.lists
  pub given_up : new.given_up ≡ old.given_up

-- a survey follows statements that end at an offset: its catalog goes on, whom they touch is shown another one since and nobody else
-- is, and what they start is noted and nothing else
pub record Follows (old : Survey) (meant : List (Option Stmt)) (at : ℕ) (new : Survey) : Type 0 where
  pub catalog : new.catalog ≡ catalog_after old.catalog meant
  pub others : (user : Name) → touched user meant ≡ false → since_of new user ≡ since_of old user
  pub touched : (user : Name) → touched user meant ≡ true → at ≤ since_of new user
  pub bound : (user : Name) → since_of new user ≤ max (since_of old user) at
  pub noted : AllByRecursion (IsNoted new) meant
  pub only : (user : Name) (k : Key) → Contains (keys_at new.offices user) k → Contains (keys_at old.offices user) k ⊎ IsStarted meant user k
  pub knows : StillKnows old new
