-- Statements over which a user's shares stay.
use Rattle.std.proofs.Common.{◌≡◌, Bool, true, false, not, ◌&&◌, cond, List, [], ◌∷◌, ◌++◌, map, filter, Option, Some, None, option_map, filter_map, bytes_eq, refl, sym, ap, flat_map, ◌∙◌}
use Rattle.std.specs.List.{cons_option, AllByRecursion}
use Rattle.std.proofs.lemmas.Slice.Eq.{bytes_eq-Decides}
use Rattle.sr_ast.specs.declared.stmt.Stmt.{Stmt}
use Rattle.sr_base.specs.declared.offset.Offset.{Offset}
use Rattle.sr_catalog_ddl.specs.Subscriptions.{is_same_value}
use Rattle.sr_logform.specs.declared.change.Change.{Change}
use Rattle.sr_logform.specs.declared.entry.Entry.TheVariants.{Own, From, Sync, Pass}
use Rattle.sr_logform.specs.declared.op.Op.{Op}
use Rattle.sr_logform.specs.declared.op.Op.TheVariants.{Insert, Remove, Set, Clear, Exec}
use Rattle.sr_logform.specs.declared.outcome.Outcome.{Outcome}
use Rattle.sr_logform.specs.declared.outcome.Outcome.TheVariants.{Plain, Conflict, Clash}
use Rattle.sr_scan.specs.Given.{row_synced}
use Rattle.sr_scan.specs.Inner.Images.{SubscribedTables, changes_told, conflict_told, op_told, ops_told, told}
use Rattle.sr_catalog_schema.specs.Firsts.{has}
use Rattle.sr_ast.specs.declared.create.SubscriptionRule.{SubscriptionRule}
use Rattle.sr_ast.specs.declared.create.Grant.{Grant}
use Rattle.sr_ast.specs.declared.stmt.Stmt.TheVariants as stmt
use Rattle.sr_base.specs.declared.value.Value.{Value as Cell}
use Rattle.sr_book.specs.Entries.{Name}
use Rattle.sr_catalog_change.specs.Changes.{next}
use Rattle.sr_catalog_ddl.specs.Subscriptions.{is_of, marked, subscription_of}
use Rattle.sr_catalog_ddl.specs.Users.{stands_above, user_of}
use Rattle.sr_catalog_schema.specs.Members.{user_name}
use Rattle.sr_catalog_schema.specs.Names.{named}
use Rattle.sr_catalog_schema.specs.declared.user.User.{User}
use Rattle.sr_exec_dml.specs.Statements.{table_named}
use Rattle.sr_publish.specs.SubscribedTables.{SubscribedTable, article_in, source_in, source_of, value_in, subscribed_table_by, subscribed_table_in, subscribed_table_of}
use Rattle.sr_catalog_schema.specs.Catalogs.{Lists}
use Rattle.sr_catalog_schema.specs.Firsts.{first_of, first_among}
use Rattle.sr_catalog_schema.specs.declared.publication.Article.{Article}
use Rattle.sr_catalog_schema.specs.declared.subscription.Subscription.{Subscription}
use Rattle.sr_catalog_schema.specs.declared.table.Table.{Table}
use Rattle.sr_survey.specs.Inner.Alike.{ShowsAlike}

-- the same of other subscriptions, where source and values are the same
pub record SameOf (c : Lists) (user : Name) (ss : List Subscription) : Type 0 where
  pub source : (table : Name) → first_among (source_in c user table) ss ≡ source_of c user table
  pub values : (p : Name) → filter_map (value_in user p) ss ≡ filter_map (value_in user p) c.subscriptions

share_same : (c : Lists) (user : Name) (ss : List Subscription) → SameOf c user ss → (o : Option Table) (q q' : Option (Name × Article)) → q' ≡ q
    → subscribed_table_in (record c { subscriptions = ss }) user o q' ≡ subscribed_table_in c user o q
share_same c user ss same None q q' e = refl
share_same c user ss same (Some t) q q' e =
    ap (λ (x : Option (Name × Article)). option_map (subscribed_table_by (record c { subscriptions = ss }) user t) x) e
    ∙ ap (λ (f : (Name × Article) → SubscribedTable). option_map f q) (λ i. λ (source : Name × Article). record (subscribed_table_by c user t source) { values = same.values source.0 i })

pub alike : (c : Lists) (user : Name) (ss : List Subscription) → SameOf c user ss → ShowsAlike c (record c { subscriptions = ss }) user
unfolding subscribed_table_of
alike c user ss same = record {
  shares = λ table. share_same c user ss same (table_named c table) (source_of c user table) (first_among (source_in c user table) ss) (same.source table);
  tables = λ table. refl;
}

-- ---- one more that is not started

none_behind : {A B : Type 0} (f : A → Option B) (xs : List A) (x : A) → f x ≡ None → first_among f (xs ++ x ∷ []) ≡ first_among f xs
none_behind f [] x e = ap (λ o. first_of o None) e
none_behind f (y ∷ xs) x e = ap (λ o. first_of (f y) o) (none_behind f xs x e)

none_more : {A B : Type 0} (f : A → Option B) (xs : List A) (x : A) → f x ≡ None → filter_map f (xs ++ x ∷ []) ≡ filter_map f xs
none_more f [] x e = ap (λ o. cons_option o []) e
none_more f (y ∷ xs) x e = ap (λ l. cons_option (f y) l) (none_more f xs x e)

pub created : (c : Lists) (r : SubscriptionRule) (user : Name) → ShowsAlike c (next c (stmt.CreateSubscription r)) user
unfolding next subscribed_table_of
created c r user = alike c user (c.subscriptions ++ subscription_of r ∷ []) (record {
  source = λ table. none_behind (source_in c user table) c.subscriptions (subscription_of r) refl;
  values = λ p. none_more (value_in user p) c.subscriptions (subscription_of r) refl;
})

-- ---- one more user

one_below : (name : Name) (us : List User) (u : User) → u.above ≡ false → stands_above (named user_name name (us ++ u ∷ [])) ≡ stands_above (named user_name name us)
one_below name [] u e = elim (bytes_eq name u.name) as (λ (b : Bool). stands_above (cond b (Some u) None) ≡ false) [
  | true ↦ e
  | false ↦ refl
]
one_below name (x ∷ us) u e = elim (bytes_eq name x.name) as (λ (b : Bool). stands_above (cond b (Some x) (named user_name name (us ++ u ∷ []))) ≡ stands_above (cond b (Some x) (named user_name name us))) [
  | true ↦ refl
  | false ↦ one_below name us u e
]

one_other : (name : Name) (us : List User) (u : User) → bytes_eq name u.name ≡ false → named user_name name (us ++ u ∷ []) ≡ named user_name name us
one_other name [] u e = ap (λ (b : Bool). cond b (Some u) None) e
one_other name (x ∷ us) u e = ap (λ (o : Option User). cond (bytes_eq name x.name) (Some x) o) (one_other name us u e)

-- other users among whom he stands where he stood
stands_alike : (c : Lists) (us : List User) (user : Name) → stands_above (named user_name user us) ≡ stands_above (named user_name user c.users) → ShowsAlike c (record c { users = us }) user
unfolding subscribed_table_of
stands_alike c us user same = record { shares = λ table. go (table_named c table) (source_of c user table); tables = λ table. refl } where
  go : (o : Option Table) (q : Option (Name × Article)) → subscribed_table_in (record c { users = us }) user o q ≡ subscribed_table_in c user o q
  go None q = refl
  go (Some t) q = ap (λ (f : (Name × Article) → SubscribedTable). option_map f q) (λ i. λ (source : Name × Article). record (subscribed_table_by c user t source) { verifies = c.options.verifies && same i })

pub granted_below : (c : Lists) (g : Grant) (user : Name) → ShowsAlike c (next c (stmt.GrantRemote g)) user
unfolding next user_of
granted_below c g user = stands_alike c (c.users ++ user_of false g ∷ []) user (one_below user c.users (user_of false g) refl)

pub granted_above : (c : Lists) (g : Grant) (user : Name) → bytes_eq user g.user ≡ false → ShowsAlike c (next c (stmt.GrantConsolidate g)) user
unfolding next user_of
granted_above c g user other = stands_alike c (c.users ++ user_of true g ∷ []) user (ap stands_above (one_other user c.users (user_of true g) other))

-- ---- of another user

and_false : (a : Bool) → (a && false) ≡ false
and_false true = refl
and_false false = refl

and_first : (a b : Bool) → (a && b) ≡ true → a ≡ true
and_first true b e = refl
and_first false b e = e

and_second : (a b : Bool) → (a && b) ≡ true → b ≡ true
and_second true b e = e
and_second false b e = cc

other_live : (user : Name) (r : SubscriptionRule) (s : Subscription) (started : Bool) → bytes_eq user r.user ≡ false → is_of r s ≡ true → (started && bytes_eq user s.user) ≡ false
other_live user r s started other is =
    let same = and_first (bytes_eq r.user s.user) (is_same_value r.value s.value) (and_second (bytes_eq r.publication s.publication) (bytes_eq r.user s.user && is_same_value r.value s.value) is) in
    let one : r.user ≡ s.user = (bytes_eq-Decides r.user s.user).0 same in
    ap (λ (n : Name). started && bytes_eq user n) (sym one) ∙ ap (λ b. started && b) other ∙ and_false started

-- a test by whether it is his, in both
source_marked : (c : Lists) (user table : Name) (r : SubscriptionRule) (started : Bool) → bytes_eq user r.user ≡ false → (s : Subscription) (b : Bool) → is_of r s ≡ b
    → source_in c user table (cond b (record s { started = started }) s) ≡ source_in c user table s
source_marked c user table r started other s false is = refl
source_marked c user table r started other s true is =
    ap (λ l. cond l (option_map (λ (a : Article). (s.publication, a)) (article_in c table s)) None)
    (other_live user r s started other is ∙ sym (other_live user r s s.started other is))

value_marked : (user p : Name) (r : SubscriptionRule) (started : Bool) → bytes_eq user r.user ≡ false → (s : Subscription) (b : Bool) → is_of r s ≡ b
    → value_in user p (cond b (record s { started = started }) s) ≡ value_in user p s
value_marked user p r started other s false is = refl
value_marked user p r started other s true is =
    ap (λ l. cond (l && bytes_eq p s.publication) s.value None) (other_live user r s started other is ∙ sym (other_live user r s s.started other is))

first_mapped : {A B : Type 0} (f : A → Option B) (g : A → A) → ((x : A) → f (g x) ≡ f x) → (xs : List A) → first_among f (map g xs) ≡ first_among f xs
first_mapped f g same [] = refl
first_mapped f g same (x ∷ xs) = ap (λ o. first_of o (first_among f (map g xs))) (same x) ∙ ap (λ o. first_of (f x) o) (first_mapped f g same xs)

all_mapped : {A B : Type 0} (f : A → Option B) (g : A → A) → ((x : A) → f (g x) ≡ f x) → (xs : List A) → filter_map f (map g xs) ≡ filter_map f xs
all_mapped f g same [] = refl
all_mapped f g same (x ∷ xs) = ap (λ o. cons_option o (filter_map f (map g xs))) (same x) ∙ ap (λ l. cons_option (f x) l) (all_mapped f g same xs)

pub marked_alike : (c : Lists) (r : SubscriptionRule) (started : Bool) (user : Name) → bytes_eq user r.user ≡ false → ShowsAlike c (record c { subscriptions = map (marked started r) c.subscriptions }) user
unfolding subscribed_table_of
marked_alike c r started user other = alike c user (map (marked started r) c.subscriptions) (record {
  source = λ table. first_mapped (source_in c user table) (marked started r) (λ s. source_marked c user table r started other s (is_of r s) refl) c.subscriptions;
  values = λ p. all_mapped (value_in user p) (marked started r) (λ s. value_marked user p r started other s (is_of r s) refl) c.subscriptions;
})

-- without those of a statement
first_kept : {A B : Type 0} (f : A → Option B) (p : A → Bool) → ((x : A) → p x ≡ true → f x ≡ None) → (xs : List A) → first_among f (filter (λ x. not (p x)) xs) ≡ first_among f xs
first_kept f p none [] = refl
first_kept {A} {B} f p none (x ∷ xs) = go (first_kept f p none xs) (p x) refl where
  go : first_among f (filter (λ y. not (p y)) xs) ≡ first_among f xs → (b : Bool) → p x ≡ b → first_among f (cond (not b) (x ∷ filter (λ y. not (p y)) xs) (filter (λ y. not (p y)) xs)) ≡ first_among f (x ∷ xs)
  go rest true e = rest ∙ ap (λ (o : Option B). first_of o (first_among f xs)) (sym (none x e))
  go rest false e = ap (λ (o : Option B). first_of (f x) o) rest

all_kept : {A B : Type 0} (f : A → Option B) (p : A → Bool) → ((x : A) → p x ≡ true → f x ≡ None) → (xs : List A) → filter_map f (filter (λ x. not (p x)) xs) ≡ filter_map f xs
all_kept f p none [] = refl
all_kept {A} {B} f p none (x ∷ xs) = go (all_kept f p none xs) (p x) refl where
  go : filter_map f (filter (λ y. not (p y)) xs) ≡ filter_map f xs → (b : Bool) → p x ≡ b → filter_map f (cond (not b) (x ∷ filter (λ y. not (p y)) xs) (filter (λ y. not (p y)) xs)) ≡ filter_map f (x ∷ xs)
  go rest true e = rest ∙ ap (λ (o : Option B). cons_option o (filter_map f xs)) (sym (none x e))
  go rest false e = ap (λ (l : List B). cons_option (f x) l) rest

pub dropped_alike : (c : Lists) (r : SubscriptionRule) (user : Name) → bytes_eq user r.user ≡ false → ShowsAlike c (record c { subscriptions = filter (λ s. not (is_of r s)) c.subscriptions }) user
unfolding subscribed_table_of
dropped_alike c r user other = alike c user (filter (λ s. not (is_of r s)) c.subscriptions) (record {
  source = λ table. first_kept (source_in c user table) (is_of r) (λ s is. ap (λ l. cond l (option_map (λ (a : Article). (s.publication, a)) (article_in c table s)) None) (other_live user r s s.started other is)) c.subscriptions;
  values = λ p. all_kept (value_in user p) (is_of r) (λ s is. ap (λ l. cond (l && bytes_eq p s.publication) s.value None) (other_live user r s s.started other is)) c.subscriptions;
})

pub started : (c : Lists) (r : SubscriptionRule) (user : Name) → bytes_eq user r.user ≡ false → ShowsAlike c (next c (stmt.StartSubscription r)) user
unfolding next
started c r user other = marked_alike c r true user other

pub stopped : (c : Lists) (r : SubscriptionRule) (user : Name) → bytes_eq user r.user ≡ false → ShowsAlike c (next c (stmt.StopSubscription r)) user
unfolding next
stopped c r user other = marked_alike c r false user other

pub dropped : (c : Lists) (r : SubscriptionRule) (user : Name) → bytes_eq user r.user ≡ false → ShowsAlike c (next c (stmt.DropSubscription r)) user
unfolding next
dropped c r user other = dropped_alike c r user other

-- ---- what entries give

own_alike : (c d : Lists) (user : Name) (changes : List Change) → ShowsAlike c d user → changes_told (subscribed_table_of d user) changes ≡ changes_told (subscribed_table_of c user) changes
own_alike c d user changes alike = ap (λ (f : SubscribedTables). changes_told f changes) (λ i. λ table. alike.shares table i)

pub told_own : (c d : Lists) (user : Name) (changes : List Change) → ShowsAlike c d user → told d (Own changes) [] user ≡ told c (Own changes) [] user
unfolding told
told_own c d user changes alike = own_alike c d user changes alike

pub told_view : (c d : Lists) (user to : Name) (tables : List (Name × List (List Cell))) → ShowsAlike c d user → told d (Sync to tables) [] user ≡ told c (Sync to tables) [] user
unfolding told
told_view c d user to tables alike = λ i. cond (bytes_eq to user) (flat_map (λ (p : Name × List (List Cell)). Clear p.0 ∷ flat_map (row_synced (alike.shares p.0 i) p.0) p.1) tables) []

pub told_pass : (c d : Lists) (user text : Name) (users : List Name) (only : Bool) (changes : List Change) (meant : List (Option Stmt)) → ShowsAlike c d user
    → told d (Pass users only text changes) meant user ≡ told c (Pass users only text changes) meant user
unfolding told
told_pass c d user text users only changes meant alike = ap (λ (ops : List Op). cond (has users user) (Exec text ∷ []) (cond only [] ops)) (own_alike c d user changes alike)

op_alike : (is_origin : Bool) (c d : Lists) (user : Name) (op : Op) (outcome : Outcome) → ShowsAlike c d user → op_told is_origin d user op outcome ≡ op_told is_origin c user op outcome
op_alike is_origin c d user op (Plain changes) alike = ap (λ (ops : List Op). cond is_origin [] ops) (own_alike c d user changes alike)
op_alike is_origin c d user (Insert table values) (Conflict inserts before after) alike = refl
op_alike is_origin c d user (Remove table key) (Conflict inserts before after) alike = refl
op_alike is_origin c d user (Set table key columns) (Conflict inserts before after) alike =
    λ i. conflict_told is_origin (λ t. alike.shares t i) (alike.tables table i) table key inserts before after
op_alike is_origin c d user (Clear table) (Conflict inserts before after) alike = refl
op_alike is_origin c d user (Exec text) (Conflict inserts before after) alike = refl
op_alike is_origin c d user op (Clash why) alike = refl

ops_alike : (is_origin : Bool) (c d : Lists) (user : Name) (ops : List (Op × Outcome)) (meant : List (Option Stmt)) → ShowsAlike c d user → AllByRecursion (λ m. m ≡ None) meant
    → ops_told is_origin d user ops meant ≡ ops_told is_origin c user ops meant
ops_alike is_origin c d user [] meant alike none = refl
ops_alike is_origin c d user (p ∷ ops) [] alike none = refl
ops_alike is_origin c d user (p ∷ ops) (Some m ∷ meant) alike none = go (none.0) where
  go : Some m ≡ None → ops_told is_origin d user (p ∷ ops) (Some m ∷ meant) ≡ ops_told is_origin c user (p ∷ ops) (Some m ∷ meant)
  go e = cc
ops_alike is_origin c d user (p ∷ ops) (None ∷ meant) alike none =
    ap (λ (xs : List Op). xs ++ ops_told is_origin d user ops meant) (op_alike is_origin c d user p.0 p.1 alike)
    ∙ ap (λ (xs : List Op). op_told is_origin c user p.0 p.1 ++ xs) (ops_alike is_origin c d user ops meant alike none.1)

pub told_taken : (c d : Lists) (user from : Name) (at : Offset) (ops : List (Op × Outcome)) (meant : List (Option Stmt)) → ShowsAlike c d user → AllByRecursion (λ m. m ≡ None) meant
    → told d (From from at ops) meant user ≡ told c (From from at ops) meant user
unfolding told
told_taken c d user from at ops meant alike none = ops_alike (bytes_eq from user) c d user ops meant alike none
