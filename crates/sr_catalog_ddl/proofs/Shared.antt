-- Tables that publications share, as sets of names.
use Rattle.std.proofs.Common.{◌≡◌, Bool, true, false, ◌&&◌, ◌||◌, not, ℕ, List, [], ◌∷◌, ◌++◌, Some, refl, ap, sym, subst, ◌∙◌}
use Rattle.std.specs.Prelude.{bytes_eq, length}
use Rattle.std.specs.List.{list_any}
use Rattle.std.proofs.lemmas.Bool.{or_parts}
use Rattle.std.proofs.lemmas.Slice.Eq.{bytes_eq-Decides}
use Rattle.sr_ast.specs.declared.create.SubscriptionRule.{SubscriptionRule}
use Rattle.sr_catalog_schema.specs.Catalogs.{Lists}
use Rattle.sr_catalog_schema.specs.Firsts.{first_among, first_of, has, where_true}
use Rattle.sr_catalog_schema.specs.Members.{publication_name}
use Rattle.sr_catalog_schema.specs.Inner.Singles.{IsSingle}
use Rattle.sr_catalog_schema.specs.declared.publication.Article.{Article}
use Rattle.sr_catalog_schema.specs.declared.publication.Publication.{Publication}
use Rattle.sr_catalog_schema.specs.declared.subscription.Subscription.{Subscription}
use Rattle.sr_catalog_ddl.specs.Inner.Elsewhere.{HasMore, HasShared, HasStarted, has_table, is_start_of, is_started_there, tables_elsewhere}
use Rattle.sr_catalog_ddl.specs.Subscriptions.{has_article, is_elsewhere}
use Rattle.sr_catalog_ddl.proofs.Swapped.{any_elsewhere}

-- ---- truths

or_none : (a : Bool) → (a || false) ≡ a
or_none true = refl
or_none false = refl

or_some : (a : Bool) → (a || true) ≡ true
or_some true = refl
or_some false = refl

and_none : (a : Bool) → (a && false) ≡ false
and_none true = refl
and_none false = refl

or_either : (a b c : Bool) → (a || (b || c)) ≡ ((a || b) || c)
or_either true b c = refl
or_either false b c = refl

-- what is found, with one more that is own
one_more : (found one own rest : Bool) → (one ≡ true → own ≡ true) → ((found || one) || (own && rest)) ≡ (found || (own && (one || rest)))
one_more true one own rest h = refl
one_more false false own rest h = refl
one_more false true true rest h = refl
one_more false true false rest h = sym (h refl)

-- and where the next is not own
none_more : (found one own rest : Bool) → (one ≡ true → own ≡ false) → (found || (own && rest)) ≡ (found || (own && (one || rest)))
none_more true one own rest h = refl
none_more false false own rest h = refl
none_more false true true rest h = absurd (let e = h refl in cc)
none_more false true false rest h = refl

gathered : (found own one rest : Bool) → ((found || (own && one)) || (own && rest)) ≡ (found || (own && (one || rest)))
gathered true own one rest = refl
gathered false false one rest = refl
gathered false true one rest = refl

-- ---- names

at_name : (own : List Article) (t n : List ℕ) (b : Bool) → has_table own n ≡ b → bytes_eq t n ≡ true → has_table own t ≡ b
at_name own t n b h e = subst (λ x. has_table own x ≡ b) (sym ((bytes_eq-Decides t n).0 e)) h

has_behind : (xs : List (List ℕ)) (n other : List ℕ) → has (xs ++ n ∷ []) other ≡ (has xs other || bytes_eq other n)
has_behind [] n other = or_none (bytes_eq other n)
has_behind (x ∷ xs) n other = ap (λ b. bytes_eq other x || b) (has_behind xs n other) ∙ or_either (bytes_eq other x) (has xs other) (bytes_eq other n)

-- a name that is there already
pub there_already : (set : List (List ℕ)) (n : List ℕ) → has set n ≡ true → HasMore set n set
there_already set n h = λ other. by other (bytes_eq other n) refl where
  by : (other : List ℕ) (b : Bool) → bytes_eq other n ≡ b → has set other ≡ (has set other || bytes_eq other n)
  by other true e =
      subst (λ x. has set x ≡ true) (sym ((bytes_eq-Decides other n).0 e)) h ∙ (sym (or_some (has set other)) ∙ ap (λ b. has set other || b) (sym e))
  by other false e = sym (or_none (has set other)) ∙ ap (λ b. has set other || b) (sym e)

-- and one that was added
pub added : (set after : List (List ℕ)) (n : List ℕ) → after ≡ set ++ n ∷ [] → HasMore set n after
added set after n h = λ other. ap (λ s. has s other) h ∙ has_behind set n other

-- ---- the set of all tables

pub set_more : (set after : List (List ℕ)) (all left rest : List Article) (a : Article) → ((t : List ℕ) → (has set t || has_table left t) ≡ has_table all t)
    → left ≡ a ∷ rest → HasMore set a.table after → (t : List ℕ) → (has after t || has_table rest t) ≡ has_table all t
set_more set after all left rest a h split more = λ t.
    ap (λ b. b || has_table rest t) (more t) ∙ (sym (or_either (has set t) (bytes_eq t a.table) (has_table rest t))
    ∙ (ap (λ l. has set t || has_table l t) (sym split) ∙ h t))

pub set_whole : (set : List (List ℕ)) (all left : List Article) → ((t : List ℕ) → (has set t || has_table left t) ≡ has_table all t) → length left ≡ 0
    → (t : List ℕ) → has set t ≡ has_table all t
set_whole set all [] h none = λ t. sym (or_none (has set t)) ∙ h t
set_whole set all (a ∷ left) h none = cc

-- ---- what two share

none_in : (own articles : List Article) → list_any (λ a. has_table own a.table) articles ≡ false → (t : List ℕ) → (has_table own t && has_table articles t) ≡ false
none_in own [] h = λ t. and_none (has_table own t)
none_in own (a ∷ articles) h = λ t.
    let parts = or_parts (has_table own a.table) (list_any (λ x. has_table own x.table) articles) h in
    by t parts.0 (none_in own articles parts.1 t) (bytes_eq t a.table) refl
  where
    by : (t : List ℕ) → has_table own a.table ≡ false → (has_table own t && has_table articles t) ≡ false → (b : Bool) → bytes_eq t a.table ≡ b
        → (has_table own t && (bytes_eq t a.table || has_table articles t)) ≡ false
    by t here rest true e = ap (λ b. b && (bytes_eq t a.table || has_table articles t)) (at_name own t a.table false here e)
    by t here rest false e = ap (λ b. has_table own t && (b || has_table articles t)) e ∙ rest

abbrev pub SharesLeft : List Article → List Article → List (List ℕ) → List Article → List (List ℕ) → Type 0
SharesLeft own all old left now = (t : List ℕ) → (has now t || (has_table own t && has_table left t)) ≡ (has old t || (has_table own t && has_table all t))

pub shared_more : (own all left rest : List Article) (a : Article) (old now after : List (List ℕ)) → SharesLeft own all old left now → left ≡ a ∷ rest
    → has_table own a.table ≡ true → HasMore now a.table after → SharesLeft own all old rest after
shared_more own all left rest a old now after h split here more = λ t.
    ap (λ b. b || (has_table own t && has_table rest t)) (more t)
    ∙ (one_more (has now t) (bytes_eq t a.table) (has_table own t) (has_table rest t) (at_name own t a.table true here)
    ∙ (ap (λ l. has now t || (has_table own t && has_table l t)) (sym split) ∙ h t))

pub shared_not : (own all left rest : List Article) (a : Article) (old now : List (List ℕ)) → SharesLeft own all old left now → left ≡ a ∷ rest
    → has_table own a.table ≡ false → SharesLeft own all old rest now
shared_not own all left rest a old now h split other = λ t.
    none_more (has now t) (bytes_eq t a.table) (has_table own t) (has_table rest t) (at_name own t a.table false other)
    ∙ (ap (λ l. has now t || (has_table own t && has_table l t)) (sym split) ∙ h t)

pub shared_whole : (own all left : List Article) (old now : List (List ℕ)) → SharesLeft own all old left now → length left ≡ 0 → HasShared own all old now
shared_whole own all [] old now h none = λ t. sym (or_none (has now t)) ∙ (ap (λ b. has now t || b) (sym (and_none (has_table own t))) ∙ h t)
shared_whole own all (a ∷ left) old now h none = cc

-- ---- a publication

module _ (subscriptions : List Subscription) (r : SubscriptionRule) (own : List Article) (p : Publication) (old : List (List ℕ)) where
  none_of : (t : List ℕ) → (has_table own t && is_started_there subscriptions r t p) ≡ false → has old t ≡ (has old t || (has_table own t && is_started_there subscriptions r t p))
  none_of t h = sym (or_none (has old t)) ∙ ap (λ b. has old t || b) (sym h)

  -- it is the same one
  pub same_one : bytes_eq r.publication p.name ≡ true → HasStarted subscriptions r own p old old
  same_one e = λ t. none_of t
      (ap (λ b. has_table own t && ((not b && has_article (Some p) t) && list_any (is_start_of r.user p.name) subscriptions)) e ∙ and_none (has_table own t))

  absent : (x o h s : Bool) → (o && h) ≡ false → (o && ((x && h) && s)) ≡ false
  absent x false h s e = refl
  absent true true false s e = refl
  absent false true h s e = refl
  absent true true true s e = absurd (cc)

  -- it shares none
  pub none_shared : list_any (λ a. has_table own a.table) p.articles ≡ false → HasStarted subscriptions r own p old old
  none_shared e = λ t. none_of t
      (absent (not (bytes_eq r.publication p.name)) (has_table own t) (has_article (Some p) t) (list_any (is_start_of r.user p.name) subscriptions) (none_in own p.articles e t))

  -- none of its subscriptions is started
  pub none_started : list_any (is_start_of r.user p.name) subscriptions ≡ false → HasStarted subscriptions r own p old old
  none_started e = λ t. none_of t
      (ap (λ b. has_table own t && ((not (bytes_eq r.publication p.name) && has_article (Some p) t) && b)) e
      ∙ (ap (λ b. has_table own t && b) (and_none (not (bytes_eq r.publication p.name) && has_article (Some p) t)) ∙ and_none (has_table own t)))

  with_true : (h : Bool) → ((not false && h) && true) ≡ h
  with_true true = refl
  with_true false = refl

  -- it is another one that is started
  pub started_one : (after : List (List ℕ)) → bytes_eq r.publication p.name ≡ false → list_any (is_start_of r.user p.name) subscriptions ≡ true
      → HasShared own p.articles old after → HasStarted subscriptions r own p old after
  started_one after other start shared = λ t.
      shared t
      ∙ ap (λ b. has old t || (has_table own t && b))
      (sym ((λ i. (not (other i) && has_article (Some p) t) && start i) ∙ with_true (has_article (Some p) t)))

-- ---- all publications

abbrev pub StartedLeft : Lists → SubscriptionRule → List Article → List Publication → List (List ℕ) → Type 0
StartedLeft c r own left now = (t : List ℕ) → (has now t || (has_table own t && list_any (is_started_there c.subscriptions r t) left)) ≡ tables_elsewhere c r own t

pub started_none : (c : Lists) (r : SubscriptionRule) (own : List Article) (left : List Publication) (now : List (List ℕ)) → now ≡ [] → left ≡ c.publications
    → ((name : List ℕ) → IsSingle (λ p. bytes_eq name (publication_name p)) c.publications) → StartedLeft c r own left now
started_none c r own left now none all single = λ t.
    (λ i. has (none i) t || (has_table own t && list_any (is_started_there c.subscriptions r t) (all i)))
    ∙ ap (λ b. has_table own t && b) (any_elsewhere c r t single)

pub started_more : (c : Lists) (r : SubscriptionRule) (own : List Article) (left rest : List Publication) (p : Publication) (now after : List (List ℕ))
    → StartedLeft c r own left now → left ≡ p ∷ rest → HasStarted c.subscriptions r own p now after → StartedLeft c r own rest after
started_more c r own left rest p now after h split more = λ t.
    ap (λ b. b || (has_table own t && list_any (is_started_there c.subscriptions r t) rest)) (more t)
    ∙ (gathered (has now t) (has_table own t) (is_started_there c.subscriptions r t p) (list_any (is_started_there c.subscriptions r t) rest)
    ∙ (ap (λ l. has now t || (has_table own t && list_any (is_started_there c.subscriptions r t) l)) (sym split) ∙ h t))

pub started_all : (c : Lists) (r : SubscriptionRule) (own : List Article) (left : List Publication) (now : List (List ℕ)) → StartedLeft c r own left now
    → length left ≡ 0 → (t : List ℕ) → has now t ≡ tables_elsewhere c r own t
started_all c r own [] now h none = λ t. sym (or_none (has now t)) ∙ (ap (λ b. has now t || b) (sym (and_none (has_table own t))) ∙ h t)
started_all c r own (p ∷ left) now h none = cc

-- ---- the first of them

own_first : (f g : List ℕ → Bool) (own : List Article) (xs : List Article) → ((t : List ℕ) → has_table xs t ≡ true → f t ≡ g t)
    → first_among (λ a. where_true (f a.table) a.table) xs ≡ first_among (λ (a : Article). where_true (g a.table) a.table) xs
own_first f g own [] h = refl
own_first f g own (x ∷ xs) h =
    (λ i. first_of (where_true (h x.table (ap (λ b. b || has_table xs x.table) ((bytes_eq-Decides x.table x.table).1 refl)) i) x.table)
    (own_first f g own xs (λ t e. h t (ap (λ b. bytes_eq t x.table || b) e ∙ or_some (bytes_eq t x.table))) i))

pub first_elsewhere : (c : Lists) (r : SubscriptionRule) (own : List Article) (found : List (List ℕ)) → ((t : List ℕ) → has found t ≡ tables_elsewhere c r own t)
    → first_among (λ a. where_true (has found a.table) a.table) own
    ≡ first_among (λ (a : Article). where_true (list_any (is_elsewhere c r a.table) c.subscriptions) a.table) own
first_elsewhere c r own found h =
    own_first (has found) (λ t. list_any (is_elsewhere c r t) c.subscriptions) own own
    (λ t e. h t ∙ ap (λ b. b && list_any (is_elsewhere c r t) c.subscriptions) e)
