-- A change of a row that a user may have is listed under a key of his, or it gives him nothing.
use Rattle.std.proofs.Common.{◌≡◌, ◌⊎◌, Bool, true, false, ◌&&◌, cond, List, [], ◌∷◌, ◌++◌, Option, Some, None, is_some, option_map, find, filter_map, bytes_eq, refl, sym, ap, ap₂, inl, inr, ◌∙◌}
use Rattle.std.specs.List.{list_any}
use Rattle.std.proofs.lemmas.Slice.Eq.{bytes_eq-Decides}
use Rattle.sr_base.specs.declared.value.Value.{Value as Cell}
use Rattle.sr_book.specs.Entries.{Name}
use Rattle.sr_catalog_ddl.specs.Subscriptions.{articles_of}
use Rattle.sr_catalog_schema.specs.Catalogs.{Lists}
use Rattle.sr_catalog_schema.specs.Members.{publication_name}
use Rattle.sr_catalog_schema.specs.Names.{named}
use Rattle.sr_catalog_schema.specs.declared.publication.Article.{Article}
use Rattle.sr_catalog_schema.specs.declared.publication.Publication.{Publication}
use Rattle.sr_catalog_schema.specs.declared.subscription.Subscription.{Subscription}
use Rattle.sr_catalog_schema.specs.declared.table.Table.{Table}
use Rattle.sr_catalog_script_laws.specs.Scripts.{IsMadeByStatements}
use Rattle.sr_exec_dml.specs.Statements.{table_named}
use Rattle.sr_exec_fits.specs.Rows.{is_row}
use Rattle.sr_logform.specs.declared.change.Change.{Change}
use Rattle.sr_logform.specs.declared.op.Op.{Op}
use Rattle.sr_publish.proofs.Held.{seen_so}
use Rattle.sr_publish.specs.Inner.Laws.{holds_by, holds}
use Rattle.sr_publish.specs.SubscribedTables.{is_live, article_in, source_of, subscribed_table_in, subscribed_table_of}
use Rattle.sr_publish.specs.Views.{seen, shown_row}
use Rattle.sr_scan.specs.Inner.Images.{change_told, changes_told}
use Rattle.sr_survey.proofs.Keyed.{held_keyed}
use Rattle.sr_survey.proofs.Members.{In, contains_from_in, in_left, in_right, in_filter_map, some_passes, found_there}
use Rattle.sr_survey.proofs.Unheld.{none_if, and_false, hidden_gives_nothing}
use Rattle.sr_survey.specs.Inner.Concerning.{IsLiveKey}
use Rattle.sr_survey.specs.Inner.Keyed.{article_key, route_in, routes_of, row_keys, keys_if, change_keys_in, change_keys, changes_keys}
use Rattle.sr_survey_places.specs.declared.key.Key.{Key}

and_first : (a b : Bool) → (a && b) ≡ true → a ≡ true
and_first true b e = refl
and_first false b e = e

and_second : (a b : Bool) → (a && b) ≡ true → b ≡ true
and_second true b e = e
and_second false b e = cc

-- one of some keys is that of a started subscription of the user
pub record HasLive (c : Lists) (user : Name) (keys : List Key) : Type 0 where
  pub key : Key
  pub there : In keys key
  pub live : IsLiveKey c user key

-- the article of a subscription is among those of its table
article_there : (table : Name) (ps : List Publication) (name : Name) (a : Article)
    → find (λ (x : Article). bytes_eq table x.table) (articles_of (named publication_name name ps)) ≡ Some a → In (filter_map (route_in table) ps) (name, a)
article_there table ps name a e = go (named publication_name name ps) refl e where
  go : (o : Option Publication) → named publication_name name ps ≡ o → find (λ (x : Article). bytes_eq table x.table) (articles_of o) ≡ Some a → In (filter_map (route_in table) ps) (name, a)
  go None is h = cc
  go (Some p) is h =
      let found = found_there (λ (q : Publication). bytes_eq name q.name) ps p is in
      let same : name ≡ p.name = (bytes_eq-Decides name p.name).0 found.1 in
      in_filter_map (route_in table) ps p (name, a) found.0
      (ap (option_map (λ (x : Article). (p.name, x))) h ∙ ap (λ (n : Name). Some (n, a)) (sym same))

module _ (c : Lists) (user : Name) where
  -- a subscription that holds a row has a key of it
  held_live : (table : Name) (t : Table) (row : List Cell) (s : Subscription) → In c.subscriptions s → (o : Option Article) → article_in c table s ≡ o
      → is_live user s ≡ true → holds_by t o s.value row ≡ true → HasLive c user (filter_map (article_key t row) (routes_of c table))
  held_live table t row s there None is live holds = cc
  held_live table t row s there (Some a) is live holds =
      let shared = held_keyed s.publication t a s.value row holds in
      record {
        key = shared.key;
        there = in_filter_map (article_key t row) (routes_of c table) (s.publication, a) shared.key (article_there table c.publications s.publication a is) shared.is;
        live = record { subscription = s; there = contains_from_in c.subscriptions s there; live = live; has = shared.there };
      }

  row_held : (table : Name) (t : Table) (row : List Cell) → list_any (holds c user table t row) c.subscriptions ≡ true → HasLive c user (filter_map (article_key t row) (routes_of c table))
  row_held table t row any =
      let one = some_passes (holds c user table t row) c.subscriptions any in
      held_live table t row one.item one.there (article_in c table one.item) refl
      (and_first (is_live user one.item) (holds_by t (article_in c table one.item) one.item.value row) one.passes)
      (and_second (is_live user one.item) (holds_by t (article_in c table one.item) one.item.value row) one.passes)

  -- a row is listed under a key of his, or not shown to him
  row_may : (table : Name) (t : Table) (row : List Cell) → IsMadeByStatements c → table_named c table ≡ Some t → HasLive c user (row_keys t (routes_of c table) row) ⊎ (seen c user table row ≡ None)
  row_may table t row made is = go (is_row t.columns row) (list_any (holds c user table t row) c.subscriptions) refl refl where
    so : is_some (seen c user table row) ≡ (is_row t.columns row && list_any (holds c user table t row) c.subscriptions)
    so = seen_so c user table t row made is

    go : (b h : Bool) → is_row t.columns row ≡ b → list_any (holds c user table t row) c.subscriptions ≡ h → HasLive c user (cond b (filter_map (article_key t row) (routes_of c table)) []) ⊎ (seen c user table row ≡ None)
    go false h fits any = inr (none_if (seen c user table row) (so ∙ ap (λ x. x && list_any (holds c user table t row) c.subscriptions) fits))
    go true false fits any = inr (none_if (seen c user table row) (so ∙ ap (λ x. is_row t.columns row && x) any ∙ and_false (is_row t.columns row)))
    go true true fits any = inl (row_held table t row any)

  if_may : (table : Name) (t : Table) (o : Option (List Cell)) → IsMadeByStatements c → table_named c table ≡ Some t → HasLive c user (keys_if t (routes_of c table) o) ⊎ (shown_row (subscribed_table_of c user table) o ≡ None)
  if_may table t None made is = inr refl
  if_may table t (Some row) made is = row_may table t row made is

  wider_left : (ks js : List Key) → HasLive c user ks → HasLive c user (ks ++ js)
  wider_left ks js h = record { key = h.key; there = in_left ks js h.key h.there; live = h.live }

  wider_right : (ks js : List Key) → HasLive c user js → HasLive c user (ks ++ js)
  wider_right ks js h = record { key = h.key; there = in_right ks js h.key h.there; live = h.live }

  no_table : (table : Name) → table_named c table ≡ None → subscribed_table_of c user table ≡ None
  unfolding subscribed_table_of
  no_table table e = ap (λ o. subscribed_table_in c user o (source_of c user table)) e

  pub change_may : (ch : Change) → IsMadeByStatements c → HasLive c user (change_keys c ch) ⊎ (change_told (subscribed_table_of c user ch.table) ch ≡ [])
  change_may ch made = go (table_named c ch.table) refl where
    both : (t : Table) → HasLive c user (keys_if t (routes_of c ch.table) ch.before) ⊎ (shown_row (subscribed_table_of c user ch.table) ch.before ≡ None)
        → HasLive c user (keys_if t (routes_of c ch.table) ch.after) ⊎ (shown_row (subscribed_table_of c user ch.table) ch.after ≡ None)
        → HasLive c user (keys_if t (routes_of c ch.table) ch.before ++ keys_if t (routes_of c ch.table) ch.after) ⊎ (change_told (subscribed_table_of c user ch.table) ch ≡ [])
    both t (inl h) a = inl (wider_left (keys_if t (routes_of c ch.table) ch.before) (keys_if t (routes_of c ch.table) ch.after) h)
    both t (inr b) (inl h) = inl (wider_right (keys_if t (routes_of c ch.table) ch.before) (keys_if t (routes_of c ch.table) ch.after) h)
    both t (inr b) (inr a) = inr (hidden_gives_nothing (subscribed_table_of c user ch.table) ch b a)

    go : (o : Option Table) → table_named c ch.table ≡ o → HasLive c user (change_keys_in o (routes_of c ch.table) ch) ⊎ (change_told (subscribed_table_of c user ch.table) ch ≡ [])
    go None is = inr (ap (λ s. change_told s ch) (no_table ch.table is))
    go (Some t) is = both t (if_may ch.table t ch.before made is) (if_may ch.table t ch.after made is)

  pub changes_may : (changes : List Change) → IsMadeByStatements c → HasLive c user (changes_keys c changes) ⊎ (changes_told (subscribed_table_of c user) changes ≡ [])
  changes_may [] made = inr refl
  changes_may (ch ∷ changes) made = go (change_may ch made) (changes_may changes made) where
    go : HasLive c user (change_keys c ch) ⊎ (change_told (subscribed_table_of c user ch.table) ch ≡ []) → HasLive c user (changes_keys c changes) ⊎ (changes_told (subscribed_table_of c user) changes ≡ [])
        → HasLive c user (changes_keys c (ch ∷ changes)) ⊎ (changes_told (subscribed_table_of c user) (ch ∷ changes) ≡ [])
    go (inl h) r = inl (wider_left (change_keys c ch) (changes_keys c changes) h)
    go (inr e) (inl h) = inl (wider_right (change_keys c ch) (changes_keys c changes) h)
    go (inr e) (inr r) = inr (ap₂ (λ (x y : List Op). x ++ y) e r)
