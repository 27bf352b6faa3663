-- An entry may concern a user, or it gives him nothing.
use Rattle.std.proofs.Common.{◌≡◌, ◌⊎◌, Bool, true, false, ◌||◌, cond, List, [], ◌∷◌, ◌++◌, Option, Some, None, is_some, map, filter_map, bytes_eq, refl, sym, ap, ap₂, inl, inr, subst, ◌∙◌}
use Rattle.std.specs.Prelude.{⊤}
use Rattle.std.specs.List.{list_any, Contains, AllByRecursion}
use Rattle.std.proofs.lemmas.Bool.{false≢true}
use Rattle.std.proofs.lemmas.Slice.Eq.{bytes_eq-Decides}
use Rattle.sr_ast.specs.Exprs.{term_of}
use Rattle.sr_ast.specs.declared.expr.Expr.{Expr}
use Rattle.sr_ast.specs.declared.stmt.Stmt.{Stmt}
use Rattle.sr_base.specs.declared.offset.Offset.{Offset}
use Rattle.sr_base.specs.declared.value.Value.{Value as Cell}
use Rattle.sr_base.specs.declared.value.Value.TheVariants as cell
use Rattle.sr_book.specs.Entries.{Name}
use Rattle.sr_catalog_schema.specs.Catalogs.{Lists}
use Rattle.sr_catalog_schema.specs.Firsts.{has}
use Rattle.sr_catalog_schema.specs.declared.publication.Article.{Article}
use Rattle.sr_catalog_schema.specs.declared.table.Table.{Table}
use Rattle.sr_catalog_script_laws.specs.Scripts.{IsMadeByStatements}
use Rattle.sr_exec_dml.specs.Statements.{table_named}
use Rattle.sr_exec_fits.specs.Rows.{is_row}
use Rattle.sr_logform.specs.declared.change.Change.{Change}
use Rattle.sr_logform.specs.declared.entry.Entry.{Entry}
use Rattle.sr_logform.specs.declared.entry.Entry.TheVariants as entry
use Rattle.sr_logform.specs.declared.op.Op.{Op}
use Rattle.sr_logform.specs.declared.op.Op.TheVariants as op
use Rattle.sr_logform.specs.declared.outcome.Outcome.{Outcome}
use Rattle.sr_logform.specs.declared.outcome.Outcome.TheVariants as outcome
use Rattle.sr_publish.specs.SubscribedTables.{subscribed_table_of}
use Rattle.sr_publish.specs.Views.{meets, by_value}
use Rattle.sr_scan.proofs.Sames.{changes_told-append}
use Rattle.sr_scan.specs.Inner.Images.{SubscribedTables, are_rows_of, row_changed, change_told, changes_told, conflict_told, met_told, op_told, ops_told, told}
use Rattle.sr_scan.specs.Inner.Meanings.{text_done, texts_of, IsMeant, AreMeant}
use Rattle.sr_survey.proofs.Members.{In, contains_from_in, in_from_contains, in_left, in_right, in_either, in_map, all_made, all_flat, all_mapped_to}
use Rattle.sr_survey.proofs.Having.{HasLive, change_may, changes_may}
use Rattle.sr_survey.proofs.Unheld.{nothing_both}
use Rattle.sr_survey.specs.Inner.Concerning.{has_run, is_conflict, met_keys, outcome_keys, op_keys, ops_keys, back_key, taken_keys, pass_keys, entry_keys, names_user, IsHisBy, MayConcern}
use Rattle.sr_survey.specs.Inner.Keyed.{key_of_value, key_of_some, key_by, article_key, routes_of, row_keys, keys_if, change_keys_in, change_keys, changes_keys}
use Rattle.sr_survey_places.specs.Inner.Keys.{is_shared}
use Rattle.sr_survey_places.specs.declared.key.Key.{Key}
use Rattle.sr_survey_places.specs.declared.key.Key.TheVariants as keyed

-- ---- the keys of rows are shared

abbrev Shared : Key → Type 0
Shared k = is_shared k ≡ true

-- what a key that may be there is, if it is there
abbrev SharedIf : Option Key → Type 0
SharedIf None = ⊤
SharedIf (Some k) = Shared k

value_shared : (p : Name) (v : Cell) → SharedIf (key_of_value p v)
value_shared p cell.Null = tt
value_shared p (cell.Int n) = refl
value_shared p (cell.Big n) = refl
value_shared p (cell.Str text) = refl
value_shared p (cell.Date day) = refl

some_shared : (p : Name) (o : Option Cell) → SharedIf (key_of_some p o)
some_shared p None = tt
some_shared p (Some v) = value_shared p v

by_shared : (p : Name) (t : Table) (by : Option Expr) (row : List Cell) → SharedIf (key_by p t by row)
by_shared p t None row = refl
by_shared p t (Some e) row = some_shared p (by_value t row (term_of e))

if_shared : (b : Bool) (o : Option Key) → SharedIf o → SharedIf (cond b o None)
if_shared true o s = s
if_shared false o s = tt

article_shared : (t : Table) (row : List Cell) (route : Name × Article) (k : Key) → article_key t row route ≡ Some k → Shared k
article_shared t row route k e = subst SharedIf e (if_shared (meets t route.1.condition row) (key_by route.0 t route.1.by row) (by_shared route.0 t route.1.by row))

row_shared : (t : Table) (routes : List (Name × Article)) (row : List Cell) (k : Key) → In (row_keys t routes row) k → Shared k
row_shared t routes row k h = go (is_row t.columns row) h where
  go : (b : Bool) → In (cond b (filter_map (article_key t row) routes) []) k → Shared k
  go true i = all_made Shared (article_key t row) routes (article_shared t row) k i
  go false i = absurd i

rows_shared : (t : Table) (routes : List (Name × Article)) (o : Option (List Cell)) (k : Key) → In (keys_if t routes o) k → Shared k
rows_shared t routes None k h = absurd h
rows_shared t routes (Some row) k h = row_shared t routes row k h

either : (ks js : List Key) → ((k : Key) → In ks k → Shared k) → ((k : Key) → In js k → Shared k) → (k : Key) → In (ks ++ js) k → Shared k
either ks js left right k h = go (in_either ks js k h) where
  go : In ks k ⊎ In js k → Shared k
  go (inl i) = left k i
  go (inr i) = right k i

change_shared : (c : Lists) (ch : Change) (k : Key) → In (change_keys c ch) k → Shared k
change_shared c ch k h = go (table_named c ch.table) h where
  go : (o : Option Table) → In (change_keys_in o (routes_of c ch.table) ch) k → Shared k
  go None i = absurd i
  go (Some t) i = either (keys_if t (routes_of c ch.table) ch.before) (keys_if t (routes_of c ch.table) ch.after) (rows_shared t (routes_of c ch.table) ch.before) (rows_shared t (routes_of c ch.table) ch.after) k i

changes_shared : (c : Lists) (changes : List Change) (k : Key) → In (changes_keys c changes) k → Shared k
changes_shared c changes k h = all_flat Shared (change_keys c) changes (change_shared c) k h

met_shared : (c : Lists) (o : Op) (inserts : List Change) (before after : List Cell) (k : Key) → In (met_keys c o inserts before after) k → Shared k
met_shared c (op.Insert table values) inserts before after k h = absurd h
met_shared c (op.Remove table key) inserts before after k h = absurd h
met_shared c (op.Set table key columns) inserts before after k h =
    either (changes_keys c inserts) (change_keys c (row_changed table before after)) (changes_shared c inserts) (change_shared c (row_changed table before after)) k h
met_shared c (op.Clear table) inserts before after k h = absurd h
met_shared c (op.Exec text) inserts before after k h = absurd h

outcome_shared : (c : Lists) (o : Op) (w : Outcome) (k : Key) → In (outcome_keys c o w) k → Shared k
outcome_shared c o (outcome.Plain changes) k h = changes_shared c changes k h
outcome_shared c o (outcome.Conflict inserts before after) k h = met_shared c o inserts before after k h
outcome_shared c o (outcome.Clash why) k h = absurd h

ops_shared : (c : Lists) (ops : List (Op × Outcome)) (k : Key) → In (ops_keys c ops) k → Shared k
ops_shared c ops k h = all_flat Shared (op_keys c) ops (λ p j i. outcome_shared c p.0 p.1 j i) k h

-- no key of rows says from whom an entry was taken
not_from : (ks : List Key) (user : Name) → ((k : Key) → In ks k → Shared k) → ¬ (Contains ks (keyed.From user))
not_from ks user shared h = false≢true (shared (keyed.From user) (in_from_contains ks (keyed.From user) h))

-- ---- what was taken

-- to another user an op gives its changes
both_nothing : (f : SubscribedTables) (inserts : List Change) (ch : Change) → changes_told f inserts ≡ [] → change_told (f ch.table) ch ≡ [] → changes_told f (inserts ++ ch ∷ []) ≡ []
both_nothing f inserts ch a b = changes_told-append f inserts (ch ∷ []) ∙ ap₂ (λ (x y : List Op). x ++ (y ++ [])) a b

conflict_nothing : (f : SubscribedTables) (o : Option Table) (table : Name) (k : List (Name × Cell)) (inserts : List Change) (before after : List Cell)
    → changes_told f (inserts ++ row_changed table before after ∷ []) ≡ [] → conflict_told false f o table k inserts before after ≡ []
conflict_nothing f None table k inserts before after e = refl
conflict_nothing f (Some t) table k inserts before after e = ap (λ (ops : List Op). cond (are_rows_of t k before after) ops []) e ∙ nothing_both (are_rows_of t k before after)

module _ (c : Lists) (user : Name) (made : IsMadeByStatements c) where
  met_may : (o : Op) (inserts : List Change) (before after : List Cell) → HasLive c user (met_keys c o inserts before after) ⊎ (met_told false c user o inserts before after ≡ [])
  met_may (op.Insert table values) inserts before after = inr refl
  met_may (op.Remove table key) inserts before after = inr refl
  met_may (op.Set table key columns) inserts before after = go (changes_may c user inserts made) (change_may c user (row_changed table before after) made) where
    go : HasLive c user (changes_keys c inserts) ⊎ (changes_told (subscribed_table_of c user) inserts ≡ [])
        → HasLive c user (change_keys c (row_changed table before after)) ⊎ (change_told (subscribed_table_of c user table) (row_changed table before after) ≡ [])
        → HasLive c user (changes_keys c inserts ++ change_keys c (row_changed table before after)) ⊎ (conflict_told false (subscribed_table_of c user) (table_named c table) table key inserts before after ≡ [])
    go (inl h) b = inl (record { key = h.key; there = in_left (changes_keys c inserts) (change_keys c (row_changed table before after)) h.key h.there; live = h.live })
    go (inr a) (inl h) = inl (record { key = h.key; there = in_right (changes_keys c inserts) (change_keys c (row_changed table before after)) h.key h.there; live = h.live })
    go (inr a) (inr b) = inr (conflict_nothing (subscribed_table_of c user) (table_named c table) table key inserts before after (both_nothing (subscribed_table_of c user) inserts (row_changed table before after) a b))
  met_may (op.Clear table) inserts before after = inr refl
  met_may (op.Exec text) inserts before after = inr refl

  op_may : (o : Op) (w : Outcome) → HasLive c user (outcome_keys c o w) ⊎ (op_told false c user o w ≡ [])
  op_may o (outcome.Plain changes) = changes_may c user changes made
  op_may o (outcome.Conflict inserts before after) = met_may o inserts before after
  op_may o (outcome.Clash why) = inr refl

  ops_may : (ops : List (Op × Outcome)) (meant : List (Option Stmt)) → AllByRecursion (λ m. m ≡ None) meant → HasLive c user (ops_keys c ops) ⊎ (ops_told false c user ops meant ≡ [])
  ops_may [] meant none = inr refl
  ops_may (p ∷ ops) [] none = inr refl
  ops_may (p ∷ ops) (Some m ∷ meant) none = let impossible : Some m ≡ None = none.0 in cc
  ops_may (p ∷ ops) (None ∷ meant) none = go (op_may p.0 p.1) (ops_may ops meant none.1) where
    go : HasLive c user (op_keys c p) ⊎ (op_told false c user p.0 p.1 ≡ []) → HasLive c user (ops_keys c ops) ⊎ (ops_told false c user ops meant ≡ [])
        → HasLive c user (ops_keys c (p ∷ ops)) ⊎ (ops_told false c user (p ∷ ops) (None ∷ meant) ≡ [])
    go (inl h) r = inl (record { key = h.key; there = in_left (op_keys c p) (ops_keys c ops) h.key h.there; live = h.live })
    go (inr e) (inl h) = inl (record { key = h.key; there = in_right (op_keys c p) (ops_keys c ops) h.key h.there; live = h.live })
    go (inr e) (inr r) = inr (ap₂ (λ (x y : List Op). x ++ y) e r)

or_first : (a b : Bool) → (a || b) ≡ false → a ≡ false
or_first true b e = e
or_first false b e = refl

or_second : (a b : Bool) → (a || b) ≡ false → b ≡ false
or_second true b e = cc
or_second false b e = e

-- to its origin an op gives something only where it met another value
own_nothing : (c : Lists) (user : Name) (o : Op) (w : Outcome) → is_conflict w ≡ false → op_told true c user o w ≡ []
own_nothing c user o (outcome.Plain changes) e = refl
own_nothing c user o (outcome.Conflict inserts before after) e = cc
own_nothing c user o (outcome.Clash why) e = refl

ops_own_nothing : (c : Lists) (user : Name) (ops : List (Op × Outcome)) (meant : List (Option Stmt)) → AllByRecursion (λ m. m ≡ None) meant → list_any (λ p. is_conflict p.1) ops ≡ false
    → ops_told true c user ops meant ≡ []
ops_own_nothing c user [] meant none e = refl
ops_own_nothing c user (p ∷ ops) [] none e = refl
ops_own_nothing c user (p ∷ ops) (Some m ∷ meant) none e = let impossible : Some m ≡ None = none.0 in cc
ops_own_nothing c user (p ∷ ops) (None ∷ meant) none e =
    ap₂ (λ (x y : List Op). x ++ y) (own_nothing c user p.0 p.1 (or_first (is_conflict p.1) (list_any (λ q. is_conflict q.1) ops) e))
    (ops_own_nothing c user ops meant none.1 (or_second (is_conflict p.1) (list_any (λ q. is_conflict q.1) ops) e))

-- where no statement ran, none is meant
pub none_meant : (ops : List (Op × Outcome)) (meant : List (Option Stmt)) → AreMeant (map (λ p. text_done p.0 p.1) ops) meant → list_any has_run ops ≡ false → AllByRecursion (λ m. m ≡ None) meant
none_meant [] [] are e = tt
none_meant [] (m ∷ meant) are e = absurd are
none_meant (p ∷ ops) [] are e = absurd are
none_meant (p ∷ ops) (m ∷ meant) are e = (go (text_done p.0 p.1) (or_first (has_run p) (list_any has_run ops) e) are.0, none_meant ops meant are.1 (or_second (has_run p) (list_any has_run ops) e)) where
  go : (t : Option Name) → is_some t ≡ false → IsMeant t m → m ≡ None
  go None f is = is
  go (Some text) f is = cc

-- one of some keys is a user's, and that of what was taken from him is not among them
record MayTake (c : Lists) (user : Name) (keys : List Key) : Type 0 where
  pub key : Key
  pub his : IsHisBy c user key
  pub listed : Contains keys key
  pub other : ¬ (Contains keys (keyed.From user))

module _ (c : Lists) (user from : Name) (ops : List (Op × Outcome)) (meant : List (Option Stmt)) (made : IsMadeByStatements c) (are : AreMeant (map (λ p. text_done p.0 p.1) ops) meant) where
  -- listed under the key for its origin and those of its changes: as another's
  as_other : bytes_eq from user ≡ false → (b : Bool) → HasLive c user (ops_keys c ops) → MayTake c user (cond b (keyed.To from) (keyed.From from) ∷ ops_keys c ops)
  as_other apart b h = record {
    key = h.key;
    his = inr (inr (inr h.live));
    listed = contains_from_in (cond b (keyed.To from) (keyed.From from) ∷ ops_keys c ops) h.key (inr h.there);
    other = λ i. no b (in_from_contains (cond b (keyed.To from) (keyed.From from) ∷ ops_keys c ops) (keyed.From user) i);
  } where
    no : (b : Bool) → In (cond b (keyed.To from) (keyed.From from) ∷ ops_keys c ops) (keyed.From user) → ⊥
    no true (inl e) = cc
    no false (inl e) = let same : from ≡ user = cc in false≢true (sym apart ∙ (bytes_eq-Decides from user).1 same)
    no true (inr i) = false≢true (ops_shared c ops (keyed.From user) i)
    no false (inr i) = false≢true (ops_shared c ops (keyed.From user) i)

  -- and as his own, of which he is told something back
  as_own : from ≡ user → MayTake c user (keyed.To from ∷ ops_keys c ops)
  as_own same = record {
    key = keyed.To user;
    his = inl refl;
    listed = contains_from_in (keyed.To from ∷ ops_keys c ops) (keyed.To user) (inl (ap keyed.To same));
    other = λ i. no (in_from_contains (keyed.To from ∷ ops_keys c ops) (keyed.From user) i);
  } where
    no : In (keyed.To from ∷ ops_keys c ops) (keyed.From user) → ⊥
    no (inl e) = cc
    no (inr i) = false≢true (ops_shared c ops (keyed.From user) i)

  taken_may : MayTake c user (taken_keys c from ops) ⊎ (ops_told (bytes_eq from user) c user ops meant ≡ [])
  taken_may = go (list_any has_run ops) refl where
    by_origin : AllByRecursion (λ m. m ≡ None) meant → (b : Bool) → bytes_eq from user ≡ b → MayTake c user (back_key from ops ∷ ops_keys c ops) ⊎ (ops_told b c user ops meant ≡ [])
    by_origin none false apart = others (ops_may c user made ops meant none) where
      others : HasLive c user (ops_keys c ops) ⊎ (ops_told false c user ops meant ≡ []) → MayTake c user (back_key from ops ∷ ops_keys c ops) ⊎ (ops_told false c user ops meant ≡ [])
      others (inl h) = inl (as_other apart (list_any (λ p. is_conflict p.1) ops) h)
      others (inr e) = inr e
    by_origin none true same = own (list_any (λ p. is_conflict p.1) ops) refl where
      own : (b : Bool) → list_any (λ p. is_conflict p.1) ops ≡ b → MayTake c user (cond b (keyed.To from) (keyed.From from) ∷ ops_keys c ops) ⊎ (ops_told true c user ops meant ≡ [])
      own true met = inl (as_own ((bytes_eq-Decides from user).0 same))
      own false met = inr (ops_own_nothing c user ops meant none met)

    go : (b : Bool) → list_any has_run ops ≡ b → MayTake c user (cond b (keyed.Each ∷ []) (back_key from ops ∷ ops_keys c ops)) ⊎ (ops_told (bytes_eq from user) c user ops meant ≡ [])
    go true run = inl (record {
      key = keyed.Each;
      his = inr (inr (inl refl));
      listed = contains_from_in (keyed.Each ∷ []) keyed.Each (inl refl);
      other = λ i. no (in_from_contains (keyed.Each ∷ []) (keyed.From user) i);
    }) where
      no : In (keyed.Each ∷ []) (keyed.From user) → ⊥
      no (inl e) = cc
      no (inr i) = absurd i
    go false run = by_origin (none_meant ops meant are run) (bytes_eq from user) refl

-- ---- entries

module _ (c : Lists) (user : Name) (made : IsMadeByStatements c) where
  own_may : (changes : List Change) → MayConcern c (entry.Own changes) user ⊎ (changes_told (subscribed_table_of c user) changes ≡ [])
  unfolding entry_keys
  own_may changes = go (changes_may c user changes made) where
    go : HasLive c user (changes_keys c changes) ⊎ (changes_told (subscribed_table_of c user) changes ≡ []) → MayConcern c (entry.Own changes) user ⊎ (changes_told (subscribed_table_of c user) changes ≡ [])
    go (inl h) = inl (record { key = h.key; his = inr (inr (inr h.live)); listed = contains_from_in (changes_keys c changes) h.key h.there; other = not_from (changes_keys c changes) user (changes_shared c changes) })
    go (inr e) = inr e

  from_may : (from : Name) (at : Offset) (ops : List (Op × Outcome)) (meant : List (Option Stmt)) → AreMeant (map (λ p. text_done p.0 p.1) ops) meant
      → MayConcern c (entry.From from at ops) user ⊎ (ops_told (bytes_eq from user) c user ops meant ≡ [])
  unfolding entry_keys
  from_may from at ops meant are = go (taken_may c user from ops meant made are) where
    go : MayTake c user (taken_keys c from ops) ⊎ (ops_told (bytes_eq from user) c user ops meant ≡ []) → MayConcern c (entry.From from at ops) user ⊎ (ops_told (bytes_eq from user) c user ops meant ≡ [])
    go (inl h) = inl (record { key = h.key; his = h.his; listed = h.listed; other = h.other })
    go (inr e) = inr e

  sync_may : (to : Name) (tables : List (Name × List (List Cell))) (ops : List Op) → MayConcern c (entry.Sync to tables) user ⊎ (cond (bytes_eq to user) ops [] ≡ [])
  unfolding entry_keys
  sync_may to tables ops = go (bytes_eq to user) refl where
    no : In (keyed.To to ∷ []) (keyed.From user) → ⊥
    no (inl e) = cc
    no (inr i) = absurd i

    go : (b : Bool) → bytes_eq to user ≡ b → MayConcern c (entry.Sync to tables) user ⊎ (cond b ops [] ≡ [])
    go true is = inl (record {
      key = keyed.To user;
      his = inl refl;
      listed = contains_from_in (keyed.To to ∷ []) (keyed.To user) (inl (ap keyed.To ((bytes_eq-Decides to user).0 is)));
      other = λ i. no (in_from_contains (keyed.To to ∷ []) (keyed.From user) i);
    })
    go false is = inr refl

  -- the users that a pass names
  named_there : (users : List Name) → has users user ≡ true → In users user
  named_there [] e = cc
  named_there (u ∷ users) e = go (bytes_eq user u) refl (named_there users) e where
    go : (b : Bool) → bytes_eq user u ≡ b → (has users user ≡ true → In users user) → (b || has users user) ≡ true → In (u ∷ users) user
    go true is rest h = inl (sym ((bytes_eq-Decides user u).0 is))
    go false is rest h = inr (rest h)

  pass_shared : (only : Bool) (changes : List Change) (k : Key) → In (pass_keys c only changes) k → Shared k
  pass_shared true changes k h = absurd h
  pass_shared false changes k h = changes_shared c changes k h

  pass_not_from : (users : List Name) (only : Bool) (changes : List Change) → ¬ (Contains (map keyed.Text users ++ pass_keys c only changes) (keyed.From user))
  pass_not_from users only changes h = go (in_either (map keyed.Text users) (pass_keys c only changes) (keyed.From user) (in_from_contains (map keyed.Text users ++ pass_keys c only changes) (keyed.From user) h)) where
    go : In (map keyed.Text users) (keyed.From user) ⊎ In (pass_keys c only changes) (keyed.From user) → ⊥
    go (inl i) = all_mapped_to (λ k. ¬ (k ≡ keyed.From user)) keyed.Text users (λ u e. cc) (keyed.From user) i refl
    go (inr i) = false≢true (pass_shared only changes (keyed.From user) i)

  pass_may : (users : List Name) (only : Bool) (text : Name) (changes : List Change)
      → MayConcern c (entry.Pass users only text changes) user ⊎ (cond (has users user) (op.Exec text ∷ []) (cond only [] (changes_told (subscribed_table_of c user) changes)) ≡ [])
  unfolding entry_keys
  pass_may users only text changes = go (has users user) refl where
    here : (only : Bool) → MayConcern c (entry.Pass users only text changes) user ⊎ (cond only [] (changes_told (subscribed_table_of c user) changes) ≡ [])
    here true = inr refl
    here false = by (changes_may c user changes made) where
      by : HasLive c user (changes_keys c changes) ⊎ (changes_told (subscribed_table_of c user) changes ≡ []) → MayConcern c (entry.Pass users false text changes) user ⊎ (changes_told (subscribed_table_of c user) changes ≡ [])
      by (inl h) = inl (record {
        key = h.key;
        his = inr (inr (inr h.live));
        listed = contains_from_in (map keyed.Text users ++ changes_keys c changes) h.key (in_right (map keyed.Text users) (changes_keys c changes) h.key h.there);
        other = pass_not_from users false changes;
      })
      by (inr e) = inr e

    go : (b : Bool) → has users user ≡ b → MayConcern c (entry.Pass users only text changes) user ⊎ (cond b (op.Exec text ∷ []) (cond only [] (changes_told (subscribed_table_of c user) changes)) ≡ [])
    go true is = inl (record {
      key = keyed.Text user;
      his = inr (inl refl);
      listed = contains_from_in (map keyed.Text users ++ pass_keys c only changes) (keyed.Text user) (in_left (map keyed.Text users) (pass_keys c only changes) (keyed.Text user) (in_map keyed.Text users user (named_there users is)));
      other = pass_not_from users only changes;
    })
    go false is = here only

  -- by its images an entry gives a user nothing, or it may concern him
  pub entry_may : (e : Entry) (meant : List (Option Stmt)) → AreMeant (texts_of e) meant → MayConcern c e user ⊎ (told c e meant user ≡ [])
  unfolding told
  entry_may (entry.Own changes) meant are = own_may changes
  entry_may (entry.From from at ops) meant are = from_may from at ops meant are
  entry_may (entry.Ddl text) meant are = inr refl
  entry_may (entry.Sync to tables) meant are = sync_may to tables _
  entry_may (entry.Pass users only text changes) meant are = pass_may users only text changes
  entry_may (entry.Note about what) meant are = inr refl

-- ---- statements that are passed on

or_true : (b : Bool) → (b || true) ≡ true
or_true true = refl
or_true false = refl

named_in : (users : List Name) (user : Name) → In (map keyed.Text users) (keyed.Text user) → has users user ≡ true
named_in [] user i = absurd i
named_in (u ∷ users) user (inl e) = let same : user ≡ u = cc in ap (λ (b : Bool). b || has users user) ((bytes_eq-Decides user u).1 same)
named_in (u ∷ users) user (inr i) = ap (λ (b : Bool). bytes_eq user u || b) (named_in users user i) ∙ or_true (bytes_eq user u)

-- what is listed for a user under the key of these is one
pub named_by_text : (c : Lists) (e : Entry) (user : Name) → Contains (entry_keys c e) (keyed.Text user) → names_user user e ≡ true
unfolding entry_keys
named_by_text c (entry.Own changes) user h = absurd (false≢true (changes_shared c changes (keyed.Text user) (in_from_contains (changes_keys c changes) (keyed.Text user) h)))
named_by_text c (entry.From from at ops) user h = absurd (no (list_any has_run ops) (list_any (λ p. is_conflict p.1) ops) (in_from_contains (taken_keys c from ops) (keyed.Text user) h)) where
  no : (b d : Bool) → In (cond b (keyed.Each ∷ []) (cond d (keyed.To from) (keyed.From from) ∷ ops_keys c ops)) (keyed.Text user) → ⊥
  no true d (inl e) = cc
  no true d (inr i) = i
  no false true (inl e) = cc
  no false false (inl e) = cc
  no false true (inr i) = false≢true (ops_shared c ops (keyed.Text user) i)
  no false false (inr i) = false≢true (ops_shared c ops (keyed.Text user) i)
named_by_text c (entry.Ddl text) user h = absurd (in_from_contains [] (keyed.Text user) h)
named_by_text c (entry.Sync to tables) user h = absurd (no (in_from_contains (keyed.To to ∷ []) (keyed.Text user) h)) where
  no : In (keyed.To to ∷ []) (keyed.Text user) → ⊥
  no (inl e) = cc
  no (inr i) = i
named_by_text c (entry.Pass users only text changes) user h = go (in_either (map keyed.Text users) (pass_keys c only changes) (keyed.Text user) (in_from_contains (map keyed.Text users ++ pass_keys c only changes) (keyed.Text user) h)) where
  shared : (b : Bool) → In (pass_keys c b changes) (keyed.Text user) → ⊥
  shared true i = i
  shared false i = false≢true (changes_shared c changes (keyed.Text user) i)

  go : In (map keyed.Text users) (keyed.Text user) ⊎ In (pass_keys c only changes) (keyed.Text user) → has users user ≡ true
  go (inl i) = named_in users user i
  go (inr i) = absurd (shared only i)
named_by_text c (entry.Note about what) user h = absurd (in_from_contains [] (keyed.Text user) h)
