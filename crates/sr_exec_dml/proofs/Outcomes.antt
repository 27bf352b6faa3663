-- What the edits of a statement come to is what the rows before and after it come to.
use Rattle.std.proofs.Common.{◌≡◌, ◌++◌, Bool, true, false, cond, map, length, ℕ, suc, List, [], ◌∷◌, Option, Some, None, Result, Ok, Err, refl, sym, ap, subst, ◌∙◌}
use Rattle.std.specs.List.{AllByRecursion}
use Rattle.std.specs.List.{find as find_in}
use Rattle.std.specs.declared.cmp.Ordering.TheVariants.{Less}
use Rattle.std.specs.Ordering.{is_eq, ordering_reverse}
use Rattle.std.specs.List.Sorted.{IsStrictlySortedBy}
use Rattle.std.specs.Map.{lookup}
use Rattle.std.specs.BTreeMap.{is_at}
use Rattle.std.proofs.lemmas.Map.Keys.{sorted_head, sorted_tail}
use Rattle.std.specs.FinMap.{FinMap, from_entries, entries, find, get-entries, get-from_entries, entries_sorted}
use Rattle.sr_base.specs.Order.{key_cmp}
use Rattle.sr_base.specs.Inner.Order.{key_cmp_total}
use Rattle.sr_rows.specs.Marks.{RowMap, rows_of_table}
use Rattle.sr_rows.specs.Walks.{Entry, table_rows}
use Rattle.sr_rows.specs.Inner.Walks.{Rises}
use Rattle.sr_rows.proofs.Listing.{rises, get-table_rows, table_rows-rise}
use Rattle.sr_logform.specs.declared.change.Change.{Change}
use Rattle.sr_catalog_schema.specs.declared.fault.DmlFault.{DmlFault}
use Rattle.sr_catalog_schema.specs.declared.fault.DmlFault.TheVariants.{Duplicate}
use Rattle.sr_exec_dml.specs.declared.edit.Edit.{Edit}
use Rattle.sr_exec_dml.specs.declared.edit.Edit.TheVariants.{New}
use Rattle.sr_exec_dml.specs.Inner.Edits.{Edited, edit_at, is_taken, AreEdits, before_changes, with_edit, settled}
use Rattle.sr_exec_dml.specs.Holding.{under, are_two, one_of, keys_of, with_change, changes_at, undoubled, held}
use Rattle.sr_exec_dml.proofs.Folding.{Key, has, Rise, same_key, itself, folded, folded-alike}

abbrev Changed : Type 0
Changed = Result (List Change) DmlFault

-- what is done at a key, by the rows under it before and after
abbrev step_of : List ℕ → Key → List Key → List Key → Changed → Changed
step_of table key before [] rest = before_changes table (one_of before) None rest
step_of table key before (row ∷ []) rest = before_changes table (one_of before) (Some row) rest
step_of table key before (row ∷ other ∷ rows) rest = Err (Duplicate key)

-- the rows under a key after: those that are put, and those before where none is taken
abbrev pub after_of : Bool → List Key → List Key → List Key
after_of true before put = put
after_of false before put = before ++ put

nothing : (table : List ℕ) (rest : Changed) → before_changes table None None rest ≡ rest
nothing table (Ok changes) = refl
nothing table (Err e) = refl

no_change : (table : List ℕ) (row : Key) (rest : Changed) → before_changes table (Some row) (Some row) rest ≡ rest
no_change table row (Ok changes) = ap (λ (b : Bool). let changed : Change = record { table = table; before = Some row; after = Some row } in let r : Changed = Ok (cond b changes (changed ∷ changes)) in r) (itself row)
no_change table row (Err e) = refl

-- an edit does so, and no edit is silent
abbrev Comes : List ℕ → Key → List Key → List Key → Changed → Option Edit → Type 0
Comes table key before after rest None = step_of table key before after rest ≡ rest
Comes table key before after rest (Some e) = with_edit table key (one_of before) e rest ≡ step_of table key before after rest

comes : (table : List ℕ) (key : Key) (taken : Bool) (before put : List Key) (rest : Changed) → are_two before ≡ false → Comes table key before (after_of taken before put) rest (edit_at taken put)
comes table key true before [] rest h = refl
comes table key true before (x ∷ []) rest h = refl
comes table key true before (x ∷ y ∷ put) rest h = refl
comes table key false [] [] rest h = nothing table rest
comes table key false (r ∷ []) [] rest h = no_change table r rest
comes table key false (r ∷ s ∷ before) [] rest h = cc
comes table key false [] (x ∷ []) rest h = refl
comes table key false (r ∷ []) (x ∷ []) rest h = refl
comes table key false (r ∷ s ∷ before) (x ∷ []) rest h = cc
comes table key false [] (x ∷ y ∷ put) rest h = refl
comes table key false (r ∷ []) (x ∷ y ∷ put) rest h = refl
comes table key false (r ∷ s ∷ before) (x ∷ y ∷ put) rest h = cc

-- rows under keys
pub under-append : (q : Key) (xs ys : List Entry) → under q (xs ++ ys) ≡ under q xs ++ under q ys
under-append q [] ys = refl
under-append q (e ∷ xs) ys = go (is_eq (key_cmp q e.0)) (under-append q xs ys) where
  go : (b : Bool) → under q (xs ++ ys) ≡ under q xs ++ under q ys → cond b (e.1 ∷ under q (xs ++ ys)) (under q (xs ++ ys)) ≡ cond b (e.1 ∷ under q xs) (under q xs) ++ under q ys
  go true rest = ap (λ rows. e.1 ∷ rows) rest
  go false rest = rest

under-find : (q : Key) (es : List Entry) → find key_cmp q es ≡ None → under q es ≡ []
under-find q [] h = refl
under-find q (e ∷ es) h = go (is_eq (key_cmp q e.0)) h (under-find q es) where
  go : (b : Bool) → cond b (Some e.1) (find key_cmp q es) ≡ None → (find key_cmp q es ≡ None → under q es ≡ []) → cond b (e.1 ∷ under q es) (under q es) ≡ []
  go true f rest = cc
  go false f rest = rest f

under-above : (k : Key) (es : List Entry) → AllByRecursion (λ x. key_cmp k x.0 ≡ Less) es → under k es ≡ []
under-above k [] h = refl
under-above k (e ∷ es) h = ap (λ o. cond (is_eq o) (e.1 ∷ under k es) (under k es)) h.0 ∙ under-above k es h.1

pub above_same : (q k : Key) (es : List Entry) → is_eq (key_cmp q k) ≡ true → AllByRecursion (λ x. key_cmp k x.0 ≡ Less) es → under q es ≡ []
above_same q k es e h = ap (λ j. under j es) (same_key q k e) ∙ under-above k es h

-- where keys rise, one row at most is under each
pub under-rising : (q : Key) (es : List Entry) → Rises key_cmp es → (are_two (under q es) ≡ false) × (one_of (under q es) ≡ find key_cmp q es)
under-rising q [] h = (refl, refl)
under-rising q (e ∷ es) h = go (is_eq (key_cmp q e.0)) refl (under-rising q es h.1) where
  go : (b : Bool) → is_eq (key_cmp q e.0) ≡ b → (are_two (under q es) ≡ false) × (one_of (under q es) ≡ find key_cmp q es)
      → (are_two (cond b (e.1 ∷ under q es) (under q es)) ≡ false) × (one_of (cond b (e.1 ∷ under q es) (under q es)) ≡ cond b (Some e.1) (find key_cmp q es))
  go true t rest = (ap (λ rows. are_two (e.1 ∷ rows)) (above_same q e.0 es t h.0), refl)
  go false t rest = rest

-- keys of entries
has-find : {X : Type 0} (q : Key) (es : List (Key × X)) → has q (map (λ e. e.0) es) ≡ false → find key_cmp q es ≡ None
has-find q [] h = refl
has-find {X = X} q (e ∷ es) h = go (is_eq (key_cmp q e.0)) h (has-find q es) where
  go : (b : Bool) → cond b true (has q (map (λ (x : Key × X). x.0) es)) ≡ false → (has q (map (λ (x : Key × X). x.0) es) ≡ false → find key_cmp q es ≡ None) → cond b (Some e.1) (find key_cmp q es) ≡ None
  go true f rest = cc
  go false f rest = rest f

keys_below : {X : Type 0} (k : Key) (es : List (Key × X)) → AllByRecursion (λ x. key_cmp k x.0 ≡ Less) es → AllByRecursion (λ x. key_cmp k x ≡ Less) (map (λ (e : Key × X). e.0) es)
keys_below k [] h = tt
keys_below k (e ∷ es) h = (h.0, keys_below k es h.1)

keys_rise : {X : Type 0} (es : List (Key × X)) → Rises key_cmp es → Rise (map (λ (e : Key × X). e.0) es)
keys_rise [] h = tt
keys_rise (e ∷ es) h = (keys_below e.0 es h.0, keys_rise es h.1)

pub keys_of-rise : (before after : List Entry) → Rise (keys_of before after)
keys_of-rise before after = let m : FinMap key_cmp Key = from_entries (before ++ after) in keys_rise (entries m) (rises key_cmp (entries m) (entries_sorted m))

pair_left : (xs ys : List Key) → xs ++ ys ≡ [] → (xs ≡ []) × (ys ≡ [])
pair_left [] ys h = (refl, h)
pair_left (x ∷ xs) ys h = cc

pub not_there : (q : Key) (before after : List Entry) → has q (keys_of before after) ≡ false → (under q before ≡ []) × (under q after ≡ [])
not_there q before after h =
    let m : FinMap key_cmp Key = from_entries (before ++ after) in
    let none : find key_cmp q (before ++ after) ≡ None = sym (get-from_entries key_cmp_total (before ++ after) q) ∙ get-entries m q ∙ has-find q (entries m) h in
    pair_left (under q before) (under q after) (sym (under-append q before after) ∙ under-find q (before ++ after) none)

-- the entries of a tree
rise_from : (ks : List Key) → IsStrictlySortedBy key_cmp ks → Rise ks
rise_from [] h = tt
rise_from (k ∷ ks) h = (sorted_head key_cmp k ks h, rise_from ks (sorted_tail key_cmp k ks h))

module _ {X : Type 0} where
  abbrev at_key : List (Key × X) → Key → Option X
  at_key es q = lookup (is_at (key_cmp q)) es

  found_behind : (e : Key × X) (es fs : List (Key × X)) → AllByRecursion (λ x. key_cmp e.0 x ≡ Less) (map (λ (x : Key × X). x.0) fs) → AllByRecursion (λ x. at_key es x.0 ≡ Some x.1) fs → AllByRecursion (λ x. at_key (e ∷ es) x.0 ≡ Some x.1) fs
  found_behind e es [] h f = tt
  found_behind e es (x ∷ fs) h f = (ap (λ o. cond (is_eq o) (Some e.1) (at_key es x.0)) (key_cmp_total.antisymm x.0 e.0 ∙ ap ordering_reverse h.0) ∙ f.0, found_behind e es fs h.1 f.1)

  each_found : (es : List (Key × X)) → Rise (map (λ (x : Key × X). x.0) es) → AllByRecursion (λ x. at_key es x.0 ≡ Some x.1) es
  each_found [] h = tt
  each_found (e ∷ es) h = (ap (λ b. cond b (Some e.1) (at_key es e.0)) (itself e.0), found_behind e es es h.0 (each_found es h.1))

  not_found : (q : Key) (es : List (Key × X)) → has q (map (λ (x : Key × X). x.0) es) ≡ false → at_key es q ≡ None
  not_found q [] h = refl
  not_found q (e ∷ es) h = go (is_eq (key_cmp q e.0)) h (not_found q es) where
    go : (b : Bool) → cond b true (has q (map (λ (x : Key × X). x.0) es)) ≡ false → (has q (map (λ (x : Key × X). x.0) es) ≡ false → at_key es q ≡ None) → cond b (Some e.1) (at_key es q) ≡ None
    go true f rest = cc
    go false f rest = rest f

-- the steps at keys, one after the other, are what the rows come to
step_undoubled : (table : List ℕ) (k : Key) (before after : List Key) (o : Option Key) (changes : List Change)
    → step_of table k before after (undoubled o changes) ≡ undoubled (cond (are_two after) (Some k) o) (with_change table (one_of before) (one_of after) changes)
step_undoubled table k before [] None changes = refl
step_undoubled table k before [] (Some d) changes = refl
step_undoubled table k before (x ∷ []) None changes = refl
step_undoubled table k before (x ∷ []) (Some d) changes = refl
step_undoubled table k before (x ∷ y ∷ after) o changes = refl

module _ (table : List ℕ) (before after : List Entry) where
  step : Key → Changed → Changed
  step k = step_of table k (under k before) (under k after)

  folded-held : (ks : List Key) → folded (λ k. step_of table k (under k before) (under k after)) (Ok []) ks ≡ undoubled (find_in (λ k. are_two (under k after)) ks) (changes_at table before after ks)
  folded-held [] = refl
  folded-held (k ∷ ks) = ap (step_of table k (under k before) (under k after)) (folded-held ks) ∙ step_undoubled table k (under k before) (under k after) (find_in (λ j. are_two (under j after)) ks) (changes_at table before after ks)

  module _ (row_at : Key → Option Key) (at : Key → Option Edit) (taken : List Key) (put : List Entry)
      (held_at : (q : Key) → row_at q ≡ one_of (under q before)) (one : (q : Key) → are_two (under q before) ≡ false)
      (afterwards : (q : Key) → under q after ≡ after_of (is_taken q taken) (under q before) (under q put)) (edits : AreEdits at taken put) where
    comes_at : (q : Key) (rest : Changed) → Comes table q (under q before) (under q after) rest (at q)
    comes_at q rest = subst (λ (x : List Key × Option Edit). Comes table q (under q before) x.0 rest x.1) (λ i. (sym (afterwards q) i, sym (edits q) i)) (comes table q (is_taken q taken) (under q before) (under q put) rest (one q))

    edit_comes : (q : Key) (e : Edit) (rest : Changed) → at q ≡ Some e → with_edit table q (row_at q) e rest ≡ step_of table q (under q before) (under q after) rest
    edit_comes q e rest h = ap (λ held. with_edit table q held e rest) (held_at q) ∙ subst (Comes table q (under q before) (under q after) rest) h (comes_at q rest)

    silent_at : (q : Key) → at q ≡ None → (rest : Changed) → step_of table q (under q before) (under q after) rest ≡ rest
    silent_at q h rest = subst (Comes table q (under q before) (under q after) rest) h (comes_at q rest)

    silent_missing : (q : Key) → has q (keys_of before after) ≡ false → (rest : Changed) → step_of table q (under q before) (under q after) rest ≡ rest
    silent_missing q h rest =
        let none = not_there q before after h in
        (λ i. step_of table q (none.0 i) (none.1 i) rest) ∙ nothing table rest

    settled-folded : (ts : List Edited) → AllByRecursion (λ t. at t.0 ≡ Some t.1) ts → settled table row_at ts ≡ folded (λ k. step_of table k (under k before) (under k after)) (Ok []) (map (λ (t : Edited). t.0) ts)
    settled-folded [] h = refl
    settled-folded (t ∷ ts) h = ap (with_edit table t.0 (row_at t.0) t.1) (settled-folded ts h.1) ∙ edit_comes t.0 t.1 _ h.0

    pub settled_alike : (ts : List Edited) → IsStrictlySortedBy key_cmp (map (λ (t : Edited). t.0) ts) → ((q : Key) → at q ≡ at_key ts q) → settled table row_at ts ≡ held table before after
    settled_alike ts sorted same =
        let rise = rise_from (map (λ (t : Edited). t.0) ts) sorted in
        settled-folded ts (all_same ts (each_found ts rise))
        ∙ folded-alike (λ k. step_of table k (under k before) (under k after)) (Ok []) _ _ rise (keys_of-rise before after) (λ q h. silent_at q (same q ∙ not_found q ts h)) silent_missing
        ∙ folded-held (keys_of before after) where
          all_same : (us : List Edited) → AllByRecursion (λ t. at_key ts t.0 ≡ Some t.1) us → AllByRecursion (λ t. at t.0 ≡ Some t.1) us
          all_same [] h = tt
          all_same (u ∷ us) h = (same u.0 ∙ h.0, all_same us h.1)

-- the rows of a table, one under each key
pub row_under : (rows : RowMap) (t : List ℕ) (q : Key) → rows_of_table rows t q ≡ one_of (under q (table_rows rows t))
row_under rows t q = get-table_rows rows t q ∙ sym (under-rising q (table_rows rows t) (table_rows-rise rows t)).1

pub one_under : (rows : RowMap) (t : List ℕ) (q : Key) → are_two (under q (table_rows rows t)) ≡ false
one_under rows t q = (under-rising q (table_rows rows t) (table_rows-rise rows t)).0

-- rows that are put beside those of a table
pub settled-put : (rows : RowMap) (t : List ℕ) (put : List Entry) (ts : List Edited) → IsStrictlySortedBy key_cmp (map (λ (u : Edited). u.0) ts) → AreEdits (λ q. lookup (is_at (key_cmp q)) ts) [] put
    → settled t (rows_of_table rows t) ts ≡ held t (table_rows rows t) (table_rows rows t ++ put)
settled-put rows t put ts sorted edits =
    settled_alike t (table_rows rows t) (table_rows rows t ++ put) (rows_of_table rows t) (λ q. lookup (is_at (key_cmp q)) ts) [] put (row_under rows t) (one_under rows t)
    (λ q. under-append q (table_rows rows t) put) edits ts sorted (λ q. refl)

-- one row that is put
one_edit : (k row : Key) → AreEdits (λ q. lookup (is_at (key_cmp q)) ((k, New row) ∷ [])) [] ((k, row) ∷ [])
one_edit k row q = go (is_eq (key_cmp q k)) where
  go : (b : Bool) → cond b (Some (New row)) None ≡ edit_at false (cond b (row ∷ []) [])
  go true = refl
  go false = refl

one_sorted : (k : Key) → IsStrictlySortedBy key_cmp (k ∷ [])
unfolding IsStrictlySortedBy
one_sorted k = (tt, tt)

pub settled-one : (rows : RowMap) (t : List ℕ) (k row : Key) → settled t (rows_of_table rows t) ((k, New row) ∷ []) ≡ held t (table_rows rows t) (table_rows rows t ++ (k, row) ∷ [])
settled-one rows t k row = settled-put rows t ((k, row) ∷ []) ((k, New row) ∷ []) (one_sorted k) (one_edit k row)

-- the last of one item is the only one
pub only_last : {X : Type 0} (xs : List X) (x : X) (all : List X) → all ≡ xs ++ x ∷ [] → length all ≡ 1 → all ≡ x ∷ []
only_last [] x all e one = e
only_last (y ∷ []) x all e one = let two : length all ≡ 2 = ap length e in cc
only_last (y ∷ z ∷ xs) x all e one = let more : length all ≡ suc (suc (length (xs ++ x ∷ []))) = ap length e in cc
