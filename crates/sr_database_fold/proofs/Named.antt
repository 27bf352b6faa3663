-- The key that named columns come to, and conflicts.
use Rattle.std.proofs.Common.{◌≡◌, ◌↔◌, ℕ, Bool, true, false, List, [], ◌∷◌, ◌++◌, cond, length, map, slice_get, Option, Some, None, Result, IfOk, bytes_eq, refl, sym, ap, subst, ◌∙◌, append_assoc}
use Rattle.std.proofs.lemmas.List.{append-nil}
use Rattle.std.proofs.lemmas.Map.Text.{is_eq-slice_cmp}
use Rattle.std.specs.BTreeMap.{is_at}
use Rattle.std.specs.List.{AllByRecursion}
use Rattle.sr_base.specs.declared.value.Value.{Value as Cell}
use Rattle.sr_base.specs.Order.{name_cmp}
use Rattle.sr_book.specs.Entries.{Name}
use Rattle.sr_base_dates.specs.Fitting.{fitted}
use Rattle.sr_exec_dml.specs.Applying.{applied_in, applied}
use Rattle.sr_exec_fits.specs.Rows.{IsRow}
use Rattle.sr_exec_dml.specs.FittingChanges.{IsFitChange, ChangesFit}
use Rattle.sr_exec_where.specs.Keys.{key_of}
use Rattle.sr_exec_dml.specs.Statements.{table_named}
use Rattle.sr_database_history.specs.Fitting.{fitted_in, all_there, IsInsertion, IsNamedKey, AreNamedRows}
use Rattle.sr_logform.specs.declared.change.Change.{Change}
use Rattle.sr_rows.specs.Marks.{RowMap}
use Rattle.sr_catalog_schema.specs.Catalogs.{Lists}
use Rattle.sr_catalog_schema.specs.declared.table.Column.{Column}
use Rattle.sr_catalog_schema.specs.declared.table.Table.{Table}
use Rattle.sr_database_fold.specs.Inner.Answers.{Tells}
use Rattle.sr_database_fold.specs.Inner.Movements.{change_of}
use Rattle.sr_database_fold.specs.Inner.Parts.{IsOneOrNone, ConflictFits, value_named, fitted_where, fitted_by}
use Rattle.sr_database_fold.specs.Inner.Told.{ChangeTold, ChangesTold, ConflictTold}
use Rattle.sr_database_fold.proofs.Changing.{ok_as, changes_append, applied_append}

-- ---- values that are collected, where each is there

pub record Collected (whole left : List (Option Cell)) (values : List Cell) : Type 0 where
  pub on : (key : List Cell) → all_there left key → all_there whole (values ++ key)
  pub back : (key : List Cell) → all_there whole key → (rest : List Cell) × (key ≡ values ++ rest) × all_there left rest

pub none_collected : (whole : List (Option Cell)) → Collected whole whole []
none_collected whole = record { on = λ key h. h; back = λ key h. (key, refl, h) }

one_there : (o : Option Cell) (left : List (Option Cell)) (v : Cell) (key : List Cell) → o ≡ Some v → all_there (o ∷ left) key
    → (rest : List Cell) × (key ≡ v ∷ rest) × all_there left rest
one_there o left v [] is h = absurd h
one_there o left v (w ∷ key) is h = let one : w ≡ v = (let both : Some w ≡ Some v = sym h.0 ∙ is in cc) in (key, ap (λ (x : Cell). x ∷ key) one, h.1)

none_there : (o : Option Cell) (left : List (Option Cell)) (key : List Cell) → o ≡ None → ¬ (all_there (o ∷ left) key)
none_there o left [] is h = h
none_there o left (w ∷ key) is h = let both : None ≡ Some w = sym is ∙ h.0 in cc

one_more_collected : (whole left : List (Option Cell)) (o : Option Cell) (v : Cell) (values : List Cell) → o ≡ Some v → Collected whole (o ∷ left) values
    → Collected whole left (values ++ v ∷ [])
one_more_collected whole left o v values is c = record { on = on; back = back } where
  on : (key : List Cell) → all_there left key → all_there whole ((values ++ v ∷ []) ++ key)
  on key h = subst (λ (k : List Cell). all_there whole k) (sym (append_assoc values (v ∷ []) key)) (c.on (v ∷ key) (is, h))

  back : (key : List Cell) → all_there whole key → (rest : List Cell) × (key ≡ (values ++ v ∷ []) ++ rest) × all_there left rest
  back key h =
      let found = c.back key h in
      let one = one_there o left v found.0 is found.2 in
      (one.0, found.1 ∙ ap (λ (r : List Cell). values ++ r) one.1 ∙ sym (append_assoc values (v ∷ []) one.0), one.2)

all_collected : (whole : List (Option Cell)) (values : List Cell) → Collected whole [] values → all_there whole values
all_collected whole values c = subst (λ (k : List Cell). all_there whole k) (append-nil values) (c.on [] tt)

pub one_lacks : (whole left : List (Option Cell)) (o : Option Cell) (values : List Cell) → o ≡ None → Collected whole (o ∷ left) values
    → (key : List Cell) → ¬ (all_there whole key)
one_lacks whole left o values is c key h = let found = c.back key h in none_there o left found.0 is found.2

-- the values of places, one after the other
pub collected_on : (f : ℕ → Option Cell) (places left rest : List ℕ) (place : ℕ) (v : Cell) (values new : List Cell) → Collected (map f places) (map f left) values
    → left ≡ place ∷ rest → f place ≡ Some v → new ≡ values ++ v ∷ [] → Collected (map f places) (map f rest) new
collected_on f places left rest place v values new c split is pushed =
    subst (λ (l : List Cell). Collected (map f places) (map f rest) l) (sym pushed)
    (one_more_collected (map f places) (map f rest) (f place) v values is (subst (λ (l : List ℕ). Collected (map f places) (map f l) values) split c))

pub collected_all : (f : ℕ → Option Cell) (places left : List ℕ) (values key : List Cell) → Collected (map f places) (map f left) values → length left ≡ 0 → key ≡ values
    → all_there (map f places) key
collected_all f places [] values key c none is = subst (λ (l : List Cell). all_there (map f places) l) (sym is) (all_collected (map f places) values c)
collected_all f places (p ∷ left) values key c none is = cc

-- they are no others
there_once : (os : List (Option Cell)) (xs ys : List Cell) → all_there os xs → all_there os ys → xs ≡ ys
there_once [] [] [] h k = refl
there_once [] [] (y ∷ ys) h k = absurd k
there_once [] (x ∷ xs) ys h k = absurd h
there_once (o ∷ os) [] ys h k = absurd h
there_once (o ∷ os) (x ∷ xs) [] h k = absurd k
there_once (o ∷ os) (x ∷ xs) (y ∷ ys) h k =
    let same : Some x ≡ Some y = sym h.0 ∙ k.0 in
    let rest = there_once os xs ys h.1 k.1 in
    cc

-- ---- the named key

-- the values under the names of what has been taken from the end
pub record NamedFrom (all left : List (Name × Cell)) (value_of : Name → Option Cell) : Type 0 where
  pub later : List (Name × Cell)
  pub is : all ≡ left ++ later
  pub values : (name : Name) → value_of name ≡ value_named later name

pub named_from_the_end : (all : List (Name × Cell)) (value_of : Name → Option Cell) → ((name : Name) → value_of name ≡ None) → NamedFrom all all value_of
named_from_the_end all value_of none = record { later = []; is = sym (append-nil all); values = none }

pub one_more_named : (all left rest : List (Name × Cell)) (v : Name × Cell) (value_of after : Name → Option Cell) → NamedFrom all left value_of
    → left ≡ rest ++ v ∷ [] → ((q : Name) → after q ≡ cond (is_at (name_cmp v.0) q) (Some v.1) (value_of q)) → NamedFrom all rest after
one_more_named all left rest v value_of after n split put = record {
  later = v ∷ n.later;
  is = n.is ∙ ap (λ (l : List (Name × Cell)). l ++ n.later) split ∙ append_assoc rest (v ∷ []) n.later;
  values = λ q. put q ∙ ap (λ (b : Bool). cond b (Some v.1) (value_of q)) (is_eq-slice_cmp v.0 q) ∙ ap (cond (bytes_eq v.0 q) (Some v.1)) (n.values q);
}

pub all_named : (all : List (Name × Cell)) (value_of : Name → Option Cell) → NamedFrom all [] value_of → (name : Name) → value_of name ≡ value_named all name
all_named all value_of n name = n.values name ∙ ap (λ (l : List (Name × Cell)). value_named l name) (sym n.is)

fitted_by_name : (values : List (Name × Cell)) (column : Option Column) → fitted_by (value_named values) column ≡ fitted_in values column
fitted_by_name [] None = refl
fitted_by_name [] (Some c) = refl
fitted_by_name (v ∷ values) None = refl
fitted_by_name (v ∷ values) (Some c) = go (bytes_eq v.0 c.name) (fitted_by_name values (Some c)) where
  go : (b : Bool) → fitted_where (value_named values c.name) c.kind ≡ fitted_in values (Some c)
      → fitted_where (cond b (Some v.1) (value_named values c.name)) c.kind ≡ cond b (fitted v.1 c.kind) (fitted_in values (Some c))
  go true rest = refl
  go false rest = rest

same_values : (columns : List (Name × Cell)) (value_of : Name → Option Cell) → ((name : Name) → value_of name ≡ value_named columns name) → (column : Option Column)
    → fitted_by value_of column ≡ fitted_in columns column
same_values columns value_of same None = fitted_by_name columns None
same_values columns value_of same (Some c) = ap (λ (o : Option Cell). fitted_where o c.kind) (same c.name) ∙ fitted_by_name columns (Some c)

key_named : (table : Table) (columns : List (Name × Cell)) (value_of : Name → Option Cell) (found : Option (List Cell)) → length columns ≡ length table.key
    → ((name : Name) → value_of name ≡ value_named columns name)
    → IsOneOrNone (all_there (map (λ place. fitted_by value_of (slice_get table.columns place)) table.key)) found → IsOneOrNone (IsNamedKey table columns) found
key_named table columns value_of found count same h = named found h where
  are : map (λ (place : ℕ). fitted_by value_of (slice_get table.columns place)) table.key ≡ map (λ (place : ℕ). fitted_in columns (slice_get table.columns place)) table.key
  are = λ i. map (λ (place : ℕ). same_values columns value_of same (slice_get table.columns place) i) table.key

  named : (found : Option (List Cell)) → IsOneOrNone (all_there (map (λ place. fitted_by value_of (slice_get table.columns place)) table.key)) found
      → IsOneOrNone (IsNamedKey table columns) found
  named None h = λ key k. h key (subst (λ (os : List (Option Cell)). all_there os key) (sym are) k.values)
  named (Some key) h = record { count = count; values = subst (λ (os : List (Option Cell)). all_there os key) are h }

pub key_named_in : (table : Table) (columns : List (Name × Cell)) (value_of : Name → Option Cell) (found : Option (List Cell)) (types : List Column) (places : List ℕ)
    → length columns ≡ length table.key → ((name : Name) → value_of name ≡ value_named columns name) → types ≡ table.columns → places ≡ table.key
    → IsOneOrNone (all_there (map (λ place. fitted_by value_of (slice_get types place)) places)) found → IsOneOrNone (IsNamedKey table columns) found
key_named_in table columns value_of found types places count same are those h =
    key_named table columns value_of found count same
    (subst (λ (ps : List ℕ). IsOneOrNone (all_there (map (λ place. fitted_by value_of (slice_get table.columns place)) ps)) found) those
    (subst (λ (cs : List Column). IsOneOrNone (all_there (map (λ place. fitted_by value_of (slice_get cs place)) places)) found) are h))

pub not_counted : (table : Table) (columns : List (Name × Cell)) → ¬ (length columns ≡ length table.key) → IsOneOrNone (IsNamedKey table columns) None
not_counted table columns never = λ key k. never k.count

-- ---- rows of a conflict

pub named_here : (catalog : Lists) (name : Name) (columns : List (Name × Cell)) (before after : List Cell) (table : Table) → table_named catalog name ≡ Some table
    → AreNamedRows catalog name columns before after
    → IsRow table.columns before × IsRow table.columns after × ((key : List Cell) × IsNamedKey table columns key × (key_of table.key before ≡ key) × (key_of table.key after ≡ key))
named_here catalog name columns before after table named a =
    let both : Some a.table ≡ Some table = sym a.named ∙ named in
    let one : a.table ≡ table = cc in
    subst (λ (t : Table). IsRow t.columns before × IsRow t.columns after × ((key : List Cell) × IsNamedKey t columns key × (key_of t.key before ≡ key) × (key_of t.key after ≡ key)))
    one (a.fits_before, a.fits_after, (a.key, a.meant, a.key_before, a.key_after))

pub nothing_named : (catalog : Lists) (name : Name) (columns : List (Name × Cell)) (before after : List Cell) → table_named catalog name ≡ None
    → ¬ (AreNamedRows catalog name columns before after)
nothing_named catalog name columns before after none a = let both : None ≡ Some a.table = sym none ∙ a.named in cc

pub rows_named : (catalog : Lists) (name : Name) (columns : List (Name × Cell)) (before after key : List Cell) (table : Table) → table_named catalog name ≡ Some table
    → IsRow table.columns before → IsRow table.columns after → IsNamedKey table columns key
    → AreNamedRows catalog name columns before after ↔ ((key_of table.key before ≡ key) × (key_of table.key after ≡ key))
rows_named catalog name columns before after key table named old new meant = (there, back) where
  there : AreNamedRows catalog name columns before after → (key_of table.key before ≡ key) × (key_of table.key after ≡ key)
  there a =
      let here = named_here catalog name columns before after table named a in
      let one : here.2.0 ≡ key = there_once _ here.2.0 key here.2.1.values meant.values in
      (here.2.2 ∙ one, here.2.3 ∙ one)

  back : (key_of table.key before ≡ key) × (key_of table.key after ≡ key) → AreNamedRows catalog name columns before after
  back h = record {
    table = table;
    named = named;
    fits_before = old;
    fits_after = new;
    key = key;
    meant = meant;
    key_before = h.0;
    key_after = h.1;
  }

-- ---- conflicts

conflict_told : (catalog : Lists) (rows mid new : RowMap) (table : Name) (key : List (Name × Cell)) (inserts : List Change) (before after : List Cell) (told : Bool)
    → AllByRecursion IsInsertion inserts → AreNamedRows catalog table key before after → ChangesFit catalog rows inserts → mid ≡ applied catalog inserts rows
    → Tells (IsFitChange catalog mid (change_of table before after)) (new ≡ applied_in (table_named catalog table) (change_of table before after) mid) told
    → Tells (ConflictFits catalog rows table key inserts before after) (new ≡ applied catalog (inserts ++ change_of table before after ∷ []) rows) told
conflict_told catalog rows mid new table key inserts before after true insertions named fit is h = (
  record {
    insertions = insertions;
    named = named;
    changes = (changes_append catalog rows inserts (change_of table before after ∷ [])).1
        (fit, (subst (λ (m : RowMap). IsFitChange catalog m (change_of table before after)) is h.0, tt));
  },
  h.1 ∙ ap (λ (m : RowMap). applied_in (table_named catalog table) (change_of table before after) m) is
      ∙ sym (applied_append catalog rows inserts (change_of table before after ∷ [])),
)
conflict_told catalog rows mid new table key inserts before after false insertions named fit is h = λ c.
    h (subst (λ (m : RowMap). IsFitChange catalog m (change_of table before after)) (sym is)
    ((changes_append catalog rows inserts (change_of table before after ∷ [])).0 c.changes).1.0)

-- the inserts fit, and the row tells
conflict_as : (catalog : Lists) (rows mid new : RowMap) (table : Name) (key : List (Name × Cell)) (inserts : List Change) (before after : List Cell) (told : Bool)
    → AllByRecursion IsInsertion inserts → AreNamedRows catalog table key before after → ChangesTold catalog rows inserts mid true
    → ChangeTold catalog mid (change_of table before after) new told → ConflictTold catalog rows table key inserts before after new told
unfolding ChangesTold ChangeTold ConflictTold
conflict_as catalog rows mid new table key inserts before after told insertions named t h =
    conflict_told catalog rows mid new table key inserts before after told insertions named t.0 t.1 h

pub conflict_ok : {E : Type 0} (catalog : Lists) (rows mid new : RowMap) (table : Name) (key : List (Name × Cell)) (inserts : List Change) (before after : List Cell)
    (made : Bool) (r : Result Bool E) → AllByRecursion IsInsertion inserts → AreNamedRows catalog table key before after → made ≡ true
    → ChangesTold catalog rows inserts mid made → IfOk r (λ told. ChangeTold catalog mid (change_of table before after) new told)
    → IfOk r (λ told. ConflictTold catalog rows table key inserts before after new told)
conflict_ok catalog rows mid new table key inserts before after made r insertions named so t h =
    let u : ChangesTold catalog rows inserts mid true = subst (λ (b : Bool). ChangesTold catalog rows inserts mid b) so t in
    ok_as r (λ told. conflict_as catalog rows mid new table key inserts before after told insertions named u) h

pub inserts_unfit : (catalog : Lists) (rows mid new : RowMap) (table : Name) (key : List (Name × Cell)) (inserts : List Change) (before after : List Cell) (made : Bool)
    → made ≡ false → ChangesTold catalog rows inserts mid made → ConflictTold catalog rows table key inserts before after new false
unfolding ChangesTold ConflictTold
inserts_unfit catalog rows mid new table key inserts before after made unfit t =
    let u : ChangesTold catalog rows inserts mid false = subst (λ (b : Bool). ChangesTold catalog rows inserts mid b) unfit t in
    λ c. u ((changes_append catalog rows inserts (change_of table before after ∷ [])).0 c.changes).0

-- what is no insert, or not these rows, is no such conflict
pub other_changes : (catalog : Lists) (rows new : RowMap) (table : Name) (key : List (Name × Cell)) (inserts : List Change) (before after : List Cell)
    → ¬ (AllByRecursion IsInsertion inserts) → ConflictTold catalog rows table key inserts before after new false
unfolding ConflictTold
other_changes catalog rows new table key inserts before after never = λ c. never c.insertions

pub other_rows : (catalog : Lists) (rows new : RowMap) (table : Name) (key : List (Name × Cell)) (inserts : List Change) (before after : List Cell)
    → ¬ (AreNamedRows catalog table key before after) → ConflictTold catalog rows table key inserts before after new false
unfolding ConflictTold
other_rows catalog rows new table key inserts before after never = λ c. never c.named
