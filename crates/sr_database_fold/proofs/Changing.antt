-- A change fits exactly where its rows may come, go, or become one another in its table.
use Rattle.std.proofs.Common.{◌≡◌, ◌↔◌, Bool, true, false, cond, List, [], ◌∷◌, ◌++◌, length, Option, Some, None, Result, Ok, Err, IfOk, bytes_eq, refl, sym, ap, subst, ◌∙◌}
use Rattle.std.specs.FinMap as map_of
use Rattle.std.specs.List.{find as find_in}
use Rattle.sr_base.specs.declared.value.Value.{Value as Cell}
use Rattle.sr_book.specs.Entries.{Name}
use Rattle.sr_exec_dml.specs.Applying.{place_of, with_row, without_row, applied_in, applied}
use Rattle.sr_exec_dml.specs.Fitting.{RowsFit}
use Rattle.sr_exec_fits.specs.Rows.{IsRow}
use Rattle.sr_exec_dml.specs.FittingChanges.{FitsAt, IsFitChange, ChangesFit}
use Rattle.sr_exec_where.specs.Keys.{key_of}
use Rattle.sr_exec_dml.specs.Statements.{table_named}
use Rattle.sr_exec_dml.proofs.Applied.{fitting_changes_keep}
use Rattle.sr_exec_where.proofs.Fixed.{same_name}
use Rattle.sr_exec_dml.proofs.Over.{over}
use Rattle.sr_logform.specs.declared.change.Change.{Change}
use Rattle.sr_rows.specs.Marks.{RowMap, rows_of_table}
use Rattle.sr_catalog_schema.specs.Catalogs.{Lists}
use Rattle.sr_catalog_schema.specs.declared.table.Table.{Table}
use Rattle.sr_database_fold.specs.Inner.Answers.{Tells}
use Rattle.sr_database_fold.specs.Inner.Movements.{IsHeld, MayCome, IsThere, MayBecome, KeyWhere}
use Rattle.sr_database_fold.specs.Inner.Told.{ChangeTold, ChangesTold}

-- a table stands under its name
name_found : (name : Name) (tables : List Table) (table : Table) → find_in (λ t. bytes_eq name t.name) tables ≡ Some table → name ≡ table.name
name_found name [] table h = cc
name_found name (t ∷ tables) table h = go (bytes_eq name t.name) refl h (name_found name tables table) where
  go : (b : Bool) → bytes_eq name t.name ≡ b → cond b (Some t) (find_in (λ t. bytes_eq name t.name) tables) ≡ Some table
      → (find_in (λ t. bytes_eq name t.name) tables ≡ Some table → name ≡ table.name) → name ≡ table.name
  go true e k rest = let is : t ≡ table = cc in subst (λ (x : Table). name ≡ x.name) is (same_name name t.name e)
  go false e k rest = rest k

pub own_name : (catalog : Lists) (name : Name) (table : Table) → table_named catalog name ≡ Some table → name ≡ table.name
own_name catalog name table named = name_found name catalog.tables table named

-- a table that was found is the catalog's
pub found_held : (catalog : Lists) (name : Name) (table : Table) → Some table ≡ table_named catalog name → IsHeld catalog (Some table)
found_held catalog name table is = ap (table_named catalog) (sym (own_name catalog name table (sym is))) ∙ sym is

-- one change of a table
module _ (catalog : Lists) (rows : RowMap) (c : Change) (table : Table) (fit : RowsFit catalog rows) (named : table_named catalog c.table ≡ Some table) where
  own : c.table ≡ table.name
  own = own_name catalog c.table table named

  -- the table of a change that fits is this one
  one_table : (t : Table) → table_named catalog c.table ≡ Some t → t ≡ table
  one_table t is = let both : Some t ≡ Some table = sym is ∙ named in cc

  -- a row that is held stands under its key
  held_under : (key row : List Cell) → rows_of_table rows c.table key ≡ Some row → key_of table.key row ≡ key
  held_under key row held = (fit.each c.table table named key row (subst (λ (n : Name). rows_of_table rows n key ≡ Some row) own held)).1

  moved : (key : List Cell) (o : Option (List Cell)) → rows_of_table rows c.table key ≡ o → rows_of_table rows table.name key ≡ o
  moved key o held = subst (λ (n : Name). rows_of_table rows n key ≡ o) own held

  moved_back : (key : List Cell) (o : Option (List Cell)) → rows_of_table rows table.name key ≡ o → rows_of_table rows c.table key ≡ o
  moved_back key o held = subst (λ (n : Name). rows_of_table rows n key ≡ o) (sym own) held

  -- a row comes
  pub comes : (after : List Cell) → c.before ≡ None → c.after ≡ Some after → IsFitChange catalog rows c ↔ MayCome table after rows
  comes after none some = (there, back) where
    there : IsFitChange catalog rows c → MayCome table after rows
    there f =
        let at : FitsAt f.table f.key (Some after) = subst (FitsAt f.table f.key) some f.fits in
        let here : IsRow table.columns after × (key_of table.key after ≡ f.key) =
        subst (λ (t : Table). IsRow t.columns after × (key_of t.key after ≡ f.key)) (one_table f.table f.named) at in
        record {
          fits = here.0;
          free = moved (key_of table.key after) None (ap (rows_of_table rows c.table) here.1 ∙ f.held ∙ none);
        }

    back : MayCome table after rows → IsFitChange catalog rows c
    back m = record {
      table = table;
      named = named;
      key = key_of table.key after;
      held = moved_back (key_of table.key after) None m.free ∙ sym none;
      fits = subst (FitsAt table (key_of table.key after)) (sym some) (m.fits, refl);
    }

  -- a row goes
  pub goes : (before : List Cell) → c.before ≡ Some before → c.after ≡ None → IsFitChange catalog rows c ↔ IsThere table before rows
  goes before some none = (there, back) where
    there : IsFitChange catalog rows c → IsThere table before rows
    there f =
        let held : rows_of_table rows c.table f.key ≡ Some before = f.held ∙ some in
        moved (key_of table.key before) (Some before) (ap (rows_of_table rows c.table) (held_under f.key before held) ∙ held)

    back : IsThere table before rows → IsFitChange catalog rows c
    back m = record {
      table = table;
      named = named;
      key = key_of table.key before;
      held = moved_back (key_of table.key before) (Some before) m ∙ sym some;
      fits = subst (FitsAt table (key_of table.key before)) (sym none) tt;
    }

  -- a row becomes another one
  pub becomes : (before after : List Cell) → c.before ≡ Some before → c.after ≡ Some after → IsFitChange catalog rows c ↔ MayBecome table before after rows
  becomes before after old new = (there, back) where
    there : IsFitChange catalog rows c → MayBecome table before after rows
    there f =
        let held : rows_of_table rows c.table f.key ≡ Some before = f.held ∙ old in
        let under : key_of table.key before ≡ f.key = held_under f.key before held in
        let at : FitsAt f.table f.key (Some after) = subst (FitsAt f.table f.key) new f.fits in
        let here : IsRow table.columns after × (key_of table.key after ≡ f.key) =
        subst (λ (t : Table). IsRow t.columns after × (key_of t.key after ≡ f.key)) (one_table f.table f.named) at in
        record {
          there = moved (key_of table.key before) (Some before) (ap (rows_of_table rows c.table) under ∙ held);
          fits = here.0;
          key = under ∙ sym here.1;
        }

    back : MayBecome table before after rows → IsFitChange catalog rows c
    back m = record {
      table = table;
      named = named;
      key = key_of table.key before;
      held = moved_back (key_of table.key before) (Some before) m.there ∙ sym old;
      fits = subst (FitsAt table (key_of table.key before)) (sym new) (m.fits, sym m.key);
    }

  -- the rows behind it
  made : (before after : Option (List Cell)) (new : RowMap) → c.before ≡ before → c.after ≡ after → new ≡ with_row table after (without_row table before rows)
      → new ≡ applied_in (table_named catalog c.table) c rows
  made before after new old now is =
      is ∙ ap (λ (o : Option (List Cell)). with_row table o (without_row table before rows)) (sym now)
      ∙ ap (λ (o : Option (List Cell)). with_row table c.after (without_row table o rows)) (sym old)
      ∙ ap (λ (t : Option Table). applied_in t c rows) (sym named)

-- a row that is put over one with its key
over_it : (table : Table) (before after : List Cell) (rows new : RowMap) (key row : List Cell) → MayBecome table before after rows × (key ≡ key_of table.key after)
    → row ≡ after → new ≡ map_of.insert rows (table.name, key) row
    → MayBecome table before after rows × (new ≡ with_row table (Some after) (without_row table (Some before) rows))
over_it table before after rows new key row may same put = (
  may.0,
  put ∙ (λ i. map_of.insert rows (table.name, may.1 i) (same i)) ∙ sym (over rows (place_of table after) after)
      ∙ ap (λ (k : List Cell). map_of.insert (map_of.remove rows (table.name, k)) (place_of table after) after) (sym may.0.key),
)

pub became : (table : Table) (before after : List Cell) (rows new : RowMap) (found : Option (List Cell)) (key row : List Cell)
    → KeyWhere (MayBecome table before after rows) (key_of table.key after) found → found ≡ Some key → row ≡ after
    → new ≡ map_of.insert rows (table.name, key) row
    → MayBecome table before after rows × (new ≡ with_row table (Some after) (without_row table (Some before) rows))
became table before after rows new found key row h is same put =
    over_it table before after rows new key row
    (subst (λ (o : Option (List Cell)). KeyWhere (MayBecome table before after rows) (key_of table.key after) o) is h) same put

-- what is told of one thing is told of another that is so exactly where it is
pub told_as : {P Q R S : Type 0} (told : Bool) → P ↔ Q → (R → S) → Tells Q R told → Tells P S told
told_as true same on h = (same.1 h.0, on h.1)
told_as false same on h = λ p. h (same.0 p)

pub ok_as : {A E : Type 0} {P Q : A → Type 0} (r : Result A E) → ((x : A) → P x → Q x) → IfOk r P → IfOk r Q
ok_as (Ok x) on h = on x h
ok_as (Err e) on h = tt

-- whatever the catalog is in which the table stands
abbrev pub ToldIn : Table → RowMap → Change → RowMap → Bool → Type 0
ToldIn table rows c new told = (catalog : Lists) → RowsFit catalog rows → table_named catalog c.table ≡ Some table → ChangeTold catalog rows c new told

pub insert_told : {E : Type 0} (rows new : RowMap) (c : Change) (table : Table) (after : List Cell) (r : Result Bool E) → c.before ≡ None → c.after ≡ Some after
    → IfOk r (λ told. Tells (MayCome table after rows) (new ≡ with_row table (Some after) rows) told) → IfOk r (λ told. ToldIn table rows c new told)
unfolding ChangeTold
insert_told rows new c table after r none some h =
    ok_as r (λ told t catalog fit named. told_as told (comes catalog rows c table fit named after none some) (made catalog rows c table fit named None (Some after) new none some) t) h

pub remove_told : {E : Type 0} (rows new : RowMap) (c : Change) (table : Table) (before : List Cell) (r : Result Bool E) → c.before ≡ Some before → c.after ≡ None
    → IfOk r (λ told. Tells (IsThere table before rows) (new ≡ without_row table (Some before) rows) told) → IfOk r (λ told. ToldIn table rows c new told)
unfolding ChangeTold
remove_told rows new c table before r some none h =
    ok_as r (λ told t catalog fit named. told_as told (goes catalog rows c table fit named before some none) (made catalog rows c table fit named (Some before) None new some none) t) h

pub become_told : {E : Type 0} (rows new : RowMap) (c : Change) (table : Table) (before after : List Cell) (r : Result Bool E) → c.before ≡ Some before → c.after ≡ Some after
    → IfOk r (λ told. Tells (MayBecome table before after rows) (new ≡ with_row table (Some after) (without_row table (Some before) rows)) told) → IfOk r (λ told. ToldIn table rows c new told)
unfolding ChangeTold
become_told rows new c table before after r old now h =
    ok_as r (λ told t catalog fit named. told_as told (becomes catalog rows c table fit named before after old now) (made catalog rows c table fit named (Some before) (Some after) new old now) t) h

pub replace_told : {E : Type 0} (catalog : Lists) (rows new : RowMap) (c : Change) (table : Table) (before after : List Cell) (r : Result Bool E)
    → RowsFit catalog rows → table_named catalog c.table ≡ Some table → c.before ≡ Some before → c.after ≡ Some after
    → IfOk r (λ told. Tells (MayBecome table before after rows) (new ≡ with_row table (Some after) (without_row table (Some before) rows)) told)
    → IfOk r (λ told. ChangeTold catalog rows c new told)
unfolding ChangeTold
replace_told catalog rows new c table before after r fit named old now h =
    ok_as r (λ told. told_as told (becomes catalog rows c table fit named before after old now) (made catalog rows c table fit named (Some before) (Some after) new old now)) h

-- a change fits no table that is not there
pub no_table : (catalog : Lists) (rows : RowMap) (c : Change) → table_named catalog c.table ≡ None → ¬ (IsFitChange catalog rows c)
no_table catalog rows c none f = let both : None ≡ Some f.table = sym none ∙ f.named in cc

pub no_table_told : (catalog : Lists) (rows new : RowMap) (c : Change) → table_named catalog c.table ≡ None → ChangeTold catalog rows c new false
unfolding ChangeTold
no_table_told catalog rows new c none = no_table catalog rows c none

-- changes one after the other
pub changes_append : (catalog : Lists) (rows : RowMap) (xs ys : List Change)
    → ChangesFit catalog rows (xs ++ ys) ↔ (ChangesFit catalog rows xs × ChangesFit catalog (applied catalog xs rows) ys)
changes_append catalog rows [] ys = (λ h. (tt, h), λ h. h.1)
changes_append catalog rows (x ∷ xs) ys =
    let next = changes_append catalog (applied_in (table_named catalog x.table) x rows) xs ys in
    (λ h. ((h.0, (next.0 h.1).0), (next.0 h.1).1), λ h. (h.0.0, next.1 (h.0.1, h.1)))

pub applied_append : (catalog : Lists) (rows : RowMap) (xs ys : List Change) → applied catalog (xs ++ ys) rows ≡ applied catalog ys (applied catalog xs rows)
applied_append catalog rows [] ys = refl
applied_append catalog rows (x ∷ xs) ys = applied_append catalog (applied_in (table_named catalog x.table) x rows) xs ys

-- rows go on to fit behind changes that do
pub change_keeps : (catalog : Lists) (rows mid : RowMap) (c : Change) (told : Bool) → RowsFit catalog rows → told ≡ true → ChangeTold catalog rows c mid told
    → RowsFit catalog mid
unfolding ChangeTold
change_keeps catalog rows mid c told fits so t =
    let h : Tells (IsFitChange catalog rows c) (mid ≡ applied_in (table_named catalog c.table) c rows) true =
    subst (λ (b : Bool). Tells (IsFitChange catalog rows c) (mid ≡ applied_in (table_named catalog c.table) c rows) b) so t in
    subst (λ (m : RowMap). RowsFit catalog m) (sym h.1) (fitting_changes_keep catalog rows (c ∷ []) fits (h.0, tt))

pub changes_keep : (catalog : Lists) (rows mid : RowMap) (changes : List Change) (told : Bool) → RowsFit catalog rows → told ≡ true
    → ChangesTold catalog rows changes mid told → RowsFit catalog mid
unfolding ChangesTold
changes_keep catalog rows mid changes told fits so t =
    let h : Tells (ChangesFit catalog rows changes) (mid ≡ applied catalog changes rows) true =
    subst (λ (b : Bool). Tells (ChangesFit catalog rows changes) (mid ≡ applied catalog changes rows) b) so t in
    subst (λ (m : RowMap). RowsFit catalog m) (sym h.1) (fitting_changes_keep catalog rows changes fits h.0)

-- ---- changes one after the other

-- what is told of those that are left is told of all
unfoldable pub ChangesLeft : Lists → RowMap → RowMap → List Change → List Change → Type 0
ChangesLeft catalog old now all left = (new : RowMap) (told : Bool) → ChangesTold catalog now left new told → ChangesTold catalog old all new told

pub changes_begin : (catalog : Lists) (rows : RowMap) (all : List Change) → ChangesLeft catalog rows rows all all
unfolding ChangesLeft
changes_begin catalog rows all = λ new told t. t

one_more : (catalog : Lists) (now mid new : RowMap) (c : Change) (rest : List Change) (told : Bool) → ChangeTold catalog now c mid true
    → ChangesTold catalog mid rest new told → ChangesTold catalog now (c ∷ rest) new told
unfolding ChangeTold ChangesTold
one_more catalog now mid new c rest true t h = (
  (t.0, subst (λ (m : RowMap). ChangesFit catalog m rest) t.1 h.0),
  h.1 ∙ ap (λ (m : RowMap). applied catalog rest m) t.1,
)
one_more catalog now mid new c rest false t h = λ f. h (subst (λ (m : RowMap). ChangesFit catalog m rest) (sym t.1) f.1)

pub changes_on : (catalog : Lists) (old now mid : RowMap) (all left rest : List Change) (c : Change) (told : Bool) → ChangesLeft catalog old now all left
    → ChangeTold catalog now c mid told → told ≡ true → left ≡ c ∷ rest → ChangesLeft catalog old mid all rest
unfolding ChangesLeft
changes_on catalog old now mid all left rest c told more t so split = λ new b h.
    more new b (subst (λ (l : List Change). ChangesTold catalog now l new b) (sym split)
    (one_more catalog now mid new c rest b (subst (λ (x : Bool). ChangeTold catalog now c mid x) so t) h))

none_told : (catalog : Lists) (now : RowMap) → ChangesTold catalog now [] now true
unfolding ChangesTold
none_told catalog now = (tt, refl)

pub changes_end : (catalog : Lists) (old now : RowMap) (all left : List Change) → ChangesLeft catalog old now all left → length left ≡ 0
    → ChangesTold catalog old all now true
unfolding ChangesLeft
changes_end catalog old now all [] more none = more now true (none_told catalog now)
changes_end catalog old now all (c ∷ left) more none = cc

first_unfit : (catalog : Lists) (now mid new : RowMap) (c : Change) (rest : List Change) → ChangeTold catalog now c mid false → ChangesTold catalog now (c ∷ rest) new false
unfolding ChangeTold ChangesTold
first_unfit catalog now mid new c rest t = λ f. t f.0

pub changes_stuck : (catalog : Lists) (old now mid new : RowMap) (all left rest : List Change) (c : Change) (told : Bool) → ChangesLeft catalog old now all left
    → ChangeTold catalog now c mid told → told ≡ false → left ≡ c ∷ rest → ChangesTold catalog old all new false
unfolding ChangesLeft
changes_stuck catalog old now mid new all left rest c told more t unfit split =
    more new false (subst (λ (l : List Change). ChangesTold catalog now l new false) (sym split)
    (first_unfit catalog now mid new c rest (subst (λ (x : Bool). ChangeTold catalog now c mid x) unfit t)))
