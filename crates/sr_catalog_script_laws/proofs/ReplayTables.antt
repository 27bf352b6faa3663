-- Tables behind one another: what CREATE TABLE made is made again by its own statement.
use Rattle.std.proofs.Common.{◌≡◌, ℕ, zero, suc, true, false, cond, List, [], ◌∷◌, ◌++◌, length, map, Option, Some, None, refl, ap, sym, ◌∙◌, find, slice_get}
use Rattle.std.specs.Prelude.{bytes_eq, ◌||◌, nat_le, nat_lt, not, filter_map, option_map}
use Rattle.std.specs.List.{list_any, cons_option}
use Rattle.std.specs.Option.{is_some}
use Rattle.std.proofs.lemmas.Bool.{or_parts, not-false}
use Rattle.std.proofs.lemmas.Slice.Eq.{bytes_eq-Decides}
use Rattle.sr_ast.specs.declared.create.CreateTable.{CreateTable}
use Rattle.sr_ast.specs.declared.create.ColumnRule.{ColumnRule}
use Rattle.sr_ast.specs.declared.stmt.Stmt.TheVariants as stmt
use Rattle.sr_catalog_schema.specs.Catalogs.{Lists, nothing_but}
use Rattle.sr_catalog_change.specs.Changes.{refusal, next}
use Rattle.sr_catalog_schema.specs.Firsts.{where_true, first_twice, first_absent}
use Rattle.sr_catalog_schema.specs.Names.{taken, place_of}
use Rattle.sr_catalog_schema.specs.Members.{key_names, table_name, column_name, has_column, column_names}
use Rattle.sr_catalog_script_laws.specs.Scripts.{column_rule, create_table_of}
use Rattle.sr_catalog_ddl.specs.Tables.{rule_name, column_of, table_of, create_table_causes}
use Rattle.sr_catalog_schema.specs.declared.table.Table.{Table}
use Rattle.sr_catalog_schema.specs.declared.table.Column.{Column}
use Rattle.sr_catalog_schema.proofs.Places.{find-no_place, find-place, list_any-map}
use Rattle.sr_catalog_script_laws.proofs.ReplayCauses.{NoCause, no_cause_of, refused_alike, where_true-None, first_of-None}
use Rattle.sr_catalog_script_laws.proofs.ReplayLists.{found_as_taken}
use Rattle.sr_catalog_script_laws.proofs.Standing.{HasRoom, TableStands, table_rule}

-- ---- the columns of a key by name and by place

pub slice_get-map : {A B : Type 0} (f : A → B) (xs : List A) (i : ℕ) → slice_get (map f xs) i ≡ option_map f (slice_get xs i)
slice_get-map f [] i = refl
slice_get-map f (x ∷ xs) zero = refl
slice_get-map f (x ∷ xs) (suc i) = slice_get-map f xs i

-- what is found has the name
found_name : (n : List ℕ) (columns : List ColumnRule) → list_any (λ c. bytes_eq n (rule_name c)) columns ≡ true
    → option_map (λ (c : ColumnRule). column_name (column_of c)) (find (λ c. bytes_eq n (rule_name c)) columns) ≡ Some n
found_name n [] h = absurd (cc)
found_name n (c ∷ columns) h =
    elim (bytes_eq n (rule_name c)) as (λ b. bytes_eq n (rule_name c) ≡ b → (b || list_any (λ d. bytes_eq n (rule_name d)) columns) ≡ true
    → option_map (λ (d : ColumnRule). column_name (column_of d)) (cond b (Some c) (find (λ d. bytes_eq n (rule_name d)) columns)) ≡ Some n) [
      | true ↦ λ e t. ap Some (sym ((bytes_eq-Decides n (rule_name c)).0 e))
      | false ↦ λ e t. found_name n columns t
    ] refl h

option_map-twice : {A B D : Type 0} (f : A → B) (g : B → D) (o : Option A) → option_map g (option_map f o) ≡ option_map (λ x. g (f x)) o
option_map-twice f g None = refl
option_map-twice f g (Some x) = refl

-- the name at a place of the columns
abbrev name_at : List ColumnRule → ℕ → Option (List ℕ)
name_at columns i = option_map column_name (slice_get (map column_of columns) i)

name_again : (n : List ℕ) (columns : List ColumnRule) → taken rule_name n columns ≡ true → (place : Option ℕ) → place_of rule_name n columns ≡ place → (rest : List ℕ)
    → filter_map (name_at columns) (cons_option place rest) ≡ n ∷ filter_map (name_at columns) rest
name_again n columns there None e rest =
    let none = find-no_place (λ (c : ColumnRule). bytes_eq n (rule_name c)) columns e in
    let is = found_as_taken (λ (c : ColumnRule). bytes_eq n (rule_name c)) columns ∙ ap is_some none in
    absurd (cc)
name_again n columns there (Some i) e rest =
    let at : find (λ (c : ColumnRule). bytes_eq n (rule_name c)) columns ≡ slice_get columns i = find-place (λ (c : ColumnRule). bytes_eq n (rule_name c)) columns i e in
    let name : name_at columns i ≡ Some n =
    ap (option_map column_name) (slice_get-map column_of columns i)
    ∙ (option_map-twice column_of column_name (slice_get columns i)
    ∙ (ap (option_map (λ (c : ColumnRule). column_name (column_of c))) (sym at) ∙ found_name n columns there)) in
    ap (λ (o : Option (List ℕ)). cons_option o (filter_map (name_at columns) rest)) name

keys_again : (columns : List ColumnRule) (key : List (List ℕ)) → first_absent (λ n. taken rule_name n columns) key ≡ None
    → filter_map (name_at columns) (filter_map (λ n. place_of rule_name n columns) key) ≡ key
keys_again columns [] h = refl
keys_again columns (n ∷ key) h =
    let parts = first_of-None (where_true (not (taken rule_name n columns)) n) _ h in
    name_again n columns (not-false _ (where_true-None _ _ parts.0)) (place_of rule_name n columns) refl (filter_map (λ m. place_of rule_name m columns) key)
    ∙ ap (λ (ns : List (List ℕ)). n ∷ ns) (keys_again columns key parts.1)

columns_again : (columns : List ColumnRule) → map column_rule (map column_of columns) ≡ columns
columns_again [] = refl
columns_again (c ∷ columns) = ap (λ (cs : List ColumnRule). c ∷ cs) (columns_again columns)

abbrev rule_of : List ℕ → List ColumnRule → List (List ℕ) → CreateTable
rule_of name columns key = record { name = name; columns = columns; key = key }

-- the statement of what CREATE TABLE made is that CREATE TABLE
rule_again : (t : CreateTable) → first_absent (λ n. taken rule_name n t.columns) t.key ≡ None → table_rule (table_of t) ≡ t
unfolding table_of
rule_again t h =
    ap (λ (cs : List ColumnRule). rule_of t.name cs (filter_map (name_at t.columns) (filter_map (λ n. place_of rule_name n t.columns) t.key))) (columns_again t.columns)
    ∙ ap (rule_of t.name t.columns) (keys_again t.columns t.key h)

-- ---- what speaks against CREATE TABLE

create_alike : (c d : Lists) (t : CreateTable) → taken table_name t.name c.tables ≡ taken table_name t.name d.tables → nat_le 256 (length c.tables) ≡ nat_le 256 (length d.tables)
    → create_table_causes c t ≡ create_table_causes d t
unfolding create_table_causes
create_alike c d t names room = rw (names, room) refl

pub record Sound (c : Lists) (t : CreateTable) : Type 0 where
  pub is_new : taken table_name t.name c.tables ≡ false
  pub columns : first_twice (map rule_name t.columns) ≡ None
  pub key : first_absent (λ n. taken rule_name n t.columns) t.key ≡ None
  pub room : nat_le 256 (length c.tables) ≡ false

sound : (c : Lists) (t : CreateTable) → refusal c (stmt.CreateTable t) ≡ None → Sound c t
unfolding create_table_causes
sound c t h =
    let none : NoCause (create_table_causes c t) = no_cause_of c (stmt.CreateTable t) h in
    let once = first_of-None (where_true (taken table_name t.name c.tables) t.name) _ none.exists in
    let parts = first_of-None (first_twice (map rule_name t.columns)) _ once.1 in
    let many = or_parts (nat_le 256 (length c.tables)) (nat_lt 256 (length t.columns)) (where_true-None _ _ none.too_many) in
    record { is_new = where_true-None _ _ once.0; columns = parts.0; key = none.missing; room = many.0 }

-- an accepted CREATE TABLE makes a table that stands
pub table_made : (c : Lists) (t : CreateTable) → refusal c (stmt.CreateTable t) ≡ None → HasRoom table_name 256 c.tables (table_of t) × TableStands (table_of t)
unfolding table_of
table_made c t h =
    let is = sound c t h in
    let same : table_rule (table_of t) ≡ t = rule_again t is.key in (
      record { is_new = is.is_new; has_room = is.room },
      record {
        accepted = ap (λ (r : CreateTable). refusal (nothing_but []) (stmt.CreateTable r)) same
            ∙ (refused_alike (nothing_but []) c (stmt.CreateTable t) (stmt.CreateTable t) (create_alike _ c t (sym is.is_new) (sym is.room)) ∙ h);
        makes = ap table_of same;
      },
    )

-- where a table stands, its statement is accepted, and makes it
pub table_again : (c : Lists) (t : Table) → HasRoom table_name 256 c.tables t → TableStands t → refusal c (create_table_of t) ≡ None
unfolding create_table_of
table_again c t room stands =
    refused_alike c (nothing_but []) (stmt.CreateTable (table_rule t)) (stmt.CreateTable (table_rule t)) (create_alike c _ (table_rule t) room.is_new room.has_room) ∙ stands.accepted

pub table_next : (c : Lists) (t : Table) → TableStands t → next c (create_table_of t) ≡ record c { tables = c.tables ++ t ∷ [] }
unfolding create_table_of next
table_next c t stands = ap (λ (made : Table). record c { tables = c.tables ++ made ∷ [] }) stands.makes

-- ---- the columns of a table

names_of_rules : (columns : List Column) → map rule_name (map column_rule columns) ≡ map column_name columns
names_of_rules [] = refl
names_of_rules (c ∷ columns) = ap (λ (ns : List (List ℕ)). column_name c ∷ ns) (names_of_rules columns)

-- no two columns of a table have one name, and those of its key are among them
pub columns_once : (t : Table) → TableStands t → first_twice (column_names t) ≡ None
columns_once t stands = ap first_twice (sym (names_of_rules t.columns)) ∙ (sound _ (table_rule t) stands.accepted).columns

pub key_inside : (t : Table) → TableStands t → first_absent (has_column t) (key_names t) ≡ None
key_inside t stands =
    let e : (n : List ℕ) → taken rule_name n (map column_rule t.columns) ≡ has_column t n = λ n. list_any-map (λ (c : ColumnRule). bytes_eq n (rule_name c)) column_rule t.columns in
    let same : first_absent (has_column t) (key_names t) ≡ first_absent (λ n. taken rule_name n (map column_rule t.columns)) (key_names t) = λ i. first_absent (λ n. sym (e n) i) (key_names t) in
    same ∙ (sound _ (table_rule t) stands.accepted).key
