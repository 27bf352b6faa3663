-- A table as a scope: what a name means among its columns.
use Rattle.std.proofs.Common.{◌≡◌, ℕ, Bool, true, false, cond, List, [], ◌∷◌, length, map, Option, Some, None, refl, ap, sym, arith, ◌∙◌, position}
use Rattle.std.specs.Prelude.{◌&&◌, option_map, bytes_eq}
use Rattle.std.specs.List.{position_or_len}
use Rattle.sr_base.specs.declared.value.Kind.{Kind}
use Rattle.sr_ast.specs.Classes.{kind_of, is_alias, is_meant}
use Rattle.sr_ast.specs.Inner.Classes.{place_of}
use Rattle.sr_catalog_schema.specs.Members.{column_name, scope_of}
use Rattle.sr_catalog_schema.specs.Names.{named, place_of as place_named}
use Rattle.sr_catalog_schema.specs.declared.table.Table.{Table}
use Rattle.sr_catalog_schema.specs.declared.table.Column.{Column}
use Rattle.sr_catalog_schema.proofs.Places.{flipped, position-map}

pub and_true : (b : Bool) → (b && true) ≡ b
and_true true = refl
and_true false = refl

pub and_false : (b : Bool) → (b && false) ≡ false
and_false true = refl
and_false false = refl

-- a thing that is found, by what is asked of it
pub found : {A B : Type 0} (f : A → B) (b : Bool) (x : A) (rest : Option A) → option_map f (cond b (Some x) rest) ≡ cond b (Some (f x)) (option_map f rest)
found f true x rest = refl
found f false x rest = refl

-- columns that stand behind an alias
abbrev pub columns_behind : List ℕ → List Column → List (Option (List ℕ) × List ℕ × Kind)
columns_behind alias columns = map (λ c. (Some alias, c.name, c.kind)) columns

-- a name without a dot among the columns behind an alias
pub column_alone : (a : List ℕ) (cs : List Column) (n : List ℕ) → kind_of (columns_behind a cs) None n ≡ option_map (λ c. c.kind) (named column_name n cs)
column_alone a [] n = refl
column_alone a (c ∷ cs) n =
    let same : (bytes_eq c.name n && true) ≡ bytes_eq n c.name = and_true (bytes_eq c.name n) ∙ flipped c.name n in
    (λ i. cond (same i) (Some c.kind) (column_alone a cs n i)) ∙ sym (found (λ (d : Column). d.kind) (bytes_eq n c.name) c (named column_name n cs))

-- a name behind another alias
pub other_alias : (a : List ℕ) (cs : List Column) (alias n : List ℕ) → bytes_eq a alias ≡ false → kind_of (columns_behind a cs) (Some alias) n ≡ None
other_alias a [] alias n other = refl
other_alias a (c ∷ cs) alias n other =
    let none : (bytes_eq c.name n && bytes_eq a alias) ≡ false = ap (λ b. bytes_eq c.name n && b) other ∙ and_false (bytes_eq c.name n) in
    (λ i. cond (none i) (Some c.kind) (kind_of (columns_behind a cs) (Some alias) n)) ∙ other_alias a cs alias n other

-- a name behind this alias
pub this_alias : (a : List ℕ) (cs : List Column) (alias n : List ℕ) → bytes_eq a alias ≡ true → kind_of (columns_behind a cs) (Some alias) n ≡ option_map (λ c. c.kind) (named column_name n cs)
this_alias a [] alias n this = refl
this_alias a (c ∷ cs) alias n this =
    let same : (bytes_eq c.name n && bytes_eq a alias) ≡ bytes_eq n c.name =
    ap (λ b. bytes_eq c.name n && b) this ∙ (and_true (bytes_eq c.name n) ∙ flipped c.name n) in
    (λ i. cond (same i) (Some c.kind) (this_alias a cs alias n this i)) ∙ sym (found (λ (d : Column). d.kind) (bytes_eq n c.name) c (named column_name n cs))

-- a reference that may mean a column of the table means its first of that name
pub kind_own : (t : Table) (table : Option (List ℕ)) (n : List ℕ) → is_alias (Some t.name) table ≡ true
    → kind_of (scope_of t) table n ≡ option_map (λ c. c.kind) (named column_name n t.columns)
kind_own t None n own = column_alone t.name t.columns n
kind_own t (Some alias) n own = this_alias t.name t.columns alias n own

-- any other means none
pub kind_other : (t : Table) (table : Option (List ℕ)) (n : List ℕ) → is_alias (Some t.name) table ≡ false → kind_of (scope_of t) table n ≡ None
kind_other t None n other = absurd (cc)
kind_other t (Some alias) n other = other_alias t.name t.columns alias n other

-- and so of its place
pub place_own : (t : Table) (table : Option (List ℕ)) (n : List ℕ) → is_alias (Some t.name) table ≡ true
    → place_of (scope_of t) table n ≡ place_named column_name n t.columns
place_own t table n own =
    let same : (c : Column) → is_meant (Some t.name) c.name table n ≡ bytes_eq n c.name =
    λ c. ap (λ b. bytes_eq c.name n && b) own ∙ (and_true (bytes_eq c.name n) ∙ flipped c.name n) in
    position-map (λ c. is_meant c.0 c.1 table n) (λ (c : Column). (Some t.name, c.name, c.kind)) t.columns
    ∙ (λ i. position (λ c. same c i) t.columns)

past_all : (cs : List Column) → position_or_len (λ c. false) cs ≡ length cs
past_all [] = refl
past_all (c ∷ cs) = grind (arith, past_all cs)

at_none : (cs : List Column) → position (λ c. false) cs ≡ None
at_none cs = grind (arith, past_all cs)

pub place_other : (t : Table) (table : Option (List ℕ)) (n : List ℕ) → is_alias (Some t.name) table ≡ false → place_of (scope_of t) table n ≡ None
place_other t table n other =
    let none : (c : Column) → is_meant (Some t.name) c.name table n ≡ false =
    λ c. ap (λ b. bytes_eq c.name n && b) other ∙ and_false (bytes_eq c.name n) in
    position-map (λ c. is_meant c.0 c.1 table n) (λ (c : Column). (Some t.name, c.name, c.kind)) t.columns
    ∙ ((λ i. position (λ c. none c i) t.columns) ∙ at_none t.columns)
