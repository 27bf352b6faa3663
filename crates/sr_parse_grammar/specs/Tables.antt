-- Tables, as they are written.
use Rattle.std.specs.Prelude.{◌≡◌, ℕ, Bool, true, false, List, [], ◌∷◌, ◌++◌, ◌⊎◌, if◌then◌else◌, ◌↔◌, IsTrue, Contains}
use Rattle.sr_ast.specs.declared.create.CreateTable.{CreateTable}
use Rattle.sr_ast.specs.declared.create.ColumnRule.{ColumnRule}
use Rattle.sr_ast.specs.declared.keyword.Keyword.TheVariants as kw
use Rattle.sr_parse_grammar.specs.declared.symbol.Sign.TheVariants as mark
use Rattle.sr_parse_grammar.specs.Symbols.{Symbols, word, sign, IsName, IsWord, IsSign}
use Rattle.sr_parse_grammar.specs.Listing.{Listed}
use Rattle.sr_parse_grammar.specs.Catalog.{IsKind}

-- {NOT NULL | NULL | PRIMARY KEY}, each at most once: which of them are there
pub data IsRules : Symbols → Bool → Bool → Bool → Symbols → Type 0 where
  none : {before : Symbols} → IsRules before false false false before
  not_null : {before middle after : Symbols} {null primary : Bool} → IsRules before false null primary middle → middle ≡ word kw.Not ∷ word kw.Null ∷ after → IsRules before true null primary after
  null : {before middle after : Symbols} {not_null primary : Bool} → IsRules before not_null false primary middle → IsWord middle kw.Null after → IsRules before not_null true primary after
  primary : {before middle after : Symbols} {not_null null : Bool} → IsRules before not_null null false middle → middle ≡ word kw.Primary ∷ word kw.Key ∷ after → IsRules before not_null null true after

-- n type {NOT NULL | NULL | PRIMARY KEY}: the column as written, and the key with it; where there is a key already, the column is none
pub record IsColumnRule (before : Symbols) (c : ColumnRule) (held key : List (List ℕ)) (after : Symbols) : Type 0 where
  pub typed : Symbols
  pub ruled : Symbols
  pub null : Bool
  pub primary : Bool
  pub name : IsName before c.name typed
  pub kind : IsKind typed c.kind ruled
  pub rules : IsRules ruled c.not_null null primary after
  pub is_key : key ≡ if primary then c.name ∷ [] else held
  pub single : primary ≡ true → held ≡ []

-- column {, column}, and the key that they name
pub data IsColumns : Symbols → List ColumnRule → List (List ℕ) → Symbols → Type 0 where
  one : {before after : Symbols} {c : ColumnRule} {key : List (List ℕ)} → IsColumnRule before c [] key after → IsColumns before (c ∷ []) key after
  more : {before middle next after : Symbols} {cs : List ColumnRule} {c : ColumnRule} {held key : List (List ℕ)}
      → IsColumns before cs held middle → IsSign middle mark.Comma next → IsColumnRule next c held key after → IsColumns before (cs ++ c ∷ []) key after

-- PRIMARY KEY ( n {, n} )
pub record IsKeyWords (before : Symbols) (key : List (List ℕ)) (after : Symbols) : Type 0 where
  pub names_ : Symbols
  pub close : Symbols
  pub words : before ≡ word kw.Primary ∷ word kw.Key ∷ sign mark.Open ∷ names_
  pub names : Listed IsName names_ key close
  pub closed : IsSign close mark.Close after

-- , PRIMARY KEY ( n {, n} )
abbrev pub IsKeyList : Symbols → List (List ℕ) → Symbols → Type 0
IsKeyList before key after = (next : Symbols) × IsSign before mark.Comma next × IsKeyWords next key after

-- column {, column} [, PRIMARY KEY ( n {, n} )]: a list names the key only where no column is the key
pub record IsKeyed (before : Symbols) (columns : List ColumnRule) (key : List (List ℕ)) (after : Symbols) : Type 0 where
  pub held : List (List ℕ)
  pub middle : Symbols
  pub listed : IsColumns before columns held middle
  pub keyed : ((key ≡ held) × (middle ≡ after)) ⊎ ((held ≡ []) × IsKeyList middle key after)

-- a column in the normal form: NOT NULL where it is written, and where it is of the key
pub record IsNormal (key : List (List ℕ)) (written column : ColumnRule) : Type 0 where
  pub name : column.name ≡ written.name
  pub kind : column.kind ≡ written.kind
  pub not_null : IsTrue column.not_null ↔ (IsTrue written.not_null ⊎ Contains key written.name)

-- columns, each in the normal form
abbrev pub AreNormal : List (List ℕ) → List ColumnRule → List ColumnRule → Type 0
AreNormal key [] [] = Unit {0}
AreNormal key [] (c ∷ columns) = ⊥
AreNormal key (w ∷ written) [] = ⊥
AreNormal key (w ∷ written) (c ∷ columns) = IsNormal key w c × AreNormal key written columns

-- n ( column {, column} [, PRIMARY KEY ( n {, n} )] )
pub record IsTable (before : Symbols) (c : CreateTable) (after : Symbols) : Type 0 where
  pub open_ : Symbols
  pub inside : Symbols
  pub close : Symbols
  pub written : List ColumnRule
  pub name : IsName before c.name open_
  pub opened : IsSign open_ mark.Open inside
  pub columns : IsKeyed inside written c.key close
  pub closed : IsSign close mark.Close after
  pub normal_form : AreNormal c.key written c.columns
