-- Lists in the grammar.
use Rattle.std.specs.Prelude.{◌≡◌, ℕ, List, [], ◌∷◌, ◌++◌, ◌⊎◌}
use Rattle.sr_parse_grammar.specs.declared.symbol.Sign.TheVariants.{Comma, Open, Close}
use Rattle.sr_parse_grammar.specs.Symbols.{Symbols, IsName, IsSign}

-- one or more, with commas between them: `x {, x}`
pub data Listed {A : Type 0} (X : Symbols → A → Symbols → Type 0) : Symbols → List A → Symbols → Type 0 where
  one : {before after : Symbols} {x : A} → X before x after → Listed X before (x ∷ []) after
  more : {before middle next after : Symbols} {xs : List A} {x : A} → Listed X before xs middle → IsSign middle Comma next → X next x after → Listed X before (xs ++ x ∷ []) after

-- none or more, one behind the other: `{x}`
pub data Row {A : Type 0} (X : Symbols → A → Symbols → Type 0) : Symbols → List A → Symbols → Type 0 where
  none : {before : Symbols} → Row X before [] before
  then : {before middle after : Symbols} {xs : List A} {x : A} → Row X before xs middle → X middle x after → Row X before (xs ++ x ∷ []) after

-- names in parentheses
pub record IsNameList (before : Symbols) (names : List (List ℕ)) (after : Symbols) : Type 0 where
  pub inside : Symbols
  pub close : Symbols
  pub opened : IsSign before Open inside
  pub listed : Listed IsName inside names close
  pub closed : IsSign close Close after

-- [( n {, n} )]
abbrev pub IsNames : Symbols → List (List ℕ) → Symbols → Type 0
IsNames before names after = ((names ≡ []) × (before ≡ after)) ⊎ IsNameList before names after
