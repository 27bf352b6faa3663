-- Triggers, as they are written.
use Rattle.std.specs.Prelude.{◌≡◌, ℕ, ◌-◌, ◌<◌, List, [], ◌∷◌, ◌++◌, Option, ◌⊎◌, AllPairs}
use Rattle.sr_base.specs.declared.value.Kind.{Kind}
use Rattle.sr_ast.specs.Chains.{Chain}
use Rattle.sr_ast.specs.Actions.{chain_of}
use Rattle.sr_ast.specs.NormalForms.{Differ}
use Rattle.sr_ast.specs.declared.expr.Expr.{Expr}
use Rattle.sr_ast.specs.declared.action.Action.{Action}
use Rattle.sr_ast.specs.declared.action.Action.TheVariants.{Set, Insert, If, IfElse}
use Rattle.sr_ast.specs.declared.create.CreateTrigger.{CreateTrigger}
use Rattle.sr_ast.specs.declared.create.Image.{Image}
use Rattle.sr_ast.specs.declared.create.Image.TheVariants.{Old, New, Remote}
use Rattle.sr_ast.specs.declared.keyword.Keyword.{Keyword}
use Rattle.sr_ast.specs.declared.keyword.Keyword.TheVariants as key
use Rattle.sr_ast.specs.Terms.{deepest}
use Rattle.sr_parse_grammar.specs.declared.symbol.Sign.TheVariants as mark
use Rattle.sr_parse_grammar.specs.Symbols.{Symbols, word, IsName, IsWord, IsSign}
use Rattle.sr_parse_grammar.specs.Listing.{Listed, Row, IsNames}
use Rattle.sr_parse_grammar.specs.Expressions.{IsExpr, IsColumn}
use Rattle.sr_parse_grammar.specs.Writing.{IsRow}
use Rattle.sr_parse_grammar.specs.Catalog.{IsKind}

-- n . n = expr | n = expr
pub record IsAssigned (before : Symbols) (alias : Option (List ℕ)) (name : List ℕ) (e : Expr) (after : Symbols) : Type 0 where
  pub equal_ : Symbols
  pub value_ : Symbols
  pub target : IsColumn before alias name equal_
  pub equal : IsSign equal_ mark.Equal value_
  pub value : IsExpr value_ e after

-- INTO n [( n {, n} )] VALUES ( expr {, expr} )
pub record IsInserted (before : Symbols) (t : List ℕ) (columns : List (List ℕ)) (given : List Expr) (after : Symbols) : Type 0 where
  pub named : Symbols
  pub columned : Symbols
  pub valued : Symbols
  pub rowed : Symbols
  pub into : IsWord before key.Into named
  pub table : IsName named t columned
  pub names : IsNames columned columns valued
  pub values : IsWord valued key.Values rowed
  pub row : IsRow rowed given after

-- one action, or any number with a `;` behind each
pub data Amount : Type 0 where
  one : Amount
  many : Amount

-- Actions, where so many IFs may stand in one another.
pub data Acts : Amount → ℕ → Symbols → List Action → Symbols → Type 0 where
  none : {ifs : ℕ} {before : Symbols} → Acts many ifs before [] before
  then : {ifs : ℕ} {before middle next after : Symbols} {xs : List Action} {x : Action}
      → Acts many ifs before xs middle → Acts one ifs middle (x ∷ []) next → IsSign next mark.Semicolon after → Acts many ifs before (xs ++ x ∷ []) after
  set : {ifs : ℕ} {before next after : Symbols} {alias : Option (List ℕ)} {name : List ℕ} {e : Expr}
      → IsWord before key.Set next → IsAssigned next alias name e after → Acts one ifs before (Set alias name e ∷ []) after
  insert : {ifs : ℕ} {before next after : Symbols} {t : List ℕ} {columns : List (List ℕ)} {row : List Expr}
      → IsWord before key.Insert next → IsInserted next t columns row after → Acts one ifs before (Insert t columns row ∷ []) after
  when : {ifs : ℕ} {before test then_ taken end after : Symbols} {c : Expr} {xs : List Action}
      → 0 < ifs → IsWord before key.If test → IsExpr test c then_ → IsWord then_ key.Then taken → Acts many (ifs - 1) taken xs end
      → end ≡ word key.End ∷ word key.If ∷ after → Acts one ifs before (If c (chain_of xs) ∷ []) after
  choose : {ifs : ℕ} {before test then_ taken else_ other end after : Symbols} {c : Expr} {xs ys : List Action}
      → 0 < ifs → IsWord before key.If test → IsExpr test c then_ → IsWord then_ key.Then taken → Acts many (ifs - 1) taken xs else_
      → IsWord else_ key.Else other → Acts many (ifs - 1) other ys end
      → end ≡ word key.End ∷ word key.If ∷ after → Acts one ifs before (IfElse c (chain_of xs) (chain_of ys) ∷ []) after

-- {action ;}
pub record IsActions (ifs : ℕ) (before : Symbols) (chain : Chain) (after : Symbols) : Type 0 where
  pub actions : List Action
  pub is : chain ≡ chain_of actions
  pub acts : Acts many ifs before actions after

-- [OF n {, n}]
pub record IsOfList (before : Symbols) (names : List (List ℕ)) (after : Symbols) : Type 0 where
  pub next : Symbols
  pub of : IsWord before key.Of next
  pub listed : Listed IsName next names after

abbrev pub IsOf : Symbols → List (List ℕ) → Symbols → Type 0
IsOf before names after = ((names ≡ []) × (before ≡ after)) ⊎ IsOfList before names after

abbrev pub image_word : Image → Keyword
image_word Old = key.Old
image_word New = key.New
image_word Remote = key.Remote

-- (OLD | NEW | REMOTE) AS n
pub record IsAlias (before : Symbols) (a : Image × List ℕ) (after : Symbols) : Type 0 where
  pub next : Symbols
  pub image : before ≡ word (image_word a.0) ∷ word key.As ∷ next
  pub name : IsName next a.1 after

-- {(OLD | NEW | REMOTE) AS n}, each row and each name at most once
pub record AreAliases (before : Symbols) (aliases : List (Image × List ℕ)) (after : Symbols) : Type 0 where
  pub listed : Row IsAlias before aliases after
  pub apart : AllPairs Differ aliases

-- DECLARE n type ;
pub record IsVariable (before : Symbols) (v : List ℕ × Kind) (after : Symbols) : Type 0 where
  pub named : Symbols
  pub typed : Symbols
  pub ended : Symbols
  pub declare : IsWord before key.Declare named
  pub name : IsName named v.0 typed
  pub kind : IsKind typed v.1 ended
  pub semicolon : IsSign ended mark.Semicolon after

-- n RESOLVE UPDATE [OF n {, n}] ON n REFERENCING {(OLD | NEW | REMOTE) AS n} FOR EACH ROW BEGIN {DECLARE n type ;} {action ;} END
pub record IsTrigger (before : Symbols) (c : CreateTrigger) (after : Symbols) : Type 0 where
  pub resolve_ : Symbols
  pub of_ : Symbols
  pub on_ : Symbols
  pub table_ : Symbols
  pub referencing_ : Symbols
  pub aliases_ : Symbols
  pub for_ : Symbols
  pub variables_ : Symbols
  pub actions_ : Symbols
  pub end_ : Symbols
  pub name : IsName before c.name resolve_
  pub resolve : resolve_ ≡ word key.Resolve ∷ word key.Update ∷ of_
  pub columns : IsOf of_ c.columns on_
  pub on : IsWord on_ key.On table_
  pub table : IsName table_ c.table referencing_
  pub referencing : IsWord referencing_ key.Referencing aliases_
  pub aliases : AreAliases aliases_ c.aliases for_
  pub each : for_ ≡ word key.For ∷ word key.Each ∷ word key.Row ∷ word key.Begin ∷ variables_
  pub variables : Row IsVariable variables_ c.variables actions_
  pub actions : IsActions deepest actions_ c.actions end_
  pub end : IsWord end_ key.End after
