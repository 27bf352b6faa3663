-- Statements that read and change rows, as they are written.
use Rattle.std.specs.Prelude.{◌≡◌, ℕ, ◌≤◌, Bool, true, false, List, [], ◌∷◌, length, Option, Some, None, ◌⊎◌}
use Rattle.sr_ast.specs.declared.expr.Expr.{Expr}
use Rattle.sr_ast.specs.declared.query.Insert.{Insert}
use Rattle.sr_ast.specs.declared.query.Update.{Update}
use Rattle.sr_ast.specs.declared.query.Delete.{Delete}
use Rattle.sr_ast.specs.declared.query.Select.{Select}
use Rattle.sr_ast.specs.declared.query.Items.{Items}
use Rattle.sr_ast.specs.declared.query.Items.TheVariants.{All, Each}
use Rattle.sr_ast.specs.declared.query.Item.{Item}
use Rattle.sr_ast.specs.declared.query.Item.TheVariants as item
use Rattle.sr_ast.specs.declared.query.Source.{Source}
use Rattle.sr_ast.specs.declared.query.Join.{Join}
use Rattle.sr_ast.specs.declared.query.OrderBy.{OrderBy}
use Rattle.sr_ast.specs.declared.keyword.Keyword.TheVariants as key
use Rattle.sr_ast.specs.declared.keyword.Keyword.{Keyword}
use Rattle.sr_parse_grammar.specs.declared.symbol.Sign.TheVariants as mark
use Rattle.sr_parse_grammar.specs.Symbols.{Symbols, word, sign, IsName, IsWord, IsSign}
use Rattle.sr_parse_grammar.specs.Listing.{Listed, Row, IsNames}
use Rattle.sr_parse_grammar.specs.Expressions.{IsExpr, IsColumn}

-- a part behind a key word, or nothing
abbrev pub IsLed : {A : Type 0} → Keyword → (Symbols → A → Symbols → Type 0) → Symbols → Option A → Symbols → Type 0
IsLed k X before None after = before ≡ after
IsLed k X before (Some x) after = (next : Symbols) × IsWord before k next × X next x after

-- [WHERE expr]
abbrev pub IsCondition : Symbols → Option Expr → Symbols → Type 0
IsCondition = IsLed key.Where IsExpr

-- ( expr {, expr} )
pub record IsRow (before : Symbols) (row : List Expr) (after : Symbols) : Type 0 where
  pub inside : Symbols
  pub close : Symbols
  pub opened : IsSign before mark.Open inside
  pub values : Listed IsExpr inside row close
  pub closed : IsSign close mark.Close after

-- INTO n [( n {, n} )] VALUES row {, row}
pub record IsInsert (before : Symbols) (i : Insert) (after : Symbols) : Type 0 where
  pub named : Symbols
  pub columned : Symbols
  pub valued : Symbols
  pub rowed : Symbols
  pub into : IsWord before key.Into named
  pub table : IsName named i.table columned
  pub columns : IsNames columned i.columns valued
  pub values : IsWord valued key.Values rowed
  pub rows : Listed IsRow rowed i.rows after

-- n = expr
pub record IsSet (before : Symbols) (s : List ℕ × Expr) (after : Symbols) : Type 0 where
  pub named : Symbols
  pub valued : Symbols
  pub name : IsName before s.0 named
  pub equal : IsSign named mark.Equal valued
  pub value : IsExpr valued s.1 after

-- n SET n = expr {, n = expr} [WHERE expr]
pub record IsUpdate (before : Symbols) (u : Update) (after : Symbols) : Type 0 where
  pub named : Symbols
  pub sets : Symbols
  pub where_ : Symbols
  pub table : IsName before u.table named
  pub set : IsWord named key.Set sets
  pub values : Listed IsSet sets u.sets where_
  pub condition : IsCondition where_ u.condition after

-- FROM n [WHERE expr]
pub record IsDelete (before : Symbols) (d : Delete) (after : Symbols) : Type 0 where
  pub named : Symbols
  pub where_ : Symbols
  pub from : IsWord before key.From named
  pub table : IsName named d.table where_
  pub condition : IsCondition where_ d.condition after

-- ( expr )
pub record IsAggregated (before : Symbols) (e : Expr) (after : Symbols) : Type 0 where
  pub inside : Symbols
  pub close : Symbols
  pub opened : IsSign before mark.Open inside
  pub value : IsExpr inside e close
  pub closed : IsSign close mark.Close after

-- an aggregate and what it is of
abbrev pub IsAggregate : Keyword → Symbols → Expr → Symbols → Type 0
IsAggregate k before e after = (next : Symbols) × IsWord before k next × IsAggregated next e after

-- expr | COUNT ( * ) | SUM ( expr ) | MIN ( expr ) | MAX ( expr )
abbrev pub IsItem : Symbols → Item → Symbols → Type 0
IsItem before (item.Value e) after = IsExpr before e after
IsItem before item.Count after = before ≡ word key.Count ∷ sign mark.Open ∷ sign mark.Times ∷ sign mark.Close ∷ after
IsItem before (item.Sum e) after = IsAggregate key.Sum before e after
IsItem before (item.Min e) after = IsAggregate key.Min before e after
IsItem before (item.Max e) after = IsAggregate key.Max before e after

-- * | item {, item}
abbrev pub IsItems : Symbols → Items → Symbols → Type 0
IsItems before All after = IsSign before mark.Times after
IsItems before (Each items) after = Listed IsItem before items after

-- n [AS n]
pub record IsSource (before : Symbols) (s : Source) (after : Symbols) : Type 0 where
  pub named : Symbols
  pub table : IsName before s.table named
  pub alias : IsLed key.As IsName named s.alias after

-- [INNER] JOIN
abbrev pub IsJoinWord : Symbols → Symbols → Type 0
IsJoinWord before after = IsWord before key.Join after ⊎ (before ≡ word key.Inner ∷ word key.Join ∷ after)

-- [INNER] JOIN source ON expr
pub record IsJoin (before : Symbols) (j : Join) (after : Symbols) : Type 0 where
  pub joined : Symbols
  pub on : Symbols
  pub condition : Symbols
  pub join : IsJoinWord before joined
  pub source : IsSource joined j.source on
  pub behind : IsWord on key.On condition
  pub test : IsExpr condition j.condition after

-- a column that orders, with [ASC | DESC]
abbrev pub IsDirection : Symbols → Bool → Symbols → Type 0
IsDirection before true after = IsWord before key.Desc after
IsDirection before false after = (before ≡ after) ⊎ IsWord before key.Asc after

pub record IsOrder (before : Symbols) (o : OrderBy) (after : Symbols) : Type 0 where
  pub directed : Symbols
  pub column : IsColumn before o.table o.column directed
  pub direction : IsDirection directed o.descending after

-- ORDER BY ref [ASC | DESC] {, ref [ASC | DESC]}
pub record IsOrderList (before : Symbols) (order : List OrderBy) (after : Symbols) : Type 0 where
  pub next : Symbols
  pub order_by : before ≡ word key.Order ∷ word key.By ∷ next
  pub listed : Listed IsOrder next order after

-- [ORDER BY ref [ASC | DESC] {, ref [ASC | DESC]}]
abbrev pub IsOrdering : Symbols → List OrderBy → Symbols → Type 0
IsOrdering before order after = ((order ≡ []) × (before ≡ after)) ⊎ IsOrderList before order after

-- (* | item {, item}) FROM source {[INNER] JOIN source ON expr} [WHERE expr] [ORDER BY ..], of at most 8 tables
pub record IsSelect (before : Symbols) (s : Select) (after : Symbols) : Type 0 where
  pub from : Symbols
  pub sources : Symbols
  pub joins : Symbols
  pub where_ : Symbols
  pub ordered : Symbols
  pub items : IsItems before s.items from
  pub behind : IsWord from key.From sources
  pub source : IsSource sources s.source joins
  pub joined : Row IsJoin joins s.joins where_
  pub condition : IsCondition where_ s.condition ordered
  pub order : IsOrdering ordered s.order after
  pub few : length s.joins ≤ 7
