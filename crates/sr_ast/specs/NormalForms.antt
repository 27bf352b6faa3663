-- Statements in normal form: each statement that a script spells is one, and its printed text spells it.
use Rattle.std.specs.Prelude.{◌≡◌, ◌≢◌, ℕ, ◌+◌, ◌≤◌, max, ⊤, IsUtf8, List, length, Contains, IsTrue, AllPairs}
use Rattle.std.specs.List.{AllByRecursion}
use Rattle.sr_ast.specs.Chains.{Chain}
use Rattle.sr_ast.specs.Chains.Chain.{done, set, insert, when, choose}
use Rattle.sr_ast.specs.declared.expr.Expr.{Expr}
use Rattle.sr_ast.specs.declared.create.Image.{Image}
use Rattle.sr_ast.specs.declared.create.CreateTable.{CreateTable}
use Rattle.sr_ast.specs.declared.create.ColumnRule.{ColumnRule}
use Rattle.sr_ast.specs.declared.create.CreatePublication.{CreatePublication}
use Rattle.sr_ast.specs.declared.create.ArticleRule.{ArticleRule}
use Rattle.sr_ast.specs.declared.create.Grant.{Grant}
use Rattle.sr_ast.specs.declared.create.SubscriptionRule.{SubscriptionRule}
use Rattle.sr_ast.specs.declared.create.CreateTrigger.{CreateTrigger}
use Rattle.sr_ast.specs.declared.options.OptionRule.{OptionRule}
use Rattle.sr_ast.specs.declared.query.Dml.{Dml}
use Rattle.sr_ast.specs.declared.query.Dml.TheVariants as dml
use Rattle.sr_ast.specs.declared.query.Insert.{Insert}
use Rattle.sr_ast.specs.declared.query.Update.{Update}
use Rattle.sr_ast.specs.declared.query.Delete.{Delete}
use Rattle.sr_ast.specs.declared.query.Select.{Select}
use Rattle.sr_ast.specs.declared.query.Items.{Items}
use Rattle.sr_ast.specs.declared.query.Items.TheVariants.{All, Each}
use Rattle.sr_ast.specs.declared.query.Item.{Item}
use Rattle.sr_ast.specs.declared.query.Item.TheVariants as item
use Rattle.sr_ast.specs.declared.query.Source.{Source}
use Rattle.sr_ast.specs.declared.query.Join.{Join}
use Rattle.sr_ast.specs.declared.query.OrderBy.{OrderBy}
use Rattle.sr_base.specs.declared.value.Kind.{Kind}
use Rattle.sr_base.specs.declared.value.Value.{Value}
use Rattle.sr_ast.specs.declared.stmt.Passthrough.{Passthrough}
use Rattle.sr_ast.specs.declared.stmt.Stmt.{Stmt}
use Rattle.sr_ast.specs.declared.stmt.Stmt.TheVariants as stmt
use Rattle.sr_ast.specs.Normal.{IsPlain, IsNoneOr, IsSomeOf, IsNormalValue, IsNormalKind, IsPlainColumn, IsNormalDeep, IsNormalExpr}
use Rattle.sr_ast.specs.Options.{settled}
use Rattle.sr_ast.specs.Terms.{deepest}

-- ---- rows

pub record IsNormalInsert (i : Insert) : Type 0 where
  pub table : IsPlain i.table
  pub columns : AllByRecursion IsPlain i.columns
  pub rows : IsSomeOf (IsSomeOf IsNormalExpr) i.rows

abbrev pub IsNormalSet : List ℕ × Expr → Type 0
IsNormalSet s = IsPlain s.0 × IsNormalExpr s.1

pub record IsNormalUpdate (u : Update) : Type 0 where
  pub table : IsPlain u.table
  pub sets : IsSomeOf IsNormalSet u.sets
  pub condition : IsNoneOr IsNormalExpr u.condition

abbrev pub IsNormalDelete : Delete → Type 0
IsNormalDelete d = IsPlain d.table × IsNoneOr IsNormalExpr d.condition

abbrev pub IsNormalDml : Dml → Type 0
IsNormalDml (dml.Insert i) = IsNormalInsert i
IsNormalDml (dml.Update u) = IsNormalUpdate u
IsNormalDml (dml.Delete d) = IsNormalDelete d

abbrev pub IsNormalItem : Item → Type 0
IsNormalItem (item.Value e) = IsNormalExpr e
IsNormalItem item.Count = ⊤
IsNormalItem (item.Sum e) = IsNormalExpr e
IsNormalItem (item.Min e) = IsNormalExpr e
IsNormalItem (item.Max e) = IsNormalExpr e

abbrev pub AreNormalItems : Items → Type 0
AreNormalItems All = ⊤
AreNormalItems (Each items) = IsSomeOf IsNormalItem items

abbrev pub IsNormalSource : Source → Type 0
IsNormalSource s = IsPlain s.table × IsNoneOr IsPlain s.alias

abbrev pub IsNormalJoin : Join → Type 0
IsNormalJoin j = IsNormalSource j.source × IsNormalExpr j.condition

abbrev pub IsNormalOrder : OrderBy → Type 0
IsNormalOrder o = IsPlainColumn o.table o.column

-- at most 8 tables
pub record IsNormalSelect (s : Select) : Type 0 where
  pub items : AreNormalItems s.items
  pub source : IsNormalSource s.source
  pub joins : AllByRecursion IsNormalJoin s.joins
  pub few : length s.joins ≤ 7
  pub condition : IsNoneOr IsNormalExpr s.condition
  pub order : AllByRecursion IsNormalOrder s.order

-- ---- the catalog

-- a column of a table with a key: each of the key is NOT NULL
pub record IsNormalRule (key : List (List ℕ)) (c : ColumnRule) : Type 0 where
  pub name : IsPlain c.name
  pub kind : IsNormalKind c.kind
  pub not_null : Contains key c.name → IsTrue c.not_null

pub record IsNormalTable (c : CreateTable) : Type 0 where
  pub name : IsPlain c.name
  pub columns : IsSomeOf (IsNormalRule c.key) c.columns
  pub key : AllByRecursion IsPlain c.key

pub record IsNormalArticle (a : ArticleRule) : Type 0 where
  pub table : IsPlain a.table
  pub columns : AllByRecursion IsPlain a.columns
  pub condition : IsNoneOr IsNormalExpr a.condition
  pub by : IsNoneOr IsNormalExpr a.by

abbrev pub IsNormalPublication : CreatePublication → Type 0
IsNormalPublication p = IsPlain p.name × IsSomeOf IsNormalArticle p.articles

abbrev pub IsNormalGrant : Grant → Type 0
IsNormalGrant g = IsPlain g.user × IsNoneOr IsUtf8 g.address

pub record IsNormalSubscription (s : SubscriptionRule) : Type 0 where
  pub publication : IsPlain s.publication
  pub value : IsNoneOr IsNormalValue s.value
  pub user : IsPlain s.user

-- ---- options

-- a value that an option keeps as it is
abbrev pub IsSettledValue : Value → Type 0
IsSettledValue v = IsNormalValue v × (settled v ≡ v)

abbrev pub IsNormalOption : OptionRule → Type 0
IsNormalOption o = IsPlain o.name × IsSettledValue o.value

-- ---- triggers

-- an alias, and a variable
abbrev pub IsNormalAlias : Image × List ℕ → Type 0
IsNormalAlias a = IsPlain a.1

abbrev pub IsNormalVariable : List ℕ × Kind → Type 0
IsNormalVariable v = IsPlain v.0 × IsNormalKind v.1

-- actions
abbrev pub IsNormalChain : Chain → Type 0
IsNormalChain done = ⊤
IsNormalChain (set alias name v rest) = IsPlainColumn alias name × IsNormalDeep v × IsNormalChain rest
IsNormalChain (insert t columns row rest) = IsPlain t × AllByRecursion IsPlain columns × IsSomeOf IsNormalDeep row × IsNormalChain rest
IsNormalChain (when c taken rest) = IsNormalDeep c × IsNormalChain taken × IsNormalChain rest
IsNormalChain (choose c taken other rest) = IsNormalDeep c × IsNormalChain taken × IsNormalChain other × IsNormalChain rest

-- how many IFs stand in one another
abbrev pub ifs : Chain → ℕ
ifs done = 0
ifs (set alias name v rest) = ifs rest
ifs (insert t columns row rest) = ifs rest
ifs (when c taken rest) = max (ifs taken + 1) (ifs rest)
ifs (choose c taken other rest) = max (max (ifs taken) (ifs other) + 1) (ifs rest)

-- two aliases have a row and a name of their own each
abbrev pub Differ : Image × List ℕ → Image × List ℕ → Type 0
Differ a b = (a.0 ≢ b.0) × (a.1 ≢ b.1)

pub record IsNormalTrigger (c : CreateTrigger) : Type 0 where
  pub name : IsPlain c.name
  pub columns : AllByRecursion IsPlain c.columns
  pub table : IsPlain c.table
  pub aliases : AllByRecursion IsNormalAlias c.aliases
  pub apart : AllPairs Differ c.aliases
  pub variables : AllByRecursion IsNormalVariable c.variables
  pub actions : IsNormalChain c.actions
  pub few : ifs c.actions ≤ deepest

-- ---- all of them

pub record IsNormalPassthrough (p : Passthrough) : Type 0 where
  pub users : IsSomeOf IsPlain p.users

-- a statement as the grammar gives it
abbrev pub IsNormal : Stmt → Type 0
IsNormal (stmt.CreateTable c) = IsNormalTable c
IsNormal (stmt.DropTable n) = IsPlain n
IsNormal (stmt.CreatePublication c) = IsNormalPublication c
IsNormal (stmt.DropPublication n) = IsPlain n
IsNormal (stmt.GrantRemote g) = IsNormalGrant g
IsNormal (stmt.GrantConsolidate g) = IsNormalGrant g
IsNormal (stmt.CreateSubscription s) = IsNormalSubscription s
IsNormal (stmt.StartSubscription s) = IsNormalSubscription s
IsNormal (stmt.StopSubscription s) = IsNormalSubscription s
IsNormal (stmt.Synchronize s) = IsNormalSubscription s
IsNormal (stmt.DropSubscription s) = IsNormalSubscription s
IsNormal (stmt.CreateTrigger c) = IsNormalTrigger c
IsNormal (stmt.DropTrigger n) = IsPlain n
IsNormal (stmt.SetOption o) = IsNormalOption o
IsNormal (stmt.Dml d) = IsNormalDml d
IsNormal (stmt.Select s) = IsNormalSelect s
IsNormal stmt.Commit = ⊤
IsNormal stmt.Rollback = ⊤
IsNormal (stmt.Passthrough p) = IsNormalPassthrough p
IsNormal stmt.PassthroughStop = ⊤
