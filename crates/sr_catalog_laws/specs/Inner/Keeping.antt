-- What every catalog keeps that accepted statements have made.
use Rattle.std.specs.Prelude.{◌≡◌, ⊤, ℕ, true, false, List, map, Some, None}
use Rattle.std.specs.List.{AllByRecursion}
use Rattle.sr_ast.specs.Chains.{Chain}
use Rattle.sr_ast.specs.Chains.Chain.{done, set, insert, when, choose}
use Rattle.sr_ast.specs.Classes.{class_in, unknown_in}
use Rattle.sr_ast.specs.Exprs.{term_of}
use Rattle.sr_ast.specs.Uses.{gives_truth, is_plain}
use Rattle.sr_ast.specs.declared.create.CreateTrigger.{CreateTrigger}
use Rattle.sr_ast.specs.declared.expr.Expr.{Expr}
use Rattle.sr_exec_dml.specs.Statements.{table_named}
use Rattle.sr_ast.specs.Normal.{IsNoneOr}
use Rattle.sr_logform.specs.Rules.{AreDistinct}
use Rattle.sr_publish.specs.Inner.Laws.{HasKey, IsTheSource}
use Rattle.sr_catalog_schema.specs.Catalogs.{Lists}
use Rattle.sr_catalog_schema.specs.Expressions.{is_operator}
use Rattle.sr_catalog_schema.specs.Firsts.{has}
use Rattle.sr_catalog_schema.specs.Members.{has_column, key_names, publication_name, scope_of, table_name, trigger_name, user_name}
use Rattle.sr_catalog_schema.specs.Names.{named}
use Rattle.sr_catalog_schema.specs.declared.publication.Article.{Article}
use Rattle.sr_catalog_schema.specs.declared.publication.Publication.{Publication}
use Rattle.sr_catalog_schema.specs.declared.table.Table.{Table}
use Rattle.sr_catalog_schema.specs.declared.trigger.Trigger.{Trigger}
use Rattle.sr_catalog_triggers.specs.Triggers.{Part, absent_in_part, is_bad_part, trigger_of, trigger_scope, variable_name}
use Rattle.sr_catalog_triggers.specs.Triggers.Part.{assigned, inserted, tested}

-- ---- articles

-- a WHERE is a truth over the columns of the table, and has no arithmetic
abbrev pub IsCondition : Table → Expr → Type 0
IsCondition t e = (is_plain (term_of e) ≡ true) × (gives_truth (class_in (scope_of t) (term_of e)) ≡ true)

-- a SUBSCRIBE BY is a column of the table or a literal
abbrev pub IsSource : Table → Expr → Type 0
IsSource t e = (is_operator (term_of e) ≡ false) × (unknown_in (scope_of t) (term_of e) ≡ None)

-- an article is of a table that is there; its columns are the table's, none twice, those of the key among them; its WHERE and its SUBSCRIBE BY, where
-- there are some, are a condition and a source
pub record IsSoundArticle (tables : List Table) (a : Article) : Type 0 where
  pub table : Table
  pub there : named table_name a.table tables ≡ Some table
  pub columns : AllByRecursion (λ n. has_column table n ≡ true) a.columns
  pub distinct : AreDistinct a.columns
  pub key : AllByRecursion (λ n. has a.columns n ≡ true) (key_names table)
  pub condition : IsNoneOr (IsCondition table) a.condition
  pub by : IsNoneOr (IsSource table) a.by

abbrev pub AreSoundArticles : List Table → Publication → Type 0
AreSoundArticles tables p = AllByRecursion (IsSoundArticle tables) p.articles

-- ---- triggers

-- each part of a trigger's actions: each SET, each INSERT, and the condition of each IF
abbrev pub EachPart : (Part → Type 0) → Chain → Type 0
EachPart P done = ⊤
EachPart P (set a n v rest) = P (assigned a n v) × EachPart P rest
EachPart P (insert t cs vs rest) = P (inserted t cs vs) × EachPart P rest
EachPart P (when c taken rest) = P (tested c) × EachPart P taken × EachPart P rest
EachPart P (choose c taken other rest) = P (tested c) × EachPart P taken × EachPart P other × EachPart P rest

-- all that a part names is there, and it has no wrong target, count of values or class
abbrev pub IsTypedPart : List Table → CreateTrigger → Table → Part → Type 0
IsTypedPart tables g t part =
    (absent_in_part tables g.aliases (trigger_scope g t) part ≡ None) × (is_bad_part g tables t (trigger_scope g t) part ≡ false)

-- a trigger keeps the CREATE TRIGGER that made it: its table is there, the columns behind OF are the table's, none twice, no variable is declared
-- twice, and its actions are typed
pub record IsSoundTrigger (tables : List Table) (t : Trigger) : Type 0 where
  pub rule : CreateTrigger
  pub is : t ≡ trigger_of rule
  pub table : Table
  pub there : named table_name rule.table tables ≡ Some table
  pub columns : AllByRecursion (λ n. has_column table n ≡ true) rule.columns
  pub distinct : AreDistinct rule.columns
  pub variables : AreDistinct (map variable_name rule.variables)
  pub actions : EachPart (IsTypedPart tables rule table) rule.actions

-- ---- catalogs

-- no two things of a kind have one name; a table has its key; articles and triggers are sound; and a user has each table by one article at most of those
-- to which he has started subscriptions
pub record IsSoundCatalog (c : Lists) : Type 0 where
  pub users : AreDistinct (map user_name c.users)
  pub tables : AreDistinct (map table_name c.tables)
  pub publications : AreDistinct (map publication_name c.publications)
  pub triggers : AreDistinct (map trigger_name c.triggers)
  pub keys : (name : List ℕ) (t : Table) → table_named c name ≡ Some t → HasKey t
  pub articles : AllByRecursion (AreSoundArticles c.tables) c.publications
  pub actions : AllByRecursion (IsSoundTrigger c.tables) c.triggers
  pub sources : (user table : List ℕ) → AllByRecursion (IsTheSource c user table) c.subscriptions
