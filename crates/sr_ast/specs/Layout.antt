-- How each statement prints.
use Rattle.std.specs.Prelude.{ℕ, Bool, cond, List, [], ◌∷◌, ◌++◌, Option, Some, None, codes}
use Rattle.sr_base.specs.declared.value.Value.{Value}
use Rattle.sr_base.specs.declared.value.Kind.{Kind}
use Rattle.sr_ast.specs.Pages.{Piece, blank, put_all, word, call_parenthesis, close_parenthesis, comma, semicolon, listed, in_row, in_parentheses, led}
use Rattle.sr_ast.specs.Printing.{name_pieces, value_pieces, kind_pieces, column_pieces, names_pieces, quoted, expr_pieces, chain_pieces}
use Rattle.sr_ast.specs.declared.expr.Expr.{Expr}
use Rattle.sr_ast.specs.declared.create.Image.{Image}
use Rattle.sr_ast.specs.declared.create.Image.TheVariants.{Old, New, Remote}
use Rattle.sr_ast.specs.declared.create.CreateTable.{CreateTable}
use Rattle.sr_ast.specs.declared.create.ColumnRule.{ColumnRule}
use Rattle.sr_ast.specs.declared.create.CreatePublication.{CreatePublication}
use Rattle.sr_ast.specs.declared.create.ArticleRule.{ArticleRule}
use Rattle.sr_ast.specs.declared.create.Grant.{Grant}
use Rattle.sr_ast.specs.declared.create.SubscriptionRule.{SubscriptionRule}
use Rattle.sr_ast.specs.declared.create.CreateTrigger.{CreateTrigger}
use Rattle.sr_ast.specs.declared.options.OptionRule.{OptionRule}
use Rattle.sr_ast.specs.declared.query.Dml.{Dml}
use Rattle.sr_ast.specs.declared.query.Dml.TheVariants as dml
use Rattle.sr_ast.specs.declared.query.Insert.{Insert}
use Rattle.sr_ast.specs.declared.query.Update.{Update}
use Rattle.sr_ast.specs.declared.query.Delete.{Delete}
use Rattle.sr_ast.specs.declared.query.Select.{Select}
use Rattle.sr_ast.specs.declared.query.Items.{Items}
use Rattle.sr_ast.specs.declared.query.Items.TheVariants.{All, Each}
use Rattle.sr_ast.specs.declared.query.Item.{Item}
use Rattle.sr_ast.specs.declared.query.Item.TheVariants as item
use Rattle.sr_ast.specs.declared.query.Source.{Source}
use Rattle.sr_ast.specs.declared.query.Join.{Join}
use Rattle.sr_ast.specs.declared.query.OrderBy.{OrderBy}
use Rattle.sr_ast.specs.declared.stmt.Stmt.{Stmt}
use Rattle.sr_ast.specs.declared.stmt.Stmt.TheVariants as stmt
use Rattle.sr_ast.specs.declared.stmt.Passthrough.{Passthrough}

-- words where they are wanted
abbrev pub words_if : Bool → List ℕ → List Piece
words_if wanted words = cond wanted (word words ∷ []) []

-- a column of a table
unfoldable pub column_rule_pieces : ColumnRule → List Piece
column_rule_pieces c = word c.name ∷ (kind_pieces c.kind ++ words_if c.not_null (codes "NOT NULL"))

-- the key, last in a table
abbrev pub key_pieces : List (List ℕ) → List Piece
key_pieces [] = []
key_pieces (n ∷ ns) = comma ∷ word (codes "PRIMARY KEY") ∷ names_pieces (n ∷ ns)

unfoldable pub create_table_pieces : CreateTable → List Piece
create_table_pieces c = word (codes "CREATE TABLE") ∷ word c.name ∷ in_parentheses (listed column_rule_pieces c.columns ++ key_pieces c.key)

unfoldable pub article_pieces : ArticleRule → List Piece
article_pieces a = word (codes "TABLE") ∷ word a.table ∷ (names_pieces a.columns ++ (led (codes "WHERE") expr_pieces a.condition ++ led (codes "SUBSCRIBE BY") expr_pieces a.by))

unfoldable pub create_publication_pieces : CreatePublication → List Piece
create_publication_pieces c = word (codes "CREATE PUBLICATION") ∷ word c.name ∷ in_parentheses (listed article_pieces c.articles)

-- an address behind TYPE FILE ADDRESS
abbrev pub text_pieces : List ℕ → List Piece
text_pieces text = word (quoted text) ∷ []

unfoldable pub grant_pieces : Grant → List Piece
grant_pieces g = word g.user ∷ led (codes "TYPE FILE ADDRESS") text_pieces g.address

-- a subscription's value in parentheses, or nothing
abbrev pub given_value_pieces : Option Value → List Piece
given_value_pieces None = []
given_value_pieces (Some v) = in_parentheses (value_pieces v)

unfoldable pub subscription_pieces : SubscriptionRule → List Piece
subscription_pieces r = word r.publication ∷ (given_value_pieces r.value ++ word (codes "FOR") ∷ word r.user ∷ [])

abbrev pub image_word : Image → List ℕ
image_word Old = codes "OLD"
image_word New = codes "NEW"
image_word Remote = codes "REMOTE"

unfoldable pub alias_pieces : Image × List ℕ → List Piece
alias_pieces a = word (image_word a.0) ∷ word (codes "AS") ∷ word a.1 ∷ []

unfoldable pub variable_pieces : List ℕ × Kind → List Piece
variable_pieces v = word (codes "DECLARE") ∷ word v.0 ∷ (kind_pieces v.1 ++ semicolon ∷ [])

-- the columns of a trigger behind OF, or nothing
abbrev pub of_pieces : List (List ℕ) → List Piece
of_pieces [] = []
of_pieces (n ∷ ns) = word (codes "OF") ∷ listed name_pieces (n ∷ ns)

-- what a trigger does
unfoldable pub body_pieces : CreateTrigger → List Piece
body_pieces c = word (codes "FOR EACH ROW BEGIN") ∷ (in_row variable_pieces c.variables ++ (chain_pieces c.actions ++ word (codes "END") ∷ []))

-- a trigger from its table on
unfoldable pub on_pieces : CreateTrigger → List Piece
on_pieces c = word (codes "ON") ∷ word c.table ∷ word (codes "REFERENCING") ∷ (in_row alias_pieces c.aliases ++ body_pieces c)

-- a trigger from its columns on
unfoldable pub fired_pieces : CreateTrigger → List Piece
fired_pieces c = of_pieces c.columns ++ on_pieces c

unfoldable pub create_trigger_pieces : CreateTrigger → List Piece
create_trigger_pieces c = word (codes "CREATE TRIGGER") ∷ word c.name ∷ word (codes "RESOLVE UPDATE") ∷ fired_pieces c

unfoldable pub set_option_pieces : OptionRule → List Piece
set_option_pieces o = word (codes "SET") ∷ word (codes "OPTION") ∷ word o.name ∷ word (codes "=") ∷ value_pieces o.value

abbrev pub row_of_exprs_pieces : List Expr → List Piece
row_of_exprs_pieces row = in_parentheses (listed expr_pieces row)

unfoldable pub insert_pieces : Insert → List Piece
insert_pieces i = word (codes "INSERT INTO") ∷ word i.table ∷ (names_pieces i.columns ++ word (codes "VALUES") ∷ listed row_of_exprs_pieces i.rows)

unfoldable pub set_pieces : List ℕ × Expr → List Piece
set_pieces s = word s.0 ∷ word (codes "=") ∷ expr_pieces s.1

unfoldable pub update_pieces : Update → List Piece
update_pieces u = word (codes "UPDATE") ∷ word u.table ∷ word (codes "SET") ∷ (listed set_pieces u.sets ++ led (codes "WHERE") expr_pieces u.condition)

unfoldable pub delete_pieces : Delete → List Piece
delete_pieces d = word (codes "DELETE FROM") ∷ word d.table ∷ led (codes "WHERE") expr_pieces d.condition

unfoldable pub dml_pieces : Dml → List Piece
dml_pieces (dml.Insert i) = insert_pieces i
dml_pieces (dml.Update u) = update_pieces u
dml_pieces (dml.Delete d) = delete_pieces d

-- an aggregate and what it is of
abbrev pub aggregate_pieces : List ℕ → Expr → List Piece
aggregate_pieces aggregate e = word aggregate ∷ call_parenthesis ∷ (expr_pieces e ++ close_parenthesis ∷ [])

unfoldable pub item_pieces : Item → List Piece
item_pieces (item.Value e) = expr_pieces e
item_pieces item.Count = word (codes "COUNT") ∷ call_parenthesis ∷ word (codes "*") ∷ close_parenthesis ∷ []
item_pieces (item.Sum e) = aggregate_pieces (codes "SUM") e
item_pieces (item.Min e) = aggregate_pieces (codes "MIN") e
item_pieces (item.Max e) = aggregate_pieces (codes "MAX") e

abbrev pub items_pieces : Items → List Piece
items_pieces All = word (codes "*") ∷ []
items_pieces (Each items) = listed item_pieces items

unfoldable pub source_pieces : Source → List Piece
source_pieces s = word s.table ∷ led (codes "AS") name_pieces s.alias

unfoldable pub join_pieces : Join → List Piece
join_pieces j = word (codes "JOIN") ∷ (source_pieces j.source ++ word (codes "ON") ∷ expr_pieces j.condition)

unfoldable pub order_pieces : OrderBy → List Piece
order_pieces o = column_pieces o.table o.column ++ words_if o.descending (codes "DESC")

abbrev pub ordered_pieces : List OrderBy → List Piece
ordered_pieces [] = []
ordered_pieces (o ∷ os) = word (codes "ORDER BY") ∷ listed order_pieces (o ∷ os)

unfoldable pub select_pieces : Select → List Piece
select_pieces s =
    word (codes "SELECT") ∷ (items_pieces s.items ++ word (codes "FROM") ∷ (source_pieces s.source ++ (in_row join_pieces s.joins
    ++ (led (codes "WHERE") expr_pieces s.condition ++ ordered_pieces s.order))))

unfoldable pub passthrough_pieces : Passthrough → List Piece
passthrough_pieces p = word (codes "PASSTHROUGH") ∷ (words_if p.only (codes "ONLY") ++ word (codes "FOR") ∷ listed name_pieces p.users)

-- a statement, with no ; at its end
unfoldable pub stmt_pieces : Stmt → List Piece
stmt_pieces (stmt.CreateTable c) = create_table_pieces c
stmt_pieces (stmt.DropTable n) = word (codes "DROP TABLE") ∷ word n ∷ []
stmt_pieces (stmt.CreatePublication c) = create_publication_pieces c
stmt_pieces (stmt.DropPublication n) = word (codes "DROP PUBLICATION") ∷ word n ∷ []
stmt_pieces (stmt.GrantRemote g) = word (codes "GRANT REMOTE TO") ∷ grant_pieces g
stmt_pieces (stmt.GrantConsolidate g) = word (codes "GRANT CONSOLIDATE TO") ∷ grant_pieces g
stmt_pieces (stmt.CreateSubscription r) = word (codes "CREATE SUBSCRIPTION TO") ∷ subscription_pieces r
stmt_pieces (stmt.StartSubscription r) = word (codes "START SUBSCRIPTION TO") ∷ subscription_pieces r
stmt_pieces (stmt.StopSubscription r) = word (codes "STOP SUBSCRIPTION TO") ∷ subscription_pieces r
stmt_pieces (stmt.Synchronize r) = word (codes "SYNCHRONIZE SUBSCRIPTION TO") ∷ subscription_pieces r
stmt_pieces (stmt.DropSubscription r) = word (codes "DROP SUBSCRIPTION TO") ∷ subscription_pieces r
stmt_pieces (stmt.CreateTrigger c) = create_trigger_pieces c
stmt_pieces (stmt.DropTrigger n) = word (codes "DROP TRIGGER") ∷ word n ∷ []
stmt_pieces (stmt.SetOption o) = set_option_pieces o
stmt_pieces (stmt.Dml d) = dml_pieces d
stmt_pieces (stmt.Select s) = select_pieces s
stmt_pieces stmt.Commit = word (codes "COMMIT") ∷ []
stmt_pieces stmt.Rollback = word (codes "ROLLBACK") ∷ []
stmt_pieces (stmt.Passthrough p) = passthrough_pieces p
stmt_pieces stmt.PassthroughStop = word (codes "PASSTHROUGH STOP") ∷ []

-- the printed text of a statement
abbrev pub printed : Stmt → List ℕ
printed s = (put_all blank (stmt_pieces s)).text
