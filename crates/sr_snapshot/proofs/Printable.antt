-- A statement in normal form prints in UTF-8.
use Rattle.std.proofs.Common.{◌≡◌, ◌<◌, ◌^◌, ℕ, suc, Bool, true, false, ◌||◌, List, [], ◌∷◌, ◌++◌, Option, Some, None, IsUtf8, codes, refl, ℤ, pos, negsuc, FitsSigned, cond, arith, lit<}
use Rattle.std.proofs.lemmas.Bool.{and_parts}
use Rattle.std.proofs.lemmas.Bool.Decides.{nat_tests}
use Rattle.std.proofs.lemmas.Fmt.{IsAscii-decimal}
use Rattle.std.proofs.lemmas.Str.{IsUtf8-from_ascii, IsUtf8-append, IsUtf8-nil}
use Rattle.std.proofs.lemmas.Str.Ascii.{IsAscii-cons, IsAscii-nil}
use Rattle.std.specs.Fmt.{decimal, signed_decimal}
use Rattle.std.specs.Int.{w64}
use Rattle.std.specs.List.{list_all, AllByRecursion}
use Rattle.std.specs.Prelude.{nat_lt}
use Rattle.std.specs.Str.{IsAscii}
use Rattle.sr_ast.proofs.Utf8.{name_utf8, quoted_utf8, date_quoted_utf8}
use Rattle.sr_ast.specs.Chains.{Chain}
use Rattle.sr_ast.specs.Chains.Chain.{done, set, insert, when, choose}
use Rattle.sr_ast.specs.Exprs.{term_of}
use Rattle.sr_ast.specs.Layout.{words_if, column_rule_pieces, key_pieces, create_table_pieces, article_pieces, create_publication_pieces, text_pieces, grant_pieces, given_value_pieces, subscription_pieces, image_word, alias_pieces, variable_pieces, of_pieces, body_pieces, on_pieces, fired_pieces, create_trigger_pieces, set_option_pieces, row_of_exprs_pieces, insert_pieces, set_pieces, update_pieces, delete_pieces, dml_pieces, aggregate_pieces, item_pieces, items_pieces, source_pieces, join_pieces, order_pieces, ordered_pieces, select_pieces, passthrough_pieces, stmt_pieces, printed}
use Rattle.sr_ast.specs.Normal.{IsPlain, IsNoneOr, IsSomeOf, IsNormalValue, IsNormalKind, IsPlainColumn, IsNormalTerm, IsNormalDeep, IsNormalExpr}
use Rattle.sr_ast.specs.NormalForms.{IsNormalInsert, IsNormalSet, IsNormalUpdate, IsNormalDelete, IsNormalDml, IsNormalItem, AreNormalItems, IsNormalSource, IsNormalJoin, IsNormalOrder, IsNormalSelect, IsNormalRule, IsNormalTable, IsNormalArticle, IsNormalPublication, IsNormalGrant, IsNormalSubscription, IsNormalOption, IsNormalAlias, IsNormalVariable, IsNormalChain, IsNormalTrigger, IsNormal}
use Rattle.sr_ast.specs.Pages.{Piece, Print, blank, space, put, put_all, word, call_parenthesis, close_parenthesis, semicolon, comma, dash, listed, more_listed, in_row, in_parentheses, led}
use Rattle.sr_ast.specs.Printing.{name_pieces, value_pieces, kind_pieces, column_pieces, sign, is_operator, operand, unary_pieces, term_pieces, expr_pieces, names_pieces, row_pieces, chain_pieces}
use Rattle.sr_ast.specs.Terms.{Term}
use Rattle.sr_ast.specs.Terms.Term.{literal, column, unary, binary}
use Rattle.sr_ast.specs.declared.create.ArticleRule.{ArticleRule}
use Rattle.sr_ast.specs.declared.create.ColumnRule.{ColumnRule}
use Rattle.sr_ast.specs.declared.create.CreatePublication.{CreatePublication}
use Rattle.sr_ast.specs.declared.create.CreateTable.{CreateTable}
use Rattle.sr_ast.specs.declared.create.CreateTrigger.{CreateTrigger}
use Rattle.sr_ast.specs.declared.create.Grant.{Grant}
use Rattle.sr_ast.specs.declared.create.Image.{Image}
use Rattle.sr_ast.specs.declared.create.Image.TheVariants.{Old, New, Remote}
use Rattle.sr_ast.specs.declared.create.SubscriptionRule.{SubscriptionRule}
use Rattle.sr_ast.specs.declared.expr.Expr.{Expr}
use Rattle.sr_ast.specs.declared.operator.Binary.{Binary}
use Rattle.sr_ast.specs.declared.operator.Binary.TheVariants.{Or, And, Equal, Unequal, Less, AtMost, Greater, AtLeast, Add, Subtract, Multiply}
use Rattle.sr_ast.specs.declared.operator.Unary.{Unary}
use Rattle.sr_ast.specs.declared.operator.Unary.TheVariants.{Not, IsNull, IsNotNull, Negate}
use Rattle.sr_ast.specs.declared.query.Delete.{Delete}
use Rattle.sr_ast.specs.declared.query.Dml.{Dml}
use Rattle.sr_ast.specs.declared.query.Dml.TheVariants as dml
use Rattle.sr_ast.specs.declared.query.Insert.{Insert}
use Rattle.sr_ast.specs.declared.query.Item.{Item}
use Rattle.sr_ast.specs.declared.query.Item.TheVariants as item
use Rattle.sr_ast.specs.declared.query.Items.{Items}
use Rattle.sr_ast.specs.declared.query.Items.TheVariants.{All, Each}
use Rattle.sr_ast.specs.declared.query.Join.{Join}
use Rattle.sr_ast.specs.declared.query.OrderBy.{OrderBy}
use Rattle.sr_ast.specs.declared.query.Select.{Select}
use Rattle.sr_ast.specs.declared.query.Source.{Source}
use Rattle.sr_ast.specs.declared.query.Update.{Update}
use Rattle.sr_ast.specs.declared.stmt.Passthrough.{Passthrough}
use Rattle.sr_ast.specs.declared.stmt.Stmt.{Stmt}
use Rattle.sr_ast.specs.declared.stmt.Stmt.TheVariants as stmt
use Rattle.sr_base.specs.Fitting.{is_int}
use Rattle.sr_base.specs.declared.value.Kind.{Kind}
use Rattle.sr_base.specs.declared.value.Kind.TheVariants as kind
use Rattle.sr_base.specs.declared.value.Value.{Value}
use Rattle.sr_base.specs.declared.value.Value.TheVariants as value

-- ---- letters, digits and signs

in_ascii : (b : ℕ) → nat_lt b 128 ≡ true → b < 128
in_ascii b h = grind (arith, nat_tests)

are_ascii : (bytes : List ℕ) → list_all (λ b. nat_lt b 128) bytes ≡ true → IsAscii bytes
are_ascii [] h = IsAscii-nil
are_ascii (b ∷ bytes) h =
    let both = and_parts (nat_lt b 128) (list_all (λ x. nat_lt x 128) bytes) h in
    IsAscii-cons b bytes (in_ascii b both.0) (are_ascii bytes both.1)

letters : (bytes : List ℕ) → list_all (λ b. nat_lt b 128) bytes ≡ true → IsUtf8 bytes
letters bytes h = IsUtf8-from_ascii bytes (are_ascii bytes h)

-- ---- pieces, one after the other

abbrev AreUtf8 : List Piece → Type 0
AreUtf8 pieces = AllByRecursion (λ p. IsUtf8 p.text) pieces

abbrev Prints : {A : Type 0} → (A → List Piece) → (A → Type 0) → Type 0
Prints {A} f P = (x : A) → P x → AreUtf8 (f x)

space_utf8 : (tight : Bool) → IsUtf8 (space tight)
space_utf8 true = IsUtf8-nil
space_utf8 false = letters (32 ∷ []) refl

laid_utf8 : (print : Print) (pieces : List Piece) → IsUtf8 print.text → AreUtf8 pieces → IsUtf8 (put_all print pieces).text
laid_utf8 print [] is all = is
laid_utf8 print (p ∷ pieces) is all =
    laid_utf8 (put print p) pieces (IsUtf8-append print.text (space (print.tight || p.joins) ++ p.text) is (IsUtf8-append (space (print.tight || p.joins)) p.text (space_utf8 (print.tight || p.joins)) all.0)) all.1

both : (xs ys : List Piece) → AreUtf8 xs → AreUtf8 ys → AreUtf8 (xs ++ ys)
both [] ys one two = two
both (x ∷ xs) ys one two = (one.0, both xs ys one.1 two)

some_all : {A : Type 0} (P : A → Type 0) (xs : List A) → IsSomeOf P xs → AllByRecursion P xs
some_all P [] some = absurd some
some_all P (x ∷ xs) some = some

comma_utf8 : IsUtf8 (44 ∷ [])
comma_utf8 = letters (44 ∷ []) refl

more_all : {A : Type 0} (f : A → List Piece) (P : A → Type 0) (xs : List A) → Prints f P → AllByRecursion P xs → AreUtf8 (more_listed f xs)
more_all f P [] each all = tt
more_all f P (x ∷ xs) each all = (comma_utf8, both (f x) (more_listed f xs) (each x all.0) (more_all f P xs each all.1))

listed_all : {A : Type 0} (f : A → List Piece) (P : A → Type 0) (xs : List A) → Prints f P → AllByRecursion P xs → AreUtf8 (listed f xs)
listed_all f P [] each all = tt
listed_all f P (x ∷ xs) each all = both (f x) (more_listed f xs) (each x all.0) (more_all f P xs each all.1)

row_all : {A : Type 0} (f : A → List Piece) (P : A → Type 0) (xs : List A) → Prints f P → AllByRecursion P xs → AreUtf8 (in_row f xs)
row_all f P [] each all = tt
row_all f P (x ∷ xs) each all = both (f x) (in_row f xs) (each x all.0) (row_all f P xs each all.1)

inside : (pieces : List Piece) → AreUtf8 pieces → AreUtf8 (in_parentheses pieces)
inside pieces all = (letters (40 ∷ []) refl, both pieces (close_parenthesis ∷ []) all (letters (41 ∷ []) refl, tt))

behind : {A : Type 0} (words : List ℕ) (f : A → List Piece) (P : A → Type 0) (o : Option A) → IsUtf8 words → Prints f P → IsNoneOr P o → AreUtf8 (led words f o)
behind words f P None is each all = tt
behind words f P (Some x) is each all = (is, each x all)

-- ---- words, names, numbers, values

plain : (name : List ℕ) → IsPlain name → IsUtf8 name
plain name is = name_utf8 name is.written

name_all : Prints name_pieces IsPlain
name_all name is = (plain name is, tt)

number : (n : ℕ) → n < 2 ^ 64 → IsUtf8 (decimal n)
number n short = IsUtf8-from_ascii (decimal n) (IsAscii-decimal n short)

signed : (n : ℤ) → FitsSigned w64 n → IsUtf8 (signed_decimal n)
signed (pos n) fits = number n (omega (arith, fits))
signed (negsuc n) fits = IsUtf8-from_ascii (45 ∷ decimal (suc n)) (IsAscii-cons 45 (decimal (suc n)) (lit< tt) (IsAscii-decimal (suc n) (omega (arith, fits))))

value_all : Prints value_pieces IsNormalValue
value_all value.Null is = (letters (codes "NULL") refl, tt)
value_all (value.Int n) is = (signed n (grind (arith)), tt)
value_all (value.Big n) is = (signed n is.1, tt)
value_all (value.Str text) is = (quoted_utf8 text is, tt)
value_all (value.Date day) is = (letters (codes "DATE") refl, (date_quoted_utf8 day, tt))

kind_all : Prints kind_pieces IsNormalKind
kind_all kind.Int is = (letters (codes "INTEGER") refl, tt)
kind_all kind.Big is = (letters (codes "BIGINT") refl, tt)
kind_all (kind.Varchar n) is =
    (letters (codes "VARCHAR") refl, (letters (40 ∷ []) refl, (number n (omega (arith, is.1)), (letters (41 ∷ []) refl, tt))))
kind_all kind.Date is = (letters (codes "DATE") refl, tt)

-- ---- expressions

column_all : (table : Option (List ℕ)) (name : List ℕ) → IsPlainColumn table name → AreUtf8 (column_pieces table name)
column_all None name is = (plain name is.1, tt)
column_all (Some table) name is = (plain table is.0, (letters (46 ∷ []) refl, (plain name is.1, tt)))

sign_utf8 : (op : Binary) → IsUtf8 (sign op)
sign_utf8 op = elim op as (λ o. IsUtf8 (sign o)) [
  | Or ↦ letters (codes "OR") refl
  | And ↦ letters (codes "AND") refl
  | Equal ↦ letters (codes "=") refl
  | Unequal ↦ letters (codes "<>") refl
  | Less ↦ letters (codes "<") refl
  | AtMost ↦ letters (codes "<=") refl
  | Greater ↦ letters (codes ">") refl
  | AtLeast ↦ letters (codes ">=") refl
  | Add ↦ letters (codes "+") refl
  | Subtract ↦ letters (codes "-") refl
  | Multiply ↦ letters (codes "*") refl
]

operand_all : (term : Term) (pieces : List Piece) → AreUtf8 pieces → AreUtf8 (operand term pieces)
operand_all term pieces all = elim (is_operator term) as (λ b. AreUtf8 (cond b (in_parentheses pieces) pieces)) [
  | true ↦ inside pieces all
  | false ↦ all
]

unary_all : (op : Unary) (a : Term) (pieces : List Piece) → AreUtf8 pieces → AreUtf8 (unary_pieces op a pieces)
unary_all Not a pieces all = (letters (codes "NOT") refl, operand_all a pieces all)
unary_all IsNull a pieces all = both (operand a pieces) (word (codes "IS NULL") ∷ []) (operand_all a pieces all) (letters (codes "IS NULL") refl, tt)
unary_all IsNotNull a pieces all = both (operand a pieces) (word (codes "IS NOT NULL") ∷ []) (operand_all a pieces all) (letters (codes "IS NOT NULL") refl, tt)
unary_all Negate a pieces all = (letters (45 ∷ []) refl, inside pieces all)

term_all : Prints term_pieces IsNormalTerm
term_all (literal v) is = value_all v is
term_all (column t n) is = column_all t n is
term_all (unary op a) is = unary_all op a (term_pieces a) (term_all a is)
term_all (binary op a b) is =
    both (operand a (term_pieces a)) (word (sign op) ∷ operand b (term_pieces b)) (operand_all a (term_pieces a) (term_all a is.0)) (sign_utf8 op, operand_all b (term_pieces b) (term_all b is.1))

deep_all : Prints term_pieces IsNormalDeep
deep_all t is = term_all t is.0

expr_all : Prints expr_pieces IsNormalExpr
expr_all e is = term_all (term_of e) is.0

names_all : Prints names_pieces (AllByRecursion IsPlain)
names_all [] all = tt
names_all (n ∷ ns) all = inside (listed name_pieces (n ∷ ns)) (listed_all name_pieces IsPlain (n ∷ ns) name_all all)

-- ---- the catalog's statements

rule_all : (key : List (List ℕ)) → Prints column_rule_pieces (IsNormalRule key)
unfolding column_rule_pieces
rule_all key c is = (
  plain c.name is.name,
  both (kind_pieces c.kind) (words_if c.not_null (codes "NOT NULL")) (kind_all c.kind is.kind) (elim c.not_null as (λ b. AreUtf8 (words_if b (codes "NOT NULL"))) [
    | true ↦ (letters (codes "NOT NULL") refl, tt)
    | false ↦ tt
  ]),
)

key_all : Prints key_pieces (AllByRecursion IsPlain)
key_all [] all = tt
key_all (n ∷ ns) all = (comma_utf8, (letters (codes "PRIMARY KEY") refl, names_all (n ∷ ns) all))

table_all : Prints create_table_pieces IsNormalTable
unfolding create_table_pieces
table_all c is = (
  letters (codes "CREATE TABLE") refl,
  (
    plain c.name is.name,
    inside (listed column_rule_pieces c.columns ++ key_pieces c.key)
        (both (listed column_rule_pieces c.columns) (key_pieces c.key) (listed_all column_rule_pieces (IsNormalRule c.key) c.columns (rule_all c.key) (some_all (IsNormalRule c.key) c.columns is.columns)) (key_all c.key is.key)),
  ),
)

article_all : Prints article_pieces IsNormalArticle
unfolding article_pieces
article_all a is = (
  letters (codes "TABLE") refl,
  (
    plain a.table is.table,
    both (names_pieces a.columns) (led (codes "WHERE") expr_pieces a.condition ++ led (codes "SUBSCRIBE BY") expr_pieces a.by) (names_all a.columns is.columns)
        (both (led (codes "WHERE") expr_pieces a.condition) (led (codes "SUBSCRIBE BY") expr_pieces a.by)
        (behind (codes "WHERE") expr_pieces IsNormalExpr a.condition (letters (codes "WHERE") refl) expr_all is.condition)
        (behind (codes "SUBSCRIBE BY") expr_pieces IsNormalExpr a.by (letters (codes "SUBSCRIBE BY") refl) expr_all is.by)),
  ),
)

publication_all : Prints create_publication_pieces IsNormalPublication
unfolding create_publication_pieces
publication_all p is = (
  letters (codes "CREATE PUBLICATION") refl,
  (plain p.name is.0, inside (listed article_pieces p.articles) (listed_all article_pieces IsNormalArticle p.articles article_all (some_all IsNormalArticle p.articles is.1))),
)

text_all : Prints text_pieces IsUtf8
text_all text is = (quoted_utf8 text is, tt)

grant_all : Prints grant_pieces IsNormalGrant
unfolding grant_pieces
grant_all g is = (plain g.user is.0, behind (codes "TYPE FILE ADDRESS") text_pieces IsUtf8 g.address (letters (codes "TYPE FILE ADDRESS") refl) text_all is.1)

given_all : Prints given_value_pieces (IsNoneOr IsNormalValue)
given_all None is = tt
given_all (Some v) is = inside (value_pieces v) (value_all v is)

subscription_all : Prints subscription_pieces IsNormalSubscription
unfolding subscription_pieces
subscription_all r is = (
  plain r.publication is.publication,
  both (given_value_pieces r.value) (word (codes "FOR") ∷ word r.user ∷ []) (given_all r.value is.value) (letters (codes "FOR") refl, (plain r.user is.user, tt)),
)

option_all : Prints set_option_pieces IsNormalOption
unfolding set_option_pieces
option_all o is = (letters (codes "SET") refl, (letters (codes "OPTION") refl, (plain o.name is.0, (letters (codes "=") refl, value_all o.value is.1.0))))

-- ---- triggers

image_utf8 : (image : Image) → IsUtf8 (image_word image)
image_utf8 Old = letters (codes "OLD") refl
image_utf8 New = letters (codes "NEW") refl
image_utf8 Remote = letters (codes "REMOTE") refl

alias_all : Prints alias_pieces IsNormalAlias
unfolding alias_pieces
alias_all a is = (image_utf8 a.0, (letters (codes "AS") refl, (plain a.1 is, tt)))

semicolon_utf8 : IsUtf8 (59 ∷ [])
semicolon_utf8 = letters (59 ∷ []) refl

variable_all : Prints variable_pieces IsNormalVariable
unfolding variable_pieces
variable_all v is = (letters (codes "DECLARE") refl, (plain v.0 is.0, both (kind_pieces v.1) (semicolon ∷ []) (kind_all v.1 is.1) (semicolon_utf8, tt)))

ended : (pieces rest : List Piece) → AreUtf8 pieces → AreUtf8 rest → AreUtf8 (pieces ++ word (codes "END IF") ∷ semicolon ∷ rest)
ended pieces rest one two = both pieces (word (codes "END IF") ∷ semicolon ∷ rest) one (letters (codes "END IF") refl, (semicolon_utf8, two))

chain_all : Prints chain_pieces IsNormalChain
chain_all done is = tt
chain_all (set t n v rest) is = (
  letters (codes "SET") refl,
  both (column_pieces t n) (word (codes "=") ∷ (term_pieces v ++ semicolon ∷ chain_pieces rest)) (column_all t n is.0)
      (letters (codes "=") refl, both (term_pieces v) (semicolon ∷ chain_pieces rest) (deep_all v is.1) (semicolon_utf8, chain_all rest is.2)),
)
chain_all (insert t cs vs rest) is = (
  letters (codes "INSERT INTO") refl,
  (
    plain t is.0,
    both (names_pieces cs) (word (codes "VALUES") ∷ (row_pieces vs ++ semicolon ∷ chain_pieces rest)) (names_all cs is.1) (
      letters (codes "VALUES") refl,
      both (row_pieces vs) (semicolon ∷ chain_pieces rest) (inside (listed term_pieces vs) (listed_all term_pieces IsNormalDeep vs deep_all (some_all IsNormalDeep vs is.2))) (semicolon_utf8, chain_all rest is.3),
    ),
  ),
)
chain_all (when c taken rest) is = (
  letters (codes "IF") refl,
  both (term_pieces c) (word (codes "THEN") ∷ (chain_pieces taken ++ word (codes "END IF") ∷ semicolon ∷ chain_pieces rest)) (deep_all c is.0)
      (letters (codes "THEN") refl, ended (chain_pieces taken) (chain_pieces rest) (chain_all taken is.1) (chain_all rest is.2)),
)
chain_all (choose c taken other rest) is = (
  letters (codes "IF") refl,
  both (term_pieces c) (word (codes "THEN") ∷ (chain_pieces taken ++ word (codes "ELSE") ∷ (chain_pieces other ++ word (codes "END IF") ∷ semicolon ∷ chain_pieces rest))) (deep_all c is.0) (
    letters (codes "THEN") refl,
    both (chain_pieces taken) (word (codes "ELSE") ∷ (chain_pieces other ++ word (codes "END IF") ∷ semicolon ∷ chain_pieces rest)) (chain_all taken is.1)
        (letters (codes "ELSE") refl, ended (chain_pieces other) (chain_pieces rest) (chain_all other is.2) (chain_all rest is.3)),
  ),
)

of_all : Prints of_pieces (AllByRecursion IsPlain)
of_all [] all = tt
of_all (n ∷ ns) all = (letters (codes "OF") refl, listed_all name_pieces IsPlain (n ∷ ns) name_all all)

trigger_all : Prints create_trigger_pieces IsNormalTrigger
unfolding create_trigger_pieces fired_pieces on_pieces body_pieces
trigger_all c is =
    let body : AreUtf8 (body_pieces c) = (
      letters (codes "FOR EACH ROW BEGIN") refl,
      both (in_row variable_pieces c.variables) (chain_pieces c.actions ++ word (codes "END") ∷ []) (row_all variable_pieces IsNormalVariable c.variables variable_all is.variables)
          (both (chain_pieces c.actions) (word (codes "END") ∷ []) (chain_all c.actions is.actions) (letters (codes "END") refl, tt)),
    ) in
    let on : AreUtf8 (on_pieces c) = (
      letters (codes "ON") refl,
      (plain c.table is.table, (letters (codes "REFERENCING") refl, both (in_row alias_pieces c.aliases) (body_pieces c) (row_all alias_pieces IsNormalAlias c.aliases alias_all is.aliases) body)),
    ) in (
      letters (codes "CREATE TRIGGER") refl,
      (plain c.name is.name, (letters (codes "RESOLVE UPDATE") refl, both (of_pieces c.columns) (on_pieces c) (of_all c.columns is.columns) on)),
    )

-- ---- statements on rows

exprs_all : Prints row_of_exprs_pieces (IsSomeOf IsNormalExpr)
exprs_all row is = inside (listed expr_pieces row) (listed_all expr_pieces IsNormalExpr row expr_all (some_all IsNormalExpr row is))

set_all : Prints set_pieces IsNormalSet
unfolding set_pieces
set_all s is = (plain s.0 is.0, (letters (codes "=") refl, expr_all s.1 is.1))

where_all : (condition : Option Expr) → IsNoneOr IsNormalExpr condition → AreUtf8 (led (codes "WHERE") expr_pieces condition)
where_all condition is = behind (codes "WHERE") expr_pieces IsNormalExpr condition (letters (codes "WHERE") refl) expr_all is

insert_all : Prints insert_pieces IsNormalInsert
unfolding insert_pieces
insert_all i is = (
  letters (codes "INSERT INTO") refl,
  (
    plain i.table is.table,
    both (names_pieces i.columns) (word (codes "VALUES") ∷ listed row_of_exprs_pieces i.rows) (names_all i.columns is.columns)
        (letters (codes "VALUES") refl, listed_all row_of_exprs_pieces (IsSomeOf IsNormalExpr) i.rows exprs_all (some_all (IsSomeOf IsNormalExpr) i.rows is.rows)),
  ),
)

update_all : Prints update_pieces IsNormalUpdate
unfolding update_pieces
update_all u is = (
  letters (codes "UPDATE") refl,
  (
    plain u.table is.table,
    (letters (codes "SET") refl, both (listed set_pieces u.sets) (led (codes "WHERE") expr_pieces u.condition) (listed_all set_pieces IsNormalSet u.sets set_all (some_all IsNormalSet u.sets is.sets)) (where_all u.condition is.condition)),
  ),
)

delete_all : Prints delete_pieces IsNormalDelete
unfolding delete_pieces
delete_all d is = (letters (codes "DELETE FROM") refl, (plain d.table is.0, where_all d.condition is.1))

dml_all : Prints dml_pieces IsNormalDml
unfolding dml_pieces
dml_all (dml.Insert i) is = insert_all i is
dml_all (dml.Update u) is = update_all u is
dml_all (dml.Delete d) is = delete_all d is

aggregate_all : (aggregate : List ℕ) (e : Expr) → IsUtf8 aggregate → IsNormalExpr e → AreUtf8 (aggregate_pieces aggregate e)
aggregate_all aggregate e utf8 is = (utf8, (letters (40 ∷ []) refl, both (expr_pieces e) (close_parenthesis ∷ []) (expr_all e is) (letters (41 ∷ []) refl, tt)))

item_all : Prints item_pieces IsNormalItem
unfolding item_pieces
item_all (item.Value e) is = expr_all e is
item_all item.Count is = (letters (codes "COUNT") refl, (letters (40 ∷ []) refl, (letters (codes "*") refl, (letters (41 ∷ []) refl, tt))))
item_all (item.Sum e) is = aggregate_all (codes "SUM") e (letters (codes "SUM") refl) is
item_all (item.Min e) is = aggregate_all (codes "MIN") e (letters (codes "MIN") refl) is
item_all (item.Max e) is = aggregate_all (codes "MAX") e (letters (codes "MAX") refl) is

items_all : Prints items_pieces AreNormalItems
items_all All is = (letters (codes "*") refl, tt)
items_all (Each items) is = listed_all item_pieces IsNormalItem items item_all (some_all IsNormalItem items is)

source_all : Prints source_pieces IsNormalSource
unfolding source_pieces
source_all s is = (plain s.table is.0, behind (codes "AS") name_pieces IsPlain s.alias (letters (codes "AS") refl) name_all is.1)

join_all : Prints join_pieces IsNormalJoin
unfolding join_pieces
join_all j is = (
  letters (codes "JOIN") refl,
  both (source_pieces j.source) (word (codes "ON") ∷ expr_pieces j.condition) (source_all j.source is.0) (letters (codes "ON") refl, expr_all j.condition is.1),
)

order_all : Prints order_pieces IsNormalOrder
unfolding order_pieces
order_all o is = both (column_pieces o.table o.column) (words_if o.descending (codes "DESC")) (column_all o.table o.column is) (elim o.descending as (λ b. AreUtf8 (words_if b (codes "DESC"))) [
  | true ↦ (letters (codes "DESC") refl, tt)
  | false ↦ tt
])

ordered_all : Prints ordered_pieces (AllByRecursion IsNormalOrder)
ordered_all [] all = tt
ordered_all (o ∷ os) all = (letters (codes "ORDER BY") refl, listed_all order_pieces IsNormalOrder (o ∷ os) order_all all)

select_all : Prints select_pieces IsNormalSelect
unfolding select_pieces
select_all s is =
    let last : AreUtf8 (led (codes "WHERE") expr_pieces s.condition ++ ordered_pieces s.order) =
    both (led (codes "WHERE") expr_pieces s.condition) (ordered_pieces s.order) (where_all s.condition is.condition) (ordered_all s.order is.order) in
    let joined : AreUtf8 (in_row join_pieces s.joins ++ (led (codes "WHERE") expr_pieces s.condition ++ ordered_pieces s.order)) =
    both (in_row join_pieces s.joins) (led (codes "WHERE") expr_pieces s.condition ++ ordered_pieces s.order) (row_all join_pieces IsNormalJoin s.joins join_all is.joins) last in (
      letters (codes "SELECT") refl,
      both (items_pieces s.items) (word (codes "FROM") ∷ (source_pieces s.source ++ (in_row join_pieces s.joins ++ (led (codes "WHERE") expr_pieces s.condition ++ ordered_pieces s.order)))) (items_all s.items is.items) (
        letters (codes "FROM") refl,
        both (source_pieces s.source) (in_row join_pieces s.joins ++ (led (codes "WHERE") expr_pieces s.condition ++ ordered_pieces s.order)) (source_all s.source is.source) joined,
      ),
    )

only_all : (only : Bool) → AreUtf8 (words_if only (codes "ONLY"))
only_all true = (letters (codes "ONLY") refl, tt)
only_all false = tt

passed_all : (p : Passthrough) → IsSomeOf IsPlain p.users → AreUtf8 (passthrough_pieces p)
unfolding passthrough_pieces
passed_all p is = (
  letters (codes "PASSTHROUGH") refl,
  both (words_if p.only (codes "ONLY")) (word (codes "FOR") ∷ listed name_pieces p.users) (only_all p.only)
      (letters (codes "FOR") refl, listed_all name_pieces IsPlain p.users name_all (some_all IsPlain p.users is)),
)

-- ---- all of them

stmt_all : Prints stmt_pieces IsNormal
unfolding stmt_pieces
stmt_all (stmt.CreateTable c) is = table_all c is
stmt_all (stmt.DropTable n) is = (letters (codes "DROP TABLE") refl, (plain n is, tt))
stmt_all (stmt.CreatePublication c) is = publication_all c is
stmt_all (stmt.DropPublication n) is = (letters (codes "DROP PUBLICATION") refl, (plain n is, tt))
stmt_all (stmt.GrantRemote g) is = (letters (codes "GRANT REMOTE TO") refl, grant_all g is)
stmt_all (stmt.GrantConsolidate g) is = (letters (codes "GRANT CONSOLIDATE TO") refl, grant_all g is)
stmt_all (stmt.CreateSubscription r) is = (letters (codes "CREATE SUBSCRIPTION TO") refl, subscription_all r is)
stmt_all (stmt.StartSubscription r) is = (letters (codes "START SUBSCRIPTION TO") refl, subscription_all r is)
stmt_all (stmt.StopSubscription r) is = (letters (codes "STOP SUBSCRIPTION TO") refl, subscription_all r is)
stmt_all (stmt.Synchronize r) is = (letters (codes "SYNCHRONIZE SUBSCRIPTION TO") refl, subscription_all r is)
stmt_all (stmt.DropSubscription r) is = (letters (codes "DROP SUBSCRIPTION TO") refl, subscription_all r is)
stmt_all (stmt.CreateTrigger c) is = trigger_all c is
stmt_all (stmt.DropTrigger n) is = (letters (codes "DROP TRIGGER") refl, (plain n is, tt))
stmt_all (stmt.SetOption o) is = option_all o is
stmt_all (stmt.Dml d) is = dml_all d is
stmt_all (stmt.Select s) is = select_all s is
stmt_all stmt.Commit is = (letters (codes "COMMIT") refl, tt)
stmt_all stmt.Rollback is = (letters (codes "ROLLBACK") refl, tt)
stmt_all (stmt.Passthrough p) is = passed_all p is.users
stmt_all stmt.PassthroughStop is = (letters (codes "PASSTHROUGH STOP") refl, tt)

pub printed_utf8 : (s : Stmt) → IsNormal s → IsUtf8 (printed s)
printed_utf8 s is = laid_utf8 blank (stmt_pieces s) IsUtf8-nil (stmt_all s is)
