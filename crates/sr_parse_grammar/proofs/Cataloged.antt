-- Statements on the catalog in print spell themselves.
use Rattle.std.proofs.Common.{◌≡◌, ℕ, ◌^◌, ◌<◌, Bool, true, false, List, [], ◌∷◌, ◌++◌, Option, Some, None, refl, sym, ◌∙◌, inl, inr, ◌⊎◌, codes, decimal, pos, arith, Contains, IsTrue}
use Rattle.std.specs.List.{AllByRecursion}
use Rattle.sr_base.specs.declared.value.Value.{Value}
use Rattle.sr_base.specs.declared.value.Kind.{Kind}
use Rattle.sr_base.specs.declared.value.Kind.TheVariants as kind
use Rattle.sr_ast.specs.Pages.{word, listed, led, in_parentheses}
use Rattle.sr_ast.specs.Printing.{name_pieces, names_pieces, kind_pieces, value_pieces, expr_pieces}
use Rattle.sr_ast.specs.Layout.{words_if, column_rule_pieces, key_pieces, create_table_pieces, article_pieces, create_publication_pieces, given_value_pieces, subscription_pieces}
use Rattle.sr_ast.specs.declared.expr.Expr.{Expr}
use Rattle.sr_ast.specs.declared.create.CreateTable.{CreateTable}
use Rattle.sr_ast.specs.declared.create.ColumnRule.{ColumnRule}
use Rattle.sr_ast.specs.declared.create.CreatePublication.{CreatePublication}
use Rattle.sr_ast.specs.declared.create.ArticleRule.{ArticleRule}
use Rattle.sr_ast.specs.declared.create.SubscriptionRule.{SubscriptionRule}
use Rattle.sr_ast.specs.declared.keyword.Keyword.{Keyword}
use Rattle.sr_ast.specs.declared.keyword.Keyword.TheVariants as key
use Rattle.sr_parse_grammar.specs.declared.symbol.Sign.TheVariants as mark
use Rattle.sr_parse_grammar.specs.declared.symbol.Symbol.{Symbol}
use Rattle.sr_parse_grammar.specs.declared.symbol.Symbol.TheVariants as symbol
use Rattle.sr_parse_grammar.specs.Symbols.{Symbols, IsName, word as key_symbol, sign}
use Rattle.sr_parse_grammar.specs.Listing.{Listed, IsNames}
use Rattle.sr_parse_grammar.specs.Listing.Listed.{one as list_one, more as list_more}
use Rattle.sr_parse_grammar.specs.Writing.{IsCondition}
use Rattle.sr_parse_grammar.specs.Catalog.{IsKind, IsSubscribed, IsArticle, IsPublication, IsSigned, IsGiven, IsSubscription}
use Rattle.sr_parse_grammar.specs.Tables.{IsRules, IsColumnRule, IsColumns, IsKeyList, IsKeyed, IsTable, AreNormal}
use Rattle.sr_parse_grammar.specs.Tables.IsRules.{none as no_rule, not_null}
use Rattle.sr_parse_grammar.specs.Tables.IsColumns.{one, more}
use Rattle.sr_parse_grammar.specs.Scripts.{IsBehind}
use Rattle.sr_parse_grammar.specs.Inner.Scripts.{IsBehindTwo}
use Rattle.sr_ast.specs.Normal.{IsNoneOr, IsPlain, IsNormalValue, IsNormalKind, IsNormalExpr}
use Rattle.sr_ast.specs.NormalForms.{IsNormalRule, IsNormalTable, IsNormalArticle, IsNormalPublication, IsNormalSubscription}
use Rattle.sr_parse_grammar.proofs.Saying.{Spelt, word_says, phrase_says, phrase, call_parenthesis_says, close_parenthesis_says, comma_says}
use Rattle.sr_parse_grammar.proofs.Listed.{listed_spelt, enclosed, all_of}
use Rattle.sr_parse_grammar.proofs.Naming.{name_spelt, names_spelt}
use Rattle.sr_parse_grammar.proofs.Valued.{number_lexeme}
use Rattle.sr_parse_grammar.proofs.Signed.{signed_spelt}
use Rattle.sr_parse_grammar.proofs.Termed.{expr_spelt}
use Rattle.sr_parse_grammar.proofs.Rowed.{ahead, condition_spelt}

-- ---- tables

pub kind_spelt : (k : Kind) → IsNormalKind k → Spelt IsKind k (kind_pieces k)
kind_spelt kind.Int p ps after h = (key_symbol key.Integer ∷ after, phrase_says (codes "INTEGER") key.Integer [] refl h, inl refl)
kind_spelt kind.Big p ps after h = (key_symbol key.Bigint ∷ after, phrase_says (codes "BIGINT") key.Bigint [] refl h, refl)
kind_spelt kind.Date p ps after h = (key_symbol key.Date ∷ after, phrase_says (codes "DATE") key.Date [] refl h, refl)
kind_spelt (kind.Varchar n) p ps after h =
    let small : n < 2 ^ 63 = omega (arith, p.1) in
    let number : Symbol = symbol.Number (pos n) in
    let inside : Symbols = number ∷ sign mark.Close ∷ after in (
      key_symbol key.Varchar ∷ sign mark.Open ∷ inside,
      phrase_says (codes "VARCHAR") key.Varchar [] refl (call_parenthesis_says (word_says (decimal n) number (number_lexeme n small) (close_parenthesis_says h))),
      record { inside = inside; close = sign mark.Close ∷ after; opened = refl; length = record { number = refl; least = p.0; most = p.1 }; closed = refl },
    )

rules_spelt : (n : Bool) → Spelt (λ before n after. IsRules before n false false after) n (words_if n (codes "NOT NULL"))
rules_spelt true ps after h =
    (key_symbol key.Not ∷ key_symbol key.Null ∷ after, phrase_says (codes "NOT NULL") key.Not (key.Null ∷ []) refl h, not_null no_rule refl)
rules_spelt false ps after h = (after, h, no_rule)

-- a column, where none is the key
abbrev IsPlainRule : Symbols → ColumnRule → Symbols → Type 0
IsPlainRule before c after = IsColumnRule before c [] [] after

rule_spelt : (names : List (List ℕ)) (c : ColumnRule) → IsNormalRule names c → Spelt IsPlainRule c (column_rule_pieces c)
unfolding column_rule_pieces
rule_spelt names c p ps after h =
    let r = rules_spelt c.not_null ps after h in
    let k = ahead IsKind c.kind (kind_pieces c.kind) (kind_spelt c.kind p.kind) (words_if c.not_null (codes "NOT NULL")) ps r.0 r.1 in
    let n = name_spelt c.name p.name ((kind_pieces c.kind ++ words_if c.not_null (codes "NOT NULL")) ++ ps) k.0 k.1 in
    (n.0, n.1, record { typed = k.0; ruled = r.0; null = false; primary = false; name = n.2; kind = k.2; rules = r.2; is_key = refl; single = λ e. absurd cc })

columns_of : {before after : Symbols} {cs : List ColumnRule} → Listed IsPlainRule before cs after → IsColumns before cs [] after
columns_of (list_one h) = one h
columns_of (list_more l c h) = more (columns_of l) c h

-- the key, last in a table
abbrev IsKeyPart : Symbols → List (List ℕ) → Symbols → Type 0
IsKeyPart before names after = ((names ≡ []) × (before ≡ after)) ⊎ IsKeyList before names after

key_spelt : (names : List (List ℕ)) → AllByRecursion IsPlain names → Spelt IsKeyPart names (key_pieces names)
key_spelt [] p ps after h = (after, h, inl (refl, refl))
key_spelt (n ∷ ns) p ps after h =
    let e = enclosed (Listed IsName) (n ∷ ns) (listed name_pieces (n ∷ ns)) (listed_spelt IsName IsPlain name_pieces name_spelt (n ∷ ns) p) ps after h in
    let words : Symbols = key_symbol key.Primary ∷ key_symbol key.Key ∷ sign mark.Open ∷ e.inside in (
      sign mark.Comma ∷ words,
      comma_says (phrase_says (codes "PRIMARY KEY") key.Primary (key.Key ∷ []) refl e.says),
      inr (words, refl, record { names_ = e.inside; close = e.close; words = refl; names = e.is; closed = e.closed }),
    )

key_part : (names held : List (List ℕ)) {before after : Symbols} → held ≡ [] → IsKeyPart before names after → ((names ≡ held) × (before ≡ after)) ⊎ ((held ≡ []) × IsKeyList before names after)
key_part names held e (inl (n, b)) = inl (n ∙ sym e, b)
key_part names held e (inr k) = inr (e, k)

keyed_spelt : (c : CreateTable) → IsNormalTable c → Spelt (λ before cs after. IsKeyed before cs c.key after) c.columns (listed column_rule_pieces c.columns ++ key_pieces c.key)
keyed_spelt c p ps after h =
    let k = key_spelt c.key p.key ps after h in
    let l = ahead (Listed IsPlainRule) c.columns (listed column_rule_pieces c.columns) (listed_spelt IsPlainRule (IsNormalRule c.key) column_rule_pieces (rule_spelt c.key) c.columns p.columns) (key_pieces c.key) ps k.0 k.1 in
    (l.0, l.1, record { held = []; middle = k.0; listed = columns_of l.2; keyed = key_part c.key [] refl k.2 })

-- a table prints in normal form
given_normal : (names : List (List ℕ)) (c : ColumnRule) → IsNormalRule names c → IsTrue c.not_null ⊎ Contains names c.name → IsTrue c.not_null
given_normal names c p (inl h) = h
given_normal names c p (inr h) = p.not_null h

all_normal : (names : List (List ℕ)) (cs : List ColumnRule) → AllByRecursion (IsNormalRule names) cs → AreNormal names cs cs
all_normal names [] p = tt
all_normal names (c ∷ cs) p = (record { name = refl; kind = refl; not_null = (λ h. inl h, given_normal names c p.0) }, all_normal names cs p.1)

pub table_spelt : (c : CreateTable) → IsNormalTable c → Spelt (IsBehindTwo key.Create key.Table IsTable) c (create_table_pieces c)
unfolding create_table_pieces
table_spelt c p ps after h =
    let body = listed column_rule_pieces c.columns ++ key_pieces c.key in
    let e = enclosed (λ before cs after. IsKeyed before cs c.key after) c.columns body (keyed_spelt c p) ps after h in
    let n = name_spelt c.name p.name (in_parentheses body ++ ps) (sign mark.Open ∷ e.inside) e.says in (
      key_symbol key.Create ∷ key_symbol key.Table ∷ n.0,
      phrase_says (codes "CREATE TABLE") key.Create (key.Table ∷ []) refl n.1,
      (
        n.0,
        refl,
        record {
          open_ = sign mark.Open ∷ e.inside;
          inside = e.inside;
          close = e.close;
          written = c.columns;
          name = n.2;
          opened = refl;
          columns = e.is;
          closed = e.closed;
          normal_form = all_normal c.key c.columns (all_of (IsNormalRule c.key) c.columns p.columns);
        },
      ),
    )

-- ---- publications

subscribed_spelt : (by : Option Expr) → IsNoneOr IsNormalExpr by → Spelt IsSubscribed by (led (codes "SUBSCRIBE BY") expr_pieces by)
subscribed_spelt None p ps after h = (after, h, refl)
subscribed_spelt (Some e) p ps after h =
    let x = expr_spelt e p ps after h in
    (key_symbol key.Subscribe ∷ key_symbol key.By ∷ x.0, phrase_says (codes "SUBSCRIBE BY") key.Subscribe (key.By ∷ []) refl x.1, (x.0, refl, x.2))

article_spelt : (a : ArticleRule) → IsNormalArticle a → Spelt IsArticle a (article_pieces a)
unfolding article_pieces
article_spelt a p ps after h =
    let by = led (codes "SUBSCRIBE BY") expr_pieces a.by in
    let where_ = led (codes "WHERE") expr_pieces a.condition in
    let b = subscribed_spelt a.by p.by ps after h in
    let c = ahead IsCondition a.condition where_ (condition_spelt a.condition p.condition) by ps b.0 b.1 in
    let n = ahead IsNames a.columns (names_pieces a.columns) (names_spelt a.columns p.columns) (where_ ++ by) ps c.0 c.1 in
    let t = name_spelt a.table p.table ((names_pieces a.columns ++ (where_ ++ by)) ++ ps) n.0 n.1 in (
      key_symbol key.Table ∷ t.0,
      phrase_says (codes "TABLE") key.Table [] refl t.1,
      record { named = t.0; columned = n.0; where_ = c.0; subscribed = b.0; opening = refl; table = t.2; columns = n.2; condition = c.2; by = b.2 },
    )

pub publication_spelt : (c : CreatePublication) → IsNormalPublication c → Spelt (IsBehindTwo key.Create key.Publication IsPublication) c (create_publication_pieces c)
unfolding create_publication_pieces
publication_spelt c p ps after h =
    let body = listed article_pieces c.articles in
    let e = enclosed (Listed IsArticle) c.articles body (listed_spelt IsArticle IsNormalArticle article_pieces article_spelt c.articles p.1) ps after h in
    let n = name_spelt c.name p.0 (in_parentheses body ++ ps) (sign mark.Open ∷ e.inside) e.says in (
      key_symbol key.Create ∷ key_symbol key.Publication ∷ n.0,
      phrase_says (codes "CREATE PUBLICATION") key.Create (key.Publication ∷ []) refl n.1,
      (n.0, refl, record { open_ = sign mark.Open ∷ e.inside; inside = e.inside; close = e.close; name = n.2; opened = refl; articles = e.is; closed = e.closed }),
    )

-- ---- subscriptions

given_spelt : (v : Option Value) → IsNoneOr IsNormalValue v → Spelt IsGiven v (given_value_pieces v)
given_spelt None p ps after h = (after, h, refl)
given_spelt (Some v) p ps after h =
    let e = enclosed IsSigned v (value_pieces v) (signed_spelt v p) ps after h in
    (sign mark.Open ∷ e.inside, e.says, (e.inside, e.close, refl, e.is, e.closed))

pub subscription_spelt : (words : List ℕ) (k : Keyword) → words ≡ phrase k (key.Subscription ∷ key.To ∷ []) → (s : SubscriptionRule) → IsNormalSubscription s
    → Spelt (IsBehind k IsSubscription) s (word words ∷ subscription_pieces s)
unfolding subscription_pieces
subscription_spelt words k is s p ps after h =
    let u = name_spelt s.user p.user ps after h in
    let f = phrase_says (codes "FOR") key.For [] refl u.1 in
    let v = ahead IsGiven s.value (given_value_pieces s.value) (given_spelt s.value p.value) (word (codes "FOR") ∷ word s.user ∷ []) ps (key_symbol key.For ∷ u.0) f in
    let n = name_spelt s.publication p.publication ((given_value_pieces s.value ++ (word (codes "FOR") ∷ word s.user ∷ [])) ++ ps) v.0 v.1 in
    let behind : Symbols = key_symbol key.Subscription ∷ key_symbol key.To ∷ n.0 in (
      key_symbol k ∷ behind,
      phrase_says words k (key.Subscription ∷ key.To ∷ []) is n.1,
      (behind, refl, record { named = n.0; given = v.0; for = key_symbol key.For ∷ u.0; user_ = u.0; to = refl; publication = n.2; value = v.2; behind = refl; user = u.2 }),
    )
