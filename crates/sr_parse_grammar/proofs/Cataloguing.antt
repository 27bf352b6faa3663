-- Statements on publications, users and subscriptions: symbols spell one at most.
use Rattle.std.proofs.Common.{◌≡◌, ℕ, Bool, true, false, List, Option, Some, None, refl, sym, subst, ap, ◌∙◌, inl, inr}
use Rattle.sr_base.specs.declared.value.Value.{Value}
use Rattle.sr_base.specs.declared.value.Kind.{Kind}
use Rattle.sr_base.specs.declared.value.Kind.TheVariants as kind
use Rattle.sr_ast.specs.declared.expr.Expr.{Expr}
use Rattle.sr_ast.specs.declared.create.CreatePublication.{CreatePublication}
use Rattle.sr_ast.specs.declared.create.ArticleRule.{ArticleRule}
use Rattle.sr_ast.specs.declared.create.SubscriptionRule.{SubscriptionRule}
use Rattle.sr_ast.specs.declared.keyword.Keyword.TheVariants as key
use Rattle.sr_parse_grammar.specs.declared.symbol.Sign.TheVariants as mark
use Rattle.sr_parse_grammar.specs.declared.symbol.Symbol.{Symbol}
use Rattle.sr_parse_grammar.specs.declared.symbol.Symbol.TheVariants as symbol
use Rattle.sr_parse_grammar.specs.Symbols.{Symbols, IsSign}
use Rattle.sr_parse_grammar.specs.Literals.{IsLiteral, literal_meant}
use Rattle.sr_parse_grammar.specs.Expressions.{IsExpr}
use Rattle.sr_parse_grammar.specs.Catalog.{IsLength, IsVarchar, IsKind, IsSubscribed, IsArticle, IsPublication, IsSigned, IsGiven, IsSubscription}
use Rattle.sr_parse_grammar.specs.Inner.Going.{Stop, expression_goes, is_open, is_where, Closes}
use Rattle.sr_parse_grammar.proofs.Steps.{Stop-at, Stop-begins, IsName-once, Once, two_parts, three_parts, four_parts}
use Rattle.sr_parse_grammar.proofs.Expressing.{IsExpr-once, literal_once, negative_once}
use Rattle.sr_parse_grammar.proofs.Lists.{Listed-once, Closes-stop, closing, IsNames-once}
use Rattle.sr_parse_grammar.proofs.Selecting.{led_stops, condition_once}
pub use Rattle.sr_parse_grammar.proofs.Granted.{grant_once}

abbrev pub is_subscribe : Symbol → Bool
is_subscribe (symbol.Keyword key.Subscribe) = true
is_subscribe s = false

length_once : {before here after rest : Symbols} {n m : ℕ} → before ≡ here → IsLength before n after → IsLength here m rest → (n ≡ m) × (after ≡ rest)
length_once e h k = let a = h.number in let b = k.number in (cc, cc)

varchar_once : {before here after rest : Symbols} {n m : ℕ} → before ≡ here → IsVarchar before n after → IsVarchar here m rest → (n ≡ m) × (after ≡ rest)
varchar_once e h k =
    let ho = h.opened in let ko = k.opened in let hc = h.closed in let kc = k.closed in
    let s = length_once (cc) h.length k.length in let f = s.1 in (s.0, cc)

pub kind_once : (before here : Symbols) (x : Kind) (after : Symbols) (y : Kind) (rest : Symbols) → before ≡ here → IsKind before x after → IsKind here y rest → (x ≡ y) × (after ≡ rest)
kind_once before here kind.Int after kind.Int rest e (inl h) (inl k) = (refl, cc)
kind_once before here kind.Int after kind.Int rest e (inl h) (inr k) = absurd (cc)
kind_once before here kind.Int after kind.Int rest e (inr h) (inl k) = absurd (cc)
kind_once before here kind.Int after kind.Int rest e (inr h) (inr k) = (refl, cc)
kind_once before here kind.Int after (kind.Varchar m) rest e (inl h) k = absurd (let u = k.opened in cc)
kind_once before here kind.Int after (kind.Varchar m) rest e (inr h) k = absurd (let u = k.opened in cc)
kind_once before here kind.Int after _ rest e (inl h) k = absurd (cc)
kind_once before here kind.Int after _ rest e (inr h) k = absurd (cc)
kind_once before here kind.Big after kind.Int rest e h (inl k) = absurd (cc)
kind_once before here kind.Big after kind.Int rest e h (inr k) = absurd (cc)
kind_once before here kind.Big after kind.Big rest e h k = (refl, cc)
kind_once before here kind.Big after (kind.Varchar m) rest e h k = absurd (let u = k.opened in cc)
kind_once before here (kind.Varchar n) after kind.Int rest e h (inl k) = absurd (let o = h.opened in cc)
kind_once before here (kind.Varchar n) after kind.Int rest e h (inr k) = absurd (let o = h.opened in cc)
kind_once before here (kind.Varchar n) after (kind.Varchar m) rest e h k = let s = varchar_once e h k in (ap kind.Varchar s.0, s.1)
kind_once before here (kind.Varchar n) after _ rest e h k = absurd (let o = h.opened in cc)
kind_once before here kind.Date after kind.Int rest e h (inl k) = absurd (cc)
kind_once before here kind.Date after kind.Int rest e h (inr k) = absurd (cc)
kind_once before here kind.Date after (kind.Varchar m) rest e h k = absurd (let u = k.opened in cc)
kind_once before here kind.Date after kind.Date rest e h k = (refl, cc)
kind_once before here _ after _ rest e h k = absurd (cc)

subscribed_once : (before here : Symbols) (x : Option Expr) (after : Symbols) (y : Option Expr) (rest : Symbols) → before ≡ here → IsSubscribed before x after → IsSubscribed here y rest → Closes after → Closes rest → (x ≡ y) × (after ≡ rest)
subscribed_once before here None after None rest e h k p q = (refl, cc)
subscribed_once before here None after (Some y) rest e h (next, w, k) p q = absurd (Stop-begins is_subscribe (sym h ∙ (e ∙ w)) refl (Closes-stop is_subscribe after refl refl p))
subscribed_once before here (Some x) after None rest e (next, w, h) k p q = absurd (Stop-begins is_subscribe (sym k ∙ (sym e ∙ w)) refl (Closes-stop is_subscribe rest refl refl q))
subscribed_once before here (Some x) after (Some y) rest e (next, w, h) (next', w', k) p q =
    let same : next ≡ next' = cc in
    let t = IsExpr-once same h k (Closes-stop expression_goes after refl refl p) (Closes-stop expression_goes rest refl refl q) in (ap Some t.0, t.1)

pub subscribed_stops : (test : Symbol → Bool) (before : Symbols) (x : Option Expr) (after : Symbols) → test (symbol.Keyword key.Subscribe) ≡ false → test (symbol.Sign mark.Comma) ≡ false → test (symbol.Sign mark.Close) ≡ false
    → IsSubscribed before x after → Closes after → Stop test before
subscribed_stops test before None after t u v h p = subst (λ (s : Symbols). Stop test s) (sym h) (Closes-stop test after u v p)
subscribed_stops test before (Some x) after t u v (next, w, h) p = Stop-at test w t

pub article_same : (s t : ArticleRule) → s.table ≡ t.table → s.columns ≡ t.columns → s.condition ≡ t.condition → s.by ≡ t.by → s ≡ t
article_same s t a b c d =
    four_parts (λ (n : List ℕ) (cs : List (List ℕ)) (o : Option Expr) (u : Option Expr). let x : ArticleRule = record { table = n; columns = cs; condition = o; by = u } in x) a b c d

pub columns_stop : {before after : Symbols} {a : ArticleRule} → (h : IsArticle before a after) → Closes after → Stop is_open h.where_
columns_stop {after = after} {a = a} h p =
    led_stops key.Where IsExpr is_open h.where_ a.condition h.subscribed refl h.condition (subscribed_stops is_open h.subscribed a.by after refl refl refl h.by p)

pub article_once : Once IsArticle Closes
article_once before x after y rest h k p q =
    let ho = h.opening in let ko = k.opening in let named : h.named ≡ k.named = cc in
    let table = IsName-once named h.table k.table in
    let columns = IsNames-once h.columned k.columned x.columns h.where_ y.columns k.where_ table.1 h.columns k.columns (columns_stop h p) (columns_stop k q) in
    let condition = condition_once h.where_ k.where_ x.condition h.subscribed y.condition k.subscribed columns.1 h.condition k.condition
    (subscribed_stops is_where h.subscribed x.by after refl refl refl h.by p) (subscribed_stops is_where k.subscribed y.by rest refl refl refl k.by q)
    (subscribed_stops expression_goes h.subscribed x.by after refl refl refl h.by p) (subscribed_stops expression_goes k.subscribed y.by rest refl refl refl k.by q) in
    let by = subscribed_once h.subscribed k.subscribed x.by after y.by rest condition.1 h.by k.by p q in
    (article_same x y table.0 columns.0 condition.0 by.0, by.1)

pub publication_same : (s t : CreatePublication) → s.name ≡ t.name → s.articles ≡ t.articles → s ≡ t
publication_same s t a b = two_parts (λ (n : List ℕ) (rs : List ArticleRule). let x : CreatePublication = record { name = n; articles = rs } in x) a b

pub publication_once : {before here after rest : Symbols} {s t : CreatePublication} → before ≡ here → IsPublication before s after → IsPublication here t rest → (s ≡ t) × (after ≡ rest)
publication_once {s = s} {t = t} e h k =
    let name = IsName-once e h.name k.name in
    let ho = h.opened in let ko = k.opened in let hc = h.closed in let kc = k.closed in let n = name.1 in
    let inside : h.inside ≡ k.inside = cc in
    let articles = Listed-once IsArticle Closes article_once (λ b n c. inl (n, c)) inside h.articles k.articles (closing IsArticle hc) (closing IsArticle kc) in
    let close = articles.1 in (publication_same s t name.0 articles.0, cc)

pub literal_no_minus : (before here after next : Symbols) (v : Value) → before ≡ here → IsLiteral before v after → IsSign here mark.Minus next → ⊥
literal_no_minus before here after next v e (inl l) o =
    let ls = l.stands in let f : l.written ≡ symbol.Sign mark.Minus = cc in
    let m : literal_meant (symbol.Sign mark.Minus) ≡ Some v = subst (λ (s : Symbol). literal_meant s ≡ Some v) f l.means in cc
literal_no_minus before here after next v e (inr l) o = let d = l.date in cc

pub signed_once : (before here : Symbols) (x : Value) (after : Symbols) (y : Value) (rest : Symbols) → before ≡ here → IsSigned before x after → IsSigned here y rest → (x ≡ y) × (after ≡ rest)
signed_once before here x after y rest e (inl h) (inl k) = literal_once before x after y rest h (subst (λ (s : Symbols). IsLiteral s y rest) (sym e) k)
signed_once before here x after y rest e (inl h) (inr (next, m, k)) = absurd (literal_no_minus before here after next x e h m)
signed_once before here x after y rest e (inr (next, m, h)) (inl k) = absurd (literal_no_minus here before rest next y (sym e) k m)
signed_once before here x after y rest e (inr (next, m, h)) (inr (next', m', k)) = let same : next ≡ next' = cc in negative_once same h k

given_once : (before here : Symbols) (x : Option Value) (after : Symbols) (y : Option Value) (rest : Symbols) → before ≡ here → IsGiven before x after → IsGiven here y rest → Stop is_open after → Stop is_open rest → (x ≡ y) × (after ≡ rest)
given_once before here None after None rest e h k p q = (refl, cc)
given_once before here None after (Some y) rest e h (inside, close, o, k, c) p q = absurd (Stop-begins is_open (sym h ∙ (e ∙ o)) refl p)
given_once before here (Some x) after None rest e (inside, close, o, h, c) k p q = absurd (Stop-begins is_open (sym k ∙ (sym e ∙ o)) refl q)
given_once before here (Some x) after (Some y) rest e (inside, close, o, h, c) (inside', close', o', k, c') p q =
    let same : inside ≡ inside' = cc in let s = signed_once inside inside' x close y close' same h k in let f = s.1 in (ap Some s.0, cc)

subscription_same : (s t : SubscriptionRule) → s.publication ≡ t.publication → s.value ≡ t.value → s.user ≡ t.user → s ≡ t
subscription_same s t a b c = three_parts (λ (n : List ℕ) (o : Option Value) (u : List ℕ). let x : SubscriptionRule = record { publication = n; value = o; user = u } in x) a b c

pub subscription_once : {before here after rest : Symbols} {s t : SubscriptionRule} → before ≡ here → IsSubscription before s after → IsSubscription here t rest → (s ≡ t) × (after ≡ rest)
subscription_once {s = s} {t = t} e h k =
    let ht = h.to in let kt = k.to in let named : h.named ≡ k.named = cc in
    let publication = IsName-once named h.publication k.publication in
    let hb = h.behind in let kb = k.behind in
    let given = given_once h.given k.given s.value h.for t.value k.for publication.1 h.value k.value (Stop-at is_open hb refl) (Stop-at is_open kb refl) in
    let for = given.1 in let user_ : h.user_ ≡ k.user_ = cc in
    let user = IsName-once user_ h.user k.user in
    (subscription_same s t publication.0 given.0 user.0, user.1)
