-- Statements on tables, publications, users, subscriptions and options, as they are written.
use Rattle.std.specs.Prelude.{◌≡◌, ℕ, ◌≤◌, pos, List, ◌∷◌, Option, Some, None, ◌⊎◌}
use Rattle.sr_base.specs.declared.value.Value.{Value}
use Rattle.sr_base.specs.declared.value.Kind.{Kind}
use Rattle.sr_base.specs.declared.value.Kind.TheVariants as kind
use Rattle.sr_ast.specs.declared.expr.Expr.{Expr}
use Rattle.sr_ast.specs.declared.create.CreatePublication.{CreatePublication}
use Rattle.sr_ast.specs.declared.create.ArticleRule.{ArticleRule}
use Rattle.sr_ast.specs.declared.create.Grant.{Grant}
use Rattle.sr_ast.specs.declared.create.SubscriptionRule.{SubscriptionRule}
use Rattle.sr_ast.specs.declared.options.OptionRule.{OptionRule}
use Rattle.sr_ast.specs.Options.{settled}
use Rattle.sr_ast.specs.declared.keyword.Keyword.TheVariants as key
use Rattle.sr_parse_grammar.specs.declared.symbol.Sign.TheVariants as mark
use Rattle.sr_parse_grammar.specs.declared.symbol.Symbol.TheVariants as symbol
use Rattle.sr_parse_grammar.specs.Symbols.{Symbols, Production, word, sign, IsName, IsWord, IsSign, IsTextAt}
use Rattle.sr_parse_grammar.specs.Listing.{Listed, IsNames}
use Rattle.sr_parse_grammar.specs.Literals.{IsLiteral, IsNegative}
use Rattle.sr_parse_grammar.specs.Expressions.{IsExpr}
use Rattle.sr_parse_grammar.specs.Writing.{IsCondition, IsLed}
use Rattle.sr_parse_grammar.specs.Parts.{IsBehind, IsBehindSign, Of, Seq}

-- the number of a VARCHAR: from 1 to 32767
pub record IsLength (before : Symbols) (n : ℕ) (after : Symbols) : Type 0 where
  pub number : before ≡ symbol.Number (pos n) ∷ after
  pub least : 1 ≤ n
  pub most : n ≤ 32767

-- VARCHAR ( number )
pub record IsVarchar (before : Symbols) (n : ℕ) (after : Symbols) : Type 0 where
  pub inside : Symbols
  pub close : Symbols
  pub opened : before ≡ word key.Varchar ∷ sign mark.Open ∷ inside
  pub length : IsLength inside n close
  pub closed : IsSign close mark.Close after

-- INTEGER | INT | BIGINT | VARCHAR ( number ) | DATE
abbrev pub IsKind : Symbols → Kind → Symbols → Type 0
IsKind before kind.Int after = IsWord before key.Integer after ⊎ IsWord before key.Int after
IsKind before kind.Big after = IsWord before key.Bigint after
IsKind before (kind.Varchar n) after = IsVarchar before n after
IsKind before kind.Date after = IsWord before key.Date after

-- [SUBSCRIBE BY expr]
abbrev pub IsSubscribed : Symbols → Option Expr → Symbols → Type 0
IsSubscribed before None after = before ≡ after
IsSubscribed before (Some e) after = (next : Symbols) × (before ≡ word key.Subscribe ∷ word key.By ∷ next) × IsExpr next e after

-- TABLE n [( n {, n} )] [WHERE expr] [SUBSCRIBE BY expr]
pub record IsArticle (before : Symbols) (a : ArticleRule) (after : Symbols) : Type 0 where
  pub named : Symbols
  pub columned : Symbols
  pub where_ : Symbols
  pub subscribed : Symbols
  pub opening : IsWord before key.Table named
  pub table : IsName named a.table columned
  pub columns : IsNames columned a.columns where_
  pub condition : IsCondition where_ a.condition subscribed
  pub by : IsSubscribed subscribed a.by after

-- n ( article {, article} )
pub record IsPublication (before : Symbols) (p : CreatePublication) (after : Symbols) : Type 0 where
  pub open_ : Symbols
  pub inside : Symbols
  pub close : Symbols
  pub name : IsName before p.name open_
  pub opened : IsSign open_ mark.Open inside
  pub articles : Listed IsArticle inside p.articles close
  pub closed : IsSign close mark.Close after

-- [TYPE FILE ADDRESS text]
abbrev pub IsAddress : Production (Option (List ℕ))
IsAddress = IsLed key.Type (IsBehind key.File (IsBehind key.Address IsTextAt))

-- TO n [TYPE FILE ADDRESS text]
abbrev pub IsGrant : Production Grant
IsGrant = Of (λ g. (g.user, g.address)) (IsBehind key.To (Seq IsName IsAddress))

-- a literal, or a negative number
abbrev pub IsSigned : Symbols → Value → Symbols → Type 0
IsSigned before v after = IsLiteral before v after ⊎ ((next : Symbols) × IsSign before mark.Minus next × IsNegative next v after)

-- [( literal )]
abbrev pub IsGiven : Symbols → Option Value → Symbols → Type 0
IsGiven before None after = before ≡ after
IsGiven before (Some v) after = (inside close : Symbols) × IsSign before mark.Open inside × IsSigned inside v close × IsSign close mark.Close after

-- SUBSCRIPTION TO n [( literal )] FOR n
pub record IsSubscription (before : Symbols) (s : SubscriptionRule) (after : Symbols) : Type 0 where
  pub named : Symbols
  pub given : Symbols
  pub for : Symbols
  pub user_ : Symbols
  pub to : before ≡ word key.Subscription ∷ word key.To ∷ named
  pub publication : IsName named s.publication given
  pub value : IsGiven given s.value for
  pub behind : IsWord for key.For user_
  pub user : IsName user_ s.user after

-- a literal or a negative number, as an option keeps it
abbrev pub IsKeptValue : Production Value
IsKeptValue before v after = (written : Value) × IsSigned before written after × (v ≡ settled written)

-- OPTION n = literal
abbrev pub IsOptionRule : Production OptionRule
IsOptionRule = Of (λ o. (o.name, o.value)) (IsBehind key.Option (Seq IsName (IsBehindSign mark.Equal IsKeptValue)))
