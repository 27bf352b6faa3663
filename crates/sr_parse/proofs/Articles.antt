-- Readers of conditions, articles and publications.
use Rattle.std.proofs.Common.{◌≡◌, ℕ, List, [], ◌∷◌, Option, Some, None, Result, Ok, refl, sym, ap, ◌∙◌, inl}
use Rattle.sr_ast.specs.declared.expr.Expr.{Expr}
use Rattle.sr_ast.specs.declared.create.ArticleRule.{ArticleRule}
use Rattle.sr_ast.specs.declared.create.CreatePublication.{CreatePublication}
use Rattle.sr_ast.specs.declared.keyword.Keyword.TheVariants as key
use Rattle.sr_parse_grammar.specs.declared.symbol.Sign.TheVariants as mark
use Rattle.sr_parse_reader.specs.declared.reader.Broken.{Broken}
use Rattle.sr_parse_grammar.specs.Symbols.{Symbols, first, word, IsName, IsWord}
use Rattle.sr_parse_grammar.specs.Listing.{Listed, IsNames}
use Rattle.sr_parse_grammar.specs.Listing.Listed.{one}
use Rattle.sr_parse_grammar.specs.Expressions.{IsExpr}
use Rattle.sr_parse_grammar.specs.Writing.{IsCondition}
use Rattle.sr_parse_grammar.specs.Catalog.{IsSubscribed, IsArticle, IsPublication}
use Rattle.sr_parse_grammar.specs.Inner.Going.{Stop, Closes, is_open, expression_goes, condition_goes}
use Rattle.sr_parse_reader.specs.Inner.Reading.{Alike, Reading, Anywhere, BeforeSign, mapped}
use Rattle.sr_parse_reader.specs.Inner.Productions.{Word, Mark}
use Rattle.sr_parse_grammar.proofs.Steps.{Stop-begins}
use Rattle.sr_parse_grammar.proofs.Lists.{Closes-stop}
use Rattle.sr_parse_reader.proofs.Conditions.{Lacks}
use Rattle.sr_parse_reader.proofs.Samples.{condition_sample}
use Rattle.sr_parse_grammar.proofs.Selecting.{led_stops}
use Rattle.sr_parse_grammar.proofs.Cataloguing.{is_subscribe, subscribed_stops}
use Rattle.sr_parse_reader.proofs.Parts.{Seq, Sample, Leads, cast, cast_goes, goes_first}
use Rattle.sr_parse_reader.proofs.Starts.{standing, lacks, word_sample, sign_sample, name_sample, nothing_read}

-- ---- what subscribes

pub subscribed_sample : Sample IsSubscribed
subscribed_sample = record { more = []; meant = tt; value = None; spells = λ after. refl }

abbrev pub SubscribedParts : Symbols → Unit {0} × (Unit {0} × Expr) → Symbols → Type 0
SubscribedParts = Seq (Word key.Subscribe) (Seq (Word key.By) IsExpr)

abbrev pub subscribed_of : Unit {0} × (Unit {0} × Expr) → Option Expr
subscribed_of p = Some p.1.1

subscribed_absent : {before : Symbols} → Lacks key.Subscribe before → (there : Symbols) → Alike before there → (y : Option Expr) (rest : Symbols) → IsSubscribed there y rest → (None ≡ y) × (there ≡ rest)
subscribed_absent absent there alike None rest h = (refl, h)
subscribed_absent absent there alike (Some x) rest (next, w, h) = absurd (lacks alike absent w)

pub subscribed_none : {before here : Symbols} → here ≡ before → Lacks key.Subscribe before → Reading IsSubscribed Closes before here (Ok None)
subscribed_none e absent = nothing_read IsSubscribed Closes None e (λ after. refl) (λ there alike y rest h p. subscribed_absent absent there alike y rest h)

subscribed_back : {before middle : Symbols} → IsWord before key.Subscribe middle → (b : Symbols) (y : Option Expr) (a : Symbols) → Alike before b → IsSubscribed b y a → Closes a
    → (x : Unit {0} × (Unit {0} × Expr)) × SubscribedParts b x a × Stop expression_goes a × (subscribed_of x ≡ y)
subscribed_back w b None a alike h q = absurd (Stop-begins is_subscribe (sym h ∙ standing b (sym alike ∙ ap first w)) refl (Closes-stop is_subscribe a refl refl q))
subscribed_back w b (Some x) a alike (next, v, h) q = ((tt, (tt, x)), (_, v, (next, refl, h)), Closes-stop expression_goes a refl refl q, refl)

pub subscribed_read : {before middle here : Symbols} {r : Result (Unit {0} × (Unit {0} × Expr)) Broken} → IsWord before key.Subscribe middle → Reading SubscribedParts (Stop expression_goes) before here r → Reading IsSubscribed Closes before here (mapped subscribed_of r)
subscribed_read w h = cast (record { to = λ b x a s. (s.2.0, s.1 ∙ ap (λ (l : Symbols). word key.Subscribe ∷ l) s.2.1, s.2.2); back = subscribed_back w }) h

-- ---- articles

abbrev pub ArticleParts : Symbols → Unit {0} × (List ℕ × (List (List ℕ) × (Option Expr × Option Expr))) → Symbols → Type 0
ArticleParts = Seq (Word key.Table) (Seq IsName (Seq IsNames (Seq IsCondition IsSubscribed)))

abbrev pub article_of : Unit {0} × (List ℕ × (List (List ℕ) × (Option Expr × Option Expr))) → ArticleRule
article_of p = record { table = p.1.0; columns = p.1.1.0; condition = p.1.1.1.0; by = p.1.1.1.1 }

pub article_to : (b : Symbols) (x : Unit {0} × (List ℕ × (List (List ℕ) × (Option Expr × Option Expr)))) (a : Symbols) → ArticleParts b x a → IsArticle b (article_of x) a
article_to b x a h = let t = h.2 in let n = t.2 in let w = n.2 in record {
  named = h.0;
  columned = t.0;
  where_ = n.0;
  subscribed = w.0;
  opening = h.1;
  table = t.1;
  columns = n.1;
  condition = w.1;
  by = w.2;
}

pub article_back : (b : Symbols) (y : ArticleRule) (a : Symbols) → IsArticle b y a → (x : Unit {0} × (List ℕ × (List (List ℕ) × (Option Expr × Option Expr)))) × ArticleParts b x a × (article_of x ≡ y)
article_back b y a h = ((tt, (y.table, (y.columns, (y.condition, y.by)))), (h.named, h.opening, (h.columned, h.table, (h.where_, h.columns, (h.subscribed, h.condition, h.by)))), refl)

-- the parts from the condition on, and so on to the left
pub selected_sample : Sample (Seq IsCondition IsSubscribed)
selected_sample = goes_first IsCondition IsSubscribed [] condition_sample subscribed_sample

pub columned_sample : Sample (Seq IsNames (Seq IsCondition IsSubscribed))
columned_sample = goes_first IsNames _ [] (record { more = []; meant = tt; value = []; spells = λ after. inl (refl, refl) }) selected_sample

pub tabled_sample : Sample (Seq IsName (Seq IsNames (Seq IsCondition IsSubscribed)))
tabled_sample = goes_first IsName _ [] name_sample columned_sample

-- names may end before a condition, and a condition before what subscribes
pub columns_end : Leads (Stop is_open) (Seq IsCondition IsSubscribed) Closes
columns_end b y a h q = led_stops key.Where IsExpr is_open b y.0 h.0 refl h.1 (subscribed_stops is_open h.0 y.1 a refl refl refl h.2 q)

pub condition_end : Leads (Stop condition_goes) IsSubscribed Closes
condition_end b y a h q = subscribed_stops condition_goes b y a refl refl refl h q

-- ---- publications

articles_sample : Sample (Listed IsArticle)
articles_sample =
    let s = cast_goes ArticleParts IsArticle article_of article_to [] (goes_first (Word key.Table) _ [] (word_sample key.Table) tabled_sample) in
    record { more = s.more; meant = s.meant; value = s.value ∷ []; spells = λ after. one (s.spells after) }

abbrev pub PublicationParts : Symbols → List ℕ × (Unit {0} × (List ArticleRule × Unit {0})) → Symbols → Type 0
PublicationParts = Seq IsName (Seq (Mark mark.Open) (Seq (Listed IsArticle) (Mark mark.Close)))

abbrev pub publication_of : List ℕ × (Unit {0} × (List ArticleRule × Unit {0})) → CreatePublication
publication_of p = record { name = p.0; articles = p.1.1.0 }

pub publication_to : (b : Symbols) (x : List ℕ × (Unit {0} × (List ArticleRule × Unit {0}))) (a : Symbols) → PublicationParts b x a → IsPublication b (publication_of x) a
publication_to b x a h = let o = h.2 in let i = o.2 in record { open_ = h.0; inside = o.0; close = i.0; name = h.1; opened = o.1; articles = i.1; closed = i.2 }

pub publication_back : (b : Symbols) (y : CreatePublication) (a : Symbols) → IsPublication b y a → (x : List ℕ × (Unit {0} × (List ArticleRule × Unit {0}))) × PublicationParts b x a × (publication_of x ≡ y)
publication_back b y a h = ((y.name, (tt, (y.articles, tt))), (h.open_, h.name, (h.inside, h.opened, (h.close, h.articles, h.closed))), refl)

pub articles_closed_sample : Sample (Seq (Listed IsArticle) (Mark mark.Close))
articles_closed_sample = goes_first (Listed IsArticle) (Mark mark.Close) [] articles_sample (sign_sample mark.Close)

-- before a `)` articles may end
pub articles_close : Leads (BeforeSign mark.Close) (Mark mark.Close) Anywhere
articles_close b y a h q = (a, h)
