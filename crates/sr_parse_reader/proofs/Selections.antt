-- Readers of the parts of SELECT.
use Rattle.std.proofs.Common.{◌≡◌, ℕ, Bool, false, List, ◌∷◌, Option, Result, Ok, Err, refl, sym, ap, ◌∙◌, inl, inr}
use Rattle.sr_ast.specs.declared.expr.Expr.{Expr}
use Rattle.sr_ast.specs.declared.query.Items.{Items}
use Rattle.sr_ast.specs.declared.query.Items.TheVariants.{All, Each}
use Rattle.sr_ast.specs.declared.query.Item.{Item}
use Rattle.sr_ast.specs.declared.query.Item.TheVariants as item
use Rattle.sr_ast.specs.declared.query.Source.{Source}
use Rattle.sr_ast.specs.declared.query.Join.{Join}
use Rattle.sr_ast.specs.declared.query.OrderBy.{OrderBy}
use Rattle.sr_ast.specs.declared.query.Select.{Select}
use Rattle.sr_ast.specs.declared.keyword.Keyword.{Keyword}
use Rattle.sr_ast.specs.declared.keyword.Keyword.TheVariants as key
use Rattle.sr_parse_grammar.specs.declared.symbol.Sign.TheVariants as mark
use Rattle.sr_parse_grammar.specs.declared.symbol.Symbol.{Symbol}
use Rattle.sr_parse_reader.specs.declared.reader.Broken.{Broken}
use Rattle.sr_parse_grammar.specs.Symbols.{Symbols, first, word, sign, IsName, IsWord, IsSign}
use Rattle.sr_parse_grammar.specs.Inner.Symbols.{behind}
use Rattle.sr_parse_grammar.specs.Listing.{Listed}
use Rattle.sr_parse_grammar.specs.Expressions.{IsExpr}
use Rattle.sr_parse_grammar.specs.Writing.{IsLed, IsAggregated, IsAggregate, IsItem, IsItems, IsCondition, IsSource, IsJoin, IsOrdering, IsSelect}
use Rattle.sr_parse_grammar.specs.Scripts.{IsBehind}
use Rattle.sr_parse_grammar.specs.Inner.Going.{Stop, Ends, expression_goes, is_as, is_comma}
use Rattle.sr_parse_reader.specs.Inner.Reading.{Alike, Reading, mapped, Anywhere, Both}
use Rattle.sr_parse_reader.specs.Inner.Productions.{Word, Mark, Counted, Joining, FewJoins}
use Rattle.sr_parse_grammar.proofs.Lists.{Row-begins}
use Rattle.sr_parse_grammar.proofs.Selecting.{led_stops, join_word_begins, ordering_stops}
use Rattle.sr_parse_reader.proofs.Missing.{Item-count, Items-all}
use Rattle.sr_parse_reader.proofs.Parts.{Seq, Sample, cast}
use Rattle.sr_parse_reader.proofs.Starts.{standing, lacks, sign_read, word_sample, sign_sample, expr_sample}
use Rattle.sr_parse_reader.proofs.Optionals.{Lacks, behind_word}
use Rattle.sr_parse_reader.proofs.Samples.{sample_both, few_joins_sample, condition_sample, ordering_sample, source_sample}

-- where items end
abbrev pub ItemsEnd : Symbols → Type 0
ItemsEnd = Both (Stop expression_goes) (Stop is_comma)

-- ---- ( * )

abbrev pub CountedParts : Symbols → Unit {0} × (Unit {0} × Unit {0}) → Symbols → Type 0
CountedParts = Seq (Mark mark.Open) (Seq (Mark mark.Times) (Mark mark.Close))

abbrev pub counted_of : Unit {0} × (Unit {0} × Unit {0}) → Unit {0}
counted_of p = tt

pub counted_to : (b : Symbols) (x : Unit {0} × (Unit {0} × Unit {0})) (a : Symbols) → CountedParts b x a → Counted b (counted_of x) a
counted_to b x a (m, o, (n, t, c)) = cc

pub counted_back : (b : Symbols) (y : Unit {0}) (a : Symbols) → Counted b y a → (x : Unit {0} × (Unit {0} × Unit {0})) × CountedParts b x a × (counted_of x ≡ y)
counted_back b y a h = ((tt, (tt, tt)), (sign mark.Times ∷ sign mark.Close ∷ a, h, (sign mark.Close ∷ a, refl, refl)), refl)

pub counted_sample : Sample (Seq (Mark mark.Times) (Mark mark.Close))
counted_sample = sample_both (Mark mark.Times) (Mark mark.Close) (sign_sample mark.Times) (sign_sample mark.Close)

-- ---- ( expr )

abbrev pub AggregatedParts : Symbols → Unit {0} × (Expr × Unit {0}) → Symbols → Type 0
AggregatedParts = Seq (Mark mark.Open) (Seq IsExpr (Mark mark.Close))

abbrev pub aggregated_of : Unit {0} × (Expr × Unit {0}) → Expr
aggregated_of p = p.1.0

pub aggregated_to : (b : Symbols) (x : Unit {0} × (Expr × Unit {0})) (a : Symbols) → AggregatedParts b x a → IsAggregated b (aggregated_of x) a
aggregated_to b x a h = record { inside = h.0; close = h.2.0; opened = h.1; value = h.2.1; closed = h.2.2 }

pub aggregated_back : (b : Symbols) (y : Expr) (a : Symbols) → IsAggregated b y a → (x : Unit {0} × (Expr × Unit {0})) × AggregatedParts b x a × (aggregated_of x ≡ y)
aggregated_back b y a h = ((tt, (y, tt)), (h.inside, h.opened, (h.close, h.value, h.closed)), refl)

pub aggregated_sample : Sample (Seq IsExpr (Mark mark.Close))
aggregated_sample = sample_both IsExpr (Mark mark.Close) expr_sample (sign_sample mark.Close)

-- ---- an item

-- `COUNT ( * )`
count_to : (b : Symbols) (x : Unit {0}) (a : Symbols) → IsBehind key.Count Counted b x a → IsItem b item.Count a
count_to b x a (m, w, h) = cc

count_back : {before middle : Symbols} → IsWord before key.Count middle → (b : Symbols) (y : Item) (a : Symbols) → Alike before b → IsItem b y a → Stop expression_goes a
    → (x : Unit {0}) × IsBehind key.Count Counted b x a × Unit {0} × (item.Count ≡ y)
count_back w b y a alike h q = let at = standing b (sym alike ∙ ap first w) in let k = Item-count at y a h in (tt, (behind b, at, k.1), tt, sym k.0)

pub count_read : {before middle here : Symbols} {r : Result (Unit {0}) Broken} → IsWord before key.Count middle → Reading Counted Anywhere middle here r → Reading IsItem (Stop expression_goes) before here (mapped (λ x. item.Count) r)
count_read w h = cast (record { to = count_to; back = count_back w }) (behind_word w h)

-- `SUM ( expr )`, `MIN ( expr )`, `MAX ( expr )`
abbrev pub Aggregating : Keyword → (Expr → Item) → Type 0
Aggregating k make = (before next : Symbols) → IsWord before k next → (x : Item) (rest : Symbols) → IsItem before x rest → (e : Expr) × (x ≡ make e) × IsAggregated next e rest

aggregate_back : (k : Keyword) (make : Expr → Item) → Aggregating k make → {before middle : Symbols} → IsWord before k middle → (b : Symbols) (y : Item) (a : Symbols) → Alike before b → IsItem b y a → Stop expression_goes a
    → (x : Expr) × IsAggregate k b x a × Unit {0} × (make x ≡ y)
aggregate_back k make meant w b y a alike h q = let at = standing b (sym alike ∙ ap first w) in let m = meant b (behind b) at y a h in (m.0, (behind b, at, m.2), tt, sym m.1)

pub aggregate_read : (k : Keyword) (make : Expr → Item) → ((b : Symbols) (x : Expr) (a : Symbols) → IsAggregate k b x a → IsItem b (make x) a) → Aggregating k make → {before middle here : Symbols} {r : Result Expr Broken}
    → IsWord before k middle → Reading IsAggregated Anywhere middle here r → Reading IsItem (Stop expression_goes) before here (mapped make r)
aggregate_read k make to meant w h = cast (record { to = to; back = aggregate_back k make meant w }) (behind_word w h)

-- an expression, where none of those is next
value_back : {before : Symbols} → Lacks key.Count before → Lacks key.Sum before → Lacks key.Min before → Lacks key.Max before → (b : Symbols) (y : Item) (a : Symbols) → Alike before b → IsItem b y a → Stop expression_goes a
    → (x : Expr) × IsExpr b x a × Stop expression_goes a × (item.Value x ≡ y)
value_back count sum min max b (item.Value e) a alike h q = (e, h, q, refl)
value_back count sum min max b item.Count a alike h q = absurd (lacks alike count h)
value_back count sum min max b (item.Sum e) a alike h q = absurd (lacks alike sum h.1)
value_back count sum min max b (item.Min e) a alike h q = absurd (lacks alike min h.1)
value_back count sum min max b (item.Max e) a alike h q = absurd (lacks alike max h.1)

pub value_read : {before here : Symbols} {r : Result Expr Broken} → Lacks key.Count before → Lacks key.Sum before → Lacks key.Min before → Lacks key.Max before → Reading IsExpr (Stop expression_goes) before here r
    → Reading IsItem (Stop expression_goes) before here (mapped item.Value r)
value_read count sum min max h = cast (record { to = λ b x a p. p; back = value_back count sum min max }) h

-- ---- the items

-- `*`
all_back : {before here : Symbols} → IsSign before mark.Times here → (b : Symbols) (y : Items) (a : Symbols) → Alike before b → IsItems b y a → ItemsEnd a → (x : Unit {0}) × Mark mark.Times b x a × Unit {0} × (All ≡ y)
all_back w b y a alike h q =
    let at = standing b (sym alike ∙ ap first w) in let k = Items-all at y a h in
    (tt, at ∙ ap (λ (l : Symbols). sign mark.Times ∷ l) k.1, tt, sym k.0)

pub all_read : {before here : Symbols} → IsSign before mark.Times here → Reading IsItems ItemsEnd before here (Ok All)
all_read w = cast {f = λ x. All} (record { to = λ b x a p. p; back = all_back w }) (sign_read w)

-- items
each_back : {before : Symbols} → ((rest : Symbols) → IsSign before mark.Times rest → ⊥) → (b : Symbols) (y : Items) (a : Symbols) → Alike before b → IsItems b y a → ItemsEnd a → (x : List Item) × Listed IsItem b x a × ItemsEnd a × (Each x ≡ y)
each_back absent b All a alike h q = absurd (lacks alike absent h)
each_back absent b (Each xs) a alike h q = (xs, h, q, refl)

pub each_read : {before here : Symbols} {r : Result (List Item) Broken} → ((rest : Symbols) → IsSign before mark.Times rest → ⊥) → Reading (Listed IsItem) ItemsEnd before here r → Reading IsItems ItemsEnd before here (mapped Each r)
each_read absent h = cast (record { to = λ b x a p. p; back = each_back absent }) h

-- ---- a source

abbrev pub SourceParts : Symbols → List ℕ × Option (List ℕ) → Symbols → Type 0
SourceParts = Seq IsName (IsLed key.As IsName)

abbrev pub source_of : List ℕ × Option (List ℕ) → Source
source_of p = record { table = p.0; alias = p.1 }

pub source_to : (b : Symbols) (x : List ℕ × Option (List ℕ)) (a : Symbols) → SourceParts b x a → IsSource b (source_of x) a
source_to b x a h = record { named = h.0; table = h.1; alias = h.2 }

pub source_back : (b : Symbols) (y : Source) (a : Symbols) → IsSource b y a → (x : List ℕ × Option (List ℕ)) × SourceParts b x a × (source_of x ≡ y)
source_back b y a h = ((y.table, y.alias), (h.named, h.table, h.alias), refl)

-- ---- [INNER] JOIN

inner_to : (b : Symbols) (x : Unit {0}) (a : Symbols) → IsBehind key.Inner (Word key.Join) b x a → Joining b tt a
inner_to b x a (m, i, j) = inr (cc)

inner_back : {before middle : Symbols} → IsWord before key.Inner middle → (b : Symbols) (y : Unit {0}) (a : Symbols) → Alike before b → Joining b y a → Unit {0} → (x : Unit {0}) × IsBehind key.Inner (Word key.Join) b x a × Unit {0} × (tt ≡ y)
inner_back w b y a alike (inl h) q = let at = standing b (sym alike ∙ ap first w) in absurd (cc)
inner_back w b y a alike (inr h) q = (tt, (word key.Join ∷ a, h, refl), tt, refl)

outer_back : {before : Symbols} → Lacks key.Inner before → (b : Symbols) (y : Unit {0}) (a : Symbols) → Alike before b → Joining b y a → Unit {0} → (x : Unit {0}) × Word key.Join b x a × Unit {0} × (tt ≡ y)
outer_back absent b y a alike (inl h) q = (tt, h, tt, refl)
outer_back absent b y a alike (inr h) q = absurd (lacks alike absent h)

-- an answer that is no value
told : {X : Symbols → Unit {0} → Symbols → Type 0} {P : Symbols → Type 0} {before here : Symbols} (r : Result (Unit {0}) Broken) → Reading X P before here (mapped (λ x. tt) r) → Reading X P before here r
told (Ok tt) h = h
told (Err e) h = h

-- behind INNER
pub inner_read : {before middle here : Symbols} (r : Result (Unit {0}) Broken) → IsWord before key.Inner middle → Reading (Word key.Join) Anywhere middle here r → Reading Joining Anywhere before here r
inner_read r w h = told r (cast (record { to = inner_to; back = inner_back w }) (behind_word w h))

-- where INNER is not next
pub outer_read : {before here : Symbols} (r : Result (Unit {0}) Broken) → Lacks key.Inner before → Reading (Word key.Join) Anywhere before here r → Reading Joining Anywhere before here r
outer_read r absent h = told r (cast (record { to = λ b x a p. inl p; back = outer_back absent }) h)

-- ---- a join

abbrev pub JoinParts : Symbols → Unit {0} × (Source × (Unit {0} × Expr)) → Symbols → Type 0
JoinParts = Seq Joining (Seq IsSource (Seq (Word key.On) IsExpr))

abbrev pub join_of : Unit {0} × (Source × (Unit {0} × Expr)) → Join
join_of p = record { source = p.1.0; condition = p.1.1.1 }

pub join_to : (b : Symbols) (x : Unit {0} × (Source × (Unit {0} × Expr))) (a : Symbols) → JoinParts b x a → IsJoin b (join_of x) a
join_to b x a h = record { joined = h.0; on = h.2.0; condition = h.2.2.0; join = h.1; source = h.2.1; behind = h.2.2.1; test = h.2.2.2 }

pub join_back : (b : Symbols) (y : Join) (a : Symbols) → IsJoin b y a → (x : Unit {0} × (Source × (Unit {0} × Expr))) × JoinParts b x a × (join_of x ≡ y)
join_back b y a h = ((tt, (y.source, (tt, y.condition))), (h.joined, h.join, (h.on, h.source, (h.condition, h.behind, h.test))), refl)

pub on_sample : Sample (Seq (Word key.On) IsExpr)
on_sample = sample_both (Word key.On) IsExpr (word_sample key.On) expr_sample

pub joined_sample : Sample (Seq IsSource (Seq (Word key.On) IsExpr))
joined_sample = sample_both IsSource (Seq (Word key.On) IsExpr) source_sample on_sample

-- ---- the whole

abbrev pub Sifted : Symbols → Option Expr × List OrderBy → Symbols → Type 0
Sifted = Seq IsCondition IsOrdering

abbrev pub Joined : Symbols → List Join × (Option Expr × List OrderBy) → Symbols → Type 0
Joined = Seq FewJoins Sifted

abbrev pub Sourced : Symbols → Source × (List Join × (Option Expr × List OrderBy)) → Symbols → Type 0
Sourced = Seq IsSource Joined

abbrev pub SelectValues : Type 0
SelectValues = Items × (Unit {0} × (Source × (List Join × (Option Expr × List OrderBy))))

abbrev pub SelectParts : Symbols → SelectValues → Symbols → Type 0
SelectParts = Seq IsItems (Seq (Word key.From) Sourced)

abbrev pub select_of : SelectValues → Select
select_of p = record { items = p.0; source = p.1.1.0; joins = p.1.1.1.0; condition = p.1.1.1.1.0; order = p.1.1.1.1.1 }

pub select_to : (b : Symbols) (x : SelectValues) (a : Symbols) → SelectParts b x a → IsSelect b (select_of x) a
select_to b x a (m, i, (f, w, (s, h, (j, (r, few), (c, k, o))))) = record { from = m; sources = f; joins = s; where_ = j; ordered = c; items = i; behind = w; source = h; joined = r; condition = k; order = o; few = few }

pub select_back : (b : Symbols) (y : Select) (a : Symbols) → IsSelect b y a → (x : SelectValues) × SelectParts b x a × (select_of x ≡ y)
select_back b y a h = ((y.items, (tt, (y.source, (y.joins, (y.condition, y.order))))), (h.from, h.items, (h.sources, h.behind, (h.joins, h.source, (h.where_, (h.joined, h.few), (h.ordered, h.condition, h.order))))), refl)

-- where the condition and the order begin, and where the joins do
pub sifted_stops : (test : Symbol → Bool) → test (word key.Where) ≡ false → test (word key.Order) ≡ false → test (sign mark.Semicolon) ≡ false → (b : Symbols) (y : Option Expr × List OrderBy) (a : Symbols) → Sifted b y a → Ends a → Stop test b
sifted_stops test t u v b y a h q = led_stops key.Where IsExpr test b y.0 h.0 t h.1 (ordering_stops test h.0 y.1 a u v h.2 q)

pub joined_stops : (b : Symbols) (y : List Join × (Option Expr × List OrderBy)) (a : Symbols) → Joined b y a → Ends a → Stop is_as b
joined_stops b y a h q = Row-begins (Stop is_as) (λ b x a j. join_word_begins is_as b j.joined refl refl j.join) h.1.0 (sifted_stops is_as refl refl refl h.0 y.1 a h.2 q)

pub sifted_sample : Sample Sifted
sifted_sample = sample_both IsCondition IsOrdering condition_sample ordering_sample

pub joined_parts_sample : Sample Joined
joined_parts_sample = sample_both FewJoins Sifted few_joins_sample sifted_sample

pub sourced_sample : Sample Sourced
sourced_sample = sample_both IsSource Joined source_sample joined_parts_sample

pub from_sample : Sample (Seq (Word key.From) Sourced)
from_sample = sample_both (Word key.From) Sourced (word_sample key.From) sourced_sample
