-- Statements on rows: what the symbols spell, where a part has been read.
use Rattle.std.proofs.Common.{◌≡◌, ◌∷◌, refl, sym, subst}
use Rattle.sr_ast.specs.declared.expr.Expr.{Expr}
use Rattle.sr_ast.specs.declared.query.Items.{Items}
use Rattle.sr_ast.specs.declared.query.Items.TheVariants.{All, Each}
use Rattle.sr_ast.specs.declared.query.Item.{Item}
use Rattle.sr_ast.specs.declared.query.Item.TheVariants as item
use Rattle.sr_ast.specs.declared.query.Join.{Join}
use Rattle.sr_ast.specs.declared.keyword.Keyword.{Keyword}
use Rattle.sr_ast.specs.declared.keyword.Keyword.TheVariants as key
use Rattle.sr_parse_grammar.specs.declared.symbol.Sign.TheVariants as mark
use Rattle.sr_parse_grammar.specs.Symbols.{Symbols, sign, IsWord, IsSign}
use Rattle.sr_parse_grammar.specs.Writing.{IsAggregated, IsAggregate, IsItem, IsItems, IsJoin}
use Rattle.sr_parse_grammar.specs.Inner.Going.{Stop, Begins, expression_goes, is_join}
use Rattle.sr_parse_grammar.proofs.Steps.{Begins-not}
use Rattle.sr_parse_grammar.proofs.Following.{expression_starts}
use Rattle.sr_parse_grammar.proofs.Expressing.{IsExpr-starts}
use Rattle.sr_parse_reader.proofs.Lines.{Begun}
use Rattle.sr_parse_grammar.proofs.Selecting.{join_word_begins, join_word_is, clash, items_no_times, item_heads}

-- behind `COUNT`
pub Item-count : {before next : Symbols} → IsWord before key.Count next → (x : Item) (rest : Symbols) → IsItem before x rest → (x ≡ item.Count) × (next ≡ sign mark.Open ∷ sign mark.Times ∷ sign mark.Close ∷ rest)
Item-count w (item.Value e) rest h = absurd (Begins-not expression_starts w refl (IsExpr-starts h))
Item-count w item.Count rest h = (refl, cc)
Item-count {before = before} w x rest h = let s = (item_heads before x rest h).1 in absurd (cc)

aggregate_here : (k : Keyword) {before next : Symbols} → IsWord before k next → (e : Expr) (rest : Symbols) → IsAggregate k before e rest → IsAggregated next e rest
aggregate_here k {next = next} w e rest (at, v, h) = let same : next ≡ at = cc in subst (λ (b : Symbols). IsAggregated b e rest) (sym same) h

-- behind `SUM`, `MIN` and `MAX`
pub Item-sum : {before next : Symbols} → IsWord before key.Sum next → (x : Item) (rest : Symbols) → IsItem before x rest → (e : Expr) × (x ≡ item.Sum e) × IsAggregated next e rest
Item-sum w (item.Value e) rest h = absurd (Begins-not expression_starts w refl (IsExpr-starts h))
Item-sum w (item.Sum e) rest h = (e, refl, aggregate_here key.Sum w e rest h)
Item-sum {before = before} w x rest h = let s = (item_heads before x rest h).1 in absurd (cc)

pub Item-min : {before next : Symbols} → IsWord before key.Min next → (x : Item) (rest : Symbols) → IsItem before x rest → (e : Expr) × (x ≡ item.Min e) × IsAggregated next e rest
Item-min w (item.Value e) rest h = absurd (Begins-not expression_starts w refl (IsExpr-starts h))
Item-min w (item.Min e) rest h = (e, refl, aggregate_here key.Min w e rest h)
Item-min {before = before} w x rest h = let s = (item_heads before x rest h).1 in absurd (cc)

pub Item-max : {before next : Symbols} → IsWord before key.Max next → (x : Item) (rest : Symbols) → IsItem before x rest → (e : Expr) × (x ≡ item.Max e) × IsAggregated next e rest
Item-max w (item.Value e) rest h = absurd (Begins-not expression_starts w refl (IsExpr-starts h))
Item-max w (item.Max e) rest h = (e, refl, aggregate_here key.Max w e rest h)
Item-max {before = before} w x rest h = let s = (item_heads before x rest h).1 in absurd (cc)

-- behind `*`
pub Items-all : {before next : Symbols} → IsSign before mark.Times next → (x : Items) (rest : Symbols) → IsItems before x rest → (x ≡ All) × (next ≡ rest)
Items-all w All rest h = (refl, cc)
Items-all {before = before} {next = next} w (Each xs) rest h = absurd (items_no_times before next xs rest h w)

-- where joins end
abbrev pub Joined : Symbols → Type 0
Joined after = Stop expression_goes after × Stop is_join after

pub joins_begun : Begun IsJoin (Stop expression_goes)
joins_begun before x after h = join_word_begins expression_goes before h.joined refl refl h.join

-- where a join may begin, they do not end
pub join_goes : (here : Symbols) → Begins is_join here → Joined here → ⊥
join_goes here b j = clash is_join here b j.1

-- where none begins, none is spelled
pub join_none : (here : Symbols) → Stop is_join here → (x : Join) (next : Symbols) → IsJoin here x next → ⊥
join_none here s x next h = clash is_join here (join_word_is here h.joined h.join) s
