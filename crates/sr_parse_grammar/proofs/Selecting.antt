-- Statements on rows: symbols spell one at most.
use Rattle.std.proofs.Common.{◌≡◌, ℕ, Bool, true, false, List, [], ◌∷◌, Option, Some, None, refl, sym, subst, ap, ◌∙◌, inl, inr}
use Rattle.sr_ast.specs.declared.expr.Expr.{Expr}
use Rattle.sr_ast.specs.declared.query.Insert.{Insert}
use Rattle.sr_ast.specs.declared.query.Update.{Update}
use Rattle.sr_ast.specs.declared.query.Delete.{Delete}
use Rattle.sr_ast.specs.declared.query.Select.{Select}
use Rattle.sr_ast.specs.declared.query.Items.{Items}
use Rattle.sr_ast.specs.declared.query.Items.TheVariants.{All, Each}
use Rattle.sr_ast.specs.declared.query.Item.{Item}
use Rattle.sr_ast.specs.declared.query.Item.TheVariants as item
use Rattle.sr_ast.specs.declared.query.Source.{Source}
use Rattle.sr_ast.specs.declared.query.Join.{Join}
use Rattle.sr_ast.specs.declared.query.OrderBy.{OrderBy}
use Rattle.sr_ast.specs.declared.keyword.Keyword.{Keyword}
use Rattle.sr_ast.specs.declared.keyword.Keyword.TheVariants as key
use Rattle.sr_parse_grammar.specs.declared.symbol.Sign.TheVariants as mark
use Rattle.sr_parse_grammar.specs.declared.symbol.Symbol.{Symbol}
use Rattle.sr_parse_grammar.specs.declared.symbol.Symbol.TheVariants as symbol
use Rattle.sr_parse_grammar.specs.Symbols.{Symbols, sign, IsName, IsWord, IsSign}
use Rattle.sr_parse_grammar.specs.Listing.{Listed}
use Rattle.sr_parse_grammar.specs.Expressions.{IsExpr}
use Rattle.sr_parse_grammar.specs.Writing.{IsLed, IsCondition, IsRow, IsInsert, IsSet, IsUpdate, IsDelete, IsAggregated, IsAggregate, IsItem, IsItems, IsSource, IsJoinWord, IsJoin, IsDirection, IsOrder, IsOrdering, IsSelect}
use Rattle.sr_parse_grammar.specs.Inner.Going.{Stop, Begins, is_dot, expression_goes, is_comma, is_open, is_where, is_as, is_join, is_order, is_direction, Ends}
use Rattle.sr_parse_grammar.proofs.Steps.{Stop-at, Begins-at, Stop-begins, Begins-not, Stop-fewer, IsName-once, Once, two_parts, three_parts, five_parts}
use Rattle.sr_parse_grammar.proofs.Following.{expression_starts}
use Rattle.sr_parse_grammar.proofs.Expressing.{IsExpr-once, IsExpr-starts, column_once}
use Rattle.sr_parse_grammar.proofs.Lists.{Last, End, Listed-once, Listed-begins, Row-once, Row-begins, Any, last, Ends-stop, IsNames-once}

pub expr_once : Once IsExpr (Stop expression_goes)
expr_once before x after y rest h k p q = IsExpr-once refl h k p q

expr_comma : (b n : Symbols) → IsSign b mark.Comma n → Stop expression_goes b
expr_comma b n c = Stop-at expression_goes c refl

pub led_stops : (k : Keyword) {A : Type 0} (X : Symbols → A → Symbols → Type 0) (test : Symbol → Bool) (before : Symbols) (o : Option A) (after : Symbols)
    → test (symbol.Keyword k) ≡ false → IsLed k X before o after → Stop test after → Stop test before
led_stops k X test before None after t h p = subst (λ (s : Symbols). Stop test s) (sym h) p
led_stops k X test before (Some x) after t (next, w, h) p = Stop-at test w t

pub condition_once : (before here : Symbols) (x : Option Expr) (after : Symbols) (y : Option Expr) (rest : Symbols) → before ≡ here → IsCondition before x after → IsCondition here y rest
    → Stop is_where after → Stop is_where rest → Stop expression_goes after → Stop expression_goes rest → (x ≡ y) × (after ≡ rest)
condition_once before here None after None rest e h k p q r s = (refl, cc)
condition_once before here None after (Some y) rest e h (next, w, k) p q r s = absurd (Stop-begins is_where (sym h ∙ (e ∙ w)) refl p)
condition_once before here (Some x) after None rest e (next, w, h) k p q r s = absurd (Stop-begins is_where (sym k ∙ (sym e ∙ w)) refl q)
condition_once before here (Some x) after (Some y) rest e (next, w, h) (next', w', k) p q r s =
    let same : next ≡ next' = cc in let t = IsExpr-once same h k r s in (ap Some t.0, t.1)

pub row_once : {before here after rest : Symbols} {x y : List Expr} → before ≡ here → IsRow before x after → IsRow here y rest → (x ≡ y) × (after ≡ rest)
row_once e h k =
    let ho = h.opened in let ko = k.opened in let hc = h.closed in let kc = k.closed in
    let s = Listed-once IsExpr (Stop expression_goes) expr_once expr_comma (cc) h.values k.values
    (last IsExpr (Stop expression_goes) (Stop-at expression_goes hc refl) (Stop-at is_comma hc refl))
    (last IsExpr (Stop expression_goes) (Stop-at expression_goes kc refl) (Stop-at is_comma kc refl)) in
    let f = s.1 in (s.0, cc)

pub insert_same : (i j : Insert) → i.table ≡ j.table → i.columns ≡ j.columns → i.rows ≡ j.rows → i ≡ j
insert_same i j a b c = three_parts (λ (t : List ℕ) (cs : List (List ℕ)) (rs : List (List Expr)). let x : Insert = record { table = t; columns = cs; rows = rs } in x) a b c

pub insert_once : {before here after rest : Symbols} {i j : Insert} → before ≡ here → IsInsert before i after → IsInsert here j rest → Ends after → Ends rest → (i ≡ j) × (after ≡ rest)
insert_once {after = after} {rest = rest} {i = i} {j = j} e h k p q =
    let hi = h.into in let ki = k.into in let into : h.named ≡ k.named = cc in
    let table = IsName-once into h.table k.table in
    let columns = IsNames-once h.columned k.columned i.columns h.valued j.columns k.valued table.1 h.columns k.columns (Stop-at is_open h.values refl) (Stop-at is_open k.values refl) in
    let hv = h.values in let kv = k.values in let valued = columns.1 in let rowed : h.rowed ≡ k.rowed = cc in
    let rows = Listed-once IsRow Any (λ b x a y r m n s t. row_once refl m n) (λ b n c. tt) rowed h.rows k.rows
    (last IsRow Any tt (Ends-stop is_comma after refl p)) (last IsRow Any tt (Ends-stop is_comma rest refl q)) in
    (insert_same i j table.0 columns.0 rows.0, rows.1)

set_once : Once IsSet (Stop expression_goes)
set_once before x after y rest h k p q =
    let name = IsName-once refl h.name k.name in
    let he = h.equal in let ke = k.equal in let n = name.1 in let equal : h.valued ≡ k.valued = cc in
    let value = IsExpr-once equal h.value k.value p q in
    (two_parts (λ (n : List ℕ) (e : Expr). let s : List ℕ × Expr = (n, e) in s) name.0 value.0, value.1)

-- what stands before a condition at the end of a statement
condition_stops : (test : Symbol → Bool) (before : Symbols) (o : Option Expr) (after : Symbols) → test (symbol.Keyword key.Where) ≡ false → test (symbol.Sign mark.Semicolon) ≡ false → IsCondition before o after → Ends after → Stop test before
condition_stops test before o after t u h p = led_stops key.Where IsExpr test before o after t h (Ends-stop test after u p)

ended_condition : (before here : Symbols) (x : Option Expr) (after : Symbols) (y : Option Expr) (rest : Symbols) → before ≡ here → IsCondition before x after → IsCondition here y rest → Ends after → Ends rest → (x ≡ y) × (after ≡ rest)
ended_condition before here x after y rest e h k p q =
    condition_once before here x after y rest e h k (Ends-stop is_where after refl p) (Ends-stop is_where rest refl q) (Ends-stop expression_goes after refl p) (Ends-stop expression_goes rest refl q)

update_same : (i j : Update) → i.table ≡ j.table → i.sets ≡ j.sets → i.condition ≡ j.condition → i ≡ j
update_same i j a b c = three_parts (λ (t : List ℕ) (ss : List (List ℕ × Expr)) (o : Option Expr). let x : Update = record { table = t; sets = ss; condition = o } in x) a b c

pub update_once : {before here after rest : Symbols} {i j : Update} → before ≡ here → IsUpdate before i after → IsUpdate here j rest → Ends after → Ends rest → (i ≡ j) × (after ≡ rest)
update_once {after = after} {rest = rest} {i = i} {j = j} e h k p q =
    let table = IsName-once e h.table k.table in let n = table.1 in
    let hs = h.set in let ks = k.set in let set : h.sets ≡ k.sets = cc in
    let values = Listed-once IsSet (Stop expression_goes) set_once expr_comma set h.values k.values
    (last IsSet (Stop expression_goes) (condition_stops expression_goes h.where_ i.condition after refl refl h.condition p) (condition_stops is_comma h.where_ i.condition after refl refl h.condition p))
    (last IsSet (Stop expression_goes) (condition_stops expression_goes k.where_ j.condition rest refl refl k.condition q) (condition_stops is_comma k.where_ j.condition rest refl refl k.condition q)) in
    let condition = ended_condition h.where_ k.where_ i.condition after j.condition rest values.1 h.condition k.condition p q in
    (update_same i j table.0 values.0 condition.0, condition.1)

delete_same : (i j : Delete) → i.table ≡ j.table → i.condition ≡ j.condition → i ≡ j
delete_same i j a b = two_parts (λ (t : List ℕ) (o : Option Expr). let x : Delete = record { table = t; condition = o } in x) a b

pub delete_once : {before here after rest : Symbols} {i j : Delete} → before ≡ here → IsDelete before i after → IsDelete here j rest → Ends after → Ends rest → (i ≡ j) × (after ≡ rest)
delete_once {after = after} {rest = rest} {i = i} {j = j} e h k p q =
    let hf = h.from in let kf = k.from in let from : h.named ≡ k.named = cc in
    let table = IsName-once from h.table k.table in
    let condition = ended_condition h.where_ k.where_ i.condition after j.condition rest table.1 h.condition k.condition p q in
    (delete_same i j table.0 condition.0, condition.1)

aggregated_once : {before here after rest : Symbols} {x y : Expr} → before ≡ here → IsAggregated before x after → IsAggregated here y rest → (x ≡ y) × (after ≡ rest)
aggregated_once e h k =
    let ho = h.opened in let ko = k.opened in let hc = h.closed in let kc = k.closed in
    let s = IsExpr-once (cc) h.value k.value (Stop-at expression_goes hc refl) (Stop-at expression_goes kc refl) in let f = s.1 in (s.0, cc)

aggregate_once : (k : Keyword) (before : Symbols) (x : Expr) (after : Symbols) (y : Expr) (rest : Symbols) → IsAggregate k before x after → IsAggregate k before y rest → (x ≡ y) × (after ≡ rest)
aggregate_once k before x after y rest (next, w, h) (next', w', h') = let same : next ≡ next' = cc in aggregated_once same h h'

-- with what an item begins
abbrev pub Heads : Item → Symbols → Type 0
Heads (item.Value e) before = Begins expression_starts before
Heads item.Count before = (next : Symbols) × IsWord before key.Count next
Heads (item.Sum e) before = (next : Symbols) × IsWord before key.Sum next
Heads (item.Min e) before = (next : Symbols) × IsWord before key.Min next
Heads (item.Max e) before = (next : Symbols) × IsWord before key.Max next

pub item_heads : (before : Symbols) (x : Item) (after : Symbols) → IsItem before x after → Heads x before
item_heads before (item.Value e) after h = IsExpr-starts h
item_heads before item.Count after h = (sign mark.Open ∷ sign mark.Times ∷ sign mark.Close ∷ after, h)
item_heads before _ after (next, w, h) = (next, w)

item_once : Once IsItem (Stop expression_goes)
item_once before (item.Value e) after (item.Value f) rest h k p q = let s = IsExpr-once refl h k p q in (ap item.Value s.0, s.1)
item_once before item.Count after item.Count rest h k p q = (refl, cc)
item_once before (item.Sum e) after (item.Sum f) rest h k p q = let s = aggregate_once key.Sum before e after f rest h k in (ap item.Sum s.0, s.1)
item_once before (item.Min e) after (item.Min f) rest h k p q = let s = aggregate_once key.Min before e after f rest h k in (ap item.Min s.0, s.1)
item_once before (item.Max e) after (item.Max f) rest h k p q = let s = aggregate_once key.Max before e after f rest h k in (ap item.Max s.0, s.1)
item_once before (item.Value e) after y rest h k p q = absurd (Begins-not expression_starts (item_heads before y rest k).1 refl (IsExpr-starts h))
item_once before x after (item.Value f) rest h k p q = absurd (Begins-not expression_starts (item_heads before x after h).1 refl (IsExpr-starts k))
item_once before x after y rest h k p q = let s = (item_heads before x after h).1 in let t = (item_heads before y rest k).1 in absurd (cc)

-- no item begins with `*`
not_times : Symbols → Type 0
not_times before = (next : Symbols) → IsSign before mark.Times next → ⊥

item_begins : (before : Symbols) (x : Item) (after : Symbols) → IsItem before x after → not_times before
unfolding not_times
item_begins before (item.Value e) after h next t = Begins-not expression_starts t refl (IsExpr-starts h)
item_begins before x after h next t = let s = (item_heads before x after h).1 in cc

pub items_no_times : (before next : Symbols) (xs : List Item) (after : Symbols) → Listed IsItem before xs after → IsSign before mark.Times next → ⊥
unfolding not_times
items_no_times before next xs after h t = Listed-begins not_times item_begins h next t

items_last : {after next : Symbols} → IsWord after key.From next → Last IsItem (Stop expression_goes) after
items_last w = last IsItem (Stop expression_goes) (Stop-at expression_goes w refl) (Stop-at is_comma w refl)

items_once : (before : Symbols) (x : Items) (after behind : Symbols) (y : Items) (rest other : Symbols) → IsItems before x after → IsItems before y rest → IsWord after key.From behind → IsWord rest key.From other → (x ≡ y) × (after ≡ rest)
items_once before All after behind All rest other h k p q = (refl, cc)
items_once before All after behind (Each ys) rest other h k p q = absurd (items_no_times before after ys rest k h)
items_once before (Each xs) after behind All rest other h k p q = absurd (items_no_times before rest xs after h k)
items_once before (Each xs) after behind (Each ys) rest other h k p q =
    let s = Listed-once IsItem (Stop expression_goes) item_once expr_comma refl h k (items_last p) (items_last q) in (ap Each s.0, s.1)

alias_once : (before here : Symbols) (x : Option (List ℕ)) (after : Symbols) (y : Option (List ℕ)) (rest : Symbols) → before ≡ here → IsLed key.As IsName before x after → IsLed key.As IsName here y rest
    → Stop is_as after → Stop is_as rest → (x ≡ y) × (after ≡ rest)
alias_once before here None after None rest e h k p q = (refl, cc)
alias_once before here None after (Some y) rest e h (next, w, k) p q = absurd (Stop-begins is_as (sym h ∙ (e ∙ w)) refl p)
alias_once before here (Some x) after None rest e (next, w, h) k p q = absurd (Stop-begins is_as (sym k ∙ (sym e ∙ w)) refl q)
alias_once before here (Some x) after (Some y) rest e (next, w, h) (next', w', k) p q =
    let same : next ≡ next' = cc in let t = IsName-once same h k in (ap Some t.0, t.1)

source_same : (s t : Source) → s.table ≡ t.table → s.alias ≡ t.alias → s ≡ t
source_same s t a b = two_parts (λ (n : List ℕ) (o : Option (List ℕ)). let x : Source = record { table = n; alias = o } in x) a b

source_once : {before here after rest : Symbols} {s t : Source} → before ≡ here → IsSource before s after → IsSource here t rest → Stop is_as after → Stop is_as rest → (s ≡ t) × (after ≡ rest)
source_once {after = after} {rest = rest} {s = s} {t = t} e h k p q =
    let table = IsName-once e h.table k.table in
    let alias = alias_once h.named k.named s.alias after t.alias rest table.1 h.alias k.alias p q in (source_same s t table.0 alias.0, alias.1)

join_word_once : (before here after rest : Symbols) → before ≡ here → IsJoinWord before after → IsJoinWord here rest → after ≡ rest
join_word_once before here after rest e (inl h) (inl k) = cc
join_word_once before here after rest e (inl h) (inr k) = absurd (cc)
join_word_once before here after rest e (inr h) (inl k) = absurd (cc)
join_word_once before here after rest e (inr h) (inr k) = cc

pub join_word_begins : (test : Symbol → Bool) (before after : Symbols) → test (symbol.Keyword key.Join) ≡ false → test (symbol.Keyword key.Inner) ≡ false → IsJoinWord before after → Stop test before
join_word_begins test before after t u (inl h) = Stop-at test h t
join_word_begins test before after t u (inr h) = Stop-at test h u

pub join_word_is : (before after : Symbols) → IsJoinWord before after → Begins is_join before
join_word_is before after (inl h) = Begins-at is_join h refl
join_word_is before after (inr h) = Begins-at is_join h refl

join_same : (s t : Join) → s.source ≡ t.source → s.condition ≡ t.condition → s ≡ t
join_same s t a b = two_parts (λ (n : Source) (e : Expr). let x : Join = record { source = n; condition = e } in x) a b

join_once : Once IsJoin (Stop expression_goes)
join_once before x after y rest h k p q =
    let joined = join_word_once before before h.joined k.joined refl h.join k.join in
    let hb = h.behind in let kb = k.behind in
    let source = source_once joined h.source k.source (Stop-at is_as hb refl) (Stop-at is_as kb refl) in
    let on = source.1 in let condition : h.condition ≡ k.condition = cc in
    let test = IsExpr-once condition h.test k.test p q in (join_same x y source.0 test.0, test.1)

pub clash : (test : Symbol → Bool) (before : Symbols) → Begins test before → Stop test before → ⊥
clash test [] b s = b
clash test (x ∷ before) b s = let e : true ≡ false = cc in cc

joins_end : (after : Symbols) → Stop expression_goes after → Stop is_join after → End IsJoin (Stop expression_goes) after
joins_end after p s = record { stops = p; ends = λ y rest h. clash is_join after (join_word_is after h.joined h.join) s }

direction_once : (before here : Symbols) (x : Bool) (after : Symbols) (y : Bool) (rest : Symbols) → before ≡ here → IsDirection before x after → IsDirection here y rest → Stop is_direction after → Stop is_direction rest → (x ≡ y) × (after ≡ rest)
direction_once before here true after true rest e h k p q = (refl, cc)
direction_once before here true after false rest e h (inl k) p q = absurd (Stop-begins is_direction (sym k ∙ (sym e ∙ h)) refl q)
direction_once before here true after false rest e h (inr k) p q = absurd (cc)
direction_once before here false after true rest e (inl h) k p q = absurd (Stop-begins is_direction (sym h ∙ (e ∙ k)) refl p)
direction_once before here false after true rest e (inr h) k p q = absurd (cc)
direction_once before here false after false rest e (inl h) (inl k) p q = (refl, cc)
direction_once before here false after false rest e (inl h) (inr k) p q = absurd (Stop-begins is_direction (sym h ∙ (e ∙ k)) refl p)
direction_once before here false after false rest e (inr h) (inl k) p q = absurd (Stop-begins is_direction (sym k ∙ (sym e ∙ h)) refl q)
direction_once before here false after false rest e (inr h) (inr k) p q = (refl, cc)

undotted : (s : Symbol) → is_direction s ≡ false → is_dot s ≡ false
undotted (symbol.Sign mark.Dot) h = h
undotted s h = refl

pub direction_stops : (before : Symbols) (x : Bool) (after : Symbols) → IsDirection before x after → Stop is_direction after → Stop is_dot before
direction_stops before true after h p = Stop-at is_dot h refl
direction_stops before false after (inl h) p = subst (λ (s : Symbols). Stop is_dot s) (sym h) (Stop-fewer is_direction is_dot after undotted p)
direction_stops before false after (inr h) p = Stop-at is_dot h refl

order_same : (s t : OrderBy) → s.table ≡ t.table → s.column ≡ t.column → s.descending ≡ t.descending → s ≡ t
order_same s t a b c = three_parts (λ (o : Option (List ℕ)) (n : List ℕ) (d : Bool). let x : OrderBy = record { table = o; column = n; descending = d } in x) a b c

order_once : Once IsOrder (Stop is_direction)
order_once before x after y rest h k p q =
    let column = column_once before x.table x.column h.directed y.table y.column k.directed h.column k.column
    (direction_stops h.directed x.descending after h.direction p) (direction_stops k.directed y.descending rest k.direction q) in
    let direction = direction_once h.directed k.directed x.descending after y.descending rest column.2 h.direction k.direction p q in
    (order_same x y column.0 column.1 direction.0, direction.1)

order_last : (after : Symbols) → Ends after → Last IsOrder (Stop is_direction) after
order_last after p = last IsOrder (Stop is_direction) (Ends-stop is_direction after refl p) (Ends-stop is_comma after refl p)

ordering_once : (before here : Symbols) (x : List OrderBy) (after : Symbols) (y : List OrderBy) (rest : Symbols) → before ≡ here → IsOrdering before x after → IsOrdering here y rest → Ends after → Ends rest → (x ≡ y) × (after ≡ rest)
ordering_once before here x after y rest e (inl (n, a)) (inl (m, b)) p q = (cc, cc)
ordering_once before here x after y rest e (inl (n, a)) (inr k) p q = absurd (Stop-begins is_order (sym a ∙ (e ∙ k.order_by)) refl (Ends-stop is_order after refl p))
ordering_once before here x after y rest e (inr h) (inl (m, b)) p q = absurd (Stop-begins is_order (sym b ∙ (sym e ∙ h.order_by)) refl (Ends-stop is_order rest refl q))
ordering_once before here x after y rest e (inr h) (inr k) p q =
    let ho = h.order_by in let ko = k.order_by in let next : h.next ≡ k.next = cc in
    Listed-once IsOrder (Stop is_direction) order_once (λ b n c. Stop-at is_direction c refl) next h.listed k.listed (order_last after p) (order_last rest q)

pub ordering_stops : (test : Symbol → Bool) (before : Symbols) (x : List OrderBy) (after : Symbols) → test (symbol.Keyword key.Order) ≡ false → test (symbol.Sign mark.Semicolon) ≡ false → IsOrdering before x after → Ends after → Stop test before
ordering_stops test before x after t u (inl (n, a)) p = subst (λ (s : Symbols). Stop test s) (sym a) (Ends-stop test after u p)
ordering_stops test before x after t u (inr h) p = Stop-at test h.order_by t

pub select_same : (s t : Select) → s.items ≡ t.items → s.source ≡ t.source → s.joins ≡ t.joins → s.condition ≡ t.condition → s.order ≡ t.order → s ≡ t
select_same s t a b c d e =
    five_parts (λ (i : Items) (f : Source) (js : List Join) (o : Option Expr) (os : List OrderBy). let x : Select = record { items = i; source = f; joins = js; condition = o; order = os } in x) a b c d e

-- what stands before the condition and the order of a SELECT
pub select_stops : (test : Symbol → Bool) {before after : Symbols} {s : Select} → test (symbol.Keyword key.Where) ≡ false → test (symbol.Keyword key.Order) ≡ false → test (symbol.Sign mark.Semicolon) ≡ false
    → (h : IsSelect before s after) → Ends after → Stop test h.where_
select_stops test {after = after} {s = s} t u v h p =
    led_stops key.Where IsExpr test h.where_ s.condition h.ordered t h.condition (ordering_stops test h.ordered s.order after u v h.order p)

pub joins_stop : {before after : Symbols} {s : Select} → (h : IsSelect before s after) → Ends after → Stop is_as h.joins
joins_stop h p = Row-begins (Stop is_as) (λ b x a j. join_word_begins is_as b j.joined refl refl j.join) h.joined (select_stops is_as refl refl refl h p)

pub select_once : {before here after rest : Symbols} {s t : Select} → before ≡ here → IsSelect before s after → IsSelect here t rest → Ends after → Ends rest → (s ≡ t) × (after ≡ rest)
select_once {before = before} {here = here} {after = after} {rest = rest} {s = s} {t = t} e h k p q =
    let items = items_once before s.items h.from h.sources t.items k.from k.sources h.items (subst (λ (b : Symbols). IsItems b t.items k.from) (sym e) k.items) h.behind k.behind in
    let hb = h.behind in let kb = k.behind in let from = items.1 in let sources : h.sources ≡ k.sources = cc in
    let source = source_once sources h.source k.source (joins_stop h p) (joins_stop k q) in
    let joins = Row-once IsJoin (Stop expression_goes) join_once (λ b x a j. join_word_begins expression_goes b j.joined refl refl j.join) source.1 h.joined k.joined
    (joins_end h.where_ (select_stops expression_goes refl refl refl h p) (select_stops is_join refl refl refl h p))
    (joins_end k.where_ (select_stops expression_goes refl refl refl k q) (select_stops is_join refl refl refl k q)) in
    let condition = condition_once h.where_ k.where_ s.condition h.ordered t.condition k.ordered joins.1 h.condition k.condition
    (ordering_stops is_where h.ordered s.order after refl refl h.order p) (ordering_stops is_where k.ordered t.order rest refl refl k.order q)
    (ordering_stops expression_goes h.ordered s.order after refl refl h.order p) (ordering_stops expression_goes k.ordered t.order rest refl refl k.order q) in
    let order = ordering_once h.ordered k.ordered s.order after t.order rest condition.1 h.order k.order p q in
    (select_same s t items.0 source.0 joins.0 condition.0 order.0, order.1)
