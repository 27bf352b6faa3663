-- What the symbols of a text spell is in normal form: expressions and statements.
use Rattle.std.proofs.Common.{◌≡◌, ℕ, Bool, true, false, List, ◌∷◌, Option, Some, None, sym, subst, inl, inr}
use Rattle.std.specs.List.{AllByRecursion}
use Rattle.sr_ast.specs.Terms.{Term}
use Rattle.sr_ast.specs.declared.operator.Unary.{Unary}
use Rattle.sr_ast.specs.declared.operator.Unary.TheVariants as op
use Rattle.sr_ast.specs.declared.operator.Binary.{Binary}
use Rattle.sr_ast.specs.declared.query.Items.TheVariants.{All, Each}
use Rattle.sr_ast.specs.declared.query.Item.TheVariants as item
use Rattle.sr_ast.specs.declared.keyword.Keyword.{Keyword}
use Rattle.sr_ast.specs.declared.keyword.Keyword.TheVariants as key
use Rattle.sr_parse_grammar.specs.declared.symbol.Symbol.{Symbol}
use Rattle.sr_parse_grammar.specs.Symbols.{Symbols, IsName}
use Rattle.sr_parse_grammar.specs.Expressions.{Tightness, Operator, IsNullTest, IsColumn, Reads, IsExpr}
use Rattle.sr_parse_grammar.specs.Expressions.Reads.{loose, joined, not, compared, null_test, negative, minus, single, named, inside}
use Rattle.sr_parse_grammar.specs.Writing.{IsLed, IsCondition, IsRow, IsInsert, IsSet, IsUpdate, IsDelete, IsAggregate, IsItem, IsItems, IsSource, IsJoinWord, IsJoin, IsDirection, IsOrder, IsOrdering, IsSelect}
use Rattle.sr_ast.specs.Normal.{IsPlain, IsNoneOr, IsSomeOf, IsPlainColumn, IsNormalTerm, IsNormalExpr}
use Rattle.sr_ast.specs.NormalForms.{IsNormalInsert, IsNormalSet, IsNormalUpdate, IsNormalDelete, IsNormalItem, AreNormalItems, IsNormalSource, IsNormalJoin, IsNormalOrder, IsNormalSelect}
use Rattle.sr_parse_grammar.proofs.Listed.{all_of}
use Rattle.sr_parse_grammar.proofs.Sound.{AreSound, Gives, past, moved, name_gives, literal_gives, negative_gives, listed_gives, row_gives, names_gives}

-- ---- expressions

pub past_two : {before after : Symbols} {s t : Symbol} → before ≡ s ∷ t ∷ after → AreSound before → AreSound after
past_two e h = (subst AreSound e h).1.1

past_operator : {meant : Symbol → Option Binary} {before after : Symbols} {b : Binary} → Operator meant before b after → AreSound before → AreSound after
past_operator o h = (past o.stands h).1

past_null : (u : Unary) (before after : Symbols) → IsNullTest before u after → AreSound before → AreSound after
past_null op.IsNull before after e h = (past e h).1
past_null op.IsNotNull before after e h = past_two e h
past_null op.Not before after e h = absurd e
past_null op.Negate before after e h = absurd e

pub column_gives : (table : Option (List ℕ)) (name : List ℕ) (before after : Symbols) → IsColumn before table name after → AreSound before → IsPlainColumn table name × AreSound after
column_gives None name b a x h = let p = name_gives b a name x h in ((tt, p.0), p.1)
column_gives (Some table) name b a (dot, next, t, d, n) h =
    let p = name_gives b dot table t h in
    let q = name_gives next a name n (past d p.1).1 in
    ((p.0, q.0), q.1)

reads_gives : {k : Tightness} {room : ℕ} {before after : Symbols} {t : Term} → Reads k room before t after → AreSound before → IsNormalTerm t × AreSound after
reads_gives (loose r) h = reads_gives r h
reads_gives (joined a o b) h =
    let p = reads_gives a h in
    let q = reads_gives b (past_operator o p.1) in
    ((p.0, q.0), q.1)
reads_gives (not w a) h = reads_gives a (past w h).1
reads_gives (compared a o b) h =
    let p = reads_gives a h in
    let q = reads_gives b (past_operator o p.1) in
    ((p.0, q.0), q.1)
reads_gives (null_test {op = u} a w n) h = let p = reads_gives a h in (p.0, past_null u _ _ n (past w p.1).1)
reads_gives {after = after} (negative {next = n} {v = v} s x) h = negative_gives n after v x (past s h).1
reads_gives (minus s n a) h = reads_gives a (past s h).1
reads_gives {before = b} {after = a} (single {v = v} l) h = literal_gives b a v l h
reads_gives {before = b} {after = a} (named {table = table} {name = name} c) h = column_gives table name b a c h
reads_gives (inside p o t c) h = let q = reads_gives t (past o h).1 in (q.0, (past c q.1).1)

pub expr_gives : Gives IsExpr IsNormalExpr
expr_gives before after e x h = let p = reads_gives x.reads h in ((p.0, x.shallow), p.1)

-- ---- parts of statements

pub led_gives : {A : Type 0} (X : Symbols → A → Symbols → Type 0) (P : A → Type 0) → Gives X P → (k : Keyword) → Gives (IsLed k X) (IsNoneOr P)
led_gives X P gives k before after None e h = (tt, moved e h)
led_gives X P gives k before after (Some x) (next, w, i) h = gives next after x i (past w h).1

pub condition_gives : Gives IsCondition (IsNoneOr IsNormalExpr)
condition_gives = led_gives IsExpr IsNormalExpr expr_gives key.Where

pub row_of_gives : Gives IsRow (IsSomeOf IsNormalExpr)
row_of_gives before after row x h =
    let l = listed_gives IsExpr IsNormalExpr expr_gives x.inside x.close row x.values (past x.opened h).1 in
    (l.0, (past x.closed l.1).1)

-- ---- rows

pub insert_gives : Gives IsInsert IsNormalInsert
insert_gives before after i x h =
    let t = name_gives x.named x.columned i.table x.table (past x.into h).1 in
    let c = names_gives x.columned x.valued i.columns x.columns t.1 in
    let r = listed_gives IsRow (IsSomeOf IsNormalExpr) row_of_gives x.rowed after i.rows x.rows (past x.values c.1).1 in
    (record { table = t.0; columns = c.0; rows = r.0 }, r.1)

set_gives : Gives IsSet IsNormalSet
set_gives before after s x h =
    let n = name_gives before x.named s.0 x.name h in
    let e = expr_gives x.valued after s.1 x.value (past x.equal n.1).1 in
    ((n.0, e.0), e.1)

pub update_gives : Gives IsUpdate IsNormalUpdate
update_gives before after u x h =
    let t = name_gives before x.named u.table x.table h in
    let s = listed_gives IsSet IsNormalSet set_gives x.sets x.where_ u.sets x.values (past x.set t.1).1 in
    let c = condition_gives x.where_ after u.condition x.condition s.1 in
    (record { table = t.0; sets = s.0; condition = c.0 }, c.1)

pub delete_gives : Gives IsDelete IsNormalDelete
delete_gives before after d x h =
    let t = name_gives x.named x.where_ d.table x.table (past x.from h).1 in
    let c = condition_gives x.where_ after d.condition x.condition t.1 in
    ((t.0, c.0), c.1)

aggregate_gives : (k : Keyword) → Gives (IsAggregate k) IsNormalExpr
aggregate_gives k before after e (next, w, x) h =
    let p = expr_gives x.inside x.close e x.value (past x.opened (past w h).1).1 in
    (p.0, (past x.closed p.1).1)

item_gives : Gives IsItem IsNormalItem
item_gives before after (item.Value e) x h = expr_gives before after e x h
item_gives before after item.Count x h = (tt, (subst AreSound x h).1.1.1.1)
item_gives before after (item.Sum e) x h = aggregate_gives key.Sum before after e x h
item_gives before after (item.Min e) x h = aggregate_gives key.Min before after e x h
item_gives before after (item.Max e) x h = aggregate_gives key.Max before after e x h

items_gives : Gives IsItems AreNormalItems
items_gives before after All x h = (tt, (past x h).1)
items_gives before after (Each items) x h = listed_gives IsItem IsNormalItem item_gives before after items x h

source_gives : Gives IsSource IsNormalSource
source_gives before after s x h =
    let t = name_gives before x.named s.table x.table h in
    let a = led_gives IsName IsPlain name_gives key.As x.named after s.alias x.alias t.1 in
    ((t.0, a.0), a.1)

past_join : {before after : Symbols} → IsJoinWord before after → AreSound before → AreSound after
past_join (inl w) h = (past w h).1
past_join (inr w) h = past_two w h

join_gives : Gives IsJoin IsNormalJoin
join_gives before after j x h =
    let s = source_gives x.joined x.on j.source x.source (past_join x.join h) in
    let e = expr_gives x.condition after j.condition x.test (past x.behind s.1).1 in
    ((s.0, e.0), e.1)

past_direction : (d : Bool) (before after : Symbols) → IsDirection before d after → AreSound before → AreSound after
past_direction true before after w h = (past w h).1
past_direction false before after (inl e) h = moved e h
past_direction false before after (inr w) h = (past w h).1

order_gives : Gives IsOrder IsNormalOrder
order_gives before after o x h = let c = column_gives o.table o.column before x.directed x.column h in (c.0, past_direction o.descending x.directed after x.direction c.1)

ordering_gives : Gives IsOrdering (AllByRecursion IsNormalOrder)
ordering_gives before after order (inl (e, b)) h = (subst (AllByRecursion IsNormalOrder) (sym e) tt, moved b h)
ordering_gives before after order (inr x) h =
    let l = listed_gives IsOrder IsNormalOrder order_gives x.next after order x.listed (past_two x.order_by h) in
    (all_of IsNormalOrder order l.0, l.1)

pub select_gives : Gives IsSelect IsNormalSelect
select_gives before after s x h =
    let i = items_gives before x.from s.items x.items h in
    let t = source_gives x.sources x.joins s.source x.source (past x.behind i.1).1 in
    let j = row_gives IsJoin IsNormalJoin join_gives x.joins x.where_ s.joins x.joined t.1 in
    let c = condition_gives x.where_ x.ordered s.condition x.condition j.1 in
    let o = ordering_gives x.ordered after s.order x.order c.1 in
    (record { items = i.0; source = t.0; joins = j.0; few = x.few; condition = c.0; order = o.0 }, o.1)
