-- Statements on rows in print spell themselves.
use Rattle.std.proofs.Common.{◌≡◌, ℕ, Bool, true, false, List, [], ◌∷◌, ◌++◌, Option, Some, None, refl, inl, inr, codes}
use Rattle.std.specs.List.{AllByRecursion}
use Rattle.sr_ast.specs.Pages.{Piece, word, close_parenthesis, listed, in_row, led}
use Rattle.sr_ast.specs.Printing.{name_pieces, column_pieces, names_pieces, expr_pieces}
use Rattle.sr_ast.specs.Layout.{words_if, row_of_exprs_pieces, insert_pieces, set_pieces, update_pieces, delete_pieces, aggregate_pieces, item_pieces, items_pieces, source_pieces, join_pieces, order_pieces, ordered_pieces, select_pieces}
use Rattle.sr_ast.specs.declared.expr.Expr.{Expr}
use Rattle.sr_ast.specs.declared.operator.Binary.TheVariants.{Equal, Multiply}
use Rattle.sr_ast.specs.declared.query.Insert.{Insert}
use Rattle.sr_ast.specs.declared.query.Update.{Update}
use Rattle.sr_ast.specs.declared.query.Delete.{Delete}
use Rattle.sr_ast.specs.declared.query.Select.{Select}
use Rattle.sr_ast.specs.declared.query.Items.{Items}
use Rattle.sr_ast.specs.declared.query.Items.TheVariants.{All, Each}
use Rattle.sr_ast.specs.declared.query.Item.{Item}
use Rattle.sr_ast.specs.declared.query.Item.TheVariants as item
use Rattle.sr_ast.specs.declared.query.Source.{Source}
use Rattle.sr_ast.specs.declared.query.Join.{Join}
use Rattle.sr_ast.specs.declared.query.OrderBy.{OrderBy}
use Rattle.sr_ast.specs.declared.keyword.Keyword.{Keyword}
use Rattle.sr_ast.specs.declared.keyword.Keyword.TheVariants as key
use Rattle.sr_parse_grammar.specs.declared.symbol.Sign.TheVariants as mark
use Rattle.sr_parse_grammar.specs.Symbols.{Symbols, IsName, word as key_symbol, sign}
use Rattle.sr_parse_grammar.specs.Listing.{Listed, Row, IsNames}
use Rattle.sr_parse_grammar.specs.Expressions.{IsExpr, IsColumn}
use Rattle.sr_parse_grammar.specs.Writing.{IsLed, IsCondition, IsRow, IsInsert, IsSet, IsUpdate, IsDelete, IsAggregate, IsItem, IsItems, IsSource, IsJoin, IsDirection, IsOrder, IsOrdering, IsSelect}
use Rattle.sr_parse_grammar.specs.Scripts.{IsBehind}
use Rattle.sr_ast.specs.Normal.{IsNoneOr, IsSomeOf, IsPlain, IsNormalExpr}
use Rattle.sr_ast.specs.NormalForms.{IsNormalInsert, IsNormalSet, IsNormalUpdate, IsNormalDelete, IsNormalItem, AreNormalItems, IsNormalSource, IsNormalJoin, IsNormalOrder, IsNormalSelect}
use Rattle.sr_ast.specs.Keywords.{spelling}
use Rattle.sr_parse_grammar.proofs.Saying.{Says, Spelt, word_says, phrase_says, regrouped, call_parenthesis_says, close_parenthesis_says}
use Rattle.sr_parse_grammar.proofs.Listed.{listed_spelt, row_spelt as in_row_spelt, enclosed}
use Rattle.sr_parse_grammar.proofs.Naming.{name_spelt, names_spelt, column_spelt}
use Rattle.sr_parse_grammar.proofs.Termed.{expr_spelt, operator_lexeme}

-- one production, before the pieces of others
pub ahead : {A : Type 0} (X : Symbols → A → Symbols → Type 0) (x : A) (xs : List Piece) → Spelt X x xs → (ys ps : List Piece) (middle : Symbols) → Says (ys ++ ps) middle
    → (before : Symbols) × Says ((xs ++ ys) ++ ps) before × X before x middle
ahead X x xs spelt ys ps middle h = let s = spelt (ys ++ ps) middle h in (s.0, regrouped xs ys ps s.1, s.2)

-- what stands behind a key word, or nothing
pub led_spelt : {A : Type 0} (X : Symbols → A → Symbols → Type 0) (P : A → Type 0) (f : A → List Piece) → ((x : A) → P x → Spelt X x (f x))
    → (words : List ℕ) (k : Keyword) → words ≡ spelling k → (o : Option A) → IsNoneOr P o → Spelt (IsLed k X) o (led words f o)
led_spelt X P f spelt words k e None p ps after h = (after, h, refl)
led_spelt X P f spelt words k e (Some x) p ps after h = let s = spelt x p ps after h in (key_symbol k ∷ s.0, phrase_says words k [] e s.1, (s.0, refl, s.2))

pub condition_spelt : (c : Option Expr) → IsNoneOr IsNormalExpr c → Spelt IsCondition c (led (codes "WHERE") expr_pieces c)
condition_spelt c p = led_spelt IsExpr IsNormalExpr expr_pieces expr_spelt (codes "WHERE") key.Where refl c p

pub row_spelt : (row : List Expr) → IsSomeOf IsNormalExpr row → Spelt IsRow row (row_of_exprs_pieces row)
row_spelt row p ps after h =
    let e = enclosed (Listed IsExpr) row (listed expr_pieces row) (listed_spelt IsExpr IsNormalExpr expr_pieces expr_spelt row p) ps after h in
    (sign mark.Open ∷ e.inside, e.says, record { inside = e.inside; close = e.close; opened = refl; values = e.is; closed = e.closed })

pub insert_spelt : (i : Insert) → IsNormalInsert i → Spelt (IsBehind key.Insert IsInsert) i (insert_pieces i)
unfolding insert_pieces
insert_spelt i p ps after h =
    let rows = listed row_of_exprs_pieces i.rows in
    let r = listed_spelt IsRow (IsSomeOf IsNormalExpr) row_of_exprs_pieces row_spelt i.rows p.rows ps after h in
    let v = phrase_says (codes "VALUES") key.Values [] refl r.1 in
    let n = ahead IsNames i.columns (names_pieces i.columns) (names_spelt i.columns p.columns) (word (codes "VALUES") ∷ rows) ps (key_symbol key.Values ∷ r.0) v in
    let t = name_spelt i.table p.table ((names_pieces i.columns ++ word (codes "VALUES") ∷ rows) ++ ps) n.0 n.1 in (
      key_symbol key.Insert ∷ key_symbol key.Into ∷ t.0,
      phrase_says (codes "INSERT INTO") key.Insert (key.Into ∷ []) refl t.1,
      (
        key_symbol key.Into ∷ t.0,
        refl,
        record {
          named = t.0;
          columned = n.0;
          valued = key_symbol key.Values ∷ r.0;
          rowed = r.0;
          into = refl;
          table = t.2;
          columns = n.2;
          values = refl;
          rows = r.2;
        },
      ),
    )

set_spelt : (s : List ℕ × Expr) → IsNormalSet s → Spelt IsSet s (set_pieces s)
unfolding set_pieces
set_spelt s p ps after h =
    let e = expr_spelt s.1 p.1 ps after h in
    let q = word_says (codes "=") (sign mark.Equal) (operator_lexeme Equal) e.1 in
    let n = name_spelt s.0 p.0 (word (codes "=") ∷ (expr_pieces s.1 ++ ps)) (sign mark.Equal ∷ e.0) q in
    (n.0, n.1, record { named = sign mark.Equal ∷ e.0; valued = e.0; name = n.2; equal = refl; value = e.2 })

pub update_spelt : (u : Update) → IsNormalUpdate u → Spelt (IsBehind key.Update IsUpdate) u (update_pieces u)
unfolding update_pieces
update_spelt u p ps after h =
    let where_ = led (codes "WHERE") expr_pieces u.condition in
    let c = condition_spelt u.condition p.condition ps after h in
    let s = ahead (Listed IsSet) u.sets (listed set_pieces u.sets) (listed_spelt IsSet IsNormalSet set_pieces set_spelt u.sets p.sets) where_ ps c.0 c.1 in
    let w = phrase_says (codes "SET") key.Set [] refl s.1 in
    let t = name_spelt u.table p.table (word (codes "SET") ∷ ((listed set_pieces u.sets ++ where_) ++ ps)) (key_symbol key.Set ∷ s.0) w in (
      key_symbol key.Update ∷ t.0,
      phrase_says (codes "UPDATE") key.Update [] refl t.1,
      (t.0, refl, record { named = key_symbol key.Set ∷ s.0; sets = s.0; where_ = c.0; table = t.2; set = refl; values = s.2; condition = c.2 }),
    )

pub delete_spelt : (d : Delete) → IsNormalDelete d → Spelt (IsBehind key.Delete IsDelete) d (delete_pieces d)
unfolding delete_pieces
delete_spelt d p ps after h =
    let c = condition_spelt d.condition p.1 ps after h in
    let t = name_spelt d.table p.0 (led (codes "WHERE") expr_pieces d.condition ++ ps) c.0 c.1 in (
      key_symbol key.Delete ∷ key_symbol key.From ∷ t.0,
      phrase_says (codes "DELETE FROM") key.Delete (key.From ∷ []) refl t.1,
      (key_symbol key.From ∷ t.0, refl, record { named = t.0; where_ = c.0; from = refl; table = t.2; condition = c.2 }),
    )

-- ---- SELECT

aggregate_spelt : (words : List ℕ) (k : Keyword) → words ≡ spelling k → (e : Expr) → IsNormalExpr e → Spelt (IsAggregate k) e (aggregate_pieces words e)
aggregate_spelt words k is e p ps after h =
    let x = ahead IsExpr e (expr_pieces e) (expr_spelt e p) (close_parenthesis ∷ []) ps (sign mark.Close ∷ after) (close_parenthesis_says h) in (
      key_symbol k ∷ sign mark.Open ∷ x.0,
      phrase_says words k [] is (call_parenthesis_says x.1),
      (sign mark.Open ∷ x.0, refl, record { inside = x.0; close = sign mark.Close ∷ after; opened = refl; value = x.2; closed = refl }),
    )

item_spelt : (i : Item) → IsNormalItem i → Spelt IsItem i (item_pieces i)
unfolding item_pieces
item_spelt (item.Value e) p ps after h = expr_spelt e p ps after h
item_spelt item.Count p ps after h = (
  key_symbol key.Count ∷ sign mark.Open ∷ sign mark.Times ∷ sign mark.Close ∷ after,
  phrase_says (codes "COUNT") key.Count [] refl (call_parenthesis_says (word_says (codes "*") (sign mark.Times) (operator_lexeme Multiply) (close_parenthesis_says h))),
  refl,
)
item_spelt (item.Sum e) p ps after h = aggregate_spelt (codes "SUM") key.Sum refl e p ps after h
item_spelt (item.Min e) p ps after h = aggregate_spelt (codes "MIN") key.Min refl e p ps after h
item_spelt (item.Max e) p ps after h = aggregate_spelt (codes "MAX") key.Max refl e p ps after h

items_spelt : (i : Items) → AreNormalItems i → Spelt IsItems i (items_pieces i)
items_spelt All p ps after h = (sign mark.Times ∷ after, word_says (codes "*") (sign mark.Times) (operator_lexeme Multiply) h, refl)
items_spelt (Each items) p ps after h = listed_spelt IsItem IsNormalItem item_pieces item_spelt items p ps after h

source_spelt : (s : Source) → IsNormalSource s → Spelt IsSource s (source_pieces s)
unfolding source_pieces
source_spelt s p ps after h =
    let a = led_spelt IsName IsPlain name_pieces name_spelt (codes "AS") key.As refl s.alias p.1 ps after h in
    let t = name_spelt s.table p.0 (led (codes "AS") name_pieces s.alias ++ ps) a.0 a.1 in
    (t.0, t.1, record { named = a.0; table = t.2; alias = a.2 })

join_spelt : (j : Join) → IsNormalJoin j → Spelt IsJoin j (join_pieces j)
unfolding join_pieces
join_spelt j p ps after h =
    let e = expr_spelt j.condition p.1 ps after h in
    let o = phrase_says (codes "ON") key.On [] refl e.1 in
    let s = ahead IsSource j.source (source_pieces j.source) (source_spelt j.source p.0) (word (codes "ON") ∷ expr_pieces j.condition) ps (key_symbol key.On ∷ e.0) o in (
      key_symbol key.Join ∷ s.0,
      phrase_says (codes "JOIN") key.Join [] refl s.1,
      record { joined = s.0; on = key_symbol key.On ∷ e.0; condition = e.0; join = inl refl; source = s.2; behind = refl; test = e.2 },
    )

direction_spelt : (d : Bool) → Spelt IsDirection d (words_if d (codes "DESC"))
direction_spelt true ps after h = (key_symbol key.Desc ∷ after, phrase_says (codes "DESC") key.Desc [] refl h, refl)
direction_spelt false ps after h = (after, h, inl refl)

order_spelt : (o : OrderBy) → IsNormalOrder o → Spelt IsOrder o (order_pieces o)
unfolding order_pieces
order_spelt o p ps after h =
    let d = direction_spelt o.descending ps after h in
    let c = ahead (λ before name after. IsColumn before o.table name after) o.column (column_pieces o.table o.column) (column_spelt o.table o.column p) (words_if o.descending (codes "DESC")) ps d.0 d.1 in
    (c.0, c.1, record { directed = d.0; column = c.2; direction = d.2 })

ordering_spelt : (order : List OrderBy) → AllByRecursion IsNormalOrder order → Spelt IsOrdering order (ordered_pieces order)
ordering_spelt [] p ps after h = (after, h, inl (refl, refl))
ordering_spelt (o ∷ os) p ps after h =
    let l = listed_spelt IsOrder IsNormalOrder order_pieces order_spelt (o ∷ os) p ps after h in (
      key_symbol key.Order ∷ key_symbol key.By ∷ l.0,
      phrase_says (codes "ORDER BY") key.Order (key.By ∷ []) refl l.1,
      inr (record { next = l.0; order_by = refl; listed = l.2 }),
    )

pub select_spelt : (s : Select) → IsNormalSelect s → Spelt (IsBehind key.Select IsSelect) s (select_pieces s)
unfolding select_pieces
select_spelt s p ps after h =
    let ordered = ordered_pieces s.order in
    let where_ = led (codes "WHERE") expr_pieces s.condition in
    let joins = in_row join_pieces s.joins in
    let o = ordering_spelt s.order p.order ps after h in
    let c = ahead IsCondition s.condition where_ (condition_spelt s.condition p.condition) ordered ps o.0 o.1 in
    let j = ahead (Row IsJoin) s.joins joins (in_row_spelt IsJoin IsNormalJoin join_pieces join_spelt s.joins p.joins) (where_ ++ ordered) ps c.0 c.1 in
    let t = ahead IsSource s.source (source_pieces s.source) (source_spelt s.source p.source) (joins ++ (where_ ++ ordered)) ps j.0 j.1 in
    let f = phrase_says (codes "FROM") key.From [] refl t.1 in
    let i = ahead IsItems s.items (items_pieces s.items) (items_spelt s.items p.items) (word (codes "FROM") ∷ (source_pieces s.source ++ (joins ++ (where_ ++ ordered)))) ps (key_symbol key.From ∷ t.0) f in (
      key_symbol key.Select ∷ i.0,
      phrase_says (codes "SELECT") key.Select [] refl i.1,
      (
        i.0,
        refl,
        record {
          from = key_symbol key.From ∷ t.0;
          sources = t.0;
          joins = j.0;
          where_ = c.0;
          ordered = o.0;
          items = i.2;
          behind = refl;
          source = t.2;
          joined = j.2;
          condition = c.2;
          order = o.2;
          few = p.few;
        },
      ),
    )
