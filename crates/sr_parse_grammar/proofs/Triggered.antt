-- Triggers in print spell themselves.
use Rattle.std.proofs.Common.{◌≡◌, ℕ, ◌-◌, ◌<◌, ◌≤◌, List, [], ◌∷◌, ◌++◌, map, refl, sym, ap, ◌∙◌, subst, append_assoc, inl, inr, codes, arith}
use Rattle.std.proofs.lemmas.List.{append-nil}
use Rattle.std.specs.List.{AllByRecursion}
use Rattle.sr_base.specs.declared.value.Kind.{Kind}
use Rattle.sr_ast.specs.Terms.{Term, depth}
use Rattle.sr_ast.specs.Exprs.{term_of}
use Rattle.sr_ast.specs.Chains.{Chain}
use Rattle.sr_ast.specs.Chains.Chain.{done, set, insert, when, choose}
use Rattle.sr_ast.specs.Actions.{chain_of}
use Rattle.sr_ast.specs.Pages.{Piece, word, semicolon, listed, in_row}
use Rattle.sr_ast.specs.Printing.{name_pieces, column_pieces, names_pieces, row_pieces, term_pieces, kind_pieces, chain_pieces}
use Rattle.sr_ast.specs.Layout.{image_word, alias_pieces, variable_pieces, of_pieces, body_pieces, on_pieces, fired_pieces, create_trigger_pieces}
use Rattle.sr_ast.specs.declared.expr.Expr.{Expr}
use Rattle.sr_ast.specs.declared.action.Action.{Action}
use Rattle.sr_ast.specs.declared.action.Action.TheVariants as action
use Rattle.sr_ast.specs.declared.operator.Binary.TheVariants.{Equal}
use Rattle.sr_ast.specs.declared.create.CreateTrigger.{CreateTrigger}
use Rattle.sr_ast.specs.declared.create.Image.{Image}
use Rattle.sr_ast.specs.declared.create.Image.TheVariants.{Old, New, Remote}
use Rattle.sr_ast.specs.declared.keyword.Keyword.TheVariants as key
use Rattle.sr_parse_grammar.specs.declared.symbol.Sign.TheVariants as mark
use Rattle.sr_parse_grammar.specs.Symbols.{Symbols, IsName, word as key_symbol, sign}
use Rattle.sr_parse_grammar.specs.Listing.{Listed, Row, IsNames}
use Rattle.sr_parse_grammar.specs.Listing.Listed.{one, more}
use Rattle.sr_parse_grammar.specs.Expressions.{IsExpr, IsColumn, Reads}
use Rattle.sr_parse_grammar.specs.Expressions.Tightness.{disjunction}
use Rattle.sr_parse_grammar.specs.Writing.{IsRow}
use Rattle.sr_parse_grammar.specs.Catalog.{IsKind}
use Rattle.sr_parse_grammar.specs.Inner.Scripts.{IsBehindTwo}
use Rattle.sr_parse_grammar.specs.Triggers.{Acts, IsActions, IsOf, IsAlias, IsVariable, IsTrigger, image_word as image_key}
use Rattle.sr_parse_grammar.specs.Triggers.Amount.{one as single, many}
use Rattle.sr_parse_grammar.specs.Triggers.Acts.{none as no_act, then, set as set_act, insert as insert_act, when as when_act, choose as choose_act}
use Rattle.sr_ast.specs.Normal.{IsPlain, IsSomeOf, IsNormalDeep}
use Rattle.sr_ast.specs.NormalForms.{IsNormalAlias, IsNormalVariable, IsNormalChain, ifs, IsNormalTrigger}
use Rattle.sr_ast.specs.Keywords.{spelling}
use Rattle.sr_parse_grammar.proofs.Saying.{Says, Spelt, word_says, phrase_says, semicolon_says, regrouped}
use Rattle.sr_parse_grammar.proofs.Expressing.{expr_of, term_of-expr_of}
use Rattle.sr_parse_grammar.proofs.Listed.{listed_spelt, row_spelt as in_row_spelt, enclosed}
use Rattle.sr_parse_grammar.proofs.Naming.{name_spelt, names_spelt, column_spelt}
use Rattle.sr_parse_grammar.proofs.Termed.{term_spelt, operator_lexeme}
use Rattle.sr_parse_grammar.proofs.Rowed.{ahead}
use Rattle.sr_parse_grammar.proofs.Cataloged.{kind_spelt}

-- ---- the expression that a term is

terms_of : (ts : List Term) → map term_of (map expr_of ts) ≡ ts
terms_of [] = refl
terms_of (t ∷ ts) = ap (λ x. x ∷ map term_of (map expr_of ts)) (term_of-expr_of t) ∙ ap (λ xs. t ∷ xs) (terms_of ts)

-- a term as an expression
abbrev IsTerm : Symbols → Term → Symbols → Type 0
IsTerm before t after = IsExpr before (expr_of t) after

deep_spelt : (t : Term) → IsNormalDeep t → Spelt IsTerm t (term_pieces t)
deep_spelt t p ps after h =
    let x = term_spelt t p.0 200 (omega (arith, p.1)) ps after h in (
      x.0,
      x.1,
      record {
        reads = subst (λ (s : Term). Reads disjunction 200 x.0 s after) (sym (term_of-expr_of t)) x.2;
        shallow = subst (λ (s : Term). depth s ≤ 200) (sym (term_of-expr_of t)) p.1;
      },
    )

map_push : (ts : List Term) (t : Term) → map expr_of (ts ++ t ∷ []) ≡ map expr_of ts ++ expr_of t ∷ []
map_push [] t = refl
map_push (x ∷ ts) t = ap (λ es. expr_of x ∷ es) (map_push ts t)

exprs_of : {before after : Symbols} {ts : List Term} → Listed IsTerm before ts after → Listed IsExpr before (map expr_of ts) after
exprs_of (one h) = one h
exprs_of {before = before} {after = after} (more {xs = ts} {x = t} l c h) =
    subst (λ (es : List Expr). Listed IsExpr before es after) (sym (map_push ts t)) (more (exprs_of l) c h)

deep_row_spelt : (row : List Term) → IsSomeOf IsNormalDeep row → Spelt (λ before ts after. IsRow before (map expr_of ts) after) row (row_pieces row)
deep_row_spelt row p ps after h =
    let e = enclosed (Listed IsTerm) row (listed term_pieces row) (listed_spelt IsTerm IsNormalDeep term_pieces deep_spelt row p) ps after h in
    (sign mark.Open ∷ e.inside, e.says, record { inside = e.inside; close = e.close; opened = refl; values = exprs_of e.is; closed = e.closed })

-- ---- actions

-- what goes on actions
record ActsOn (deep : ℕ) (chain : Chain) (pieces : List Piece) (after : Symbols) : Type 0 where
  actions : List Action
  is : chain ≡ chain_of actions
  middle : Symbols
  says : Says pieces middle
  goes : (before : Symbols) (prefix : List Action) → Acts many deep before prefix middle → Acts many deep before (prefix ++ actions) after

-- one action more in front
acted : {deep : ℕ} {chain rest : Chain} {pieces others : List Piece} {after next : Symbols} (x : Action)
    → (on : ActsOn deep rest others after) → chain ≡ chain_of (x ∷ on.actions) → Says pieces next → Acts single deep next (x ∷ []) (sign mark.Semicolon ∷ on.middle) → ActsOn deep chain pieces after
acted {deep = deep} {after = after} {next = next} x on is says acts = record {
  actions = x ∷ on.actions;
  is = is;
  middle = next;
  says = says;
  goes = λ before prefix l. subst (λ (xs : List Action). Acts many deep before xs after) (append_assoc prefix (x ∷ []) on.actions) (on.goes before (prefix ++ x ∷ []) (then l acts refl));
}

acts_on : (deep : ℕ) (chain : Chain) → IsNormalChain chain → ifs chain ≤ deep → (ps : List Piece) (after : Symbols) → Says ps after → ActsOn deep chain (chain_pieces chain ++ ps) after
acts_on deep done p few ps after h = record {
  actions = [];
  is = refl;
  middle = after;
  says = h;
  goes = λ before prefix l. subst (λ (xs : List Action). Acts many deep before xs after) (sym (append-nil prefix)) l;
}
acts_on deep (set alias name v rest) p few ps after h =
    let on = acts_on deep rest p.2 few ps after h in
    let value : List Piece = semicolon ∷ chain_pieces rest in
    let e = ahead IsTerm v (term_pieces v) (deep_spelt v p.1) value ps (sign mark.Semicolon ∷ on.middle) (semicolon_says on.says) in
    let equal : List Piece = word (codes "=") ∷ (term_pieces v ++ value) in
    let q = word_says (codes "=") (sign mark.Equal) (operator_lexeme Equal) e.1 in
    let c = ahead (λ before n after. IsColumn before alias n after) name (column_pieces alias name) (column_spelt alias name p.0) equal ps (sign mark.Equal ∷ e.0) q in
    acted (action.Set alias name (expr_of v)) on
    (ap (λ r. set alias name v r) on.is ∙ ap (λ x. set alias name x (chain_of on.actions)) (sym (term_of-expr_of v)))
    (phrase_says (codes "SET") key.Set [] refl c.1)
    (set_act refl (record { equal_ = sign mark.Equal ∷ e.0; value_ = e.0; target = c.2; equal = refl; value = e.2 }))
acts_on deep (insert t columns row rest) p few ps after h =
    let on = acts_on deep rest p.3 few ps after h in
    let end : List Piece = semicolon ∷ chain_pieces rest in
    let r = ahead (λ before ts after. IsRow before (map expr_of ts) after) row (row_pieces row) (deep_row_spelt row p.2) end ps (sign mark.Semicolon ∷ on.middle) (semicolon_says on.says) in
    let values : List Piece = word (codes "VALUES") ∷ (row_pieces row ++ end) in
    let v = phrase_says (codes "VALUES") key.Values [] refl r.1 in
    let n = ahead IsNames columns (names_pieces columns) (names_spelt columns p.1) values ps (key_symbol key.Values ∷ r.0) v in
    let t_ = name_spelt t p.0 ((names_pieces columns ++ values) ++ ps) n.0 n.1 in
    acted (action.Insert t columns (map expr_of row)) on
    (ap (λ r. insert t columns row r) on.is ∙ ap (λ xs. insert t columns xs (chain_of on.actions)) (sym (terms_of row)))
    (phrase_says (codes "INSERT INTO") key.Insert (key.Into ∷ []) refl t_.1)
    (insert_act refl (record {
      named = t_.0;
      columned = n.0;
      valued = key_symbol key.Values ∷ r.0;
      rowed = r.0;
      into = refl;
      table = t_.2;
      names = n.2;
      values = refl;
      row = r.2;
    }))
acts_on deep (when c taken rest) p few ps after h =
    let some : 0 < deep = grind (arith, few) in
    let fewer : ifs taken ≤ deep - 1 = grind (arith, few) in
    let on = acts_on deep rest p.2 (grind (arith, few)) ps after h in
    let end : List Piece = word (codes "END IF") ∷ semicolon ∷ chain_pieces rest in
    let ends : Symbols = key_symbol key.End ∷ key_symbol key.If ∷ sign mark.Semicolon ∷ on.middle in
    let f = phrase_says (codes "END IF") key.End (key.If ∷ []) refl (semicolon_says on.says) in
    let yes = acts_on (deep - 1) taken p.1 fewer (end ++ ps) ends f in
    let then_ : List Piece = word (codes "THEN") ∷ (chain_pieces taken ++ end) in
    let w = phrase_says (codes "THEN") key.Then [] refl (regrouped (chain_pieces taken) end ps yes.says) in
    let e = ahead IsTerm c (term_pieces c) (deep_spelt c p.0) then_ ps (key_symbol key.Then ∷ yes.middle) w in
    acted (action.If (expr_of c) (chain_of yes.actions)) on
    (ap (λ r. when c taken r) on.is ∙ (ap (λ y. when c y (chain_of on.actions)) yes.is ∙ ap (λ x. when x (chain_of yes.actions) (chain_of on.actions)) (sym (term_of-expr_of c))))
    (phrase_says (codes "IF") key.If [] refl e.1)
    (when_act some refl e.2 refl (yes.goes yes.middle [] no_act) refl)
acts_on deep (choose c taken other rest) p few ps after h =
    let some : 0 < deep = grind (arith, few) in
    let fewer : ifs taken ≤ deep - 1 = grind (arith, few) in
    let fewer_other : ifs other ≤ deep - 1 = grind (arith, few) in
    let on = acts_on deep rest p.3 (grind (arith, few)) ps after h in
    let end : List Piece = word (codes "END IF") ∷ semicolon ∷ chain_pieces rest in
    let ends : Symbols = key_symbol key.End ∷ key_symbol key.If ∷ sign mark.Semicolon ∷ on.middle in
    let f = phrase_says (codes "END IF") key.End (key.If ∷ []) refl (semicolon_says on.says) in
    let no = acts_on (deep - 1) other p.2 fewer_other (end ++ ps) ends f in
    let else_ : List Piece = word (codes "ELSE") ∷ (chain_pieces other ++ end) in
    let o = phrase_says (codes "ELSE") key.Else [] refl (regrouped (chain_pieces other) end ps no.says) in
    let yes = acts_on (deep - 1) taken p.1 fewer (else_ ++ ps) (key_symbol key.Else ∷ no.middle) o in
    let then_ : List Piece = word (codes "THEN") ∷ (chain_pieces taken ++ else_) in
    let w = phrase_says (codes "THEN") key.Then [] refl (regrouped (chain_pieces taken) else_ ps yes.says) in
    let e = ahead IsTerm c (term_pieces c) (deep_spelt c p.0) then_ ps (key_symbol key.Then ∷ yes.middle) w in
    acted (action.IfElse (expr_of c) (chain_of yes.actions) (chain_of no.actions)) on
    (ap (λ r. choose c taken other r) on.is
    ∙ (ap (λ n. choose c taken n (chain_of on.actions)) no.is
    ∙ (ap (λ y. choose c y (chain_of no.actions) (chain_of on.actions)) yes.is
    ∙ ap (λ x. choose x (chain_of yes.actions) (chain_of no.actions) (chain_of on.actions)) (sym (term_of-expr_of c)))))
    (phrase_says (codes "IF") key.If [] refl e.1)
    (choose_act some refl e.2 refl (yes.goes yes.middle [] no_act) refl (no.goes no.middle [] no_act) refl)

chain_spelt : (chain : Chain) → IsNormalChain chain → ifs chain ≤ 200 → Spelt (IsActions 200) chain (chain_pieces chain)
chain_spelt chain p few ps after h =
    let on = acts_on 200 chain p few ps after h in
    (on.middle, on.says, record { actions = on.actions; is = on.is; acts = on.goes on.middle [] no_act })

-- ---- the rest of a trigger

alias_spelt : (a : Image × List ℕ) → IsNormalAlias a → Spelt IsAlias a (alias_pieces a)
unfolding alias_pieces
alias_spelt (i, name) p ps after h =
    let n = name_spelt name p ps after h in
    let a = phrase_says (codes "AS") key.As [] refl n.1 in
    (key_symbol (image_key i) ∷ key_symbol key.As ∷ n.0, phrase_says (image_word i) (image_key i) [] (image_spelling i) a, record { next = n.0; image = refl; name = n.2 })
  where
    image_spelling : (i : Image) → image_word i ≡ spelling (image_key i)
    image_spelling Old = refl
    image_spelling New = refl
    image_spelling Remote = refl

variable_spelt : (v : List ℕ × Kind) → IsNormalVariable v → Spelt IsVariable v (variable_pieces v)
unfolding variable_pieces
variable_spelt v p ps after h =
    let k = ahead IsKind v.1 (kind_pieces v.1) (kind_spelt v.1 p.1) (semicolon ∷ []) ps (sign mark.Semicolon ∷ after) (semicolon_says h) in
    let n = name_spelt v.0 p.0 ((kind_pieces v.1 ++ semicolon ∷ []) ++ ps) k.0 k.1 in (
      key_symbol key.Declare ∷ n.0,
      phrase_says (codes "DECLARE") key.Declare [] refl n.1,
      record { named = n.0; typed = k.0; ended = sign mark.Semicolon ∷ after; declare = refl; name = n.2; kind = k.2; semicolon = refl },
    )

of_spelt : (names : List (List ℕ)) → AllByRecursion IsPlain names → Spelt IsOf names (of_pieces names)
of_spelt [] p ps after h = (after, h, inl (refl, refl))
of_spelt (n ∷ ns) p ps after h =
    let l = listed_spelt IsName IsPlain name_pieces name_spelt (n ∷ ns) p ps after h in
    (key_symbol key.Of ∷ l.0, phrase_says (codes "OF") key.Of [] refl l.1, inr (record { next = l.0; of = refl; listed = l.2 }))

pub trigger_spelt : (c : CreateTrigger) → IsNormalTrigger c → Spelt (IsBehindTwo key.Create key.Trigger IsTrigger) c (create_trigger_pieces c)
unfolding create_trigger_pieces fired_pieces on_pieces body_pieces
trigger_spelt c p ps after h =
    let end : List Piece = word (codes "END") ∷ [] in
    let d = phrase_says (codes "END") key.End [] refl h in
    let a = ahead (IsActions 200) c.actions (chain_pieces c.actions) (chain_spelt c.actions p.actions p.few) end ps (key_symbol key.End ∷ after) d in
    let body : List Piece = chain_pieces c.actions ++ end in
    let v = ahead (Row IsVariable) c.variables (in_row variable_pieces c.variables) (in_row_spelt IsVariable IsNormalVariable variable_pieces variable_spelt c.variables p.variables) body ps a.0 a.1 in
    let whole : List Piece = word (codes "FOR EACH ROW BEGIN") ∷ (in_row variable_pieces c.variables ++ body) in
    let f = phrase_says (codes "FOR EACH ROW BEGIN") key.For (key.Each ∷ key.Row ∷ key.Begin ∷ []) refl v.1 in
    let for_ : Symbols = key_symbol key.For ∷ key_symbol key.Each ∷ key_symbol key.Row ∷ key_symbol key.Begin ∷ v.0 in
    let l = ahead (Row IsAlias) c.aliases (in_row alias_pieces c.aliases) (in_row_spelt IsAlias IsNormalAlias alias_pieces alias_spelt c.aliases p.aliases) whole ps for_ f in
    let aliased : List Piece = in_row alias_pieces c.aliases ++ whole in
    let r = phrase_says (codes "REFERENCING") key.Referencing [] refl l.1 in
    let t = name_spelt c.table p.table (word (codes "REFERENCING") ∷ (aliased ++ ps)) (key_symbol key.Referencing ∷ l.0) r in
    let on : List Piece = word (codes "ON") ∷ word c.table ∷ word (codes "REFERENCING") ∷ aliased in
    let o = phrase_says (codes "ON") key.On [] refl t.1 in
    let m = ahead IsOf c.columns (of_pieces c.columns) (of_spelt c.columns p.columns) on ps (key_symbol key.On ∷ t.0) o in
    let u = phrase_says (codes "RESOLVE UPDATE") key.Resolve (key.Update ∷ []) refl m.1 in
    let n = name_spelt c.name p.name (word (codes "RESOLVE UPDATE") ∷ ((of_pieces c.columns ++ on) ++ ps)) (key_symbol key.Resolve ∷ key_symbol key.Update ∷ m.0) u in (
      key_symbol key.Create ∷ key_symbol key.Trigger ∷ n.0,
      phrase_says (codes "CREATE TRIGGER") key.Create (key.Trigger ∷ []) refl n.1,
      (
        n.0,
        refl,
        record {
          resolve_ = key_symbol key.Resolve ∷ key_symbol key.Update ∷ m.0;
          of_ = m.0;
          on_ = key_symbol key.On ∷ t.0;
          table_ = t.0;
          referencing_ = key_symbol key.Referencing ∷ l.0;
          aliases_ = l.0;
          for_ = for_;
          variables_ = v.0;
          actions_ = a.0;
          end_ = key_symbol key.End ∷ after;
          name = n.2;
          resolve = refl;
          columns = m.2;
          on = refl;
          table = t.2;
          referencing = refl;
          aliases = record { listed = l.2; apart = p.apart };
          each = refl;
          variables = v.2;
          actions = a.2;
          end = refl;
        },
      ),
    )
