-- Columns and actions, read one after the other.
use Rattle.std.proofs.Common.{◌≡◌, ℕ, ◌-◌, ◌<◌, Bool, true, false, List, [], ◌∷◌, ◌++◌, inl, inr, sym, subst}
use Rattle.sr_ast.specs.Chains.{Chain}
use Rattle.sr_ast.specs.Actions.{chain_of}
use Rattle.sr_ast.specs.declared.expr.Expr.{Expr}
use Rattle.sr_ast.specs.declared.action.Action.TheVariants.{If, IfElse}
use Rattle.sr_ast.specs.declared.create.ColumnRule.{ColumnRule}
use Rattle.sr_ast.specs.declared.stmt.Stmt.{Stmt}
use Rattle.sr_ast.specs.declared.keyword.Keyword.TheVariants as kw
use Rattle.sr_parse_grammar.specs.declared.symbol.Sign.TheVariants as mark
use Rattle.sr_parse_grammar.specs.Symbols.{Symbols, word, IsWord, IsSign}
use Rattle.sr_parse_grammar.specs.Expressions.{IsExpr}
use Rattle.sr_parse_grammar.specs.Tables.{IsRules, IsColumns, IsColumnRule}
use Rattle.sr_parse_grammar.specs.Tables.IsRules.{not_null, null, primary}
use Rattle.sr_parse_grammar.specs.Tables.IsColumns.{one, more}
use Rattle.sr_parse_grammar.specs.Triggers.{Acts, IsActions}
use Rattle.sr_parse_grammar.specs.Triggers.Amount.{one as single}
use Rattle.sr_parse_grammar.specs.Triggers.Acts.{when, choose}
use Rattle.sr_parse_grammar.specs.Scripts.{Pieces}
use Rattle.sr_parse_grammar.specs.Inner.Scripts.{IsPiece}
use Rattle.sr_parse_grammar.specs.Scripts.Stage.{opened, closed}
use Rattle.sr_parse_grammar.specs.Scripts.Pieces.{start, empty, stated}

pub IsColumns-one : {before after : Symbols} {ys : List ColumnRule} {c : ColumnRule} {held key : List (List ℕ)}
    → IsColumnRule before c held key after → held ≡ [] → ys ≡ c ∷ [] → IsColumns before ys key after
IsColumns-one {before = b} {after = a} {c = c} {key = k} h none_held e =
    subst (λ ys. IsColumns b ys k a) (sym e) (one (subst (λ held. IsColumnRule b c held k a) none_held h))

pub IsColumns-more : {before middle next after : Symbols} {cs ys : List ColumnRule} {c : ColumnRule} {held key : List (List ℕ)}
    → IsColumns before cs held middle → IsSign middle mark.Comma next → IsColumnRule next c held key after → ys ≡ cs ++ c ∷ [] → IsColumns before ys key after
IsColumns-more {before = b} {after = a} {key = k} hs s h e = subst (λ ys. IsColumns b ys k a) (sym e) (more hs s h)

pub IsRules-not_null : {before middle after : Symbols} {n null primary : Bool} → n ≡ false → IsRules before n null primary middle → middle ≡ word kw.Not ∷ word kw.Null ∷ after → IsRules before true null primary after
IsRules-not_null {before = b} {middle = m} {null = u} {primary = p} e h w = not_null (subst (λ n. IsRules b n u p m) e h) w

pub IsRules-null : {before middle after : Symbols} {n u primary : Bool} → u ≡ false → IsRules before n u primary middle → IsWord middle kw.Null after → IsRules before n true primary after
IsRules-null {before = b} {middle = m} {n = n} {primary = p} e h w = null (subst (λ u. IsRules b n u p m) e h) w

pub IsRules-primary : {before middle after : Symbols} {n u p : Bool} → p ≡ false → IsRules before n u p middle → middle ≡ word kw.Primary ∷ word kw.Key ∷ after → IsRules before n u true after
IsRules-primary {before = b} {middle = m} {n = n} {u = u} e h w = primary (subst (λ p. IsRules b n u p m) e h) w

pub Acts-when : {ifs : ℕ} {before test then_ taken end after : Symbols} {c : Expr} {x : Chain}
    → 0 < ifs → IsWord before kw.If test → IsExpr test c then_ → IsWord then_ kw.Then taken → IsActions (ifs - 1) taken x end
    → end ≡ word kw.End ∷ word kw.If ∷ after → Acts single ifs before (If c x ∷ []) after
Acts-when {ifs = i} {before = b} {after = a} {c = c} p w e t xs f = subst (λ x. Acts single i b (If c x ∷ []) a) (sym xs.is) (when p w e t xs.acts f)

pub Acts-choose : {ifs : ℕ} {before test then_ taken else_ other end after : Symbols} {c : Expr} {x y : Chain}
    → 0 < ifs → IsWord before kw.If test → IsExpr test c then_ → IsWord then_ kw.Then taken → IsActions (ifs - 1) taken x else_
    → IsWord else_ kw.Else other → IsActions (ifs - 1) other y end
    → end ≡ word kw.End ∷ word kw.If ∷ after → Acts single ifs before (IfElse c x y ∷ []) after
Acts-choose {ifs = i} {before = b} {after = a} {c = c} {y = y} p w e t xs o ys f =
    subst (λ x. Acts single i b (IfElse c x y ∷ []) a) (sym xs.is) (subst (λ y. Acts single i b (IfElse c (chain_of xs.actions) y ∷ []) a) (sym ys.is) (choose p w e t xs.acts o ys.acts f))

pub Pieces-start : {before : Symbols} {ys : List Stmt} → ys ≡ [] → Pieces opened before ys before
Pieces-start {before = b} e = subst (λ ys. Pieces opened b ys b) (sym e) start

pub Pieces-piece : {before middle after : Symbols} (xs ys : List Stmt) → Pieces opened before xs middle → IsPiece middle xs ys after → Pieces closed before ys after
Pieces-piece {before = b} {after = a} xs ys h (inl (e, m)) = subst (λ ys. Pieces closed b ys a) (sym e) (empty (subst (λ s. Pieces opened b xs s) m h))
Pieces-piece {before = b} {after = a} xs ys h (inr (s, e, is)) = subst (λ ys. Pieces closed b ys a) (sym e) (stated s h is)
