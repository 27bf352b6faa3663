-- Readers of actions find what the symbols spell.
use Rattle.std.proofs.Common.{◌≡◌, ℕ, ◌-◌, ◌<◌, arith, List, [], ◌∷◌, Option, refl, sym, subst, inl, inr, ◌⊎◌}
use Rattle.sr_ast.specs.Chains.{Chain}
use Rattle.sr_ast.specs.Actions.{chain_of}
use Rattle.sr_ast.specs.declared.expr.Expr.{Expr}
use Rattle.sr_ast.specs.declared.action.Action.{Action}
use Rattle.sr_ast.specs.declared.action.Action.TheVariants.{Set, Insert, If, IfElse}
use Rattle.sr_ast.specs.declared.keyword.Keyword.TheVariants as key
use Rattle.sr_parse_grammar.specs.declared.symbol.Sign.TheVariants as mark
use Rattle.sr_parse_grammar.specs.Symbols.{Symbols, word, IsWord, IsSign}
use Rattle.sr_parse_grammar.specs.Expressions.{IsExpr}
use Rattle.sr_parse_grammar.specs.Triggers.{IsAssigned, IsInserted, Acts, IsActions}
use Rattle.sr_parse_grammar.specs.Triggers.Amount.{one, many}
use Rattle.sr_parse_grammar.specs.Triggers.Acts.{set, insert, when, choose}
use Rattle.sr_parse_grammar.specs.Inner.Going.{Stop, action_starts}
use Rattle.sr_parse_grammar.proofs.Steps.{Stop-at, Stop-begins}

-- ---- actions, one behind the other

-- actions from left to right
pub data Left (ifs : ℕ) : Symbols → List Action → Symbols → Type 0 where
  none_left : {after : Symbols} → Left ifs after [] after
  act_next : {before middle here after : Symbols} {x : Action} {xs : List Action} → Acts one ifs before (x ∷ []) middle → IsSign middle mark.Semicolon here → Left ifs here xs after → Left ifs before (x ∷ xs) after

pub act_begins : {ifs : ℕ} {before after : Symbols} {x : Action} → Acts one ifs before (x ∷ []) after → Stop action_starts before → ⊥
act_begins (set w h) s = Stop-begins action_starts w refl s
act_begins (insert w h) s = Stop-begins action_starts w refl s
act_begins (when p w e t xs f) s = Stop-begins action_starts w refl s
act_begins (choose p w e t xs o ys f) s = Stop-begins action_starts w refl s

-- ---- one action

pub set_in : {ifs : ℕ} {before next after : Symbols} {x : Action} → Acts one ifs before (x ∷ []) after → IsWord before key.Set next
    → (alias : Option (List ℕ)) × (name : List ℕ) × (e : Expr) × IsAssigned next alias name e after × (x ≡ Set alias name e)
set_in {next = next} (set {next = n} {after = after} {alias = alias} {name = name} {e = e} w h) w' =
    let place : n ≡ next = cc in (alias, name, e, subst (λ p. IsAssigned p alias name e after) place h, refl)
set_in (insert w h) w' = absurd (cc)
set_in (when p w e t xs f) w' = absurd (cc)
set_in (choose p w e t xs o ys f) w' = absurd (cc)

pub insert_in : {ifs : ℕ} {before next after : Symbols} {x : Action} → Acts one ifs before (x ∷ []) after → IsWord before key.Insert next
    → (t : List ℕ) × (columns : List (List ℕ)) × (row : List Expr) × IsInserted next t columns row after × (x ≡ Insert t columns row)
insert_in {next = next} (insert {next = n} {after = after} {t = t} {columns = columns} {row = row} w h) w' =
    let place : n ≡ next = cc in (t, columns, row, subst (λ p. IsInserted p t columns row after) place h, refl)
insert_in (set w h) w' = absurd (cc)
insert_in (when p w e t xs f) w' = absurd (cc)
insert_in (choose p w e t xs o ys f) w' = absurd (cc)

-- ---- an IF, from place to place

-- behind its actions: END IF, or ELSE and other actions
abbrev pub AtEnd : ℕ → Expr → Chain → Symbols → Action → Symbols → Type 0
AtEnd ifs c taken here x after = ((here ≡ word key.End ∷ word key.If ∷ after) × (x ≡ If c taken))
    ⊎ ((other : Symbols) × (ys : List Action) × (end : Symbols) × IsWord here key.Else other × Acts many (ifs - 1) other ys end × (end ≡ word key.End ∷ word key.If ∷ after) × (x ≡ IfElse c taken (chain_of ys)))

pub record AtTaken (ifs : ℕ) (c : Expr) (here : Symbols) (x : Action) (after : Symbols) : Type 0 where
  pub some : 0 < ifs
  pub actions : List Action
  pub end : Symbols
  pub acts : Acts many (ifs - 1) here actions end
  pub stops : Stop action_starts end
  pub ends : AtEnd ifs c (chain_of actions) end x after

pub record AtThen (ifs : ℕ) (c : Expr) (here : Symbols) (x : Action) (after : Symbols) : Type 0 where
  pub next : Symbols
  pub then_ : IsWord here key.Then next
  pub taken : AtTaken ifs c next x after

pub record AtTest (ifs : ℕ) (here : Symbols) (x : Action) (after : Symbols) : Type 0 where
  pub test : Expr
  pub next : Symbols
  pub reads : IsExpr here test next
  pub then_ : AtThen ifs test next x after

pub record AtIf (ifs : ℕ) (here : Symbols) (x : Action) (after : Symbols) : Type 0 where
  pub next : Symbols
  pub if_ : IsWord here key.If next
  pub test : AtTest ifs next x after

pub if_in : {ifs : ℕ} {before after : Symbols} {x : Action} → Acts one ifs before (x ∷ []) after → ((rest : Symbols) → IsWord before key.Set rest → ⊥) → ((rest : Symbols) → IsWord before key.Insert rest → ⊥) → AtIf ifs before x after
if_in (set {next = n} w h) no_set no_insert = absurd (no_set n w)
if_in (insert {next = n} w h) no_set no_insert = absurd (no_insert n w)
if_in (when {test = test} {then_ = then_} {taken = taken} {end = end} {c = c} {xs = xs} p w e t acts f) no_set no_insert = record {
  next = test;
  if_ = w;
  test = record {
    test = c;
    next = then_;
    reads = e;
    then_ = record { next = taken; then_ = t; taken = record { some = p; actions = xs; end = end; acts = acts; stops = Stop-at action_starts f refl; ends = inl (f, refl) } };
  };
}
if_in (choose {test = test} {then_ = then_} {taken = taken} {else_ = else_} {other = other} {end = end} {c = c} {xs = xs} {ys = ys} p w e t acts o others f) no_set no_insert = record {
  next = test;
  if_ = w;
  test = record {
    test = c;
    next = then_;
    reads = e;
    then_ = record { next = taken; then_ = t; taken = record { some = p; actions = xs; end = else_; acts = acts; stops = Stop-at action_starts o refl; ends = inr (other, ys, end, o, others, f, refl) } };
  };
}

pub no_ifs : {ifs : ℕ} {before after : Symbols} {x : Action} → AtIf ifs before x after → ifs ≡ 0 → ⊥
no_ifs a e = let some = a.test.then_.taken.some in omega (arith, some, e)

pub at_end : {ifs : ℕ} {here new after : Symbols} {x : Action} {c : Expr} {taken : Chain} → AtTaken ifs c here x after
    → ((y : Chain) (rest : Symbols) → IsActions (ifs - 1) here y rest → Stop action_starts rest → (taken ≡ y) × (new ≡ rest)) → AtEnd ifs c taken new x after
at_end {ifs = i} {new = new} {after = after} {x = x} {c = c} a finds =
    let r = finds (chain_of a.actions) a.end (record { actions = a.actions; is = refl; acts = a.acts }) a.stops in
    subst (λ y. AtEnd i c y new x after) (sym r.0) (subst (λ p. AtEnd i c (chain_of a.actions) p x after) (sym r.1) a.ends)

-- ---- behind INSERT, from place to place
