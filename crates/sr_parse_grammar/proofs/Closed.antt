-- What a text spells is in normal form: triggers, and all of a script.
use Rattle.std.proofs.Common.{◌≡◌, ℕ, ◌+◌, ◌-◌, ◌<◌, ◌≤◌, max, List, [], ◌∷◌, ◌++◌, map, Result, sym, subst, inl, inr, arith}
use Rattle.std.specs.List.{AllByRecursion}
use Rattle.sr_ast.specs.Exprs.{term_of}
use Rattle.sr_ast.specs.Chains.{Chain}
use Rattle.sr_ast.specs.Actions.{chain_of}
use Rattle.sr_ast.specs.Layout.{printed}
use Rattle.sr_ast.specs.declared.expr.Expr.{Expr}
use Rattle.sr_ast.specs.declared.action.Action.{Action}
use Rattle.sr_ast.specs.declared.action.Action.TheVariants as action
use Rattle.sr_ast.specs.declared.stmt.Stmt.{Stmt}
use Rattle.sr_ast.specs.declared.form.Form.TheVariants as forms
use Rattle.sr_parse_grammar.specs.Symbols.{Symbols, IsName}
use Rattle.sr_parse_grammar.specs.Triggers.{Amount, Acts, IsActions, IsOf, IsAlias, IsVariable, IsTrigger}
use Rattle.sr_parse_grammar.specs.Triggers.Acts.{none as no_act, then as and_then, set as set_act, insert as insert_act, when as when_act, choose as choose_act}
use Rattle.sr_parse_grammar.specs.Scripts.{IsStatement, Pieces, Stage}
use Rattle.sr_parse_grammar.specs.Scripts.Pieces.{start, again, empty, stated}
use Rattle.sr_parse_grammar.specs.Meanings.{IsWritten}
use Rattle.sr_parse_grammar.specs.Inner.Faults.{IsRead, Answers}
use Rattle.sr_parse_grammar.specs.declared.fault.ParseFault.{ParseFault}
use Rattle.sr_ast.specs.Normal.{IsPlain, IsSomeOf, IsNormalDeep, IsNormalExpr}
use Rattle.sr_ast.specs.NormalForms.{IsNormalAlias, IsNormalVariable, IsNormalChain, ifs, IsNormalTrigger, IsNormal}
use Rattle.sr_parse_grammar.proofs.Listed.{all_of}
use Rattle.sr_parse_grammar.proofs.Sound.{AreSound, Gives, past, moved, name_gives, listed_gives, row_gives, names_gives, tokens_sound, all_push}
use Rattle.sr_parse_grammar.proofs.Settled.{past_two, column_gives, expr_gives, row_of_gives, insert_gives, update_gives, delete_gives, select_gives}
use Rattle.sr_parse_grammar.proofs.Ended.{kind_gives, table_gives, publication_gives, subscription_gives, passthrough_gives, past_work}
use Rattle.sr_parse_grammar.proofs.Granted.{grant_proper}
use Rattle.sr_parse_grammar.proofs.Optioned.{option_proper}
use Rattle.sr_parse_grammar.proofs.Stated.{printed-is_written}

-- ---- actions

push_normal : (xs ys : List Action) → IsNormalChain (chain_of xs) → IsNormalChain (chain_of ys) → IsNormalChain (chain_of (xs ++ ys))
push_normal [] ys p q = q
push_normal (action.Set t n v ∷ xs) ys p q = (p.0, p.1, push_normal xs ys p.2 q)
push_normal (action.Insert t cs vs ∷ xs) ys p q = (p.0, p.1, p.2, push_normal xs ys p.3 q)
push_normal (action.If c taken ∷ xs) ys p q = (p.0, p.1, push_normal xs ys p.2 q)
push_normal (action.IfElse c taken other ∷ xs) ys p q = (p.0, p.1, p.2, push_normal xs ys p.3 q)

push_few : (deep : ℕ) (xs ys : List Action) → ifs (chain_of xs) ≤ deep → ifs (chain_of ys) ≤ deep → ifs (chain_of (xs ++ ys)) ≤ deep
push_few deep [] ys p q = q
push_few deep (action.Set t n v ∷ xs) ys p q = push_few deep xs ys p q
push_few deep (action.Insert t cs vs ∷ xs) ys p q = push_few deep xs ys p q
push_few deep (action.If c taken ∷ xs) ys p q =
    let rest : ifs (chain_of xs) ≤ deep = grind (arith, p) in
    let more = push_few deep xs ys rest q in
    grind (arith, p, more)
push_few deep (action.IfElse c taken other ∷ xs) ys p q =
    let rest : ifs (chain_of xs) ≤ deep = grind (arith, p) in
    let more = push_few deep xs ys rest q in
    grind (arith, p, more)

all_deep : (row : List Expr) → AllByRecursion IsNormalExpr row → AllByRecursion IsNormalDeep (map term_of row)
all_deep [] h = tt
all_deep (e ∷ row) h = (h.0, all_deep row h.1)

some_deep : (row : List Expr) → IsSomeOf IsNormalExpr row → IsSomeOf IsNormalDeep (map term_of row)
some_deep [] h = absurd h
some_deep (e ∷ row) h = (h.0, all_deep row h.1)

-- what actions give
record ActionsGive (deep : ℕ) (chain : Chain) (after : Symbols) : Type 0 where
  normal : IsNormalChain chain
  few : ifs chain ≤ deep
  sound : AreSound after

one_deeper : (deep n : ℕ) → 0 < deep → n ≤ deep - 1 → max (n + 1) 0 ≤ deep
one_deeper deep n p q = grind (arith, p, q)

two_deeper : (deep n m : ℕ) → 0 < deep → n ≤ deep - 1 → m ≤ deep - 1 → max (max n m + 1) 0 ≤ deep
two_deeper deep n m p q r = grind (arith, p, q, r)

acts_give : {amount : Amount} {deep : ℕ} {before after : Symbols} {xs : List Action} → Acts amount deep before xs after → AreSound before → ActionsGive deep (chain_of xs) after
acts_give no_act h = record { normal = tt; few = omega arith; sound = h }
acts_give {deep = deep} (and_then {xs = xs} {x = x} l a s) h =
    let prefix = acts_give l h in
    let p = acts_give a prefix.sound in
    record { normal = push_normal xs (x ∷ []) prefix.normal p.normal; few = push_few deep xs (x ∷ []) prefix.few p.few; sound = (past s p.sound).1 }
acts_give {after = after} (set_act {next = next} {alias = alias} {name = name} {e = e} w x) h =
    let c = column_gives alias name next x.equal_ x.target (past w h).1 in
    let v = expr_gives x.value_ after e x.value (past x.equal c.1).1 in
    record { normal = (c.0, v.0, tt); few = omega arith; sound = v.1 }
acts_give {after = after} (insert_act {t = t} {columns = columns} {row = row} w x) h =
    let n = name_gives x.named x.columned t x.table (past x.into (past w h).1).1 in
    let c = names_gives x.columned x.valued columns x.names n.1 in
    let r = row_of_gives x.rowed after row x.row (past x.values c.1).1 in
    record { normal = (n.0, c.0, some_deep row r.0, tt); few = omega arith; sound = r.1 }
acts_give {deep = deep} (when_act {test = test} {then_ = then_} {c = c} {xs = xs} p w e t a f) h =
    let x = expr_gives test then_ c e (past w h).1 in
    let y = acts_give a (past t x.1).1 in
    record { normal = (x.0, y.normal, tt); few = one_deeper deep (ifs (chain_of xs)) p y.few; sound = past_two f y.sound }
acts_give {deep = deep} (choose_act {test = test} {then_ = then_} {c = c} {xs = xs} {ys = ys} p w e t a o b f) h =
    let x = expr_gives test then_ c e (past w h).1 in
    let y = acts_give a (past t x.1).1 in
    let z = acts_give b (past o y.sound).1 in
    record { normal = (x.0, y.normal, z.normal, tt); few = two_deeper deep (ifs (chain_of xs)) (ifs (chain_of ys)) p y.few z.few; sound = past_two f z.sound }

actions_give : (deep : ℕ) (chain : Chain) {before after : Symbols} → IsActions deep before chain after → AreSound before → ActionsGive deep chain after
actions_give deep chain {after = after} x h = subst (λ (c : Chain). ActionsGive deep c after) (sym x.is) (acts_give x.acts h)

-- ---- triggers

alias_gives : Gives IsAlias IsNormalAlias
alias_gives before after a x h = name_gives x.next after a.1 x.name (past_two x.image h)

variable_gives : Gives IsVariable IsNormalVariable
variable_gives before after v x h =
    let n = name_gives x.named x.typed v.0 x.name (past x.declare h).1 in
    let k = kind_gives x.typed x.ended v.1 x.kind n.1 in
    ((n.0, k.0), (past x.semicolon k.1).1)

of_gives : Gives IsOf (AllByRecursion IsPlain)
of_gives before after names (inl (e, b)) h = (subst (AllByRecursion IsPlain) (sym e) tt, moved b h)
of_gives before after names (inr x) h =
    let l = listed_gives IsName IsPlain name_gives x.next after names x.listed (past x.of h).1 in
    (all_of IsPlain names l.0, l.1)

trigger_gives : Gives IsTrigger IsNormalTrigger
trigger_gives before after c x h =
    let n = name_gives before x.resolve_ c.name x.name h in
    let o = of_gives x.of_ x.on_ c.columns x.columns (past_two x.resolve n.1) in
    let t = name_gives x.table_ x.referencing_ c.table x.table (past x.on o.1).1 in
    let a = row_gives IsAlias IsNormalAlias alias_gives x.aliases_ x.for_ c.aliases x.aliases.listed (past x.referencing t.1).1 in
    let v = row_gives IsVariable IsNormalVariable variable_gives x.variables_ x.actions_ c.variables x.variables (subst AreSound x.each a.1).1.1.1.1 in
    let d = actions_give 200 c.actions x.actions v.1 in
    (record { name = n.0; columns = o.0; table = t.0; aliases = a.0; apart = x.aliases.apart; variables = v.0; actions = d.normal; few = d.few }, (past x.end d.sound).1)

-- ---- statements and scripts

-- a statement that is equal is in normal form too
as_normal : {s t : Stmt} {Q : Type 0} → s ≡ t → IsNormal t × Q → IsNormal s × Q
as_normal e p = (subst IsNormal (sym e) p.0, p.1)

statement_gives : Gives IsStatement IsNormal
statement_gives before after s (forms.CreateTable, (next, w, (c, e, x))) h = as_normal e (table_gives next after c x (past_two w h))
statement_gives before after s (forms.DropTable, (next, w, (c, e, x))) h = as_normal e (name_gives next after c x (past_two w h))
statement_gives before after s (forms.CreatePublication, (next, w, (c, e, x))) h = as_normal e (publication_gives next after c x (past_two w h))
statement_gives before after s (forms.DropPublication, (next, w, (c, e, x))) h = as_normal e (name_gives next after c x (past_two w h))
statement_gives before after s (forms.GrantRemote, (next, w, (c, e, x))) h = as_normal e (grant_proper.gives next after c x (past_two w h))
statement_gives before after s (forms.GrantConsolidate, (next, w, (c, e, (m, v, x)))) h = as_normal e (grant_proper.gives m after c x (past v (past w h).1).1)
statement_gives before after s (forms.CreateSubscription, (next, w, (c, e, x))) h = as_normal e (subscription_gives next after c x (past w h).1)
statement_gives before after s (forms.StartSubscription, (next, w, (c, e, x))) h = as_normal e (subscription_gives next after c x (past w h).1)
statement_gives before after s (forms.StopSubscription, (next, w, (c, e, x))) h = as_normal e (subscription_gives next after c x (past w h).1)
statement_gives before after s (forms.Synchronize, (next, w, (c, e, x))) h = as_normal e (subscription_gives next after c x (past w h).1)
statement_gives before after s (forms.DropSubscription, (next, w, (c, e, x))) h = as_normal e (subscription_gives next after c x (past w h).1)
statement_gives before after s (forms.CreateTrigger, (next, w, (c, e, x))) h = as_normal e (trigger_gives next after c x (past_two w h))
statement_gives before after s (forms.DropTrigger, (next, w, (c, e, x))) h = as_normal e (name_gives next after c x (past_two w h))
statement_gives before after s (forms.SetOption, (next, w, (c, e, x))) h = as_normal e (option_proper.gives next after c x (past w h).1)
statement_gives before after s (forms.Insert, (next, w, (c, e, x))) h = as_normal e (insert_gives next after c x (past w h).1)
statement_gives before after s (forms.Update, (next, w, (c, e, x))) h = as_normal e (update_gives next after c x (past w h).1)
statement_gives before after s (forms.Delete, (next, w, (c, e, x))) h = as_normal e (delete_gives next after c x (past w h).1)
statement_gives before after s (forms.Select, (next, w, (c, e, x))) h = as_normal e (select_gives next after c x (past w h).1)
statement_gives before after s (forms.Commit, (next, w, (c, e, x))) h = as_normal e (tt, past_work x (past w h).1)
statement_gives before after s (forms.Rollback, (next, w, (c, e, x))) h = as_normal e (tt, past_work x (past w h).1)
statement_gives before after s (forms.Passthrough, (next, w, (c, e, x))) h = as_normal e (passthrough_gives next after c x (past w h).1)
statement_gives before after s (forms.PassthroughStop, (next, w, (c, e, x))) h = as_normal e (tt, moved x (past_two w h))

pieces_give : {stage : Stage} {before after : Symbols} {xs : List Stmt} → Pieces stage before xs after → AreSound before → AllByRecursion IsNormal xs × AreSound after
pieces_give start h = (tt, h)
pieces_give (again l s) h = let p = pieces_give l h in (p.0, (past s p.1).1)
pieces_give (empty l) h = pieces_give l h
pieces_give {after = after} (stated {middle = middle} {xs = xs} s l i) h =
    let p = pieces_give l h in
    let q = statement_gives middle after s i p.1 in
    (all_push IsNormal xs s p.0 q.0, q.1)

-- each statement of a script is in normal form
pub written-normal : (text : List ℕ) (script : List Stmt) → IsWritten text script → AllByRecursion IsNormal script
written-normal text script (tokens, t, (symbols, are, is)) = (pieces_give is (tokens_sound text 0 text tokens symbols t are)).0

all_printed : (script : List Stmt) → AllByRecursion IsNormal script → AllByRecursion (λ s. IsWritten (printed s) (s ∷ [])) script
all_printed [] h = tt
all_printed (s ∷ script) h = (printed-is_written s h.0, all_printed script h.1)

-- each statement of a script is spelled by its printed text
pub written-printed : (text : List ℕ) (script : List Stmt) → IsWritten text script → AllByRecursion (λ s. IsWritten (printed s) (s ∷ [])) script
written-printed text script h = all_printed script (written-normal text script h)

all_parsed : (script : List Stmt) → AllByRecursion (λ s. IsWritten (printed s) (s ∷ [])) script → AllByRecursion (λ s. (answer : Result (List Stmt) ParseFault) → IsRead (printed s) answer → Answers answer (s ∷ [])) script
all_parsed [] h = tt
all_parsed (s ∷ script) h = (λ answer read. read (s ∷ []) h.0, all_parsed script h.1)

-- what is answered of the printed text of a statement of a script
pub written-parsed : (text : List ℕ) (script : List Stmt) → IsWritten text script → AllByRecursion (λ s. (answer : Result (List Stmt) ParseFault) → IsRead (printed s) answer → Answers answer (s ∷ [])) script
written-parsed text script w = all_parsed script (written-printed text script w)
