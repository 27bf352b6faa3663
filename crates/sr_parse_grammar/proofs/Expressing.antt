-- Symbols spell one expression at most.
use Rattle.std.proofs.Common.{◌≡◌, ℕ, List, ◌∷◌, Option, Some, None, refl, sym, subst, ap, ◌∙◌, inl, inr, rules}
use Rattle.sr_ast.specs.Terms.{Term}
use Rattle.sr_ast.specs.Terms.Term.{literal, column, unary, binary}
use Rattle.sr_ast.specs.Exprs.{term_of}
use Rattle.sr_ast.specs.declared.expr.Expr.{Expr}
use Rattle.sr_ast.specs.declared.expr.Expr.TheVariants.{Literal, Column, Unary as UnaryExpr, Binary as BinaryExpr}
use Rattle.sr_ast.specs.declared.operator.Unary.{Unary}
use Rattle.sr_ast.specs.declared.operator.Unary.TheVariants as one
use Rattle.sr_ast.specs.declared.operator.Binary.{Binary}
use Rattle.sr_base.specs.declared.value.Value.{Value}
use Rattle.sr_base_dates.specs.Calendar.{day_named}
use Rattle.sr_ast.specs.declared.keyword.Keyword.TheVariants as key
use Rattle.sr_parse_grammar.specs.declared.symbol.Sign.TheVariants as sign
use Rattle.sr_parse_grammar.specs.declared.symbol.Symbol.{Symbol}
use Rattle.sr_parse_grammar.specs.declared.symbol.Symbol.TheVariants as symbol
use Rattle.sr_parse_grammar.specs.Symbols.{Symbols, name_meant, IsName, IsWord, IsSign}
use Rattle.sr_parse_grammar.specs.Literals.{IsLiteral, IsNegative, IsSingle, IsDate, literal_meant, negative_meant, begins_number}
use Rattle.sr_parse_grammar.specs.Expressions.{Operator, IsNullTest, IsColumn, IsExpr, joins, compares}
use Rattle.sr_parse_grammar.specs.Inner.Going.{Stop, Begins, sum_goes, is_dot, expression_goes, relation_goes}
use Rattle.sr_parse_grammar.proofs.Steps.{Stop-at, Stop-begins, Begins-not, Stop-fewer, IsName-once}
use Rattle.sr_parse_grammar.specs.Inner.Levels.{tightness}
use Rattle.sr_parse_grammar.specs.declared.level.Level.{Level}
use Rattle.sr_parse_grammar.proofs.Turning.{Spot, beneath, Turn, turned_round}
use Rattle.sr_parse_grammar.proofs.Turning.Spot.{behind, tail}
use Rattle.sr_parse_grammar.proofs.Turning.Turn.{chain, stop, step, refused, affirmed, measured, alone, against, tested, below, turned, plain, value, called, within}
use Rattle.sr_parse_grammar.proofs.Following.{goes, joint_goes, expression_starts, signed_starts, atom_starts, turn_starts, beneath_fewer, sum_fewer, joint_joins, relation_compares, joint_stops, compare_stops, literal_no_name}

-- what an operator is
operator_once : (meant : Symbol → Option Binary) {before after rest : Symbols} {x y : Binary} → Operator meant before x after → Operator meant before y rest → (x ≡ y) × (after ≡ rest)
operator_once meant {y = y} o p =
    let os = o.stands in let ps = p.stands in
    let same : o.written ≡ p.written = cc in
    let meant' : meant o.written ≡ Some y = subst (λ (s : Symbol). meant s ≡ Some y) (sym same) p.means in
    let m = o.means in (cc, cc)

null_test_once : (before : Symbols) (x : Unary) (after : Symbols) (y : Unary) (rest : Symbols) → IsNullTest before x after → IsNullTest before y rest → (x ≡ y) × (after ≡ rest)
null_test_once before one.IsNull after one.IsNull rest h k = (refl, cc)
null_test_once before one.IsNull after one.IsNotNull rest h k = absurd (cc)
null_test_once before one.IsNotNull after one.IsNull rest h k = absurd (cc)
null_test_once before one.IsNotNull after one.IsNotNull rest h k = (refl, cc)
null_test_once before _ after _ rest h k = search rules

date_no_literal : {before after rest : Symbols} {v w : Value} → IsSingle before v after → IsDate before w rest → ⊥
date_no_literal {v = v} l d =
    let ls = l.stands in let ds = d.date in
    let e : l.written ≡ symbol.Keyword key.Date = cc in
    let m : literal_meant (symbol.Keyword key.Date) ≡ Some v = subst (λ (s : Symbol). literal_meant s ≡ Some v) e l.means in
    cc

single_once : {before after rest : Symbols} {v w : Value} → IsSingle before v after → IsSingle before w rest → (v ≡ w) × (after ≡ rest)
single_once {w = w} l k =
    let ls = l.stands in let ks = k.stands in
    let same : l.written ≡ k.written = cc in
    let meant : literal_meant l.written ≡ Some w = subst (λ (s : Symbol). literal_meant s ≡ Some w) (sym same) k.means in
    let m = l.means in (cc, cc)

date_once : {before after rest : Symbols} {v w : Value} → IsDate before v after → IsDate before w rest → (v ≡ w) × (after ≡ rest)
date_once l k =
    let ld = l.date in let kd = k.date in let lt = l.text.stands in let kt = k.text.stands in
    let text : l.text.text ≡ k.text.text = cc in
    let named : day_named l.text.text ≡ Some k.text.day = subst (λ (t : List ℕ). day_named t ≡ Some k.text.day) (sym text) k.text.named in
    let ln = l.text.named in let day : l.text.day ≡ k.text.day = cc in
    let lm = l.text.means in let km = k.text.means in (cc, cc)

pub literal_once : (before : Symbols) (v : Value) (after : Symbols) (w : Value) (rest : Symbols) → IsLiteral before v after → IsLiteral before w rest → (v ≡ w) × (after ≡ rest)
literal_once before v after w rest (inl l) (inl k) = single_once l k
literal_once before v after w rest (inl l) (inr k) = absurd (date_no_literal l k)
literal_once before v after w rest (inr l) (inl k) = absurd (date_no_literal k l)
literal_once before v after w rest (inr l) (inr k) = date_once l k

pub negative_once : {before here after rest : Symbols} {v w : Value} → before ≡ here → IsNegative before v after → IsNegative here w rest → (v ≡ w) × (after ≡ rest)
negative_once {w = w} e l k =
    let ls = l.stands in let ks = k.stands in
    let same : l.number ≡ k.number = cc in
    let meant : negative_meant l.number ≡ Some w = subst (λ (s : Symbol). negative_meant s ≡ Some w) (sym same) k.means in
    let m = l.means in (cc, cc)

pub negative_begins : {before next here after : Symbols} {v : Value} → IsSign before sign.Minus next → IsSign before sign.Minus here → IsNegative next v after → begins_number here ≡ None → ⊥
negative_begins {next = b} {here = here} {v = v} e f n none =
    let one_place : here ≡ b = cc in
    let same : begins_number b ≡ None = subst (λ (s : Symbols). begins_number s ≡ None) one_place none in
    let there : negative_meant n.number ≡ None = subst (λ (s : Symbols). begins_number s ≡ None) n.stands same in
    let m = n.means in cc

pub column_once : (before : Symbols) (x : Option (List ℕ)) (n : List ℕ) (after : Symbols) (y : Option (List ℕ)) (m : List ℕ) (rest : Symbols)
    → IsColumn before x n after → IsColumn before y m rest → Stop is_dot after → Stop is_dot rest → (x ≡ y) × (n ≡ m) × (after ≡ rest)
column_once before None n after None m rest h k p q = let s = IsName-once refl h k in (refl, s.0, s.1)
column_once before None n after (Some t) m rest h (dot, next, k, d, l) p q = let s = IsName-once refl h k in absurd (Stop-begins is_dot (s.1 ∙ d) refl p)
column_once before (Some t) n after None m rest (dot, next, k, d, l) h p q = let s = IsName-once refl h k in absurd (Stop-begins is_dot (s.1 ∙ d) refl q)
column_once before (Some t) n after (Some u) m rest (dot, next, k, d, l) (dot', next', k', d', l') p q =
    let s = IsName-once refl k k' in let e = s.1 in let same : next ≡ next' = cc in let r = IsName-once same l l' in (ap Some s.0, r.0, r.1)

-- a symbol that is no name
pub no_key_name : {before next after : Symbols} {s : Symbol} {n : List ℕ} → before ≡ s ∷ next → name_meant s ≡ None → IsName before n after → ⊥
no_key_name {s = s} {n = n} e none c =
    let cs = c.stands in let same : c.word ≡ s = cc in
    let m : name_meant s ≡ Some n = subst (λ (w : Symbol). name_meant w ≡ Some n) same c.means in cc

pub word_no_operator : {before next after : Symbols} {op : Binary} → Operator compares before op next → IsWord before key.Is after → ⊥
word_no_operator {op = op} o w =
    let os = o.stands in let same : o.written ≡ symbol.Keyword key.Is = cc in
    let m : compares (symbol.Keyword key.Is) ≡ Some op = subst (λ (s : Symbol). compares s ≡ Some op) same o.means in cc

pub literal_no_column : (before after rest : Symbols) (v : Value) (t : Option (List ℕ)) (n : List ℕ) → IsLiteral before v after → IsColumn before t n rest → ⊥
literal_no_column before after rest v None n (inl l) c =
    let ls = l.stands in let cs = c.stands in let e : l.written ≡ c.word = cc in
    literal_no_name c.word v n (subst (λ (s : Symbol). literal_meant s ≡ Some v) e l.means) c.means
literal_no_column before after rest v (Some t) n (inl l) (dot, next, c, d, m) =
    let ls = l.stands in let cs = c.stands in let e : l.written ≡ c.word = cc in
    literal_no_name c.word v t (subst (λ (s : Symbol). literal_meant s ≡ Some v) e l.means) c.means
literal_no_column before after rest v None n (inr l) c = no_key_name l.date refl c
literal_no_column before after rest v (Some t) n (inr l) (dot, next, c, d, m) = no_key_name l.date refl c

pub literal_no_sign : (before after next : Symbols) (v : Value) → IsLiteral before v after → IsSign before sign.Open next → ⊥
literal_no_sign before after next v (inl l) o =
    let ls = l.stands in let e : l.written ≡ symbol.Sign sign.Open = cc in
    let m : literal_meant (symbol.Sign sign.Open) ≡ Some v = subst (λ (s : Symbol). literal_meant s ≡ Some v) e l.means in cc
literal_no_sign before after next v (inr l) o = let d = l.date in cc

pub column_no_sign : (before after next : Symbols) (t : Option (List ℕ)) (n : List ℕ) → IsColumn before t n after → IsSign before sign.Open next → ⊥
column_no_sign before after next None n c o = no_key_name o refl c
column_no_sign before after next (Some t) n (dot, then_, c, d, m) o = no_key_name o refl c

-- the end of what follows an operand
pub behind_stops : {room : ℕ} {j : Level} {a t : Term} {before after : Symbols} → Turn (behind j a) room before t after → Stop (joint_goes j) after → Stop (goes (beneath j)) before
behind_stops {after = after} (stop {j = j}) p = Stop-fewer (joint_goes j) (goes (beneath j)) after (beneath_fewer j) p
behind_stops (step {j = j} {op = op} o y more) p = Stop-at (goes (beneath j)) o.stands (joint_stops j o.written op o.means)

pub tail_stops : {room : ℕ} {a t : Term} {before after : Symbols} → Turn (tail a) room before t after → Stop relation_goes after → Stop sum_goes before
tail_stops {after = after} alone p = Stop-fewer relation_goes sum_goes after sum_fewer p
tail_stops (against {op = op} o y) p = Stop-at sum_goes o.stands (compare_stops o.written op o.means)
tail_stops (tested w n) p = Stop-at sum_goes w refl

moved : {room : ℕ} {p q : Spot} {before here after : Symbols} {t : Term} → q ≡ p → here ≡ before → Turn q room here t after → Turn p room before t after
moved {room = room} {p = p} {here = here} {after = after} {t = t} e f h = subst (λ (s : Symbols). Turn p room s t after) f (subst (λ (r : Spot). Turn r room here t after) e h)

pub turn_once : {room : ℕ} {p : Spot} {before after rest : Symbols} {t u : Term} → Turn p room before t after → Turn p room before u rest → Stop (goes p) after → Stop (goes p) rest → (t ≡ u) × (after ≡ rest)
turn_once (chain {j = j} h more) (chain h' more') p q =
    let s = turn_once h h' (behind_stops more p) (behind_stops more' q) in
    turn_once more (moved (ap (λ (a : Term). behind j a) (sym s.0)) (sym s.1) more') p q
turn_once stop stop p q = (refl, refl)
turn_once (stop {j = j}) (step {op = op} o y more) p q = absurd (Stop-begins (joint_goes j) o.stands (joint_joins j o.written op o.means) p)
turn_once (step {op = op} o y more) (stop {j = j}) p q = absurd (Stop-begins (joint_goes j) o.stands (joint_joins j o.written op o.means) q)
turn_once (step {j = j} {op = op} {a = a} {b = b} o y more) (step {op = op'} {b = b'} o' y' more') p q =
    let s = operator_once (joins (tightness j)) o o' in
    let r = turn_once y (moved refl (sym s.1) y') (behind_stops more p) (behind_stops more' q) in
    let e = s.0 in let f = r.0 in let same : behind j (binary op' a b') ≡ behind j (binary op a b) = cc in
    turn_once more (moved same (sym r.1) more') p q
turn_once (refused w x) (refused w' x') p q = let e = w in let s = turn_once x (moved refl (cc) x') p q in (ap (unary one.Not) s.0, s.1)
turn_once (refused w x) (affirmed h) p q = absurd (Begins-not signed_starts w refl (turn_starts h))
turn_once (affirmed h) (refused w x) p q = absurd (Begins-not signed_starts w refl (turn_starts h))
turn_once (affirmed h) (affirmed h') p q = turn_once h h' p q
turn_once (measured h more) (measured h' more') p q =
    let s = turn_once h h' (tail_stops more p) (tail_stops more' q) in
    turn_once more (moved (ap (λ (a : Term). tail a) (sym s.0)) (sym s.1) more') p q
turn_once alone alone p q = (refl, refl)
turn_once alone (against {op = op} o y) p q = absurd (Stop-begins relation_goes o.stands (relation_compares o.written op o.means) p)
turn_once alone (tested w n) p q = absurd (Stop-begins relation_goes w refl p)
turn_once (against {op = op} o y) alone p q = absurd (Stop-begins relation_goes o.stands (relation_compares o.written op o.means) q)
turn_once (against {after = after} o y) (against {after = rest} o' y') p q =
    let s = operator_once compares o o' in
    let r = turn_once y (moved refl (sym s.1) y') (Stop-fewer relation_goes sum_goes after sum_fewer p) (Stop-fewer relation_goes sum_goes rest sum_fewer q) in
    let e = s.0 in let f = r.0 in (cc, r.1)
turn_once (against {op = op} o y) (tested w n) p q = absurd (word_no_operator o w)
turn_once (tested w n) alone p q = absurd (Stop-begins relation_goes w refl q)
turn_once (tested w n) (against o y) p q = absurd (word_no_operator o w)
turn_once (tested {next = next} {after = after} {op = op} {a = a} w n) (tested {next = next'} {after = rest} {op = op'} w' n') p q =
    let same : next' ≡ next = cc in
    let s = null_test_once next op after op' rest n (subst (λ (b : Symbols). IsNullTest b op' rest) same n') in
    (ap (λ (o : Unary). unary o a) s.0, s.1)
turn_once (below m n) (below m' n') p q = let s = negative_once (cc) n n' in (ap literal s.0, s.1)
turn_once (below m n) (turned m' n' x) p q = absurd (negative_begins m m' n n')
turn_once (below m n) (plain h) p q = absurd (Begins-not atom_starts m refl (turn_starts h))
turn_once (turned m' n' x) (below m n) p q = absurd (negative_begins m m' n n')
turn_once (turned m n x) (turned m' n' x') p q = let s = turn_once x (moved refl (cc) x') p q in (ap (unary one.Negate) s.0, s.1)
turn_once (turned m n x) (plain h) p q = absurd (Begins-not atom_starts m refl (turn_starts h))
turn_once (plain h) (below m n) p q = absurd (Begins-not atom_starts m refl (turn_starts h))
turn_once (plain h) (turned m n x) p q = absurd (Begins-not atom_starts m refl (turn_starts h))
turn_once (plain h) (plain h') p q = turn_once h h' p q
turn_once (value {before = before} {after = after} {v = v} l) (value {after = rest} {v = w} l') p q = let s = literal_once before v after w rest l l' in (ap literal s.0, s.1)
turn_once (value {before = before} {after = after} {v = v} l) (called {after = rest} {table = t} {name = n} c) p q = absurd (literal_no_column before after rest v t n l c)
turn_once (value {before = before} {after = after} {v = v} l) (within {next = next} z o x c) p q = absurd (literal_no_sign before after next v l o)
turn_once (called {after = rest} {table = t} {name = n} c) (value {before = before} {after = after} {v = v} l) p q = absurd (literal_no_column before after rest v t n l c)
turn_once (called {before = before} {after = after} {table = t} {name = n} c) (called {after = rest} {table = u} {name = m} c') p q =
    let s = column_once before t n after u m rest c c' p q in let e = s.0 in let f = s.1 in (cc, s.2)
turn_once (called {before = before} {after = after} {table = t} {name = n} c) (within {next = next} z o x d) p q = absurd (column_no_sign before after next t n c o)
turn_once (within {next = next} z o x c) (value {before = before} {after = after} {v = v} l) p q = absurd (literal_no_sign before after next v l o)
turn_once (within {next = next} z o x d) (called {before = before} {after = after} {table = t} {name = n} c) p q = absurd (column_no_sign before after next t n c o)
turn_once (within z o x c) (within z' o' x' c') p q =
    let s = turn_once x (moved refl (cc) x') (Stop-at expression_goes c refl) (Stop-at expression_goes c' refl) in let e = s.1 in (s.0, cc)

-- the expression that a term is
abbrev pub expr_of : Term → Expr
expr_of (literal v) = Literal v
expr_of (column t n) = Column t n
expr_of (unary op a) = UnaryExpr op a
expr_of (binary op a b) = BinaryExpr op a b

pub term_of-expr_of : (t : Term) → term_of (expr_of t) ≡ t
term_of-expr_of (literal v) = refl
term_of-expr_of _ = refl

pub expr_of-term_of : (e : Expr) → expr_of (term_of e) ≡ e
expr_of-term_of (Literal v) = refl
expr_of-term_of _ = refl

term_of_once : (a b : Expr) → term_of a ≡ term_of b → a ≡ b
term_of_once (Literal v) (Literal w) e = cc
term_of_once (Column t n) (Column u m) e = cc
term_of_once (UnaryExpr o a) (UnaryExpr p b) e = cc
term_of_once (BinaryExpr o a b) (BinaryExpr p c d) e = cc
term_of_once a b e = absurd (cc)

pub IsExpr-once : {before here after rest : Symbols} {e f : Expr} → before ≡ here → IsExpr before e after → IsExpr here f rest → Stop expression_goes after → Stop expression_goes rest → (e ≡ f) × (after ≡ rest)
IsExpr-once {e = e} {f = f} is h k p q =
    let s = turn_once (turned_round h.reads) (moved refl (sym is) (turned_round k.reads)) p q in (term_of_once e f s.0, s.1)

pub IsExpr-starts : {before after : Symbols} {e : Expr} → IsExpr before e after → Begins expression_starts before
IsExpr-starts h = turn_starts (turned_round h.reads)
