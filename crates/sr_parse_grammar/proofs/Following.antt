-- With what an expression begins, and with what it goes on.
use Rattle.std.proofs.Common.{◌≡◌, ℕ, Bool, true, false, ◌||◌, List, Option, Some, None, refl, sym, subst, inl, inr}
use Rattle.std.proofs.lemmas.Bool.{or_left as or_first, or_right as or_true}
use Rattle.sr_ast.specs.Terms.{Term}
use Rattle.sr_ast.specs.declared.operator.Binary.{Binary}
use Rattle.sr_base.specs.declared.value.Value.{Value}
use Rattle.sr_ast.specs.declared.keyword.Keyword.TheVariants as key
use Rattle.sr_parse_grammar.specs.declared.symbol.Sign.TheVariants as sign
use Rattle.sr_parse_grammar.specs.declared.symbol.Symbol.{Symbol}
use Rattle.sr_parse_grammar.specs.declared.symbol.Symbol.TheVariants as symbol
use Rattle.sr_parse_grammar.specs.Symbols.{Symbols, name_meant, IsName}
use Rattle.sr_parse_grammar.specs.Literals.{IsLiteral, literal_meant}
use Rattle.sr_parse_grammar.specs.Expressions.{joins, compares, IsColumn}
use Rattle.sr_parse_grammar.specs.Expressions.Tightness.{disjunction, conjunction, sum, product}
use Rattle.sr_parse_grammar.specs.Inner.Going.{Begins, is_there, is_dot, factor_goes, sum_goes, relation_goes, and_goes, goes_on}
use Rattle.sr_parse_grammar.proofs.Steps.{Begins-at, Begins-more}
use Rattle.sr_parse_grammar.specs.Inner.Levels.{tightness}
use Rattle.sr_parse_grammar.specs.declared.level.Level.{Level}
use Rattle.sr_parse_grammar.specs.declared.level.Level.TheVariants.{Or, And, Sum, Product}
use Rattle.sr_parse_grammar.proofs.Turning.{Spot, beneath, Turn}
use Rattle.sr_parse_grammar.proofs.Turning.Spot.{whole, behind, denial, relation, tail, signing, atom}
use Rattle.sr_parse_grammar.proofs.Turning.Turn.{chain, refused, affirmed, measured, below, turned, plain, value, called, within}

pub is_there-Some : {A : Type 0} (o : Option A) (x : A) → o ≡ Some x → is_there o ≡ true
is_there-Some o x e = subst (λ o. is_there o ≡ true) (sym e) refl

pub or_left : (a b : Bool) → (a || b) ≡ false → a ≡ false
or_left true b h = h
or_left false b h = refl

pub or_right : (a b : Bool) → (a || b) ≡ false → b ≡ false
or_right true b h = absurd (cc)
or_right false b h = h

abbrev pub joint_goes : Level → Symbol → Bool
joint_goes j = goes_on (tightness j)

abbrev pub goes : Spot → Symbol → Bool
goes (whole j) = joint_goes j
goes (behind j a) = joint_goes j
goes denial = relation_goes
goes relation = relation_goes
goes (tail a) = relation_goes
goes signing = is_dot
goes atom = is_dot

-- what stops a level stops the tighter one
pub beneath_fewer : (j : Level) (s : Symbol) → joint_goes j s ≡ false → goes (beneath j) s ≡ false
beneath_fewer Or s h = or_right _ _ h
beneath_fewer _ s h = or_right _ _ h

pub sum_fewer : (s : Symbol) → relation_goes s ≡ false → sum_goes s ≡ false
sum_fewer s h = or_right _ _ h

pub joint_joins : (j : Level) (s : Symbol) (op : Binary) → joins (tightness j) s ≡ Some op → joint_goes j s ≡ true
joint_joins Or s op e = or_first _ _ (is_there-Some _ _ e)
joint_joins _ s op e = or_first _ _ (is_there-Some _ _ e)

pub relation_compares : (s : Symbol) (op : Binary) → compares s ≡ Some op → relation_goes s ≡ true
relation_compares s op e = or_first _ _ (or_first _ _ (is_there-Some _ _ e))

-- an operator stops what stands before it
or_stops : (s : Symbol) (op : Binary) → joins disjunction s ≡ Some op → and_goes s ≡ false
or_stops (symbol.Keyword key.Or) op e = refl
or_stops s op e = absurd (cc)

and_stops : (s : Symbol) (op : Binary) → joins conjunction s ≡ Some op → relation_goes s ≡ false
and_stops (symbol.Keyword key.And) op e = refl
and_stops s op e = absurd (cc)

sum_stops : (s : Symbol) (op : Binary) → joins sum s ≡ Some op → factor_goes s ≡ false
sum_stops (symbol.Sign sign.Plus) op e = refl
sum_stops _ op e = cc

product_stops : (s : Symbol) (op : Binary) → joins product s ≡ Some op → is_dot s ≡ false
product_stops (symbol.Sign sign.Times) op e = refl
product_stops s op e = absurd (cc)

pub joint_stops : (j : Level) (s : Symbol) (op : Binary) → joins (tightness j) s ≡ Some op → goes (beneath j) s ≡ false
joint_stops Or s op e = or_stops s op e
joint_stops And s op e = and_stops s op e
joint_stops Sum s op e = sum_stops s op e
joint_stops Product s op e = product_stops s op e

pub compare_stops : (s : Symbol) (op : Binary) → compares s ≡ Some op → sum_goes s ≡ false
compare_stops (symbol.Sign sign.Equal) op e = refl
compare_stops _ op e = cc

-- the symbols with which an operand begins, with a sign too, with NOT too
abbrev pub is_open_or_date : Symbol → Bool
is_open_or_date (symbol.Sign sign.Open) = true
is_open_or_date (symbol.Keyword key.Date) = true
is_open_or_date s = false

abbrev pub is_minus : Symbol → Bool
is_minus (symbol.Sign sign.Minus) = true
is_minus s = false

abbrev pub is_not : Symbol → Bool
is_not (symbol.Keyword key.Not) = true
is_not s = false

abbrev pub atom_starts : Symbol → Bool
atom_starts s = is_there (literal_meant s) || (is_there (name_meant s) || is_open_or_date s)

abbrev pub signed_starts : Symbol → Bool
signed_starts s = is_minus s || atom_starts s

abbrev pub expression_starts : Symbol → Bool
expression_starts s = is_not s || signed_starts s

abbrev pub joint_starts : Level → Symbol → Bool
joint_starts Or = expression_starts
joint_starts And = expression_starts
joint_starts j = signed_starts

abbrev pub Starts : Spot → Symbols → Type 0
Starts (whole j) before = Begins (joint_starts j) before
Starts (behind j a) before = Unit {0}
Starts denial before = Begins expression_starts before
Starts relation before = Begins signed_starts before
Starts (tail a) before = Unit {0}
Starts signing before = Begins signed_starts before
Starts atom before = Begins atom_starts before

beneath_starts : (j : Level) (before : Symbols) → Starts (beneath j) before → Starts (whole j) before
beneath_starts Or before h = h
beneath_starts _ before h = h

literal_starts : (before after : Symbols) (v : Value) → IsLiteral before v after → Begins atom_starts before
literal_starts before after v (inl l) = Begins-at atom_starts l.stands (or_first _ _ (is_there-Some _ _ l.means))
literal_starts before after v (inr l) = Begins-at atom_starts l.date refl

name_starts : {before after : Symbols} {n : List ℕ} → IsName before n after → Begins atom_starts before
name_starts n = Begins-at atom_starts n.stands (or_true _ _ (or_first _ _ (is_there-Some _ _ n.means)))

column_starts : (before after : Symbols) (table : Option (List ℕ)) (name : List ℕ) → IsColumn before table name after → Begins atom_starts before
column_starts before after None name h = name_starts h
column_starts before after (Some table) name (dot, next, n, d, m) = name_starts n

pub turn_starts : {room : ℕ} {p : Spot} {before after : Symbols} {t : Term} → Turn p room before t after → Starts p before
turn_starts (chain {j = j} {before = before} h more) = beneath_starts j before (turn_starts h)
turn_starts (refused w x) = Begins-at expression_starts w refl
turn_starts (affirmed {before = before} h) = Begins-more signed_starts expression_starts before (λ s e. or_true _ _ e) (turn_starts h)
turn_starts (measured h more) = turn_starts h
turn_starts (below s n) = Begins-at signed_starts s refl
turn_starts (turned s n x) = Begins-at signed_starts s refl
turn_starts (plain {before = before} h) = Begins-more atom_starts signed_starts before (λ s e. or_true _ _ e) (turn_starts h)
turn_starts (value {before = before} {after = after} {v = v} l) = literal_starts before after v l
turn_starts (called {before = before} {after = after} {table = table} {name = name} c) = column_starts before after table name c
turn_starts (within p o x c) = Begins-at atom_starts o refl
turn_starts _ = tt

-- no name is a literal
pub literal_no_name : (s : Symbol) (v : Value) (n : List ℕ) → literal_meant s ≡ Some v → name_meant s ≡ Some n → ⊥
literal_no_name (symbol.Keyword key.Null) v n e f = cc
literal_no_name _ v n e f = cc
