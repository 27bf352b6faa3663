-- Readers of expressions find what the symbols spell.
use Rattle.std.proofs.Common.{◌≡◌, ℕ, Result, ◌+◌, ◌-◌, ◌<◌, ◌≤◌, arith, List, [], ◌∷◌, Option, Some, None, Ok, Err, refl, sym, subst, ap, ◌∙◌}
use Rattle.std.specs.Option.{option_and_then}
use Rattle.sr_ast.specs.Terms.{Term, depth}
use Rattle.sr_ast.specs.Terms.Term.{literal, column, unary, binary}
use Rattle.sr_ast.specs.Exprs.{term_of}
use Rattle.sr_ast.specs.declared.operator.Unary.{Unary}
use Rattle.sr_ast.specs.declared.operator.Unary.TheVariants as one
use Rattle.sr_ast.specs.declared.operator.Binary.{Binary}
use Rattle.sr_base.specs.declared.value.Value.{Value}
use Rattle.sr_ast.specs.declared.keyword.Keyword.TheVariants as key
use Rattle.sr_parse_grammar.specs.declared.symbol.Sign.TheVariants as sign
use Rattle.sr_parse_grammar.specs.declared.symbol.Symbol.{Symbol}
use Rattle.sr_parse_reader.specs.declared.reader.Broken.{Broken}
use Rattle.sr_parse_reader.specs.declared.reader.Broken.TheVariants.{Memory, Refused}
use Rattle.sr_parse_reader.specs.declared.exprs.Room.{Room}
use Rattle.sr_parse_reader.specs.declared.exprs.Sized.{Sized}
use Rattle.sr_parse_grammar.specs.declared.level.Level.{Level}
use Rattle.sr_parse_grammar.specs.declared.level.Level.TheVariants.{Or}
use Rattle.sr_parse_grammar.specs.Symbols.{Symbols, first, IsName, IsWord, IsSign}
use Rattle.sr_parse_grammar.specs.Inner.Symbols.{behind as rest_of}
use Rattle.sr_parse_grammar.specs.Literals.{IsLiteral, negative_meant, begins_number}
use Rattle.sr_parse_grammar.specs.Inner.Levels.{tightness}
use Rattle.sr_parse_grammar.specs.Expressions.{Tightness, IsNullTest, IsColumn, Reads, tighter, joins, compares}
use Rattle.sr_parse_grammar.specs.Inner.Expressions.{IsDeep}
use Rattle.sr_parse_grammar.specs.Expressions.Tightness.{disjunction, negation, comparison, sum, signed, operand}
use Rattle.sr_parse_grammar.specs.Expressions.Reads.{loose, joined, not, compared, null_test, negative, minus, single, named, inside}
use Rattle.sr_parse_reader.specs.Inner.Reading.{Gives}
use Rattle.sr_parse_grammar.specs.Inner.Going.{Stop, goes_on, sum_goes, relation_goes, expression_goes}
use Rattle.sr_parse_grammar.proofs.Steps.{Stop-at, Stop-begins, Stop-fewer, Begins-not}
use Rattle.sr_parse_grammar.proofs.Turning.{Spot, beneath, Turn, turned_round}
use Rattle.sr_parse_grammar.proofs.Termed.{depth-some}
use Rattle.sr_parse_grammar.proofs.Turning.Spot.{whole, behind, denial, relation, tail, signing, atom}
use Rattle.sr_parse_grammar.proofs.Turning.Turn.{chain, stop, step, refused, affirmed, measured, alone, against, tested, below, turned, plain, value, called, within}
use Rattle.sr_parse_grammar.proofs.Following.{goes, joint_joins, relation_compares, sum_fewer, turn_starts, signed_starts, atom_starts}
use Rattle.sr_parse_grammar.proofs.Expressing.{behind_stops, tail_stops, word_no_operator, negative_begins, literal_no_sign, column_no_sign, literal_no_column, no_key_name}

-- an answer is the expression that the symbols spell, where the room holds it and nothing behind goes on with it
abbrev pub Finds : Tightness → Room → Symbols → Symbols → Result Sized Broken → Type 0
Finds level room before here result = (t : Term) (after : Symbols) → Reads level room.parentheses before t after → depth t ≤ room.depth → Stop (goes_on level) after
    → Gives result (λ sized. (term_of sized.expr ≡ t) × (here ≡ after))

-- back from the form that is turned round
abbrev Meant : Spot → ℕ → Symbols → Term → Symbols → Type 0
Meant (whole j) room before t after = Reads (tightness j) room before t after
Meant (behind j a) room before t after = (start : Symbols) → Reads (tightness j) room start a before → Reads (tightness j) room start t after
Meant denial room before t after = Reads negation room before t after
Meant relation room before t after = Reads comparison room before t after
Meant (tail a) room before t after = (start : Symbols) → Reads sum room start a before → Reads comparison room start t after
Meant signing room before t after = Reads signed room before t after
Meant atom room before t after = Reads operand room before t after

raised : (j : Level) (room : ℕ) (before : Symbols) (t : Term) (after : Symbols) → Meant (beneath j) room before t after → Reads (tighter (tightness j)) room before t after
raised Or room before t after h = h
raised _ room before t after h = h

pub turned_back : {p : Spot} {room : ℕ} {before after : Symbols} {t : Term} → Turn p room before t after → Meant p room before t after
turned_back (chain {room = r} {j = j} {before = before} {middle = m} {a = a} h more) = turned_back more before (loose (raised j r before a m (turned_back h)))
turned_back stop = λ start x. x
turned_back (step {room = r} {j = j} {next = n} {middle = m} {b = b} o y more) = λ start x. turned_back more start (joined x o (raised j r n b m (turned_back y)))
turned_back (refused w x) = not w (turned_back x)
turned_back (affirmed h) = loose (turned_back h)
turned_back (measured {before = before} h more) = turned_back more before (turned_back h)
turned_back alone = λ start x. loose x
turned_back (against o y) = λ start x. compared x o (turned_back y)
turned_back (tested w n) = λ start x. null_test x w n
turned_back (below s n) = negative s n
turned_back (turned s n x) = minus s n (turned_back x)
turned_back (plain h) = loose (turned_back h)
turned_back (value l) = single l
turned_back (called c) = named c
turned_back (within p o x c) = inside p o (turned_back x) c

-- an operator makes an expression deeper
deeper : {j : Level} {room : ℕ} {before after : Symbols} {a t : Term} → Turn (behind j a) room before t after → depth a ≤ depth t
deeper stop = omega arith
deeper (step more_op y more) = let d = deeper more in omega (arith, d)

-- what is read between the operators of a level
beneath_stops : (j : Level) (after : Symbols) → Stop (goes (beneath j)) after → Stop (goes_on (tighter (tightness j))) after
beneath_stops Or after h = h
beneath_stops _ after h = h

-- the first operand of a level, and what follows it
pub record First (level : Level) (room limit : ℕ) (before : Symbols) (t : Term) (after : Symbols) : Type 0 where
  pub part : Term
  pub middle : Symbols
  pub reads : Reads (tighter (tightness level)) room before part middle
  pub shallow : depth part ≤ limit
  pub stops : Stop (goes_on (tighter (tightness level))) middle
  pub more : Turn (behind level part) room middle t after

rounded : (level : Level) {room : ℕ} {before after : Symbols} {t : Term} → Reads (tightness level) room before t after → Turn (whole level) room before t after
rounded Or h = turned_round h
rounded _ h = turned_round h

first_in : {level : Level} {room limit : ℕ} {before after : Symbols} {t : Term} → Turn (whole level) room before t after → depth t ≤ limit → Stop (goes_on (tightness level)) after → First level room limit before t after
first_in (chain {room = r} {j = j} {before = b} {middle = m} {after = after} {a = a} h more) d s =
    let deep = deeper more in
    record { part = a; middle = m; reads = raised j r b a m (turned_back h); shallow = omega (arith, deep, d); stops = beneath_stops j m (behind_stops more s); more = more }

pub first_part : (level : Level) {room limit : ℕ} {before after : Symbols} {t : Term} → Reads (tightness level) room before t after → depth t ≤ limit → Stop (goes_on (tightness level)) after → First level room limit before t after
first_part level h d s = first_in (rounded level h) d s

-- the next operand, behind an operator
pub record Next (level : Level) (room limit : ℕ) (op : Binary) (left : Term) (next : Symbols) (t : Term) (after : Symbols) : Type 0 where
  pub part : Term
  pub middle : Symbols
  pub reads : Reads (tighter (tightness level)) room next part middle
  pub left_shallow : depth left < limit
  pub shallow : depth part < limit
  pub stops : Stop (goes_on (tighter (tightness level))) middle
  pub more : Turn (behind level (binary op left part)) room middle t after

-- what the operator that is next means
meant_at : (meant : Symbol → Option Binary) {here next : Symbols} {s : Symbol} {op : Binary} → here ≡ s ∷ next → option_and_then meant (first here) ≡ Some op → meant s ≡ Some op
meant_at meant {op = op} e o = subst (λ (b : Symbols). option_and_then meant (first b) ≡ Some op) e o

pub begun : (meant : Symbol → Option Binary) (here : Symbols) (op : Binary) → option_and_then meant (first here) ≡ Some op → (s : Symbol) × (here ≡ s ∷ rest_of here) × (meant s ≡ Some op)
begun meant [] op o = absurd (cc)
begun meant (s ∷ here) op o = (s, refl, o)

next_in : {level : Level} {room limit : ℕ} {op : Binary} {left t : Term} {here next after : Symbols} → Turn (behind level left) room here t after
    → option_and_then (joins (tightness level)) (first here) ≡ Some op → next ≡ rest_of here → depth t ≤ limit → Stop (goes_on (tightness level)) after → Next level room limit op left next t after
next_in {op = op} (stop {j = j} {after = here}) o e d s =
    let b = begun (joins (tightness j)) here op o in
    absurd (Stop-begins (goes_on (tightness j)) b.1 (joint_joins j b.0 op b.2) s)
next_in {op = op} {next = next} {after = after} (step {room = r} {j = j} {before = here} {next = n} {middle = m} {op = op'} {a = a} {b = b} {t = t} o' y more) o e d s =
    let stands = o'.stands in let means = o'.means in
    let meant = meant_at (joins (tightness j)) stands o in
    let same : op' ≡ op = cc in
    let place : n ≡ next = cc in
    let deep = deeper more in
    record {
      part = b;
      middle = m;
      reads = subst (λ x. Reads (tighter (tightness j)) r x b m) place (raised j r n b m (turned_back y));
      left_shallow = omega (arith, deep, d);
      shallow = omega (arith, deep, d);
      stops = beneath_stops j m (behind_stops more s);
      more = subst (λ x. Turn (behind j (binary x a b)) r m t after) same more;
    }

-- what a chain of operands still has to read, for each expression that the symbols spell from its start
abbrev pub Follows : Level → Room → Symbols → Symbols → Term → Type 0
Follows level room start here left = (t : Term) (after : Symbols) → Reads (tightness level) room.parentheses start t after → depth t ≤ room.depth → Stop (goes_on (tightness level)) after
    → Turn (behind level left) room.parentheses here t after

moved_on : {level : Level} {room : ℕ} {here middle after : Symbols} {a left t : Term} → left ≡ a → here ≡ middle → Turn (behind level a) room middle t after → Turn (behind level left) room here t after
moved_on {level = j} {room = r} {middle = m} {after = after} {left = left} {t = t} e f h =
    subst (λ b. Turn (behind j left) r b t after) (sym f) (subst (λ x. Turn (behind j x) r m t after) (sym e) h)

-- the first operand is not read
pub part_fails : (level : Level) {room : Room} {before : Symbols} (here there : Symbols) {e : Broken} → Finds (tighter (tightness level)) room before here (Err e) → Finds (tightness level) room before there (Err e)
part_fails level here there finds = λ t after h d s. let f = first_part level h d s in finds f.part f.middle f.reads f.shallow f.stops

-- the first operand is read
pub part_found : (level : Level) {room : Room} {before here : Symbols} (left : Sized) → Finds (tighter (tightness level)) room before here (Ok left) → Follows level room before here (term_of left.expr)
part_found level left finds = λ t after h d s.
    let f = first_part level h d s in
    let is = finds f.part f.middle f.reads f.shallow f.stops in moved_on is.0 is.1 f.more

-- no operator is next
ended_in : {level : Level} {room : ℕ} {left t : Term} {here after : Symbols} → Turn (behind level left) room here t after → option_and_then (joins (tightness level)) (first here) ≡ None → (left ≡ t) × (here ≡ after)
ended_in stop o = (refl, refl)
ended_in (step {j = j} o' y more) o =
    let means = o'.means in
    let none : joins (tightness j) o'.written ≡ None = subst (λ (b : Symbols). option_and_then (joins (tightness j)) (first b) ≡ None) o'.stands o in
    absurd (cc)

pub chain_ends : {level : Level} {room : Room} {start here there : Symbols} (left : Sized) → Follows level room start here (term_of left.expr) → option_and_then (joins (tightness level)) (first here) ≡ None → there ≡ here
    → Finds (tightness level) room start there (Ok left)
chain_ends left follows o e = λ t after h d s. let is = ended_in (follows t after h d s) o in (is.0, e ∙ is.1)

-- an operator is next where no room is left
pub chain_refused : {level : Level} {room : Room} {start here : Symbols} (there : Symbols) {left : Term} (op : Binary) {size : ℕ} → Follows level room start here left → option_and_then (joins (tightness level)) (first here) ≡ Some op
    → IsDeep left size room.depth → room.depth ≤ size → Finds (tightness level) room start there (Err Refused)
chain_refused there op follows o deep full = λ t after h d s.
    let n = next_in (follows t after h d s) o refl d s in
    let less = n.left_shallow in let size = deep.is in absurd (omega (arith, less, size, full))

-- the next operand is not read
pub next_fails : {level : Level} {room inner : Room} {start here next : Symbols} (new there : Symbols) {left : Term} (op : Binary) {e : Broken} → Follows level room start here left → option_and_then (joins (tightness level)) (first here) ≡ Some op
    → next ≡ rest_of here → inner.depth + 1 ≡ room.depth → inner.parentheses ≡ room.parentheses → Finds (tighter (tightness level)) inner next new (Err e) → Finds (tightness level) room start there (Err e)
next_fails {level = level} {inner = inner} {next = next} new there op follows o place r p finds = λ t after h d s.
    let n = next_in (follows t after h d s) o place d s in
    let less = n.shallow in
    finds n.part n.middle (subst (λ i. Reads (tighter (tightness level)) i next n.part n.middle) (sym p) n.reads) (omega (arith, less, r)) n.stops

-- the next operand is read
pub next_found : {level : Level} {room inner : Room} {start here next new : Symbols} {left whole : Term} {op : Binary} (right : Sized) → Follows level room start here left → option_and_then (joins (tightness level)) (first here) ≡ Some op
    → next ≡ rest_of here → inner.depth + 1 ≡ room.depth → inner.parentheses ≡ room.parentheses → Finds (tighter (tightness level)) inner next new (Ok right) → whole ≡ binary op left (term_of right.expr)
    → Follows level room start new whole
next_found {level = level} {inner = inner} {next = next} {left = left} {op = op} right follows o place r p finds is = λ t after h d s.
    let n = next_in (follows t after h d s) o place d s in
    let less = n.shallow in
    let read = finds n.part n.middle (subst (λ i. Reads (tighter (tightness level)) i next n.part n.middle) (sym p) n.reads) (omega (arith, less, r)) n.stops in
    moved_on (is ∙ ap (λ b. binary op left b) read.0) read.1 n.more

-- ---- comparisons

tail_deeper : {room : ℕ} {before after : Symbols} {a t : Term} → Turn (tail a) room before t after → depth a ≤ depth t
tail_deeper alone = omega arith
tail_deeper _ = omega arith

-- what a comparison still has to read behind its first sum
abbrev pub Awaits : Room → Symbols → Symbols → Term → Type 0
Awaits room start here left = (t : Term) (after : Symbols) → Reads comparison room.parentheses start t after → depth t ≤ room.depth → Stop relation_goes after → Turn (tail left) room.parentheses here t after

record Related (room limit : ℕ) (before : Symbols) (t : Term) (after : Symbols) : Type 0 where
  pub part : Term
  pub middle : Symbols
  pub reads : Reads sum room before part middle
  pub shallow : depth part ≤ limit
  pub stops : Stop sum_goes middle
  pub more : Turn (tail part) room middle t after

related_in : {room limit : ℕ} {before after : Symbols} {t : Term} → Turn relation room before t after → depth t ≤ limit → Stop relation_goes after → Related room limit before t after
related_in (measured {middle = m} {a = a} h more) d s =
    let deep = tail_deeper more in
    record { part = a; middle = m; reads = turned_back h; shallow = omega (arith, deep, d); stops = tail_stops more s; more = more }

pub sum_fails : {room : Room} {before : Symbols} (here there : Symbols) {e : Broken} → Finds sum room before here (Err e) → Finds comparison room before there (Err e)
sum_fails here there finds = λ t after h d s. let f = related_in (turned_round h) d s in finds f.part f.middle f.reads f.shallow f.stops

tail_moved : {room : ℕ} {here middle after : Symbols} {a left t : Term} → left ≡ a → here ≡ middle → Turn (tail a) room middle t after → Turn (tail left) room here t after
tail_moved {room = r} {middle = m} {after = after} {left = left} {t = t} e f h = subst (λ b. Turn (tail left) r b t after) (sym f) (subst (λ x. Turn (tail x) r m t after) (sym e) h)

pub sum_found : {room : Room} {before here : Symbols} (left : Sized) → Finds sum room before here (Ok left) → Awaits room before here (term_of left.expr)
sum_found left finds = λ t after h d s.
    let f = related_in (turned_round h) d s in
    let is = finds f.part f.middle f.reads f.shallow f.stops in tail_moved is.0 is.1 f.more

-- behind a comparison's sign
record Against (room limit : ℕ) (op : Binary) (left : Term) (next : Symbols) (t : Term) (after : Symbols) : Type 0 where
  pub part : Term
  pub reads : Reads sum room next part after
  pub left_shallow : depth left < limit
  pub shallow : depth part < limit
  pub stops : Stop sum_goes after
  pub is : t ≡ binary op left part

against_in : {room limit : ℕ} {op : Binary} {left t : Term} {here next after : Symbols} → Turn (tail left) room here t after → option_and_then compares (first here) ≡ Some op → next ≡ rest_of here
    → depth t ≤ limit → Stop relation_goes after → Against room limit op left next t after
against_in {op = op} (alone {after = here}) o e d s =
    let b = begun compares here op o in absurd (Stop-begins relation_goes b.1 (relation_compares b.0 op b.2) s)
against_in {op = op} {next = next} (against {room = r} {next = n} {after = after} {op = op'} {a = a} {b = b} o' y) o e d s =
    let stands = o'.stands in let means = o'.means in
    let meant = meant_at compares stands o in
    let same : op' ≡ op = cc in
    let place : n ≡ next = cc in
    record {
      part = b;
      reads = subst (λ x. Reads sum r x b after) place (turned_back y);
      left_shallow = omega (arith, d);
      shallow = omega (arith, d);
      stops = Stop-fewer relation_goes sum_goes after sum_fewer s;
      is = ap (λ x. binary x a b) same;
    }
against_in {op = op} (tested w n) o e d s = let meant = meant_at compares w o in absurd (cc)

pub against_refused : {room : Room} {start here : Symbols} (there : Symbols) {left : Term} (op : Binary) {size : ℕ} → Awaits room start here left → option_and_then compares (first here) ≡ Some op
    → IsDeep left size room.depth → room.depth ≤ size → Finds comparison room start there (Err Refused)
against_refused there op awaits o deep full = λ t after h d s.
    let n = against_in (awaits t after h d s) o refl d s in
    let less = n.left_shallow in let size = deep.is in absurd (omega (arith, less, size, full))

pub against_fails : {room inner : Room} {start here next : Symbols} (new there : Symbols) {left : Term} (op : Binary) {e : Broken} → Awaits room start here left → option_and_then compares (first here) ≡ Some op
    → next ≡ rest_of here → inner.depth + 1 ≡ room.depth → inner.parentheses ≡ room.parentheses → Finds sum inner next new (Err e) → Finds comparison room start there (Err e)
against_fails {next = next} new there op awaits o place r p finds = λ t after h d s.
    let n = against_in (awaits t after h d s) o place d s in
    let less = n.shallow in
    finds n.part after (subst (λ i. Reads sum i next n.part after) (sym p) n.reads) (omega (arith, less, r)) n.stops

pub against_found : {room inner : Room} {start here next new : Symbols} {left : Term} (op : Binary) (right all : Sized) → Awaits room start here left → option_and_then compares (first here) ≡ Some op
    → next ≡ rest_of here → inner.depth + 1 ≡ room.depth → inner.parentheses ≡ room.parentheses → Finds sum inner next new (Ok right) → term_of all.expr ≡ binary op left (term_of right.expr)
    → Finds comparison room start new (Ok all)
against_found {next = next} {left = left} op right all awaits o place r p finds is = λ t after h d s.
    let n = against_in (awaits t after h d s) o place d s in
    let less = n.shallow in
    let read = finds n.part after (subst (λ i. Reads sum i next n.part after) (sym p) n.reads) (omega (arith, less, r)) n.stops in
    (is ∙ (ap (λ b. binary op left b) read.0 ∙ sym n.is), read.1)

-- behind IS
record Tested (limit : ℕ) (left : Term) (next : Symbols) (t : Term) (after : Symbols) : Type 0 where
  pub op : Unary
  pub test : IsNullTest next op after
  pub left_shallow : depth left < limit
  pub is : t ≡ unary op left

tested_in : {room limit : ℕ} {left t : Term} {here next after : Symbols} → Turn (tail left) room here t after → IsWord here key.Is next → depth t ≤ limit → Stop relation_goes after → Tested limit left next t after
tested_in alone w d s = absurd (Stop-begins relation_goes w refl s)
tested_in (against {op = op} o y) w d s = absurd (word_no_operator o w)
tested_in {next = next} (tested {next = n} {after = after} {op = op} v h) w d s =
    let place : n ≡ next = cc in
    record { op = op; test = subst (λ b. IsNullTest b op after) place h; left_shallow = omega (arith, d); is = refl }

pub tested_refused : {room : Room} {start here next : Symbols} (there : Symbols) {left : Term} {size : ℕ} → Awaits room start here left → IsWord here key.Is next
    → IsDeep left size room.depth → room.depth ≤ size → Finds comparison room start there (Err Refused)
tested_refused there awaits w deep full = λ t after h d s.
    let n = tested_in (awaits t after h d s) w d s in
    let less = n.left_shallow in let size = deep.is in absurd (omega (arith, less, size, full))

pub tested_fails : {room : Room} {start here next : Symbols} (there : Symbols) {left : Term} {e : Broken} → Awaits room start here left → IsWord here key.Is next
    → ((op : Unary) (rest : Symbols) → IsNullTest next op rest → e ≡ Memory) → Finds comparison room start there (Err e)
tested_fails there awaits w finds = λ t after h d s. let n = tested_in (awaits t after h d s) w d s in finds n.op after n.test

pub tested_found : {room : Room} {start here next new : Symbols} {left : Term} (op : Unary) (all : Sized) → Awaits room start here left → IsWord here key.Is next
    → ((x : Unary) (rest : Symbols) → IsNullTest next x rest → (op ≡ x) × (new ≡ rest)) → term_of all.expr ≡ unary op left → Finds comparison room start new (Ok all)
tested_found {left = left} op all awaits w finds is = λ t after h d s.
    let n = tested_in (awaits t after h d s) w d s in
    let read = finds n.op after n.test in (is ∙ (ap (λ x. unary x left) read.0 ∙ sym n.is), read.1)

-- neither is next
alone_in : {room : ℕ} {left t : Term} {here after : Symbols} → Turn (tail left) room here t after → option_and_then compares (first here) ≡ None → ((rest : Symbols) → IsWord here key.Is rest → ⊥) → (left ≡ t) × (here ≡ after)
alone_in alone o absent = (refl, refl)
alone_in (against o' y) o absent =
    let means = o'.means in
    let none : compares o'.written ≡ None = subst (λ (b : Symbols). option_and_then compares (first b) ≡ None) o'.stands o in
    absurd (cc)
alone_in (tested {next = n} w h) o absent = absurd (absent n w)

pub comparison_ends : {room : Room} {start here : Symbols} (left : Sized) → Awaits room start here (term_of left.expr) → option_and_then compares (first here) ≡ None → ((rest : Symbols) → IsWord here key.Is rest → ⊥)
    → Finds comparison room start here (Ok left)
comparison_ends left awaits o absent = λ t after h d s. alone_in (awaits t after h d s) o absent

-- ---- NOT

pub denial_in : {room : ℕ} {before after : Symbols} {t : Term} → Turn denial room before t after → ((rest : Symbols) → IsWord before key.Not rest → ⊥) → Reads comparison room before t after
denial_in (refused {next = n} w x) absent = absurd (absent n w)
denial_in (affirmed h) absent = turned_back h

-- behind NOT, or behind a `-`
pub record Under (level : Tightness) (op : Unary) (room : ℕ) (next : Symbols) (t : Term) (after : Symbols) : Type 0 where
  pub part : Term
  pub reads : Reads level room next part after
  pub is : t ≡ unary op part

pub denied_in : {room : ℕ} {before next after : Symbols} {t : Term} → Turn denial room before t after → IsWord before key.Not next → Under negation one.Not room next t after
denied_in {next = next} (refused {room = r} {next = n} {after = after} {a = a} v x) w =
    let place : n ≡ next = cc in record { part = a; reads = subst (λ b. Reads negation r b a after) place (turned_back x); is = refl }
denied_in (affirmed h) w = absurd (Begins-not signed_starts w refl (turn_starts h))

pub under_depth : {level : Tightness} {op : Unary} {room : ℕ} {next after : Symbols} {t : Term} (u : Under level op room next t after) → depth t ≡ depth u.part + 1
under_depth u = ap depth u.is

pub denied_refused : {room : Room} {before next : Symbols} (there : Symbols) → IsWord before key.Not next → room.depth < 2 → Finds negation room before there (Err Refused)
denied_refused there w few = λ t after h d s.
    let u = denied_in (turned_round h) w in let deep = under_depth u in let some = depth-some u.part in absurd (omega (arith, few, d, deep, some))

-- ---- a `-`

pub unsigned_in : {room : ℕ} {before after : Symbols} {t : Term} → Turn signing room before t after → ((rest : Symbols) → IsSign before sign.Minus rest → ⊥) → Reads operand room before t after
unsigned_in (below {next = n} m h) absent = absurd (absent n m)
unsigned_in (turned {next = n} m h x) absent = absurd (absent n m)
unsigned_in (plain h) absent = turned_back h

below_in : {room : ℕ} {before next after : Symbols} {t : Term} {v : Value} → Turn signing room before t after → IsSign before sign.Minus next → begins_number next ≡ Some v → (literal v ≡ t) × (rest_of next ≡ after)
below_in {next = next} {v = v} (below {next = n} {v = w} m h) m' b =
    let place : next ≡ n = cc in
    let stands = h.stands in let means = h.means in
    let there : begins_number n ≡ Some v = subst (λ (x : Symbols). begins_number x ≡ Some v) place b in
    let meant : negative_meant h.number ≡ Some v = subst (λ (x : Symbols). begins_number x ≡ Some v) stands there in
    let same : v ≡ w = cc in
    (ap literal same, ap rest_of (place ∙ stands))
below_in {next = next} {v = v} (turned {next = n} m none x) m' b =
    let place : next ≡ n = cc in
    let there : begins_number n ≡ Some v = subst (λ (x : Symbols). begins_number x ≡ Some v) place b in
    absurd (cc)
below_in (plain h) m b = absurd (Begins-not atom_starts m refl (turn_starts h))

pub below_found : {room : Room} {before next new : Symbols} (v : Value) (all : Sized) → IsSign before sign.Minus next → begins_number next ≡ Some v → new ≡ rest_of next → term_of all.expr ≡ literal v
    → Finds signed room before new (Ok all)
below_found v all m b e is = λ t after h d s. let n = below_in (turned_round h) m b in (is ∙ n.0, e ∙ n.1)

minus_in : {room : ℕ} {before next after : Symbols} {t : Term} → Turn signing room before t after → IsSign before sign.Minus next → begins_number next ≡ None → Under signed one.Negate room next t after
minus_in {next = next} (below {next = n} {v = v} m h) m' none = absurd (negative_begins m m' h none)
minus_in {next = next} (turned {room = r} {next = n} {after = after} {a = a} m none x) m' none' =
    let place : n ≡ next = cc in record { part = a; reads = subst (λ b. Reads signed r b a after) place (turned_back x); is = refl }
minus_in (plain h) m none = absurd (Begins-not atom_starts m refl (turn_starts h))

pub minus_refused : {room : Room} {before next : Symbols} (there : Symbols) → IsSign before sign.Minus next → begins_number next ≡ None → room.depth < 2 → Finds signed room before there (Err Refused)
minus_refused there m none few = λ t after h d s.
    let u = minus_in (turned_round h) m none in let deep = under_depth u in let some = depth-some u.part in absurd (omega (arith, few, d, deep, some))

pub minus_fails : {room inner : Room} {before next : Symbols} (new there : Symbols) {e : Broken} → IsSign before sign.Minus next → begins_number next ≡ None → inner.depth + 1 ≡ room.depth → inner.parentheses ≡ room.parentheses
    → Finds signed inner next new (Err e) → Finds signed room before there (Err e)
minus_fails {next = next} new there m none r p finds = λ t after h d s.
    let u = minus_in (turned_round h) m none in let deep = under_depth u in
    finds u.part after (subst (λ i. Reads signed i next u.part after) (sym p) u.reads) (omega (arith, d, deep, r)) s

pub minus_found : {room inner : Room} {before next new : Symbols} (held all : Sized) → IsSign before sign.Minus next → begins_number next ≡ None → inner.depth + 1 ≡ room.depth → inner.parentheses ≡ room.parentheses
    → Finds signed inner next new (Ok held) → term_of all.expr ≡ unary one.Negate (term_of held.expr) → Finds signed room before new (Ok all)
minus_found {next = next} held all m none r p finds is = λ t after h d s.
    let u = minus_in (turned_round h) m none in let deep = under_depth u in
    let read = finds u.part after (subst (λ i. Reads signed i next u.part after) (sym p) u.reads) (omega (arith, d, deep, r)) s in
    (is ∙ (ap (unary one.Negate) read.0 ∙ sym u.is), read.1)

-- ---- operands

-- behind a `(`
pub record Within (room : ℕ) (next : Symbols) (t : Term) (after : Symbols) : Type 0 where
  pub middle : Symbols
  pub some : 0 < room
  pub reads : Reads disjunction (room - 1) next t middle
  pub stops : Stop expression_goes middle
  pub closed : IsSign middle sign.Close after

pub within_in : {room : ℕ} {before next after : Symbols} {t : Term} → Turn atom room before t after → IsSign before sign.Open next → Within room next t after
within_in {next = next} (value {before = before} {after = after} {v = v} l) o = absurd (literal_no_sign before after next v l o)
within_in {next = next} (called {before = before} {after = after} {table = t} {name = n} c) o = absurd (column_no_sign before after next t n c o)
within_in {next = next} (within {room = r} {next = n} {middle = m} {t = t} p o x c) o' =
    let place : n ≡ next = cc in
    record { middle = m; some = p; reads = subst (λ b. Reads disjunction (r - 1) b t m) place (turned_back x); stops = Stop-at expression_goes c refl; closed = c }

pub within_refused : {room : Room} {before next : Symbols} (there : Symbols) → IsSign before sign.Open next → room.parentheses ≡ 0 → Finds operand room before there (Err Refused)
within_refused there o none = λ t after h d s. let w = within_in (turned_round h) o in let some = w.some in absurd (omega (arith, some, none))

pub within_open : {room inner : Room} {before next here : Symbols} (there : Symbols) (all : Sized) {e : Broken} → IsSign before sign.Open next → inner.depth ≡ room.depth → inner.parentheses ≡ room.parentheses - 1
    → Finds disjunction inner next here (Ok all) → ((rest : Symbols) → IsSign here sign.Close rest → e ≡ Memory) → Finds operand room before there (Err e)
within_open {next = next} there all o r p finds closes = λ t after h d s.
    let w = within_in (turned_round h) o in
    let read = finds t w.middle (subst (λ i. Reads disjunction i next t w.middle) (sym p) w.reads) (omega (arith, d, r)) w.stops in
    closes after (read.1 ∙ w.closed)

-- a name is next
pub column_in : {room : ℕ} {before after rest : Symbols} {t : Term} {n : List ℕ} → Turn atom room before t after → IsName before n rest
    → (table : Option (List ℕ)) × (name : List ℕ) × IsColumn before table name after × (t ≡ column table name)
column_in {n = n} (value {before = before} {after = after} {v = v} l) is = absurd (literal_no_column before after _ v None n l is)
column_in (called {table = table} {name = name} c) is = (table, name, c, refl)
column_in (within p o x c) is = absurd (no_key_name o refl is)

-- neither a name nor a `(` is next
column_names : (before : Symbols) (table : Option (List ℕ)) (name : List ℕ) (after : Symbols) → IsColumn before table name after → ((x : List ℕ) (rest : Symbols) → IsName before x rest → ⊥) → ⊥
column_names before None name after c absent = absent name after c
column_names before (Some table) name after (dot, next, n, d, m) absent = absent table dot n

pub literal_in : {room : ℕ} {before after : Symbols} {t : Term} → Turn atom room before t after → ((rest : Symbols) → IsSign before sign.Open rest → ⊥) → ((x : List ℕ) (rest : Symbols) → IsName before x rest → ⊥)
    → (v : Value) × IsLiteral before v after × (t ≡ literal v)
literal_in (value {v = v} l) no_open no_name = (v, l, refl)
literal_in (called {before = before} {after = after} {table = table} {name = name} c) no_open no_name = absurd (column_names before table name after c no_name)
literal_in (within {next = n} p o x c) no_open no_name = absurd (no_open n o)
