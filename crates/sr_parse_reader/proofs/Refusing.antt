-- Readers of expressions: what they read, and where and why they are refused.
use Rattle.std.proofs.Common.{◌≡◌, ℕ, ◌+◌, ◌-◌, ◌<◌, ◌≤◌, arith, pos, inl, List, [], ◌∷◌, ◌++◌, Some, None, Result, Ok, Err, refl, sym, subst, ap, ◌∙◌, append_assoc, length}
use Rattle.std.proofs.lemmas.List.{append-nil}
use Rattle.std.specs.Option.{option_and_then}
use Rattle.sr_base.specs.declared.value.Value.{Value}
use Rattle.sr_base.specs.declared.value.Value.TheVariants.{Int}
use Rattle.sr_ast.specs.Terms.{Term, depth}
use Rattle.sr_ast.specs.Terms.Term.{literal, unary, binary}
use Rattle.sr_ast.specs.Exprs.{term_of}
use Rattle.sr_ast.specs.declared.operator.Unary.{Unary}
use Rattle.sr_ast.specs.declared.operator.Unary.TheVariants as one
use Rattle.sr_ast.specs.declared.operator.Binary.{Binary}
use Rattle.sr_ast.specs.declared.keyword.Keyword.TheVariants as key
use Rattle.sr_parse_grammar.specs.declared.symbol.Sign.TheVariants as mark
use Rattle.sr_parse_grammar.specs.declared.symbol.Symbol.{Symbol}
use Rattle.sr_parse_grammar.specs.declared.symbol.Symbol.TheVariants as symbol
use Rattle.sr_parse_reader.specs.declared.reader.Broken.{Broken}
use Rattle.sr_parse_reader.specs.declared.reader.Broken.TheVariants.{Memory, Refused}
use Rattle.sr_parse_reader.specs.declared.exprs.Room.{Room}
use Rattle.sr_parse_reader.specs.declared.exprs.Sized.{Sized}
use Rattle.sr_parse_grammar.specs.declared.level.Level.{Level}
use Rattle.sr_parse_grammar.specs.Symbols.{Symbols, first, word, sign, IsName, IsWord, IsSign}
use Rattle.sr_parse_grammar.specs.Inner.Symbols.{behind}
use Rattle.sr_parse_grammar.specs.Literals.{IsLiteral, negative_meant, begins_number}
use Rattle.sr_parse_grammar.specs.Inner.Levels.{tightness}
use Rattle.sr_parse_grammar.specs.Expressions.{Tightness, IsExpr, Reads, IsNullTest, tighter, joins, compares}
use Rattle.sr_parse_grammar.specs.Inner.Expressions.{IsDeep}
use Rattle.sr_parse_grammar.specs.Expressions.Tightness.{disjunction, conjunction, negation, comparison, sum, product, signed, operand}
use Rattle.sr_parse_grammar.specs.Expressions.Reads.{loose, joined, not, compared, null_test, negative, minus, single, inside}
use Rattle.sr_parse_grammar.specs.Inner.Going.{Stop, goes_on, expression_goes, is_dot}
use Rattle.sr_parse_reader.specs.Inner.Productions.{Word, Mark, Named, Fits, ReadsLevel}
use Rattle.sr_parse_reader.specs.Inner.Reading.{Spells, GoesOn, Alike, WasRead, Reading, Anywhere}
use Rattle.sr_parse_reader.specs.Inner.Reading.Reading.{read, refused, memory}
use Rattle.sr_parse_reader.proofs.Parts.{Sample, Seq, Leads, Casts, alike_from, then, first_fails, cast, valued}
use Rattle.sr_parse_reader.proofs.Starts.{meant_one, standing, lacks, word_read, sign_read, sign_sample}
use Rattle.sr_parse_grammar.proofs.Expressing.{expr_of, term_of-expr_of, expr_of-term_of}
use Rattle.sr_parse_reader.proofs.Readings.{Reads-room, Reads-named}
use Rattle.sr_parse_reader.proofs.Finding.{Finds, Follows, begun, part_fails, part_found, chain_ends, chain_refused, next_fails, next_found, Awaits, sum_fails, sum_found, against_refused, against_fails, against_found, tested_refused, tested_fails, tested_found, comparison_ends, denial_in, denied_in, denied_refused, under_depth, unsigned_in, below_found, minus_refused, minus_fails, minus_found, within_in, within_refused, column_in, literal_in}
use Rattle.sr_parse_grammar.proofs.Turning.{turned_round}
use Rattle.sr_parse_grammar.proofs.Steps.{Stop-at}

-- ---- what a reader of a level owes, in the words of `Finds`

pub known : {level : Tightness} {room : Room} {before here : Symbols} (sized : Sized) → ReadsLevel level room before here (Ok sized) → WasRead (Fits level room) (Stop (goes_on level)) before here (term_of sized.expr)
known sized (read r) = r

finds_read : {level : Tightness} {room : Room} {before here : Symbols} (sized : Sized) (r : WasRead (Fits level room) (Stop (goes_on level)) before here (term_of sized.expr)) (there : Symbols) → Alike here there
    → Finds level room (r.taken ++ there) there (Ok sized)
finds_read sized r there alike = λ t after h d s. r.only there alike t after (h, d) s

pub level_read : {level : Tightness} {room : Room} {before here : Symbols} (sized : Sized) (taken : Symbols) → before ≡ taken ++ here → Spells (Fits level room) taken (term_of sized.expr)
    → ((there : Symbols) → Alike here there → Finds level room (taken ++ there) there (Ok sized)) → ReadsLevel level room before here (Ok sized)
level_read sized taken parts spells finds = read (record { taken = taken; parts = parts; spells = spells; only = λ there alike t after h s. finds there alike t after h.0 h.1 s })

not_memory : Refused ≡ Memory → ⊥
not_memory e = cc

pub level_refused : {level : Tightness} {room : Room} {before here : Symbols} (taken : Symbols) → before ≡ taken ++ here → GoesOn (Fits level room) taken
    → ((there : Symbols) → Alike here there → Finds level room (taken ++ there) there (Err Refused)) → ReadsLevel level room before here (Err Refused)
level_refused taken parts goes finds = refused (record { taken = taken; parts = parts; goes = goes; none = λ there alike t after h s. not_memory (finds there alike t after h.0 h.1 s) })

moved_to : {level : Tightness} {room : Room} {before start : Symbols} (here : Symbols) (r : Result Sized Broken) → start ≡ before → Finds level room start here r → Finds level room before here r
moved_to {level = level} {room = room} here r e f = subst (λ (b : Symbols). Finds level room b here r) e f

-- ---- an expression that begins with symbols, and ends with another one

-- behind the symbols the part makes the whole
abbrev pub Makes : Tightness → Room → Symbols → (Term → Term) → Tightness → Room → Type 0
Makes level room one f part small = (b : Symbols) (t : Term) (a : Symbols) → Fits part small b t a → Fits level room (one ++ b) (f t) a

regrouped : (a b c d : Symbols) → a ++ ((b ++ c) ++ d) ≡ ((a ++ b) ++ c) ++ d
regrouped a b c d = sym (append_assoc a (b ++ c) d) ∙ ap (λ (l : Symbols). l ++ d) (sym (append_assoc a b c))

fits_at : {level : Tightness} {room : Room} {before start after : Symbols} {t : Term} → start ≡ before → Fits level room start t after → Fits level room before t after
fits_at {level = level} {room = room} {after = after} {t = t} e f = subst (λ (b : Symbols). Fits level room b t after) e f

pub goes_behind : {level part : Tightness} {room small : Room} (start two : Symbols) (f : Term → Term) → Makes level room start f part small → GoesOn (Fits part small) two → GoesOn (Fits level room) (start ++ two)
goes_behind start two f makes g = record {
  more = g.more;
  meant = g.meant;
  value = f g.value;
  spells = λ after. fits_at (regrouped start two g.more after) (makes ((two ++ g.more) ++ after) g.value after (g.spells after));
}

pub spells_behind : {level part : Tightness} {room small : Room} (start two : Symbols) (f : Term → Term) {t : Term} → Makes level room start f part small → Spells (Fits part small) two t → Spells (Fits level room) (start ++ two) (f t)
spells_behind start two f {t = t} makes s = λ after. fits_at (sym (append_assoc start two after)) (makes (two ++ after) t after (s after))

behind_both : (start two here : Symbols) {before next : Symbols} → before ≡ start ++ next → next ≡ two ++ here → before ≡ (start ++ two) ++ here
behind_both start two here e f = e ∙ (ap (λ (l : Symbols). start ++ l) f ∙ sym (append_assoc start two here))

-- the part is refused
pub part_refused : {level part : Tightness} {room small : Room} (start : Symbols) {before next here : Symbols} {e : Broken} → before ≡ start ++ next
    → ((two : Symbols) → next ≡ two ++ here → GoesOn (Fits part small) two → GoesOn (Fits level room) (start ++ two))
    → ((two there : Symbols) → next ≡ two ++ here → Alike here there → Finds part small (two ++ there) there (Err e) → Finds level room (start ++ (two ++ there)) there (Err e))
    → ReadsLevel part small next here (Err e) → ReadsLevel level room before here (Err e)
part_refused start place goes finds memory = memory
part_refused start {here = here} place goes finds (refused r) = level_refused (start ++ r.taken) (behind_both start r.taken here place r.parts) (goes r.taken r.parts r.goes)
    (λ there alike. moved_to there (Err Refused) (sym (append_assoc start r.taken there)) (finds r.taken there r.parts alike (λ t after h d s. absurd (r.none there alike t after (h, d) s))))

-- the part is read
pub part_read : {level part : Tightness} {room small : Room} (start : Symbols) {before next here : Symbols} (held all : Sized) → before ≡ start ++ next
    → ((two : Symbols) → next ≡ two ++ here → Spells (Fits part small) two (term_of held.expr) → Spells (Fits level room) (start ++ two) (term_of all.expr))
    → ((two there : Symbols) → next ≡ two ++ here → Alike here there → Finds part small (two ++ there) there (Ok held) → Finds level room (start ++ (two ++ there)) there (Ok all))
    → ReadsLevel part small next here (Ok held) → ReadsLevel level room before here (Ok all)
part_read start {here = here} held all place spells finds (read r) = level_read all (start ++ r.taken) (behind_both start r.taken here place r.parts) (spells r.taken r.parts r.spells)
    (λ there alike. moved_to there (Ok all) (sym (append_assoc start r.taken there)) (finds r.taken there r.parts alike (finds_read held r there alike)))

-- ---- samples

abbrev one_at : Symbols → Symbols
one_at after = symbol.Number (pos 1) ∷ after

abbrev Ones : Tightness → Type 0
Ones k = (room : ℕ) (after : Symbols) → Reads k room (one_at after) (literal (Int (pos 1))) after

operand_one : Ones operand
operand_one room after = single (inl (record { written = symbol.Number (pos 1); stands = refl; means = refl }))

sum_one : Ones sum
sum_one room after = loose (loose (loose (operand_one room after)))

negation_one : Ones negation
negation_one room after = loose (loose (sum_one room after))

number_reads : (k : Tightness) → Ones k
number_reads operand = operand_one
number_reads signed = λ room after. loose (operand_one room after)
number_reads product = λ room after. loose (loose (operand_one room after))
number_reads sum = sum_one
number_reads comparison = λ room after. loose (sum_one room after)
number_reads negation = negation_one
number_reads conjunction = λ room after. loose (negation_one room after)
number_reads disjunction = λ room after. loose (loose (negation_one room after))

-- the number 1 is an expression of each level
pub number_sample : (level : Tightness) {room : Room} → 0 < room.depth → Sample (Fits level room)
number_sample level {room = room} some = record {
  more = symbol.Number (pos 1) ∷ [];
  meant = (meant_one, tt);
  value = literal (Int (pos 1));
  spells = λ after. (number_reads level room.parentheses after, some);
}

-- an expression is one of the looser level
pub loosened : (k : Tightness) {room : Room} → Makes k room [] (λ t. t) (tighter k) room
loosened k = λ b t a h. (loose h.0, h.1)

-- what was taken is an expression already
pub whole_goes : {level : Tightness} {room : Room} (taken : Symbols) {t : Term} → Spells (Fits level room) taken t → GoesOn (Fits level room) taken
whole_goes taken {t = t} spells = record { more = []; meant = tt; value = t; spells = λ after. fits_at (ap (λ (l : Symbols). l ++ after) (sym (append-nil taken))) (spells after) }

-- room is left for an operator over it
pub shallower : {t : Term} {size limit : ℕ} → IsDeep t size limit → size < limit → depth t < limit
shallower deep less = let is = deep.is in omega (arith, is, less)

-- the reader of the level beneath another
pub part_at : {level at : Level} {room : Room} {before here : Symbols} (r : Result Sized Broken) → level ≡ at → ReadsLevel (tighter (tightness at)) room before here r → ReadsLevel (tighter (tightness level)) room before here r
part_at {room = room} {before = before} {here = here} r e h = subst (λ l. ReadsLevel (tighter (tightness l)) room before here r) (sym e) h

-- ---- operands between operators

-- so far the operands were read, and a chain of them goes on wherever such symbols stand
pub record Partly (level : Level) (room : Room) (start here : Symbols) (left : Term) : Type 0 where
  pub taken : Symbols
  pub parts : start ≡ taken ++ here
  pub spells : (after : Symbols) → Reads (tightness level) room.parentheses (taken ++ after) left after
  pub goes : (there : Symbols) → Alike here there → Follows level room (taken ++ there) there left

pub chain_missed : (level : Level) {room : Room} {before here : Symbols} {e : Broken} → ReadsLevel (tighter (tightness level)) room before here (Err e) → ReadsLevel (tightness level) room before here (Err e)
chain_missed level r = part_refused [] refl (λ two p g. goes_behind [] two (λ t. t) (loosened (tightness level)) g) (λ two there p alike f. part_fails level there there f) r

pub chain_begun : (level : Level) {room : Room} {before here : Symbols} (left : Sized) → ReadsLevel (tighter (tightness level)) room before here (Ok left) → Partly level room before here (term_of left.expr)
chain_begun level left h = let r = known left h in record {
  taken = r.taken;
  parts = r.parts;
  spells = λ after. loose (r.spells after).0;
  goes = λ there alike. part_found level left (finds_read left r there alike);
}

-- no operator is next
pub chain_whole : {level : Level} {room : Room} {start here : Symbols} {size : ℕ} (left : Sized) → Partly level room start here (term_of left.expr) → option_and_then (joins (tightness level)) (first here) ≡ None → IsDeep (term_of left.expr) size room.depth
    → ReadsLevel (tightness level) room start here (Ok left)
chain_whole {level = level} left p o deep = let is = deep.is in let within = deep.within in
    level_read left p.taken p.parts (λ after. (p.spells after, omega (arith, is, within)))
    (λ there alike. chain_ends left (p.goes there alike) (ap (option_and_then (joins (tightness level))) (sym alike) ∙ o) refl)

-- an operator is next where no room is left
pub chain_full : {level : Level} {room : Room} {start here : Symbols} {size : ℕ} {left : Term} (op : Binary) → Partly level room start here left → option_and_then (joins (tightness level)) (first here) ≡ Some op → IsDeep left size room.depth → room.depth ≤ size
    → ReadsLevel (tightness level) room start here (Err Refused)
chain_full {level = level} {left = left} op p o deep full = let is = deep.is in let within = deep.within in
    level_refused p.taken p.parts
    (whole_goes p.taken (λ after. (p.spells after, omega (arith, is, within))))
    (λ there alike. chain_refused there op (p.goes there alike) (ap (option_and_then (joins (tightness level))) (sym alike) ∙ o) deep full)

-- behind an operator that is next
behind_next : (taken here next : Symbols) (s : Symbol) {start : Symbols} → start ≡ taken ++ here → here ≡ s ∷ behind here → next ≡ behind here → start ≡ (taken ++ s ∷ []) ++ next
behind_next taken here next s e f g = e ∙ (ap (λ (l : Symbols). taken ++ l) (f ∙ ap (λ (l : Symbols). s ∷ l) (sym g)) ∙ sym (append_assoc taken (s ∷ []) next))

four_parts : (a b c d : Symbols) → a ++ (b ++ (c ++ d)) ≡ ((a ++ b) ++ c) ++ d
four_parts a b c d = sym (append_assoc a b (c ++ d)) ∙ sym (append_assoc (a ++ b) c d)

-- the whole that an operator and the next operand make
made_next : {level : Level} {room inner : Room} {start here : Symbols} {left : Term} (p : Partly level room start here left) (s : Symbol) {op : Binary} → joins (tightness level) s ≡ Some op → depth left < room.depth → inner.depth + 1 ≡ room.depth → inner.parentheses ≡ room.parentheses
    → Makes (tightness level) room (p.taken ++ s ∷ []) (binary op left) (tighter (tightness level)) inner
made_next p s means less r e = λ b t a h.
    let shallow = h.1 in
    fits_at (sym (append_assoc p.taken (s ∷ []) b))
    (joined (p.spells (s ∷ b)) (record { written = s; stands = refl; means = means }) (Reads-room e h.0), omega (arith, shallow, less, r))

-- the next operand is refused
pub chain_next_missed : {level : Level} {room inner : Room} {start here next new : Symbols} {left : Term} (op : Binary) {e : Broken} → Partly level room start here left → option_and_then (joins (tightness level)) (first here) ≡ Some op → next ≡ behind here
    → depth left < room.depth → inner.depth + 1 ≡ room.depth → inner.parentheses ≡ room.parentheses → ReadsLevel (tighter (tightness level)) inner next new (Err e) → ReadsLevel (tightness level) room start new (Err e)
chain_next_missed {level = level} {here = here} {next = next} {left = left} op p o place less r e h =
    let b = begun (joins (tightness level)) here op o in
    part_refused (p.taken ++ b.0 ∷ []) (behind_next p.taken here next b.0 p.parts b.1 place)
    (λ two q g. goes_behind (p.taken ++ b.0 ∷ []) two (binary op left) (made_next p b.0 b.2 less r e) g)
    (λ two there q alike f. moved_to there (Err _) (sym (append_assoc p.taken (b.0 ∷ []) (two ++ there)))
    (next_fails there there op (p.goes (b.0 ∷ (two ++ there)) (ap first b.1)) b.2 refl r e f))
    h

-- the next operand is read
pub chain_next : {level : Level} {room inner : Room} {start here next new : Symbols} {left whole : Term} {op : Binary} (right : Sized) → Partly level room start here left → option_and_then (joins (tightness level)) (first here) ≡ Some op → next ≡ behind here
    → inner.depth + 1 ≡ room.depth → inner.parentheses ≡ room.parentheses → ReadsLevel (tighter (tightness level)) inner next new (Ok right) → whole ≡ binary op left (term_of right.expr) → Partly level room start new whole
chain_next {level = level} {room = room} {here = here} {next = next} {new = new} {left = left} {whole = whole} {op = op} right p o place r e h is =
    let b = begun (joins (tightness level)) here op o in
    let k = known right h in
    record {
      taken = (p.taken ++ b.0 ∷ []) ++ k.taken;
      parts = behind_both (p.taken ++ b.0 ∷ []) k.taken new (behind_next p.taken here next b.0 p.parts b.1 place) k.parts;
      spells = λ after. subst (λ (l : Symbols). Reads (tightness level) room.parentheses l whole after) (four_parts p.taken (b.0 ∷ []) k.taken after)
          (subst (λ t. Reads (tightness level) room.parentheses (p.taken ++ (b.0 ∷ (k.taken ++ after))) t after) (sym is)
          (joined (p.spells (b.0 ∷ (k.taken ++ after))) (record { written = b.0; stands = refl; means = b.2 }) (Reads-room e (k.spells after).0)));
      goes = λ there alike. subst (λ (l : Symbols). Follows level room l there whole) (four_parts p.taken (b.0 ∷ []) k.taken there)
          (next_found right (p.goes (b.0 ∷ (k.taken ++ there)) (ap first b.1)) b.2 refl r e (finds_read right k there alike) is);
    }

-- ---- comparisons

pub sum_missed : {room : Room} {before here : Symbols} {e : Broken} → ReadsLevel sum room before here (Err e) → ReadsLevel comparison room before here (Err e)
sum_missed r = part_refused [] refl (λ two p g. goes_behind [] two (λ t. t) (loosened comparison) g) (λ two there p alike f. sum_fails there there f) r

awaits : {room : Room} {start here : Symbols} (left : Sized) (r : WasRead (Fits sum room) (Stop (goes_on sum)) start here (term_of left.expr)) (there : Symbols) → Alike here there → Awaits room (r.taken ++ there) there (term_of left.expr)
awaits left r there alike = sum_found left (finds_read left r there alike)

-- a comparison's sign is next where no room is left
pub against_full : {room : Room} {start here : Symbols} {size : ℕ} (left : Sized) (op : Binary) → ReadsLevel sum room start here (Ok left) → option_and_then compares (first here) ≡ Some op → IsDeep (term_of left.expr) size room.depth → room.depth ≤ size
    → ReadsLevel comparison room start here (Err Refused)
against_full left op h o deep full = let r = known left h in
    level_refused r.taken r.parts (whole_goes r.taken (λ after. (loose (r.spells after).0, (r.spells after).1)))
    (λ there alike. against_refused there op (awaits left r there alike) (ap (option_and_then compares) (sym alike) ∙ o) deep full)

made_against : {room inner : Room} {start here : Symbols} (left : Sized) (r : WasRead (Fits sum room) (Stop (goes_on sum)) start here (term_of left.expr)) (s : Symbol) {op : Binary} → compares s ≡ Some op → depth (term_of left.expr) < room.depth
    → inner.depth + 1 ≡ room.depth → inner.parentheses ≡ room.parentheses → Makes comparison room (r.taken ++ s ∷ []) (binary op (term_of left.expr)) sum inner
made_against left r s means less d e = λ b t a h.
    let shallow = h.1 in
    fits_at (sym (append_assoc r.taken (s ∷ []) b))
    (compared (r.spells (s ∷ b)).0 (record { written = s; stands = refl; means = means }) (Reads-room e h.0), omega (arith, shallow, less, d))

pub against_missed : {room inner : Room} {start here next new : Symbols} (left : Sized) (op : Binary) {e : Broken} → ReadsLevel sum room start here (Ok left) → option_and_then compares (first here) ≡ Some op → next ≡ behind here
    → depth (term_of left.expr) < room.depth → inner.depth + 1 ≡ room.depth → inner.parentheses ≡ room.parentheses → ReadsLevel sum inner next new (Err e) → ReadsLevel comparison room start new (Err e)
against_missed {here = here} {next = next} left op h o place less d e x =
    let r = known left h in
    let b = begun compares here op o in
    part_refused (r.taken ++ b.0 ∷ []) (behind_next r.taken here next b.0 r.parts b.1 place)
    (λ two q g. goes_behind (r.taken ++ b.0 ∷ []) two (binary op (term_of left.expr)) (made_against left r b.0 b.2 less d e) g)
    (λ two there q alike f. moved_to there (Err _) (sym (append_assoc r.taken (b.0 ∷ []) (two ++ there)))
    (against_fails there there op (awaits left r (b.0 ∷ (two ++ there)) (ap first b.1)) b.2 refl d e f))
    x

renamed : {level : Tightness} {room : Room} (taken : Symbols) {s t : Term} → s ≡ t → Spells (Fits level room) taken t → Spells (Fits level room) taken s
renamed {level = level} {room = room} taken e h = subst (λ t. Spells (Fits level room) taken t) (sym e) h

pub against_read : {room inner : Room} {start here next new : Symbols} (left right all : Sized) {op : Binary} → ReadsLevel sum room start here (Ok left) → option_and_then compares (first here) ≡ Some op → next ≡ behind here
    → depth (term_of left.expr) < room.depth → inner.depth + 1 ≡ room.depth → inner.parentheses ≡ room.parentheses → ReadsLevel sum inner next new (Ok right) → term_of all.expr ≡ binary op (term_of left.expr) (term_of right.expr) → ReadsLevel comparison room start new (Ok all)
against_read {here = here} {next = next} left right all {op = op} h o place less d e x is =
    let r = known left h in
    let b = begun compares here op o in
    part_read (r.taken ++ b.0 ∷ []) right all (behind_next r.taken here next b.0 r.parts b.1 place)
    (λ two q g. renamed ((r.taken ++ b.0 ∷ []) ++ two) is (spells_behind (r.taken ++ b.0 ∷ []) two (binary op (term_of left.expr)) (made_against left r b.0 b.2 less d e) g))
    (λ two there q alike f. moved_to there (Ok all) (sym (append_assoc r.taken (b.0 ∷ []) (two ++ there)))
    (against_found op right all (awaits left r (b.0 ∷ (two ++ there)) (ap first b.1)) b.2 refl d e f is))
    x

-- IS is next where no room is left
pub tested_full : {room : Room} {start here next : Symbols} {size : ℕ} (left : Sized) → ReadsLevel sum room start here (Ok left) → IsWord here key.Is next → IsDeep (term_of left.expr) size room.depth → room.depth ≤ size → ReadsLevel comparison room start here (Err Refused)
tested_full left h w deep full = let r = known left h in
    level_refused r.taken r.parts (whole_goes r.taken (λ after. (loose (r.spells after).0, (r.spells after).1)))
    (λ there alike. tested_refused there (awaits left r there alike) (standing there (sym alike ∙ ap first w)) deep full)

made_test : {room : Room} {start here : Symbols} (left : Sized) (r : WasRead (Fits sum room) (Stop (goes_on sum)) start here (term_of left.expr)) → depth (term_of left.expr) < room.depth → (b : Symbols) (op : Unary) (a : Symbols) → IsNullTest b op a
    → Fits comparison room ((r.taken ++ word key.Is ∷ []) ++ b) (unary op (term_of left.expr)) a
made_test left r less b op a h = fits_at (sym (append_assoc r.taken (word key.Is ∷ []) b)) (null_test (r.spells (word key.Is ∷ b)).0 refl h, omega (arith, less))

pub tested_missed : {room : Room} {start here next new : Symbols} (left : Sized) {e : Broken} → ReadsLevel sum room start here (Ok left) → IsWord here key.Is next → depth (term_of left.expr) < room.depth → Reading IsNullTest Anywhere next new (Err e) → ReadsLevel comparison room start new (Err e)
tested_missed left h w less memory = memory
tested_missed {here = here} {next = next} {new = new} left h w less (refused n) = let r = known left h in
    level_refused ((r.taken ++ word key.Is ∷ []) ++ n.taken) (behind_both (r.taken ++ word key.Is ∷ []) n.taken new (r.parts ∙ (ap (λ (l : Symbols). r.taken ++ l) w ∙ sym (append_assoc r.taken (word key.Is ∷ []) next))) n.parts)
    (record {
      more = n.goes.more;
      meant = n.goes.meant;
      value = unary n.goes.value (term_of left.expr);
      spells = λ after. fits_at (regrouped (r.taken ++ word key.Is ∷ []) n.taken n.goes.more after) (made_test left r less ((n.taken ++ n.goes.more) ++ after) n.goes.value after (n.goes.spells after));
    })
    (λ there alike. moved_to there (Err Refused) (four_parts r.taken (word key.Is ∷ []) n.taken there)
    (tested_fails there (awaits left r (word key.Is ∷ (n.taken ++ there)) (ap first w)) refl (λ op rest k. absurd (n.none there alike op rest k tt))))

pub tested_read : {room : Room} {start here next new : Symbols} (left all : Sized) {op : Unary} → ReadsLevel sum room start here (Ok left) → IsWord here key.Is next → depth (term_of left.expr) < room.depth → Reading IsNullTest Anywhere next new (Ok op)
    → term_of all.expr ≡ unary op (term_of left.expr) → ReadsLevel comparison room start new (Ok all)
tested_read {here = here} {next = next} {new = new} left all {op = op} h w less (read n) is = let r = known left h in
    level_read all ((r.taken ++ word key.Is ∷ []) ++ n.taken) (behind_both (r.taken ++ word key.Is ∷ []) n.taken new (r.parts ∙ (ap (λ (l : Symbols). r.taken ++ l) w ∙ sym (append_assoc r.taken (word key.Is ∷ []) next))) n.parts)
    (renamed ((r.taken ++ word key.Is ∷ []) ++ n.taken) is (λ after. fits_at (sym (append_assoc (r.taken ++ word key.Is ∷ []) n.taken after)) (made_test left r less (n.taken ++ after) op after (n.spells after))))
    (λ there alike. moved_to there (Ok all) (four_parts r.taken (word key.Is ∷ []) n.taken there)
    (tested_found op all (awaits left r (word key.Is ∷ (n.taken ++ there)) (ap first w)) refl (λ x rest k. n.only there alike x rest k tt) is))

-- neither is next
pub sum_alone : {room : Room} {start here : Symbols} (left : Sized) → ReadsLevel sum room start here (Ok left) → option_and_then compares (first here) ≡ None → ((rest : Symbols) → IsWord here key.Is rest → ⊥) → ReadsLevel comparison room start here (Ok left)
sum_alone left h o absent = let r = known left h in
    level_read left r.taken r.parts (λ after. (loose (r.spells after).0, (r.spells after).1))
    (λ there alike. comparison_ends left (awaits left r there alike) (ap (option_and_then compares) (sym alike) ∙ o) (λ rest k. lacks alike absent k))

-- ---- NOT

pub no_denial_reads : {room : Room} {before : Symbols} → ((rest : Symbols) → IsWord before key.Not rest → ⊥) → Casts (Fits comparison room) (Fits negation room) (Stop (goes_on comparison)) (Stop (goes_on negation)) (λ t. t) before
no_denial_reads absent = record {
  to = λ b x a h. (loose h.0, h.1);
  back = λ b y a alike h q. (y, (denial_in (turned_round h.0) (λ rest k. lacks alike absent k), h.1), q, refl);
}

abbrev denial_of : Unit {0} × Term → Term
denial_of p = unary one.Not p.1

denial_reads : {room inner : Room} {before next : Symbols} → IsWord before key.Not next → inner.depth + 1 ≡ room.depth → inner.parentheses ≡ room.parentheses
    → Casts (Seq (Word key.Not) (Fits negation inner)) (Fits negation room) (Stop (goes_on negation)) (Stop (goes_on negation)) denial_of before
denial_reads {inner = inner} w d e = record {
  to = λ b x a h. let shallow = h.2.1 in (not h.1 (Reads-room e h.2.0), omega (arith, shallow, d));
  back = λ b y a alike h q.
      let at = standing b (sym alike ∙ ap first w) in
      let u = denied_in (turned_round h.0) at in
      let deep = under_depth u in let shallow = h.1 in
      ((tt, u.part), (behind b, at, (Reads-room (sym e) u.reads, omega (arith, deep, shallow, d))), q, sym u.is);
}

pub denial_missed : {room inner : Room} {before next new : Symbols} {e : Broken} → IsWord before key.Not next → inner.depth + 1 ≡ room.depth → inner.parentheses ≡ room.parentheses → ReadsLevel negation inner next new (Err e) → ReadsLevel negation room before new (Err e)
denial_missed w d p h = cast (denial_reads w d p) (then (λ b y a k q. tt) (word_read w) h)

pub denial_read : {room inner : Room} {before next new : Symbols} (held all : Sized) → IsWord before key.Not next → inner.depth + 1 ≡ room.depth → inner.parentheses ≡ room.parentheses → ReadsLevel negation inner next new (Ok held)
    → term_of all.expr ≡ unary one.Not (term_of held.expr) → ReadsLevel negation room before new (Ok all)
denial_read held all w d p h is = valued is (cast (denial_reads w d p) (then (λ b y a k q. tt) (word_read w) h))

-- NOT is next where no room is left
pub denial_full : {room : Room} {before next : Symbols} → IsWord before key.Not next → 0 < room.depth → room.depth < 2 → ReadsLevel negation room before before (Err Refused)
denial_full w some few = level_refused [] refl (number_sample negation some) (λ there alike. denied_refused there (standing there (sym alike ∙ ap first w)) few)

-- ---- a `-`

pub no_minus_reads : {room : Room} {before : Symbols} → ((rest : Symbols) → IsSign before mark.Minus rest → ⊥) → Casts (Fits operand room) (Fits signed room) (Stop (goes_on operand)) (Stop (goes_on signed)) (λ t. t) before
no_minus_reads absent = record {
  to = λ b x a h. (loose h.0, h.1);
  back = λ b y a alike h q. (y, (unsigned_in (turned_round h.0) (λ rest k. lacks alike absent k), h.1), q, refl);
}

number_begun : (next : Symbols) (v : Value) → begins_number next ≡ Some v → (s : Symbol) × (next ≡ s ∷ behind next) × (negative_meant s ≡ Some v)
number_begun [] v e = absurd (cc)
number_begun (s ∷ next) v e = (s, refl, e)

-- a number behind it
pub below_read : {room : Room} {before next new : Symbols} {v : Value} (all : Sized) → 0 < room.depth → IsSign before mark.Minus next → begins_number next ≡ Some v → new ≡ behind next → term_of all.expr ≡ literal v → ReadsLevel signed room before new (Ok all)
below_read {next = next} {v = v} all some m b e is = let n = number_begun next v b in
    level_read all (sign mark.Minus ∷ n.0 ∷ []) (m ∙ ap (λ (l : Symbols). sign mark.Minus ∷ l) (n.1 ∙ ap (λ (l : Symbols). n.0 ∷ l) (sym e)))
    (renamed (sign mark.Minus ∷ n.0 ∷ []) is (λ after. (negative refl (record { number = n.0; stands = refl; means = n.2 }), some)))
    (λ there alike. below_found v all refl n.2 refl is)

-- behind it, the number 1 makes a literal
minus_goes : {room : Room} → 0 < room.depth → GoesOn (Fits signed room) (sign mark.Minus ∷ [])
minus_goes some = record {
  more = symbol.Number (pos 1) ∷ [];
  meant = (meant_one, tt);
  value = literal _;
  spells = λ after. (negative refl (record { number = symbol.Number (pos 1); stands = refl; means = refl }), some);
}

pub minus_full : {room : Room} {before next : Symbols} → 0 < room.depth → IsSign before mark.Minus next → begins_number next ≡ None → room.depth < 2 → ReadsLevel signed room before next (Err Refused)
minus_full some m none few = level_refused (sign mark.Minus ∷ []) m (minus_goes some) (λ there alike. minus_refused there refl (ap (option_and_then negative_meant) (sym alike) ∙ none) few)

-- no number is there either
no_number : (two here there : Symbols) {next : Symbols} → next ≡ two ++ here → Alike here there → begins_number next ≡ None → begins_number (two ++ there) ≡ None
no_number two here there {next = next} p alike none = ap (option_and_then negative_meant) (sym (alike_from next two here there p alike)) ∙ none

made_minus : {room inner : Room} (s : Symbol) (two after here : Symbols) {next : Symbols} {t : Term} → next ≡ (s ∷ two) ++ here → begins_number next ≡ None → inner.depth + 1 ≡ room.depth → inner.parentheses ≡ room.parentheses → (more : Symbols) → Fits signed inner ((s ∷ two) ++ more) t after
    → Fits signed room (sign mark.Minus ∷ ((s ∷ two) ++ more)) (unary one.Negate t) after
made_minus s two after here p none d e more h =
    let shallow = h.1 in (minus refl (ap (λ (l : Symbols). begins_number l) (sym p) ∙ none) (Reads-room e h.0), omega (arith, shallow, d))

goes_minus : {room inner : Room} (two here : Symbols) {next : Symbols} → 0 < room.depth → next ≡ two ++ here → begins_number next ≡ None → inner.depth + 1 ≡ room.depth → inner.parentheses ≡ room.parentheses → GoesOn (Fits signed inner) two
    → GoesOn (Fits signed room) (sign mark.Minus ∷ two)
goes_minus [] here some p none d e g = minus_goes some
goes_minus (s ∷ two) here some p none d e g = record {
  more = g.more;
  meant = g.meant;
  value = unary one.Negate g.value;
  spells = λ after. fits_at (ap (λ (l : Symbols). sign mark.Minus ∷ l) (sym (append_assoc (s ∷ two) g.more after)))
      (made_minus s two after here p none d e (g.more ++ after) (fits_at (append_assoc (s ∷ two) g.more after) (g.spells after)));
}

pub minus_missed : {room inner : Room} {before next new : Symbols} {e : Broken} → 0 < room.depth → IsSign before mark.Minus next → begins_number next ≡ None → inner.depth + 1 ≡ room.depth → inner.parentheses ≡ room.parentheses
    → ReadsLevel signed inner next new (Err e) → ReadsLevel signed room before new (Err e)
minus_missed {new = new} some m none d r h = part_refused (sign mark.Minus ∷ []) m
    (λ two p g. goes_minus two new some p none d r g)
    (λ two there p alike f. minus_fails there there refl (no_number two new there p alike none) d r f) h

spells_minus : {room inner : Room} (two here : Symbols) {next : Symbols} {t : Term} → length here < length next → next ≡ two ++ here → begins_number next ≡ None → inner.depth + 1 ≡ room.depth → inner.parentheses ≡ room.parentheses → Spells (Fits signed inner) two t
    → Spells (Fits signed room) (sign mark.Minus ∷ two) (unary one.Negate t)
spells_minus [] here {next = next} less p none d e g = let same : length next ≡ length here = ap length p in absurd (omega (arith, less, same))
spells_minus (s ∷ two) here less p none d e g = λ after. made_minus s two after here p none d e after (g after)

pub minus_read : {room inner : Room} {before next new : Symbols} (held all : Sized) → length new < length next → IsSign before mark.Minus next → begins_number next ≡ None → inner.depth + 1 ≡ room.depth → inner.parentheses ≡ room.parentheses
    → ReadsLevel signed inner next new (Ok held) → term_of all.expr ≡ unary one.Negate (term_of held.expr) → ReadsLevel signed room before new (Ok all)
minus_read {new = new} held all less m none d r h is = part_read (sign mark.Minus ∷ []) held all m
    (λ two p g. renamed (sign mark.Minus ∷ two) is (spells_minus two new less p none d r g))
    (λ two there p alike f. minus_found held all refl (no_number two new there p alike none) d r f is) h

-- ---- operands

-- behind a `(`
within_reads : {room inner : Room} {before next : Symbols} → IsSign before mark.Open next → 0 < room.parentheses → inner.depth ≡ room.depth → inner.parentheses ≡ room.parentheses - 1
    → Casts (Seq (Mark mark.Open) (Seq (Fits disjunction inner) (Mark mark.Close))) (Fits operand room) Anywhere (Stop (goes_on operand)) (λ p. p.1.0) before
within_reads o some d e = record {
  to = λ b x a h. let shallow = h.2.1.1 in (inside some h.1 (Reads-room e h.2.1.0) h.2.2, omega (arith, shallow, d));
  back = λ b y a alike h q.
      let at = standing b (sym alike ∙ ap first o) in
      let w = within_in (turned_round h.0) at in
      let shallow = h.1 in
      ((tt, (y, tt)), (behind b, at, (w.middle, (Reads-room (sym e) w.reads, omega (arith, shallow, d)), w.closed)), tt, refl);
}

within_closes : Leads (Stop expression_goes) (Mark mark.Close) Anywhere
within_closes b y a h q = Stop-at expression_goes h refl

pub within_missed : {room inner : Room} {before next new : Symbols} {e : Broken} → IsSign before mark.Open next → 0 < room.parentheses → inner.depth ≡ room.depth → inner.parentheses ≡ room.parentheses - 1 → ReadsLevel disjunction inner next new (Err e)
    → ReadsLevel operand room before new (Err e)
within_missed o some d p h = cast (within_reads o some d p) (then (λ b y a k q. tt) (sign_read o) (first_fails _ _ within_closes (sign_sample mark.Close) h))

pub within_open : {room inner : Room} {before next here new : Symbols} {e : Broken} (held : Sized) → IsSign before mark.Open next → 0 < room.parentheses → inner.depth ≡ room.depth → inner.parentheses ≡ room.parentheses - 1 → ReadsLevel disjunction inner next here (Ok held)
    → Reading (Mark mark.Close) Anywhere here new (Err e) → ReadsLevel operand room before new (Err e)
within_open held o some d p h close = cast (within_reads o some d p) (then (λ b y a k q. tt) (sign_read o) (then within_closes h close))

pub within_read : {room inner : Room} {before next here new : Symbols} (held : Sized) → IsSign before mark.Open next → 0 < room.parentheses → inner.depth ≡ room.depth → inner.parentheses ≡ room.parentheses - 1 → ReadsLevel disjunction inner next here (Ok held)
    → Reading (Mark mark.Close) Anywhere here new (Ok tt) → ReadsLevel operand room before new (Ok held)
within_read held o some d p h close = cast (within_reads o some d p) (then (λ b y a k q. tt) (sign_read o) (then within_closes h close))

-- a `(` is next where no more may be opened
pub within_full : {room : Room} {before next : Symbols} → IsSign before mark.Open next → 0 < room.depth → room.parentheses ≡ 0 → ReadsLevel operand room before before (Err Refused)
within_full o some none = level_refused [] refl (number_sample operand some) (λ there alike. within_refused there (standing there (sym alike ∙ ap first o)) none)

-- a name
pub named_reads : {room : Room} {before rest : Symbols} {n : List ℕ} → IsName before n rest → 0 < room.depth → Casts Named (Fits operand room) (Stop is_dot) (Stop (goes_on operand)) (λ t. t) before
named_reads {room = room} {before = before} is some = record {
  to = λ b x a h. (Reads-named h.2 h.3, subst (λ t. depth t ≤ room.depth) (sym h.3) some);
  back = λ b y a alike h q.
      let c = column_in (turned_round h.0) (record { word = is.word; stands = standing b (sym alike ∙ ap first is.stands); means = is.means }) in
      (y, (c.0, c.1, c.2, c.3), q, refl);
}

-- neither a `(` nor a name
pub literal_reads : {room : Room} {before : Symbols} → ((rest : Symbols) → IsSign before mark.Open rest → ⊥) → ((x : List ℕ) (rest : Symbols) → IsName before x rest → ⊥) → 0 < room.depth → Casts IsLiteral (Fits operand room) Anywhere (Stop (goes_on operand)) literal before
literal_reads {before = before} no_open no_name some = record {
  to = λ b x a h. (single h, some);
  back = λ b y a alike h q.
      let l = literal_in (turned_round h.0) (λ rest k. lacks alike no_open k)
      (λ x rest k. no_name x (behind before) (record { word = k.word; stands = standing before (alike ∙ ap first k.stands); means = k.means })) in
      (l.0, l.1, tt, sym l.2);
}

-- ---- whole expressions

expr_reads : {room : Room} {before : Symbols} → room.depth ≡ 200 → room.parentheses ≡ 200 → Casts (Fits disjunction room) IsExpr (Stop expression_goes) (Stop expression_goes) expr_of before
expr_reads d p = record {
  to = λ b t a h. let shallow = h.1 in record {
    reads = subst (λ s. Reads disjunction 200 b s a) (sym (term_of-expr_of t)) (Reads-room p h.0);
    shallow = subst (λ s. depth s ≤ 200) (sym (term_of-expr_of t)) (omega (arith, shallow, d));
  };
  back = λ b e a alike h q. let shallow = h.shallow in (term_of e, (Reads-room (sym p) h.reads, omega (arith, shallow, d)), q, expr_of-term_of e);
}

pub expr_missed : {room : Room} {before here : Symbols} {e : Broken} → room.depth ≡ 200 → room.parentheses ≡ 200 → ReadsLevel disjunction room before here (Err e) → Reading IsExpr (Stop expression_goes) before here (Err e)
expr_missed d p h = cast (expr_reads d p) h

pub expr_read : {room : Room} {before here : Symbols} (sized : Sized) → room.depth ≡ 200 → room.parentheses ≡ 200 → ReadsLevel disjunction room before here (Ok sized) → Reading IsExpr (Stop expression_goes) before here (Ok sized.expr)
expr_read sized d p h = valued (sym (expr_of-term_of sized.expr)) (cast (expr_reads d p) h)
