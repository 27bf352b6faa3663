-- An operand of one symbol, behind which no expression of a level goes on, is the whole expression of that level.
use Rattle.std.proofs.Common.{◌≡◌, ℕ, ◌<◌, arith, Bool, true, false, [], ◌∷◌, Option, Some, None, Ok, Err, refl, sym, subst, inl}
use Rattle.std.specs.Option.{option_and_then}
use Rattle.sr_ast.specs.Terms.{Term, depth}
use Rattle.sr_ast.specs.Terms.Term.{literal, column}
use Rattle.sr_ast.specs.Exprs.{term_of}
use Rattle.sr_ast.specs.declared.operator.Binary.{Binary}
use Rattle.sr_base.specs.declared.value.Value.TheVariants.{Str}
use Rattle.sr_ast.specs.declared.keyword.Keyword.TheVariants as key
use Rattle.sr_parse_grammar.specs.declared.symbol.Sign.TheVariants as mark
use Rattle.sr_parse_grammar.specs.declared.symbol.Symbol.{Symbol}
use Rattle.sr_parse_grammar.specs.declared.symbol.Symbol.TheVariants as symbol
use Rattle.sr_parse_grammar.specs.declared.level.Level.{Level}
use Rattle.sr_parse_grammar.specs.declared.level.Level.TheVariants.{Or, And, Sum, Product}
use Rattle.sr_parse_reader.specs.declared.reader.Broken.{Broken}
use Rattle.sr_parse_reader.specs.declared.reader.Broken.TheVariants.{Memory}
use Rattle.sr_parse_reader.specs.declared.exprs.Room.{Room}
use Rattle.sr_parse_reader.specs.declared.exprs.Sized.{Sized}
use Rattle.sr_parse_grammar.specs.Symbols.{Symbols, first, IsWord, IsSign}
use Rattle.sr_parse_grammar.specs.Inner.Symbols.{behind}
use Rattle.sr_parse_grammar.specs.Literals.{number_value}
use Rattle.sr_parse_grammar.specs.Inner.Levels.{tightness}
use Rattle.sr_parse_grammar.specs.Expressions.{Tightness, Reads, joins, compares}
use Rattle.sr_parse_grammar.specs.Inner.Expressions.{IsDeep}
use Rattle.sr_parse_grammar.specs.Expressions.Tightness.{disjunction, conjunction, negation, sum, product, signed, operand}
use Rattle.sr_parse_grammar.specs.Expressions.Reads.{single, named}
use Rattle.sr_parse_grammar.specs.Inner.Going.{Stop, is_there, is_dot, factor_goes, sum_goes, relation_goes, and_goes, expression_goes, goes_on}
use Rattle.sr_parse_grammar.proofs.Following.{or_left, or_right}
use Rattle.sr_parse_grammar.proofs.Steps.{Stop-begins, Stop-fewer}
use Rattle.sr_parse_reader.specs.Inner.Alone.{is_operand, IsAlone}
use Rattle.sr_parse_reader.specs.Inner.Productions.{ReadsLevel}
use Rattle.sr_parse_reader.specs.Inner.Reading.Reading.{memory}
use Rattle.sr_parse_reader.proofs.Parts.{cast, spelled_only, unspelled}
use Rattle.sr_parse_reader.proofs.Refusing.{chain_begun, chain_whole, sum_alone, no_denial_reads, no_minus_reads}

-- what the symbol spells
record Operand (before : Symbols) : Type 0 where
  pub term : Term
  pub reads : (room : ℕ) → Reads operand room before term (behind before)
  pub flat : depth term ≡ 1

spelt : (s : Symbol) (after : Symbols) → is_operand s ≡ true → Operand (s ∷ after)
spelt (symbol.Number n) after e = record { term = literal (number_value n); reads = λ room. single (inl (record { written = symbol.Number n; stands = refl; means = refl })); flat = refl }
spelt (symbol.Text t) after e = record { term = literal (Str t); reads = λ room. single (inl (record { written = symbol.Text t; stands = refl; means = refl })); flat = refl }
spelt (symbol.Name n) after e = record { term = column None n; reads = λ room. named (record { word = symbol.Name n; stands = refl; means = refl }); flat = refl }
spelt _ after e = absurd (cc)

operand_of : (level : Tightness) (before : Symbols) → IsAlone level before → Operand before
operand_of level [] alone = absurd alone
operand_of level (s ∷ after) alone = spelt s after alone.0

stops_of : (level : Tightness) (before : Symbols) → IsAlone level before → Stop (goes_on level) (behind before)
stops_of level [] alone = absurd alone
stops_of level (s ∷ after) alone = alone.1

no_word : (level : Tightness) (before : Symbols) → IsAlone level before → (rest : Symbols) → IsWord before key.Not rest → ⊥
no_word level [] alone rest w = absurd alone
no_word level (s ∷ after) alone rest w =
    let is : s ≡ symbol.Keyword key.Not = cc in
    let held : is_operand (symbol.Keyword key.Not) ≡ true = subst (λ (x : Symbol). is_operand x ≡ true) is alone.0 in
    cc

no_minus : (level : Tightness) (before : Symbols) → IsAlone level before → (rest : Symbols) → IsSign before mark.Minus rest → ⊥
no_minus level [] alone rest w = absurd alone
no_minus level (s ∷ after) alone rest w =
    let is : s ≡ symbol.Sign mark.Minus = cc in
    let held : is_operand (symbol.Sign mark.Minus) ≡ true = subst (λ (x : Symbol). is_operand x ≡ true) is alone.0 in
    cc

-- ---- a level stops where a looser one does

sums : (here : Symbols) → Stop sum_goes here → Stop factor_goes here
sums here s = Stop-fewer sum_goes factor_goes here (λ x e. or_right _ _ e) s

relations : (here : Symbols) → Stop relation_goes here → Stop sum_goes here
relations here s = Stop-fewer relation_goes sum_goes here (λ x e. or_right _ _ e) s

ands : (here : Symbols) → Stop and_goes here → Stop relation_goes here
ands here s = Stop-fewer and_goes relation_goes here (λ x e. or_right _ _ e) s

ors : (here : Symbols) → Stop expression_goes here → Stop and_goes here
ors here s = Stop-fewer expression_goes and_goes here (λ x e. or_right _ _ e) s

factors : (here : Symbols) → Stop factor_goes here → Stop is_dot here
factors here s = Stop-fewer factor_goes is_dot here (λ x e. or_right _ _ e) s

dots : (level : Level) (here : Symbols) → Stop (goes_on (tightness level)) here → Stop is_dot here
dots Or here s = factors here (sums here (relations here (ands here (ors here s))))
dots And here s = factors here (sums here (relations here (ands here s)))
dots Sum here s = factors here (sums here s)
dots Product here s = factors here s

-- ---- no operator is next

absent : {A : Type 0} (o : Option A) → is_there o ≡ false → o ≡ None
absent None e = refl
absent (Some x) e = absurd (cc)

no_operator : (meant : Symbol → Option Binary) (wide : Symbol → Bool) (here : Symbols) → ((s : Symbol) → wide s ≡ false → meant s ≡ None) → Stop wide here → option_and_then meant (first here) ≡ None
no_operator meant wide [] none s = refl
no_operator meant wide (x ∷ here) none s = none x s

no_is : (here : Symbols) → Stop relation_goes here → (rest : Symbols) → IsWord here key.Is rest → ⊥
no_is here s rest w = Stop-begins relation_goes w refl s

-- ---- from the operand up to the level

signs : {room : Room} {before here : Symbols} (sized : Sized) → ((rest : Symbols) → IsSign before mark.Minus rest → ⊥) → ReadsLevel operand room before here (Ok sized) → ReadsLevel signed room before here (Ok sized)
signs sized free h = cast (no_minus_reads free) h

products : {room : Room} {before here : Symbols} {size : ℕ} (sized : Sized) → IsDeep (term_of sized.expr) size room.depth → Stop factor_goes here → ReadsLevel signed room before here (Ok sized) → ReadsLevel product room before here (Ok sized)
products {here = here} sized deep s h = chain_whole sized (chain_begun Product sized h) (no_operator (joins product) factor_goes here (λ x e. absent _ (or_left _ _ e)) s) deep

added : {room : Room} {before here : Symbols} {size : ℕ} (sized : Sized) → IsDeep (term_of sized.expr) size room.depth → Stop sum_goes here → ReadsLevel product room before here (Ok sized) → ReadsLevel sum room before here (Ok sized)
added {here = here} sized deep s h = chain_whole sized (chain_begun Sum sized h) (no_operator (joins sum) sum_goes here (λ x e. absent _ (or_left _ _ e)) s) deep

related : {room : Room} {before here : Symbols} (sized : Sized) → ((rest : Symbols) → IsWord before key.Not rest → ⊥) → Stop relation_goes here → ReadsLevel sum room before here (Ok sized) → ReadsLevel negation room before here (Ok sized)
related {here = here} sized free s h =
    cast (no_denial_reads free) (sum_alone sized h (no_operator compares relation_goes here (λ x e. absent _ (or_left _ _ (or_left _ _ e))) s) (no_is here s))

conjoined : {room : Room} {before here : Symbols} {size : ℕ} (sized : Sized) → IsDeep (term_of sized.expr) size room.depth → Stop and_goes here → ReadsLevel negation room before here (Ok sized) → ReadsLevel conjunction room before here (Ok sized)
conjoined {here = here} sized deep s h = chain_whole sized (chain_begun And sized h) (no_operator (joins conjunction) and_goes here (λ x e. absent _ (or_left _ _ e)) s) deep

disjoined : {room : Room} {before here : Symbols} {size : ℕ} (sized : Sized) → IsDeep (term_of sized.expr) size room.depth → Stop expression_goes here → ReadsLevel conjunction room before here (Ok sized) → ReadsLevel disjunction room before here (Ok sized)
disjoined {here = here} sized deep s h = chain_whole sized (chain_begun Or sized h) (no_operator (joins disjunction) expression_goes here (λ x e. absent _ (or_left _ _ e)) s) deep

-- up to the level at which sums are compared, and to the conjunctions
up_to_sum : {room : Room} {before here : Symbols} {size : ℕ} (sized : Sized) → IsDeep (term_of sized.expr) size room.depth → ((rest : Symbols) → IsSign before mark.Minus rest → ⊥) → Stop sum_goes here
    → ReadsLevel operand room before here (Ok sized) → ReadsLevel sum room before here (Ok sized)
up_to_sum {here = here} sized deep free s h = added sized deep s (products sized deep (sums here s) (signs sized free h))

up_to_and : {room : Room} {before here : Symbols} {size : ℕ} (sized : Sized) → IsDeep (term_of sized.expr) size room.depth → ((rest : Symbols) → IsSign before mark.Minus rest → ⊥) → ((rest : Symbols) → IsWord before key.Not rest → ⊥) → Stop and_goes here
    → ReadsLevel operand room before here (Ok sized) → ReadsLevel conjunction room before here (Ok sized)
up_to_and {here = here} sized deep free free_not s h =
    let r = ands here s in conjoined sized deep s (related sized free_not r (up_to_sum sized deep free (relations here r) h))

climbed : (level : Level) {room : Room} {before here : Symbols} {size : ℕ} (sized : Sized) → IsDeep (term_of sized.expr) size room.depth → ((rest : Symbols) → IsSign before mark.Minus rest → ⊥) → ((rest : Symbols) → IsWord before key.Not rest → ⊥)
    → Stop (goes_on (tightness level)) here → ReadsLevel operand room before here (Ok sized) → ReadsLevel (tightness level) room before here (Ok sized)
climbed Product sized deep free free_not s h = products sized deep s (signs sized free h)
climbed Sum sized deep free free_not s h = up_to_sum sized deep free s h
climbed And sized deep free free_not s h = up_to_and sized deep free free_not s h
climbed Or {here = here} sized deep free free_not s h = disjoined sized deep s (up_to_and sized deep free free_not (ors here s) h)

-- the operand was read
pub alone_read : (level : Level) {room : Room} {before here : Symbols} {size : ℕ} (sized : Sized) → IsAlone (tightness level) before → IsDeep (term_of sized.expr) size room.depth → ReadsLevel operand room before here (Ok sized) → ReadsLevel (tightness level) room before here (Ok sized)
alone_read level {room = room} {before = before} {here = here} sized alone deep h =
    let o = operand_of (tightness level) before alone in
    let some = deep.some in let is = deep.is in let within = deep.within in let flat = o.flat in
    let stops = stops_of (tightness level) before alone in
    let only = spelled_only h (o.reads room.parentheses, omega (arith, some, within, flat)) (dots level (behind before) stops) in
    climbed level sized deep (no_minus (tightness level) before alone) (no_word (tightness level) before alone) (subst (Stop (goes_on (tightness level))) (sym only.1) stops) h

-- it is missed for want of memory alone
pub alone_missed : (level : Level) {room : Room} {before here : Symbols} {e : Broken} → IsAlone (tightness level) before → 0 < room.depth → ReadsLevel operand room before here (Err e) → ReadsLevel (tightness level) room before here (Err e)
alone_missed level {room = room} {before = before} {here = here} {e = e} alone some h =
    let o = operand_of (tightness level) before alone in let flat = o.flat in
    let is : e ≡ Memory = unspelled h (o.reads room.parentheses, omega (arith, some, flat)) (dots level (behind before) (stops_of (tightness level) before alone)) in
    subst (λ (x : Broken). ReadsLevel (tightness level) room before here (Err x)) (sym is) memory
