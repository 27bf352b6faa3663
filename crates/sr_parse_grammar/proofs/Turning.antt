-- Expressions from left to right: the first operand, and then what follows it.
use Rattle.std.proofs.Common.{◌≡◌, ℕ, ◌-◌, ◌<◌, List, Option, None}
use Rattle.sr_ast.specs.Terms.{Term}
use Rattle.sr_ast.specs.Terms.Term.{literal, column, unary, binary}
use Rattle.sr_ast.specs.declared.operator.Unary.{Unary}
use Rattle.sr_ast.specs.declared.operator.Unary.TheVariants as one
use Rattle.sr_ast.specs.declared.operator.Binary.{Binary}
use Rattle.sr_base.specs.declared.value.Value.{Value}
use Rattle.sr_ast.specs.declared.keyword.Keyword.TheVariants as key
use Rattle.sr_parse_grammar.specs.declared.symbol.Sign.TheVariants as sign
use Rattle.sr_parse_grammar.specs.Symbols.{Symbols, IsWord, IsSign}
use Rattle.sr_parse_grammar.specs.Literals.{IsLiteral, IsNegative, begins_number}
use Rattle.sr_parse_grammar.specs.Inner.Levels.{tightness}
use Rattle.sr_parse_grammar.specs.declared.level.Level.{Level}
use Rattle.sr_parse_grammar.specs.declared.level.Level.TheVariants.{Or, And, Sum, Product}
use Rattle.sr_parse_grammar.specs.Expressions.{Tightness, Operator, IsNullTest, IsColumn, Reads, tighter, joins, compares}
use Rattle.sr_parse_grammar.specs.Expressions.Tightness.{disjunction, conjunction, negation, comparison, sum, product, signed, operand}
use Rattle.sr_parse_grammar.specs.Expressions.Reads.{loose, joined, not, compared, null_test, negative, minus, single, named, inside}

-- what is read: a whole expression of a level, or what follows a left operand
pub data Spot : Type 0 where
  whole : Level → Spot
  behind : Level → Term → Spot
  denial : Spot
  relation : Spot
  tail : Term → Spot
  signing : Spot
  atom : Spot

-- what stands between the operators of a level
abbrev pub beneath : Level → Spot
beneath Or = whole And
beneath And = denial
beneath Sum = whole Product
beneath Product = signing

pub data Turn : Spot → ℕ → Symbols → Term → Symbols → Type 0 where
  chain : {room : ℕ} {j : Level} {before middle after : Symbols} {a t : Term} → Turn (beneath j) room before a middle → Turn (behind j a) room middle t after → Turn (whole j) room before t after
  stop : {room : ℕ} {j : Level} {after : Symbols} {t : Term} → Turn (behind j t) room after t after
  step : {room : ℕ} {j : Level} {before next middle after : Symbols} {op : Binary} {a b t : Term}
      → Operator (joins (tightness j)) before op next → Turn (beneath j) room next b middle → Turn (behind j (binary op a b)) room middle t after → Turn (behind j a) room before t after
  refused : {room : ℕ} {before next after : Symbols} {a : Term} → IsWord before key.Not next → Turn denial room next a after → Turn denial room before (unary one.Not a) after
  affirmed : {room : ℕ} {before after : Symbols} {t : Term} → Turn relation room before t after → Turn denial room before t after
  measured : {room : ℕ} {before middle after : Symbols} {a t : Term} → Turn (whole Sum) room before a middle → Turn (tail a) room middle t after → Turn relation room before t after
  alone : {room : ℕ} {after : Symbols} {t : Term} → Turn (tail t) room after t after
  against : {room : ℕ} {before next after : Symbols} {op : Binary} {a b : Term} → Operator compares before op next → Turn (whole Sum) room next b after → Turn (tail a) room before (binary op a b) after
  tested : {room : ℕ} {before next after : Symbols} {op : Unary} {a : Term} → IsWord before key.Is next → IsNullTest next op after → Turn (tail a) room before (unary op a) after
  below : {room : ℕ} {before next after : Symbols} {v : Value} → IsSign before sign.Minus next → IsNegative next v after → Turn signing room before (literal v) after
  turned : {room : ℕ} {before next after : Symbols} {a : Term} → IsSign before sign.Minus next → begins_number next ≡ None → Turn signing room next a after → Turn signing room before (unary one.Negate a) after
  plain : {room : ℕ} {before after : Symbols} {t : Term} → Turn atom room before t after → Turn signing room before t after
  value : {room : ℕ} {before after : Symbols} {v : Value} → IsLiteral before v after → Turn atom room before (literal v) after
  called : {room : ℕ} {before after : Symbols} {table : Option (List ℕ)} {name : List ℕ} → IsColumn before table name after → Turn atom room before (column table name) after
  within : {room : ℕ} {before next middle after : Symbols} {t : Term} → 0 < room → IsSign before sign.Open next → Turn (whole Or) (room - 1) next t middle → IsSign middle sign.Close after → Turn atom room before t after

abbrev pub spot_of : Tightness → Spot
spot_of disjunction = whole Or
spot_of conjunction = whole And
spot_of negation = denial
spot_of comparison = relation
spot_of sum = whole Sum
spot_of product = whole Product
spot_of signed = signing
spot_of operand = atom

-- one operand more
further : {room : ℕ} {j : Level} {before middle next after : Symbols} {op : Binary} {a t b : Term}
    → Turn (behind j a) room before t middle → Operator (joins (tightness j)) middle op next → Turn (beneath j) room next b after → Turn (behind j a) room before (binary op t b) after
further stop o y = step o y stop
further (step p x more) o y = step p x (further more o y)

longer : {room : ℕ} {j : Level} {before middle next after : Symbols} {op : Binary} {t b : Term}
    → Turn (whole j) room before t middle → Operator (joins (tightness j)) middle op next → Turn (beneath j) room next b after → Turn (whole j) room before (binary op t b) after
longer (chain h more) o y = chain h (further more o y)

loosened : (k : Tightness) {room : ℕ} {before after : Symbols} {t : Term} → Turn (spot_of (tighter k)) room before t after → Turn (spot_of k) room before t after
loosened negation h = affirmed h
loosened comparison h = measured h alone
loosened signed h = plain h
loosened operand h = h
loosened _ h = chain h stop

lengthened : (k : Tightness) {room : ℕ} {before middle next after : Symbols} {op : Binary} {a b : Term}
    → Turn (spot_of k) room before a middle → Operator (joins k) middle op next → Turn (spot_of (tighter k)) room next b after → Turn (spot_of k) room before (binary op a b) after
lengthened negation h o y = absurd (let m = o.means in cc)
lengthened comparison h o y = absurd (let m = o.means in cc)
lengthened signed h o y = absurd (let m = o.means in cc)
lengthened operand h o y = absurd (let m = o.means in cc)
lengthened _ h o y = longer h o y

pub turned_round : {k : Tightness} {room : ℕ} {before after : Symbols} {t : Term} → Reads k room before t after → Turn (spot_of k) room before t after
turned_round (loose {k = k} h) = loosened k (turned_round h)
turned_round (joined {k = k} x o y) = lengthened k (turned_round x) o (turned_round y)
turned_round (not w x) = refused w (turned_round x)
turned_round (compared x o y) = measured (turned_round x) (against o (turned_round y))
turned_round (null_test x w n) = measured (turned_round x) (tested w n)
turned_round (negative s n) = below s n
turned_round (minus s n x) = turned s n (turned_round x)
turned_round (single l) = value l
turned_round (named c) = called c
turned_round (inside p o x c) = within p o (turned_round x) c
