-- Expressions, read from one symbol to the next.
use Rattle.std.proofs.Common.{◌≡◌, ℕ, ◌+◌, ◌<◌, max, ap, arith, List, Option, sym, subst}
use Rattle.sr_ast.specs.Terms.{Term, depth}
use Rattle.sr_ast.specs.Terms.Term.{column, binary}
use Rattle.sr_ast.specs.declared.operator.Binary.{Binary}
use Rattle.sr_parse_grammar.specs.Symbols.{Symbols}
use Rattle.sr_parse_grammar.specs.Expressions.{Tightness, IsColumn, Reads}
use Rattle.sr_parse_grammar.specs.Inner.Expressions.{IsDeep}
use Rattle.sr_parse_grammar.specs.Expressions.Tightness.{operand}
use Rattle.sr_parse_grammar.specs.Expressions.Reads.{named}

moved : {k : Tightness} {room : ℕ} {before after : Symbols} {s t : Term} → t ≡ s → Reads k room before s after → Reads k room before t after
moved {k = k} {room = room} {before = b} {after = a} e h = subst (λ t. Reads k room b t a) (sym e) h

pub Reads-named : {room : ℕ} {before after : Symbols} {table : Option (List ℕ)} {name : List ℕ} {t : Term} → IsColumn before table name after → t ≡ column table name → Reads operand room before t after
Reads-named c e = moved e (named c)

pub Reads-room : {k : Tightness} {room r : ℕ} {before after : Symbols} {t : Term} → r ≡ room → Reads k r before t after → Reads k room before t after
Reads-room {k = k} {before = b} {after = a} {t = t} e h = subst (λ n. Reads k n b t a) e h

pub IsDeep-joined : (op : Binary) (a b t : Term) (da db d room r : ℕ) → IsDeep a da room → IsDeep b db r → r + 1 ≡ room → t ≡ binary op a b → d ≡ max da db + 1 → da < room → IsDeep t d room
IsDeep-joined op a b t da db d room r x y e is m h =
    let at : depth t ≡ max (depth a) (depth b) + 1 = ap depth is in
    record {
      is = grind (arith, x.is, y.is, at, m);
      some = omega (arith, m);
      within = grind (arith, x.within, y.within, e, m, h);
    }
