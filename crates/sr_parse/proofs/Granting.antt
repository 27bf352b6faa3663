-- Parts of definitions, as a reader goes through them.
use Rattle.std.proofs.Common.{inl, inr}
use Rattle.sr_base.specs.declared.value.Value.{Value}
use Rattle.sr_parse_grammar.specs.declared.symbol.Sign.TheVariants as mark
use Rattle.sr_parse_grammar.specs.Symbols.{Symbols, IsSign}
use Rattle.sr_parse_grammar.specs.Literals.{IsLiteral}
use Rattle.sr_parse_grammar.specs.Catalog.{IsSigned}

-- without a `-` it is a literal
pub signed_left : (before : Symbols) → ((rest : Symbols) → IsSign before mark.Minus rest → ⊥) → (x : Value) (rest : Symbols) → IsSigned before x rest → IsLiteral before x rest
signed_left before lacks x rest (inl l) = l
signed_left before lacks x rest (inr (next, s, n)) = absurd (lacks next s)
