-- Readers of `n = expr`.
use Rattle.std.proofs.Common.{◌≡◌, ℕ, List, refl}
use Rattle.sr_ast.specs.declared.expr.Expr.{Expr}
use Rattle.sr_parse_grammar.specs.declared.symbol.Sign.TheVariants as mark
use Rattle.sr_parse_grammar.specs.Symbols.{Symbols, IsName}
use Rattle.sr_parse_grammar.specs.Expressions.{IsExpr}
use Rattle.sr_parse_grammar.specs.Writing.{IsSet}
use Rattle.sr_parse_reader.specs.Inner.Productions.{Mark}
use Rattle.sr_parse_reader.proofs.Parts.{Seq}

abbrev pub SetParts : Symbols → List ℕ × (Unit {0} × Expr) → Symbols → Type 0
SetParts = Seq IsName (Seq (Mark mark.Equal) IsExpr)

abbrev pub set_of : List ℕ × (Unit {0} × Expr) → List ℕ × Expr
set_of p = (p.0, p.1.1)

pub set_to : (b : Symbols) (x : List ℕ × (Unit {0} × Expr)) (a : Symbols) → SetParts b x a → IsSet b (set_of x) a
set_to b x a h = record { named = h.0; valued = h.2.0; name = h.1; equal = h.2.1; value = h.2.2 }

pub set_back : (b : Symbols) (y : List ℕ × Expr) (a : Symbols) → IsSet b y a → (x : List ℕ × (Unit {0} × Expr)) × SetParts b x a × (set_of x ≡ y)
set_back b (n, e) a h = ((n, (tt, e)), (h.named, h.name, (h.valued, h.equal, h.value)), refl)
