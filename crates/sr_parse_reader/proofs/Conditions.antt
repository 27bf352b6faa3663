-- A part that may be left out, and conditions.
use Rattle.std.proofs.Common.{Some, Result, refl}
use Rattle.sr_ast.specs.declared.expr.Expr.{Expr}
use Rattle.sr_ast.specs.declared.keyword.Keyword.TheVariants as key
use Rattle.sr_parse_grammar.specs.Symbols.{Symbols, IsWord}
use Rattle.sr_parse_grammar.specs.Expressions.{IsExpr}
use Rattle.sr_parse_grammar.specs.Writing.{IsCondition}
use Rattle.sr_parse_grammar.specs.Inner.Going.{Stop, is_where, expression_goes, condition_goes}
use Rattle.sr_parse_grammar.proofs.Steps.{Stop-fewer}
use Rattle.sr_parse_grammar.proofs.Following.{or_right}
use Rattle.sr_parse_reader.specs.declared.reader.Broken.{Broken}
use Rattle.sr_parse_reader.specs.Inner.Reading.{Reading, mapped}
pub use Rattle.sr_parse_reader.proofs.Optionals.{Lacks}
use Rattle.sr_parse_reader.proofs.Optionals.{led_read}

pub condition_read : {before middle here : Symbols} {r : Result Expr Broken} → IsWord before key.Where middle → Reading IsExpr (Stop expression_goes) middle here r → Reading IsCondition (Stop condition_goes) before here (mapped Some r)
condition_read w h = led_read key.Where IsExpr (Stop condition_goes) condition_goes refl (λ a s. Stop-fewer condition_goes expression_goes a (λ x e. or_right (is_where x) (expression_goes x) e) s) (λ a s. s) w h
